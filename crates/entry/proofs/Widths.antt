-- `within_widths` as a record of inequalities, both ways.
use mathlib.Core.Path.{◌≡◌}
use mathlib.Core.Bool.{true}
use borrow.Author.Tests.{ltb-true, lt-ltb}
use Rattle.words.proofs.Tests.{both}
use Rattle.entry.specs.declared.Fields.{Fields}
use Rattle.entry.specs.Entry.{within_widths}
use Rattle.entry.specs.RoundTrip.{Within}

module _ (f : Fields) where
  pub within : within_widths f ≡ true → Within f
  unfolding within_widths
  within e₈ =
      let (e₇, pp) = both _ _ e₈ in
      let (e₆, wimg) = both _ _ e₇ in
      let (e₅, c) = both _ _ e₆ in
      let (e₄, r) = both _ _ e₅ in
      let (e₃, rpn) = both _ _ e₄ in
      let (e₂, api) = both _ _ e₃ in
      let (e₁, h) = both _ _ e₂ in
      let (v, vsid) = both _ _ e₁ in
      record {
        v = ltb-true _ _ v;
        vsid = ltb-true _ _ vsid;
        h = ltb-true _ _ h;
        api = ltb-true _ _ api;
        rpn = ltb-true _ _ rpn;
        r = ltb-true _ _ r;
        c = ltb-true _ _ c;
        wimg = ltb-true _ _ wimg;
        pp = ltb-true _ _ pp;
      }

  pub widths : Within f → within_widths f ≡ true
  unfolding within_widths
  widths w =
      simp (lt-ltb _ _ w.v, lt-ltb _ _ w.vsid, lt-ltb _ _ w.h, lt-ltb _ _ w.api, lt-ltb _ _ w.rpn, lt-ltb _ _ w.r, lt-ltb _ _ w.c, lt-ltb _ _ w.wimg, lt-ltb _ _ w.pp)
