-- `entry::within_widths` meets its contract: numbers put together by or are below 2 exactly where each is.
use mathlib.Core.Path.{◌≡◌}
use mathlib.Core.Bool.{true, ◌&&◌}
use Prim.Native.Nat.{ℕ, ◌^◌, ◌<◌}
use native.Mathlib.Omega.{arith}
use lib.Bits.{bit_or, or_add_and, and_le_l, and_le_r, or_lt}
use lib.Dec.{ltb}
use borrow.Author.Tests.{ltb-true, lt-ltb}
use Rattle.words.proofs.Tests.{both, same_test}
use Rattle.entry.specs.declared.Fields.{Fields}
use Rattle.entry.specs.Entry.{within_widths}
use Rattle.entry.specs.RoundTrip.{Within}
use Rattle.entry.proofs.Widths.{within, widths}
use Rattle.entry.proofs.within_widths.Goals as goal

-- each of two numbers is at most what they are together
each_lt : (a b n : ℕ) → bit_or a b < n → (a < n) × (b < n)
each_lt a b n l = (omega (arith, l, or_add_and a b, and_le_r a b), omega (arith, l, or_add_and a b, and_le_l a b))

module _ (f : Fields) where
  abbrev bits : ℕ
  bits = bit_or (bit_or (bit_or f.v f.h) f.r) f.c

  bits_lt : Within f → bits < 2 ^ 1
  bits_lt w = or_lt 1 _ f.c (or_lt 1 _ f.r (or_lt 1 f.v f.h w.v w.h) w.r) w.c

  tests_within : ltb bits 2 && ltb f.vsid (2 ^ 24) && ltb f.api (2 ^ 6) && ltb f.rpn (2 ^ 20) && ltb f.wimg (2 ^ 4) && ltb f.pp (2 ^ 2) ≡ true → Within f
  tests_within e₅ =
      let (e₄, pp) = both _ _ e₅ in
      let (e₃, wimg) = both _ _ e₄ in
      let (e₂, rpn) = both _ _ e₃ in
      let (e₁, api) = both _ _ e₂ in
      let (one, vsid) = both _ _ e₁ in
      let (vhr, c) = each_lt (bit_or (bit_or f.v f.h) f.r) f.c 2 (ltb-true _ _ one) in
      let (vh, r) = each_lt (bit_or f.v f.h) f.r 2 vhr in
      let (v, h) = each_lt f.v f.h 2 vh in
      record {
        v = v;
        vsid = ltb-true _ _ vsid;
        h = h;
        api = ltb-true _ _ api;
        rpn = ltb-true _ _ rpn;
        r = r;
        c = c;
        wimg = ltb-true _ _ wimg;
        pp = ltb-true _ _ pp;
      }

  within_tests : Within f → ltb bits 2 && ltb f.vsid (2 ^ 24) && ltb f.api (2 ^ 6) && ltb f.rpn (2 ^ 20) && ltb f.wimg (2 ^ 4) && ltb f.pp (2 ^ 2) ≡ true
  within_tests w =
      simp (lt-ltb bits 2 (bits_lt w), lt-ltb _ _ w.vsid, lt-ltb _ _ w.api, lt-ltb _ _ w.rpn, lt-ltb _ _ w.wimg, lt-ltb _ _ w.pp)

pub returns : goal.returns
returns c =
    let f = c.args.f in
    same_test _ (within_widths f) (λ e. widths f (tests_within f e)) (λ e. within_tests f (within f e))
