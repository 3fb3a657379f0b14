-- Packing and unpacking agree: a packed word's fields are those it was made of, and a word is the sum of its fields and its ignored bits.
use mathlib.Core.Bool.{true, false}
use mathlib.Core.List.{[], ◌∷◌}
use mathlib.Core.Path.{◌≡◌, refl, sym, ap₂, ◌∙◌}
use Prim.Native.Nat.{ℕ, ◌^◌, ◌<◌}
use native.Mathlib.Omega.{arith}
use Rattle.words.proofs.Tests.{cond_by}
use Rattle.entry.specs.declared.Fields.{Fields}
use Rattle.entry.specs.Entry.{first_word, second_word, ignored_bits, within_widths, packed, unpacked}
use Rattle.entry.specs.RoundTrip.{PackingAgrees}
use Rattle.entry.proofs.Widths.{within, widths}
use Rattle.entry.proofs.Packing.{first_own, first_packed, first_is, second_own, second_packed, second_ignored, second_is}

-- what is packed, by the test of the widths
pub packed_done : (f : Fields) → within_widths f ≡ true
    → packed f ≡ (0, (first_word f.v f.vsid f.h f.api, second_word f.rpn f.r f.c f.wimg f.pp))
unfolding packed
packed_done f e = rw e

pub packed_refused : (f : Fields) → within_widths f ≡ false → packed f ≡ (6, (0, 0))
unfolding packed
packed_refused f e = rw e

unpack_packed : (f : Fields) → within_widths f ≡ true → unpacked (packed f).1.0 (packed f).1.1 ≡ f
unfolding unpacked
unpack_packed f e =
    let w = within f e in
    let x = first_packed f.v f.vsid f.h f.api w.v w.vsid w.h w.api in
    let y = second_packed f.rpn f.r f.c f.wimg f.pp w.rpn w.r w.c w.wimg w.pp in
    rw (packed_done f e)
    (λ i. record {
      v = x.has_v i;
      vsid = x.has_vsid i;
      h = x.has_h i;
      api = x.has_api i;
      rpn = y.has_rpn i;
      r = y.has_r i;
      c = y.has_c i;
      wimg = y.has_wimg i;
      pp = y.has_pp i;
    })

ignored_zero : (f : Fields) → ignored_bits (packed f).1.1 ≡ 0 ∷ 0 ∷ []
unfolding packed ignored_bits
ignored_zero f =
    cond_by (λ (p : ℕ × (ℕ × ℕ)). ignored_bits p.1.1 ≡ 0 ∷ 0 ∷ []) (within_widths f)
    (0, (first_word f.v f.vsid f.h f.api, second_word f.rpn f.r f.c f.wimg f.pp)) (6, (0, 0))
    (λ e. let w = within f e in second_ignored f.rpn f.r f.c f.wimg f.pp w.rpn w.r w.c w.wimg w.pp) (λ e. refl)

unpacked_within : (first second : ℕ) → within_widths (unpacked first second) ≡ true
unfolding unpacked
unpacked_within first second = widths (unpacked first second) (omega arith)

pack_unpacked : (first second : ℕ) → first < 2 ^ 32 → second < 2 ^ 32 → ignored_bits second ≡ 0 ∷ 0 ∷ []
    → packed (unpacked first second) ≡ (0, (first, second))
unfolding unpacked
pack_unpacked first second h l e =
    packed_done (unpacked first second) (unpacked_within first second)
    ∙ ap₂ (λ u v. (0, (u, v))) (sym (first_is (first_own first) h)) (sym (second_is (second_own second) l e))

pub packing_agrees : PackingAgrees
packing_agrees = record {
  packs = λ f e. rw (packed_done f e);
  unpack_packed = unpack_packed;
  ignored_zero = ignored_zero;
  refuses = packed_refused;
  unpacked_within = unpacked_within;
  pack_unpacked = pack_unpacked;
}
