-- Laws of the match test and of free entries: the whole first word is the packed one exactly where V is one and VSID, H and API agree.
use mathlib.Core.Bool.{true, false}
use mathlib.Core.Path.{◌≡◌, refl, sym, subst}
use Prim.Native.Nat.{ℕ, ◌^◌, ◌<◌}
use lib.Dec.{eqb, lit<}
use borrow.Author.Tests.{eqb-true, eq-eqb}
use Rattle.entry.specs.Entry.{first_word, matches, free}
use Rattle.entry.specs.RoundTrip.{MatchAgrees}
use Rattle.entry.proofs.Packing.{FirstFields, first_packed, first_is}

module _ (vsid h api first : ℕ) where
  -- the test is the comparison of the whole word
  pub match_whole : matches vsid h api first ≡ eqb first (first_word 1 vsid h api)
  unfolding matches
  match_whole = refl

  pub match_word : matches vsid h api first ≡ true → first ≡ first_word 1 vsid h api
  unfolding matches
  match_word e = eqb-true first (first_word 1 vsid h api) e

  pub match : FirstFields 1 vsid h api first → first < 2 ^ 32 → matches vsid h api first ≡ true
  unfolding matches
  match f fits = eq-eqb first (first_word 1 vsid h api) (first_is f fits)

  module _ (vsid_lt : vsid < 2 ^ 24) (h_lt : h < 2 ^ 1) (api_lt : api < 2 ^ 6) where
    -- a match says that V is one and that VSID, H and API agree
    pub matched : matches vsid h api first ≡ true → FirstFields 1 vsid h api first
    matched e = subst (FirstFields 1 vsid h api) (sym (match_word e)) (first_packed 1 vsid h api (lit< tt) vsid_lt h_lt api_lt)

    -- an entry that matches is not free
    pub match_used : matches vsid h api first ≡ true → free first ≡ false
    unfolding free
    match_used e = rw (matched e).has_v

-- the packed word matches
pub match_own : (vsid h api : ℕ) → matches vsid h api (first_word 1 vsid h api) ≡ true
unfolding matches
match_own vsid h api = eq-eqb (first_word 1 vsid h api) (first_word 1 vsid h api) refl

-- an entry of zero words is free
pub free_zero : free 0 ≡ true
unfolding free
free_zero = refl

pub match_agrees : MatchAgrees
match_agrees = record {
  fields = λ vsid h api first vsid_lt h_lt api_lt fits e.
      let f = matched vsid h api first vsid_lt h_lt api_lt e in (f.has_v, f.has_vsid, f.has_h, f.has_api);
  whole = λ vsid h api first vsid_lt h_lt api_lt fits f.
      match vsid h api first (record { has_v = f.0; has_vsid = f.1; has_h = f.2; has_api = f.3 }) fits;
}
