-- Our table is a table in the sense of the crate `tables`: its layout has the laws that are asked of one.
use Prim.Native.Nat.{ℕ, suc, ◌+◌, ◌*◌, ◌^◌, ◌≤◌, ◌<◌}
use mathlib.Core.Path.{◌≡◌, ap, ◌∙◌}
use mathlib.Core.List.{List, []}
use native.Mathlib.Omega.{arith}
use native.Mathlib.Nat.{pow-suc}
use lib.ListN.{length, replicate, length-replicate}
use Rattle.entry.specs.Entry.{free}
use Rattle.entry.proofs.Matches.{free_zero}
use Rattle.groups.specs.Page.{InRange, same_page}
use Rattle.groups.proofs.Hash.{group_mirror, same_page_refl, same_page_eq, within_bytes}
use Rattle.matches.proofs.Matches.{tells, page_used}
use Rattle.groups.proofs.Stored.{words_fit, stored_keeps_bytes, stored_length, stored_same, stored_other_entry, stored_elsewhere, zeroed_words, zeroed_bytes}
use Rattle.theory_tables.specs.Layout.{groups, LayoutLaws}
use Rattle.theory_tables.proofs.Steps.{represents_empty}
use Rattle.theory_calls.specs.OnBytes.{layout}
use Rattle.theory_calls.specs.Represents.{GoodTable, TableRepresents}

-- a number that fits an entry's word
abbrev pub Word : ℕ → Type 0
Word u = u < 2 ^ 32

module _ (k : ℕ) where
  -- each group lies within the table
  pub inside : (t : List ℕ) (g : ℕ) → GoodTable k t → g < groups (layout k) → 64 * g + 64 ≤ length t
  inside t g good l =
      let e : 10 + k ≡ suc (9 + k) = omega arith in
      let below : g < 2 ^ (10 + k) = rw (e, pow-suc) (omega arith) in
      rw good.long (within_bytes k g below)

  pub layout_laws : LayoutLaws (layout k) same_page InRange Word (GoodTable k)
  layout_laws = record {
    same_refl = same_page_refl;
    same_eq = same_page_eq;
    mirror = group_mirror k;
    match_used = page_used;
    tells = λ b c p q u. tells (10 + k) b c p q u (omega arith);
    read_fits = λ t g i good l e. words_fit t g i good.bytes;
    put_good = λ t g i u v good l e. record {
      long = stored_length t g i u v (inside t g good l) ∙ good.long;
      bytes = stored_keeps_bytes t g i u v good.bytes;
    };
    put_same = λ t g i u v good l. stored_same t g i u v (inside t g good l);
    put_other_entry = λ t g i j u v good l e f. stored_other_entry t g i u v (inside t g good l) j;
    put_other_group = λ t g h i j u v good l m e f. stored_elsewhere t g i u v (inside t g good l) h j;
  }

  -- a table of zeros represents the empty map
  pub represents_zeros : (n : ℕ) → n ≡ 65536 * 2 ^ k → TableRepresents k (replicate n 0) []
  represents_zeros n e =
      represents_empty layout_laws (replicate n 0)
      (record { long = length-replicate n 0 ∙ e; bytes = zeroed_bytes n })
      (λ g i l m. ap free (zeroed_words n g i).0 ∙ free_zero)
