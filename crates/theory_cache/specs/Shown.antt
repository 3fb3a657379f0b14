-- What is told of an access with a cache: which part of its operand answers, and whether that part is a hit.
use Rattle.std.specs.Prelude.{ℕ, Bool, true, false, not, ◌&&◌, List, eqb, length}
use Rattle.numbers.specs.Numbers.{done}
use Rattle.register_words.specs.Sdr1.{mask_ones}
use Rattle.translation.specs.Operand.{over_edge}
use Rattle.translation.specs.declared.Early.{Early}
use Rattle.translation.specs.declared.Early.TheVariants.{Decided, Search}
use Rattle.theory_calls.specs.Request.{AccessCall, access, sdr1_in}
use Rattle.theory_calls.specs.OnBytes.{by_option, early_of, part_answer}
use Rattle.theory_cache.specs.Cached.{cached_search, hit_of, cached_refusal}

module _ (c : AccessCall (List ℕ)) (table cache : List ℕ) where
  abbrev pub mask : ℕ
  mask = mask_ones (sdr1_in (access c))

  -- a part is done, and a part is a hit
  abbrev pub part_done : Bool → Bool
  part_done second = eqb (part_answer c (cached_search mask c.kind table cache) second).result done

  abbrev pub is_hit : Early → Bool
  is_hit (Decided outcome) = false
  is_hit (Search wanted) = by_option (hit_of mask c.kind table cache wanted) false (λ words. true)

  -- the part that answers for the operand: the second (true) where it is not done and the first is, else the first
  abbrev pub answering : Bool
  answering = over_edge c.address c.length && part_done false && not (part_done true)

  -- the access is not refused by its arguments, and that part is a hit
  unfoldable pub answered_by_hit : Bool
  answered_by_hit = eqb (cached_refusal c (length table) (length cache)) 0 && is_hit (early_of c answering)
