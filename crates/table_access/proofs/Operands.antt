-- What an operand answers and leaves by a table and a cache, case by case: a part stops it, its one part is done, or both are.
use Prim.Native.Nat.{ℕ}
use mathlib.Core.Path.{◌≡◌, refl, sym, ap, ap₂, ◌∙◌}
use mathlib.Core.Bool.{Bool, true, false, cond}
use mathlib.Core.List.{List}
use lib.ListN.{length}
use borrow.Author.Tests.{ne_eqb}
use Rattle.translation.specs.Operand.{first_bytes, over_edge, part_start, stopped, within, across_edge}
use Rattle.translation.specs.declared.Answer.{Answer}
use Rattle.translation.specs.declared.decision.Decision.{Decision}
use Rattle.translation.specs.declared.operand.OperandAnswer.{OperandAnswer}
use Rattle.translation.specs.declared.Early.{Early}
use Rattle.translation.specs.declared.Early.TheVariants.{Decided, Search}
use Rattle.translation.proofs.Parts.{first_stops, one_done, second_stops, both_done}
use Rattle.theory_calls.specs.Answers.{access_answer}
use Rattle.theory_calls.specs.OnBytes.{marked_by}
use Rattle.theory_calls.specs.Represents.{GoodTable}
use Rattle.theory_calls.proofs.Access.{unmarked, unmarked_decided}
use Rattle.theory_calls.proofs.TwoMarks.{mark_good, second_kept}
use Rattle.theory_cache.specs.Cached.{missed, loaded_by, taken}
use Rattle.register_words.specs.Sdr1.{mask_ones}
use Rattle.groups.specs.Hash.{TableOf}
use Rattle.table_access.specs.Part.{LiesIn, taken_by, part_early, own_part, part_told, part_decided, whole_told, part_taken, left_at, Comes, EndsAs}
use Rattle.table_access.specs.declared.Access.{Access}
use Rattle.table_access.specs.declared.Part.{Part}
use Rattle.table_access.proofs.Parts.{SameMatches, same_self, ByPart, by_steps_law}

-- a part of an operand that is not done is not taken
not_taken : (k kind : ℕ) (early : Early) (result : ℕ) (lent : List ℕ × List ℕ) → (result ≡ 0 → ⊥) → taken k kind early result lent ≡ lent
unfolding taken loaded_by
not_taken k kind (Decided outcome) result lent n = ap (λ (t : List ℕ). (t, lent.1)) (unmarked_decided k kind outcome result lent.0)
not_taken k kind (Search wanted) result lent n = rw (ne_eqb result 0 n) (ap (λ (t : List ℕ). (t, lent.1)) (unmarked k kind (Search wanted) result lent.0 n))

module _ (access : Access) (k : ℕ) (lent : List ℕ × List ℕ) (early : Bool → Early) where
  abbrev parts : Bool → Answer
  parts = part_told access k lent early

  abbrev shown : Bool → Decision
  shown = part_decided access k lent early

  abbrev take : ℕ → Bool → List ℕ × List ℕ → List ℕ × List ℕ
  take = part_taken access k lent early

  abbrev over : Bool
  over = over_edge access.address access.length

  comes : (answer : OperandAnswer) (left : List ℕ × List ℕ) → whole_told access k lent early ≡ answer
      → left ≡ left_at access k lent early answer.part.result → Comes access k lent early answer left
  comes answer left e l = rw e (refl, l)

  none_taken : (result : ℕ) → (result ≡ 0 → ⊥) → lent ≡ left_at access k lent early result
  none_taken result n =
      rw (not_taken k access.kind (early false) result lent n)
      (inner (missed k access.kind lent.0 lent.1 (early false)) over)
    where
      second : (b : Bool) → lent ≡ cond b (taken k access.kind (early true) result lent) lent
      second true = sym (not_taken k access.kind (early true) result lent n)
      second false = refl

      inner : (b o : Bool) → lent ≡ cond o (take result true (cond b lent lent)) (cond b lent lent)
      inner true true = second (missed k access.kind lent.0 lent.1 (early true))
      inner false true = second (missed k access.kind lent.0 lent.1 (early true))
      inner true false = refl
      inner false false = refl

  first_stopped : ((parts false).result ≡ 0 → ⊥) → Comes access k lent early (stopped (parts false) (shown false)) lent
  first_stopped n =
      comes (stopped (parts false) (shown false)) lent (first_stops access.address access.length parts shown n) (none_taken (parts false).result n)

  module _ (first : (parts false).result ≡ 0) where
    one_page : over ≡ false → Comes access k lent early (within (parts false) (shown false) access.length) (take 0 false lent)
    one_page one =
        comes (within (parts false) (shown false) access.length) (take 0 false lent)
        (one_done access.address access.length parts shown first one) (rw (first, one))

    module _ (two : over ≡ true) where
      second_stopped : ((parts true).result ≡ 0 → ⊥) → Comes access k lent early (stopped (parts true) (shown true)) lent
      second_stopped n =
          comes (stopped (parts true) (shown true)) lent
          (second_stops access.address access.length parts shown first two n) (none_taken (parts true).result n)

      abbrev both : OperandAnswer
      both = across_edge (parts false) (shown false) (parts true) (first_bytes access.address access.length) access.length

      two_pages : (parts true).result ≡ 0 → Comes access k lent early both (take 0 true (take 0 false lent))
      two_pages second =
          comes both (take 0 true (take 0 false lent)) (both_done access.address access.length parts shown first two second) (rw (first, two))

  -- what is written of an operand is what it ends with
  pub tells : (told : OperandAnswer) (left : List ℕ × List ℕ) → Comes access k lent early told left
      → (r : ℕ) (answer : List ℕ) → (r ≡ told.part.result) × (answer ≡ access_answer told) → EndsAs access k lent early r left answer
  tells told left (e, l) r answer (result, written) = (result ∙ ap (λ (x : OperandAnswer). x.part.result) e, l, written ∙ ap access_answer e)

-- ---- by the words of the register set, and the parts as the code holds them

module _ (words : List ℕ) (access : Access) (sdr1 : ℕ) (lent : List ℕ × List ℕ) (of : TableOf sdr1 (length lent.0)) where
  abbrev k : ℕ
  k = mask_ones sdr1

  abbrev early : Bool → Early
  early = part_early words access

  abbrev own : Bool → Part
  own = own_part access k lent early

  abbrev start : Bool → ℕ
  start = part_start access.address access.length

  by : (second : Bool) → ByPart k lent.0 lent.1 access.kind (start second) (early second) (own second)
  by second = by_steps_law sdr1 access.kind (start second) lent.0 lent.1 of words access.mode

  -- its entry lies in the table
  pub own_lies : (second : Bool) → LiesIn (own second).found (length lent.0)
  own_lies second = (by second).lies

  told_done : (second : Bool) → (own second).answer.result ≡ 0 → (part_told access k lent early second).result ≡ 0
  told_done second z = sym (ap (λ (x : Answer). x.result) (by second).answers) ∙ z

  told_not : (second : Bool) → ((own second).answer.result ≡ 0 → ⊥) → (part_told access k lent early second).result ≡ 0 → ⊥
  told_not second n z = n (ap (λ (x : Answer). x.result) (by second).answers ∙ z)

  -- a part that is not done stops the operand; the second is asked for where the operand goes over the edge and the first part is done
  pub stops_first : ((own false).answer.result ≡ 0 → ⊥) → Comes access k lent early (stopped (own false).answer (own false).decision) lent
  stops_first n =
      let (told, left) = first_stopped access k lent early (told_not false n) in
      (ap₂ (λ (x : Answer) (d : Decision). stopped x d) (by false).answers (by false).decides ∙ told, left)

  pub stops_second : (own false).answer.result ≡ 0 → over_edge access.address access.length ≡ true → ((own true).answer.result ≡ 0 → ⊥)
      → Comes access k lent early (stopped (own true).answer (own true).decision) lent
  stops_second done over n =
      let (told, left) = second_stopped access k lent early (told_done false done) over (told_not true n) in
      (ap₂ (λ (x : Answer) (d : Decision). stopped x d) (by true).answers (by true).decides ∙ told, left)

  module _ (good : GoodTable k lent.0) (done : (own false).answer.result ≡ 0) where
    first_taken : taken_by access.kind (start false) (own false).found lent ≡ part_taken access k lent early 0 false lent
    first_taken = (by false).takes lent.0 lent.1 good done (same_self k (early false) lent.0)

    pub one_part : over_edge access.address access.length ≡ false
        → Comes access k lent early (within (own false).answer (own false).decision access.length) (taken_by access.kind (start false) (own false).found lent)
    one_part one =
        let (told, left) = one_page access k lent early (told_done false done) one in (
          ap₂ (λ (x : Answer) (d : Decision). within x d access.length) (by false).answers (by false).decides ∙ told,
          first_taken ∙ left,
        )

    abbrev once : List ℕ × List ℕ
    once = part_taken access k lent early 0 false lent

    -- the first part taken leaves a good table
    once_good : GoodTable k once.0
    unfolding taken
    once_good = go (missed k access.kind lent.0 lent.1 (early false))
      where
        marked : (e : Early) → GoodTable k (marked_by k access.kind e 0 lent.0)
        marked (Decided outcome) = rw (unmarked_decided k access.kind outcome 0 lent.0) good
        marked (Search wanted) = mark_good k access.kind wanted lent.0 good 0

        go : (b : Bool) → GoodTable k (cond b (taken k access.kind (early false) 0 lent) lent).0
        go true = marked (early false)
        go false = good

    module _ (over : over_edge access.address access.length ≡ true) where
      -- and the matches that the second part's entry was taken from
      once_same : SameMatches k (early true) lent.0 once.0
      unfolding taken SameMatches
      once_same = go (missed k access.kind lent.0 lent.1 (early false))
        where
          kept : (e : Early) → early true ≡ e → SameMatches k e lent.0 (marked_by k access.kind (early false) 0 lent.0)
          kept (Decided outcome) is = tt
          kept (Search wanted) is = second_kept 8 15 words access.mode access.kind access.address access.length over k 0 lent.0 good wanted is

          go : (b : Bool) → SameMatches k (early true) lent.0 (cond b (taken k access.kind (early false) 0 lent) lent).0
          go true = kept (early true) refl
          go false = same_self k (early true) lent.0

      pub two_parts : (own true).answer.result ≡ 0
          → Comes access k lent early (across_edge (own false).answer (own false).decision (own true).answer (first_bytes access.address access.length) access.length)
          (taken_by access.kind (start true) (own true).found (taken_by access.kind (start false) (own false).found lent))
      two_parts then =
          let (told, left) = two_pages access k lent early (told_done false done) over (told_done true then) in
          let bytes = first_bytes access.address access.length in (
            ap₂ (λ (x y : Answer). across_edge x (own false).decision y bytes access.length) (by false).answers (by true).answers
                ∙ ap (λ (d : Decision). across_edge (part_told access k lent early false) d (part_told access k lent early true) bytes access.length) (by false).decides
                ∙ told,
            ap (taken_by access.kind (start true) (own true).found) first_taken ∙ (by true).takes once.0 once.1 once_good then once_same ∙ left,
          )
