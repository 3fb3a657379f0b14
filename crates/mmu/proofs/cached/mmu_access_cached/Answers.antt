-- `mmu::cached::mmu_access_cached` meets its contract: a wrong length is refused, and else the access is that of `table_access` with the cache.
use borrow.Author.Tests.{eqb-true, eqb-false}
use mathlib.Core.Path.{◌≡◌, refl, sym, ap, ◌∙◌}
use mathlib.Core.Bool.{Bool, true, false, ◌&&◌, true≢false, and-false}
use mathlib.Core.List.{List}
use Prim.Native.Nat.{ℕ}
use lib.Dec.{eqb}
use lib.ListN.{length}
use Rattle.registers.specs.Set.{is_page}
use Rattle.words.proofs.Tests.{both}
use Rattle.theory_calls.specs.Request.{AccessCall}
use Rattle.theory_calls.specs.OnBytes.{ended}
use Rattle.theory_cache.specs.Cached.{on_cached}
use Rattle.table_access.proofs.Calls.{cache_wrong_length, wrong_length}
use Rattle.mmu.proofs.cached.mmu_access_cached.Goals as goal
use Rattle.mmu.proofs.cached.mmu_access_cached.Goals.{Start, Else-not-answer-cache}

-- what is asked
abbrev call : Start → AccessCall (List ℕ)
call c =
    let a = c.args in
    record { registers = a.registers.now; mode = a.mode; kind = a.kind; address = a.address; length = a.length; answer = a.answer.now }

-- past the refusal of the answer's length or the cache's both are right
lengths : (c : Else-not-answer-cache) → (length c.args.answer.now ≡ 48) × (length c.args.cache.now ≡ 2048)
lengths c =
    let right = both _ _ c.if-not-answer-cache.false in
    (eqb-true _ 48 right.0, eqb-true _ 2048 right.1)

-- and where one is wrong the call answers 11
one_wrong : (c : AccessCall (List ℕ)) (lent : List ℕ × List ℕ)
    → (eqb (length c.answer) 48 && eqb (length lent.1) 2048) ≡ false → on_cached c lent ≡ ended 11 lent c.answer
one_wrong c lent wrong = go (eqb (length lent.1) 2048) refl (eqb (length c.answer) 48) refl wrong
  where
    go : (b : Bool) → eqb (length lent.1) 2048 ≡ b → (l : Bool) → eqb (length c.answer) 48 ≡ l → (l && b) ≡ false → on_cached c lent ≡ ended 11 lent c.answer
    go false e l f w = cache_wrong_length c lent (eqb-false _ 2048 e)
    go true e false f w =
        let page = is_page (length c.registers) in
        wrong_length c lent (eqb-true _ 2048 e) (ap (λ (t : Bool). page && t) f ∙ and-false page)
    go true e true f w = absurd (true≢false w)

pub returns-then-not-answer-cache : goal.returns-then-not-answer-cache
returns-then-not-answer-cache c =
    rw c.from.ensures
    (sym (one_wrong (call (goal.at.returns-then-not-answer-cache c).Start) (c.args.table.now, c.args.cache.now) c.if-not-answer-cache.true))

pub returns-in_default : goal.returns-in_default
returns-in_default c =
    let a = c.args in
    let at = goal.at.returns-in_default c in
    rw c.from-in_default.ensures
    (sym
    (wrong_length (call at.Start) (a.table.now, a.cache.now) (lengths at.Else-not-answer-cache).1
    (ap (λ (b : Bool). b && eqb (length a.answer.now) 48) c.in_default.ensures.1)))
