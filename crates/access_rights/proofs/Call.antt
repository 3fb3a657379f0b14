-- The call by the lengths of what it is lent: one that is wrong is refused and leaves the answer; else the answer is what the code holds, written out.
use Prim.Native.Nat.{ℕ}
use mathlib.Core.Path.{◌≡◌, refl, ap, ◌∙◌}
use mathlib.Core.Bool.{Bool, true, false, ◌&&◌, true≢false}
use mathlib.Core.List.{List, [], ◌∷◌, ◌++◌}
use Rattle.std.specs.Prelude.{Result}
use Rattle.numbers.specs.declared.Refusal.{Refusal}
use lib.Dec.{eqb}
use lib.ListN.{length}
use Rattle.words.specs.Words.{bytes_of}
use Rattle.register_words.specs.Block.{bl_width}
use Rattle.registers.specs.Set.{is_page, is_long, block_pairs, register_words}
use Rattle.theory_calls.specs.Request.{access, fed}
use Rattle.theory_calls.specs.Rules.{rules, refusal}
use Rattle.theory_calls.specs.Answers.{access_answer}
use Rattle.theory_calls.proofs.Access.{then_not_11}
use Rattle.access_rights.specs.Rights.{RightsCall, asking, rights_told, rights_refusal, rights_call}
use Rattle.access_rights.specs.Held.{rights_of, TellsAll}
use Rattle.access_rights.specs.declared.Rights.{Rights}
use Rattle.access_rights.proofs.Shared.{own_rules_law}

module _ (c : RightsCall) (answer t : List ℕ) where
  pub wrong_length : (is_page (length c.registers) && eqb (length answer) 156) ≡ false → rights_call c answer t ≡ (11, answer)
  unfolding rights_call rights_refusal rules fed
  wrong_length wrong = go (eqb (length answer) 156) refl (is_page (length c.registers)) refl wrong
    where
      go : (l : Bool) → eqb (length answer) 156 ≡ l → (p : Bool) → is_page (length c.registers) ≡ p → (p && l) ≡ false → rights_call c answer t ≡ (11, answer)
      go false e p f w = rw e
      go true e false f w = rw (e, f)
      go true e true f w = absurd (true≢false w)

  module _ (page : is_page (length c.registers) ≡ true) (long : length answer ≡ 156) where
    pub right_refusal : rights_refusal c (length answer) (length t) ≡ refusal (fed (access (asking c 0))) (length t)
    unfolding rights_refusal refusal
    right_refusal = rw long

    pub right_lengths : rights_call c answer t ≡ (refusal (fed (access (asking c 0))) (length t), rights_told c t)
    unfolding rights_call
    right_lengths =
        let other : eqb (refusal (fed (access (asking c 0))) (length t)) 11 ≡ false =
        ap (λ (n : ℕ). eqb n 11) (own_rules_law c page 0 (length t))
        ∙ then_not_11 (block_pairs (is_long (length c.registers))) (bl_width (is_long (length c.registers))) (register_words c.registers) c.mode 0 1 (length t) in
        rw (right_refusal, other)

-- the bytes that the code writes
pub told_is : (c : RightsCall) (t : List ℕ) (r : Result Rights Refusal) → TellsAll c t r →
    let all = rights_of r in
    access_answer all.fetch.told ++ (access_answer all.load.told ++ (access_answer all.store.told ++ bytes_of (all.fetch.marks ∷ all.load.marks ∷ all.store.marks ∷ [])))
    ≡ rights_told c t
unfolding rights_told
told_is c t r all =
    let f = all.fetched in
    let l = all.loaded in
    let s = all.stored in
    rw (f.answer, l.answer, s.answer, f.marks, l.marks, s.marks)
