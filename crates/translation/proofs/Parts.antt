-- The cases of an operand: how its answer follows from the answers of its parts, the bytes in each page, and where the second part starts.
--   one_part, two_parts: an operand lies in one page or goes over its end, by the address and length
--   first_bytes_are: how many bytes the first of two parts has
--   start_first, start_second: where each part starts
--   operand_stated: how an operand lies in pages, all in one record
--   next_low, next_page: the page index of the second part differs from the first's, already in its low six bits
--   first_stops, second_stops: a part that is not done answers for the operand
--   one_done, both_done: the answer where the only part is done, and where both are
--   one_answers: within one page the answer is that part's, done or not
--   not_done_stops, parts_done: an operand that is not done is stopped by a part, and one that is done has all its parts done
--   operand_same, operand_related: operands whose parts answer alike answer alike, also up to a relation of what decided them
--   result_of: what holds of the results of both parts holds of the operand's
--   SameButPlace, decisions_agree: what decided an outcome is the same for two searches but for the place of the entry
use Rattle.std.proofs.Common.{◌≡◌, ℕ, ◌+◌, ◌-◌, ◌/◌, ◌%◌, ◌^◌, ◌<◌, ◌≤◌, Bool, true, false, cond, eqb, ltb, sym, refl, ap, ◌∙◌, arith, lit<, ltb-false, ltb-true, le-ltb, lt-ltb, eq-eqb, ne_eqb, eqb-true}
use borrow.Author.Tests.{eqb-false}
use Rattle.entry.specs.Entry.{page_index}
use Rattle.translation.specs.Decision.{key_and_pp, decision_of}
use Rattle.translation.specs.Operand.{first_bytes, over_edge, part_start, stopped, within, across_edge, operand_answer}
use Rattle.translation.specs.Stated.{OperandStated}
use Rattle.translation.specs.declared.Answer.{Answer}
use Rattle.translation.specs.declared.decision.Decision.{Decision}
use Rattle.translation.specs.declared.decision.Used.{Used}
use Rattle.translation.specs.declared.Outcome.{Outcome}
use Rattle.translation.specs.declared.Outcome.TheVariants.{Real, Block, BlockProtection, NoExecute, NoMatch, Guarded, Protection, Done, Refused}
use Rattle.translation.specs.declared.operand.OperandAnswer.{OperandAnswer}

-- ---- the parts

module _ (address length : ℕ) where
  -- the operand ends before the page does, or with it
  pub one_part : address % 4096 + length ≤ 4096 → over_edge address length ≡ false
  unfolding over_edge first_bytes
  one_part h = go (ltb length (4096 - address % 4096)) refl
    where
      go : (t : Bool) → ltb length (4096 - address % 4096) ≡ t → ltb (cond t length (4096 - address % 4096)) length ≡ false
      go true e = le-ltb length length (omega arith)
      go false e = le-ltb (4096 - address % 4096) length (omega arith)

  -- it goes over the page's end
  module _ (h : 4096 < address % 4096 + length) where
    room : ltb length (4096 - address % 4096) ≡ false
    room = le-ltb length (4096 - address % 4096) (omega arith)

    pub two_parts : over_edge address length ≡ true
    unfolding over_edge first_bytes
    two_parts = rw room (lt-ltb (4096 - address % 4096) length (omega arith))

    pub first_bytes_are : first_bytes address length ≡ 4096 - address % 4096
    unfolding first_bytes
    first_bytes_are = rw room

  -- over the edge the first part has bytes up to the page's end
  pub over_edge_law : over_edge address length ≡ true → (4096 < address % 4096 + length) × (first_bytes address length < length)
  unfolding over_edge first_bytes
  over_edge_law e = (go (ltb length (4096 - address % 4096)) refl e, ltb-true _ length e)
    where
      go : (t : Bool) → ltb length (4096 - address % 4096) ≡ t → ltb (cond t length (4096 - address % 4096)) length ≡ true → 4096 < address % 4096 + length
      go true q z = let l = ltb-true length length z in omega arith
      go false q z = let l = ltb-true (4096 - address % 4096) length z in omega arith

  pub not_over : over_edge address length ≡ false → address % 4096 + length ≤ 4096
  unfolding over_edge first_bytes
  not_over e = go (ltb length (4096 - address % 4096)) refl e
    where
      go : (t : Bool) → ltb length (4096 - address % 4096) ≡ t → ltb (cond t length (4096 - address % 4096)) length ≡ false → address % 4096 + length ≤ 4096
      go true q z = let l = ltb-true length (4096 - address % 4096) q in omega arith
      go false q z = let l = ltb-false (4096 - address % 4096) length z in omega arith

  pub start_first : part_start address length false ≡ address
  unfolding part_start
  start_first = refl

  pub start_second : part_start address length true ≡ (address + first_bytes address length) % 2 ^ 32
  unfolding part_start
  start_second = refl

-- how an operand lies in pages
pub operand_stated : (address length : ℕ) → OperandStated address length
unfolding part_start first_bytes
operand_stated address length = record {
  one_page = λ fits. (one_part address length fits, within fits);
  two_pages = λ more. let bytes = first_bytes_are address length more in (two_parts address length more, omega arith, (over_edge_law address length (two_parts address length more)).1);
  first_start = refl;
  next_page = λ more less. start_second address length ∙ (omega arith);
  wraps = λ more last. start_second address length ∙ (omega arith);
}
  where
    within : address % 4096 + length ≤ 4096 → first_bytes address length ≡ length
    within fits = go (ltb length (4096 - address % 4096)) refl
      where
        go : (t : Bool) → ltb length (4096 - address % 4096) ≡ t → cond t length (4096 - address % 4096) ≡ length
        go true e = refl
        go false e = let l = ltb-false length (4096 - address % 4096) e in omega arith

-- the second part's page index has other low six bits than the first's, also after the last one
pub next_low : (address length : ℕ) → over_edge address length ≡ true
    → page_index (part_start address length false) % 64 ≡ page_index (part_start address length true) % 64 → ⊥
unfolding page_index part_start
next_low address length over same =
    apart (first_bytes address length) (first_bytes_are address length (over_edge_law address length over).0) same
  where
    apart : (n : ℕ) → n ≡ 4096 - address % 4096 → address / 2 ^ 12 % 2 ^ 16 % 64 ≡ (address + n) % 2 ^ 32 / 2 ^ 12 % 2 ^ 16 % 64 → ⊥
    apart n e q = omega arith

-- so it is another
pub next_page : (address length : ℕ) → over_edge address length ≡ true → page_index (part_start address length false) ≡ page_index (part_start address length true) → ⊥
next_page address length over same = next_low address length over (ap (λ (n : ℕ). n % 64) same)

-- ---- the answer

module _ (address length : ℕ) (answer : Bool → Answer) (decision : Bool → Decision) where
  abbrev whole : OperandAnswer
  whole = operand_answer address length answer decision

  pub first_stops : ((answer false).result ≡ 0 → ⊥) → whole ≡ stopped (answer false) (decision false)
  unfolding operand_answer
  first_stops n = rw (ne_eqb (answer false).result 0 n)

  module _ (done : (answer false).result ≡ 0) where
    pub one_done : over_edge address length ≡ false → whole ≡ within (answer false) (decision false) length
    unfolding operand_answer
    one_done e = rw (eq-eqb (answer false).result 0 done, e)

    module _ (over : over_edge address length ≡ true) where
      pub second_stops : ((answer true).result ≡ 0 → ⊥) → whole ≡ stopped (answer true) (decision true)
      unfolding operand_answer
      second_stops n = rw (eq-eqb (answer false).result 0 done, over, ne_eqb (answer true).result 0 n)

      pub both_done : (answer true).result ≡ 0 → whole ≡ across_edge (answer false) (decision false) (answer true) (first_bytes address length) length
      unfolding operand_answer
      both_done e = rw (eq-eqb (answer false).result 0 done, over, eq-eqb (answer true).result 0 e)

  -- within one page the words are that part's, done or not
  pub one_answers : over_edge address length ≡ false → whole.part ≡ answer false
  unfolding operand_answer
  one_answers one = rw one (go (eqb (answer false).result 0))
    where
      go : (d : Bool) → (cond d (within (answer false) (decision false) length) (stopped (answer false) (decision false))).part ≡ answer false
      go true = refl
      go false = refl

  -- the part that answers, and what decided it, are those of one part
  pub answers_by : (P : Answer → Decision → Type 0) → P (answer false) (decision false) → P (answer true) (decision true) → P whole.part whole.decision
  unfolding operand_answer
  answers_by P first second = go (eqb (answer false).result 0) (over_edge address length) (eqb (answer true).result 0)
    where
      by : Bool → Bool → Bool → OperandAnswer
      by f o s =
          cond f (cond o (cond s (across_edge (answer false) (decision false) (answer true) (first_bytes address length) length)
          (stopped (answer true) (decision true))) (within (answer false) (decision false) length)) (stopped (answer false) (decision false))

      go : (f o s : Bool) → P (by f o s).part (by f o s).decision
      go true true true = first
      go true true false = second
      go true false s = first
      go false o s = first

  -- where it is not done a part stops it
  pub not_done_stops : (whole.part.result ≡ 0 → ⊥) → (second : Bool) × (whole ≡ stopped (answer second) (decision second))
  not_done_stops n = go (eqb (answer false).result 0) refl (over_edge address length) refl (eqb (answer true).result 0) refl
    where
      number : {x : OperandAnswer} → whole ≡ x → x.part.result ≡ 0 → ⊥
      number q z = n (ap (λ (x : OperandAnswer). x.part.result) q ∙ z)

      go : (f : Bool) → eqb (answer false).result 0 ≡ f → (o : Bool) → over_edge address length ≡ o → (s : Bool) → eqb (answer true).result 0 ≡ s
          → (second : Bool) × (whole ≡ stopped (answer second) (decision second))
      go false e o over s d = (false, first_stops (eqb-false _ 0 e))
      go true e false over s d = absurd (number (one_done (eqb-true _ 0 e) over) (eqb-true _ 0 e))
      go true e true over false d = (true, second_stops (eqb-true _ 0 e) over (eqb-false _ 0 d))
      go true e true over true d = absurd (number (both_done (eqb-true _ 0 e) over (eqb-true _ 0 d)) (eqb-true _ 0 e))

  -- where it is done so is every part
  pub parts_done : whole.part.result ≡ 0 → ((answer false).result ≡ 0) × (over_edge address length ≡ true → (answer true).result ≡ 0)
  parts_done z = go (eqb (answer false).result 0) refl (eqb (answer true).result 0) refl
    where
      number : {a b : OperandAnswer} → a ≡ b → a.part.result ≡ b.part.result
      number q = ap (λ (x : OperandAnswer). x.part.result) q

      go : (f : Bool) → eqb (answer false).result 0 ≡ f → (s : Bool) → eqb (answer true).result 0 ≡ s
          → ((answer false).result ≡ 0) × (over_edge address length ≡ true → (answer true).result ≡ 0)
      go true e true d = (eqb-true _ 0 e, λ over. eqb-true _ 0 d)
      go true e false d = (
        eqb-true _ 0 e,
        λ over. absurd (eqb-false _ 0 d (sym (number (second_stops (eqb-true _ 0 e) over (eqb-false _ 0 d))) ∙ z)),
      )
      go false e s d = absurd (eqb-false _ 0 e (sym (number (first_stops (eqb-false _ 0 e))) ∙ z))

-- it depends on what the parts answer alone
pub operand_same : (address length : ℕ) (a b : Bool → Answer) (decision : Bool → Decision) → a false ≡ b false → a true ≡ b true
    → operand_answer address length a decision ≡ operand_answer address length b decision
unfolding operand_answer
operand_same address length a b decision f s = rw (f, s)

-- its result is that of a part
pub result_of : (P : ℕ → Type 0) (address length : ℕ) (answer : Bool → Answer) (decision : Bool → Decision) → P (answer false).result → P (answer true).result
    → P (operand_answer address length answer decision).part.result
result_of P address length answer decision first second = answers_by address length answer decision (λ a d. P a.result) first second

-- two operands whose parts answer alike: what relates what decided each part relates the two
pub operand_related : (P : OperandAnswer → OperandAnswer → Type 0) (address length : ℕ) (answer : Bool → Answer) (d e : Bool → Decision)
    → ((second : Bool) (part : Answer) (physical attributes bytes rest : ℕ)
    → P (record { part = part; decision = d second; address = physical; attributes = attributes; bytes = bytes; rest = rest })
    (record { part = part; decision = e second; address = physical; attributes = attributes; bytes = bytes; rest = rest }))
    → P (operand_answer address length answer d) (operand_answer address length answer e)
unfolding operand_answer
operand_related P address length answer d e same = go (eqb (answer false).result 0) (over_edge address length) (eqb (answer true).result 0)
  where
    by : (Bool → Decision) → Bool → Bool → Bool → OperandAnswer
    by x f o s =
        cond f (cond o (cond s (across_edge (answer false) (x false) (answer true) (first_bytes address length) length) (stopped (answer true) (x true)))
        (within (answer false) (x false) length)) (stopped (answer false) (x false))

    go : (f o s : Bool) → P (by d f o s) (by e f o s)
    go true true true = same false (answer false) (answer true).address (answer true).attributes (first_bytes address length) (length - first_bytes address length)
    go true true false = same true (answer true) 0 0 0 0
    go true false s = same false (answer false) 0 0 length 0
    go false o s = same false (answer false) 0 0 0 0

-- what decided an outcome, where only the place of the entry may be another: the rule and what it went by are the same, and all is where no entry
-- plays a part
pub record SameButPlace (d e : Decision) : Type 0 where
  pub rule : d.rule ≡ e.rule
  pub detail : d.detail ≡ e.detail
  pub few : d.rule < 7
  pub without_entry : d.rule < 4 → d ≡ e

pub decisions_agree : (u v : Used) → u.key ≡ v.key → (outcome : Outcome) → SameButPlace (decision_of u outcome) (decision_of v outcome)
unfolding decision_of
decisions_agree u v key Real = record { rule = refl; detail = refl; few = lit< tt; without_entry = λ l. refl }
decisions_agree u v key (Block i physical attributes) = record { rule = refl; detail = refl; few = lit< tt; without_entry = λ l. refl }
decisions_agree u v key (BlockProtection i) = record { rule = refl; detail = refl; few = lit< tt; without_entry = λ l. refl }
decisions_agree u v key NoExecute = record { rule = refl; detail = refl; few = lit< tt; without_entry = λ l. refl }
decisions_agree u v key NoMatch = record { rule = refl; detail = refl; few = lit< tt; without_entry = λ l. refl }
decisions_agree u v key Guarded = record { rule = refl; detail = refl; few = lit< tt; without_entry = λ l. absurd (omega arith) }
decisions_agree u v key (Protection second) = record {
  rule = refl;
  detail = ap (λ (k : Bool). key_and_pp k second) key;
  few = lit< tt;
  without_entry = λ l. absurd (omega arith);
}
decisions_agree u v key (Done second) = record {
  rule = refl;
  detail = ap (λ (k : Bool). key_and_pp k second) key;
  few = lit< tt;
  without_entry = λ l. absurd (omega arith);
}
decisions_agree u v key (Refused number) = record { rule = refl; detail = refl; few = lit< tt; without_entry = λ l. refl }
