-- `table_access::by_parts` meets its contract: each part is the operand's own, and it is stopped by one, or ends by the first or by both.
use borrow.Author.Tests.{lt-ltb, le-ltb}
use mathlib.Core.Path.{◌≡◌, sym, ap, ap₂, subst, ◌∙◌}
use mathlib.Core.Bool.{Bool, true, false}
use mathlib.Core.List.{List}
use Prim.Native.Nat.{ℕ, ◌+◌, ◌%◌, ◌^◌, ◌≤◌, ◌<◌}
use lib.ListN.{length}
use Rattle.register_words.specs.Sdr1.{mask_ones}
use Rattle.groups.specs.Hash.{TableOf}
use Rattle.registers.specs.Set.{sdr1_of, set_words}
use Rattle.translation.specs.Steps.{before_search}
use Rattle.translation.specs.Operand.{first_bytes, over_edge, part_start, stopped, within, across_edge}
use Rattle.translation.proofs.Parts.{start_first, start_second}
use Rattle.table_access.specs.Part.{LiesIn, found_by, part_by, taken_by, part_early, own_part}
use Rattle.table_access.specs.declared.Access.{Access}
use Rattle.table_access.specs.declared.Part.{Part}
use Rattle.table_access.proofs.Parts.{good_table}
use Rattle.table_access.proofs.Operands.{own_lies, stops_first, stops_second, one_part, two_parts}
use Rattle.table_access.proofs.by_parts.Goals as goal
use Rattle.table_access.proofs.by_parts.Goals.{Start, After-part_of-first, After-next_start, After-part_of-second, Else-access-bytes}

-- a part at the start of the first or the second is the operand's own
part_at : (words : List ℕ) (a : Access) (lent : List ℕ × List ℕ) (second : Bool) (part : Part) (address : ℕ) → address ≡ part_start a.address a.length second →
    let k = mask_ones (sdr1_of words) in
    part ≡ part_by a.kind address (found_by k a.kind lent.0 lent.1) (before_search 8 15 words a.mode a.kind address) → part ≡ own_part a k lent (part_early words a) second
part_at words a lent second part address starts is =
    let k = mask_ones (sdr1_of words) in
    is ∙ ap (λ (s : ℕ). part_by a.kind s (found_by k a.kind lent.0 lent.1) (before_search 8 15 words a.mode a.kind s)) starts

module _ (c : Start) where
  abbrev words : List ℕ
  words = set_words c.args.registers.bytes.now

  abbrev sdr1 : ℕ
  sdr1 = sdr1_of words

  abbrev lent : List ℕ × List ℕ
  lent = (c.args.table.now, c.args.cache.now)

  -- the operand's own parts on what was lent
  abbrev own : Bool → Part
  own = own_part c.args.access (mask_ones sdr1) lent (part_early words c.args.access)

  of : TableOf sdr1 (length lent.0)
  of = c.requires.0

  lies : (second : Bool) (part : Part) → part ≡ own second → LiesIn part.found (length lent.0)
  lies second part e = subst (λ (p : Part). LiesIn p.found (length lent.0)) (sym e) (own_lies words c.args.access sdr1 lent of second)

first_is : (c : After-part_of-first) → c.part_of-first.result ≡ own_part c.args.access (mask_ones (sdr1_of (set_words c.args.registers.bytes.now))) (c.args.table.now, c.args.cache.now)
    (part_early (set_words c.args.registers.bytes.now) c.args.access) false
first_is c = let a = c.args.access in part_at (set_words c.args.registers.bytes.now) a (c.args.table.now, c.args.cache.now) false c.part_of-first.result a.address (sym (start_first a.address a.length)) c.part_of-first.ensures

-- where the second part begins
behind : (c : After-next_start) → let a = c.args.access in c.next_start.result ≡ part_start a.address a.length true
behind c =
    let a = c.args.access in
    c.next_start.ensures ∙ ap (λ (n : ℕ). (a.address + n) % 2 ^ 32) c.first_bytes-bytes.ensures ∙ sym (start_second a.address a.length)

second_is : (c : After-part_of-second) → c.next_start.result ≡ part_start c.args.access.address c.args.access.length true
    → c.part_of-second.result ≡ own_part c.args.access (mask_ones (sdr1_of (set_words c.args.registers.bytes.now))) (c.args.table.now, c.args.cache.now)
    (part_early (set_words c.args.registers.bytes.now) c.args.access) true
second_is c starts = part_at (set_words c.args.registers.bytes.now) c.args.access (c.args.table.now, c.args.cache.now) true c.part_of-second.result c.next_start.result starts c.part_of-second.ensures

pub returns-then-first-ne-DONE : goal.returns-then-first-ne-DONE
returns-then-first-ne-DONE c =
    let at = goal.at.returns-then-first-ne-DONE c in
    let l = at.Start in
    let is = first_is at.After-part_of-first in
    let (told, left) = stops_first (words l) c.args.access (sdr1 l) (lent l) (of l) (λ z. c.if-first-ne-DONE.true (ap (λ (p : Part). p.answer.result) is ∙ z)) in
    (c.stopped.ensures ∙ ap (λ (p : Part). stopped p.answer p.decision) is ∙ told, left)

pub take-requires : goal.take-requires
take-requires c =
    let at = goal.at.take-requires c in
    (lies at.Start false _ (first_is at.After-part_of-first), c.requires.1)

pub returns-then-access-bytes : goal.returns-then-access-bytes
unfolding over_edge
returns-then-access-bytes c =
    let a = c.args.access in
    let at = goal.at.returns-then-access-bytes c in
    let l = at.Start in
    let is = first_is at.After-part_of-first in
    let done : (own l false).answer.result ≡ 0 = sym (ap (λ (p : Part). p.answer.result) is) ∙ c.if-first-ne-DONE.false in
    let one = le-ltb (first_bytes a.address a.length) a.length (subst (λ (n : ℕ). a.length ≤ n) c.first_bytes-bytes.ensures c.if-access-bytes.true) in
    let (told, left) = one_part (words l) a (sdr1 l) (lent l) (of l) (good_table (sdr1 l) (lent l).0 (of l) (λ i. (c.slice_known-1.given i).fits)) done one in (
      c.within.ensures ∙ ap (λ (p : Part). within p.answer p.decision a.length) is ∙ told,
      c.take.ensures ∙ ap₂ (λ (s : ℕ) (p : Part). taken_by a.kind s p.found (lent l)) (sym (start_first a.address a.length)) is ∙ left,
    )

-- past the first part the operand goes over the edge
goes_on : (c : Else-access-bytes) → over_edge c.args.access.address c.args.access.length ≡ true
unfolding over_edge
goes_on c = lt-ltb _ _ (subst (λ (n : ℕ). n < c.args.access.length) c.first_bytes-bytes.ensures c.if-access-bytes.false)

pub returns-then-second-ne-DONE : goal.returns-then-second-ne-DONE
returns-then-second-ne-DONE c =
    let at = goal.at.returns-then-second-ne-DONE c in
    let l = at.Start in
    let is = second_is at.After-part_of-second (behind at.After-next_start) in
    let done : (own l false).answer.result ≡ 0 = sym (ap (λ (p : Part). p.answer.result) (first_is at.After-part_of-first)) ∙ c.if-first-ne-DONE.false in
    let (told, left) = stops_second (words l) c.args.access (sdr1 l) (lent l) (of l) done (goes_on at.Else-access-bytes) (λ z. c.if-second-ne-DONE.true (ap (λ (p : Part). p.answer.result) is ∙ z)) in
    (c.stopped-then-second-ne-DONE.ensures ∙ ap (λ (p : Part). stopped p.answer p.decision) is ∙ told, left)

pub take-requires-2 : goal.take-requires-2
take-requires-2 c =
    let at = goal.at.take-requires-2 c in
    (lies at.Start false _ (first_is at.After-part_of-first), c.requires.1)

pub take-requires-3 : goal.take-requires-3
take-requires-3 c =
    let at = goal.at.take-requires-3 c in (
      subst (λ (n : ℕ). LiesIn c.part_of-second.result.found n) (sym c.take-2.auto.table) (lies at.Start true _ (second_is at.After-part_of-second (behind at.After-next_start))),
      subst (λ (n : ℕ). (n ≡ 2048 → ⊥) → n ≡ 0) (sym c.take-2.auto.cache) c.requires.1,
    )

pub returns : goal.returns
returns c =
    let a = c.args.access in
    let at = goal.at.returns c in
    let l = at.Start in
    let first = first_is at.After-part_of-first in
    let starts = behind at.After-next_start in
    let second = second_is at.After-part_of-second starts in
    let first_done : (own l false).answer.result ≡ 0 = sym (ap (λ (p : Part). p.answer.result) first) ∙ c.if-first-ne-DONE.false in
    let second_done : (own l true).answer.result ≡ 0 = sym (ap (λ (p : Part). p.answer.result) second) ∙ c.if-second-ne-DONE.false in
    let (told, left) = two_parts (words l) a (sdr1 l) (lent l) (of l) (good_table (sdr1 l) (lent l).0 (of l) (λ i. (c.slice_known-1.given i).fits)) first_done (goes_on at.Else-access-bytes) second_done in
    let take : ℕ → Part → List ℕ × List ℕ → List ℕ × List ℕ = λ s p. taken_by a.kind s p.found in
    let once : (c.take-2.new.table, c.take-2.new.cache) ≡ take (part_start a.address a.length false) (own l false) (lent l) =
    c.take-2.ensures ∙ ap₂ (λ (s : ℕ) (p : Part). take s p (lent l)) (sym (start_first a.address a.length)) first in (
      c.across_edge.ensures
          ∙ ap₂ (λ (p q : Part). across_edge p.answer p.decision q.answer c.first_bytes-bytes.result a.length) first second
          ∙ ap (λ (n : ℕ). across_edge (own l false).answer (own l false).decision (own l true).answer n a.length) c.first_bytes-bytes.ensures
          ∙ told,
      c.take-3.ensures
          ∙ ap₂ (λ (s : ℕ) (p : Part). take s p (c.take-2.new.table, c.take-2.new.cache)) starts second
          ∙ ap (take (part_start a.address a.length true) (own l true)) once
          ∙ left,
    )
