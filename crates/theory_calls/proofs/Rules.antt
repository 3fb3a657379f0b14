-- What the rules of a call say where none of them is broken: its arguments are in range.
use Prim.Native.Nat.{ℕ, ◌/◌, ◌^◌, ◌<◌}
use mathlib.Core.Path.{◌≡◌}
use mathlib.Core.Bool.{Bool, true, false, cond, not, ◌&&◌}
use native.Mathlib.Omega.{arith}
use lib.Dec.{eqb, ltb}
use lib.ListN.{length}
use borrow.Author.Tests.{not-false, ltb-true, lt-ltb, eqb-true, eq-eqb, ne_eqb}
use Rattle.register_words.specs.Block.{bl_width}
use Rattle.words.proofs.Tests.{both}
use Rattle.register_words.specs.Sdr1.{sdr1_shape, table_length}
use Rattle.registers.specs.Rules.{first_broken}
use Rattle.registers.specs.Set.{is_page, block_pairs, sdr1_of, side_shape, side_apart, segments_shape, register_words}
use Rattle.registers.proofs.Set.{rule_kept}
use Rattle.groups.specs.declared.Page.{Page}
use Rattle.groups.specs.Page.{InRange}
use Rattle.theory_calls.specs.Request.{ClearCall, MapCall, ProtectCall, AnsweredCall, Request, clear, map_page, unmap, protect, look, access, sdr1_in}
use Rattle.theory_calls.specs.Rules.{on_long_page, page_in_range, write_through_inhibited, map_in_range, table_rules, rules, refusal, operand_in_range}

-- a page within its ranges, as a test and as facts
pub page_valid : (page : Page) → page_in_range page ≡ true → InRange page
unfolding page_in_range
page_valid page e =
    let (v, i) = both (ltb page.vsid (2 ^ 24)) (ltb page.index (2 ^ 16)) e in
    record { vsid_lt = ltb-true page.vsid (2 ^ 24) v; index_lt = ltb-true page.index (2 ^ 16) i }

pub valid_page : (page : Page) → InRange page → page_in_range page ≡ true
unfolding page_in_range
valid_page page valid = rw (lt-ltb page.vsid (2 ^ 24) valid.vsid_lt, lt-ltb page.index (2 ^ 16) valid.index_lt)

-- where the rules that follow a first one are all kept, so is it
kept : (in_range : Bool) (number rest : ℕ) → (number ≡ 0 → ⊥) → cond (not in_range) number rest ≡ 0 → (in_range ≡ true) × (rest ≡ 0)
kept in_range number rest n e = let (broken, more) = rule_kept (not in_range) number rest n e in (not-false in_range broken, more)

module _ (lent : ℕ) where
  pub map_kept : (c : MapCall) → refusal (map_page c) lent ≡ 0 → InRange c.page × ((c.rpn < 2 ^ 20) × ((c.wimg < 2 ^ 4) × (c.pp < 2 ^ 2)))
  unfolding refusal rules
  map_kept c e =
      let p = page_in_range c.page in
      let r = ltb c.rpn (2 ^ 20) in
      let w = ltb c.wimg (2 ^ 4) in
      let q = ltb c.pp (2 ^ 2) in
      let (all, last) = kept (map_in_range c) 6 _ (λ z. omega arith) e in
      let (a₄, b₄) = both (p && r && w && q) (not (write_through_inhibited c.wimg)) all in
      let (a₃, b₃) = both (p && r && w) q a₄ in
      let (a₂, b₂) = both (p && r) w a₃ in
      let (a₁, b₁) = both p r a₂ in
      (page_valid c.page a₁, (ltb-true c.rpn (2 ^ 20) b₁, (ltb-true c.wimg (2 ^ 4) b₂, ltb-true c.pp (2 ^ 2) b₃)))

  -- unmap and look have the same rules
  pub unmap_kept : (c : AnsweredCall ℕ) → refusal (unmap c) lent ≡ 0 → InRange c.page
  unfolding refusal rules
  unmap_kept c e =
      let (a, more) = kept (eqb c.answer 16) 11 _ (λ z. omega arith) e in
      let (b, last) = kept (page_in_range c.page) 6 _ (λ z. omega arith) more in
      page_valid c.page b

  pub look_kept : (c : AnsweredCall ℕ) → refusal (look c) lent ≡ 0 → InRange c.page
  unfolding refusal rules
  look_kept c e = unmap_kept c e

  pub protect_kept : (c : ProtectCall) → refusal (protect c) lent ≡ 0 → InRange c.page × (c.pp < 2 ^ 2)
  unfolding refusal rules
  protect_kept c e =
      let (all, last) = kept (page_in_range c.page && ltb c.pp (2 ^ 2)) 6 _ (λ z. omega arith) e in
      let (a, b) = both (page_in_range c.page) (ltb c.pp (2 ^ 2)) all in
      (page_valid c.page a, ltb-true c.pp (2 ^ 2) b)

-- an SDR1 of right shape, and a table of its length
pub record Fitting (sdr1 lent : ℕ) : Type 0 where
  pub shape : sdr1_shape sdr1 ≡ true
  pub long : lent ≡ table_length sdr1

table_kept : (sdr1 lent : ℕ) → first_broken (table_rules sdr1 lent) ≡ 0 → Fitting sdr1 lent
table_kept sdr1 lent e =
    let (shape, more) = kept (sdr1_shape sdr1) 2 _ (λ z. omega arith) e in
    let (long, last) = kept (eqb lent (table_length sdr1)) 1 _ (λ z. omega arith) more in
    record { shape = shape; long = eqb-true lent (table_length sdr1) long }

-- a call that its arguments do not refuse is lent a table of its SDR1
pub fitting : (request : Request ℕ) (lent : ℕ) → refusal request lent ≡ 0 → Fitting (sdr1_in request) lent
unfolding refusal rules sdr1_in
fitting (clear c) lent e = table_kept c.sdr1 lent e
fitting (map_page c) lent e = table_kept c.sdr1 lent (kept (map_in_range c) 6 _ (λ z. omega arith) e).1
fitting (unmap c) lent e =
    let (a, more) = kept (eqb c.answer 16) 11 _ (λ z. omega arith) e in
    table_kept c.sdr1 lent (kept (page_in_range c.page) 6 _ (λ z. omega arith) more).1
fitting (protect c) lent e = table_kept c.sdr1 lent (kept (page_in_range c.page && ltb c.pp (2 ^ 2)) 6 _ (λ z. omega arith) e).1
fitting (look c) lent e =
    let (a, more) = kept (eqb c.answer 16) 11 _ (λ z. omega arith) e in
    table_kept c.sdr1 lent (kept (page_in_range c.page) 6 _ (λ z. omega arith) more).1
fitting (access c) lent e =
    let words = register_words c.registers in
    let (a, r₁) = kept (is_page (length c.registers) && eqb c.answer 48) 11 _ (λ z. omega arith) e in
    let (b, r₂) = kept (ltb c.mode 8 && ltb c.kind 3) 6 _ (λ z. omega arith) r₁ in
    let (long, r₃) = kept (operand_in_range c.length) 12 _ (λ z. omega arith) r₂ in
    let (shape, r₄) = kept (sdr1_shape (sdr1_of words)) 2 _ (λ z. omega arith) r₃ in
    let (d, r₅) = kept (side_shape (block_pairs (on_long_page c)) (bl_width (on_long_page c)) words false && side_shape (block_pairs (on_long_page c)) (bl_width (on_long_page c)) words true) 3 _ (λ z. omega arith) r₄ in
    let (f, r₆) = kept (side_apart (block_pairs (on_long_page c)) (bl_width (on_long_page c)) words false && side_apart (block_pairs (on_long_page c)) (bl_width (on_long_page c)) words true) 4 _ (λ z. omega arith) r₅ in
    let (g, r₇) = kept (segments_shape words) 5 _ (λ z. omega arith) r₆ in
    record { shape = shape; long = eqb-true lent (table_length (sdr1_of words)) (kept (eqb lent (table_length (sdr1_of words))) 1 _ (λ z. omega arith) r₇).0 }

-- the other way round: arguments in range, an SDR1 of right shape and a table of right length are not refused
pub clear_taken : (c : ClearCall) (lent : ℕ) → Fitting c.sdr1 lent → refusal (clear c) lent ≡ 0
unfolding refusal rules
clear_taken c lent fit = rw (fit.shape, eq-eqb lent (table_length c.sdr1) fit.long)

pub map_taken : (c : MapCall) (lent : ℕ) → Fitting c.sdr1 lent → InRange c.page → c.rpn < 2 ^ 20 → c.wimg < 2 ^ 4 → (c.wimg / 4 ≡ 3 → ⊥) → c.pp < 2 ^ 2
    → refusal (map_page c) lent ≡ 0
unfolding refusal rules write_through_inhibited
map_taken c lent fit valid hr hw n hp =
    rw (
      valid_page c.page valid,
      lt-ltb c.rpn (2 ^ 20) hr,
      lt-ltb c.wimg (2 ^ 4) hw,
      lt-ltb c.pp (2 ^ 2) hp,
      ne_eqb (c.wimg / 4) 3 n,
      fit.shape,
      eq-eqb lent (table_length c.sdr1) fit.long,
    )

pub unmap_taken : (c : AnsweredCall ℕ) (lent : ℕ) → Fitting c.sdr1 lent → InRange c.page → c.answer ≡ 16 → refusal (unmap c) lent ≡ 0
unfolding refusal rules
unmap_taken c lent fit valid e = rw (eq-eqb c.answer 16 e, valid_page c.page valid, fit.shape, eq-eqb lent (table_length c.sdr1) fit.long)

pub look_taken : (c : AnsweredCall ℕ) (lent : ℕ) → Fitting c.sdr1 lent → InRange c.page → c.answer ≡ 16 → refusal (look c) lent ≡ 0
unfolding refusal rules
look_taken c lent fit valid e = unmap_taken c lent fit valid e

pub protect_taken : (c : ProtectCall) (lent : ℕ) → Fitting c.sdr1 lent → InRange c.page → c.pp < 2 ^ 2 → refusal (protect c) lent ≡ 0
unfolding refusal rules
protect_taken c lent fit valid h =
    rw (valid_page c.page valid, lt-ltb c.pp (2 ^ 2) h, fit.shape, eq-eqb lent (table_length c.sdr1) fit.long)
