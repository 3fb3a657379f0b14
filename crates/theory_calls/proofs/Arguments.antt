-- Each call gets past its rules exactly where what it brings is good: no rule of its list is broken, and each rule's test is read as arithmetic.
use Prim.Native.Nat.{ℕ, ◌*◌, ◌/◌, ◌^◌, ◌<◌}
use mathlib.Core.Bool.{Bool, true, false, cond, not, ◌&&◌, true≢false}
use mathlib.Core.List.{List, [], ◌∷◌}
use mathlib.Core.Logic.{◌↔◌}
use mathlib.Core.Path.{◌≡◌, refl, sym, ap, ◌∙◌, subst}
use native.Mathlib.Omega.{arith}
use lib.Dec.{eqb, ltb, leb, lit≤}
use lib.ListN.{length, set}
use borrow.Author.Tests.{not-false, eqb-true, eqb-false, eq-eqb, ltb-true, lt-ltb, leb-true, le-leb}
use Rattle.words.specs.Words.{word_at, words_at}
use Rattle.words.proofs.Tests.{both, by_test}
use Rattle.words.proofs.Words.{get_or_words_at}
use Rattle.entry.specs.Entry.{within_widths, packed}
use Rattle.entry.specs.declared.Fields.{Fields}
use Rattle.entry.specs.RoundTrip.{Within}
use Rattle.entry.proofs.Widths.{within, widths}
use Rattle.register_words.specs.Sdr1.{table_length, mask_ones}
use Rattle.register_words.specs.Block.{bl_width}
use Rattle.register_words.proofs.Sdr1.{made_length}
use Rattle.registers.specs.Rules.{first_broken}
use Rattle.registers.specs.Set.{is_page, is_long, block_pairs, register_count, sdr1_of, check_words, register_rules, register_words, replacing}
use Rattle.registers.specs.Check.{Sdr1Good, SetGood}
use Rattle.registers.proofs.Set.{short_page}
use Rattle.registers.proofs.Check.{shape_good, good_shape, check_decides, at_most_15, replacing_decides}
use Rattle.theory_tables.specs.Runs.{Each}
use Rattle.theory_calls.specs.Lent.{of_length}
use Rattle.theory_calls.specs.Request.{MapCall, ProtectCall, AnsweredCall, AccessCall, Request, clear, map_page, unmap, protect, look, access, sdr1_in, fed}
use Rattle.theory_calls.specs.Made.{fed_answered, fed_access}
use Rattle.theory_calls.specs.Rules.{on_long_page, page_in_range, write_through_inhibited, rules, refusal}
use Rattle.theory_calls.specs.WithoutTable.{check_call, set_register_call, pack_call, unpack_call}
use Rattle.theory_calls.specs.OnBytes.{on_bytes}
use Rattle.theory_calls.specs.Arguments.{PastRules, TableGood, RegistersGood, MapGood, ProtectGood, AnsweredGood, AccessGood, ArgumentsDecide}
use Rattle.theory_calls.proofs.OnBytes.{taken, refused}
use Rattle.theory_calls.proofs.Rules.{Fitting, fitting, map_taken, unmap_taken, protect_taken, map_kept, unmap_kept, protect_kept}
use Rattle.theory_calls.proofs.FirstClear.{clear_is, done_fits}
use Rattle.theory_calls.proofs.Lent.{right_length, wrong_length}
use Rattle.theory_calls.proofs.TakenCalls.{number_of}
use Rattle.theory_calls.proofs.Refusals.{done_past, does_past}

-- ---- a list of rules

-- no rule's number is past the rules
abbrev pub Numbered : List (Bool × ℕ) → Type 0
Numbered rules = Each (λ (rule : Bool × ℕ). PastRules rule.1 → ⊥) rules

-- no rule is broken
abbrev pub Kept : List (Bool × ℕ) → Type 0
Kept rules = Each (λ (rule : Bool × ℕ). rule.0 ≡ false) rules

-- a number past the rules is the number of no broken rule, and then each is kept
first_past : (broken : Bool) (number rest : ℕ) → (PastRules number → ⊥) → PastRules (cond broken number rest) → (broken ≡ false) × PastRules rest
first_past true number rest n p = absurd (n p)
first_past false number rest n p = (refl, p)

pub past_kept : (rules : List (Bool × ℕ)) → Numbered rules → PastRules (first_broken rules) → Kept rules
past_kept [] n p = tt
past_kept (rule ∷ rest) n p = let (kept, more) = first_past rule.0 rule.1 (first_broken rest) n.0 p in (kept, past_kept rest n.1 more)

pub kept_none : (rules : List (Bool × ℕ)) → Kept rules → first_broken rules ≡ 0
kept_none [] k = refl
kept_none (rule ∷ rest) k = rw k.0 (kept_none rest k.1)

pub none_kept : (rules : List (Bool × ℕ)) → Numbered rules → first_broken rules ≡ 0 → Kept rules
none_kept rules n e = past_kept rules n (rw e done_past)

-- the numbers of the rules: 1 to 6, 11 and 12
pub low : (n : ℕ) → ltb 0 n ≡ true → leb n 6 ≡ true → PastRules n → ⊥
low n some few p = omega (arith, p.not_1_to_6 (ltb-true 0 n some), leb-true n 6 few)

pub eleven : PastRules 11 → ⊥
eleven p = p.not_11 refl

pub numbered : (request : Request ℕ) (lent : ℕ) → Numbered (rules request lent)
unfolding rules
numbered (clear c) lent = (low 2 refl refl, (low 1 refl refl, tt))
numbered (map_page c) lent = (low 6 refl refl, (low 2 refl refl, (low 1 refl refl, tt)))
numbered (unmap c) lent = (eleven, (low 6 refl refl, (low 2 refl refl, (low 1 refl refl, tt))))
numbered (protect c) lent = (low 6 refl refl, (low 2 refl refl, (low 1 refl refl, tt)))
numbered (look c) lent = (eleven, (low 6 refl refl, (low 2 refl refl, (low 1 refl refl, tt))))
numbered (access c) lent =
    (eleven, (low 6 refl refl, ((λ p. p.not_12 refl), (low 2 refl refl, (low 3 refl refl, (low 4 refl refl, (low 5 refl refl, (low 1 refl refl, tt))))))))

module _ (request : Request (List ℕ)) (t : List ℕ) where
  abbrev refuses : ℕ
  refuses = refusal (fed request) (length t)

  -- a call gets past its rules exactly where they do not refuse it
  past_taken : PastRules (on_bytes request t).number ↔ (refuses ≡ 0)
  unfolding refusal
  past_taken = (
    (λ p. by_test (eqb refuses 0) (λ e. eqb-true refuses 0 e) (λ e.
        kept_none (rules (fed request) (length t))
        (past_kept (rules (fed request) (length t)) (numbered (fed request) (length t)) (subst PastRules (number_of (refused request t refuses refl (eqb-false refuses 0 e))) p)))),
    (λ e. rw (number_of (taken request t e)) (does_past (mask_ones (sdr1_in request)) request t)),
  )

past_iff : {Good : Type 0} (request : Request (List ℕ)) (t : List ℕ) → (refuses request t ≡ 0 → Good) → (Good → refuses request t ≡ 0)
    → PastRules (on_bytes request t).number ↔ Good
past_iff request t to from = ((λ p. to ((past_taken request t).0 p)), λ g. (past_taken request t).1 (from g))

-- ---- the table and the registers

-- an SDR1 of right shape and a table of its length, by arithmetic
good_length : (sdr1 : ℕ) (g : Sdr1Good sdr1) → table_length sdr1 ≡ 65536 * 2 ^ g.ones
good_length sdr1 g = ap table_length g.made ∙ made_length g.origin g.ones g.few g.whole

table_fits : (sdr1 lent : ℕ) → TableGood sdr1 lent → Fitting sdr1 lent
table_fits sdr1 lent g = record { shape = good_shape sdr1 g.shape; long = g.long ∙ sym (good_length sdr1 g.shape) }

fits_table : (sdr1 lent : ℕ) → Fitting sdr1 lent → TableGood sdr1 lent
fits_table sdr1 lent f = let g = shape_good sdr1 f.shape in record { shape = g; long = f.long ∙ good_length sdr1 g }

-- a page's length tells whether it is long
page_size_law : (n : ℕ) → is_page n ≡ true → n ≡ cond (is_long n) 196 132
page_size_law n e = by_test (eqb n 196) (λ l. rw l (eqb-true n 196 l)) (λ s. rw s (short_page n e (eqb-false n 196 s)))

size_page : (long : Bool) (n : ℕ) → n ≡ cond long 196 132 → (is_page n ≡ true) × (is_long n ≡ long)
size_page true n e = rw e (refl, refl)
size_page false n e = rw e (refl, refl)

module _ (registers : List ℕ) (change : List ℕ → List ℕ) where
  abbrev long : Bool
  long = is_long (length registers)

  abbrev passes : Type 0
  passes = check_words (block_pairs long) (bl_width long) (change (register_words registers)) ≡ 0

  page_good : is_page (length registers) ≡ true → passes → RegistersGood registers change
  unfolding register_words
  page_good page e = record {
    long = long;
    size = page_size_law (length registers) page;
    good = (check_decides (block_pairs long) (bl_width long) (at_most_15 long) (change (register_words registers))).0 e;
  }

  good_page : RegistersGood registers change → (is_page (length registers) ≡ true) × passes
  unfolding register_words
  good_page g =
      let (page, is) = size_page g.long (length registers) g.size in
      let l = g.long in
      let passed = (check_decides (block_pairs l) (bl_width l) (at_most_15 l) (change (words_at registers 0 (register_count l)))).1 g.good in
      (page, subst (λ (x : Bool). check_words (block_pairs x) (bl_width x) (change (words_at registers 0 (register_count x))) ≡ 0) (sym is) passed)

some_words : (l : Bool) → 0 < register_count l
some_words true = lit≤ tt
some_words false = lit≤ tt

-- SDR1 is the page's first word
first_word_law : (registers : List ℕ) → sdr1_of (register_words registers) ≡ word_at registers 0
unfolding register_words
first_word_law registers = get_or_words_at registers 0 (register_count (is_long (length registers))) 0 (some_words (is_long (length registers)))

-- ---- the calls

module _ (lent : ℕ) where
  -- W and I are not both one
  map_not_both : (c : MapCall) → refusal (map_page c) lent ≡ 0 → c.wimg / 4 ≡ 3 → ⊥
  unfolding refusal rules write_through_inhibited
  map_not_both c e both_one =
      let (kept, rest) = none_kept (rules (map_page c) lent) (numbered (map_page c) lent) e in
      let wide = page_in_range c.page && ltb c.rpn (2 ^ 20) && ltb c.wimg (2 ^ 4) && ltb c.pp (2 ^ 2) in
      true≢false (sym (both wide (not (write_through_inhibited c.wimg)) (not-false _ kept)).1 ∙ ap not (eq-eqb (c.wimg / 4) 3 both_one))

  map_good : (c : MapCall) → refusal (map_page c) lent ≡ 0 → MapGood c lent
  unfolding sdr1_in
  map_good c e =
      let (page, (rpn, (wimg, pp))) = map_kept lent c e in
      record { page = page; rpn_lt = rpn; wimg_lt = wimg; not_both = map_not_both c e; pp_lt = pp; table = fits_table c.sdr1 lent (fitting (map_page c) lent e) }

  good_map : (c : MapCall) → MapGood c lent → refusal (map_page c) lent ≡ 0
  good_map c g = map_taken c lent (table_fits c.sdr1 lent g.table) g.page g.rpn_lt g.wimg_lt g.not_both g.pp_lt

  protect_good : (c : ProtectCall) → refusal (protect c) lent ≡ 0 → ProtectGood c lent
  unfolding sdr1_in
  protect_good c e =
      let (page, pp) = protect_kept lent c e in
      record { page = page; pp_lt = pp; table = fits_table c.sdr1 lent (fitting (protect c) lent e) }

  good_protect : (c : ProtectCall) → ProtectGood c lent → refusal (protect c) lent ≡ 0
  good_protect c g = protect_taken c lent (table_fits c.sdr1 lent g.table) g.page g.pp_lt

  unmap_good : (c : AnsweredCall (List ℕ)) → refusal (unmap (fed_answered c)) lent ≡ 0 → AnsweredGood c lent
  unfolding refusal rules sdr1_in
  unmap_good c e = record {
    answer = eqb-true (length c.answer) 16 (not-false (eqb (length c.answer) 16) (none_kept (rules (unmap (fed_answered c)) lent) (numbered (unmap (fed_answered c)) lent) e).0);
    page = unmap_kept lent (fed_answered c) e;
    table = fits_table c.sdr1 lent (fitting (unmap (fed_answered c)) lent e);
  }

  good_unmap : (c : AnsweredCall (List ℕ)) → AnsweredGood c lent → refusal (unmap (fed_answered c)) lent ≡ 0
  good_unmap c g = unmap_taken (fed_answered c) lent (table_fits c.sdr1 lent g.table) g.page g.answer

  -- look has the rules of unmap
  look_good : (c : AnsweredCall (List ℕ)) → refusal (look (fed_answered c)) lent ≡ 0 → AnsweredGood c lent
  unfolding refusal rules
  look_good c e = unmap_good c e

  good_look : (c : AnsweredCall (List ℕ)) → AnsweredGood c lent → refusal (look (fed_answered c)) lent ≡ 0
  unfolding refusal rules
  good_look c g = good_unmap c g

  access_good : (c : AccessCall (List ℕ)) → refusal (access (fed_access c)) lent ≡ 0 → AccessGood c lent
  unfolding refusal rules sdr1_in check_words
  access_good c e =
      let n = length c.registers in
      let words = register_words c.registers in
      let fit = fitting (access (fed_access c)) lent e in
      let (lengths, (arguments, (operand, (k₂, (k₃, (k₄, (k₅, last))))))) = none_kept (rules (access (fed_access c)) lent) (numbered (access (fed_access c)) lent) e in
      let (page, answer) = both (is_page n) (eqb (length c.answer) 48) (not-false _ lengths) in
      let (mode, kind) = both (ltb c.mode 8) (ltb c.kind 3) (not-false _ arguments) in
      let (some, few) = both (ltb 0 c.length) (leb c.length 128) (not-false _ operand) in
      let passed = kept_none (register_rules (block_pairs (on_long_page c)) (bl_width (on_long_page c)) words) (k₂, (k₃, (k₄, (k₅, tt)))) in
      record {
        answer = eqb-true (length c.answer) 48 answer;
        kind_lt = ltb-true c.kind 3 kind;
        some = ltb-true 0 c.length some;
        few = leb-true c.length 128 few;
        translates = record {
          page = page_good c.registers (λ ws. ws) page passed;
          mode_lt = ltb-true c.mode 8 mode;
          table = rw (first_word_law c.registers) at (fits_table (sdr1_of words) lent fit);
        };
      }

  good_access : (c : AccessCall (List ℕ)) → AccessGood c lent → refusal (access (fed_access c)) lent ≡ 0
  unfolding refusal rules check_words
  good_access c g =
      let words = register_words c.registers in
      let own : List (Bool × ℕ) = register_rules (block_pairs (on_long_page c)) (bl_width (on_long_page c)) words in
      let fit : Fitting (sdr1_of words) lent = rw (first_word_law c.registers) (table_fits (word_at c.registers 0) lent g.translates.table) in
      let (page, passed) = good_page c.registers (λ ws. ws) g.translates.page in
      let (k₂, (k₃, (k₄, (k₅, end)))) = none_kept own (low 2 refl refl, (low 3 refl refl, (low 4 refl refl, (low 5 refl refl, tt)))) passed in
      kept_none (rules (access (fed_access c)) lent) (
        rw (page, eq-eqb (length c.answer) 48 g.answer),
        (
          rw (lt-ltb c.mode 8 g.translates.mode_lt, lt-ltb c.kind 3 g.kind_lt),
          (rw (lt-ltb 0 c.length g.some, le-leb c.length 128 g.few), (k₂, (k₃, (k₄, (k₅, (rw (eq-eqb lent (table_length (sdr1_of words)) fit.long), tt)))))),
        ),
      )

-- an access gets past its rules exactly where it is good
pub access_decides : (c : AccessCall (List ℕ)) (lent : ℕ) → (refusal (fed (access c)) lent ≡ 0) ↔ AccessGood c lent
unfolding fed
access_decides c lent = (access_good lent c, good_access lent c)

-- ---- the calls without a table

-- a number is one of a page's exactly where its word lies in the page
number_in : (l : Bool) (n number : ℕ) → n ≡ cond l 196 132 → (number < register_count l) ↔ (4 * number < n)
number_in true n number e = ((λ h. omega (arith, h, e)), λ h. omega (arith, h, e))
number_in false n number e = ((λ h. omega (arith, h, e)), λ h. omega (arith, h, e))

check_iff : (registers : List ℕ) → (check_call registers ≡ 0) ↔ RegistersGood registers (λ words. words)
unfolding check_call
check_iff registers = (
  (λ e. by_test (is_page (length registers)) (λ page. page_good registers (λ ws. ws) page (rw page at e)) (λ other. absurd (let z : ◌≡◌ {A = ℕ} 11 0 = rw other at e in omega arith))),
  (λ g. let (page, passed) = good_page registers (λ ws. ws) g in rw page passed),
)

set_iff : (registers : List ℕ) (number word : ℕ) → ((set_register_call registers number word).0 ≡ 0)
    ↔ ((4 * number < length registers) × RegistersGood registers (λ words. set words number word))
unfolding set_register_call
set_iff registers number word = (
  (λ e. by_test (is_page (length registers))
      (λ page.
      let (h, good) = decides.0 (rw page at e) in
      ((number_in own (length registers) number (page_size_law (length registers) page)).0 h, page_good registers change page (passing.1 good)))
      (λ other. absurd (let z : ◌≡◌ {A = ℕ} 11 0 = rw other at e in omega arith))),
  (λ g.
      let (page, passed) = good_page registers change g.1 in
      rw page (decides.1 ((number_in own (length registers) number (page_size_law (length registers) page)).1 g.0, passing.0 passed))),
)
  where
    own : Bool
    own = is_long (length registers)

    change : List ℕ → List ℕ
    change words = set words number word

    decides : (replacing own (register_words registers) number word ≡ 0) ↔ ((number < register_count own) × SetGood (block_pairs own) (bl_width own) (set (register_words registers) number word))
    decides = replacing_decides own (register_words registers) number word

    passing : (check_words (block_pairs own) (bl_width own) (set (register_words registers) number word) ≡ 0) ↔ SetGood (block_pairs own) (bl_width own) (set (register_words registers) number word)
    passing = check_decides (block_pairs own) (bl_width own) (at_most_15 own) (set (register_words registers) number word)

-- a slice that must have n bytes
lent_iff : (n : ℕ) (lent : List ℕ) (given : ℕ × List ℕ) (P : Type 0) → (given.0 ≡ 0) ↔ P → ((of_length n lent given).0 ≡ 0) ↔ ((length lent ≡ n) × P)
lent_iff n lent given P iff = (
  (λ e. by_test (eqb (length lent) n)
      (λ q. let h = eqb-true (length lent) n q in (h, iff.0 (sym (ap (λ (x : ℕ × List ℕ). x.0) (right_length n lent given h)) ∙ e)))
      (λ q. absurd (let z : ◌≡◌ {A = ℕ} 11 0 = sym (ap (λ (x : ℕ × List ℕ). x.0) (wrong_length n lent given (eqb-false (length lent) n q))) ∙ e in omega arith))),
  (λ g. ap (λ (x : ℕ × List ℕ). x.0) (right_length n lent given g.0) ∙ iff.1 g.1),
)

packed_iff : (f : Fields) → ((packed f).0 ≡ 0) ↔ Within f
unfolding packed
packed_iff f = (
  (λ e. by_test (within_widths f) (within f) (λ other. absurd (let z : ◌≡◌ {A = ℕ} 6 0 = rw other at e in omega arith))),
  (λ w. rw (widths f w)),
)

pub arguments_decide : ArgumentsDecide
unfolding fed pack_call unpack_call
arguments_decide = record {
  clears = λ c t. (
    (λ e. fits_table c.sdr1 (length t) (done_fits c.sdr1 t e)),
    (λ g. number_of (clear_is c.sdr1 t (table_fits c.sdr1 (length t) g))),
  );
  maps = λ c t. past_iff (map_page c) t (map_good (length t) c) (good_map (length t) c);
  unmaps = λ c t. past_iff (unmap c) t (unmap_good (length t) c) (good_unmap (length t) c);
  protects = λ c t. past_iff (protect c) t (protect_good (length t) c) (good_protect (length t) c);
  looks = λ c t. past_iff (look c) t (look_good (length t) c) (good_look (length t) c);
  accesses = λ c t. past_iff (access c) t (access_good (length t) c) (good_access (length t) c);
  checks = check_iff;
  sets = set_iff;
  packs = λ f entry. lent_iff 8 entry _ (Within f) (packed_iff f);
  unpacks = λ first second fields.
      let iff = lent_iff 36 fields _ (Unit {0}) ((λ e. tt), λ u. refl) in
      ((λ e. (iff.0 e).0), λ h. iff.1 (h, tt));
}
