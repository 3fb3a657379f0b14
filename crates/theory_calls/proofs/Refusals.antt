-- A call that is not done leaves the table: its arguments refuse it, or the work finds a reason; only an argument's length is refused as one.
use Prim.Native.Nat.{ℕ, ◌*◌, ◌≤◌, ◌<◌}
use mathlib.Core.Path.{◌≡◌, refl, sym, ap, ap₂, ◌∙◌}
use mathlib.Core.Bool.{Bool, true, false, cond, true≢false}
use mathlib.Core.List.{List, [], ◌∷◌}
use mathlib.Core.Logic.{◌⊎◌, inl, inr, ⊎_elim}
use mathlib.Core.Option.{Option, none, some}
use native.Mathlib.Omega.{arith}
use lib.Dec.{eqb, lit≤}
use lib.ListN.{length, replicate}
use borrow.Author.Tests.{eqb-true, eqb-false, ne_eqb}
use Rattle.words.specs.Words.{with_word, bytes_of}
use Rattle.entry.specs.Entry.{first_word, second_word, within_widths, packed}
use Rattle.entry.specs.declared.Fields.{Fields}
use Rattle.register_words.specs.Sdr1.{mask_ones}
use Rattle.registers.specs.Set.{is_page, is_long, replacing, register_words}
use Rattle.theory_tables.specs.Matches.{Match}
use Rattle.theory_tables.specs.Layout.{matches_of, free_place}
use Rattle.matches.specs.Search.{contradict}
use Rattle.protection.specs.Access.{fetching}
use Rattle.protection.specs.Fault.{no_match, no_fetch, protection, fault_of}
use Rattle.translation.specs.Steps.{after_search, outcome_of, answer_of}
use Rattle.translation.specs.Operand.{stopped}
use Rattle.translation.specs.Stated.{early_outcome}
use Rattle.translation.specs.declared.Answer.{Answer}
use Rattle.translation.specs.declared.Wanted.{Wanted}
use Rattle.translation.specs.declared.decision.Decision.{Decision}
use Rattle.translation.specs.declared.operand.OperandAnswer.{OperandAnswer}
use Rattle.translation.specs.declared.Early.{Early}
use Rattle.translation.specs.declared.Early.TheVariants.{Decided, Search}
use Rattle.translation.specs.declared.Outcome.{Outcome}
use Rattle.translation.specs.declared.Outcome.TheVariants.{Real, Block, BlockProtection, NoExecute, NoMatch, Guarded, Protection, Done, Refused}
use Rattle.translation.specs.declared.Searched.{Searched}
use Rattle.translation.specs.declared.Searched.TheVariants.{Nothing, At, Contradicting}
use Rattle.translation.proofs.Stated.{access_as_stated}
use Rattle.translation.proofs.Parts.{result_of, not_done_stops}
use Rattle.translation.proofs.Steps.{page_by}
use Rattle.theory_calls.specs.Request.{AnsweredCall, AccessCall, Request, clear, map_page, unmap, protect, look, access, sdr1_in, fed}
use Rattle.theory_calls.specs.Rules.{on_long_page, refusal}
use Rattle.theory_calls.specs.Answers.{word_answer, access_answer, refused_bytes, answer_refused}
use Rattle.theory_calls.specs.WithoutTable.{set_register_call, pack_call, unpack_call}
use Rattle.theory_calls.specs.OnBytes.{layout, Ended, by_matches, by_option, early_of, bytes_do, on_bytes, start_of, part_answer, used_by, part_decision, whole_answer, search_in, first_place_in}
use Rattle.theory_calls.specs.Refusals.{RefusalsLeave}
use Rattle.theory_calls.specs.Arguments.{PastRules}
use Rattle.theory_calls.proofs.Lent.{right_length, wrong_length}
use Rattle.theory_calls.proofs.OnBytes.{taken, refused}
use Rattle.theory_calls.proofs.Access.{refused_words, parts_unmarked}

-- ---- the table

-- what a list of matches comes to, where each end keeps what is asked of it
by_list : (P : Ended (List ℕ) → Type 0) (ms : List Match) (missing : Ended (List ℕ)) (found : Match → List Match → Ended (List ℕ))
    → P missing → ((x : Match) (xs : List Match) → P (found x xs)) → P (by_matches ms missing found)
by_list P [] missing found m f = m
by_list P (x ∷ xs) missing found m f = f x xs

by_option_law : {A : Type 0} (P : Ended (List ℕ) → Type 0) (o : Option A) (missing : Ended (List ℕ)) (found : A → Ended (List ℕ))
    → P missing → ((a : A) → P (found a)) → P (by_option o missing found)
by_option_law P none missing found m f = m
by_option_law P (some a) missing found m f = f a

by_bool : (P : Ended (List ℕ) → Type 0) (b : Bool) (yes-end no_end : Ended (List ℕ)) → P yes-end → P no_end → P (cond b yes-end no_end)
by_bool P true y n p q = p
by_bool P false y n p q = q

-- an end that is done or leaves the table
abbrev Keeps : List ℕ → Ended (List ℕ) → Type 0
Keeps t e = (e.number ≡ 0 → ⊥) → e.state ≡ t

does_keep : (k : ℕ) (request : Request (List ℕ)) (t : List ℕ) → Keeps t (bytes_do k request t)
unfolding bytes_do
does_keep k (clear c) t = λ n. absurd (n refl)
does_keep k (map_page c) t =
    by_list (Keeps t) (matches_of (layout k) t c.page) _ _
    (by_option_law (Keeps t) (free_place (layout k) t c.page) _ _ (λ n. refl) (λ place n. absurd (n refl))) (λ x xs n. refl)
does_keep k (unmap c) t = by_list (Keeps t) (matches_of (layout k) t c.page) _ _ (λ n. refl) (λ x xs n. absurd (n refl))
does_keep k (protect c) t = by_list (Keeps t) (matches_of (layout k) t c.page) _ _ (λ n. refl) (λ x xs n. absurd (n refl))
does_keep k (look c) t =
    by_list (Keeps t) (matches_of (layout k) t c.page) _ _ (λ n. refl) (λ x xs. by_bool (Keeps t) (contradict x xs) _ _ (λ n. refl) (λ n. refl))
does_keep k (access c) t = λ n. parts_unmarked k c _ t n

-- ---- a refused length

-- a call that its arguments do not refuse is done, or ends as the search or a fault does
abbrev Past : Ended (List ℕ) → Type 0
Past e = PastRules e.number

past : (n : ℕ) → (1 ≤ n → 6 < n) → (10 < n → 12 < n) → PastRules n
past n low high = record { not_1_to_6 = low; not_11 = λ e. omega (arith, high (omega (arith, e)), e); not_12 = λ e. omega (arith, high (omega (arith, e)), e) }

pub done_past : PastRules 0
done_past = past 0 (λ h. omega arith) (λ h. omega arith)

search_past : (n : ℕ) → 7 ≤ n → n ≤ 10 → PastRules n
search_past n low high = past n (λ h. omega arith) (λ h. omega arith)

fault_past : (cause kind : ℕ) → PastRules (fault_of cause kind).result
unfolding fault_of
fault_past cause kind = go (fetching kind)
  where
    go : (t : Bool) → PastRules (cond {A = ℕ} t 65 64)
    go true = past 65 (λ h. omega arith) (λ h. omega arith)
    go false = past 64 (λ h. omega arith) (λ h. omega arith)

early_past : (kind address : ℕ) (outcome : Outcome) → early_outcome outcome ≡ true → PastRules (answer_of kind address outcome).result
unfolding answer_of early_outcome
early_past kind address Real e = done_past
early_past kind address (Block i physical attributes) e = done_past
early_past kind address (BlockProtection i) e = fault_past protection kind
early_past kind address NoExecute e = fault_past no_fetch kind
early_past kind address NoMatch e = fault_past no_match kind
early_past kind address Guarded e = fault_past no_fetch kind
early_past kind address (Protection second) e = fault_past protection kind
early_past kind address (Done second) e = done_past
early_past kind address (Refused number) e = absurd (true≢false (sym e))

late_past : (kind : ℕ) (key : Bool) (address : ℕ) (found : Searched) → PastRules (answer_of kind address (after_search kind key found)).result
unfolding answer_of after_search
late_past kind key address Contradicting = search_past 10 (lit≤ tt) (lit≤ tt)
late_past kind key address Nothing = fault_past no_match kind
late_past kind key address (At word) =
    page_by kind key word (λ (outcome : Outcome). PastRules (answer_of kind address outcome).result)
    (λ g. fault_past no_fetch kind) (λ g p. fault_past protection kind) (λ g p. done_past)

-- what an operand answers that its arguments do not refuse, whatever its searches find
pub whole_past : (c : AccessCall (List ℕ)) (search : Wanted → Searched) (place : Wanted → ℕ × ℕ) → PastRules (whole_answer c search place).part.result
unfolding outcome_of
whole_past c search place = result_of PastRules c.address c.length (part_answer c search) (part_decision c search place) (part false) (part true)
  where
    part : (second : Bool) → PastRules (part_answer c search second).result
    part second = go (early_of c second) refl
      where
        go : (early : Early) → early_of c second ≡ early → PastRules (answer_of c.kind (start_of c second) (outcome_of c.kind search early)).result
        go (Decided outcome) e =
            early_past c.kind (start_of c second) outcome
            ((access_as_stated.before (on_long_page c) (register_words c.registers) c.mode c.kind (start_of c second)).only_early outcome e)
        go (Search wanted) e = late_past c.kind wanted.key (start_of c second) (search wanted)

pub does_past : (k : ℕ) (request : Request (List ℕ)) (t : List ℕ) → Past (bytes_do k request t)
unfolding bytes_do
does_past k (clear c) t = done_past
does_past k (map_page c) t =
    by_list Past (matches_of (layout k) t c.page) _ _
    (by_option_law Past (free_place (layout k) t c.page) _ _ (search_past 9 (lit≤ tt) (lit≤ tt)) (λ place. done_past)) (λ x xs. search_past 7 (lit≤ tt) (lit≤ tt))
does_past k (unmap c) t = by_list Past (matches_of (layout k) t c.page) _ _ (search_past 8 (lit≤ tt) (lit≤ tt)) (λ x xs. done_past)
does_past k (protect c) t = by_list Past (matches_of (layout k) t c.page) _ _ (search_past 8 (lit≤ tt) (lit≤ tt)) (λ x xs. done_past)
does_past k (look c) t =
    by_list Past (matches_of (layout k) t c.page) _ _ (search_past 8 (lit≤ tt) (lit≤ tt))
    (λ x xs. by_bool Past (contradict x xs) _ _ (search_past 10 (lit≤ tt) (lit≤ tt)) done_past)
does_past k (access c) t = whole_past c (search_in k t) (first_place_in k t)

module _ (request : Request (List ℕ)) (t : List ℕ) where
  abbrev number : ℕ
  number = refusal (fed request) (length t)

  left_table : ((on_bytes request t).number ≡ 0 → ⊥) → (on_bytes request t).state ≡ t
  left_table n = go (eqb number 0) refl
    where
      go : (b : Bool) → eqb number 0 ≡ b → (on_bytes request t).state ≡ t
      go true e =
          let does = taken request t (eqb-true number 0 e) in
          ap (λ (x : Ended (List ℕ)). x.state) does
          ∙ does_keep (mask_ones (sdr1_in request)) request t (λ z. n (ap (λ (x : Ended (List ℕ)). x.number) does ∙ z))
      go false e = ap (λ (x : Ended (List ℕ)). x.state) (refused request t number refl (eqb-false number 0 e))

  -- where the number is 11 the arguments refused the call, and the answer is as it was lent
  left_answer : (on_bytes request t).number ≡ 11 → (on_bytes request t).answer ≡ answer_refused (λ lent. lent) request 11
  left_answer z = go (eqb number 0) refl
    where
      go : (b : Bool) → eqb number 0 ≡ b → (on_bytes request t).answer ≡ answer_refused (λ lent. lent) request 11
      go true e = absurd ((does_past (mask_ones (sdr1_in request)) request t).not_11 (sym (ap (λ (x : Ended (List ℕ)). x.number) (taken request t (eqb-true number 0 e))) ∙ z))
      go false e =
          let q = refused request t number refl (eqb-false number 0 e) in
          let eleven : number ≡ 11 = sym (ap (λ (x : Ended (List ℕ)). x.number) q) ∙ z in
          ap (λ (x : Ended (List ℕ)). x.answer) q ∙ ap (answer_refused (λ lent. lent) request) eleven

-- ---- what a refused access answers

-- what a call answers that is neither done nor a fault nor refused by a length: its number and zero words
abbrev Zeros : ℕ → (ℕ → Type 0) → Ended (List ℕ) → Type 0
Zeros zeros Fault e = (e.number ≡ 0 → ⊥) → (Fault e.number → ⊥) → (e.number ≡ 11 → ⊥) → e.answer ≡ bytes_of (e.number ∷ replicate zeros 0)

-- by its work, or by its arguments
module _ (zeros : ℕ) (Fault : ℕ → Type 0) (request : Request (List ℕ)) (t lent : List ℕ)
    (answers : (number : ℕ) → answer_refused (λ lent. lent) request number ≡ refused_bytes zeros number lent) (does : (k : ℕ) → Zeros zeros Fault (bytes_do k request t)) where
  zeros_of : Zeros zeros Fault (on_bytes request t)
  unfolding refused_bytes
  zeros_of = go (eqb refuses 0) refl
    where
      refuses : ℕ
      refuses = refusal (fed request) (length t)

      go : (b : Bool) → eqb refuses 0 ≡ b → Zeros zeros Fault (on_bytes request t)
      go true e = rw (taken request t (eqb-true refuses 0 e)) (does (mask_ones (sdr1_in request)))
      go false e = rw (refused request t refuses refl (eqb-false refuses 0 e)) (λ done fault long. answers refuses ∙ rw (ne_eqb refuses 11 long))

-- unmap and look have no faults
abbrev NoFault : ℕ → Type 0
NoFault number = ⊥

unmap_does : (c : AnsweredCall (List ℕ)) (t : List ℕ) (k : ℕ) → Zeros 3 NoFault (bytes_do k (unmap c) t)
unfolding bytes_do word_answer
unmap_does c t k = by_list (Zeros 3 NoFault) (matches_of (layout k) t c.page) _ _ (λ done fault lent. refl) (λ x xs done. absurd (done refl))

look_does : (c : AnsweredCall (List ℕ)) (t : List ℕ) (k : ℕ) → Zeros 3 NoFault (bytes_do k (look c) t)
unfolding bytes_do word_answer
look_does c t k =
    by_list (Zeros 3 NoFault) (matches_of (layout k) t c.page) _ _ (λ done fault lent. refl)
    (λ x xs. by_bool (Zeros 3 NoFault) (contradict x xs) _ _ (λ done fault lent. refl) (λ done. absurd (done refl)))

-- refused by its work: the part that stops an operand is a refusal
pub whole_zeros : (c : AccessCall (List ℕ)) (search : Wanted → Searched) (place : Wanted → ℕ × ℕ) → let a = whole_answer c search place in
    (a.part.result ≡ 0 → ⊥) → (a.part.result ≡ 64 → ⊥) → (a.part.result ≡ 65 → ⊥) → access_answer a ≡ bytes_of (a.part.result ∷ replicate 11 0)
unfolding access_answer
whole_zeros c search place done by-data by-fetch =
    let (second, stops) = not_done_stops c.address c.length (part_answer c search) (part_decision c search place) done in
    let number = ap (λ (x : OperandAnswer). x.part.result) stops in
    let (words, shown) = refused_words c.kind (start_of c second) (used_by place (early_of c second)) (outcome_of c.kind search (early_of c second))
    (λ z. done (number ∙ z)) (λ z. by-data (number ∙ z)) (λ z. by-fetch (number ∙ z)) in
    ap access_answer (stops ∙ ap₂ (λ (a : Answer) (d : Decision). stopped a d) words shown) ∙ ap (λ (n : ℕ). bytes_of (n ∷ replicate 11 0)) (sym number)

abbrev AccessFault : ℕ → Type 0
AccessFault number = (number ≡ 64) ⊎ (number ≡ 65)

access_does : (c : AccessCall (List ℕ)) (t : List ℕ) (k : ℕ) → Zeros 11 AccessFault (bytes_do k (access c) t)
unfolding bytes_do
access_does c t k done fault lent = whole_zeros c (search_in k t) (first_place_in k t) done (λ z. fault (inl z)) (λ z. fault (inr z))

-- ---- the calls without a table

set_left : (registers : List ℕ) (n word : ℕ) → ((set_register_call registers n word).0 ≡ 0 → ⊥) → (set_register_call registers n word).1 ≡ registers
unfolding set_register_call
set_left registers n word not_done = go (is_page (length registers)) refl not_done
  where
    result : ℕ
    result = replacing (is_long (length registers)) (register_words registers) n word

    kept : (b : Bool) → eqb result 0 ≡ b → (result ≡ 0 → ⊥) → cond (eqb result 0) (with_word registers (4 * n) word) registers ≡ registers
    kept true e m = absurd (m (eqb-true result 0 e))
    kept false e m = rw e

    both_ways : Bool → ℕ × List ℕ
    both_ways page = cond page (result, cond (eqb result 0) (with_word registers (4 * n) word) registers) (11, registers)

    go : (b : Bool) → is_page (length registers) ≡ b → ((both_ways b).0 ≡ 0 → ⊥) → (both_ways b).1 ≡ registers
    go true e m = kept (eqb result 0) refl m
    go false e m = refl

-- a slice that must have n bytes is left where its length is refused
lent_left : (n : ℕ) (lent : List ℕ) (given : ℕ × List ℕ) (e : ℕ × List ℕ) → (length lent ≡ n → e ≡ given) → ((length lent ≡ n → ⊥) → e ≡ (11, lent))
    → (given.0 ≡ 11 → ⊥) → e.0 ≡ 11 → e.1 ≡ lent
lent_left n lent given e right wrong fits z = go (eqb (length lent) n) refl
  where
    go : (b : Bool) → eqb (length lent) n ≡ b → e.1 ≡ lent
    go true q = absurd (fits (sym (ap (λ (x : ℕ × List ℕ). x.0) (right (eqb-true (length lent) n q))) ∙ z))
    go false q = ap (λ (x : ℕ × List ℕ). x.1) (wrong (eqb-false (length lent) n q))

pack_fits : (f : Fields) → (packed f).0 ≡ 11 → ⊥
unfolding packed
pack_fits f = go (within_widths f) (first_word f.v f.vsid f.h f.api, second_word f.rpn f.r f.c f.wimg f.pp)
  where
    go : (b : Bool) (words : ℕ × ℕ) → (cond {A = ℕ × (ℕ × ℕ)} b (0, words) (6, (0, 0))).0 ≡ 11 → ⊥
    go true words z = omega arith
    go false words z = omega arith

pub refusals_leave : RefusalsLeave
unfolding answer_refused refused_bytes pack_call unpack_call
refusals_leave = record {
  table = left_table;
  registers = set_left;
  unmap_answer = λ c t z. left_answer (unmap c) t z;
  look_answer = λ c t z. left_answer (look c) t z;
  access_answer_law = λ c t z. left_answer (access c) t z;
  unmap_zeros = λ c t done lent. zeros_of 3 NoFault (unmap c) t c.answer (λ n. refl) (unmap_does c t) done (λ f. f) lent;
  look_zeros = λ c t done lent. zeros_of 3 NoFault (look c) t c.answer (λ n. refl) (look_does c t) done (λ f. f) lent;
  access_zeros = λ c t done by-data by-fetch lent. zeros_of 11 AccessFault (access c) t c.answer (λ n. refl) (access_does c t) done (⊎_elim by-data by-fetch) lent;
  entry = λ f entry z. lent_left 8 entry _ (pack_call f entry) (right_length 8 entry _) (wrong_length 8 entry _) (pack_fits f) z;
  fields = λ first second fields z. lent_left 36 fields _ (unpack_call first second fields) (right_length 36 fields _) (wrong_length 36 fields _) (λ q. omega arith) z;
}
