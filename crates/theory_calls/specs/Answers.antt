-- The answers that the calls on bytes and the finite map give alike.
use Rattle.std.specs.Prelude.{ℕ, cond, List, [], ◌∷◌, ◌++◌, eqb, leb, replicate, take}
use Rattle.numbers.specs.Numbers.{refused_lent_length, rule_guarded}
use Rattle.words.specs.Words.{word_at, bytes_of}
use Rattle.translation.specs.declared.Answer.{Answer}
use Rattle.translation.specs.declared.decision.Decision.{Decision}
use Rattle.translation.specs.declared.operand.OperandAnswer.{OperandAnswer}
use Rattle.theory_calls.specs.Request.{Request, clear, map_page, unmap, protect, look, access}

-- the 16 bytes of look and unmap: result, second entry word, 0, 0
unfoldable pub word_answer : ℕ → ℕ → List ℕ
word_answer result word = bytes_of (result ∷ word ∷ 0 ∷ 0 ∷ [])

-- the words of one part's answer
abbrev pub part_words : Answer → List ℕ
part_words a = a.result ∷ a.address ∷ a.attributes ∷ a.effective ∷ []

-- the words of what decided it: the rule, the block's number or key × 4 + PP, the group and the entry number
abbrev pub rule_words : Decision → List ℕ
rule_words d = d.rule ∷ d.detail ∷ d.group ∷ d.entry ∷ []

-- the 48 bytes of an access: the words of the part that answers, the second part's address and attributes, the bytes in each page, and what decided
-- the part that answers
unfoldable pub access_answer : OperandAnswer → List ℕ
access_answer a = bytes_of (part_words a.part ++ (a.address ∷ a.attributes ∷ a.bytes ∷ a.rest ∷ rule_words a.decision))

-- what a refusal leaves in a lent answer: its number and zero words; where a length was refused, what stood there
unfoldable pub refused_bytes : ℕ → ℕ → List ℕ → List ℕ
refused_bytes zeros number lent = cond (eqb number refused_lent_length) lent (bytes_of (number ∷ replicate zeros 0))

-- the same for a request; clear, map and protect are lent no answer
unfoldable pub answer_refused : {A : Type 0} → (A → List ℕ) → Request A → ℕ → List ℕ
answer_refused lent (clear c) number = []
answer_refused lent (map_page c) number = []
answer_refused lent (unmap c) number = refused_bytes 3 number (lent c.answer)
answer_refused lent (protect c) number = []
answer_refused lent (look c) number = refused_bytes 3 number (lent c.answer)
answer_refused lent (access c) number = refused_bytes 11 number (lent c.answer)

-- the answer of an access without its place: where the rule, the word at byte 32, is 4 to 6, not the group and the entry number behind byte 40, which
-- follow from the table
unfoldable pub without_place : List ℕ → List ℕ
without_place answer = cond (leb rule_guarded (word_at answer 32)) (take 40 answer) answer

-- what is seen of a request's answer: every byte, but of an access not the place
unfoldable pub seen_of : {A : Type 0} → Request A → List ℕ → List ℕ
seen_of (clear c) answer = answer
seen_of (map_page c) answer = answer
seen_of (unmap c) answer = answer
seen_of (protect c) answer = answer
seen_of (look c) answer = answer
seen_of (access c) answer = without_place answer

-- what is compared of a call: its result number and, unless a length was refused, what is seen of its answer
abbrev pub compared : (List ℕ → List ℕ) → ℕ → List ℕ → ℕ × List ℕ
compared seen number answer = (number, cond (eqb number refused_lent_length) [] (seen answer))
