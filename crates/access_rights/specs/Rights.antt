-- What a fetch, a load and a store of one byte at an address would come to: the three accesses themselves, each on the table as it was lent, told at
-- once and without a mark.
use Rattle.std.specs.Prelude.{ℕ, ◌-◌, cond, not, List, [], ◌∷◌, ◌++◌, eqb, leb, length, replicate}
use Rattle.numbers.specs.Numbers.{refused_lent_length, fetch, load, store, access_answer_size, rule_guarded}
use Rattle.words.specs.Words.{word_at, bytes_of}
use Rattle.registers.specs.Rules.{first_broken}
use Rattle.groups.specs.Group.{second_of}
use Rattle.theory_calls.specs.Request.{AccessCall, access, fed}
use Rattle.theory_calls.specs.Rules.{rules}
use Rattle.theory_calls.specs.OnBytes.{Ended, on_bytes}

-- what is asked: the bytes of the register page, the mode and the effective address
pub record RightsCall : Type 0 where
  pub registers : List ℕ
  pub mode : ℕ
  pub address : ℕ

-- the access of that kind, of one byte
abbrev pub asking : RightsCall → ℕ → AccessCall (List ℕ)
asking c kind = record { registers = c.registers; mode = c.mode; kind = kind; address = c.address; length = 1; answer = replicate access_answer_size 0 }

-- what it would answer, and the table that it would leave
abbrev pub would_end : RightsCall → List ℕ → ℕ → Ended (List ℕ)
would_end c t kind = on_bytes (access (asking c kind)) t

-- the marks that an access newly sets: where its answer names a group and an entry, the second word there after the access, less the one before
unfoldable pub new_marks : List ℕ → Ended (List ℕ) → ℕ
new_marks t e =
    let group = word_at e.answer 40 in
    let entry = word_at e.answer 44 in
    cond (leb rule_guarded (word_at e.answer 32)) (second_of e.state group entry - second_of t group entry) 0

-- the length of what is told: three answers and three words
abbrev pub rights_size : ℕ
rights_size = 156

-- the answers of a fetch, a load and a store, and then the marks of each
abbrev pub three_told : (ℕ → List ℕ) → (ℕ → ℕ) → List ℕ
three_told answers marks = answers fetch ++ (answers load ++ (answers store ++ bytes_of (marks fetch ∷ marks load ∷ marks store ∷ [])))

unfoldable pub rights_told : RightsCall → List ℕ → List ℕ
rights_told c t = three_told (λ kind. (would_end c t kind).answer) (λ kind. new_marks t (would_end c t kind))

-- the first broken rule of those that the three share, the length of what is lent for the answer among them
unfoldable pub rights_refusal : RightsCall → ℕ → ℕ → ℕ
rights_refusal c answer table = first_broken ((not (eqb answer rights_size), refused_lent_length) ∷ rules (fed (access (asking c fetch))) table)

-- the call on a lent answer and a lent table: a refused length leaves the answer
unfoldable pub rights_call : RightsCall → List ℕ → List ℕ → ℕ × List ℕ
rights_call c answer t =
    let number = rights_refusal c (length answer) (length t) in
    (number, cond (eqb number refused_lent_length) answer (rights_told c t))
