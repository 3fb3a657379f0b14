-- Rows of matches in both groups of a page, which take long to compute since its groups lie deep in the table. Each closes by computation; the same is
-- said of every table by `CallsOnAnyTable` and `AccessStated`.
use Rattle.std.specs.Prelude.{ℕ, List, [], ◌∷◌, ◌++◌, replicate, set, drop}
use Rattle.numbers.specs.Numbers.{done, refused_mapped, refused_contradiction}
use Rattle.words.specs.Rows.{Hold}
use Rattle.words.specs.Words.{bytes_of}
use Rattle.groups.specs.declared.Page.{Page}
use Rattle.theory_calls.specs.Made.{to_map, to_unmap, to_protect, to_look, to_access}
use Rattle.theory_calls.specs.Answers.{word_answer}
use Rattle.theory_calls.specs.OnBytes.{Ended, ended, bytes_do}
use Rattle.theory_calls.specs.PageRows.{page_of, zero_registers, rule, no_rule, stop, one_byte}

-- VSID 0x1FF page 0 has groups 0x1FF and 0x200, which lie side by side: an entry in each, and segment register 0 with that VSID; only these 128
-- bytes are compared
abbrev pub both : Page
both = page_of 0x1FF 0

abbrev pub both_registers : List ℕ
both_registers = set (set zero_registers 6 1) 7 255

abbrev pub both_with : ℕ → ℕ → ℕ → ℕ → List ℕ
both_with first second other duplicate = replicate 32704 0 ++ bytes_of (first ∷ second ∷ replicate 14 0) ++ bytes_of (0 ∷ 0 ∷ other ∷ duplicate ∷ replicate 12 0)

abbrev pub of_both : Ended (List ℕ) → ℕ × (List ℕ × List ℕ)
of_both e = (e.number, (drop 32704 e.state, e.answer))

pub record PairRows : Type 0 where
  -- matches in both groups: unmap and protect change both, look and access see that they contradict, an access marks the first alone
  pub both_rows : Hold ((
    of_both (bytes_do 0 (to_unmap 0 both []) (both_with 0x8000FF80 0x12345116 0x8000FFC0 0x54321E96)),
    of_both (ended done (both_with 0 0 0 0) (word_answer done 0x12345196)),
  )
      ∷ (
        of_both (bytes_do 0 (to_protect 0 both 1) (both_with 0x8000FF80 0x12345116 0x8000FFC0 0x54321E96)),
        of_both (ended done (both_with 0x8000FF80 0x12345115 0x8000FFC0 0x54321E95) []),
      )
      ∷ (
        of_both (bytes_do 0 (to_look 0 both []) (both_with 0x8000FF80 0x12345116 0x8000FFC0 0x54321E96)),
        of_both (ended refused_contradiction (both_with 0x8000FF80 0x12345116 0x8000FFC0 0x54321E96) (word_answer refused_contradiction 0)),
      )
      ∷ (
        of_both (bytes_do 0 (to_look 0 both []) (both_with 0x8000FF80 0x12345116 0x8000FFC0 0x12345116)),
        of_both (ended done (both_with 0x8000FF80 0x12345116 0x8000FFC0 0x12345116) (word_answer done 0x12345116)),
      )
      ∷ (
        of_both (bytes_do 0 (to_map 0 both 0 0 0) (both_with 0 0 0x8000FFC0 0x12345116)),
        of_both (ended refused_mapped (both_with 0 0 0x8000FFC0 0x12345116) []),
      )
      ∷ (
        of_both (bytes_do 0 (to_access both_registers 1 2 0x00000123 1 []) (both_with 0x8000FF80 0x12345016 0x8000FFC0 0x54321016)),
        of_both (ended refused_contradiction (both_with 0x8000FF80 0x12345016 0x8000FFC0 0x54321016) (stop refused_contradiction 0 0 0 no_rule)),
      )
      ∷ (
        of_both (bytes_do 0 (to_access both_registers 1 2 0x00000123 1 []) (both_with 0x8000FF80 0x12345016 0x8000FFC0 0x12345016)),
        of_both (ended done (both_with 0x8000FF80 0x12345196 0x8000FFC0 0x12345016) (one_byte 0x12345123 2 0x00000123 (rule 6 2 0x1FF 0))),
      )
      ∷ (
        of_both (bytes_do 0 (to_access both_registers 1 1 0x00000123 1 []) (both_with 0 0 0x8000FFC0 0x12345016)),
        of_both (ended done (both_with 0 0 0x8000FFC0 0x12345116) (one_byte 0x12345123 2 0x00000123 (rule 6 2 0x200 1))),
      )
      ∷ []
      )
