-- Laws of a test of the matches of a list, of one list after the other, and of the word with the marks of all.
use mathlib.Core.Path.{◌≡◌, refl, sym, ap, ap₂, ◌∙◌}
use mathlib.Core.Bool.{Bool, true, false, ◌||◌}
use mathlib.Core.List.{List, [], ◌∷◌, ◌++◌}
use Prim.Native.Nat.{ℕ}
use Rattle.entry.specs.Entry.{referenced, changed, with_marks}
use Rattle.entry.proofs.Marks.{marks_referenced, marks_changed, marks_own, marks_again}
use Rattle.theory_tables.specs.Matches.{Match}
use Rattle.matches.specs.Search.{any_match, marks_of, merged}

pub or_true : (b : Bool) → b || true ≡ true
or_true true = refl
or_true false = refl

pub or_false : (b : Bool) → b || false ≡ b
or_false true = refl
or_false false = refl

pub or_assoc : (a b c : Bool) → (a || b) || c ≡ a || (b || c)
or_assoc true b c = refl
or_assoc false b c = refl

pub or_swap : (a b : Bool) → a || b ≡ b || a
or_swap true b = sym (or_true b)
or_swap false b = sym (or_false b)

-- the tests that `merged` makes
abbrev is_referenced : Match → Bool
is_referenced m = referenced m.second

abbrev is_changed : Match → Bool
is_changed m = changed m.second

-- a test of two lists, one after the other
pub any_append : (test : Match → Bool) (ms ns : List Match) → any_match test (ms ++ ns) ≡ (any_match test ms || any_match test ns)
any_append test [] ns = refl
any_append test (m ∷ ms) ns = ap (λ (b : Bool). test m || b) (any_append test ms ns) ∙ sym (or_assoc (test m) (any_match test ms) (any_match test ns))

-- a match that is in the list already tells a test nothing new
any_own : (test : Match → Bool) (m : Match) (ms : List Match) → any_match test (m ∷ ms) || test m ≡ any_match test (m ∷ ms)
any_own test m ms = go (test m) (any_match test ms)
  where
    go : (a b : Bool) → (a || b) || a ≡ a || b
    go true b = refl
    go false b = or_false b

-- the marks of a merged word are those of all matches
pub merged_referenced : (m : Match) (ms : List Match) → referenced (merged m ms) ≡ any_match is_referenced (m ∷ ms)
unfolding merged
merged_referenced m ms = marks_referenced _ _ m.second ∙ any_own is_referenced m ms

pub merged_changed : (m : Match) (ms : List Match) → changed (merged m ms) ≡ any_match is_changed (m ∷ ms)
unfolding merged
merged_changed m ms = marks_changed _ _ m.second ∙ any_own is_changed m ms

-- the marks of two lists, one after the other
pub marks_append : (ms ns : List Match) (second : ℕ) → marks_of (ms ++ ns) second ≡ marks_of ns (marks_of ms second)
marks_append ms ns second =
    ap₂ (λ (r c : Bool). with_marks r c second) (either is_referenced) (either is_changed)
    ∙ sym (marks_again (any_match is_referenced ns) (any_match is_changed ns) (any_match is_referenced ms) (any_match is_changed ms) second)
  where
    either : (test : Match → Bool) → any_match test (ms ++ ns) ≡ (any_match test ns || any_match test ms)
    either test = any_append test ms ns ∙ or_swap (any_match test ms) (any_match test ns)

pub marks_none : (second : ℕ) → marks_of [] second ≡ second
unfolding with_marks
marks_none second = refl

-- one match more
pub marks_more : (ms : List Match) (m : Match) (word merged second : ℕ) (r c : Bool) → merged ≡ marks_of ms word → second ≡ m.second → r ≡ referenced second
    → c ≡ changed second → with_marks r c merged ≡ marks_of (ms ++ m ∷ []) word
marks_more ms m word merged second r c is own e f =
    rw (is, e, f, own)
    (sym (marks_append ms (m ∷ []) word ∙ ap₂ (λ (a b : Bool). with_marks a b (marks_of ms word)) (or_false (is_referenced m)) (or_false (is_changed m))))

-- one match alone: its marks merged are its own
pub merged_one : (m : Match) → merged m [] ≡ m.second
unfolding merged
merged_one m = ap₂ (λ (r c : Bool). with_marks r c m.second) (or_false (is_referenced m)) (or_false (is_changed m)) ∙ marks_own m.second
