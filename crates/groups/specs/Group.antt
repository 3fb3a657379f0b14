-- A table as its groups, and a group as its eight entries of 8 bytes (rules 4).
use Rattle.std.specs.Prelude.{ℕ, zero, suc, ◌+◌, ◌*◌, Bool, true, false, cond, List, ◌++◌, ltb, take, drop, Option, Some, None}
use Rattle.numbers.specs.Numbers.{group_size, entry_size, group_entries}
use Rattle.words.specs.Below.{first_below}
use Rattle.words.specs.Words.{word_at, with_word}
use Rattle.entry.specs.Entry.{free}
use Rattle.groups.specs.declared.Place.{Place}

-- group g of a table: its 64 bytes from byte 64 × g on
unfoldable pub group_of : List ℕ → ℕ → List ℕ
group_of t g = take group_size (drop (group_size * g) t)

-- the table t with the 64 bytes b as its group g
unfoldable pub put_group : List ℕ → ℕ → List ℕ → List ℕ
put_group t g b = take (group_size * g) t ++ (b ++ drop (group_size * g + group_size) t)

-- the table with f done to its group g
unfoldable pub on_group : List ℕ → ℕ → (List ℕ → List ℕ) → List ℕ
on_group t g f = put_group t g (f (group_of t g))

-- the first and the second word of entry i of a group
unfoldable pub first_at : List ℕ → ℕ → ℕ
first_at group i = word_at group (entry_size * i)

unfoldable pub second_at : List ℕ → ℕ → ℕ
second_at group i = word_at group (entry_size * i + 4)

-- a group with two words as its entry i
unfoldable pub put_entry : List ℕ → ℕ → ℕ → ℕ → List ℕ
put_entry group i first second = with_word (with_word group (entry_size * i) first) (entry_size * i + 4) second

-- entry i of a group is free: V = 0
unfoldable pub entry_free : List ℕ → ℕ → Bool
entry_free group i = free (first_at group i)

-- the first free entry of a group, or 8 where none is free
unfoldable pub first_free : List ℕ → ℕ
first_free group = first_below group_entries (entry_free group)

-- entry i of a page's primary (false) or secondary (true) group
abbrev pub place : Bool → ℕ → Place
place secondary i = record { secondary = secondary; entry = i }

-- the first free entry in search order, primary entries 0 to 7, then secondary, given the bytes of both groups
unfoldable pub first_free_place : List ℕ → List ℕ → Option Place
first_free_place primary secondary =
    let i = first_free primary in
    let j = first_free secondary in
    cond (ltb i group_entries) (Some (place false i)) (cond (ltb j group_entries) (Some (place true j)) None)

-- which of the first n entries of a group are free, behind those told before: a bit for each, the last entry's the lowest
unfoldable pub free_to : ℕ → List ℕ → ℕ → ℕ
free_to before group zero = before
free_to before group (suc n) = free_to before group n * 2 + cond (entry_free group n) 1 0

-- which entries of a group are free, behind those told before
unfoldable pub free_after : ℕ → List ℕ → ℕ
free_after before group = free_to before group group_entries

-- the words of entry i of a table's group g, and the table with two words as that entry
unfoldable pub first_of : List ℕ → ℕ → ℕ → ℕ
first_of t g i = first_at (group_of t g) i

unfoldable pub second_of : List ℕ → ℕ → ℕ → ℕ
second_of t g i = second_at (group_of t g) i

unfoldable pub put_at : List ℕ → ℕ → ℕ → ℕ → ℕ → List ℕ
put_at t g i first second = on_group t g (λ group. put_entry group i first second)
