-- `matches::search` meets its contract. The loop's invariant: the first match is that of the matches before and of the entries passed. At a further match
-- the search ends, since the whole group is then compared with the first one.
use Prim.Native.Nat.{ℕ, ◌+◌, ◌*◌, ◌^◌, ◌<◌}
use mathlib.Core.Path.{◌≡◌, refl, sym, ap, ap₂, subst, ◌∙◌}
use mathlib.Core.List.{List, [], ◌∷◌, ◌++◌, append-nil, append_assoc}
use native.Mathlib.Omega.{arith}
use Rattle.std.specs.Prelude.{Option, Some}
use lib.Dec.{eqb}
use mathlib.Core.Bool.{Bool, true, false}
use Rattle.words.specs.Words.{swapped, word_at}
use Rattle.entry.specs.Entry.{matches}
use Rattle.theory_tables.specs.Matches.{Match, matches_below}
use Rattle.groups.specs.Group.{first_at, second_at, place, free_after}
use Rattle.matches.specs.Search.{h_of, WantedWord, matches_to, group_matches, with_others, others_of, found_of, told}
use Rattle.matches.specs.declared.Told.{Told}
use Rattle.matches.specs.declared.FirstMatch.{FirstMatch}
use Rattle.matches.specs.declared.Others.TheVariants.{Absent}
use Rattle.matches.proofs.Matches.{wanted_matches, entry_at, matches_more, matches_same, matches_extend}
use Rattle.matches.proofs.Found.{nothing_found, found_first, others_are}
use Rattle.matches.proofs.search.Goals as goal
use Rattle.matches.proofs.search.Goals.{then-is_word+in_default, else-is_word}

pub loop-entry-init : goal.loop-entry-init
unfolding matches_below
loop-entry-init c = λ vsid api ms is was. was ∙ ap found_of (sym (append-nil ms))

-- what is answered, by its parts
tells : (first : Option FirstMatch) (free : ℕ) (ms : List Match) (mask : ℕ) → first ≡ found_of ms → free ≡ mask → ◌≡◌ {A = Told} (record { first = first; free = free }) (told ms mask)
unfolding told
tells first free ms mask e f = ap₂ (λ (o : Option FirstMatch) (n : ℕ). record { first = o; free = n }) e f

-- what was told before, by its parts
was_first : (before : Told) (ms : List Match) (free : ℕ) → before ≡ told ms free → before.first ≡ found_of ms
unfolding told
was_first before ms free e = ap (λ (t : Told). t.first) e

-- the free entries of this group are told behind those told before
frees : (before : Told) (group : List ℕ) (result : ℕ) → (before.free < 2 ^ 8 → result ≡ free_after before.free group) → (ms : List Match) (free : ℕ)
    → free < 2 ^ 8 → before ≡ told ms free → result ≡ free_after free group
unfolding told
frees before group result asked ms free few was =
    let same : before.free ≡ free = ap (λ (t : Told). t.free) was in
    asked (rw same few) ∙ ap (λ (n : ℕ). free_after n group) same

-- the test of an entry is whether it matches
tested : (secondary : Bool) (vsid api : ℕ) (wanted : ℕ) (group : List ℕ) (entry : ℕ) (same : Bool) → WantedWord secondary vsid api wanted
    → (word_at group (8 * entry) < 2 ^ 32) × ((w : ℕ) → w < 2 ^ 32 → wanted ≡ swapped w → same ≡ eqb (word_at group (8 * entry)) w)
    → same ≡ matches vsid (h_of secondary) api (first_at group entry)
unfolding first_at
tested secondary vsid api wanted group entry same wants is = wanted_matches secondary vsid api _ _ _ wants is

-- which group it is, by the number of its entry 0
side_is : (secondary : Bool) (from : ℕ) → from ≡ 8 * h_of secondary → eqb from 8 ≡ secondary
side_is true from is = rw is refl
side_is false from is = rw is refl

pub returns-in-Some : goal.returns-in-Some
unfolding group_matches
returns-in-Some c secondary vsid api ms free its is few was =
    let a = c.args in
    let group = a.group.now in
    let side = eqb a.from 8 in
    let here_is = side_is secondary a.from is in
    let wants : WantedWord side vsid api a.wanted = subst (λ (s : Bool). WantedWord s vsid api a.wanted) (sym here_is) its in
    let i = c.loop-entry.entry in
    let to = matches_to side vsid api group i in
    let x = entry_at side group i in
    let here = tested side vsid api a.wanted group i _ wants c.is_word.ensures in
    let so_far = c.loop-entry.invariant vsid api ms wants (was_first a.before ms free was) in
    let (m, (others, (are, first))) = found_first (ms ++ to) c.in-Some.one (sym so_far ∙ c.in-Some.is) in
    let (rest, more) = matches_extend side vsid api group (i + 1) 8 (omega arith) in
    let one = matches_more side vsid api group i (sym here ∙ c.if-is_word.true) in
    let all : matches_to side vsid api group 8 ≡ to ++ x ∷ rest = more ∙ ap (λ (ns : List Match). ns ++ rest) one ∙ append_assoc to (x ∷ []) rest in
    tells _ _ (ms ++ matches_to side vsid api group 8) _
    (ap Some (c.with_others.ensures side vsid api m others wants first ∙ ap (λ (ns : List Match). with_others m (others ++ ns)) all)
    ∙ others_are ms to rest x m others are
    ∙ sym (ap (λ (ns : List Match). found_of (ms ++ ns)) all))
    (frees a.before group _ c.free_after-free.ensures ms free few was)
    ∙ ap (λ (s : Bool). told (ms ++ group_matches s vsid api group) (free_after free group)) here_is

pub loop-entry-preserved : goal.loop-entry-preserved
unfolding others_of second_at
loop-entry-preserved c =
    let a = c.args in
    let group = a.group.now in
    let side = eqb a.from 8 in
    let i = c.loop-entry.entry in
    elim c.if-is_word.branch [
      | then-is_word+in_default v ↦ λ vsid api ms wants was.
          let to = matches_to side vsid api group i in
          let x = entry_at side group i in
          let here = tested side vsid api a.wanted group i _ wants c.is_word.ensures in
          let so_far = c.loop-entry.invariant vsid api ms wants was in
          let none : ms ++ to ≡ [] = nothing_found (ms ++ to) (λ first e. v.in_default.not-Some first (so_far ∙ e)) in
          let one = matches_more side vsid api group i (sym here ∙ v.if-is_word.true) in
          let only : ms ++ matches_to side vsid api group (i + 1) ≡ x ∷ [] =
          ap (λ (ns : List Match). ms ++ ns) one ∙ sym (append_assoc ms to (x ∷ [])) ∙ ap (λ (ns : List Match). ns ++ x ∷ []) none in
          v.first-is
          ∙ ap (λ (second : ℕ). Some (record { place = place side i; second = second; others = Absent })) v.read_word.ensures
          ∙ sym (ap found_of only)
      | else-is_word v ↦ λ vsid api ms wants was.
          let here = tested side vsid api a.wanted group i _ wants c.is_word.ensures in
          let same = matches_same side vsid api group i (sym here ∙ v.if-is_word.false) in
          v.first-is ∙ c.loop-entry.invariant vsid api ms wants was ∙ sym (ap (λ (ns : List Match). found_of (ms ++ ns)) same)
    ]

pub returns : goal.returns
unfolding group_matches
returns c secondary vsid api ms free its is few was =
    let a = c.args in
    let side = eqb a.from 8 in
    let here_is = side_is secondary a.from is in
    let wants : WantedWord side vsid api a.wanted = subst (λ (s : Bool). WantedWord s vsid api a.wanted) (sym here_is) its in
    let e : c.loop-entry.entry ≡ 8 = omega arith in
    let all = rw e at (c.loop-entry.invariant vsid api ms wants (was_first a.before ms free was)) in
    tells _ _ (ms ++ matches_to side vsid api a.group.now 8) _ all (frees a.before a.group.now _ c.free_after-free.ensures ms free few was)
    ∙ ap (λ (s : Bool). told (ms ++ group_matches s vsid api a.group.now) (free_after free a.group.now)) here_is
