-- `register_pages::copy` meets its contract: part by part, the bytes in front are the other slice's.
use mathlib.Core.List.{List, ◌++◌, append_assoc, append-nil}
use mathlib.Core.Path.{◌≡◌, sym, ap, ap₂, ◌∙◌}
use Prim.Native.Nat.{ℕ, ◌+◌, ◌-◌, ◌≤◌}
use native.Mathlib.Omega.{arith}
use lib.ListN.{length, take, drop, length-append, length-drop}
use lib.Seq.{length-take-le, take_at, drop_at, drop-drop, take-add, take-length, drop-length}
use borrow.Rule.Slice.PartMut.{put_mid}
use Rattle.register_pages.proofs.copy.Goals as goal

-- bytes that are copied part by part
copied_more : (to from : List ℕ) (a n : ℕ) → a ≤ length from → put_mid a n (take a from ++ drop a to) (take n (drop a from)) ≡ take (a + n) from ++ drop (a + n) to
copied_more to from a n l =
    let part = take n (drop a from) in
    let whole = length-take-le a from l in
    ap₂ (λ (p q : List ℕ). p ++ (part ++ drop n q)) (take_at (take a from) (drop a to) a whole) (drop_at (take a from) (drop a to) a whole)
    ∙ ap (λ (q : List ℕ). take a from ++ (part ++ q)) (drop-drop n a to)
    ∙ sym (append_assoc (take a from) part (drop (a + n) to))
    ∙ ap (λ (p : List ℕ). p ++ drop (a + n) to) (sym (take-add a n from))

-- both parts
whole : (to from front back : List ℕ) → length to ≡ length from → 68 ≤ length from → front ≡ take 68 from → back ≡ take (length to - 68) (drop 68 from)
    → put_mid 68 (length (front ++ drop 68 to) - 68) (front ++ drop 68 to) back ≡ from
whole to from front back same least f b =
    let first : length front ≡ 68 = ap length f ∙ length-take-le 68 from least in
    let n : length (front ++ drop 68 to) - 68 ≡ length to - 68 = omega (arith, length-append front (drop 68 to), length-drop 68 to) in
    let all : 68 + (length to - 68) ≡ length from = omega arith in
    let rest : drop (length from) to ≡ drop (length to) to = ap (λ (k : ℕ). drop k to) (sym same) in
    ap (λ (k : ℕ). put_mid 68 k (front ++ drop 68 to) back) n
    ∙ ap₂ (λ (p q : List ℕ). put_mid 68 (length to - 68) (p ++ drop 68 to) q) f b
    ∙ copied_more to from 68 (length to - 68) least
    ∙ ap (λ (k : ℕ). take k from ++ drop k to) all
    ∙ ap₂ (λ (p q : List ℕ). p ++ q) (take-length from) (rest ∙ drop-length to)
    ∙ append-nil from

pub slice_bounds-copy_from_slice-end-2 : goal.slice_bounds-copy_from_slice-end-2
slice_bounds-copy_from_slice-end-2 c = sym (length-take-le 68 c.args.to.now (omega (arith, c.requires.0, c.requires.1)))

pub copy_from_slice-requires : goal.copy_from_slice-requires
copy_from_slice-requires c =
    length-take-le 68 c.args.to.now (omega (arith, c.requires.0, c.requires.1)) ∙ sym (length-take-le 68 c.args.from.now c.requires.1)

pub returns : goal.returns
returns c =
    whole c.args.to.now c.args.from.now c.copy_from_slice.new.self c.copy_from_slice-2.new.self c.requires.0 c.requires.1 c.copy_from_slice.ensures.after
    c.copy_from_slice-2.ensures.after
