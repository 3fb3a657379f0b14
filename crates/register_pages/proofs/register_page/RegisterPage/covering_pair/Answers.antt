-- `register_pages::RegisterPage::covering_pair` meets its contract. The invariant of both loops: no pair that was passed covers the address; behind the page's own pairs
-- the set's are zero, so they are off and cover nothing.
use borrow.Author.Count.{below_more}
use mathlib.Core.Path.{◌≡◌, sym, ap, ◌∙◌}
use mathlib.Core.Bool.{Bool}
use Prim.Native.Nat.{ℕ, ◌+◌, ◌*◌, ◌/◌, ◌≤◌, ◌<◌, ◌-◌}
use native.Mathlib.Omega.{arith}
use lib.ListN.{length}
use Rattle.words.specs.Words.{word_at}
use Rattle.words.proofs.Below.{first_found}
use Rattle.register_words.specs.Block.{covers}
use Rattle.registers.specs.Set.{is_long, block_pairs, set_words, pair_covers, covering_pair}
use Rattle.register_pages.proofs.Page.{PageSize, short_size, long_size, page_size_law, pairs_most, upper_at_law, none_covers}
use Rattle.register_pages.proofs.register_page.RegisterPage.covering_pair.Goals as goal
use Rattle.register_pages.proofs.register_page.RegisterPage.covering_pair.Goals.{After-block_covers}

-- the pair at hand is the page's own, four pairs at a time
own_pair : {size : ℕ} {long : Bool} → PageSize size long → (four i : ℕ) → four < (size - 68) / 16 / 4 → i < 4 * four + 4 → i < block_pairs long
own_pair short_size four i left l = omega arith
own_pair long_size four i left l = omega arith

-- and behind the last four are none
all_pairs : {size : ℕ} {long : Bool} → PageSize size long → (four : ℕ) → (size - 68) / 16 / 4 ≤ four → block_pairs long ≤ 4 * four
all_pairs short_size four past = omega arith
all_pairs long_size four past = omega arith

-- what the call gave is the test of that pair of the set
covers_is : (c : After-block_covers) → (c.loop-i.i < block_pairs (is_long (length c.args.self.bytes.now)))
    × (c.block_covers.result ≡ pair_covers 8 15 (set_words c.args.self.bytes.now) c.args.side c.args.user c.args.address c.loop-i.i)
unfolding pair_covers
covers_is c =
    let a = c.args in
    let i = c.loop-i.i in
    let size = page_size_law (length a.self.bytes.now) c.args.self.whole in
    let own = own_pair size c.loop-four.four i c.loop-four-test.true c.loop-i-test.true in (
      own,
      c.block_covers.ensures
          ∙ ap (λ (u : ℕ). covers 15 a.user u a.address)
          (c.read_word-upper.ensures
          ∙ ap (λ (s : ℕ). word_at a.self.bytes.now (s + 8 * i)) c.side_at-start.ensures
          ∙ sym (upper_at_law a.self.bytes.now a.side i own)),
    )

pub returns-then-block_covers : goal.returns-then-block_covers
unfolding covering_pair
returns-then-block_covers c =
    let (own, is) = covers_is (goal.at.returns-then-block_covers c).After-block_covers in
    let most = pairs_most (is_long (length c.args.self.bytes.now)) in
    record { number = sym (first_found _ 8 c.loop-i.i (omega arith) (sym is ∙ c.if-block_covers.true) c.loop-i.invariant.1); own = own }

pub loop-i-preserved : goal.loop-i-preserved
loop-i-preserved c =
    let (own, is) = covers_is (goal.at.loop-i-preserved c).After-block_covers in
    (omega (arith, c.loop-i-test.true), below_more _ _ c.loop-i.invariant.1 (sym is ∙ c.if-block_covers.false))

pub returns : goal.returns
returns c =
    let a = c.args in
    let pairs = all_pairs (page_size_law (length a.self.bytes.now) c.args.self.whole) c.loop-four.four (omega (arith, c.loop-four-test.false)) in
    record {
      number = sym (none_covers a.self.bytes.now a.side a.user a.address (4 * c.loop-four.four) pairs c.loop-four.invariant.1);
      own = tt;
    }
