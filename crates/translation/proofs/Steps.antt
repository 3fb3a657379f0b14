-- The case laws of the steps of an access: what each test on the way decides, and what follows where the outcome is known.
--   fetch_is: a test that asks for a fetch holds only of a fetch
--   block_done, block_fault, block_by: what a covering block comes to, where it allows the access, where not, and in both cases
--   before_real, before_block, before_no_execute, before_search_law: what the steps before the search come to, test by test
--   searches: an access that searches is past every earlier step and wants its own page
--   wanted_in_range: the VSID and page index of the wanted page are in range
--   no_execute_fetch, guarded_fetch: only a fetch ends with these faults
--   decided_early, after_late: the outcomes before the search are those of steps 1 to 3, and those after it are not
--   after_contradicting, after_nothing, after_at: what each answer of the search comes to
--   page_guarded, page_protected, page_done, page_by: what an entry that was found comes to, test by test, and in all three cases
--   done_passes, passes_done: an access is done exactly where an entry was found that passes steps 5 and 6
--   outcome_decided, outcome_searched: the outcome of all steps, decided before the search or by it
use Rattle.std.proofs.Common.{◌≡◌, ℕ, ◌^◌, ◌<◌, Bool, true, false, ◌&&◌, ltb, List, sym, refl, ap, ◌∙◌, true≢false, arith, eqb-true}
use Rattle.words.proofs.Tests.{both}
use Rattle.entry.specs.Entry.{wimg_of, pp_of}
use Rattle.entry.proofs.Addresses.{index_lt}
use Rattle.register_words.specs.Segment.{no_execute, segment_vsid}
use Rattle.register_words.specs.Block.{block_attributes, block_pp, block_physical}
use Rattle.registers.specs.Set.{upper_of, lower_of, covering_pair}
use Rattle.protection.specs.Access.{user_mode, fetching, relocated, side_of}
use Rattle.protection.specs.Protection.{page_allows, block_allows, guarded}
use Rattle.translation.specs.Steps.{segment_at, wanted_of, block_outcome, before_search, page_outcome, after_search, outcome_of}
use Rattle.translation.specs.Stated.{early_outcome}
use Rattle.translation.specs.declared.Outcome.{Outcome}
use Rattle.translation.specs.declared.Outcome.TheVariants.{Real, Block, BlockProtection, NoExecute, NoMatch, Guarded, Protection, Done, Refused}
use Rattle.translation.specs.declared.Wanted.{Wanted}
use Rattle.translation.specs.declared.Early.{Early}
use Rattle.translation.specs.declared.Early.TheVariants.{Decided, Search}
use Rattle.translation.specs.declared.Searched.{Searched}
use Rattle.translation.specs.declared.Searched.TheVariants.{Nothing, At, Contradicting}

-- a test of a fetch that holds is of a fetch
pub fetch_is : (kind : ℕ) (t : Bool) → fetching kind && t ≡ true → kind ≡ 0
unfolding fetching
fetch_is kind t e = eqb-true kind 0 (both (fetching kind) t e).0

-- ---- before the search

module _ (pairs width : ℕ) (words : List ℕ) (kind address i : ℕ) where
  pub block_done : block_allows (block_pp (lower_of pairs words (side_of kind) i)) kind ≡ true
      → let upper = upper_of pairs words (side_of kind) i in
      let lower = lower_of pairs words (side_of kind) i in
      block_outcome pairs width words kind address i ≡ Block i (block_physical width upper lower address) (block_attributes lower)
  unfolding block_outcome
  block_done allowed = rw allowed

  pub block_fault : block_allows (block_pp (lower_of pairs words (side_of kind) i)) kind ≡ false → block_outcome pairs width words kind address i ≡ BlockProtection i
  unfolding block_outcome
  block_fault forbidden = rw forbidden

  -- what holds of both outcomes of a block
  pub block_by : (P : Outcome → Type 0) → ((physical attributes : ℕ) → P (Block i physical attributes)) → P (BlockProtection i) → P (block_outcome pairs width words kind address i)
  block_by P done fault = go (block_allows (block_pp (lower_of pairs words (side_of kind) i)) kind) refl
    where
      go : (t : Bool) → block_allows (block_pp (lower_of pairs words (side_of kind) i)) kind ≡ t → P (block_outcome pairs width words kind address i)
      go true e = rw (block_done e) (done _ _)
      go false e = rw (block_fault e) fault

module _ (pairs width : ℕ) (words : List ℕ) (mode kind address : ℕ) where
  pub before_real : relocated mode kind ≡ false → before_search pairs width words mode kind address ≡ Decided Real
  unfolding before_search
  before_real off = rw off

  module _ (on : relocated mode kind ≡ true) where
    pub before_block : ltb (covering_pair pairs width words (side_of kind) (user_mode mode) address) pairs ≡ true
        → before_search pairs width words mode kind address
        ≡ Decided (block_outcome pairs width words kind address (covering_pair pairs width words (side_of kind) (user_mode mode) address))
    unfolding before_search
    before_block covered = rw (on, covered)

    module _ (bare : ltb (covering_pair pairs width words (side_of kind) (user_mode mode) address) pairs ≡ false) where
      pub before_no_execute : fetching kind && no_execute (segment_at words address) ≡ true
          → before_search pairs width words mode kind address ≡ Decided NoExecute
      unfolding before_search
      before_no_execute n = rw (on, bare, n)

      pub before_search_law : fetching kind && no_execute (segment_at words address) ≡ false
          → before_search pairs width words mode kind address ≡ Search (wanted_of (user_mode mode) (segment_at words address) address)
      unfolding before_search
      before_search_law n = rw (on, bare, n)

  -- what holds in each of the four cases holds of what the steps before the search come to
  pub before_by : (P : Early → Type 0)
      → (relocated mode kind ≡ false → P (Decided Real))
      → (relocated mode kind ≡ true → ltb (covering_pair pairs width words (side_of kind) (user_mode mode) address) pairs ≡ true
      → P (Decided (block_outcome pairs width words kind address (covering_pair pairs width words (side_of kind) (user_mode mode) address))))
      → (relocated mode kind ≡ true → ltb (covering_pair pairs width words (side_of kind) (user_mode mode) address) pairs ≡ false
      → fetching kind && no_execute (segment_at words address) ≡ true → P (Decided NoExecute))
      → (relocated mode kind ≡ true → ltb (covering_pair pairs width words (side_of kind) (user_mode mode) address) pairs ≡ false
      → fetching kind && no_execute (segment_at words address) ≡ false → P (Search (wanted_of (user_mode mode) (segment_at words address) address)))
      → P (before_search pairs width words mode kind address)
  before_by P real block stopped searched = go (relocated mode kind) (ltb pair pairs) (fetching kind && no_execute (segment_at words address)) refl refl refl
    where
      pair : ℕ
      pair = covering_pair pairs width words (side_of kind) (user_mode mode) address

      go : (t u v : Bool) → relocated mode kind ≡ t → ltb pair pairs ≡ u → fetching kind && no_execute (segment_at words address) ≡ v
          → P (before_search pairs width words mode kind address)
      go false u v on bare n = rw (before_real on) (real on)
      go true true v on covered n = rw (before_block on covered) (block on covered)
      go true false true on bare n = rw (before_no_execute on bare n) (stopped on bare n)
      go true false false on bare n = rw (before_search_law on bare n) (searched on bare n)

  -- an access searches only past every earlier step, and for its own page
  pub record Searches (wanted : Wanted) : Type 0 where
    pub on : relocated mode kind ≡ true
    pub bare : ltb (covering_pair pairs width words (side_of kind) (user_mode mode) address) pairs ≡ false
    pub executable : fetching kind && no_execute (segment_at words address) ≡ false
    pub wants : wanted ≡ wanted_of (user_mode mode) (segment_at words address) address

  pub searches : (wanted : Wanted) → before_search pairs width words mode kind address ≡ Search wanted → Searches wanted
  searches wanted =
      before_by (λ (early : Early). early ≡ Search wanted → Searches wanted)
      (λ off e. absurd (true≢false (cc))) (λ on covered e. absurd (true≢false (cc))) (λ on bare n e. absurd (true≢false (cc)))
      (λ on bare n e. record { on = on; bare = bare; executable = n; wants = cc })

  -- its VSID and page index are in the page calls' range
  pub wanted_in_range : (wanted : Wanted) → before_search pairs width words mode kind address ≡ Search wanted → (wanted.vsid < 2 ^ 24) × (wanted.index < 2 ^ 16)
  unfolding segment_vsid
  wanted_in_range wanted e = rw (searches wanted e).wants (omega arith, index_lt address)

  pub no_execute_fetch : before_search pairs width words mode kind address ≡ Decided NoExecute → kind ≡ 0
  no_execute_fetch =
      before_by (λ (early : Early). early ≡ Decided NoExecute → kind ≡ 0)
      (λ off e. absurd (true≢false (cc)))
      (λ on covered e. absurd (block_by pairs width words kind address (covering_pair pairs width words (side_of kind) (user_mode mode) address)
      (λ (outcome : Outcome). outcome ≡ NoExecute → ⊥) (λ p a q. true≢false (cc)) (λ q. true≢false (cc)) (cc)))
      (λ on bare n e. fetch_is kind (no_execute (segment_at words address)) n)
      (λ on bare n e. absurd (true≢false (cc)))

  -- no outcome but those of steps 1 to 3 is decided before the search
  pub decided_early : (outcome : Outcome) → before_search pairs width words mode kind address ≡ Decided outcome → early_outcome outcome ≡ true
  unfolding early_outcome
  decided_early outcome =
      before_by (λ (early : Early). early ≡ Decided outcome → early_outcome outcome ≡ true)
      (λ off e. ap early_outcome {x = outcome} {y = Real} (cc))
      (λ on covered e.
      let pair = covering_pair pairs width words (side_of kind) (user_mode mode) address in
      ap early_outcome {x = outcome} {y = block_outcome pairs width words kind address pair} (cc)
      ∙ block_by pairs width words kind address pair (λ (o : Outcome). early_outcome o ≡ true) (λ p a. refl) refl)
      (λ on bare n e. ap early_outcome {x = outcome} {y = NoExecute} (cc))
      (λ on bare n e. absurd (true≢false (cc)))

-- ---- after it

module _ (kind : ℕ) (key : Bool) where
  pub after_contradicting : after_search kind key Contradicting ≡ Refused 10
  unfolding after_search
  after_contradicting = refl

  pub after_nothing : after_search kind key Nothing ≡ NoMatch
  unfolding after_search
  after_nothing = refl

  module _ (second : ℕ) where
    pub after_at : after_search kind key (At second) ≡ page_outcome kind key second
    unfolding after_search
    after_at = refl

    pub page_guarded : fetching kind && guarded (wimg_of second) ≡ true → page_outcome kind key second ≡ Guarded
    unfolding page_outcome
    page_guarded g = rw g

    module _ (passes : fetching kind && guarded (wimg_of second) ≡ false) where
      pub page_protected : page_allows key (pp_of second) kind ≡ false → page_outcome kind key second ≡ Protection second
      unfolding page_outcome
      page_protected p = rw (passes, p)

      pub page_done : page_allows key (pp_of second) kind ≡ true → page_outcome kind key second ≡ Done second
      unfolding page_outcome
      page_done p = rw (passes, p)

    -- what holds in each of the three cases holds of what an entry comes to
    pub page_by : (P : Outcome → Type 0)
        → (fetching kind && guarded (wimg_of second) ≡ true → P Guarded)
        → (fetching kind && guarded (wimg_of second) ≡ false → page_allows key (pp_of second) kind ≡ false → P (Protection second))
        → (fetching kind && guarded (wimg_of second) ≡ false → page_allows key (pp_of second) kind ≡ true → P (Done second))
        → P (page_outcome kind key second)
    page_by P guard forbidden done = go (fetching kind && guarded (wimg_of second)) (page_allows key (pp_of second) kind) refl refl
      where
        go : (t u : Bool) → fetching kind && guarded (wimg_of second) ≡ t → page_allows key (pp_of second) kind ≡ u → P (page_outcome kind key second)
        go true u g p = rw (page_guarded g) (guard g)
        go false false g p = rw (page_protected g p) (forbidden g p)
        go false true g p = rw (page_done g p) (done g p)

  -- an access is done only by the entry found, past steps 5 and 6
  pub record Passes (searched : Searched) (second : ℕ) : Type 0 where
    pub found : searched ≡ At second
    pub passes : fetching kind && guarded (wimg_of second) ≡ false
    pub allowed : page_allows key (pp_of second) kind ≡ true

  pub done_passes : (searched : Searched) (second : ℕ) → after_search kind key searched ≡ Done second → Passes searched second
  unfolding after_search
  done_passes Contradicting second e = absurd (true≢false (cc))
  done_passes Nothing second e = absurd (true≢false (cc))
  done_passes (At word) second e =
      page_by word (λ (outcome : Outcome). outcome ≡ Done second → Passes (At word) second)
      (λ g d. absurd (true≢false (cc))) (λ g p d. absurd (true≢false (cc)))
      (λ g p d. let same : word ≡ second = cc in record { found = ap At same; passes = rw same at g; allowed = rw same at p }) e

  pub passes_done : (searched : Searched) (second : ℕ) → Passes searched second → after_search kind key searched ≡ Done second
  passes_done searched second p = ap (after_search kind key) p.found ∙ after_at second ∙ page_done second p.passes p.allowed

  pub guarded_fetch : (searched : Searched) → after_search kind key searched ≡ Guarded → kind ≡ 0
  unfolding after_search
  guarded_fetch Contradicting e = absurd (true≢false (cc))
  guarded_fetch Nothing e = absurd (true≢false (cc))
  guarded_fetch (At word) e =
      page_by word (λ (outcome : Outcome). outcome ≡ Guarded → kind ≡ 0)
      (λ g q. fetch_is kind (guarded (wimg_of word)) g) (λ g p q. absurd (true≢false (cc))) (λ g p q. absurd (true≢false (cc))) e

  -- no outcome of steps 1 to 3 comes of the search
  pub after_late : (searched : Searched) → early_outcome (after_search kind key searched) ≡ false
  unfolding after_search early_outcome
  after_late Contradicting = refl
  after_late Nothing = refl
  after_late (At word) = page_by word (λ (outcome : Outcome). early_outcome outcome ≡ false) (λ g. refl) (λ g p. refl) (λ g p. refl)

-- ---- all steps

module _ (kind : ℕ) (search : Wanted → Searched) where
  pub outcome_decided : (outcome : Outcome) → outcome_of kind search (Decided outcome) ≡ outcome
  unfolding outcome_of
  outcome_decided outcome = refl

  pub outcome_searched : (wanted : Wanted) → outcome_of kind search (Search wanted) ≡ after_search kind wanted.key (search wanted)
  unfolding outcome_of
  outcome_searched wanted = refl

module _ (pairs width : ℕ) (words : List ℕ) (mode kind address : ℕ) where
  -- two searches that find the same of every page in range come to the same
  pub outcome_agree : (search₁ search₂ : Wanted → Searched) → ((wanted : Wanted) → wanted.vsid < 2 ^ 24 → wanted.index < 2 ^ 16 → search₁ wanted ≡ search₂ wanted)
      → outcome_of kind search₁ (before_search pairs width words mode kind address) ≡ outcome_of kind search₂ (before_search pairs width words mode kind address)
  unfolding outcome_of
  outcome_agree search₁ search₂ agree = go (before_search pairs width words mode kind address) refl
    where
      go : (early : Early) → before_search pairs width words mode kind address ≡ early → outcome_of kind search₁ early ≡ outcome_of kind search₂ early
      go (Decided outcome) e = refl
      go (Search wanted) e =
          let range = wanted_in_range pairs width words mode kind address wanted e in
          ap (after_search kind wanted.key) (agree wanted range.0 range.1)

  -- an access done by a page searched for it, found the entry and passed steps 5 and 6
  pub record DoneBy (search : Wanted → Searched) (second : ℕ) : Type 0 where
    pub wanted : Wanted
    pub looked : before_search pairs width words mode kind address ≡ Search wanted
    pub past : Passes kind wanted.key (search wanted) second

  pub done_by : (search : Wanted → Searched) (second : ℕ) → outcome_of kind search (before_search pairs width words mode kind address) ≡ Done second → DoneBy search second
  unfolding outcome_of early_outcome
  done_by search second = go (before_search pairs width words mode kind address) refl
    where
      go : (early : Early) → before_search pairs width words mode kind address ≡ early → outcome_of kind search early ≡ Done second → DoneBy search second
      go (Decided outcome) e d = absurd (true≢false (sym (decided_early pairs width words mode kind address outcome e) ∙ ap early_outcome d))
      go (Search wanted) e d = record { wanted = wanted; looked = e; past = done_passes kind wanted.key (search wanted) second d }
