-- Along a history whose cache is kept, table and finite map stay related, every place of the cache is backed or waits, and each call answers what the map
-- answers: first for the call without the cache, then for the call itself, then for every list.
use Prim.Native.Nat.{ℕ}
use mathlib.Core.Path.{◌≡◌, refl, sym, ap, ap₂, ◌∙◌, subst}
use mathlib.Core.Bool.{Bool, true}
use mathlib.Core.List.{List, [], ◌∷◌, ◌++◌, map}
use mathlib.Core.Logic.{inl, inr}
use mathlib.Core.Option.{Option, some}
use native.Mathlib.Omega.{arith}
use lib.Dec.{eqb}
use lib.ListN.{length}
use borrow.Author.Tests.{eqb-true, eqb-false}
use Rattle.words.proofs.Tests.{by_test}
use Rattle.register_words.specs.Sdr1.{sdr1_shape, table_length, mask_ones}
use Rattle.theory_tables.specs.Runs.{run, after, Each}
use Rattle.theory_calls.specs.Request.{AccessCall, Request, access, sdr1_in, fed}
use Rattle.theory_calls.specs.Rules.{refusal}
use Rattle.theory_calls.specs.Answers.{answer_refused, refused_bytes, seen_of, compared}
use Rattle.theory_calls.specs.OnBytes.{Ended, by_option}
use Rattle.theory_calls.specs.OnMap.{Map}
use Rattle.theory_calls.specs.Represents.{TableRepresents}
use Rattle.theory_calls.proofs.Histories.{size_is}
use Rattle.theory_cache.specs.Cached.{invalidate_call}
use Rattle.theory_cache.proofs.Refusals.{right_refusal, wrong_refusal, cached_refused}
use Rattle.access_rights.specs.Rights.{RightsCall, asking, rights_refusal, rights_call}
use Rattle.access_rights.proofs.Stated.{lengths_right}
use Rattle.theory_histories.specs.Calls.{Asked, plain, cached, invalidate, rights, Slices, slices, Call, State, on_lent, lent_for, calling, lengths_of, lent_lengths, refusal_of, brought_in, Under}
use Rattle.theory_histories.specs.Fed.{fed_asked, fed_of, map_calling, seen_in, bytes_step, map_step}
use Rattle.theory_histories.specs.Discipline.{waiting_after, Invalidated, Disciplined}
use Rattle.theory_histories.specs.Invisible.{plainly, without_cache}
use Rattle.theory_histories.proofs.Invisible.{Sound, Goes, goes, length_left, length_lent, left_lent}
use Rattle.theory_histories.proofs.Follows.{Brings, TableFollows, table_follows}
use Rattle.theory_histories.proofs.Rights.{rights_seen}

-- an SDR1 of right shape, and the lengths of a table of its own and of a cache
module _ (sdr1 : ℕ) (own : Slices ℕ) (shape : sdr1_shape sdr1 ≡ true) (long : own.table ≡ table_length sdr1) where
  abbrev pub k : ℕ
  k = mask_ones sdr1

  abbrev made : Asked (List ℕ) → Slices (Option (List ℕ)) → Call
  made asked o = record { asked = asked; other = o }

  -- a call under the SDR1 that is not refused 11 brings it
  pub under_brings : (c : Call) → Under sdr1 own c → (request : Request (List ℕ)) → brought_in c.asked ≡ some (sdr1_in request)
      → (refusal (fed request) (lent_lengths own c).table ≡ 0 → refusal_of c.asked (lent_lengths own c) ≡ 11 → ⊥)
      → Brings sdr1 own.table shape long request c.other.table
  under_brings c (inl eleven) request is n e = absurd (n e eleven)
  under_brings c (inr brings) request is n e = brings (sdr1_in request) is

  -- a call without the cache answers what the map answers
  abbrev FollowsMap : Call → List ℕ → List ℕ → Map → Type 0
  FollowsMap c t other m =
      let d = calling (without_cache own.cache c) (slices t other) in
      let e = map_calling (fed_asked c.asked) (lent_lengths own c) m in
      (compared (seen_in (without_cache own.cache c).asked) d.number d.answer ≡ compared (seen_in (fed_asked c.asked)) e.number e.answer)
      × TableRepresents k d.state.table e.state

  module _ (t other : List ℕ) (m : Map) (same : length other ≡ own.cache) (r : TableRepresents k t m) (o : Slices (Option (List ℕ))) where
    abbrev OnTable : Request (List ℕ) → Type 0
    OnTable request = TableFollows sdr1 own.table shape long request o.table t m

    plain_follows : (request : Request (List ℕ)) → Under sdr1 own (made (plain request) o) → FollowsMap (made (plain request) o) t other m
    unfolding calling on_lent plainly fed_asked map_calling seen_in refusal_of brought_in
    plain_follows request under =
        let f = table_follows sdr1 own.table shape long request o.table t m r
        (under_brings (made (plain request) o) under request refl (λ zero eleven. let z : ◌≡◌ {A = ℕ} 0 11 = sym zero ∙ eleven in omega arith)) in
        (f.told, f.related)

    -- the length of what is lent as the cache
    abbrev lent_cache : ℕ
    lent_cache = by_option o.cache own.cache length

    lent_is : length (lent_for o.cache other) ≡ lent_cache
    lent_is = length_lent o.cache other ∙ ap (λ (n : ℕ). by_option o.cache n length) same

    cached_follows : (c : AccessCall (List ℕ)) → Under sdr1 own (made (cached c) o) → FollowsMap (made (cached c) o) t other m
    unfolding calling on_lent plainly fed_asked map_calling seen_in refusal_of brought_in seen_of fed answer_refused refused_bytes
    cached_follows c under =
        by_test (eqb lent_cache 2048)
        (λ z.
        let right = right_refusal c [] [] (lent_lengths own (made (cached c) o)).table lent_cache (eqb-true lent_cache 2048 z) in
        let f = table_follows sdr1 own.table shape long (access c) o.table t m r
        (under_brings (made (cached c) o) under (access c) refl (λ zero eleven. let q : ◌≡◌ {A = ℕ} 0 11 = sym zero ∙ sym right ∙ eleven in omega arith)) in
        rw z (f.told, f.related))
        (λ z.
        let wrong : length (lent_for o.cache other) ≡ 2048 → ⊥ = λ e. eqb-false lent_cache 2048 z (sym lent_is ∙ e) in
        let table = lent_for o.table t in
        let cache = lent_for o.cache other in
        let is = cached_refused c table cache 11 (wrong_refusal c table cache (length table) (length cache) wrong) (λ zero. omega arith) in
        rw (z, is, left_lent o.table t) (refl, r))

    invalidate_follows : (index : ℕ) → FollowsMap (made (invalidate index) o) t other m
    unfolding calling on_lent plainly fed_asked map_calling seen_in invalidate_call
    invalidate_follows index = rw (lent_is, left_lent o.table t) (refl, r)

    rights_follows : (c : RightsCall) (answer : List ℕ) → Under sdr1 own (made (rights c answer) o) → FollowsMap (made (rights c answer) o) t other m
    unfolding calling on_lent plainly fed_asked map_calling rights_call refusal_of brought_in sdr1_in
    rights_follows c answer under =
        let table = lent_for o.table t in
        let lent = by_option o.table own.table length in
        let number = rights_refusal c (length answer) lent in
        let is : length table ≡ lent =
        length_lent o.table t ∙ ap (λ (n : ℕ). by_option o.table n length) (size_is sdr1 own.table shape long t m r) in
        rw (is, left_lent o.table t)
        (by_test (eqb number 11) (λ z. rw z (refl, r))
        (λ z.
        let page = (lengths_right c answer table (λ e. eqb-false number 11 z (ap (rights_refusal c (length answer)) (sym is) ∙ e))).0 in
        rw z (
          ap (λ (seen : List ℕ). (number, seen)) (rights_seen sdr1 own.table shape long c page m o.table t r
              (λ kind. under_brings (made (rights c answer) o) under (access (asking c kind)) refl (λ zero eleven. eqb-false number 11 z eleven)) answer),
          r,
        )))

    pub follows : (asked : Asked (List ℕ)) → Under sdr1 own (made asked o) → FollowsMap (made asked o) t other m
    follows (plain request) under = plain_follows request under
    follows (cached c) under = cached_follows c under
    follows (invalidate index) under = invalidate_follows index
    follows (rights c answer) under = rights_follows c answer under

  -- ---- the call itself

  -- state and map belong together, where some sets wait
  pub record Linked (s : State) (m : Map) (waiting : ℕ → Bool) : Type 0 where
    pub sound : Sound k s.table s.cache waiting
    pub size : length s.cache ≡ own.cache
    pub related : TableRepresents k s.table m

  module _ (c : Call) (s : State) (m : Map) where
    -- what the map tells of the call, and the sets that wait behind it
    abbrev pub tells : Ended Map
    tells = map_calling (fed_asked c.asked) (lent_lengths own c) m

    abbrev pub waiting_behind : (ℕ → Bool) → ℕ → Bool
    waiting_behind waiting = waiting_after c.asked c.other.cache (eqb (calling c s).number 0) waiting

    pub record Steps (waiting : ℕ → Bool) : Type 0 where
      pub told : (bytes_step c s).0 ≡ (map_step (fed_of own c) m).0
      pub number : (calling c s).number ≡ tells.number
      pub linked : Linked (calling c s).state tells.state (waiting_behind waiting)

    pub steps : Under sdr1 own c → (waiting : ℕ → Bool) → Linked s m waiting → Invalidated c (lent_lengths (lengths_of s) c) waiting → Steps waiting
    unfolding bytes_step map_step
    steps under waiting l quiet =
        let g : Goes own.cache k c s.table s.cache s.cache waiting
        = subst (λ (n : ℕ). Goes n k c s.table s.cache s.cache waiting) l.size (goes k s.table s.cache s.cache waiting l.sound refl c.asked c.other quiet) in
        let (told, related) = follows s.table s.cache m l.size l.related c.other c.asked under in
        record {
          told = g.told ∙ told;
          number = ap (λ (x : ℕ × List ℕ). x.0) (g.told ∙ told);
          linked = record {
            sound = g.sound;
            size = length_left c s ∙ l.size;
            related = subst (λ (u : List ℕ). TableRepresents k u tells.state) (sym g.alike.left) related;
          };
        }

  -- ---- a list of calls, and what is left of a longer one

  pub record GoesAlong (calls rest : List Call) (s : State) (m : Map) : Type 0 where
    pub told : run bytes_step calls s ≡ run map_step (map (fed_of own) calls) m
    pub waits : ℕ → Bool
    pub linked : Linked (after bytes_step calls s) (after map_step (map (fed_of own) calls) m) waits
    pub kept : Disciplined rest (after bytes_step calls s) waits

  pub along : (calls rest : List Call) → Each (Under sdr1 own) calls → (s : State) (m : Map) (waiting : ℕ → Bool) → Linked s m waiting
      → Disciplined (calls ++ rest) s waiting → GoesAlong calls rest s m
  unfolding bytes_step map_step
  along [] rest each s m waiting l kept = record { told = refl; waits = waiting; linked = l; kept = kept }
  along (c ∷ calls) rest (under, each) s m waiting l (quiet, kept) =
      let step = steps c s m under waiting l quiet in
      let behind = along calls rest each (calling c s).state (tells c s m).state (waiting_behind c s m waiting) step.linked kept in
      record { told = ap₂ ◌∷◌ step.told behind.told; waits = behind.waits; linked = behind.linked; kept = behind.kept }
