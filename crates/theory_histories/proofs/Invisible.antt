-- Nobody can tell a disciplined list of calls from the same list without the cache: along the list every place of a set that does not wait for an
-- invalidate is backed by the table, each call keeps this, and an access with such a cache is alike.
use Prim.Native.Nat.{ℕ, ◌+◌, ◌*◌, ◌-◌, ◌^◌, ◌<◌}
use mathlib.Core.Path.{◌≡◌, refl, sym, ap, ◌∙◌, subst}
use mathlib.Core.Bool.{Bool, true, false, not, cond, ◌&&◌, ◌||◌, true≢false}
use mathlib.Core.List.{List, [], ◌∷◌}
use mathlib.Core.Option.{Option, none, some, some-ne-none}
use native.Mathlib.Omega.{arith}
use lib.Dec.{eqb}
use lib.ListN.{length, get_or}
use borrow.Author.Tests.{eqb-true, eqb-false, eq-eqb, ne_eqb}
use lib.Ieee.{size}
use Rattle.words.specs.Words.{word_at}
use Rattle.words.proofs.Below.{every_not}
use Rattle.words.proofs.Ones.{size_ones}
use Rattle.words.proofs.Tests.{by_test}
use Rattle.register_words.specs.Sdr1.{mask_ones}
use Rattle.groups.specs.declared.Page.{Page}
use Rattle.groups.specs.Page.{InRange}
use Rattle.theory_tables.specs.Layout.{matches_of}
use Rattle.translation.specs.Operand.{over_edge}
use Rattle.translation.specs.declared.Early.{Early}
use Rattle.translation.specs.declared.Early.TheVariants.{Decided, Search}
use Rattle.cache.specs.Cache.{set_of, place_at, first_in, second_in, holds, set_zeroed}
use Rattle.cache.proofs.Cache.{holds_zeros, length_loaded, length_zeroed, zeroed_holds, set_lt}
use Rattle.theory_calls.specs.Request.{AccessCall, Request, access, sdr1_in, fed}
use Rattle.theory_calls.specs.Rules.{refusal}
use Rattle.theory_calls.specs.Answers.{refused_bytes, answer_refused, seen_of, compared}
use Rattle.theory_calls.specs.OnBytes.{by_option, layout, wanted_page, early_of, bytes_do, on_bytes}
use Rattle.theory_calls.specs.Represents.{GoodTable}
use Rattle.theory_calls.proofs.OnBytes.{taken, refused}
use Rattle.theory_calls.proofs.AnyEntries.{by_matches_law}
use Rattle.theory_calls.proofs.TakenCalls.{good_table}
use Rattle.theory_cache.specs.Cached.{missed, loaded_by, taken as takenFrom, taken_part, cached_does, cached_refusal, on_cached, invalidate_refusal, invalidate_call}
use Rattle.theory_cache.specs.Shown.{answered_by_hit}
use Rattle.theory_cache.proofs.AnyCache.{by_refusal}
use Rattle.theory_cache.proofs.Backed.{Backed}
use Rattle.theory_cache.proofs.Refusals.{right_refusal, wrong_refusal, cached_taken, cached_refused}
use Rattle.theory_cache.proofs.Parts.{AllBacked, result_same, answer_same, compared_alike, whole_left, Midway}
use Rattle.theory_histories.specs.Calls.{Asked, plain, cached, invalidate, rights, Slices, slices, Call, State, on_lent, lent_for, left_for, calling, lent_lengths, refusal_of}
use Rattle.theory_histories.specs.Fed.{seen_in}
use Rattle.theory_histories.specs.Discipline.{leaves_stale, waiting_after, Invalidated, Disciplined, filled}
use Rattle.theory_histories.specs.Invisible.{plainly, without_cache, shown, Alike, AllAlike, zero_cache, none_waits}
use Rattle.theory_histories.proofs.Stale.{Keeps, keeps}

-- every place of a set that does not wait is backed
pub record Sound (k : ℕ) (t cache : List ℕ) (waiting : ℕ → Bool) : Type 0 where
  pub fine : GoodTable k t
  pub backed : (page : Page) → InRange page → (place : Bool) → waiting (set_of page.index) ≡ false → holds cache page place ≡ true
      → Backed k t page (first_in cache page.index place) (second_in cache page.index place)

-- a table's length tells the mask
same_mask : (k m : ℕ) (t : List ℕ) → GoodTable k t → GoodTable m t → k ≡ m
same_mask k m t a b =
    let e : 65536 * 2 ^ k ≡ 65536 * 2 ^ m = sym a.long ∙ b.long in
    let powers : 2 ^ k - 1 ≡ 2 ^ m - 1 = omega (arith, e) in
    sym (size_ones k) ∙ ap size powers ∙ size_ones m

pub mask_is : (k : ℕ) (t : List ℕ) → GoodTable k t → (request : Request (List ℕ)) → refusal (fed request) (length t) ≡ 0 → k ≡ mask_ones (sdr1_in request)
mask_is k t good request e = same_mask k (mask_ones (sdr1_in request)) t good (good_table request t (record { not_refused = e; bytes = good.bytes }))

-- ---- the length of a cache

length_load : (k : ℕ) (early : Early) (result : ℕ) (table cache : List ℕ) → length (loaded_by k early result table cache) ≡ length cache
unfolding loaded_by
length_load k (Decided outcome) result table cache = refl
length_load k (Search wanted) result table cache =
    by_test (eqb result 0)
    (λ z.
    by_matches_law (matches_of (layout k) table (wanted_page wanted)) (λ none-there. rw (z, none-there))
    (λ x xs there. rw (z, there) (length_loaded (wanted_page wanted) x.first x.second cache)))
    (λ z. rw z)

length_part : (k : ℕ) (c : AccessCall (List ℕ)) (lent : List ℕ × List ℕ) (result : ℕ) (second : Bool) (left : List ℕ × List ℕ)
    → length (taken_part k c lent result second left).1 ≡ length left.1
unfolding taken_part takenFrom
length_part k c lent result second left =
    by_test (missed k c.kind lent.0 lent.1 (early_of c second)) (λ e. rw e (length_load k (early_of c second) result _ left.1)) (λ e. rw e)

pub length_cached : (c : AccessCall (List ℕ)) (t cache : List ℕ) → length (on_cached c (t, cache)).state.1 ≡ length cache
unfolding cached_does
length_cached c t cache =
    by_refusal c t cache (λ e. length e.state.1 ≡ length cache)
    (λ zero.
    by_test (over_edge c.address c.length)
    (λ over. rw over (length_part _ c (t, cache) _ true _ ∙ length_part _ c (t, cache) _ false (t, cache)))
    (λ one. rw one (length_part _ c (t, cache) _ false (t, cache))))
    (λ n. refl)

pub length_invalidated : (index : ℕ) (cache : List ℕ) → length (invalidate_call index cache).1 ≡ length cache
unfolding invalidate_call
length_invalidated index cache = by_test (eqb (invalidate_refusal index (length cache)) 0) (λ z. rw z (length_zeroed index cache)) (λ z. rw z)

-- of the list's own cache
pub length_left : (c : Call) (s : State) → length (calling c s).state.cache ≡ length s.cache
unfolding calling on_lent
length_left c s = go c.asked c.other.cache
  where
    go : (asked : Asked (List ℕ)) (o : Option (List ℕ))
        → length (left_for o s.cache (on_lent asked (slices (lent_for c.other.table s.table) (lent_for o s.cache))).state.cache) ≡ length s.cache
    go (plain request) none = refl
    go (cached a) none = length_cached a (lent_for c.other.table s.table) s.cache
    go (invalidate index) none = length_invalidated index s.cache
    go (rights a answer) none = refl
    go asked (some slice) = refl

-- ---- a call that is lent no cache

waits_same : (a b : Bool) → (a && not (b && false)) ≡ false → a ≡ false
waits_same true true e = e
waits_same true false e = e
waits_same false b e = refl

or_false : (a b : Bool) → (a || b) ≡ false → (a ≡ false) × (b ≡ false)
or_false true b e = absurd (true≢false e)
or_false false b e = (refl, e)

module _ (k : ℕ) (t : List ℕ) (good : GoodTable k t) (request : Request (List ℕ)) where
  request_keeps : Keeps k request t (on_bytes request t)
  request_keeps =
      let number = refusal (fed request) (length t) in
      by_test (eqb number 0)
      (λ z.
      let e = eqb-true number 0 z in
      rw (taken request t e, sym (mask_is k t good request e)) (keeps k t good request (length t) e))
      (λ z. rw (refused request t number refl (eqb-false number 0 z)) (record { fine = good; still = λ page v f s fresh b. b }))

-- the length of what is lent in the place of a slice
pub length_lent : (o : Option (List ℕ)) (own : List ℕ) → length (lent_for o own) ≡ by_option o (length own) length
length_lent none own = refl
length_lent (some slice) own = refl

-- a slice that the call leaves as it was lent
pub left_lent : (o : Option (List ℕ)) (own : List ℕ) → left_for o own (lent_for o own) ≡ own
left_lent none own = refl
left_lent (some slice) own = refl

-- a refused access was not answered by a hit
no_hit : (c : AccessCall (List ℕ)) (t cache : List ℕ) → (cached_refusal c (length t) (length cache) ≡ 0 → ⊥) → answered_by_hit c t cache ≡ false
unfolding answered_by_hit
no_hit c t cache n = rw (ne_eqb (cached_refusal c (length t) (length cache)) 0 n)

-- what a call comes to beside the call without the cache, on a cache of the same length: alike, and the cache is sound again
pub record Goes (own k : ℕ) (c : Call) (t cache other : List ℕ) (waiting : ℕ → Bool) : Type 0 where
  pub alike : Alike own c (slices t cache) (slices t other)
  pub told : let e = calling c (slices t cache) in let d = calling (without_cache own c) (slices t other) in
      compared (seen_in c.asked) e.number e.answer ≡ compared (seen_in (without_cache own c).asked) d.number d.answer
  pub sound : let e = calling c (slices t cache) in
      Sound k e.state.table e.state.cache (waiting_after c.asked c.other.cache (eqb e.number 0) waiting)

module _ (k : ℕ) (t cache other : List ℕ) (waiting : ℕ → Bool) (s : Sound k t cache waiting) (same : length other ≡ length cache) where
  abbrev own : Slices ℕ
  own = slices (length t) (length cache)

  abbrev Going : Asked (List ℕ) → Slices (Option (List ℕ)) → Type 0
  Going asked o = Goes (length cache) k (record { asked = asked; other = o }) t cache other waiting

  plain_goes : (request : Request (List ℕ)) (o : Slices (Option (List ℕ))) → Going (plain request) o
  unfolding calling on_lent plainly shown
  plain_goes request o = record {
    alike = record { number = refl; answer = refl; left = refl };
    told = refl;
    sound = rw (left_lent o.cache cache) (go o.table);
  }
    where
      stale : ℕ → ℕ → Bool
      stale number set = leaves_stale request set && eqb number 0

      go : (lent : Option (List ℕ)) → let e = on_bytes request (lent_for lent t) in
          Sound k (left_for lent t e.state) cache (λ set. waiting set || stale e.number set)
      go none =
          let kept = request_keeps k t s.fine request in
          record {
            fine = kept.fine;
            backed = λ page v place quiet held.
                let (w, f) = or_false (waiting (set_of page.index)) (stale (on_bytes request t).number (set_of page.index)) quiet in
                kept.still page v _ _ f (s.backed page v place w held);
          }
      go (some slice) = record {
        fine = s.fine;
        backed = λ page v place quiet held.
            s.backed page v place (or_false (waiting (set_of page.index)) (stale (on_bytes request slice).number (set_of page.index)) quiet).0 held;
      }

  -- ---- an access with the cache

  module _ (c : AccessCall (List ℕ)) where
    abbrev asks : Asked (List ℕ)
    asks = cached c

    -- on the list's own table and cache, where no rule refuses it
    module _ (kept : cached_refusal c (length t) (length cache) ≡ 0) (quiet : (set : ℕ) → set < 64 → waiting set ≡ false) where
      long : length cache ≡ 2048
      long =
          by_test (eqb (length cache) 2048) (λ e. eqb-true (length cache) 2048 e)
          (λ e. absurd (let z : ◌≡◌ {A = ℕ} 11 0 = sym (wrong_refusal c t cache (length t) (length cache) (eqb-false (length cache) 2048 e)) ∙ kept in omega arith))

      e : refusal (fed (access c)) (length t) ≡ 0
      e = sym (right_refusal c t cache (length t) (length cache) long) ∙ kept

      abbrev m : ℕ
      m = mask_ones (sdr1_in (access c))

      is_m : k ≡ m
      is_m = mask_is k t s.fine (access c) e

      fine : GoodTable m t
      fine = subst (λ (n : ℕ). GoodTable n t) is_m s.fine

      here : AllBacked m t cache
      here = subst (λ (n : ℕ). AllBacked n t cache) is_m (λ page v place held. s.backed page v place (quiet (set_of page.index) (set_lt page.index)) held)

      with_it : on_cached c (t, cache) ≡ cached_does m c (t, cache)
      with_it = cached_taken c t cache kept

      without_it : on_bytes (access c) t ≡ bytes_do m (access c) t
      without_it = taken (access c) t e

      done_left : ((on_cached c (t, cache)).state.0 ≡ (on_bytes (access c) t).state)
          × Midway m c t cache fine here (on_cached c (t, cache)).state.0 (on_cached c (t, cache)).state.1
      unfolding cached_does bytes_do
      done_left = rw (with_it, without_it) (whole_left m c t cache fine here long)

      left_backed : AllBacked k (on_cached c (t, cache)).state.0 (on_cached c (t, cache)).state.1
      left_backed = subst (λ (n : ℕ). AllBacked n (on_cached c (t, cache)).state.0 (on_cached c (t, cache)).state.1) (sym is_m) done_left.1.backed

      done_goes : Going asks (slices none none)
      unfolding calling on_lent plainly shown answered_by_hit cached_does bytes_do seen_in seen_of
      done_goes = rw long (record {
        alike = record {
          number = rw (with_it, without_it) (result_same m c t cache fine here);
          answer = rw (with_it, without_it, eq-eqb (cached_refusal c (length t) (length cache)) 0 kept) (answer_same m c t cache fine here);
          left = done_left.0;
        };
        told = rw (with_it, without_it) (compared_alike m c t cache fine here);
        sound = record {
          fine = subst (λ (n : ℕ). GoodTable n (on_cached c (t, cache)).state.0) (sym is_m) done_left.1.fine;
          backed = λ page v place q held. left_backed page v place held;
        };
      })

    -- refused by its arguments and lengths, whatever slices it is lent
    module _ (o : Slices (Option (List ℕ))) where
      abbrev lent_table : List ℕ
      lent_table = lent_for o.table t

      abbrev lent_cache : List ℕ
      lent_cache = lent_for o.cache cache

      -- what is lent in the list without the cache, of the same length
      abbrev other_cache : List ℕ
      other_cache = lent_for o.cache other

      same_lent : length other_cache ≡ length lent_cache
      same_lent = go o.cache
        where
          go : (x : Option (List ℕ)) → length (lent_for x other) ≡ length (lent_for x cache)
          go none = same
          go (some slice) = refl

      refused_goes : (cached_refusal c (length lent_table) (length lent_cache) ≡ 0 → ⊥) → Going asks o
      unfolding calling on_lent plainly shown seen_in seen_of answer_refused refused_bytes
      refused_goes n =
          by_test (eqb (length lent_cache) 2048)
          (λ z.
          let number = refusal (fed (access c)) (length lent_table) in
          let is = right_refusal c lent_table lent_cache (length lent_table) (length lent_cache) (eqb-true (length lent_cache) 2048 z) in
          let with_it = cached_refused c lent_table lent_cache number is (λ zero. n (is ∙ zero)) in
          let without_it = refused (access c) lent_table number refl (λ zero. n (is ∙ zero)) in
          let right = tested true z in
          record {
            alike = record { number = rw (right, with_it, without_it); answer = rw (right, with_it, without_it, no_hit c lent_table lent_cache n); left = rw (right, with_it, without_it) };
            told = rw (right, with_it, without_it);
            sound = rw (with_it, left_lent o.table t, left_lent o.cache cache) s;
          })
          (λ z.
          let wrong = eqb-false (length lent_cache) 2048 z in
          let eleven = wrong_refusal c lent_table lent_cache (length lent_table) (length lent_cache) wrong in
          let other-eleven = wrong_refusal c lent_table other_cache (length lent_table) (length other_cache) (λ e. wrong (sym same_lent ∙ e)) in
          let with_it = cached_refused c lent_table lent_cache 11 eleven (λ zero. omega arith) in
          let without_it = cached_refused c lent_table other_cache 11 other-eleven (λ zero. omega arith) in
          let other_length = tested false z in
          record {
            alike = record {
              number = rw (other_length, with_it, without_it);
              answer = rw (other_length, with_it, without_it, no_hit c lent_table lent_cache n);
              left = rw (other_length, with_it, without_it);
            };
            told = rw (other_length, with_it, without_it);
            sound = rw (with_it, left_lent o.table t, left_lent o.cache cache) s;
          })
        where
          tested : (b : Bool) → eqb (length lent_cache) 2048 ≡ b → eqb (by_option o.cache (length cache) length) 2048 ≡ b
          tested b z = ap (λ (n : ℕ). eqb n 2048) (sym (length_lent o.cache cache)) ∙ z

    cached_goes : (o : Slices (Option (List ℕ))) → Invalidated (record { asked = asks; other = o }) (lent_lengths own (record { asked = asks; other = o })) waiting → Going asks o
    unfolding refusal_of
    cached_goes o quiet =
        let lent : cached_refusal c (length (lent_table o)) (length (lent_cache o)) ≡ cached_refusal c (by_option o.table (length t) length) (by_option o.cache (length cache) length)
        = rw (length_lent o.table t, length_lent o.cache cache) in
        by_test (eqb (cached_refusal c (length (lent_table o)) (length (lent_cache o))) 0)
        (λ z.
        let zero = eqb-true (cached_refusal c (length (lent_table o)) (length (lent_cache o))) 0 z in
        let (own_table, own-cache, none-waits) = quiet c refl (sym lent ∙ zero) in
        go o.table o.cache own_table own-cache zero none-waits)
        (λ z. refused_goes o (eqb-false (cached_refusal c (length (lent_table o)) (length (lent_cache o))) 0 z))
      where
        go : (x y : Option (List ℕ)) → x ≡ none → y ≡ none → cached_refusal c (length (lent_for x t)) (length (lent_for y cache)) ≡ 0
            → ((set : ℕ) → set < 64 → waiting set ≡ false) → Going asks (slices x y)
        go none none a b zero none-waits = done_goes zero none-waits
        go (some slice) y a b zero none-waits = absurd (some-ne-none slice a)
        go none (some slice) a b zero none-waits = absurd (some-ne-none slice b)

  -- ---- an invalidate, and what three accesses would come to

  module _ (index : ℕ) where
    -- the sets that wait behind an invalidate of the list's own cache, where it was done or not
    abbrev waiting_then : Bool → ℕ → Bool
    waiting_then isDone set = waiting set && not (eqb (set_of index) set && isDone)

    waits_not : (a : Bool) → (a && not (false && true)) ≡ a
    waits_not true = refl
    waits_not false = refl

    zeroed_sound : length cache ≡ 2048 → Sound k t (set_zeroed index cache) (waiting_then true)
    zeroed_sound long = record {
      fine = s.fine;
      backed = λ page v place quiet held.
          let (apart, was, first, second) = zeroed_holds index cache page place long held in
          rw (first, second)
          (s.backed page v place (sym (waits_not (waiting (set_of page.index))) ∙ ap (λ (b : Bool). waiting (set_of page.index) && not (b && true)) (sym (ne_eqb (set_of index) (set_of page.index) apart)) ∙ quiet) was);
    }

    unzeroed_sound : Sound k t cache (waiting_then false)
    unzeroed_sound = record {
      fine = s.fine;
      backed = λ page v place quiet held.
          s.backed page v place (waits_same (waiting (set_of page.index)) (eqb (set_of index) (set_of page.index)) quiet) held;
    }

    -- one that is done is lent a cache of right length
    long_cache : invalidate_refusal index (length cache) ≡ 0 → length cache ≡ 2048
    unfolding invalidate_refusal
    long_cache zero =
        by_test (eqb (length cache) 2048) (λ e. eqb-true (length cache) 2048 e)
        (λ e. absurd (let z : ◌≡◌ {A = ℕ} 11 0 = rw e at zero in omega arith))

    left_sound : (isDone : Bool) → eqb (invalidate_refusal index (length cache)) 0 ≡ isDone → Sound k t (cond isDone (set_zeroed index cache) cache) (waiting_then isDone)
    left_sound true z = zeroed_sound (long_cache (eqb-true (invalidate_refusal index (length cache)) 0 z))
    left_sound false z = unzeroed_sound

    invalidate_goes : (o : Slices (Option (List ℕ))) → Going (invalidate index) o
    unfolding calling on_lent plainly shown invalidate_call seen_in
    invalidate_goes o = go o.cache
      where
        go : (lent : Option (List ℕ)) → Going (invalidate index) (slices o.table lent)
        go none = record {
          alike = record { number = rw same; answer = refl; left = refl };
          told = rw same;
          sound = rw (left_lent o.table t) (left_sound (eqb (invalidate_refusal index (length cache)) 0) refl);
        }
        go (some slice) = record {
          alike = record { number = refl; answer = refl; left = refl };
          told = refl;
          sound = rw (left_lent o.table t) unzeroed_sound;
        }

  -- ---- any call

  pub goes : (asked : Asked (List ℕ)) (o : Slices (Option (List ℕ))) → Invalidated (record { asked = asked; other = o }) (lent_lengths own (record { asked = asked; other = o })) waiting → Going asked o
  unfolding calling on_lent plainly shown
  goes (plain request) o quiet = plain_goes request o
  goes (cached c) o quiet = cached_goes c o quiet
  goes (invalidate index) o quiet = invalidate_goes index o
  goes (rights c answer) o quiet = record {
    alike = record { number = refl; answer = refl; left = refl };
    told = refl;
    sound = rw (left_lent o.table t, left_lent o.cache cache) s;
  }

-- ---- a list of calls

-- from a table and caches of n bytes
pub all_alike : (calls : List Call) (k n : ℕ) (t cache other : List ℕ) (waiting : ℕ → Bool) → Sound k t cache waiting → length cache ≡ n → length other ≡ n
    → Disciplined calls (slices t cache) waiting → AllAlike n calls (slices t cache) (slices t other)
all_alike [] k n t cache other waiting s long short d = tt
all_alike (c ∷ cs) k n t cache other waiting s long short (quiet, rest) =
    let g : Goes n k c t cache other waiting
    = subst (λ (m : ℕ). Goes m k c t cache other waiting) long (goes k t cache other waiting s (short ∙ sym long) c.asked c.other quiet) in
    let left = (calling c (slices t cache)).state in
    let without = (calling (without_cache n c) (slices t other)).state in
    let behind = all_alike cs k n left.table left.cache without.cache _ g.sound
    (length_left c (slices t cache) ∙ long) (length_left (without_cache n c) (slices t other) ∙ short) rest in
    (g.alike, subst (λ (u : List ℕ). AllAlike n cs left (slices u without.cache)) g.alike.left behind)

-- ---- how a list begins

-- a set of zeros holds nothing
module _ (cache : List ℕ) (page : Page) (quiet : filled cache (set_of page.index) ≡ false) where
  set_byte : (i : ℕ) → i < 32 → get_or cache (32 * set_of page.index + i) 0 ≡ 0
  unfolding filled
  set_byte i few =
      by_test (eqb (get_or cache (32 * set_of page.index + i) 0) 0) (λ z. eqb-true _ 0 z)
      (λ z. absurd (true≢false (ap not (every_not (λ j. eqb (get_or cache (32 * set_of page.index + j) 0) 0) 32 i few z) ∙ quiet)))

  place_byte : (place : Bool) (i j : ℕ) → i ≡ place_at page.index place + j → j < 4 → get_or cache i 0 ≡ 0
  unfolding place_at
  place_byte true i j e few = ap (λ (n : ℕ). get_or cache n 0) (omega arith) ∙ set_byte (16 + j) (omega arith)
  place_byte false i j e few = ap (λ (n : ℕ). get_or cache n 0) (omega arith) ∙ set_byte j (omega arith)

  holds_none : (place : Bool) → holds cache page place ≡ false
  unfolding holds word_at
  holds_none place =
      let b = place_at page.index place in
      rw (place_byte place b 0 (omega arith) (omega arith), place_byte place (b + 1) 1 refl (omega arith), place_byte place (b + 2) 2 refl (omega arith), place_byte place (b + 3) 3 refl (omega arith))

pub filled_sound : (k : ℕ) (t cache : List ℕ) → GoodTable k t → Sound k t cache (filled cache)
filled_sound k t cache good =
    record { fine = good; backed = λ page v place quiet held. absurd (true≢false (sym held ∙ holds_none cache page quiet place)) }

-- and so does a cache of zeros
pub zeros_sound : (k : ℕ) (t : List ℕ) → GoodTable k t → Sound k t zero_cache none_waits
zeros_sound k t good = record { fine = good; backed = λ page v place quiet held. absurd (true≢false (sym held ∙ holds_zeros page place)) }
