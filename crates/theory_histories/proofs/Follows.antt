-- One request of a history on the list's own table, or on a slice of another length, answers what the finite map answers, and table and map stay related.
use Prim.Native.Nat.{ℕ}
use mathlib.Core.Path.{◌≡◌, refl}
use mathlib.Core.Bool.{true}
use mathlib.Core.List.{List}
use mathlib.Core.Option.{Option, none, some}
use lib.ListN.{length}
use Rattle.register_words.specs.Sdr1.{sdr1_shape, table_length, mask_ones}
use Rattle.theory_calls.specs.Request.{Request, sdr1_in, fed}
use Rattle.theory_calls.specs.Rules.{refusal}
use Rattle.theory_calls.specs.Answers.{seen_of, compared}
use Rattle.theory_calls.specs.OnBytes.{Ended, by_option, on_bytes}
use Rattle.theory_calls.specs.OnMap.{Map, on_map}
use Rattle.theory_calls.specs.Represents.{TableRepresents}
use Rattle.theory_calls.proofs.Histories.{own_follows, wrong_length, refused_alike_law}
use Rattle.theory_histories.specs.Calls.{lent_for, left_for}

-- an SDR1 of right shape, and the length of its table
module _ (sdr1 size : ℕ) (shape : sdr1_shape sdr1 ≡ true) (long : size ≡ table_length sdr1) where
  abbrev pub ones : ℕ
  ones = mask_ones sdr1

  -- a request that brings the SDR1 unless it is refused, and another slice in the table's place only of another length
  abbrev pub Brings : Request (List ℕ) → Option (List ℕ) → Type 0
  Brings request o =
      refusal (fed request) (by_option o size length) ≡ 0 → (sdr1_in request ≡ sdr1) × ((other : List ℕ) → o ≡ some other → length other ≡ size → ⊥)

  module _ (request : Request (List ℕ)) (o : Option (List ℕ)) (t : List ℕ) (m : Map) where
    -- on what is lent as the table, and on the map
    abbrev pub on_lent_table : Ended (List ℕ)
    on_lent_table = on_bytes request (lent_for o t)

    abbrev pub on_fed_map : Ended Map
    on_fed_map = on_map (fed request) (by_option o size length) m

    pub record TableFollows : Type 0 where
      pub number : on_lent_table.number ≡ on_fed_map.number
      pub told : compared (seen_of request) on_lent_table.number on_lent_table.answer ≡ compared (seen_of (fed request)) on_fed_map.number on_fed_map.answer
      pub related : TableRepresents ones (left_for o t on_lent_table.state) on_fed_map.state

  pub table_follows : (request : Request (List ℕ)) (o : Option (List ℕ)) (t : List ℕ) (m : Map) → TableRepresents ones t m → Brings request o → TableFollows request o t m
  table_follows request none t m r brings =
      let a = own_follows sdr1 size shape long request t m r (λ e. (brings e).0) in
      record { number = a.number; told = a.told; related = a.related }
  table_follows request (some slice) t m r brings =
      let a = refused_alike_law request slice m (λ e. wrong_length sdr1 size shape long request (length slice) (brings e).0 ((brings e).1 slice refl) e) in
      record { number = a.number; told = a.told; related = rw a.left r }
