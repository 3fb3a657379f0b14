-- Request 8: two lists of calls that differ in one map or unmap which one of them lacks stay near: after each later call, each has at most one mapped page
-- that the other lacks.
use Rattle.std.specs.Prelude.{ℕ, List, [], ◌∷◌, ◌++◌, map, ◌≡◌, replicate}
use Rattle.std.proofs.Math.Option.{some}
use Rattle.numbers.specs.Numbers.{done, refused_no_match, answer_size}
use Rattle.theory_placement.specs.FiniteMap.{fields_at}
use Rattle.theory_tables.specs.Runs.{after}
use Rattle.groups.specs.declared.Page.{Page}
use Rattle.groups.specs.Page.{same_page}
use Rattle.theory_calls.specs.Request.{MapCall, AnsweredCall, Request, map_page, unmap, look}
use Rattle.theory_calls.specs.OnBytes.{on_bytes}
use Rattle.theory_calls.specs.OnMap.{PageFields, Map}
use Rattle.theory_histories.specs.Calls.{Call, plain}
use Rattle.theory_histories.specs.Fed.{fed_of, bytes_step, map_step}
use Rattle.theory_histories.specs.Histories.{History, own, begun}

-- a call that may be lost: a map or an unmap, whatever it brings
pub data MapOrUnmap : Request (List ℕ) → Type 0 where
  a_map : (c : MapCall) → MapOrUnmap (map_page c)
  an_unmap : (c : AnsweredCall (List ℕ)) → MapOrUnmap (unmap c)

-- a history whose calls are some before the lost one, the lost one, and some behind it; its table and cache begin as any. As the calls behind are any list,
-- what is said here is said after each later call.
pub record LostCall : Type 0 where
  pub history : History
  pub before : List Call
  pub lost : Call
  pub behind : List Call
  pub whole : history.calls ≡ before ++ lost ∷ behind
  pub request : Request (List ℕ)
  pub asks : lost.asked ≡ plain request
  pub may_be_lost : MapOrUnmap request

module _ (h : LostCall) where
  -- the calls of the list that lacks it
  abbrev pub lacking : List Call
  lacking = h.before ++ h.behind

  -- the finite map after a list of calls, and the table
  abbrev pub map_after_run : List Call → Map
  map_after_run calls = after map_step (map (fed_of (own h.history)) calls) []

  abbrev pub table_after_run : List Call → List ℕ
  table_after_run calls = (after bytes_step calls (begun h.history)).table

  -- the number that a look of a page answers
  abbrev pub looked_up : List ℕ → Page → ℕ
  looked_up t page = (on_bytes (look (record { sdr1 = h.history.sdr1; page = page; answer = replicate answer_size 0 })) t).number

-- a page is mapped
abbrev pub Mapped : Map → Page → Type 0
Mapped m page = (f : PageFields) × (fields_at same_page page m ≡ some f)

-- at most one page is here that is missing there
abbrev pub AtMostOneMore : (Page → Type 0) → (Page → Type 0) → Type 0
AtMostOneMore Here Missing = (p q : Page) → Here p → Missing p → Here q → Missing q → p ≡ q

pub record OneLostCall : Type 0 where
  -- the finite maps: at most one page is mapped in the one and not in the other, each way
  pub maps : (h : LostCall) → let m = map_after_run h h.history.calls in let n = map_after_run h (lacking h) in
      AtMostOneMore (Mapped m) (λ page. Mapped n page → ⊥) × AtMostOneMore (Mapped n) (λ page. Mapped m page → ⊥)
  -- the tables: at most one page is found by a look in the one and refused as not mapped in the other, each way
  pub tables : (h : LostCall) → let t = table_after_run h h.history.calls in let u = table_after_run h (lacking h) in
      AtMostOneMore (λ page. looked_up h t page ≡ done) (λ page. looked_up h u page ≡ refused_no_match)
      × AtMostOneMore (λ page. looked_up h u page ≡ done) (λ page. looked_up h t page ≡ refused_no_match)
