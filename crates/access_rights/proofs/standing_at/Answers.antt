-- `access_rights::standing_at` meets its contract: the page that is searched for is the one that each kind wants.
use mathlib.Core.Path.{◌≡◌, sym, ap, ap₂, ◌∙◌}
use mathlib.Core.Bool.{Bool, true, false}
use Prim.Native.Nat.{ℕ}
use lib.Pow.{shr_mod}
use lib.ListN.{length}
use Rattle.std.specs.Prelude.{Option}
use Rattle.register_words.specs.Sdr1.{mask_ones}
use Rattle.registers.specs.Set.{is_long, sdr1_of, set_words, segment_of}
use Rattle.protection.specs.Access.{user_mode}
use Rattle.translation.specs.Steps.{segment_at, wanted_of}
use Rattle.table_access.specs.Part.{covered_by, table_found}
use Rattle.table_access.specs.declared.Found.{Found}
use Rattle.table_access.proofs.Parts.{covered_is}
use Rattle.access_rights.specs.declared.Standing.{Standing}
use Rattle.access_rights.proofs.standing_at.Goals as goal
use Rattle.access_rights.proofs.standing_at.Goals.{After-wanted_of-wanted}

-- the page that is searched for
wanted_is : (c : After-wanted_of-wanted) → c.wanted_of-wanted.result ≡ wanted_of (user_mode c.args.mode) (segment_at (set_words c.args.registers.bytes.now) c.args.address) c.args.address
wanted_is c =
    let a = c.args in
    c.wanted_of-wanted.ensures
    ∙ ap₂ (λ (user : Bool) (segment : ℕ). wanted_of user segment a.address) c.user_mode-user.ensures
    (c.segment-segment.ensures ∙ ap (segment_of (set_words a.registers.bytes.now)) (sym (shr_mod 4 28 c.ranges.address.fits)))

pub returns : goal.returns
returns c =
    let a = c.args in
    let words = set_words a.registers.bytes.now in
    let k = mask_ones (sdr1_of words) in
    let pair : Bool → Bool → Option ℕ = λ side user. covered_by words side user a.address in
    let stand : Option ℕ → Option ℕ → Found → Standing = λ i d f. record { ibat = i; dbat = d; found = f } in
    let long = is_long (length a.registers.bytes.now) in
    let ibat = covered_is words false _ a.address long _ c.covering_pair.ensures.number c.covering_pair.ensures.own ∙ ap (pair false) c.user_mode-user.ensures in
    let dbat = covered_is words true _ a.address long _ c.covering_pair-2.ensures.number c.covering_pair-2.ensures.own ∙ ap (pair true) c.user_mode-user.ensures in
    ap₂ (λ (i d : Option ℕ). stand i d c.search.result) ibat dbat
    ∙ ap (stand (pair false (user_mode a.mode)) (pair true (user_mode a.mode)))
    (c.search.ensures (sdr1_of words) c.requires ∙ ap (table_found k a.table.now) (wanted_is (goal.at.returns c).After-wanted_of-wanted))
