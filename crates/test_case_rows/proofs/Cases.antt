-- Every row of the twelve cases holds: what there is to compute for it computes.
use mathlib.Core.Path.{refl}
use native.Mathlib.Omega.{arith}
use Rattle.theory_histories.proofs.Computes.{histories_compute}
use Rattle.test_case_rows.specs.Cases.{case1, cases2to5, case6, case7, cases8to10, case11, case12, one_more, exchanged, TwelveCases}
use Rattle.test_case_rows.proofs.Pair.{pair_marked, pair_do}
use Rattle.test_case_rows.proofs.Rows.{Setting, rows_hold}

-- SDR1 0F980007 and 0F980000 with the two groups of the cases' page, and SDR1 0 with groups 0 and 0x3FF
large : Setting 0x0F98 3 0x1FE6 0x0019
large = record { few = omega arith; whole = refl; mirror = refl }

small : Setting 0x0F98 0 0x3E6 0x019
small = record { few = omega arith; whole = refl; mirror = refl }

first : Setting 0 0 0 0x3FF
first = record { few = omega arith; whole = refl; mirror = refl }

pub twelve_cases : TwelveCases
unfolding histories_compute pair_do pair_marked
twelve_cases =
    let hash = rows_hold 0x0F98 3 0x1FE6 0x0019 large case1 (refl, (refl, (refl, (refl, (refl, (refl, tt)))))) in
    let page-8192 = rows_hold 0x0F98 3 0x1FE6 0x0019 large (cases2to5 0x0F980007 0x1FE6 0x0019) (refl, (refl, (refl, (refl, (refl, (refl, (refl, (refl, (refl, tt))))))))) in
    let page-1024 = rows_hold 0x0F98 0 0x3E6 0x019 small (cases2to5 0x0F980000 0x3E6 0x019) (refl, (refl, (refl, (refl, (refl, (refl, (refl, (refl, (refl, tt))))))))) in
    let groups-1024 = rows_hold 0x0F98 0 0x3E6 0x019 small case6 (refl, (refl, tt)) in
    let mask = rows_hold 0x0F98 0 0x3E6 0x019 small (case7 0x0F980005) ((λ lent. refl), ((λ lent. refl), ((λ lent. refl), (refl, tt)))) in
    let origin = rows_hold 0x0F98 3 0x1FE6 0x0019 large (case7 0x0F910007) ((λ lent. refl), ((λ lent. refl), ((λ lent. refl), (refl, tt)))) in
    let blocks-8192 = rows_hold 0x0F98 3 0x1FE6 0x0019 large (cases8to10 0x0F980007) (refl, (refl, (refl, (refl, ((λ lent. refl), (refl, tt)))))) in
    let blocks-1024 = rows_hold 0x0F98 0 0x3E6 0x019 small (cases8to10 0x0F980000) (refl, (refl, (refl, (refl, ((λ lent. refl), (refl, tt)))))) in
    let full = rows_hold 0 0 0 0x3FF first case11 (refl, (refl, (refl, tt))) in
    let freed-one-more = rows_hold 0 0 0 0x3FF first (case12 one_more) (refl, (refl, (refl, (refl, (refl, (refl, (refl, (refl, (refl, (refl, (refl, (refl, (refl, (refl, (refl, (refl, tt)))))))))))))))) in
    let freed-exchanged = rows_hold 0 0 0 0x3FF first (case12 exchanged) (refl, (refl, (refl, (refl, (refl, (refl, (refl, (refl, (refl, (refl, (refl, (refl, (refl, (refl, (refl, (refl, tt)))))))))))))))) in
    record { hold = (hash, (page-8192, (page-1024, (groups-1024, (mask, (origin, (blocks-8192, (blocks-1024, (full, (freed-one-more, (freed-exchanged, tt))))))))))) }
