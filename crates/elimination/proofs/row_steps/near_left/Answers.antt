use Rattle.std.proofs.Common.{◌≡◌, ℕ, ◌+◌, ◌^◌, ◌<◌, ◌≤◌, List, ℤ, ◌-ℤ◌, unsigned_abs, true, arith, subst, IfSome}
use Rattle.std.proofs.lemmas.Int.{ints, to_z-of_z}
use Rattle.std.proofs.lemmas.Option.{IfSome_then}
use Rattle.std.specs.Int.{w64}
use Rattle.quadratic_form.specs.Tables.{entry}
use Rattle.elimination.specs.Quotients.{AreQuotients}
use Rattle.elimination.specs.StepEntries.{is_small}
use Rattle.elimination.specs.RowSteps.{IsLeft}
use Rattle.elimination.proofs.RowWords.{word, read, read_size}
use Rattle.elimination.proofs.QuotientSteps.{both_some, ThreeLeft, three_left, quotient_of, three_taken}
use Rattle.elimination.proofs.row_steps.near_left.Goals as goal
use Rattle.elimination.proofs.row_steps.near_left.Goals.{After-less_quotients}

loss_word : (x : ℤ) → unsigned_abs x ≤ 2 ^ 60 + 1 → word x ≡ x
loss_word x h = omega (arith, ints)

pub times-requires : goal.times-requires
times-requires c =
    let three : 3 ≤ c.args.count = c.if-count-lt-BASELINE_COLUMNS.false in
    read_size c.at.result (entry c.args.rows.now 0 c.args.c) c.at.ensures.value (c.requires.entries 0 (omega arith))

pub times-requires-2 : goal.times-requires-2
times-requires-2 c =
    let three : 3 ≤ c.args.count = c.if-count-lt-BASELINE_COLUMNS.false in
    read_size c.at-2.result (entry c.args.rows.now 1 c.args.c) c.at-2.ensures.value (c.requires.entries 1 (omega arith))

pub times-requires-3 : goal.times-requires-3
times-requires-3 c =
    let three : 3 ≤ c.args.count = c.if-count-lt-BASELINE_COLUMNS.false in
    read_size c.at-3.result (entry c.args.rows.now 2 c.args.c) c.at-3.ensures.value (c.requires.entries 2 (omega arith))

left_by : (c : After-less_quotients) (n r : ℕ) → r < c.args.c → AreQuotients c.args.rows.now r c.args.count c.args.quotients.now →
    ThreeLeft c.args.rows.now n r c.args.c c.args.number c.in_ok-first.first c.in_ok-second.second c.in_ok-third.third
left_by c n r h s =
    let q : List (List ℤ) = c.args.rows.now in
    let k : ℕ = c.args.c in
    let all : 3 ≤ c.args.count = c.if-count-lt-BASELINE_COLUMNS.false in
    let o = c.args.quotients.now in
    let x : word c.at.result ≡ entry c.args.rows.now 0 c.args.c = read c.at.result (entry q 0 k) c.at.ensures.value (c.requires.entries 0 (omega (arith, all))) in
    let y : word c.at-2.result ≡ entry c.args.rows.now 1 c.args.c = read c.at-2.result (entry q 1 k) c.at-2.ensures.value (c.requires.entries 1 (omega (arith, all))) in
    let z : word c.at-3.result ≡ entry c.args.rows.now 2 c.args.c = read c.at-3.result (entry q 2 k) c.at-3.ensures.value (c.requires.entries 2 (omega (arith, all))) in
    three_left q n r k c.args.number c.in_ok-first.first c.in_ok-second.second c.in_ok-third.third h
    (quotient_of q 0 r k o.first (word c.at.result) c.in_ok-first.first c.in_ok-first.ensures.value x (s 0 (omega (arith, all)) (omega arith)))
    (quotient_of q 1 r k o.second (word c.at-2.result) c.in_ok-second.second c.in_ok-second.ensures.value y (s 1 (omega (arith, all)) (omega arith)))
    (quotient_of q 2 r k o.third (word c.at-3.result) c.in_ok-third.third c.in_ok-third.ensures.value z (s 2 (omega (arith, all)) (omega arith)))

pub returns-clause-left : goal.returns-clause-left
returns-clause-left c =
    let q : List (List ℤ) = c.args.rows.now in
    let all : 3 ≤ c.args.count = c.if-count-lt-BASELINE_COLUMNS.false in
    let three : 3 ≡ c.args.count = omega (arith, all, c.requires.count) in
    let number : word c.args.number ≡ c.args.number = to_z-of_z w64 c.args.number c.ranges.number in
    let first : word c.in_ok-first.first ≡ c.in_ok-first.first = loss_word c.in_ok-first.first c.in_ok-first.ensures.size in
    let second : word c.in_ok-second.second ≡ c.in_ok-second.second = loss_word c.in_ok-second.second c.in_ok-second.ensures.size in
    let third : word c.in_ok-third.third ≡ c.in_ok-third.third = loss_word c.in_ok-third.third c.in_ok-third.ensures.size in
    let value : IfSome c.less_quotients.result (λ x. x ≡ ((c.args.number -ℤ c.in_ok-first.first) -ℤ c.in_ok-second.second) -ℤ c.in_ok-third.third) =
    rw (number, first, second, third) at c.less_quotients.ensures.value in
    let small_one : IfSome c.less_quotients.result (λ x. is_small (c.args.number -ℤ c.in_ok-first.first) ≡ true) = rw (number, first) at c.less_quotients.ensures.small_first in
    let small_two : IfSome c.less_quotients.result (λ x. is_small ((c.args.number -ℤ c.in_ok-first.first) -ℤ c.in_ok-second.second) ≡ true) =
    rw (number, first, second) at c.less_quotients.ensures.small_second in
    let last = both_some c.less_quotients.result _ _ value c.less_quotients.ensures.small in
    let each = both_some c.less_quotients.result _ _ small_one (both_some c.less_quotients.result _ _ small_two last) in
    IfSome_then c.less_quotients.result each (λ x a. λ n r h s. subst (λ (m : ℕ). IsLeft q n r c.args.c m c.args.number x) three
    (three_taken q n r c.args.c c.args.number c.in_ok-first.first c.in_ok-second.second c.in_ok-third.third x (left_by c n r h s) a.1.1.0 a.0 a.1.0 a.1.1.1))
