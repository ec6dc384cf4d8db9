use Rattle.std.proofs.Common.{rules, ◌≡◌, ℕ, ◌+◌, ◌^◌, ◌<◌, ◌≤◌, length, List, set, replicate, Option, pos, neg_ℤ, ◌-ℤ◌, ℤ, unsigned_abs, arith, to_z, of_z, ap, sym, ◌∙◌, subst}
use Rattle.std.specs.Int.{w64}
use Rattle.obs_rows.specs.Data.{number_at}
use Rattle.quadratic_form.specs.declared.sizes.TheConstants.{MOST_COLUMNS}
use Rattle.whole_math.proofs.Words.{as_w64}
use Rattle.normal_sum.specs.Places.{put_at}
use Rattle.normal_sum.proofs.Words.{neg_w64, size_neg}
use Rattle.normal_sum.proofs.CoefficientPlaces.{coefficients_are, coefficients_within, nothing_elsewhere}
use Rattle.normal_sum.proofs.coefficients.put_coefficients.Goals as goal

-- the value that is written for a number that is turned
abbrev turned : ℤ → ℤ
turned x = to_z w64 (of_z w64 (pos 0 -ℤ to_z w64 (of_z w64 x)))

turned_size : (m : ℕ) (x : ℤ) → unsigned_abs x ≤ m → m ≤ 2 ^ 60 → unsigned_abs (turned x) ≤ m
turned_size m x h g = subst (λ (z : ℤ). unsigned_abs z ≤ m) (sym (neg_w64 x (omega arith))) (subst (λ (k : ℕ). k ≤ m) (sym (size_neg x)) h)

over_zeros : (w z : List ℤ) (p : Option ℕ) (a b d v : ℤ) → z ≡ replicate MOST_COLUMNS (pos 0) → w ≡ put_at (set (set (set z 0 a) 1 b) 2 d) p v →
    w ≡ put_at (set (set (set (replicate MOST_COLUMNS (pos 0)) 0 a) 1 b) 2 d) p v
over_zeros w z p a b d v e h = h ∙ ap (λ (t : List ℤ). put_at (set (set (set t 0 a) 1 b) 2 d) p v) e

pub returns-clause-entries : goal.returns-clause-entries
returns-clause-entries c =
    let row = c.args.row.now in
    let first_there : 0 < length c.args.row.now.u = search rules in
    let second_there : 1 < length c.args.row.now.u = search rules in
    let third_there : 2 < length c.args.row.now.u = search rules in
    let signal_there : c.args.signal < length c.args.row.now.y = search rules in
    let first_small : unsigned_abs (number_at c.args.row.now.u 0) ≤ 2 ^ 24 = c.args.row.now.u_in 0 (pos 0) first_there in
    let second_small : unsigned_abs (number_at c.args.row.now.u 1) ≤ 2 ^ 24 = c.args.row.now.u_in 1 (pos 0) second_there in
    let third_small : unsigned_abs (number_at c.args.row.now.u 2) ≤ 2 ^ 24 = c.args.row.now.u_in 2 (pos 0) third_there in
    let signal_small : unsigned_abs (number_at c.args.row.now.y c.args.signal) ≤ 2 ^ 34 = c.args.row.now.y_in c.args.signal (pos 0) signal_there in
    λ arcs ss ep en. coefficients_are arcs ss c.args.signal c.args.row.now c.put_integer.new.values c.args.integers c.args.place
    (turned (number_at c.args.row.now.u 0)) (turned (number_at c.args.row.now.u 1)) (turned (number_at c.args.row.now.u 2)) (turned c.cycle_of.result)
    (to_z w64 (of_z w64 (number_at c.args.row.now.y c.args.signal)))
    (over_zeros c.put_integer.new.values c.args.values.now c.args.place (turned (number_at c.args.row.now.u 0)) (turned (number_at c.args.row.now.u 1))
    (turned (number_at c.args.row.now.u 2)) (turned c.cycle_of.result) c.requires.zeros c.put_integer.ensures.value) c.requires.few c.requires.place en ep
    (neg_w64 c.cycle_of.result (omega (arith, c.cycle_of.ensures.size)) ∙ ap (λ z. neg_ℤ z) c.cycle_of.ensures.value)
    (neg_w64 (number_at c.args.row.now.u 0) (omega arith)) (neg_w64 (number_at c.args.row.now.u 1) (omega arith)) (neg_w64 (number_at c.args.row.now.u 2) (omega arith))
    (as_w64 (number_at c.args.row.now.y c.args.signal) (omega arith))

pub returns-clause-size : goal.returns-clause-size
returns-clause-size c =
    let first_there : 0 < length c.args.row.now.u = search rules in
    let second_there : 1 < length c.args.row.now.u = search rules in
    let third_there : 2 < length c.args.row.now.u = search rules in
    let signal_there : c.args.signal < length c.args.row.now.y = search rules in
    let first_small : unsigned_abs (number_at c.args.row.now.u 0) ≤ 2 ^ 24 = c.args.row.now.u_in 0 (pos 0) first_there in
    let second_small : unsigned_abs (number_at c.args.row.now.u 1) ≤ 2 ^ 24 = c.args.row.now.u_in 1 (pos 0) second_there in
    let third_small : unsigned_abs (number_at c.args.row.now.u 2) ≤ 2 ^ 24 = c.args.row.now.u_in 2 (pos 0) third_there in
    let signal_small : unsigned_abs (number_at c.args.row.now.y c.args.signal) ≤ 2 ^ 34 = c.args.row.now.y_in c.args.signal (pos 0) signal_there in
    coefficients_within (2 ^ 34) c.put_integer.new.values (3 + c.args.integers) c.args.place
    (turned (number_at c.args.row.now.u 0)) (turned (number_at c.args.row.now.u 1)) (turned (number_at c.args.row.now.u 2)) (turned c.cycle_of.result)
    (to_z w64 (of_z w64 (number_at c.args.row.now.y c.args.signal)))
    (over_zeros c.put_integer.new.values c.args.values.now c.args.place (turned (number_at c.args.row.now.u 0)) (turned (number_at c.args.row.now.u 1))
    (turned (number_at c.args.row.now.u 2)) (turned c.cycle_of.result) c.requires.zeros c.put_integer.ensures.value)
    (turned_size (2 ^ 34) (number_at c.args.row.now.u 0) (omega arith) (omega arith)) (turned_size (2 ^ 34) (number_at c.args.row.now.u 1) (omega arith) (omega arith))
    (turned_size (2 ^ 34) (number_at c.args.row.now.u 2) (omega arith) (omega arith))
    (turned_size (2 ^ 34) c.cycle_of.result (omega (arith, c.cycle_of.ensures.size)) (omega arith))
    (subst (λ (z : ℤ). unsigned_abs z ≤ 2 ^ 34) (sym (as_w64 (number_at c.args.row.now.y c.args.signal) (omega arith))) signal_small)

pub returns-clause-others : goal.returns-clause-others
returns-clause-others c = nothing_elsewhere c.put_integer.new.values c.args.integers c.args.place
    (turned (number_at c.args.row.now.u 0)) (turned (number_at c.args.row.now.u 1)) (turned (number_at c.args.row.now.u 2)) (turned c.cycle_of.result)
    (to_z w64 (of_z w64 (number_at c.args.row.now.y c.args.signal)))
    (over_zeros c.put_integer.new.values c.args.values.now c.args.place (turned (number_at c.args.row.now.u 0)) (turned (number_at c.args.row.now.u 1))
    (turned (number_at c.args.row.now.u 2)) (turned c.cycle_of.result) c.requires.zeros c.put_integer.ensures.value)
