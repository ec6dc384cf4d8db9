use Rattle.std.proofs.Common.{◌^◌, ◌<◌, ◌≤◌, length, ℤ, ◌-ℤ◌, ◌*ℤ◌, pos, unsigned_abs, to_z, of_z, FitsSigned, arith, sym, ap, ◌∙◌, subst, rules}
use Rattle.std.proofs.lemmas.Int.{ints}
use Rattle.std.specs.Int.{w64}
use Rattle.obs_rows.specs.Data.{number_at}
use Rattle.obs_rows.specs.Signals.{cycle}
use Rattle.whole_math.proofs.Words.{as_w64}
use Rattle.fix_decide.proofs.Words.{centre_word}
use Rattle.fix_decide.proofs.reaches.centre_at.Goals as goal

fits : (y a n : ℤ) → unsigned_abs y ≤ 2 ^ 34 → unsigned_abs a ≤ 2 ^ 56 → unsigned_abs n ≤ 2 ^ 55 →
    FitsSigned w64 (to_z w64 (of_z w64 (to_z w64 (of_z w64 y) -ℤ to_z w64 (of_z w64 a))) -ℤ to_z w64 (of_z w64 n))
fits y a n h g k = omega (arith, ints)

small : (y a n : ℤ) → unsigned_abs y ≤ 2 ^ 34 → unsigned_abs a ≤ 2 ^ 56 → unsigned_abs n ≤ 2 ^ 55 → unsigned_abs ((y -ℤ a) -ℤ n) ≤ 2 ^ 57
small y a n h g k = omega (arith, ints)

pub overflow_sub-result-2 : goal.overflow_sub-result-2
overflow_sub-result-2 c =
    let inside : c.args.signal < length c.args.row.now.y = search rules in
    fits (number_at c.args.row.now.y c.args.signal) c.args.advance c.cycles.result (c.args.row.now.y_in c.args.signal (pos 0) inside) c.requires.advance_size c.cycles.ensures.size

pub returns-clause-value : goal.returns-clause-value
returns-clause-value c =
    let inside : c.args.signal < length c.args.row.now.y = search rules in
    let y : ℤ = number_at c.args.row.now.y c.args.signal in
    let n : ℤ = c.args.integer in
    centre_word y c.args.advance c.cycles.result (c.args.row.now.y_in c.args.signal (pos 0) inside) c.requires.advance_size c.cycles.ensures.size
    ∙ ap (λ x. (y -ℤ c.args.advance) -ℤ x) (c.cycles.ensures.value ∙ ap (λ x. cycle c.args.signal *ℤ x) (as_w64 n (omega (arith, c.requires.integer_size))))

pub returns-clause-size : goal.returns-clause-size
returns-clause-size c =
    let inside : c.args.signal < length c.args.row.now.y = search rules in
    let y : ℤ = number_at c.args.row.now.y c.args.signal in
    let y_in : unsigned_abs y ≤ 2 ^ 34 = c.args.row.now.y_in c.args.signal (pos 0) inside in
    subst (λ (x : ℤ). unsigned_abs x ≤ 2 ^ 57) (sym (centre_word y c.args.advance c.cycles.result y_in c.requires.advance_size c.cycles.ensures.size))
    (small y c.args.advance c.cycles.result y_in c.requires.advance_size c.cycles.ensures.size)
