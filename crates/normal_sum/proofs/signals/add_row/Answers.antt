use Rattle.std.proofs.Common.{◌≡◌, ℕ, ◌+◌, ◌<◌, ◌≢◌, ℤ, pos, ◌+ℤ◌, arith, ap, ◌∙◌, slice_index_or, Option, Some, None, IfSome}
use Rattle.std.proofs.Math.IntN.{+ℤ_idr}
use Rattle.quadratic_form.specs.declared.sizes.TheConstants.{BASELINE_COLUMNS}
use Rattle.normal_sum.proofs.signals.add_row.Goals as goal

-- a column after that of the constant is none of an integer
no_integer : (place : Option ℕ) (integers j : ℕ) → IfSome place (λ i. i < integers) → BASELINE_COLUMNS + integers < j → IfSome place (λ i. j ≢ BASELINE_COLUMNS + i)
no_integer (Some i) integers j h g = λ e. omega (arith, h, g, e)
no_integer None integers j h g = tt

after_constant : (integers j : ℕ) → BASELINE_COLUMNS + integers < j → j ≢ BASELINE_COLUMNS + integers
after_constant integers j h e = omega (arith, h, e)

pub returns-clause-beyond : goal.returns-clause-beyond
returns-clause-beyond c = λ j h g.
    let zero : slice_index_or c.put_coefficients.new.values j (pos 0) ≡ pos 0 =
    c.put_coefficients.ensures.others j (omega (arith, h)) (after_constant c.args.integers j h) (no_integer c.args.place c.args.integers j c.requires.place h) in
    c.add_used.ensures.sums j g ∙ ap (λ (z : ℤ). slice_index_or c.args.total.now j (pos 0) +ℤ z) zero ∙ +ℤ_idr (slice_index_or c.args.total.now j (pos 0))
