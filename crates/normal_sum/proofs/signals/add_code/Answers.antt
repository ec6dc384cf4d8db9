use Rattle.std.proofs.Common.{◌≡◌, inl, inr, ⊎_elim, ℕ, ◌<◌, ◌+◌, ◌*◌, ◌^◌, ◌≤◌, unsigned_abs, arith}
use Rattle.std.proofs.lemmas.Bool.{cases_eq}
use Rattle.quadratic_form.specs.declared.sizes.TheConstants.{BASELINE_COLUMNS}
use Rattle.quadratic_form.specs.Tables.{entry}
use Rattle.normal_sum.proofs.ObservationLaws.{code_entries}
use Rattle.obs_rows.specs.declared.limits.TheConstants.{MOST_PAIRS}
use Rattle.normal_sum.proofs.signals.add_code.Goals as goal

pub add_observations-requires-clause-axis_size : goal.add_observations-requires-clause-axis_size
add_observations-requires-clause-axis_size c = λ i h.
    let size : unsigned_abs (entry c.args.table.now i (BASELINE_COLUMNS + c.args.integers)) ≤ MOST_PAIRS * 2 ^ 108 =
    c.requires.entry_size i (BASELINE_COLUMNS + c.args.integers) (omega arith) (omega arith) (omega (arith, c.requires.few)) in
    omega (arith, size)

pub add_observations-requires-clause-square_size : goal.add_observations-requires-clause-square_size
add_observations-requires-clause-square_size c =
    let size : unsigned_abs (entry c.args.table.now (BASELINE_COLUMNS + c.args.integers) (BASELINE_COLUMNS + c.args.integers)) ≤ MOST_PAIRS * 2 ^ 108 =
    c.requires.entry_size (BASELINE_COLUMNS + c.args.integers) (BASELINE_COLUMNS + c.args.integers) (omega arith) (omega arith) (omega (arith, c.requires.few)) in
    omega (arith, size)

pub returns-clause-added : goal.returns-clause-added
returns-clause-added c = λ arcs ss none n i j h b g.
    code_entries arcs ss c.args.pair.now c.args.signal c.args.integers c.args.table.now c.add_observations.new.table c.as_slice.result.now c.as_slice.ensures none n c.add_observations.ensures.axes
    c.add_observations.ensures.square c.add_observations.ensures.others i j b

-- below the diagonal an entry is none of the constant's column, or in a row after the constant's
pub returns-clause-before : goal.returns-clause-before
returns-clause-before c = λ i j w.
    let last : ℕ = BASELINE_COLUMNS + c.args.integers in
    c.add_observations.ensures.others i j (⊎_elim
    (λ (e : j ≡ last). inr (⊎_elim (λ (h : j < i). (omega (arith, e, h), λ f. omega (arith, e, f, h))) (λ (h : j < BASELINE_COLUMNS). absurd (omega (arith, e, h))) w))
    (λ (d : j ≡ last → ⊥). inl d) (cases_eq j last))
