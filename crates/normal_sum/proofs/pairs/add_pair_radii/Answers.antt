use Rattle.std.proofs.Common.{ℕ, ◌+◌, ◌*◌, ◌^◌, ◌≤◌, List, ℤ, map, arith, ap, ◌∙◌}
use Rattle.whole_math.specs.Vectors.{sum}
use Rattle.quadratic_form.specs.Rows.{add_radii, row_radii}
use Rattle.obs_rows.specs.declared.rows.Row.{Row}
use Rattle.obs_rows.specs.Signals.{weight}
use Rattle.obs_rows.specs.SignalGroups.{signal_row}
use Rattle.normal_sum.specs.declared.places.TheConstants.{MOST_ROWS}
use Rattle.normal_sum.specs.RadiusSums.{radii_of}
use Rattle.normal_sum.proofs.Words.{small_w64}
use Rattle.normal_sum.proofs.RadiusLaws.{radii_together, at_most_wider}
use Rattle.normal_sum.proofs.pairs.add_pair_radii.Goals as goal

within : (m : ℕ) → m + (MOST_ROWS * 2 ^ 75) ≤ m + 2 ^ 79
within m = omega arith

pub returns-clause-value : goal.returns-clause-value
returns-clause-value c = λ arcs.
    let signals : List ℕ = c.args.signals.now in
    let weights : ℤ = sum (map weight c.args.signals.now) in
    c.add_radii_of.ensures.value weights arcs signals 0 (small_w64 c.total_share.result c.total_share.ensures.from c.total_share.ensures.to ∙ c.total_share.ensures.value)
    ∙ ap (λ (l : List Row). add_radii (radii_of c.args.start) (row_radii weights (map (signal_row arcs signals 0) l))) c.as_slice.ensures
    ∙ ap (add_radii (radii_of c.args.start)) (radii_together arcs signals c.args.pair.now signals)

pub returns-clause-size : goal.returns-clause-size
returns-clause-size c = λ m most. at_most_wider (m + (MOST_ROWS * 2 ^ 75)) (m + 2 ^ 79) c.add_radii_of.result (within m) (c.add_radii_of.ensures.size m most)
