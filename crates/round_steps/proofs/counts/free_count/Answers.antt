use Rattle.std.proofs.Common.{◌≤◌, length, arith}
use Rattle.std.proofs.lemmas.List.Sums.{count_by-le-length}
use Rattle.obs_rows.specs.Arcs.{is_free, free_count}
use Rattle.round_steps.proofs.counts.free_count.Goals as goal

pub overflow_cast-result : goal.overflow_cast-result
overflow_cast-result c =
    let few : free_count c.args.arcs.now ≤ length c.args.arcs.now = count_by-le-length is_free c.args.arcs.now in
    omega (arith, few, c.requires, c.free_arcs.ensures)
