use Rattle.std.proofs.Common.{◌≡◌, true, subst}
use Rattle.std.proofs.lemmas.Option.{get_or_from_slice_get}
use Rattle.obs_rows.specs.declared.arcs.Arc.{Arc}
use Rattle.sim_jobs.proofs.Links.{last_datum}
use Rattle.sim_jobs.proofs.datums.datum_of.Goals as goal

pub returns-clause-datum : goal.returns-clause-datum
returns-clause-datum c = λ e at.
    let datum : e.datum ≡ true = subst (λ (x : Arc). x.datum ≡ true) (get_or_from_slice_get c.args.arcs.now c.back.place e _ at) c.back-test.false in
    last_datum c.args.arcs.now c.back.place c.args.k e c.requires.marked c.requires.inside c.back.invariant.low datum c.back.invariant.none at
