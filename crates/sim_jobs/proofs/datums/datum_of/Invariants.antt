use Rattle.std.proofs.Common.{◌≡◌, ℕ, ◌<◌, ◌≤◌, false, Some}
use Rattle.std.specs.Prelude.{slice_get}
use Rattle.obs_rows.specs.declared.arcs.Arc.{Arc}
use Rattle.sim_jobs.proofs.datums.datum_of.Given as goal

abbrev pub invariant-back : goal.invariant-back
invariant-back l = record {
  low : l.place ≤ l.k;
  none : (j : ℕ) (b : Arc) → l.place < j → j ≤ l.k → slice_get l.arcs j ≡ Some b → b.datum ≡ false;
}

abbrev pub decreases-back : goal.decreases-back
decreases-back l = l.place
