use Rattle.std.proofs.Common.{◌≡◌, ℕ, ◌<◌, IsTrue, Some}
use Rattle.std.specs.Prelude.{slice_get}
use Rattle.obs_rows.specs.declared.arcs.Arc.{Arc}
use Rattle.obs_rows.specs.Arcs.{is_free}
use Rattle.sim_jobs.specs.Matches.{HasTruth}
use Rattle.sim_jobs.proofs.matches.have_truth.Given as goal

abbrev pub invariant-loop-k : goal.invariant-loop-k
invariant-loop-k l = (j : ℕ) (a : Arc) → j < l.k → slice_get l.arcs j ≡ Some a → IsTrue (is_free a) → HasTruth l.truth l.arcs l.signals l.z j a
