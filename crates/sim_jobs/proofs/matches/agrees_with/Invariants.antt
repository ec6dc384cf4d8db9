use Rattle.std.proofs.Common.{◌≡◌, ℕ, ◌<◌, get_or, IsTrue}
use Rattle.obs_rows.specs.Signals.{is_phase}
use Rattle.sim_jobs.specs.Matches.{found, wanted}
use Rattle.sim_jobs.proofs.matches.agrees_with.Given as goal

abbrev pub invariant-loop-signal : goal.invariant-loop-signal
invariant-loop-signal l = (j : ℕ) → j < l.signal-index → (d : ℕ) → IsTrue (is_phase (get_or l.signals j d)) →
    found l.arcs l.signals l.z l.k l.arc l.datum (get_or l.signals j d) ≡ wanted l.made.of_arc l.made.of_datum (get_or l.signals j d)
