use Rattle.std.proofs.Common.{◌≡◌, ℕ, ◌+◌, ◌*◌, All}
use Rattle.sim_session.specs.Sequence.{state_after}
use Rattle.sim_session.specs.Values.{base_cycles, rover_cycles, truth_of, first_of, AreSmall}
use Rattle.sim_session.proofs.draws.Draws.all_cycles.Given as goal

abbrev pub invariant-loop-k : goal.invariant-loop-k
invariant-loop-k l = record {
  state : (seed : ℕ) → l.fn.self.state ≡ state_after seed 5 → l.self.state ≡ state_after seed (5 + 4 * l._k);
  later : (seed : ℕ) → l.fn.self.state ≡ state_after seed 5 → l.later.state ≡ state_after seed (5 + 4 * l.sats + 2 * l._k);
  base : (seed : ℕ) → l.fn.self.state ≡ state_after seed 5 → l.all.base.items ≡ first_of (base_cycles seed l.sats l.l5) l._k;
  rover : (seed : ℕ) → l.fn.self.state ≡ state_after seed 5 → l.all.rover.items ≡ first_of (rover_cycles seed l.sats l.l5) l._k;
  truth : (seed : ℕ) → l.fn.self.state ≡ state_after seed 5 → l.all.truth.items ≡ first_of (truth_of seed l.sats l.l5) l._k;
  base_size : All AreSmall l.all.base.items;
  rover_size : All AreSmall l.all.rover.items;
}
