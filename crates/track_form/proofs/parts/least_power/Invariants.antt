use Rattle.std.proofs.Common.{◌≡◌, ℕ, ◌*◌, ◌-◌, ◌^◌, ◌<◌, ◌≤◌}
use Rattle.track_form.proofs.parts.least_power.Given as goal

abbrev pub invariant-loop-power : goal.invariant-loop-power
invariant-loop-power l = record {
  few : l.e ≤ 13;
  power_is : l.power ≡ 2 ^ l.e;
  least : (k : ℕ) → k < l.e → 2 ^ k < 2 * l.count;
}

abbrev pub decreases-loop-power : goal.decreases-loop-power
decreases-loop-power l = 13 - l.e
