-- What the boxes of a satellite's timing hold.
use Rattle.iv_core.specs.Intervals.{Holds}
use Rattle.orbit_model.specs.Solution.{Quantities}
use Rattle.sv_orbit.specs.ClockTerms.{per_ten_thousand}
use Rattle.sv_orbit.specs.declared.timing.Timing.{Timing}

-- the clock, the time since the reference epoch over 10^4 s, and the mean anomaly lie in their boxes
pub record HoldsTiming (b : Timing) (q : Quantities) : Type 0 where
  pub clock : Holds b.clock.held q.clock
  pub epoch_time : Holds b.epoch_time.held (per_ten_thousand q.tk)
  pub mean : Holds b.mean.held q.mean
