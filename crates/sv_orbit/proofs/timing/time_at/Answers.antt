use Rattle.sv_orbit.specs.ClockTerms.{per_ten_thousand}
use Rattle.sv_orbit.proofs.timing.time_at.Goals as goal

pub returns : goal.returns
returns g c = λ s x hs hx. c.sub.ensures.holds s (per_ten_thousand x) hs (c.per_ten_thousand-scaled.ensures x hx)
