use Rattle.std.proofs.Common.{ℤ, subst}
use Rattle.std.proofs.lemmas.Int.{to_z-of_z}
use Rattle.std.specs.Int.{w64}
use Rattle.whole_math.specs.Rational.{◌-ʳ◌}
use Rattle.iv_core.specs.Intervals.{Holds}
use Rattle.orbit_model.specs.Elements.{sent_at, seconds}
use Rattle.sv_orbit.specs.ClockTerms.{per_ten_thousand}
use Rattle.sv_orbit.proofs.correction.Terms.of.Goals as goal

pub returns : goal.returns
returns c = λ share small. record {
  bias = c.args.made.now.bias_in share small;
  drift = c.args.made.now.drift_in;
  aging = c.args.made.now.aging_in;
  offset = subst (λ (k : ℤ). Holds c.offset_of.result.held (per_ten_thousand (sent_at c.args.tag.0 k -ʳ seconds c.args.made.now.eph.toc.0))) (to_z-of_z w64 c.args.code c.ranges.code) c.offset_of.ensures;
}
