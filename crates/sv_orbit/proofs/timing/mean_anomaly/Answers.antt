use Rattle.whole_math.specs.Rational.{◌*ʳ◌}
use Rattle.eph_store.specs.Decimals.{value_of}
use Rattle.sv_orbit.proofs.timing.mean_anomaly.Goals as goal

pub returns : goal.returns
returns c = λ n t hn ht. c.add.ensures.holds (value_of c.args.made.now.eph.m0) (n *ʳ t) c.args.made.now.start_in (c.mul-turned.ensures.holds n t hn ht)
