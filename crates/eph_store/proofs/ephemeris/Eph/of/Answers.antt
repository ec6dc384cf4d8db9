-- Where a number is the first out of its range.
use Rattle.std.proofs.lemmas.Int.{ints}
use Rattle.std.proofs.Common.{arith}
use Rattle.eph_store.proofs.ProfileLaws.{tells_range}
use Rattle.eph_store.proofs.ephemeris.Eph.of.Goals as goal

pub returns-in-Some-clause-usable : goal.returns-in-Some-clause-usable
returns-in-Some-clause-usable c = (tells_range c.args.raw.now c.in-Some.field (omega (arith, ints, c.if-raw-ne0.false)) c.in-Some.ensures).usable

pub returns-in-Some-clause-range : goal.returns-in-Some-clause-range
returns-in-Some-clause-range c = (tells_range c.args.raw.now c.in-Some.field (omega (arith, ints, c.if-raw-ne0.false)) c.in-Some.ensures).range
