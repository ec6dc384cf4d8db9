-- A number below 0 is none; of others the size is the value.
use Rattle.std.proofs.Common.{arith}
use Rattle.std.proofs.lemmas.Int.{ints}
use Rattle.eph_store.proofs.Signs.{below_zero}
use Rattle.eph_store.proofs.decimals.is_from_to.Goals as goal

pub returns-then-d-lt0 : goal.returns-then-d-lt0
returns-then-d-lt0 c = (λ h. absurd (cc h), λ f. absurd (below_zero c.args.least c.args.most c.args.places c.args.d (omega (arith, ints, c.if-d-lt0.true)) f))
