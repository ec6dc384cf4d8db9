-- the numbers so far lie in their ranges
use Rattle.std.proofs.Common.{All, take}
use Rattle.eph_store.specs.Profile.{InRange}
use Rattle.eph_store.proofs.profile.first_out.Given as goal

abbrev pub invariant-loop-at : goal.invariant-loop-at
invariant-loop-at l = All (λ f. InRange f l.raw) (take l.at l.fields)
