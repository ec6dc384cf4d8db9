use Rattle.std.proofs.Common.{◌≡◌, List, ℤ, Option, sym, refl, subst}
use Rattle.std.specs.Prelude.{None, Some, IsSome}
use Rattle.screening.specs.Screening.{HasPosition, position_of}
use Rattle.screening.proofs.files.position_of.Goals as goal

is_there : (o : Option (List ℤ)) → HasPosition o → IsSome o
is_there None has = absurd has
is_there (Some p) has = refl

pub unwrap-requires : goal.unwrap-requires
unwrap-requires c = is_there c.args.base.now.position c.requires

pub returns-clause-value : goal.returns-clause-value
returns-clause-value c = subst (λ (o : Option (List ℤ)). c.unwrap.result ≡ position_of o) (sym c.unwrap.ensures) refl

pub returns-clause-point : goal.returns-clause-point
returns-clause-point c = subst HasPosition c.unwrap.ensures c.requires
