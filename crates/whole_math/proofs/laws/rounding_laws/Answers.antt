use Rattle.std.proofs.Common.{ℤ, sym, subst}
use Rattle.whole_math.proofs.Rounding.{floor_is, floor_unique, ceil_is, ceil_unique, nearest_is, nearest_unique}
use Rattle.whole_math.specs.Rounding.{IsFloor, IsCeil, IsNearest}
use Rattle.whole_math.proofs.laws.rounding_laws.Goals as goal

pub returns-clause-floor : goal.returns-clause-floor
returns-clause-floor c = λ z q m h. (λ k. floor_unique z q m h k.0 k.1, λ e. subst (λ (i : ℤ). IsFloor z m i) (sym e) (floor_is z m h))

pub returns-clause-ceil : goal.returns-clause-ceil
returns-clause-ceil c = λ z q m h. (λ k. ceil_unique z q m h k, λ e. subst (λ (i : ℤ). IsCeil z m i) (sym e) (ceil_is z m h))

pub returns-clause-nearest : goal.returns-clause-nearest
returns-clause-nearest c = λ z q m h. (λ k. nearest_unique z q m h k, λ e. subst (λ (i : ℤ). IsNearest z m i) (sym e) (nearest_is z m h))
