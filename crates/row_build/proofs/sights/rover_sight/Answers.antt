use Rattle.std.proofs.Common.{List, [], ◌∷◌, subst}
use Rattle.signal_travel.specs.declared.spread.Spread.{Spread}
use Rattle.signal_travel.specs.Directions.{HoldsDirection}
use Rattle.row_build.proofs.sights.rover_sight.Goals as goal

pub returns : goal.returns
returns c = record {
  pseudorange = c.sight_from.ensures.pseudorange;
  direction = λ s move place h m d x y z e.
      let held : HoldsDirection (x ∷ y ∷ z ∷ []) place = subst (λ (t : List Spread). HoldsDirection t place) e (c.sight_from.ensures.direction s move place h m d) in
      (held.0, held.1.0, held.1.1.0);
}
