use Rattle.std.proofs.Common.{◌≡◌, Some, List, ℤ, length, refl, sym, subst}
use Rattle.std.specs.Prelude.{slice_get}
use Rattle.std.proofs.lemmas.Option.{slice_get_read}
use Rattle.row_build.specs.Sights.{IsRoverSight}
use Rattle.row_build.proofs.sights.sight_at.Goals as goal

pub returns-in-Some : goal.returns-in-Some
returns-in-Some c =
    let found = c.in-Some.ensures.lookup in
    let kept : slice_get c.args.sights.now c.args.place ≡ Some c.in-Some.sight.now = slice_get_read c.args.sights.now
    (length c.args.sights.now) c.args.place c.in-Some.sight.now refl found.3.0 found.1 in
    c.requires.kept c.in-Some.sight.now kept

pub returns-in-None : goal.returns-in-None
returns-in-None c = subst (λ (p : List ℤ). IsRoverSight c.args.entry.now p c.rover_sight.result) (sym c.point_at.ensures) c.rover_sight.ensures
