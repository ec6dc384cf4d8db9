use Rattle.std.proofs.Common.{◌≡◌, ℕ, ◌++◌, ◌∷◌, [], List, ℤ, Some, length, sym, subst, ◌∙◌}
use Rattle.std.specs.Prelude.{slice_get}
use Rattle.std.proofs.lemmas.Option.{get_or_from_slice_get}
use Rattle.screening.specs.declared.sv_pair.SvPair.{SvPair}
use Rattle.row_boxes.specs.declared.sights.Sight.{Sight}
use Rattle.row_build.specs.Sights.{IsRoverSight, AreRoverSights}
use Rattle.row_build.proofs.BasePseudorangeLaws.{sights_pushed, length_pushed}
use Rattle.row_build.proofs.sights.sights_of.Goals as goal

pub loop-place-preserved : goal.loop-place-preserved
loop-place-preserved c =
    let pushed : c.push.new.self.items ≡ c.loop-place.sights.items ++ c.rover_sight.result ∷ [] = c.in_ok-push.ensures.items in
    let here : (v : SvPair) → slice_get c.args.boxes.now (length c.loop-place.sights.items) ≡ Some v → IsRoverSight v c.args.point.now c.rover_sight.result = λ v at.
    subst (λ (w : SvPair). IsRoverSight w c.args.point.now c.rover_sight.result)
    (c.index-boxes-place.is ∙ get_or_from_slice_get c.args.boxes.now c.loop-place.place v _ (subst (λ (n : ℕ). slice_get c.args.boxes.now n ≡ Some v) c.loop-place.invariant.count at))
    (subst (λ (p : List ℤ). IsRoverSight c.index-boxes-place.result p c.rover_sight.result) (sym c.point_at-receiver.ensures) c.rover_sight.ensures) in
    record {
      sights = subst (λ (hs : List Sight). AreRoverSights c.args.boxes.now c.args.point.now hs) (sym pushed)
          (sights_pushed c.args.boxes.now c.args.point.now c.loop-place.sights.items c.rover_sight.result c.loop-place.invariant.sights here);
      count = length_pushed c.loop-place.sights.items c.push.new.self.items c.rover_sight.result c.loop-place.place pushed c.loop-place.invariant.count;
    }
