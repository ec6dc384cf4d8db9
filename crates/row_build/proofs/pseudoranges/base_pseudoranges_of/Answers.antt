use Rattle.std.proofs.Common.{◌≡◌, ℕ, ◌++◌, ◌∷◌, [], List, Some, length, sym, subst, ◌∙◌}
use Rattle.std.specs.Prelude.{slice_get}
use Rattle.std.proofs.lemmas.Option.{get_or_from_slice_get}
use Rattle.orbit_model.specs.SeenPlaces.{place_at}
use Rattle.screening.specs.declared.sv_pair.SvPair.{SvPair}
use Rattle.screening.specs.BaseRanges.{HoldsRange}
use Rattle.row_boxes.specs.declared.pseudoranges.Pseudorange.{Pseudorange}
use Rattle.row_build.specs.BasePseudoranges.{IsBasePseudorange, AreBasePseudoranges}
use Rattle.row_build.proofs.BasePseudorangeLaws.{base_pseudoranges_pushed, length_pushed}
use Rattle.row_build.proofs.pseudoranges.base_pseudoranges_of.Goals as goal

pub base_pseudorange_from-requires-clause-range : goal.base_pseudorange_from-requires-clause-range
base_pseudorange_from-requires-clause-range c = subst (HoldsRange (place_at c.args.ranged.now)) (sym c.index-boxes-place.is)
    (c.requires.ranges c.loop-place.place c.index-boxes-place.result c.loop-place-test.true)

pub loop-place-preserved : goal.loop-place-preserved
loop-place-preserved c =
    let pushed : c.push.new.self.items ≡ c.loop-place.base_pseudoranges.items ++ c.base_pseudorange_from.result ∷ [] = c.in_ok-push.ensures.items in
    let here : (v : SvPair) → slice_get c.args.boxes.now (length c.loop-place.base_pseudoranges.items) ≡ Some v → IsBasePseudorange v c.args.base.now c.base_pseudorange_from.result = λ v at.
    subst (λ (w : SvPair). IsBasePseudorange w c.args.base.now c.base_pseudorange_from.result)
    (c.index-boxes-place.is ∙ get_or_from_slice_get c.args.boxes.now c.loop-place.place v _ (subst (λ (n : ℕ). slice_get c.args.boxes.now n ≡ Some v) c.loop-place.invariant.count at))
    c.base_pseudorange_from.ensures in
    record {
      base_pseudoranges = subst (λ (hs : List Pseudorange). AreBasePseudoranges c.args.boxes.now c.args.base.now hs) (sym pushed)
          (base_pseudoranges_pushed c.args.boxes.now c.args.base.now c.loop-place.base_pseudoranges.items c.base_pseudorange_from.result c.loop-place.invariant.base_pseudoranges here);
      count = length_pushed c.loop-place.base_pseudoranges.items c.push.new.self.items c.base_pseudorange_from.result c.loop-place.place pushed c.loop-place.invariant.count;
    }
