use Rattle.std.proofs.Common.{◌≡◌, List, ℤ, sym, subst}
use Rattle.std.specs.Cmp.Rules.{signed_items}
use Rattle.orbit_model.specs.SeenPlaces.{place_at}
use Rattle.screening.specs.BaseRanges.{HoldsRange}
use Rattle.row_build.proofs.pseudoranges.base_pseudorange_from.Goals as goal

pub base_pseudorange_by_range-requires-clause-range : goal.base_pseudorange_by_range-requires-clause-range
base_pseudorange_by_range-requires-clause-range c =
    let there : c.args.ranged.now ≡ c.args.base.now = (signed_items c.args.ranged.now c.args.base.now).0 (sym c.if-eq.ensures) in
    subst (λ (p : List ℤ). HoldsRange (place_at p) c.args.entry.now) there c.requires.range
