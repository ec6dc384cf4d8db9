use Rattle.std.proofs.Common.{◌≡◌, inl, inr, refl, arith, to_z, of_z}
use Rattle.std.specs.Int.{w128}
use Rattle.std.proofs.lemmas.Int.{to_z-of_z}
use Rattle.int_search.specs.Vectors.{suffix}
use Rattle.int_search.specs.Orders.{IsRankLess}
use Rattle.int_search.specs.declared.best.Best.{Best}
use Rattle.int_search.proofs.OfferLaws.{keeps_less, keeps_second, keeps_none, not_less}
use Rattle.int_search.proofs.best.Best.offer.Goals as goal

pub returns-in-Less : goal.returns-in-Less
returns-in-Less c =
    let old : Best = c.args.self.now in
    let p_kept : to_z w128 (of_z w128 c.args.p) ≡ c.args.p = to_z-of_z w128 c.args.p c.ranges.p in
    let first_value_kept : to_z w128 (of_z w128 old.p1) ≡ old.p1 = grind (arith, to_z-of_z) in
    let below_first : IsRankLess c.args.p (suffix c.args.y.now 0 c.args.size) old.p1 (suffix old.first 0 c.args.size) = rw (p_kept, first_value_kept) at c.in-Less.ensures in
    rw (p_kept, first_value_kept) (keeps_less c.args.size c.args.p c.args.p c.args.y.now old below_first refl)

pub returns-in-Less-order : goal.returns-in-Less-order
returns-in-Less-order c =
    let old : Best = c.args.self.now in
    let p_kept : to_z w128 (of_z w128 c.args.p) ≡ c.args.p = to_z-of_z w128 c.args.p c.ranges.p in
    let first_value_kept : to_z w128 (of_z w128 old.p1) ≡ old.p1 = grind (arith, to_z-of_z) in
    let second_value_kept : to_z w128 (of_z w128 old.p2) ≡ old.p2 = grind (arith, to_z-of_z) in
    let above_first : IsRankLess old.p1 (suffix old.first 0 c.args.size) c.args.p (suffix c.args.y.now 0 c.args.size) = rw (p_kept, first_value_kept) at c.in-Greater.ensures in
    let below_second : IsRankLess c.args.p (suffix c.args.y.now 0 c.args.size) old.p2 (suffix old.second 0 c.args.size) = rw (p_kept, second_value_kept) at c.in-Less-order.ensures in
    rw p_kept (keeps_second c.args.size c.args.p c.args.p c.args.y.now old above_first below_second refl)

pub returns-in_default : goal.returns-in_default
returns-in_default c =
    let old : Best = c.args.self.now in
    let p_kept : to_z w128 (of_z w128 c.args.p) ≡ c.args.p = to_z-of_z w128 c.args.p c.ranges.p in
    let second_value_kept : to_z w128 (of_z w128 old.p2) ≡ old.p2 = grind (arith, to_z-of_z) in
    keeps_none c.args.size c.args.p c.args.y.now old (inr (not_less c.order-in-Greater.result c.args.p _ old.p2 _ c.in_default.not-Less (rw (p_kept, second_value_kept) at c.order-in-Greater.ensures)))

pub returns-in-Equal : goal.returns-in-Equal
returns-in-Equal c =
    let old : Best = c.args.self.now in
    let p_kept : to_z w128 (of_z w128 c.args.p) ≡ c.args.p = to_z-of_z w128 c.args.p c.ranges.p in
    let first_value_kept : to_z w128 (of_z w128 old.p1) ≡ old.p1 = grind (arith, to_z-of_z) in
    let same_as_first : (c.args.p ≡ old.p1) × (suffix c.args.y.now 0 c.args.size ≡ suffix old.first 0 c.args.size) = rw (p_kept, first_value_kept) at c.in-Equal.ensures in
    keeps_none c.args.size c.args.p c.args.y.now old (inl same_as_first.1)
