use Rattle.std.proofs.Common.{◌≡◌, List, [], ◌∷◌, ℤ, pos, length, get_or, refl, arith, sym, subst}
use Rattle.whole_math.proofs.Lists.{three_items}
use Rattle.orbit_model.specs.Elements.{sent_at, elements_of}
use Rattle.orbit_model.specs.Solution.{Quantities, IsNearSolution}
use Rattle.sv_orbit.specs.Records.{constants_of}
use Rattle.orbit_model.specs.SeenPlaces.{range_of, sent_place}
use Rattle.sv_orbit.proofs.Ranges.{near}
use Rattle.sim_session.specs.Observed.{distance}
use Rattle.sim_session.proofs.Solutions.{code_cast}
use Rattle.sim_session.proofs.passes.distance_at.Goals as goal

pub returns : goal.returns
returns c =
    let world = c.args.world.now in
    let eph = c.args.eph.now in
    let point : List ℤ = c.args.receiver.now.point in
    let x : ℤ = get_or point 0 (pos 0) in
    let y : ℤ = get_or point 1 (pos 0) in
    let z : ℤ = get_or point 2 (pos 0) in
    let three : length point ≡ 3 = omega arith in
    let point_is : point ≡ x ∷ y ∷ z ∷ [] = three_items point (pos 0) (pos 0) (pos 0) three in
    let held : (q : Quantities) → IsNearSolution (constants_of world) (elements_of eph) (sent_at c.args.tag.0 c.args.code) q → _ = λ q is.
    c.sv_with-satellite.ensures q (subst (λ (k : ℤ). IsNearSolution (constants_of world) (elements_of eph) (sent_at c.args.tag.0 k) q)
    (sym (code_cast c.args.code c.requires.code_low c.requires.code_high)) is) in
    let solution = near eph world c.args.tag.0 c.args.code c.requires.near c.requires.code_low c.requires.code_high in
    let quantities : Quantities = solution.quantities in
    let seen = c.seen_from-seen.ensures.exists x y z (sent_place quantities) point_is (held quantities solution.is).place in
    record {
      some = distance seen.travel quantities.clock;
      exists = record {
        solution = quantities;
        is_solution = solution.is;
        x = x;
        y = y;
        z = z;
        point_is = point_is;
        travel = seen.travel;
        seen = seen.seen;
        is_seen = seen.is_seen;
        distance_is = refl;
      };
      every = λ v is.
          let q : Quantities = is.solution in
          let within = held q is.is_solution in
          rw is.distance_is (c.distance_of.ensures (range_of is.travel) q.clock
          (c.seen_from-seen.ensures.range is.x is.y is.z (sent_place q) is.seen is.travel is.point_is within.place is.is_seen) within.clock);
    }
