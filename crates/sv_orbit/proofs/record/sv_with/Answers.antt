-- The record that is made is of this ephemeris and world.
use Rattle.std.proofs.Common.{ℤ, sym, subst, subst₂, to_z, of_z}
use Rattle.std.proofs.lemmas.Int.{to_z-of_z}
use Rattle.std.specs.Int.{w64}
use Rattle.eph_store.specs.declared.ephemeris.Eph.{Eph}
use Rattle.orbit_model.specs.Elements.{sent_at, elements_of}
use Rattle.orbit_model.specs.Solution.{IsNearSolution}
use Rattle.sv_orbit.specs.declared.world.World.{World}
use Rattle.sv_orbit.specs.Records.{constants_of}
use Rattle.sv_orbit.proofs.record.sv_with.Goals as goal

pub returns : goal.returns
returns c = λ q s.
    let own : IsNearSolution (constants_of c.args.world.now) (elements_of c.args.eph.now) (sent_at c.args.tag.0 (to_z w64 (of_z w64 c.args.code))) q =
    subst (λ (k : ℤ). IsNearSolution (constants_of c.args.world.now) (elements_of c.args.eph.now) (sent_at c.args.tag.0 k) q) (sym (to_z-of_z w64 c.args.code c.ranges.code)) s in
    c.sv_from.ensures q
    (subst₂ (λ (w : World) (e : Eph). IsNearSolution (constants_of w) (elements_of e) (sent_at c.args.tag.0 (to_z w64 (of_z w64 c.args.code))) q)
    (sym c.of.ensures.world) (sym c.of.ensures.eph) own)
