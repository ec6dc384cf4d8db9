-- The timing of a solution, then its place.
use Rattle.std.proofs.Common.{ℤ, sym, subst}
use Rattle.std.proofs.lemmas.Int.{to_z-of_z}
use Rattle.std.specs.Int.{w64}
use Rattle.whole_math.specs.Rational.{Rational}
use Rattle.orbit_model.specs.Elements.{Elements, Constants, sent_at, elements_of}
use Rattle.orbit_model.specs.Solution.{IsNearSolution, with_share}
use Rattle.sv_orbit.specs.Records.{constants_of}
use Rattle.sv_orbit.proofs.record.sv_from.Goals as goal

pub returns : goal.returns
returns c = λ q s.
    let constants : Constants = constants_of c.args.made.now.clock.world in
    let elements : Elements = elements_of c.args.made.now.clock.eph in
    let sent : Rational = sent_at c.args.tag.0 c.args.code in
    let timing_holds = c.timing_at-timing.ensures q (subst (λ (k : ℤ). IsNearSolution constants elements (sent_at c.args.tag.0 k) q) (sym (to_z-of_z w64 c.args.code c.ranges.code)) s) in
    record { place = c.place_of.ensures.holds constants (with_share elements s.share) sent q (c.orbit_of-orbit.ensures sent constants q s timing_holds) s.solves; clock = timing_holds.clock }
