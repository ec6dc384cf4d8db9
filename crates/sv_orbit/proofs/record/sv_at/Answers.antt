-- The constants of that world are those of GPS.
use Rattle.std.proofs.Common.{◌≡◌, ℤ, ap₂, sym, subst}
use Rattle.std.proofs.lemmas.Int.{to_z-of_z}
use Rattle.std.specs.Int.{w64}
use Rattle.whole_math.specs.Rational.{of_whole}
use Rattle.eph_store.specs.Decimals.{decimal}
use Rattle.orbit_model.specs.Elements.{Elements, Constants, sent_at, elements_of, gps}
use Rattle.orbit_model.specs.Solution.{IsNearSolution}
use Rattle.sv_orbit.specs.Records.{constants_of}
use Rattle.sv_orbit.proofs.record.sv_at.Goals as goal

pub returns : goal.returns
returns c = λ q s.
    let elements : Elements = elements_of c.args.eph.now in
    let same : constants_of c.gps.result ≡ gps = ap₂ (λ (m r : ℤ). let constants : Constants = record { mu = of_whole m; relativity = decimal r 19 } in constants) c.gps.ensures.mu c.gps.ensures.rel in
    c.sv_with.ensures q (subst (λ (k : ℤ). IsNearSolution (constants_of c.gps.result) elements (sent_at c.args.tag.0 k) q) (sym (to_z-of_z w64 c.args.code c.ranges.code))
    (subst (λ (w : Constants). IsNearSolution w elements (sent_at c.args.tag.0 c.args.code) q) (sym same) s))
