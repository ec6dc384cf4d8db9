use Rattle.std.proofs.Common.{◌≤◌, ℤ, pos, neg_ℤ, unsigned_abs, w64, arith, subst, ◌∙◌}
use Rattle.std.proofs.lemmas.Int.{ints, to_z-of_z}
use Rattle.whole_math.specs.Rational.{◌≈◌, ◌≤ʳ◌}
use Rattle.eph_store.specs.Decimals.{decimal, value_of}
use Rattle.sim_session.proofs.Normals.{from_to}
use Rattle.sim_session.proofs.records.mean_anomaly.Goals as goal

low : (n : ℤ) → unsigned_abs n ≤ 8 → decimal (neg_ℤ (pos 65)) 1 ≤ʳ decimal n 1
low n h = omega (arith, ints, h)

high : (n : ℤ) → unsigned_abs n ≤ 8 → decimal n 1 ≤ʳ decimal (pos 65) 1
high n h = omega (arith, ints, h)

pub returns-clause-value : goal.returns-clause-value
returns-clause-value c =
    let value_is = to_z-of_z w64 c.anomaly_tenths.result (record { sfits = c.anomaly_tenths.type_inv }) ∙ c.anomaly_tenths.ensures.value in
    subst (λ (z : ℤ). value_of c.normal.result ≈ decimal z 1) value_is c.normal.ensures.value

pub returns-clause-range : goal.returns-clause-range
returns-clause-range c =
    let number_is = to_z-of_z w64 c.anomaly_tenths.result (record { sfits = c.anomaly_tenths.type_inv }) in
    let tenths = c.anomaly_tenths.result in
    from_to (neg_ℤ (pos 65)) (pos 65) tenths 1 1 c.normal.result (subst (λ (z : ℤ). value_of c.normal.result ≈ decimal z 1) number_is c.normal.ensures.value)
    (low tenths (c.anomaly_tenths.ensures.size)) (high tenths (c.anomaly_tenths.ensures.size))
