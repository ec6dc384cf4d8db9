use Rattle.std.proofs.Common.{◌≤◌, ℤ, pos, neg_ℤ, unsigned_abs, w64, arith, subst, ◌∙◌}
use Rattle.std.proofs.lemmas.Int.{ints, to_z-of_z}
use Rattle.whole_math.specs.Rational.{◌≈◌, ◌≤ʳ◌}
use Rattle.eph_store.specs.Decimals.{decimal, value_of}
use Rattle.sim_session.proofs.Normals.{from_to}
use Rattle.sim_session.proofs.records.clock_offset.Goals as goal

low : (n : ℤ) → unsigned_abs n ≤ 15 → decimal (neg_ℤ (pos 1)) 2 ≤ʳ decimal n 5
low n h = omega (arith, ints, h)

high : (n : ℤ) → unsigned_abs n ≤ 15 → decimal n 5 ≤ʳ decimal (pos 1) 2
high n h = omega (arith, ints, h)

pub returns-clause-value : goal.returns-clause-value
returns-clause-value c =
    let value_is = to_z-of_z w64 c.number_of.result (record { sfits = c.number_of.type_inv }) ∙ c.number_of.ensures.value in
    subst (λ (z : ℤ). value_of c.normal.result ≈ decimal z 5) value_is c.normal.ensures.value

pub returns-clause-range : goal.returns-clause-range
returns-clause-range c =
    let number_is = to_z-of_z w64 c.number_of.result (record { sfits = c.number_of.type_inv }) in
    let number = c.number_of.result in
    from_to (neg_ℤ (pos 1)) (pos 1) number 2 5 c.normal.result (subst (λ (z : ℤ). value_of c.normal.result ≈ decimal z 5) number_is c.normal.ensures.value)
    (low number (c.number_of.ensures.size)) (high number (c.number_of.ensures.size))
