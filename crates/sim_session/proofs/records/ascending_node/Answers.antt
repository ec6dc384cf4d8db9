use Rattle.std.proofs.Common.{◌≤◌, ℤ, pos, neg_ℤ, unsigned_abs, w64, arith, subst, ◌∙◌}
use Rattle.std.proofs.lemmas.Int.{ints, to_z-of_z}
use Rattle.whole_math.specs.Rational.{◌≈◌, ◌≤ʳ◌}
use Rattle.eph_store.specs.Decimals.{decimal, value_of}
use Rattle.sim_session.proofs.Normals.{from_to}
use Rattle.sim_session.proofs.records.ascending_node.Goals as goal

low : (n : ℤ) → unsigned_abs n ≤ 108 → decimal (neg_ℤ (pos 65)) 1 ≤ʳ decimal n 2
low n h = omega (arith, ints, h)

high : (n : ℤ) → unsigned_abs n ≤ 108 → decimal n 2 ≤ʳ decimal (pos 65) 1
high n h = omega (arith, ints, h)

pub returns-clause-value : goal.returns-clause-value
returns-clause-value c =
    let value_is = to_z-of_z w64 c.node_hundredths.result (record { sfits = c.node_hundredths.type_inv }) ∙ c.node_hundredths.ensures.value in
    subst (λ (z : ℤ). value_of c.normal.result ≈ decimal z 2) value_is c.normal.ensures.value

pub returns-clause-range : goal.returns-clause-range
returns-clause-range c =
    let number_is = to_z-of_z w64 c.node_hundredths.result (record { sfits = c.node_hundredths.type_inv }) in
    let hundredths = c.node_hundredths.result in
    from_to (neg_ℤ (pos 65)) (pos 65) hundredths 1 2 c.normal.result (subst (λ (z : ℤ). value_of c.normal.result ≈ decimal z 2) number_is c.normal.ensures.value)
    (low hundredths (c.node_hundredths.ensures.size)) (high hundredths (c.node_hundredths.ensures.size))
