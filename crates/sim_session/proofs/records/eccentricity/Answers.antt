use Rattle.std.proofs.Common.{◌≡◌, ℕ, ◌+◌, ◌<◌, ℤ, pos, ◌≤ℤ◌, w64, arith, subst, ◌∙◌}
use Rattle.std.proofs.lemmas.Int.{ints, to_z-of_z}
use Rattle.whole_math.specs.Rational.{◌≈◌, ◌≤ʳ◌}
use Rattle.eph_store.specs.Decimals.{decimal, value_of}
use Rattle.sim_session.proofs.Normals.{from_to}
use Rattle.sim_session.proofs.records.eccentricity.Goals as goal

within : (k : ℕ) (n : ℤ) → k < 15 → n ≡ pos (k + 1) → (pos 0 ≤ℤ n) × (n ≤ℤ pos 15)
within k n h e = (omega (arith, ints), omega (arith, ints))

low : (n : ℤ) → (pos 0 ≤ℤ n) × (n ≤ℤ pos 15) → decimal (pos 0) 5 ≤ʳ decimal n 3
low n h = omega (arith, ints, h.0, h.1)

high : (n : ℤ) → (pos 0 ≤ℤ n) × (n ≤ℤ pos 15) → decimal n 3 ≤ʳ decimal (pos 3125) 5
high n h = omega (arith, ints, h.0, h.1)

pub returns-clause-value : goal.returns-clause-value
returns-clause-value c =
    let value_is = to_z-of_z w64 c.number_of.result (record { sfits = c.number_of.type_inv }) ∙ c.number_of.ensures.value in
    subst (λ (z : ℤ). value_of c.normal.result ≈ decimal z 3) value_is c.normal.ensures.value

pub returns-clause-range : goal.returns-clause-range
returns-clause-range c =
    let number_is = to_z-of_z w64 c.number_of.result (record { sfits = c.number_of.type_inv }) in
    let number = c.number_of.result in
    from_to (pos 0) (pos 3125) number 5 3 c.normal.result (subst (λ (z : ℤ). value_of c.normal.result ≈ decimal z 3) number_is c.normal.ensures.value)
    (low number (within c.args.k number c.requires c.number_of.ensures.value)) (high number (within c.args.k number c.requires c.number_of.ensures.value))
