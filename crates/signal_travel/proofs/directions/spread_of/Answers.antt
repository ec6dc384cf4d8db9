use Rattle.std.proofs.Common.{◌≡◌, ◌≤◌, ℤ, pos, ◌+ℤ◌, ◌-ℤ◌, ◌≤ℤ◌, neg_ℤ, unsigned_abs, arith, to_z, of_z, ◌^◌, ◌+◌}
use Rattle.std.proofs.lemmas.Int.{ints, clamps}
use Rattle.std.specs.Int.{w64, int_max}
use Rattle.whole_math.proofs.Inequalities.{pos_nn}
use Rattle.obs_rows.specs.declared.units.TheConstants.{DIRECTION_EXPONENT}
use Rattle.signal_travel.proofs.MeanDirectionCertificates.{in_spread_low, in_spread_high}
use Rattle.signal_travel.proofs.directions.spread_of.Goals as goal

-- what the code has: a box from l to h, a centre k and the greater of its distances from the ends
record IsSpread (l h k r : ℤ) : Type 0 where
  pub low : neg_ℤ (pos (2 ^ DIRECTION_EXPONENT + 28)) ≤ℤ l
  pub high : h ≤ℤ pos (2 ^ DIRECTION_EXPONENT + 28)
  pub ordered : l ≤ℤ h
  pub size : unsigned_abs k ≤ 2 ^ DIRECTION_EXPONENT
  pub below : (k -ℤ l) ≤ℤ pos 32
  pub above : (h -ℤ k) ≤ℤ pos 32
  pub radius : r ≡ int_max (to_z w64 (of_z w64 (to_z w64 (of_z w64 h) -ℤ to_z w64 (of_z w64 k)))) (to_z w64 (of_z w64 (to_z w64 (of_z w64 k) -ℤ to_z w64 (of_z w64 l))))

-- the radius in plain numbers
plain : (l h k r : ℤ) → neg_ℤ (pos (2 ^ DIRECTION_EXPONENT + 28)) ≤ℤ l → h ≤ℤ pos (2 ^ DIRECTION_EXPONENT + 28) → l ≤ℤ h → unsigned_abs k ≤ 2 ^ DIRECTION_EXPONENT →
    r ≡ int_max (to_z w64 (of_z w64 (to_z w64 (of_z w64 h) -ℤ to_z w64 (of_z w64 k)))) (to_z w64 (of_z w64 (to_z w64 (of_z w64 k) -ℤ to_z w64 (of_z w64 l)))) → r ≡ int_max (h -ℤ k) (k -ℤ l)
plain l h k r a b o s e = omega (arith, ints, clamps)

bounds : (l h k r : ℤ) → IsSpread l h k r → ((to_z w64 (of_z w64 k) -ℤ to_z w64 (of_z w64 r)) ≤ℤ l) × (h ≤ℤ (to_z w64 (of_z w64 k) +ℤ to_z w64 (of_z w64 r)))
    × (unsigned_abs (to_z w64 (of_z w64 k)) ≤ 2 ^ DIRECTION_EXPONENT) × (pos 0 ≤ℤ to_z w64 (of_z w64 r)) × (to_z w64 (of_z w64 r) ≤ℤ pos 32)
bounds l h k r s = go s.low s.high s.ordered s.size s.below s.above (plain l h k r s.low s.high s.ordered s.size s.radius)
  where
    go : neg_ℤ (pos (2 ^ DIRECTION_EXPONENT + 28)) ≤ℤ l → h ≤ℤ pos (2 ^ DIRECTION_EXPONENT + 28) → l ≤ℤ h → unsigned_abs k ≤ 2 ^ DIRECTION_EXPONENT →
        (k -ℤ l) ≤ℤ pos 32 → (h -ℤ k) ≤ℤ pos 32 → r ≡ int_max (h -ℤ k) (k -ℤ l) →
        ((to_z w64 (of_z w64 k) -ℤ to_z w64 (of_z w64 r)) ≤ℤ l) × (h ≤ℤ (to_z w64 (of_z w64 k) +ℤ to_z w64 (of_z w64 r)))
        × (unsigned_abs (to_z w64 (of_z w64 k)) ≤ 2 ^ DIRECTION_EXPONENT) × (pos 0 ≤ℤ to_z w64 (of_z w64 r)) × (to_z w64 (of_z w64 r) ≤ℤ pos 32)
    go a b o t u v e = (omega (arith, ints, clamps), omega (arith, ints, clamps), omega (arith, ints), omega (arith, ints, clamps), omega (arith, ints, clamps))

spread : (c : goal.After-max) → IsSpread c.args.x.now.lo c.args.x.now.hi c.centre_of-centre.result c.max.result
spread c =
    let centre_stands = c.centre_of-centre.ensures in
    record { low = c.requires.size.0; high = c.requires.size.1; ordered = c.args.x.now.ordered; size = centre_stands.size; below = centre_stands.low; above = centre_stands.high; radius = c.max.ensures.value }

pub invariant_of-result : goal.invariant_of-result
invariant_of-result c =
    let spread_bounds = bounds c.args.x.now.lo c.args.x.now.hi c.centre_of-centre.result c.max.result (spread c) in
    record { centre_in = spread_bounds.2; radius_least = spread_bounds.3; radius_most = spread_bounds.4 }

pub returns : goal.returns
returns c = λ q h.
    let box = c.args.x.now in
    let spread_bounds = bounds box.lo box.hi c.centre_of-centre.result c.max.result (spread c.before) in (
      in_spread_low box.lo (to_z w64 (of_z w64 c.centre_of-centre.result) -ℤ to_z w64 (of_z w64 c.max.result)) q.num (pos q.den) spread_bounds.0 (pos_nn q.den) h.0,
      in_spread_high box.hi (to_z w64 (of_z w64 c.centre_of-centre.result) +ℤ to_z w64 (of_z w64 c.max.result)) q.num (pos q.den) spread_bounds.1 (pos_nn q.den) h.1,
    )
