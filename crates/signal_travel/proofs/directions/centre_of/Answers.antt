use Rattle.std.proofs.Common.{◌≡◌, ℤ, pos, ◌-ℤ◌, ◌≤ℤ◌, neg_ℤ, arith, to_z, of_z, ◌^◌, ◌+◌}
use Rattle.std.proofs.lemmas.Int.{ints, clamps}
use Rattle.std.specs.Int.{w64, int_min, int_max}
use Rattle.obs_rows.specs.declared.units.TheConstants.{DIRECTION_EXPONENT}
use Rattle.signal_travel.proofs.directions.centre_of.Goals as goal

low : (l h m a r : ℤ) → neg_ℤ (pos (2 ^ DIRECTION_EXPONENT + 28)) ≤ℤ l → h ≤ℤ pos (2 ^ DIRECTION_EXPONENT + 28) → l ≤ℤ m → m ≤ℤ h → (m -ℤ l) ≤ℤ pos 28 →
    a ≡ int_max (to_z w64 (of_z w64 m)) (neg_ℤ (pos (2 ^ DIRECTION_EXPONENT))) → r ≡ int_min (to_z w64 (of_z w64 a)) (pos (2 ^ DIRECTION_EXPONENT)) → (to_z w64 (of_z w64 r) -ℤ l) ≤ℤ pos 32
low l h m a r least most from to near raised lowered = omega (arith, ints, clamps)

high : (l h m a r : ℤ) → neg_ℤ (pos (2 ^ DIRECTION_EXPONENT + 28)) ≤ℤ l → h ≤ℤ pos (2 ^ DIRECTION_EXPONENT + 28) → l ≤ℤ m → m ≤ℤ h → (h -ℤ m) ≤ℤ pos 29 →
    a ≡ int_max (to_z w64 (of_z w64 m)) (neg_ℤ (pos (2 ^ DIRECTION_EXPONENT))) → r ≡ int_min (to_z w64 (of_z w64 a)) (pos (2 ^ DIRECTION_EXPONENT)) → (h -ℤ to_z w64 (of_z w64 r)) ≤ℤ pos 32
high l h m a r least most from to near raised lowered = omega (arith, ints, clamps)

pub returns-clause-low : goal.returns-clause-low
returns-clause-low c =
    let middle_stands = c.middle_of.ensures in
    low c.args.x.now.lo c.args.x.now.hi c.middle_of.result c.max.result c.min.result c.requires.size.0 c.requires.size.1 middle_stands.low middle_stands.high middle_stands.below c.max.ensures.value c.min.ensures.value

pub returns-clause-high : goal.returns-clause-high
returns-clause-high c =
    let middle_stands = c.middle_of.ensures in
    high c.args.x.now.lo c.args.x.now.hi c.middle_of.result c.max.result c.min.result c.requires.size.0 c.requires.size.1 middle_stands.low middle_stands.high middle_stands.above c.max.ensures.value c.min.ensures.value
