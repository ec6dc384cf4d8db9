use Rattle.std.proofs.Common.{◌≡◌, ℕ, ◌+◌, ◌<◌, ◌≤◌, ℤ, pos, negsuc, ◌+ℤ◌, ◌-ℤ◌, ◌*ℤ◌, unsigned_abs, w32, w64, to_z, of_z, arith}
use Rattle.std.proofs.lemmas.Int.{ints}
use Rattle.sim_session.proofs.Normals.{shifted}
use Rattle.sim_session.proofs.numbers.normal.Goals as goal

pub returns-then-size-ge100-clause-value : goal.returns-then-size-ge100-clause-value
returns-then-size-ge100-clause-value c = shifted _ _ c.args.n c.args.places 9 (mant c.args.n c.requires.size) (exp c.args.places c.requires.places)
  where
    mant : (n : ℤ) → unsigned_abs n < 1000 → to_z w64 (of_z w64 (to_z w64 (of_z w64 n) *ℤ pos 10000000000)) ≡ n *ℤ pos 10000000000
    mant n h = omega (arith, ints)

    exp : (p : ℕ) → p ≤ 20 → to_z w32 (of_z w32 (pos 0 -ℤ to_z w32 (of_z w32 (to_z w32 p +ℤ pos 10)))) ≡ negsuc (p + 9)
    exp p h = omega (arith, ints)

pub returns-then-size-ge10-clause-value : goal.returns-then-size-ge10-clause-value
returns-then-size-ge10-clause-value c = shifted _ _ c.args.n c.args.places 10 (mant c.args.n c.requires.size) (exp c.args.places c.requires.places)
  where
    mant : (n : ℤ) → unsigned_abs n < 1000 → to_z w64 (of_z w64 (to_z w64 (of_z w64 n) *ℤ pos 100000000000)) ≡ n *ℤ pos 100000000000
    mant n h = omega (arith, ints)

    exp : (p : ℕ) → p ≤ 20 → to_z w32 (of_z w32 (pos 0 -ℤ to_z w32 (of_z w32 (to_z w32 p +ℤ pos 11)))) ≡ negsuc (p + 10)
    exp p h = omega (arith, ints)

pub returns-then-size-ge1-clause-value : goal.returns-then-size-ge1-clause-value
returns-then-size-ge1-clause-value c = shifted _ _ c.args.n c.args.places 11 (mant c.args.n c.requires.size) (exp c.args.places c.requires.places)
  where
    mant : (n : ℤ) → unsigned_abs n < 1000 → to_z w64 (of_z w64 (to_z w64 (of_z w64 n) *ℤ pos 1000000000000)) ≡ n *ℤ pos 1000000000000
    mant n h = omega (arith, ints)

    exp : (p : ℕ) → p ≤ 20 → to_z w32 (of_z w32 (pos 0 -ℤ to_z w32 (of_z w32 (to_z w32 p +ℤ pos 12)))) ≡ negsuc (p + 11)
    exp p h = omega (arith, ints)
