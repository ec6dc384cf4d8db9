-- Whole cycles are small wherever they are looked up.
use Rattle.std.proofs.Common.{◌≡◌, ℕ, zero, suc, ◌≤◌, List, [], ◌∷◌, get_or, ℤ, pos, unsigned_abs, All, w64, to_z, of_z, arith, lit≤}
use Rattle.std.proofs.lemmas.Int.{ints}
use Rattle.whole_math.proofs.Words.{as_w64}
use Rattle.std.proofs.lemmas.List.Elements.{All-head, All-tail}
use Rattle.sim_session.specs.declared.drawn.TheConstants.{MOST_CYCLES}

-- at most the number within which cycles are drawn, which is that of a coordinate of the offset
abbrev pub IsSmall : ℤ → Type 0
IsSmall z = unsigned_abs z ≤ MOST_CYCLES

pub small_at : (xs : List ℤ) (i : ℕ) → All IsSmall xs → IsSmall (get_or xs i (pos 0))
small_at [] i h = lit≤ tt
small_at (x ∷ xs) zero h = All-head IsSmall x xs h
small_at (x ∷ xs) (suc i) h = small_at xs i (All-tail IsSmall x xs h)

pub cycles_cast : (z : ℤ) → IsSmall z → to_z w64 (of_z w64 z) ≡ z
cycles_cast z small = as_w64 z (omega (arith, small))

pub still_small : (z : ℤ) → IsSmall z → unsigned_abs (to_z w64 (of_z w64 z)) ≤ MOST_CYCLES
still_small z small = omega (arith, ints)
