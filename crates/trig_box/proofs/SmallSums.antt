-- The inner steps of a sum take nothing away where z is small.
use Rattle.std.proofs.Common.{◌≡◌, ℕ, ℤ, ◌-◌, ◌*◌, ◌/◌, ◌^◌, ◌≤◌, [], ◌∷◌, arith, unsigned_abs}
use Rattle.std.proofs.Math.Nat.{mul-le-mul}
use Rattle.trig_box.specs.Chain.{summed, argument}
use Rattle.trig_box.proofs.Lists.{summed_cons, summed_one}

nothing : (k i z : ℕ) → z * i / 2 ^ 62 ≡ 0 → k ≡ k - z * i / 2 ^ 62
nothing k i z e = rw e (omega arith)

cosine_1 : (z : ℕ) → z ≤ 2 ^ 20 → 220414 ≡ summed (220414 ∷ 720 ∷ []) z
cosine_1 z h = summed_cons 220414 (720 ∷ []) z 220414 720 (summed_one 720 z) (nothing 220414 720 z (part z h))
  where
    part : (z : ℕ) → z ≤ 2 ^ 20 → z * 720 / 2 ^ 62 ≡ 0
    part z h = omega arith

cosine_2 : (z : ℕ) → z ≤ 2 ^ 20 → 52899477 ≡ summed (52899477 ∷ 220414 ∷ 720 ∷ []) z
cosine_2 z h = summed_cons 52899477 (220414 ∷ 720 ∷ []) z 52899477 220414 (cosine_1 z h) (nothing 52899477 220414 z (part z h))
  where
    part : (z : ℕ) → z ≤ 2 ^ 20 → z * 220414 / 2 ^ 62 ≡ 0
    part z h = omega arith

cosine_3 : (z : ℕ) → z ≤ 2 ^ 20 → 9627704831 ≡ summed (9627704831 ∷ 52899477 ∷ 220414 ∷ 720 ∷ []) z
cosine_3 z h = summed_cons 9627704831 (52899477 ∷ 220414 ∷ 720 ∷ []) z 9627704831 52899477 (cosine_2 z h) (nothing 9627704831 52899477 z (part z h))
  where
    part : (z : ℕ) → z ≤ 2 ^ 20 → z * 52899477 / 2 ^ 62 ≡ 0
    part z h = omega arith

cosine_4 : (z : ℕ) → z ≤ 2 ^ 20 → 1270857037706 ≡ summed (1270857037706 ∷ 9627704831 ∷ 52899477 ∷ 220414 ∷ 720 ∷ []) z
cosine_4 z h = summed_cons 1270857037706 (9627704831 ∷ 52899477 ∷ 220414 ∷ 720 ∷ []) z 1270857037706 9627704831 (cosine_3 z h) (nothing 1270857037706 9627704831 z (part z h))
  where
    part : (z : ℕ) → z ≤ 2 ^ 20 → z * 9627704831 / 2 ^ 62 ≡ 0
    part z h = omega arith

pub cosine_5 : (z : ℕ) → z ≤ 2 ^ 20 → 114377133393536 ≡ summed (114377133393536 ∷ 1270857037706 ∷ 9627704831 ∷ 52899477 ∷ 220414 ∷ 720 ∷ []) z
cosine_5 z h = summed_cons 114377133393536 (1270857037706 ∷ 9627704831 ∷ 52899477 ∷ 220414 ∷ 720 ∷ []) z 114377133393536 1270857037706 (cosine_4 z h) (nothing 114377133393536 1270857037706 z (part z h))
  where
    part : (z : ℕ) → z ≤ 2 ^ 20 → z * 1270857037706 / 2 ^ 62 ≡ 0
    part z h = omega arith

sine_1 : (z : ℕ) → z ≤ 2 ^ 20 → 12966 ≡ summed (12966 ∷ 38 ∷ []) z
sine_1 z h = summed_cons 12966 (38 ∷ []) z 12966 38 (summed_one 38 z) (nothing 12966 38 z (part z h))
  where
    part : (z : ℕ) → z ≤ 2 ^ 20 → z * 38 / 2 ^ 62 ≡ 0
    part z h = omega arith

sine_2 : (z : ℕ) → z ≤ 2 ^ 20 → 3526632 ≡ summed (3526632 ∷ 12966 ∷ 38 ∷ []) z
sine_2 z h = summed_cons 3526632 (12966 ∷ 38 ∷ []) z 3526632 12966 (sine_1 z h) (nothing 3526632 12966 z (part z h))
  where
    part : (z : ℕ) → z ≤ 2 ^ 20 → z * 12966 / 2 ^ 62 ≡ 0
    part z h = omega arith

sine_3 : (z : ℕ) → z ≤ 2 ^ 20 → 740592679 ≡ summed (740592679 ∷ 3526632 ∷ 12966 ∷ 38 ∷ []) z
sine_3 z h = summed_cons 740592679 (3526632 ∷ 12966 ∷ 38 ∷ []) z 740592679 3526632 (sine_2 z h) (nothing 740592679 3526632 z (part z h))
  where
    part : (z : ℕ) → z ≤ 2 ^ 20 → z * 3526632 / 2 ^ 62 ≡ 0
    part z h = omega arith

sine_4 : (z : ℕ) → z ≤ 2 ^ 20 → 115532457973 ≡ summed (115532457973 ∷ 740592679 ∷ 3526632 ∷ 12966 ∷ 38 ∷ []) z
sine_4 z h = summed_cons 115532457973 (740592679 ∷ 3526632 ∷ 12966 ∷ 38 ∷ []) z 115532457973 740592679 (sine_3 z h) (nothing 115532457973 740592679 z (part z h))
  where
    part : (z : ℕ) → z ≤ 2 ^ 20 → z * 740592679 / 2 ^ 62 ≡ 0
    part z h = omega arith

pub sine_5 : (z : ℕ) → z ≤ 2 ^ 20 → 12708570377060 ≡ summed (12708570377060 ∷ 115532457973 ∷ 740592679 ∷ 3526632 ∷ 12966 ∷ 38 ∷ []) z
sine_5 z h = summed_cons 12708570377060 (115532457973 ∷ 740592679 ∷ 3526632 ∷ 12966 ∷ 38 ∷ []) z 12708570377060 115532457973 (sine_4 z h) (nothing 12708570377060 115532457973 z (part z h))
  where
    part : (z : ℕ) → z ≤ 2 ^ 20 → z * 115532457973 / 2 ^ 62 ≡ 0
    part z h = omega arith

-- the square of a small angle's part
pub small_argument : (n : ℤ) → unsigned_abs n ≤ 2 ^ 42 → argument n ≤ 2 ^ 20
small_argument n h = let square_at_most : unsigned_abs n * unsigned_abs n ≤ 2 ^ 42 * 2 ^ 42 = mul-le-mul h h in omega arith
