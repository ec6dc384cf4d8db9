-- The weights of the signals.
use Rattle.std.proofs.Common.{◌≡◌, ℕ, zero, suc, ◌*◌, ◌/◌, ◌^◌, ◌≤◌, ◌+ℤ◌, ◌*ℤ◌, ◌≤ℤ◌, List, [], ◌∷◌, pos, ℤ, slice_index_or, unsigned_abs, arith, refl, ap, sym, subst}
use Rattle.std.specs.List.{AllByRecursion}
use Rattle.std.proofs.Math.Nat.{div-mul-le_self}
use Rattle.whole_math.proofs.Ring.{◌⊖◌, ◌⊕◌, ◌⊗◌}
use Rattle.whole_math.proofs.Inequalities.{le_by, both_nn, prod_nn, less_nn, pos_nn, nat}
use Rattle.whole_math.proofs.Order.{lins}
use Rattle.obs_rows.specs.declared.units.TheConstants.{WEIGHTS}
use Rattle.obs_rows.specs.Signals.{weight}
use Rattle.obs_rows.specs.SumOfSquares.{share}
use Rattle.normal_sum.proofs.RowSums.{turned_size}

record Weight (x : ℤ) : Type 0 where
  w : ℕ
  is : x ≡ pos w
  small : w ≤ 10000

of_phase : Weight (pos 10000)
of_phase = record { w = 10000; is = refl; small = omega arith }

of_code : Weight (pos 1)
of_code = record { w = 1; is = refl; small = omega arith }

in_list : (ws : List ℤ) → AllByRecursion Weight ws → (s : ℕ) → Weight (slice_index_or ws s (pos 0))
in_list [] h s = record { w = 0; is = refl; small = omega arith }
in_list (w ∷ ws) h zero = h.0
in_list (w ∷ ws) h (suc s) = in_list ws h.1 s

weight_of : (s : ℕ) → Weight (weight s)
weight_of = in_list WEIGHTS (of_phase, (of_phase, (of_code, (of_code, (of_phase, (of_code, tt))))))

-- the turned share of a group of n rows
pub share_size : (n s : ℕ) (x : ℤ) → pos 0 ≡ x +ℤ (pos (360360 / n) *ℤ weight s) → unsigned_abs x * n ≤ 2 ^ 32
share_size n s x e = go (weight_of s)
  where
    go : Weight (weight s) → unsigned_abs x * n ≤ 2 ^ 32
    go k = turned_size (360360 / n) k.w n x (pos (360360 / n) *ℤ weight s) (ap (λ z. pos (360360 / n) *ℤ z) k.is) e (div-mul-le_self 360360 n) k.small

factor_within : (a n : ℕ) → 1 ≤ n → a * n ≤ 2 ^ 32 → a ≤ 2 ^ 32
factor_within zero n h g = omega arith
factor_within (suc a) zero h g = absurd (omega arith)
factor_within (suc a) (suc n) h g = grind arith

pub share_within : (n s : ℕ) (x : ℤ) → 1 ≤ n → pos 0 ≡ x +ℤ (pos (360360 / n) *ℤ weight s) → unsigned_abs x ≤ 2 ^ 32
share_within n s x g e = factor_within (unsigned_abs x) n g (share_size n s x e)

-- over at most all rows it is no more than over one
pub share_small : (n s : ℕ) → 1 ≤ n → unsigned_abs (share n s) ≤ 2 ^ 32
share_small n s h = go (weight_of s)
  where
    product : (q w : ℕ) → q ≤ 360360 → w ≤ 10000 → q * w ≤ 2 ^ 32
    product q w h g = grind arith

    one : (q n : ℕ) → 1 ≤ n → q * n ≤ 360360 → q ≤ 360360
    one zero n h g = omega arith
    one (suc q) zero h g = absurd (omega arith)
    one (suc q) (suc n) h g = grind arith

    go : Weight (weight s) → unsigned_abs (share n s) ≤ 2 ^ 32
    go k = subst (λ (x : ℤ). unsigned_abs (pos (360360 / n) *ℤ x) ≤ 2 ^ 32) (sym k.is) (product (360360 / n) k.w (one (360360 / n) n h (div-mul-le_self 360360 n)) k.small)

-- q w n ≤ 360360 · 10000 where q n ≤ 360360
share_below : (q w n : ℤ) → pos 0 ≤ℤ q → pos 0 ≤ℤ n → (q *ℤ n) ≤ℤ pos 360360 → w ≤ℤ pos 10000 → ((q *ℤ w) *ℤ n) ≤ℤ pos (360360 * 10000)
share_below q w n h g k l = le_by (q ∷ w ∷ n ∷ []) (λ q w n. ((q ⊗ w) ⊗ n, nat (360360 * 10000), (q ⊗ n) ⊗ (nat 10000 ⊖ w) ⊕ (nat 360360 ⊖ q ⊗ n) ⊗ nat 10000)) refl
    (both_nn (prod_nn (prod_nn h g) (less_nn l)) (prod_nn (less_nn k) (pos_nn 10000)))

pub share_to : (n s : ℕ) → (share n s *ℤ pos n) ≤ℤ pos (2 ^ 32)
share_to n s =
    let is_weight : Weight (weight s) = weight_of s in
    let below : ((pos (360360 / n) *ℤ weight s) *ℤ pos n) ≤ℤ pos (360360 * 10000) =
    share_below (pos (360360 / n)) (weight s) (pos n) (pos_nn (360360 / n)) (pos_nn n) (whole (360360 / n) n (div-mul-le_self 360360 n))
    (subst (λ (w : ℤ). w ≤ℤ pos 10000) (sym is_weight.is) (few is_weight.w is_weight.small)) in
    wider (share n s *ℤ pos n) below
  where
    whole : (a b : ℕ) → a * b ≤ 360360 → (pos a *ℤ pos b) ≤ℤ pos 360360
    whole a b h = grind (arith, lins)

    few : (a : ℕ) → a ≤ 10000 → pos a ≤ℤ pos 10000
    few a h = omega (arith, lins)

    wider : (x : ℤ) → x ≤ℤ pos (360360 * 10000) → x ≤ℤ pos (2 ^ 32)
    wider x h = omega (arith, lins)
