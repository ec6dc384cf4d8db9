-- The own entries of a form, by their places.
use Rattle.std.proofs.Common.{◌≡◌, ⊎_elim, ℕ, zero, suc, ◌+◌, ◌^◌, ◌<◌, ◌≤◌, ℤ, pos, ◌*ℤ◌, ◌<ℤ◌, arith, subst, pow_pos, eq-or-lt_of_le}
use Rattle.whole_math.proofs.Order.{lt_pos}
use Rattle.quadratic_form.specs.Places.{form_from}
use Rattle.quadratic_form.specs.Lowering.{OwnBelow}

pub own_below : (e : ℕ → ℕ → ℤ) (h j k : ℕ) → ((i : ℕ) → j ≤ i → i < j + k → (pos 63 *ℤ e i i) <ℤ pos (2 ^ (50 + h))) → OwnBelow h (form_from e j k)
own_below e h j zero b = tt
own_below e h j (suc k) b = (b j (omega arith) (omega arith), own_below e h (suc j) k (λ i f g. b i (omega arith) (omega arith)))

pub own_of : (e : ℕ → ℕ → ℤ) (h j k : ℕ) → OwnBelow h (form_from e j k) → (i : ℕ) → j ≤ i → i < j + k → (pos 63 *ℤ e i i) <ℤ pos (2 ^ (50 + h))
own_of e h j zero b i f g = absurd (omega arith)
own_of e h j (suc k) b i f g = ⊎_elim (λ (s : j ≡ i). subst (λ (m : ℕ). (pos 63 *ℤ e m m) <ℤ pos (2 ^ (50 + h))) s b.0) (λ (l : suc j ≤ i). own_of e h (suc j) k b.1 i l (omega arith))
    (eq-or-lt_of_le f)

pub power_above : (k : ℕ) → pos 0 <ℤ pos (2 ^ (50 + k))
power_above k = lt_pos 0 (2 ^ (50 + k)) (pow_pos (50 + k))
