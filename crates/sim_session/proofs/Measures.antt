-- Whole numbers of mm and of thousandths of a cycle near what is measured.
use Rattle.std.proofs.Common.{◌≡◌, ℕ, ◌*◌, ◌^◌, ◌≤◌, [], ◌∷◌, ℤ, pos, ◌+ℤ◌, ◌-ℤ◌, ◌*ℤ◌, ◌≤ℤ◌, ◌<ℤ◌, unsigned_abs, arith, refl, lit<}
use Rattle.std.proofs.lemmas.Int.{ints}
use Rattle.obs_rows.specs.declared.units.TheConstants.{LIGHT_SPEED}
use Rattle.whole_math.specs.Rounding.{IsNearest}
use Rattle.whole_math.proofs.Ring.{va, ko, ng, ◌⊕◌, ◌⊖◌, ◌⊗◌}
use Rattle.whole_math.proofs.Inequalities.{same_by, nat, weak, pos_nn, halve}
use Rattle.whole_math.proofs.Certificates.{cert, ◌≼◌, hy, nm, ◌⊞◌, ◌⊠◌}
use Rattle.whole_math.specs.Rational.{Rational, ◌≈◌, ◌≤ʳ◌, of_whole, ◌+ʳ◌, ◌-ʳ◌, ◌*ʳ◌, divided, AreWithin}
use Rattle.whole_math.specs.Boxes.{of_scale}
use Rattle.whole_math.proofs.RationalOrders.{order_r, cancel_r, ◌≐◌}
use Rattle.sim_session.specs.Observed.{IsDistance, measured, thousandths}

sum_is : (a b c : ℤ) → a ≡ b +ℤ c → of_whole a ≈ of_whole b +ʳ of_whole c
sum_is a b c e = omega (arith, ints)

-- ---- codes
code_low : (d n : ℤ) → (pos 2 *ℤ (n *ℤ pos (2 ^ 36))) ≤ℤ ((pos 2 *ℤ (pos 1000 *ℤ d)) +ℤ pos (2 ^ 36)) → of_whole n ≤ʳ of_whole (pos 1000) *ʳ of_scale 36 (d -ℤ pos 1) +ʳ of_whole (pos 1)
code_low d n h = omega (arith, ints)

code_high : (d n : ℤ) → ((pos 2 *ℤ (pos 1000 *ℤ d)) +ℤ pos (2 ^ 36)) <ℤ ((pos 2 *ℤ (n *ℤ pos (2 ^ 36))) +ℤ (pos 2 *ℤ pos (2 ^ 36)))
    → of_whole (pos 1000) *ʳ of_scale 36 (d +ℤ pos (2 ^ 20)) ≤ʳ of_whole n +ʳ of_whole (pos 1)
code_high d n h = omega (arith, ints)

pub code_near : (d n clock code : ℤ) (v : Rational) → code ≡ n +ℤ clock → IsNearest (pos 1000 *ℤ d) (2 ^ 36) n → IsDistance d v → AreWithin (of_whole (pos 2)) (of_whole code) (measured clock v)
code_near d n clock code v e i h = (
  order_r (v ∷ of_whole n ∷ of_whole clock ∷ of_scale 36 (d -ℤ pos 1) ∷ of_whole code ∷ [])
      ((va 3 ≼ va 0) ∷ (va 1 ≼ ko (pos 1000) ⊗ va 3 ⊕ ko (pos 1)) ∷ []) ((va 4 ≐ va 1 ⊕ va 2) ∷ [])
      (va 4 ⊖ (ko (pos 1000) ⊗ va 0 ⊕ va 2)) (ko (pos 2)) (hy 1 ⊞ nm 1000 ⊠ hy 0 ⊞ nm 1) (ng (ko (pos 1)) ∷ []) refl (h.0, (code_low d n i.0, tt)) (sum_is code n clock e, tt),
  order_r (v ∷ of_whole n ∷ of_whole clock ∷ of_scale 36 (d +ℤ pos (2 ^ 20)) ∷ of_whole code ∷ [])
      ((va 0 ≼ va 3) ∷ (ko (pos 1000) ⊗ va 3 ≼ va 1 ⊕ ko (pos 1)) ∷ []) ((va 4 ≐ va 1 ⊕ va 2) ∷ [])
      ((ko (pos 1000) ⊗ va 0 ⊕ va 2) ⊖ va 4) (ko (pos 2)) (hy 1 ⊞ nm 1000 ⊠ hy 0 ⊞ nm 1) (ko (pos 1) ∷ []) refl (h.1, (code_high d n i.1, tt)) (sum_is code n clock e, tt),
)

-- ---- phases

-- the distance, the clock term and the frequency f, scaled
abbrev pub scaled : ℤ → ℤ → ℤ → ℤ
scaled d clock f = ((pos 1000 *ℤ d) +ℤ (clock *ℤ pos (2 ^ 36))) *ℤ f

phase_low : (f d n clock : ℤ) → f ≤ℤ pos 2000000000 → (pos 2 *ℤ (n *ℤ pos (unsigned_abs LIGHT_SPEED * 2 ^ 36))) ≤ℤ ((pos 2 *ℤ scaled d clock f) +ℤ pos (unsigned_abs LIGHT_SPEED * 2 ^ 36)) →
    of_whole LIGHT_SPEED *ʳ of_whole n ≤ʳ of_whole f *ʳ (of_whole (pos 1000) *ʳ of_scale 36 (d -ℤ pos 1) +ʳ of_whole clock) +ʳ of_whole LIGHT_SPEED
phase_low f d n clock small h = halve
    (cert (f ∷ d ∷ n ∷ clock ∷ []) ((va 0 ≼ ko (pos 2000000000)) ∷ (ko (pos 2) ⊗ (va 2 ⊗ ko (pos (unsigned_abs LIGHT_SPEED * 2 ^ 36)))
    ≼ ko (pos 2) ⊗ ((ko (pos 1000) ⊗ va 1 ⊕ va 3 ⊗ ko (pos (2 ^ 36))) ⊗ va 0) ⊕ ko (pos (unsigned_abs LIGHT_SPEED * 2 ^ 36))) ∷ [])
    (ko (pos 2) ⊗ ((ko LIGHT_SPEED ⊗ va 2) ⊗ ko (pos (2 ^ 36))))
    (ko (pos 2) ⊗ (((va 0 ⊗ ((ko (pos 1000) ⊗ (va 1 ⊖ ko (pos 1))) ⊗ ko (pos 1) ⊕ va 3 ⊗ ko (pos (2 ^ 36)))) ⊗ ko (pos 1) ⊕ ko LIGHT_SPEED ⊗ ko (pos (2 ^ 36))) ⊗ ko (pos 1)))
    (hy 1 ⊞ nm 2000 ⊠ hy 0 ⊞ nm 20601576843159257088) refl (small, (h, tt)))

phase_high : (f d n clock : ℤ) → f ≤ℤ pos 2000000000 →
    ((pos 2 *ℤ scaled d clock f) +ℤ pos (unsigned_abs LIGHT_SPEED * 2 ^ 36)) <ℤ ((pos 2 *ℤ (n *ℤ pos (unsigned_abs LIGHT_SPEED * 2 ^ 36))) +ℤ (pos 2 *ℤ pos (unsigned_abs LIGHT_SPEED * 2 ^ 36))) →
    of_whole f *ʳ (of_whole (pos 1000) *ʳ of_scale 36 (d +ℤ pos (2 ^ 20)) +ʳ of_whole clock) ≤ʳ of_whole LIGHT_SPEED *ʳ of_whole n +ʳ of_whole LIGHT_SPEED
phase_high f d n clock small h = halve
    (cert (f ∷ d ∷ n ∷ clock ∷ []) ((va 0 ≼ ko (pos 2000000000)) ∷ (ko (pos 2) ⊗ ((ko (pos 1000) ⊗ va 1 ⊕ va 3 ⊗ ko (pos (2 ^ 36))) ⊗ va 0) ⊕ ko
    (pos (unsigned_abs LIGHT_SPEED * 2 ^ 36)) ≼ ko (pos 2) ⊗ (va 2 ⊗ ko (pos (unsigned_abs LIGHT_SPEED * 2 ^ 36))) ⊕ ko (pos 2) ⊗ ko (pos (unsigned_abs LIGHT_SPEED * 2 ^ 36))) ∷ [])
    (ko (pos 2) ⊗ ((va 0 ⊗ ((ko (pos 1000) ⊗ (va 1 ⊕ ko (pos (2 ^ 20)))) ⊗ ko (pos 1) ⊕ va 3 ⊗ ko (pos (2 ^ 36)))) ⊗ ko (pos 1)))
    (ko (pos 2) ⊗ (((ko LIGHT_SPEED ⊗ va 2) ⊗ ko (pos 1) ⊕ ko LIGHT_SPEED ⊗ ko (pos 1)) ⊗ ko (pos (2 ^ 36))))
    (hy 1 ⊞ nm (2000 * 2 ^ 20) ⊠ hy 0 ⊞ nm 16407276843159257088) refl (small, (weak h, tt)))

times_wavelength : (f : ℤ) (m : Rational) → divided (of_whole f *ʳ m) (unsigned_abs LIGHT_SPEED) (lit< tt) *ʳ of_whole LIGHT_SPEED ≈ of_whole f *ʳ m
times_wavelength f m = same_by (f ∷ m.num ∷ pos m.den ∷ []) (λ f a d. ((f ⊗ a) ⊗ nat (unsigned_abs LIGHT_SPEED) ⊗ (nat 1 ⊗ d), (f ⊗ a) ⊗ (nat (unsigned_abs LIGHT_SPEED) ⊗ (nat 1 ⊗ d) ⊗ nat 1))) refl

nonnegative : (f : ℤ) → pos 0 ≤ℤ f → of_whole (pos 0) ≤ʳ of_whole f
nonnegative f h = omega (arith, ints)

pub phase_near : (f : ℕ) (d n clock cycles phase : ℤ) (v : Rational) → f ≤ 2000000000 → phase ≡ n +ℤ (pos 1000 *ℤ cycles) →
    IsNearest (scaled d clock (pos f)) (unsigned_abs LIGHT_SPEED * 2 ^ 36) n → IsDistance d v →
    AreWithin (of_whole (pos 2)) (of_whole phase) (thousandths f (measured clock v) +ʳ of_whole (pos 1000 *ℤ cycles))
phase_near f d n clock cycles phase v small e i h =
    let some : of_whole (pos 0) ≤ʳ of_whole (pos f) = nonnegative (pos f) (pos_nn f) in
    let few : pos f ≤ℤ pos 2000000000 = most f small in
    let measured_value : Rational = thousandths f (measured clock v) in
    let whole : Rational = of_whole (pos 1000 *ℤ cycles) in (
      cancel_r (of_whole LIGHT_SPEED) (of_whole phase -ʳ (measured_value +ʳ whole)) (of_whole (pos 2)) light
          (order_r (v ∷ of_whole n ∷ of_whole clock ∷ of_scale 36 (d -ℤ pos 1) ∷ of_whole phase ∷ whole ∷ measured_value ∷ of_whole (pos f) ∷ [])
          ((va 3 ≼ va 0) ∷ (ko LIGHT_SPEED ⊗ va 1 ≼ va 7 ⊗ (ko (pos 1000) ⊗ va 3 ⊕ va 2) ⊕ ko LIGHT_SPEED) ∷ (ko (pos 0) ≼ va 7) ∷ [])
          ((va 4 ≐ va 1 ⊕ va 5) ∷ (va 6 ⊗ ko LIGHT_SPEED ≐ va 7 ⊗ (ko (pos 1000) ⊗ va 0 ⊕ va 2)) ∷ [])
          (ko LIGHT_SPEED ⊗ (va 4 ⊖ (va 6 ⊕ va 5))) (ko LIGHT_SPEED ⊗ ko (pos 2)) (hy 1 ⊞ nm 1000 ⊠ hy 2 ⊠ hy 0 ⊞ nm (unsigned_abs LIGHT_SPEED)) (ng (ko LIGHT_SPEED) ∷ ko (pos 1) ∷ []) refl
          (h.0, (phase_low (pos f) d n clock few i.0, (some, tt))) (sum_is phase n (pos 1000 *ℤ cycles) e, (times_wavelength (pos f) (measured clock v), tt))),
      cancel_r (of_whole LIGHT_SPEED) (measured_value +ʳ whole -ʳ of_whole phase) (of_whole (pos 2)) light
          (order_r (v ∷ of_whole n ∷ of_whole clock ∷ of_scale 36 (d +ℤ pos (2 ^ 20)) ∷ of_whole phase ∷ whole ∷ measured_value ∷ of_whole (pos f) ∷ [])
          ((va 0 ≼ va 3) ∷ (va 7 ⊗ (ko (pos 1000) ⊗ va 3 ⊕ va 2) ≼ ko LIGHT_SPEED ⊗ va 1 ⊕ ko LIGHT_SPEED) ∷ (ko (pos 0) ≼ va 7) ∷ [])
          ((va 4 ≐ va 1 ⊕ va 5) ∷ (va 6 ⊗ ko LIGHT_SPEED ≐ va 7 ⊗ (ko (pos 1000) ⊗ va 0 ⊕ va 2)) ∷ [])
          (ko LIGHT_SPEED ⊗ ((va 6 ⊕ va 5) ⊖ va 4)) (ko LIGHT_SPEED ⊗ ko (pos 2)) (hy 1 ⊞ nm 1000 ⊠ hy 2 ⊠ hy 0 ⊞ nm (unsigned_abs LIGHT_SPEED)) (ko LIGHT_SPEED ∷ ng (ko (pos 1)) ∷ []) refl
          (h.1, (phase_high (pos f) d n clock few i.1, (some, tt))) (sum_is phase n (pos 1000 *ℤ cycles) e, (times_wavelength (pos f) (measured clock v), tt))),
    )
  where
    most : (f : ℕ) → f ≤ 2000000000 → pos f ≤ℤ pos 2000000000
    most f h = omega (arith, ints)

    light : pos 0 <ℤ LIGHT_SPEED
    light = omega (arith, ints)
