-- A distance from the box of a range and the box of a clock.
use Rattle.std.proofs.Common.{◌≡◌, ◌^◌, [], ◌∷◌, ℤ, pos, ◌+ℤ◌, ◌-ℤ◌, ◌*ℤ◌, ◌≤ℤ◌, ◌<ℤ◌, unsigned_abs, arith, refl}
use Rattle.std.proofs.lemmas.Int.{ints}
use Rattle.obs_rows.specs.declared.units.TheConstants.{LIGHT_SPEED}
use Rattle.whole_math.specs.Rounding.{IsFloor}
use Rattle.whole_math.proofs.Ring.{va, ko, ◌⊕◌, ◌⊖◌, ◌⊗◌}
use Rattle.whole_math.proofs.Certificates.{◌≼◌, hy, nm, ◌⊞◌, ◌⊠◌}
use Rattle.whole_math.specs.Rational.{Rational, ◌≤ʳ◌, of_whole, ◌+ʳ◌, ◌-ʳ◌, ◌*ʳ◌, InBox}
use Rattle.whole_math.specs.Boxes.{of_scale}
use Rattle.whole_math.proofs.RationalOrders.{order_r}
use Rattle.sim_session.specs.Observed.{IsDistance}

lower : (lo clock f d : ℤ) → (LIGHT_SPEED *ℤ clock) <ℤ ((f *ℤ pos (2 ^ 24)) +ℤ pos (2 ^ 24)) → d ≡ lo -ℤ f →
    of_scale 36 (d -ℤ pos 1) +ʳ of_whole LIGHT_SPEED *ʳ of_scale 60 clock ≤ʳ of_scale 36 lo
lower lo clock f d h e = omega (arith, ints)

upper : (lo hi least clock f d : ℤ) → (f *ℤ pos (2 ^ 24)) ≤ℤ (LIGHT_SPEED *ℤ clock) → d ≡ lo -ℤ f → (hi -ℤ lo) ≤ℤ pos (2 ^ 19) → (clock -ℤ least) ≤ℤ pos (2 ^ 10) →
    of_scale 36 hi ≤ʳ of_scale 36 (d +ℤ pos (2 ^ 20)) +ʳ of_whole LIGHT_SPEED *ʳ of_scale 60 least
upper lo hi least clock f d h e w v = omega (arith, ints)

pub distance_is : (lo hi least clock f d : ℤ) (r t : Rational) → (hi -ℤ lo) ≤ℤ pos (2 ^ 19) → (clock -ℤ least) ≤ℤ pos (2 ^ 10) → IsFloor (LIGHT_SPEED *ℤ clock) (2 ^ 24) f → d ≡ lo -ℤ f →
    InBox 36 lo hi r → InBox 60 least clock t → IsDistance d (r -ʳ of_whole LIGHT_SPEED *ʳ t)
distance_is lo hi least clock f d r t w v i e h k = (
  order_r (r ∷ t ∷ of_scale 36 lo ∷ of_scale 60 clock ∷ of_scale 36 (d -ℤ pos 1) ∷ [])
      ((va 2 ≼ va 0) ∷ (va 1 ≼ va 3) ∷ (va 4 ⊕ ko LIGHT_SPEED ⊗ va 3 ≼ va 2) ∷ []) []
      (va 4) (va 0 ⊖ ko LIGHT_SPEED ⊗ va 1) (hy 0 ⊞ nm (unsigned_abs LIGHT_SPEED) ⊠ hy 1 ⊞ hy 2) [] refl (h.0, (k.1, (lower lo clock f d i.1 e, tt))) tt,
  order_r (r ∷ t ∷ of_scale 36 hi ∷ of_scale 60 least ∷ of_scale 36 (d +ℤ pos (2 ^ 20)) ∷ [])
      ((va 0 ≼ va 2) ∷ (va 3 ≼ va 1) ∷ (va 2 ≼ va 4 ⊕ ko LIGHT_SPEED ⊗ va 3) ∷ []) []
      (va 0 ⊖ ko LIGHT_SPEED ⊗ va 1) (va 4) (hy 0 ⊞ nm (unsigned_abs LIGHT_SPEED) ⊠ hy 1 ⊞ hy 2) [] refl (h.1, (k.0, (upper lo hi least clock f d i.0 e w v, tt))) tt,
)
