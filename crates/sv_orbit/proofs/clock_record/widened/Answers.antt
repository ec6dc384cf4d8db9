use Rattle.std.proofs.Common.{◌≡◌, [], ◌∷◌, ℤ, pos, ◌+ℤ◌, ◌-ℤ◌, arith, refl, sym, subst, subst₂, lit≤}
use Rattle.std.proofs.lemmas.Int.{ints}
use Rattle.whole_math.proofs.Ring.{va, ◌⊕◌, ◌⊖◌, ng}
use Rattle.whole_math.proofs.Order.{le_pos}
use Rattle.whole_math.proofs.Certificates.{◌≼◌, hy}
use Rattle.whole_math.specs.Rational.{Rational, ◌+ʳ◌, IsAtMostInSize, AreWithin, InBox}
use Rattle.whole_math.specs.Boxes.{of_scale}
use Rattle.whole_math.proofs.RationalOrders.{order_r}
use Rattle.whole_math.proofs.Ends.{box_of_near}
use Rattle.iv_core.specs.declared.Iv.{Iv}
use Rattle.iv_core.specs.Intervals.{Holds}
use Rattle.sv_orbit.proofs.clock_record.widened.Goals as goal

-- a + x is within d of a where |x| ≤ d
within : (a x d : Rational) → IsAtMostInSize d x → AreWithin d (a +ʳ x) a
within a x d h = (
  order_r (a ∷ x ∷ d ∷ []) ((va 1 ≼ va 2) ∷ []) [] ((va 0 ⊕ va 1) ⊖ va 0) (va 2) (hy 0) [] refl (h.0, tt) tt,
  order_r (a ∷ x ∷ d ∷ []) ((ng (va 1) ≼ va 2) ∷ []) [] (va 0 ⊖ (va 0 ⊕ va 1)) (va 2) (hy 0) [] refl (h.1, tt) tt,
)

pub returns : goal.returns
returns c = λ x y held small.
    let box : Iv 60 = c.args.bias.now.held in
    let low_is : c.from_ends.result.lo ≡ box.lo -ℤ pos 1 = omega (arith, ints, c.from_ends.ensures.lo, c.lo.ensures) in
    let high_is : c.from_ends.result.hi ≡ box.hi +ℤ pos 1 = omega (arith, ints, c.from_ends.ensures.hi, c.hi.ensures) in
    let inside : InBox 60 (box.lo -ℤ pos 1) (box.hi +ℤ pos 1) (x +ʳ y) =
    box_of_near 60 box.lo box.hi (pos 1) (of_scale 60 (pos 1)) (x +ʳ y) (le_pos _ _ (lit≤ tt)) (record { inside = x; held = held; near = within x y (of_scale 60 (pos 1)) small }) in
    subst (λ (h : Iv 60). Holds h (x +ʳ y)) (sym c.new.ensures) (subst₂ (λ (l h : ℤ). InBox 60 l h (x +ʳ y)) (sym low_is) (sym high_is) inside)
