use Rattle.std.proofs.Common.{◌≡◌, to_z, [], ◌∷◌, pos, ap, ◌∙◌, refl, sym, subst, lit≤}
use Rattle.std.proofs.lemmas.Int.{to_z-of_z}
use Rattle.std.specs.Int.{w64}
use Rattle.whole_math.proofs.Ring.{va, ko, ◌⊕◌, ◌⊗◌, ng}
use Rattle.whole_math.proofs.Order.{le_pos}
use Rattle.whole_math.specs.Rational.{Rational, ◌≈◌, of_whole, two_to_minus, ◌+ʳ◌, ◌*ʳ◌}
use Rattle.whole_math.specs.Boxes.{of_scale}
use Rattle.whole_math.proofs.Boxes.{InBox-along}
use Rattle.whole_math.proofs.RationalOrders.{equal_r, ◌≐◌}
use Rattle.whole_math.proofs.RationalSizes.{size_mul, size_looser}
use Rattle.iv_core.specs.declared.Iv.{Iv}
use Rattle.iv_core.specs.Intervals.{Holds}
use Rattle.eph_store.specs.Decimals.{decimal, value_of}
use Rattle.sv_orbit.proofs.FirstBounds.{size_of_decimal}
use Rattle.sv_orbit.proofs.Values.{holds_own, zero_value}
use Rattle.sv_orbit.proofs.clock_record.bias_of.Goals as goal

no_share : (a f h : Rational) → f ≈ of_whole (pos 0) → a ≈ a +ʳ f *ʳ h
no_share a f h e = equal_r (a ∷ f ∷ h ∷ []) ((va 1 ≐ ko (pos 0)) ∷ []) (ng (va 2) ∷ []) (va 0) (va 0 ⊕ (va 1 ⊗ va 2)) refl (e, tt)

pub returns-then-aging-eq0 : goal.returns-then-aging-eq0
returns-then-aging-eq0 c = λ share small.
    let eph = c.args.eph.now in
    let bias : Rational = value_of eph.af0 in
    let aging : Rational = value_of eph.af2 in
    let held : Holds c.loose.result.held bias = subst (λ (b : Iv 60). Holds b bias) (sym c.loose.ensures) (holds_own 60 c.decimal_box-own.result.held bias c.decimal_box-own.ensures) in
    let mantissa = c.mantissa_of-aging.result in
    let zero : eph.af2.mant ≡ pos 0 = sym c.mantissa_of-aging.ensures ∙ sym (to_z-of_z w64 mantissa (record { sfits = c.mantissa_of-aging.type_inv })) ∙ ap (to_z w64) c.if-aging-eq0.true in
    InBox-along 60 c.loose.result.held.lo c.loose.result.held.hi bias (bias +ʳ aging *ʳ share) (no_share bias aging share (zero_value eph.af2 zero)) held

pub returns-else-aging-eq0 : goal.returns-else-aging-eq0
returns-else-aging-eq0 c = λ share small.
    let eph = c.args.eph.now in
    let bias : Rational = value_of eph.af0 in
    let aging : Rational = value_of eph.af2 in
    c.widened.ensures bias (aging *ʳ share) (holds_own 60 c.decimal_box-own.result.held bias c.decimal_box-own.ensures)
    (size_looser (decimal (pos 1) 12 *ʳ two_to_minus 44) (of_scale 60 (pos 1)) (aging *ʳ share) (le_pos _ _ (lit≤ tt))
    (size_mul (decimal (pos 1) 12) (two_to_minus 44) aging share (size_of_decimal 1 12 eph.af2 eph.af2_in) small))
