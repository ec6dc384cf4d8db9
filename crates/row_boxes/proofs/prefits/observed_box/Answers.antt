use Rattle.std.proofs.Common.{◌≡◌, ℕ, zero, suc, Bool, true, false, IsTrue, not, refl, ◌<◌, ◌*ℤ◌, ◌≤ℤ◌, pos, arith, sym, subst}
use Rattle.std.proofs.lemmas.Int.{ints}
use Rattle.std.proofs.lemmas.Bool.{false≢true}
use Rattle.whole_math.specs.Rounding.{IsFloor, IsCeil}
use Rattle.whole_math.specs.Rational.{InBox}
use Rattle.obs_rows.specs.Signals.{wavelength, is_phase}
use Rattle.row_boxes.specs.declared.pseudoranges.TheConstants.{HALF_LIGHT_SPEED}
use Rattle.row_boxes.specs.declared.prefits.TheConstants.{MILLIMETRE_UNITS}
use Rattle.row_boxes.specs.Terms.{iota_exponent}
use Rattle.row_boxes.specs.Sightings.{observed}
use Rattle.row_boxes.proofs.Boxes.{observed_code}
use Rattle.row_boxes.proofs.prefits.observed_box.Goals as goal
use Rattle.obs_rows.specs.declared.units.TheConstants.{SIGNALS}

pub returns-in-0-clause-holds : goal.returns-in-0-clause-holds
returns-in-0-clause-holds c =
    let size_allowed = c.requires.size in
    let box = c.l1_box in
    let low : (box.result.lo *ℤ pos 1000) ≤ℤ ((wavelength 0 *ℤ c.args.amount) *ℤ pos 32768) = omega (arith, ints, size_allowed, box.ensures.low.0, box.ensures.low.1) in
    let high : ((wavelength 0 *ℤ c.args.amount) *ℤ pos 32768) ≤ℤ (box.result.hi *ℤ pos 1000) = omega (arith, ints, size_allowed, box.ensures.high.0, box.ensures.high.1) in
    subst (λ (n : ℕ). InBox iota_exponent box.result.lo box.result.hi (observed n c.args.amount)) (sym c.in-0.is) (low, high)

pub returns-in-1-clause-holds : goal.returns-in-1-clause-holds
returns-in-1-clause-holds c =
    let size_allowed = c.requires.size in
    let box = c.l2_box in
    let low : (box.result.lo *ℤ pos 1000) ≤ℤ ((wavelength 1 *ℤ c.args.amount) *ℤ pos 32768) = omega (arith, ints, size_allowed, box.ensures.low.0, box.ensures.low.1) in
    let high : ((wavelength 1 *ℤ c.args.amount) *ℤ pos 32768) ≤ℤ (box.result.hi *ℤ pos 1000) = omega (arith, ints, size_allowed, box.ensures.high.0, box.ensures.high.1) in
    subst (λ (n : ℕ). InBox iota_exponent box.result.lo box.result.hi (observed n c.args.amount)) (sym c.in-1.is) (low, high)

pub returns-in-4-clause-holds : goal.returns-in-4-clause-holds
returns-in-4-clause-holds c =
    let size_allowed = c.requires.size in
    let box = c.l5_box in
    let low : (box.result.lo *ℤ pos 1000) ≤ℤ ((wavelength 4 *ℤ c.args.amount) *ℤ pos 32768) = omega (arith, ints, size_allowed, box.ensures.low.0, box.ensures.low.1) in
    let high : ((wavelength 4 *ℤ c.args.amount) *ℤ pos 32768) ≤ℤ (box.result.hi *ℤ pos 1000) = omega (arith, ints, size_allowed, box.ensures.high.0, box.ensures.high.1) in
    subst (λ (n : ℕ). InBox iota_exponent box.result.lo box.result.hi (observed n c.args.amount)) (sym c.in-4.is) (low, high)

-- a signal that is none of the three phases
code : (s : ℕ) → s < SIGNALS → (s ≡ 0 → ⊥) → (s ≡ 1 → ⊥) → (s ≡ 4 → ⊥) → IsTrue (not (is_phase s))
code zero h a b d = absurd (a refl)
code (suc zero) h a b d = absurd (b refl)
code (suc (suc zero)) h a b d = refl
code (suc (suc (suc zero))) h a b d = refl
code (suc (suc (suc (suc zero)))) h a b d = absurd (d refl)
code (suc (suc (suc (suc (suc zero))))) h a b d = refl
code (suc (suc (suc (suc (suc (suc s)))))) h a b d = absurd (omega arith)

pub returns-in_default-clause-holds : goal.returns-in_default-clause-holds
returns-in_default-clause-holds c =
    let size_allowed = c.requires.size in
    let box = c.code_box in
    let low : IsFloor (c.args.amount *ℤ MILLIMETRE_UNITS) HALF_LIGHT_SPEED box.result.lo = (omega (arith, ints, size_allowed, box.ensures.low.0, box.ensures.low.1), omega (arith, ints, size_allowed, box.ensures.low.0, box.ensures.low.1)) in
    let high : IsCeil (c.args.amount *ℤ MILLIMETRE_UNITS) HALF_LIGHT_SPEED box.result.hi = (omega (arith, ints, size_allowed, box.ensures.high.0, box.ensures.high.1), omega (arith, ints, size_allowed, box.ensures.high.0, box.ensures.high.1)) in
    observed_code c.args.signal c.args.amount box.result.lo box.result.hi (code c.args.signal c.requires.signal (omega arith) (omega arith) (omega arith)) low high

pub returns-in_default-clause-phase : goal.returns-in_default-clause-phase
returns-in_default-clause-phase c = λ phase. absurd (not_both (is_phase c.args.signal) phase (code c.args.signal c.requires.signal (omega arith) (omega arith) (omega arith)))
  where
    not_both : (b : Bool) → IsTrue b → IsTrue (not b) → ⊥
    not_both true h k = false≢true k
    not_both false h k = false≢true h
