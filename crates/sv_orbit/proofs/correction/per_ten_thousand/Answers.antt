use Rattle.std.proofs.Common.{◌≡◌, ◌^◌, ℤ, pos, ◌*ℤ◌, ◌≤ℤ◌, neg_ℤ, ◌∙◌, arith, sym, subst, to_z, of_z}
use Rattle.std.proofs.lemmas.Int.{ints, to_z-of_z}
use Rattle.std.specs.Int.{w64}
use Rattle.iv_core.specs.declared.Iv.{Iv}
use Rattle.iv_core.specs.Intervals.{Holds}
use Rattle.whole_math.proofs.Inequalities.{le_trans_ℤ}
use Rattle.sv_orbit.specs.ClockTerms.{per_ten_thousand}
use Rattle.sv_orbit.proofs.ScaledClocks.{scaled_holds}
use Rattle.sv_orbit.proofs.correction.per_ten_thousand.Goals as goal

below : (a l f : ℤ) → neg_ℤ (pos (2 ^ 62)) ≤ℤ a → a ≤ℤ pos (2 ^ 62) → (l *ℤ pos 10000) ≤ℤ to_z w64 (of_z w64 a) → f ≡ l → (f *ℤ pos 10000) ≤ℤ a
below a l f h k m e = omega (arith, ints)

above : (b u f : ℤ) → neg_ℤ (pos (2 ^ 62)) ≤ℤ b → b ≤ℤ pos (2 ^ 62) → to_z w64 (of_z w64 b) ≤ℤ (u *ℤ pos 10000) → f ≡ u → b ≤ℤ (f *ℤ pos 10000)
above b u f h k m e = omega (arith, ints)

pub returns : goal.returns
returns g c = λ x h.
    let box : Iv 60 = c.args.clock.now.held in
    let low = c.per_ten_thousand_below-low in
    let high = c.per_ten_thousand_above-high in
    let low_share = below box.lo low.result c.from_ends.result.lo box.low (le_trans_ℤ box.ordered box.high) low.ensures.low
    (c.from_ends.ensures.lo ∙ to_z-of_z w64 low.result (record { sfits = low.type_inv })) in
    let high_share = above box.hi high.result c.from_ends.result.hi (le_trans_ℤ box.low box.ordered) box.high high.ensures.low
    (c.from_ends.ensures.hi ∙ to_z-of_z w64 high.result (record { sfits = high.type_inv })) in
    subst (λ (b : Iv 60). Holds b (per_ten_thousand x)) (sym c.new.ensures) (scaled_holds box.lo box.hi c.from_ends.result.lo c.from_ends.result.hi x h low_share high_share)
