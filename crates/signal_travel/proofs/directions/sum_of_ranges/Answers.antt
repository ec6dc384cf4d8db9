use Rattle.std.proofs.Common.{◌≡◌, ℤ, pos, ◌+ℤ◌, ◌-ℤ◌, ◌*ℤ◌, ◌≤ℤ◌, arith, to_z, of_z, sym, subst}
use Rattle.std.proofs.lemmas.Int.{ints}
use Rattle.std.specs.Int.{w64}
use Rattle.whole_math.proofs.Inequalities.{pos_nn}
use Rattle.signal_travel.proofs.MeanDirectionCertificates.{sum_low, sum_high}
use Rattle.signal_travel.proofs.directions.sum_of_ranges.Goals as goal

low : (l h z : ℤ) → pos 687194767360000000 ≤ℤ l → l ≤ℤ h → h ≤ℤ pos 3106120348467200000 → z ≡ to_z w64 (of_z w64 (to_z w64 (of_z w64 l) -ℤ pos 566935683072)) → z ≡ l -ℤ pos 566935683072
low l h z a b c e = omega (arith, ints)

high : (l h z : ℤ) → pos 687194767360000000 ≤ℤ l → l ≤ℤ h → h ≤ℤ pos 3106120348467200000 → z ≡ to_z w64 (of_z w64 (to_z w64 (of_z w64 h) +ℤ pos 566935683072)) → z ≡ h +ℤ pos 566935683072
high l h z a b c e = omega (arith, ints)

pub returns-clause-holds : goal.returns-clause-holds
returns-clause-holds c = λ r s h up down.
    let range = c.args.before.now in
    let ends_stand = c.from_ends.ensures in
    let low_end_is = low range.lo range.hi c.from_ends.result.lo c.requires.far range.ordered c.requires.near ends_stand.lo in
    let high_end_is = high range.lo range.hi c.from_ends.result.hi c.requires.far range.ordered c.requires.near ends_stand.hi in (
      subst (λ (z : ℤ). (z *ℤ (pos r.den *ℤ pos s.den)) ≤ℤ (((r.num *ℤ pos s.den) +ℤ (s.num *ℤ pos r.den)) *ℤ pos 34359738368)) (sym low_end_is)
          (sum_low range.lo r.num (pos r.den) s.num (pos s.den) (pos_nn s.den) h.0 down),
      subst (λ (z : ℤ). (((r.num *ℤ pos s.den) +ℤ (s.num *ℤ pos r.den)) *ℤ pos 34359738368) ≤ℤ (z *ℤ (pos r.den *ℤ pos s.den))) (sym high_end_is)
          (sum_high range.hi r.num (pos r.den) s.num (pos s.den) (pos_nn s.den) h.1 up),
    )
