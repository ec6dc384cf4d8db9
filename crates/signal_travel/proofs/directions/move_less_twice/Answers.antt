use Rattle.std.proofs.Common.{◌≡◌, ℤ, pos, ◌-ℤ◌, ◌*ℤ◌, ◌≤ℤ◌, neg_ℤ, arith, to_z, of_z, sym, subst}
use Rattle.std.proofs.lemmas.Int.{ints}
use Rattle.std.specs.Int.{w64}
use Rattle.whole_math.proofs.Inequalities.{pos_nn}
use Rattle.signal_travel.proofs.MeanDirectionCertificates.{move_low, move_high}
use Rattle.signal_travel.proofs.directions.move_less_twice.Goals as goal

low : (l h z : ℤ) → neg_ℤ (pos 3106120348467200000) ≤ℤ l → l ≤ℤ h → h ≤ℤ pos 3106120348467200000
    → z ≡ to_z w64 (of_z w64 (to_z w64 (of_z w64 (pos 0 -ℤ to_z w64 (of_z w64 h))) -ℤ pos 549755813888)) → z ≡ neg_ℤ h -ℤ pos 549755813888
low l h z a b c e = omega (arith, ints)

high : (l h z : ℤ) → neg_ℤ (pos 3106120348467200000) ≤ℤ l → l ≤ℤ h → h ≤ℤ pos 3106120348467200000 → z ≡ to_z w64 (of_z w64 (pos 549755813888 -ℤ to_z w64 (of_z w64 l))) → z ≡ pos 549755813888 -ℤ l
high l h z a b c e = omega (arith, ints)

pub returns-clause-holds : goal.returns-clause-holds
returns-clause-holds c = λ q m h s.
    let range = c.args.x.now in
    let ends_stand = c.from_ends.ensures in
    let low_end_is = low range.lo range.hi c.from_ends.result.lo c.requires.0 range.ordered c.requires.1 ends_stand.lo in
    let high_end_is = high range.lo range.hi c.from_ends.result.hi c.requires.0 range.ordered c.requires.1 ends_stand.hi in (
      subst (λ (z : ℤ). (z *ℤ (pos m.den *ℤ (pos 1 *ℤ pos q.den))) ≤ℤ (((m.num *ℤ (pos 1 *ℤ pos q.den)) -ℤ ((pos 2 *ℤ q.num) *ℤ pos m.den)) *ℤ pos 34359738368))
          (sym low_end_is) (move_low range.hi q.num (pos q.den) m.num (pos m.den) (pos_nn q.den) (pos_nn m.den) h.1 s.1),
      subst (λ (z : ℤ). (((m.num *ℤ (pos 1 *ℤ pos q.den)) -ℤ ((pos 2 *ℤ q.num) *ℤ pos m.den)) *ℤ pos 34359738368) ≤ℤ (z *ℤ (pos m.den *ℤ (pos 1 *ℤ pos q.den))))
          (sym high_end_is) (move_high range.lo q.num (pos q.den) m.num (pos m.den) (pos_nn q.den) (pos_nn m.den) h.0 s.0),
    )
