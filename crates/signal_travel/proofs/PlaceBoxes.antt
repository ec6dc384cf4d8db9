-- From the distances of the places in a box to the limits of its ends.
use Rattle.std.proofs.Common.{ℕ, ◌*◌, ◌^◌, ℤ, pos, ◌*ℤ◌, neg_ℤ, ◌≤ℤ◌, arith}
use Rattle.std.proofs.lemmas.Int.{ints}
use Rattle.whole_math.specs.Rational.{Rational, ◌≤ʳ◌, of_whole, ◌+ʳ◌, ◌*ʳ◌, neg_r}
use Rattle.whole_math.specs.Boxes.{of_scale}
use Rattle.whole_math.proofs.RationalLaws.{≤ʳ_trans}
use Rattle.iv_core.specs.declared.Iv.{Iv}
use Rattle.iv_core.specs.Intervals.{IsWithin}
use Rattle.iv_core.proofs.BoxLaws.{low_held, high_held}
use Rattle.orbit_model.specs.Places.{IsBetweenDistances}
use Rattle.orbit_model.proofs.Exists.{coordinates, turned_round, turned_about}

ends : (x : Iv 36) (m : ℕ) → neg_r (of_scale 36 x.lo) ≤ʳ of_whole (pos m) → of_scale 36 x.hi ≤ʳ of_whole (pos m) → IsWithin (m * 2 ^ 36) x
ends x m h k = go x.lo x.hi (pos m) h k
  where
    go : (l h m : ℤ) → (neg_ℤ l *ℤ pos 1) ≤ℤ (m *ℤ pos 68719476736) → (h *ℤ pos 1) ≤ℤ (m *ℤ pos 68719476736) → (neg_ℤ (m *ℤ pos 68719476736) ≤ℤ l) × (h ≤ℤ (m *ℤ pos 68719476736))
    go l h m a b = (omega (arith, ints), omega (arith, ints))

pub away_within : (l m : ℕ) (x y z : Iv 36) → IsBetweenDistances l m x y z → IsWithin (m * 2 ^ 36) x × IsWithin (m * 2 ^ 36) y × IsWithin (m * 2 ^ 36) z
away_within l m x y z away =
    let a : Rational = of_scale 36 x.lo in
    let b : Rational = of_scale 36 y.lo in
    let c : Rational = of_scale 36 z.lo in
    let d : Rational = of_scale 36 x.hi in
    let e : Rational = of_scale 36 y.hi in
    let f : Rational = of_scale 36 z.hi in
    let most : Rational = of_whole (pos m) *ʳ of_whole (pos m) in
    let low = (away a b c (low_held x) (low_held y) (low_held z)).1 in (
      ends x m (coordinates a b c m low).1 (coordinates d b c m (away d b c (high_held x) (low_held y) (low_held z)).1).0,
      ends y m (coordinates b a c m (≤ʳ_trans (b *ʳ b +ʳ a *ʳ a +ʳ c *ʳ c) (a *ʳ a +ʳ b *ʳ b +ʳ c *ʳ c) most (turned_round a b c) low)).1
          (coordinates e a c m (≤ʳ_trans (e *ʳ e +ʳ a *ʳ a +ʳ c *ʳ c) (a *ʳ a +ʳ e *ʳ e +ʳ c *ʳ c) most
          (turned_round a e c) (away a e c (low_held x) (high_held y) (low_held z)).1)).0,
      ends z m (coordinates c b a m (≤ʳ_trans (c *ʳ c +ʳ b *ʳ b +ʳ a *ʳ a) (a *ʳ a +ʳ b *ʳ b +ʳ c *ʳ c) most (turned_about a b c) low)).1
          (coordinates f b a m (≤ʳ_trans (f *ʳ f +ʳ b *ʳ b +ʳ a *ʳ a) (a *ʳ a +ʳ b *ʳ b +ʳ f *ʳ f) most
          (turned_about a b f) (away a b f (low_held x) (low_held y) (high_held z)).1)).0,
    )
