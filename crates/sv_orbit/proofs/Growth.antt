-- How far two pairs lie apart after doublings.
use Rattle.std.proofs.Common.{ℕ, zero, suc, [], ◌∷◌, pos, refl, lit≤}
use Rattle.whole_math.proofs.Ring.{◌⊗◌}
use Rattle.whole_math.proofs.Order.{le_pos}
use Rattle.whole_math.proofs.Inequalities.{same_by, nat}
use Rattle.whole_math.specs.Rational.{Rational, ◌≈◌, ◌≤ʳ◌, of_whole, ◌+ʳ◌, ◌-ʳ◌, ◌*ʳ◌, times, two_to_minus}
use Rattle.trig_box.specs.AnglePairs.{Pair, double, doubled, IsAnglePair}
use Rattle.trig_box.proofs.PairLaws.{norm_law_5}
use Rattle.orbit_model.proofs.Orders.{root_r}
use Rattle.sv_orbit.proofs.Certs.{grows, norm_back, norm_first}

-- 16 (c² + s²) ≤ 17
abbrev pub IsNormed : Pair → Type 0
IsNormed p = of_whole (pos 16) *ʳ (p.cos *ʳ p.cos +ʳ p.sin *ʳ p.sin) ≤ʳ of_whole (pos 17)

-- the squared distance
abbrev pub gap : Pair → Pair → Rational
gap p q = (p.cos -ʳ q.cos) *ʳ (p.cos -ʳ q.cos) +ʳ (p.sin -ʳ q.sin) *ʳ (p.sin -ʳ q.sin)

twice_is : (q : Rational) → times 2 q ≈ of_whole (pos 2) *ʳ q
twice_is q = same_by (q.num ∷ pos q.den ∷ []) (λ n d. (nat 2 ⊗ n ⊗ (nat 1 ⊗ d), nat 2 ⊗ n ⊗ d)) refl

norm_before : (p : Pair) → IsNormed (double p) → IsNormed p
norm_before p h =
    let doubled_sine : Rational = times 2 (p.sin *ʳ p.cos) in
    root_r (of_whole (pos 16) *ʳ (p.cos *ʳ p.cos +ʳ p.sin *ʳ p.sin)) (of_whole (pos 17)) (le_pos 0 17 (lit≤ tt)) (norm_back p.cos p.sin doubled_sine h (twice_is (p.sin *ʳ p.cos)))

abbrev pub grown : ℕ → Rational → Rational
grown zero m = m
grown (suc k) m = of_whole (pos 5) *ʳ grown k m

-- a doubling makes the squared distance at most 5 times as large
pub growth : (k : ℕ) (p q : Pair) (m : Rational) → IsNormed (doubled k p) → IsNormed (doubled k q) → gap p q ≤ʳ m → gap (doubled k p) (doubled k q) ≤ʳ grown k m
unfolding doubled
growth zero p q m a b h = h
growth (suc k) p q m a b h =
    let left_pair : Pair = doubled k p in
    let right_pair : Pair = doubled k q in
    let left_is_normed = norm_before left_pair a in
    let right_is_normed = norm_before right_pair b in
    let gap_before = growth k p q m left_is_normed right_is_normed h in
    grows left_pair.cos left_pair.sin right_pair.cos right_pair.sin (times 2 (left_pair.sin *ʳ left_pair.cos)) (times 2 (right_pair.sin *ʳ right_pair.cos)) (grown k m) gap_before left_is_normed right_is_normed (twice_is (left_pair.sin *ʳ left_pair.cos)) (twice_is (right_pair.sin *ʳ right_pair.cos))

pub normed : (x : Rational) (p : Pair) → IsAnglePair 5 x p.cos p.sin → IsNormed p
normed x p h = norm_first p.cos p.sin (two_to_minus 16) (norm_law_5 x p.cos p.sin h).0 (le_pos 16 65536 (lit≤ tt))
