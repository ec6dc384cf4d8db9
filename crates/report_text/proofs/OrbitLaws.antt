-- The printed numbers hold what the box holds, and lie near each other.
use Rattle.std.proofs.Common.{◌≡◌, ℕ, ◌^◌, ◌<◌, List, [], ◌∷◌, ℤ, pos, ◌+ℤ◌, ◌-ℤ◌, ◌*ℤ◌, ◌≤ℤ◌, ◌<ℤ◌, arith, refl, sym, subst, All, pow_pos}
use Rattle.std.proofs.lemmas.Int.{ints}
use Rattle.whole_math.specs.Rounding.{floor_div, ceil_div}
use Rattle.whole_math.proofs.Ring.{◌⊗◌}
use Rattle.whole_math.proofs.Order.{lins, mul_le_right, mul_le_cancel}
use Rattle.whole_math.proofs.Inequalities.{same_by, pos_nn}
use Rattle.whole_math.proofs.Rounding.{floor_le, lt_floor, ceil_le, ceil_lt}
use Rattle.whole_math.specs.Rational.{Rational}
use Rattle.iv_core.specs.declared.Iv.{Iv}
use Rattle.iv_core.specs.Intervals.{Holds, width_of}
use Rattle.orbit_model.specs.Solution.{Quantities}
use Rattle.orbit_model.specs.SeenPlaces.{sent_place}
use Rattle.orbit_model.specs.Places.{HoldsPlace}
use Rattle.sv_orbit.specs.declared.place.SvBox.{SvBox}
use Rattle.sv_orbit.specs.Solutions.{HoldsSolution}
use Rattle.report_text.specs.Orbit.{Ends, ends_of, IsBetweenEnds, AreApart, OrbitNumbers, HoldsQuantities, AreNarrow, AreNumbersOf}

-- l / s ≤ n / d, and f is ⌊l·u / s⌋; so f / u ≤ n / d
low_between : (l n : ℤ) (d s u : ℕ) → 0 < s → (l *ℤ pos d) ≤ℤ (n *ℤ pos s) → (floor_div (l *ℤ pos u) s *ℤ pos d) ≤ℤ (n *ℤ pos u)
low_between l n d s u positive h =
    let f : ℤ = floor_div (l *ℤ pos u) s in
    let below : ((f *ℤ pos s) *ℤ pos d) ≤ℤ ((l *ℤ pos u) *ℤ pos d) = mul_le_right (pos d) _ _ (pos_nn d) (floor_le (l *ℤ pos u) s positive) in
    let above : ((l *ℤ pos d) *ℤ pos u) ≤ℤ ((n *ℤ pos s) *ℤ pos u) = mul_le_right (pos u) _ _ (pos_nn u) h in
    let left : (f *ℤ pos d) *ℤ pos s ≡ (f *ℤ pos s) *ℤ pos d = same_by (f ∷ pos d ∷ pos s ∷ []) (λ f d s. ((f ⊗ d) ⊗ s, (f ⊗ s) ⊗ d)) refl in
    let middle : (l *ℤ pos u) *ℤ pos d ≡ (l *ℤ pos d) *ℤ pos u = same_by (l ∷ pos u ∷ pos d ∷ []) (λ l u d. ((l ⊗ u) ⊗ d, (l ⊗ d) ⊗ u)) refl in
    let right : (n *ℤ pos u) *ℤ pos s ≡ (n *ℤ pos s) *ℤ pos u = same_by (n ∷ pos u ∷ pos s ∷ []) (λ n u s. ((n ⊗ u) ⊗ s, (n ⊗ s) ⊗ u)) refl in
    mul_le_cancel (f *ℤ pos d) (n *ℤ pos u) s positive (omega (arith, lins))

high_between : (l n : ℤ) (d s u : ℕ) → 0 < s → (n *ℤ pos s) ≤ℤ (l *ℤ pos d) → (n *ℤ pos u) ≤ℤ (ceil_div (l *ℤ pos u) s *ℤ pos d)
high_between l n d s u positive h =
    let f : ℤ = ceil_div (l *ℤ pos u) s in
    let above : ((l *ℤ pos u) *ℤ pos d) ≤ℤ ((f *ℤ pos s) *ℤ pos d) = mul_le_right (pos d) _ _ (pos_nn d) (ceil_le (l *ℤ pos u) s positive) in
    let below : ((n *ℤ pos s) *ℤ pos u) ≤ℤ ((l *ℤ pos d) *ℤ pos u) = mul_le_right (pos u) _ _ (pos_nn u) h in
    let left : (f *ℤ pos d) *ℤ pos s ≡ (f *ℤ pos s) *ℤ pos d = same_by (f ∷ pos d ∷ pos s ∷ []) (λ f d s. ((f ⊗ d) ⊗ s, (f ⊗ s) ⊗ d)) refl in
    let middle : (l *ℤ pos u) *ℤ pos d ≡ (l *ℤ pos d) *ℤ pos u = same_by (l ∷ pos u ∷ pos d ∷ []) (λ l u d. ((l ⊗ u) ⊗ d, (l ⊗ d) ⊗ u)) refl in
    let right : (n *ℤ pos u) *ℤ pos s ≡ (n *ℤ pos s) *ℤ pos u = same_by (n ∷ pos u ∷ pos s ∷ []) (λ n u s. ((n ⊗ u) ⊗ s, (n ⊗ s) ⊗ u)) refl in
    mul_le_cancel (n *ℤ pos u) (f *ℤ pos d) s positive (omega (arith, lins))

pub ends_hold : {k : ℕ} (places : ℕ) (b : Iv k) (q : Rational) → Holds b q → IsBetweenEnds places (ends_of places b) q
ends_hold {k} places b q h = (
  low_between b.lo q.num q.den (2 ^ k) (10 ^ places) (pow_pos k) h.0,
  high_between b.hi q.num q.den (2 ^ k) (10 ^ places) (pow_pos k) h.1,
)

-- 2^-18 m are less than 4 micrometres, and 2^-50 s less than 10^-15 s
axis_apart : (b : Iv 36) → width_of b ≤ℤ pos (2 ^ 18) → AreApart 5 (ends_of 6 b)
axis_apart b narrow =
    let f : ℤ = floor_div (b.lo *ℤ pos 1000000) 68719476736 in
    let c : ℤ = ceil_div (b.hi *ℤ pos 1000000) 68719476736 in
    let low : (b.lo *ℤ pos 1000000) <ℤ ((f *ℤ pos 68719476736) +ℤ pos 68719476736) = lt_floor (b.lo *ℤ pos 1000000) 68719476736 (pow_pos 36) in
    let high : (c *ℤ pos 68719476736) <ℤ ((b.hi *ℤ pos 1000000) +ℤ pos 68719476736) = ceil_lt (b.hi *ℤ pos 1000000) 68719476736 (pow_pos 36) in
    near b.lo b.hi f c narrow low high
  where
    near : (l h f c : ℤ) → (h -ℤ l) ≤ℤ pos 262144 → (l *ℤ pos 1000000) <ℤ ((f *ℤ pos 68719476736) +ℤ pos 68719476736)
        → (c *ℤ pos 68719476736) <ℤ ((h *ℤ pos 1000000) +ℤ pos 68719476736) → (c -ℤ f) ≤ℤ pos 5
    near l h f c narrow low high = omega (arith, ints)

clock_apart : (b : Iv 60) → width_of b ≤ℤ pos (2 ^ 10) → AreApart 2 (ends_of 15 b)
clock_apart b narrow =
    near b.lo b.hi (floor_div (b.lo *ℤ pos 1000000000000000) 1152921504606846976) (ceil_div (b.hi *ℤ pos 1000000000000000) 1152921504606846976) narrow
    (lt_floor (b.lo *ℤ pos 1000000000000000) 1152921504606846976 (pow_pos 60)) (ceil_lt (b.hi *ℤ pos 1000000000000000) 1152921504606846976 (pow_pos 60))
  where
    near : (l h f c : ℤ) → (h -ℤ l) ≤ℤ pos 1024 → (l *ℤ pos 1000000000000000) <ℤ ((f *ℤ pos 1152921504606846976) +ℤ pos 1152921504606846976)
        → (c *ℤ pos 1152921504606846976) <ℤ ((h *ℤ pos 1000000000000000) +ℤ pos 1152921504606846976) → (c -ℤ f) ≤ℤ pos 2
    near l h f c narrow low high = omega (arith, ints)

-- the numbers of a box hold every solution that the box holds
pub numbers_hold : (b : SvBox) (n : OrbitNumbers) (q : Quantities) → AreNumbersOf b n → HoldsSolution b q → HoldsQuantities n q
numbers_hold b n q are h =
    let place : HoldsPlace (are.first ∷ are.second ∷ are.third ∷ []) (sent_place q) = subst (λ (p : List (Iv 36)). HoldsPlace p (sent_place q)) are.place h.place in
    record {
      x = subst (λ (e : Ends). IsBetweenEnds 6 e q.x) (sym are.x) (ends_hold 6 are.first q.x place.0);
      y = subst (λ (e : Ends). IsBetweenEnds 6 e q.y) (sym are.y) (ends_hold 6 are.second q.y place.1.0);
      z = subst (λ (e : Ends). IsBetweenEnds 6 e q.z) (sym are.z) (ends_hold 6 are.third q.z place.1.1.0);
      clock = subst (λ (e : Ends). IsBetweenEnds 15 e q.clock) (sym are.clock) (ends_hold 15 b.clock q.clock h.clock);
    }

pub numbers_narrow : (b : SvBox) (n : OrbitNumbers) → AreNumbersOf b n → AreNarrow n
numbers_narrow b n are =
    let narrow : All (λ (i : Iv 36). width_of i ≤ℤ pos (2 ^ 18)) (are.first ∷ are.second ∷ are.third ∷ []) =
    subst (λ (p : List (Iv 36)). All (λ (i : Iv 36). width_of i ≤ℤ pos (2 ^ 18)) p) are.place b.narrow in
    record {
      x = subst (λ (e : Ends). AreApart 5 e) (sym are.x) (axis_apart are.first (narrow 0 are.first (omega arith)));
      y = subst (λ (e : Ends). AreApart 5 e) (sym are.y) (axis_apart are.second (narrow 1 are.second (omega arith)));
      z = subst (λ (e : Ends). AreApart 5 e) (sym are.z) (axis_apart are.third (narrow 2 are.third (omega arith)));
      clock = subst (λ (e : Ends). AreApart 2 e) (sym are.clock) (clock_apart b.clock b.clock_narrow);
    }
