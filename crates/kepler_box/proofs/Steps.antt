-- Each step is about a sixteenth of the one before it.
use Rattle.std.proofs.Common.{◌≡◌, ℕ, ◌+◌, ◌*◌, ◌^◌, ◌≤◌, ℤ, pos, ◌+ℤ◌, ◌-ℤ◌, ◌*ℤ◌, neg_ℤ, ◌≤ℤ◌, ◌<ℤ◌, ◌⊎◌, inl, inr, arith, sym, ap, subst, ◌∙◌, refl, lit≤, lit<, unsigned_abs}
use Rattle.std.proofs.Common.{add-one}
use Rattle.std.proofs.lemmas.Int.{ints, by_lt_z}
use Rattle.std.proofs.Math.Nat.{pow-suc}
use Rattle.whole_math.proofs.Order.{lins, abs_mul_le, le_pos, lt_pos}
use Rattle.whole_math.proofs.Certificates.{weak}
use Rattle.whole_math.specs.Rounding.{floor_div}
use Rattle.whole_math.proofs.Rounding.{floor_le, lt_floor}
use Rattle.whole_math.proofs.Inequalities.{le_refl_ℤ, less_nn}
use Rattle.whole_math.specs.Rational.{Rational, AreWithin}
use Rattle.whole_math.specs.Boxes.{of_scale}
use Rattle.trig_box.specs.AnglePairs.{InRange}
use Rattle.trig_box.proofs.PairLaws.{canonical_exists, canonical_law}
use Rattle.kepler_box.specs.Steps.{IsStep, AreNear, Settled}
use Rattle.kepler_box.proofs.StepCertificates.{sine_gap, step_gap, angles_near, round}

-- the range of the code's angles
pub in_range : (x : ℤ) → neg_ℤ (pos (2 ^ 60)) ≤ℤ x → x ≤ℤ pos (2 ^ 60) → InRange 5 (of_scale 56 x)
in_range x h k = go x h k
  where
    go : (x : ℤ) → neg_ℤ (pos (2 ^ 60)) ≤ℤ x → x ≤ℤ pos (2 ^ 60) → 2 * unsigned_abs x ≤ 2 ^ 5 * 2 ^ 56
    go x h k = omega (arith, ints)

move : (m a b x y : ℤ) → x ≡ m +ℤ a → y ≡ m +ℤ b → x -ℤ y ≡ a -ℤ b
move m a b x y h k = omega (arith, lins)

pub one_side : (m e x y a b d : ℤ) → InRange 5 (of_scale 56 x) → InRange 5 (of_scale 56 y) → pos 0 ≤ℤ e → e ≤ℤ pos (2 ^ 55) → pos 0 ≤ℤ d → AreNear d x y → IsStep m e x a → IsStep m e y b →
    (pos 16 *ℤ (a -ℤ b)) ≤ℤ (d +ℤ pos 32)
one_side m e x y a b d rx ry e0 e1 d0 w p q =
    let star = canonical_exists 5 (of_scale 56 x) rx in
    let moon = canonical_exists 5 (of_scale 56 y) ry in
    let s : Rational = star.1 in
    let t : Rational = moon.1 in
    let near : AreWithin (of_scale 56 d) (of_scale 56 x) (of_scale 56 y) = (angles_near x y d w.0, angles_near y x d w.1) in
    let law = canonical_law 5 (of_scale 56 d) (of_scale 56 x) (of_scale 56 y) star.0 s moon.0 t (lit≤ tt) star.2 moon.2 near in
    let gap = sine_gap s.num (pos s.den) p.sine t.num (pos t.den) q.sine d (p.near star.0 s star.2).0 (q.near moon.0 t moon.2).1 law.1.0 (lt_pos 0 s.den s.positive) (lt_pos 0 t.den t.positive) in
    let i : ℤ = floor_div (e *ℤ p.sine) (2 ^ 64) in
    let j : ℤ = floor_div (e *ℤ q.sine) (2 ^ 64) in
    let gap_shrinks = step_gap e p.sine q.sine i j d (floor_le (e *ℤ p.sine) (2 ^ 64) (lit< tt))
    (weak (e *ℤ q.sine) ((j *ℤ pos (2 ^ 64)) +ℤ pos (2 ^ 64)) (lt_floor (e *ℤ q.sine) (2 ^ 64) (lit< tt))) gap e0 e1 d0 in
    subst (λ (z : ℤ). (pos 16 *ℤ z) ≤ℤ (d +ℤ pos 32)) (sym (move m i j a b p.next_is q.next_is)) gap_shrinks

-- 16 |next(x) - next(y)| ≤ |x - y| + 32
pub steps_shrink : (m e x y a b d : ℤ) → InRange 5 (of_scale 56 x) → InRange 5 (of_scale 56 y) → pos 0 ≤ℤ e → e ≤ℤ pos (2 ^ 55) → pos 0 ≤ℤ d → AreNear d x y → IsStep m e x a → IsStep m e y b →
    ((pos 16 *ℤ (a -ℤ b)) ≤ℤ (d +ℤ pos 32)) × ((pos 16 *ℤ (b -ℤ a)) ≤ℤ (d +ℤ pos 32))
steps_shrink m e x y a b d rx ry e0 e1 d0 w p q = (one_side m e x y a b d rx ry e0 e1 d0 w p q, one_side m e y x b a d ry rx e0 e1 d0 (w.1, w.0) q p)

-- ---- a step lies near m
pull_within : (z f : ℤ) → (f *ℤ pos 18446744073709551616) ≤ℤ z → z <ℤ ((f *ℤ pos 18446744073709551616) +ℤ pos 18446744073709551616)
    → unsigned_abs z ≤ 2 ^ 55 * 2 ^ 61 → (neg_ℤ (pos (2 ^ 52)) ≤ℤ f) × (f ≤ℤ pos (2 ^ 52))
pull_within z f h k l = (omega (arith, ints), omega (arith, ints))

pub product_within : (e s : ℤ) → unsigned_abs e ≤ 2 ^ 55 → unsigned_abs s ≤ 2 ^ 61 → (neg_ℤ (pos (2 ^ 52)) ≤ℤ floor_div (e *ℤ s) (2 ^ 64)) × (floor_div (e *ℤ s) (2 ^ 64) ≤ℤ pos (2 ^ 52))
product_within e s h k = pull_within (e *ℤ s) (floor_div (e *ℤ s) (2 ^ 64)) (floor_le (e *ℤ s) (2 ^ 64) (lit< tt))
    (lt_floor (e *ℤ s) (2 ^ 64) (lit< tt)) (abs_mul_le e s (2 ^ 55) (2 ^ 61) h k)

pub size_of : (e : ℤ) → pos 0 ≤ℤ e → e ≤ℤ pos (2 ^ 55) → unsigned_abs e ≤ 2 ^ 55
size_of e h k = omega (arith, ints)

pub step_near : (m e x a : ℤ) → pos 0 ≤ℤ e → e ≤ℤ pos (2 ^ 55) → IsStep m e x a → AreNear (pos (2 ^ 52)) a m
step_near m e x a e0 e1 p = let pull_bounded = product_within e p.sine (size_of e e0 e1) p.size in go m a (floor_div (e *ℤ p.sine) (2 ^ 64)) p.next_is pull_bounded.0 pull_bounded.1
  where
    go : (m a f : ℤ) → a ≡ m +ℤ f → neg_ℤ (pos (2 ^ 52)) ≤ℤ f → f ≤ℤ pos (2 ^ 52) → AreNear (pos (2 ^ 52)) a m
    go m a f e h k = (omega (arith, ints), omega (arith, ints))

-- ---- the rounds
pub settled_start : (m e x : ℤ) → pos 0 ≤ℤ e → e ≤ℤ pos (2 ^ 55) → AreNear (pos (2 ^ 52)) x m → Settled 0 m e x
settled_start m e x e0 e1 n a p = let next_is_near = step_near m e x a e0 e1 p in (go a x m next_is_near.0 n.1, back a x m next_is_near.1 n.0)
  where
    go : (a x m : ℤ) → (a -ℤ m) ≤ℤ pos (2 ^ 52) → (m -ℤ x) ≤ℤ pos (2 ^ 52) → ((a -ℤ x) *ℤ pos 1) ≤ℤ (pos (2 ^ 53) +ℤ (pos 3 *ℤ pos 1))
    go a x m h k = omega (arith, ints)

    back : (a x m : ℤ) → (m -ℤ a) ≤ℤ pos (2 ^ 52) → (x -ℤ m) ≤ℤ pos (2 ^ 52) → ((x -ℤ a) *ℤ pos 1) ≤ℤ (pos (2 ^ 53) +ℤ (pos 3 *ℤ pos 1))
    back a x m h k = omega (arith, ints)

record IsMagnitude (x y d : ℤ) : Type 0 where
  pub nn : pos 0 ≤ℤ d
  pub within : AreNear d x y
  pub either : (d ≡ x -ℤ y) ⊎ (d ≡ y -ℤ x)

magnitude : (x y : ℤ) → (d : ℤ) × IsMagnitude x y d
magnitude x y = by_lt_z x y
    (λ l. (y -ℤ x, record { nn = up x y l; within = (up_other x y l, le_refl_ℤ (y -ℤ x)); either = inr refl }))
    (λ l. (x -ℤ y, record { nn = less_nn l; within = (le_refl_ℤ (x -ℤ y), down_other x y l); either = inl refl }))
  where
    up : (x y : ℤ) → x <ℤ y → pos 0 ≤ℤ (y -ℤ x)
    up x y h = omega (arith, lins)

    up_other : (x y : ℤ) → x <ℤ y → (x -ℤ y) ≤ℤ (y -ℤ x)
    up_other x y h = omega (arith, lins)

    down_other : (x y : ℤ) → y ≤ℤ x → (y -ℤ x) ≤ℤ (x -ℤ y)
    down_other x y h = omega (arith, lins)

choose : (P : ℤ → Type 0) (d a b : ℤ) → P a → P b → (d ≡ a) ⊎ (d ≡ b) → P d
choose P d a b p q (inl e) = subst P (sym e) p
choose P d a b p q (inr e) = subst P (sym e) q

pub settled_step : (j i : ℕ) (m e x y : ℤ) → i ≡ j + 1 → pos 0 ≤ℤ e → e ≤ℤ pos (2 ^ 55) → InRange 5 (of_scale 56 x) → InRange 5 (of_scale 56 y) → Settled j m e x → IsStep m e x y → Settled i m e y
settled_step j i m e x y ij e0 e1 rx ry h p z q =
    let d = magnitude y x in
    let steps_nearer = steps_shrink m e y x z y d.0 ry rx e0 e1 d.1.nn d.1.within q p in
    let old = h y p in
    let distance_bounded : (d.0 *ℤ pos (16 ^ j)) ≤ℤ (pos (2 ^ 53) +ℤ (pos 3 *ℤ pos (16 ^ j))) =
    choose (λ (d : ℤ). (d *ℤ pos (16 ^ j)) ≤ℤ (pos (2 ^ 53) +ℤ (pos 3 *ℤ pos (16 ^ j)))) d.0 (y -ℤ x) (x -ℤ y) old.0 old.1 d.1.either in
    let power_not_negative : pos 0 ≤ℤ pos (16 ^ j) = le_pos 0 (16 ^ j) (omega arith) in
    let power_is_next : 16 ^ j * 16 ≡ 16 ^ i = sym (ap (λ (n : ℕ). 16 ^ n) (ij ∙ add-one j) ∙ pow-suc 16 j) in (
      subst (λ (n : ℕ). ((z -ℤ y) *ℤ pos n) ≤ℤ (pos (2 ^ 53) +ℤ (pos 3 *ℤ pos n))) power_is_next (round (z -ℤ y) d.0 (pos (16 ^ j)) steps_nearer.0 distance_bounded power_not_negative),
      subst (λ (n : ℕ). ((y -ℤ z) *ℤ pos n) ≤ℤ (pos (2 ^ 53) +ℤ (pos 3 *ℤ pos n))) power_is_next (round (y -ℤ z) d.0 (pos (16 ^ j)) steps_nearer.1 distance_bounded power_not_negative),
    )

pub settled_end : (m e x : ℤ) → Settled 14 m e x → (next : ℤ) → IsStep m e x next → AreNear (pos 3) next x
settled_end m e x h z q = let distance_bounded = h z q in (go (z -ℤ x) distance_bounded.0, go (x -ℤ z) distance_bounded.1)
  where
    go : (z : ℤ) → (z *ℤ pos 72057594037927936) ≤ℤ (pos 9007199254740992 +ℤ (pos 3 *ℤ pos 72057594037927936)) → z ≤ℤ pos 3
    go z h = omega (arith, ints)

-- where a step changes nothing, each further step leads at most 2 units away
pub settled_fixed : (m e x : ℤ) → pos 0 ≤ℤ e → e ≤ℤ pos (2 ^ 55) → InRange 5 (of_scale 56 x) → IsStep m e x x → (next : ℤ) → IsStep m e x next → AreNear (pos 3) next x
settled_fixed m e x e0 e1 r p next q = let steps_nearer = steps_shrink m e x x next x (pos 0) r r e0 e1 (le_refl_ℤ (pos 0)) (own x) q p in (go (next -ℤ x) steps_nearer.0, go (x -ℤ next) steps_nearer.1)
  where
    own : (x : ℤ) → AreNear (pos 0) x x
    own x = (omega (arith, lins), omega (arith, lins))

    go : (z : ℤ) → (pos 16 *ℤ z) ≤ℤ (pos 0 +ℤ pos 32) → z ≤ℤ pos 3
    go z h = omega (arith, ints)
