-- The boxes of a sum of two angles hold every pair of a sum, and one near the circle.
use Rattle.std.proofs.Common.{◌≡◌, ℕ, ◌+◌, ◌≤◌, [], ◌∷◌, pos, sym, refl, subst₂}
use Rattle.std.proofs.Math.Logic.{∥∥₁_elim, ∥∥₁_map, ∥∥₁_prop}
use Rattle.whole_math.proofs.Ring.{◌⊕◌, ◌⊗◌}
use Rattle.whole_math.proofs.Inequalities.{same_by, nat}
use Rattle.whole_math.specs.Rational.{Rational, ◌≈◌, ◌+ʳ◌, ◌-ʳ◌, ◌*ʳ◌, times}
use Rattle.whole_math.proofs.Boxes.{InBox-along}
use Rattle.iv_core.specs.declared.Iv.{Iv}
use Rattle.iv_core.specs.Intervals.{Holds}
use Rattle.trig_box.specs.AnglePairs.{Pair, double}
use Rattle.orbit_model.specs.Solution.{turned}
use Rattle.orbit_place.specs.Rotations.{HasPairNearCircle, HoldsBoth}
use Rattle.orbit_place.proofs.Circle.{turned_near, double_near}

-- one box holds all f x y, x of another and y of a third
abbrev pub HoldsAll : (Rational → Rational → Rational) → Iv 60 → Iv 60 → Iv 60 → Type 0
HoldsAll f a b c = (x y : Rational) → Holds a x → Holds b y → Holds c (f x y)

pub turned_held : (c s d t both neither first second cos sin : Iv 60) → HoldsAll ◌*ʳ◌ c d both → HoldsAll ◌*ʳ◌ s t neither → HoldsAll ◌*ʳ◌ s d first → HoldsAll ◌*ʳ◌ c t second →
    HoldsAll ◌-ʳ◌ both neither cos → HoldsAll ◌+ʳ◌ first second sin → (p q : Pair) → HoldsBoth c s p → HoldsBoth d t q → HoldsBoth cos sin (turned p q)
turned_held c s d t both neither first second cos sin f g h i j k p q m n = (
  j (p.cos *ʳ q.cos) (p.sin *ʳ q.sin) (f p.cos q.cos m.0 n.0) (g p.sin q.sin m.1 n.1),
  k (p.sin *ʳ q.cos) (p.cos *ʳ q.sin) (h p.sin q.cos m.1 n.0) (i p.cos q.sin m.0 n.1),
)

pub both_along : (a b c d : Iv 60) (p : Pair) → a ≡ c → b ≡ d → HoldsBoth c d p → HoldsBoth a b p
both_along a b c d p e f h = subst₂ (λ (x y : Iv 60). HoldsBoth x y p) (sym e) (sym f) h

pub has_turned : (a b c : ℕ) (k l m n cos sin : Iv 60) → a + b + 1 ≤ c → a ≤ 32 → b ≤ 32 → ((p q : Pair) → HoldsBoth k l p → HoldsBoth m n q → HoldsBoth cos sin (turned p q)) →
    ∥ HasPairNearCircle a k l ∥₁ → ∥ HasPairNearCircle b m n ∥₁ → ∥ HasPairNearCircle c cos sin ∥₁
has_turned a b c k l m n cos sin h i j all has other = ∥∥₁_elim has ∥∥₁_prop (λ x. ∥∥₁_map other
    (λ y. record { pair = turned x.pair y.pair; held = all x.pair y.pair x.held y.held; near = turned_near a b c x.pair y.pair h i j x.near y.near }))

-- ---- doubles
pub double_held : (c s both neither half cos sin : Iv 60) → ((x : Rational) → Holds c x → Holds both (x *ʳ x)) → ((x : Rational) → Holds s x → Holds neither (x *ʳ x)) → HoldsAll ◌*ʳ◌ s c half →
    HoldsAll ◌-ʳ◌ both neither cos → HoldsAll ◌+ʳ◌ half half sin → (p : Pair) → HoldsBoth c s p → HoldsBoth cos sin (double p)
double_held c s both neither half cos sin f g h i j p m = (
  i (p.cos *ʳ p.cos) (p.sin *ʳ p.sin) (f p.cos m.0) (g p.sin m.1),
  let product_held = h p.sin p.cos m.1 m.0 in
      InBox-along 60 sin.lo sin.hi (p.sin *ʳ p.cos +ʳ p.sin *ʳ p.cos) (times 2 (p.sin *ʳ p.cos)) (twice (p.sin *ʳ p.cos)) (j (p.sin *ʳ p.cos) (p.sin *ʳ p.cos) product_held product_held),
)
  where
    twice : (q : Rational) → q +ʳ q ≈ times 2 q
    twice q = same_by (q.num ∷ pos q.den ∷ []) (λ n d. ((n ⊗ d ⊕ n ⊗ d) ⊗ d, nat 2 ⊗ n ⊗ (d ⊗ d))) refl

pub has_double : (a c : ℕ) (k l cos sin : Iv 60) → a + a + 1 ≤ c → a ≤ 32 → ((p : Pair) → HoldsBoth k l p → HoldsBoth cos sin (double p)) →
    ∥ HasPairNearCircle a k l ∥₁ → ∥ HasPairNearCircle c cos sin ∥₁
has_double a c k l cos sin h i all has = ∥∥₁_map has (λ x. record { pair = double x.pair; held = all x.pair x.held; near = double_near a c x.pair h i x.near })
