-- What the products and sums of the boxes of a direction hold.
use Rattle.std.proofs.Common.{◌≡◌, ℕ, sym, subst}
use Rattle.whole_math.specs.Rational.{◌+ʳ◌, ◌-ʳ◌, ◌*ʳ◌}
use Rattle.iv_core.specs.declared.Iv.{Iv}
use Rattle.trig_box.specs.AnglePairs.{Pair}
use Rattle.orbit_place.specs.Rotations.{HoldsBoth}
use Rattle.orbit_place.proofs.Turns.{HoldsAll}
use Rattle.orbit_place.specs.Directions.{Point, direction, HoldsPoint}

pub direction_held : (uc us ic is nc ns across first second third fourth x y z : Iv 60) →
    HoldsAll ◌*ʳ◌ us ic across → HoldsAll ◌*ʳ◌ uc nc first → HoldsAll ◌*ʳ◌ across ns second → HoldsAll ◌*ʳ◌ uc ns third → HoldsAll ◌*ʳ◌ across nc fourth →
    HoldsAll ◌-ʳ◌ first second x → HoldsAll ◌+ʳ◌ third fourth y → HoldsAll ◌*ʳ◌ us is z →
    (u i n : Pair) → HoldsBoth uc us u → HoldsBoth ic is i → HoldsBoth nc ns n → HoldsPoint x y z (direction u i n)
direction_held uc us ic is nc ns across first second third fourth x y z f g h j k l m o u i n hu hi hn =
    let product_held = f u.sin i.cos hu.1 hi.0 in (
      l (u.cos *ʳ n.cos) (u.sin *ʳ i.cos *ʳ n.sin) (g u.cos n.cos hu.0 hn.0) (h (u.sin *ʳ i.cos) n.sin product_held hn.1),
      m (u.cos *ʳ n.sin) (u.sin *ʳ i.cos *ʳ n.cos) (j u.cos n.sin hu.0 hn.1) (k (u.sin *ʳ i.cos) n.cos product_held hn.0),
      o u.sin i.sin hu.1 hi.1,
    )

pub point_along : {k : ℕ} (a b c d e f : Iv k) (p : Point) → a ≡ d → b ≡ e → c ≡ f → HoldsPoint d e f p → HoldsPoint a b c p
point_along {k} a b c d e f p x y z h =
    subst (λ (t : Iv k). HoldsPoint t b c p) (sym x) (subst (λ (t : Iv k). HoldsPoint d t c p) (sym y) (subst (λ (t : Iv k). HoldsPoint d e t p) (sym z) h))
