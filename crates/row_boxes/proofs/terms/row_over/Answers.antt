use Rattle.std.proofs.Common.{◌≡◌, ◌∷◌, [], ◌^◌, ◌≤◌, ◌≤ℤ◌, List, length, get_or, ℤ, pos, unsigned_abs, arith, to_z, of_z, ap, sym, ◌∙◌, refl}
use Rattle.std.specs.Prelude.{map}
use Rattle.std.proofs.lemmas.Int.{ints}
use Rattle.std.specs.Int.{w64}
use Rattle.signal_travel.specs.declared.spread.Spread.{Spread}
use Rattle.row_boxes.proofs.terms.row_over.Goals as goal
use Rattle.obs_rows.specs.declared.units.TheConstants.{DIRECTION_EXPONENT}
use Rattle.whole_math.proofs.Words.{as_w64}
use Rattle.whole_math.proofs.Lists.{three_items}

read_centre : (z : ℤ) → unsigned_abs z ≤ 2 ^ DIRECTION_EXPONENT → to_z w64 (of_z w64 z) ≡ z
read_centre z small = as_w64 z (omega (arith, small))

read_radius : (z : ℤ) → pos 0 ≤ℤ z → z ≤ℤ pos 32 → to_z w64 (of_z w64 z) ≡ z
read_radius z least most = as_w64 z (omega (arith, ints, least, most))

three_same : (a b c x y z : ℤ) → a ≡ x → b ≡ y → c ≡ z → ◌≡◌ {A = List ℤ} (a ∷ b ∷ c ∷ []) (x ∷ y ∷ z ∷ [])
three_same a b c x y z first second third = rw (first, second, third) refl

pub invariant_of-result-clause-y_in : goal.invariant_of-result-clause-y_in
invariant_of-result-clause-y_in c = c.requires.y_in

pub returns-clause-direction : goal.returns-clause-direction
returns-clause-direction c =
    let directions : List Spread = c.args.direction.now in
    let x : Spread = get_or directions 0 c.index-direction-0.result in
    let y : Spread = get_or directions 1 c.index-direction-1.result in
    let z : Spread = get_or directions 2 c.index-direction-2.result in
    let three_spreads : length directions ≡ 3 = omega arith in
    let items : directions ≡ x ∷ y ∷ z ∷ [] = three_items directions c.index-direction-0.result c.index-direction-1.result c.index-direction-2.result three_spreads in (
      three_same _ _ _ x.centre y.centre z.centre (read_centre x.centre x.centre_in) (read_centre y.centre y.centre_in) (read_centre z.centre z.centre_in) ∙ sym (ap (λ (ds : List Spread). map (λ s. s.centre) ds) items),
      three_same _ _ _ x.radius y.radius z.radius (read_radius x.radius x.radius_least x.radius_most) (read_radius y.radius y.radius_least y.radius_most)
          (read_radius z.radius z.radius_least z.radius_most) ∙ sym (ap (λ (ds : List Spread). map (λ s. s.radius) ds) items),
    )
