-- A far place has a mean direction over a displacement: both near-roots exist, and their sum is above 0.
use Rattle.std.proofs.Common.{[], ◌∷◌, pos, arith, refl, lit≤, lit<}
use Rattle.std.proofs.lemmas.Int.{ints}
use Rattle.whole_math.proofs.Ring.{va, ko, ◌⊕◌, ◌⊖◌, ◌⊗◌}
use Rattle.whole_math.proofs.Order.{lt_pos}
use Rattle.whole_math.proofs.Certificates.{◌≼◌, hy, nm, sq, ◌⊞◌, ◌⊠◌}
use Rattle.whole_math.specs.Rational.{Rational, ◌≤ʳ◌, of_whole, ◌+ʳ◌, ◌-ʳ◌, ◌*ʳ◌}
use Rattle.whole_math.proofs.RationalLaws.{≤ʳ_trans}
use Rattle.whole_math.proofs.RationalSizes.{positive_above}
use Rattle.orbit_model.specs.SeenPlaces.{Position, difference, square, IsDisplacement}
use Rattle.orbit_model.specs.Places.{HasLengthBetween}
use Rattle.orbit_model.proofs.Apart.{whole_le}
use Rattle.orbit_model.proofs.Orders.{cert_r, cancel_r, root_r}
use Rattle.orbit_model.proofs.NearRoots.{root_nn, near_low}
use Rattle.orbit_model.proofs.ChangeCertificates.{range_square}
use Rattle.sv_orbit.specs.Directions.{HasMeanDirection}
use Rattle.whole_math.proofs.RationalQuotients.{quotient_exists}
use Rattle.sv_orbit.proofs.Roots.{near_root_exists}

-- a long vector less a displacement is no point: 2 |d - m|² = |d|² - 2 |m|² + |d - 2 m|²
far_after : (x y z a b c : Rational) → of_whole (pos 139240000000000) ≤ʳ x *ʳ x +ʳ y *ʳ y +ʳ z *ʳ z
    → a *ʳ a +ʳ b *ʳ b +ʳ c *ʳ c ≤ʳ of_whole (pos 256)
    → of_whole (pos 1) ≤ʳ (x -ʳ a) *ʳ (x -ʳ a) +ʳ (y -ʳ b) *ʳ (y -ʳ b) +ʳ (z -ʳ c) *ʳ (z -ʳ c)
far_after x y z a b c far short =
    cancel_r (of_whole (pos 2)) (of_whole (pos 1)) ((x -ʳ a) *ʳ (x -ʳ a) +ʳ (y -ʳ b) *ʳ (y -ʳ b) +ʳ (z -ʳ c) *ʳ (z -ʳ c))
    (omega (arith, ints))
    (cert_r (x ∷ y ∷ z ∷ a ∷ b ∷ c ∷ []) (((ko (pos 139240000000000)) ≼ ((((va 0) ⊗ (va 0)) ⊕ ((va 1) ⊗ (va 1))) ⊕ ((va 2) ⊗ (va 2))))
    ∷ (((((va 3) ⊗ (va 3)) ⊕ ((va 4) ⊗ (va 4))) ⊕ ((va 5) ⊗ (va 5))) ≼ (ko (pos 256))) ∷ [])
    ((ko (pos 2)) ⊗ (ko (pos 1)))
    ((ko (pos 2)) ⊗ (((((va 0) ⊖ (va 3)) ⊗ ((va 0) ⊖ (va 3))) ⊕ (((va 1) ⊖ (va 4)) ⊗ ((va 1) ⊖ (va 4)))) ⊕ (((va 2) ⊖ (va 5)) ⊗ ((va 2) ⊖ (va 5)))))
    ((((hy 0) ⊞ ((nm 2) ⊠ (hy 1))) ⊞ (((sq ((va 0) ⊖ ((ko (pos 2)) ⊗ (va 3)))) ⊞ (sq ((va 1) ⊖ ((ko (pos 2)) ⊗ (va 4))))) ⊞ (sq ((va 2) ⊖ ((ko (pos 2)) ⊗ (va 5))))))
    ⊞ (nm 139239999999486)) refl (far, (short, tt)))

sum_least : (u v : Rational) → of_whole (pos 1000000) ≤ʳ u → of_whole (pos 0) ≤ʳ v → of_whole (pos 1000000) ≤ʳ u +ʳ v
sum_least u v least v0 =
    cert_r (u ∷ v ∷ []) (((ko (pos 1000000)) ≼ (va 0)) ∷ ((ko (pos 0)) ≼ (va 1)) ∷ []) (ko (pos 1000000)) ((va 0) ⊕ (va 1)) ((hy 0) ⊞ (hy 1)) refl (least, (v0, tt))

pub mean_direction : (seen point move : Position) → HasLengthBetween 11800000 45200000 (difference seen point) → IsDisplacement move → HasMeanDirection seen point move
mean_direction seen point move far short =
    let d : Position = difference seen point in
    let moved : Position = difference d move in
    let before = near_root_exists (square d) (positive_above (of_whole (pos 139240000000000)) (square d) (lt_pos 0 139240000000000 (lit< tt)) far.0) in
    let after = near_root_exists (square moved) (positive_above (of_whole (pos 1)) (square moved) (lt_pos 0 1 (lit< tt)) (far_after d.x d.y d.z move.x move.y move.z far.0 short)) in
    let u : Rational = before.root in
    let v : Rational = after.root in
    let long = ≤ʳ_trans (of_whole (pos 100000000000000)) (of_whole (pos 139240000000000)) (square d) (whole_le 100000000000000 139240000000000 (lit≤ tt)) far.0 in
    let least = root_r (of_whole (pos 1000000)) u (root_nn u (square d) before.is_root) (range_square d.x d.y d.z u long (near_low u (square d) before.is_root)) in
    let sum : Rational = u +ʳ v in
    let positive = positive_above (of_whole (pos 1000000)) sum (lt_pos 0 1000000 (lit< tt)) (sum_least u v least (root_nn v (square moved) after.is_root)) in
    let x = quotient_exists (move.x -ʳ of_whole (pos 2) *ʳ (seen.x -ʳ point.x)) sum positive in
    let y = quotient_exists (move.y -ʳ of_whole (pos 2) *ʳ (seen.y -ʳ point.y)) sum positive in
    let z = quotient_exists (move.z -ʳ of_whole (pos 2) *ʳ (seen.z -ʳ point.z)) sum positive in
    record {
      direction = record { x = x.quotient; y = y.quotient; z = z.quotient };
      is = record { before = u; after = v; before_is = before.is_root; after_is = after.is_root; x_is = x.is_quotient; y_is = y.is_quotient; z_is = z.is_quotient };
    }
