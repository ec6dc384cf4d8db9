-- New levels, and the test of an entry.
use Rattle.std.proofs.Common.{◌≡◌, ◌+◌, ◌<◌, ◌≤◌, ◌^◌, ℤ, pos, ◌+ℤ◌, ◌-ℤ◌, ◌*ℤ◌, neg_ℤ, ◌<ℤ◌, ◌≤ℤ◌, arith, unsigned_abs, inl, inr, negsuc}
use Rattle.std.proofs.lemmas.Int.{ints}
use Rattle.whole_math.specs.Rounding.{ceil_div}
use Rattle.whole_math.proofs.Order.{lins, polys, mul_le_right, square_nn, mul_nn}
use Rattle.int_search.proofs.SuffixLaws.{square_from}
use Rattle.int_search.specs.Steps.{IsUntouched}
use Rattle.int_search.proofs.Quotients.{ends_up, ends_down}

pub fresh_from : (rest low u up down up_offset down_offset low' : ℤ) → u ≡ ceil_div (neg_ℤ rest) (2 ^ 30) → unsigned_abs u ≤ 2 ^ 59 + 1 → unsigned_abs rest ≤ 2 ^ 88 → up ≡ u → down ≡ u -ℤ pos 1 →
    up_offset ≡ (pos (2 ^ 30) *ℤ up) +ℤ rest → down_offset ≡ (pos (2 ^ 30) *ℤ down) +ℤ rest → low' ≡ low →
    IsUntouched rest low (record { up = up; down = down; up_offset = up_offset; down_offset = down_offset; low = low' })
fresh_from rest low u up down up_offset down_offset low' h s r a b p q l =
    let is_ceiling : up ≡ ceil_div (neg_ℤ rest) (2 ^ 30) = cc in
    let one_apart : up ≡ down +ℤ pos 1 = omega (arith, ints) in
    let up_not_negative : pos 0 ≤ℤ ((pos (2 ^ 30) *ℤ up) +ℤ rest) = ends_up up rest is_ceiling in
    let down_negative : ((pos (2 ^ 30) *ℤ down) +ℤ rest) <ℤ pos 0 = ends_down up down rest is_ceiling one_apart in
    record {
      up_offset_is = p;
      down_offset_is = q;
      above = rw p up_not_negative;
      under = rw q down_negative;
      apart = one_apart;
      low_is = l;
      up_size = omega (arith, ints);
      down_size = omega (arith, ints);
      up_offset_size = size up up_offset (omega (arith, ints)) p;
      down_offset_size = size down down_offset (omega (arith, ints)) q;
    }
  where
    size : (x c : ℤ) → unsigned_abs x ≤ 2 ^ 60 → c ≡ (pos (2 ^ 30) *ℤ x) +ℤ rest → unsigned_abs c ≤ 2 ^ 99
    size x c s e = let fits_size = r in omega (arith, polys)

-- d·c² is past a room of at most 2^123 where c is past 2^62
pub far_off : (room d c : ℤ) → pos 1 ≤ℤ d → unsigned_abs room ≤ 2 ^ 123 → 2 ^ 62 < unsigned_abs c → room <ℤ (d *ℤ (c *ℤ c))
far_off room d c h r k =
    let square_far : (pos (2 ^ 62) *ℤ pos (2 ^ 62)) ≤ℤ (c *ℤ c) = sides c k in
    let weight_at_least : (pos 1 *ℤ (c *ℤ c)) ≤ℤ (d *ℤ (c *ℤ c)) = mul_le_right (c *ℤ c) (pos 1) d (square_nn c) h in
    omega (arith, polys)
  where
    sides : (c : ℤ) → 2 ^ 62 < unsigned_abs c → (pos (2 ^ 62) *ℤ pos (2 ^ 62)) ≤ℤ (c *ℤ c)
    sides (pos n) k = square_from (pos (2 ^ 62)) (pos n) (inl (omega (arith, ints), omega (arith, ints)))
    sides (negsuc n) k = square_from (pos (2 ^ 62)) (negsuc n) (inr (inl (omega (arith, ints), omega (arith, ints))))

pub below_zero : (room d c : ℤ) → pos 1 ≤ℤ d → room <ℤ pos 0 → room <ℤ (d *ℤ (c *ℤ c))
below_zero room d c h k = let not_negative : pos 0 ≤ℤ (d *ℤ (c *ℤ c)) = mul_nn d (c *ℤ c) (omega (arith, lins)) (square_nn c) in omega (arith, lins)
