-- Roundings and quotients of one level.
use Rattle.std.proofs.Common.{◌≡◌, ◌^◌, ℤ, pos, ◌+ℤ◌, ◌*ℤ◌, neg_ℤ, ◌<ℤ◌, ◌≤ℤ◌, arith, sym, ◌∙◌, unsigned_abs}
use Rattle.whole_math.proofs.IntLaws.{mul_comm_ℤ}
use Rattle.whole_math.proofs.Order.{polys, lins}
use Rattle.whole_math.proofs.Rounding.{ceil_le, ceil_lt}
use Rattle.whole_math.proofs.Quotients.{floor_at, past_floor}
use Rattle.whole_math.specs.Rounding.{floor_div, ceil_div}

-- the ends of a new level
pub ends_up : (up rest : ℤ) → up ≡ ceil_div (neg_ℤ rest) (2 ^ 30) → pos 0 ≤ℤ ((pos (2 ^ 30) *ℤ up) +ℤ rest)
ends_up up rest e = let at_ceiling = ceil_le (neg_ℤ rest) (2 ^ 30) (omega arith) in rw e (step (ceil_div (neg_ℤ rest) (2 ^ 30)) rest at_ceiling)
  where
    step : (u r : ℤ) → neg_ℤ r ≤ℤ (u *ℤ pos (2 ^ 30)) → pos 0 ≤ℤ ((pos (2 ^ 30) *ℤ u) +ℤ r)
    step u r h = omega (arith, polys, mul_comm_ℤ u (pos (2 ^ 30)))

pub ends_down : (up down rest : ℤ) → up ≡ ceil_div (neg_ℤ rest) (2 ^ 30) → up ≡ down +ℤ pos 1 → ((pos (2 ^ 30) *ℤ down) +ℤ rest) <ℤ pos 0
ends_down up down rest e g = let below_ceiling = ceil_lt (neg_ℤ rest) (2 ^ 30) (omega arith) in step (ceil_div (neg_ℤ rest) (2 ^ 30)) down rest below_ceiling (sym e ∙ g)
  where
    step : (u d r : ℤ) → (u *ℤ pos (2 ^ 30)) <ℤ (neg_ℤ r +ℤ pos (2 ^ 30)) → u ≡ d +ℤ pos 1 → ((pos (2 ^ 30) *ℤ d) +ℤ r) <ℤ pos 0
    step u d r h g = omega (arith, polys, mul_comm_ℤ u (pos (2 ^ 30)))

one_positive : (d : ℤ) → pos 1 ≤ℤ d → pos 0 <ℤ d
one_positive d h = omega (arith, lins)

-- q is at most the quotient, or d·q is past the room
pub share_yes : (room d q : ℤ) → pos 1 ≤ℤ d → q ≤ℤ floor_div room (unsigned_abs d) → (d *ℤ q) ≤ℤ room
share_yes room d q h k = rw (mul_comm_ℤ d q) (floor_at room d q (one_positive d h) k)

pub share_no : (room d q : ℤ) → pos 1 ≤ℤ d → floor_div room (unsigned_abs d) <ℤ q → room <ℤ (d *ℤ q)
share_no room d q h k = rw (mul_comm_ℤ d q) (past_floor room d q (one_positive d h) k)
