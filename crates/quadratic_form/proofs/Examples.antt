-- The definitions at numbers.
use Rattle.std.proofs.Common.{◌≡◌, ◌^◌, List, [], ◌∷◌, ℤ, pos, negsuc, ◌*ℤ◌, Err, refl}
use Rattle.quadratic_form.specs.Elimination.{factors, kept, next, weak, steps}
use Rattle.quadratic_form.specs.Rows.{SignalRow, SignalGroup, first_rounding, whole_sum_of_squares}
use Rattle.quadratic_form.specs.Spread.{spread}

-- two columns, with 2^30 as own entries and 2^29 as the other
factor_at : factors (2 ^ 30) (pos (2 ^ 29) ∷ []) ≡ pos 536870912 ∷ []
factor_at = refl

kept_at : kept (2 ^ 30) ≡ pos 1073740800
kept_at = refl

next_at : next (2 ^ 30) (pos 1) (pos (2 ^ 29) ∷ []) (record { own = pos (2 ^ 30); others = [] } ∷ []) ≡ record { own = pos 805306366; others = [] } ∷ []
next_at = refl

-- two rows without directions, each with an integer of its own: the first pivot is 0 - 6
abbrev still : List ℤ → SignalRow
still q = record { u1 = pos 0; u2 = pos 0; u3 = pos 0; ru1 = pos 0; ru2 = pos 0; ru3 = pos 0; cycles = q; y = pos 0; ry = pos 1 }

abbrev small : List SignalGroup
small = record { weight = pos 10000; rows = still ((negsuc 76 *ℤ pos (2 ^ 18)) ∷ (pos 0 ∷ [])) ∷ (still (pos 0 ∷ ((negsuc 59 *ℤ pos (2 ^ 18)) ∷ [])) ∷ []) } ∷ []

weak_at : steps 0 3 (first_rounding 36 2 small) ≡ Err (weak 0 (negsuc 5))
weak_at = refl

spread_at : spread (pos 0 ∷ (pos 1 ∷ (pos 3 ∷ []))) ≡ pos 14
spread_at = refl

-- two rows whose residuals are 262144 and 0
group_at : whole_sum_of_squares (pos 1) (pos 1) (pos 0 ∷ (pos 0 ∷ [])) (record { b1 = pos 0; b2 = pos 0; b3 = pos 0 }) small
    ((record { u1 = pos 0; u2 = pos 0; u3 = pos 0; y = pos 262144 } ∷ (record { u1 = pos 0; u2 = pos 0; u3 = pos 0; y = pos 0 } ∷ [])) ∷ []) ≡ pos 123818753182924800000
group_at = refl
