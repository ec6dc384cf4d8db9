-- A turn of two integers, by computation: 1000 and 10 are kept of the pivots, and the factor between them is 3 · 2^30 + 2^28.
use Rattle.std.proofs.Common.{◌≡◌, ◌^◌, ℕ, ℤ, pos, true, false, nat_eq, refl}
use Rattle.decorrelate.specs.States.{State, unit}
use Rattle.decorrelate.specs.GaussSteps.{after_gauss, multiple}
use Rattle.decorrelate.specs.Turning.{is_gain, rest_of, first_of, between_of, new_second}

-- what is kept of each pivot
abbrev kept_of : ℤ → ℤ → ℕ → ℤ
kept_of a b i = elim (nat_eq i 0) [ true ↦ a | false ↦ b ]

abbrev two_integers : State
two_integers = record { d = kept_of (pos 1000) (pos 10); l = λ i m. pos 3489660928; map = unit; back = unit }

gains : is_gain (pos 1000) (pos 10) (rest_of two_integers 0) ≡ true
unfolding after_gauss
gains = refl

three_are_taken : multiple two_integers.l 0 0 ≡ pos 3
unfolding after_gauss
three_are_taken = refl

rest : rest_of two_integers 0 ≡ pos (2 ^ 28)
unfolding after_gauss
rest = refl

first : first_of two_integers 0 ≡ pos 72
unfolding after_gauss
first = refl

second : new_second (pos 1000) (pos 10) (first_of two_integers 0) ≡ pos 138
unfolding after_gauss
second = refl

between : between_of two_integers 0 ≡ pos 3728270222
unfolding after_gauss
between = refl

-- after it no turn gains
abbrev turned : State
turned = record { d = kept_of (pos 72) (pos 138); l = λ i m. pos 3728270222; map = unit; back = unit }

no_gain : is_gain (pos 72) (pos 138) (rest_of turned 0) ≡ false
unfolding after_gauss
no_gain = refl
