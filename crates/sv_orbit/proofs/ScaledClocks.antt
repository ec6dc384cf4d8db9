-- A clock over 10^4, from its ends over 10^4.
use Rattle.std.proofs.Common.{◌≡◌, ℕ, ◌*◌, ◌^◌, ℤ, pos, ◌*ℤ◌, ◌≤ℤ◌, arith, subst}
use Rattle.std.proofs.lemmas.Int.{ints}
use Rattle.whole_math.proofs.Inequalities.{pos_nn}
use Rattle.whole_math.specs.Rational.{Rational, InBox}
use Rattle.sv_orbit.specs.ClockTerms.{per_ten_thousand}
use Rattle.sv_orbit.proofs.ScaledClockCertificates.{low, high}

factor : (d : ℕ) → pos 10000 *ℤ pos d ≡ pos (10000 * d)
factor d = omega (arith, ints)

pub scaled_holds : (a b l u : ℤ) (x : Rational) → InBox 60 a b x → (l *ℤ pos 10000) ≤ℤ a → b ≤ℤ (u *ℤ pos 10000) → InBox 60 l u (per_ten_thousand x)
scaled_holds a b l u x h k m = (
  subst (λ (z : ℤ). (l *ℤ z) ≤ℤ (x.num *ℤ pos (2 ^ 60))) (factor x.den) (low x.num (pos x.den) l a h.0 k (pos_nn x.den)),
  subst (λ (z : ℤ). (x.num *ℤ pos (2 ^ 60)) ≤ℤ (u *ℤ z)) (factor x.den) (high x.num (pos x.den) u b h.1 m (pos_nn x.den)),
)
