-- A quotient of two rationals.
use Rattle.std.proofs.Common.{◌≡◌, ◌*◌, [], ◌∷◌, ℤ, pos, ◌*ℤ◌, ◌<ℤ◌, unsigned_abs, mul-pos, refl, sym, ap, ◌∙◌}
use Rattle.whole_math.proofs.Ring.{◌⊗◌}
use Rattle.whole_math.proofs.Absolute.{pos_abs, abs_pos}
use Rattle.whole_math.proofs.Inequalities.{same_by, weak}
use Rattle.whole_math.specs.Rational.{Rational, ◌*ʳ◌, ◌≈◌}

-- p / q, for q above 0
pub record HasQuotient (p q : Rational) : Type 0 where
  pub quotient : Rational
  pub is_quotient : quotient *ʳ q ≈ p

pub quotient_exists : (p q : Rational) → pos 0 <ℤ q.num → HasQuotient p q
quotient_exists p q h = record {
  quotient = record { num = p.num *ℤ pos q.den; den = p.den * unsigned_abs q.num; positive = mul-pos p.positive (abs_pos q.num h) };
  is_quotient = laid p.num (pos p.den) (pos q.den) q.num (pos (unsigned_abs q.num)) (pos_abs q.num (weak h));
}
  where
    laid : (a d e b c : ℤ) → c ≡ b → a *ℤ e *ℤ b *ℤ d ≡ a *ℤ (d *ℤ c *ℤ e)
    laid a d e b c f = same_by (a ∷ d ∷ e ∷ b ∷ []) (λ a d e b. (a ⊗ e ⊗ b ⊗ d, a ⊗ (d ⊗ b ⊗ e))) refl ∙ ap (λ z. a *ℤ (d *ℤ z *ℤ e)) (sym f)
