-- The least whole number whose square, times mu, is at least l times it and k.
use Rattle.std.specs.Prelude.{◌≡◌, ◌⊎◌, ◌^◌, ℤ, pos, ◌+ℤ◌, ◌*ℤ◌, ◌<ℤ◌, ◌≤ℤ◌}
use Rattle.vector_bound.specs.declared.reaches.Range.{Range}

abbrev pub IsFarEnough : ℤ → ℤ → ℤ → ℤ → Type 0
IsFarEnough mu l k x = (k +ℤ l *ℤ x) ≤ℤ (mu *ℤ (x *ℤ x))

-- from 1 on, enough, and no less is
pub record IsLeastReach (mu l k x : ℤ) : Type 0 where
  pub some : pos 1 ≤ℤ x
  pub to : x ≤ℤ pos (2 ^ 30)
  pub enough : IsFarEnough mu l k x
  pub least : (y : ℤ) → pos 1 ≤ℤ y → y <ℤ x → IsFarEnough mu l k y → ⊥

-- sizes of which the products at a number to 2^30 fit 128 bits
pub record AreInSize (mu l k : ℤ) : Type 0 where
  pub mu_from : pos 0 ≤ℤ mu
  pub mu_to : mu ≤ℤ pos (2 ^ 40)
  pub l_from : pos 0 ≤ℤ l
  pub l_to : l ≤ℤ pos (2 ^ 90)
  pub k_from : pos 0 ≤ℤ k
  pub k_to : k ≤ℤ pos (2 ^ 126)

pub record IsRange (mu l k : ℤ) (r : Range) : Type 0 where
  pub from : pos 0 ≤ℤ r.low
  pub order : r.low <ℤ r.high
  pub to : r.high ≤ℤ pos (2 ^ 30)
  pub enough : IsFarEnough mu l k r.high
  pub before : (r.low ≡ pos 0) ⊎ (IsFarEnough mu l k r.low → ⊥)
