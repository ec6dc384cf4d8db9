-- The entries of one step, by their places in a table.
use Rattle.std.specs.Prelude.{◌≡◌, ℕ, ◌^◌, ◌≤◌, Bool, true, false, nat_lt, nat_eq, cond, Option, IfSome, IsNone, List, ℤ, pos, ◌-ℤ◌, ◌*ℤ◌, unsigned_abs}
use Rattle.whole_math.specs.Rounding.{nearest_div, ceil_div}
use Rattle.quadratic_form.specs.Tables.{entry}

-- below 2^52 in size
abbrev pub is_small : ℤ → Bool
is_small x = nat_lt (unsigned_abs x) (2 ^ 52)

-- an answer that gives x where it is small
pub record IsSmallOnly (x : ℤ) (o : Option ℤ) : Type 0 where
  pub value : IfSome o (λ y. y ≡ x)
  pub small : IfSome o (λ y. is_small y ≡ true)
  pub refused : IsNone o → is_small x ≡ false

-- p · q / a to the nearest
abbrev pub nearest_quotient : ℤ → ℤ → ℤ → ℤ
nearest_quotient p q a = nearest_div (p *ℤ q) (unsigned_abs a)

-- p² / a upward
abbrev pub square_over : ℤ → ℤ → ℤ
square_over p a = ceil_div (p *ℤ p) (unsigned_abs a)

-- a ratio in units of 2^-61 is within one of them of p / a
abbrev pub IsWithinUnit : ℤ → ℤ → ℤ → Type 0
IsWithinUnit ratio p a = unsigned_abs ((ratio *ℤ a) -ℤ (pos (2 ^ 61) *ℤ p)) ≤ unsigned_abs a

-- the factor of column c, at the pivot a of column j
abbrev pub factor_entry : List (List ℤ) → ℕ → ℕ → ℕ → ℤ
factor_entry t j a c = nearest_div (entry t j c *ℤ pos (2 ^ 30)) a

-- the new entry in row r and column c
abbrev pub other_entry : List (List ℤ) → ℕ → ℕ → ℕ → ℕ → ℤ
other_entry t j a r c = entry t r c -ℤ nearest_div (entry t j r *ℤ entry t j c) a

-- the new own entry of column r, where n columns come after j
abbrev pub own_entry : List (List ℤ) → ℕ → ℕ → ℤ → ℕ → ℤ
own_entry t j a n r = ((entry t r r -ℤ ceil_div (entry t j r *ℤ entry t j r) a) -ℤ n) -ℤ ceil_div (n *ℤ pos a) (2 ^ 42)

-- the new entry in row r and column c, on the diagonal and after it
abbrev pub new_entry : List (List ℤ) → ℕ → ℕ → ℤ → ℕ → ℕ → ℤ
new_entry t j a n r c = cond (nat_eq r c) (own_entry t j a n r) (other_entry t j a r c)
