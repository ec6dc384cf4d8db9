-- The front of a normal form and the whole elimination, with their refusals.
use Rattle.std.specs.Prelude.{ℕ, ◌+◌, ◌^◌, ◌≤◌, List, [], ◌∷◌, pos, ◌*ℤ◌, ◌<ℤ◌}
use Rattle.quadratic_form.specs.Forms.{Column}

-- 63 times each own entry is below 2^(50 + h)
abbrev pub OwnBelow : ℕ → List Column → Type 0
OwnBelow h [] = Unit {0}
OwnBelow h (c ∷ a) = ((pos 63 *ℤ c.own) <ℤ pos (2 ^ (50 + h))) × OwnBelow h a

-- h is the least such
pub record IsExponent (h : ℕ) (c : List Column) : Type 0 where
  pub enough : OwnBelow h c
  pub least : (k : ℕ) → OwnBelow k c → h ≤ k
