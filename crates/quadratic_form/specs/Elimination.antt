-- The first rounding of a form, and its elimination column by column.
use Rattle.std.specs.Prelude.{ℕ, zero, suc, ◌^◌, Bool, true, false, ◌&&◌, nat_lt, int_lt, List, [], ◌∷◌, ℤ, pos, ◌+ℤ◌, ◌-ℤ◌, ◌*ℤ◌, Result, Ok, Err, unsigned_abs}
use Rattle.whole_math.specs.Rounding.{floor_div, ceil_div, nearest_div}
use Rattle.quadratic_form.specs.Forms.{Column}
use Rattle.whole_math.specs.Vectors.{len, dot}

abbrev pub nearest_each : ℕ → List ℤ → List ℤ
nearest_each m [] = []
nearest_each m (y ∷ r) = nearest_div y m ∷ nearest_each m r

-- the form over m: the others to the nearest, the own entries down and less n
abbrev pub rounded : ℕ → ℤ → List Column → List Column
rounded m n [] = []
rounded m n (c ∷ b) = record { own = floor_div c.own m -ℤ n; others = nearest_each m c.others } ∷ rounded m n b

-- the factors of a column with the own entry a, in units of 2^-30
abbrev pub factors : ℕ → List ℤ → List ℤ
factors a [] = []
factors a (y ∷ r) = nearest_div (y *ℤ pos (2 ^ 30)) a ∷ factors a r

-- what is kept of the own entry a
abbrev pub kept : ℕ → ℤ
kept a = pos a -ℤ ceil_div (pos a) (2 ^ 20)

-- a later column's others, where p is its entry with the column that goes and r are those of the columns after it
abbrev pub others_after : ℕ → ℤ → List ℤ → List ℤ → List ℤ
others_after a p [] t = []
others_after a p (y ∷ r) [] = []
others_after a p (y ∷ r) (z ∷ t) = (z -ℤ nearest_div (p *ℤ y) a) ∷ others_after a p r t

-- the form that is left, where a column with own entry a and others r goes that has n columns after it
abbrev pub next : ℕ → ℤ → List ℤ → List Column → List Column
next a n [] m = []
next a n (p ∷ r) [] = []
next a n (p ∷ r) (c ∷ m) =
    record { own = c.own -ℤ ceil_div (p *ℤ p) a -ℤ n -ℤ ceil_div (n *ℤ pos a) (2 ^ 42); others = others_after a p r c.others } ∷ next a n r m

pub record Factor : Type 0 where
  pub d : ℤ
  pub l : List ℤ

-- the least sum that the factors give at x, in units of 2^-60
abbrev pub squares : List Factor → List ℤ → ℤ
squares [] x = pos 0
squares (f ∷ fs) [] = pos 0
squares (f ∷ fs) (x ∷ v) = f.d *ℤ ((pos (2 ^ 30) *ℤ x +ℤ dot f.l v) *ℤ (pos (2 ^ 30) *ℤ x +ℤ dot f.l v)) +ℤ squares fs v

pub data Refusal : Type 0 where
  -- the column and its own entry
  weak : ℕ → ℤ → Refusal
  wide_factor : Refusal
  wide_entry : Refusal

-- what one step gives: its factor and the form that is left, or why it is refused
abbrev pub StepAnswer : Type 0
StepAnswer = Result (Factor × List Column) Refusal

-- what steps give: their factors in order and the form that is left, or why the first that is refused is
abbrev pub StepsAnswer : Type 0
StepsAnswer = Result (List Factor × List Column) Refusal

abbrev pub all_small : List ℤ → Bool
all_small [] = true
all_small (y ∷ r) = nat_lt (unsigned_abs y) (2 ^ 52) && all_small r

abbrev pub form_small : List Column → Bool
form_small [] = true
form_small (c ∷ a) = nat_lt (unsigned_abs c.own) (2 ^ 52) && (all_small c.others && form_small a)

-- one step takes the first column, the j-th of all
abbrev pub step : ℕ → Column → List Column → StepAnswer
step j c m =
    let a : ℕ = unsigned_abs c.own in
    let l : List ℤ = factors a c.others in
    let rest : List Column = next a (len c.others) c.others m in
    elim (int_lt c.own (pos (2 ^ 20))) [
      | true ↦ Err (weak j c.own)
      | false ↦ elim (all_small l) [
        | false ↦ Err wide_factor
        | true ↦ elim (form_small rest) [ false ↦ Err wide_entry | true ↦ Ok (record { d = kept a; l = l }, rest) ]
      ]
    ]

abbrev pub with_factor : Factor → StepsAnswer → StepsAnswer
with_factor f (Ok p) = Ok (f ∷ p.0, p.1)
with_factor f (Err e) = Err e

-- k steps: the factors in order and the form that is left, or the first refusal
abbrev pub steps : ℕ → ℕ → List Column → StepsAnswer
steps j zero a = Ok ([], a)
steps j (suc k) [] = Ok ([], [])
steps j (suc k) (c ∷ m) = elim (step j c m) [ Ok p ↦ with_factor p.0 (steps (suc j) k p.1) | Err e ↦ Err e ]
