-- Suffixes of an integer vector, and their lower sums. The first entry of a suffix is that of its earliest integer.
use Rattle.std.specs.Prelude.{◌≡◌, ℕ, ◌-◌, ◌<◌, ◌^◌, List, [], ◌∷◌, ◌++◌, length, drop, slice_index_or, ℤ, pos, ◌+ℤ◌, ◌*ℤ◌, ◌≤ℤ◌, unsigned_abs, All}
use Rattle.whole_math.specs.Vectors.{dot}
use Rattle.quadratic_form.specs.Forms.{Column}
use Rattle.quadratic_form.specs.Elimination.{Factor}
use Rattle.quadratic_form.specs.Rows.{value}
use Rattle.quadratic_form.specs.LowerSums.{lower_sum}

-- what a search reads of a form p of some integers and the constant: a factor for each integer, and the entry g that the elimination leaves of the constant
pub record SearchForm : Type 0 where
  pub size : ℕ
  pub factors : List Factor
  pub g : ℤ
  pub p : List Column

abbrev pub no_factor : Factor
no_factor = record { d = pos 0; l = [] }

-- the factor of the integer before the suffix s
abbrev pub factor_before : SearchForm → List ℤ → Factor
factor_before f s = slice_index_or f.factors (f.size - 1 - length s) no_factor

-- d of the integer before the suffix s
unfoldable pub weight : SearchForm → List ℤ → ℤ
weight f s = (factor_before f s).d

-- Σ l·s and the constant's l, for the integer before the suffix s
unfoldable pub rest : SearchForm → List ℤ → ℤ
rest f s = dot (factor_before f s).l (s ++ pos 1 ∷ [])

-- 2^30 times the distance of x from the centre that the entries s after it give
unfoldable pub offset : SearchForm → ℤ → List ℤ → ℤ
offset f x s = (pos (2 ^ 30) *ℤ x) +ℤ rest f s

-- the lower sum of a suffix: 2^60 g + Σ d·offset² over its integers
unfoldable pub low : SearchForm → List ℤ → ℤ
low f s = lower_sum f.g (drop (f.size - length s) f.factors) s

-- what a search relies on
pub record IsSearchable (f : SearchForm) : Type 0 where
  pub some : 0 < f.size
  pub each : length f.factors ≡ f.size
  pub weights_from : All (λ a. pos 1 ≤ℤ a.d) f.factors
  pub weights_to : All (λ a. a.d ≤ℤ pos (2 ^ 52)) f.factors
  pub g_in : unsigned_abs f.g < 2 ^ 52
  pub below : (z : List ℤ) → length z ≡ f.size → low f z ≤ℤ (pos (2 ^ 60) *ℤ value f.p z)
