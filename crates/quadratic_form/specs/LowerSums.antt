-- The lower sums of the search over integer vectors.
use Rattle.std.specs.Prelude.{◌^◌, List, [], ◌∷◌, ◌++◌, ℤ, pos, ◌+ℤ◌, ◌*ℤ◌, neg_ℤ, ◌<ℤ◌}
use Rattle.quadratic_form.specs.Forms.{Column}
use Rattle.quadratic_form.specs.Elimination.{Factor}
use Rattle.whole_math.specs.Vectors.{dot}

-- 2^30 times the distance of x from the centre that the later entries give
abbrev pub offset : Factor → ℤ → List ℤ → ℤ
offset f x s = pos (2 ^ 30) *ℤ x +ℤ dot f.l (s ++ (pos 1 ∷ []))

-- the lower sum of the entries s, which belong to these factors, over the last entry g
abbrev pub lower_sum : ℤ → List Factor → List ℤ → ℤ
lower_sum g [] s = pos (2 ^ 60) *ℤ g
lower_sum g (f ∷ fs) [] = pos (2 ^ 60) *ℤ g
lower_sum g (f ∷ fs) (x ∷ s) = lower_sum g fs s +ℤ f.d *ℤ (offset f x s *ℤ offset f x s)

-- each entry is below 2^52 in size
abbrev pub Small : ℤ → Type 0
Small x = (neg_ℤ (pos (2 ^ 52)) <ℤ x) × (x <ℤ pos (2 ^ 52))

abbrev pub SmallList : List ℤ → Type 0
SmallList [] = Unit {0}
SmallList (x ∷ s) = Small x × SmallList s

abbrev pub SmallForm : List Column → Type 0
SmallForm [] = Unit {0}
SmallForm (c ∷ a) = Small c.own × SmallList c.others × SmallForm a
