-- Rows that are wide for a signal, and rows that are not.
use Rattle.std.proofs.Common.{ℕ, ◌^◌, ◌<◌, List, length, map, ℤ, pos, ◌≤ℤ◌, ◌<ℤ◌, Result, Ok, Err, OnErr, get_or, arith, sym, ap, ◌∙◌, subst, All, Any}
use Rattle.std.proofs.lemmas.List.{length-map, get_or-map, get_or_default}
use Rattle.whole_math.proofs.Order.{lins}
use Rattle.fix_decide.specs.declared.reaches.ResidualBox.{ResidualBox}
use Rattle.fix_decide.specs.Reaches.{extent, IsNarrow}

-- on an error and everywhere
pub on_err : {A E P : Type 0} → (r : Result A E) → P → OnErr r P
on_err (Ok x) p = tt
on_err (Err e) p = p

-- where all are narrow none is wide
pub narrow_not_wide : {R : Type 0} (f : R → ResidualBox) (rows : List R) → All IsNarrow (map f rows) → Any (λ r. pos (2 ^ 33) ≤ℤ extent (f r)) rows → ⊥
narrow_not_wide f rows h (k, x, inside, is, wide) =
    let place_within : k < length (map f rows) = subst (λ (n : ℕ). k < n) (sym (length-map rows f)) inside in
    let is_narrow : IsNarrow (f x) = subst IsNarrow (get_or-map f rows k x (f x) inside ∙ ap f is) (h k (f x) place_within) in
    apart (extent (f x)) is_narrow.below wide
  where
    apart : (e : ℤ) → e <ℤ pos (2 ^ 33) → pos (2 ^ 33) ≤ℤ e → ⊥
    apart e h g = omega (arith, lins)

-- what holds of no entry
pub none_of : (P : ℕ → Type 0) (xs : List ℕ) → ((j : ℕ) → j < length xs → P (get_or xs j 0) → ⊥) → Any P xs → ⊥
none_of P xs h (k, x, inside, is, p) = h k inside (subst P (sym is ∙ get_or_default xs k x 0 inside) p)
