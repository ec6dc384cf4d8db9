-- Rows have one normal matrix, and so one front and one elimination over the least power of 2 that serves.
use Rattle.std.proofs.Common.{◌≡◌, ◌-◌, ◌^◌, ℕ, ℤ, pos, true, false, List, Result, Err, sym, ap, ◌∙◌, subst}
use Rattle.quadratic_form.specs.Forms.{Column}
use Rattle.quadratic_form.specs.Elimination.{Factor, Refusal, wide_entry, form_small, steps, rounded}
use Rattle.quadratic_form.specs.Rows.{bounding_form}
use Rattle.quadratic_form.specs.Lowering.{IsExponent}
use Rattle.quadratic_form.specs.Places.{form_from}
use Rattle.obs_rows.specs.declared.arcs.Arc.{Arc}
use Rattle.obs_rows.specs.declared.pair_rows.PairRows.{PairRows}
use Rattle.quadratic_form.specs.Tables.{entry}
use Rattle.normal_sum.specs.declared.normal.Normal.{Normal}
use Rattle.normal_sum.specs.Normals.{IsNormalOf}
use Rattle.normal_sum.specs.Values.{form_of, radii_from}
use Rattle.lower_form.specs.Forms.{elimination_of}
use Rattle.lower_form.specs.Fronts.{front_of}
use Rattle.lower_form.proofs.Exponents.{exponent_unique}

pub record SameNormal (n m : Normal) : Type 0 where
  pub columns : n.columns ≡ m.columns
  pub form : form_of n ≡ form_of m
  pub radii : n.r ≡ m.r

pub same_normal : (arcs : List Arc) (ss : List ℕ) (pairs : List PairRows) (n m : Normal) → IsNormalOf arcs ss pairs n → IsNormalOf arcs ss pairs m → SameNormal n m
same_normal arcs ss pairs n m a b =
    let columns = a.columns ∙ sym b.columns in
    let each : (i j : ℕ) → entry n.c i j ≡ entry m.c i j = λ i j. a.entries i j ∙ sym (b.entries i j) in
    record { columns = columns; form = (λ t. form_from (λ i j. each i j t) 0 (columns t)); radii = a.radii ∙ sym b.radii }

abbrev elimination_by : ℕ → ℕ → List Column → List ℤ → Result (List Factor × List Column) Refusal
elimination_by h columns form r =
    let rounded_form : List Column = rounded (2 ^ h) (pos columns) (bounding_form (columns - 4) form (radii_from r)) in
    elim (form_small rounded_form) [ true ↦ steps 0 (columns - 1) rounded_form | false ↦ Err wide_entry ]

abbrev front_by : ℕ → ℕ → List Column → List ℤ → Result (List Factor × List Column) Refusal
front_by h columns form r =
    let rounded_form : List Column = rounded (2 ^ h) (pos columns) (bounding_form (columns - 4) form (radii_from r)) in
    elim (form_small rounded_form) [ true ↦ steps 0 3 rounded_form | false ↦ Err wide_entry ]

pub same_elimination : (h : ℕ) (n m : Normal) → SameNormal n m → elimination_of h n ≡ elimination_of h m
same_elimination h n m same = λ t. elimination_by h (same.columns t) (same.form t) (same.radii t)

pub same_front : (h : ℕ) (n m : Normal) → SameNormal n m → front_of h n ≡ front_of h m
same_front h n m same = λ t. front_by h (same.columns t) (same.form t) (same.radii t)

-- two eliminations of the rows, over the powers of 2 that serve
pub one_elimination : (arcs : List Arc) (ss : List ℕ) (pairs : List PairRows) (n m : Normal) (h k : ℕ) → IsNormalOf arcs ss pairs n → IsNormalOf arcs ss pairs m →
    IsExponent h (form_of n) → IsExponent k (form_of m) → elimination_of h n ≡ elimination_of k m
one_elimination arcs ss pairs n m h k a b serves serves_too =
    let same = same_normal arcs ss pairs n m a b in
    let exponent : h ≡ k = exponent_unique h k (form_of n) serves (subst (λ (f : List Column). IsExponent k f) (sym same.form) serves_too) in
    same_elimination h n m same ∙ ap (λ (e : ℕ). elimination_of e m) exponent

pub one_exponent : (arcs : List Arc) (ss : List ℕ) (pairs : List PairRows) (n m : Normal) (h : ℕ) → IsNormalOf arcs ss pairs n → IsNormalOf arcs ss pairs m →
    IsExponent h (form_of n) → IsExponent h (form_of m)
one_exponent arcs ss pairs n m h a b serves = subst (λ (f : List Column). IsExponent h f) ((same_normal arcs ss pairs n m a b).form) serves
