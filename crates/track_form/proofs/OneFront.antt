-- The rows of a pair have one front.
use Rattle.std.proofs.Common.{◌≡◌, ℕ, ◌-◌, Ok, List, [], ◌∷◌, sym, ap, ◌∙◌, subst}
use Rattle.quadratic_form.specs.Forms.{Column}
use Rattle.quadratic_form.specs.Elimination.{Factor}
use Rattle.quadratic_form.specs.Lowering.{IsExponent}
use Rattle.obs_rows.specs.declared.arcs.Arc.{Arc}
use Rattle.obs_rows.specs.declared.pair_rows.PairRows.{PairRows}
use Rattle.normal_sum.specs.Values.{form_of}
use Rattle.integer_form.specs.declared.front_form.FrontForm.{FrontForm}
use Rattle.integer_form.specs.declared.faults.LowerFault.{LowerFault}
use Rattle.integer_form.specs.Factors.{stored}
use Rattle.integer_form.specs.Kept.{form_of_table}
use Rattle.lower_form.specs.Fronts.{front_of}
use Rattle.lower_form.proofs.Exponents.{exponent_unique}
use Rattle.lower_form.proofs.OneForm.{same_normal, same_front, one_exponent}
use Rattle.track_form.specs.PairFronts.{IsFrontOfPair, IsRefusedPair}

pub record SameFront (f g : FrontForm) : Type 0 where
  pub h : f.h ≡ g.h
  pub columns : f.columns ≡ g.columns
  pub baseline : stored f.d f.l f.columns 0 3 ≡ stored g.d g.l g.columns 0 3
  pub form : form_of_table f.p (f.columns - 3) ≡ form_of_table g.p (g.columns - 3)

pub one_front : (arcs : List Arc) (ss : List ℕ) (p : PairRows) (f g : FrontForm) → IsFrontOfPair arcs ss p f → IsFrontOfPair arcs ss p g → SameFront f g
one_front arcs ss p f g a b =
    let left_normal = a.normal in
    let right_normal = b.normal in
    let same = same_normal arcs ss (p ∷ []) left_normal right_normal a.of_rows b.of_rows in
    let same_exponent : f.h ≡ g.h = exponent_unique f.h g.h (form_of left_normal) a.front.exponent (subst (λ (c : List Column). IsExponent g.h c) (sym same.form) b.front.exponent) in
    let taken : Ok (stored f.d f.l f.columns 0 3, form_of_table f.p (f.columns - 3)) ≡ Ok (stored g.d g.l g.columns 0 3, form_of_table g.p (g.columns - 3)) =
    sym a.front.taken ∙ same_front f.h left_normal right_normal same ∙ ap (λ (e : ℕ). front_of e right_normal) same_exponent ∙ b.front.taken in
    let pair : (stored f.d f.l f.columns 0 3, form_of_table f.p (f.columns - 3)) ≡ (stored g.d g.l g.columns 0 3, form_of_table g.p (g.columns - 3)) = cc in
    record {
      h = same_exponent;
      columns = a.front.columns ∙ same.columns ∙ sym b.front.columns;
      baseline = ap (λ (q : List Factor × List Column). q.0) pair;
      form = ap (λ (q : List Factor × List Column). q.1) pair;
    }

-- a pair that is refused has none
pub no_front : (arcs : List Arc) (ss : List ℕ) (p : PairRows) (why : LowerFault) (f : FrontForm) → IsRefusedPair arcs ss p why → IsFrontOfPair arcs ss p f → ⊥
no_front arcs ss p why f a b =
    let same = same_normal arcs ss (p ∷ []) b.normal a.normal b.of_rows a.of_rows in
    let same_exponent : f.h ≡ a.h = exponent_unique f.h a.h (form_of a.normal) (one_exponent arcs ss (p ∷ []) b.normal a.normal f.h b.of_rows a.of_rows b.front.exponent) a.exponent in
    let whole = same_front f.h b.normal a.normal same ∙ ap (λ (e : ℕ). front_of e a.normal) same_exponent in
    absurd (cc (a.reported.1.0, whole, b.front.taken))
