-- Two vectors with their values are the same where their lines are.
use Rattle.std.proofs.Common.{◌≡◌, ◌≤◌, ℕ, ℤ, pos, List, [], ◌∷◌, length, take, get_or, codes, refl, ap, subst, arith, sym, ◌∙◌, inl, inr}
use mathlib.Core.HLevel.{is_prop→PathP}
use Rattle.std.proofs.lemmas.List.{length-take-le, get_or-take, ext_get_or}
use Rattle.std.proofs.Props.{props}
use Rattle.std.proofs.lemmas.Bool.{cases_lt}
use Rattle.std.proofs.Math.Bridge.{le_prop}
use Rattle.obs_rows.specs.declared.arcs.Arc.{Arc}
use Rattle.int_search.specs.declared.answer.TwoBest.{TwoBest}
use Rattle.cert_lines.specs.Lines.{vector_line, values_line}
use Rattle.cert_lines.proofs.Sizes.{entries_small, values_small}
use Rattle.quadratic_form.specs.declared.sizes.TheConstants.{MOST_INTEGERS}
use Rattle.integer_form.specs.Kept.{IsZeroFrom}
use Rattle.cert_lines.proofs.SameLines.{cons_same, numbers_same}
use Rattle.cert_data.specs.Tails.{AreValues}

pub zero_prop : (n : ℕ) (z : List ℤ) → IsProp (IsZeroFrom n z)
zero_prop n z = Prim.hlevel props

pub best_same : (a b : TwoBest) → a.first ≡ b.first → a.second ≡ b.second → a.p1 ≡ b.p1 → a.p2 ≡ b.p2 → a.size ≡ b.size → a ≡ b
best_same a b first second p1 p2 size = λ i. record {
  first = first i;
  second = second i;
  p1 = p1 i;
  p2 = p2 i;
  size = size i;
  size_to = is_prop→PathP (λ j. size j ≤ MOST_INTEGERS) (λ j. le_prop) a.size_to b.size_to i;
  first_rest = is_prop→PathP (λ j. IsZeroFrom (size j) (first j)) (λ j. zero_prop (size j) (first j)) a.first_rest b.first_rest i;
  second_rest = is_prop→PathP (λ j. IsZeroFrom (size j) (second j)) (λ j. zero_prop (size j) (second j)) a.second_rest b.second_rest i;
}

array_same : (n : ℕ) (a b : List ℤ) → length a ≡ length b → take n a ≡ take n b → IsZeroFrom n a → IsZeroFrom n b → a ≡ b
array_same n a b l e za zb =
    ext_get_or (pos 0) a b l (λ i inside. elim (cases_lt i n) [
      | inl p ↦ sym (get_or-take n a i (pos 0) p) ∙ ap (λ (x : List ℤ). get_or x i (pos 0)) e
          ∙ get_or-take n b i (pos 0) p
      | inr p ↦ za i p ∙ sym (zb i p)
    ])

-- two vectors with their values and the upper sum, by their lines
pub bests_same : (ss : List ℕ) (arcs : List Arc) (h h' : ℕ) (best best' : TwoBest) (top top' : ℤ) → AreValues ss arcs h best top → AreValues ss arcs h' best' top'
    → length best.first ≡ MOST_INTEGERS → length best.second ≡ MOST_INTEGERS → length best'.first ≡ MOST_INTEGERS → length best'.second ≡ MOST_INTEGERS
    → vector_line (codes "z1") (take best.size best.first) ≡ vector_line (codes "z1") (take best'.size best'.first)
    → vector_line (codes "z2") (take best.size best.second) ≡ vector_line (codes "z2") (take best'.size best'.second)
    → values_line h best.p1 best.p2 top ≡ values_line h' best'.p1 best'.p2 top' → (h ≡ h') × (best ≡ best') × (top ≡ top')
bests_same ss arcs h h' best best' top top' va vb w1 w2 w1' w2' line1 line2 line3 =
    let best_size = best.size in
    let size : best.size ≡ best'.size = va.size ∙ sym vb.size in
    let long : length (take best.size best.first) ≡ best_size = length-take-le best.size best.first (omega (arith, best.size_to, w1)) in
    let long' : length (take best'.size best'.first) ≡ best_size = length-take-le best'.size best'.first (omega (arith, best'.size_to, w1')) ∙ sym size in
    let long2 : length (take best.size best.second) ≡ best_size = length-take-le best.size best.second (omega (arith, best.size_to, w2)) in
    let long2' : length (take best'.size best'.second) ≡ best_size = length-take-le best'.size best'.second (omega (arith, best'.size_to, w2')) ∙ sym size in
    let first_same = numbers_same (codes "z1") best_size (take best.size best.first) (take best'.size best'.first) long long' (entries_small best.size best.first va.first_in)
    (entries_small best'.size best'.first vb.first_in) line1 in
    let second_same = numbers_same (codes "z2") best_size (take best.size best.second) (take best'.size best'.second) long2 long2' (entries_small best.size best.second va.second_in)
    (entries_small best'.size best'.second vb.second_in) line2 in
    let values = numbers_same (codes "values") 4 (pos h ∷ best.p1 ∷ best.p2 ∷ top ∷ []) (pos h' ∷ best'.p1 ∷ best'.p2 ∷ top' ∷ []) refl refl
    (values_small h best.p1 best.p2 top va.h_to va.p1_in va.p2_in va.top_in) (values_small h' best'.p1 best'.p2 top' vb.h_to vb.p1_in vb.p2_in vb.top_in) line3 in
    let exponents_same = cons_same _ _ _ _ values in
    let first_values_same = cons_same _ _ _ _ exponents_same.1 in
    let second_values_same = cons_same _ _ _ _ first_values_same.1 in
    let tops_same = cons_same _ _ _ _ second_values_same.1 in
    let same_exponent : pos h ≡ pos h' = exponents_same.0 in
    let first = array_same best_size best.first best'.first (w1 ∙ sym w1') (first_same ∙ ap (λ (k : ℕ). take k best'.first) (sym size)) best.first_rest
    (subst (λ (k : ℕ). IsZeroFrom k best'.first) (sym size) best'.first_rest) in
    let second = array_same best_size best.second best'.second (w2 ∙ sym w2') (second_same ∙ ap (λ (k : ℕ). take k best'.second) (sym size)) best.second_rest
    (subst (λ (k : ℕ). IsZeroFrom k best'.second) (sym size) best'.second_rest) in
    let h_same : h ≡ h' = cc in
    (h_same, best_same best best' first second first_values_same.0 second_values_same.0 size, tops_same.0)
