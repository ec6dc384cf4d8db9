-- The two least under a map that has an inverse are the two least.
use Rattle.std.proofs.Common.{◌≡◌, List, ℤ, sym, ap, ◌∙◌, subst}
use Rattle.quadratic_form.specs.Forms.{Column}
use Rattle.quadratic_form.specs.TwoLeast.{Less, TwoLeast}
use Rattle.quadratic_form.specs.Maps.{apply, Inverse}
use Rattle.quadratic_form.proofs.Maps.{len_apply}
use Rattle.whole_math.specs.Vectors.{len}

-- the two least by the values and entries of their images
pub record TwoLeastUnder (p : List Column) (n : ℤ) (m : List (List ℤ)) (w1 w2 : List ℤ) : Type 0 where
  pub first : len w1 ≡ n
  pub second : len w2 ≡ n
  pub differ : w1 ≡ w2 → ⊥
  pub order : Less p (apply m w1) (apply m w2)
  pub rest : (v : List ℤ) → len v ≡ n → (v ≡ w1 → ⊥) → (v ≡ w2 → ⊥) → Less p (apply m w2) (apply m v)

pub carried : (p : List Column) (n : ℤ) (map back : List (List ℤ)) (w1 w2 : List ℤ) → Inverse n map back → TwoLeastUnder p n map w1 w2 → TwoLeast p n (apply map w1) (apply map w2)
carried p n map back w1 w2 i t = record {
  first = len_apply map w1 ∙ i.map_rows;
  second = len_apply map w2 ∙ i.map_rows;
  differ = λ (e : apply map w1 ≡ apply map w2). t.differ (sym (i.one_to_one w1 t.first) ∙ ap (apply back) e ∙ i.one_to_one w2 t.second);
  order = t.order;
  rest = λ (v : List ℤ) (e : len v ≡ n) (d : v ≡ apply map w1 → ⊥) (f : v ≡ apply map w2 → ⊥).
      subst (λ (u : List ℤ). Less p (apply map w2) u) (i.onto v e)
      (t.rest (apply back v) (len_apply back v ∙ i.back_rows)
      (λ (k : apply back v ≡ w1). d (sym (i.onto v e) ∙ ap (apply map) k))
      (λ (k : apply back v ≡ w2). f (sym (i.onto v e) ∙ ap (apply map) k)));
}
