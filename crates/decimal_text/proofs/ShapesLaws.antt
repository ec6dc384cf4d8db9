-- A text stops being of a form at one place at most, and never where it is of it.
use Rattle.std.proofs.Common.{◌≡◌, ℕ, ◌+◌, ◌<◌, List, [], ◌∷◌, ◌++◌, length, refl, sym, ap, subst, length-append, ◌∙◌, inl, inr, arith}
use Rattle.std.proofs.lemmas.List.{append_assoc, append-nil}
use Rattle.std.proofs.lemmas.Bool.{cases_order}
use Rattle.decimal_text.specs.Shapes.{Begins, IsStuck, FailsFirst}

pub one_more : (front : List ℕ) (b : ℕ) (further : List ℕ) → (front ++ b ∷ []) ++ further ≡ front ++ b ∷ further
one_more front b further = append_assoc front (b ∷ []) further

-- two splits of one text, the second after the first
record IsLonger (r f₂ f₁ : List ℕ) : Type 0 where
  byte : ℕ
  rest : List ℕ
  more : List ℕ
  rest_is : r ≡ byte ∷ rest
  front_is : f₂ ≡ (f₁ ++ byte ∷ []) ++ more

longer : (f₁ r₁ f₂ r₂ : List ℕ) → f₁ ++ r₁ ≡ f₂ ++ r₂ → length f₁ < length f₂ → IsLonger r₁ f₂ f₁
longer [] r₁ [] r₂ same less = absurd (omega arith)
longer [] r₁ (c ∷ cs) r₂ same less = record { byte = c; rest = cs ++ r₂; more = cs; rest_is = same; front_is = refl }
longer (a ∷ rest) r₁ [] r₂ same less = absurd (omega arith)
longer (a ∷ rest) r₁ (c ∷ cs) r₂ same less =
    let head : a ≡ c = cc in
    let tail : rest ++ r₁ ≡ cs ++ r₂ = cc in
    let is_longer = longer rest r₁ cs r₂ tail (omega arith) in
    record { byte = is_longer.byte; rest = is_longer.rest; more = is_longer.more; rest_is = is_longer.rest_is; front_is = cc (is_longer.front_is) }

module _ (Is : List ℕ → Type 0) where
  -- what begins a longer front begins it
  pub begins-front : (xs ys : List ℕ) → Begins Is (xs ++ ys) → Begins Is xs
  begins-front xs ys b = record { further = ys ++ b.further; whole = subst Is (append_assoc xs ys b.further) b.whole }

  stuck_not : (front rest : List ℕ) → IsStuck Is front rest → Is (front ++ rest) → ⊥
  stuck_not front [] stuck is = stuck (subst Is (append-nil front) is)
  stuck_not front (b ∷ bs) stuck is = stuck (record { further = bs; whole = subst Is (sym (one_more front b bs)) is })

  -- a text of the form fails nowhere
  pub fails_not : (text : List ℕ) (at : ℕ) → FailsFirst Is text at → Is text → ⊥
  fails_not text at f is = stuck_not f.front f.rest f.stuck (subst Is f.text_is is)

  not_before : (text : List ℕ) (i j : ℕ) → FailsFirst Is text i → FailsFirst Is text j → i < j → ⊥
  not_before text i j f g less =
      let is_longer = longer f.front f.rest g.front g.rest (sym f.text_is ∙ g.text_is) (omega (arith, f.at_is, g.at_is)) in
      subst (λ r. IsStuck Is f.front r) is_longer.rest_is f.stuck (begins-front (f.front ++ is_longer.byte ∷ []) is_longer.more (subst (Begins Is) is_longer.front_is g.begun))

  -- and another fails at one place
  pub fails_once : (text : List ℕ) (i j : ℕ) → FailsFirst Is text i → FailsFirst Is text j → i ≡ j
  fails_once text i j f g = elim (cases_order i j) [ inl same ↦ same | inr other ↦ elim other [ inl less ↦ absurd (not_before text i j f g less) | inr more ↦ absurd (not_before text j i g f more) ] ]

-- the form B is these bytes and then the form A
module _ (A B : List ℕ → Type 0) (pre : List ℕ) (to : (t : List ℕ) → A t → B (pre ++ t)) (back : (t : List ℕ) → B (pre ++ t) → A t) where
  begins-to : (front : List ℕ) → Begins A front → Begins B (pre ++ front)
  begins-to front b = record { further = b.further; whole = subst B (sym (append_assoc pre front b.further)) (to (front ++ b.further) b.whole) }

  begins-back : (front : List ℕ) → Begins B (pre ++ front) → Begins A front
  begins-back front b = record { further = b.further; whole = back (front ++ b.further) (subst B (append_assoc pre front b.further) b.whole) }

  stuck-to : (front rest : List ℕ) → IsStuck A front rest → IsStuck B (pre ++ front) rest
  stuck-to front [] stuck = λ is. stuck (back front is)
  stuck-to front (b ∷ bs) stuck = λ begun. stuck (begins-back (front ++ b ∷ []) (subst (Begins B) (append_assoc pre front (b ∷ [])) begun))

  -- so it fails as much later
  pub fails_behind : (text : List ℕ) (at : ℕ) → FailsFirst A text at → FailsFirst B (pre ++ text) (length pre + at)
  fails_behind text at f = record {
    front = pre ++ f.front;
    rest = f.rest;
    text_is = ap (λ t. pre ++ t) f.text_is ∙ sym (append_assoc pre f.front f.rest);
    at_is = ap (λ n. length pre + n) f.at_is ∙ sym (length-append pre f.front);
    begun = begins-to f.front f.begun;
    stuck = stuck-to f.front f.rest f.stuck;
  }

-- two forms that agree on the texts with this first byte
module _ (A B : List ℕ → Type 0) (b : ℕ) (to : (t : List ℕ) → A t → B t) (back : (t : List ℕ) → B (b ∷ t) → A (b ∷ t)) where
  alike-back : (front : List ℕ) → Begins B (b ∷ front) → Begins A (b ∷ front)
  alike-back front begun = record { further = begun.further; whole = back (front ++ begun.further) begun.whole }

  alike-stuck : (front rest bs : List ℕ) → front ++ rest ≡ b ∷ bs → IsStuck A front rest → IsStuck B front rest
  alike-stuck [] [] bs is stuck = absurd cc
  alike-stuck [] (c ∷ cs) bs is stuck =
      let same : b ≡ c = cc in
      λ begun. stuck (subst (λ x. Begins A (x ∷ [])) same (alike-back [] (subst (λ x. Begins B (x ∷ [])) (sym same) begun)))
  alike-stuck (f ∷ fs) [] bs is stuck =
      let same : b ≡ f = cc in
      λ whole. stuck (subst (λ x. A (x ∷ fs)) same (back fs (subst (λ x. B (x ∷ fs)) (sym same) whole)))
  alike-stuck (f ∷ fs) (c ∷ cs) bs is stuck =
      let same : b ≡ f = cc in
      λ begun. stuck (subst (λ x. Begins A (x ∷ (fs ++ c ∷ []))) same (alike-back (fs ++ c ∷ []) (subst (λ x. Begins B (x ∷ (fs ++ c ∷ []))) (sym same) begun)))

  -- fail alike
  pub fails_alike : (bs : List ℕ) (at : ℕ) → FailsFirst A (b ∷ bs) at → FailsFirst B (b ∷ bs) at
  fails_alike bs at f = record {
    front = f.front;
    rest = f.rest;
    text_is = f.text_is;
    at_is = f.at_is;
    begun = record { further = f.begun.further; whole = to (f.front ++ f.begun.further) f.begun.whole };
    stuck = alike-stuck f.front f.rest bs (sym f.text_is) f.stuck;
  }
