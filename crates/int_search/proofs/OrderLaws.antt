-- The order of vectors is a chain, and what an offered vector does to the two best.
use Rattle.std.proofs.Common.{◌≡◌, inl, inr, List, ℤ, ◌<ℤ◌, ◌≤ℤ◌, arith, sym, ◌∙◌, subst}
use Rattle.whole_math.proofs.Order.{lins}
use Rattle.whole_math.proofs.Inequalities.{weak, le_eq}
use Rattle.quadratic_form.specs.Rows.{value}
use Rattle.quadratic_form.proofs.VectorOrder.{before_chain, before_never, chain}
use Rattle.int_search.specs.Suffixes.{SearchForm}
use Rattle.int_search.specs.Order.{IsLess}
use Rattle.int_search.specs.Search.{IsSettled}

pub less_chain : (f : SearchForm) (m : List ℤ → List ℤ) (u v w : List ℤ) → IsLess f m u v → IsLess f m v w → IsLess f m u w
less_chain f m u v w (inl h) (inl k) = inl (chain (value f.p u) (value f.p v) (value f.p w) h k)
less_chain f m u v w (inl h) (inr k) = inl (subst (λ (t : ℤ). value f.p u <ℤ t) k.0 h)
less_chain f m u v w (inr h) (inl k) = inl (subst (λ (t : ℤ). t <ℤ value f.p w) (sym h.0) k)
less_chain f m u v w (inr h) (inr k) = inr (h.0 ∙ k.0, before_chain (m u) (m v) (m w) h.1 k.1)

pub less_le : (f : SearchForm) (m : List ℤ → List ℤ) (v w : List ℤ) → IsLess f m v w → value f.p v ≤ℤ value f.p w
less_le f m v w (inl h) = weak h
less_le f m v w (inr h) = le_eq h.0

pub less_apart : (f : SearchForm) (m : List ℤ → List ℤ) (v w : List ℤ) → IsLess f m v w → v ≡ w → ⊥
less_apart f m v w h e = never (subst (λ (u : List ℤ). IsLess f m v u) (sym e) h)
  where
    itself : (a : ℤ) → a <ℤ a → ⊥
    itself a h = omega (arith, lins)

    never : IsLess f m v v → ⊥
    never (inl h) = itself (value f.p v) h
    never (inr h) = before_never (m v) h.1

-- ---- an offered vector z takes its place
-- before the first
pub settled_first : (f : SearchForm) (m : List ℤ → List ℤ) (one two z v : List ℤ) → IsLess f m one two → IsSettled f m one two v → IsSettled f m z one v
settled_first f m one two z v o (inl e) = inr (inl e)
settled_first f m one two z v o (inr (inl e)) = inr (inr (subst (λ (w : List ℤ). IsLess f m one w) (sym e) o))
settled_first f m one two z v o (inr (inr k)) = inr (inr (less_chain f m one two v o k))

-- between the two
pub settled_second : (f : SearchForm) (m : List ℤ → List ℤ) (one two z v : List ℤ) → IsLess f m z two → IsSettled f m one two v → IsSettled f m one z v
settled_second f m one two z v h (inl e) = inl e
settled_second f m one two z v h (inr (inl e)) = inr (inr (subst (λ (w : List ℤ). IsLess f m z w) (sym e) h))
settled_second f m one two z v h (inr (inr k)) = inr (inr (less_chain f m z two v h k))
