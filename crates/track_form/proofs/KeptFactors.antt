-- What is kept of the fronts of pairs gives the same baselines as these.
use Rattle.std.proofs.Common.{◌≡◌, ℕ, zero, suc, ◌+◌, ◌<◌, List, [], ◌∷◌, length, map, get_or, All, Any, ℤ, arith, sym, ap, ap₂, ◌∙◌, refl, subst}
use Rattle.obs_rows.specs.declared.arcs.Arc.{Arc}
use Rattle.obs_rows.specs.declared.pair_rows.PairRows.{PairRows}
use Rattle.obs_rows.specs.Integers.{integer_count}
use Rattle.integer_form.specs.declared.front_form.FrontForm.{FrontForm}
use Rattle.integer_form.specs.FloatPoint.{baseline_at, HasWide}
use Rattle.track_form.specs.declared.factors.PairFactors.{PairFactors}
use Rattle.track_form.specs.PairFronts.{IsFrontOfPair, AreFronts, move_at}
use Rattle.track_form.specs.Factors.{move_by, AreOfPair, AreFactors}
use Rattle.track_form.proofs.FrontLists.{columns_of_front}
use Rattle.track_form.proofs.OneForm.{same_move}

-- the fronts that they are of
pub fronts_listed : (arcs : List Arc) (ss : List ℕ) (pairs : List PairRows) (ks : List PairFactors) → AreFactors arcs ss pairs ks → (fs : List FrontForm) × AreFronts arcs ss pairs fs
fronts_listed arcs ss [] [] a = ([], tt)
fronts_listed arcs ss [] (k ∷ ks) a = absurd a
fronts_listed arcs ss (p ∷ pairs) [] a = absurd a
fronts_listed arcs ss (p ∷ pairs) (k ∷ ks) a = let rest = fronts_listed arcs ss pairs ks a.1 in (a.0.front ∷ rest.0, (a.0.is, rest.1))

-- ---- their columns
one_columns : (arcs : List Arc) (ss : List ℕ) (p : PairRows) (k : PairFactors) → AreOfPair arcs ss p k → k.columns ≡ 4 + integer_count arcs ss
one_columns arcs ss p k a = a.columns ∙ columns_of_front arcs ss p a.front a.is

columns_at : (arcs : List Arc) (ss : List ℕ) (pairs : List PairRows) (ks : List PairFactors) → AreFactors arcs ss pairs ks → (i : ℕ) (d : PairFactors) → i < length ks →
    (get_or ks i d).columns ≡ 4 + integer_count arcs ss
columns_at arcs ss [] [] a i d l = absurd (omega (arith, l))
columns_at arcs ss [] (k ∷ ks) a i d l = absurd a
columns_at arcs ss (p ∷ pairs) [] a i d l = absurd a
columns_at arcs ss (p ∷ pairs) (k ∷ ks) a zero d l = one_columns arcs ss p k a.0
columns_at arcs ss (p ∷ pairs) (k ∷ ks) a (suc i) d l = columns_at arcs ss pairs ks a.1 i d (omega (arith, l))

pub columns_of_factors : (arcs : List Arc) (ss : List ℕ) (pairs : List PairRows) (ks : List PairFactors) → AreFactors arcs ss pairs ks → All (λ k. k.columns ≡ 4 + integer_count arcs ss) ks
columns_of_factors arcs ss pairs ks a = λ i d l. columns_at arcs ss pairs ks a i d l

-- ---- their baselines
one_move : (arcs : List Arc) (ss : List ℕ) (z : List ℤ) (p : PairRows) (k : PairFactors) (f : FrontForm) → AreOfPair arcs ss p k → IsFrontOfPair arcs ss p f → move_by z k ≡ move_at z f
one_move arcs ss z p k f a is = (λ t. baseline_at (a.d t) (a.l t) (a.columns t) z) ∙ same_move arcs ss p a.front f z a.is is

pub moves_are : (arcs : List Arc) (ss : List ℕ) (z : List ℤ) (pairs : List PairRows) (ks : List PairFactors) (fs : List FrontForm) → AreFactors arcs ss pairs ks → AreFronts arcs ss pairs fs →
    map (move_by z) ks ≡ map (move_at z) fs
moves_are arcs ss z [] [] [] a b = refl
moves_are arcs ss z [] [] (f ∷ fs) a b = absurd b
moves_are arcs ss z [] (k ∷ ks) fs a b = absurd a
moves_are arcs ss z (p ∷ pairs) [] fs a b = absurd a
moves_are arcs ss z (p ∷ pairs) (k ∷ ks) [] a b = absurd b
moves_are arcs ss z (p ∷ pairs) (k ∷ ks) (f ∷ fs) a b = ap₂ (λ (m : List ℤ) (ms : List (List ℤ)). m ∷ ms) (one_move arcs ss z p k f a.0 b.0) (moves_are arcs ss z pairs ks fs a.1 b.1)

-- one of them that is too wide
wide_at : (arcs : List Arc) (ss : List ℕ) (z : List ℤ) (pairs : List PairRows) (ks : List PairFactors) (fs : List FrontForm) → AreFactors arcs ss pairs ks → AreFronts arcs ss pairs fs →
    (i : ℕ) (k : PairFactors) → i < length ks → get_or ks i k ≡ k → HasWide (move_by z k) → Any (λ f. HasWide (move_at z f)) fs
wide_at arcs ss z [] [] fs a b i k l e h = absurd (omega (arith, l))
wide_at arcs ss z [] (j ∷ ks) fs a b i k l e h = absurd a
wide_at arcs ss z (p ∷ pairs) [] fs a b i k l e h = absurd a
wide_at arcs ss z (p ∷ pairs) (j ∷ ks) [] a b i k l e h = absurd b
wide_at arcs ss z (p ∷ pairs) (j ∷ ks) (f ∷ fs) a b zero k l e h = (0, f, omega arith, refl, subst HasWide (ap (λ (x : PairFactors). move_by z x) (sym e) ∙ one_move arcs ss z p j f a.0 b.0) h)
wide_at arcs ss z (p ∷ pairs) (j ∷ ks) (f ∷ fs) a b (suc i) k l e h =
    let is_wide = wide_at arcs ss z pairs ks fs a.1 b.1 i k (omega (arith, l)) e h in
    (suc is_wide.0, is_wide.1, omega (arith, is_wide.2), is_wide.3, is_wide.4)

pub wide_front : (arcs : List Arc) (ss : List ℕ) (z : List ℤ) (pairs : List PairRows) (ks : List PairFactors) (fs : List FrontForm) → AreFactors arcs ss pairs ks → AreFronts arcs ss pairs fs →
    Any (λ k. HasWide (move_by z k)) ks → Any (λ f. HasWide (move_at z f)) fs
wide_front arcs ss z pairs ks fs a b w = wide_at arcs ss z pairs ks fs a b w.0 w.1 w.2 w.3 w.4
