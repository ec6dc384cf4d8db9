-- The fronts of the single pairs as a list.
use Rattle.std.proofs.Common.{◌≡◌, ℕ, zero, suc, ◌+◌, ◌*◌, ◌^◌, ◌<◌, ◌≤◌, List, [], ◌∷◌, length, map, drop, get_or, All, Any, arith, sym, ap, ◌∙◌, refl, subst}
use Rattle.std.proofs.lemmas.List.{length-map, get_or-map, get_or_default, drop_more}
use Rattle.std.proofs.lemmas.List.Elements.{All-map}
use Rattle.std.proofs.lemmas.Slice.Zip.{AllZip-long}
use Rattle.obs_rows.specs.declared.arcs.Arc.{Arc}
use Rattle.obs_rows.specs.declared.pair_rows.PairRows.{PairRows}
use Rattle.obs_rows.specs.Integers.{integer_count}
use Rattle.integer_form.specs.declared.front_form.FrontForm.{FrontForm}
use Rattle.track_form.specs.Fronts.{Front, AreExponents, IsSmallFront}
use Rattle.track_form.specs.PairFronts.{IsFrontOfPair, AreFronts, brief}

-- as many as pairs
pub fronts_long : (arcs : List Arc) (ss : List ℕ) (pairs : List PairRows) (fs : List FrontForm) → AreFronts arcs ss pairs fs → length (map brief fs) ≡ length pairs
fronts_long arcs ss pairs fs are = length-map fs brief ∙ AllZip-long (IsFrontOfPair arcs ss) pairs fs are

-- its columns: the baseline's, the integers and the constant
pub columns_of_front : (arcs : List Arc) (ss : List ℕ) (p : PairRows) (f : FrontForm) → IsFrontOfPair arcs ss p f → f.columns ≡ 4 + integer_count arcs ss
columns_of_front arcs ss p f is = is.front.columns ∙ is.of_rows.columns

-- the front of the pair at a place
pub record HasPlace (arcs : List Arc) (ss : List ℕ) (p : PairRows) (fs : List FrontForm) (k : ℕ) : Type 0 where
  pub front : FrontForm
  pub is : IsFrontOfPair arcs ss p front
  pub inside : k < length fs
  pub at : get_or fs k front ≡ front

pub front_place : (arcs : List Arc) (ss : List ℕ) (pairs : List PairRows) (fs : List FrontForm) (k : ℕ) (p : PairRows) → AreFronts arcs ss pairs fs → k < length pairs → get_or pairs k p ≡ p →
    HasPlace arcs ss p fs k
front_place arcs ss [] fs k p are l e = absurd (omega arith)
front_place arcs ss (q ∷ pairs) [] k p are l e = absurd are
front_place arcs ss (q ∷ pairs) (f ∷ fs) zero p are l e = record { front = f; is = subst (λ (x : PairRows). IsFrontOfPair arcs ss x f) e are.0; inside = omega arith; at = refl }
front_place arcs ss (q ∷ pairs) (f ∷ fs) (suc k) p are l e =
    let has_place : HasPlace arcs ss p fs k = front_place arcs ss pairs fs k p are.1 (omega arith) e in
    record { front = has_place.front; is = has_place.is; inside = omega (arith, has_place.inside); at = has_place.at }

-- the fronts from there on
pub fronts_from : (arcs : List Arc) (ss : List ℕ) (p : PairRows) (fs : List FrontForm) (k : ℕ) → (w : HasPlace arcs ss p fs k) → drop k fs ≡ w.front ∷ drop (k + 1) fs
fronts_from arcs ss p fs k w = drop_more fs k w.front w.inside ∙ ap (λ (f : FrontForm). f ∷ drop (k + 1) fs) w.at

-- what one of them has
pub any_front : (arcs : List Arc) (ss : List ℕ) (p : PairRows) (fs : List FrontForm) (k : ℕ) (P : FrontForm → Type 0) → (w : HasPlace arcs ss p fs k) → P w.front → Any P fs
any_front arcs ss p fs k P w h = (k, w.front, w.inside, w.at, h)

-- ---- their exponents and sizes
pub small_fronts : (fs : List FrontForm) → All IsSmallFront (map brief fs)
small_fronts fs = All-map IsSmallFront brief fs (λ k d l. (get_or fs k d).entries_in)

-- from the greatest exponent of all pairs and the least power of 2 that serves
pub exponents_are : (arcs : List Arc) (ss : List ℕ) (pairs : List PairRows) (fs : List FrontForm) (greatest e : ℕ) → AreFronts arcs ss pairs fs → 2 * length pairs ≤ 2 ^ e →
    ((k : ℕ) → 2 * length pairs ≤ 2 ^ k → e ≤ k) →
    ((k : ℕ) → k < length pairs → (d : PairRows) (f : FrontForm) → IsFrontOfPair arcs ss (get_or pairs k d) f → f.h ≤ greatest) →
    (k : ℕ) → k < length pairs → ((d : PairRows) (f : FrontForm) → IsFrontOfPair arcs ss (get_or pairs k d) f → f.h ≡ greatest) → AreExponents (map brief fs) e (greatest + e)
exponents_are arcs ss [] fs greatest e are enough least above k inside one = absurd (omega arith)
exponents_are arcs ss (q ∷ rest) fs greatest e are enough least above k inside one = record {
  enough = subst (λ (n : ℕ). 2 * n ≤ 2 ^ e) (sym long) enough;
  least = λ j l. least j (subst (λ (n : ℕ). 2 * n ≤ 2 ^ j) long l);
  over = All-map (λ (g : Front). g.h + e ≤ greatest + e) brief fs (λ j d l. more (get_or fs j d).h (below j d l));
  attained = (
    k,
    brief w.front,
    subst (λ (n : ℕ). k < n) (sym long) inside,
    get_or-map brief fs k w.front (brief w.front) w.inside ∙ ap brief w.at,
    ap (λ (h : ℕ). h + e) (one q w.front (there k w inside)),
  );
}
  where
    pairs : List PairRows
    pairs = q ∷ rest

    long : length (map brief fs) ≡ length pairs
    long = fronts_long arcs ss pairs fs are

    pair_at : ℕ → PairRows
    pair_at j = get_or pairs j q

    place : (j : ℕ) → j < length pairs → HasPlace arcs ss (pair_at j) fs j
    place j l = front_place arcs ss pairs fs j (pair_at j) are l (get_or_default pairs j (pair_at j) q l)

    there : (j : ℕ) (v : HasPlace arcs ss (pair_at j) fs j) → j < length pairs → IsFrontOfPair arcs ss (get_or pairs j q) v.front
    there j v l = v.is

    w : HasPlace arcs ss (pair_at k) fs k
    w = place k inside

    more : (h : ℕ) → h ≤ greatest → h + e ≤ greatest + e
    more h l = omega arith

    below : (j : ℕ) (d : FrontForm) → j < length fs → (get_or fs j d).h ≤ greatest
    below j d l = subst (λ (f : FrontForm). f.h ≤ greatest) (sym v.at ∙ get_or_default fs j v.front d v.inside) (above j m q v.front v.is)
      where
        m : j < length pairs
        m = subst (λ (n : ℕ). j < n) (AllZip-long (IsFrontOfPair arcs ss) pairs fs are) l

        v : HasPlace arcs ss (pair_at j) fs j
        v = place j m
