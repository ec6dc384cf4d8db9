-- The places of the integers of rows.
use Rattle.std.proofs.Common.{◌≡◌, ⊎_elim, ℕ, zero, suc, ◌+◌, ◌-◌, ◌*◌, ◌<◌, ◌≤◌, Bool, true, false, cond, Option, Some, None, IfSome, List, [], ◌∷◌, length, take, drop, arith, sym, ap, ap₂, ◌∙◌, refl, subst, slice_index_or}
use Rattle.std.specs.Prelude.{slice_get, position, ◌==◌}
use Rattle.std.specs.Option.{option_map}
use Rattle.std.proofs.lemmas.List.Quantifiers.{position-Some}
use Rattle.std.proofs.lemmas.List.Sums.{sum_by-append}
use Rattle.std.proofs.Math.Seq.{take-add}
use Rattle.std.proofs.lemmas.Bool.{cases_lt}
use Rattle.quadratic_form.specs.declared.sizes.TheConstants.{MOST_INTEGERS}
use Rattle.obs_rows.specs.declared.arcs.Arc.{Arc}
use Rattle.obs_rows.specs.declared.rows.Row.{Row}
use Rattle.obs_rows.specs.declared.units.TheConstants.{PHASES, MOST_FREE_ARCS}
use Rattle.obs_rows.specs.Arcs.{is_free, free_before, free_count}
use Rattle.obs_rows.specs.Signals.{phases}
use Rattle.obs_rows.specs.CountedSignals.{AreCounted}
use Rattle.obs_rows.specs.Integers.{integer_count, integer_place, is_some_free}
use Rattle.obs_rows.proofs.IntegerPlaces.{place_below, free_before_le}
use Rattle.normal_sum.specs.Places.{first_place, place_from, ArePlacesFrom, SeesNone}

product_within : (n m : ℕ) → n ≤ PHASES → m ≤ MOST_FREE_ARCS → n * m ≤ MOST_INTEGERS
product_within zero m h g = omega arith
product_within (suc zero) m h g = omega arith
product_within (suc (suc zero)) m h g = omega arith
product_within (suc (suc (suc zero))) m h g = omega arith
product_within (suc (suc (suc (suc n)))) m h g = absurd (omega arith)

-- there is a column for each integer
pub count_within : (arcs : List Arc) (ss : List ℕ) → AreCounted ss → free_count arcs ≤ MOST_FREE_ARCS → integer_count arcs ss ≤ MOST_INTEGERS
count_within arcs ss h g = product_within (length (phases ss)) (free_count arcs) h.phases_few g

pub first_within : (arcs : List Arc) (n k : ℕ) → n ≤ PHASES → free_count arcs ≤ MOST_FREE_ARCS → n * free_before arcs k ≤ MOST_INTEGERS
first_within arcs n k h g = product_within n (free_before arcs k) h (omega (arith, free_before_le arcs k))

-- the free arcs before arc k, from those before another one and those between
pub free_between : (arcs : List Arc) (from k : ℕ) → from ≤ k → free_before arcs k ≡ free_before arcs from + free_count (take (k - from) (drop from arcs))
free_between arcs from k h = ap (λ (n : ℕ). free_count (take n arcs)) (plain from k h) ∙ ap (λ (l : List Arc). free_count l) (take-add from (k - from) arcs)
    ∙ sum_by-append (λ (x : Arc). cond (is_free x) 1 0) (take from arcs) (take (k - from) (drop from arcs))
  where
    plain : (i n : ℕ) → i ≤ n → n ≡ i + (n - i)
    plain i n h = omega arith

pub place_is : (arcs : List Arc) (ss : List ℕ) (k s : ℕ) → place_from (first_place arcs (length (phases ss)) k) (position (λ t. t == s) (phases ss)) ≡ integer_place arcs ss k s
place_is arcs ss k s = go (is_some_free (slice_get arcs k))
  where
    go : (b : Bool) → place_from (cond b (Some (length (phases ss) * free_before arcs k)) None) (position (λ t. t == s) (phases ss))
        ≡ cond b (option_map (λ j. (length (phases ss) * free_before arcs k) + j) (position (λ t. t == s) (phases ss))) None
    go true = refl
    go false = refl

-- the place of a signal is one of the phases'
pub phase_within : (ss : List ℕ) (s : ℕ) → AreCounted ss → IfSome (position (λ t. t == s) (phases ss)) (λ i. i < PHASES)
phase_within ss s h = go (position (λ t. t == s) (phases ss)) refl
  where
    go : (p : Option ℕ) → position (λ t. t == s) (phases ss) ≡ p → IfSome p (λ i. i < PHASES)
    go None e = tt
    go (Some j) e = let inside : j < length (phases ss) = (position-Some (λ (t : ℕ). t == s) (phases ss) j 0 e).0 in omega (arith, h.phases_few)

pub place_within : (arcs : List Arc) (ss : List ℕ) (k s : ℕ) → IfSome (integer_place arcs ss k s) (λ i. i < integer_count arcs ss)
place_within arcs ss k s = go (integer_place arcs ss k s) refl
  where
    go : (p : Option ℕ) → integer_place arcs ss k s ≡ p → IfSome p (λ i. i < integer_count arcs ss)
    go None e = tt
    go (Some i) e = place_below arcs ss k s i e

-- from the places of the first integers of the rows' arcs
pub are_places : (arcs : List Arc) (ss : List ℕ) (s : ℕ) (rows : List Row) (firsts : List (Option ℕ)) (phase : Option ℕ) → phase ≡ position (λ t. t == s) (phases ss) →
    ((k : ℕ) (d : Row) → k < length rows → slice_index_or firsts k None ≡ first_place arcs (length (phases ss)) (slice_index_or rows k d).arc) → ArePlacesFrom arcs ss s rows firsts phase
are_places arcs ss s rows firsts phase e f k d h = ap₂ (λ (p q : Option ℕ). place_from p q) (f k d h) e ∙ place_is arcs ss (slice_index_or rows k d).arc s

no_phase : (first : Option ℕ) → place_from first None ≡ None
no_phase (Some i) = refl
no_phase None = refl

pub sees_none : (arcs : List Arc) (ss : List ℕ) (s : ℕ) (rows : List Row) (firsts : List (Option ℕ)) (phase : Option ℕ) → phase ≡ None → ArePlacesFrom arcs ss s rows firsts phase → SeesNone arcs ss s rows
sees_none arcs ss s rows firsts phase e are k d h = sym (are k d h) ∙ ap (λ (p : Option ℕ). place_from (slice_index_or firsts k None) p) e ∙ no_phase (slice_index_or firsts k None)

nothing_from : (phase : Option ℕ) → place_from None phase ≡ None
nothing_from phase = refl

pub are_within : (arcs : List Arc) (ss : List ℕ) (s : ℕ) (rows : List Row) (firsts : List (Option ℕ)) (phase : Option ℕ) → ArePlacesFrom arcs ss s rows firsts phase →
    ((k : ℕ) → length rows ≤ k → slice_index_or firsts k None ≡ None) → (k : ℕ) → IfSome (place_from (slice_index_or firsts k None) phase) (λ i. i < integer_count arcs ss)
are_within arcs ss s rows firsts phase are none k = ⊎_elim
    (λ (h : k < length rows). subst (λ (p : Option ℕ). IfSome p (λ i. i < integer_count arcs ss)) (sym (are k (a_row rows h) h))
    (place_within arcs ss (slice_index_or rows k (a_row rows h)).arc s))
    (λ (h : length rows ≤ k). subst (λ (p : Option ℕ). IfSome p (λ i. i < integer_count arcs ss)) (sym (ap (λ (p : Option ℕ). place_from p phase) (none k h))) tt)
    (cases_lt k (length rows))
  where
    a_row : (l : List Row) → k < length l → Row
    a_row [] h = absurd (omega arith)
    a_row (x ∷ l) h = x
