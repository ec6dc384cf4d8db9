-- Arcs whose shifts grow.
use Rattle.std.proofs.Common.{◌≡◌, ℕ, zero, suc, ◌+◌, ◌-◌, ◌*◌, ◌^◌, ◌<◌, ◌≤◌, ◌⊎◌, ⊎_elim, List, [], ◌∷◌, ◌++◌, length, map, drop, take, get_or, All, Some, cond, ℤ, pos, ◌+ℤ◌, unsigned_abs, to_z, of_z, arith, sym, ap, ap₂, ◌∙◌, refl, subst}
use Rattle.std.specs.Prelude.{slice_get}
use Rattle.std.proofs.lemmas.Option.{slice_get_within, same_Some}
use Rattle.std.proofs.lemmas.Int.{ints}
use Rattle.std.specs.Int.{w64}
use Rattle.obs_rows.specs.declared.arcs.Arc.{Arc}
use Rattle.std.proofs.lemmas.List.{length-map, length-drop, take_all, get_or_default, get_or-drop, length_push}
use Rattle.std.proofs.lemmas.List.Sums.{sum_by-cons}
use Rattle.obs_rows.specs.Ranges.{IsBelow}
use Rattle.obs_rows.specs.Arcs.{is_free, free_count}
use Rattle.quadratic_form.specs.declared.sizes.TheConstants.{BASELINE_COLUMNS, MOST_FACTORS, MOST_INTEGERS}
use Rattle.obs_rows.specs.declared.units.TheConstants.{PHASES, MOST_FREE_ARCS}
use Rattle.integer_form.specs.FloatPoint.{item}
use Rattle.round_steps.specs.Shifts.{grown_arc, AreGrown, AreShiftsBelow, without_shifts, AreSameArcs}
use Rattle.whole_math.proofs.Lists.{before_push, last_push}

-- a number of a list whose numbers are below m is below m, and so is the 0 beyond its end
pub small_item : (s : List ℤ) (k m : ℕ) → All (IsBelow m) s → 0 < m → unsigned_abs (get_or s k (pos 0)) < m
small_item [] k m below some = some
small_item (x ∷ s) zero m below some = below 0 (pos 0) (omega arith)
small_item (x ∷ s) (suc k) m below some = small_item s k m (λ j d inside. below (suc j) d (omega arith)) some

-- ---- the numbers of a float point
-- the numbers after the first n are below m too
small_drop : (x : List ℤ) (n m : ℕ) → ((j : ℕ) → unsigned_abs (item x j) < m) → All (IsBelow m) (drop n x)
small_drop x n m small k d inside =
    subst (λ (a : ℤ). unsigned_abs a < m) (sym (get_or_default (drop n x) k d (pos 0) inside ∙ get_or-drop n x k (pos 0))) (small (n + k))

-- those of the integers are all that stand after those of the baseline
pub integers_are : (x : List ℤ) → length x ≡ MOST_FACTORS → take MOST_INTEGERS (drop BASELINE_COLUMNS x) ≡ drop BASELINE_COLUMNS x
integers_are x whole = take_all MOST_INTEGERS (drop BASELINE_COLUMNS x) (few (length (drop BASELINE_COLUMNS x)) (length-drop BASELINE_COLUMNS x))
  where
    few : (n : ℕ) → n ≡ length x - BASELINE_COLUMNS → n ≤ MOST_INTEGERS
    few n left = omega (arith, whole)

pub integers_room : (x : List ℤ) → length x ≡ MOST_FACTORS → MOST_INTEGERS ≤ length (take MOST_INTEGERS (drop BASELINE_COLUMNS x))
integers_room x whole = omega (arith, whole, ap length (integers_are x whole), length-drop BASELINE_COLUMNS x)

pub integers_small : (x : List ℤ) (m : ℕ) → length x ≡ MOST_FACTORS → ((j : ℕ) → unsigned_abs (item x j) < m) → All (IsBelow m) (take MOST_INTEGERS (drop BASELINE_COLUMNS x))
integers_small x m whole small = subst (All (IsBelow m)) (sym (integers_are x whole)) (small_drop x BASELINE_COLUMNS m small)

-- as many integers as there may be phases and free arcs
pub few_integers : (phases free room : ℕ) → phases ≤ PHASES → free ≤ MOST_FREE_ARCS → MOST_INTEGERS ≤ room → phases * free ≤ room
few_integers phases free room few_phases few_free roomy = grind arith

-- ---- the shifts of one arc
-- a shift and its growth
pub sum_word : (s g : ℤ) → unsigned_abs s < 2 ^ 40 → unsigned_abs g ≤ 2 ^ 30 → to_z w64 (of_z w64 (to_z w64 (of_z w64 s) +ℤ to_z w64 (of_z w64 g))) ≡ s +ℤ g
sum_word s g small_shift small_growth = omega (arith, ints)

pub sum_size : (s g : ℤ) (m : ℕ) → unsigned_abs s < m → unsigned_abs g ≤ 2 ^ 30 → unsigned_abs (s +ℤ g) < m + 2 ^ 30
sum_size s g m small_shift small_growth = omega (arith, ints)

-- a list of a number for each band is these three numbers
pub three_are : (xs : List ℤ) (x y z : ℤ) → length xs ≡ PHASES → item xs 0 ≡ x → item xs 1 ≡ y → item xs 2 ≡ z → xs ≡ x ∷ y ∷ z ∷ []
three_are [] x y z long first second third = absurd (omega arith)
three_are (p ∷ []) x y z long first second third = absurd (omega arith)
three_are (p ∷ q ∷ []) x y z long first second third = absurd (omega arith)
three_are (p ∷ q ∷ r ∷ []) x y z long first second third = cc
three_are (p ∷ q ∷ r ∷ s ∷ more) x y z long first second third = absurd (omega arith)

pub three_below : (x y z : ℤ) (m : ℕ) → unsigned_abs x < m → unsigned_abs y < m → unsigned_abs z < m → All (IsBelow m) (x ∷ y ∷ z ∷ [])
three_below x y z m first second third zero d inside = first
three_below x y z m first second third (suc zero) d inside = second
three_below x y z m first second third (suc (suc zero)) d inside = third
three_below x y z m first second third (suc (suc (suc k))) d inside = absurd (omega arith)

-- the first k arcs, with their shifts grown
pub record AreGrownTo (k : ℕ) (arcs : List Arc) (ss : List ℕ) (x : List ℤ) (after : List Arc) : Type 0 where
  pub as_many : length after ≡ k
  pub each : (j : ℕ) (a : Arc) → j < k → slice_get arcs j ≡ Some a → slice_get after j ≡ Some (grown_arc arcs ss x j a)

pub more_grown : (k : ℕ) (arcs : List Arc) (ss : List ℕ) (x : List ℤ) (after after' : List Arc) (a : Arc) → AreGrownTo k arcs ss x after
    → slice_get arcs k ≡ Some a → after' ≡ after ++ grown_arc arcs ss x k a ∷ [] → AreGrownTo (k + 1) arcs ss x after'
more_grown k arcs ss x after after' a so_far at pushed = record {
  as_many = ap length pushed ∙ length_push after (grown_arc arcs ss x k a) ∙ ap (λ n. n + 1) so_far.as_many;
  each = λ j b within b_at. ⊎_elim
      (λ (less : j < k). ap (λ l. slice_get l j) pushed ∙ before_push after (grown_arc arcs ss x k a) j (subst (λ (n : ℕ). j < n) (sym so_far.as_many) less) ∙ so_far.each j b less b_at)
      (λ (last : j ≡ k). here j b last b_at) (split j k within);
}
  where
    split : (j k : ℕ) → j < k + 1 → (j < k) ⊎ (j ≡ k)
    split j k within = grind arith

    here : (j : ℕ) (b : Arc) → j ≡ k → slice_get arcs j ≡ Some b → slice_get after' j ≡ Some (grown_arc arcs ss x j b)
    here j b last b_at =
        let same : a ≡ b = same_Some a b (sym at ∙ ap (slice_get arcs) (sym last) ∙ b_at) in
        ap (slice_get after') (last ∙ sym so_far.as_many) ∙ ap (λ l. slice_get l (length after)) pushed ∙ last_push after (grown_arc arcs ss x k a)
        ∙ ap₂ (λ n c. Some (grown_arc arcs ss x n c)) (sym last) same

pub all_grown : (k : ℕ) (arcs : List Arc) (ss : List ℕ) (x : List ℤ) (after : List Arc) → AreGrownTo k arcs ss x after → k ≡ length arcs → AreGrown arcs ss x after
all_grown k arcs ss x after so_far all = record {
  as_many = so_far.as_many ∙ all;
  each = λ j a at. so_far.each j a (subst (λ (n : ℕ). j < n) (sym all) (slice_get_within arcs j a at)) at;
}

-- lists that are the same but for shifts
pub same_lists : (xs ys : List Arc) → length ys ≡ length xs
    → ((k : ℕ) (a b : Arc) → slice_get xs k ≡ Some a → slice_get ys k ≡ Some b → without_shifts b ≡ without_shifts a) → AreSameArcs xs ys
same_lists [] [] as_many each = refl
same_lists [] (y ∷ ys) as_many each = absurd (omega arith)
same_lists (x ∷ xs) [] as_many each = absurd (omega arith)
same_lists (x ∷ xs) (y ∷ ys) as_many each = ap₂ (λ a l. a ∷ l) (each 0 x y refl refl) (same_lists xs ys (omega arith) (λ k a b at there. each (suc k) a b at there))

pub grown_same : (arcs : List Arc) (ss : List ℕ) (x : List ℤ) (after : List Arc) → AreGrown arcs ss x after → AreSameArcs arcs after
grown_same arcs ss x after grown = same_lists arcs after grown.as_many (λ k a b at there. ap without_shifts (same_Some b (grown_arc arcs ss x k a) (sym there ∙ grown.each k a at)))

-- ---- what is the same of the same arcs
pub length_same : (arcs after : List Arc) → AreSameArcs arcs after → length after ≡ length arcs
length_same arcs after same = sym (length-map after without_shifts) ∙ ap length same ∙ length-map arcs without_shifts

free_map : (arcs : List Arc) → free_count (map without_shifts arcs) ≡ free_count arcs
free_map [] = refl
free_map (a ∷ arcs) =
    let count_of : Arc → ℕ = λ x. cond (is_free x) 1 0 in
    sum_by-cons count_of (without_shifts a) (map without_shifts arcs) ∙ ap (λ (n : ℕ). cond (is_free a) 1 0 + n) (free_map arcs) ∙ sym (sum_by-cons count_of a arcs)

pub free_same : (arcs after : List Arc) → AreSameArcs arcs after → free_count after ≡ free_count arcs
free_same arcs after same = sym (free_map after) ∙ ap free_count same ∙ free_map arcs

pub wider_shifts : (m n : ℕ) (arcs : List Arc) → m ≤ n → AreShiftsBelow m arcs → AreShiftsBelow n arcs
wider_shifts m n arcs wider below k d inside j default within = narrower (unsigned_abs (get_or (get_or arcs k d).shift j default)) (below k d inside j default within)
  where
    narrower : (size : ℕ) → size < m → size < n
    narrower size small = omega (arith, wider, small)
