-- What a table that holds the sums of all fronts says.
use Rattle.std.proofs.Common.{◌≡◌, ℕ, ◌+◌, ◌-◌, ◌*◌, ◌^◌, ◌<◌, ◌≤◌, List, length, map, replicate, get_or, ℤ, pos, arith, sym, ap, ap₂, ◌∙◌, subst}
use Rattle.quadratic_form.specs.LowerSums.{SmallForm}
use Rattle.quadratic_form.specs.Places.{form_from}
use Rattle.obs_rows.specs.declared.arcs.Arc.{Arc}
use Rattle.obs_rows.specs.declared.pair_rows.PairRows.{PairRows}
use Rattle.obs_rows.specs.Integers.{integer_count}
use Rattle.obs_rows.specs.declared.limits.TheConstants.{MOST_PAIRS}
use Rattle.quadratic_form.specs.declared.sizes.TheConstants.{BASELINE_COLUMNS, MOST_COLUMNS}
use Rattle.quadratic_form.specs.Tables.{entry, zero_rows}
use Rattle.integer_form.specs.declared.front_form.FrontForm.{FrontForm}
use Rattle.integer_form.specs.Kept.{form_of_table}
use Rattle.track_form.specs.Fronts.{track_form, AreExponents}
use Rattle.track_form.specs.declared.factors.PairFactors.{PairFactors}
use Rattle.track_form.specs.PairFronts.{IsFrontOfPair, AreFronts, brief}
use Rattle.track_form.specs.Factors.{AreFactors}
use Rattle.track_form.specs.SumDecided.{IsSumOfFronts}
use Rattle.track_form.specs.Sums.{HoldsSums, AreAtMost}
use Rattle.track_form.proofs.KeptFactors.{fronts_listed}
use Rattle.track_form.proofs.TrackEntries.{summed_form, small_track}
use Rattle.track_form.proofs.FrontLists.{fronts_long, small_fronts, exponents_are}

-- the greatest exponent of the fronts, as the pairs' matrices tell it
pub record IsGreatest (arcs : List Arc) (ss : List ℕ) (pairs : List PairRows) (greatest : ℕ) : Type 0 where
  pub above : AreAtMost arcs ss pairs greatest
  pub attained : (k : ℕ) × ((k < length pairs) × ((d : PairRows) (f : FrontForm) → IsFrontOfPair arcs ss (get_or pairs k d) f → f.h ≡ greatest))

pub record IsSummed (arcs : List Arc) (ss : List ℕ) (pairs : List PairRows) (e h : ℕ) (t : List (List ℤ)) : Type 0 where
  pub fs : List FrontForm
  pub of_pairs : AreFronts arcs ss pairs fs
  pub exponents : AreExponents (map brief fs) e h
  pub form : form_from (entry t) 3 (1 + integer_count arcs ss) ≡ track_form (1 + integer_count arcs ss) h (map brief fs)
  pub small : SmallForm (form_from (entry t) 3 (1 + integer_count arcs ss))

pub summed : (arcs : List Arc) (ss : List ℕ) (pairs : List PairRows) (kept : List PairFactors) (greatest e : ℕ) (t : List (List ℤ)) →
    AreFactors arcs ss pairs kept → IsGreatest arcs ss pairs greatest → 1 ≤ length pairs → length pairs ≤ MOST_PAIRS →
    integer_count arcs ss ≤ 60 →
    2 * length pairs ≤ 2 ^ e → ((k : ℕ) → 2 * length pairs ≤ 2 ^ k → e ≤ k) → HoldsSums arcs ss pairs (greatest + e) t → IsSummed arcs ss pairs e (greatest + e) t
summed arcs ss pairs kept greatest e t factors is some few integers enough least sums = record {
  fs = fs;
  of_pairs = are;
  exponents = exponents;
  form = form;
  small = subst SmallForm (sym form) (small_track n e h (map brief fs) (subst (λ (k : ℕ). 1 ≤ k) (sym long) some) (subst (λ (k : ℕ). k ≤ MOST_PAIRS) (sym long) few) (omega (arith, integers)) exponents
      (small_fronts fs));
}
  where
    n : ℕ
    n = 1 + integer_count arcs ss

    h : ℕ
    h = greatest + e

    fs : List FrontForm
    fs = (fronts_listed arcs ss pairs kept factors).0

    are : AreFronts arcs ss pairs fs
    are = (fronts_listed arcs ss pairs kept factors).1

    long : length (map brief fs) ≡ length pairs
    long = fronts_long arcs ss pairs fs are

    exponents : AreExponents (map brief fs) e h
    exponents = exponents_are arcs ss pairs fs greatest e are enough least is.above is.attained.0 is.attained.1.0 is.attained.1.1

    form : form_from (entry t) 3 n ≡ track_form n h (map brief fs)
    form = summed_form n h (map brief fs) t (sums fs are)

-- its form in a front with no factors of the baseline's columns
pub sum_is : (arcs : List Arc) (ss : List ℕ) (pairs : List PairRows) (e h n : ℕ) (t p : List (List ℤ)) (f : FrontForm) → IsSummed arcs ss pairs e h t → n ≡ 1 + integer_count arcs ss →
    form_of_table p n ≡ form_from (entry t) 3 n →
    f.columns ≡ 3 + n → f.h ≡ h → f.d ≡ replicate BASELINE_COLUMNS (pos 0) → f.l ≡ zero_rows MOST_COLUMNS BASELINE_COLUMNS → f.p ≡ p → (fs : List FrontForm) × IsSumOfFronts arcs ss pairs fs f
sum_is arcs ss pairs e h n t p f s order same columns height kept factors matrix = (
  s.fs,
  record {
    of_pairs = s.of_pairs;
    e = e;
    exponents = subst (λ (k : ℕ). AreExponents (map brief s.fs) e k) (sym height) s.exponents;
    columns = columns ∙ more n (integer_count arcs ss) order;
    form = ap₂ (λ (q : List (List ℤ)) (k : ℕ). form_of_table q k) matrix (fewer f.columns columns) ∙ same ∙ ap (λ (k : ℕ). form_from (entry t) 3 k) order ∙ s.form
        ∙ ap₂ (λ (k g : ℕ). track_form k g (map brief s.fs)) (sym order ∙ sym (fewer f.columns columns)) (sym height);
    kept = kept;
    factors = factors;
  },
)
  where
    more : (n i : ℕ) → n ≡ 1 + i → 3 + n ≡ 4 + i
    more n i e = omega arith

    fewer : (k : ℕ) → k ≡ 3 + n → k - 3 ≡ n
    fewer k e = omega arith
