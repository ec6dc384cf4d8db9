-- The ranges of the numbers of a track's decision.
use Rattle.std.proofs.Common.{◌≡◌, ℕ, ◌+◌, ◌-◌, ◌^◌, ◌≤◌, List, length, map, get_or, All, ℤ, pos, neg_ℤ, ◌≤ℤ◌, ◌<ℤ◌, sym, ◌∙◌, subst, mul-pos}
use Rattle.std.proofs.lemmas.List.{length-map}
use Rattle.std.proofs.lemmas.Slice.Zip.{AllZip-long}
use Rattle.quadratic_form.proofs.Decision.{less_value}
use Rattle.obs_rows.specs.declared.arcs.Arc.{Arc}
use Rattle.obs_rows.specs.declared.bands.Signals.{Signals}
use Rattle.obs_rows.specs.declared.pair_rows.PairRows.{PairRows}
use Rattle.obs_rows.specs.Arcs.{free_count}
use Rattle.obs_rows.specs.Integers.{integer_count}
use Rattle.obs_rows.specs.Signals.{fine_signals}
use Rattle.integer_form.specs.declared.front_form.FrontForm.{FrontForm}
use Rattle.integer_form.specs.declared.form.Form.{Form}
use Rattle.integer_form.specs.Forms.{integers_of, columns_of, value_of}
use Rattle.int_search.specs.declared.answer.TwoBest.{TwoBest}
use Rattle.int_search.specs.Answers.{IsTwoBest}
use Rattle.fix_decide.specs.Decisions.{first_of, second_of}
use Rattle.fix_decide.proofs.SessionForms.{some_phases, small_value, first_length, all_narrow, one_less}
use Rattle.cert_check.proofs.DecidedLaws.{InRange, in_range, top_below}
use Rattle.cert_data.specs.Tails.{IsMove}
use Rattle.integer_form.specs.FloatPoint.{HasWide}
use Rattle.lower_form.proofs.FrontLaws.{fewer}
use Rattle.track_data.specs.TrackTails.{AreTrackVectors}
use Rattle.track_form.specs.PairFronts.{AreFronts, IsFrontOfPair, move_at}
use Rattle.track_form.specs.SumDecided.{IsTrackForm}

-- ---- the integers
pub some_integers : (arcs : List Arc) (signals : Signals) → 1 ≤ free_count arcs → 1 ≤ integer_count arcs (fine_signals signals)
some_integers arcs signals some = mul-pos (some_phases signals) some

pub columns_are : (arcs : List Arc) (ss : List ℕ) (pairs : List PairRows) (fs : List FrontForm) (f : Form) → IsTrackForm arcs ss pairs fs f → f.columns ≡ 4 + integer_count arcs ss
columns_are arcs ss pairs fs f is = is.finished.columns ∙ is.of_fronts.columns

pub integers_are : (arcs : List Arc) (ss : List ℕ) (pairs : List PairRows) (fs : List FrontForm) (f : Form) → IsTrackForm arcs ss pairs fs f → integers_of f ≡ integer_count arcs ss
integers_are arcs ss pairs fs f is = fewer f.columns (integer_count arcs ss) (columns_are arcs ss pairs fs f is)

-- ---- the values
pub second_small : (f : Form) (b : TwoBest) → 1 ≤ integers_of f → IsTwoBest f b → b.p2 <ℤ pos (2 ^ 54)
second_small f b some two = subst (λ (x : ℤ). x <ℤ pos (2 ^ 54)) (sym two.p2) (small_value f (integers_of f - 1) (first_of b) (second_of b) (one_less (integers_of f) some) two.least)

values_in_range : (f : Form) (best : TwoBest) → 1 ≤ integers_of f → IsTwoBest f best → ((z : List ℤ) → length z ≡ integers_of f → neg_ℤ (pos (2 ^ 63)) ≤ℤ value_of f z) → InRange best.p1 best.p2
values_in_range f best some two from = in_range best.p1 best.p2
    (subst (λ (x : ℤ). neg_ℤ (pos (2 ^ 63)) ≤ℤ x) (sym two.p1) (from (first_of best) (first_length f best two ∙ two.size)))
    (subst (λ (x : ℤ). x ≤ℤ best.p2) (sym two.p1) (subst (λ (x : ℤ). value_of f (first_of best) ≤ℤ x) (sym two.p2) (less_value (columns_of f) (first_of best) (second_of best) two.least.order)))
    (second_small f best some two)

-- ---- the moves
pub move_each : (arcs : List Arc) (ss : List ℕ) (pairs : List PairRows) (fs : List FrontForm) (z : List ℤ) (moves : List (List ℤ)) → AreFronts arcs ss pairs fs → moves ≡ map (move_at z) fs →
    length moves ≡ length pairs
move_each arcs ss pairs fs z moves are is = (λ t. length (is t)) ∙ length-map fs (move_at z) ∙ AllZip-long (IsFrontOfPair arcs ss) pairs fs are

pub moves_small : (moves : List (List ℤ)) → All (λ m. HasWide m → ⊥) moves → All IsMove moves
moves_small moves narrow = λ k d inside. all_narrow (get_or moves k d) (narrow k d inside)

-- ---- a tail with vectors fits
pub track_vectors_fit : (arcs : List Arc) (signals : Signals) (pairs : List PairRows) (moves : List (List ℤ)) (best : TwoBest) (top : ℤ) (fs : List FrontForm) (f : Form) →
    1 ≤ free_count arcs → IsTrackForm arcs (fine_signals signals) pairs fs f → IsTwoBest f best → moves ≡ map (move_at (first_of best)) fs → All (λ m. HasWide m → ⊥) moves →
    ((z : List ℤ) → length z ≡ integers_of f → neg_ℤ (pos (2 ^ 63)) ≤ℤ value_of f z) → pos 0 ≤ℤ top → top ≤ℤ pos (2 ^ 119) → AreTrackVectors (fine_signals signals) arcs pairs f.h moves best top
track_vectors_fit arcs signals pairs moves best top fs f some is two moves_are narrow from l g =
    let signals_used = fine_signals signals in
    let entries : integers_of f ≡ integer_count arcs signals_used = integers_are arcs signals_used pairs fs f is in
    let values_range : InRange best.p1 best.p2 = values_in_range f best (subst (λ (n : ℕ). 1 ≤ n) (sym entries) (some_integers arcs signals some)) two from in
    record {
      move_each = move_each arcs signals_used pairs fs (first_of best) moves is.of_fronts.of_pairs moves_are;
      moves_in = moves_small moves narrow;
      values = record {
        h_to = f.h_in;
        size = two.size ∙ entries;
        first_in = two.first_small;
        second_in = two.second_small;
        p1_in = values_range.first;
        p2_in = values_range.second;
        top_in = top_below top l g;
      };
    }
