-- What the steps of a decision say together.
use Rattle.std.proofs.Common.{◌≡◌, ℕ, ◌^◌, ◌<◌, ◌≤◌, true, false, Bool, IsTrue, List, length, map, get_or, All, ℤ, pos, neg_ℤ, ◌≤ℤ◌, refl, sym, ap, ◌∙◌, subst}
use Rattle.std.specs.List.{AllZip}
use Rattle.std.proofs.lemmas.Bool.{false≢true}
use Rattle.std.proofs.lemmas.List.{get_or-map}
use Rattle.std.proofs.lemmas.Slice.Zip.{AllZip-long}
use Rattle.obs_rows.specs.declared.arcs.Arc.{Arc}
use Rattle.obs_rows.specs.declared.bands.Signals.{Signals}
use Rattle.obs_rows.specs.declared.pair_rows.PairRows.{PairRows}
use Rattle.obs_rows.specs.Arcs.{free_count}
use Rattle.obs_rows.specs.Signals.{fine_signals}
use Rattle.integer_form.specs.declared.front_form.FrontForm.{FrontForm}
use Rattle.integer_form.specs.declared.form.Form.{Form}
use Rattle.integer_form.specs.declared.faults.LowerFault.{LowerFault}
use Rattle.integer_form.specs.declared.faults.LowerFault.TheVariants as fault
use Rattle.integer_form.specs.declared.faults.Place.{Place}
use Rattle.integer_form.specs.Forms.{integers_of, value_of}
use Rattle.integer_form.specs.FloatPoint.{HasWide}
use Rattle.int_search.specs.declared.answer.TwoBest.{TwoBest}
use Rattle.int_search.specs.Answers.{IsTwoBest}
use Rattle.fix_decide.specs.Widths.{IsWide}
use Rattle.fix_decide.specs.Decisions.{IsSeparated, first_of}
use Rattle.track_data.specs.declared.tails.TrackTail.{TrackTail}
use Rattle.track_data.specs.declared.tails.TrackTail.TheVariants.{Overwidth}
use Rattle.track_data.specs.TrackTails.{AreTrackVectors, IsTrackTailOf, track_tail_of_vectors}
use Rattle.track_form.specs.Fronts.{track_top}
use Rattle.track_form.specs.PairFronts.{IsFrontOfPair, move_at}
use Rattle.track_form.specs.SumDecided.{IsTrackForm, IsSearchedIn, AreFound, IsSumWide, pair_uppers}
use Rattle.track_form.proofs.BestByRatio.{track_best_by_ratio}
use Rattle.track_form.specs.Decided.{IsFormRefused, track_tail_of, IsTrackWideAt, IsTrackDecision, IsTrackBestWhereFixed}
use Rattle.track_form.specs.Uppers.{IsSomeWide}
use Rattle.track_form.proofs.Lists.{none_mapped}
use Rattle.track_form.proofs.Ranges.{track_vectors_fit}
use Rattle.track_form.proofs.OneDecision.{wide_refused}

-- the two least vectors with their moves and the upper sum
pub found_by : (arcs : List Arc) (ss : List ℕ) (pairs : List PairRows) (budget : ℕ) (moves : List (List ℤ)) (best : TwoBest) (top : ℤ) (fs : List FrontForm) (f : Form) →
    IsTrackForm arcs ss pairs fs f → IsTwoBest f best → IsSearchedIn f budget best → moves ≡ map (move_at (first_of best)) fs → All (λ m. HasWide m → ⊥) moves →
    AllZip (λ p m. IsWide arcs ss (first_of best) m p → ⊥) pairs moves → top ≡ track_top f.h (pair_uppers arcs ss (first_of best) pairs moves) → AreFound arcs ss pairs budget f.h moves best top
found_by arcs ss pairs budget moves best top fs f is two kept moves_are narrow bounded top_is = record {
  fronts = fs;
  form = f;
  of_rows = is;
  h_is = refl;
  best_is = two;
  visits = kept;
  moves_are = moves_are;
  narrow = narrow;
  bounded = bounded;
  top_is = top_is;
}

-- a decision written as a tail
pub told_decision : (arcs : List Arc) (ss : List ℕ) (pairs : List PairRows) (ratio budget h : ℕ) (moves : List (List ℤ)) (best : TwoBest) (top : ℤ) (fixed : Bool) →
    AreFound arcs ss pairs budget h moves best top →
    (IsTrue fixed → IsSeparated (pos ratio) top best.p2) → (IsSeparated (pos ratio) top best.p2 → IsTrue fixed) →
    IsTrackDecision arcs ss pairs ratio budget (track_tail_of_vectors fixed h moves best top)
told_decision arcs ss pairs ratio budget h moves best top true found there back = (found, there refl)
told_decision arcs ss pairs ratio budget h moves best top false found there back = (found, λ far. false≢true (back far))

-- where that says fixed, its integers are best by the ratio
pub told_best : (arcs : List Arc) (ss : List ℕ) (pairs : List PairRows) (ratio budget h : ℕ) (moves : List (List ℤ)) (best : TwoBest) (top : ℤ) (fixed : Bool) →
    AreFound arcs ss pairs budget h moves best top → (IsTrue fixed → IsSeparated (pos ratio) top best.p2) →
    IsTrackBestWhereFixed ratio arcs ss pairs (track_tail_of_vectors fixed h moves best top)
told_best arcs ss pairs ratio budget h moves best top true found there = track_best_by_ratio arcs ss pairs ratio budget h moves best top found (there refl)
told_best arcs ss pairs ratio budget h moves best top false found there = tt

-- an upper sum that is too wide
pub sum_wide : (arcs : List Arc) (ss : List ℕ) (pairs : List PairRows) (budget : ℕ) (moves : List (List ℤ)) (best : TwoBest) (fs : List FrontForm) (f : Form) → IsTrackForm arcs ss pairs fs f →
    IsTwoBest f best → IsSearchedIn f budget best →
    moves ≡ map (move_at (first_of best)) fs → All (λ m. HasWide m → ⊥) moves → IsSomeWide arcs ss (first_of best) pairs moves → IsSumWide arcs ss pairs budget
sum_wide arcs ss pairs budget moves best fs f is two kept moves_are narrow some = record {
  fronts = fs;
  form = f;
  of_rows = is;
  best = best;
  best_is = two;
  visits = kept;
  narrow = none_mapped HasWide (move_at (first_of best)) fs (subst (λ (ms : List (List ℤ)). All (λ m. HasWide m → ⊥) ms) moves_are narrow);
  place = some.place;
  inside = some.inside;
  wide = λ p g. subst (λ (m : List ℤ). IsWide arcs ss (first_of best) m (get_or pairs some.place p)) (at g) (some.wide p (move_at (first_of best) g));
}
  where
    inside : some.place < length fs
    inside = subst (λ (n : ℕ). some.place < n) (sym (AllZip-long (IsFrontOfPair arcs ss) pairs fs is.of_fronts.of_pairs)) some.inside

    at : (g : FrontForm) → get_or moves some.place (move_at (first_of best) g) ≡ move_at (first_of best) (get_or fs some.place g)
    at g = ap (λ (ms : List (List ℤ)). get_or ms some.place (move_at (first_of best) g)) moves_are ∙ get_or-map (move_at (first_of best)) fs some.place g (move_at (first_of best) g) inside

told_fits : (ss : List ℕ) (arcs : List Arc) (pairs : List PairRows) (budget h : ℕ) (moves : List (List ℤ)) (best : TwoBest) (top : ℤ) (fixed : Bool) → AreTrackVectors ss arcs pairs h moves best top →
    IsTrackTailOf ss arcs pairs budget (track_tail_of_vectors fixed h moves best top)
told_fits ss arcs pairs budget h moves best top true fit = fit
told_fits ss arcs pairs budget h moves best top false fit = fit

-- ---- a decision that ends with vectors
pub record IsTold (arcs : List Arc) (signals : Signals) (pairs : List PairRows) (ratio : ℕ) (f : Form) (best : TwoBest) (t : TrackTail) : Type 0 where
  pub decision : (budget : ℕ) → IsSearchedIn f budget best → IsTrackDecision arcs (fine_signals signals) pairs ratio budget t
  pub by_ratio : (budget : ℕ) → IsSearchedIn f budget best → IsTrackBestWhereFixed ratio arcs (fine_signals signals) pairs t
  pub fits : (budget : ℕ) → IsTrackTailOf (fine_signals signals) arcs pairs budget t

-- from the moves, the upper sum and the test of the ratio, each of them as the code hands it on
pub vectors_told : (arcs : List Arc) (signals : Signals) (pairs : List PairRows) (ratio : ℕ) (fs : List FrontForm) (f : Form) (best : TwoBest) (moves list slice : List (List ℤ))
    (top word second : ℤ) (fixed : Bool) (t : TrackTail) →
    1 ≤ free_count arcs → IsTrackForm arcs (fine_signals signals) pairs fs f → IsTwoBest f best → moves ≡ map (move_at (first_of best)) fs → All (λ m. HasWide m → ⊥) moves →
    AllZip (λ p m. IsWide arcs (fine_signals signals) (first_of best) m p → ⊥) pairs slice → top ≡ track_top f.h (pair_uppers arcs (fine_signals signals) (first_of best) pairs slice) →
    pos 0 ≤ℤ top → top ≤ℤ pos (2 ^ 119) →
    slice ≡ moves → list ≡ moves → word ≡ top → second ≡ best.p2 → t ≡ track_tail_of_vectors fixed f.h list best word →
    (IsTrue fixed → IsSeparated (pos ratio) word second) → (IsSeparated (pos ratio) word second → IsTrue fixed) →
    ((z : List ℤ) → length z ≡ integers_of f → neg_ℤ (pos (2 ^ 63)) ≤ℤ value_of f z) → IsTold arcs signals pairs ratio f best t
vectors_told arcs signals pairs ratio fs f best moves list slice top word second fixed t some is two moves_are narrow bounded top_is from to slice_is list_is word_is second_is t_is there
    back values =
    record {
      decision = λ budget kept. subst (IsTrackDecision arcs ss pairs ratio budget) (sym same) (told_decision arcs ss pairs ratio budget f.h moves best top fixed (found budget kept) far near);
      by_ratio = λ budget kept. subst (IsTrackBestWhereFixed ratio arcs ss pairs) (sym same) (told_best arcs ss pairs ratio budget f.h moves best top fixed (found budget kept) far);
      fits = λ budget. subst (IsTrackTailOf ss arcs pairs budget) (sym same)
          (told_fits ss arcs pairs budget f.h moves best top fixed (track_vectors_fit arcs signals pairs moves best top fs f some is two moves_are narrow values from to));
    }
  where
    ss : List ℕ
    ss = fine_signals signals

    found : (budget : ℕ) → IsSearchedIn f budget best → AreFound arcs ss pairs budget f.h moves best top
    found budget kept = found_by arcs ss pairs budget moves best top fs f is two kept moves_are narrow
        (subst (λ (ms : List (List ℤ)). AllZip (λ p m. IsWide arcs ss (first_of best) m p → ⊥) pairs ms) slice_is bounded)
        (top_is ∙ ap (λ (ms : List (List ℤ)). track_top f.h (pair_uppers arcs ss (first_of best) pairs ms)) slice_is)

    same : t ≡ track_tail_of_vectors fixed f.h moves best top
    same = t_is ∙ (λ i. track_tail_of_vectors fixed f.h (list_is i) best (word_is i))

    far : IsTrue fixed → IsSeparated (pos ratio) top best.p2
    far holds = subst (λ (x : ℤ). IsSeparated (pos ratio) x best.p2) word_is (subst (λ (x : ℤ). IsSeparated (pos ratio) word x) second_is (there holds))

    near : IsSeparated (pos ratio) top best.p2 → IsTrue fixed
    near apart = back (subst (λ (x : ℤ). IsSeparated (pos ratio) word x) (sym second_is) (subst (λ (x : ℤ). IsSeparated (pos ratio) x best.p2) (sym word_is) apart))

-- one that ends with a number that is too large
pub wide_told : (arcs : List Arc) (ss : List ℕ) (pairs : List PairRows) (ratio budget : ℕ) (place where_is : Place) → place ≡ where_is → IsTrackWideAt arcs ss pairs budget where_is →
    IsTrackDecision arcs ss pairs ratio budget (Overwidth place)
wide_told arcs ss pairs ratio budget place where_is same wide = subst (IsTrackWideAt arcs ss pairs budget) (sym same) wide

-- one that ends before there is a form
pub refused_told : (arcs : List Arc) (ss : List ℕ) (pairs : List PairRows) (ratio budget : ℕ) (why : LowerFault) → IsFormRefused arcs ss pairs why →
    IsTrackDecision arcs ss pairs ratio budget (track_tail_of why)
refused_told arcs ss pairs ratio budget (fault.Weak column pivot) a = a
refused_told arcs ss pairs ratio budget (fault.Overwidth place) a = wide_refused arcs ss pairs budget place a

-- what holds of the track's arcs, signals and pairs holds of slices of them
pub of_slices : (P : List Arc → List ℕ → List PairRows → Type 0) (arcs ar : List Arc) (ss ts : List ℕ) (pairs ps : List PairRows) → ar ≡ arcs → ts ≡ ss → ps ≡ pairs → P arcs ss pairs → P ar ts ps
of_slices P arcs ar ss ts pairs ps e f g h = subst (λ (x : List Arc). P x ts ps) (sym e) (subst (λ (x : List ℕ). P arcs x ps) (sym f) (subst (λ (x : List PairRows). P arcs ss x) (sym g) h))

-- and back
pub over_track : (P : List Arc → List ℕ → List PairRows → Type 0) (arcs ar : List Arc) (ss ts : List ℕ) (pairs ps : List PairRows) → ar ≡ arcs → ts ≡ ss → ps ≡ pairs → P ar ts ps → P arcs ss pairs
over_track P arcs ar ss ts pairs ps e f g h = of_slices P ar arcs ts ss ps pairs (sym e) (sym f) (sym g) h
