-- With a greater budget the rows of a track are decided to say the same, unless the search ended without an answer.
use Rattle.std.proofs.Common.{◌≡◌, ℕ, ◌≤◌, List, ℤ, refl}
use Rattle.obs_rows.specs.declared.arcs.Arc.{Arc}
use Rattle.obs_rows.specs.declared.pair_rows.PairRows.{PairRows}
use Rattle.integer_form.specs.declared.form.Form.{Form}
use Rattle.integer_form.specs.declared.faults.Place.{Place}
use Rattle.integer_form.specs.declared.faults.Place.TheVariants as places
use Rattle.int_search.specs.declared.answer.TwoBest.{TwoBest}
use Rattle.int_search.proofs.EndLaws.{answers_more}
use Rattle.cert_data.specs.declared.verdicts.Verdict.TheVariants.{Certified}
use Rattle.cert_check.proofs.MoreBudget.{keeps_more}
use Rattle.track_data.specs.declared.tails.TrackTail.{TrackTail}
use Rattle.track_data.specs.declared.tails.TrackTail.TheVariants.{Fixed, Unseparated, Weak, Overwidth, Spent}
use Rattle.track_form.specs.SumDecided.{IsSearchedIn, AreFound, IsMoveWide, IsSumWide}
use Rattle.track_form.specs.Decided.{IsTrackWideAt, IsTrackDecision, IsFinal}
use Rattle.track_form.specs.Verdicts.{IsSaidOf, IsTrackVerdict}

searched_more : (f : Form) (n m : ℕ) (b : TwoBest) → n ≤ m → IsSearchedIn f n b → IsSearchedIn f m b
searched_more f n m b h is = (keeps_more f n m b h is.0, answers_more f n m h is.1)

found_more : (arcs : List Arc) (ss : List ℕ) (pairs : List PairRows) (n m h : ℕ) (moves : List (List ℤ)) (best : TwoBest) (top : ℤ) → n ≤ m → AreFound arcs ss pairs n h moves best top
    → AreFound arcs ss pairs m h moves best top
found_more arcs ss pairs n m h moves best top l a = record {
  fronts = a.fronts;
  form = a.form;
  of_rows = a.of_rows;
  h_is = a.h_is;
  best_is = a.best_is;
  visits = searched_more a.form n m best l a.visits;
  moves_are = a.moves_are;
  narrow = a.narrow;
  bounded = a.bounded;
  top_is = a.top_is;
}

move_more : (arcs : List Arc) (ss : List ℕ) (pairs : List PairRows) (n m : ℕ) → n ≤ m → IsMoveWide arcs ss pairs n → IsMoveWide arcs ss pairs m
move_more arcs ss pairs n m l a = record {
  fronts = a.fronts;
  form = a.form;
  of_rows = a.of_rows;
  best = a.best;
  best_is = a.best_is;
  visits = searched_more a.form n m a.best l a.visits;
  wide = a.wide;
}

sum_more : (arcs : List Arc) (ss : List ℕ) (pairs : List PairRows) (n m : ℕ) → n ≤ m → IsSumWide arcs ss pairs n → IsSumWide arcs ss pairs m
sum_more arcs ss pairs n m l a = record {
  fronts = a.fronts;
  form = a.form;
  of_rows = a.of_rows;
  best = a.best;
  best_is = a.best_is;
  visits = searched_more a.form n m a.best l a.visits;
  narrow = a.narrow;
  place = a.place;
  inside = a.inside;
  wide = a.wide;
}

wide_more : (arcs : List Arc) (ss : List ℕ) (pairs : List PairRows) (n m : ℕ) (at : Place) → n ≤ m → (at ≡ places.Search → ⊥) → IsTrackWideAt arcs ss pairs n at → IsTrackWideAt arcs ss pairs m at
wide_more arcs ss pairs n m places.Search l lasting is = absurd (lasting refl)
wide_more arcs ss pairs n m places.Float l lasting is = move_more arcs ss pairs n m l is
wide_more arcs ss pairs n m places.Sum l lasting is = sum_more arcs ss pairs n m l is
wide_more arcs ss pairs n m places.Y l lasting is = is
wide_more arcs ss pairs n m places.Factor l lasting is = is
wide_more arcs ss pairs n m places.Entry l lasting is = is
wide_more arcs ss pairs n m places.Point l lasting is = is

pub decision_more : (arcs : List Arc) (ss : List ℕ) (pairs : List PairRows) (ratio n m : ℕ) (t : TrackTail) → n ≤ m → IsFinal t → IsTrackDecision arcs ss pairs ratio n t
    → IsTrackDecision arcs ss pairs ratio m t
decision_more arcs ss pairs ratio n m (Fixed h moves best top) l lasting is = (found_more arcs ss pairs n m h moves best top l is.0, is.1)
decision_more arcs ss pairs ratio n m (Unseparated h moves best top) l lasting is = (found_more arcs ss pairs n m h moves best top l is.0, is.1)
decision_more arcs ss pairs ratio n m (Weak column pivot) l lasting is = is
decision_more arcs ss pairs ratio n m (Overwidth at) l lasting is = wide_more arcs ss pairs n m at l lasting is
decision_more arcs ss pairs ratio n m (Spent spent) l lasting is = absurd lasting

-- what a text is certified of lasts
certified_lasting : (d t : TrackTail) → IsSaidOf d t Certified → IsFinal d
certified_lasting (Fixed h moves best top) t said = tt
certified_lasting (Unseparated h moves best top) t said = tt
certified_lasting (Weak column pivot) t said = tt
certified_lasting (Overwidth at) t said = absurd (cc (said))
certified_lasting (Spent budget) t said = absurd (cc (said))

pub certified_more : (arcs : List Arc) (ss : List ℕ) (pairs : List PairRows) (ratio n m : ℕ) (t : TrackTail) → n ≤ m → IsTrackVerdict arcs ss pairs ratio n t Certified
    → IsTrackVerdict arcs ss pairs ratio m t Certified
certified_more arcs ss pairs ratio n m t l is = record {
  decided = is.decided;
  decision = decision_more arcs ss pairs ratio n m is.decided l (certified_lasting is.decided t is.said) is.decision;
  said = is.said;
}
