-- The rows of a track have one decision.
use Rattle.std.proofs.Common.{◌≡◌, ◌⊎◌, inl, inr, ℕ, ◌<◌, List, [], ◌∷◌, length, map, get_or, All, Any, ℤ, pos, refl, sym, ap, ◌∙◌, subst, arith, Err}
use Rattle.std.specs.List.{AllZip}
use Rattle.std.proofs.lemmas.List.Elements.{All-map}
use Rattle.quadratic_form.specs.Elimination.{Refusal, weak, wide_factor, wide_entry}
use Rattle.obs_rows.specs.declared.arcs.Arc.{Arc}
use Rattle.obs_rows.specs.declared.pair_rows.PairRows.{PairRows}
use Rattle.integer_form.specs.declared.front_form.FrontForm.{FrontForm}
use Rattle.integer_form.specs.declared.form.Form.{Form}
use Rattle.integer_form.specs.declared.faults.LowerFault.{LowerFault}
use Rattle.integer_form.specs.declared.faults.LowerFault.TheVariants as fault
use Rattle.integer_form.specs.declared.faults.Place.{Place}
use Rattle.integer_form.specs.declared.faults.Place.TheVariants.{Y, Factor as FactorPlace, Entry, Float, Point, Search, Sum}
use Rattle.integer_form.specs.Factors.{stored}
use Rattle.integer_form.specs.FloatPoint.{HasWide}
use Rattle.integer_form.specs.ReportedRefusals.{fault_of}
use Rattle.int_search.specs.declared.answer.TwoBest.{TwoBest}
use Rattle.int_search.specs.Answers.{IsTwoBest}
use Rattle.int_search.specs.ReducedCounts.{HasAnswer, IsSearchEnd}
use Rattle.int_search.specs.declared.answer.SearchFault.{SearchFault}
use Rattle.int_search.specs.declared.answer.SearchFault.TheVariants.{Spent as SearchSpent, Overwidth as SearchOverwidth}
use Rattle.int_search.proofs.EndLaws.{HaveSameColumns, no_fault, same_fault, end_as}
use Rattle.fix_decide.specs.Widths.{IsWide}
use Rattle.fix_decide.specs.Decisions.{IsSeparated, first_of}
use Rattle.cert_check.specs.SameTails.{AreSameBest, AreSameNumbers}
use Rattle.cert_check.proofs.SameNumbers.{same_numbers}
use Rattle.cert_check.proofs.SameForms as sessions
use Rattle.track_data.specs.declared.tails.TrackTail.{TrackTail}
use Rattle.track_data.specs.declared.tails.TrackTail.TheVariants.{Fixed, Unseparated, Weak, Overwidth, Spent}
use Rattle.track_form.specs.Fronts.{track_top}
use Rattle.track_form.specs.PairFronts.{IsRefusedPair, HasFront, move_at}
use Rattle.track_form.specs.SumDecided.{IsTrackForm, IsFinishRefused, AreFound, IsMoveWide, IsSumWide, pair_uppers}
use Rattle.track_form.proofs.OneFront.{no_front}
use Rattle.track_form.proofs.OneForm.{SameForm, one_form, same_moves, no_fronts, no_form, one_first, one_finish}
use Rattle.track_form.specs.Decided.{IsFormRefused, track_tail_of, IsTrackWideAt, IsTrackDecision, IsSameTail}
use Rattle.track_form.proofs.Lists.{not_mapped, any_mapped, not_all_and_any}

-- ---- refusals
-- a refusal names one of two places
two_places : (place : Place) (r : Refusal) → fault.Overwidth place ≡ fault_of r → (place ≡ FactorPlace) ⊎ (place ≡ Entry)
two_places place (weak j a) e = absurd cc
two_places place wide_factor e = inl cc
two_places place wide_entry e = inr cc

pub some_pair : (pairs : List PairRows) (k : ℕ) → k < length pairs → PairRows
some_pair [] k l = absurd (omega (arith, l))
some_pair (p ∷ ps) k l = p

pair_told : (arcs : List Arc) (ss : List ℕ) (p : PairRows) (place : Place) → IsRefusedPair arcs ss p (fault.Overwidth place) → (place ≡ FactorPlace) ⊎ (place ≡ Entry)
pair_told arcs ss p place a = two_places place a.reported.0 a.reported.1.1

refused_place : (arcs : List Arc) (ss : List ℕ) (pairs : List PairRows) (place : Place) → IsFormRefused arcs ss pairs (fault.Overwidth place) → (place ≡ FactorPlace) ⊎ (place ≡ Entry)
refused_place arcs ss pairs place (inl a) = pair_told arcs ss _ place (a.refused (some_pair pairs a.place a.inside))
refused_place arcs ss pairs place (inr a) = two_places place a.reported.0 a.reported.1.1

other_place : (place : Place) → (place ≡ FactorPlace → ⊥) → (place ≡ Entry → ⊥) → (place ≡ FactorPlace) ⊎ (place ≡ Entry) → ⊥
other_place place f g (inl e) = f e
other_place place f g (inr e) = g e

-- no form is refused for another place
pub wide_refused : (arcs : List Arc) (ss : List ℕ) (pairs : List PairRows) (budget : ℕ) (place : Place) → IsFormRefused arcs ss pairs (fault.Overwidth place) → IsTrackWideAt arcs ss pairs budget place
wide_refused arcs ss pairs budget Y a = a
wide_refused arcs ss pairs budget FactorPlace a = a
wide_refused arcs ss pairs budget Entry a = a
wide_refused arcs ss pairs budget Float a = absurd (other_place Float (λ e. absurd cc) (λ e. absurd cc) (refused_place arcs ss pairs Float a))
wide_refused arcs ss pairs budget Point a = a
wide_refused arcs ss pairs budget Search a = absurd (other_place Search (λ e. absurd cc) (λ e. absurd cc) (refused_place arcs ss pairs Search a))
wide_refused arcs ss pairs budget Sum a = absurd (other_place Sum (λ e. absurd cc) (λ e. absurd cc) (refused_place arcs ss pairs Sum a))

-- one refusal
one_refusal : (arcs : List Arc) (ss : List ℕ) (pairs : List PairRows) (why too : LowerFault) → IsFormRefused arcs ss pairs why → IsFormRefused arcs ss pairs too → why ≡ too
one_refusal arcs ss pairs why too (inl a) (inl b) = one_first arcs ss pairs why too a b
one_refusal arcs ss pairs why too (inl a) (inr b) = absurd (no_fronts arcs ss pairs why b.fronts a b.of_fronts.of_pairs)
one_refusal arcs ss pairs why too (inr a) (inl b) = absurd (no_fronts arcs ss pairs too a.fronts b a.of_fronts.of_pairs)
one_refusal arcs ss pairs why too (inr a) (inr b) = one_finish arcs ss pairs why too a b

-- where each pair has a front, the finish of their sum is refused
pub finish_refused : (arcs : List Arc) (ss : List ℕ) (pairs : List PairRows) (why : LowerFault) → All (HasFront arcs ss) pairs → IsFormRefused arcs ss pairs why → IsFinishRefused arcs ss pairs why
finish_refused arcs ss pairs why fronts (inl a) =
    let refused_pair : PairRows = some_pair pairs a.place a.inside in
    let front : HasFront arcs ss (get_or pairs a.place refused_pair) = fronts a.place refused_pair a.inside in
    absurd (no_front arcs ss (get_or pairs a.place refused_pair) why front.0 (a.refused refused_pair) front.1)
finish_refused arcs ss pairs why fronts (inr a) = a

-- rows whose form is refused have none
none_refused : (arcs : List Arc) (ss : List ℕ) (pairs : List PairRows) (why : LowerFault) (fs : List FrontForm) (f : Form) → IsFormRefused arcs ss pairs why → IsTrackForm arcs ss pairs fs f → ⊥
none_refused arcs ss pairs why fs f (inl a) b = no_fronts arcs ss pairs why fs a b.of_fronts.of_pairs
none_refused arcs ss pairs why fs f (inr a) b = no_form arcs ss pairs why fs f a b

-- ---- one pair of least vectors, and one list of moves
-- the two least vectors of the rows' form, and the move of each pair at the first
record HaveMoves (arcs : List Arc) (ss : List ℕ) (pairs : List PairRows) (h : ℕ) (best : TwoBest) (moves : List (List ℤ)) : Type 0 where
  fronts : List FrontForm
  form : Form
  of_rows : IsTrackForm arcs ss pairs fronts form
  h_is : h ≡ form.h
  best_is : IsTwoBest form best
  moves_are : moves ≡ map (move_at (first_of best)) fronts

same_session : (arcs : List Arc) (ss : List ℕ) (pairs : List PairRows) (fs gs : List FrontForm) (f g : Form) → IsTrackForm arcs ss pairs fs f → IsTrackForm arcs ss pairs gs g → sessions.SameForm f g
same_session arcs ss pairs fs gs f g a b =
    let same : SameForm f g = one_form arcs ss pairs fs gs f g a b in
    let same_kept = a.of_fronts.kept ∙ sym b.of_fronts.kept in
    let same_factors = a.of_fronts.factors ∙ sym b.of_fronts.factors in
    let columns : a.sum.columns ≡ b.sum.columns = a.of_fronts.columns ∙ sym b.of_fronts.columns in
    record { h = same.h; columns = same.columns; baseline = a.finished.baseline ∙ (λ t. stored (same_kept t) (same_factors t) (columns t) 0 3) ∙ sym b.finished.baseline; form = same.form }

record SameMoves (h k : ℕ) (best other : TwoBest) (moves others : List (List ℤ)) : Type 0 where
  h_is : h ≡ k
  best_is : AreSameBest best other
  moves_are : moves ≡ others

one_moves : (arcs : List Arc) (ss : List ℕ) (pairs : List PairRows) (h k : ℕ) (best other : TwoBest) (moves others : List (List ℤ)) → HaveMoves arcs ss pairs h best moves →
    HaveMoves arcs ss pairs k other others →
    SameMoves h k best other moves others
one_moves arcs ss pairs h k best other moves others a b =
    let same : sessions.SameForm a.form b.form = same_session arcs ss pairs a.fronts b.fronts a.form b.form a.of_rows b.of_rows in
    let two : AreSameBest best other = sessions.same_best a.form b.form best other same a.best_is b.best_is in
    record {
      h_is = a.h_is ∙ same.h ∙ sym b.h_is;
      best_is = two;
      moves_are = a.moves_are ∙ same_moves arcs ss pairs a.fronts b.fronts (first_of best) a.of_rows.of_fronts.of_pairs b.of_rows.of_fronts.of_pairs
          ∙ ap (λ (z : List ℤ). map (move_at z) b.fronts) two.first_is ∙ sym b.moves_are;
    }

moves_found : (arcs : List Arc) (ss : List ℕ) (pairs : List PairRows) (budget h : ℕ) (moves : List (List ℤ)) (best : TwoBest) (top : ℤ) → AreFound arcs ss pairs budget h moves best top →
    HaveMoves arcs ss pairs h best moves
moves_found arcs ss pairs budget h moves best top a = record { fronts = a.fronts; form = a.form; of_rows = a.of_rows; h_is = a.h_is; best_is = a.best_is; moves_are = a.moves_are }

-- the moves where one is too wide
moves_wide : (arcs : List Arc) (ss : List ℕ) (pairs : List PairRows) (budget : ℕ) (a : IsMoveWide arcs ss pairs budget) →
    HaveMoves arcs ss pairs a.form.h a.best (map (move_at (first_of a.best)) a.fronts)
moves_wide arcs ss pairs budget a = record { fronts = a.fronts; form = a.form; of_rows = a.of_rows; h_is = refl; best_is = a.best_is; moves_are = refl }

-- and where an upper sum is
moves_summed : (arcs : List Arc) (ss : List ℕ) (pairs : List PairRows) (budget : ℕ) (a : IsSumWide arcs ss pairs budget) →
    HaveMoves arcs ss pairs a.form.h a.best (map (move_at (first_of a.best)) a.fronts)
moves_summed arcs ss pairs budget a = record { fronts = a.fronts; form = a.form; of_rows = a.of_rows; h_is = refl; best_is = a.best_is; moves_are = refl }

-- ---- what can't be together
-- a move that is too wide isn't another time narrow
no_move : (arcs : List Arc) (ss : List ℕ) (pairs : List PairRows) (budget h : ℕ) (best : TwoBest) (moves : List (List ℤ)) → IsMoveWide arcs ss pairs budget → HaveMoves arcs ss pairs h best moves →
    All (λ m. HasWide m → ⊥) moves → ⊥
no_move arcs ss pairs budget h best moves a b narrow =
    let wide : List (List ℤ) = map (move_at (first_of a.best)) a.fronts in
    let same : SameMoves a.form.h h a.best best wide moves = one_moves arcs ss pairs a.form.h h a.best best wide moves (moves_wide arcs ss pairs budget a) b in
    not_all_and_any HasWide moves narrow (subst (λ (ms : List (List ℤ)). Any HasWide ms) same.moves_are (any_mapped HasWide (move_at (first_of a.best)) a.fronts a.wide))

sum_narrow : (arcs : List Arc) (ss : List ℕ) (pairs : List PairRows) (budget : ℕ) (a : IsSumWide arcs ss pairs budget) → All (λ m. HasWide m → ⊥) (map (move_at (first_of a.best)) a.fronts)
sum_narrow arcs ss pairs budget a = All-map (λ m. HasWide m → ⊥) (move_at (first_of a.best)) a.fronts a.narrow

-- nor is an upper sum
no_sum : (arcs : List Arc) (ss : List ℕ) (pairs : List PairRows) (budget h : ℕ) (moves : List (List ℤ)) (best : TwoBest) (top : ℤ) → IsSumWide arcs ss pairs budget →
    AreFound arcs ss pairs budget h moves best top → ⊥
no_sum arcs ss pairs budget h moves best top a b =
    let wide : List (List ℤ) = map (move_at (first_of a.best)) a.fronts in
    let same : SameMoves a.form.h h a.best best wide moves =
    one_moves arcs ss pairs a.form.h h a.best best wide moves (moves_summed arcs ss pairs budget a) (moves_found arcs ss pairs budget h moves best top b) in
    let is_wide : List ℤ → List ℤ → PairRows → Type 0 = IsWide arcs ss in
    not_mapped (is_wide (first_of best)) (move_at (first_of a.best)) pairs a.fronts a.place a.inside
    (subst (λ (ms : List (List ℤ)). AllZip (λ p m. is_wide (first_of best) m p → ⊥) pairs ms) (sym same.moves_are) b.bounded)
    (λ p f. subst (λ (z : List ℤ). is_wide z (move_at (first_of a.best) (get_or a.fronts a.place f)) (get_or pairs a.place p)) same.best_is.first_is (a.wide p f))

-- ---- one decision
pub one_found : (arcs : List Arc) (ss : List ℕ) (pairs : List PairRows) (budget h k : ℕ) (moves others : List (List ℤ)) (best other : TwoBest) (top over : ℤ) →
    AreFound arcs ss pairs budget h moves best top → AreFound arcs ss pairs budget k others other over → AreSameNumbers h k moves others best other top over
one_found arcs ss pairs budget h k moves others best other top over a b =
    let same : SameMoves h k best other moves others =
    one_moves arcs ss pairs h k best other moves others (moves_found arcs ss pairs budget h moves best top a) (moves_found arcs ss pairs budget k others other over b) in
    record {
      h_is = same.h_is;
      moved_is = same.moves_are;
      best_is = same.best_is;
      top_is = a.top_is ∙ (λ t. track_top (same.h_is t) (pair_uppers arcs ss (same.best_is.first_is t) pairs (same.moves_are t))) ∙ sym b.top_is;
    }

-- a search that ends without an answer, as a tail
abbrev fault_tail : ℕ → SearchFault → TrackTail
fault_tail budget SearchSpent = Spent budget
fault_tail budget SearchOverwidth = Overwidth Search

-- the form of the rows, and that its search ends so
record IsGivenUp (arcs : List Arc) (ss : List ℕ) (pairs : List PairRows) (budget : ℕ) (e : SearchFault) : Type 0 where
  fronts : List FrontForm
  form : Form
  of_rows : IsTrackForm arcs ss pairs fronts form
  end : IsSearchEnd form budget (Err e)

same_columns : (arcs : List Arc) (ss : List ℕ) (pairs : List PairRows) (fs gs : List FrontForm) (f g : Form) → IsTrackForm arcs ss pairs fs f → IsTrackForm arcs ss pairs gs g → HaveSameColumns f g
same_columns arcs ss pairs fs gs f g a b = let same : SameForm f g = one_form arcs ss pairs fs gs f g a b in record { columns = same.columns; form = same.form }

no_answer : (arcs : List Arc) (ss : List ℕ) (pairs : List PairRows) (budget : ℕ) (e : SearchFault) (gs : List FrontForm) (g : Form) → IsGivenUp arcs ss pairs budget e → IsTrackForm arcs ss pairs gs g → HasAnswer g budget → ⊥
no_answer arcs ss pairs budget e gs g a of_rows answered = no_fault g budget e answered (end_as a.form g budget (Err e) (same_columns arcs ss pairs a.fronts gs a.form g a.of_rows of_rows) a.end)

one_fault : (arcs : List Arc) (ss : List ℕ) (pairs : List PairRows) (budget : ℕ) (e d : SearchFault) → IsGivenUp arcs ss pairs budget e → IsGivenUp arcs ss pairs budget d → e ≡ d
one_fault arcs ss pairs budget e d a b = same_fault b.form budget e d (end_as a.form b.form budget (Err e) (same_columns arcs ss pairs a.fronts b.fronts a.form b.form a.of_rows b.of_rows) a.end).1 b.end.1

-- where the decision ends
data Ends (arcs : List Arc) (ss : List ℕ) (pairs : List PairRows) (ratio budget : ℕ) (t : TrackTail) : Type 0 where
  given_up : (e : SearchFault) → IsGivenUp arcs ss pairs budget e → t ≡ fault_tail budget e → Ends arcs ss pairs ratio budget t
  refused : (why : LowerFault) → IsFormRefused arcs ss pairs why → t ≡ track_tail_of why → Ends arcs ss pairs ratio budget t
  wide_move : IsMoveWide arcs ss pairs budget → t ≡ Overwidth Float → Ends arcs ss pairs ratio budget t
  wide_sum : IsSumWide arcs ss pairs budget → t ≡ Overwidth Sum → Ends arcs ss pairs ratio budget t
  fixed : (h : ℕ) (moves : List (List ℤ)) (best : TwoBest) (top : ℤ) → AreFound arcs ss pairs budget h moves best top → IsSeparated (pos ratio) top best.p2 → t ≡ Fixed h moves best top →
      Ends arcs ss pairs ratio budget t
  near : (h : ℕ) (moves : List (List ℤ)) (best : TwoBest) (top : ℤ) → AreFound arcs ss pairs budget h moves best top → (IsSeparated (pos ratio) top best.p2 → ⊥) →
      t ≡ Unseparated h moves best top → Ends arcs ss pairs ratio budget t

ends : (arcs : List Arc) (ss : List ℕ) (pairs : List PairRows) (ratio budget : ℕ) (t : TrackTail) → IsTrackDecision arcs ss pairs ratio budget t → Ends arcs ss pairs ratio budget t
ends arcs ss pairs ratio budget (Fixed h moves best top) is = fixed h moves best top is.0 is.1 refl
ends arcs ss pairs ratio budget (Unseparated h moves best top) is = near h moves best top is.0 is.1 refl
ends arcs ss pairs ratio budget (Weak column pivot) is = refused (fault.Weak column pivot) is refl
ends arcs ss pairs ratio budget (Overwidth Y) is = refused (fault.Overwidth Y) is refl
ends arcs ss pairs ratio budget (Overwidth FactorPlace) is = refused (fault.Overwidth FactorPlace) is refl
ends arcs ss pairs ratio budget (Overwidth Entry) is = refused (fault.Overwidth Entry) is refl
ends arcs ss pairs ratio budget (Overwidth Float) is = wide_move is refl
ends arcs ss pairs ratio budget (Overwidth Point) is = refused (fault.Overwidth Point) is refl
ends arcs ss pairs ratio budget (Overwidth Search) is = given_up SearchOverwidth (record { fronts = is.fronts; form = is.form; of_rows = is.of_rows; end = is.ended.0 }) refl
ends arcs ss pairs ratio budget (Overwidth Sum) is = wide_sum is refl
ends arcs ss pairs ratio budget (Spent spent) is = given_up SearchSpent (record { fronts = is.1.fronts; form = is.1.form; of_rows = is.1.of_rows; end = is.1.ended.0 }) (ap Spent is.0)

-- the same numbers are as far apart
as_far : (ratio : ℕ) (h k : ℕ) (moves others : List (List ℤ)) (best other : TwoBest) (top over : ℤ) → AreSameNumbers h k moves others best other top over →
    IsSeparated (pos ratio) top best.p2 → IsSeparated (pos ratio) over other.p2
as_far ratio h k moves others best other top over same far =
    subst (λ (x : ℤ). IsSeparated (pos ratio) over x) same.best_is.p2_is (subst (λ (x : ℤ). IsSeparated (pos ratio) x best.p2) same.top_is far)

-- ---- tails that are the same
same_self : (t : TrackTail) → IsSameTail t t
same_self (Fixed h moves best top) = same_numbers h moves best top
same_self (Unseparated h moves best top) = same_numbers h moves best top
same_self (Weak column pivot) = (refl, refl)
same_self (Overwidth place) = refl
same_self (Spent budget) = refl

equal : (t u v : TrackTail) → t ≡ v → u ≡ v → IsSameTail t u
equal t u v e f = subst (λ (w : TrackTail). IsSameTail t w) (e ∙ sym f) (same_self t)

alike : (t u v w : TrackTail) → t ≡ v → u ≡ w → IsSameTail v w → IsSameTail t u
alike t u v w e f same = subst (λ (x : TrackTail). IsSameTail x u) (sym e) (subst (λ (x : TrackTail). IsSameTail v x) (sym f) same)

pair_up : (arcs : List Arc) (ss : List ℕ) (pairs : List PairRows) (ratio budget : ℕ) (t u : TrackTail) → Ends arcs ss pairs ratio budget t → Ends arcs ss pairs ratio budget u → IsSameTail t u
pair_up arcs ss pairs r n t u (given_up e a is) (given_up d b is_too) = equal t u (fault_tail n d) (is ∙ ap (fault_tail n) (one_fault arcs ss pairs n e d a b)) is_too
pair_up arcs ss pairs r n t u (given_up e a is) (refused why b is_too) = absurd (none_refused arcs ss pairs why a.fronts a.form b a.of_rows)
pair_up arcs ss pairs r n t u (given_up e a is) (wide_move b is_too) = absurd (no_answer arcs ss pairs n e b.fronts b.form a b.of_rows b.visits.1)
pair_up arcs ss pairs r n t u (given_up e a is) (wide_sum b is_too) = absurd (no_answer arcs ss pairs n e b.fronts b.form a b.of_rows b.visits.1)
pair_up arcs ss pairs r n t u (given_up e a is) (fixed h ms two top b far is_too) = absurd (no_answer arcs ss pairs n e b.fronts b.form a b.of_rows b.visits.1)
pair_up arcs ss pairs r n t u (given_up e a is) (near h ms two top b close is_too) = absurd (no_answer arcs ss pairs n e b.fronts b.form a b.of_rows b.visits.1)
pair_up arcs ss pairs r n t u (refused why a is) (given_up e b is_too) = absurd (none_refused arcs ss pairs why b.fronts b.form a b.of_rows)
pair_up arcs ss pairs r n t u (refused why a is) (refused too b is_too) = equal t u (track_tail_of too) (is ∙ ap track_tail_of (one_refusal arcs ss pairs why too a b)) is_too
pair_up arcs ss pairs r n t u (refused why a is) (wide_move b is_too) = absurd (none_refused arcs ss pairs why b.fronts b.form a b.of_rows)
pair_up arcs ss pairs r n t u (refused why a is) (wide_sum b is_too) = absurd (none_refused arcs ss pairs why b.fronts b.form a b.of_rows)
pair_up arcs ss pairs r n t u (refused why a is) (fixed h ms two top b far is_too) = absurd (none_refused arcs ss pairs why b.fronts b.form a b.of_rows)
pair_up arcs ss pairs r n t u (refused why a is) (near h ms two top b close is_too) = absurd (none_refused arcs ss pairs why b.fronts b.form a b.of_rows)
pair_up arcs ss pairs r n t u (wide_move a is) (given_up e b is_too) = absurd (no_answer arcs ss pairs n e a.fronts a.form b a.of_rows a.visits.1)
pair_up arcs ss pairs r n t u (wide_move a is) (refused why b is_too) = absurd (none_refused arcs ss pairs why a.fronts a.form b a.of_rows)
pair_up arcs ss pairs r n t u (wide_move a is) (wide_move b is_too) = equal t u (Overwidth Float) is is_too
pair_up arcs ss pairs r n t u (wide_move a is) (wide_sum b is_too) = absurd (no_move arcs ss pairs n b.form.h b.best _ a (moves_summed arcs ss pairs n b) (sum_narrow arcs ss pairs n b))
pair_up arcs ss pairs r n t u (wide_move a is) (fixed h ms two top b far is_too) = absurd (no_move arcs ss pairs n h two ms a (moves_found arcs ss pairs n h ms two top b) b.narrow)
pair_up arcs ss pairs r n t u (wide_move a is) (near h ms two top b close is_too) = absurd (no_move arcs ss pairs n h two ms a (moves_found arcs ss pairs n h ms two top b) b.narrow)
pair_up arcs ss pairs r n t u (wide_sum a is) (given_up e b is_too) = absurd (no_answer arcs ss pairs n e a.fronts a.form b a.of_rows a.visits.1)
pair_up arcs ss pairs r n t u (wide_sum a is) (refused why b is_too) = absurd (none_refused arcs ss pairs why a.fronts a.form b a.of_rows)
pair_up arcs ss pairs r n t u (wide_sum a is) (wide_move b is_too) = absurd (no_move arcs ss pairs n a.form.h a.best _ b (moves_summed arcs ss pairs n a) (sum_narrow arcs ss pairs n a))
pair_up arcs ss pairs r n t u (wide_sum a is) (wide_sum b is_too) = equal t u (Overwidth Sum) is is_too
pair_up arcs ss pairs r n t u (wide_sum a is) (fixed h ms two top b far is_too) = absurd (no_sum arcs ss pairs n h ms two top a b)
pair_up arcs ss pairs r n t u (wide_sum a is) (near h ms two top b close is_too) = absurd (no_sum arcs ss pairs n h ms two top a b)
pair_up arcs ss pairs r n t u (fixed h ms two top a far is) (given_up e b is_too) = absurd (no_answer arcs ss pairs n e a.fronts a.form b a.of_rows a.visits.1)
pair_up arcs ss pairs r n t u (fixed h ms two top a far is) (refused why b is_too) = absurd (none_refused arcs ss pairs why a.fronts a.form b a.of_rows)
pair_up arcs ss pairs r n t u (fixed h ms two top a far is) (wide_move b is_too) = absurd (no_move arcs ss pairs n h two ms b (moves_found arcs ss pairs n h ms two top a) a.narrow)
pair_up arcs ss pairs r n t u (fixed h ms two top a far is) (wide_sum b is_too) = absurd (no_sum arcs ss pairs n h ms two top b a)
pair_up arcs ss pairs r n t u (fixed h ms two top a far is) (fixed k ns other over b far_too is_too) =
    alike t u (Fixed h ms two top) (Fixed k ns other over) is is_too (one_found arcs ss pairs n h k ms ns two other top over a b)
pair_up arcs ss pairs r n t u (fixed h ms two top a far is) (near k ns other over b close is_too) =
    absurd (close (as_far r h k ms ns two other top over (one_found arcs ss pairs n h k ms ns two other top over a b) far))
pair_up arcs ss pairs r n t u (near h ms two top a close is) (given_up e b is_too) = absurd (no_answer arcs ss pairs n e a.fronts a.form b a.of_rows a.visits.1)
pair_up arcs ss pairs r n t u (near h ms two top a close is) (refused why b is_too) = absurd (none_refused arcs ss pairs why a.fronts a.form b a.of_rows)
pair_up arcs ss pairs r n t u (near h ms two top a close is) (wide_move b is_too) = absurd (no_move arcs ss pairs n h two ms b (moves_found arcs ss pairs n h ms two top a) a.narrow)
pair_up arcs ss pairs r n t u (near h ms two top a close is) (wide_sum b is_too) = absurd (no_sum arcs ss pairs n h ms two top b a)
pair_up arcs ss pairs r n t u (near h ms two top a close is) (fixed k ns other over b far is_too) =
    absurd (close (as_far r k h ns ms other two over top (one_found arcs ss pairs n k h ns ms other two over top b a) far))
pair_up arcs ss pairs r n t u (near h ms two top a close is) (near k ns other over b close_too is_too) =
    alike t u (Unseparated h ms two top) (Unseparated k ns other over) is is_too (one_found arcs ss pairs n h k ms ns two other top over a b)

pub one_decision : (arcs : List Arc) (ss : List ℕ) (pairs : List PairRows) (ratio budget : ℕ) (t u : TrackTail) → IsTrackDecision arcs ss pairs ratio budget t →
    IsTrackDecision arcs ss pairs ratio budget u → IsSameTail t u
one_decision arcs ss pairs ratio budget t u a b = pair_up arcs ss pairs ratio budget t u (ends arcs ss pairs ratio budget t a) (ends arcs ss pairs ratio budget u b)
