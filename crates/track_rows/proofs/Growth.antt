-- How a track grows by one pair, tracked or lost: so a walk over the pairs makes one.
use Rattle.std.proofs.Common.{◌≡◌, ◌≢◌, inl, inr, ⊎_elim, ℕ, ◌+◌, ◌<◌, true, false, Some, List, [], ◌∷◌, ◌++◌, length, get_or, All, Any, ℤ, arith, sym, ◌∙◌, refl, subst, ap}
use Rattle.std.specs.Prelude.{slice_get}
use Rattle.std.proofs.lemmas.Bool.{cases_eq, cases_Bool, false_from_ne_true}
use Rattle.std.proofs.lemmas.List.Elements.{All-push}
use Rattle.std.proofs.lemmas.List.Quantifiers.{Any-push, all_pairs_push}
use Rattle.std.proofs.lemmas.Option.{none-some, same_Some, slice_get_within, get_or_from_slice_get}
use Rattle.obs_rows.specs.declared.arcs.Arc.{Arc}
use Rattle.obs_rows.specs.declared.pair_rows.PairRows.{PairRows}
use Rattle.row_build.specs.HeldArcs.{holds_pair, IsHeld}
use Rattle.row_build.specs.Shifts.{AreFirstShifts}
use Rattle.row_build.proofs.Carried.{rows_carried}
use Rattle.round_steps.specs.Shifts.{AreSameArcs}
use Rattle.session.proofs.CutLaws.{Like, like}
use Rattle.track_data.specs.declared.lost.Lost.{Lost}
use Rattle.track_data.specs.declared.lost.LostCause.{LostCause}
use Rattle.track_data.specs.declared.lost.LostCause.TheVariants.{Rows, Coarse, Unsettled, Y, Weak, Wide}
use Rattle.track_rows.specs.PairRules.{TrackSetting, rows_setting}
use Rattle.track_rows.specs.Trials.{AreTried, KeepsOthers, IsTried, HasTriedRows, IsLost, IsTrackedBy}
use Rattle.track_rows.specs.Tracks.{no_shifts, HasRow, HasBegun, IsTrack}
use Rattle.std.proofs.lemmas.List.{length_push}
use Rattle.whole_math.proofs.Lists.{any_more, any_in, push_get}
use Rattle.row_boxes.proofs.Ys.{before_last}
use Rattle.track_rows.proofs.SameArcs.{held_in, held_back, agree_at}

-- ---- which arcs have begun
begun_before : (kept : List Arc) (tracked : List PairRows) (new : PairRows) (pair arc : ℕ) → pair < new.number → HasBegun kept (tracked ++ new ∷ []) pair arc → HasBegun kept tracked pair arc
begun_before kept tracked new pair arc less begun = ⊎_elim (λ (h : HasBegun kept tracked pair arc). h) (λ (h : (new.number < pair) × IsHeld kept new.number arc). absurd (omega (arith, less, h.0)))
    (any_in (λ (p : PairRows). (p.number < pair) × IsHeld kept p.number arc) tracked new begun)

begun_after : (kept : List Arc) (tracked : List PairRows) (new : PairRows) (pair arc : ℕ) → HasBegun kept tracked pair arc → HasBegun kept (tracked ++ new ∷ []) pair arc
begun_after kept tracked new pair arc begun = any_more (λ (p : PairRows). (p.number < pair) × IsHeld kept p.number arc) tracked new begun

begun_later : (kept : List Arc) (tracked : List PairRows) (pair later arc : ℕ) → pair < later → HasBegun kept tracked pair arc → HasBegun kept tracked later arc
begun_later kept tracked pair later arc less old = (old.0, old.1, old.2, old.3, (omega (arith, less, old.4.0), old.4.1))

-- where all tracked pairs come before, an arc has begun where it has a row
pub begun_row : (kept : List Arc) (tracked : List PairRows) (pair arc : ℕ) → HasBegun kept tracked pair arc → HasRow kept tracked arc
begun_row kept tracked pair arc begun = (begun.0, begun.1, begun.2, begun.3, begun.4.1)

pub row_begun : (kept : List Arc) (tracked : List PairRows) (count arc : ℕ) → All (λ p. p.number < count) tracked → HasRow kept tracked arc → HasBegun kept tracked count arc
row_begun kept tracked count arc before row =
    (row.0, row.1, row.2, row.3, (subst (λ (p : PairRows). p.number < count) row.3 (before row.0 row.1 row.2), row.4))

-- ---- the arcs after a pair
-- those that have begun before it stay as they are
pub record AreNext (t : TrackSetting) (arcs : List Arc) (tracked : List PairRows) (count : ℕ) (next : List Arc) : Type 0 where
  pub same : AreSameArcs t.kept arcs
  pub after : AreSameArcs t.kept next
  pub stays : (k : ℕ) (a b : Arc) → slice_get arcs k ≡ Some a → slice_get next k ≡ Some b → HasBegun t.kept tracked count k → b ≡ a

-- arcs with which a pair is tried are so after a later pair too
pub tried_along : (t : TrackSetting) (arcs next : List Arc) (begun begun' : ℕ → Type 0) (pair : ℕ) (point : List ℤ) (tried : List Arc) → AreSameArcs t.kept arcs → AreSameArcs t.kept next →
    ((k : ℕ) → begun k → begun' k) → ((k : ℕ) → begun' k → begun k) → ((k : ℕ) (a b : Arc) → slice_get arcs k ≡ Some a → slice_get next k ≡ Some b → begun k → b ≡ a) →
    AreTried t arcs begun pair point tried → AreTried t next begun' pair point tried
tried_along t arcs next begun begun' pair point tried same after up down stays h = record {
  same = h.same;
  stayed = λ k b c is_b is_c holds begun_k.
      let like_arc : Like arcs k b = like next arcs (same ∙ sym after) k b is_b in
      let same_arc : b ≡ like_arc.arc = stays k like_arc.arc b like_arc.arc_is is_b (down k begun_k) in
      h.stayed k like_arc.arc c like_arc.arc_is is_c (subst (λ (x : Arc). holds_pair x pair ≡ true) same_arc holds) (down k begun_k) ∙ sym same_arc;
  taken = λ k c is_c holds not_begun. h.taken k c is_c holds (λ (b : begun k). not_begun (up k b));
}

pub tried_by : (t : TrackSetting) (arcs next : List Arc) (begun begun' : ℕ → Type 0) (pair : ℕ) (point : List ℤ) (tried : List Arc) →
    ((point : List ℤ) (tried : List Arc) → AreTried t arcs begun pair point tried → AreTried t next begun' pair point tried) →
    IsTried t arcs begun pair point tried → IsTried t next begun' pair point tried
tried_by t arcs next begun begun' pair point tried along h = record { enough = h.enough; settles = h.settles; are_tried = along point tried h.are_tried }

rows_by : (t : TrackSetting) (arcs next : List Arc) (begun begun' : ℕ → Type 0) (pair : ℕ) (rows : PairRows) →
    ((point : List ℤ) (tried : List Arc) → AreTried t arcs begun pair point tried → AreTried t next begun' pair point tried) →
    HasTriedRows t arcs begun pair rows → HasTriedRows t next begun' pair rows
rows_by t arcs next begun begun' pair rows along h = record {
  point = h.point;
  tried = h.tried;
  is_tried = tried_by t arcs next begun begun' pair h.point h.tried along h.is_tried;
  rows_are = h.rows_are;
}

-- what is said of a lost pair holds after a later one too
pub lost_by : (t : TrackSetting) (arcs next : List Arc) (begun begun' : ℕ → Type 0) (pair : ℕ) (cause : LostCause) →
    ((point : List ℤ) (tried : List Arc) → AreTried t arcs begun pair point tried → AreTried t next begun' pair point tried) → IsLost t arcs begun pair cause → IsLost t next begun' pair cause
lost_by t arcs next begun begun' pair Rows along l = l
lost_by t arcs next begun begun' pair Coarse along l = l
lost_by t arcs next begun begun' pair Unsettled along l = l
lost_by t arcs next begun begun' pair Y along l = record { point = l.point; tried = l.tried; is_tried = tried_by t arcs next begun begun' pair l.point l.tried along l.is_tried; far = l.far }
lost_by t arcs next begun begun' pair Weak along l = record {
  rows = l.rows;
  rows_are = rows_by t arcs next begun begun' pair l.rows along l.rows_are;
  column = l.column;
  pivot = l.pivot;
  refused = l.refused;
}
lost_by t arcs next begun begun' pair Wide along l = record { rows = l.rows; rows_are = rows_by t arcs next begun begun' pair l.rows along l.rows_are; place = l.place; refused = l.refused }

lost_still : (t : TrackSetting) (count : ℕ) (arcs next : List Arc) (tracked : List PairRows) (new : PairRows) (l : Lost) → AreNext t arcs tracked count next → new.number ≡ count → l.pair < count →
    IsLost t arcs (HasBegun t.kept tracked l.pair) l.pair l.cause → IsLost t next (HasBegun t.kept (tracked ++ new ∷ []) l.pair) l.pair l.cause
lost_still t count arcs next tracked new l n number less is =
    let still_begun : (k : ℕ) → HasBegun t.kept tracked l.pair k → HasBegun t.kept (tracked ++ new ∷ []) l.pair k = λ k b. begun_after t.kept tracked new l.pair k b in
    let down : (k : ℕ) → HasBegun t.kept (tracked ++ new ∷ []) l.pair k → HasBegun t.kept tracked l.pair k =
    λ k b. begun_before t.kept tracked new l.pair k (subst (λ (m : ℕ). l.pair < m) (sym number) less) b in
    lost_by t arcs next (HasBegun t.kept tracked l.pair) (HasBegun t.kept (tracked ++ new ∷ []) l.pair) l.pair l.cause
    (λ point tried h. tried_along t arcs next (HasBegun t.kept tracked l.pair) (HasBegun t.kept (tracked ++ new ∷ []) l.pair) l.pair point tried n.same n.after still_begun down
    (λ k a b is_a is_b begun. n.stays k a b is_a is_b (begun_later t.kept tracked l.pair count k less begun)) h) is

-- the arcs of an earlier tracked pair have begun, so they are the same
same_at : (t : TrackSetting) (count : ℕ) (arcs next : List Arc) (tracked : List PairRows) (i : ℕ) (p : PairRows) → AreNext t arcs tracked count next → slice_get tracked i ≡ Some p → p.number < count →
    (k : ℕ) (a b : Arc) → slice_get arcs k ≡ Some a → slice_get next k ≡ Some b → holds_pair a p.number ≡ true → b ≡ a
same_at t count arcs next tracked i p n is_p less k a b is_a is_b holds =
    n.stays k a b is_a is_b (i, p, slice_get_within tracked i p is_p, get_or_from_slice_get tracked i p p is_p, (less, held_in t.kept arcs p.number k a n.same is_a holds))

tracked_still : (t : TrackSetting) (count : ℕ) (arcs next : List Arc) (tracked : List PairRows) (new : PairRows) (i : ℕ) (point : List ℤ) (p : PairRows) →
    AreNext t arcs tracked count next → new.number ≡ count →
    slice_get tracked i ≡ Some p → p.number < count → IsTrackedBy t arcs (HasBegun t.kept tracked p.number) p.number point p arcs →
    IsTrackedBy t next (HasBegun t.kept (tracked ++ new ∷ []) p.number) p.number point p next
tracked_still t count arcs next tracked new i point p n number is_p less is = record {
  is_tried = record {
    enough = is.is_tried.enough;
    settles = is.is_tried.settles;
    are_tried = record {
      same = n.after;
      stayed = λ k b c is_b is_c holds begun. same_Some c b (sym is_c ∙ is_b);
      taken = λ k b is_b holds not_begun.
          let like_arc : Like arcs k b = like next arcs (n.same ∙ sym n.after) k b is_b in
          let held : holds_pair like_arc.arc p.number ≡ true = held_back t.kept arcs p.number k like_arc.arc n.same like_arc.arc_is (held_in t.kept next p.number k b n.after is_b holds) in
          let same_arc : b ≡ like_arc.arc = same k like_arc.arc b like_arc.arc_is is_b held in
          subst (λ (x : Arc). AreFirstShifts (rows_setting t t.kept point 0) p.number x.sat x.shift) (sym same_arc)
          (is.is_tried.are_tried.taken k like_arc.arc like_arc.arc_is held (λ (old : HasBegun t.kept tracked p.number k). not_begun (begun_after t.kept tracked new p.number k old)));
    };
  };
  rows_are = rows_carried t.boxes arcs next t.position point t.signals 0 p.number p (agree_at p.number arcs next (n.after ∙ sym n.same) same) is.rows_are;
  front = is.front;
}
  where
    same : (k : ℕ) (a b : Arc) → slice_get arcs k ≡ Some a → slice_get next k ≡ Some b → holds_pair a p.number ≡ true → b ≡ a
    same = same_at t count arcs next tracked i p n is_p less

-- ---- no pair
pub no_pairs : (t : TrackSetting) → All (λ a. a.shift ≡ no_shifts) t.kept → IsTrack t 0 t.kept [] [] []
no_pairs t none = record {
  same = refl;
  point_each = refl;
  are_tracked = λ i point p point_is pair_is. absurd (none-some p pair_is);
  are_lost = λ k d i. absurd (omega (arith, i));
  each = λ pair inside. absurd (omega (arith, inside));
  apart = λ k d i. absurd (omega (arith, i));
  tracked_in = λ k d i. absurd (omega (arith, i));
  lost_in = λ k d i. absurd (omega (arith, i));
  tracked_rise = λ i j d a b. absurd (omega (arith, b));
  lost_rise = λ i j d a b. absurd (omega (arith, b));
  untouched = λ k a is free. subst (λ (x : Arc). x.shift ≡ no_shifts) (get_or_from_slice_get t.kept k a a is) (none k a (slice_get_within t.kept k a is));
}

-- ---- a pair that is lost

later : (count n : ℕ) → n < count → n < count + 1
later count n h = omega (arith, h)

last : (count n : ℕ) → n ≡ count → n < count + 1
last count n h = omega (arith, h)

apart_from : (count n m : ℕ) → n ≡ count → m < count → n ≡ m → ⊥
apart_from count n m h l e = omega (arith, h, l, e)

pub lost_more : (t : TrackSetting) (count : ℕ) (arcs : List Arc) (points : List (List ℤ)) (tracked : List PairRows) (lost : List Lost) (new : Lost) →
    IsTrack t count arcs points tracked lost → new.pair ≡ count → IsLost t arcs (HasBegun t.kept tracked new.pair) new.pair new.cause → IsTrack t (count + 1) arcs points tracked (lost ++ new ∷ [])
lost_more t count arcs points tracked lost new is number cause = record {
  same = is.same;
  point_each = is.point_each;
  are_tracked = is.are_tracked;
  are_lost = All-push (λ (l : Lost). IsLost t arcs (HasBegun t.kept tracked l.pair) l.pair l.cause) lost new is.are_lost cause;
  each = λ pair inside. ⊎_elim
      (λ (e : pair ≡ count). inr (Any-push (λ (l : Lost). l.pair ≡ pair) lost new (number ∙ sym e)))
      (λ (e : pair ≡ count → ⊥). ⊎_elim (λ (a : Any (λ (p : PairRows). p.number ≡ pair) tracked). inl a)
      (λ (b : Any (λ (l : Lost). l.pair ≡ pair) lost). inr (any_more (λ (l : Lost). l.pair ≡ pair) lost new b))
      (is.each pair (before_last pair count inside e)))
      (cases_eq pair count);
  apart = λ k d i. All-push (λ (l : Lost). l.pair ≢ (get_or tracked k d).number) lost new (is.apart k d i)
      (λ (e : new.pair ≡ (get_or tracked k d).number). apart_from count new.pair (get_or tracked k d).number number (is.tracked_in k d i) e);
  tracked_in = λ k d i. later count (get_or tracked k d).number (is.tracked_in k d i);
  lost_in = All-push (λ (l : Lost). l.pair < count + 1) lost new (λ k d i. later count (get_or lost k d).pair (is.lost_in k d i)) (last count new.pair number);
  tracked_rise = is.tracked_rise;
  lost_rise = all_pairs_push (λ (k l : Lost). k.pair < l.pair) lost new is.lost_rise (λ k d i. subst (λ (m : ℕ). (get_or lost k d).pair < m) (sym number) (is.lost_in k d i));
  untouched = is.untouched;
}

-- ---- a pair that is tracked
-- the new pair itself
tracked_new : (t : TrackSetting) (count : ℕ) (arcs next : List Arc) (tracked : List PairRows) (point : List ℤ) (new : PairRows) → AreNext t arcs tracked count next → new.number ≡ count →
    IsTrackedBy t arcs (HasBegun t.kept tracked count) count point new next → IsTrackedBy t next (HasBegun t.kept (tracked ++ new ∷ []) count) count point new next
tracked_new t count arcs next tracked point new n number by = record {
  is_tried = record {
    enough = by.is_tried.enough;
    settles = by.is_tried.settles;
    are_tried = record {
      same = n.after;
      stayed = λ k b c is_b is_c holds begun. same_Some c b (sym is_c ∙ is_b);
      taken = λ k b is_b holds not_begun. by.is_tried.are_tried.taken k b is_b holds (λ (old : HasBegun t.kept tracked count k). not_begun (begun_after t.kept tracked new count k old));
    };
  };
  rows_are = by.rows_are;
  front = by.front;
}

pub tracked_more : (t : TrackSetting) (count : ℕ) (arcs next : List Arc) (points : List (List ℤ)) (tracked : List PairRows) (lost : List Lost) (point : List ℤ) (new : PairRows) →
    IsTrack t count arcs points tracked lost → IsTrackedBy t arcs (HasBegun t.kept tracked count) count point new next → KeepsOthers arcs count next →
    IsTrack t (count + 1) next (points ++ point ∷ []) (tracked ++ new ∷ []) lost
tracked_more t count arcs next points tracked lost point new is by others = record {
  same = n.after;
  point_each = length_push points point ∙ ap (λ (m : ℕ). m + 1) is.point_each ∙ sym (length_push tracked new);
  are_tracked = λ i q p point_is pair_is. ⊎_elim
      (λ (old : slice_get tracked i ≡ Some p). tracked_still t count arcs next tracked new i q p n number old (earlier i p old) (is.are_tracked i q p (old_point i q p old point_is) old))
      (λ (fresh : (i ≡ length tracked) × (new ≡ p)). subst (λ (x : PairRows). IsTrackedBy t next (HasBegun t.kept (tracked ++ new ∷ []) x.number) x.number q x next) fresh.1
      (subst (λ (m : ℕ). IsTrackedBy t next (HasBegun t.kept (tracked ++ new ∷ []) m) m q new next) (sym number)
      (subst (λ (x : List ℤ). IsTrackedBy t next (HasBegun t.kept (tracked ++ new ∷ []) count) count x new next) (new_point i q fresh.0 point_is)
      (tracked_new t count arcs next tracked point new n number by))))
      (push_get tracked new p i pair_is);
  are_lost = λ k d i. lost_still t count arcs next tracked new (get_or lost k d) n number (is.lost_in k d i) (is.are_lost k d i);
  each = λ pair inside. ⊎_elim
      (λ (e : pair ≡ count). inl (Any-push (λ (p : PairRows). p.number ≡ pair) tracked new (number ∙ sym e)))
      (λ (e : pair ≡ count → ⊥). ⊎_elim (λ (a : Any (λ (p : PairRows). p.number ≡ pair) tracked). inl (any_more (λ (p : PairRows). p.number ≡ pair) tracked new a))
      (λ (b : Any (λ (l : Lost). l.pair ≡ pair) lost). inr b)
      (is.each pair (before_last pair count inside e)))
      (cases_eq pair count);
  apart = All-push (λ (p : PairRows). All (λ (l : Lost). l.pair ≢ p.number) lost) tracked new is.apart
      (λ k d i. λ (e : (get_or lost k d).pair ≡ new.number). apart_from count new.number (get_or lost k d).pair number (is.lost_in k d i) (sym e));
  tracked_in = All-push (λ (p : PairRows). p.number < count + 1) tracked new (λ k d i. later count (get_or tracked k d).number (is.tracked_in k d i)) (last count new.number number);
  lost_in = λ k d i. later count (get_or lost k d).pair (is.lost_in k d i);
  tracked_rise = all_pairs_push (λ (p q : PairRows). p.number < q.number) tracked new is.tracked_rise (λ k d i. subst (λ (m : ℕ). (get_or tracked k d).number < m) (sym number) (is.tracked_in k d i));
  lost_rise = is.lost_rise;
  untouched = λ k b is_b free.
      let like_arc : Like arcs k b = like next arcs (n.same ∙ sym n.after) k b is_b in
      let away : holds_pair like_arc.arc count ≡ false = false_from_ne_true (holds_pair like_arc.arc count) (λ holds. free (Any-push (λ (p : PairRows). IsHeld t.kept p.number k) tracked new
      (subst (λ (m : ℕ). IsHeld t.kept m k) (sym number) (held_in t.kept arcs count k like_arc.arc n.same like_arc.arc_is holds)))) in
      let same_arc : b ≡ like_arc.arc = others k like_arc.arc b like_arc.arc_is is_b away in
      ap (λ (x : Arc). x.shift) same_arc ∙ is.untouched k like_arc.arc like_arc.arc_is (λ (some : HasRow t.kept tracked k). free (any_more (λ (p : PairRows). IsHeld t.kept p.number k) tracked new some));
}
  where
    number : new.number ≡ count
    number = by.rows_are.number

    n : AreNext t arcs tracked count next
    n = record {
      same = is.same;
      after = by.is_tried.are_tried.same;
      stays = λ k a b is_a is_b begun. ⊎_elim (λ (h : holds_pair a count ≡ true). by.is_tried.are_tried.stayed k a b is_a is_b h begun)
          (λ (h : holds_pair a count ≡ false). others k a b is_a is_b h) (cases_Bool (holds_pair a count));
    }

    earlier : (i : ℕ) (p : PairRows) → slice_get tracked i ≡ Some p → p.number < count
    earlier i p e = subst (λ (x : PairRows). x.number < count) (get_or_from_slice_get tracked i p p e) (is.tracked_in i p (slice_get_within tracked i p e))

    both : (i n m : ℕ) → i ≡ n → n ≡ m → i < m → ⊥
    both i n m p q l = omega (arith, p, q, l)

    -- a point stands where its pair does
    old_point : (i : ℕ) (q : List ℤ) (p : PairRows) → slice_get tracked i ≡ Some p → slice_get (points ++ point ∷ []) i ≡ Some q → slice_get points i ≡ Some q
    old_point i q p old e = ⊎_elim (λ (h : slice_get points i ≡ Some q). h)
        (λ (h : (i ≡ length points) × (point ≡ q)). absurd (both i (length points) (length tracked) h.0 is.point_each (slice_get_within tracked i p old)))
        (push_get points point q i e)

    new_point : (i : ℕ) (q : List ℤ) → i ≡ length tracked → slice_get (points ++ point ∷ []) i ≡ Some q → point ≡ q
    new_point i q last there = ⊎_elim
        (λ (old : slice_get points i ≡ Some q). absurd (apart_from (length points) i i (last ∙ sym is.point_each) (slice_get_within points i q old) refl))
        (λ (fresh : (i ≡ length points) × (point ≡ q)). fresh.1)
        (push_get points point q i there)
