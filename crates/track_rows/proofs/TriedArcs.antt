-- The arcs with which a pair is tried, one by one.
use Rattle.std.proofs.Common.{◌≡◌, ℕ, ◌+◌, ◌<◌, ◌^◌, ⊎_elim, false, List, [], ◌∷◌, ◌++◌, length, get_or, All, Some, ℤ, unsigned_abs, arith, sym, ap, ◌∙◌, refl, subst}
use Rattle.std.specs.Prelude.{slice_get}
use Rattle.std.proofs.lemmas.Bool.{false≢true}
use Rattle.obs_rows.specs.declared.arcs.Arc.{Arc}
use Rattle.obs_rows.specs.Ranges.{IsBelow}
use Rattle.row_build.specs.HeldArcs.{holds_pair}
use Rattle.row_build.specs.Shifts.{AreFirstShifts}
use Rattle.round_steps.specs.Shifts.{AreSameArcs, without_shifts}
use Rattle.session.proofs.CutLaws.{Like, like}
use Rattle.track_rows.specs.PairRules.{TrackSetting, rows_setting}
use Rattle.track_rows.specs.Trials.{IsTriedArc, AreTried, KeepsOthers}
use Rattle.std.proofs.lemmas.List.{length_push}
use Rattle.whole_math.proofs.Lists.{push_get}
use Rattle.round_steps.proofs.ShiftLaws.{same_lists}

-- ---- one arc
pub begun_arc : (t : TrackSetting) (begun : Type 0) (pair : ℕ) (point : List ℤ) (a b : Arc) → b ≡ a → begun → IsTriedArc t begun pair point a b
begun_arc t begun pair point a b stays is = record { same = ap without_shifts stays; stayed = λ _. stays; other = λ _. stays; taken = λ _ fresh. absurd (fresh is) }

pub same_holds : (a b : Arc) (pair : ℕ) → without_shifts a ≡ without_shifts b → holds_pair a pair ≡ holds_pair b pair
same_holds a b pair same = ap (λ (x : Arc). holds_pair x pair) same

pub other_arc : (t : TrackSetting) (begun : Type 0) (pair : ℕ) (point : List ℤ) (arcs : List Arc) (k : ℕ) (a b : Arc) → AreSameArcs t.kept arcs → slice_get arcs k ≡ Some a → b ≡ a →
    ((c : Arc) → slice_get t.kept k ≡ Some c → holds_pair c pair ≡ false) → IsTriedArc t begun pair point a b
other_arc t begun pair point arcs k a b same is stays none =
    let like_arc : Like t.kept k a = like arcs t.kept (sym same) k a is in
    let off : holds_pair b pair ≡ false = ap (λ (x : Arc). holds_pair x pair) stays ∙ sym (same_holds like_arc.arc a pair like_arc.same) ∙ none like_arc.arc like_arc.arc_is in
    record { same = ap without_shifts stays; stayed = λ _. stays; other = λ _. stays; taken = λ holds _. absurd (false≢true (sym off ∙ holds)) }

pub taken_arc : (t : TrackSetting) (begun : Type 0) (pair : ℕ) (point : List ℤ) (arcs : List Arc) (k : ℕ) (a : Arc) (shift : List ℤ) →
    AreSameArcs t.kept arcs → slice_get arcs k ≡ Some a → (begun → ⊥) →
    ((c : Arc) → slice_get t.kept k ≡ Some c → holds_pair c pair ≡ false → ⊥) → ((c : Arc) → slice_get t.kept k ≡ Some c → AreFirstShifts (rows_setting t t.kept point 0) pair c.sat shift) →
    IsTriedArc t begun pair point a (record a { shift = shift })
taken_arc t begun pair point arcs k a shift same is fresh some near =
    let like_arc : Like t.kept k a = like arcs t.kept (sym same) k a is in
    record {
      same = refl;
      stayed = λ b. absurd (fresh b);
      other = λ off. absurd (some like_arc.arc like_arc.arc_is (same_holds like_arc.arc a pair like_arc.same ∙ off));
      taken = λ _ _. subst (λ (sat : ℕ). AreFirstShifts (rows_setting t t.kept point 0) pair sat shift) (ap (λ (x : Arc). x.sat) like_arc.same) (near like_arc.arc like_arc.arc_is);
    }

pub below_more : (shift : List ℤ) → All (IsBelow (2 ^ 39)) shift → All (IsBelow (2 ^ 40)) shift
below_more shift below = λ k d inside. more (unsigned_abs (get_or shift k d)) (below k d inside)
  where
    more : (n : ℕ) → n < 2 ^ 39 → n < 2 ^ 40
    more n less = omega arith

-- ---- the first n arcs
pub record AreTriedTo (t : TrackSetting) (arcs : List Arc) (begun : ℕ → Type 0) (pair : ℕ) (point : List ℤ) (n : ℕ) (tried : List Arc) : Type 0 where
  pub as_many : length tried ≡ n
  pub each : (k : ℕ) (a b : Arc) → slice_get arcs k ≡ Some a → slice_get tried k ≡ Some b → IsTriedArc t (begun k) pair point a b

pub more_tried : (t : TrackSetting) (arcs : List Arc) (begun : ℕ → Type 0) (pair : ℕ) (point : List ℤ) (n : ℕ) (tried after : List Arc) (x : Arc) →
    AreTriedTo t arcs begun pair point n tried → ((a : Arc) → slice_get arcs n ≡ Some a → IsTriedArc t (begun n) pair point a x) → after ≡ tried ++ x ∷ [] →
    AreTriedTo t arcs begun pair point (n + 1) after
more_tried t arcs begun pair point n tried after x so_far one pushed = record {
  as_many = ap length pushed ∙ length_push tried x ∙ ap (λ m. m + 1) so_far.as_many;
  each = λ k a b at there. ⊎_elim
      (λ (old : slice_get tried k ≡ Some b). so_far.each k a b at old)
      (λ (new : (k ≡ length tried) × (x ≡ b)).
      let last : n ≡ k = sym (new.0 ∙ so_far.as_many) in
      subst (λ (m : ℕ). IsTriedArc t (begun m) pair point a b) last
      (subst (λ (c : Arc). IsTriedArc t (begun n) pair point a c) new.1 (one a (ap (slice_get arcs) last ∙ at))))
      (push_get tried x b k (ap (λ l. slice_get l k) (sym pushed) ∙ there));
}

-- ---- all of them
pub same_tried : (t : TrackSetting) (arcs : List Arc) (begun : ℕ → Type 0) (pair : ℕ) (point : List ℤ) (n : ℕ) (tried : List Arc) →
    AreSameArcs t.kept arcs → n ≡ length arcs → AreTriedTo t arcs begun pair point n tried → AreSameArcs t.kept tried
same_tried t arcs begun pair point n tried same all so_far = same_lists arcs tried (so_far.as_many ∙ all) (λ k a b at there. (so_far.each k a b at there).same) ∙ same

pub all_tried : (t : TrackSetting) (arcs : List Arc) (begun : ℕ → Type 0) (pair : ℕ) (point : List ℤ) (n : ℕ) (tried : List Arc) →
    AreSameArcs t.kept arcs → n ≡ length arcs → AreTriedTo t arcs begun pair point n tried → AreTried t arcs begun pair point tried
all_tried t arcs begun pair point n tried same all so_far =
    let along : AreSameArcs arcs tried = same_lists arcs tried (so_far.as_many ∙ all) (λ k a b at there. (so_far.each k a b at there).same) in
    record {
      same = along ∙ same;
      stayed = λ k a b at there holds is. (so_far.each k a b at there).stayed is;
      taken = λ k b there holds fresh.
          let like_arc : Like arcs k b = like tried arcs (sym along) k b there in
          (so_far.each k like_arc.arc b like_arc.arc_is there).taken holds fresh;
    }

pub keeps_others : (t : TrackSetting) (arcs : List Arc) (begun : ℕ → Type 0) (pair : ℕ) (point : List ℤ) (n : ℕ) (tried : List Arc) →
    AreTriedTo t arcs begun pair point n tried → KeepsOthers arcs pair tried
keeps_others t arcs begun pair point n tried so_far k a b at there off = (so_far.each k a b at there).other off
