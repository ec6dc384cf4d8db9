-- A step of the walk: from what became of a pair to a track of one pair more.
use Rattle.std.proofs.Common.{◌≡◌, ℕ, ◌+◌, ◌≤◌, Bool, List, [], ◌∷◌, ◌++◌, length, replicate, ℤ, false, arith, sym, ap, ◌∙◌, subst}
use Rattle.std.proofs.lemmas.List.{length-replicate, length_push}
use Rattle.std.proofs.lemmas.Option.{same_Some}
use Rattle.std.proofs.lemmas.List.Elements.{All-nil, All-push}
use Rattle.obs_rows.specs.declared.arcs.Arc.{Arc}
use Rattle.obs_rows.specs.declared.pair_rows.PairRows.{PairRows}
use Rattle.obs_rows.specs.Arcs.{AreArcs}
use Rattle.obs_rows.specs.Pairs.{HasItsArcs}
use Rattle.obs_rows.specs.Ranges.{IsPoint}
use Rattle.obs_rows.specs.Signals.{fine_signals}
use Rattle.obs_rows.specs.Unused.{HasUsedRows}
use Rattle.session.proofs.RangeLaws.{none_unused}
use Rattle.track_data.specs.declared.lost.Lost.{Lost}
use Rattle.track_rows.specs.PairRules.{TrackSetting, AreUnshifted}
use Rattle.track_rows.specs.Trials.{flagged, AreTried, KeepsOthers, IsLost, IsTrackedBy, FitsTrack}
use Rattle.track_rows.specs.Tracks.{HasBegun}
use Rattle.track_rows.specs.Walks.{AreMarked, IsWalked}
use Rattle.track_rows.proofs.KeptArcs.{has_kept}
use Rattle.track_rows.proofs.Growth.{begun_row, row_begun, tried_along, tried_by, lost_by, no_pairs, lost_more, tracked_more}
use Rattle.track_rows.proofs.Marks.{no_flags, flags_more}

-- ---- before the first pair
pub first_walk : (t : TrackSetting) (begun : List Bool) → AreArcs t.kept → AreUnshifted t.kept →
    begun ≡ replicate (length t.kept) false → length begun ≡ length t.kept → IsWalked t 0 t.kept begun [] [] []
first_walk t begun arcs unshifted flags long = record {
  is_track = no_pairs t unshifted;
  flags = no_flags t.kept begun flags long;
  fit = record {
    arcs_in = arcs;
    shifts_used = none_unused (fine_signals t.signals) t.kept unshifted;
    points_in = All-nil IsPoint;
    rows_have_arcs = All-nil (HasItsArcs t.kept);
    rows_used = All-nil (HasUsedRows (fine_signals t.signals));
  };
  few = omega arith;
}

pub begun_walk : (t : TrackSetting) (kept arcs : List Arc) (begun : List Bool) (points : List (List ℤ)) (tracked : List PairRows) (lost : List Lost) →
    t.kept ≡ kept → AreArcs kept → AreUnshifted kept →
    arcs ≡ kept → begun ≡ replicate (length kept) false → points ≡ [] → tracked ≡ [] → lost ≡ [] → IsWalked t 0 arcs begun points tracked lost
begun_walk t kept arcs begun points tracked lost e are unshifted arcs_are flags no_points no_pair none_lost =
    let no_flags_yet : begun ≡ replicate (length t.kept) false = flags ∙ ap (λ (xs : List Arc). replicate (length xs) false) (sym e) in
    subst (λ (xs : List Arc). IsWalked t 0 xs begun points tracked lost) (e ∙ sym arcs_are)
    (subst (λ (xs : List (List ℤ)). IsWalked t 0 t.kept begun xs tracked lost) (sym no_points)
    (subst (λ (xs : List PairRows). IsWalked t 0 t.kept begun [] xs lost) (sym no_pair)
    (subst (λ (xs : List Lost). IsWalked t 0 t.kept begun [] [] xs) (sym none_lost)
    (first_walk t begun (subst AreArcs (sym e) are) (subst AreUnshifted (sym e) unshifted) no_flags_yet (ap length no_flags_yet ∙ length-replicate (length t.kept) false)))))

-- ---- a trial by the flags is one by the pairs that are tracked
along : (t : TrackSetting) (count : ℕ) (arcs : List Arc) (begun : List Bool) (points : List (List ℤ)) (tracked : List PairRows) (lost : List Lost) → IsWalked t count arcs begun points tracked lost →
    (point : List ℤ) (tried : List Arc) → AreTried t arcs (flagged begun) count point tried → AreTried t arcs (HasBegun t.kept tracked count) count point tried
along t count arcs begun points tracked lost w point tried h =
    tried_along t arcs arcs (flagged begun) (HasBegun t.kept tracked count) count point tried w.is_track.same w.is_track.same
    (λ k flag. row_begun t.kept tracked count k w.is_track.tracked_in ((w.flags.each k).0 flag))
    (λ k old. (w.flags.each k).1 (begun_row t.kept tracked count k old))
    (λ k a b is_a is_b flag. same_Some b a (sym is_b ∙ is_a)) h

-- ---- a pair that is lost
pub lost_step : (t : TrackSetting) (count : ℕ) (arcs : List Arc) (begun : List Bool) (points : List (List ℤ)) (tracked : List PairRows) (lost : List Lost) (new : Lost) →
    IsWalked t count arcs begun points tracked lost → new.pair ≡ count → IsLost t arcs (flagged begun) count new.cause → IsWalked t (count + 1) arcs begun points tracked (lost ++ new ∷ [])
lost_step t count arcs begun points tracked lost new w number is =
    let is_lost : IsLost t arcs (HasBegun t.kept tracked count) count new.cause =
    lost_by t arcs arcs (flagged begun) (HasBegun t.kept tracked count) count new.cause (along t count arcs begun points tracked lost w) is in
    record {
      is_track = lost_more t count arcs points tracked lost new w.is_track number (subst (λ (m : ℕ). IsLost t arcs (HasBegun t.kept tracked m) m new.cause) (sym number) is_lost);
      flags = w.flags;
      fit = w.fit;
      few = more (length tracked) w.few;
    }
  where
    more : (n : ℕ) → n ≤ count → n ≤ count + 1
    more n few_before = omega (arith, few_before)

-- ---- a pair that is tracked
pub tracked_step : (t : TrackSetting) (count : ℕ) (arcs next : List Arc) (begun flags : List Bool) (points : List (List ℤ)) (tracked : List PairRows)
    (lost : List Lost) (point : List ℤ) (new : PairRows) →
    IsWalked t count arcs begun points tracked lost → IsTrackedBy t arcs (flagged begun) count point new next → KeepsOthers arcs count next →
    FitsTrack t.signals point new next → AreMarked begun next count flags →
    IsWalked t (count + 1) next flags (points ++ point ∷ []) (tracked ++ new ∷ []) lost
tracked_step t count arcs next begun flags points tracked lost point new w is others fit marked =
    let is_tracked : IsTrackedBy t arcs (HasBegun t.kept tracked count) count point new next = record {
      is_tried = tried_by t arcs arcs (flagged begun) (HasBegun t.kept tracked count) count point next (along t count arcs begun points tracked lost w) is.is_tried;
      rows_are = is.rows_are;
      front = is.front;
    } in
    record {
      is_track = tracked_more t count arcs next points tracked lost point new w.is_track is_tracked others;
      flags = flags_more t.kept next tracked new begun flags is.is_tried.are_tried.same w.flags (subst (λ (m : ℕ). AreMarked begun next m flags) (sym is.rows_are.number) marked);
      fit = record {
        arcs_in = fit.arcs_in;
        shifts_used = fit.shifts_used;
        points_in = All-push IsPoint points point w.fit.points_in fit.point_in;
        rows_have_arcs = All-push (HasItsArcs t.kept) tracked new w.fit.rows_have_arcs (has_kept t.kept next new is.is_tried.are_tried.same fit.rows_have_arcs);
        rows_used = All-push (HasUsedRows (fine_signals t.signals)) tracked new w.fit.rows_used fit.rows_used;
      };
      few = more (length tracked) (length (tracked ++ new ∷ [])) (length_push tracked new) w.few;
    }
  where
    more : (n m : ℕ) → m ≡ n + 1 → n ≤ count → m ≤ count + 1
    more n m longer few_before = omega (arith, longer, few_before)
