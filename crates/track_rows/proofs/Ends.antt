-- What a walk rests on when it begins, and what it leaves for a track.
use Rattle.std.proofs.Common.{◌≡◌, ℕ, ◌≤◌, Bool, List, [], ◌∷◌, pos, length, map, get_or, ℤ, arith, sym, ◌∙◌, refl, subst}
use Rattle.std.proofs.lemmas.List.Elements.{All-map}
use Rattle.obs_rows.specs.declared.arcs.Arc.{Arc}
use Rattle.obs_rows.specs.declared.pair_rows.PairRows.{PairRows}
use Rattle.obs_rows.specs.Arcs.{AreArcs}
use Rattle.obs_rows.specs.Pairs.{ArePairs}
use Rattle.slip_arcs.specs.Linked.{IsCutOf}
use Rattle.obs_rows.specs.declared.used.UsedPair.{UsedPair}
use Rattle.obs_rows.specs.declared.limits.TheConstants.{MOST_PAIRS}
use Rattle.round_steps.specs.Shifts.{AreSameArcs}
use Rattle.session.proofs.CutLaws.{cut_along}
use Rattle.session.proofs.RangeLaws.{arcs_along, no_shifts}
use Rattle.track_data.specs.declared.lost.Lost.{Lost}
use Rattle.track_rows.specs.PairRules.{TrackSetting, AreUnshifted}
use Rattle.track_rows.specs.Tracks.{unshifted}
use Rattle.track_rows.specs.Walks.{IsWalked}
use Rattle.track_rows.proofs.KeptArcs.{has_kept}
use Rattle.track_rows.proofs.SameArcs.{unshifted_same}

-- ---- the arcs without shifts
are_unshifted : (arcs : List Arc) → AreUnshifted (map unshifted arcs)
are_unshifted arcs = All-map (λ (a : Arc). a.shift ≡ pos 0 ∷ pos 0 ∷ pos 0 ∷ []) unshifted arcs (λ k d i. refl)

pub kept_unshifted : (arcs kept : List Arc) → kept ≡ map unshifted arcs → AreUnshifted kept
kept_unshifted arcs kept e = subst AreUnshifted (sym e) (are_unshifted arcs)

pub kept_cut : (used : List UsedPair) (arcs kept : List Arc) → kept ≡ map unshifted arcs → IsCutOf used arcs → IsCutOf used kept
kept_cut used arcs kept e cut = subst (IsCutOf used) (sym e) (cut_along used arcs (map unshifted arcs) (unshifted_same arcs) cut)

pub kept_arcs : (arcs kept : List Arc) → kept ≡ map unshifted arcs → AreArcs arcs → AreArcs kept
kept_arcs arcs kept e are = subst AreArcs (sym e) (arcs_along arcs (map unshifted arcs) (unshifted_same arcs) are (no_shifts (map unshifted arcs) (are_unshifted arcs)))

-- ---- the pairs of a track
pub walked_pairs : (t : TrackSetting) (count : ℕ) (arcs : List Arc) (begun : List Bool) (points : List (List ℤ)) (tracked : List PairRows) (lost : List Lost) →
    IsWalked t count arcs begun points tracked lost → count ≤ MOST_PAIRS → ArePairs arcs tracked
walked_pairs t count arcs begun points tracked lost w most = record {
  few = below (length tracked) w.few;
  rising = w.is_track.tracked_rise;
  rows_have_arcs = λ k d i. has_kept arcs t.kept (get_or tracked k d) (sym w.is_track.same) (w.fit.rows_have_arcs k d i);
}
  where
    below : (n : ℕ) → n ≤ count → n ≤ MOST_PAIRS
    below n h = omega (arith, h, most)

-- its arcs are those that were handed in
pub track_same : (arcs kept after now : List Arc) → kept ≡ map unshifted arcs → AreSameArcs kept after → now ≡ after → AreSameArcs arcs now
track_same arcs kept after now e same n =
    subst (AreSameArcs arcs) (sym n) (subst (λ (xs : List Arc). AreSameArcs xs after) e same ∙ unshifted_same arcs)
