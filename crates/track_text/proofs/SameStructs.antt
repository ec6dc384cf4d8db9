-- Two tracks and two certificates with the same ordinary fields are the same.
use mathlib.Core.HLevel.{is_prop→PathP}
use Rattle.std.proofs.Props.{props}
use Rattle.std.proofs.Common.{◌≡◌, ◌≤◌, ℤ, List, length, All}
use Rattle.std.proofs.Math.Bridge.{le_prop}
use Rattle.std.proofs.Math.Nat.{ℕ_set}
use Rattle.obs_rows.specs.Arcs.{AreArcs}
use Rattle.obs_rows.specs.Pairs.{ArePairs}
use Rattle.obs_rows.specs.Ranges.{IsSystem, IsPoint}
use Rattle.obs_rows.specs.Signals.{fine_signals}
use Rattle.obs_rows.specs.Unused.{HasUsedRows, HasUsedShifts}
use Rattle.obs_rows.specs.declared.limits.TheConstants.{MOST_RATIO, MOST_BUDGET}
use Rattle.cert_lines.proofs.SameStructs.{system_prop, point_prop, arcs_prop, pairs_prop, rows_prop, shifts_prop}
use Rattle.track_data.specs.TrackTails.{IsTrackTailOf, IsTrackTailOf-prop}
use Rattle.track_data.specs.declared.tracks.Track.{Track}
use Rattle.track_data.specs.declared.certs.TrackCert.{TrackCert}

points_prop : (points : List (List ℤ)) → IsProp (All IsPoint points)
points_prop points = Prim.hlevel props

pub track_same : (s t : Track) → s.system ≡ t.system → s.base ≡ t.base → s.signals ≡ t.signals → s.arcs ≡ t.arcs → s.points ≡ t.points → s.pairs ≡ t.pairs → s ≡ t
track_same s t system base signals arcs points pairs = λ i. record {
  system = system i;
  base = base i;
  signals = signals i;
  arcs = arcs i;
  points = points i;
  pairs = pairs i;
  system_is = is_prop→PathP (λ j. IsSystem (system j)) (λ j. system_prop (system j)) s.system_is t.system_is i;
  base_in = is_prop→PathP (λ j. IsPoint (base j)) (λ j. point_prop (base j)) s.base_in t.base_in i;
  arcs_in = is_prop→PathP (λ j. AreArcs (arcs j)) (λ j. arcs_prop (arcs j)) s.arcs_in t.arcs_in i;
  points_in = is_prop→PathP (λ j. All IsPoint (points j)) (λ j. points_prop (points j)) s.points_in t.points_in i;
  point_each = is_prop→PathP (λ j. length (points j) ≡ length (pairs j)) (λ j. ℕ_set (length (points j)) (length (pairs j))) s.point_each t.point_each i;
  pairs_in = is_prop→PathP (λ j. ArePairs (arcs j) (pairs j)) (λ j. pairs_prop (arcs j) (pairs j)) s.pairs_in t.pairs_in i;
  rows_used = is_prop→PathP (λ j. All (HasUsedRows (fine_signals (signals j))) (pairs j)) (λ j. rows_prop (fine_signals (signals j)) (pairs j)) s.rows_used t.rows_used i;
  shifts_used = is_prop→PathP (λ j. All (HasUsedShifts (fine_signals (signals j))) (arcs j)) (λ j. shifts_prop (fine_signals (signals j)) (arcs j)) s.shifts_used t.shifts_used i;
}

pub certs_same : (c d : TrackCert) → c.ratio ≡ d.ratio → c.budget ≡ d.budget → c.track ≡ d.track → c.tail ≡ d.tail → c ≡ d
certs_same c d ratio budget track tail = λ i. record {
  ratio = ratio i;
  budget = budget i;
  track = track i;
  tail = tail i;
  ratio_from = is_prop→PathP (λ j. 1000 ≤ ratio j) (λ j. le_prop) c.ratio_from d.ratio_from i;
  ratio_to = is_prop→PathP (λ j. ratio j ≤ MOST_RATIO) (λ j. le_prop) c.ratio_to d.ratio_to i;
  budget_from = is_prop→PathP (λ j. 1 ≤ budget j) (λ j. le_prop) c.budget_from d.budget_from i;
  budget_to = is_prop→PathP (λ j. budget j ≤ MOST_BUDGET) (λ j. le_prop) c.budget_to d.budget_to i;
  some_pairs = is_prop→PathP (λ j. 1 ≤ length (track j).pairs) (λ j. le_prop) c.some_pairs d.some_pairs i;
  tail_fits =
      is_prop→PathP (λ j. IsTrackTailOf (fine_signals (track j).signals) (track j).arcs (track j).pairs (budget j) (tail j))
      (λ j. IsTrackTailOf-prop (fine_signals (track j).signals) (track j).arcs (track j).pairs (budget j) (tail j)) c.tail_fits d.tail_fits i;
}
