-- Two sessions and two certificates with the same ordinary fields are the same.
use Rattle.std.proofs.Common.{◌≡◌, ◌≤◌, ℕ, length, All}
use mathlib.Core.HLevel.{is_prop→PathP}
use Rattle.std.proofs.Props.{props}
use Rattle.std.proofs.Math.Bridge.{le_prop}
use Rattle.obs_rows.specs.declared.sessions.Session.{Session}
use Rattle.obs_rows.specs.Ranges.{IsSystem, IsPoint, IsScale}
use Rattle.obs_rows.specs.Signals.{fine_signals}
use Rattle.cert_data.specs.declared.certs.Cert.{Cert}
use Rattle.cert_data.specs.Tails.{IsTailOf, IsTailOf-prop}
use Rattle.obs_rows.specs.Unused.{HasUsedShifts, HasUsedRows}
use Rattle.obs_rows.specs.Arcs.{AreArcs}
use Rattle.obs_rows.specs.Pairs.{ArePairs}
use Rattle.obs_rows.specs.declared.limits.TheConstants.{MOST_RATIO, MOST_BUDGET}
use Rattle.cert_lines.proofs.SameStructs.{system_prop, rows_prop, shifts_prop, scale_prop, point_prop, arcs_prop, pairs_prop}

pub fine_prop : (n : ℕ) → IsProp (n ≡ 0)
fine_prop n = Prim.hlevel props

pub session_same : (s t : Session) → s.scale ≡ t.scale → s.system ≡ t.system → s.base ≡ t.base → s.point ≡ t.point → s.signals ≡ t.signals → s.arcs ≡ t.arcs → s.pairs ≡ t.pairs → s ≡ t
session_same s t scale system base point signals arcs pairs = λ i. record {
  scale = scale i;
  system = system i;
  base = base i;
  point = point i;
  signals = signals i;
  arcs = arcs i;
  pairs = pairs i;
  scale_is = is_prop→PathP (λ j. IsScale (scale j)) (λ j. scale_prop (scale j)) s.scale_is t.scale_is i;
  system_is = is_prop→PathP (λ j. IsSystem (system j)) (λ j. system_prop (system j)) s.system_is t.system_is i;
  base_in = is_prop→PathP (λ j. IsPoint (base j)) (λ j. point_prop (base j)) s.base_in t.base_in i;
  point_in = is_prop→PathP (λ j. IsPoint (point j)) (λ j. point_prop (point j)) s.point_in t.point_in i;
  arcs_in = is_prop→PathP (λ j. AreArcs (arcs j)) (λ j. arcs_prop (arcs j)) s.arcs_in t.arcs_in i;
  some_pairs = is_prop→PathP (λ j. 1 ≤ length (pairs j)) (λ j. le_prop) s.some_pairs t.some_pairs i;
  pairs_in = is_prop→PathP (λ j. ArePairs (arcs j) (pairs j)) (λ j. pairs_prop (arcs j) (pairs j)) s.pairs_in t.pairs_in i;
  rows_used = is_prop→PathP (λ j. All (HasUsedRows (fine_signals (signals j))) (pairs j)) (λ j. rows_prop (fine_signals (signals j)) (pairs j)) s.rows_used t.rows_used i;
  shifts_used = is_prop→PathP (λ j. All (HasUsedShifts (fine_signals (signals j))) (arcs j)) (λ j. shifts_prop (fine_signals (signals j)) (arcs j)) s.shifts_used t.shifts_used i;
}

pub certs_same : (c d : Cert) → c.ratio ≡ d.ratio → c.budget ≡ d.budget → c.session ≡ d.session → c.tail ≡ d.tail → c ≡ d
certs_same c d ratio budget session tail = λ i. record {
  ratio = ratio i;
  budget = budget i;
  session = session i;
  tail = tail i;
  ratio_from = is_prop→PathP (λ j. 1000 ≤ ratio j) (λ j. le_prop) c.ratio_from d.ratio_from i;
  ratio_to = is_prop→PathP (λ j. ratio j ≤ MOST_RATIO) (λ j. le_prop) c.ratio_to d.ratio_to i;
  budget_from = is_prop→PathP (λ j. 1 ≤ budget j) (λ j. le_prop) c.budget_from d.budget_from i;
  budget_to = is_prop→PathP (λ j. budget j ≤ MOST_BUDGET) (λ j. le_prop) c.budget_to d.budget_to i;
  fine = is_prop→PathP (λ j. (session j).scale ≡ 0) (λ j. fine_prop (session j).scale) c.fine d.fine i;
  tail_fits =
      is_prop→PathP (λ j. IsTailOf (fine_signals (session j).signals) (session j).arcs (budget j) (tail j))
      (λ j. IsTailOf-prop (fine_signals (session j).signals) (session j).arcs (budget j) (tail j)) c.tail_fits d.tail_fits i;
}
