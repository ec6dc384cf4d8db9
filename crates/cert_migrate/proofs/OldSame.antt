-- A certificate of the present types carries one of version 1 at most.
use Rattle.std.proofs.Common.{◌≡◌, ◌^◌, ◌<◌, ◌≤◌, ℤ, List, length, All, IsTrue, unsigned_abs, sym, ◌∙◌}
use mathlib.Core.HLevel.{is_prop→PathP}
use Rattle.std.proofs.Props.{props}
use Rattle.std.specs.List.{AllPairs}
use Rattle.std.proofs.Math.Bridge.{le_prop}
use Rattle.obs_rows.specs.declared.rows.Row.{Row}
use Rattle.obs_rows.specs.declared.pair_rows.PairRows.{PairRows}
use Rattle.obs_rows.specs.declared.sessions.Session.{Session}
use Rattle.obs_rows.specs.Ranges.{IsWithin}
use Rattle.obs_rows.specs.declared.limits.TheConstants.{MOST_RATIO, MOST_BUDGET, MOST_PAIRS, MOST_SATELLITES}
use Rattle.int_search.specs.declared.answer.TwoBest.{TwoBest}
use Rattle.integer_form.specs.Kept.{IsZeroFrom}
use Rattle.cert_data.specs.declared.tails.Tail.{Tail}
use Rattle.cert_data.specs.declared.tails.Tail.TheVariants as now
use Rattle.cert_data.specs.declared.certs.Cert.{Cert}
use Rattle.cert_lines.proofs.SameStructs.{within_prop, true_prop}
use Rattle.cert_text.proofs.SameVectors.{zero_prop}
use Rattle.cert_text.proofs.SameStructs.{fine_prop}
use Rattle.cert_migrate.specs.declared.old_arcs.OldArc.{OldArc}
use Rattle.cert_migrate.specs.declared.old_rows.OldRow.{OldRow}
use Rattle.cert_migrate.specs.declared.old_pairs.OldPair.{OldPair}
use Rattle.cert_migrate.specs.declared.old_sessions.OldSignals.{OldSignals}
use Rattle.cert_migrate.specs.declared.old_sessions.OldSession.{OldSession}
use Rattle.cert_migrate.specs.declared.old_tails.OldBest.{OldBest}
use Rattle.cert_migrate.specs.declared.old_tails.OldTail.{OldTail}
use Rattle.cert_migrate.specs.declared.old_tails.OldTail.TheVariants.{Fixed, Unseparated}
use Rattle.cert_migrate.specs.declared.old_certs.OldCert.{OldCert}
use Rattle.cert_migrate.specs.OldRanges.{IsOldRadius, IsOldPoint, is_old_l1, is_old_l2}
use Rattle.cert_migrate.specs.OldArcs.{AreOldArcs}
use Rattle.cert_migrate.specs.OldPairs.{AreOldPairs}
use Rattle.cert_migrate.specs.OldTails.{IsOldTailOf, IsOldTailOf-prop}
use Rattle.cert_migrate.specs.Carriers.{IsRowOf, IsPairOf, IsSessionOf, IsBestOf, IsEndOf, IsCarrierOf}
use Rattle.cert_migrate.proofs.ListZips.{zip_same}

radius_prop : (z : ℤ) → IsProp (IsOldRadius z)
radius_prop z = Prim.hlevel props

radii_prop : (zs : List ℤ) → IsProp (All IsOldRadius zs)
radii_prop zs = Prim.hlevel props

rise_prop : (rows : List OldRow) → IsProp (AllPairs (λ r s. r.arc < s.arc) rows)
rise_prop rows = Prim.hlevel props

point_prop : (p : List ℤ) → IsProp (IsOldPoint p)
point_prop p = Prim.hlevel props

arcs_prop : (arcs : List OldArc) → IsProp (AreOldArcs arcs)
arcs_prop arcs = Prim.hlevel props

pairs_prop : (arcs : List OldArc) (pairs : List OldPair) → IsProp (AreOldPairs arcs pairs)
pairs_prop arcs pairs = Prim.hlevel props

row_same : (r s : OldRow) → r.arc ≡ s.arc → r.y ≡ s.y → r.ry ≡ s.ry → r.u ≡ s.u → r.ru ≡ s.ru → r ≡ s
row_same r s arc y ry u ru = λ i. record {
  arc = arc i;
  y = y i;
  ry = ry i;
  u = u i;
  ru = ru i;
  y_in = is_prop→PathP (λ j. All (IsWithin (2 ^ 34)) (y j)) (λ j. within_prop (2 ^ 34) (y j)) r.y_in s.y_in i;
  ry_in = is_prop→PathP (λ j. IsOldRadius (ry j)) (λ j. radius_prop (ry j)) r.ry_in s.ry_in i;
  u_in = is_prop→PathP (λ j. All (IsWithin (2 ^ 24)) (u j)) (λ j. within_prop (2 ^ 24) (u j)) r.u_in s.u_in i;
  ru_in = is_prop→PathP (λ j. All IsOldRadius (ru j)) (λ j. radii_prop (ru j)) r.ru_in s.ru_in i;
}

pair_same : (p q : OldPair) → p.number ≡ q.number → p.tag ≡ q.tag → p.group ≡ q.group → p.rows ≡ q.rows → p ≡ q
pair_same p q number tag group rows = λ i. record {
  number = number i;
  tag = tag i;
  group = group i;
  rows = rows i;
  number_in = is_prop→PathP (λ j. number j < MOST_PAIRS) (λ j. le_prop) p.number_in q.number_in i;
  tag_in = is_prop→PathP (λ j. (tag j).0 < 2 ^ 63) (λ j. le_prop) p.tag_in q.tag_in i;
  group_in = is_prop→PathP (λ j. unsigned_abs (group j) < 2 ^ 50) (λ j. le_prop) p.group_in q.group_in i;
  some_rows = is_prop→PathP (λ j. 1 ≤ length (rows j)) (λ j. le_prop) p.some_rows q.some_rows i;
  few_rows = is_prop→PathP (λ j. length (rows j) ≤ MOST_SATELLITES) (λ j. le_prop) p.few_rows q.few_rows i;
  arcs_rise = is_prop→PathP (λ j. AllPairs (λ r s. r.arc < s.arc) (rows j)) (λ j. rise_prop (rows j)) p.arcs_rise q.arcs_rise i;
}

signals_same : (a b : OldSignals) → a.l1 ≡ b.l1 → a.l2 ≡ b.l2 → a ≡ b
signals_same a b l1 l2 = λ i. record {
  l1 = l1 i;
  l2 = l2 i;
  on_l1 = is_prop→PathP (λ j. IsTrue (is_old_l1 (l1 j))) (λ j. true_prop (is_old_l1 (l1 j))) a.on_l1 b.on_l1 i;
  on_l2 = is_prop→PathP (λ j. IsTrue (is_old_l2 (l2 j))) (λ j. true_prop (is_old_l2 (l2 j))) a.on_l2 b.on_l2 i;
}

session_same : (s t : OldSession) → s.scale ≡ t.scale → s.base ≡ t.base → s.point ≡ t.point → s.signals ≡ t.signals → s.arcs ≡ t.arcs → s.pairs ≡ t.pairs → s ≡ t
session_same s t scale base point signals arcs pairs = λ i. record {
  scale = scale i;
  base = base i;
  point = point i;
  signals = signals i;
  arcs = arcs i;
  pairs = pairs i;
  fine = is_prop→PathP (λ j. scale j ≡ 0) (λ j. fine_prop (scale j)) s.fine t.fine i;
  base_in = is_prop→PathP (λ j. IsOldPoint (base j)) (λ j. point_prop (base j)) s.base_in t.base_in i;
  point_in = is_prop→PathP (λ j. IsOldPoint (point j)) (λ j. point_prop (point j)) s.point_in t.point_in i;
  arcs_in = is_prop→PathP (λ j. AreOldArcs (arcs j)) (λ j. arcs_prop (arcs j)) s.arcs_in t.arcs_in i;
  some_pairs = is_prop→PathP (λ j. 1 ≤ length (pairs j)) (λ j. le_prop) s.some_pairs t.some_pairs i;
  pairs_in = is_prop→PathP (λ j. AreOldPairs (arcs j) (pairs j)) (λ j. pairs_prop (arcs j) (pairs j)) s.pairs_in t.pairs_in i;
}

best_same : (a b : OldBest) → a.first ≡ b.first → a.second ≡ b.second → a.p1 ≡ b.p1 → a.p2 ≡ b.p2 → a.size ≡ b.size → a ≡ b
best_same a b first second p1 p2 size = λ i. record {
  first = first i;
  second = second i;
  p1 = p1 i;
  p2 = p2 i;
  size = size i;
  size_to = is_prop→PathP (λ j. size j ≤ 40) (λ j. le_prop) a.size_to b.size_to i;
  first_rest = is_prop→PathP (λ j. IsZeroFrom (size j) (first j)) (λ j. zero_prop (size j) (first j)) a.first_rest b.first_rest i;
  second_rest = is_prop→PathP (λ j. IsZeroFrom (size j) (second j)) (λ j. zero_prop (size j) (second j)) a.second_rest b.second_rest i;
}

certs_same : (c d : OldCert) → c.ratio ≡ d.ratio → c.budget ≡ d.budget → c.session ≡ d.session → c.tail ≡ d.tail → c ≡ d
certs_same c d ratio budget session tail = λ i. record {
  ratio = ratio i;
  budget = budget i;
  session = session i;
  tail = tail i;
  ratio_from = is_prop→PathP (λ j. 1000 ≤ ratio j) (λ j. le_prop) c.ratio_from d.ratio_from i;
  ratio_to = is_prop→PathP (λ j. ratio j ≤ MOST_RATIO) (λ j. le_prop) c.ratio_to d.ratio_to i;
  budget_from = is_prop→PathP (λ j. 1 ≤ budget j) (λ j. le_prop) c.budget_from d.budget_from i;
  budget_to = is_prop→PathP (λ j. budget j ≤ MOST_BUDGET) (λ j. le_prop) c.budget_to d.budget_to i;
  tail_fits =
      is_prop→PathP (λ j. IsOldTailOf (session j).arcs (budget j) (tail j)) (λ j. IsOldTailOf-prop (session j).arcs (budget j) (tail j)) c.tail_fits d.tail_fits i;
}

-- ---- the same carrier
one_row : (r : Row) (o p : OldRow) → IsRowOf r o → IsRowOf r p → o ≡ p
one_row r o p h g = row_same o p (h.arc ∙ sym g.arc) (h.y ∙ sym g.y) (h.ry ∙ sym g.ry) (h.u ∙ sym g.u) (h.ru ∙ sym g.ru)

one_pair : (r : PairRows) (o p : OldPair) → IsPairOf r o → IsPairOf r p → o ≡ p
one_pair r o p h g = pair_same o p (h.number ∙ sym g.number) (h.tag ∙ sym g.tag) (h.group ∙ sym g.group) (zip_same IsRowOf one_row r.rows o.rows p.rows h.rows g.rows)

one_session : (s : Session) (o p : OldSession) → IsSessionOf s o → IsSessionOf s p → o ≡ p
one_session s o p h g =
    session_same o p (o.fine ∙ sym p.fine) (h.base ∙ sym g.base) (h.point ∙ sym g.point) (signals_same o.signals p.signals (h.l1 ∙ sym g.l1) (h.l2 ∙ sym g.l2)) (h.arcs ∙ sym g.arcs)
    (zip_same IsPairOf one_pair s.pairs o.pairs p.pairs h.pairs g.pairs)

one_best : (b : TwoBest) (o p : OldBest) → IsBestOf b o → IsBestOf b p → o ≡ p
one_best b o p h g = best_same o p (h.first ∙ sym g.first) (h.second ∙ sym g.second) (h.p1 ∙ sym g.p1) (h.p2 ∙ sym g.p2) (h.size ∙ sym g.size)

one_tail : (t : Tail) (o p : OldTail) → IsEndOf t o → IsEndOf t p → o ≡ p
one_tail (now.Fixed h moved best top) o p e f = let same = one_best best e.0 f.0 e.1.0 f.1.0 in e.1.1 ∙ (λ i. Fixed h moved (same i) top) ∙ sym f.1.1
one_tail (now.Unseparated h moved best top) o p e f = let same = one_best best e.0 f.0 e.1.0 f.1.0 in e.1.1 ∙ (λ i. Unseparated h moved (same i) top) ∙ sym f.1.1
one_tail (now.Weak column pivot) o p e f = e ∙ sym f
one_tail (now.Overwidth place) o p e f = e ∙ sym f
one_tail (now.Unsettled entry) o p e f = e ∙ sym f
one_tail (now.Spent budget) o p e f = e ∙ sym f

pub one_old : (c : Cert) (o p : OldCert) → IsCarrierOf c o → IsCarrierOf c p → o ≡ p
one_old c o p h g = certs_same o p (h.ratio ∙ sym g.ratio) (h.budget ∙ sym g.budget) (one_session c.session o.session p.session h.session g.session) (one_tail c.tail o.tail p.tail h.tail g.tail)
