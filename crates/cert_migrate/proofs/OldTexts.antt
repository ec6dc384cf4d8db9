-- A text that spells a certificate in the form of version 1 spells one in the types of that version.
use Rattle.std.proofs.Common.{ℕ, ◌<◌, ◌≤◌, ◌^◌, ℤ, pos, unsigned_abs, List, [], ◌∷◌, map, take, All, arith, refl, sym, ◌∙◌, subst}
use Rattle.std.specs.List.{AllZip}
use Rattle.std.proofs.lemmas.List.{length-map}
use Rattle.std.proofs.lemmas.List.Elements.{All-head, All-tail, All-from_recursion}
use Rattle.std.proofs.lemmas.Slice.Zip.{AllZip-long}
use Rattle.obs_rows.specs.declared.rows.Row.{Row}
use Rattle.obs_rows.specs.declared.pair_rows.PairRows.{PairRows}
use Rattle.obs_rows.specs.Ranges.{IsWithin}
use Rattle.obs_rows.specs.declared.limits.TheConstants.{MOST_SATELLITES}
use Rattle.int_search.specs.declared.answer.TwoBest.{TwoBest}
use Rattle.cert_data.specs.declared.tails.Tail.{Tail}
use Rattle.cert_data.specs.declared.tails.Tail.TheVariants as now
use Rattle.cert_data.specs.declared.certs.Cert.{Cert}
use Rattle.cert_lines.specs.declared.version.Version.TheVariants.{One}
use Rattle.cert_text.specs.Editions.{IsOfVersion, IsCertificateAs}
use Rattle.cert_migrate.specs.declared.old_rows.OldRow.{OldRow}
use Rattle.cert_migrate.specs.declared.old_pairs.OldPair.{OldPair}
use Rattle.cert_migrate.specs.declared.old_sessions.OldSession.{OldSession}
use Rattle.cert_migrate.specs.declared.old_tails.OldBest.{OldBest}
use Rattle.cert_migrate.specs.declared.old_tails.OldTail.{OldTail}
use Rattle.cert_migrate.specs.declared.old_tails.OldTail.TheVariants.{Fixed, Unseparated, Weak, Overwidth, Unsettled, Spent}
use Rattle.cert_migrate.specs.declared.old_certs.OldCert.{OldCert}
use Rattle.cert_migrate.specs.OldSums.{at}
use Rattle.cert_migrate.specs.OldSpelling.{IsOldCertificate}
use Rattle.cert_migrate.specs.Carriers.{old_arc, IsRowOf, IsPairOf, IsSessionOf, IsBestOf, IsEndOf, HasFewEntries, IsCarrierOf}
use Rattle.cert_migrate.proofs.ListZips.{all_at}
use Rattle.cert_migrate.proofs.MovedLists.{front_zero}
use Rattle.cert_migrate.proofs.MovedSessions.{arcs_moved, rows_rise_moved, pairs_moved, second_letter, few_entries, tail_moved}
use Rattle.cert_migrate.proofs.ReadLaws.{spelled_old, read_whole}

-- ---- rows and pairs

abbrev InRow : ℤ → Type 0
InRow z = IsWithin (2 ^ 34) z

abbrev old_row : Row → OldRow
old_row r = record {
  arc = r.arc;
  y = at r.y 0 ∷ at r.y 1 ∷ at r.y 2 ∷ at r.y 3 ∷ [];
  ry = r.ry;
  u = r.u;
  ru = r.ru;
  y_in =
      let none : InRow (pos 0) = omega arith in
      All-from_recursion InRow (at r.y 0 ∷ at r.y 1 ∷ at r.y 2 ∷ at r.y 3 ∷ [])
      (all_at InRow r.y 0 (pos 0) none r.y_in, (all_at InRow r.y 1 (pos 0) none r.y_in, (all_at InRow r.y 2 (pos 0) none r.y_in, (all_at InRow r.y 3 (pos 0) none r.y_in, tt))));
  ry_in = r.ry_in;
  u_in = r.u_in;
  ru_in = r.ru_in;
}

rows_zip : (rows : List Row) → AllZip IsRowOf rows (map old_row rows)
rows_zip [] = tt
rows_zip (r ∷ rows) = (record { arc = refl; y = refl; ry = refl; u = refl; ru = refl }, rows_zip rows)

abbrev HasOldGroup : PairRows → Type 0
HasOldGroup p = unsigned_abs p.group < 2 ^ 50

abbrev old_pair : (p : PairRows) → HasOldGroup p → OldPair
old_pair p group = record {
  number = p.number;
  tag = p.tag;
  group = p.group;
  rows = map old_row p.rows;
  number_in = p.number_in;
  tag_in = p.tag_in;
  group_in = group;
  some_rows = subst (λ (n : ℕ). 1 ≤ n) (sym (length-map p.rows old_row)) p.some_rows;
  few_rows = subst (λ (n : ℕ). n ≤ MOST_SATELLITES) (sym (length-map p.rows old_row)) p.few_rows;
  arcs_rise = rows_rise_moved p.rows (map old_row p.rows) (rows_zip p.rows) p.arcs_rise;
}

abbrev old_pairs : (pairs : List PairRows) → All HasOldGroup pairs → List OldPair
old_pairs [] groups = []
old_pairs (p ∷ pairs) groups = old_pair p (All-head HasOldGroup p pairs groups) ∷ old_pairs pairs (All-tail HasOldGroup p pairs groups)

pairs_zip : (pairs : List PairRows) (groups : All HasOldGroup pairs) → AllZip IsPairOf pairs (old_pairs pairs groups)
pairs_zip [] groups = tt
pairs_zip (p ∷ pairs) groups = (record { number = refl; tag = refl; group = refl; rows = rows_zip p.rows }, pairs_zip pairs (All-tail HasOldGroup p pairs groups))

-- ---- the tail

abbrev old_best : (b : TwoBest) → b.size ≤ 40 → OldBest
old_best b few = record {
  first = take 40 b.first;
  second = take 40 b.second;
  p1 = b.p1;
  p2 = b.p2;
  size = b.size;
  size_to = few;
  first_rest = front_zero 40 b.size b.first b.first_rest;
  second_rest = front_zero 40 b.size b.second b.second_rest;
}

best_is : (b : TwoBest) (few : b.size ≤ 40) → IsBestOf b (old_best b few)
best_is b few = record { first = refl; second = refl; p1 = refl; p2 = refl; size = refl }

old_end : (t : Tail) → HasFewEntries t → (o : OldTail) × IsEndOf t o
old_end (now.Fixed h moved best top) few = (Fixed h moved (old_best best few) top, (old_best best few, (best_is best few, refl)))
old_end (now.Unseparated h moved best top) few = (Unseparated h moved (old_best best few) top, (old_best best few, (best_is best few, refl)))
old_end (now.Weak column pivot) few = (Weak column pivot, refl)
old_end (now.Overwidth place) few = (Overwidth place, refl)
old_end (now.Unsettled entry) few = (Unsettled entry, refl)
old_end (now.Spent budget) few = (Spent budget, refl)

-- ---- the whole

old_session : (c : Cert) → IsOfVersion One c → (o : OldSession) × IsSessionOf c.session o
old_session c v =
    let session = c.session in
    let pairs = old_pairs session.pairs v.groups in
    let zip = pairs_zip session.pairs v.groups in (
      record {
        scale = 0;
        base = session.base;
        point = session.point;
        signals = record { l1 = session.signals.l1; l2 = session.signals.l2; on_l1 = session.signals.on_l1; on_l2 = second_letter session.signals.l2 session.signals.l5 (v.bands refl) session.signals.on_l2 session.signals.two_bands };
        arcs = map old_arc session.arcs;
        pairs = pairs;
        fine = refl;
        base_in = session.base_in;
        point_in = session.point_in;
        arcs_in = arcs_moved session.arcs session.arcs_in v.sats;
        some_pairs = subst (λ (n : ℕ). 1 ≤ n) (sym (AllZip-long IsPairOf session.pairs pairs zip)) session.some_pairs;
        pairs_in = pairs_moved session.arcs session.pairs pairs zip session.pairs_in;
      },
      record { base = refl; point = refl; l1 = refl; l2 = refl; arcs = refl; pairs = zip },
    )

old_of : (c : Cert) → IsOfVersion One c → (o : OldCert) × IsCarrierOf c o
old_of c v =
    let session = old_session c v in
    let tail = old_end c.tail (few_entries c (v.bands refl)) in (
      record {
        ratio = c.ratio;
        budget = c.budget;
        session = session.0;
        tail = tail.0;
        ratio_from = c.ratio_from;
        ratio_to = c.ratio_to;
        budget_from = c.budget_from;
        budget_to = c.budget_to;
        tail_fits = tail_moved c session.0.arcs tail.0 (v.bands refl) session.1.arcs tail.1 v.column;
      },
      record { ratio = refl; budget = refl; session = session.1; tail = tail.1 },
    )

pub old_text : (text : List ℕ) → IsCertificateAs One text → IsOldCertificate text
old_text text is =
    let old = old_of is.cert is.of_version in
    record { cert = old.0; whole = read_whole is.cert old.0 old.1 is.whole; spelled = is.spelled ∙ sym (spelled_old is.cert old.0 is.of_version old.1) }
