-- Each certificate of version 1 as one of the present types, with the same numbers.
use Rattle.std.proofs.Common.{◌≡◌, ℕ, zero, suc, ◌+◌, ◌*◌, ◌<◌, ◌≤◌, ◌^◌, ◌==◌, ◌||◌, ◌&&◌, not, IsTrue, List, [], ◌∷◌, ◌++◌, length, map, take, get_or, All, ℤ, pos, unsigned_abs, arith, rules, refl, sym, ap, ◌∙◌, subst}
use Rattle.std.specs.List.{AllPairs}
use Rattle.std.specs.Prelude.{replicate}
use Rattle.std.proofs.lemmas.List.{length-map, length-append}
use Rattle.std.proofs.lemmas.Bool.{false≢true, or_right}
use Rattle.std.proofs.lemmas.List.Elements.{All-from_recursion, All-head, All-tail}
use Rattle.std.proofs.Math.Seq.{take-append_seam}
use Rattle.obs_rows.specs.declared.bands.Signals.{Signals}
use Rattle.obs_rows.specs.declared.rows.Row.{Row}
use Rattle.obs_rows.specs.declared.pair_rows.PairRows.{PairRows}
use Rattle.obs_rows.specs.declared.sessions.Session.{Session}
use Rattle.obs_rows.specs.declared.bands.TheConstants.{L2_LETTERS}
use Rattle.obs_rows.specs.Letters.{is_letter}
use Rattle.obs_rows.specs.Ranges.{IsWithin}
use Rattle.obs_rows.specs.declared.limits.TheConstants.{MOST_SATELLITES}
use Rattle.quadratic_form.specs.declared.sizes.TheConstants.{MOST_INTEGERS}
use Rattle.quadratic_form.proofs.TableLaws.{zero_item}
use Rattle.int_search.specs.declared.answer.TwoBest.{TwoBest}
use Rattle.int_search.specs.Vectors.{IsSmall}
use Rattle.cert_data.specs.declared.tails.Tail.{Tail}
use Rattle.cert_data.specs.declared.tails.Tail.TheVariants as now
use Rattle.cert_data.specs.declared.certs.Cert.{Cert}
use Rattle.cert_data.specs.Tails.{AreVectors, IsTailOf}
use Rattle.cert_lines.specs.Lengths.{IsWholeArc, IsWholeRow, IsWholePair}
use Rattle.cert_lines.specs.declared.version.Version.TheVariants.{One}
use Rattle.cert_text.specs.Lengths.{IsWholeTail, IsWhole}
use Rattle.cert_text.specs.Editions.{IsColumnOf, IsOfVersion}
use Rattle.cert_migrate.specs.declared.old_arcs.OldArc.{OldArc}
use Rattle.cert_migrate.specs.declared.old_rows.OldRow.{OldRow}
use Rattle.cert_migrate.specs.declared.old_pairs.OldPair.{OldPair}
use Rattle.cert_migrate.specs.declared.old_sessions.OldSignals.{OldSignals}
use Rattle.cert_migrate.specs.declared.old_sessions.OldSession.{OldSession}
use Rattle.cert_migrate.specs.declared.old_tails.OldBest.{OldBest}
use Rattle.cert_migrate.specs.declared.old_tails.OldTail.{OldTail}
use Rattle.cert_migrate.specs.declared.old_tails.OldTail.TheVariants.{Fixed, Unseparated, Weak, Overwidth, Unsettled, Spent}
use Rattle.cert_migrate.specs.declared.old_certs.OldCert.{OldCert}
use Rattle.cert_migrate.specs.OldRanges.{is_old_l2}
use Rattle.cert_migrate.specs.OldArcs.{IsOldArcInRange}
use Rattle.cert_migrate.specs.OldTails.{AreOldVectors, IsOldTailOf}
use Rattle.cert_migrate.specs.OldSums.{at, old_signals}
use Rattle.cert_migrate.specs.OldSpelling.{IsWholeOldArc, IsWholeOldRow, IsWholeOldPair, IsWholeOldTail, IsWholeOld}
use Rattle.cert_migrate.specs.Lifted.{lifted_arc}
use Rattle.cert_migrate.specs.Carriers.{old_arc, IsRowOf, IsPairOf, IsSessionOf, IsBestOf, IsEndOf, IsCarrierOf}
use Rattle.cert_migrate.proofs.ListZips.{all_map, all_at, zip_all_pairs, zip_map, map_zip}
use Rattle.cert_migrate.proofs.LiftedArcs.{count_same, arcs_lifted, shifts_lifted}
use Rattle.cert_migrate.proofs.LiftedSessions.{IsLikeRow, IsLikePair, pairs_like, used_like, no_l5}

-- ---- rows
abbrev pub carried_ys : List ℤ → List ℤ
carried_ys y = at y 0 ∷ at y 1 ∷ at y 2 ∷ at y 3 ∷ pos 0 ∷ pos 0 ∷ []

pub ys_in : (y : List ℤ) → All (IsWithin (2 ^ 34)) y → All (IsWithin (2 ^ 34)) (carried_ys y)
ys_in y h =
    let in_limit : ℤ → Type 0 = IsWithin (2 ^ 34) in
    let none : in_limit (pos 0) = omega arith in
    let each : (k : ℕ) → in_limit (at y k) = λ k. all_at in_limit y k (pos 0) none h in
    All-from_recursion in_limit (carried_ys y) (each 0, (each 1, (each 2, (each 3, (none, (none, tt))))))

abbrev pub carried_row : OldRow → Row
carried_row o = record { arc = o.arc; y = carried_ys o.y; ry = o.ry; u = o.u; ru = o.ru; y_in = ys_in o.y o.y_in; ry_in = o.ry_in; u_in = o.u_in; ru_in = o.ru_in }

four_are : (y : List ℤ) → length y ≡ 4 → y ≡ at y 0 ∷ at y 1 ∷ at y 2 ∷ at y 3 ∷ []
four_are [] e = absurd (omega (arith, e))
four_are (a ∷ []) e = absurd (omega (arith, e))
four_are (a ∷ b ∷ []) e = absurd (omega (arith, e))
four_are (a ∷ b ∷ c ∷ []) e = absurd (omega (arith, e))
four_are (a ∷ b ∷ c ∷ d ∷ []) e = refl
four_are (a ∷ b ∷ c ∷ d ∷ x ∷ y) e = absurd (omega (arith, e))

two_are : (y : List ℤ) → length y ≡ 2 → y ≡ at y 0 ∷ at y 1 ∷ []
two_are [] e = absurd (omega (arith, e))
two_are (a ∷ []) e = absurd (omega (arith, e))
two_are (a ∷ b ∷ []) e = refl
two_are (a ∷ b ∷ x ∷ y) e = absurd (omega (arith, e))

row_carried : (o : OldRow) → IsWholeOldRow o → IsRowOf (carried_row o) o
row_carried o w = record { arc = refl; y = four_are o.y w.y; ry = refl; u = refl; ru = refl }

-- ---- pairs
pub rising : (os : List OldRow) → AllPairs (λ r s. r.arc < s.arc) os → AllPairs (λ (r s : Row). r.arc < s.arc) (map carried_row os)
rising os h =
    zip_all_pairs (λ (o : OldRow) (r : Row). r.arc ≡ o.arc) (λ r s. r.arc < s.arc) (λ r s. r.arc < s.arc)
    (λ o o' r r' e f less. subst (λ (n : ℕ). n < r'.arc) (sym e) (subst (λ (n : ℕ). o.arc < n) (sym f) less))
    os (map carried_row os) (zip_map (λ (o : OldRow) (r : Row). r.arc ≡ o.arc) carried_row (λ o. refl) os) h

pub wider : (g : ℤ) → unsigned_abs g < 2 ^ 50 → unsigned_abs g < 2 ^ 55
wider g h = omega (arith, h)

abbrev pub carried_pair : OldPair → PairRows
carried_pair p = record {
  number = p.number;
  tag = p.tag;
  group = p.group;
  rows = map carried_row p.rows;
  number_in = p.number_in;
  tag_in = p.tag_in;
  group_in = wider p.group p.group_in;
  some_rows = subst (λ (n : ℕ). 1 ≤ n) (sym (length-map p.rows carried_row)) p.some_rows;
  few_rows = subst (λ (n : ℕ). n ≤ MOST_SATELLITES) (sym (length-map p.rows carried_row)) p.few_rows;
  arcs_rise = rising p.rows p.arcs_rise;
}

pair_carried : (o : OldPair) → IsWholeOldPair o → IsPairOf (carried_pair o) o
pair_carried o w = record { number = refl; tag = refl; group = refl; rows = map_zip IsRowOf IsWholeOldRow carried_row row_carried o.rows w }

pub pair_like : (o : OldPair) → IsLikePair o (carried_pair o)
pair_like o = record { number = refl; rows = zip_map IsLikeRow carried_row (λ q. record { arc = refl; used = no_l5 (at q.y 0) (at q.y 1) (at q.y 2) (at q.y 3) }) o.rows }

-- ---- the session
pub second_letter : (l2 : ℕ) → IsTrue (is_old_l2 l2) → IsTrue (not ((l2 == 0) && (0 == 0)))
second_letter zero h = absurd (false≢true h)
second_letter (suc n) h = search rules

pub letter_or_none : (l2 : ℕ) → IsTrue (is_old_l2 l2) → IsTrue ((l2 == 0) || is_letter L2_LETTERS l2)
letter_or_none l2 h = or_right (l2 == 0) (is_letter L2_LETTERS l2) h

abbrev pub carried_signals : OldSignals → Signals
carried_signals s = record { l1 = s.l1; l2 = s.l2; l5 = 0; on_l1 = s.on_l1; on_l2 = letter_or_none s.l2 s.on_l2; on_l5 = refl; two_bands = second_letter s.l2 s.on_l2 }

abbrev pub carried_session : OldSession → Session
carried_session s = record {
  scale = 0;
  system = 71;
  base = s.base;
  point = s.point;
  signals = carried_signals s.signals;
  arcs = map lifted_arc s.arcs;
  pairs = map carried_pair s.pairs;
  scale_is = refl;
  system_is = refl;
  base_in = s.base_in;
  point_in = s.point_in;
  arcs_in = arcs_lifted s.arcs s.arcs_in;
  some_pairs = subst (λ (n : ℕ). 1 ≤ n) (sym (length-map s.pairs carried_pair)) s.some_pairs;
  pairs_in = pairs_like s.arcs s.pairs (map carried_pair s.pairs) (zip_map IsLikePair carried_pair pair_like s.pairs) s.pairs_in;
  rows_used = used_like s.pairs (map carried_pair s.pairs) (zip_map IsLikePair carried_pair pair_like s.pairs);
  shifts_used = shifts_lifted s.arcs;
}

arc_back : (a : OldArc) → IsWholeOldArc a → a ≡ old_arc (lifted_arc a)
arc_back a w = let two_shifts_are = two_are a.shift w in λ i. record { sat = a.sat; first = a.first; last = a.last; datum = a.datum; shift = two_shifts_are i }

arcs_back : (arcs : List OldArc) → All IsWholeOldArc arcs → arcs ≡ map old_arc (map lifted_arc arcs)
arcs_back [] w = refl
arcs_back (a ∷ arcs) w = let head = arc_back a (All-head IsWholeOldArc a arcs w) in let tail = arcs_back arcs (All-tail IsWholeOldArc a arcs w) in λ i. head i ∷ tail i

session_carried : (s : OldSession) → All IsWholeOldArc s.arcs → All IsWholeOldPair s.pairs → IsSessionOf (carried_session s) s
session_carried s arcs pairs = record {
  base = refl;
  point = refl;
  l1 = refl;
  l2 = refl;
  arcs = arcs_back s.arcs arcs;
  pairs = map_zip IsPairOf IsWholeOldPair carried_pair pair_carried s.pairs pairs;
}

-- ---- the tail
pub padded_at : (xs : List ℤ) (n i : ℕ) → get_or (xs ++ replicate n (pos 0)) i (pos 0) ≡ at xs i
padded_at [] n i = zero_item n i
padded_at (x ∷ xs) n zero = refl
padded_at (x ∷ xs) n (suc i) = padded_at xs n i

abbrev pub carried_entries : List ℤ → List ℤ
carried_entries xs = xs ++ replicate 20 (pos 0)

abbrev pub carried_best : OldBest → TwoBest
carried_best b = record {
  first = carried_entries b.first;
  second = carried_entries b.second;
  p1 = b.p1;
  p2 = b.p2;
  size = b.size;
  size_to = size_in b.size b.size_to;
  first_rest = λ i h. padded_at b.first 20 i ∙ b.first_rest i h;
  second_rest = λ i h. padded_at b.second 20 i ∙ b.second_rest i h;
}
  where
    size_in : (n : ℕ) → n ≤ 40 → n ≤ MOST_INTEGERS
    size_in n h = omega arith

front_back : (xs : List ℤ) → length xs ≡ 40 → xs ≡ take 40 (carried_entries xs)
front_back xs e = sym (take-append_seam xs (replicate 20 (pos 0))) ∙ ap (λ (n : ℕ). take n (carried_entries xs)) e

best_carried : (b : OldBest) → length b.first ≡ 40 → length b.second ≡ 40 → IsBestOf (carried_best b) b
best_carried b first second = record { first = front_back b.first first; second = front_back b.second second; p1 = refl; p2 = refl; size = refl }

abbrev pub carried_tail : OldTail → Tail
carried_tail (Fixed h moved best top) = now.Fixed h moved (carried_best best) top
carried_tail (Unseparated h moved best top) = now.Unseparated h moved (carried_best best) top
carried_tail (Weak column pivot) = now.Weak column pivot
carried_tail (Overwidth place) = now.Overwidth place
carried_tail (Unsettled entry) = now.Unsettled entry
carried_tail (Spent budget) = now.Spent budget

tail_carried : (t : OldTail) → IsWholeOldTail t → IsEndOf (carried_tail t) t
tail_carried (Fixed h moved best top) w = (best, (best_carried best w.first w.second, refl))
tail_carried (Unseparated h moved best top) w = (best, (best_carried best w.first w.second, refl))
tail_carried (Weak column pivot) w = refl
tail_carried (Overwidth place) w = refl
tail_carried (Unsettled entry) w = refl
tail_carried (Spent budget) w = refl

entries_small : (xs : List ℤ) → IsSmall xs → IsSmall (carried_entries xs)
entries_small xs h = λ i. subst (λ (x : ℤ). unsigned_abs x < 2 ^ 30) (sym (padded_at xs 20 i)) (h i)

vectors_fit : (arcs : List OldArc) (h : ℕ) (moved : List ℤ) (best : OldBest) (top : ℤ) → AreOldVectors arcs h moved best top
    → AreVectors old_signals (map lifted_arc arcs) h moved (carried_best best) top
vectors_fit arcs h moved best top v = record {
  moved_in = v.moved_in;
  values = record {
    h_to = v.h_to;
    size = v.size ∙ sym (ap (λ (n : ℕ). 2 * n) (count_same arcs));
    first_in = entries_small best.first v.first_in;
    second_in = entries_small best.second v.second_in;
    p1_in = v.p1_in;
    p2_in = v.p2_in;
    top_in = v.top_in;
  };
}

pub tail_fits : (arcs : List OldArc) (budget : ℕ) (t : OldTail) → IsOldTailOf arcs budget t → IsTailOf old_signals (map lifted_arc arcs) budget (carried_tail t)
tail_fits arcs budget (Fixed h moved best top) v = vectors_fit arcs h moved best top v
tail_fits arcs budget (Unseparated h moved best top) v = vectors_fit arcs h moved best top v
tail_fits arcs budget (Weak column pivot) v = record { column_to = omega (arith, v.column_to); pivot_in = v.pivot_in }
tail_fits arcs budget (Overwidth place) v = tt
tail_fits arcs budget (Unsettled entry) v = v
tail_fits arcs budget (Spent spent) v = v

-- ---- the certificate
abbrev pub carried_cert : OldCert → Cert
carried_cert c = record {
  ratio = c.ratio;
  budget = c.budget;
  session = carried_session c.session;
  tail = carried_tail c.tail;
  ratio_from = c.ratio_from;
  ratio_to = c.ratio_to;
  budget_from = c.budget_from;
  budget_to = c.budget_to;
  fine = refl;
  tail_fits = tail_fits c.session.arcs c.budget c.tail c.tail_fits;
}

pub cert_carried : (c : OldCert) → IsWholeOld c → IsCarrierOf (carried_cert c) c
cert_carried c w = record { ratio = refl; budget = refl; session = session_carried c.session w.arcs w.pairs; tail = tail_carried c.tail w.tail }

-- ---- its arrays have their lengths
row_whole : (o : OldRow) → IsWholeOldRow o → IsWholeRow (carried_row o)
row_whole o w = record { y = refl; u = w.u; ru = w.ru }

pair_whole : (o : OldPair) → IsWholeOldPair o → IsWholePair (carried_pair o)
pair_whole o w = all_map carried_row IsWholeOldRow IsWholeRow row_whole o.rows w

entries_whole : (xs : List ℤ) → length xs ≡ 40 → length (carried_entries xs) ≡ MOST_INTEGERS
entries_whole xs e = length-append xs (replicate 20 (pos 0)) ∙ ap (λ (n : ℕ). n + 20) e

tail_whole : (t : OldTail) → IsWholeOldTail t → IsWholeTail (carried_tail t)
tail_whole (Fixed h moved best top) w = record { move = w.move; first = entries_whole best.first w.first; second = entries_whole best.second w.second }
tail_whole (Unseparated h moved best top) w = record { move = w.move; first = entries_whole best.first w.first; second = entries_whole best.second w.second }
tail_whole (Weak column pivot) w = tt
tail_whole (Overwidth place) w = tt
tail_whole (Unsettled entry) w = tt
tail_whole (Spent budget) w = tt

pub cert_whole : (c : OldCert) → IsWholeOld c → IsWhole (carried_cert c)
cert_whole c w = record {
  session = record {
    base = w.base;
    point = w.point;
    arcs = all_map lifted_arc IsWholeOldArc IsWholeArc (λ a h. refl) c.session.arcs w.arcs;
    pairs = all_map carried_pair IsWholeOldPair IsWholePair pair_whole c.session.pairs w.pairs;
  };
  tail = tail_whole c.tail w.tail;
}

-- ---- and it is what version 1 can say
column_of_one : (arcs : List OldArc) (budget : ℕ) (t : OldTail) → IsOldTailOf arcs budget t → IsColumnOf One (carried_tail t)
column_of_one arcs budget (Fixed h moved best top) v = tt
column_of_one arcs budget (Unseparated h moved best top) v = tt
column_of_one arcs budget (Weak column pivot) v = v.column_to
column_of_one arcs budget (Overwidth place) v = tt
column_of_one arcs budget (Unsettled entry) v = tt
column_of_one arcs budget (Spent spent) v = tt

groups_of_one : (ps : List OldPair) → All (λ p. unsigned_abs p.group < 2 ^ 50) (map carried_pair ps)
groups_of_one ps = all_map carried_pair (λ p. Unit {0}) (λ p. unsigned_abs p.group < 2 ^ 50) (λ p u. p.group_in) ps (λ k d h. tt)

pub cert_of_one : (c : OldCert) → IsOfVersion One (carried_cert c)
cert_of_one c = record {
  system = λ e. refl;
  bands = λ e. refl;
  sats = all_map lifted_arc IsOldArcInRange (λ a. a.sat ≤ 32) (λ a h. h.sat_to) c.session.arcs c.session.arcs_in.ranges;
  groups = groups_of_one c.session.pairs;
  column = column_of_one c.session.arcs c.budget c.tail c.tail_fits;
}
