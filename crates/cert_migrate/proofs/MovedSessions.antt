-- What is moved out of a session in the form of version 1 keeps the ranges of that version.
use Rattle.std.proofs.Common.{◌≡◌, ℕ, ◌+◌, ◌*◌, ◌<◌, ◌≤◌, ◌^◌, ◌==◌, ◌||◌, ◌&&◌, not, cond, Bool, true, false, IsTrue, Option, Some, None, List, [], ◌∷◌, length, map, All, ℤ, pos, arith, refl, sym, ap, ◌∙◌, subst}
use Rattle.std.specs.Prelude.{slice_get}
use Rattle.std.specs.List.{AllZip, AllPairs}
use Rattle.std.specs.Option.{option_map}
use Rattle.std.proofs.lemmas.Bool.{false≢true}
use Rattle.std.proofs.lemmas.List.{length-map}
use Rattle.std.proofs.lemmas.List.Elements.{All-from_recursion}
use Rattle.std.proofs.lemmas.List.Sums.{sum_by-cons}
use Rattle.std.proofs.lemmas.Slice.Zip.{AllZip-long}
use Rattle.std.proofs.lemmas.Option.{slice_get-map, none-some}
use Rattle.obs_rows.specs.declared.arcs.Arc.{Arc}
use Rattle.obs_rows.specs.declared.bands.TheConstants.{L2_LETTERS}
use Rattle.obs_rows.specs.declared.rows.Row.{Row}
use Rattle.obs_rows.specs.declared.pair_rows.PairRows.{PairRows}
use Rattle.obs_rows.specs.Letters.{is_letter}
use Rattle.obs_rows.specs.Ranges.{IsBelow}
use Rattle.obs_rows.specs.Arcs.{is_free, free_count, IsArcInRange, AreArcs, IsOfPair}
use Rattle.obs_rows.specs.Pairs.{HasItsArcs, ArePairs}
use Rattle.obs_rows.specs.declared.limits.TheConstants.{MOST_PAIRS, MOST_ARCS}
use Rattle.int_search.specs.declared.answer.TwoBest.{TwoBest}
use Rattle.int_search.specs.Vectors.{IsSmall}
use Rattle.cert_data.specs.declared.tails.Tail.{Tail}
use Rattle.cert_data.specs.declared.tails.Tail.TheVariants as now
use Rattle.cert_data.specs.declared.certs.Cert.{Cert}
use Rattle.cert_data.specs.Tails.{AreVectors, IsTailOf}
use Rattle.cert_lines.specs.declared.version.Version.TheVariants.{One}
use Rattle.cert_text.specs.Editions.{IsColumnOf}
use Rattle.cert_migrate.specs.declared.old_arcs.OldArc.{OldArc}
use Rattle.cert_migrate.specs.declared.old_rows.OldRow.{OldRow}
use Rattle.cert_migrate.specs.declared.old_pairs.OldPair.{OldPair}
use Rattle.cert_migrate.specs.declared.old_tails.OldBest.{OldBest}
use Rattle.cert_migrate.specs.declared.old_tails.OldTail.{OldTail}
use Rattle.cert_migrate.specs.OldRanges.{is_old_l2}
use Rattle.cert_migrate.specs.OldArcs.{is_old_free, old_free_count, IsOldArcInRange, AreOldArcs, IsOfOldPair}
use Rattle.cert_migrate.specs.OldPairs.{HasOldArcs, AreOldPairs}
use Rattle.cert_migrate.specs.OldTails.{AreOldVectors, IsOldTailOf}
use Rattle.cert_migrate.specs.OldSums.{at, old_signals}
use Rattle.cert_migrate.specs.Carriers.{old_arc, IsRowOf, IsPairOf, IsBestOf, IsEndOf, HasFewEntries}
use Rattle.cert_migrate.proofs.ListZips.{zip_all, zip_all_pairs, all_map, all_at}
use Rattle.cert_migrate.proofs.MovedLists.{front_small}
use Rattle.cert_migrate.proofs.LiftedData.{signals_are}

-- ---- arcs
count_moved : (arcs : List Arc) → old_free_count (map old_arc arcs) ≡ free_count arcs
count_moved [] = refl
count_moved (a ∷ arcs) =
    sum_by-cons (λ (x : OldArc). cond (is_old_free x) 1 0) (old_arc a) (map old_arc arcs)
    ∙ ap (λ (n : ℕ). cond (is_free a) 1 0 + n) (count_moved arcs)
    ∙ sym (sum_by-cons (λ (x : Arc). cond (is_free x) 1 0) a arcs)

-- an arc of the version
record IsOldSat (a : Arc) : Type 0 where
  in_range : IsArcInRange a
  sat_to : a.sat ≤ 32

arc_moved : (a : Arc) → IsOldSat a → IsOldArcInRange (old_arc a)
arc_moved a h =
    let under_limit : ℤ → Type 0 = IsBelow (2 ^ 40) in
    let none : under_limit (pos 0) = omega arith in
    record {
      sat_from = h.in_range.sat_from;
      sat_to = h.sat_to;
      order = h.in_range.order;
      last_in = h.in_range.last_in;
      shifts_in = All-from_recursion under_limit (at a.shift 0 ∷ at a.shift 1 ∷ []) (all_at under_limit a.shift 0 (pos 0) none h.in_range.shifts_in, (all_at under_limit a.shift 1 (pos 0) none h.in_range.shifts_in, tt));
    }

pub arcs_moved : (arcs : List Arc) → AreArcs arcs → All (λ a. a.sat ≤ 32) arcs → AreOldArcs (map old_arc arcs)
arcs_moved arcs h sats = record {
  some = subst (λ (n : ℕ). 2 ≤ n) (sym (length-map arcs old_arc)) h.some;
  few = subst (λ (n : ℕ). n ≤ MOST_ARCS) (sym (length-map arcs old_arc)) h.few;
  some_free = subst (λ (n : ℕ). 1 ≤ n) (sym (count_moved arcs)) h.some_free;
  few_free = subst (λ (n : ℕ). n ≤ 20) (sym (count_moved arcs)) h.few_free;
  ranges = all_map old_arc IsOldSat IsOldArcInRange arc_moved arcs (λ k d inside. record { in_range = h.ranges k d inside; sat_to = sats k d inside });
}

-- ---- rows and pairs
pub rows_rise_moved : (rs : List Row) (os : List OldRow) → AllZip IsRowOf rs os → AllPairs (λ r s. r.arc < s.arc) rs → AllPairs (λ r s. r.arc < s.arc) os
rows_rise_moved rs os i h =
    zip_all_pairs IsRowOf (λ r s. r.arc < s.arc) (λ r s. r.arc < s.arc) (λ r r' o o' e f less. subst (λ (n : ℕ). n < o'.arc) (sym e.arc) (subst (λ (n : ℕ). r.arc < n) (sym f.arc) less)) rs os i h

moved_from : (o : Option Arc) (a : OldArc) → option_map old_arc o ≡ Some a → (b : Arc) × ((o ≡ Some b) × (old_arc b ≡ a))
moved_from None a e = absurd (none-some a e)
moved_from (Some b) a e = (b, (refl, cc))

row_of_pair : (arcs : List Arc) (n : ℕ) (r : Row) (o : OldRow) → IsRowOf r o → IsOfPair arcs n r → IsOfOldPair (map old_arc arcs) n o
row_of_pair arcs n r o i h =
    let from : (a : OldArc) → slice_get (map old_arc arcs) o.arc ≡ Some a → (b : Arc) × ((slice_get arcs r.arc ≡ Some b) × (old_arc b ≡ a)) =
    λ a e. moved_from (slice_get arcs r.arc) a (sym (slice_get-map old_arc arcs r.arc) ∙ ap (λ (k : ℕ). slice_get (map old_arc arcs) k) (sym i.arc) ∙ e) in
    record {
      arc_in = subst (λ (k : ℕ). k < length (map old_arc arcs)) (sym i.arc) (subst (λ (m : ℕ). r.arc < m) (sym (length-map arcs old_arc)) h.arc_in);
      from_first = λ a e. let first_carried = from a e in subst (λ (x : OldArc). x.first ≤ n) first_carried.1.1 (h.from_first first_carried.0 first_carried.1.0);
      to_last = λ a e. let last_carried = from a e in subst (λ (x : OldArc). n ≤ x.last) last_carried.1.1 (h.to_last last_carried.0 last_carried.1.0);
    }

pair_has_arcs : (arcs : List Arc) (p : PairRows) (o : OldPair) → IsPairOf p o → HasItsArcs arcs p → HasOldArcs (map old_arc arcs) o
pair_has_arcs arcs p o i h =
    zip_all IsRowOf (IsOfPair arcs p.number) (IsOfOldPair (map old_arc arcs) o.number)
    (λ r q e f. subst (λ (n : ℕ). IsOfOldPair (map old_arc arcs) n q) (sym i.number) (row_of_pair arcs p.number r q e f)) p.rows o.rows i.rows h

pub pairs_moved : (arcs : List Arc) (ps : List PairRows) (os : List OldPair) → AllZip IsPairOf ps os → ArePairs arcs ps → AreOldPairs (map old_arc arcs) os
pairs_moved arcs ps os i h = record {
  few = subst (λ (n : ℕ). n ≤ MOST_PAIRS) (sym (AllZip-long IsPairOf ps os i)) h.few;
  rising = zip_all_pairs IsPairOf (λ p q. p.number < q.number) (λ p q. p.number < q.number)
      (λ p p' o o' e f less. subst (λ (n : ℕ). n < o'.number) (sym e.number) (subst (λ (n : ℕ). p.number < n) (sym f.number) less)) ps os i h.rising;
  rows_have_arcs = zip_all IsPairOf (HasItsArcs arcs) (HasOldArcs (map old_arc arcs)) (pair_has_arcs arcs) ps os i h.rows_have_arcs;
}

-- ---- the letter on L2: one of the two bands beside L1 has a letter, and L5 has none
pub second_letter : (l2 l5 : ℕ) → l5 ≡ 0 → IsTrue ((l2 == 0) || is_letter L2_LETTERS l2) → IsTrue (not ((l2 == 0) && (l5 == 0))) → IsTrue (is_old_l2 l2)
second_letter l2 l5 e h two = by_case (l2 == 0) (is_old_l2 l2) h (subst (λ (n : ℕ). not ((l2 == 0) && (n == 0)) ≡ true) e two)
  where
    by_case : (a b : Bool) → (a || b) ≡ true → not (a && true) ≡ true → b ≡ true
    by_case true b h n = absurd (false≢true n)
    by_case false b h n = h

-- ---- the tail
few_of : (arcs : List Arc) (n : ℕ) → AreArcs arcs → n ≡ 2 * free_count arcs → n ≤ 40
few_of arcs n h e = bound n (free_count arcs) h.few_free e
  where
    bound : (n f : ℕ) → f ≤ 20 → n ≡ 2 * f → n ≤ 40
    bound n f h e = omega arith

few_in : (arcs : List Arc) (budget : ℕ) (t : Tail) → AreArcs arcs → IsTailOf old_signals arcs budget t → HasFewEntries t
few_in arcs budget (now.Fixed h moved best top) a v = few_of arcs best.size a v.values.size
few_in arcs budget (now.Unseparated h moved best top) a v = few_of arcs best.size a v.values.size
few_in arcs budget (now.Weak column pivot) a v = tt
few_in arcs budget (now.Overwidth place) a v = tt
few_in arcs budget (now.Unsettled entry) a v = tt
few_in arcs budget (now.Spent spent) a v = tt

fits_four : (c : Cert) → c.session.signals.l5 ≡ 0 → IsTailOf old_signals c.session.arcs c.budget c.tail
fits_four c e = subst (λ (ss : List ℕ). IsTailOf ss c.session.arcs c.budget c.tail) (signals_are c.session.signals e) c.tail_fits

pub few_entries : (c : Cert) → c.session.signals.l5 ≡ 0 → HasFewEntries c.tail
few_entries c e = few_in c.session.arcs c.budget c.tail c.session.arcs_in (fits_four c e)

vectors_moved : (arcs : List Arc) (h : ℕ) (moved : List ℤ) (best : TwoBest) (old : OldBest) (top : ℤ) → IsBestOf best old → AreVectors old_signals arcs h moved best top
    → AreOldVectors (map old_arc arcs) h moved old top
vectors_moved arcs h moved best old top b v = record {
  moved_in = v.moved_in;
  h_to = v.values.h_to;
  size = b.size ∙ v.values.size ∙ ap (λ (n : ℕ). 2 * n) (sym (count_moved arcs));
  first_in = subst IsSmall (sym b.first) (front_small 40 best.first v.values.first_in);
  second_in = subst IsSmall (sym b.second) (front_small 40 best.second v.values.second_in);
  p1_in = subst (IsBelow (2 ^ 126)) (sym b.p1) v.values.p1_in;
  p2_in = subst (IsBelow (2 ^ 126)) (sym b.p2) v.values.p2_in;
  top_in = v.values.top_in;
}

end_moved : (arcs : List Arc) (budget : ℕ) (t : Tail) (o : OldTail) → IsEndOf t o → IsColumnOf One t → IsTailOf old_signals arcs budget t → IsOldTailOf (map old_arc arcs) budget o
end_moved arcs budget (now.Fixed h moved best top) o e k v = subst (IsOldTailOf (map old_arc arcs) budget) (sym e.1.1) (vectors_moved arcs h moved best e.0 top e.1.0 v)
end_moved arcs budget (now.Unseparated h moved best top) o e k v = subst (IsOldTailOf (map old_arc arcs) budget) (sym e.1.1) (vectors_moved arcs h moved best e.0 top e.1.0 v)
end_moved arcs budget (now.Weak column pivot) o e k v = subst (IsOldTailOf (map old_arc arcs) budget) (sym e) (record { column_to = k; pivot_in = v.pivot_in })
end_moved arcs budget (now.Overwidth place) o e k v = subst (IsOldTailOf (map old_arc arcs) budget) (sym e) tt
end_moved arcs budget (now.Unsettled entry) o e k v = subst (IsOldTailOf (map old_arc arcs) budget) (sym e) v
end_moved arcs budget (now.Spent spent) o e k v = subst (IsOldTailOf (map old_arc arcs) budget) (sym e) v

pub tail_moved : (c : Cert) (arcs : List OldArc) (o : OldTail) → c.session.signals.l5 ≡ 0 → arcs ≡ map old_arc c.session.arcs → IsEndOf c.tail o → IsColumnOf One c.tail → IsOldTailOf arcs c.budget o
tail_moved c arcs o e a h k = subst (λ (l : List OldArc). IsOldTailOf l c.budget o) (sym a) (end_moved c.session.arcs c.budget c.tail o h k (fits_four c e))
