-- The pairs of a lifted session keep what those of a session keep.
use Rattle.std.proofs.Common.{◌≡◌, ℕ, zero, suc, ◌<◌, ◌≤◌, List, [], ◌∷◌, length, map, All, Option, Some, None, ℤ, pos, refl, sym, ap, ◌∙◌, subst}
use Rattle.std.specs.Prelude.{slice_get}
use Rattle.std.specs.List.{AllZip, AllPairs}
use Rattle.std.specs.Option.{option_map}
use Rattle.std.proofs.lemmas.List.{length-map}
use Rattle.std.proofs.lemmas.Slice.Zip.{AllZip-long}
use Rattle.std.proofs.lemmas.Option.{slice_get-map, none-some}
use Rattle.std.proofs.lemmas.Bool.{false≢true}
use Rattle.obs_rows.specs.declared.arcs.Arc.{Arc}
use Rattle.obs_rows.specs.declared.rows.Row.{Row}
use Rattle.obs_rows.specs.declared.pair_rows.PairRows.{PairRows}
use Rattle.obs_rows.specs.Arcs.{IsOfPair}
use Rattle.obs_rows.specs.Pairs.{HasItsArcs, ArePairs}
use Rattle.obs_rows.specs.Unused.{IsZeroOff, HasUsedRows}
use Rattle.obs_rows.specs.declared.limits.TheConstants.{MOST_PAIRS}
use Rattle.cert_migrate.specs.declared.old_arcs.OldArc.{OldArc}
use Rattle.cert_migrate.specs.declared.old_rows.OldRow.{OldRow}
use Rattle.cert_migrate.specs.declared.old_pairs.OldPair.{OldPair}
use Rattle.cert_migrate.specs.OldArcs.{IsOfOldPair}
use Rattle.cert_migrate.specs.OldPairs.{HasOldArcs, AreOldPairs}
use Rattle.cert_migrate.specs.OldSums.{at, old_signals}
use Rattle.cert_migrate.specs.Lifted.{lifted_y, lifted_arc, IsLiftedRow, IsLiftedPair}
use Rattle.cert_migrate.proofs.ListZips.{zip_all, zip_all_pairs, zip_weaker}

-- a row of the same arc without observations on L5, and a pair of the same number with such rows
pub record IsLikeRow (old : OldRow) (r : Row) : Type 0 where
  pub arc : r.arc ≡ old.arc
  pub used : IsZeroOff old_signals r.y

pub record IsLikePair (old : OldPair) (p : PairRows) : Type 0 where
  pub number : p.number ≡ old.number
  pub rows : AllZip IsLikeRow old.rows p.rows

-- ---- rows of a pair
pub rows_rise : (os : List OldRow) (rs : List Row) → AllZip IsLiftedRow os rs → AllPairs (λ r s. r.arc < s.arc) os → AllPairs (λ r s. r.arc < s.arc) rs
rows_rise os rs i h =
    zip_all_pairs IsLiftedRow (λ r s. r.arc < s.arc) (λ r s. r.arc < s.arc) (λ o o' r r' e f less. subst (λ (n : ℕ). n < r'.arc) (sym e.arc) (subst (λ (n : ℕ). o.arc < n) (sym f.arc) less)) os rs i h

-- ---- pairs with their arcs
lifted_from : (o : Option OldArc) (a : Arc) → option_map lifted_arc o ≡ Some a → (b : OldArc) × ((o ≡ Some b) × (lifted_arc b ≡ a))
lifted_from None a e = absurd (none-some a e)
lifted_from (Some b) a e = (b, (refl, cc))

row_of_pair : (arcs : List OldArc) (n : ℕ) (o : OldRow) (r : Row) → IsLikeRow o r → IsOfOldPair arcs n o → IsOfPair (map lifted_arc arcs) n r
row_of_pair arcs n o r i h =
    let from : (a : Arc) → slice_get (map lifted_arc arcs) r.arc ≡ Some a → (b : OldArc) × ((slice_get arcs o.arc ≡ Some b) × (lifted_arc b ≡ a)) =
    λ a e. lifted_from (slice_get arcs o.arc) a (sym (slice_get-map lifted_arc arcs o.arc) ∙ ap (λ (k : ℕ). slice_get (map lifted_arc arcs) k) (sym i.arc) ∙ e) in
    record {
      arc_in = subst (λ (k : ℕ). k < length (map lifted_arc arcs)) (sym i.arc) (subst (λ (m : ℕ). o.arc < m) (sym (length-map arcs lifted_arc)) h.arc_in);
      from_first = λ a e. let first_carried = from a e in subst (λ (x : Arc). x.first ≤ n) first_carried.1.1 (h.from_first first_carried.0 first_carried.1.0);
      to_last = λ a e. let last_carried = from a e in subst (λ (x : Arc). n ≤ x.last) last_carried.1.1 (h.to_last last_carried.0 last_carried.1.0);
    }

pair_has_arcs : (arcs : List OldArc) (o : OldPair) (p : PairRows) → IsLikePair o p → HasOldArcs arcs o → HasItsArcs (map lifted_arc arcs) p
pair_has_arcs arcs o p i h =
    zip_all IsLikeRow (IsOfOldPair arcs o.number) (IsOfPair (map lifted_arc arcs) p.number)
    (λ q r e f. subst (λ (n : ℕ). IsOfPair (map lifted_arc arcs) n r) (sym i.number) (row_of_pair arcs o.number q r e f)) o.rows p.rows i.rows h

pub pairs_like : (arcs : List OldArc) (os : List OldPair) (ps : List PairRows) → AllZip IsLikePair os ps → AreOldPairs arcs os → ArePairs (map lifted_arc arcs) ps
pairs_like arcs os ps i h = record {
  few = subst (λ (n : ℕ). n ≤ MOST_PAIRS) (sym (AllZip-long IsLikePair os ps i)) h.few;
  rising = zip_all_pairs IsLikePair (λ p q. p.number < q.number) (λ p q. p.number < q.number)
      (λ o o' p p' e f less. subst (λ (n : ℕ). n < p'.number) (sym e.number) (subst (λ (n : ℕ). o.number < n) (sym f.number) less)) os ps i h.rising;
  rows_have_arcs = zip_all IsLikePair (HasOldArcs arcs) (HasItsArcs (map lifted_arc arcs)) (pair_has_arcs arcs) os ps i h.rows_have_arcs;
}

-- ---- no observation on L5
pub no_l5 : (a b c d : ℤ) → IsZeroOff old_signals (a ∷ b ∷ c ∷ d ∷ pos 0 ∷ pos 0 ∷ [])
no_l5 a b c d zero e = absurd (false≢true (sym e))
no_l5 a b c d (suc zero) e = absurd (false≢true (sym e))
no_l5 a b c d (suc (suc zero)) e = absurd (false≢true (sym e))
no_l5 a b c d (suc (suc (suc zero))) e = absurd (false≢true (sym e))
no_l5 a b c d (suc (suc (suc (suc zero)))) e = refl
no_l5 a b c d (suc (suc (suc (suc (suc zero))))) e = refl
no_l5 a b c d (suc (suc (suc (suc (suc (suc k)))))) e = refl

pub used_like : (os : List OldPair) (ps : List PairRows) → AllZip IsLikePair os ps → All (HasUsedRows old_signals) ps
used_like os ps i =
    zip_all IsLikePair (λ o. Unit {0}) (HasUsedRows old_signals)
    (λ o p e u. zip_all IsLikeRow (λ q. Unit {0}) (λ r. IsZeroOff old_signals r.y) (λ q r f v. f.used) o.rows p.rows e.rows (λ k d h. tt)) os ps i (λ k d h. tt)

-- ---- lifted pairs are such
like_row : (o : OldRow) (r : Row) → IsLiftedRow o r → IsLikeRow o r
like_row o r i = record { arc = i.arc; used = subst (IsZeroOff old_signals) (sym i.y) (no_l5 (lifted_y (at o.y 0)) (lifted_y (at o.y 1)) (lifted_y (at o.y 2)) (lifted_y (at o.y 3))) }

pub like_pairs : (os : List OldPair) (ps : List PairRows) → AllZip IsLiftedPair os ps → AllZip IsLikePair os ps
like_pairs os ps i = zip_weaker IsLiftedPair IsLikePair (λ o p e. record { number = e.number; rows = zip_weaker IsLiftedRow IsLikeRow like_row o.rows p.rows e.rows }) os ps i
