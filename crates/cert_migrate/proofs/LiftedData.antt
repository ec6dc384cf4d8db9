-- Scaled data of an old session are data of the lifted one.
use Rattle.std.proofs.Common.{◌≡◌, ℕ, List, [], ◌∷◌, map, All, ℤ, arith, sym, ap, subst}
use Rattle.std.specs.List.{AllZip}
use Rattle.std.proofs.lemmas.List.Elements.{All-from_recursion}
use Rattle.whole_math.specs.Rational.{Rational, Near, ◌*ʳ◌}
use Rattle.obs_rows.specs.declared.bands.Signals.{Signals}
use Rattle.obs_rows.specs.declared.rows.Row.{Row}
use Rattle.obs_rows.specs.declared.pair_rows.PairRows.{PairRows}
use Rattle.obs_rows.specs.declared.sessions.Session.{Session}
use Rattle.obs_rows.specs.Signals.{used_signals, fine_signals}
use Rattle.obs_rows.specs.Data.{IsInBoxes, AreData}
use Rattle.cert_migrate.specs.declared.old_rows.OldRow.{OldRow}
use Rattle.cert_migrate.specs.declared.old_pairs.OldPair.{OldPair}
use Rattle.cert_migrate.specs.declared.old_sessions.OldSession.{OldSession}
use Rattle.cert_migrate.specs.OldSums.{OldObserved, at, old_signals, IsInOldBoxes, AreOldData}
use Rattle.cert_migrate.specs.Lifted.{lifted_y, lifted_radius, lifted_ys, IsLiftedRow, IsLiftedPair, IsLiftedSession, unit_ratio, scaled_row, scaled, HasScaledData}
use Rattle.cert_migrate.proofs.LiftedNumbers.{near_lifted}

-- without L5 the signals are the four of version 1
pub signals_are : (s : Signals) → s.l5 ≡ 0 → fine_signals s ≡ old_signals
signals_are s e = ap (λ (l5 : ℕ). used_signals s.l2 l5) e

same_near : (c c' r r' : List ℤ) (k : ℕ) (q : Rational) → c' ≡ c → r' ≡ r → Near (at c k) (at r k) q → Near (at c' k) (at r' k) q
same_near c c' r r' k q e f h = subst (λ (x : List ℤ). Near (at x k) (at r' k) q) (sym e) (subst (λ (x : List ℤ). Near (at c k) (at x k) q) (sym f) h)

row_in_boxes : (o : OldRow) (r : Row) (q : OldObserved) → IsLiftedRow o r → IsInOldBoxes o q → IsInBoxes old_signals r (scaled_row q)
row_in_boxes o r q i h =
    let near_in_old : List ℤ → ℤ → Type 0 = λ ys ry. All (λ (s : ℕ). Near (at ys s) ry (unit_ratio *ʳ q.y s)) old_signals in
    let near_in_new : ℕ → Type 0 = λ s. Near (at (lifted_ys o.y) s) (lifted_radius o.ry) (unit_ratio *ʳ q.y s) in
    let each : (s : ℕ) → Near (at o.y s) o.ry (q.y s) → Near (lifted_y (at o.y s)) (lifted_radius o.ry) (unit_ratio *ʳ q.y s) = λ s. near_lifted (at o.y s) o.ry (q.y s) in
    let four : near_in_old (lifted_ys o.y) (lifted_radius o.ry) =
    All-from_recursion near_in_new old_signals (each 0 (h.y 0 0 (omega arith)), (each 1 (h.y 1 0 (omega arith)), (each 2 (h.y 2 0 (omega arith)), (each 3 (h.y 3 0 (omega arith)), tt)))) in
    record {
      y = subst (λ (ry : ℤ). near_in_old r.y ry) (sym i.ry) (subst (λ (ys : List ℤ). near_in_old ys (lifted_radius o.ry)) (sym i.y) four);
      u1 = same_near o.u r.u o.ru r.ru 0 q.u1 i.u i.ru h.u1;
      u2 = same_near o.u r.u o.ru r.ru 1 q.u2 i.u i.ru h.u2;
      u3 = same_near o.u r.u o.ru r.ru 2 q.u3 i.u i.ru h.u3;
    }

rows_in_boxes : (os : List OldRow) (rs : List Row) (qs : List OldObserved) → AllZip IsLiftedRow os rs → AllZip IsInOldBoxes os qs → AllZip (IsInBoxes old_signals) rs (map scaled_row qs)
rows_in_boxes [] [] [] i h = tt
rows_in_boxes [] [] (q ∷ qs) i h = absurd h
rows_in_boxes [] (r ∷ rs) qs i h = absurd i
rows_in_boxes (o ∷ os) [] qs i h = absurd i
rows_in_boxes (o ∷ os) (r ∷ rs) [] i h = absurd h
rows_in_boxes (o ∷ os) (r ∷ rs) (q ∷ qs) i h = (row_in_boxes o r q i.0 h.0, rows_in_boxes os rs qs i.1 h.1)

pairs_in_boxes : (os : List OldPair) (ps : List PairRows) (observed : List (List OldObserved)) → AllZip IsLiftedPair os ps → AreOldData os observed → AreData old_signals ps (scaled observed)
pairs_in_boxes [] [] [] i h = tt
pairs_in_boxes [] [] (qs ∷ rest) i h = absurd h
pairs_in_boxes [] (p ∷ ps) observed i h = absurd i
pairs_in_boxes (o ∷ os) [] observed i h = absurd i
pairs_in_boxes (o ∷ os) (p ∷ ps) [] i h = absurd h
pairs_in_boxes (o ∷ os) (p ∷ ps) (qs ∷ rest) i h = (rows_in_boxes o.rows p.rows qs i.0.rows h.0, pairs_in_boxes os ps rest i.1 h.1)

pub data_scaled : (old : OldSession) (s : Session) → IsLiftedSession old s → HasScaledData old s
data_scaled old s i = λ observed h. subst (λ (ss : List ℕ). AreData ss s.pairs (scaled observed)) (sym (signals_are s.signals i.l5)) (pairs_in_boxes old.pairs s.pairs observed i.pairs h)
