-- The sum of squares of a lifted session is (23/32)² times the old one.
use Rattle.std.proofs.Common.{◌≡◌, ℕ, ◌/◌, List, [], ◌∷◌, length, map, ℤ, pos, ◌*ℤ◌, refl, sym, ap, ap₂, ◌∙◌, subst}
use Rattle.std.specs.List.{AllZip}
use Rattle.std.proofs.lemmas.Slice.Zip.{AllZip-long}
use Rattle.whole_math.proofs.Ring.{◌⊗◌}
use Rattle.whole_math.proofs.Inequalities.{same_by, nat}
use Rattle.whole_math.specs.Rational.{Rational, ◌≈◌, of_whole, ◌*ʳ◌}
use Rattle.whole_math.specs.Spread.{Baseline, spread_of_rationals}
use Rattle.obs_rows.specs.declared.arcs.Arc.{Arc}
use Rattle.obs_rows.specs.declared.rows.Row.{Row}
use Rattle.obs_rows.specs.declared.pair_rows.PairRows.{PairRows}
use Rattle.obs_rows.specs.declared.sessions.Session.{Session}
use Rattle.obs_rows.specs.Signals.{weight, cycle, fine_signals}
use Rattle.obs_rows.specs.Integers.{integer}
use Rattle.obs_rows.specs.SumOfSquares.{residual, residuals, share, term, terms, sum_of_squares}
use Rattle.cert_migrate.specs.declared.old_arcs.OldArc.{OldArc}
use Rattle.cert_migrate.specs.declared.old_rows.OldRow.{OldRow}
use Rattle.cert_migrate.specs.declared.old_pairs.OldPair.{OldPair}
use Rattle.cert_migrate.specs.declared.old_sessions.OldSession.{OldSession}
use Rattle.cert_migrate.specs.OldSums.{OldObserved, old_signals, old_cycle, old_weight, old_integer, old_residual, old_residuals, old_share, old_term, old_terms, old_sum}
use Rattle.cert_migrate.specs.Lifted.{lifted_arc, IsLiftedRow, IsLiftedPair, IsLiftedSession, unit_ratio, scaled_row, scaled, scaled_baseline, HasScaledSums}
use Rattle.cert_migrate.proofs.Scaling.{AreScaled, AreScaledBaselines, sum_scaled, term_scaled, residual_scaled}
use Rattle.cert_migrate.proofs.LiftedArcs.{first_integer, second_integer, first_code, second_code}
use Rattle.cert_migrate.proofs.LiftedData.{signals_are}

-- a signal whose cycle in the present unit is 23/32 of the old one, with the same weight and the same integers
record IsSameSignal (arcs : List OldArc) (z : List ℤ) (s : ℕ) : Type 0 where
  cycle_is : pos 32 *ℤ cycle s ≡ pos 23 *ℤ old_cycle s
  weight_is : weight s ≡ old_weight s
  integer_is : (k : ℕ) → integer (map lifted_arc arcs) old_signals z k s ≡ old_integer arcs z k s

cycles_scaled : (c o n : ℤ) → pos 32 *ℤ c ≡ pos 23 *ℤ o → of_whole (c *ℤ n) ≈ unit_ratio *ʳ of_whole (o *ℤ n)
cycles_scaled c o n e =
    same_by (c ∷ n ∷ []) (λ c n. ((c ⊗ n) ⊗ nat 32, (nat 32 ⊗ c) ⊗ n)) refl
    ∙ ap (λ (x : ℤ). x *ℤ n) e
    ∙ same_by (o ∷ n ∷ []) (λ o n. ((nat 23 ⊗ o) ⊗ n, (nat 23 ⊗ (o ⊗ n)) ⊗ nat 1)) refl

row_scaled : (arcs : List OldArc) (z : List ℤ) (b c : Baseline) (s : ℕ) (o : OldRow) (r : Row) (q : OldObserved) → IsSameSignal arcs z s → AreScaledBaselines unit_ratio b c → IsLiftedRow o r
    → residual (map lifted_arc arcs) old_signals z c s r (scaled_row q) ≈ unit_ratio *ʳ old_residual arcs z b s o q
row_scaled arcs z b c s o r q same h i =
    let old_number : ℤ = old_integer arcs z o.arc s in
    let there : integer (map lifted_arc arcs) old_signals z r.arc s ≡ old_number = ap (λ (k : ℕ). integer (map lifted_arc arcs) old_signals z k s) i.arc ∙ same.integer_is o.arc in
    let cycles : of_whole (cycle s *ℤ integer (map lifted_arc arcs) old_signals z r.arc s) ≈ unit_ratio *ʳ of_whole (old_cycle s *ℤ old_number) =
    subst (λ (m : ℤ). of_whole (cycle s *ℤ m) ≈ unit_ratio *ʳ of_whole (old_cycle s *ℤ old_number)) (sym there) (cycles_scaled (cycle s) (old_cycle s) old_number same.cycle_is) in
    residual_scaled unit_ratio b c (q.y s) q.u1 q.u2 q.u3 (old_cycle s *ℤ old_number) (cycle s *ℤ integer (map lifted_arc arcs) old_signals z r.arc s) h cycles

rows_scaled : (arcs : List OldArc) (z : List ℤ) (b c : Baseline) (s : ℕ) (os : List OldRow) (rs : List Row) (qs : List OldObserved) → IsSameSignal arcs z s → AreScaledBaselines unit_ratio b c
    → AllZip IsLiftedRow os rs → AreScaled unit_ratio (old_residuals arcs z b s os qs) (residuals (map lifted_arc arcs) old_signals z c s rs (map scaled_row qs))
rows_scaled arcs z b c s [] [] qs same h i = tt
rows_scaled arcs z b c s [] (r ∷ rs) qs same h i = absurd i
rows_scaled arcs z b c s (o ∷ os) [] qs same h i = absurd i
rows_scaled arcs z b c s (o ∷ os) (r ∷ rs) [] same h i = tt
rows_scaled arcs z b c s (o ∷ os) (r ∷ rs) (q ∷ qs) same h i = (row_scaled arcs z b c s o r q same h i.0, rows_scaled arcs z b c s os rs qs same h i.1)

shares_same : (m n s : ℕ) → m ≡ n → weight s ≡ old_weight s → share m s ≡ old_share n s
shares_same m n s e f = ap₂ (λ (k : ℕ) (w : ℤ). pos (360360 / k) *ℤ w) e f

signal_scaled : (arcs : List OldArc) (z : List ℤ) (b c : Baseline) (o : OldPair) (p : PairRows) (qs : List OldObserved) (s : ℕ) → IsSameSignal arcs z s
    → AreScaledBaselines unit_ratio b c → IsLiftedPair o p
    → term (map lifted_arc arcs) old_signals z c p (map scaled_row qs) s ≈ unit_ratio *ʳ unit_ratio *ʳ old_term arcs z b o qs s
signal_scaled arcs z b c o p qs s same h i =
    let new : List Rational = residuals (map lifted_arc arcs) old_signals z c s p.rows (map scaled_row qs) in
    let old : List Rational = old_residuals arcs z b s o.rows qs in
    subst (λ (w : ℤ). of_whole w *ʳ spread_of_rationals new ≈ unit_ratio *ʳ unit_ratio *ʳ (of_whole (old_share (length o.rows) s) *ʳ spread_of_rationals old))
    (sym (shares_same (length p.rows) (length o.rows) s (AllZip-long IsLiftedRow o.rows p.rows i.rows) same.weight_is))
    (term_scaled unit_ratio (old_share (length o.rows) s) old new (rows_scaled arcs z b c s o.rows p.rows qs same h i.rows))

terms_scaled : (arcs : List OldArc) (z : List ℤ) (b c : Baseline) (os : List OldPair) (ps : List PairRows) (observed : List (List OldObserved)) → AreScaledBaselines unit_ratio b c
    → AllZip IsLiftedPair os ps
    → AreScaled (unit_ratio *ʳ unit_ratio) (old_terms arcs z b os observed) (terms (map lifted_arc arcs) old_signals z c ps (scaled observed))
terms_scaled arcs z b c [] [] observed h i = tt
terms_scaled arcs z b c [] (p ∷ ps) observed h i = absurd i
terms_scaled arcs z b c (o ∷ os) [] observed h i = absurd i
terms_scaled arcs z b c (o ∷ os) (p ∷ ps) [] h i = tt
terms_scaled arcs z b c (o ∷ os) (p ∷ ps) (qs ∷ rest) h i =
    let first_phase_same : IsSameSignal arcs z 0 = record { cycle_is = refl; weight_is = refl; integer_is = first_integer arcs z } in
    let second_phase_same : IsSameSignal arcs z 1 = record { cycle_is = refl; weight_is = refl; integer_is = second_integer arcs z } in
    let first_code_same : IsSameSignal arcs z 2 = record { cycle_is = refl; weight_is = refl; integer_is = first_code arcs z } in
    let second_code_same : IsSameSignal arcs z 3 = record { cycle_is = refl; weight_is = refl; integer_is = second_code arcs z } in (
      signal_scaled arcs z b c o p qs 0 first_phase_same h i.0,
      (
        signal_scaled arcs z b c o p qs 1 second_phase_same h i.0,
        (
          signal_scaled arcs z b c o p qs 2 first_code_same h i.0,
          (
            signal_scaled arcs z b c o p qs 3 second_code_same h i.0,
            terms_scaled arcs z b c os ps rest h i.1,
          ),
        ),
      ),
    )

-- for each two baselines of which the second is 23/32 of the first
pub sum_lifted : (old : OldSession) (s : Session) (z : List ℤ) (b c : Baseline) (observed : List (List OldObserved)) → IsLiftedSession old s → AreScaledBaselines unit_ratio b c
    → sum_of_squares s.arcs (fine_signals s.signals) s.pairs z c (scaled observed) ≈ unit_ratio *ʳ unit_ratio *ʳ old_sum old.arcs old.pairs z b observed
sum_lifted old s z b c observed i h =
    subst (λ (ss : List ℕ). sum_of_squares s.arcs ss s.pairs z c (scaled observed) ≈ unit_ratio *ʳ unit_ratio *ʳ old_sum old.arcs old.pairs z b observed) (sym (signals_are s.signals i.l5))
    (subst (λ (arcs : List Arc). sum_of_squares arcs old_signals s.pairs z c (scaled observed) ≈ unit_ratio *ʳ unit_ratio *ʳ old_sum old.arcs old.pairs z b observed) (sym i.arcs)
    (sum_scaled (unit_ratio *ʳ unit_ratio) (old_terms old.arcs z b old.pairs observed) (terms (map lifted_arc old.arcs) old_signals z c s.pairs (scaled observed))
    (terms_scaled old.arcs z b c old.pairs s.pairs observed h i.pairs)))

pub baseline_scaled : (b : Baseline) → AreScaledBaselines unit_ratio b (scaled_baseline b)
baseline_scaled b = record { b1 = refl; b2 = refl; b3 = refl }

pub sums_scaled : (old : OldSession) (s : Session) → IsLiftedSession old s → HasScaledSums old s
sums_scaled old s i = λ observed z b. sum_lifted old s z b (scaled_baseline b) observed i (baseline_scaled b)
