-- What is strictly best in a lifted session, or best by a ratio, is so in the old one.
use Rattle.std.proofs.Common.{◌≡◌, ℕ, ◌*◌, ◌^◌, List, [], ◌∷◌, ℤ, pos, ◌*ℤ◌, refl, sym, ap, ap₂, ◌∙◌}
use Rattle.whole_math.proofs.Ring.{◌⊗◌}
use Rattle.whole_math.proofs.Inequalities.{same_by, nat, pos_nn}
use Rattle.whole_math.specs.Rational.{Rational, ◌≈◌, ◌<ʳ◌, ◌*ʳ◌, times}
use Rattle.obs_rows.specs.declared.arcs.Arc.{Arc}
use Rattle.obs_rows.specs.declared.sessions.Session.{Session}
use Rattle.obs_rows.specs.Signals.{fine_signals}
use Rattle.obs_rows.specs.Integers.{integer_count}
use Rattle.obs_rows.specs.Best.{moved, sum_at, IsBestBy, IsLessByRatio}
use Rattle.fix_decide.specs.Decisions.{first_of}
use Rattle.cert_data.specs.declared.tails.Tail.{Tail}
use Rattle.cert_data.specs.declared.tails.Tail.TheVariants.{Fixed, Unseparated, Weak, Overwidth, Unsettled, Spent}
use Rattle.cert_check.specs.Settled.{WhereFixed, IsBestWhereFixed, IsBestByRatioWhereFixed}
use Rattle.cert_migrate.specs.declared.old_sessions.OldSession.{OldSession}
use Rattle.cert_migrate.specs.OldTails.{old_integer_count}
use Rattle.cert_migrate.specs.OldSums.{at, old_sum, IsOldBestBy}
use Rattle.cert_migrate.specs.Lifted.{IsLiftedSession, unit_ratio, scaled, scaled_baseline, in_old_unit, IsOldBestWhereFixed, IsOldBestByRatioWhereFixed}
use Rattle.cert_migrate.proofs.Scaling.{AreScaledBaselines, less_back}
use Rattle.cert_migrate.proofs.LiftedArcs.{count_same}
use Rattle.cert_migrate.proofs.LiftedData.{signals_are, data_scaled}
use Rattle.cert_migrate.proofs.LiftedSums.{sum_lifted, baseline_scaled}

-- a move is 23/32 of what it is in the old unit
move_scaled : (m : List ℤ) → AreScaledBaselines unit_ratio (in_old_unit m) (moved m)
move_scaled m = record { b1 = each (at m 0); b2 = each (at m 1); b3 = each (at m 2) }
  where
    each : (k : ℤ) → k *ℤ pos (32 * (23 * 2 ^ 16)) ≡ (pos 23 *ℤ (pos 32 *ℤ k)) *ℤ pos (2 ^ 16)
    each k = same_by (k ∷ []) (λ k. (k ⊗ nat (32 * (23 * 2 ^ 16)), (nat 23 ⊗ (nat 32 ⊗ k)) ⊗ nat (2 ^ 16))) refl

integers_are : (old : OldSession) (s : Session) → IsLiftedSession old s → integer_count s.arcs (fine_signals s.signals) ≡ old_integer_count old.arcs
integers_are old s i =
    ap₂ (λ (arcs : List Arc) (ss : List ℕ). integer_count arcs ss) i.arcs (signals_are s.signals i.l5)
    ∙ ap (λ (n : ℕ). 2 * n) (count_same old.arcs)

-- ---- orders
-- the square of the unit's ratio: what a sum of squares is scaled by
abbrev factor : Rational
factor = unit_ratio *ʳ unit_ratio

-- what stands so once it is scaled stands so before
abbrev IsCarriedBack : (Rational → Rational → Type 0) → Type 0
IsCarriedBack Below = (f g p q : Rational) → p ≈ factor *ʳ f → q ≈ factor *ʳ g → Below p q → Below f g

less_carried : IsCarriedBack ◌<ʳ◌
less_carried f g p q e h = less_back factor f g p q (pos_nn 529) e h

-- n times what is scaled
times_scaled : (n : ℕ) (f p q : Rational) → q ≈ f *ʳ p → times n q ≈ f *ʳ times n p
times_scaled n f p q e = step (pos n) q.num (pos (f.den * p.den)) f.num p.num (pos q.den) e
  where
    step : (n a d b c e : ℤ) → a *ℤ d ≡ (b *ℤ c) *ℤ e → (n *ℤ a) *ℤ d ≡ (b *ℤ (n *ℤ c)) *ℤ e
    step n a d b c e h =
        same_by (n ∷ a ∷ d ∷ []) (λ n a d. ((n ⊗ a) ⊗ d, n ⊗ (a ⊗ d))) refl
        ∙ ap (λ x. n *ℤ x) h
        ∙ same_by (n ∷ b ∷ c ∷ e ∷ []) (λ n b c e. (n ⊗ ((b ⊗ c) ⊗ e), (b ⊗ (n ⊗ c)) ⊗ e)) refl

ratio_carried : (ratio : ℕ) → IsCarriedBack (IsLessByRatio ratio)
ratio_carried ratio f g p q e h =
    less_back factor (times ratio f) (times 1000 g) (times ratio p) (times 1000 q) (pos_nn 529) (times_scaled ratio factor f p e) (times_scaled 1000 factor g q h)

-- ---- best
best_lifted : (Below : Rational → Rational → Type 0) → IsCarriedBack Below → (old : OldSession) (s : Session) (z m : List ℤ) → IsLiftedSession old s →
    IsBestBy Below s z m → IsOldBestBy Below old z (in_old_unit m)
best_lifted Below back old s z m i best = record {
  entries = best.entries ∙ integers_are old s i;
  best = λ observed held w entries other b.
      back (old_sum old.arcs old.pairs z (in_old_unit m) observed) (old_sum old.arcs old.pairs w b observed)
      (sum_at s z (moved m) (scaled observed)) (sum_at s w (scaled_baseline b) (scaled observed))
      (sum_lifted old s z (in_old_unit m) (moved m) observed i (move_scaled m)) (sum_lifted old s w b (scaled_baseline b) observed i (baseline_scaled b))
      (best.best (scaled observed) (data_scaled old s i observed held) w (entries ∙ sym (integers_are old s i)) other (scaled_baseline b));
}

where_fixed : (Below : Rational → Rational → Type 0) → IsCarriedBack Below → (old : OldSession) (s : Session) (t : Tail) → IsLiftedSession old s →
    WhereFixed (IsBestBy Below s) t → WhereFixed (λ z m. IsOldBestBy Below old z (in_old_unit m)) t
where_fixed Below back old s (Fixed h m best top) i d = best_lifted Below back old s (first_of best) m i d
where_fixed Below back old s (Unseparated h m best top) i d = tt
where_fixed Below back old s (Weak column pivot) i d = tt
where_fixed Below back old s (Overwidth place) i d = tt
where_fixed Below back old s (Unsettled entry) i d = tt
where_fixed Below back old s (Spent spent) i d = tt

pub best_where_fixed : (old : OldSession) (s : Session) (t : Tail) → IsLiftedSession old s → IsBestWhereFixed s t → IsOldBestWhereFixed old t
best_where_fixed = where_fixed ◌<ʳ◌ less_carried

pub ratio_where_fixed : (old : OldSession) (s : Session) (ratio : ℕ) (t : Tail) → IsLiftedSession old s → IsBestByRatioWhereFixed ratio s t → IsOldBestByRatioWhereFixed ratio old t
ratio_where_fixed old s ratio = where_fixed (IsLessByRatio ratio) (ratio_carried ratio) old s
