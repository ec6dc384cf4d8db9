-- Numbers of signals and bands that don't count are 0.
use Rattle.std.proofs.Common.{◌≡◌, ℕ, zero, suc, Bool, true, false, cond, IsTrue, All, List, [], ◌∷◌, map, get_or, ℤ, pos, refl, ap, ◌∙◌}
use Rattle.std.specs.Prelude.{◌==◌, ◌||◌}
use Rattle.std.specs.List.{list_any, filter}
use Rattle.std.proofs.lemmas.Bool.{both_ways, eqb-true, eq-eqb, false_from_ne_true, or_parts}
use Rattle.std.proofs.lemmas.List.Elements.{All-from_recursion}
use Rattle.std.proofs.lemmas.List.Folds.{list_any_none, list_any_at}
use Rattle.obs_rows.specs.declared.bands.Signals.{Signals}
use Rattle.obs_rows.specs.declared.pair_rows.PairRows.{PairRows}
use Rattle.obs_rows.specs.declared.units.TheConstants.{COARSE_SIGNALS}
use Rattle.obs_rows.specs.Signals.{is_phase, band, fine_signals, counted}
use Rattle.obs_rows.specs.CountedSignals.{phase_bands}
use Rattle.obs_rows.specs.Unused.{IsZeroOff, HasUsedRows}
use Rattle.row_build.specs.Rows.{RowSetting}
use Rattle.row_build.specs.PairRows.{ArePairRows}
use Rattle.row_build.specs.Shifts.{counts}
use Rattle.row_build.proofs.FirstRow.{code_counts}

-- ---- shifts
-- a phase whose band is none of those that count doesn't count
not_counted : (ss : List ℕ) (s : ℕ) → IsTrue (is_phase s) → list_any (λ (b : ℕ). b == band s) (phase_bands ss) ≡ false → counts ss s ≡ false
not_counted [] s phase none = refl
not_counted (x ∷ ss) s phase none = step (x == s) (is_phase x) (counts ss s) (filter is_phase ss) same none (not_counted ss s phase)
  where
    same : (x == s) ≡ true → (is_phase x ≡ true) × ((band x == band s) ≡ true)
    same e = let same_sat : x ≡ s = eqb-true x s e in (ap is_phase same_sat ∙ phase, eq-eqb (band x) (band s) (ap band same_sat))

    step : (e h rest : Bool) (ps : List ℕ) → (e ≡ true → (h ≡ true) × ((band x == band s) ≡ true)) → list_any (λ (b : ℕ). b == band s) (map band (cond h (x ∷ ps) ps)) ≡ false →
        (list_any (λ (b : ℕ). b == band s) (map band ps) ≡ false → rest ≡ false) → (e || rest) ≡ false
    step true true rest ps f none later = absurd (both_ways (list_any (λ (b : ℕ). b == band s) (map band (x ∷ ps))) none
        (ap (λ (t : Bool). t || list_any (λ (b : ℕ). b == band s) (map band ps)) (f refl).1))
    step true false rest ps f none later = absurd (both_ways false refl (f refl).0)
    step false true rest ps f none later = later (or_parts (band x == band s) (list_any (λ (b : ℕ). b == band s) (map band ps)) none).1
    step false false rest ps f none later = later none

-- the shifts of L1, L2 and L5, each 0 where its phase doesn't count
pub bands_off : (ss : List ℕ) (l1 l2 l5 : ℤ) → (counts ss 0 ≡ false → l1 ≡ pos 0) → (counts ss 1 ≡ false → l2 ≡ pos 0) → (counts ss 4 ≡ false → l5 ≡ pos 0) →
    IsZeroOff (phase_bands ss) (l1 ∷ l2 ∷ l5 ∷ [])
bands_off ss l1 l2 l5 a b c zero none = a (not_counted ss 0 refl none)
bands_off ss l1 l2 l5 a b c (suc zero) none = b (not_counted ss 1 refl none)
bands_off ss l1 l2 l5 a b c (suc (suc zero)) none = c (not_counted ss 4 refl none)
bands_off ss l1 l2 l5 a b c (suc (suc (suc k))) none = refl

-- ---- observations
-- what is 0 off the signals that count is 0 off those that are used
off_used : (signals : Signals) (scale : ℕ) (y : List ℤ) → IsZeroOff (counted signals scale) y → IsZeroOff (fine_signals signals) y
off_used signals scale y = by_scale (scale == 0)
  where
    none_any : (p : ℕ → Bool) (xs : List ℕ) → list_any p xs ≡ false → All (λ (x : ℕ). p x ≡ false) xs
    none_any p xs h = λ i d l. false_from_ne_true (p (get_or xs i d)) (λ e. both_ways (list_any p xs) h (list_any_at p xs i d l e))

    by_scale : (fine : Bool) → IsZeroOff (cond fine (fine_signals signals) COARSE_SIGNALS) y → IsZeroOff (fine_signals signals) y
    by_scale true h = h
    by_scale false h = λ k none. h k (list_any_none (λ (s : ℕ). s == k) COARSE_SIGNALS
        (All-from_recursion (λ (s : ℕ). (s == k) ≡ false) COARSE_SIGNALS (code_counts (λ (s : ℕ). (s == k) ≡ false) signals 0 (none_any (λ (s : ℕ). s == k) (fine_signals signals) none), tt)))

pub used_rows : (t : RowSetting) (pair : ℕ) (p : PairRows) → ArePairRows t pair p → HasUsedRows (fine_signals t.signals) p
used_rows t pair p a = λ i d l. off_used t.signals t.scale (get_or p.rows i d).y (a.rows i d l).others
