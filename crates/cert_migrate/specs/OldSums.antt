-- The data of a session of version 1, its weighted sum of squares, and what it means that integers are best in it. All of
-- it stands here, whatever later versions say: the unit κ, of which the wavelengths are 60 and 77, and rows in 2^-18 κ.
use Rattle.std.specs.Prelude.{◌≡◌, ◌≢◌, ℕ, ◌*◌, ◌/◌, ◌+◌, ◌^◌, ℤ, pos, ◌*ℤ◌, Bool, false, if◌then◌else◌, nat_lt, Option, Some, None, List, [], ◌∷◌, ◌++◌, length, take, map, All, slice_get, slice_index_or}
use Rattle.std.specs.List.{AllZip}
use Rattle.whole_math.specs.Rational.{Rational, Near, ◌<ʳ◌, of_whole, ◌+ʳ◌, ◌-ʳ◌, ◌*ʳ◌, times}
use Rattle.whole_math.specs.Spread.{Baseline, sum_of_rationals, spread_of_rationals}
use Rattle.cert_migrate.specs.declared.old_arcs.OldArc.{OldArc}
use Rattle.cert_migrate.specs.declared.old_rows.OldRow.{OldRow}
use Rattle.cert_migrate.specs.declared.old_pairs.OldPair.{OldPair}
use Rattle.cert_migrate.specs.declared.old_sessions.OldSession.{OldSession}
use Rattle.cert_migrate.specs.OldArcs.{is_old_free, old_free_count}
use Rattle.cert_migrate.specs.OldTails.{old_integer_count}

-- ---- signals: phase on L1, phase on L2, code on L1, code on L2
abbrev pub old_signals : List ℕ
old_signals = 0 ∷ 1 ∷ 2 ∷ 3 ∷ []

-- λ in κ, and 0 for a code
abbrev pub old_wavelength : ℕ → ℤ
old_wavelength s = slice_index_or (pos 60 ∷ pos 77 ∷ []) s (pos 0)

-- λ in the unit of the rows
abbrev pub old_cycle : ℕ → ℤ
old_cycle s = old_wavelength s *ℤ pos (2 ^ 18)

-- w
abbrev pub old_weight : ℕ → ℤ
old_weight s = slice_index_or (pos 10_000 ∷ pos 10_000 ∷ pos 1 ∷ pos 1 ∷ []) s (pos 0)

-- ---- data
-- of one row: an observation for each signal, in 2^-18 κ, and the direction, in 2^-24, which all signals share
pub record OldObserved : Type 0 where
  pub y : ℕ → Rational
  pub u1 : Rational
  pub u2 : Rational
  pub u3 : Rational

abbrev pub at : List ℤ → ℕ → ℤ
at numbers k = slice_index_or numbers k (pos 0)

pub record IsInOldBoxes (r : OldRow) (q : OldObserved) : Type 0 where
  pub y : All (λ s. Near (at r.y s) r.ry (q.y s)) old_signals
  pub u1 : Near (at r.u 0) (at r.ru 0) q.u1
  pub u2 : Near (at r.u 1) (at r.ru 1) q.u2
  pub u3 : Near (at r.u 2) (at r.ru 2) q.u3

-- each row of each pair has such an entry
abbrev pub AreOldData : List OldPair → List (List OldObserved) → Type 0
AreOldData pairs observed = AllZip (λ p qs. AllZip IsInOldBoxes p.rows qs) pairs observed

-- ---- integers
abbrev pub is_some_old_free : Option OldArc → Bool
is_some_old_free (Some a) = is_old_free a
is_some_old_free None = false

-- N: the integer of arc k and signal s in the vector z: after those of the free arcs before it, that of L1 before that of
-- L2. That of a datum is 0, and so is that of a code
abbrev pub old_integer : List OldArc → List ℤ → ℕ → ℕ → ℤ
old_integer arcs z k s =
    if nat_lt s 2 then (if is_some_old_free (slice_get arcs k) then at z (2 * old_free_count (take k arcs) + s) else pos 0) else pos 0

-- ---- the sum of squares
-- u·b, for a baseline in the unit 2^6 κ
abbrev pub old_along : OldObserved → Baseline → Rational
old_along q b = q.u1 *ʳ b.b1 +ʳ (q.u2 *ʳ b.b2 +ʳ q.u3 *ʳ b.b3)

-- y - u·b - λN of signal s, in 2^-18 κ
abbrev pub old_residual : List OldArc → List ℤ → Baseline → ℕ → OldRow → OldObserved → Rational
old_residual arcs z b s r q = q.y s -ʳ old_along q b -ʳ of_whole (old_cycle s *ℤ old_integer arcs z r.arc s)

-- of each row of a pair
abbrev pub old_residuals : List OldArc → List ℤ → Baseline → ℕ → List OldRow → List OldObserved → List Rational
old_residuals arcs z b s [] qs = []
old_residuals arcs z b s (r ∷ rs) [] = []
old_residuals arcs z b s (r ∷ rs) (q ∷ qs) = old_residual arcs z b s r q ∷ old_residuals arcs z b s rs qs

-- (360360 / n) · w
abbrev pub old_share : ℕ → ℕ → ℤ
old_share n s = pos (360360 / n) *ℤ old_weight s

-- (360360 / n) · w · (n · Σ s² - (Σ s)²), over the n rows of a pair
abbrev pub old_term : List OldArc → List ℤ → Baseline → OldPair → List OldObserved → ℕ → Rational
old_term arcs z b p qs s = of_whole (old_share (length p.rows) s) *ʳ spread_of_rationals (old_residuals arcs z b s p.rows qs)

-- of each pair and each signal
abbrev pub old_terms : List OldArc → List ℤ → Baseline → List OldPair → List (List OldObserved) → List Rational
old_terms arcs z b [] observed = []
old_terms arcs z b (p ∷ ps) [] = []
old_terms arcs z b (p ∷ ps) (qs ∷ rest) = map (old_term arcs z b p qs) old_signals ++ old_terms arcs z b ps rest

-- F, in the square of 2^-18 κ
abbrev pub old_sum : List OldArc → List OldPair → List ℤ → Baseline → List (List OldObserved) → Rational
old_sum arcs pairs z b observed = sum_of_rationals (old_terms arcs z b pairs observed)

-- ---- best
-- z has one entry for each free arc and phase, and for all data the sum of squares of z with the baseline m is below that of every other
-- such vector, of whole numbers of any size, with every rational baseline, of any length. What below means is said by the first argument.
pub record IsOldBestBy (Below : Rational → Rational → Type 0) (s : OldSession) (z : List ℤ) (m : Baseline) : Type 0 where
  pub entries : length z ≡ old_integer_count s.arcs
  pub best : (observed : List (List OldObserved)) → AreOldData s.pairs observed →
      (w : List ℤ) → length w ≡ old_integer_count s.arcs → w ≢ z → (b : Baseline) →
      Below (old_sum s.arcs s.pairs z m observed) (old_sum s.arcs s.pairs w b observed)

-- strictly best: it is less
abbrev pub IsOldBest : OldSession → List ℤ → Baseline → Type 0
IsOldBest = IsOldBestBy ◌<ʳ◌

-- best by a ratio in thousandths: ratio times it is less than 1000 times the other
abbrev pub IsOldBestByRatio : ℕ → OldSession → List ℤ → Baseline → Type 0
IsOldBestByRatio ratio = IsOldBestBy (λ f g. times ratio f <ʳ times 1000 g)
