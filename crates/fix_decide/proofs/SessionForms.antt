-- What is known of the form of a session and of its two least vectors.
use Rattle.std.proofs.Common.{◌≡◌, ℕ, suc, ◌+◌, ◌-◌, ◌^◌, ◌<◌, ◌≤◌, true, false, Bool, cond, lit≤, List, length, ℤ, pos, ◌<ℤ◌, Ok, Err, arith, sym, ap, ◌∙◌, subst, unsigned_abs, All, take, min, ◌≤ℤ◌, mul-pos}
use Rattle.std.specs.Prelude.{◌==◌}
use Rattle.std.proofs.lemmas.List.{get_or_default, get_or-take, length-take}
use Rattle.std.proofs.lemmas.Int.{ints}
use Rattle.whole_math.specs.Vectors.{len, zeros}
use Rattle.whole_math.proofs.Vectors.{len_is}
use Rattle.whole_math.proofs.Order.{lins}
use Rattle.quadratic_form.specs.Forms.{Column}
use Rattle.quadratic_form.specs.Elimination.{Factor, wide_entry, form_small, steps, StepsAnswer}
use Rattle.quadratic_form.specs.TwoLeast.{TwoLeast}
use Rattle.quadratic_form.proofs.LowerSums.{small_second}
use Rattle.quadratic_form.proofs.MatrixEntries.{length_zeros}
use Rattle.obs_rows.specs.declared.bands.Signals.{Signals}
use Rattle.obs_rows.specs.declared.sessions.Session.{Session}
use Rattle.obs_rows.specs.declared.units.TheConstants.{SIGNALS_12, SIGNALS_15, SIGNALS_125}
use Rattle.obs_rows.specs.Ranges.{IsBelow}
use Rattle.quadratic_form.specs.Tables.{entry}
use Rattle.obs_rows.specs.Signals.{fine_signals, counted, phases}
use Rattle.obs_rows.specs.Integers.{integer_count}
use Rattle.integer_form.specs.declared.form.Form.{Form}
use Rattle.integer_form.specs.Factors.{stored}
use Rattle.integer_form.specs.Forms.{integers_of, columns_of, value_of}
use Rattle.integer_form.specs.FloatPoint.{item, HasWide}
use Rattle.integer_form.proofs.FormShapes.{len_form, shaped_form, len_with_one, columns_left}
use Rattle.lower_form.specs.FirstRounding.{first_form}
use Rattle.lower_form.specs.Fronts.{BoundsAllData}
use Rattle.lower_form.proofs.FrontLaws.{bounds_all}
use Rattle.elimination.proofs.FinishLaws.{small_form}
use Rattle.int_search.specs.declared.answer.TwoBest.{TwoBest}
use Rattle.int_search.specs.Vectors.{IsSmall}
use Rattle.int_search.specs.Answers.{IsTwoBest}
use Rattle.fix_decide.specs.Decisions.{IsFormOf, first_of, second_of}

-- ---- the bound over all data

-- an answer that isn't refused is that of the steps
pub taken : (r : StepsAnswer) (b : Bool) (p : List Factor × List Column) → elim b as (λ x. StepsAnswer) [ true ↦ r | false ↦ Err wide_entry ] ≡ Ok p → r ≡ Ok p
taken r true p e = e
taken r false p e = absurd (apart e)
  where
    apart : Err wide_entry ≡ Ok p → ⊥
    apart e = cc

pub bounds_of : (s : Session) (f : Form) → IsFormOf s f → BoundsAllData s.arcs (counted s.signals s.scale) s.pairs f.h (columns_of f)
bounds_of s f h = bounds_all s.arcs (counted s.signals s.scale) s.pairs h.normal f.h (stored f.d f.l f.columns 0 3, columns_of f) h.of_rows
    (taken (steps 0 3 (first_form f.h h.normal)) (form_small (first_form f.h h.normal)) (stored f.d f.l f.columns 0 3, columns_of f) h.lowered.front)

-- ---- the number of integers
pub integers_are : (s : Session) (f : Form) → IsFormOf s f → s.scale ≡ 0 → integers_of f ≡ integer_count s.arcs (fine_signals s.signals)
integers_are s f h fine = fewer f.columns h.normal.columns (integer_count s.arcs (counted s.signals s.scale)) (integer_count s.arcs (fine_signals s.signals)) h.lowered.columns h.of_rows.columns
    (ap (λ (k : ℕ). integer_count s.arcs (counted s.signals k)) fine)
  where
    fewer : (a b c d : ℕ) → a ≡ b → b ≡ 4 + c → c ≡ d → a - 4 ≡ d
    fewer a b c d e f g = omega arith

-- a fine session has two phases or three
pub some_phases : (signals : Signals) → 1 ≤ length (phases (fine_signals signals))
some_phases signals = by_l5 (signals.l5 == 0)
  where
    by_l2 : (unused : Bool) → 1 ≤ length (phases (cond unused SIGNALS_15 SIGNALS_125))
    by_l2 true = lit≤ tt
    by_l2 false = lit≤ tt

    by_l5 : (unused : Bool) → 1 ≤ length (phases (cond unused SIGNALS_12 (cond (signals.l2 == 0) SIGNALS_15 SIGNALS_125)))
    by_l5 true = lit≤ tt
    by_l5 false = by_l2 (signals.l2 == 0)

some_integers : (s : Session) → 1 ≤ integer_count s.arcs (fine_signals s.signals)
some_integers s = mul-pos (some_phases s.signals) s.arcs_in.some_free

-- ---- the second value is below 2^54
pub second_fits : (x : ℤ) → x <ℤ pos (2 ^ 54) → x ≤ℤ pos (2 ^ 62)
second_fits x h = omega (arith, ints)

pub one_less : (n : ℕ) → 1 ≤ n → n ≡ suc (n - 1)
one_less n h = omega arith

-- a form that has integers
pub small_value : (f : Form) (n : ℕ) (z1 z2 : List ℤ) → integers_of f ≡ suc n → TwoLeast (columns_of f) (pos (integers_of f)) z1 z2 → value_of f z2 <ℤ pos (2 ^ 54)
small_value f n z1 z2 e t = small_second n (columns_of f) z1 z2 (small_form (entry f.p) 0 (f.columns - 3) f.entries_in) (shaped_form (entry f.p) 0 (f.columns - 3))
    (len_form (entry f.p) 0 (f.columns - 3) ∙ ap pos (columns_left f.columns f.columns_from ∙ ap suc e) ∙ sym (len_with_one (zeros (suc n)) (suc n) (length_zeros (suc n))))
    (subst (λ (k : ℤ). TwoLeast (columns_of f) k z1 z2) (ap pos e ∙ sym (len_is (zeros (suc n)) ∙ ap pos (length_zeros (suc n)))) t)

pub second_small : (s : Session) (f : Form) (b : TwoBest) → IsFormOf s f → s.scale ≡ 0 → IsTwoBest f b → b.p2 <ℤ pos (2 ^ 54)
second_small s f b h fine two = subst (λ (x : ℤ). x <ℤ pos (2 ^ 54)) (sym two.p2)
    (small_value f (integers_of f - 1) (first_of b) (second_of b) (one_less (integers_of f) (subst (λ (k : ℕ). 1 ≤ k) (sym (integers_are s f h fine)) (some_integers s)))
    two.least)

-- ---- the entries of the first vector
pub first_length : (f : Form) (b : TwoBest) → IsTwoBest f b → length (first_of b) ≡ b.size
first_length f b two = same (length (first_of b)) b.size (sym (len_is (first_of b)) ∙ two.least.first ∙ ap pos (sym two.size))
  where
    same : (a b : ℕ) → pos a ≡ pos b → a ≡ b
    same a b e = omega (arith, lins)

pub least_of : (f : Form) (b : TwoBest) → IsTwoBest f b → TwoLeast (columns_of f) (len (first_of b)) (first_of b) (second_of b)
least_of f b two = subst (λ (k : ℤ). TwoLeast (columns_of f) k (first_of b) (second_of b)) (sym two.least.first) two.least

pub first_small : (n : ℕ) (z : List ℤ) → IsSmall z → All (IsBelow (2 ^ 30)) (take n z)
first_small n z h k d inside = subst (λ (x : ℤ). unsigned_abs x < 2 ^ 30) (sym
    (get_or_default (take n z) k d (pos 0) inside ∙ get_or-take n z k (pos 0) (within (length z) (subst (λ (m : ℕ). k < m) (length-take n z) inside)))) (h k)
  where
    within : (m : ℕ) → k < min n m → k < n
    within m g = omega arith

-- ---- a baseline that isn't wide
pub all_narrow : (m : List ℤ) → (HasWide m → ⊥) → All (IsBelow (2 ^ 46)) m
all_narrow m h k d inside = subst (λ (x : ℤ). unsigned_abs x < 2 ^ 46) (get_or_default m k (pos 0) d inside) (not_wide (unsigned_abs (item m k)) (λ g. h (k, g)))
  where
    not_wide : (n : ℕ) → (2 ^ 46 ≤ n → ⊥) → n < 2 ^ 46
    not_wide n f = omega arith
