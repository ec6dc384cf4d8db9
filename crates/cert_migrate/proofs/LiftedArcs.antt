-- Lifted arcs: their counts, their ranges, and the places of their integers.
use Rattle.std.proofs.Common.{◌≡◌, ℕ, zero, suc, ◌+◌, ◌*◌, ◌≤◌, ◌^◌, Bool, true, false, cond, if◌then◌else◌, Option, Some, None, List, [], ◌∷◌, take, map, All, ℤ, pos, arith, refl, sym, ap, ap₂, ◌∙◌, subst}
use Rattle.std.specs.Prelude.{slice_get}
use Rattle.std.specs.Option.{option_map}
use Rattle.std.proofs.lemmas.List.{length-map, take-map}
use Rattle.std.proofs.lemmas.List.Elements.{All-nil, All-cons, All-from_recursion}
use Rattle.std.proofs.lemmas.List.Sums.{sum_by-cons}
use Rattle.std.proofs.lemmas.Option.{slice_get-map}
use Rattle.std.proofs.lemmas.Bool.{false≢true}
use Rattle.obs_rows.specs.declared.arcs.Arc.{Arc}
use Rattle.obs_rows.specs.Ranges.{IsBelow}
use Rattle.obs_rows.specs.Arcs.{is_free, free_count, free_before, IsArcInRange, AreArcs}
use Rattle.obs_rows.specs.Integers.{integer, is_some_free, entry_at}
use Rattle.obs_rows.specs.Unused.{IsZeroOff, HasUsedShifts}
use Rattle.obs_rows.specs.declared.limits.TheConstants.{MOST_ARCS}
use Rattle.cert_migrate.specs.declared.old_arcs.OldArc.{OldArc}
use Rattle.cert_migrate.specs.OldArcs.{is_old_free, old_free_count, IsOldArcInRange, AreOldArcs}
use Rattle.cert_migrate.specs.OldSums.{at, old_signals, is_some_old_free, old_integer}
use Rattle.cert_migrate.specs.Lifted.{lifted_arc}
use Rattle.cert_migrate.proofs.ListZips.{all_map, all_at}

-- ---- free arcs
pub count_same : (arcs : List OldArc) → free_count (map lifted_arc arcs) ≡ old_free_count arcs
count_same [] = refl
count_same (a ∷ arcs) =
    sum_by-cons (λ (x : Arc). cond (is_free x) 1 0) (lifted_arc a) (map lifted_arc arcs)
    ∙ ap (λ (n : ℕ). cond (is_old_free a) 1 0 + n) (count_same arcs)
    ∙ sym (sum_by-cons (λ (x : OldArc). cond (is_old_free x) 1 0) a arcs)

before_same : (arcs : List OldArc) (k : ℕ) → free_before (map lifted_arc arcs) k ≡ old_free_count (take k arcs)
before_same arcs k = ap free_count (take-map lifted_arc k arcs) ∙ count_same (take k arcs)

free_same : (o : Option OldArc) → is_some_free (option_map lifted_arc o) ≡ is_some_old_free o
free_same None = refl
free_same (Some a) = refl

some_free_same : (arcs : List OldArc) (k : ℕ) → is_some_free (slice_get (map lifted_arc arcs) k) ≡ is_some_old_free (slice_get arcs k)
some_free_same arcs k = ap is_some_free (slice_get-map lifted_arc arcs k) ∙ free_same (slice_get arcs k)

-- ---- integers
entry_if : (z : List ℤ) (f g : Bool) (m n : ℕ) → f ≡ g → m ≡ n → entry_at z (if f then Some m else None) ≡ (if g then at z n else pos 0)
entry_if z f g m n e h = ap₂ (λ (b : Bool) (k : ℕ). entry_at z (if b then Some k else None)) e h ∙ by_case g
  where
    by_case : (b : Bool) → entry_at z (if b then Some n else None) ≡ (if b then at z n else pos 0)
    by_case true = refl
    by_case false = refl

none_if : (z : List ℤ) (f : Bool) → entry_at z (if f then None else None) ≡ pos 0
none_if z true = refl
none_if z false = refl

pub first_integer : (arcs : List OldArc) (z : List ℤ) (k : ℕ) → integer (map lifted_arc arcs) old_signals z k 0 ≡ old_integer arcs z k 0
first_integer arcs z k =
    entry_if z (is_some_free (slice_get (map lifted_arc arcs) k)) (is_some_old_free (slice_get arcs k)) (2 * free_before (map lifted_arc arcs) k + 0) (2 * old_free_count (take k arcs) + 0)
    (some_free_same arcs k) (ap (λ (n : ℕ). 2 * n + 0) (before_same arcs k))

pub second_integer : (arcs : List OldArc) (z : List ℤ) (k : ℕ) → integer (map lifted_arc arcs) old_signals z k 1 ≡ old_integer arcs z k 1
second_integer arcs z k =
    entry_if z (is_some_free (slice_get (map lifted_arc arcs) k)) (is_some_old_free (slice_get arcs k)) (2 * free_before (map lifted_arc arcs) k + 1) (2 * old_free_count (take k arcs) + 1)
    (some_free_same arcs k) (ap (λ (n : ℕ). 2 * n + 1) (before_same arcs k))

pub first_code : (arcs : List OldArc) (z : List ℤ) (k : ℕ) → integer (map lifted_arc arcs) old_signals z k 2 ≡ old_integer arcs z k 2
first_code arcs z k = none_if z (is_some_free (slice_get (map lifted_arc arcs) k))

pub second_code : (arcs : List OldArc) (z : List ℤ) (k : ℕ) → integer (map lifted_arc arcs) old_signals z k 3 ≡ old_integer arcs z k 3
second_code arcs z k = none_if z (is_some_free (slice_get (map lifted_arc arcs) k))

-- ---- ranges
in_range : (a : OldArc) → IsOldArcInRange a → IsArcInRange (lifted_arc a)
in_range a h =
    let under_limit : ℤ → Type 0 = IsBelow (2 ^ 40) in
    let zero_in : under_limit (pos 0) = omega arith in
    record {
      sat_from = h.sat_from;
      sat_to = omega (arith, h.sat_to);
      order = h.order;
      last_in = h.last_in;
      shifts_in = All-from_recursion under_limit (at a.shift 0 ∷ at a.shift 1 ∷ pos 0 ∷ []) (all_at under_limit a.shift 0 (pos 0) zero_in h.shifts_in, (all_at under_limit a.shift 1 (pos 0) zero_in h.shifts_in, (zero_in, tt)));
    }

pub arcs_lifted : (arcs : List OldArc) → AreOldArcs arcs → AreArcs (map lifted_arc arcs)
arcs_lifted arcs h = record {
  some = subst (λ (n : ℕ). 2 ≤ n) (sym (length-map arcs lifted_arc)) h.some;
  few = subst (λ (n : ℕ). n ≤ MOST_ARCS) (sym (length-map arcs lifted_arc)) h.few;
  some_free = subst (λ (n : ℕ). 1 ≤ n) (sym (count_same arcs)) h.some_free;
  few_free = subst (λ (n : ℕ). n ≤ 20) (sym (count_same arcs)) h.few_free;
  ranges = all_map lifted_arc IsOldArcInRange IsArcInRange in_range arcs h.ranges;
}

-- no shift on L5
no_l5 : (x y : ℤ) → IsZeroOff (0 ∷ 1 ∷ []) (x ∷ y ∷ pos 0 ∷ [])
no_l5 x y zero e = absurd (false≢true (sym e))
no_l5 x y (suc zero) e = absurd (false≢true (sym e))
no_l5 x y (suc (suc zero)) e = refl
no_l5 x y (suc (suc (suc k))) e = refl

pub shifts_lifted : (arcs : List OldArc) → All (HasUsedShifts old_signals) (map lifted_arc arcs)
shifts_lifted [] = All-nil (HasUsedShifts old_signals)
shifts_lifted (a ∷ arcs) = All-cons (HasUsedShifts old_signals) (lifted_arc a) (map lifted_arc arcs) (no_l5 (at a.shift 0) (at a.shift 1)) (shifts_lifted arcs)
