-- What a session's float point says.
use Rattle.std.proofs.Common.{◌≡◌, ℕ, ◌^◌, ◌<◌, ◌≤◌, Bool, List, ℤ, unsigned_abs, to_z, of_z, arith, sym, subst, inl}
use Rattle.std.specs.Int.{w64}
use Rattle.obs_rows.specs.declared.sessions.Session.{Session}
use Rattle.quadratic_form.specs.Lowering.{IsExponent}
use Rattle.obs_rows.specs.Signals.{counted}
use Rattle.normal_sum.specs.declared.normal.Normal.{Normal}
use Rattle.normal_sum.specs.Normals.{IsNormalOf}
use Rattle.normal_sum.specs.Values.{form_of}
use Rattle.integer_form.specs.ReportedRefusals.{IsReportedAs}
use Rattle.lower_form.specs.Forms.{elimination_of}
use Rattle.lower_form.proofs.Exponents.{has_exponent}
use Rattle.integer_form.specs.declared.form.Form.{Form}
use Rattle.integer_form.specs.declared.faults.LowerFault.{LowerFault}
use Rattle.integer_form.specs.declared.faults.LowerFault.TheVariants as Fault
use Rattle.integer_form.specs.FloatPoint.{item, float_point, HasWide}
use Rattle.obs_rows.specs.Ranges.{IsBelow}
use Rattle.cert_data.specs.Tails.{IsTailOf}
use Rattle.cert_data.specs.declared.tails.Tail.{Tail}
use Rattle.cert_data.specs.declared.tails.Tail.TheVariants.{Fixed, Unseparated, Weak, Overwidth, Unsettled, Spent}
use Rattle.round_steps.specs.Limits.{limit, IsSettled, IsFirstOver}
use Rattle.cert_check.specs.Settled.{IsBestByRatioWhereFixed, IsRefused, tail_of}
use Rattle.round_steps.specs.Steps.{IsFloatOf, IsSettledForm, IsRoundDeclined, IsUnsettled}
use Rattle.cert_check.proofs.WeakLaws.{weak_fits}
use Rattle.whole_math.proofs.Words.{as_w64}

-- a number that isn't wide fits its word
pub word : (x : ℤ) → unsigned_abs x < 2 ^ 46 → to_z w64 (of_z w64 x) ≡ x
word x narrow = as_w64 x (omega (arith, narrow))

-- no number is 2^46 or more in size
pub narrow_numbers : (f : Form) (x : List ℤ) → ((j : ℕ) → item x j ≡ item (float_point f) j) → (HasWide (float_point f) → ⊥) → (j : ℕ) → IsBelow (2 ^ 46) (item x j)
narrow_numbers f x same narrow j = subst (IsBelow (2 ^ 46)) (sym (same j)) (less (unsigned_abs (item (float_point f) j)) (λ wide. narrow (j, wide)))
  where
    less : (n : ℕ) → (2 ^ 46 ≤ n → ⊥) → n < 2 ^ 46
    less n not_wide = omega arith

-- the first number over its limit fits its word
pub entry_word : (scale : ℕ) (x : List ℤ) (e : ℤ) → IsFirstOver scale x e → ((j : ℕ) → unsigned_abs (item x j) < 2 ^ 46) → to_z w64 (of_z w64 e) ≡ e
entry_word scale x e first narrow = word e (subst (λ (a : ℤ). unsigned_abs a < 2 ^ 46) (sym first.entry_is) (narrow first.column))

-- numbers of a float point that are settled say that the form is
pub settled_form : (s : Session) (x : List ℤ) → IsFloatOf s x → IsSettled s.scale x → (form : Form) × IsSettledForm s form
settled_form s x float settled = (
  float.form,
  record {
    of_rows = float.of_rows;
    narrow = float.narrow;
    settled = λ j. subst (λ (e : ℤ). unsigned_abs e ≤ limit s.scale j) (float.numbers j) (settled j);
  },
)

-- an elimination that is refused over each power of 2 that serves
pub record IsRefusedOver (s : Session) (fault : LowerFault) : Type 0 where
  pub normal : Normal
  pub of_rows : IsNormalOf s.arcs (counted s.signals s.scale) s.pairs normal
  pub reported : (h : ℕ) → IsExponent h (form_of normal) → IsReportedAs fault (elimination_of h normal)

-- is so over the one that there is
over_one : (s : Session) (f : LowerFault) → IsRefusedOver s f → IsRefused s f
over_one s f a = let some = has_exponent (form_of a.normal) in record { normal = a.normal; of_rows = a.of_rows; h = some.0; exponent = some.1; reported = a.reported some.0 some.1 }

-- and ends the round
pub refused_elimination : (last : Bool) (s : Session) (f : LowerFault) (t : Tail) → t ≡ tail_of f → IsRefusedOver s f → IsRoundDeclined last s t
refused_elimination last s (Fault.Weak column pivot) t e h = subst (IsRoundDeclined last s) (sym e) (over_one s (Fault.Weak column pivot) h)
refused_elimination last s (Fault.Overwidth place) t e h = subst (IsRoundDeclined last s) (sym e) (inl (over_one s (Fault.Overwidth place) h))

-- ---- the ranges of tails
pub declined_fits : (last : Bool) (s : Session) (t : Tail) → IsRoundDeclined last s t → (ss : List ℕ) (budget : ℕ) → IsTailOf ss s.arcs budget t
declined_fits last s (Fixed h m best top) declined ss budget = absurd declined
declined_fits last s (Unseparated h m best top) declined ss budget = absurd declined
declined_fits last s (Weak column pivot) declined ss budget = weak_fits s column pivot declined
declined_fits last s (Overwidth place) declined ss budget = tt
declined_fits last s (Unsettled entry) declined ss budget =
    let round : IsUnsettled s declined.1.0 entry = declined.1.1 in
    subst (IsBelow (2 ^ 46)) (sym round.first.entry_is) (narrow_numbers round.float.form declined.1.0 round.float.numbers round.float.narrow round.first.column)
declined_fits last s (Spent b) declined ss budget = absurd declined

-- a round that is declined is never fixed
pub declined_best : (last : Bool) (ratio : ℕ) (s : Session) (t : Tail) → IsRoundDeclined last s t → IsBestByRatioWhereFixed ratio s t
declined_best last ratio s (Fixed h m best top) declined = absurd declined
declined_best last ratio s (Unseparated h m best top) declined = tt
declined_best last ratio s (Weak column pivot) declined = tt
declined_best last ratio s (Overwidth place) declined = tt
declined_best last ratio s (Unsettled entry) declined = tt
declined_best last ratio s (Spent b) declined = tt
