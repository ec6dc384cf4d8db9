-- A round ends in one way.
use Rattle.std.proofs.Common.{◌≡◌, ◌-◌, ◌<◌, ◌≤◌, inl, inr, ℕ, ℤ, Bool, true, false, nat_eq, List, [], ◌∷◌, Ok, unsigned_abs, arith, refl, sym, ap, ◌∙◌, subst}
use Rattle.std.proofs.lemmas.Bool.{true≢false}
use Rattle.quadratic_form.specs.Forms.{Column}
use Rattle.quadratic_form.specs.Elimination.{Factor}
use Rattle.obs_rows.specs.declared.sessions.Session.{Session}
use Rattle.obs_rows.specs.Signals.{counted}
use Rattle.obs_rows.specs.ReceiverPoints.{IsReceiverPoint}
use Rattle.integer_form.specs.declared.form.Form.{Form}
use Rattle.integer_form.specs.declared.faults.Place.TheVariants as Place
use Rattle.integer_form.specs.declared.faults.LowerFault.{LowerFault}
use Rattle.integer_form.specs.declared.faults.LowerFault.TheVariants as Fault
use Rattle.integer_form.specs.Factors.{stored}
use Rattle.integer_form.specs.FloatPoint.{item, solved, float_point, HasWide}
use Rattle.integer_form.specs.Kept.{constant_form}
use Rattle.lower_form.proofs.OneForm.{one_elimination}
use Rattle.fix_decide.specs.Decisions.{IsFormOf}
use Rattle.cert_data.specs.declared.tails.Tail.{Tail}
use Rattle.cert_data.specs.declared.tails.Tail.TheVariants.{Fixed, Unseparated, Weak, Overwidth, Unsettled, Spent}
use Rattle.cert_data.specs.declared.outcomes.RoundCounts.{RoundCounts}
use Rattle.cert_check.specs.Settled.{IsRefused, tail_of}
use Rattle.cert_check.specs.RowDecisions.{IsRowDecision, IsSameTail}
use Rattle.cert_check.proofs.Apart.{same_refusal, no_form}
use Rattle.cert_check.proofs.OneDecision.{equal, one_decision}
use Rattle.round_steps.specs.declared.steps.Step.TheVariants.{Moved}
use Rattle.round_steps.specs.Points.{moved_coordinate, moved_point}
use Rattle.round_steps.specs.Limits.{limit, IsFirstOver}
use Rattle.round_steps.specs.Steps.{IsFloatOf, IsSettledForm, IsUnsettled, IsOutOfReach, IsFloatWide, IsStep, IsRoundDeclined, IsRoundDecided, IsRoundEnd, IsOnlyEnd}
use Rattle.round_steps.specs.Runs.{Rules, EndsFull, Reaches, most_rounds, is_last}
use Rattle.obs_rows.specs.Rounds.{round_of}
use Rattle.round_steps.proofs.RunLaws.{with_session, more_at}

-- ---- one float point
same_float : (s : Session) (f g : Form) → IsFormOf s f → IsFormOf s g → float_point f ≡ float_point g
same_float s f g a b =
    let whole = one_elimination s.arcs (counted s.signals s.scale) s.pairs a.normal b.normal f.h g.h a.of_rows b.of_rows a.lowered.exponent b.lowered.exponent in
    let taken : Ok (stored f.d f.l f.columns 0 (f.columns - 1), constant_form f.g) ≡ Ok (stored g.d g.l g.columns 0 (g.columns - 1), constant_form g.g) =
    sym a.lowered.taken ∙ whole ∙ b.lowered.taken in
    let pair : (stored f.d f.l f.columns 0 (f.columns - 1), constant_form f.g) ≡ (stored g.d g.l g.columns 0 (g.columns - 1), constant_form g.g) = cc in
    ap (λ (p : List Factor × List Column). solved p.0 []) pair

same_items : (s : Session) (x y : List ℤ) → IsFloatOf s x → IsFloatOf s y → (j : ℕ) → item x j ≡ item y j
same_items s x y a b j = a.numbers j ∙ ap (λ (p : List ℤ). item p j) (same_float s a.form b.form a.of_rows b.of_rows) ∙ sym (b.numbers j)

float_of : (s : Session) (form : Form) → IsSettledForm s form → IsFloatOf s (float_point form)
float_of s form settled = record { form = form; of_rows = settled.of_rows; narrow = settled.narrow; numbers = λ j. refl }

-- a float point that is too wide isn't another time narrow
not_narrow : (s : Session) (x : List ℤ) → IsFloatWide s → IsFloatOf s x → ⊥
not_narrow s x wide float = float.narrow (subst HasWide (same_float s wide.form float.form wide.of_rows float.of_rows) wide.wide)

not_over : (most : ℕ) (a b : ℤ) → a ≡ b → most < unsigned_abs a → unsigned_abs b ≤ most → ⊥
not_over most a b same over within = apart (unsigned_abs a) (unsigned_abs b) (ap (λ (z : ℤ). unsigned_abs z) same) over within
  where
    apart : (m n : ℕ) → m ≡ n → most < m → n ≤ most → ⊥
    apart m n same over within = omega arith

-- a settled round isn't unsettled
not_settled : (s : Session) (form : Form) (x : List ℤ) (entry : ℤ) → IsSettledForm s form → IsUnsettled s x entry → ⊥
not_settled s form x entry settled unsettled =
    let first = unsettled.first in
    let same = same_items s x (float_point form) unsettled.float (float_of s form settled) first.column in
    not_over (limit s.scale first.column) (item x first.column) (item (float_point form) first.column) same first.over (settled.settled first.column)

-- no number is over its limit before the first that is
not_before : (scale : ℕ) (x y : List ℤ) (a b : ℤ) → ((j : ℕ) → item x j ≡ item y j) → (first : IsFirstOver scale x a) (other : IsFirstOver scale y b)
    → first.column < other.column → ⊥
not_before scale x y a b same first other before =
    not_over (limit scale first.column) (item x first.column) (item y first.column) (same first.column) first.over (other.before first.column before)

one_entry : (scale : ℕ) (x y : List ℤ) (a b : ℤ) → ((j : ℕ) → item x j ≡ item y j) → IsFirstOver scale x a → IsFirstOver scale y b → a ≡ b
one_entry scale x y a b same first other =
    let column : first.column ≡ other.column =
    level first.column other.column (not_before scale x y a b same first other) (not_before scale y x b a (λ j. sym (same j)) other first) in
    first.entry_is ∙ same first.column ∙ ap (λ (j : ℕ). item y j) column ∙ sym other.entry_is
  where
    level : (m n : ℕ) → (m < n → ⊥) → (n < m → ⊥) → m ≡ n
    level m n not_less not_more = omega arith

same_point : (scale : ℕ) (p x y : List ℤ) → ((j : ℕ) → item x j ≡ item y j) → moved_point scale p x ≡ moved_point scale p y
same_point scale p x y same =
    λ t. moved_coordinate scale (item p 0) (same 0 t) ∷ moved_coordinate scale (item p 1) (same 1 t) ∷ moved_coordinate scale (item p 2) (same 2 t) ∷ []

-- ---- how a round ends
data Ends (last : Bool) (s : Session) (ratio budget : ℕ) (t : Tail) : Type 0 where
  refused : (why : LowerFault) → IsRefused s why → t ≡ tail_of why → Ends last s ratio budget t
  too_wide : IsFloatWide s → t ≡ Overwidth Place.Float → Ends last s ratio budget t
  out_of_reach : last ≡ false → IsOutOfReach s → t ≡ Overwidth Place.Point → Ends last s ratio budget t
  unsettled_last : last ≡ true → (x : List ℤ) (entry : ℤ) → IsUnsettled s x entry → t ≡ Unsettled entry → Ends last s ratio budget t
  decided : IsRoundDecided s ratio budget t → Ends last s ratio budget t

declined_ends : (last : Bool) (s : Session) (ratio budget : ℕ) (t : Tail) → IsRoundDeclined last s t → Ends last s ratio budget t
declined_ends last s ratio budget (Fixed h moved best top) is = absurd is
declined_ends last s ratio budget (Unseparated h moved best top) is = absurd is
declined_ends last s ratio budget (Weak column pivot) is = refused (Fault.Weak column pivot) is refl
declined_ends last s ratio budget (Overwidth place) (inl is) = refused (Fault.Overwidth place) is refl
declined_ends last s ratio budget (Overwidth place) (inr (inl is)) = too_wide is.1 (ap Overwidth is.0)
declined_ends last s ratio budget (Overwidth place) (inr (inr is)) = out_of_reach is.1.0 is.1.1 (ap Overwidth is.0)
declined_ends last s ratio budget (Unsettled entry) is = unsettled_last is.0 is.1.0 entry is.1.1 refl
declined_ends last s ratio budget (Spent spent) is = absurd is

round_ends : (last : Bool) (s : Session) (ratio budget : ℕ) (t : Tail) → IsRoundEnd last s ratio budget t → Ends last s ratio budget t
round_ends last s ratio budget t (inl is) = declined_ends last s ratio budget t is
round_ends last s ratio budget t (inr is) = decided is

-- what a round decides, its rows are decided to say
pub rows_decided : (s : Session) (ratio budget : ℕ) (t : Tail) → IsRoundDecided s ratio budget t → IsRowDecision s ratio budget t
rows_decided s ratio budget t is = inr (record { form = is.form; of_rows = is.settled.of_rows; decision = is.decision })

pair_up : (last : Bool) (s : Session) (ratio budget : ℕ) (t u : Tail) → Ends last s ratio budget t → Ends last s ratio budget u → IsSameTail t u
pair_up last s r n t u (refused why a is) (refused too b is_too) = equal t u (tail_of too) (is ∙ ap tail_of (same_refusal s why too a b)) is_too
pair_up last s r n t u (refused why a is) (too_wide b is_too) = absurd (no_form s why b.form a b.of_rows)
pair_up last s r n t u (refused why a is) (out_of_reach goes_on b is_too) = absurd (no_form s why b.unsettled.float.form a b.unsettled.float.of_rows)
pair_up last s r n t u (refused why a is) (unsettled_last ends y over b is_too) = absurd (no_form s why b.float.form a b.float.of_rows)
pair_up last s r n t u (refused why a is) (decided b) = absurd (no_form s why b.form a b.settled.of_rows)
pair_up last s r n t u (too_wide a is) (refused too b is_too) = absurd (no_form s too a.form b a.of_rows)
pair_up last s r n t u (too_wide a is) (too_wide b is_too) = equal t u (Overwidth Place.Float) is is_too
pair_up last s r n t u (too_wide a is) (out_of_reach goes_on b is_too) = absurd (not_narrow s b.numbers a b.unsettled.float)
pair_up last s r n t u (too_wide a is) (unsettled_last ends y over b is_too) = absurd (not_narrow s y a b.float)
pair_up last s r n t u (too_wide a is) (decided b) = absurd (not_narrow s (float_point b.form) a (float_of s b.form b.settled))
pair_up last s r n t u (out_of_reach goes_on a is) (refused too b is_too) = absurd (no_form s too a.unsettled.float.form b a.unsettled.float.of_rows)
pair_up last s r n t u (out_of_reach goes_on a is) (too_wide b is_too) = absurd (not_narrow s a.numbers b a.unsettled.float)
pair_up last s r n t u (out_of_reach goes_on a is) (out_of_reach goes_on_too b is_too) = equal t u (Overwidth Place.Point) is is_too
pair_up last s r n t u (out_of_reach goes_on a is) (unsettled_last ends y over b is_too) = absurd (true≢false (sym ends ∙ goes_on))
pair_up last s r n t u (out_of_reach goes_on a is) (decided b) = absurd (not_settled s b.form a.numbers a.entry b.settled a.unsettled)
pair_up last s r n t u (unsettled_last ends x entry a is) (refused too b is_too) = absurd (no_form s too a.float.form b a.float.of_rows)
pair_up last s r n t u (unsettled_last ends x entry a is) (too_wide b is_too) = absurd (not_narrow s x b a.float)
pair_up last s r n t u (unsettled_last ends x entry a is) (out_of_reach goes_on b is_too) = absurd (true≢false (sym ends ∙ goes_on))
pair_up last s r n t u (unsettled_last ends x entry a is) (unsettled_last ends_too y over b is_too) =
    equal t u (Unsettled over) (is ∙ ap Unsettled (one_entry s.scale x y entry over (same_items s x y a.float b.float) a.first b.first)) is_too
pair_up last s r n t u (unsettled_last ends x entry a is) (decided b) = absurd (not_settled s b.form x entry b.settled a)
pair_up last s r n t u (decided a) (refused too b is_too) = absurd (no_form s too a.form b a.settled.of_rows)
pair_up last s r n t u (decided a) (too_wide b is_too) = absurd (not_narrow s (float_point a.form) b (float_of s a.form a.settled))
pair_up last s r n t u (decided a) (out_of_reach goes_on b is_too) = absurd (not_settled s a.form b.numbers b.entry a.settled b.unsettled)
pair_up last s r n t u (decided a) (unsettled_last ends y over b is_too) = absurd (not_settled s a.form y over a.settled b)
pair_up last s r n t u (decided a) (decided b) = one_decision s r n t u (rows_decided s r n t a) (rows_decided s r n u b)

-- a round that ends the run doesn't move the point
no_step : (last : Bool) (s : Session) (ratio budget : ℕ) (t : Tail) → Ends last s ratio budget t → (point numbers : List ℤ) → IsStep last s (Moved point numbers) → ⊥
no_step last s r n t (refused why a is) point numbers step = no_form s why step.1.unsettled.float.form a step.1.unsettled.float.of_rows
no_step last s r n t (too_wide a is) point numbers step = not_narrow s numbers a step.1.unsettled.float
no_step last s r n t (out_of_reach goes_on a is) point numbers step =
    let same = same_point s.scale s.point numbers a.numbers (same_items s numbers a.numbers step.1.unsettled.float a.unsettled.float) in
    a.out (subst IsReceiverPoint (step.1.point_is ∙ same) step.1.in_reach)
no_step last s r n t (unsettled_last ends x entry a is) point numbers step = true≢false (sym ends ∙ step.0)
no_step last s r n t (decided a) point numbers step = not_settled s a.form numbers step.1.entry a.settled step.1.unsettled

-- ---- the end of a run
only_end : (last : Bool) (s : Session) (ratio budget : ℕ) (tail : Tail) → IsRoundEnd last s ratio budget tail → IsOnlyEnd last s ratio budget tail
only_end last s ratio budget tail is =
    let here : Ends last s ratio budget tail = round_ends last s ratio budget tail is in
    record { ends = is; only = λ t other. pair_up last s ratio budget t tail (round_ends last s ratio budget t other) here; stays = no_step last s ratio budget tail here }

-- the last round that is allowed is the one with which the most are made
last_made : (rules : Rules) (made : RoundCounts) (before : List Session) (s : Session) → s.scale ≡ 0 → Reaches rules made before (round_of s)
    → is_last s.scale before ≡ nat_eq made.fine (most_rounds 0)
last_made rules made before s fine reached =
    let count = reached.fine_made ∙ with_session 0 s before ∙ more_at 0 s before fine refl in
    ap (λ (n : ℕ). is_last n before) fine ∙ ap (λ (n : ℕ). nat_eq n (most_rounds 0)) (sym count)

round_end : (rules : Rules) (ratio budget : ℕ) (made : RoundCounts) (s : Session) (tail : Tail) → EndsFull rules ratio budget made s tail
    → IsRoundEnd (nat_eq made.fine (most_rounds 0)) s ratio budget tail
round_end rules ratio budget made s tail full = elim (full.1) [
  | inl ends ↦ inl (subst (λ (last : Bool). IsRoundDeclined last s tail) (last_made rules made ends.before s full.0 ends.reached) ends.declined)
  | inr decides ↦ inr decides.decided
]

pub run_ends_once : (rules : Rules) (ratio budget : ℕ) (made : RoundCounts) (s : Session) (tail : Tail) → EndsFull rules ratio budget made s tail
    → IsOnlyEnd (nat_eq made.fine (most_rounds 0)) s ratio budget tail
run_ends_once rules ratio budget made s tail full = only_end (nat_eq made.fine (most_rounds 0)) s ratio budget tail (round_end rules ratio budget made s tail full)
