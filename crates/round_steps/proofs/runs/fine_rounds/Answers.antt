use Rattle.std.proofs.Common.{◌≡◌, ◌≤◌, ◌-◌, ◌+◌, ◌*◌, ◌^◌, false, nat_eq, ℕ, List, All, arith, subst, sym}
use Rattle.obs_rows.specs.declared.arcs.Arc.{Arc}
use Rattle.obs_rows.specs.declared.bands.Signals.{Signals}
use Rattle.obs_rows.specs.Signals.{fine_signals}
use Rattle.obs_rows.specs.Unused.{HasUsedShifts}
use Rattle.round_steps.specs.Shifts.{AreGrown, AreShiftsBelow}
use Rattle.round_steps.specs.Steps.{IsStep, IsSettledForm, IsMoved}
use Rattle.round_steps.specs.Runs.{Rules, IsSessionOf, IsSessionAt, most_rounds}
use Rattle.obs_rows.specs.Rounds.{fine}
use Rattle.round_steps.proofs.StepLaws.{narrow_numbers, declined_best}
use Rattle.round_steps.proofs.ShiftLaws.{wider_shifts}
use Rattle.round_steps.proofs.RunLaws.{session_at, fine_begins, fine_at_y, fine_decides, fine_declines, fine_moves}
use Rattle.round_steps.proofs.SameRules.{stays, stays_on, same_session}
use Rattle.round_steps.proofs.runs.fine_rounds.Goals as goal

narrow_shifts : (made : ℕ) (arcs given : List Arc) → made ≤ most_rounds 0 → given ≡ arcs → AreShiftsBelow (2 ^ 39 + 2 ^ 30 * (made - 1)) arcs → AreShiftsBelow (2 ^ 40) given
narrow_shifts made arcs given few e h = wider_shifts (2 ^ 39 + 2 ^ 30 * (made - 1)) (2 ^ 40) given (omega arith) (subst (AreShiftsBelow (2 ^ 39 + 2 ^ 30 * (made - 1))) (sym e) h)

pub rounds-init : goal.rounds-init
rounds-init g c =
    let given = c.requires.made in
    record {
      so_far = fine_begins (g.R.Rounds.rules c.args.rounds.now) c.args.first.now c.in_ok-arcs.arcs.items c.args.coarse c.requires.first
          c.in_ok-arcs.ensures.begins c.in_ok-arcs.ensures.arcs c.in_ok-arcs.ensures.shifts c.in_ok-arcs.ensures.used;
      rules = stays (g.R.Rounds.rules c.args.rounds.now);
      ready = c.requires.ready;
      sessions = omega arith;
    }

pub session-requires-clause-shifts : goal.session-requires-clause-shifts
session-requires-clause-shifts g c = narrow_shifts c.rounds.fine c.rounds.arcs.items c.as_slice.result.now c.rounds.invariant.so_far.few c.as_slice.ensures.value c.rounds.invariant.so_far.below

pub session-requires-clause-used : goal.session-requires-clause-used
session-requires-clause-used g c = subst (λ (signals : Signals). All (HasUsedShifts (fine_signals signals)) c.as_slice.result.now) (sym c.rounds.invariant.rules.signals)
    (subst (All (HasUsedShifts (fine_signals (g.R.Rounds.rules c.args.rounds.now).signals))) (sym c.as_slice.ensures.value) c.rounds.invariant.so_far.used)

pub returns-in_default-clause-end : goal.returns-in_default-clause-end
returns-in_default-clause-end g c =
    let rules : Rules = g.R.Rounds.rules c.args.rounds.now in
    fine_at_y rules c.rounds.point c.rounds.arcs.items c.args.coarse c.rounds.fine c.rounds.invariant.so_far
    (subst (IsSessionAt rules (fine c.rounds.point c.rounds.arcs.items)) c.in_default.is
    (subst (λ (a : List Arc). IsSessionAt rules (fine c.rounds.point a) c.in_ok-session.field-0) c.as_slice.ensures.value
    (same_session rules (g.R.Rounds.rules c.rounds.rounds) c.rounds.invariant.rules (fine c.rounds.point c.as_slice.result.now) c.in_ok-session.field-0 c.in_ok-session.ensures.session)))

pub returns-in-Ok-Settled-clause-end : goal.returns-in-Ok-Settled-clause-end
returns-in-Ok-Settled-clause-end g c =
    let rules : Rules = g.R.Rounds.rules c.args.rounds.now in
    let session = c.in-Some.session in
    let arcs : List Arc = c.rounds.arcs.items in
    let is_session : IsSessionOf rules (fine c.rounds.point arcs) session =
    session_at rules (fine c.rounds.point arcs) c.in_ok-session.field-0 session c.in-Some.is
    (subst (λ (arcs : List Arc). IsSessionAt rules (fine c.rounds.point arcs) c.in_ok-session.field-0) c.as_slice.ensures.value
    (same_session rules (g.R.Rounds.rules c.rounds.rounds) c.rounds.invariant.rules (fine c.rounds.point c.as_slice.result.now) c.in_ok-session.field-0 c.in_ok-session.ensures.session)) in
    let is_settled : IsSettledForm session c.in-Ok-Settled.form = subst (IsStep (nat_eq c.rounds.fine (most_rounds 0)) session) c.in-Ok-Settled.field-0-is c.in-Ok-Settled.ensures.step in
    fine_decides rules c.rounds.point arcs c.args.coarse c.rounds.fine c.args.ratio c.args.budget session c.in-Ok-Settled.form c.decide_settled-tail.result
    c.rounds.invariant.so_far is_session is_settled c.decide_settled-tail.ensures.decision

pub grown-requires-clause-numbers : goal.grown-requires-clause-numbers
grown-requires-clause-numbers g c =
    let is_moved : (nat_eq c.rounds.fine (most_rounds 0) ≡ false) × IsMoved c.in-Some.session c.in-Ok-Moved.numbers c.in-Ok-Moved.moved =
    subst (IsStep (nat_eq c.rounds.fine (most_rounds 0)) c.in-Some.session) c.in-Ok-Moved.field-0-is c.in-Ok-Moved.ensures.step in
    let is_float = is_moved.1.unsettled.float in
    narrow_numbers is_float.form c.in-Ok-Moved.numbers is_float.numbers is_float.narrow

pub grown-requires-clause-shifts : goal.grown-requires-clause-shifts
grown-requires-clause-shifts g c = narrow_shifts c.rounds.fine c.rounds.arcs.items c.as_slice-in-Ok-Moved.result.now c.rounds.invariant.so_far.few
    c.as_slice-in-Ok-Moved.ensures.value c.rounds.invariant.so_far.below

pub returns-in-Err-clause-end : goal.returns-in-Err-clause-end
returns-in-Err-clause-end g c =
    let rules : Rules = g.R.Rounds.rules c.args.rounds.now in
    let session = c.in-Some.session in
    let arcs : List Arc = c.rounds.arcs.items in
    let is_session : IsSessionOf rules (fine c.rounds.point arcs) session =
    session_at rules (fine c.rounds.point arcs) c.in_ok-session.field-0 session c.in-Some.is
    (subst (λ (arcs : List Arc). IsSessionAt rules (fine c.rounds.point arcs) c.in_ok-session.field-0) c.as_slice.ensures.value
    (same_session rules (g.R.Rounds.rules c.rounds.rounds) c.rounds.invariant.rules (fine c.rounds.point c.as_slice.result.now) c.in_ok-session.field-0 c.in_ok-session.ensures.session)) in
    fine_declines rules c.rounds.point arcs c.args.coarse c.rounds.fine c.args.ratio c.args.budget session c.in-Err.tail c.rounds.invariant.so_far is_session c.in-Err.ensures.declined

pub rounds-preserved : goal.rounds-preserved
rounds-preserved g c =
    let rules : Rules = g.R.Rounds.rules c.args.rounds.now in
    let session = c.in-Some.session in
    let arcs : List Arc = c.rounds.arcs.items in
    let is_session : IsSessionOf rules (fine c.rounds.point arcs) session =
    session_at rules (fine c.rounds.point arcs) c.in_ok-session.field-0 session c.in-Some.is
    (subst (λ (arcs : List Arc). IsSessionAt rules (fine c.rounds.point arcs) c.in_ok-session.field-0) c.as_slice.ensures.value
    (same_session rules (g.R.Rounds.rules c.rounds.rounds) c.rounds.invariant.rules (fine c.rounds.point c.as_slice.result.now) c.in_ok-session.field-0 c.in_ok-session.ensures.session)) in
    let is_moved : (nat_eq c.rounds.fine (most_rounds 0) ≡ false) × IsMoved session c.in-Ok-Moved.numbers c.in-Ok-Moved.moved =
    subst (IsStep (nat_eq c.rounds.fine (most_rounds 0)) session) c.in-Ok-Moved.field-0-is c.in-Ok-Moved.ensures.step in
    let same_arcs = c.as_slice-in-Ok-Moved.ensures.value in
    let ended = c.in_ok-session.ensures in
    let given = c.rounds.invariant.sessions in
    let one = ended.made in
    record {
      so_far = fine_moves rules c.rounds.point arcs c.args.coarse c.rounds.fine session c.in-Ok-Moved.numbers c.in-Ok-Moved.moved c.in_ok-arcs-in-Ok-Moved.arcs.items c.rounds.invariant.so_far is_session is_moved.0 is_moved.1
          (subst (λ (ss : List ℕ). AreGrown arcs ss c.in-Ok-Moved.numbers c.in_ok-arcs-in-Ok-Moved.arcs.items) c.fine_signals.ensures.value
          (subst (λ (b : List Arc). AreGrown b c.fine_signals.result.now c.in-Ok-Moved.numbers c.in_ok-arcs-in-Ok-Moved.arcs.items) same_arcs c.in_ok-arcs-in-Ok-Moved.ensures.grown))
          (λ n h z. c.in_ok-arcs-in-Ok-Moved.ensures.below n (subst (AreShiftsBelow n) (sym same_arcs) h) z);
      rules = stays_on rules (g.R.Rounds.rules c.rounds.rounds) (g.R.Rounds.rules c.session.new.self) c.rounds.invariant.rules ended.rules;
      ready = ended.ready;
      sessions = omega arith;
    }

pub returns-in-Err-clause-fits : goal.returns-in-Err-clause-fits
returns-in-Err-clause-fits g c = c.in-Err.ensures.fits (fine_signals c.in-Some.session.signals) c.args.budget

pub returns-in-Err-clause-by_ratio : goal.returns-in-Err-clause-by_ratio
returns-in-Err-clause-by_ratio g c = declined_best (nat_eq c.rounds.fine (most_rounds 0)) c.args.ratio c.in-Some.session c.in-Err.tail c.in-Err.ensures.declined
