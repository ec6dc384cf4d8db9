use Rattle.std.proofs.Common.{◌≡◌, ◌<◌, ◌≤◌, ◌+◌, ◌-◌, false, nat_eq, ℕ, List, map, All, ℤ, arith, subst, sym, ap, ◌∙◌}
use Rattle.integer_form.specs.declared.form.Form.{Form}
use Rattle.obs_rows.specs.declared.bands.Signals.{Signals}
use Rattle.obs_rows.specs.declared.units.TheConstants.{COARSE_SCALE}
use Rattle.obs_rows.specs.Signals.{fine_signals}
use Rattle.obs_rows.specs.Unused.{HasUsedShifts}
use Rattle.round_steps.specs.Shifts.{without_shifts}
use Rattle.round_steps.specs.Steps.{IsCoarseStep, IsSettledForm, IsMoved}
use Rattle.round_steps.specs.Runs.{Rules, IsSessionOf, most_rounds}
use Rattle.obs_rows.specs.Rounds.{Round, coarse}
use Rattle.round_steps.proofs.RunLaws.{session_at, one_more, coarse_begins, coarse_settles, coarse_declines, coarse_moves}
use Rattle.round_steps.proofs.SameRules.{stays, stays_on, same_session}
use Rattle.round_steps.proofs.runs.coarse_rounds.Goals as goal

pub rounds-init : goal.rounds-init
rounds-init g c =
    let rules : Rules = g.R.Rounds.rules c.args.rounds.now in
    let none_made = c.requires.begins.fresh in
    record {
      so_far = coarse_begins rules (g.R.Rounds.made c.args.rounds.now) c.args.arcs.now c.args.base.now c.requires.begins;
      rules = stays rules;
      ready = c.requires.ready;
      sessions = omega arith;
    }

pub session-requires-clause-arcs : goal.session-requires-clause-arcs
session-requires-clause-arcs g c = ap (map without_shifts) (c.requires.begins.arcs_are ∙ sym c.rounds.invariant.rules.arcs)

pub session-requires-clause-shifts : goal.session-requires-clause-shifts
session-requires-clause-shifts g c = c.requires.begins.shifts_in

pub session-requires-clause-used : goal.session-requires-clause-used
session-requires-clause-used g c = subst (λ (signals : Signals). All (HasUsedShifts (fine_signals signals)) c.args.arcs.now) (sym c.rounds.invariant.rules.signals) c.requires.begins.used

pub coarse_step-requires : goal.coarse_step-requires
coarse_step-requires g c =
    let rules : Rules = g.R.Rounds.rules c.args.rounds.now in
    let is_session : IsSessionOf rules (coarse c.rounds.point c.args.arcs.now) c.in-Some.session = session_at rules (coarse c.rounds.point c.args.arcs.now) c.in_ok-session.field-0 c.in-Some.session c.in-Some.is (same_session rules (g.R.Rounds.rules c.rounds.rounds) c.rounds.invariant.rules (coarse c.rounds.point c.args.arcs.now) c.in_ok-session.field-0 c.in_ok-session.ensures.session) in
    record { coarse = ap (λ (r : Round). r.scale) is_session.round_is }

pub returns-in-Ok-None-clause-end : goal.returns-in-Ok-None-clause-end
returns-in-Ok-None-clause-end g c =
    let rules : Rules = g.R.Rounds.rules c.args.rounds.now in
    let session = c.in-Some.session in
    let is_session : IsSessionOf rules (coarse c.rounds.point c.args.arcs.now) session = session_at rules (coarse c.rounds.point c.args.arcs.now) c.in_ok-session.field-0 session c.in-Some.is (same_session rules (g.R.Rounds.rules c.rounds.rounds) c.rounds.invariant.rules (coarse c.rounds.point c.args.arcs.now) c.in_ok-session.field-0 c.in_ok-session.ensures.session) in
    let is_settled : (form : Form) × IsSettledForm session form = subst (IsCoarseStep (nat_eq c.rounds.made (most_rounds COARSE_SCALE)) session) c.in-Ok-None.field-0-is c.in-Ok-None.ensures.step in
    coarse_settles rules c.rounds.point c.args.arcs.now c.rounds.made session is_settled.0 c.rounds.invariant.so_far is_session is_settled.1

pub rounds-smaller : goal.rounds-smaller
rounds-smaller g c =
    let is_moved : (nat_eq c.rounds.made (most_rounds COARSE_SCALE) ≡ false) × ((numbers : List ℤ) × IsMoved c.in-Some.session numbers c.in-Ok-Some.moved) =
    subst (IsCoarseStep (nat_eq c.rounds.made (most_rounds COARSE_SCALE)) c.in-Some.session) c.in-Ok-Some.field-0-is c.in-Ok-Some.ensures.step in
    less c.rounds.made (one_more c.rounds.made (most_rounds COARSE_SCALE) c.rounds.invariant.so_far.few is_moved.0)
  where
    less : (n : ℕ) → n + 1 ≤ most_rounds COARSE_SCALE → most_rounds COARSE_SCALE - (n + 1) < most_rounds COARSE_SCALE - n
    less n h = omega arith

pub rounds-preserved : goal.rounds-preserved
rounds-preserved g c =
    let rules : Rules = g.R.Rounds.rules c.args.rounds.now in
    let session = c.in-Some.session in
    let is_session : IsSessionOf rules (coarse c.rounds.point c.args.arcs.now) session = session_at rules (coarse c.rounds.point c.args.arcs.now) c.in_ok-session.field-0 session c.in-Some.is (same_session rules (g.R.Rounds.rules c.rounds.rounds) c.rounds.invariant.rules (coarse c.rounds.point c.args.arcs.now) c.in_ok-session.field-0 c.in_ok-session.ensures.session) in
    let is_moved : (nat_eq c.rounds.made (most_rounds COARSE_SCALE) ≡ false) × ((numbers : List ℤ) × IsMoved session numbers c.in-Ok-Some.moved) =
    subst (IsCoarseStep (nat_eq c.rounds.made (most_rounds COARSE_SCALE)) session) c.in-Ok-Some.field-0-is c.in-Ok-Some.ensures.step in
    let ended = c.in_ok-session.ensures in
    let given = c.rounds.invariant.sessions in
    let one = ended.made in
    record {
      so_far = coarse_moves rules c.rounds.point c.args.arcs.now c.rounds.made session is_moved.1.0 c.in-Ok-Some.moved c.rounds.invariant.so_far is_session is_moved.0 is_moved.1.1;
      rules = stays_on rules (g.R.Rounds.rules c.rounds.rounds) (g.R.Rounds.rules c.session.new.self) c.rounds.invariant.rules ended.rules;
      ready = ended.ready;
      sessions = omega arith;
    }

pub returns-in-Err-clause-end : goal.returns-in-Err-clause-end
returns-in-Err-clause-end g c =
    let rules : Rules = g.R.Rounds.rules c.args.rounds.now in
    let session = c.in-Some.session in
    let is_session : IsSessionOf rules (coarse c.rounds.point c.args.arcs.now) session = session_at rules (coarse c.rounds.point c.args.arcs.now) c.in_ok-session.field-0 session c.in-Some.is (same_session rules (g.R.Rounds.rules c.rounds.rounds) c.rounds.invariant.rules (coarse c.rounds.point c.args.arcs.now) c.in_ok-session.field-0 c.in_ok-session.ensures.session) in
    coarse_declines rules c.rounds.point c.args.arcs.now c.rounds.made session c.in-Err.tail c.rounds.invariant.so_far is_session c.in-Err.ensures.declined
