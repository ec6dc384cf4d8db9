use Rattle.std.proofs.Common.{inl, inr, ℕ, List, sym, subst}
use Rattle.obs_rows.specs.declared.sessions.Session.{Session}
use Rattle.integer_form.specs.declared.faults.LowerFault.{LowerFault}
use Rattle.integer_form.specs.declared.faults.LowerFault.TheVariants.{Weak, Overwidth}
use Rattle.cert_data.specs.declared.tails.Tail.{Tail}
use Rattle.cert_data.specs.Tails.{IsTailOf}
use Rattle.cert_check.specs.Settled.{IsRefused, tail_of}
use Rattle.cert_check.proofs.WeakLaws.{weak_fits}
use Rattle.obs_rows.specs.Signals.{fine_signals}
use Rattle.cert_check.proofs.decided.decide_rows.Goals as goal

fault_fits : (s : Session) (ss : List ℕ) (budget : ℕ) (fault : LowerFault) → IsRefused s fault → IsTailOf ss s.arcs budget (tail_of fault)
fault_fits s ss budget (Weak column pivot) refused = weak_fits s column pivot refused
fault_fits s ss budget (Overwidth place) refused = tt

pub returns-in-Ok-clause-decision : goal.returns-in-Ok-clause-decision
returns-in-Ok-clause-decision c = inr (record {
  form = c.in-Ok.form;
  of_rows = c.in-Ok.ensures.form;
  decision = c.decide_settled.ensures.decision;
})

pub returns-in-Err-clause-decision : goal.returns-in-Err-clause-decision
returns-in-Err-clause-decision c = inl (record {
  fault = c.in-Err.fault;
  refused = c.in-Err.ensures.refused;
  tail_is = c.tail_of.ensures;
})

pub returns-in-Err-clause-fits : goal.returns-in-Err-clause-fits
returns-in-Err-clause-fits c =
    let session : Session = c.args.session.now in
    subst (λ (t : Tail). IsTailOf (fine_signals session.signals) session.arcs c.args.budget t) (sym c.tail_of.ensures)
    (fault_fits session (fine_signals session.signals) c.args.budget c.in-Err.fault c.in-Err.ensures.refused)
