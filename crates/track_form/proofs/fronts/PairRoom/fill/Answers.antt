use Rattle.std.proofs.Common.{ℕ, sym, ◌∙◌, subst}
use Rattle.std.proofs.lemmas.Result.{IfErr-weaker, on_ok_weaker}
use Rattle.quadratic_form.specs.Lowering.{IsExponent}
use Rattle.normal_sum.specs.Values.{form_of}
use Rattle.obs_rows.specs.Signals.{fine_signals}
use Rattle.integer_form.specs.ReportedRefusals.{IsReportedAs}
use Rattle.lower_form.specs.Fronts.{front_of}
use Rattle.lower_form.proofs.Exponents.{has_exponent}
use Rattle.lower_form.specs.CleanSteps.{IsClean}
use Rattle.track_form.specs.PairFronts.{IsRefusedPair}
use Rattle.track_form.proofs.fronts.PairRoom.fill.Goals as goal

pub refill_front-requires-clause-clean : goal.refill_front-requires-clause-clean
refill_front-requires-clause-clean c = subst (λ (k : ℕ). IsClean k c.args.self.now.room) (c.requires.columns ∙ sym c.refill_pair.ensures.columns) c.args.self.now.clean

pub refill_front-requires-clause-columns : goal.refill_front-requires-clause-columns
refill_front-requires-clause-columns c = c.requires.columns ∙ sym c.refill_pair.ensures.columns

pub invariant_of-self : goal.invariant_of-self
invariant_of-self c = record { clean = subst (λ (k : ℕ). IsClean k c.refill_front.new.steps) (sym c.refill_front.ensures.columns) c.refill_front.ensures.clean }

pub returns-clause-front : goal.returns-clause-front
returns-clause-front c = on_ok_weaker
    c.refill_front.result (λ is. record { normal = c.refill_pair.new.normal; of_rows = c.refill_pair.ensures; front = is }) c.refill_front.ensures.front

pub returns-clause-refused : goal.returns-clause-refused
returns-clause-refused c =
    let some = has_exponent (form_of c.refill_pair.new.normal) in
    IfErr-weaker c.refill_front.result (λ e. (h : ℕ) → IsExponent h (form_of c.refill_pair.new.normal) → IsReportedAs e (front_of h c.refill_pair.new.normal)) (IsRefusedPair c.args.arcs.now (fine_signals c.args.signals) c.args.pair.now)
    (λ e reported. record { normal = c.refill_pair.new.normal; of_rows = c.refill_pair.ensures; h = some.0; exponent = some.1; reported = reported some.0 some.1 }) c.refill_front.ensures.refused

pub returns-clause-columns : goal.returns-clause-columns
returns-clause-columns c = c.refill_front.ensures.columns ∙ c.refill_pair.ensures.columns ∙ sym c.requires.columns
