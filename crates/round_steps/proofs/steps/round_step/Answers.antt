use Rattle.std.proofs.Common.{inr, refl, sym, subst}
use Rattle.std.proofs.lemmas.Bool.{false≢true}
use Rattle.std.proofs.lemmas.Result.{err_from_is_err_and}
use Rattle.obs_rows.specs.ReceiverPoints.{IsReceiverPoint}
use Rattle.round_steps.specs.Limits.{IsFirstOver}
use Rattle.round_steps.specs.Steps.{IsFloatOf}
use Rattle.round_steps.proofs.StepLaws.{entry_word, declined_fits}
use Rattle.round_steps.proofs.steps.round_step.Goals as goal

pub returns-then-last-clause-declined : goal.returns-then-last-clause-declined
returns-then-last-clause-declined c =
    let float : IsFloatOf c.args.session.now c.in_ok-solved.solved.numbers =
    record { form = c.in_ok-solved.solved.form; of_rows = c.in_ok-solved.ensures.form; narrow = c.in_ok-solved.ensures.narrow; numbers = c.in_ok-solved.ensures.numbers } in (
      c.if-last.true,
      (
        c.in_ok-solved.solved.numbers,
        record {
          float = float;
          first = subst (IsFirstOver c.args.session.now.scale c.in_ok-solved.solved.numbers)
              (sym (entry_word c.args.session.now.scale c.in_ok-solved.solved.numbers c.in-Some.entry c.in-Some.ensures c.in_ok-solved.ensures.small)) c.in-Some.ensures;
        },
      ),
    )

pub returns-then-not-is_receiver_point-clause-declined : goal.returns-then-not-is_receiver_point-clause-declined
returns-then-not-is_receiver_point-clause-declined c =
    let float : IsFloatOf c.args.session.now c.in_ok-solved.solved.numbers =
    record { form = c.in_ok-solved.solved.form; of_rows = c.in_ok-solved.ensures.form; narrow = c.in_ok-solved.ensures.narrow; numbers = c.in_ok-solved.ensures.numbers } in
    inr (inr (
      refl,
      (
        c.if-last.false,
        record {
          numbers = c.in_ok-solved.solved.numbers;
          entry = c.in-Some.entry;
          unsettled = record { float = float; first = c.in-Some.ensures };
          out = λ reached. false≢true (c.if-not-is_receiver_point.ensures.1 (subst IsReceiverPoint (sym c.moved_point-point.ensures) reached));
        },
      ),
    ))

pub returns-clause-step : goal.returns-clause-step
returns-clause-step c =
    let float : IsFloatOf c.args.session.now c.in_ok-solved.solved.numbers =
    record { form = c.in_ok-solved.solved.form; of_rows = c.in_ok-solved.ensures.form; narrow = c.in_ok-solved.ensures.narrow; numbers = c.in_ok-solved.ensures.numbers } in (
      c.if-last.false,
      record {
        entry = c.in-Some.entry;
        unsettled = record { float = float; first = c.in-Some.ensures };
        point_is = c.moved_point-point.ensures;
        in_reach = c.if-not-is_receiver_point.ensures.0 refl;
      },
    )

pub returns-in_err-solved-clause-declined : goal.returns-in_err-solved-clause-declined
returns-in_err-solved-clause-declined c =
    let err_parts = err_from_is_err_and c.from_residual.result c.from_residual.ensures.1 in
    rw (err_parts.1, err_parts.2) (c.in_err-solved.ensures.refused c.args.last)

pub returns-in_err-solved-clause-fits : goal.returns-in_err-solved-clause-fits
returns-in_err-solved-clause-fits c =
    let err_parts = err_from_is_err_and c.from_residual.result c.from_residual.ensures.1 in
    rw (err_parts.1, err_parts.2) (declined_fits c.args.last c.args.session.now c.in_err-solved.field-0.0 (c.in_err-solved.ensures.refused c.args.last))
