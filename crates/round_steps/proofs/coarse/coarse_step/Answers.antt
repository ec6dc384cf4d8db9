use Rattle.std.proofs.Common.{inr, refl, sym, subst}
use Rattle.std.proofs.lemmas.Bool.{false≢true}
use Rattle.std.proofs.lemmas.Result.{err_from_is_err_and}
use Rattle.obs_rows.specs.ReceiverPoints.{IsReceiverPoint}
use Rattle.round_steps.specs.Limits.{IsFirstOver}
use Rattle.round_steps.specs.Steps.{IsFloatOf}
use Rattle.round_steps.proofs.StepLaws.{entry_word, narrow_numbers, settled_form}
use Rattle.round_steps.proofs.coarse.coarse_step.Goals as goal

pub first_over-requires : goal.first_over-requires
first_over-requires c = let is_float : IsFloatOf c.args.session.now c.in_ok-numbers.numbers = c.in_ok-numbers.ensures.float in
    narrow_numbers is_float.form c.in_ok-numbers.numbers is_float.numbers is_float.narrow

pub returns-in_default-clause-step : goal.returns-in_default-clause-step
returns-in_default-clause-step c = settled_form c.args.session.now c.in_ok-numbers.numbers c.in_ok-numbers.ensures.float c.in_default.ensures

pub returns-then-last-clause-declined : goal.returns-then-last-clause-declined
returns-then-last-clause-declined c =
    let is_float : IsFloatOf c.args.session.now c.in_ok-numbers.numbers = c.in_ok-numbers.ensures.float in (
      c.if-last.true,
      (
        c.in_ok-numbers.numbers,
        record {
          float = is_float;
          first = subst (IsFirstOver c.args.session.now.scale c.in_ok-numbers.numbers)
              (sym (entry_word c.args.session.now.scale c.in_ok-numbers.numbers c.in-Some.entry c.in-Some.ensures (narrow_numbers is_float.form c.in_ok-numbers.numbers is_float.numbers is_float.narrow))) c.in-Some.ensures;
        },
      ),
    )

pub moved_point-point-requires-clause-numbers : goal.moved_point-point-requires-clause-numbers
moved_point-point-requires-clause-numbers c = let is_float : IsFloatOf c.args.session.now c.in_ok-numbers.numbers = c.in_ok-numbers.ensures.float in
    narrow_numbers is_float.form c.in_ok-numbers.numbers is_float.numbers is_float.narrow

pub returns-then-not-is_receiver_point-clause-declined : goal.returns-then-not-is_receiver_point-clause-declined
returns-then-not-is_receiver_point-clause-declined c = inr (inr (
  refl,
  (
    c.if-last.false,
    record {
      numbers = c.in_ok-numbers.numbers;
      entry = c.in-Some.entry;
      unsettled = record { float = c.in_ok-numbers.ensures.float; first = c.in-Some.ensures };
      out = λ reached. false≢true (c.if-not-is_receiver_point.ensures.1 (subst IsReceiverPoint (sym c.moved_point-point.ensures) reached));
    },
  ),
))

pub returns-clause-step : goal.returns-clause-step
returns-clause-step c = (
  c.if-last.false,
  (
    c.in_ok-numbers.numbers,
    record {
      entry = c.in-Some.entry;
      unsettled = record { float = c.in_ok-numbers.ensures.float; first = c.in-Some.ensures };
      point_is = c.moved_point-point.ensures;
      in_reach = c.if-not-is_receiver_point.ensures.0 refl;
    },
  ),
)

pub returns-in_err-numbers-clause-declined : goal.returns-in_err-numbers-clause-declined
returns-in_err-numbers-clause-declined c =
    let err_parts = err_from_is_err_and c.from_residual.result c.from_residual.ensures.1 in
    rw (err_parts.1, err_parts.2) (c.in_err-numbers.ensures.refused c.args.last)
