use Rattle.std.proofs.Common.{refl, length, [], ◌∷◌, ap, ◌∙◌, arith, length-append, List, Option, ℕ}
use Rattle.std.proofs.lemmas.Result.{err_from_is_err_and}
use Rattle.rinex2_obs.proofs.NameLists.{names_more, names_stop, names_done}
use Rattle.rinex2_obs.proofs.sat_names.add_names.Goals as goal

pub returns-in_err-name-clause-err : goal.returns-in_err-name-clause-err
returns-in_err-name-clause-err c =
    let refusal = err_from_is_err_and c.from_residual.result c.from_residual.ensures.1 in
    rw (refusal.1, refusal.2) (c.names.invariant.value ∙ names_stop c.args.line.now c.names.first c.names.left c.names.names c.in_err-name.field-0.0 c.names-test.true c.in_err-name.ensures.value)

pub names-preserved : goal.names-preserved
names-preserved c =
    let longer = ap (λ (l : List (Option ℕ)). length l) c.push.ensures ∙ length-append c.names.names (c.in_ok-name.name ∷ []) in
    record {
      value = c.names.invariant.value ∙ names_more c.args.line.now c.names.first c.names.left c.names.names c.in_ok-name.name c.names-test.true c.in_ok-name.ensures.value ∙ rw c.push.ensures refl;
      room = omega (arith, longer);
      near = omega arith;
      from = omega arith;
    }

pub returns-clause-ok : goal.returns-clause-ok
returns-clause-ok c = c.names.invariant.value ∙ names_done c.args.line.now c.names.first c.names.left c.names.names c.names-test.false
