use Rattle.std.proofs.lemmas.Result.{err_from_is_err_and}
use Rattle.rinex_head.proofs.LineRuleLaws.{handed_on}
use Rattle.rinex2_obs.proofs.reader.read_lines.Goals as goal

pub returns-in_err-epochs : goal.returns-in_err-epochs
returns-in_err-epochs c =
    let refusal = err_from_is_err_and c.from_residual.result c.from_residual.ensures.1 in
    rw (refusal.1, refusal.2) (handed_on _ _ c.in_err-epochs.field-0.0 c.in-Ok.ensures c.in_err-epochs.ensures)
