use Rattle.std.proofs.lemmas.Result.{err_from_is_err_and}
use Rattle.rinex_head.proofs.LineRuleLaws.{handed_on}
use Rattle.file_jobs.proofs.zero_rows.read_lines.Goals as goal

pub returns-in_err-diffs : goal.returns-in_err-diffs
returns-in_err-diffs c =
    let is_error = err_from_is_err_and c.from_residual-in_err-diffs.result c.from_residual-in_err-diffs.ensures.1 in
    rw (is_error.1, is_error.2) (handed_on _ _ c.in_err-diffs.field-0.0 c.in_ok-claim.ensures.reads (c.in_err-diffs.ensures.reads c.in_ok-claim.claim))
