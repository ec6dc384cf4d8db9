-- The last line is refused, and so is the text.
use Rattle.std.proofs.lemmas.Result.{err_from_is_err_and}
use Rattle.rinex_obs.proofs.feed.OpenText.finish.Goals as goal

pub returns-in_err-take_last : goal.returns-in_err-take_last
returns-in_err-take_last c = λ system.
    let is_error = err_from_is_err_and c.from_residual.result c.from_residual.ensures.1 in
    rw (is_error.1, is_error.2) (c.in_err-take_last.ensures.refused system)
