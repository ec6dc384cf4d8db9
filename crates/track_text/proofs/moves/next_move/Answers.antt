use Rattle.std.proofs.Common.{◌∷◌}
use Rattle.std.proofs.lemmas.Result.{err_from_is_err_and}
use Rattle.cert_text.proofs.GrammarLaws.{line_goes, line_stops, line_wants}
use Rattle.track_text.specs.TailForms.{move_in}
use Rattle.track_text.specs.Rules.{track_rules, before_moves}
use Rattle.track_text.proofs.LineLaws.{move_taken}
use Rattle.track_text.proofs.moves.next_move.Goals as goal

pub returns-in_err-line-clause-reads : goal.returns-in_err-line-clause-reads
returns-in_err-line-clause-reads c = λ numbers.
    let is_error = err_from_is_err_and c.from_residual.result c.from_residual.ensures.1 in
    let number = c.args.number in
    rw (is_error.1, is_error.2) (line_wants track_rules (before_moves (number ∷ numbers)) (move_in number) (λ m. before_moves numbers) _ _ _ (move_taken number numbers) c.in_err-line.ensures)

pub returns-in-Ok-clause-reads : goal.returns-in-Ok-clause-reads
returns-in-Ok-clause-reads c = λ numbers.
    let number = c.args.number in
    line_goes track_rules (before_moves (number ∷ numbers)) (move_in number) (λ m. before_moves numbers) c.in-Ok.moved _ _ _ c.in_ok-line.line.bytes.now (move_taken number numbers) c.in_ok-line.ensures
    c.in-Ok.ensures.value

pub returns-in-Err-clause-reads : goal.returns-in-Err-clause-reads
returns-in-Err-clause-reads c = λ numbers.
    let number = c.args.number in
    rw c.at.ensures (line_stops track_rules (before_moves (number ∷ numbers)) (move_in number) (λ m. before_moves numbers) _ _ _ _ c.in_ok-line.line.bytes.now (move_taken number numbers)
    c.in_ok-line.ensures c.in-Err.ensures.value)
