use Rattle.std.proofs.Common.{◌≡◌, ◌++◌, ℕ, List, [], length, sym, ap, ◌∙◌, arith}
use Rattle.std.proofs.lemmas.Result.{err_from_is_err_and}
use Rattle.rinex_obs.specs.Opened.{expected_in}
use Rattle.rinex_obs.specs.Feeding.{gives_with}
use Rattle.rinex_obs.specs.Fed.{gives_behind}
use Rattle.rinex_obs.proofs.Feeds.{gives_step, step_fails, fails_on}
use Rattle.rinex_obs.proofs.feed.OpenText.take.Goals as goal

pub lines-preserved : goal.lines-preserved
lines-preserved c =
    let text = c.lines.self in
    let new = c.end_line.new.self in
    let behind = c.in-Some.behind.now in
    let next = expected_in new.file in
    let empty : length new.line ≡ 0 = ap (λ (l : List ℕ). length l) c.in_ok-end_line.ensures.ended in
    record {
      gives = λ system more. c.lines.invariant.gives system more
          ∙ gives_step system text.number text.line c.lines.rest.now c.in-Some.bytes.now behind (expected_in text.file) next c.in-Some.ensures.ends c.in_ok-end_line.ensures.taken more
          ∙ ap (λ (n : ℕ). gives_with system n [] next (behind ++ more)) (sym c.in_ok-end_line.ensures.counted)
          ∙ ap (λ (l : List ℕ). gives_with system new.number l next (behind ++ more)) (sym c.in_ok-end_line.ensures.ended);
      within = omega (arith, empty, c.in_ok-end_line.ensures.counted, c.in-Some.ensures.long);
    }

pub returns-in_err-end_line-clause-takes : goal.returns-in_err-end_line-clause-takes
returns-in_err-end_line-clause-takes c = λ system.
    let text = c.lines.self in
    let new = c.end_line.new.self in
    let is_error = err_from_is_err_and c.from_residual.result c.from_residual.ensures.1 in
    rw (is_error.1, is_error.2) (fails_on system c.args.piece.now c.lines.rest.now (gives_behind system c.args.self.now) (gives_behind system text) (gives_behind system text)
    (gives_behind system new) c.in_err-end_line.field-0.0 (c.lines.invariant.gives system)
    (step_fails system text.number text.line c.lines.rest.now c.in-Some.bytes.now c.in-Some.behind.now (expected_in text.file) (expected_in new.file)
    c.in_err-end_line.field-0.0 c.in-Some.ensures.ends c.in_err-end_line.ensures.taken))
