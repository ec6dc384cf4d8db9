use Rattle.std.proofs.Common.{◌+◌, ◌-◌, ◌++◌, ◌∷◌, [], ℕ, sym, ap, ◌∙◌}
use Rattle.std.proofs.lemmas.Result.{err_from_is_err_and}
use Rattle.obs_rows.specs.Signals.{fine_signals}
use Rattle.rinex_head.specs.LineRules.{rest_gives}
use Rattle.rinex_head.proofs.LineRuleLaws.{handed_on}
use Rattle.track_text.specs.Rules.{track_rules, frame, before_pairs, before_rows}
use Rattle.track_text.proofs.LineLaws.{rows_taken}
use Rattle.track_text.proofs.pairs.next_pair.Goals as goal

pub returns-in_err-placed-clause-reads : goal.returns-in_err-placed-clause-reads
returns-in_err-placed-clause-reads c = λ budget numbers.
    let is_error = err_from_is_err_and c.from_residual.result c.from_residual.ensures.1 in
    rw (is_error.1, is_error.2) (c.in_err-placed.ensures.reads budget (fine_signals c.args.signals) c.args.arcs.now numbers)

pub returns-in_err-pair-clause-reads : goal.returns-in_err-pair-clause-reads
returns-in_err-pair-clause-reads c = λ budget numbers.
    let is_error = err_from_is_err_and c.from_residual-in_err-pair.result c.from_residual-in_err-pair.ensures.1 in
    let fine = fine_signals c.args.signals in
    let f = frame budget fine in
    let arcs = c.args.arcs.now in
    let left = c.args.left - 1 in
    let number = c.in_ok-placed.placed.head.number in
    let head = c.in_ok-placed.ensures.reads budget fine arcs numbers in
    let after = before_pairs f arcs left (number + 1) (numbers ++ number ∷ []) in
    let rows = c.in_err-pair.ensures.reads (λ n least. before_rows f arcs left number n least numbers) after (rows_taken f arcs left number numbers) in
    rw (is_error.1, is_error.2) (handed_on _ _ c.in_err-pair.field-0.0 head rows)

pub returns-clause-reads : goal.returns-clause-reads
returns-clause-reads c = λ budget numbers.
    let fine = fine_signals c.args.signals in
    let f = frame budget fine in
    let arcs = c.args.arcs.now in
    let left = c.args.left - 1 in
    let number = c.in_ok-placed.placed.head.number in
    let head = c.in_ok-placed.ensures.reads budget fine arcs numbers in
    let after = before_pairs f arcs left (number + 1) (numbers ++ number ∷ []) in
    let rows = c.in_ok-pair.ensures.reads (λ n least. before_rows f arcs left number n least numbers) after (rows_taken f arcs left number numbers) in
    head ∙ rows ∙ ap (λ (n : ℕ). rest_gives track_rules c.read_rows.new.lines (before_pairs f arcs left (n + 1) (numbers ++ n ∷ []))) (sym c.in_ok-pair.ensures.number)
