use Rattle.std.proofs.Common.{sym, ap, ◌∙◌, ◌+◌, ◌-◌, ◌≤◌, ◌++◌, ℕ, List, arith}
use Rattle.std.proofs.lemmas.List.{length_push}
use Rattle.std.proofs.lemmas.List.Elements.{All-push}
use Rattle.obs_rows.specs.declared.rows.Row.{Row}
use Rattle.obs_rows.specs.Arcs.{IsOfPair}
use Rattle.cert_lines.specs.Lines.{row_lines}
use Rattle.cert_lines.specs.Lengths.{IsWholeRow}
use Rattle.obs_rows.specs.Signals.{fine_signals}
use Rattle.obs_rows.specs.Unused.{IsZeroOff}
use Rattle.cert_text.proofs.RowSteps.{rows_took, rows_below}
use Rattle.std.proofs.lemmas.Result.{err_from_is_err_and}
use Rattle.cert_text.proofs.rows.read_rows.Goals as goal

pub rows-preserved : goal.rows-preserved
rows-preserved g c =
    let before = c.rows.pair.rows in
    let row = c.in_ok-row.row in
    let rows = c.in_ok-push.ensures.added in
    let one = length_push before row in
    let some : 1 ≤ c.rows.left = omega arith in
    record {
      reads =
          λ states after taken. c.rows.invariant.reads states after taken
          ∙ c.in_ok-row.ensures.reads (states c.rows.left c.rows.least) (λ k. states (c.rows.left - 1) (k + 1)) (taken.takes c.rows.left c.rows.least some);
      took =
          c.rows.invariant.took ∙ ap (λ (l : List (List ℕ)). row_lines (fine_signals c.args.signals) before ++ l) c.in_ok-row.ensures.took
          ∙ rows_took (fine_signals c.args.signals) before row c.next_row.new.lines.left
          ∙ ap (λ (rs : List Row). row_lines (fine_signals c.args.signals) rs ++ c.next_row.new.lines.left) (sym rows);
      count = rw rows (omega (arith, one, c.rows.invariant.count));
      number = c.push.ensures.number ∙ c.rows.invariant.number;
      tag = c.push.ensures.tag ∙ c.rows.invariant.tag;
      group = c.push.ensures.group ∙ c.rows.invariant.group;
      below = rw rows (rows_below before row c.rows.least c.rows.invariant.below c.in_ok-row.ensures.least);
      of_pair = rw rows (All-push (IsOfPair c.args.arcs.now c.args.head.number) before row c.rows.invariant.of_pair c.in_ok-row.ensures.of_pair);
      used = rw rows (All-push (λ (x : Row). IsZeroOff (fine_signals c.args.signals) x.y) before row c.rows.invariant.used c.in_ok-row.ensures.used);
      whole = rw rows (All-push IsWholeRow before row c.rows.invariant.whole c.in_ok-row.ensures.whole);
    }

pub returns-in_err-row-clause-reads : goal.returns-in_err-row-clause-reads
returns-in_err-row-clause-reads g c = λ states after taken.
    let err_parts = err_from_is_err_and c.from_residual.result c.from_residual.ensures.1 in
    let some : 1 ≤ c.rows.left = omega (arith, c.rows-test.true) in
    rw (err_parts.1, err_parts.2) (c.rows.invariant.reads states after taken
    ∙ c.in_err-row.ensures.reads (states c.rows.left c.rows.least) (λ k. states (c.rows.left - 1) (k + 1)) (taken.takes c.rows.left c.rows.least some))
