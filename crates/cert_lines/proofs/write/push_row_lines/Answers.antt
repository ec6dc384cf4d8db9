use Rattle.std.proofs.Common.{◌+◌, ◌++◌, ◌∷◌, ◌∙◌, List, All, drop, sym, ap, subst}
use Rattle.std.proofs.lemmas.List.{drop_more, take_all}
use Rattle.std.proofs.lemmas.List.Elements.{All-more}
use Rattle.obs_rows.specs.declared.rows.Row.{Row}
use Rattle.obs_rows.specs.Signals.{fine_signals}
use Rattle.cert_words.specs.Spelling.{text_of_lines}
use Rattle.cert_lines.specs.Lines.{row_line, row_lines}
use Rattle.cert_lines.specs.Lengths.{IsWholeRow}
use Rattle.cert_lines.proofs.Appends.{line_pushed}
use Rattle.cert_lines.proofs.write.push_row_lines.Goals as goal

pub loop-row-preserved : goal.loop-row-preserved
loop-row-preserved c =
    let signals = fine_signals c.args.signals in
    let out = c.loop-row.out.items in
    let rows = c.args.rows.now in
    let i = c.loop-row.row-index in
    let row = c.row-item.result in
    let later = drop (i + 1) rows in
    let split = drop_more rows i row c.loop-row-test.true ∙ ap (λ (q : Row). q ∷ later) (sym c.row-item.is) in
    let so_far = ap (λ (rs : List Row). out ++ text_of_lines (row_lines signals rs)) (sym split) ∙ c.loop-row.invariant.text in
    record {
      text = line_pushed out c.push_row_line.new.out.items _ (row_line signals row) (row_lines signals later) c.in_ok-push_row_line.ensures.text so_far;
      whole = All-more IsWholeRow rows i row c.loop-row-test.true c.loop-row.invariant.whole (subst IsWholeRow c.row-item.is c.in_ok-push_row_line.ensures.whole);
    }

pub returns-clause-whole : goal.returns-clause-whole
returns-clause-whole c = subst (λ (rs : List Row). All IsWholeRow rs) (take_all c.loop-row.row-index c.args.rows.now c.loop-row-test.false) c.loop-row.invariant.whole
