use Rattle.std.proofs.Common.{[], ◌∷◌, length, codes}
use Rattle.obs_rows.specs.Signals.{fine_signals}
use Rattle.cert_lines.specs.Lines.{pair_line, vector_line, row_lines}
use Rattle.cert_text.proofs.Texts.{then_lines, then_written}
use Rattle.track_text.proofs.written_pairs.push_placed_pair.Goals as goal

pub returns-clause-text : goal.returns-clause-text
returns-clause-text c =
    let written = c.args.out.now.items in
    let pair = c.args.pair.now in
    let head = pair_line pair.number pair.tag.0 pair.group (length pair.rows) in
    let at_point = vector_line (codes "at") c.args.point.now in
    let two = then_lines written _ _ (head ∷ []) (at_point ∷ []) c.in_ok-push_pair_head.ensures c.in_ok-push_vector_line.ensures in
    let rows = rw c.as_slice.ensures at c.push_row_lines.ensures.text in
    then_written written _ _ (head ∷ at_point ∷ []) (row_lines (fine_signals c.args.signals) pair.rows) _ two rows

pub returns-clause-whole : goal.returns-clause-whole
returns-clause-whole c = rw c.as_slice.ensures at c.push_row_lines.ensures.whole
