use Rattle.std.proofs.Common.{◌≡◌, ◌++◌, w64, to_z, of_z, arith, ap, ◌∙◌}
use Rattle.std.proofs.lemmas.Int.{ints}
use Rattle.cert_words.specs.Spelling.{behind_blanks}
use Rattle.obs_rows.specs.Signals.{fine_signals}
use Rattle.cert_lines.specs.Places.{select}
use Rattle.cert_lines.proofs.Appends.{row_appended}
use Rattle.cert_lines.proofs.write.push_row_line.Goals as goal

pub returns-clause-text : goal.returns-clause-text
returns-clause-text c =
    let row = c.args.row.now in
    let low = row.ry_in.0 in
    let high = row.ry_in.1 in
    let same : to_z w64 (of_z w64 row.ry) ≡ row.ry = omega (arith, ints) in
    let radius_pushed = rw same at c.in_ok-push_number-2.ensures in
    let signals_pushed = c.in_ok-push_selected.ensures ∙ ap (λ ss. c.push_number.new.out.items ++ behind_blanks (select ss row.y)) c.fine_signals.ensures.value in
    row_appended c.args.out.now.items c.extend_from_slice.new.self.items c.push_number.new.out.items c.push_selected.new.out.items c.push_number-2.new.out.items c.push_numbers.new.out.items
    c.push_numbers-2.new.out.items c.push.new.self.items row.arc (select (fine_signals c.args.signals) row.y) row.ry row.u row.ru
    c.in_ok-extend_from_slice.ensures.items c.in_ok-push_number.ensures signals_pushed radius_pushed c.in_ok-push_numbers.ensures c.in_ok-push_numbers-2.ensures c.in_ok-push.ensures.items
