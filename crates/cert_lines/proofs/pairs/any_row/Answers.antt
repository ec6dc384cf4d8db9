use Rattle.std.proofs.Common.{◌≡◌, w64, to_z, of_z, arith}
use Rattle.std.proofs.lemmas.Int.{to_z-of_z}
use Rattle.cert_lines.proofs.Spelled.{row_spelled, row_value}
use Rattle.cert_lines.proofs.pairs.any_row.Goals as goal

pub returns-clause-spelled : goal.returns-clause-spelled
returns-clause-spelled c =
    let radius = c.in_ok-ry.ry in
    let same : to_z w64 (of_z w64 radius) ≡ radius = grind (arith, to_z-of_z) in
    rw same (row_spelled c.args.counted.now c.args.line.now c.in_ok-numbers.numbers c.as_slice-numbers.result.now c.part_of.result.now c.part_of-2.result.now c.part_of-3.result.now
    c.number_at.result c.number_at-2.result c.in_ok-arc.arc c.in_ok-y.y radius c.in_ok-u.u c.in_ok-ru.ru c.requires.good
    c.in_ok-numbers.ensures.value c.in_ok-numbers.ensures.count c.as_slice-numbers.ensures.value c.number_at.ensures c.in_ok-arc.ensures.exact c.in_ok-arc.ensures.small
    c.part_of.ensures.value c.part_of.ensures.count c.in_ok-y.ensures.value c.number_at-2.ensures c.in_ok-ry.ensures.exact c.in_ok-ry.ensures.small
    c.part_of-2.ensures.value c.in_ok-u.ensures.value c.in_ok-u.ensures.small c.part_of-3.ensures.value c.in_ok-ru.ensures.value c.in_ok-ru.ensures.small)

pub returns-clause-value : goal.returns-clause-value
returns-clause-value c =
    row_value c.args.counted.now c.args.arcs.now c.args.pair c.args.least c.args.line.now c.in_ok-numbers.numbers c.as_slice-numbers.result.now c.part_of.result.now c.part_of-2.result.now
    c.part_of-3.result.now c.number_at.result c.number_at-2.result c.in_ok-arc.arc c.in_ok-y.y c.in_ok-ry.ry c.in_ok-u.u c.in_ok-ru.ru
    c.in_ok-numbers.ensures.value c.as_slice-numbers.ensures.value c.number_at.ensures c.in_ok-arc.ensures.value c.part_of.ensures.value c.in_ok-y.ensures.value c.number_at-2.ensures
    c.in_ok-ry.ensures.value
    c.part_of-2.ensures.value c.in_ok-u.ensures.value c.part_of-3.ensures.value c.in_ok-ru.ensures.value
