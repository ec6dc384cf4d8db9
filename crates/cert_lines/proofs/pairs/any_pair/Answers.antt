use Rattle.std.proofs.Common.{◌≡◌, ◌<◌, ◌^◌, w64, to_z, of_z, arith}
use Rattle.std.proofs.lemmas.Int.{to_z-of_z}
use Rattle.cert_lines.proofs.Spelled.{pair_spelled}
use Rattle.cert_lines.proofs.pairs.any_pair.Goals as goal

pub returns-clause-spelled : goal.returns-clause-spelled
returns-clause-spelled c =
    let group = c.in_ok-group.group in
    let same : to_z w64 (of_z w64 group) ≡ group = grind (arith, to_z-of_z) in
    let number : c.in_ok-number.number < 2 ^ 64 = omega (arith, c.in_ok-number.ensures.in_range) in
    let tag : c.in_ok-tag.tag < 2 ^ 64 = omega (arith, c.in_ok-tag.ensures.in_range) in
    let count : c.in_ok-count.count < 2 ^ 64 = omega (arith, c.in_ok-count.ensures.in_range) in
    rw same (pair_spelled c.args.line.now c.in_ok-numbers.numbers c.as_slice-numbers.result.now c.number_at.result c.number_at-2.result c.number_at-3.result c.number_at-4.result
    c.in_ok-number.number c.in_ok-tag.tag c.in_ok-count.count group
    c.in_ok-numbers.ensures.value c.in_ok-numbers.ensures.count c.as_slice-numbers.ensures.value
    c.number_at.ensures c.in_ok-number.ensures.exact number c.number_at-2.ensures c.in_ok-tag.ensures.exact tag
    c.number_at-3.ensures c.in_ok-group.ensures.exact c.in_ok-group.ensures.small c.number_at-4.ensures c.in_ok-count.ensures.exact count)
