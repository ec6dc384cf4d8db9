use Rattle.std.proofs.Common.{◌≡◌, ◌<◌, ◌^◌, to_z, of_z, w64, arith}
use Rattle.std.proofs.lemmas.Int.{to_z-of_z}
use Rattle.cert_lines.proofs.TailLaws.{weak_read}
use Rattle.cert_lines.proofs.tails.weak_in.Goals as goal

pub returns-clause-spelled : goal.returns-clause-spelled
returns-clause-spelled c =
    let pivot = c.in_ok-pivot.pivot in
    let column = c.in_ok-column.column in
    let same : to_z w64 (of_z w64 pivot) ≡ pivot = grind (arith, to_z-of_z) in
    let below : column < 2 ^ 32 = omega (arith, c.in_ok-column.ensures.in_range.1, c.requires.few) in
    rw same (weak_read c.args.words.now c.args.line.now c.in_ok-numbers.numbers c.as_slice-numbers.result.now c.number_at.result c.number_at-2.result column pivot
    c.in_ok-numbers.ensures.value c.in_ok-numbers.ensures.count c.as_slice-numbers.ensures.value
    c.number_at.ensures c.in_ok-column.ensures.exact below c.number_at-2.ensures c.in_ok-pivot.ensures.exact c.in_ok-pivot.ensures.small)
