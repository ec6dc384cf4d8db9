use Rattle.cert_lines.proofs.Values.{triple_spelled}
use Rattle.cert_lines.proofs.counts.any_triple.Goals as goal

pub returns-clause-spelled : goal.returns-clause-spelled
returns-clause-spelled c =
    triple_spelled c.args.word.now c.args.line.now 3 c.in_ok-numbers.numbers c.as_slice.result.now c.args.range.now c.each_within.result c.in_ok-numbers.ensures.value c.as_slice.ensures.value
    c.each_within.ensures.value c.each_within.ensures.small
