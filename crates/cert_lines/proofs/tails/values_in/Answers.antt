use Rattle.cert_lines.proofs.TailLaws.{values_read, word126}
use Rattle.cert_lines.proofs.tails.values_in.Goals as goal

pub returns-clause-spelled : goal.returns-clause-spelled
returns-clause-spelled c =
    let first_kept = word126 c.in_ok-p1.p1 c.in_ok-p1.ensures.below in
    let second_kept = word126 c.in_ok-p2.p2 c.in_ok-p2.ensures.below in
    let top = word126 c.in_ok-top.top c.in_ok-top.ensures.below in
    rw (first_kept, second_kept, top) (values_read c.args.line.now c.in_ok-numbers.numbers c.as_slice-numbers.result.now c.number_at.result c.number_at-2.result c.number_at-3.result c.number_at-4.result
    c.in_ok-h.h c.in_ok-p1.p1 c.in_ok-p2.p2 c.in_ok-top.top
    c.in_ok-numbers.ensures.value c.in_ok-numbers.ensures.count c.as_slice-numbers.ensures.value
    c.number_at.ensures c.in_ok-h.ensures.exact c.in_ok-h.ensures.in_range.1 c.number_at-2.ensures c.in_ok-p1.ensures.exact c.in_ok-p1.ensures.below
    c.number_at-3.ensures c.in_ok-p2.ensures.exact c.in_ok-p2.ensures.below c.number_at-4.ensures c.in_ok-top.ensures.exact c.in_ok-top.ensures.below)
