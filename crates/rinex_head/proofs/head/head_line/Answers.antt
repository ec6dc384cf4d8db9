-- Slices that end with the line.
use Rattle.std.proofs.Common.{ap, ◌∙◌, take, arith}
use Rattle.rinex_head.specs.Head.{trimmed}
use Rattle.rinex_head.proofs.HeadLaws.{take-min, slice_is}
use Rattle.rinex_head.proofs.head.head_line.Goals as goal

pub returns-clause-content : goal.returns-clause-content
returns-clause-content c = ap (λ n. take n c.args.line.now.bytes.now) c.min-middle.ensures ∙ take-min 60 c.args.line.now.bytes.now

pub returns-clause-label : goal.returns-clause-label
returns-clause-label c =
    c.trim_end.ensures
    ∙ ap trimmed (slice_is 60 80 c.min-middle.result c.min-end.result c.args.line.now.bytes.now (omega arith) c.min-middle.ensures c.min-end.ensures)
