use Rattle.std.proofs.Common.{◌∙◌, sym, ap, length, length-append}
use Rattle.job_answers.proofs.TakerLaws.{two_parts}
use Rattle.job_answers.proofs.taker.kept_of.Goals as goal

pub returns-clause-kept : goal.returns-clause-kept
returns-clause-kept c =
    let whole = two_parts c.new-bytes.result.items c.extend_from_slice.new.self.items c.extend_from_slice-2.new.self.items c.args.line.now
    c.args.rest.now c.new-bytes.ensures.items c.in_ok-extend_from_slice.ensures.items c.in_ok-extend_from_slice-2.ensures.items in
    ap length (sym whole) ∙ length-append c.args.line.now c.args.rest.now

pub returns-clause-stands : goal.returns-clause-stands
returns-clause-stands c = (
  two_parts c.new-bytes.result.items c.extend_from_slice.new.self.items c.extend_from_slice-2.new.self.items c.args.line.now c.args.rest.now
      c.new-bytes.ensures.items c.in_ok-extend_from_slice.ensures.items c.in_ok-extend_from_slice-2.ensures.items,
  c.requires.reads,
)
