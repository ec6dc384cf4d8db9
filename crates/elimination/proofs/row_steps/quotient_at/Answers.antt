use Rattle.std.proofs.Common.{◌∙◌}
use Rattle.quadratic_form.specs.Tables.{entry}
use Rattle.elimination.proofs.RowWords.{read, read_size, read_positive}
use Rattle.elimination.proofs.row_steps.quotient_at.Goals as goal

pub of-requires-clause-p_size : goal.of-requires-clause-p_size
of-requires-clause-p_size c = read_size c.at.result (entry c.args.pivots.now.rows c.args.j c.args.r) c.at.ensures.value (c.requires.quotients.entries c.args.j c.if-j-count.true)

pub of-requires-clause-a_size : goal.of-requires-clause-a_size
of-requires-clause-a_size c = read_size c.at-then-j-count.result (entry c.args.pivots.now.rows c.args.j c.args.j) c.at-then-j-count.ensures.value (c.requires.quotients.pivots c.args.j c.if-j-count.true)

pub of-requires-clause-positive : goal.of-requires-clause-positive
of-requires-clause-positive c = read_positive c.at-then-j-count.result (entry c.args.pivots.now.rows c.args.j c.args.j) c.at-then-j-count.ensures.value
    (c.requires.quotients.pivots c.args.j c.if-j-count.true) (c.requires.quotients.positive c.args.j c.if-j-count.true)

pub returns-then-j-count : goal.returns-then-j-count
returns-then-j-count c = λ h. (
  c.of.ensures.p ∙ read c.at.result (entry c.args.pivots.now.rows c.args.j c.args.r) c.at.ensures.value (c.requires.quotients.entries c.args.j h),
  c.of.ensures.a ∙ read c.at-then-j-count.result (entry c.args.pivots.now.rows c.args.j c.args.j) c.at-then-j-count.ensures.value (c.requires.quotients.pivots c.args.j h),
)
