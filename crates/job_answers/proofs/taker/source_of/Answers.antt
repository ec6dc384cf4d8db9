use Rattle.std.proofs.Common.{◌∙◌, ◌++◌, sym, ap}
use Rattle.std.specs.Str.Lines.{strip_carriage_return}
use Rattle.job_answers.specs.Formats.{begins_2}
use Rattle.job_answers.proofs.TakerLaws.{read_2, read_3}
use Rattle.job_answers.proofs.taker.source_of.Goals as goal

pub kept_of-requires-clause-reads : goal.kept_of-requires-clause-reads
kept_of-requires-clause-reads c =
    read_2 (strip_carriage_return c.args.line.now) (c.args.line.now ++ c.args.rest.now) c.requires.first (ap begins_2 (sym c.without_return.ensures) ∙ sym c.begins_2.ensures ∙ c.if-begins_2.true)

pub feed_of-requires-clause-reads : goal.feed_of-requires-clause-reads
feed_of-requires-clause-reads c =
    read_3 (strip_carriage_return c.args.line.now) (c.args.line.now ++ c.args.rest.now) c.requires.first (ap begins_2 (sym c.without_return.ensures) ∙ sym c.begins_2.ensures ∙ c.if-begins_2.false)
