use Rattle.cert_lines.proofs.TailLaws.{name_read}
use Rattle.cert_lines.proofs.tails.name_in.Goals as goal

pub returns-in-Some-clause-spelled : goal.returns-in-Some-clause-spelled
returns-in-Some-clause-spelled c = name_read c.args.words.now c.args.line.now c.in-Some.name.now c.in-Some.ensures.cases.0 c.in-Some.ensures.cases.1
