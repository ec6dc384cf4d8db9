use Rattle.track_text.specs.Rules.{End}
use Rattle.track_text.proofs.LineLaws.{end_taken}
use Rattle.track_text.proofs.reader.read_end.Goals as goal

pub returns : goal.returns
returns c = c.read_end.ensures End end_taken
