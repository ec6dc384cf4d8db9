use Rattle.cert_migrate.proofs.ReadLaws.{old_spelling_same}
use Rattle.cert_migrate.proofs.laws.one_old_spelling_law.Goals as goal

pub returns : goal.returns
returns c = old_spelling_same
