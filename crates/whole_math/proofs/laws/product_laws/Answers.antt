use Rattle.whole_math.proofs.Certificates.{cancel, square_root}
use Rattle.whole_math.proofs.laws.product_laws.Goals as goal

pub returns-clause-cancel : goal.returns-clause-cancel
returns-clause-cancel c = cancel

pub returns-clause-root : goal.returns-clause-root
returns-clause-root c = square_root
