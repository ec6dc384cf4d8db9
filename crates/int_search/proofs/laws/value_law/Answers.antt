use Rattle.int_search.proofs.MapImageLaws.{reduced_value}
use Rattle.int_search.proofs.laws.value_law.Goals as goal

pub returns : goal.returns
returns c = reduced_value
