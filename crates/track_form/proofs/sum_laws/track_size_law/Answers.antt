use Rattle.track_form.proofs.Sizes.{entry_small, exponent_few}
use Rattle.track_form.proofs.sum_laws.track_size_law.Goals as goal

pub returns-clause-entries : goal.returns-clause-entries
returns-clause-entries c = entry_small

pub returns-clause-exponent : goal.returns-clause-exponent
returns-clause-exponent c = exponent_few
