use Rattle.cert_lines.specs.declared.version.Version.TheVariants.{Two}
use Rattle.cert_text.proofs.SameSpelling.{spelling_same}
use Rattle.cert_text.proofs.Versions.{of_two}
use Rattle.cert_text.proofs.laws.one_spelling_law.Goals as goal

pub returns : goal.returns
returns c = λ cert other whole whole' same. spelling_same Two cert other whole whole' (of_two cert) (of_two other) same
