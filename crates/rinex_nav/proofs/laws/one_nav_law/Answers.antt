use Rattle.std.proofs.Common.{◌≡◌, Ok, sym, ◌∙◌}
use Rattle.rinex_nav.proofs.FormLaws.{file_given}
use Rattle.rinex_nav.proofs.laws.one_nav_law.Goals as goal

pub returns : goal.returns
returns c = λ system lines records other is same. let both = sym (file_given system lines records is) ∙ file_given system lines other same in cc (both)
