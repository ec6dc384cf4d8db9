-- The header and the body.
use Rattle.rinex_head.proofs.LineRuleLaws.{gives_same}
use Rattle.eph_store.specs.File.{Records}
use Rattle.rinex_nav.proofs.reader.read_lines.Goals as goal

pub returns-in-Ok : goal.returns-in-Ok
returns-in-Ok c = gives_same _ _ (λ (file : Records). file.all) c.read_records.result c.in-Ok.ensures c.read_records.ensures
