-- The whole text.
use Rattle.std.proofs.Common.{ap, sym}
use Rattle.line_source.specs.Lines.{Reading, lines_of}
use Rattle.eph_store.specs.File.{Records}
use Rattle.rinex_head.specs.LineRules.{rest_gives}
use Rattle.rinex_head.proofs.LineRuleLaws.{gives_same}
use Rattle.rinex_head.proofs.Stops.{refused_exit, first_exit}
use Rattle.rinex_nav.specs.NavRules.{First, nav_rules}
use Rattle.rinex_nav.specs.NavForm.{HasNavFile}
use Rattle.rinex_nav.proofs.FormPlaces.{file_of_rules, rules_of_file, ends, ok_exit, only_exit}
use Rattle.rinex_nav.proofs.reader.read_records_of.Goals as goal

pub returns : goal.returns
returns c =
    let lines = lines_of c.args.text.now in
    let whole = sym (ap (λ (r : Reading). rest_gives (nav_rules c.args.system) r First) c.new.ensures) in
    let exact = gives_same _ _ (λ (file : Records). file.all) _ whole c.read_lines.ensures in
    record {
      ok = ok_exit c.args.system lines _ exact;
      only = only_exit c.args.system lines _ exact;
      refused = refused_exit (nav_rules c.args.system) (HasNavFile c.args.system) (file_of_rules c.args.system) lines _ _ exact;
      first = first_exit (nav_rules c.args.system) (HasNavFile c.args.system) (file_of_rules c.args.system) (rules_of_file c.args.system) (ends c.args.system) lines _ _ exact;
      exact = exact;
    }
