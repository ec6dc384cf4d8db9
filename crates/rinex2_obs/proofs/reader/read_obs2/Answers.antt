use Rattle.std.proofs.Common.{ap, sym}
use Rattle.line_source.specs.Lines.{Reading, lines_of}
use Rattle.obs_store.specs.declared.file.ObsFile.{ObsFile}
use Rattle.rinex_head.specs.LineRules.{rest_gives}
use Rattle.rinex_head.proofs.LineRuleLaws.{gives_same}
use Rattle.rinex_head.proofs.Stops.{refused_exit, first_exit}
use Rattle.rinex2_obs.specs.Obs2Form.{HasObs2File}
use Rattle.rinex_head.specs.declared.system.System.TheVariants.{Gps}
use Rattle.obs_fields.specs.HeaderRules.{First}
use Rattle.rinex2_obs.specs.Obs2Rules.{Head, obs2_rules}
use Rattle.rinex2_obs.proofs.FormPlaces.{file_of_rules, rules_of_file, ends, ok_exit, only_exit}
use Rattle.rinex2_obs.proofs.reader.read_obs2.Goals as goal

pub returns : goal.returns
returns c =
    let lines = lines_of c.args.text.now in
    let whole = sym (ap (λ (r : Reading). rest_gives obs2_rules r (Head (First Gps))) c.new.ensures) in
    let exact = gives_same _ _ (λ (file : ObsFile). file) _ whole c.read_lines.ensures in
    record {
      ok = ok_exit lines _ exact;
      only = only_exit lines _ exact;
      refused = refused_exit obs2_rules HasObs2File file_of_rules lines _ _ exact;
      first = first_exit obs2_rules HasObs2File file_of_rules rules_of_file ends lines _ _ exact;
      exact = exact;
    }
