use Rattle.std.proofs.Common.{ap, sym}
use Rattle.line_source.specs.Lines.{Reading, lines_of}
use Rattle.rinex_head.specs.LineRules.{rest_gives}
use Rattle.rinex_head.proofs.LineRuleLaws.{gives_same}
use Rattle.rinex_head.proofs.Stops.{refused_exit, first_exit}
use Rattle.file_jobs.specs.ZeroRows.{Rows, IsZeroFile}
use Rattle.file_jobs.specs.ZeroRules.{Head, rows_rules}
use Rattle.file_jobs.proofs.RowsLaws.{file_of_rules, rules_of_file, ends, ok_exit, only_exit}
use Rattle.file_jobs.proofs.zero_rows.read_rows.Goals as goal

pub returns : goal.returns
returns c =
    let lines = lines_of c.args.text.now in
    let whole = sym (ap (λ (r : Reading). rest_gives rows_rules r Head) c.new.ensures) in
    let exact = gives_same _ _ (λ (found : Rows). found) _ whole c.read_lines.ensures in
    record {
      ok = ok_exit lines _ exact;
      only = only_exit lines _ exact;
      refused = refused_exit rows_rules IsZeroFile file_of_rules lines _ _ exact;
      first = first_exit rows_rules IsZeroFile file_of_rules rules_of_file ends lines _ _ exact;
      exact = exact;
    }
