use Rattle.std.proofs.Common.{◌≤◌, length, ◌∙◌, rules}
use Rattle.std.proofs.lemmas.List.{length-take-le}
use Rattle.obs_rows.proofs.IntegerPlaces.{counted_are}
use Rattle.fix_decide.proofs.SessionForms.{first_small}
use Rattle.report_text.proofs.Sums.{at_most}
use Rattle.report_text.proofs.residuals.write_shown.Goals as goal

pub write_session-requires : goal.write_session-requires
write_session-requires c =
    let best = c.args.best.now in
    let room : best.size ≤ length best.first = search rules in
    record {
      free = c.args.session.now.arcs_in.few_free;
      counted = counted_are c.args.session.now.signals 0;
      entries = length-take-le best.size best.first room ∙ c.requires.size;
      z_size = first_small best.size best.first c.requires.small;
      moved_size = at_most _ c.args.moved.now c.requires.moved;
    }
