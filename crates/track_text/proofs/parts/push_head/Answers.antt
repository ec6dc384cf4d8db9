use Rattle.std.proofs.Common.{[], ◌∷◌, codes}
use Rattle.cert_lines.specs.declared.version.Version.TheVariants.{Two}
use Rattle.cert_lines.specs.Lines.{count_line, vector_line, system_line, signals_line}
use Rattle.cert_text.proofs.Texts.{then_lines, then_written}
use Rattle.track_text.specs.Spelling.{track_form}
use Rattle.track_text.proofs.parts.push_head.Goals as goal

pub returns-clause-text : goal.returns-clause-text
returns-clause-text c =
    let written = c.args.out.now.items in
    let form = track_form in
    let ratio = count_line (codes "ratio") c.args.ratio in
    let budget = count_line (codes "budget") c.args.budget in
    let system = system_line c.args.system in
    let base = vector_line (codes "base") c.args.base.now in
    let two = then_lines written _ _ (form ∷ []) (ratio ∷ []) c.in_ok-push_form.ensures c.in_ok-push_count_line.ensures in
    let three = then_lines written _ _ (form ∷ ratio ∷ []) (budget ∷ []) two c.in_ok-push_count_line-2.ensures in
    let four = then_lines written _ _ (form ∷ ratio ∷ budget ∷ []) (system ∷ []) three c.in_ok-push_system_line.ensures in
    let five = then_lines written _ _ (form ∷ ratio ∷ budget ∷ system ∷ []) (base ∷ []) four c.in_ok-push_vector_line.ensures in
    then_written written _ _ (form ∷ ratio ∷ budget ∷ system ∷ base ∷ []) (signals_line Two c.args.signals.l1 c.args.signals.l2 c.args.signals.l5 ∷ []) _ five c.push_signals_line.ensures
