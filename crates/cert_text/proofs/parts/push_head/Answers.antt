use Rattle.std.proofs.Common.{[], ◌∷◌, codes}
use Rattle.cert_lines.specs.declared.version.Version.TheVariants.{Two}
use Rattle.cert_lines.specs.Versions.{form_line}
use Rattle.cert_lines.specs.Lines.{count_line, vector_line, system_line, signals_line}
use Rattle.cert_text.proofs.Texts.{then_lines, then_written}
use Rattle.cert_text.proofs.parts.push_head.Goals as goal

pub returns-clause-text : goal.returns-clause-text
returns-clause-text c =
    let before = c.args.out.now.items in
    let form = form_line Two in
    let ratio = count_line (codes "ratio") c.args.ratio in
    let budget = count_line (codes "budget") c.args.budget in
    let system = system_line c.args.system in
    let base = vector_line (codes "base") c.args.base.now in
    let point = vector_line (codes "point") c.args.point.now in
    let two = then_lines before _ _ (form ∷ []) (ratio ∷ []) c.in_ok-push_form.ensures c.in_ok-push_count_line.ensures in
    let three = then_lines before _ _ (form ∷ ratio ∷ []) (budget ∷ []) two c.in_ok-push_count_line-2.ensures in
    let four = then_lines before _ _ (form ∷ ratio ∷ budget ∷ []) (system ∷ []) three c.in_ok-push_system_line.ensures in
    let five = then_lines before _ _ (form ∷ ratio ∷ budget ∷ system ∷ []) (base ∷ []) four c.in_ok-push_vector_line.ensures in
    let six = then_lines before _ _ (form ∷ ratio ∷ budget ∷ system ∷ base ∷ []) (point ∷ []) five c.in_ok-push_vector_line-2.ensures in
    then_written before _ _ (form ∷ ratio ∷ budget ∷ system ∷ base ∷ point ∷ []) (signals_line Two c.args.signals.l1 c.args.signals.l2 c.args.signals.l5 ∷ []) _ six c.push_signals_line.ensures
