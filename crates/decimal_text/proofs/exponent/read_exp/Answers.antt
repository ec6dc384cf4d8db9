use Rattle.std.proofs.Common.{◌∙◌, sym}
use Rattle.decimal_text.proofs.ExpReads.{dec_form, dec_only, dec_small}
use Rattle.decimal_text.proofs.exponent.read_exp.Goals as goal

pub returns-clause-form : goal.returns-clause-form
returns-clause-form c = dec_form c.args.text.now c.read_marked.result c.read_marked.ensures

pub returns-clause-only : goal.returns-clause-only
returns-clause-only c = λ other form. dec_only c.args.text.now other form ∙ sym c.read_marked.ensures

pub returns-clause-small : goal.returns-clause-small
returns-clause-small c = dec_small c.args.text.now c.read_marked.result (dec_form c.args.text.now c.read_marked.result c.read_marked.ensures)
