use Rattle.std.proofs.Common.{◌∙◌}
use Rattle.std.proofs.lemmas.Result.{err_from_is_err_and}
use Rattle.cert_text.specs.Rules.{behind_budget, Form, Ratio, Budget, Base, Point, Letters}
use Rattle.cert_text.proofs.LineLaws.{form_taken, ratio_taken, budget_taken, base_taken, point_taken, behind_letters, letters_taken}
use Rattle.cert_text.proofs.head.read_head.Goals as goal

pub returns-in_err-next_word-clause-reads : goal.returns-in_err-next_word-clause-reads
returns-in_err-next_word-clause-reads c =
    let refusal = err_from_is_err_and c.from_residual.result c.from_residual.ensures.1 in
    let version = c.args.version in
    rw (refusal.1, refusal.2) (c.in_err-next_word.ensures.reads (Form version) (Ratio version) (form_taken version c.form_line.result.now c.form_line.ensures))

pub returns-in_err-ratio-clause-reads : goal.returns-in_err-ratio-clause-reads
returns-in_err-ratio-clause-reads c =
    let refusal = err_from_is_err_and c.from_residual-in_err-ratio.result c.from_residual-in_err-ratio.ensures.1 in
    let version = c.args.version in
    rw (refusal.1, refusal.2) (c.in_ok-next_word.ensures.reads (Form version) (Ratio version) (form_taken version c.form_line.result.now c.form_line.ensures)
    ∙ c.in_err-ratio.ensures.reads (Ratio version) (λ n. Budget version) (ratio_taken version))

pub returns-in_err-budget-clause-reads : goal.returns-in_err-budget-clause-reads
returns-in_err-budget-clause-reads c =
    let refusal = err_from_is_err_and c.from_residual-in_err-budget.result c.from_residual-in_err-budget.ensures.1 in
    let version = c.args.version in
    rw (refusal.1, refusal.2) (c.in_ok-next_word.ensures.reads (Form version) (Ratio version) (form_taken version c.form_line.result.now c.form_line.ensures)
    ∙ c.in_ok-ratio.ensures.reads (Ratio version) (λ n. Budget version) (ratio_taken version)
    ∙ c.in_err-budget.ensures.reads (Budget version) (behind_budget version) (budget_taken version))

pub returns-in_err-system-clause-reads : goal.returns-in_err-system-clause-reads
returns-in_err-system-clause-reads c =
    let refusal = err_from_is_err_and c.from_residual-in_err-system.result c.from_residual-in_err-system.ensures.1 in
    let version = c.args.version in
    let budget = c.in_ok-budget.budget in
    rw (refusal.1, refusal.2) (c.in_ok-next_word.ensures.reads (Form version) (Ratio version) (form_taken version c.form_line.result.now c.form_line.ensures)
    ∙ c.in_ok-ratio.ensures.reads (Ratio version) (λ n. Budget version) (ratio_taken version)
    ∙ c.in_ok-budget.ensures.reads (Budget version) (behind_budget version) (budget_taken version)
    ∙ c.in_err-system.ensures.reads budget)

pub returns-in_err-base-clause-reads : goal.returns-in_err-base-clause-reads
returns-in_err-base-clause-reads c =
    let p = err_from_is_err_and c.from_residual-in_err-base.result c.from_residual-in_err-base.ensures.1 in
    let version = c.args.version in
    let budget = c.in_ok-budget.budget in
    rw (p.1, p.2) (c.in_ok-next_word.ensures.reads (Form version) (Ratio version) (form_taken version c.form_line.result.now c.form_line.ensures)
    ∙ c.in_ok-ratio.ensures.reads (Ratio version) (λ n. Budget version) (ratio_taken version)
    ∙ c.in_ok-budget.ensures.reads (Budget version) (behind_budget version) (budget_taken version)
    ∙ c.in_ok-system.ensures.reads budget
    ∙ c.in_err-base.ensures.reads (Base version budget) (λ p. Point version budget) (base_taken version budget))

pub returns-in_err-point-clause-reads : goal.returns-in_err-point-clause-reads
returns-in_err-point-clause-reads c =
    let p = err_from_is_err_and c.from_residual-in_err-point.result c.from_residual-in_err-point.ensures.1 in
    let version = c.args.version in
    let budget = c.in_ok-budget.budget in
    rw (p.1, p.2) (c.in_ok-next_word.ensures.reads (Form version) (Ratio version) (form_taken version c.form_line.result.now c.form_line.ensures)
    ∙ c.in_ok-ratio.ensures.reads (Ratio version) (λ n. Budget version) (ratio_taken version)
    ∙ c.in_ok-budget.ensures.reads (Budget version) (behind_budget version) (budget_taken version)
    ∙ c.in_ok-system.ensures.reads budget
    ∙ c.in_ok-base.ensures.reads (Base version budget) (λ p. Point version budget) (base_taken version budget)
    ∙ c.in_err-point.ensures.reads (Point version budget) (λ p. Letters version budget) (point_taken version budget))

pub returns-in_err-signals-clause-reads : goal.returns-in_err-signals-clause-reads
returns-in_err-signals-clause-reads c =
    let p = err_from_is_err_and c.from_residual-in_err-signals.result c.from_residual-in_err-signals.ensures.1 in
    let version = c.args.version in
    let budget = c.in_ok-budget.budget in
    rw (p.1, p.2) (c.in_ok-next_word.ensures.reads (Form version) (Ratio version) (form_taken version c.form_line.result.now c.form_line.ensures)
    ∙ c.in_ok-ratio.ensures.reads (Ratio version) (λ n. Budget version) (ratio_taken version)
    ∙ c.in_ok-budget.ensures.reads (Budget version) (behind_budget version) (budget_taken version)
    ∙ c.in_ok-system.ensures.reads budget
    ∙ c.in_ok-base.ensures.reads (Base version budget) (λ p. Point version budget) (base_taken version budget)
    ∙ c.in_ok-point.ensures.reads (Point version budget) (λ p. Letters version budget) (point_taken version budget)
    ∙ c.in_err-signals.ensures.reads (Letters version budget) (behind_letters version budget) (letters_taken version budget))

pub returns-clause-reads : goal.returns-clause-reads
returns-clause-reads c =
    let version = c.args.version in
    let budget = c.in_ok-budget.budget in
    c.in_ok-next_word.ensures.reads (Form version) (Ratio version) (form_taken version c.form_line.result.now c.form_line.ensures)
    ∙ c.in_ok-ratio.ensures.reads (Ratio version) (λ n. Budget version) (ratio_taken version)
    ∙ c.in_ok-budget.ensures.reads (Budget version) (behind_budget version) (budget_taken version)
    ∙ c.in_ok-system.ensures.reads budget
    ∙ c.in_ok-base.ensures.reads (Base version budget) (λ p. Point version budget) (base_taken version budget)
    ∙ c.in_ok-point.ensures.reads (Point version budget) (λ p. Letters version budget) (point_taken version budget)
    ∙ c.in_ok-signals.ensures.reads (Letters version budget) (behind_letters version budget) (letters_taken version budget)
