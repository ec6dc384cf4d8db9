use Rattle.std.proofs.Common.{◌∙◌}
use Rattle.std.proofs.lemmas.Result.{err_from_is_err_and}
use Rattle.track_text.specs.Rules.{Form, Ratio, Budget, SystemLine, Base, Letters}
use Rattle.track_text.proofs.LineLaws.{form_taken, ratio_taken, budget_taken, system_taken, base_taken, behind_letters, letters_taken}
use Rattle.track_text.proofs.head.read_head.Goals as goal

pub returns-in_err-next_word-clause-reads : goal.returns-in_err-next_word-clause-reads
returns-in_err-next_word-clause-reads c =
    let is_error = err_from_is_err_and c.from_residual.result c.from_residual.ensures.1 in
    rw (is_error.1, is_error.2) (c.in_err-next_word.ensures.reads Form Ratio form_taken)

pub returns-in_err-ratio-clause-reads : goal.returns-in_err-ratio-clause-reads
returns-in_err-ratio-clause-reads c =
    let is_error = err_from_is_err_and c.from_residual-in_err-ratio.result c.from_residual-in_err-ratio.ensures.1 in
    rw (is_error.1, is_error.2) (c.in_ok-next_word.ensures.reads Form Ratio form_taken
    ∙ c.in_err-ratio.ensures.reads Ratio (λ n. Budget) ratio_taken)

pub returns-in_err-budget-clause-reads : goal.returns-in_err-budget-clause-reads
returns-in_err-budget-clause-reads c =
    let is_error = err_from_is_err_and c.from_residual-in_err-budget.result c.from_residual-in_err-budget.ensures.1 in
    rw (is_error.1, is_error.2) (c.in_ok-next_word.ensures.reads Form Ratio form_taken
    ∙ c.in_ok-ratio.ensures.reads Ratio (λ n. Budget) ratio_taken
    ∙ c.in_err-budget.ensures.reads Budget (λ n. SystemLine n) budget_taken)

pub returns-in_err-system-clause-reads : goal.returns-in_err-system-clause-reads
returns-in_err-system-clause-reads c =
    let is_error = err_from_is_err_and c.from_residual-in_err-system.result c.from_residual-in_err-system.ensures.1 in
    let budget = c.in_ok-budget.budget in
    rw (is_error.1, is_error.2) (c.in_ok-next_word.ensures.reads Form Ratio form_taken
    ∙ c.in_ok-ratio.ensures.reads Ratio (λ n. Budget) ratio_taken
    ∙ c.in_ok-budget.ensures.reads Budget (λ n. SystemLine n) budget_taken
    ∙ c.in_err-system.ensures.reads (SystemLine budget) (λ s. Base budget) (system_taken budget))

pub returns-in_err-base-clause-reads : goal.returns-in_err-base-clause-reads
returns-in_err-base-clause-reads c =
    let p = err_from_is_err_and c.from_residual-in_err-base.result c.from_residual-in_err-base.ensures.1 in
    let budget = c.in_ok-budget.budget in
    rw (p.1, p.2) (c.in_ok-next_word.ensures.reads Form Ratio form_taken
    ∙ c.in_ok-ratio.ensures.reads Ratio (λ n. Budget) ratio_taken
    ∙ c.in_ok-budget.ensures.reads Budget (λ n. SystemLine n) budget_taken
    ∙ c.in_ok-system.ensures.reads (SystemLine budget) (λ s. Base budget) (system_taken budget)
    ∙ c.in_err-base.ensures.reads (Base budget) (λ p. Letters budget) (base_taken budget))

pub returns-in_err-signals-clause-reads : goal.returns-in_err-signals-clause-reads
returns-in_err-signals-clause-reads c =
    let p = err_from_is_err_and c.from_residual-in_err-signals.result c.from_residual-in_err-signals.ensures.1 in
    let budget = c.in_ok-budget.budget in
    rw (p.1, p.2) (c.in_ok-next_word.ensures.reads Form Ratio form_taken
    ∙ c.in_ok-ratio.ensures.reads Ratio (λ n. Budget) ratio_taken
    ∙ c.in_ok-budget.ensures.reads Budget (λ n. SystemLine n) budget_taken
    ∙ c.in_ok-system.ensures.reads (SystemLine budget) (λ s. Base budget) (system_taken budget)
    ∙ c.in_ok-base.ensures.reads (Base budget) (λ p. Letters budget) (base_taken budget)
    ∙ c.in_err-signals.ensures.reads (Letters budget) (behind_letters budget) (letters_taken budget))

pub returns-clause-reads : goal.returns-clause-reads
returns-clause-reads c =
    let budget = c.in_ok-budget.budget in
    c.in_ok-next_word.ensures.reads Form Ratio form_taken
    ∙ c.in_ok-ratio.ensures.reads Ratio (λ n. Budget) ratio_taken
    ∙ c.in_ok-budget.ensures.reads Budget (λ n. SystemLine n) budget_taken
    ∙ c.in_ok-system.ensures.reads (SystemLine budget) (λ s. Base budget) (system_taken budget)
    ∙ c.in_ok-base.ensures.reads (Base budget) (λ p. Letters budget) (base_taken budget)
    ∙ c.in_ok-signals.ensures.reads (Letters budget) (behind_letters budget) (letters_taken budget)
