use Rattle.std.proofs.Common.{◌≡◌, List, subst}
use Rattle.std.proofs.lemmas.Result.{IfOk-weaker, err_from_is_err_and}
use Rattle.clap.specs.Matches.{found_of}
use Rattle.clap.specs.Walk.{Text, rows_of}
use Rattle.command_words.specs.declared.jobs.Job.{Job}
use Rattle.command_words.specs.declared.fault.WordFault.TheVariants.{Usage}
use Rattle.command_words.specs.Words.{IsJobOf, texts_of}
use Rattle.command_words.proofs.OneJob.{in_range}
use Rattle.command_words.proofs.ReadLaws.{err_is, is_job, no_numbers, not_asked_so, not_split}
use Rattle.command_words.proofs.jobs.read_words.Goals as goal

pub returns-in_err-line-clause-usage : goal.returns-in_err-line-clause-usage
returns-in_err-line-clause-usage c = λ is.
    let answered = err_from_is_err_and c.from_residual.result c.from_residual.ensures.1 in
    let fault : c.in_err-line.field-0.0 ≡ Usage = cc (is, answered.1, answered.2) in
    not_split (texts_of c.args.words.now) (c.in_err-line.ensures.usage (err_is c.in_err-line.field-0.0 Usage fault))

pub returns-clause-job : goal.returns-clause-job
returns-clause-job c =
    let command = c.in_ok-line.line.command.now in
    let rows = rows_of (found_of c.in_ok-line.line.matches) in
    let given = c.in_ok-parted.parted.given.items in
    IfOk-weaker c.job_of.result _ _ (λ j asked. is_job (texts_of c.args.words.now) command rows given c.in_ok-line.ensures.ok c.in_ok-parted.ensures.given j
    (subst (λ (ws : List Text). IsJobOf command ws given j) c.in_ok-parted.ensures.plain asked)) c.job_of.ensures.job

pub returns-clause-range : goal.returns-clause-range
returns-clause-range c = IfOk-weaker c.job_of.result _ _ (λ j asked. in_range _ _ _ j asked) c.job_of.ensures.job

pub returns-clause-usage : goal.returns-clause-usage
returns-clause-usage c = λ is.
    let command = c.in_ok-line.line.command.now in
    let rows = rows_of (found_of c.in_ok-line.line.matches) in
    let given = c.in_ok-parted.parted.given.items in
    not_asked_so (texts_of c.args.words.now) command rows given c.in_ok-line.ensures.ok c.in_ok-parted.ensures.given
    (subst (λ (ws : List Text). (j : Job) → IsJobOf command ws given j → ⊥) c.in_ok-parted.ensures.plain (c.job_of.ensures.usage is))

pub returns-in_err-parted-clause-usage : goal.returns-in_err-parted-clause-usage
returns-in_err-parted-clause-usage c = λ is.
    let residual = c.from_residual-in_err-parted in
    let answered = err_from_is_err_and residual.result residual.ensures.1 in
    let fault : c.in_err-parted.field-0.0 ≡ Usage = cc (is, answered.1, answered.2) in
    no_numbers (texts_of c.args.words.now) c.in_ok-line.line.command.now (rows_of (found_of c.in_ok-line.line.matches)) c.in_ok-line.ensures.ok
    (c.in_err-parted.ensures.usage (err_is c.in_err-parted.field-0.0 Usage fault))
