use Rattle.std.proofs.Common.{ℕ, List, subst}
use Rattle.job_answers.specs.Works.{file_work, IsDoneOver}
use Rattle.job_answers.specs.SessionJobs.{session_command}
use Rattle.baseline_app.proofs.top.session_by_words.Goals as goal

pub returns : goal.returns
returns g c =
    let files = c.args.files.now in
    let new_files = c.answer_session.new.files in
    let work = file_work g.F.Files files new_files in
    let done = λ (b r v : List ℕ). IsDoneOver work (session_command g.C.SessionCommand.answers b r v c.args.options.now) c.answer_session.result in
    subst (λ (b : List ℕ). done b c.args.rover.now c.args.nav.now) c.as_str.ensures
    (subst (λ (r : List ℕ). done c.as_str.result.now r c.args.nav.now) c.as_str-2.ensures
    (subst (λ (v : List ℕ). done c.as_str.result.now c.as_str-2.result.now v) c.as_str-3.ensures c.answer_session.ensures))
