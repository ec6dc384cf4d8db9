use Rattle.std.proofs.Common.{inl, inr, List, ℕ, IfOk, subst}
use Rattle.line_source.specs.Lines.{lines_of}
use Rattle.rinex_nav.specs.NavForm.{IsNavFile, HasNavFile}
use Rattle.rinex_nav.specs.NavRules.{nav_of}
use Rattle.job_answers.specs.Answers.{IfStopped}
use Rattle.job_answers.specs.Endings.{EndsUnloaded, IsRefusal}
use Rattle.std.proofs.lemmas.Result.{err_from_is_err_and}
use Rattle.job_answers.specs.SessionFiles.{StopsAtNav}
use Rattle.job_answers.proofs.FileLaws.{nav_is, nav_stops}
use Rattle.job_answers.proofs.EndingLaws.{ends_weaker, stopped_weaker, refusal_whole}
use Rattle.job_answers.proofs.session_reading.nav_file.Goals as goal

pub returns-clause-refused : goal.returns-clause-refused
returns-clause-refused g c =
    stopped_weaker c.nav_in.result _ _ (λ end refusal. refusal_whole _ _ _ c.args.name.now c.in_ok-text.text.items end c.in_ok-text.ensures.reads.whole c.in_ok-text.ensures.given refusal)
    (subst (λ (text : List ℕ). IfStopped c.nav_in.result (λ end. IsRefusal (nav_of c.args.system) (HasNavFile c.args.system) c.args.name.now text end)) c.deref.ensures.value c.nav_in.ensures.stopped)

pub returns-clause-read : goal.returns-clause-read
returns-clause-read g c =
    nav_is c.args.system (g.F.Files.text_of c.args.files.now) c.args.name.now c.in_ok-text.text.items _ _ c.nav_in.result (c.in_ok-text.ensures.text _ (λ name bytes is. inl is)) c.in_ok-text.ensures.given
    (subst (λ (text : List ℕ). IfOk c.nav_in.result (λ file. IsNavFile c.args.system (lines_of text) file.all)) c.deref.ensures.value c.nav_in.ensures.file) c.nav_in.ensures.fit

pub returns-clause-stopped : goal.returns-clause-stopped
returns-clause-stopped g c = λ known from.
    nav_stops c.args.system known c.args.name.now c.in_ok-text.text.items c.nav_in.result (c.in_ok-text.ensures.text known from)
    (subst (λ (text : List ℕ). IfStopped c.nav_in.result (λ end. IsRefusal (nav_of c.args.system) (HasNavFile c.args.system) c.args.name.now text end)) c.deref.ensures.value c.nav_in.ensures.stopped)

pub returns-in_err-text-clause-stopped : goal.returns-in_err-text-clause-stopped
returns-in_err-text-clause-stopped g c = λ known from.
    let answered = err_from_is_err_and c.from_residual.result c.from_residual.ensures.1 in
    rw (answered.1, answered.2)
    (ends_weaker c.in_err-text.field-0.0 (EndsUnloaded known c.args.name.now) (StopsAtNav c.args.system known c.args.name.now) (λ end unloaded. inr unloaded)
    (c.in_err-text.ensures.stopped known from))
