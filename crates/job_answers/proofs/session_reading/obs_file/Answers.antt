use Rattle.std.proofs.Common.{inr}
use Rattle.std.proofs.lemmas.Result.{err_from_is_err_and}
use Rattle.job_answers.specs.Endings.{EndsUnloaded}
use Rattle.job_answers.proofs.EndingLaws.{ends_weaker}
use Rattle.job_answers.specs.SessionFiles.{StopsAtObs}
use Rattle.job_answers.proofs.TakerLaws.{galileo_answers}
use Rattle.job_answers.proofs.FileLaws.{answer_as, taken_is, taken_stops, taken_refused}
use Rattle.job_answers.proofs.session_reading.obs_file.Goals as goal

pub returns-in_ok-take_file-in-Gps-clause-read : goal.returns-in_ok-take_file-in-Gps-clause-read
returns-in_ok-take_file-in-Gps-clause-read g c =
    let answer = c.finish.result in
    taken_is c.args.system (g.F.Files.text_of c.args.files.now) c.args.name.now _ _ _ _ answer c.file_of.result c.in_ok-take_file-in-Gps.ensures.taken
    (λ text stands. answer_as _ _ text answer c.in-Gps.is (c.finish.ensures.answers text stands)) c.file_of.ensures.file

pub returns-in_ok-take_file-in-Gps-clause-stopped : goal.returns-in_ok-take_file-in-Gps-clause-stopped
returns-in_ok-take_file-in-Gps-clause-stopped g c = λ known from.
    let answer = c.finish.result in
    taken_stops c.args.system known (g.F.Files.text_of c.args.files.now) c.args.name.now _ _ _ _ answer c.file_of.result from c.in_ok-take_file-in-Gps.ensures.taken
    (λ text stands. answer_as _ _ text answer c.in-Gps.is (c.finish.ensures.answers text stands)) c.file_of.ensures.stopped

pub returns-in_ok-take_file-in-Gps-clause-refused : goal.returns-in_ok-take_file-in-Gps-clause-refused
returns-in_ok-take_file-in-Gps-clause-refused g c =
    let answer = c.finish.result in
    taken_refused c.args.system (g.F.Files.text_of c.args.files.now) _ _ c.args.name.now _ _ _ _ answer c.file_of.result c.in_ok-take_file-in-Gps.ensures.taken c.in_ok-take_file-in-Gps.ensures.reads.whole
    (λ text stands. answer_as _ _ text answer c.in-Gps.is (c.finish.ensures.answers text stands)) c.file_of.ensures.stopped

pub returns-in_ok-take_file-in-Galileo-clause-read : goal.returns-in_ok-take_file-in-Galileo-clause-read
returns-in_ok-take_file-in-Galileo-clause-read g c =
    let answer = c.finish-in-Galileo.result in
    taken_is c.args.system (g.F.Files.text_of c.args.files.now) c.args.name.now _ _ _ _ answer c.file_of-in-Galileo.result c.in_ok-take_file-in-Galileo.ensures.taken
    (λ text stands. answer_as _ _ text answer c.in-Galileo.is (galileo_answers text answer (c.finish-in-Galileo.ensures.answers text stands))) c.file_of-in-Galileo.ensures.file

pub returns-in_ok-take_file-in-Galileo-clause-stopped : goal.returns-in_ok-take_file-in-Galileo-clause-stopped
returns-in_ok-take_file-in-Galileo-clause-stopped g c = λ known from.
    let answer = c.finish-in-Galileo.result in
    taken_stops c.args.system known (g.F.Files.text_of c.args.files.now) c.args.name.now _ _ _ _ answer c.file_of-in-Galileo.result from c.in_ok-take_file-in-Galileo.ensures.taken
    (λ text stands. answer_as _ _ text answer c.in-Galileo.is (galileo_answers text answer (c.finish-in-Galileo.ensures.answers text stands))) c.file_of-in-Galileo.ensures.stopped

pub returns-in_ok-take_file-in-Galileo-clause-refused : goal.returns-in_ok-take_file-in-Galileo-clause-refused
returns-in_ok-take_file-in-Galileo-clause-refused g c =
    let answer = c.finish-in-Galileo.result in
    taken_refused c.args.system (g.F.Files.text_of c.args.files.now) _ _ c.args.name.now _ _ _ _ answer c.file_of-in-Galileo.result
    c.in_ok-take_file-in-Galileo.ensures.taken c.in_ok-take_file-in-Galileo.ensures.reads.whole
    (λ text stands. answer_as _ _ text answer c.in-Galileo.is (galileo_answers text answer (c.finish-in-Galileo.ensures.answers text stands))) c.file_of-in-Galileo.ensures.stopped

pub returns-in_err-take_file-in-Gps-clause-stopped : goal.returns-in_err-take_file-in-Gps-clause-stopped
returns-in_err-take_file-in-Gps-clause-stopped g c = λ known from.
    let answered = err_from_is_err_and c.from_residual.result c.from_residual.ensures.1 in
    rw (answered.1, answered.2)
    (ends_weaker c.in_err-take_file-in-Gps.field-0.0 (EndsUnloaded known c.args.name.now) (StopsAtObs c.args.system known c.args.name.now) (λ end unloaded. inr unloaded)
    (c.in_err-take_file-in-Gps.ensures.stopped known from))

pub returns-in_err-take_file-in-Galileo-clause-stopped : goal.returns-in_err-take_file-in-Galileo-clause-stopped
returns-in_err-take_file-in-Galileo-clause-stopped g c = λ known from.
    let answered = err_from_is_err_and c.from_residual-in_err-take_file-in-Galileo.result c.from_residual-in_err-take_file-in-Galileo.ensures.1 in
    rw (answered.1, answered.2)
    (ends_weaker c.in_err-take_file-in-Galileo.field-0.0 (EndsUnloaded known c.args.name.now) (StopsAtObs c.args.system known c.args.name.now) (λ end unloaded. inr unloaded)
    (c.in_err-take_file-in-Galileo.ensures.stopped known from))
