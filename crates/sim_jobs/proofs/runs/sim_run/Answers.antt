use Rattle.std.proofs.lemmas.Result.{err_from_is_err_and}
use Rattle.job_answers.proofs.EndingLaws.{ended_weaker}
use Rattle.sim_jobs.specs.SimRunJobs.{AreMadeFiles}
use Rattle.sim_jobs.proofs.MadeFiles.{still_fits, made_admitted}
use Rattle.sim_jobs.proofs.RunEnds.{end_no_fault, ends_found, never_stops}
use Rattle.sim_jobs.proofs.runs.sim_run.Goals as goal

pub returns-clause-ends : goal.returns-clause-ends
returns-clause-ends c =
    let args = c.args in
    let session = c.in_ok-base.ensures in
    let options_are_on = c.options_on-options.ensures.are in
    let options = c.options_on-options.result in
    let files = c.in_ok-files.ensures in
    let made : AreMadeFiles args.seed args.epochs args.sats args.bands args.system _ = record {
      session = c.in_ok-base.field-0;
      made = record { base = session.base; rover = session.rover; nav = session.nav; truth = session.truth; offset = session.offset };
      base_told = files.base;
      rover_told = files.rover;
      nav_told = files.nav;
    } in
    let admitted = made_admitted args.seed args.epochs args.sats args.bands args.system _ _ _ _ options c.requires.epochs c.requires.sats c.requires.bands c.requires.system c.requires.bands_of_galileo options_are_on
    files.base files.rover files.nav session.base session.rover session.nav (still_fits _ _ c.in_ok-base.field-0.base.ok.0 session.base_size)
    (still_fits _ _ c.in_ok-base.field-0.rover.ok.0 session.rover_size) (still_fits _ _ c.in_ok-base.field-0.nav.ok.0 session.nav_size) in
    ended_weaker c.answer_files.result _ _ (λ end ends. ends_found args.seed args.epochs args.sats args.bands args.system _ options _ _ _ _ end made options_are_on admitted
    c.of_letter-system.ensures c.in_ok-read.ensures.read ends) c.answer_files.ensures

pub returns-clause-no_fault : goal.returns-clause-no_fault
returns-clause-no_fault c = ended_weaker c.answer_files.result _ _ (λ end ends. end_no_fault _ _ _ _ _ _ _ _ end ends) c.answer_files.ensures

pub returns-in_err-read-clause-ends : goal.returns-in_err-read-clause-ends
returns-in_err-read-clause-ends c =
    let args = c.args in
    let session = c.in_ok-base.ensures in
    let options_are_on = c.options_on-options.ensures.are in
    let options = c.options_on-options.result in
    let files = c.in_ok-files.ensures in
    let admitted = made_admitted args.seed args.epochs args.sats args.bands args.system _ _ _ _ options c.requires.epochs c.requires.sats c.requires.bands c.requires.system c.requires.bands_of_galileo options_are_on
    files.base files.rover files.nav session.base session.rover session.nav (still_fits _ _ c.in_ok-base.field-0.base.ok.0 session.base_size)
    (still_fits _ _ c.in_ok-base.field-0.rover.ok.0 session.rover_size) (still_fits _ _ c.in_ok-base.field-0.nav.ok.0 session.nav_size) in
    let answered = err_from_is_err_and c.from_residual-in_err-read.result c.from_residual-in_err-read.ensures.1 in
    rw (answered.1, answered.2)
    (never_stops _ _ _ _ _ options c.in_err-read.field-0.0 _ c.of_letter-system.ensures admitted c.in_err-read.ensures.stopped (c.in_err-read.ensures.sure (λ k name inside. files.sure name)))

pub returns-in_err-read-clause-no_fault : goal.returns-in_err-read-clause-no_fault
returns-in_err-read-clause-no_fault c =
    let answered = err_from_is_err_and c.from_residual-in_err-read.result c.from_residual-in_err-read.ensures.1 in
    let sure = c.in_ok-files.ensures.sure in
    rw (answered.1, answered.2) (c.in_err-read.ensures.sure (λ k name inside. sure name))
