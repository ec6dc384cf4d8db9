use Rattle.std.proofs.Common.{refl}
use Rattle.job_answers.specs.Works.{file_work}
use Rattle.file_jobs.specs.Zero.{zero_job}
use Rattle.file_jobs.specs.Listing.{list_job}
use Rattle.file_jobs.specs.Orbits.{orbit_job}
use Rattle.file_jobs.specs.CertJobs.{check_job, residuals_job}
use Rattle.file_jobs.specs.Migrations.{migrate_job}
use Rattle.track_job.specs.CheckJobs.{check_track_job}
use Rattle.baseline_app.proofs.Files.{at_word, job_asked, part_done}
use Rattle.baseline_app.proofs.top.do_job.Goals as goal

pub returns-in-Zero-clause-done : goal.returns-in-Zero-clause-done
returns-in-Zero-clause-done g c =
    let work = file_work g.F.Files c.args.files.now c.answer_file.new.files in
    job_asked work c.answer_file.result _ _ c.in-Zero.is (at_word work c.answer_file.result zero_job _ _ c.as_str.ensures c.answer_file.ensures)

pub returns-in-List-clause-done : goal.returns-in-List-clause-done
returns-in-List-clause-done g c =
    let work = file_work g.F.Files c.args.files.now c.list.new.files in
    job_asked work c.list.result _ _ c.in-List.is (at_word work c.list.result list_job _ _ c.as_str-in-List.ensures c.list.ensures)

pub returns-in-Orbit-clause-done : goal.returns-in-Orbit-clause-done
returns-in-Orbit-clause-done g c =
    let work = file_work g.F.Files c.args.files.now c.answer_file-in-Orbit.new.files in
    job_asked work c.answer_file-in-Orbit.result _ _ c.in-Orbit.is (at_word work c.answer_file-in-Orbit.result (orbit_job c.in-Orbit.system c.in-Orbit.sat c.in-Orbit.tick.0) _ _ c.as_str-in-Orbit.ensures c.answer_file-in-Orbit.ensures)

pub returns-in-Check-clause-done : goal.returns-in-Check-clause-done
returns-in-Check-clause-done g c =
    let work = file_work g.F.Files c.args.files.now c.answer_file-in-Check.new.files in
    job_asked work c.answer_file-in-Check.result _ _ c.in-Check.is (at_word work c.answer_file-in-Check.result check_job _ _ c.as_str-in-Check.ensures c.answer_file-in-Check.ensures)

pub returns-in-Residuals-clause-done : goal.returns-in-Residuals-clause-done
returns-in-Residuals-clause-done g c =
    let work = file_work g.F.Files c.args.files.now c.answer_file-in-Residuals.new.files in
    job_asked work c.answer_file-in-Residuals.result _ _ c.in-Residuals.is (at_word work c.answer_file-in-Residuals.result residuals_job _ _ c.as_str-in-Residuals.ensures c.answer_file-in-Residuals.ensures)

pub returns-in-Migrate-clause-done : goal.returns-in-Migrate-clause-done
returns-in-Migrate-clause-done g c =
    let work = file_work g.F.Files c.args.files.now c.answer_file-in-Migrate.new.files in
    job_asked work c.answer_file-in-Migrate.result _ _ c.in-Migrate.is (at_word work c.answer_file-in-Migrate.result migrate_job _ _ c.as_str-in-Migrate.ensures c.answer_file-in-Migrate.ensures)

pub returns-in-CheckTrack-clause-done : goal.returns-in-CheckTrack-clause-done
returns-in-CheckTrack-clause-done g c =
    let work = file_work g.F.Files c.args.files.now c.answer_file-in-CheckTrack.new.files in
    job_asked work c.answer_file-in-CheckTrack.result _ _ c.in-CheckTrack.is (at_word work c.answer_file-in-CheckTrack.result check_track_job _ _ c.as_str-in-CheckTrack.ensures c.answer_file-in-CheckTrack.ensures)

pub returns-in-Fix-clause-done : goal.returns-in-Fix-clause-done
returns-in-Fix-clause-done g c = job_asked (file_work g.F.Files c.args.files.now c.session_by_words.new.files) c.session_by_words.result _ _ c.in-Fix.is c.session_by_words.ensures

pub returns-in-Track-clause-done : goal.returns-in-Track-clause-done
returns-in-Track-clause-done g c = job_asked (file_work g.F.Files c.args.files.now c.session_by_words-in-Track.new.files) c.session_by_words-in-Track.result _ _ c.in-Track.is c.session_by_words-in-Track.ensures

pub returns-in-Arcs-clause-done : goal.returns-in-Arcs-clause-done
returns-in-Arcs-clause-done g c = job_asked (file_work g.F.Files c.args.files.now c.session_by_words-in-Arcs.new.files) c.session_by_words-in-Arcs.result _ _ c.in-Arcs.is c.session_by_words-in-Arcs.ensures

pub returns-in-Sim-clause-done : goal.returns-in-Sim-clause-done
returns-in-Sim-clause-done g c =
    let work = file_work g.F.Files c.args.files.now c.args.files.now in
    job_asked work c.sim_part.result _ _ c.in-Sim.is
    (part_done work c.sim_part.result c.in-Sim.part c.in-Sim.seed c.in-Sim.epochs c.in-Sim.sats c.in-Sim.bands c.in-Sim.system refl refl c.sim_part.ensures)
