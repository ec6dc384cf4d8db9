-- That each command is lawful.
use Rattle.std.proofs.Common.{ℕ}
use Rattle.std.specs.Io.KnownBytes.{Appends}
use Rattle.job_answers.specs.Statuses.{IsVerdictStatus}
use Rattle.job_answers.specs.Endings.{Ending}
use Rattle.job_answers.specs.Delivered.{SinkChange}
use Rattle.job_answers.proofs.TextLaws.{job_of_verdict}
use Rattle.job_answers.proofs.CommandLaws.{IsLawful, text_lawful, session_lawful}
use Rattle.command_words.specs.declared.jobs.Job.{Job}
use Rattle.command_words.specs.declared.jobs.Job.TheVariants as job
use Rattle.command_words.specs.declared.sims.Part.{Part}
use Rattle.command_words.specs.declared.sims.Part.TheVariants as part
use Rattle.file_jobs.specs.Zero.{zero_job}
use Rattle.file_jobs.specs.Listing.{list_job}
use Rattle.file_jobs.specs.Orbits.{orbit_job}
use Rattle.file_jobs.specs.CertJobs.{check_job, residuals_job}
use Rattle.file_jobs.specs.Migrations.{migrate_job}
use Rattle.session_jobs.specs.ArcJobs.{AnswersArcs}
use Rattle.session_jobs.specs.FixJobs.{AnswersFix}
use Rattle.track_job.specs.TrackJobs.{AnswersTrack}
use Rattle.track_job.specs.CheckJobs.{check_track_job}
use Rattle.sim_jobs.proofs.SimSays.{sim_verdict, sim_says}
use Rattle.sim_jobs.proofs.RunSays.{sim_run_verdict, sim_run_says}
use Rattle.baseline_app.specs.Commands.{PartEnds, SaysOfPart, sim_command, command_of}

-- the parts of a simulated session
pub part_verdict : (p : Part) (seed epochs sats bands system : ℕ) (end : Ending) → PartEnds p seed epochs sats bands system end → IsVerdictStatus end.status
part_verdict (part.File file) seed epochs sats bands system end ends = sim_verdict file seed epochs sats bands system end ends
part_verdict part.Run seed epochs sats bands system end ends = sim_run_verdict seed epochs sats bands system end ends

part_says : (p : Part) (seed epochs sats bands system : ℕ) (end : Ending) (out : SinkChange) → PartEnds p seed epochs sats bands system end
    → Appends out.old out.new end.out → SaysOfPart p seed epochs sats bands system end.status out
part_says (part.File file) seed epochs sats bands system end out ends written = sim_says file seed epochs sats bands system end out ends written
part_says part.Run seed epochs sats bands system end out ends written = sim_run_says seed epochs sats bands system end out ends written

sim_lawful : (part : Part) (seed epochs sats bands system : ℕ) → IsLawful (sim_command part seed epochs sats bands system)
sim_lawful part seed epochs sats bands system = record {
  status = λ text_of end ends. job_of_verdict end.status (part_verdict part seed epochs sats bands system end ends);
  verdict = λ text_of end readable no_fault ends. part_verdict part seed epochs sats bands system end ends;
  says = λ text_of end out ends verdict written. part_says part seed epochs sats bands system end out ends written;
}

-- a line for each command
pub lawful : (job : Job) → IsLawful (command_of job)
lawful (job.Fix base rover nav options) = session_lawful AnswersFix base rover nav options
lawful (job.Track base rover nav options) = session_lawful AnswersTrack base rover nav options
lawful (job.Arcs base rover nav options) = session_lawful AnswersArcs base rover nav options
lawful (job.Check cert) = text_lawful check_job cert
lawful (job.CheckTrack cert) = text_lawful check_track_job cert
lawful (job.Residuals cert) = text_lawful residuals_job cert
lawful (job.Migrate cert) = text_lawful migrate_job cert
lawful (job.Zero rows) = text_lawful zero_job rows
lawful (job.List obs) = text_lawful list_job obs
lawful (job.Orbit nav system sat tick) = text_lawful (orbit_job system sat tick.0) nav
lawful (job.Sim part seed epochs sats bands system) = sim_lawful part seed epochs sats bands system
