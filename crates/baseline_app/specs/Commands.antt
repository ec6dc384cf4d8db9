-- The command of each job, a line for each: on one file, on the three files of a session, or on a simulated session.
use Rattle.std.specs.Prelude.{ℕ, []}
use Rattle.job_answers.specs.declared.status.Status.{Status}
use Rattle.job_answers.specs.Endings.{Ending}
use Rattle.job_answers.specs.Delivered.{SinkChange}
use Rattle.job_answers.specs.Commands.{Command}
use Rattle.job_answers.specs.TextJobs.{text_command}
use Rattle.job_answers.specs.SessionJobs.{session_command}
use Rattle.command_words.specs.declared.jobs.Job.{Job}
use Rattle.command_words.specs.declared.jobs.Job.TheVariants as job
use Rattle.command_words.specs.declared.sims.Part.{Part}
use Rattle.command_words.specs.declared.sims.Part.TheVariants as part
use Rattle.file_jobs.specs.Zero.{zero_job}
use Rattle.file_jobs.specs.Listing.{list_job}
use Rattle.file_jobs.specs.Orbits.{orbit_job}
use Rattle.file_jobs.specs.CertJobs.{check_job, residuals_job}
use Rattle.file_jobs.specs.Migrations.{migrate_job}
use Rattle.session_jobs.specs.ArcJobs.{AnswersArcs}
use Rattle.session_jobs.specs.FixJobs.{AnswersFix}
use Rattle.track_job.specs.TrackJobs.{AnswersTrack}
use Rattle.track_job.specs.CheckJobs.{check_track_job}
use Rattle.sim_jobs.specs.Sims.{SimEnds}
use Rattle.sim_jobs.specs.SimRuns.{SaysOfSim}
use Rattle.sim_jobs.specs.SimRunJobs.{SimRunEnds}
use Rattle.sim_jobs.specs.SimRunSays.{SaysOfSimRun}

-- of a simulated session one of its files, or what the three are found to say
abbrev pub PartEnds : Part → ℕ → ℕ → ℕ → ℕ → ℕ → Ending → Type 0
PartEnds (part.File file) seed epochs sats bands system end = SimEnds file seed epochs sats bands system end
PartEnds part.Run seed epochs sats bands system end = SimRunEnds seed epochs sats bands system end

abbrev pub SaysOfPart : Part → ℕ → ℕ → ℕ → ℕ → ℕ → Status → SinkChange → Type 0
SaysOfPart (part.File file) seed epochs sats bands system status out = SaysOfSim file seed epochs sats bands system status out
SaysOfPart part.Run seed epochs sats bands system status out = SaysOfSimRun seed epochs sats bands system status out

-- a command without files, which makes a session of its own
abbrev pub sim_command : Part → ℕ → ℕ → ℕ → ℕ → ℕ → Command
sim_command part seed epochs sats bands system = record {
  file_words = [];
  Ends = λ text_of. PartEnds part seed epochs sats bands system;
  IsLine = λ line. ⊥;
  IsReadable = λ text_of. Unit {0};
  Says = λ text_of. SaysOfPart part seed epochs sats bands system;
}

-- the command of each job
abbrev pub command_of : Job → Command
command_of (job.Fix base rover nav options) = session_command AnswersFix base rover nav options
command_of (job.Track base rover nav options) = session_command AnswersTrack base rover nav options
command_of (job.Arcs base rover nav options) = session_command AnswersArcs base rover nav options
command_of (job.Check cert) = text_command check_job cert
command_of (job.CheckTrack cert) = text_command check_track_job cert
command_of (job.Residuals cert) = text_command residuals_job cert
command_of (job.Migrate cert) = text_command migrate_job cert
command_of (job.Zero rows) = text_command zero_job rows
command_of (job.List obs) = text_command list_job obs
command_of (job.Orbit nav system sat tick) = text_command (orbit_job system sat tick.0) nav
command_of (job.Sim part seed epochs sats bands system) = sim_command part seed epochs sats bands system
