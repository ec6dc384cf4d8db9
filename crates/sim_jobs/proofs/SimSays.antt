-- What the ending of `sim` says, and its status.
use Rattle.std.proofs.Common.{ℕ, sym, subst}
use Rattle.std.specs.Io.KnownBytes.{Appends}
use Rattle.command_words.specs.declared.sims.File.{File}
use Rattle.job_answers.specs.Statuses.{IsVerdictStatus}
use Rattle.job_answers.specs.Endings.{Ending}
use Rattle.job_answers.specs.Delivered.{SinkChange}
use Rattle.job_answers.proofs.EndingLaws.{verdict_at}
use Rattle.sim_jobs.specs.Sims.{SimEnds}
use Rattle.sim_jobs.specs.SimRuns.{SaysOfSim}

pub sim_verdict : (which : File) (seed epochs sats bands system : ℕ) (end : Ending) → SimEnds which seed epochs sats bands system end → IsVerdictStatus end.status
sim_verdict which seed epochs sats bands system end ends = verdict_at end _ ends.end_is tt

-- what is written of an ending is what it says
pub sim_says : (which : File) (seed epochs sats bands system : ℕ) (end : Ending) (out : SinkChange) → SimEnds which seed epochs sats bands system end → Appends out.old out.new end.out →
    SaysOfSim which seed epochs sats bands system end.status out
sim_says which seed epochs sats bands system end out ends written = subst (λ (e : Ending). SaysOfSim which seed epochs sats bands system e.status out) (sym ends.end_is) (record {
  session = ends.session;
  made = ends.made;
  text = ends.text;
  is_file = ends.is_file;
  printed = subst (λ (e : Ending). Appends out.old out.new e.out) ends.end_is written;
})
