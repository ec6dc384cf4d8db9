-- What the ending of `sim run` says of the session that it made, and its statuses.
use Rattle.std.proofs.Common.{◌≡◌, ℕ, Bool, true, false, codes, refl, sym, subst}
use Rattle.std.specs.Io.KnownBytes.{Appends}
use Rattle.report_text.specs.OutcomeText.{is_fixed}
use Rattle.job_answers.specs.Statuses.{IsVerdictStatus, verdict_status}
use Rattle.job_answers.specs.Endings.{Ending}
use Rattle.job_answers.specs.Delivered.{SinkChange}
use Rattle.job_answers.proofs.EndingLaws.{verdict_at}
use Rattle.sim_jobs.specs.SimRunJobs.{run_text, SimRunEnds}
use Rattle.sim_jobs.specs.SimRunSays.{HaveOutcome, SaysMatch, SaysOfSimRun}

-- ---- statuses
verdict_of : (fixed : Bool) → IsVerdictStatus (verdict_status fixed)
verdict_of true = tt
verdict_of false = tt

pub sim_run_verdict : (seed epochs sats bands system : ℕ) (end : Ending) → SimRunEnds seed epochs sats bands system end → IsVerdictStatus end.status
sim_run_verdict seed epochs sats bands system end run = verdict_at end _ run.ends.end_is (verdict_of (is_fixed run.ends.outcome.answer))

-- ---- what is said
says_at : (seed epochs sats bands system : ℕ) (end t : Ending) (out : SinkChange) → end ≡ t → SaysOfSimRun seed epochs sats bands system t.status out
    → SaysOfSimRun seed epochs sats bands system end.status out
says_at seed epochs sats bands system end t out same output = subst (λ (e : Ending). SaysOfSimRun seed epochs sats bands system e.status out) (sym same) output

by_verdict : (seed epochs sats bands system : ℕ) (out : SinkChange) (fixed : Bool) → SaysMatch seed epochs sats bands system fixed out
    → SaysOfSimRun seed epochs sats bands system (verdict_status fixed) out
by_verdict seed epochs sats bands system out true output = output
by_verdict seed epochs sats bands system out false output = output

-- what is written of an ending is what it says of the session
pub sim_run_says : (seed epochs sats bands system : ℕ) (end : Ending) (out : SinkChange) → SimRunEnds seed epochs sats bands system end
    → Appends out.old out.new end.out → SaysOfSimRun seed epochs sats bands system end.status out
sim_run_says seed epochs sats bands system end out run written =
    let found = run.ends in
    let answer = found.outcome.answer in
    let printed : Appends out.old out.new (run_text seed epochs sats answer found.matched) = subst (λ (e : Ending). Appends out.old out.new e.out) found.end_is written in
    let have : HaveOutcome run.text_of (codes "base") (codes "rover") (codes "nav") run.options found.outcome =
    record { base_file = run.base_file; rover_file = run.rover_file; records = run.records; are_files = run.are_files; holds = found.holds } in
    says_at seed epochs sats bands system end _ out found.end_is (by_verdict seed epochs sats bands system out (is_fixed answer) (record {
      text_of = run.text_of;
      made = run.made;
      options = run.options;
      options_are = run.options_are;
      outcome = found.outcome;
      have = have;
      fixed_is = refl;
      matched = found.matched;
      matched_is = found.matched_is;
      printed = printed;
    }))
