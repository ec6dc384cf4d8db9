-- What the outcome of the made files ends with.
use Rattle.std.proofs.Common.{◌≡◌, ◌≢◌, inl, inr, ℕ, List, Option, Bool, true, false, codes, sym, ap, ◌∙◌, subst}
use Rattle.obs_store.specs.declared.file.ObsFile.{ObsFile}
use Rattle.eph_store.specs.File.{Records}
use Rattle.obs_rows.specs.declared.options.Options.{Options}
use Rattle.rinex_head.specs.Systems.{system_of}
use Rattle.rinex_head.specs.declared.system.System.{System}
use Rattle.report_text.specs.OutcomeText.{is_fixed}
use Rattle.job_answers.specs.declared.status.Status.TheVariants.{Refused, ReadFault}
use Rattle.job_answers.specs.declared.stop.JobStop.{JobStop}
use Rattle.job_answers.specs.declared.stop.JobStop.TheVariants.{Ended, NoMemory}
use Rattle.job_answers.specs.Answers.{ending_of, IfEnds}
use Rattle.job_answers.specs.Endings.{Ending}
use Rattle.job_answers.specs.Statuses.{verdict_status}
use Rattle.job_answers.specs.SessionFiles.{AreFilesOf, StopsAtFiles}
use Rattle.job_answers.proofs.FileLaws.{no_stop}
use Rattle.job_answers.specs.SessionJobs.{AreAdmitted}
use Rattle.job_answers.proofs.RefusalLaws.{never_refused}
use Rattle.sim_jobs.specs.SimRunJobs.{AreMadeFiles, AreOptionsOn, SimRunEnd, SimRunEnds}

no_read_fault : (fixed : Bool) → verdict_status fixed ≢ ReadFault
no_read_fault true e = absurd (cc e)
no_read_fault false e = absurd (cc e)

-- an outcome is no read fault, and neither is a refusal
pub end_no_fault : (o : Options) (seed epochs sats bands : ℕ) (b r : ObsFile) (n : Records) (end : Ending) → SimRunEnd o seed epochs sats bands b r n end → end.status ≢ ReadFault
end_no_fault o seed epochs sats bands b r n end (inl found) is = no_read_fault (is_fixed found.outcome.answer) (sym (ap (λ (e : Ending). e.status) found.end_is) ∙ is)
end_no_fault o seed epochs sats bands b r n end (inr refused) is = let status_is : end.status ≡ Refused = ap (λ (e : Ending). e.status) refused.end_is in absurd (cc (status_is, is))

pub ends_found : (seed epochs sats bands system : ℕ) (text_of : List ℕ → Option (List ℕ)) (o : Options) (of : System) (b r : ObsFile) (n : Records) (end : Ending)
    → AreMadeFiles seed epochs sats bands system text_of → AreOptionsOn bands system o → AreAdmitted text_of (codes "base") (codes "rover") (codes "nav") o → of ≡ system_of o.system
    → AreFilesOf of text_of (codes "base") (codes "rover") (codes "nav") b r n → SimRunEnd o seed epochs sats bands b r n end → SimRunEnds seed epochs sats bands system end
ends_found seed epochs sats bands system text_of o of b r n end made on admitted same are (inl found) = record {
  text_of = text_of;
  made = made;
  options = o;
  options_are = on;
  base_file = b;
  rover_file = r;
  records = n;
  are_files = subst (λ (s : System). AreFilesOf s text_of (codes "base") (codes "rover") (codes "nav") b r n) same are;
  ends = found;
}
ends_found seed epochs sats bands system text_of o of b r n end made on admitted same are (inr refused) =
    let files = subst (λ (s : System). AreFilesOf s text_of (codes "base") (codes "rover") (codes "nav") b r n) same are in
    absurd (never_refused text_of (codes "base") (codes "rover") (codes "nav") o b r n end admitted files refused)

-- the reading of files that are admitted, none of which fails, doesn't stop
pub never_stops : (system : System) (text_of : List ℕ → Option (List ℕ)) (base rover nav : List ℕ) (o : Options) (stop : JobStop) (P : Ending → Type 0)
    → system ≡ system_of o.system → AreAdmitted text_of base rover nav o
    → IfEnds stop (λ end. StopsAtFiles system text_of base rover nav end) → IfEnds stop (λ end. end.status ≢ ReadFault) → IfEnds stop P
never_stops system text_of base rover nav o (Ended answer) P same admitted stops no_fault =
    absurd (no_stop (system_of o.system) text_of base rover nav (ending_of answer) admitted.base_is admitted.rover_is admitted.nav_is no_fault
    (subst (λ (s : System). StopsAtFiles s text_of base rover nav (ending_of answer)) same stops))
never_stops system text_of base rover nav o NoMemory P same admitted stops no_fault = tt
