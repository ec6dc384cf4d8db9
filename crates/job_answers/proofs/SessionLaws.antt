-- What a job on the three files of a session does with them, its statuses, and what it says.
use Rattle.std.proofs.Common.{◌≡◌, ◌≢◌, inl, inr, ℕ, List, [], ◌∷◌, Option, Result, Err, refl, ap, subst}
use Rattle.std.specs.Io.KnownBytes.{Appends}
use Rattle.line_source.specs.Causes.{Rose}
use Rattle.line_source.specs.Openings.{OpensFirst}
use Rattle.line_source.specs.Givens.{GivesFirst}
use Rattle.obs_store.specs.declared.file.ObsFile.{ObsFile}
use Rattle.eph_store.specs.File.{Records}
use Rattle.rinex_head.specs.declared.system.System.{System}
use Rattle.rinex_head.specs.Systems.{system_of}
use Rattle.obs_rows.specs.declared.options.Options.{Options}
use Rattle.job_answers.specs.declared.output.JobOutput.{JobOutput}
use Rattle.job_answers.specs.declared.stop.JobStop.{JobStop}
use Rattle.job_answers.specs.declared.stop.JobStop.TheVariants as stop
use Rattle.job_answers.specs.declared.status.Status.TheVariants.{ReadFault}
use Rattle.job_answers.specs.Statuses.{IsVerdictStatus, IsJobStatus}
use Rattle.job_answers.specs.Answers.{ending_of, IfEnds, IfEnded}
use Rattle.job_answers.specs.Endings.{Ending, EndsByFile}
use Rattle.job_answers.specs.Delivered.{SinkChange}
use Rattle.job_answers.specs.Works.{FileWork, AreAllRead, IsRefusalAmong, IsFaultOf, EndsOver, IsDoneOver}
use Rattle.job_answers.proofs.EndingLaws.{ended_weaker, job_status_at}
use Rattle.job_answers.proofs.WorkLaws.{verdict_over}
use Rattle.job_answers.proofs.TextLaws.{job_of_verdict}
use Rattle.job_answers.specs.SessionFiles.{AreFilesOf, StopsAtObs, StopsAtFiles}
use Rattle.job_answers.specs.Refusals.{pair_line}
use Rattle.job_answers.specs.SessionJobs.{SessionAnswers, EndsOnFiles, SessionEnds, AreAdmitted, SaysOfSession, session_command}
use Rattle.job_answers.proofs.FileLaws.{files_status, no_stop}
use Rattle.job_answers.proofs.RefusalLaws.{never_refused}

-- ---- files of which a session is made, or that are refused together
files_over : (work : FileWork) (base rover nav : List ℕ) (answers : SessionAnswers) (o : Options) (b r : ObsFile) (n : Records) (end : Ending)
    → AreAllRead work (base ∷ rover ∷ nav ∷ []) → AreFilesOf (system_of o.system) work.text_of base rover nav b r n → EndsOnFiles answers o b r n end
    → EndsOver work (session_command answers base rover nav o) end
files_over work base rover nav answers o b r n end read are (inl answered) =
    verdict_over work (session_command answers base rover nav o) end read answered.verdict
    (inl (record { base_file = b; rover_file = r; records = n; are = are; ends_so = inl answered }))
files_over work base rover nav answers o b r n end read are (inr refused) =
    let status_is = ap (λ (e : Ending). e.status) refused.end_is in
    record {
      ends_so = inl (record { base_file = b; rover_file = r; records = n; are = are; ends_so = inr refused });
      answered = λ is. read;
      refused = λ is. inr (record { line = pair_line refused.what; is = (refused.what, refl); end_is = refused.end_is; read = read });
      fault = λ fault. absurd (cc (status_is, fault));
      named = λ fault. absurd (cc (status_is, fault));
    }

pub files_done : (work : FileWork) (base rover nav : List ℕ) (answers : SessionAnswers) (o : Options) (b r : ObsFile) (n : Records) (result : Result JobOutput JobStop)
    → OpensFirst (base ∷ rover ∷ nav ∷ []) work.openings work.left.openings → GivesFirst (base ∷ rover ∷ nav ∷ []) work.given work.left.given → AreAllRead work (base ∷ rover ∷ nav ∷ []) → AreFilesOf (system_of o.system) work.text_of base rover nav b r n
    → IfEnded result (EndsOnFiles answers o b r n) → IsDoneOver work (session_command answers base rover nav o) result
files_done work base rover nav answers o b r n result opens gives read are ends = record {
  opened = opens;
  given = gives;
  ended = ended_weaker result (EndsOnFiles answers o b r n) (EndsOver work (session_command answers base rover nav o))
      (λ end so. files_over work base rover nav answers o b r n end read are so) ends;
}

-- ---- a file at which it stops
no_verdict : {name : List ℕ} {text_of : List ℕ → Option (List ℕ)} {ends : List ℕ → Ending → Type 0} (end : Ending)
    → ((text : List ℕ) → ends text end → IsVerdictStatus end.status → ⊥) → EndsByFile text_of name ends end → IsVerdictStatus end.status → ⊥
no_verdict end by_text (inl text) verdict = by_text text.text text.ends_so verdict
no_verdict end by_text (inr (inl large)) verdict = subst IsVerdictStatus (ap (λ (e : Ending). e.status) large.end_is) verdict
no_verdict end by_text (inr (inr fault)) verdict = subst IsVerdictStatus (ap (λ (e : Ending). e.status) fault) verdict

pub stop_no_verdict : (system : System) (text_of : List ℕ → Option (List ℕ)) (name : List ℕ) (end : Ending) → StopsAtObs system text_of name end → IsVerdictStatus end.status → ⊥
stop_no_verdict system text_of name end stops = no_verdict end (λ text refusal. subst IsVerdictStatus (ap (λ (e : Ending). e.status) refusal.end_is)) stops

stops_no_verdict : (o : Options) (text_of : List ℕ → Option (List ℕ)) (base rover nav : List ℕ) (end : Ending) → StopsAtFiles (system_of o.system) text_of base rover nav end → IsVerdictStatus end.status → ⊥
stops_no_verdict o text_of base rover nav end (inl stops) = stop_no_verdict (system_of o.system) text_of base end stops
stops_no_verdict o text_of base rover nav end (inr (inl stops)) = stop_no_verdict (system_of o.system) text_of rover end stops.stops
stops_no_verdict o text_of base rover nav end (inr (inr stops)) = no_verdict end (λ text refusal. subst IsVerdictStatus (ap (λ (e : Ending). e.status) refusal.end_is)) stops.stops

pub files_stop : (work : FileWork) (base rover nav : List ℕ) (answers : SessionAnswers) (o : Options) (why : JobStop) → OpensFirst (base ∷ rover ∷ nav ∷ []) work.openings work.left.openings
    → GivesFirst (base ∷ rover ∷ nav ∷ []) work.given work.left.given
    → IfEnds why (StopsAtFiles (system_of o.system) work.text_of base rover nav) → IfEnds why (IsRefusalAmong work (base ∷ rover ∷ nav ∷ []))
    → IfEnds why (λ end. end.status ≡ ReadFault → Rose work.faults work.faults_now) → IfEnds why (IsFaultOf work (base ∷ rover ∷ nav ∷ []))
    → IsDoneOver work (session_command answers base rover nav o) (Err why)
files_stop work base rover nav answers o (stop.Ended a) opens gives stops refused rose named = record {
  opened = opens;
  given = gives;
  ended = record {
    ends_so = inr stops;
    answered = λ verdict. absurd (stops_no_verdict o work.text_of base rover nav (ending_of a) stops verdict);
    refused = λ is. inl (refused is);
    fault = rose;
    named = named;
  };
}
files_stop work base rover nav answers o stop.NoMemory opens gives stops refused rose named = record { opened = opens; given = gives; ended = tt }

-- ---- statuses
pub session_status : (answers : SessionAnswers) (text_of : List ℕ → Option (List ℕ)) (base rover nav : List ℕ) (o : Options) (end : Ending)
    → SessionEnds answers text_of base rover nav o end → IsJobStatus end.status
session_status answers text_of base rover nav o end (inl session) = elim (session.ends_so) [
  | inl answered ↦ job_of_verdict end.status answered.verdict
  | inr refused ↦ job_status_at end _ refused.end_is tt
]
session_status answers text_of base rover nav o end (inr stops) = files_status (system_of o.system) text_of base rover nav end stops

pub session_verdict : (answers : SessionAnswers) (text_of : List ℕ → Option (List ℕ)) (base rover nav : List ℕ) (o : Options) (end : Ending) → AreAdmitted text_of base rover nav o
    → end.status ≢ ReadFault → SessionEnds answers text_of base rover nav o end → IsVerdictStatus end.status
session_verdict answers text_of base rover nav o end admitted no_fault (inl session) = elim (session.ends_so) [
  | inl answered ↦ answered.verdict
  | inr refused ↦ absurd (never_refused text_of base rover nav o session.base_file session.rover_file session.records end admitted session.are refused)
]
session_verdict answers text_of base rover nav o end admitted no_fault (inr stops) =
    absurd (no_stop (system_of o.system) text_of base rover nav end admitted.base_is admitted.rover_is admitted.nav_is no_fault stops)

-- ---- what is said
pub session_says : (answers : SessionAnswers) (text_of : List ℕ → Option (List ℕ)) (base rover nav : List ℕ) (o : Options) (end : Ending) (out : SinkChange)
    → SessionEnds answers text_of base rover nav o end → IsVerdictStatus end.status → Appends out.old out.new end.out → SaysOfSession answers text_of base rover nav o end.status out
session_says answers text_of base rover nav o end out (inl session) verdict written = elim (session.ends_so) [
  | inl answered ↦ record {
    base_file = session.base_file;
    rover_file = session.rover_file;
    records = session.records;
    are_files = session.are;
    end = end;
    answer = answered.answer;
    status_is = refl;
    printed = written;
  }
  | inr refused ↦ absurd (subst IsVerdictStatus (ap (λ (e : Ending). e.status) refused.end_is) verdict)
]
session_says answers text_of base rover nav o end out (inr stops) verdict written = absurd (stops_no_verdict o text_of base rover nav end stops verdict)
