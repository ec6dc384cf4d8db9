-- How `list` ends.
use Rattle.std.proofs.Common.{◌≡◌, ◌≢◌, inl, inr, ℕ, List, [], ◌∷◌, Option, Err}
use Rattle.line_source.specs.Causes.{Rose}
use Rattle.line_source.specs.Openings.{OpensFirst}
use Rattle.line_source.specs.Givens.{GivesFirst}
use Rattle.obs_store.specs.declared.file.ObsFile.{ObsFile}
use Rattle.rinex_head.specs.declared.system.System.TheVariants.{Gps}
use Rattle.report_text.specs.List.{list_text}
use Rattle.job_answers.specs.declared.stop.JobStop.{JobStop}
use Rattle.job_answers.specs.declared.stop.JobStop.TheVariants as stop
use Rattle.job_answers.specs.declared.status.Status.TheVariants.{Done, ReadFault}
use Rattle.job_answers.specs.Answers.{ending_of, IfEnds}
use Rattle.job_answers.specs.Endings.{Ending, ending, IsRefusalOf}
use Rattle.job_answers.specs.Works.{FileWork, IsDoneOver}
use Rattle.job_answers.specs.TextJobs.{EndsOnText, TextEnds, text_command}
use Rattle.job_answers.proofs.EndingLaws.{verdict_at}
use Rattle.job_answers.proofs.WorkLaws.{only_refused, only_fault}
use Rattle.job_answers.specs.SessionFiles.{IsObsOf, StopsAtObs}
use Rattle.job_answers.proofs.FaultLaws.{obs_fault_line}
use Rattle.job_answers.proofs.SessionLaws.{stop_no_verdict}
use Rattle.file_jobs.specs.Listing.{list_job}

-- a file that was read is listed
pub listed : (text : List ℕ) (name : List ℕ) (file : ObsFile) (text_of : List ℕ → Option (List ℕ)) (end : Ending) → (is : IsObsOf Gps text_of name file)
    → end ≡ ending Done (list_text file) [] → EndsOnText list_job name is.text end
listed text name file text_of end is end_is = inl (record { verdict = verdict_at end _ end_is tt; answer = record { file = file; is = is.is_file; end_is = end_is } })

-- a file that isn't
stops : (text_of : List ℕ → Option (List ℕ)) (name : List ℕ) (end : Ending) → StopsAtObs Gps text_of name end → TextEnds list_job text_of name end
stops text_of name end (inl by_text) =
    let reason = by_text.ends_so in
    inl (record {
      text = by_text.text;
      is = by_text.is;
      ends_so = inr (record { at = reason.at; refused = record { none = reason.none; place = record { first = reason.first; gives_is = reason.gives_is } }; end_is = reason.end_is });
    })
stops text_of name end (inr unloaded) = inr unloaded

pub list_stop : (work : FileWork) (name : List ℕ) (why : JobStop) → OpensFirst (name ∷ []) work.openings work.left.openings → GivesFirst (name ∷ []) work.given work.left.given → IfEnds why (StopsAtObs Gps work.text_of name)
    → IfEnds why (IsRefusalOf work.told work.given work.left name) → IfEnds why (λ end. end.status ≡ ReadFault → Rose work.faults work.faults_now)
    → (work.sure name → IfEnds why (λ end. end.status ≢ ReadFault)) → IsDoneOver work (text_command list_job name) (Err why)
list_stop work name (stop.Ended a) opens gives stopped refused rose never = record {
  opened = opens;
  given = gives;
  ended = record {
    ends_so = stops work.text_of name (ending_of a) stopped;
    answered = λ verdict. absurd (stop_no_verdict Gps work.text_of name (ending_of a) stopped verdict);
    refused = λ is. inl (only_refused work name (ending_of a) (refused is));
    fault = rose;
    named = only_fault work name (ending_of a) opens (obs_fault_line Gps work.text_of name (ending_of a) stopped) never;
  };
}
list_stop work name stop.NoMemory opens gives stopped refused rose never = record { opened = opens; given = gives; ended = tt }
