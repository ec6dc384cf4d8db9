-- What a run with status 0 or 1 says; that a job whose files are there and admitted ends with one; and the causes of other statuses.
use Rattle.std.proofs.Common.{◌≡◌, ◌≢◌, ◌⊎◌, inl, inr, List, ℕ, sym, ap, ◌∙◌, subst}
use Rattle.line_source.proofs.Faults.{stop_rose}
use Rattle.line_source.specs.Causes.{Rose}
use Rattle.job_answers.specs.declared.status.Status.{Status}
use Rattle.job_answers.specs.declared.status.Status.TheVariants.{Usage, ReadFault, WriteFault, NoMemory}
use Rattle.job_answers.specs.Statuses.{IsVerdictStatus, IsJobStatus}
use Rattle.job_answers.specs.Endings.{Ending}
use Rattle.job_answers.specs.Delivered.{SinkChange}
use Rattle.job_answers.specs.Works.{FileWork, EndsOver}
use Rattle.command_words.specs.declared.jobs.Job.{Job}
use Rattle.command_words.specs.Words.{IsJob}
use Rattle.command_words.proofs.OneJob.{one_job}
use Rattle.baseline_app.specs.Commands.{command_of}
use Rattle.baseline_app.specs.Jobs.{IsAnswer}
use Rattle.baseline_app.specs.Runs.{IsRun, IsComplete}
use Rattle.baseline_app.proofs.CommandLaws.{lawful}

-- the job that the words ask for ends so over its files, or memory is out
pub asked_ends : (job : Job) (words : List (List ℕ)) (work : FileWork) (end : Ending) → IsJob words job → IsAnswer words work end
    → EndsOver work (command_of job) end ⊎ (end.status ≡ NoMemory)
asked_ends job words work end asked (inl answer) =
    inl (subst (λ (j : Job). EndsOver work (command_of j) end) (one_job words answer.job job answer.asked asked) answer.ends)
asked_ends job words work end asked (inr (inl usage)) = absurd (usage.none job asked)
asked_ends job words work end asked (inr (inr none)) = inr (ap (λ (e : Ending). e.status) none)

answer_ends : (job : Job) (words : List (List ℕ)) (work : FileWork) (end : Ending) → IsJob words job → (command_of job).IsReadable work.text_of → end.status ≢ ReadFault → IsAnswer words work end
    → (end.status ≡ NoMemory) ⊎ ((command_of job).Ends work.text_of end × IsVerdictStatus end.status)
answer_ends job words work end asked readable no_fault answer = elim (asked_ends job words work end asked answer) [
  | inl over ↦ inr (over.ends_so, (lawful job).verdict work.text_of end readable no_fault over.ends_so)
  | inr none ↦ inl none
]

-- a run with a verdict has an ending of the job, whose text for out was written
pub run_says : (words : List (List ℕ)) (work : FileWork) (job : Job) (result : Status) (out err : SinkChange)
    → IsRun words work result out err → IsJob words job → IsVerdictStatus result → (command_of job).Says work.text_of result out
run_says words work job result out err run asked verdict = elim (run.written) [
  | inl written ↦ elim (asked_ends job words work run.end asked run.answer) [
    | inl over ↦
        let said = (lawful job).says work.text_of run.end out over.ends_so (subst IsVerdictStatus written.same verdict) written.out_whole.whole in
        subst (λ (s : Status). (command_of job).Says work.text_of s out) (sym written.same) said
    | inr none ↦ absurd (subst IsVerdictStatus (written.same ∙ none) verdict)
  ]
  | inr (inl by_out) ↦ absurd (subst IsVerdictStatus by_out.fault verdict)
  | inr (inr by_err) ↦ absurd (subst IsVerdictStatus by_err.fault verdict)
]

pub run_complete : (job : Job) (words : List (List ℕ)) (work : FileWork) (result : Status) (out err : SinkChange)
    → IsRun words work result out err → IsJob words job → (command_of job).IsReadable work.text_of → result ≢ ReadFault → IsComplete (command_of job) work.text_of result out err
run_complete job words work result out err run asked readable no_fault = elim (run.written) [
  | inl written ↦ elim (answer_ends job words work run.end asked readable (λ e. no_fault (written.same ∙ e)) run.answer) [
    | inl none ↦ inr (inl (written.same ∙ none))
    | inr well ↦ inl (record {
      end = run.end;
      ends = well.0;
      verdict = subst IsVerdictStatus (sym written.same) well.1;
      same = written.same;
      out_whole = written.out_whole;
      err_whole = written.err_whole well.1;
    })
  ]
  | inr (inl by_out) ↦ inr (inr (by_out.fault, inl (stop_rose by_out.out_part.stops)))
  | inr (inr by_err) ↦ inr (inr (by_err.fault, inr (stop_rose by_err.err_part.stops)))
]

-- usage comes only where the words ask for no job
pub run_usage : (words : List (List ℕ)) (work : FileWork) (result : Status) (out err : SinkChange) → IsRun words work result out err
    → result ≡ Usage → (job : Job) → IsJob words job → ⊥
run_usage words work result out err run is job asked = elim (run.written) [
  | inl written ↦ elim (run.answer) [
    | inl answer ↦ subst IsJobStatus (sym written.same ∙ is) ((lawful answer.job).status work.text_of run.end answer.ends.ends_so)
    | inr (inl usage) ↦ usage.none job asked
    | inr (inr none) ↦ let status_is = ap (λ (e : Ending). e.status) none in absurd (cc (status_is, written.same, is))
  ]
  | inr (inl by_out) ↦ absurd (cc (by_out.fault, is))
  | inr (inr by_err) ↦ absurd (cc (by_err.fault, is))
]

-- a write fault comes only where a sink's count rose
pub run_write : (words : List (List ℕ)) (work : FileWork) (result : Status) (out err : SinkChange) → IsRun words work result out err
    → result ≡ WriteFault → Rose out.before out.now ⊎ Rose err.before err.now
run_write words work result out err run is = elim (run.written) [
  | inl written ↦ elim (run.answer) [
    | inl answer ↦ absurd (subst IsJobStatus (sym written.same ∙ is) ((lawful answer.job).status work.text_of run.end answer.ends.ends_so))
    | inr (inl usage) ↦ let usage_status_is = ap (λ (e : Ending). e.status) usage.end_is in absurd (cc (usage_status_is, written.same, is))
    | inr (inr none) ↦ let status_is = ap (λ (e : Ending). e.status) none in absurd (cc (status_is, written.same, is))
  ]
  | inr (inl by_out) ↦ inl (stop_rose by_out.out_part.stops)
  | inr (inr by_err) ↦ inr (stop_rose by_err.err_part.stops)
]

-- a verdict comes only where neither sink had a fault
pub run_steady : (words : List (List ℕ)) (work : FileWork) (result : Status) (out err : SinkChange) → IsRun words work result out err
    → IsVerdictStatus result → (out.now ≡ out.before) × (err.now ≡ err.before)
run_steady words work result out err run verdict = elim (run.written) [
  | inl written ↦ (written.out_whole.steady, (written.err_whole (subst IsVerdictStatus written.same verdict)).steady)
  | inr (inl by_out) ↦ absurd (subst IsVerdictStatus by_out.fault verdict)
  | inr (inr by_err) ↦ absurd (subst IsVerdictStatus by_err.fault verdict)
]
