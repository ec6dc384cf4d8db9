-- What each job does with its files.
use Rattle.std.proofs.Common.{◌≡◌, ◌≢◌, ◌⊎◌, inl, inr, ℕ, suc, List, [], ◌∷◌, ◌++◌, Result, Ok, Err, Any, All, refl, sym, ap, ◌∙◌, subst, append-nil, arith}
use Rattle.line_source.specs.Causes.{Rose}
use Rattle.line_source.specs.Openings.{names_of, OpensFirst}
use Rattle.line_source.specs.Givens.{GivesFirst}
use Rattle.line_source.proofs.OpeningLaws.{none_first}
use Rattle.job_answers.specs.declared.output.JobOutput.{JobOutput}
use Rattle.job_answers.specs.declared.stop.JobStop.{JobStop}
use Rattle.job_answers.specs.declared.status.Status.{Status}
use Rattle.job_answers.specs.declared.stop.JobStop.TheVariants as stop
use Rattle.job_answers.specs.declared.status.Status.TheVariants.{ReadFault, WriteFault, NoMemory}
use Rattle.job_answers.specs.Texts.{no_memory_line}
use Rattle.job_answers.specs.Answers.{ending_of, IfEnded}
use Rattle.job_answers.specs.Endings.{Ending, ending}
use Rattle.job_answers.specs.Delivered.{SinkChange, IsDelivered}
use Rattle.job_answers.specs.Commands.{Command}
use Rattle.job_answers.specs.Works.{FileWork, AreAllRead, NamesFault, EndsOver, IsDoneOver}
use Rattle.job_answers.specs.TextJobs.{TextJob, text_command}
use Rattle.job_answers.proofs.EndingLaws.{ended_weaker, delivered_status}
use Rattle.job_answers.proofs.WorkLaws.{none_opened, verdict_over}
use Rattle.job_answers.proofs.KnownLaws.{none_given, no_more_given}
use Rattle.command_words.specs.declared.jobs.Job.{Job}
use Rattle.command_words.specs.declared.sims.Part.{Part}
use Rattle.baseline_app.specs.Commands.{PartEnds, sim_command, command_of}
use Rattle.baseline_app.specs.Jobs.{AnswersJob, AnswersUsage, IsAnswer, end_of}
use Rattle.baseline_app.specs.Runs.{IsRun, UsesFiles}
use Rattle.baseline_app.proofs.CommandLaws.{part_verdict}

-- ---- jobs by their words
-- a command on one file, whose name the word gives
pub at_word : (work : FileWork) (r : Result JobOutput JobStop) (text : TextJob) (name word : List ℕ) → name ≡ word
    → IsDoneOver work (text_command text name) r → IsDoneOver work (text_command text word) r
at_word work r text name word same done = subst (λ (n : List ℕ). IsDoneOver work (text_command text n) r) same done

-- any job, which the words give
pub job_asked : (work : FileWork) (r : Result JobOutput JobStop) (job asked : Job) → job ≡ asked → IsDoneOver work (command_of asked) r → IsDoneOver work (command_of job) r
job_asked work r job asked is done = subst (λ (j : Job). IsDoneOver work (command_of j) r) (sym is) done

-- a part of a simulated session opens none
pub part_done : (work : FileWork) (r : Result JobOutput JobStop) (part : Part) (seed epochs sats bands system : ℕ) → work.left.openings ≡ work.openings → work.left.given ≡ work.given
    → IfEnded r (PartEnds part seed epochs sats bands system) → IsDoneOver work (sim_command part seed epochs sats bands system) r
part_done work r part seed epochs sats bands system same unread ends =
    let read : AreAllRead work [] = record { opened = ap names_of same ∙ none_opened work.openings; last = tt; whole = none_given work.given work.left.given (unread ∙ sym (append-nil work.given)) } in
    record {
      opened = none_first [] work.openings work.left.openings same;
      given = no_more_given [] work.given work.left.given unread;
      ended = ended_weaker r _ _ (λ end so.
          verdict_over work (sim_command part seed epochs sats bands system) end read (part_verdict part seed epochs sats bands system end so) so) ends;
    }

-- ---- the fault that is named
pub among : {X : Type 0} (P : X → Type 0) (earlier : List X) (x : X) (later : List X) → P x → Any P (earlier ++ x ∷ later)
among P [] x later holds = (0, x, omega arith, refl, holds)
among P (y ∷ ys) x later holds = let a = among P ys x later holds in (suc a.0, a.1, omega (arith, a.2), a.3, a.4)

-- what holds of the file that a fault names holds of one of the files
pub fault_among : (work : FileWork) (names : List (List ℕ)) (line : List ℕ) (P : List ℕ → Type 0) → (fault : NamesFault work names line) → P fault.name → Any P names
fault_among work names line P fault holds = subst (Any P) (sym fault.among) (among P fault.earlier fault.name fault.later holds)

-- where all names are sure, there is none
none_sure : (work : FileWork) (names : List (List ℕ)) (line : List ℕ) → NamesFault work names line → All work.sure names → ⊥
none_sure work names line fault all =
    let found = fault_among work names line (λ name. work.sure name → ⊥) fault fault.unsure in
    found.4 (subst work.sure found.3 (all found.0 found.1 found.2))

-- ---- what a run does with files
files_over : (work : FileWork) (command : Command) (end : Ending) (result : Status) (out err : SinkChange) → OpensFirst command.file_words work.openings work.left.openings
    → GivesFirst command.file_words work.given work.left.given → EndsOver work command end → IsDelivered end result out err → UsesFiles work command.file_words result
files_over work command end result out err opens gives over written = record {
  opened = opens;
  given = gives;
  sure = λ all is. none_sure work command.file_words end.err (over.named (delivered_status end result ReadFault out err written is (λ e. absurd (cc (e))))) all;
}

-- out of memory names no file
no_memory_status : (result status : Status) (out err : SinkChange) → IsDelivered (ending NoMemory [] no_memory_line) result out err → result ≡ status → status ≢ WriteFault → NoMemory ≡ status
no_memory_status result status out err = delivered_status (ending NoMemory [] no_memory_line) result status out err

pub files_used : (work : FileWork) (command : Command) (r : Result JobOutput JobStop) (result : Status) (out err : SinkChange) → IsDoneOver work command r
    → IsDelivered (end_of r) result out err → UsesFiles work command.file_words result
files_used work command (Ok a) result out err done written = files_over work command (ending_of a) result out err done.opened done.given done.ended written
files_used work command (Err (stop.Ended a)) result out err done written = files_over work command (ending_of a) result out err done.opened done.given done.ended written
files_used work command (Err stop.NoMemory) result out err done written = record {
  opened = done.opened;
  given = done.given;
  sure = λ all is. let status_is = no_memory_status result ReadFault out err written is (λ e. absurd (cc (e))) in absurd (cc (status_is));
}

-- ---- what a run ends with
answered : (words : List (List ℕ)) (work : FileWork) (end : Ending) → AnswersJob words work end ⊎ AnswersUsage words end → IsAnswer words work end
answered words work end (inl job) = inl job
answered words work end (inr usage) = inr (inl usage)

is_answer : (words : List (List ℕ)) (work : FileWork) (r : Result JobOutput JobStop) → IfEnded r (λ end. AnswersJob words work end ⊎ AnswersUsage words end) → IsAnswer words work (end_of r)
is_answer words work (Ok a) ends = answered words work (ending_of a) ends
is_answer words work (Err (stop.Ended a)) ends = answered words work (ending_of a) ends
is_answer words work (Err stop.NoMemory) ends = inr (inr refl)

pub run_ends : (words : List (List ℕ)) (work : FileWork) (r : Result JobOutput JobStop) (result : Status) (out err : SinkChange)
    → IfEnded r (λ end. AnswersJob words work end ⊎ AnswersUsage words end) → IsDelivered (end_of r) result out err → IsRun words work result out err
run_ends words work r result out err ends written = record { end = end_of r; answer = is_answer words work r ends; written = written }

-- ---- a read fault comes only where the count rose
fault_rose : (words : List (List ℕ)) (work : FileWork) (end : Ending) (result : Status) (out err : SinkChange) → AnswersJob words work end ⊎ AnswersUsage words end
    → IsDelivered end result out err → result ≡ ReadFault → Rose work.faults work.faults_now
fault_rose words work end result out err (inl answer) written is = answer.ends.fault (delivered_status end result ReadFault out err written is (λ e. absurd (cc (e))))
fault_rose words work end result out err (inr usage) written is =
    let status_is = delivered_status end result ReadFault out err written is (λ e. absurd (cc (e))) in
    let usage_status_is = ap (λ (e : Ending). e.status) usage.end_is in
    absurd (cc (status_is, usage_status_is))

pub run_read : (words : List (List ℕ)) (work : FileWork) (r : Result JobOutput JobStop) (result : Status) (out err : SinkChange)
    → IfEnded r (λ end. AnswersJob words work end ⊎ AnswersUsage words end) → IsDelivered (end_of r) result out err → result ≡ ReadFault
    → Rose work.faults work.faults_now
run_read words work (Ok a) result out err ends written is = fault_rose words work (ending_of a) result out err ends written is
run_read words work (Err (stop.Ended a)) result out err ends written is = fault_rose words work (ending_of a) result out err ends written is
run_read words work (Err stop.NoMemory) result out err ends written is = let status_is = no_memory_status result ReadFault out err written is (λ e. absurd (cc (e))) in absurd (cc (status_is))
