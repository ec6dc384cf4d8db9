-- What a job does with its files.
use Rattle.std.proofs.Common.{◌≡◌, ◌≢◌, ◌⊎◌, inl, inr, ℕ, zero, suc, List, [], ◌∷◌, ◌++◌, Result, Err, refl, sym, ap, ◌∙◌, subst, append-nil, append_assoc}
use Rattle.std.proofs.Math.Seq.{take-nil}
use Rattle.std.proofs.lemmas.List.{map-append}
use Rattle.line_source.specs.Causes.{Rose}
use Rattle.line_source.specs.Openings.{names_of, OpensIt, OpensFirst, IsReadToEnd}
use Rattle.line_source.specs.Givens.{GivesFirst, GivesWhole}
use Rattle.line_source.proofs.OpeningLaws.{one_first}
use Rattle.job_answers.specs.declared.output.JobOutput.{JobOutput}
use Rattle.job_answers.specs.declared.stop.JobStop.{JobStop}
use Rattle.job_answers.specs.declared.stop.JobStop.TheVariants as stop
use Rattle.job_answers.specs.declared.status.Status.TheVariants.{ReadFault}
use Rattle.job_answers.specs.Statuses.{IsVerdictStatus}
use Rattle.job_answers.specs.Answers.{ending_of, IfEnds, IfEnded}
use Rattle.job_answers.specs.Texts.{read_fault_line}
use Rattle.job_answers.specs.Endings.{Ending, IsTextOf, EndsUnloaded, IsRefusedFile, IsRefusalOf}
use Rattle.job_answers.specs.Commands.{Command}
use Rattle.job_answers.specs.Works.{FileWork, AreOpened, AreGivenWhole, AreAllRead, RefusesOne, IsFaultOf, EndsOver, IsDoneOver}
use Rattle.job_answers.specs.TextJobs.{TextJob, EndsOnText, text_command}
use Rattle.job_answers.proofs.EndingLaws.{ended_weaker, read_whole}
use Rattle.job_answers.proofs.KnownLaws.{none_given, one_given, one_gives}

-- ---- which files were opened
pub none_opened : (before : List (List ℕ × ℕ)) → AreOpened [] before before
none_opened before = sym (append-nil (names_of before))

-- one more, after these
pub one_more : (earlier : List (List ℕ)) (name : List ℕ) (before mid now : List (List ℕ × ℕ)) → AreOpened earlier before mid → OpensIt name mid now → AreOpened (earlier ++ name ∷ []) before now
one_more earlier name before mid now opened opens =
    ap names_of opens.1 ∙ map-append (λ (opening : List ℕ × ℕ). opening.0) mid ((name, opens.0) ∷ [])
    ∙ ap (λ (names : List (List ℕ)). names ++ name ∷ []) opened ∙ append_assoc (names_of before) earlier (name ∷ [])

-- one more at most
pub at_most_one_more : (earlier : List (List ℕ)) (name : List ℕ) (before mid now : List (List ℕ × ℕ)) → AreOpened earlier before mid → OpensFirst (name ∷ []) mid now
    → AreOpened earlier before now ⊎ AreOpened (earlier ++ name ∷ []) before now
at_most_one_more earlier name before mid now opened (zero, same) = inl (same ∙ append-nil (names_of mid) ∙ opened)
at_most_one_more earlier name before mid now opened (suc n, same) = inr (
    same ∙ ap (λ (rest : List (List ℕ)). names_of mid ++ name ∷ rest) (take-nil n)
    ∙ ap (λ (names : List (List ℕ)). names ++ name ∷ []) opened ∙ append_assoc (names_of before) earlier (name ∷ []))

one_read : (work : FileWork) (name : List ℕ) → OpensIt name work.openings work.left.openings → IsReadToEnd work.told work.left name → AreGivenWhole (name ∷ []) work.given work.left.given → AreAllRead work (name ∷ [])
one_read work name opens read given = record { opened = one_more [] name work.openings work.openings work.left.openings (none_opened work.openings) opens; last = read; whole = given }

-- ---- how a job ends
-- a verdict is neither a refusal nor a read fault
pub verdict_over : (work : FileWork) (command : Command) (end : Ending) → AreAllRead work command.file_words → IsVerdictStatus end.status → command.Ends work.text_of end → EndsOver work command end
verdict_over work command end read verdict so = record {
  ends_so = so;
  answered = λ is. read;
  refused = λ is. absurd (subst IsVerdictStatus is verdict);
  fault = λ is. absurd (subst IsVerdictStatus is verdict);
  named = λ is. absurd (subst IsVerdictStatus is verdict);
}

-- a refusal of the only file
pub only_refused : (work : FileWork) (name : List ℕ) (end : Ending) → IsRefusedFile work.told work.given work.left name end → RefusesOne work (name ∷ []) end
only_refused work name end refused = record {
  earlier = [];
  name = name;
  later = [];
  among = refl;
  given = work.given;
  whole = none_given work.given work.given (sym (append-nil work.given));
  refused = refused;
}

-- a text of a file that was read to its end
text_over : (work : FileWork) (name text : List ℕ) (job : TextJob) (end : Ending) → IsTextOf work.text_of name text → AreAllRead work (name ∷ []) → GivesWhole name text work.given work.left.given
    → EndsOnText job name text end → EndsOver work (text_command job name) end
text_over work name text job end is read given (inl answered) =
    verdict_over work (text_command job name) end read answered.verdict (inl (record { text = text; is = is; ends_so = inl answered }))
text_over work name text job end is read given (inr refused) =
    let status_is = ap (λ (e : Ending). e.status) refused.end_is in
    record {
      ends_so = inl (record { text = text; is = is; ends_so = inr refused });
      answered = λ verdict. read;
      refused = λ is_refused. inl (only_refused work name end (read_whole work.told work.given work.left name text refused.at end read.last given refused.end_is is_refused));
      fault = λ fault. absurd (cc (status_is, fault));
      named = λ fault. absurd (cc (status_is, fault));
    }

pub text_done : (work : FileWork) (name text : List ℕ) (job : TextJob) (r : Result JobOutput JobStop) → IsTextOf work.text_of name text → IsReadToEnd work.told work.left name
    → OpensIt name work.openings work.left.openings → GivesWhole name text work.given work.left.given → IfEnded r (EndsOnText job name text) → IsDoneOver work (text_command job name) r
text_done work name text job r is read opens given ends = record {
  opened = one_first name [] work.openings work.left.openings opens;
  given = one_gives name text [] work.given work.left.given given;
  ended = ended_weaker r (EndsOnText job name text) (EndsOver work (text_command job name))
      (λ end so. text_over work name text job end is (one_read work name opens read (one_given name text work.given work.left.given given)) given so) ends;
}

-- a read fault of the only file
pub only_fault : (work : FileWork) (name : List ℕ) (end : Ending) → OpensFirst (name ∷ []) work.openings work.left.openings → (end.status ≡ ReadFault → end.err ≡ read_fault_line name)
    → (work.sure name → end.status ≢ ReadFault) → IsFaultOf work (name ∷ []) end
only_fault work name end opens line never = λ is. record {
  earlier = [];
  name = name;
  later = [];
  among = refl;
  opened = at_most_one_more [] name work.openings work.openings work.left.openings (none_opened work.openings) opens;
  line_is = line is;
  unsure = λ sure. never sure is;
}

-- a file that can't be had
unloaded_over : (work : FileWork) (name : List ℕ) (job : TextJob) (end : Ending) → OpensFirst (name ∷ []) work.openings work.left.openings → EndsUnloaded work.text_of name end
    → IsRefusalOf work.told work.given work.left name end
    → (end.status ≡ ReadFault → Rose work.faults work.faults_now) → (work.sure name → end.status ≢ ReadFault) → EndsOver work (text_command job name) end
unloaded_over work name job end opens (inl large) refused rose never =
    let status_is = ap (λ (e : Ending). e.status) large.end_is in
    record {
      ends_so = inr (inl large);
      answered = λ verdict. absurd (subst IsVerdictStatus status_is verdict);
      refused = λ is. inl (only_refused work name end (refused is));
      fault = rose;
      named = λ fault. absurd (cc (status_is, fault));
    }
unloaded_over work name job end opens (inr fault) refused rose never =
    let status_is = ap (λ (e : Ending). e.status) fault in
    record {
      ends_so = inr (inr fault);
      answered = λ verdict. absurd (subst IsVerdictStatus status_is verdict);
      refused = λ is. absurd (cc (status_is, is));
      fault = rose;
      named = only_fault work name end opens (λ is. ap (λ (e : Ending). e.err) fault) never;
    }

pub stop_done : (work : FileWork) (name : List ℕ) (job : TextJob) (why : JobStop) → OpensFirst (name ∷ []) work.openings work.left.openings → GivesFirst (name ∷ []) work.given work.left.given → IfEnds why (EndsUnloaded work.text_of name)
    → IfEnds why (IsRefusalOf work.told work.given work.left name)
    → IfEnds why (λ end. end.status ≡ ReadFault → Rose work.faults work.faults_now) → (work.sure name → IfEnds why (λ end. end.status ≢ ReadFault))
    → IsDoneOver work (text_command job name) (Err why)
stop_done work name job (stop.Ended a) opens gives ends refused rose never = record { opened = opens; given = gives; ended = unloaded_over work name job (ending_of a) opens ends refused rose never }
stop_done work name job stop.NoMemory opens gives ends refused rose never = record { opened = opens; given = gives; ended = tt }
