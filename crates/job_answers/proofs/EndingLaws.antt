-- The statuses of endings, and what a file whose text is known and admitted ends with.
use Rattle.std.proofs.Common.{◌≡◌, ◌≢◌, inl, inr, ◌<◌, ℕ, List, [], length, Some, Option, Result, Ok, Err, sym, ap, ◌∙◌, subst, arith, IfSome}
use Rattle.line_source.specs.Openings.{Unread, IsReadToEnd}
use Rattle.line_source.specs.Givens.{Given, GivesWhole, GivesTooMany}
use Rattle.line_source.specs.declared.transfer.TheConstants.{MAX_FILE}
use Rattle.job_answers.specs.declared.output.JobOutput.{JobOutput}
use Rattle.job_answers.specs.declared.stop.JobStop.{JobStop}
use Rattle.job_answers.specs.declared.stop.JobStop.TheVariants as stop
use Rattle.job_answers.specs.declared.status.Status.{Status}
use Rattle.rinex_head.specs.declared.place.At.{At}
use Rattle.job_answers.specs.declared.status.Status.TheVariants.{Refused, ReadFault, WriteFault}
use Rattle.job_answers.specs.Answers.{ending_of, IfEnds, IfStopped, IfEnded}
use Rattle.job_answers.specs.Statuses.{IsVerdictStatus, IsJobStatus}
use Rattle.job_answers.specs.Texts.{refusal_line}
use Rattle.job_answers.specs.Endings.{Ending, ending, EndsByFile, IsTooLarge, IsRefusal, IsAdmitted, IsRefusalOf}
use Rattle.job_answers.specs.Delivered.{SinkChange, IsDelivered}

told_at : (text_of : List ℕ → Option (List ℕ)) (name bytes : List ℕ) (P : List ℕ → Type 0) → text_of name ≡ Some bytes → IfSome (text_of name) P → P bytes
told_at text_of name bytes P is holds = subst (λ (o : Option (List ℕ)). IfSome o P) is holds

-- A file whose text is known and admitted ends with what its text ends with, or with a read fault.
pub admitted_ends : (text_of : List ℕ → Option (List ℕ)) (name : List ℕ) (IsFile : List (List ℕ) → Type 0) (ends : List ℕ → Ending → Type 0) (end : Ending)
    → (file : IsAdmitted text_of name IsFile) → end.status ≢ ReadFault → EndsByFile text_of name ends end → ends file.text end
admitted_ends text_of name IsFile ends end file no_fault (inl by_text) =
    let same = told_at text_of name file.text (λ (bytes : List ℕ). by_text.text ≡ bytes) file.told_is by_text.is.told_is in
    subst (λ (t : List ℕ). ends t end) same by_text.ends_so
admitted_ends text_of name IsFile ends end file no_fault (inr (inl large)) =
    let too = told_at text_of name file.text (λ (bytes : List ℕ). MAX_FILE < length bytes) file.told_is large.large in
    absurd (omega (arith, too, file.fits))
admitted_ends text_of name IsFile ends end file no_fault (inr (inr fault)) = absurd (no_fault (ap (λ (e : Ending). e.status) fault))

pub verdict_at : (end : Ending) (t : Ending) → end ≡ t → IsVerdictStatus t.status → IsVerdictStatus end.status
verdict_at end t same is = subst (λ (e : Ending). IsVerdictStatus e.status) (sym same) is

pub job_status_at : (end : Ending) (t : Ending) → end ≡ t → IsJobStatus t.status → IsJobStatus end.status
job_status_at end t same is = subst (λ (e : Ending). IsJobStatus e.status) (sym same) is

-- a file ends with a job's status, where its text does
pub file_status : (text_of : List ℕ → Option (List ℕ)) (name : List ℕ) (ends : List ℕ → Ending → Type 0) (end : Ending)
    → ((text : List ℕ) → ends text end → IsJobStatus end.status) → EndsByFile text_of name ends end → IsJobStatus end.status
file_status text_of name ends end by_text (inl text) = by_text text.text text.ends_so
file_status text_of name ends end by_text (inr (inl large)) = job_status_at end _ large.end_is tt
file_status text_of name ends end by_text (inr (inr fault)) = job_status_at end _ fault tt

-- a status that is no write fault is that of the ending
pub delivered_status : (end : Ending) (result status : Status) (out err : SinkChange) → IsDelivered end result out err → result ≡ status → status ≢ WriteFault → end.status ≡ status
delivered_status end result status out err (inl written) is other = sym written.same ∙ is
delivered_status end result status out err (inr (inl by_out)) is other = absurd (other (sym is ∙ by_out.fault))
delivered_status end result status out err (inr (inr by_err)) is other = absurd (other (sym is ∙ by_err.fault))

-- ---- refusals
-- that of a file that was read to its end
pub read_whole : (text_of : List ℕ → Option (List ℕ)) (before : List Given) (left : Unread) (name text : List ℕ) (at : At) (end : Ending) → IsReadToEnd text_of left name
    → GivesWhole name text before left.given → end ≡ ending Refused [] (refusal_line name at) → IsRefusalOf text_of before left name end
read_whole text_of before left name text at end read given is = λ refused. inl (record { at = at; end_is = is; read = read; text = text; given = given })

-- that of a file that is too large
pub large_whole : (text_of : List ℕ → Option (List ℕ)) (before : List Given) (left : Unread) (name : List ℕ) (end : Ending) → IsTooLarge text_of name end
    → GivesTooMany name before left.given → IsRefusalOf text_of before left name end
large_whole text_of before left name end large given = λ refused. inr (record { large = large; given = given })

-- that of a file whose text is none of the form
pub refusal_whole : {X : Type 0} {gives : List (List ℕ) → Result X At} {IsFile : List (List ℕ) → Type 0} (text_of : List ℕ → Option (List ℕ)) (before : List Given) (left : Unread) (name text : List ℕ) (end : Ending)
    → IsReadToEnd text_of left name → GivesWhole name text before left.given → IsRefusal gives IsFile name text end → IsRefusalOf text_of before left name end
refusal_whole text_of before left name text end read given refusal = read_whole text_of before left name text refusal.at end read given refusal.end_is

-- ---- what is weaker holds too
pub ends_weaker : (stop : JobStop) (P Q : Ending → Type 0) → ((end : Ending) → P end → Q end) → IfEnds stop P → IfEnds stop Q
ends_weaker (stop.Ended answer) P Q weaker holds = weaker (ending_of answer) holds
ends_weaker stop.NoMemory P Q weaker holds = tt

pub ended_weaker : (r : Result JobOutput JobStop) (P Q : Ending → Type 0) → ((end : Ending) → P end → Q end) → IfEnded r P → IfEnded r Q
ended_weaker (Ok a) P Q weaker holds = weaker (ending_of a) holds
ended_weaker (Err why) P Q weaker holds = ends_weaker why P Q weaker holds

pub stopped_weaker : {T : Type 0} (r : Result T JobStop) (P Q : Ending → Type 0) → ((end : Ending) → P end → Q end) → IfStopped r P → IfStopped r Q
stopped_weaker (Ok x) P Q weaker holds = tt
stopped_weaker (Err why) P Q weaker holds = ends_weaker why P Q weaker holds
