-- What a run's calls gave and took, where nothing is told of the texts.
use Rattle.std.proofs.Common.{◌≡◌, ◌⊎◌, ◌<◌, inl, inr, ℕ, true, List, [], ◌∷◌, ◌++◌, length, drop, IfOk, Result, Ok, Err, refl, sym, ap, ◌∙◌, subst, append-nil, append_assoc, arith}
use Rattle.std.proofs.lemmas.List.{map-append}
use Rattle.std.specs.Prelude.{None, Some}
use Rattle.std.specs.declared.option.Option.{Option}
use Rattle.std.specs.Io.KnownBytes.{Appends}
use Rattle.line_source.specs.Givens.{Given, given_of, names_given, given_under, known_text}
use Rattle.job_answers.specs.declared.status.Status.{Status}
use Rattle.job_answers.specs.declared.status.Status.TheVariants.{Done, Declined, Refused}
use Rattle.job_answers.specs.Statuses.{number_of, IsVerdictStatus}
use Rattle.job_answers.specs.Texts.{refusal_line, too_large_line}
use Rattle.job_answers.specs.Endings.{Ending, ending}
use Rattle.job_answers.specs.Delivered.{SinkChange, GainsUnlessFault}
use Rattle.job_answers.specs.Works.{FileWork, RefusesOne, RefusesAll}
use Rattle.job_answers.specs.Commands.{KnownTexts, Command}
use Rattle.command_words.specs.declared.jobs.Job.{Job}
use Rattle.command_words.specs.Words.{IsJob}
use Rattle.baseline_app.specs.Commands.{command_of}
use Rattle.baseline_app.specs.Runs.{IsRun}
use Rattle.baseline_app.specs.Calls.{AnswersByCalls, RefusesRead, RefusesLarge, RefusesLast, RefusesTogether, RefusesByCalls}
use Rattle.baseline_app.proofs.Completes.{asked_ends}

pub ok_weaker : {T E : Type 0} (r : Result T E) (P Q : T → Type 0) → ((x : T) → P x → Q x) → IfOk r P → IfOk r Q
ok_weaker (Ok x) P Q weaker holds = weaker x holds
ok_weaker (Err e) P Q weaker holds = tt

-- the numbers of verdicts
pub small_verdict : (status : Status) (number : ℕ) → number ≡ number_of status → number < 2 → IsVerdictStatus status
small_verdict Done number is small = tt
small_verdict Declined number is small = tt
small_verdict status number is small = absurd (omega arith)

drop_front : (xs ys : List Given) → drop (length xs) (xs ++ ys) ≡ ys
drop_front [] ys = refl
drop_front (x ∷ xs) ys = drop_front xs ys

-- where nothing is told, a text is known by what was given
given_alone : (given more now : List Given) → now ≡ given ++ more → known_text (λ name. None) given now ≡ given_under more
given_alone given more now is = ap (λ (gs : List Given). given_under gs) (ap (λ (l : List Given). drop (length given) l) is ∙ drop_front given more)

pub answers_by_calls : (words : List (List ℕ)) (work : FileWork) (job : Job) (status : Status) (number : ℕ) (out err : SinkChange) (taken taken_now told told_now : List ℕ)
    → work.text_of ≡ known_text (λ name. None) work.given work.left.given → out.old ≡ Some taken → out.new ≡ Some taken_now → err.old ≡ Some told → err.new ≡ Some told_now
    → IsRun words work status out err → IsJob words job → IsVerdictStatus status → number ≡ number_of status
    → AnswersByCalls (command_of job) number work.given work.left.given taken taken_now told told_now
answers_by_calls words work job status number out err taken taken_now told told_now untold old_is new_is err_old_is err_new_is run asked verdict number_is = elim (run.written) [
  | inl written ↦ elim (asked_ends job words work run.end asked run.answer) [
    | inl over ↦
        let answered : IsVerdictStatus run.end.status = subst IsVerdictStatus written.same verdict in
        let whole = (over.answered answered).whole in
        let text_is = untold ∙ given_alone work.given whole.more work.left.given whole.now_is in
        record {
          more = whole.more;
          reads = whole.now_is;
          words = whole.names_are;
          ended = whole.ended;
          end = run.end;
          ends = subst (λ (text_of : KnownTexts). (command_of job).Ends text_of run.end) text_is over.ends_so;
          status = number_is ∙ ap number_of written.same;
          out_took = subst (λ (o : Option (List ℕ)). Appends (Some taken) o run.end.out) new_is (subst (λ (o : Option (List ℕ)). Appends o out.new run.end.out) old_is written.out_whole.whole);
          err_took = subst (λ (o : Option (List ℕ)). Appends (Some told) o run.end.err) err_new_is
              (subst (λ (o : Option (List ℕ)). Appends o err.new run.end.err) err_old_is (written.err_whole answered).whole);
        }
    | inr none ↦ absurd (subst IsVerdictStatus (written.same ∙ none) verdict)
  ]
  | inr (inl by_out) ↦ absurd (subst IsVerdictStatus by_out.fault verdict)
  | inr (inr by_err) ↦ absurd (subst IsVerdictStatus by_err.fault verdict)
]

-- the number of a refusal
pub third_refused : (status : Status) (number : ℕ) → number ≡ number_of status → number ≡ 3 → status ≡ Refused
third_refused Refused number is third = refl
third_refused status number is third = absurd (omega arith)

-- ---- a refusal
-- what the calls gave and took of an ending with this line
by_line : (work : FileWork) (command : Command) (end : Ending) (err : SinkChange) (taken taken_now : List ℕ) (more : List Given) (later : List (List ℕ)) (line : List ℕ)
    → work.left.given ≡ work.given ++ more → command.file_words ≡ names_given more ++ later → RefusesLast more line ⊎ RefusesTogether command more line → end ≡ ending Refused [] line
    → work.text_of ≡ known_text (λ name. None) work.given work.left.given → command.Ends work.text_of end → taken_now ≡ taken ++ end.out → GainsUnlessFault err end.err
    → RefusesByCalls command work.given work.left.given taken taken_now err
by_line work command end err taken taken_now more later line reads words refused end_is untold ends took gains =
    let text_is = untold ∙ given_alone work.given more work.left.given reads in
    record {
      more = more;
      reads = reads;
      later = later;
      words = words;
      line = line;
      refused = refused;
      ends = subst (λ (e : Ending). command.Ends (given_under more) e) end_is (subst (λ (text_of : KnownTexts). command.Ends text_of end) text_is ends);
      out_took = took ∙ ap (λ (e : Ending). taken ++ e.out) end_is ∙ append-nil taken;
      err_took = subst (GainsUnlessFault err) (ap (λ (e : Ending). e.err) end_is) gains;
    }

-- the words of the files that were given, of which this is the last
words_given : (words earlier later : List (List ℕ)) (name : List ℕ) (front : List Given) (g : Given) → words ≡ earlier ++ name ∷ later → names_given front ≡ earlier → g.name ≡ name
    → words ≡ names_given (front ++ g ∷ []) ++ later
words_given words earlier later name front g among front_is name_is =
    let names_is : names_given (front ++ g ∷ []) ≡ earlier ++ name ∷ [] =
    map-append (λ (h : Given). h.name) front (g ∷ []) ∙ ap (λ (ns : List (List ℕ)). ns ++ g.name ∷ []) front_is ∙ ap (λ (n : List ℕ). earlier ++ n ∷ []) name_is in
    among ∙ sym (ap (λ (ns : List (List ℕ)). ns ++ later) names_is ∙ append_assoc earlier (name ∷ []) later)

by_last : (work : FileWork) (command : Command) (end : Ending) (err : SinkChange) (taken taken_now : List ℕ) (one : RefusesOne work command.file_words end) (g : Given) (line : List ℕ)
    → work.left.given ≡ one.given ++ g ∷ [] → g.name ≡ one.name → RefusesRead g line ⊎ RefusesLarge g line → end ≡ ending Refused [] line
    → work.text_of ≡ known_text (λ name. None) work.given work.left.given → command.Ends work.text_of end → taken_now ≡ taken ++ end.out → GainsUnlessFault err end.err
    → RefusesByCalls command work.given work.left.given taken taken_now err
by_last work command end err taken taken_now one g line last_is name_is refused end_is untold ends took gains =
    by_line work command end err taken taken_now (one.whole.more ++ g ∷ []) one.later line
    (last_is ∙ ap (λ (gs : List Given). gs ++ g ∷ []) one.whole.now_is ∙ append_assoc work.given one.whole.more (g ∷ []))
    (words_given command.file_words one.earlier one.later one.name one.whole.more g one.among one.whole.names_are name_is)
    (inl (record { earlier = one.whole.more; last = g; more_is = refl; ended = one.whole.ended; refused = refused })) end_is untold ends took gains

refusal_by_calls : (work : FileWork) (command : Command) (end : Ending) (err : SinkChange) (taken taken_now : List ℕ) → RefusesOne work command.file_words end ⊎ RefusesAll work command end
    → work.text_of ≡ known_text (λ name. None) work.given work.left.given → command.Ends work.text_of end → taken_now ≡ taken ++ end.out → GainsUnlessFault err end.err
    → RefusesByCalls command work.given work.left.given taken taken_now err
refusal_by_calls work command end err taken taken_now (inl one) untold ends took gains = elim (one.refused) [
  | inl read ↦
      by_last work command end err taken taken_now one (given_of one.name read.given.id read.text true) (refusal_line one.name read.at) read.given.now_is refl
      (inl (record { at = read.at; line_is = refl; ended = refl })) read.end_is untold ends took gains
  | inr large ↦
      by_last work command end err taken taken_now one (given_of one.name large.given.id large.given.bytes large.given.ended) (too_large_line one.name) large.given.now_is refl
      (inr (record { line_is = refl; many = large.given.many })) large.large.end_is untold ends took gains
]
refusal_by_calls work command end err taken taken_now (inr all) untold ends took gains =
    let whole = all.read.whole in
    by_line work command end err taken taken_now whole.more [] all.line whole.now_is (sym whole.names_are ∙ sym (append-nil (names_given whole.more)))
    (inr (record { is = all.is; words = whole.names_are; ended = whole.ended })) all.end_is untold ends took gains

pub refuses_by_calls : (words : List (List ℕ)) (work : FileWork) (job : Job) (status : Status) (out err : SinkChange) (taken taken_now : List ℕ)
    → work.text_of ≡ known_text (λ name. None) work.given work.left.given → out.old ≡ Some taken → out.new ≡ Some taken_now
    → IsRun words work status out err → IsJob words job → status ≡ Refused → RefusesByCalls (command_of job) work.given work.left.given taken taken_now err
refuses_by_calls words work job status out err taken taken_now untold old_is new_is run asked refused = elim (run.written) [
  | inl written ↦ elim (asked_ends job words work run.end asked run.answer) [
    | inl over ↦
        let took : taken_now ≡ taken ++ run.end.out = subst (λ (o : Option (List ℕ)). Appends (Some taken) o run.end.out) new_is
        (subst (λ (o : Option (List ℕ)). Appends o out.new run.end.out) old_is written.out_whole.whole) in
        refusal_by_calls work (command_of job) run.end err taken taken_now (over.refused (sym written.same ∙ refused)) untold over.ends_so took written.err_gains
    | inr none ↦ absurd (cc (none, written.same, refused))
  ]
  | inr (inl by_out) ↦ absurd (cc (by_out.fault, refused))
  | inr (inr by_err) ↦ absurd (cc (by_err.fault, refused))
]
