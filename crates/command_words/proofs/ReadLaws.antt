-- Words as clap splits them, and the job that they ask for.
use Rattle.std.proofs.Common.{◌≡◌, List, [], Err, IsErrOf, refl, sym, ap, ◌∙◌, subst}
use Rattle.std.proofs.lemmas.Option.{same_Some}
use Rattle.clap.specs.Walk.{Row, Text}
use Rattle.command_words.specs.Commands.{word_id, values_in}
use Rattle.command_words.specs.Split.{IsSplit, AreNumbers, AreAll, HasNumbers}
use Rattle.command_words.specs.declared.settings.Setting.{Setting}
use Rattle.command_words.specs.declared.settings.Given.{Given}
use Rattle.command_words.specs.declared.jobs.Job.{Job}
use Rattle.command_words.specs.Settings.{name_of, numbers_for}
use Rattle.command_words.specs.Words.{IsJobOf, IsJob}
use Rattle.command_words.proofs.SplitLaws.{Adds}
use Rattle.command_words.proofs.JobLaws.{job_split, split_account, split_parted}
use Rattle.command_words.proofs.GivenLaws.{one_numbers, all_numbers, same_job}

-- what a walk adds to nothing is what stands there
added_numbers : (rows : List Row) (plain : List Text) (given : List Given) → Adds [] rows plain given → HasNumbers rows given
added_numbers rows plain given adds s = subst (λ (texts : List Text). AreNumbers s texts (numbers_for s given)) (sym (adds.texts_are s)) (adds.numbers s)

-- words are split in one way
record IsSame (c d : Text) (rows more : List Row) : Type 0 where
  command : c ≡ d
  rows_are : rows ≡ more

one_split : (words : List Text) (c d : Text) (rows more : List Row) → IsSplit words c rows → IsSplit words d more → IsSame c d rows more
one_split words c d rows more first second =
    let both : (c, rows) ≡ (d, more) = same_Some (c, rows) (d, more) (sym (split_account words c rows first).1 ∙ (split_account words d more second).1) in
    record { command = ap (λ (p : Text × List Row). p.0) both; rows_are = ap (λ (p : Text × List Row). p.1) both }

pub not_split : (words : List Text) → ((command : Text) (rows : List Row) → IsSplit words command rows → ⊥) → (j : Job) → IsJob words j → ⊥
not_split words none j is = let split_job = job_split words j is in none is.command split_job.rows split_job.split

pub no_numbers : (words : List Text) (command : Text) (rows : List Row) → IsSplit words command rows → (((s : Setting) → AreAll s (values_in (name_of s) rows)) → ⊥) → (j : Job) → IsJob words j → ⊥
no_numbers words command rows split none j is =
    let split_job = job_split words j is in
    let same = one_split words command is.command rows split_job.rows split split_job.split in
    none (λ s. subst (λ (rs : List Row). AreAll s (values_in (name_of s) rs)) (sym same.rows_are)
    (all_numbers s (values_in (name_of s) split_job.rows) (numbers_for s is.given) (added_numbers split_job.rows is.plain is.given split_job.adds s)))

pub is_job : (words : List Text) (command : Text) (rows : List Row) (given : List Given) → IsSplit words command rows → HasNumbers rows given
    → (j : Job) → IsJobOf command (values_in word_id rows) given j → IsJob words j
is_job words command rows given split has j asked =
    let split_parts = split_parted words command rows split (λ s. all_numbers s (values_in (name_of s) rows) (numbers_for s given) (has s)) in
    let same : (s : Setting) → numbers_for s given ≡ numbers_for s split_parts.given =
    λ s. one_numbers s (values_in (name_of s) rows) (numbers_for s given) (numbers_for s split_parts.given) (has s) (added_numbers rows split_parts.plain split_parts.given split_parts.adds s) in
    record {
      command = command;
      behind = split.rest;
      plain = split_parts.plain;
      given = split_parts.given;
      words_are = split.words_are;
      parted = split_parts.parted;
      asked = same_job given split_parts.given same command split_parts.plain j (subst (λ (ws : List Text). IsJobOf command ws given j) split_parts.adds.plain_are asked);
    }

pub not_asked_so : (words : List Text) (command : Text) (rows : List Row) (given : List Given) → IsSplit words command rows → HasNumbers rows given
    → ((j : Job) → IsJobOf command (values_in word_id rows) given j → ⊥) → (j : Job) → IsJob words j → ⊥
not_asked_so words command rows given split has none j is =
    let split_job = job_split words j is in
    let same = one_split words is.command command split_job.rows rows split_job.split split in
    let numbers : (s : Setting) → numbers_for s is.given ≡ numbers_for s given = λ s. one_numbers s (values_in (name_of s) split_job.rows) (numbers_for s is.given) (numbers_for s given)
    (added_numbers split_job.rows is.plain is.given split_job.adds s) (subst (λ (rs : List Row). AreNumbers s (values_in (name_of s) rs) (numbers_for s given)) (sym same.rows_are) (has s)) in
    let plain : is.plain ≡ values_in word_id rows = sym split_job.adds.plain_are ∙ ap (λ (rs : List Row). values_in word_id rs) same.rows_are in
    none j (subst (λ (c : Text). IsJobOf c (values_in word_id rows) given j) same.command
    (subst (λ (ws : List Text). IsJobOf is.command ws given j) plain (same_job is.given given numbers is.command is.plain j is.asked)))

pub err_is : {A E : Type 0} (e f : E) → e ≡ f → IsErrOf {T = A} {E = E} (Err e) f
err_is {A} {E} e f same = subst (λ (x : E). IsErrOf {T = A} {E = E} (Err e) x) same refl
