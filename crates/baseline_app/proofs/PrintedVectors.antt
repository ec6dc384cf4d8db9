-- The vector of what is certified is near the least-squares vector.
use Rattle.std.proofs.Common.{◌≡◌, ◌^◌, inl, inr, true, ℕ, ℤ, pos, ◌*ℤ◌, List, length, Option, sym, ap, ◌∙◌, subst}
use Rattle.obs_rows.specs.declared.sessions.Session.{Session}
use Rattle.obs_rows.specs.Signals.{fine_signals}
use Rattle.obs_rows.specs.Integers.{integer_count}
use Rattle.integer_form.specs.declared.form.Form.{Form}
use Rattle.integer_form.specs.declared.faults.LowerFault.{LowerFault}
use Rattle.integer_form.specs.declared.faults.LowerFault.TheVariants as fault
use Rattle.fix_decide.specs.Bounds.{StaysAtMost}
use Rattle.fix_decide.specs.Decisions.{IsFormOf, first_of}
use Rattle.fix_decide.proofs.SessionForms.{integers_are, first_length}
use Rattle.fix_decide.proofs.UpperLaws.{top_stays_at_most}
use Rattle.cert_data.specs.declared.tails.Tail.{Tail}
use Rattle.cert_data.specs.declared.tails.Tail.TheVariants.{Fixed, Unseparated, Weak, Overwidth, Unsettled, Spent}
use Rattle.cert_data.specs.declared.verdicts.Verdict.TheVariants.{Certified}
use Rattle.int_search.specs.declared.answer.TwoBest.{TwoBest}
use Rattle.cert_check.specs.Settled.{AreFound, IsDecision, tail_of}
use Rattle.cert_check.specs.RowDecisions.{IsRowDecision}
use Rattle.cert_check.specs.SameTails.{AreSameNumbers}
use Rattle.cert_check.specs.Verdicts.{IsSaidOf, IsVerdictOf}
use Rattle.vector_bound.specs.VectorBounds.{move_units, hundredths_of_mm}
use Rattle.vector_bound.proofs.Sessions.{near_for_rows, wider_distance, rounded_hundredths}
use Rattle.cert_data.specs.declared.outcomes.Answer.{Answer}
use Rattle.report_text.specs.OutcomeText.{answer_text, IsWholeAnswer, is_fixed}
use Rattle.obs_rows.specs.declared.options.Options.{Options}
use Rattle.job_answers.specs.declared.status.Status.TheVariants.{Done}
use Rattle.job_answers.specs.Endings.{Ending}
use Rattle.job_answers.specs.Delivered.{SinkChange}
use Rattle.job_answers.specs.TextJobs.{SaysOfText}
use Rattle.job_answers.specs.SessionJobs.{SaysOfSession}
use Rattle.session_jobs.specs.FixJobs.{AnswersFix}
use Rattle.file_jobs.specs.CertJobs.{check_job}
use Rattle.cert_data.specs.declared.verdicts.Verdict.{Verdict}
use Rattle.baseline_app.specs.PrintedVectors.{KeepsItsBounds, IsNearLeastSquares, SpellsNear}
use Rattle.baseline_app.proofs.Agreements.{done_true, done_certified}

-- where the upper sum bounds the sum of squares
from_above : (s : Session) (h : ℕ) (z m : List ℤ) (top : ℤ) → length z ≡ integer_count s.arcs (fine_signals s.signals)
    → StaysAtMost s.arcs (fine_signals s.signals) s.pairs z m (pos (2 ^ h) *ℤ top) → KeepsItsBounds s h z m top
from_above s h z m top entries above = record {
  units = λ x is. near_for_rows s.arcs (fine_signals s.signals) s.pairs is.normal h z m top x entries is.of_rows above is.bound;
  hundredths = λ x y is rounded. wider_distance s.arcs (fine_signals s.signals) s.pairs z m (move_units x) (hundredths_of_mm y) (rounded_hundredths x y rounded.0)
      (near_for_rows s.arcs (fine_signals s.signals) s.pairs is.normal h z m top x entries is.of_rows above is.bound);
}

-- of rows that are found to be fixed
found_near : (s : Session) (f : Form) (budget h : ℕ) (moved : List ℤ) (best : TwoBest) (top : ℤ) → s.scale ≡ 0 → IsFormOf s f → AreFound s f budget h moved best top
    → KeepsItsBounds s h (first_of best) moved top
found_near s f budget h moved best top fine of_rows found = from_above s h (first_of best) moved top entries
    (subst (λ (k : ℕ). StaysAtMost s.arcs (fine_signals s.signals) s.pairs (first_of best) moved (pos (2 ^ k) *ℤ top)) (sym found.h_is)
    (subst (λ (t : ℤ). StaysAtMost s.arcs (fine_signals s.signals) s.pairs (first_of best) moved (pos (2 ^ f.h) *ℤ t)) (sym found.top_is)
    (top_stays_at_most f.h s.arcs (fine_signals s.signals) s.pairs (first_of best) moved entries)))
  where
    entries : length (first_of best) ≡ integer_count s.arcs (fine_signals s.signals)
    entries = first_length f best found.best_is ∙ found.best_is.size ∙ integers_are s f of_rows fine

-- a text that says the same numbers
same_near : (s : Session) (h k : ℕ) (moved other : List ℤ) (best two : TwoBest) (top over : ℤ) → AreSameNumbers k h other moved two best over top
    → KeepsItsBounds s h (first_of best) moved top → KeepsItsBounds s k (first_of two) other over
same_near s h k moved other best two top over same is =
    subst (λ (n : ℕ). KeepsItsBounds s n (first_of two) other over) (sym same.h_is)
    (subst (λ (z : List ℤ). KeepsItsBounds s h z other over) (sym same.best_is.first_is)
    (subst (λ (m : List ℤ). KeepsItsBounds s h (first_of best) m over) (sym same.moved_is)
    (subst (λ (t : ℤ). KeepsItsBounds s h (first_of best) moved t) (sym same.top_is) is)))

said_near : (s : Session) (h : ℕ) (moved : List ℤ) (best : TwoBest) (top : ℤ) (t : Tail) → KeepsItsBounds s h (first_of best) moved top
    → IsSaidOf (Fixed h moved best top) t Certified → IsNearLeastSquares s t
said_near s h moved best top (Fixed k other two over) is said = same_near s h k moved other best two top over said is
said_near s h moved best top (Unseparated k other two over) is said = absurd said
said_near s h moved best top (Weak column pivot) is said = absurd said
said_near s h moved best top (Overwidth place) is said = absurd said
said_near s h moved best top (Unsettled entry) is said = absurd said
said_near s h moved best top (Spent budget) is said = absurd said

form_near : (s : Session) (f : Form) (ratio budget : ℕ) (d t : Tail) → s.scale ≡ 0 → IsFormOf s f → IsDecision s f ratio budget d → IsSaidOf d t Certified → IsNearLeastSquares s t
form_near s f ratio budget (Fixed h moved best top) t fine of_rows is said = said_near s h moved best top t (found_near s f budget h moved best top fine of_rows is.0) said
form_near s f ratio budget (Unseparated h moved best top) t fine of_rows is said = absurd cc
form_near s f ratio budget (Weak column pivot) t fine of_rows is said = absurd cc
form_near s f ratio budget (Overwidth place) t fine of_rows is said = absurd cc
form_near s f ratio budget (Unsettled entry) t fine of_rows is said = absurd cc
form_near s f ratio budget (Spent spent) t fine of_rows is said = absurd cc

refusal_near : (s : Session) (why : LowerFault) (t : Tail) → IsSaidOf (tail_of why) t Certified → IsNearLeastSquares s t
refusal_near s (fault.Weak column pivot) t said = absurd cc
refusal_near s (fault.Overwidth place) t said = absurd cc

row_near : (s : Session) (ratio budget : ℕ) (d t : Tail) → s.scale ≡ 0 → IsRowDecision s ratio budget d → IsSaidOf d t Certified → IsNearLeastSquares s t
row_near s ratio budget d t fine (inl by) said = refusal_near s by.fault t (subst (λ (x : Tail). IsSaidOf x t Certified) by.tail_is said)
row_near s ratio budget d t fine (inr by) said = form_near s by.form ratio budget d t fine by.of_rows by.decision said

pub certified_near : (s : Session) (ratio budget : ℕ) (t : Tail) → s.scale ≡ 0 → IsVerdictOf s ratio budget t Certified → IsNearLeastSquares s t
certified_near s ratio budget t fine is = row_near s ratio budget is.decided t fine is.decision is.said

-- ---- printed texts
pub fix_near : (text_of : List ℕ → Option (List ℕ)) (base rover nav : List ℕ) (o : Options) (out : SinkChange)
    → (fix : SaysOfSession AnswersFix text_of base rover nav o Done out) → SpellsNear fix.end.out
fix_near text_of base rover nav o out fix =
    let answered = fix.answer in
    let fixed : is_fixed answered.outcome.answer ≡ true = done_true (is_fixed answered.outcome.answer) (sym (ap (λ (e : Ending). e.status) answered.end_is) ∙ fix.status_is) in
    let holds = answered.holds.fixed fixed in
    record {
      cert = holds.cert;
      whole = subst IsWholeAnswer holds.answer_is answered.whole;
      spelled = ap (λ (e : Ending). e.out) answered.end_is ∙ ap (λ (a : Answer). answer_text a) holds.answer_is;
      near = certified_near holds.cert.session holds.cert.ratio holds.cert.budget holds.cert.tail holds.cert.fine holds.certified;
    }

pub check_near : (text_of : List ℕ → Option (List ℕ)) (name : List ℕ) (out : SinkChange) → (check : SaysOfText check_job text_of name Done out) → SpellsNear check.text
check_near text_of name out check =
    let said = check.answer.answer in
    let certified : said.verdict ≡ Certified = done_certified said.verdict (sym (ap (λ (e : Ending). e.status) said.end_is) ∙ check.status_is) in
    record {
      cert = check.answer.cert;
      whole = check.answer.whole;
      spelled = check.answer.spelled;
      near = certified_near check.answer.cert.session check.answer.cert.ratio check.answer.cert.budget check.answer.cert.tail check.answer.cert.fine
          (subst (λ (v : Verdict). IsVerdictOf check.answer.cert.session check.answer.cert.ratio check.answer.cert.budget check.answer.cert.tail v) certified said.is);
    }
