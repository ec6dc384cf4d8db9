-- The rows of a session and the tail of a text have one verdict.
use Rattle.std.proofs.Common.{◌≡◌, inl, inr, ℕ, pos, refl, sym, ap, ◌∙◌, subst, Err}
use Rattle.obs_rows.specs.declared.sessions.Session.{Session}
use Rattle.integer_form.specs.declared.faults.LowerFault.{LowerFault}
use Rattle.integer_form.specs.declared.faults.LowerFault.TheVariants as fault
use Rattle.integer_form.specs.declared.faults.Place.{Place}
use Rattle.integer_form.specs.declared.faults.Place.TheVariants.{Float, Search, Sum}
use Rattle.integer_form.specs.declared.form.Form.{Form}
use Rattle.int_search.specs.ReducedCounts.{IsSearchEnd}
use Rattle.int_search.specs.declared.answer.SearchFault.{SearchFault}
use Rattle.int_search.specs.declared.answer.SearchFault.TheVariants.{Spent as SearchSpent, Overwidth as SearchOverwidth}
use Rattle.fix_decide.specs.Decisions.{IsFormOf, IsSeparated}
use Rattle.cert_data.specs.declared.tails.Tail.{Tail}
use Rattle.cert_data.specs.declared.tails.Tail.TheVariants.{Fixed, Unseparated, Weak, Overwidth, Unsettled, Spent}
use Rattle.cert_data.specs.declared.verdicts.Verdict.{Verdict}
use Rattle.cert_data.specs.declared.verdicts.Verdict.TheVariants.{Certified, Not}
use Rattle.cert_data.specs.declared.verdicts.Cause.TheVariants as cause
use Rattle.cert_check.specs.SameTails.{Says}
use Rattle.cert_check.specs.Settled.{IsRefused, IsBaselineWide, IsSumWide, IsDecision, tail_of}
use Rattle.cert_check.specs.RowDecisions.{IsRowDecision}
use Rattle.cert_check.specs.Verdicts.{IsSaidOf, IsVerdictOf}
use Rattle.cert_check.proofs.SameNumbers.{same_numbers_on}
use Rattle.cert_check.proofs.SameForms.{Found, fix_of, one_found}
use Rattle.cert_check.proofs.Apart.{same_refusal, no_form, no_answer, one_fault, no_move, no_sum, not_wide, as_far}

-- a refusal of the elimination as a verdict
abbrev pub verdict_of : LowerFault → Verdict
verdict_of (fault.Weak column pivot) = Not (cause.Weak column pivot)
verdict_of (fault.Overwidth place) = Not (cause.Overwidth place)

-- a search that ends without an answer as a verdict
abbrev pub fault_verdict : SearchFault → Verdict
fault_verdict SearchSpent = Not cause.Spent
fault_verdict SearchOverwidth = Not (cause.Overwidth Search)

-- ---- where the decision ends
-- the verdict on two least vectors
pub data Final (s : Session) (ratio budget : ℕ) (t : Tail) (d : Found s budget) (v : Verdict) : Type 0 where
  certified : IsSeparated (pos ratio) d.top d.best.p2 → Says t (fix_of s budget d) → v ≡ Certified → Final s ratio budget t d v
  unlike : IsSeparated (pos ratio) d.top d.best.p2 → (Says t (fix_of s budget d) → ⊥) → v ≡ Not cause.Tail → Final s ratio budget t d v
  near : (IsSeparated (pos ratio) d.top d.best.p2 → ⊥) → v ≡ Not cause.Unseparated → Final s ratio budget t d v

pub data Ends (s : Session) (ratio budget : ℕ) (t : Tail) (v : Verdict) : Type 0 where
  given_up : (f : Form) → IsFormOf s f → (e : SearchFault) → IsSearchEnd f budget (Err e) → v ≡ fault_verdict e → Ends s ratio budget t v
  refused : (why : LowerFault) → IsRefused s why → v ≡ verdict_of why → Ends s ratio budget t v
  wide_move : (f : Form) → IsFormOf s f → IsBaselineWide f budget → v ≡ Not (cause.Overwidth Float) → Ends s ratio budget t v
  wide_sum : (f : Form) → IsFormOf s f → IsSumWide s f budget → v ≡ Not (cause.Overwidth Sum) → Ends s ratio budget t v
  decided : (d : Found s budget) → Final s ratio budget t d v → Ends s ratio budget t v

refusal_said : (why : LowerFault) (t : Tail) (v : Verdict) → IsSaidOf (tail_of why) t v → v ≡ verdict_of why
refusal_said (fault.Weak column pivot) t v said = said
refusal_said (fault.Overwidth place) t v said = said

fix_said : (s : Session) (ratio budget : ℕ) (t : Tail) (d : Found s budget) (v : Verdict) → IsSeparated (pos ratio) d.top d.best.p2 → IsSaidOf (fix_of s budget d) t v → Final s ratio budget t d v
fix_said s ratio budget t d Certified far said = certified far said refl
fix_said s ratio budget t d (Not (cause.Weak column pivot)) far said = absurd said
fix_said s ratio budget t d (Not (cause.Overwidth place)) far said = absurd said
fix_said s ratio budget t d (Not cause.Spent) far said = absurd said
fix_said s ratio budget t d (Not cause.Unseparated) far said = absurd said
fix_said s ratio budget t d (Not cause.Tail) far said = unlike far said refl

form_ends : (s : Session) (f : Form) (ratio budget : ℕ) (d t : Tail) (v : Verdict) → IsFormOf s f → IsDecision s f ratio budget d → IsSaidOf d t v → Ends s ratio budget t v
form_ends s f ratio budget (Fixed h m best top) t v of_rows is said =
    let found_form : Found s budget = record { form = f; of_rows = of_rows; h = h; moved = m; best = best; top = top; found = is.0 } in
    decided found_form (fix_said s ratio budget t found_form v is.1 said)
form_ends s f ratio budget (Unseparated h m best top) t v of_rows is said =
    decided (record { form = f; of_rows = of_rows; h = h; moved = m; best = best; top = top; found = is.0 }) (near is.1 said)
form_ends s f ratio budget (Weak column pivot) t v of_rows is said = absurd is
form_ends s f ratio budget (Overwidth place) t v of_rows (inl is) said =
    given_up f of_rows SearchOverwidth is.1.0 (said ∙ ap (λ (p : Place). Not (cause.Overwidth p)) is.0)
form_ends s f ratio budget (Overwidth place) t v of_rows (inr (inl is)) said = wide_move f of_rows is.1 (said ∙ ap (λ (p : Place). Not (cause.Overwidth p)) is.0)
form_ends s f ratio budget (Overwidth place) t v of_rows (inr (inr is)) said = wide_sum f of_rows is.1 (said ∙ ap (λ (p : Place). Not (cause.Overwidth p)) is.0)
form_ends s f ratio budget (Unsettled entry) t v of_rows is said = absurd is
form_ends s f ratio budget (Spent spent) t v of_rows is said = given_up f of_rows SearchSpent is.1.0 said

pub rows_end : (s : Session) (ratio budget : ℕ) (d t : Tail) (v : Verdict) → IsRowDecision s ratio budget d → IsSaidOf d t v → Ends s ratio budget t v
rows_end s ratio budget d t v (inl by) said = refused by.fault by.refused (refusal_said by.fault t v (subst (λ (x : Tail). IsSaidOf x t v) by.tail_is said))
rows_end s ratio budget d t v (inr by) said = form_ends s by.form ratio budget d t v by.of_rows by.decision said

-- ---- one verdict
-- so a tail that says the numbers of one says those of the other
said_too : (s : Session) (budget : ℕ) (t : Tail) (d e : Found s budget) → Says t (fix_of s budget d) → Says t (fix_of s budget e)
said_too s budget (Fixed h m best top) d e said = same_numbers_on h d.h e.h m d.moved e.moved best d.best e.best top d.top e.top said (one_found s budget d e)
said_too s budget (Unseparated h m best top) d e said = absurd said
said_too s budget (Weak column pivot) d e said = absurd said
said_too s budget (Overwidth place) d e said = absurd said
said_too s budget (Unsettled entry) d e said = absurd said
said_too s budget (Spent spent) d e said = absurd said

same_final : (s : Session) (ratio budget : ℕ) (t : Tail) (d e : Found s budget) (v w : Verdict) → Final s ratio budget t d v → Final s ratio budget t e w → v ≡ w
same_final s ratio budget t d e v w (certified far said is) (certified far_too too is_too) = is ∙ sym is_too
same_final s ratio budget t d e v w (certified far said is) (unlike far_too other is_too) = absurd (other (said_too s budget t d e said))
same_final s ratio budget t d e v w (certified far said is) (near close is_too) = absurd (close (as_far s ratio budget d e far))
same_final s ratio budget t d e v w (unlike far other is) (certified far_too said is_too) = absurd (other (said_too s budget t e d said))
same_final s ratio budget t d e v w (unlike far other is) (unlike far_too other_too is_too) = is ∙ sym is_too
same_final s ratio budget t d e v w (unlike far other is) (near close is_too) = absurd (close (as_far s ratio budget d e far))
same_final s ratio budget t d e v w (near close is) (certified far said is_too) = absurd (close (as_far s ratio budget e d far))
same_final s ratio budget t d e v w (near close is) (unlike far other is_too) = absurd (close (as_far s ratio budget e d far))
same_final s ratio budget t d e v w (near close is) (near close_too is_too) = is ∙ sym is_too

pair_up : (s : Session) (ratio budget : ℕ) (t : Tail) (v w : Verdict) → Ends s ratio budget t v → Ends s ratio budget t w → v ≡ w
pair_up s ratio budget t v w (given_up f of_f e a is) (given_up g of_g d b is_too) = is ∙ ap fault_verdict (one_fault s f g budget e d of_f a of_g b) ∙ sym is_too
pair_up s ratio budget t v w (given_up f of_f e a is) (refused why b is_too) = absurd (no_form s why f b of_f)
pair_up s ratio budget t v w (given_up f of_f e a is) (wide_move g of_g b is_too) = absurd (no_answer s f g budget e of_f a of_g b.answered)
pair_up s ratio budget t v w (given_up f of_f e a is) (wide_sum g of_g b is_too) = absurd (no_answer s f g budget e of_f a of_g b.answered)
pair_up s ratio budget t v w (given_up f of_f e a is) (decided d final) = absurd (no_answer s f d.form budget e of_f a d.of_rows d.found.answered)
pair_up s ratio budget t v w (refused why a is) (given_up g of_g e b is_too) = absurd (no_form s why g a of_g)
pair_up s ratio budget t v w (refused why a is) (refused too b is_too) = is ∙ ap verdict_of (same_refusal s why too a b) ∙ sym is_too
pair_up s ratio budget t v w (refused why a is) (wide_move g of_g b is_too) = absurd (no_form s why g a of_g)
pair_up s ratio budget t v w (refused why a is) (wide_sum g of_g b is_too) = absurd (no_form s why g a of_g)
pair_up s ratio budget t v w (refused why a is) (decided e final) = absurd (no_form s why e.form a e.of_rows)
pair_up s ratio budget t v w (wide_move f of_f a is) (given_up g of_g e b is_too) = absurd (no_answer s g f budget e of_g b of_f a.answered)
pair_up s ratio budget t v w (wide_move f of_f a is) (refused why b is_too) = absurd (no_form s why f b of_f)
pair_up s ratio budget t v w (wide_move f of_f a is) (wide_move g of_g b is_too) = is ∙ sym is_too
pair_up s ratio budget t v w (wide_move f of_f a is) (wide_sum g of_g b is_too) = absurd (no_move s f g budget b.best of_f a of_g b.best_is b.narrow)
pair_up s ratio budget t v w (wide_move f of_f a is) (decided e final) = absurd (no_move s f e.form budget e.best of_f a e.of_rows e.found.best_is (not_wide s budget e))
pair_up s ratio budget t v w (wide_sum f of_f a is) (given_up g of_g e b is_too) = absurd (no_answer s g f budget e of_g b of_f a.answered)
pair_up s ratio budget t v w (wide_sum f of_f a is) (refused why b is_too) = absurd (no_form s why f b of_f)
pair_up s ratio budget t v w (wide_sum f of_f a is) (wide_move g of_g b is_too) = absurd (no_move s g f budget a.best of_g b of_f a.best_is a.narrow)
pair_up s ratio budget t v w (wide_sum f of_f a is) (wide_sum g of_g b is_too) = is ∙ sym is_too
pair_up s ratio budget t v w (wide_sum f of_f a is) (decided e final) = absurd (no_sum s f budget e of_f a)
pair_up s ratio budget t v w (decided d final) (given_up g of_g e b is_too) = absurd (no_answer s g d.form budget e of_g b d.of_rows d.found.answered)
pair_up s ratio budget t v w (decided d final) (refused why b is_too) = absurd (no_form s why d.form b d.of_rows)
pair_up s ratio budget t v w (decided d final) (wide_move g of_g b is_too) = absurd (no_move s g d.form budget d.best of_g b d.of_rows d.found.best_is (not_wide s budget d))
pair_up s ratio budget t v w (decided d final) (wide_sum g of_g b is_too) = absurd (no_sum s g budget d of_g b)
pair_up s ratio budget t v w (decided d final) (decided e final_too) = same_final s ratio budget t d e v w final final_too

pub one_verdict : (s : Session) (ratio budget : ℕ) (t : Tail) (v w : Verdict) → IsVerdictOf s ratio budget t v → IsVerdictOf s ratio budget t w → v ≡ w
one_verdict s ratio budget t v w a b = pair_up s ratio budget t v w (rows_end s ratio budget a.decided t v a.decision a.said) (rows_end s ratio budget b.decided t w b.decision b.said)
