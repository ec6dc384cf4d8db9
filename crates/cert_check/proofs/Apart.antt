-- What two decisions on the rows of a session can't be together, and what is the same of both.
use Rattle.std.proofs.Common.{◌≡◌, ℕ, ℤ, pos, List, sym, ap, ◌∙◌, subst, Err}
use Rattle.obs_rows.specs.Signals.{fine_signals, counted}
use Rattle.obs_rows.specs.declared.sessions.Session.{Session}
use Rattle.integer_form.specs.declared.faults.LowerFault.{LowerFault}
use Rattle.integer_form.specs.declared.form.Form.{Form}
use Rattle.integer_form.specs.FloatPoint.{HasWide}
use Rattle.integer_form.specs.ReportedRefusals.{fault_of}
use Rattle.int_search.specs.declared.answer.TwoBest.{TwoBest}
use Rattle.int_search.specs.Answers.{IsTwoBest}
use Rattle.int_search.specs.ReducedCounts.{HasAnswer, IsSearchEnd}
use Rattle.int_search.specs.declared.answer.SearchFault.{SearchFault}
use Rattle.int_search.proofs.EndLaws.{HaveSameColumns, no_fault, same_fault, end_as}
use Rattle.fix_decide.specs.Widths.{AreWide}
use Rattle.fix_decide.specs.Decisions.{IsFormOf, IsSeparated, first_of, move_of}
use Rattle.cert_check.specs.Settled.{IsRefused, IsBaselineWide, IsSumWide}
use Rattle.lower_form.proofs.OneForm.{one_elimination}
use Rattle.cert_check.proofs.SameForms.{Found, same_form, same_best, same_move, one_found}

-- one refusal
pub same_refusal : (s : Session) (why too : LowerFault) → IsRefused s why → IsRefused s too → why ≡ too
same_refusal s why too a b =
    let whole = one_elimination s.arcs (counted s.signals s.scale) s.pairs a.normal b.normal a.h b.h a.of_rows b.of_rows a.exponent b.exponent in
    let same : a.reported.0 ≡ b.reported.0 = cc (a.reported.1.0, b.reported.1.0, whole) in
    a.reported.1.1 ∙ ap fault_of same ∙ sym b.reported.1.1

-- a form that is refused is none
pub no_form : (s : Session) (why : LowerFault) (f : Form) → IsRefused s why → IsFormOf s f → ⊥
no_form s why f a b =
    let whole = one_elimination s.arcs (counted s.signals s.scale) s.pairs b.normal a.normal f.h a.h b.of_rows a.of_rows b.lowered.exponent a.exponent in
    absurd (cc (a.reported.1.0, whole, b.lowered.taken))

-- one form: its search ends alike
same_columns : (s : Session) (f g : Form) → IsFormOf s f → IsFormOf s g → HaveSameColumns f g
same_columns s f g a b = let form = same_form s f g a b in record { columns = form.columns; form = form.form }

pub no_answer : (s : Session) (f g : Form) (budget : ℕ) (e : SearchFault) → IsFormOf s f → IsSearchEnd f budget (Err e) → IsFormOf s g → HasAnswer g budget → ⊥
no_answer s f g budget e a x b y = no_fault g budget e y (end_as f g budget (Err e) (same_columns s f g a b) x)

pub one_fault : (s : Session) (f g : Form) (budget : ℕ) (e d : SearchFault) → IsFormOf s f → IsSearchEnd f budget (Err e) → IsFormOf s g → IsSearchEnd g budget (Err d) → e ≡ d
one_fault s f g budget e d a x b y = same_fault g budget e d (end_as f g budget (Err e) (same_columns s f g a b) x).1 y.1

-- a move that is too large isn't another time narrow
pub no_move : (s : Session) (f g : Form) (budget : ℕ) (b : TwoBest) → IsFormOf s f → IsBaselineWide f budget → IsFormOf s g → IsTwoBest g b → (HasWide (move_of g (first_of b)) → ⊥) → ⊥
no_move s f g budget b of_f a of_g two narrow =
    let form = same_form s f g of_f of_g in
    let best = same_best f g a.best b form a.best_is two in
    narrow (subst HasWide (same_move f g (first_of a.best) (first_of b) form best.first_is) a.wide)

-- nor are the residuals
pub no_sum : (s : Session) (f : Form) (budget : ℕ) (d : Found s budget) → IsFormOf s f → IsSumWide s f budget → ⊥
no_sum s f budget d of_f a =
    let form = same_form s f d.form of_f d.of_rows in
    let best = same_best f d.form a.best d.best form a.best_is d.found.best_is in
    let moved = same_move f d.form (first_of a.best) (first_of d.best) form best.first_is ∙ sym d.found.moved_is in
    d.found.bounded (subst (λ (m : List ℤ). AreWide s.arcs (fine_signals s.signals) s.pairs (first_of d.best) m) moved
    (subst (λ (z : List ℤ). AreWide s.arcs (fine_signals s.signals) s.pairs z (move_of f (first_of a.best))) best.first_is a.wide))

pub not_wide : (s : Session) (budget : ℕ) (d : Found s budget) → HasWide (move_of d.form (first_of d.best)) → ⊥
not_wide s budget d wide = d.found.narrow (subst HasWide (sym d.found.moved_is) wide)

-- the same numbers are as far apart
pub as_far : (s : Session) (ratio budget : ℕ) (d e : Found s budget) → IsSeparated (pos ratio) d.top d.best.p2 → IsSeparated (pos ratio) e.top e.best.p2
as_far s ratio budget d e far =
    let same = one_found s budget d e in
    subst (λ (x : ℤ). IsSeparated (pos ratio) e.top x) same.best_is.p2_is (subst (λ (x : ℤ). IsSeparated (pos ratio) x d.best.p2) same.top_is far)
