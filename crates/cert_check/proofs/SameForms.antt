-- The rows of a session have one form, with one pair of least vectors and its numbers.
use Rattle.std.proofs.Common.{◌≡◌, ◌-◌, ◌^◌, ℕ, ℤ, pos, List, take, Ok, sym, ap, ◌∙◌, subst}
use Rattle.whole_math.specs.Vectors.{scaled}
use Rattle.quadratic_form.specs.Forms.{Column}
use Rattle.quadratic_form.specs.Elimination.{Factor}
use Rattle.quadratic_form.specs.Rows.{value}
use Rattle.quadratic_form.specs.Lowering.{IsExponent}
use Rattle.quadratic_form.specs.TwoLeast.{TwoLeast}
use Rattle.quadratic_form.proofs.VectorOrder.{first_unique, second_unique}
use Rattle.obs_rows.specs.Signals.{fine_signals, counted}
use Rattle.obs_rows.specs.declared.sessions.Session.{Session}
use Rattle.normal_sum.specs.Values.{form_of}
use Rattle.integer_form.specs.declared.form.Form.{Form}
use Rattle.integer_form.specs.Factors.{stored}
use Rattle.integer_form.specs.Forms.{integers_of, columns_of}
use Rattle.integer_form.specs.Kept.{form_of_table}
use Rattle.integer_form.specs.FloatPoint.{solved}
use Rattle.lower_form.specs.Fronts.{front_of}
use Rattle.lower_form.proofs.Exponents.{exponent_unique}
use Rattle.lower_form.proofs.OneForm.{same_normal, same_front}
use Rattle.int_search.specs.declared.answer.TwoBest.{TwoBest}
use Rattle.int_search.specs.Answers.{IsTwoBest}
use Rattle.fix_decide.specs.UpperSums.{top}
use Rattle.fix_decide.specs.Decisions.{IsFormOf, first_of, second_of, move_of}
use Rattle.cert_data.specs.declared.tails.Tail.{Tail}
use Rattle.cert_data.specs.declared.tails.Tail.TheVariants.{Fixed}
use Rattle.cert_check.specs.SameTails.{AreSameBest, AreSameNumbers}
use Rattle.cert_check.specs.Settled.{AreFound}

-- ---- one form

pub record SameForm (f g : Form) : Type 0 where
  pub h : f.h ≡ g.h
  pub columns : f.columns ≡ g.columns
  pub baseline : stored f.d f.l f.columns 0 3 ≡ stored g.d g.l g.columns 0 3
  pub form : columns_of f ≡ columns_of g

pub same_form : (s : Session) (f g : Form) → IsFormOf s f → IsFormOf s g → SameForm f g
same_form s f g a b =
    let normal = a.normal in
    let other_normal = b.normal in
    let same = same_normal s.arcs (counted s.signals s.scale) s.pairs normal other_normal a.of_rows b.of_rows in
    let same_exponent : f.h ≡ g.h = exponent_unique f.h g.h (form_of normal) a.lowered.exponent (subst (λ (c : List Column). IsExponent g.h c) (sym same.form) b.lowered.exponent) in
    let taken : Ok (stored f.d f.l f.columns 0 3, form_of_table f.p (f.columns - 3)) ≡ Ok (stored g.d g.l g.columns 0 3, form_of_table g.p (g.columns - 3)) =
    sym a.lowered.front ∙ same_front f.h normal other_normal same ∙ ap (λ (e : ℕ). front_of e other_normal) same_exponent ∙ b.lowered.front in
    let pair : (stored f.d f.l f.columns 0 3, form_of_table f.p (f.columns - 3)) ≡ (stored g.d g.l g.columns 0 3, form_of_table g.p (g.columns - 3)) = cc in
    record {
      h = same_exponent;
      columns = a.lowered.columns ∙ same.columns ∙ sym b.lowered.columns;
      baseline = ap (λ (p : List Factor × List Column). p.0) pair;
      form = ap (λ (p : List Factor × List Column). p.1) pair;
    }

-- ---- one pair of least vectors

pub same_best : (f g : Form) (b c : TwoBest) → SameForm f g → IsTwoBest f b → IsTwoBest g c → AreSameBest b c
same_best f g b c same x y =
    let integers : integers_of g ≡ integers_of f = ap (λ (n : ℕ). n - 4) (sym same.columns) in
    let moved : TwoLeast (columns_of f) (pos (integers_of f)) (first_of c) (second_of c) =
    subst (λ (n : ℕ). TwoLeast (columns_of f) (pos n) (first_of c) (second_of c)) integers
    (subst (λ (p : List Column). TwoLeast p (pos (integers_of g)) (first_of c) (second_of c)) (sym same.form) y.least) in
    let first = first_unique (columns_of f) (pos (integers_of f)) (first_of b) (second_of b) (first_of c) (second_of c) x.least moved in
    let second = second_unique (columns_of f) (pos (integers_of f)) (first_of b) (second_of b) (first_of c) (second_of c) x.least moved in
    record {
      first_is = first;
      second_is = second;
      p1_is = x.p1 ∙ (λ t. value (same.form t) (first t)) ∙ sym y.p1;
      p2_is = x.p2 ∙ (λ t. value (same.form t) (second t)) ∙ sym y.p2;
    }

pub same_move : (f g : Form) (z w : List ℤ) → SameForm f g → z ≡ w → move_of f z ≡ move_of g w
same_move f g z w same e = λ t. take 3 (solved (same.baseline t) (scaled (pos (2 ^ 16)) (e t)))

-- the numbers of the rows
pub record Found (s : Session) (budget : ℕ) : Type 0 where
  pub form : Form
  pub of_rows : IsFormOf s form
  pub h : ℕ
  pub moved : List ℤ
  pub best : TwoBest
  pub top : ℤ
  pub found : AreFound s form budget h moved best top

-- as a fix
abbrev pub fix_of : (s : Session) (budget : ℕ) → Found s budget → Tail
fix_of s budget d = Fixed d.h d.moved d.best d.top

pub one_found : (s : Session) (budget : ℕ) (d e : Found s budget) → AreSameNumbers d.h e.h d.moved e.moved d.best e.best d.top e.top
one_found s budget d e =
    let found = d.found in
    let other_found = e.found in
    let form = same_form s d.form e.form d.of_rows e.of_rows in
    let best = same_best d.form e.form d.best e.best form found.best_is other_found.best_is in
    let moved : d.moved ≡ e.moved = found.moved_is ∙ same_move d.form e.form (first_of d.best) (first_of e.best) form best.first_is ∙ sym other_found.moved_is in
    record {
      h_is = found.h_is ∙ form.h ∙ sym other_found.h_is;
      moved_is = moved;
      best_is = best;
      top_is = found.top_is ∙ (λ t. top (form.h t) s.arcs (fine_signals s.signals) s.pairs (best.first_is t) (moved t)) ∙ sym other_found.top_is;
    }
