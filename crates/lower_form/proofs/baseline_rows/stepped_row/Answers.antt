use Rattle.std.proofs.Common.{◌≡◌, ℕ, zero, suc, ◌<◌, ◌≤◌, ℤ, true, arith, sym, ap, ◌∙◌, subst}
use Rattle.quadratic_form.specs.Tables.{item}
use Rattle.elimination.specs.StepEntries.{is_small}
use Rattle.elimination.specs.RowSteps.{left_after, row_entry}
use Rattle.elimination.proofs.SmallEntries.{small_entry}
use Rattle.elimination.proofs.RowStepLaws.{left_none}
use Rattle.lower_form.specs.FirstRounding.{first_entry}
use Rattle.lower_form.proofs.baseline_rows.stepped_row.Goals as goal

-- a column of the form is one of the normal matrix
inside : (n m k : ℕ) → n ≡ m → k < n → k < m
inside n m k e h = omega (arith, e, h)

pub step_through-requires-clause-row_in : goal.step_through-requires-clause-row_in
step_through-requires-clause-row_in c = omega (arith, c.requires.columns, c.requires.row_in)

pub step_through-requires-clause-pivots : goal.step_through-requires-clause-pivots
step_through-requires-clause-pivots c = λ j k a b g. c.requires.pivots j k a b (inside c.args.front.now.columns c.args.normal.now.columns k c.requires.columns g)

pub step_through-requires-clause-entries : goal.step_through-requires-clause-entries
step_through-requires-clause-entries c = λ k h g. small_entry (item c.first_row.new.row k)
    (c.first_row.ensures.small c.if-not-first_row.false k h (inside c.args.front.now.columns c.args.normal.now.columns k c.requires.columns g))

pub returns-clause-value : goal.returns-clause-value
returns-clause-value c = λ e k h g. c.step_through.ensures.value e k h (inside c.args.normal.now.columns c.args.front.now.columns k (sym c.requires.columns) g)
    ∙ ap (λ (n : ℕ). left_after c.args.pivots.now.rows n c.args.r k c.args.count (item c.first_row.new.row k)) c.requires.columns
    ∙ ap (λ z. left_after c.args.pivots.now.rows c.args.normal.now.columns c.args.r k c.args.count z) (c.first_row.ensures.value c.if-not-first_row.false k h g)

pub returns-clause-small : goal.returns-clause-small
returns-clause-small c = λ e m k a h g. go e m k a h g
  where
    first : (k : ℕ) → c.args.r ≤ k → k < c.args.normal.now.columns → item c.first_row.new.row k ≡ first_entry c.args.normal.now c.args.h c.args.r k
    first k h g = c.first_row.ensures.value c.if-not-first_row.false k h g

    go : c.step_through.result ≡ true → (m k : ℕ) → m ≤ c.args.count → c.args.r ≤ k → k < c.args.normal.now.columns →
        is_small (row_entry (first_entry c.args.normal.now c.args.h) c.args.pivots.now.rows c.args.normal.now.columns m c.args.r k) ≡ true
    go e zero k a h g = subst (λ (z : ℤ). is_small z ≡ true) (first k h g ∙ sym (left_none c.args.pivots.now.rows c.args.normal.now.columns c.args.r k (first_entry c.args.normal.now c.args.h c.args.r k)))
        (c.first_row.ensures.small c.if-not-first_row.false k h g)
    go e (suc m) k a h g = subst (λ (z : ℤ). is_small (left_after c.args.pivots.now.rows c.args.normal.now.columns c.args.r k (suc m) z) ≡ true) (first k h g)
        (subst (λ (n : ℕ). is_small (left_after c.args.pivots.now.rows n c.args.r k (suc m) (item c.first_row.new.row k)) ≡ true) c.requires.columns
        (c.step_through.ensures.small e m k a h (inside c.args.normal.now.columns c.args.front.now.columns k (sym c.requires.columns) g)))
