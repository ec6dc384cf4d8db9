use Rattle.std.proofs.Common.{◌≡◌, ◌⊎◌, ⊎_elim, inl, inr, ℕ, ◌^◌, ◌<◌, ◌≤◌, List, [], ℤ, pos, unsigned_abs, slice_index_or, arith, sym, ap, ◌∙◌, subst}
use Rattle.std.proofs.lemmas.List.{get_or_past}
use Rattle.quadratic_form.specs.declared.sizes.TheConstants.{MOST_FORM_COLUMNS}
use Rattle.quadratic_form.specs.Tables.{entry, HasShape}
use Rattle.quadratic_form.proofs.TableLaws.{zero_small}
use Rattle.integer_form.proofs.tables.is_form_table.Goals as goal

either : (i : ℕ) → (i < MOST_FORM_COLUMNS) ⊎ (MOST_FORM_COLUMNS ≤ i)
either i = grind arith

-- nothing stands beyond the ends of a table
past : (t : List (List ℤ)) → HasShape MOST_FORM_COLUMNS MOST_FORM_COLUMNS t → (i j : ℕ) → (MOST_FORM_COLUMNS ≤ i) ⊎ (MOST_FORM_COLUMNS ≤ j) → entry t i j ≡ pos 0
past t s i j h = ⊎_elim below right h
  where
    below : MOST_FORM_COLUMNS ≤ i → entry t i j ≡ pos 0
    below g = ap (λ (row : List ℤ). slice_index_or row j (pos 0)) (get_or_past t i [] (omega (arith, s.rows)))

    right : MOST_FORM_COLUMNS ≤ j → entry t i j ≡ pos 0
    right g = ⊎_elim (λ (a : i < MOST_FORM_COLUMNS). get_or_past (slice_index_or t i []) j (pos 0) (omega (arith, s.columns i a))) (λ (a : MOST_FORM_COLUMNS ≤ i). below a) (either i)

-- all places, from those inside
all : (t : List (List ℤ)) → HasShape MOST_FORM_COLUMNS MOST_FORM_COLUMNS t → (P : ℕ → ℕ → Type 0) → ((i j : ℕ) → i < MOST_FORM_COLUMNS → j < MOST_FORM_COLUMNS → P i j) →
    ((i j : ℕ) → (MOST_FORM_COLUMNS ≤ i) ⊎ (MOST_FORM_COLUMNS ≤ j) → P i j) → (i j : ℕ) → P i j
all t s P h o i j = ⊎_elim (λ (a : i < MOST_FORM_COLUMNS). ⊎_elim (λ (b : j < MOST_FORM_COLUMNS). h i j a b) (λ (b : MOST_FORM_COLUMNS ≤ j). o i j (inr b)) (either j))
    (λ (a : MOST_FORM_COLUMNS ≤ i). o i j (inl a)) (either i)

swap : {A B : Type 0} → A ⊎ B → B ⊎ A
swap (inl a) = inr a
swap (inr b) = inl b

pub returns-clause-symmetric : goal.returns-clause-symmetric
returns-clause-symmetric c = λ e. all c.args.p.now c.at-first.ensures.shape (λ i j. entry c.args.p.now i j ≡ entry c.args.p.now j i)
    (λ i j a b. c.loop-r.invariant.symmetric i j (omega (arith, c.loop-r-test.false)) b)
    (λ i j h. past c.args.p.now c.at-first.ensures.shape i j h ∙ sym (past c.args.p.now c.at-first.ensures.shape j i (swap h)))

pub returns-clause-entries : goal.returns-clause-entries
returns-clause-entries c = λ e. all c.args.p.now c.at-first.ensures.shape (λ i j. unsigned_abs (entry c.args.p.now i j) < 2 ^ 52)
    (λ i j a b. c.loop-r.invariant.small i j (omega (arith, c.loop-r-test.false)) b)
    (λ i j h. subst (λ (z : ℤ). unsigned_abs z < 2 ^ 52) (sym (past c.args.p.now c.at-first.ensures.shape i j h)) zero_small)

pub returns-clause-outside : goal.returns-clause-outside
returns-clause-outside c = λ e. all c.args.p.now c.at-first.ensures.shape (λ i j. (c.args.n ≤ i) ⊎ (c.args.n ≤ j) → entry c.args.p.now i j ≡ pos 0)
    (λ i j a b. c.loop-r.invariant.outside i j (omega (arith, c.loop-r-test.false)) b)
    (λ i j h o. past c.args.p.now c.at-first.ensures.shape i j h)
