use Rattle.std.proofs.Common.{◌≡◌, ℕ, ◌-◌, ◌^◌, ◌<◌, ◌≤◌, List, [], ℤ, pos, unsigned_abs, arith, sym, ap, ◌∙◌, subst, ⊎_elim, replicate}
use Rattle.std.specs.Result.{is_err}
use Rattle.std.proofs.lemmas.Result.{err_from_is_err_and}
use Rattle.std.proofs.lemmas.Bool.{cases_lt}
use Rattle.quadratic_form.specs.Places.{list_from}
use Rattle.quadratic_form.specs.declared.sizes.TheConstants.{MOST_FACTORS}
use Rattle.quadratic_form.proofs.TableLaws.{zero_item}
use Rattle.integer_form.specs.declared.form.Form.{Form}
use Rattle.integer_form.specs.Factors.{stored}
use Rattle.quadratic_form.specs.Tables.{item}
use Rattle.integer_form.specs.FloatPoint.{solved, float_point, HasWide, HasWideBefore}
use Rattle.integer_form.proofs.FloatLaws.{float_item, not_wide}
use Rattle.integer_form.proofs.form.Form.float_of.Goals as goal

-- no column is solved before
nothing : (n : ℕ) (y : List ℤ) → list_from (item y) n (n - n) ≡ []
nothing n y = let nothing_left : n - n ≡ 0 = omega arith in ap (λ (k : ℕ). list_from (item y) n k) nothing_left

whole : (f : Form) (x y : List ℤ) → list_from (item x) 0 (f.columns - 1) ≡ solved (stored f.d f.l f.columns 0 (f.columns - 1))
    (list_from (item y) (f.columns - 1) (f.columns - 1 - (f.columns - 1))) → list_from (item x) 0 (f.columns - 1) ≡ float_point f
whole f x y e = e ∙ ap (λ (s : List ℤ). solved (stored f.d f.l f.columns 0 (f.columns - 1)) s) (nothing (f.columns - 1) y)

-- each number is narrow, those after the columns too
narrow : (f : Form) (x : List ℤ) → ((j : ℕ) → item x j ≡ item (float_point f) j) → ((i : ℕ) → i < f.columns - 1 → unsigned_abs (item x i) < 2 ^ 46) →
    ((i : ℕ) → f.columns - 1 ≤ i → item x i ≡ pos 0) → HasWide (float_point f) → ⊥
narrow f x e h z = not_wide (float_point f) (λ i. subst (λ (a : ℤ). unsigned_abs a < 2 ^ 46) (e i)
    (⊎_elim (λ (l : i < f.columns - 1). h i l) (λ (l : f.columns - 1 ≤ i). subst (λ (a : ℤ). unsigned_abs a < 2 ^ 46) (sym (z i l)) none) (cases_lt i (f.columns - 1))))
  where
    none : unsigned_abs (pos 0) < 2 ^ 46
    none = omega arith

pub returns-clause-ok : goal.returns-clause-ok
returns-clause-ok c = float_item (c.args.self.now.columns - 1) c.solve.new.numbers (float_point c.args.self.now)
    (whole c.args.self.now c.solve.new.numbers (replicate MOST_FACTORS (pos 0)) (c.in_ok-solve.ensures.solved c.args.self.now.d))
    (λ i h. c.in_ok-solve.ensures.outside i h ∙ zero_item MOST_FACTORS i)

pub returns-clause-refused : goal.returns-clause-refused
returns-clause-refused c =
    let zero : (i : ℕ) → c.args.self.now.columns - 1 ≤ i → item c.solve.new.numbers i ≡ pos 0 = λ i h. c.in_ok-solve.ensures.outside i h ∙ zero_item MOST_FACTORS i in
    let same_numbers : (j : ℕ) → item c.solve.new.numbers j ≡ item (float_point c.args.self.now) j =
    float_item (c.args.self.now.columns - 1) c.solve.new.numbers (float_point c.args.self.now)
    (whole c.args.self.now c.solve.new.numbers (replicate MOST_FACTORS (pos 0)) (c.in_ok-solve.ensures.solved c.args.self.now.d)) zero in
    (λ h. absurd cc, λ w. absurd (narrow c.args.self.now c.solve.new.numbers same_numbers c.in_ok-solve.ensures.narrow zero w))

pub returns-in_err-solve-clause-refused : goal.returns-in_err-solve-clause-refused
returns-in_err-solve-clause-refused c =
    let fault = err_from_is_err_and c.from_residual.result c.from_residual.ensures.1 in
    (λ h. wide c.args.self.now (replicate MOST_FACTORS (pos 0)) (c.in_err-solve.ensures.wide c.args.self.now.d), λ w. ap (λ r. is_err r) fault.1)
  where
    wide : (f : Form) (y : List ℤ) → HasWideBefore (f.columns - 1)
        (solved (stored f.d f.l f.columns 0 (f.columns - 1)) (list_from (item y) (f.columns - 1) (f.columns - 1 - (f.columns - 1)))) → HasWide (float_point f)
    wide f y w = let has_wide : HasWideBefore (f.columns - 1) (float_point f) =
        subst (λ (s : List ℤ). HasWideBefore (f.columns - 1) (solved (stored f.d f.l f.columns 0 (f.columns - 1)) s)) (nothing (f.columns - 1) y) w in (has_wide.0, has_wide.1.1)
