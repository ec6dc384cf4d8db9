use Rattle.std.proofs.Common.{◌≡◌, ◌≢◌, ◌⊎◌, inl, inr, ⊎_elim, ℕ, ◌+◌, ◌^◌, ◌<◌, ◌≤◌, ◌+ℤ◌, ◌-ℤ◌, ◌*ℤ◌, List, ℤ, length, unsigned_abs, arith, sym, ap, ◌∙◌, subst, below_more}
use Rattle.std.proofs.lemmas.Bool.{cases_eq}
use Rattle.quadratic_form.specs.declared.sizes.TheConstants.{BASELINE_COLUMNS}
use Rattle.quadratic_form.specs.Tables.{entry}
use Rattle.obs_rows.specs.SumOfSquares.{share}
use Rattle.normal_sum.specs.Observations.{axis_spread, observation_spread}
use Rattle.normal_sum.proofs.observations.add_observations.Goals as goal

-- after a write of one entry that was as at first, from its own size and that of the others
one_larger : (t m u : List (List ℤ)) (a b i j : ℕ) → unsigned_abs (entry u a b) ≤ unsigned_abs (entry m a b) + 2 ^ 105 → entry m a b ≡ entry t a b →
    ((i ≢ a) ⊎ (j ≢ b) → entry u i j ≡ entry m i j) → unsigned_abs (entry m i j) ≤ unsigned_abs (entry t i j) + 2 ^ 105 → unsigned_abs (entry u i j) ≤ unsigned_abs (entry t i j) + 2 ^ 105
one_larger t m u a b i j own same others before = ⊎_elim
    (λ (e : i ≡ a). ⊎_elim
    (λ (f : j ≡ b). subst (λ (k : ℕ). unsigned_abs (entry u k j) ≤ unsigned_abs (entry t k j) + 2 ^ 105) (sym e)
    (subst (λ (k : ℕ). unsigned_abs (entry u a k) ≤ unsigned_abs (entry t a k) + 2 ^ 105) (sym f) (subst (λ (z : ℤ). unsigned_abs (entry u a b) ≤ unsigned_abs z + 2 ^ 105) same own)))
    (λ (f : j ≡ b → ⊥). kept (inr f)) (cases_eq j b))
    (λ (e : i ≡ a → ⊥). kept (inl e)) (cases_eq i a)
  where
    kept : (i ≢ a) ⊎ (j ≢ b) → unsigned_abs (entry u i j) ≤ unsigned_abs (entry t i j) + 2 ^ 105
    kept w = subst (λ (z : ℤ). unsigned_abs z ≤ unsigned_abs (entry t i j) + 2 ^ 105) (sym (others w)) before

pub loop-axis-preserved : goal.loop-axis-preserved
loop-axis-preserved c =
    let axis : ℕ = c.loop-axis.axis in
    let last : ℕ = BASELINE_COLUMNS + c.args.integers in
    record {
      axes = λ i h. below_more
          (λ (i : ℕ). entry c.add_axis.new.table i last ≡ entry c.args.table.now i last -ℤ (share (length c.args.rows.now) c.args.signal *ℤ axis_spread c.args.rows.now i c.args.signal)) axis
          (λ i below. c.add_axis.ensures.others i last (inl (λ e. omega (arith, e, below))) ∙ c.loop-axis.invariant.axes i below)
          (c.add_axis.ensures.there
          ∙ ap (λ z. z -ℤ (share (length c.args.rows.now) c.args.signal *ℤ axis_spread c.args.rows.now axis c.args.signal)) (c.loop-axis.invariant.others axis last (inl (omega arith)))) i h;
      size = λ i j. one_larger c.args.table.now c.loop-axis.table c.add_axis.new.table axis last i j c.add_axis.ensures.size (c.loop-axis.invariant.others axis last (inl (omega arith)))
          (c.add_axis.ensures.others i j) (c.loop-axis.invariant.size i j);
      others = λ i j w. ⊎_elim (λ (g : axis + 1 ≤ i). c.add_axis.ensures.others i j (inl (λ e. omega (arith, e, g))) ∙ c.loop-axis.invariant.others i j (inl (omega arith)))
          (λ (f : j ≢ last). c.add_axis.ensures.others i j (inr f) ∙ c.loop-axis.invariant.others i j (inr f)) w;
    }

pub returns-clause-axes : goal.returns-clause-axes
returns-clause-axes c = λ i h. c.add_square.ensures.others i (BASELINE_COLUMNS + c.args.integers) (inl (λ e. omega (arith, e, h))) ∙ c.loop-axis.invariant.axes i (omega (arith, c.loop-axis-test.false))

pub returns-clause-square : goal.returns-clause-square
returns-clause-square c =
    let last : ℕ = BASELINE_COLUMNS + c.args.integers in
    c.add_square.ensures.there ∙ ap (λ z. z +ℤ (share (length c.args.rows.now) c.args.signal *ℤ observation_spread c.args.rows.now c.args.signal))
    (c.loop-axis.invariant.others last last (inl (omega arith)))

pub returns-clause-size : goal.returns-clause-size
returns-clause-size c = λ i j.
    let last : ℕ = BASELINE_COLUMNS + c.args.integers in
    one_larger c.args.table.now c.loop-axis.table c.add_square.new.table last last i j c.add_square.ensures.size (c.loop-axis.invariant.others last last (inl (omega arith)))
    (c.add_square.ensures.others i j) (c.loop-axis.invariant.size i j)

pub returns-clause-others : goal.returns-clause-others
returns-clause-others c = λ i j w. ⊎_elim
    (λ (f : j ≢ BASELINE_COLUMNS + c.args.integers). c.add_square.ensures.others i j (inr f) ∙ c.loop-axis.invariant.others i j (inr f))
    (λ (f : (BASELINE_COLUMNS ≤ i) × (i ≢ BASELINE_COLUMNS + c.args.integers)). c.add_square.ensures.others i j (inl f.1) ∙ c.loop-axis.invariant.others i j (inl (omega (arith, f.0)))) w
