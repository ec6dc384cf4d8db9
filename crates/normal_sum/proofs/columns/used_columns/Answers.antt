use Rattle.std.proofs.Common.{rules, ◌≡◌, ℕ, ◌+◌, arith, List, [], ◌∷◌, ◌++◌, ℤ, pos, slice_index_or, sym, subst}
use Rattle.quadratic_form.specs.declared.sizes.TheConstants.{BASELINE_COLUMNS}
use Rattle.normal_sum.proofs.ColumnLaws.{AreUsed, one_used, not_used, all_used}
use Rattle.normal_sum.proofs.columns.used_columns.Goals.{then-values-j-ne0, else-values-j-ne0}
use Rattle.normal_sum.proofs.columns.used_columns.Goals as goal

taken : (values : List ℤ) (j : ℕ) (used now : List ℕ) → AreUsed values j used → now ≡ used ++ j ∷ [] → AreUsed values (j + 1) now
taken values j used now u e = subst (λ (l : List ℕ). AreUsed values (j + 1) l) (sym e) (one_used values j used u)

left_out : (values : List ℤ) (j : ℕ) (used now : List ℕ) → AreUsed values j used → now ≡ used → slice_index_or values j (pos 0) ≡ pos 0 → AreUsed values (j + 1) now
left_out values j used now u e z = subst (λ (l : List ℕ). AreUsed values (j + 1) l) (sym e) (not_used values j used u z)

pub loop-j-preserved : goal.loop-j-preserved
loop-j-preserved c = record {
  few = search rules;
  used = elim c.if-values-j-ne0.branch [
    | then-values-j-ne0 w ↦ taken c.args.values.now c.loop-j.j c.loop-j.used.items c.if-values-j-ne0.used.items c.loop-j.invariant.used (search rules)
    | else-values-j-ne0 w ↦ left_out c.args.values.now c.loop-j.j c.loop-j.used.items c.if-values-j-ne0.used.items c.loop-j.invariant.used (search rules) (search rules)
  ];
}

pub returns : goal.returns
returns c = all_used c.args.values.now (BASELINE_COLUMNS + c.args.integers + 1) c.loop-j.used.items (search rules) (omega (arith, c.requires.few)) (λ j h g. c.requires.beyond j (omega (arith, h)) g)
    (subst (λ (n : ℕ). AreUsed c.args.values.now n c.loop-j.used.items) (omega arith) c.loop-j.invariant.used)
