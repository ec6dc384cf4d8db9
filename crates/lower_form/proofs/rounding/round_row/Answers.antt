use Rattle.std.proofs.Common.{◌≡◌, inl, inr, ℕ, ◌≤◌, ℤ, true, arith, to_z, of_z, sym, ap, ◌∙◌, subst, below_more}
use Rattle.std.specs.Int.{w128}
use Rattle.quadratic_form.specs.Tables.{entry}
use Rattle.elimination.specs.StepEntries.{is_small}
use Rattle.lower_form.specs.FirstRounding.{first_entry}
use Rattle.elimination.proofs.Words.{wide_w128}
use Rattle.lower_form.proofs.rounding.round_row.Goals as goal

pub loop-c-preserved : goal.loop-c-preserved
loop-c-preserved c =
    let k : ℕ = c.loop-c.c in
    let r : ℕ = c.args.r in
    let rounded_entry : ℤ = c.first_entry-rounded.result in
    let entry_kept : to_z w128 (of_z w128 rounded_entry) ≡ rounded_entry = wide_w128 rounded_entry c.first_entry-rounded.ensures.size in
    let is_first_entry : rounded_entry ≡ first_entry c.args.normal.now c.args.h r k = c.first_entry-rounded.ensures.value in
    let entry_is_small : is_small rounded_entry ≡ true = ap (λ z. is_small z) (sym entry_kept) ∙ sym c.is_small.ensures ∙ c.if-not-is_small.false in
    record {
      from = omega (arith, c.loop-c.invariant.from);
      value = below_more (λ (m : ℕ). r ≤ m → entry c.set.new.self r m ≡ first_entry c.args.normal.now c.args.h r m) k (λ m g h. c.set.ensures.others r m (inr (omega arith))
          ∙ c.loop-c.invariant.value m g h) (λ h. c.set.ensures.there ∙ entry_kept ∙ is_first_entry);
      small = below_more (λ (m : ℕ). r ≤ m → is_small (first_entry c.args.normal.now c.args.h r m) ≡ true) k (λ m g h. c.loop-c.invariant.small m g h)
          (λ h. subst (λ (z : ℤ). is_small z ≡ true) is_first_entry entry_is_small);
      others = λ i m d. c.set.ensures.others i m (inl d) ∙ c.loop-c.invariant.others i m d;
    }

pub returns-clause-value : goal.returns-clause-value
returns-clause-value c = λ e k h g. c.loop-c.invariant.value k (omega (arith, c.loop-c-test.false)) h
