use Rattle.std.proofs.Common.{◌≡◌, ℕ, ◌-◌, ◌<◌, ◌≤◌, ◌^◌, ℤ, pos, true, false, unsigned_abs, arith, to_z, of_z, sym, ap, ◌∙◌, subst, below_more}
use Rattle.std.proofs.lemmas.Int.{to_z-of_z}
use Rattle.std.specs.Int.{w128}
use Rattle.quadratic_form.specs.Tables.{entry}
use Rattle.elimination.specs.StepEntries.{is_small, new_entry}
use Rattle.elimination.proofs.NewEntries.{new_same}
use Rattle.elimination.proofs.step.update.Goals as goal

pub update_row-requires-clause-pivots : goal.update_row-requires-clause-pivots
update_row-requires-clause-pivots c = λ k h g. subst (λ (z : ℤ). unsigned_abs z ≤ 2 ^ 52) (sym (c.loop-r.invariant.before c.args.j k (omega arith))) (c.requires.pivots k h g)

pub update_row-requires-clause-entries : goal.update_row-requires-clause-entries
update_row-requires-clause-entries c = λ k h g. subst (λ (z : ℤ). unsigned_abs z ≤ 2 ^ 52) (sym (c.loop-r.invariant.rest c.loop-r.r k (omega arith)))
    (c.requires.entries c.loop-r.r k c.loop-r.invariant.from h g)

pub loop-r-preserved : goal.loop-r-preserved
loop-r-preserved c =
    let r : ℕ = c.loop-r.r in
    let j : ℕ = c.args.j in
    let divisor : ℕ = unsigned_abs (to_z w128 (of_z w128 c.args.a)) in
    let n : ℤ = pos ((c.args.columns - c.args.j) - 1) in
    let same : (k : ℕ) → new_entry c.loop-r.table j divisor n r k ≡ new_entry c.args.table.now j divisor n r k =
    λ k. new_same c.args.table.now c.loop-r.table j divisor n r k (λ q. c.loop-r.invariant.rest r q (omega arith)) (λ q. c.loop-r.invariant.before j q (omega arith)) in
    let done : c.update_row.result ≡ true = c.if-not-update_row.false in
    record {
      from = omega (arith, c.loop-r.invariant.from);
      value = λ m q h g. below_more (λ (m : ℕ). j < m → m ≤ q → q < c.args.columns → entry c.update_row.new.table m q ≡ new_entry c.args.table.now j divisor n m q) r
          (λ m h g l o. c.update_row.ensures.others m q (omega arith) ∙ c.loop-r.invariant.value m q h g l o) (λ g l o. c.update_row.ensures.value done q l o ∙ same q) m h g;
      small = λ m q h g. below_more (λ (m : ℕ). j < m → m ≤ q → q < c.args.columns → is_small (new_entry c.args.table.now j divisor n m q) ≡ true) r
          (λ m h g l o. c.loop-r.invariant.small m q h g l o) (λ g l o. subst (λ (z : ℤ). is_small z ≡ true) (same q) (c.update_row.ensures.small done q l o)) m h g;
      rest = λ m q h. c.update_row.ensures.others m q (omega arith) ∙ c.loop-r.invariant.rest m q (omega arith);
      before = λ m q h. c.update_row.ensures.others m q (omega (arith, c.loop-r.invariant.from)) ∙ c.loop-r.invariant.before m q h;
    }

pub returns-then-not-update_row-clause-refused : goal.returns-then-not-update_row-clause-refused
returns-then-not-update_row-clause-refused c =
    let r : ℕ = c.loop-r.r in
    let j : ℕ = c.args.j in
    let n : ℤ = pos ((c.args.columns - c.args.j) - 1) in
    let divisor_kept : to_z w128 (of_z w128 c.args.a) ≡ c.args.a = to_z-of_z w128 c.args.a c.ranges.a in
    let not_updated = c.update_row.ensures.refused c.if-not-update_row.true in
    let same : new_entry c.loop-r.table j (unsigned_abs (to_z w128 (of_z w128 c.args.a))) n r not_updated.0 ≡ new_entry c.args.table.now j (unsigned_abs c.args.a) n r not_updated.0 =
    new_same c.args.table.now c.loop-r.table j (unsigned_abs (to_z w128 (of_z w128 c.args.a))) n r not_updated.0 (λ q. c.loop-r.invariant.rest r q (omega arith))
    (λ q. c.loop-r.invariant.before j q (omega arith)) ∙ ap (λ z. new_entry c.args.table.now j (unsigned_abs z) n r not_updated.0) divisor_kept in
    λ e. (r, not_updated.0, (c.loop-r.invariant.from, not_updated.1.0, not_updated.1.1, subst (λ (z : ℤ). is_small z ≡ false) same not_updated.1.2))

pub returns-clause-value : goal.returns-clause-value
returns-clause-value c =
    let divisor_kept : to_z w128 (of_z w128 c.args.a) ≡ c.args.a = to_z-of_z w128 c.args.a c.ranges.a in
    let last : c.args.columns ≤ c.loop-r.r = c.loop-r-test.false in
    λ e r k h l g. c.loop-r.invariant.value r k (omega arith) h l g ∙ ap (λ z. new_entry c.args.table.now c.args.j (unsigned_abs z) (pos ((c.args.columns - c.args.j) - 1)) r k) divisor_kept
