use Rattle.std.proofs.Common.{◌≡◌, ◌≢◌, inl, inr, ℕ, ◌<◌, List, ℤ, true, false, unsigned_abs, refl, arith, to_z, of_z, ◌∙◌, subst, below_more, lt_of_lt_of_le}
use Rattle.std.specs.Int.{w64}
use Rattle.quadratic_form.specs.Tables.{entry}
use Rattle.elimination.specs.StepEntries.{is_small, other_entry}
use Rattle.elimination.specs.Quotients.{other_by}
use Rattle.elimination.proofs.SmallEntries.{small_size}
use Rattle.elimination.proofs.RowWords.{widened_is}
use Rattle.elimination.proofs.NewRows.{read, narrowed, other_is}
use Rattle.elimination.proofs.step.update_others.Goals as goal
use Rattle.elimination.proofs.step.update_others.Goals.{After-less}

-- what a step leaves by the quotient is the new entry
left_is : (c : After-less) →
    other_by c.args.quotient.now (to_z w64 (of_z w64 c.narrow-in-loop-c.result)) (to_z w64 (of_z w64 c.narrow.result))
    ≡ other_entry c.args.table.now c.args.j (unsigned_abs c.args.quotient.now.a) c.args.r c.loop-c.c
left_is c =
    let k : ℕ = c.loop-c.c in
    let j : ℕ = c.args.j in
    let r : ℕ = c.args.r in
    let t : List (List ℤ) = c.args.table.now in
    let apart : j ≢ r = omega (arith, c.requires.row) in
    let after : j < k = omega (arith, c.requires.row, c.loop-c.invariant.from) in
    other_is t j r k (unsigned_abs c.args.quotient.now.a) (to_z w64 (of_z w64 c.narrow.result)) c.args.quotient.now.p (to_z w64 (of_z w64 c.narrow-in-loop-c.result))
    (narrowed c.at.result c.narrow.result (entry t r k) c.narrow.ensures.value c.narrow.ensures.size
    (read c.at.result (entry t r k) (c.at.ensures.value ∙ c.loop-c.invariant.rest k (omega arith)) (c.requires.entries k c.loop-c.invariant.from c.loop-c-test.true)))
    c.requires.quotient
    (narrowed c.at-in-loop-c.result c.narrow-in-loop-c.result (entry t j k) c.narrow-in-loop-c.ensures.value c.narrow-in-loop-c.ensures.size
    (read c.at-in-loop-c.result (entry t j k) (c.at-in-loop-c.ensures.value ∙ c.loop-c.invariant.others j k apart) (c.requires.pivots k after c.loop-c-test.true)))

pub loop-c-preserved : goal.loop-c-preserved
loop-c-preserved c =
    let k : ℕ = c.loop-c.c in
    let j : ℕ = c.args.j in
    let r : ℕ = c.args.r in
    let divisor : ℕ = unsigned_abs c.args.quotient.now.a in
    let other : ℤ = c.in-Some.other in
    let is : other ≡ other_entry c.args.table.now j divisor r k = c.in-Some.ensures.value ∙ left_is (goal.at.loop-c-preserved c).After-less in
    let small : is_small other ≡ true = c.in-Some.ensures.small in
    let there : entry c.set.new.self r k ≡ other_entry c.args.table.now j divisor r k = c.set.ensures.there ∙ widened_is other (small_size other small) ∙ is in
    record {
      from = omega (arith, c.loop-c.invariant.from);
      value = λ m h g. below_more (λ (m : ℕ). r < m → entry c.set.new.self r m ≡ other_entry c.args.table.now j divisor r m) k
          (λ m g h. c.set.ensures.others r m (inr (omega arith)) ∙ c.loop-c.invariant.value m h g) (λ h. there) m g h;
      small = λ m h g. below_more (λ (m : ℕ). r < m → is_small (other_entry c.args.table.now j divisor r m) ≡ true) k (λ m g h. c.loop-c.invariant.small m h g)
          (λ h. subst (λ (z : ℤ). is_small z ≡ true) is small) m g h;
      rest = λ m h. c.set.ensures.others r m (inr (omega arith)) ∙ c.loop-c.invariant.rest m (omega arith);
      before = λ m h. c.set.ensures.others r m (inr (omega (arith, c.loop-c.invariant.from))) ∙ c.loop-c.invariant.before m h;
      others = λ i m d. c.set.ensures.others i m (inl d) ∙ c.loop-c.invariant.others i m d;
    }

pub returns-in-None-clause-refused : goal.returns-in-None-clause-refused
returns-in-None-clause-refused c =
    let wide : is_small (other_entry c.args.table.now c.args.j (unsigned_abs c.args.quotient.now.a) c.args.r c.loop-c.c) ≡ false =
    subst (λ (z : ℤ). is_small z ≡ false) (left_is (goal.at.returns-in-None-clause-refused c).After-less) (c.in-None.ensures.refused refl) in
    λ e. (c.loop-c.c, (c.loop-c.invariant.from, c.loop-c-test.true, wide))

pub returns-clause-value : goal.returns-clause-value
returns-clause-value c = λ e k h g. c.loop-c.invariant.value k h (lt_of_lt_of_le g c.loop-c-test.false)

pub returns-clause-small : goal.returns-clause-small
returns-clause-small c = λ e k h g. c.loop-c.invariant.small k h (lt_of_lt_of_le g c.loop-c-test.false)
