use Rattle.std.proofs.Common.{◌≡◌, ◌≢◌, inl, inr, ⊎_elim, ℕ, ◌-◌, ◌^◌, ◌<◌, ◌≤◌, List, ℤ, pos, true, false, unsigned_abs, arith, to_z, of_z, sym, ◌∙◌, refl, subst, eq-or-lt_of_le}
use Rattle.std.proofs.lemmas.Int.{to_z-of_z}
use Rattle.std.specs.Int.{w64, w128}
use Rattle.whole_math.proofs.Words.{as_w64}
use Rattle.quadratic_form.specs.Tables.{entry}
use Rattle.elimination.specs.StepEntries.{is_small, new_entry}
use Rattle.elimination.specs.Quotients.{own_by}
use Rattle.elimination.proofs.SmallEntries.{small_size}
use Rattle.elimination.proofs.RowWords.{widened_is}
use Rattle.elimination.proofs.NewRows.{read, narrowed, own_is, others_are}
use Rattle.elimination.proofs.step.update_row.Goals as goal
use Rattle.elimination.proofs.step.update_row.Goals.{After-of-quotient}

-- the quotient is that of the entry in the pivot's row
p_is : (c : After-of-quotient) → c.of-quotient.result.p ≡ entry c.args.table.now c.args.j c.args.r
p_is c = c.of-quotient.ensures.p ∙ narrowed c.at-2.result c.narrow.result (entry c.args.table.now c.args.j c.args.r) c.narrow.ensures.value c.narrow.ensures.size
    (read c.at-2.result (entry c.args.table.now c.args.j c.args.r) c.at-2.ensures.value (c.requires.pivots c.args.r c.requires.row c.requires.row_in))

a_is : (c : After-of-quotient) → c.of-quotient.result.a ≡ c.args.a
a_is c = c.of-quotient.ensures.a ∙ as_w64 c.narrow-2.result (omega (arith, c.narrow-2.ensures.size)) ∙ c.narrow-2.ensures.value ∙ to_z-of_z w128 c.args.a c.ranges.a

-- what is left of the own entry is the new one
left_is : (c : After-of-quotient) → own_by c.of-quotient.result ((c.args.columns - c.args.j) - 1) (to_z w64 (of_z w64 c.narrow-old.result))
    ≡ new_entry c.args.table.now c.args.j (unsigned_abs c.args.a) (pos ((c.args.columns - c.args.j) - 1)) c.args.r c.args.r
left_is c = own_is c.args.table.now c.args.j c.args.r ((c.args.columns - c.args.j) - 1) c.args.a c.of-quotient.result.a c.of-quotient.result.p (to_z w64 (of_z w64 c.narrow-old.result)) (a_is c) (p_is c)
    (narrowed c.at.result c.narrow-old.result (entry c.args.table.now c.args.r c.args.r) c.narrow-old.ensures.value c.narrow-old.ensures.size
    (read c.at.result (entry c.args.table.now c.args.r c.args.r) c.at.ensures.value (c.requires.entries c.args.r (omega arith) c.requires.row_in)))

-- the entry in the row of the pivot isn't written
pub update_others-requires-clause-quotient : goal.update_others-requires-clause-quotient
update_others-requires-clause-quotient c =
    let apart : c.args.j ≢ c.args.r = omega (arith, c.requires.row) in
    p_is (goal.at.update_others-requires-clause-quotient c).After-of-quotient ∙ sym (c.set.ensures.others c.args.j c.args.r (inl apart))

pub update_others-requires-clause-pivots : goal.update_others-requires-clause-pivots
update_others-requires-clause-pivots c =
    let apart : c.args.j ≢ c.args.r = omega (arith, c.requires.row) in
    λ k h g. subst (λ (z : ℤ). unsigned_abs z ≤ 2 ^ 52) (sym (c.set.ensures.others c.args.j k (inl apart))) (c.requires.pivots k h g)

pub update_others-requires-clause-entries : goal.update_others-requires-clause-entries
update_others-requires-clause-entries c = λ k h g. subst (λ (z : ℤ). unsigned_abs z ≤ 2 ^ 52) (sym (c.set.ensures.others c.args.r k (inr (omega arith)))) (c.requires.entries k (omega arith) g)

pub returns-in-None-clause-refused : goal.returns-in-None-clause-refused
returns-in-None-clause-refused c =
    λ e. (c.args.r, (omega arith, c.requires.row_in, subst (λ (z : ℤ). is_small z ≡ false) (left_is (goal.at.returns-in-None-clause-refused c).After-of-quotient) (c.in-None.ensures.refused refl)))

pub returns-clause-value : goal.returns-clause-value
returns-clause-value c =
    let d = (goal.at.returns-clause-value c).After-of-quotient in
    let j : ℕ = c.args.j in
    let r : ℕ = c.args.r in
    let m : ℕ = (c.args.columns - c.args.j) - 1 in
    let t : List (List ℤ) = c.args.table.now in
    let own : ℤ = c.in-Some.own in
    λ e k h g. ⊎_elim
    (λ (i : r ≡ k). subst (λ (q : ℕ). entry c.update_others.new.table r q ≡ new_entry t j (unsigned_abs c.args.a) (pos m) r q) i
    (c.update_others.ensures.before r (omega arith) ∙ c.set.ensures.there ∙ widened_is own (small_size own c.in-Some.ensures.small) ∙ c.in-Some.ensures.value ∙ left_is d))
    (λ (i : r < k). c.update_others.ensures.value e k i g ∙ others_are t c.set.new.self j r m c.args.a c.of-quotient.result.a c.requires.row (a_is d) c.set.ensures.others k i)
    (eq-or-lt_of_le h)

pub returns-clause-small : goal.returns-clause-small
returns-clause-small c =
    let d = (goal.at.returns-clause-small c).After-of-quotient in
    let j : ℕ = c.args.j in
    let r : ℕ = c.args.r in
    let m : ℕ = (c.args.columns - c.args.j) - 1 in
    let t : List (List ℤ) = c.args.table.now in
    λ e k h g. ⊎_elim
    (λ (i : r ≡ k). subst (λ (q : ℕ). is_small (new_entry t j (unsigned_abs c.args.a) (pos m) r q) ≡ true) i
    (subst (λ (z : ℤ). is_small z ≡ true) (c.in-Some.ensures.value ∙ left_is d) c.in-Some.ensures.small))
    (λ (i : r < k). subst (λ (z : ℤ). is_small z ≡ true) (others_are t c.set.new.self j r m c.args.a c.of-quotient.result.a c.requires.row (a_is d) c.set.ensures.others k i) (c.update_others.ensures.small e k i g))
    (eq-or-lt_of_le h)

pub returns-clause-refused : goal.returns-clause-refused
returns-clause-refused c =
    let d = (goal.at.returns-clause-refused c).After-of-quotient in
    let m : ℕ = (c.args.columns - c.args.j) - 1 in
    λ e. let wide = c.update_others.ensures.refused e in (
      wide.0,
      (
        omega (arith, wide.1.0),
        wide.1.1,
        subst (λ (z : ℤ). is_small z ≡ false)
            (others_are c.args.table.now c.set.new.self c.args.j c.args.r m c.args.a c.of-quotient.result.a c.requires.row (a_is d) c.set.ensures.others wide.0 wide.1.0) wide.1.2,
      ),
    )

pub returns-clause-others : goal.returns-clause-others
returns-clause-others c = λ i k d. c.update_others.ensures.others i k d ∙ c.set.ensures.others i k (inl d)
