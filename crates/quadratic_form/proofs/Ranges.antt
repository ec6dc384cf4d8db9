-- What an answer of the elimination keeps.
use Rattle.std.proofs.Common.{◌≡◌, ℕ, zero, suc, ◌^◌, ◌-◌, ◌<◌, ◌≤◌, true, ◌&&◌, nat_lt, List, [], ◌∷◌, ℤ, pos, negsuc, ◌≤ℤ◌, ◌<ℤ◌, Ok, Err, unsigned_abs, arith, sym, refl, subst}
use Rattle.std.proofs.lemmas.Int.{ints}
use borrow.Author.Tests.{ltb-true}
use Rattle.std.proofs.lemmas.Bool.{and_parts}
use Rattle.quadratic_form.specs.Forms.{Column}
use Rattle.quadratic_form.specs.Elimination.{kept, Factor, all_small, form_small, step, with_factor, steps, StepAnswer, StepsAnswer}
use Rattle.quadratic_form.specs.LowerSums.{Small, SmallList, SmallForm}
use Rattle.quadratic_form.proofs.LowerSums.{d_range}
use Rattle.quadratic_form.proofs.StepsBelow.{Taken, step_taken}

-- ---- the tests

small_is : (x : ℤ) → nat_lt (unsigned_abs x) (2 ^ 52) ≡ true → Small x
small_is (pos a) e = (omega (arith, ints, ltb-true), omega (arith, ints, ltb-true))
small_is (negsuc a) e = (omega (arith, ints, ltb-true), omega (arith, ints, ltb-true))

list_is : (s : List ℤ) → all_small s ≡ true → SmallList s
list_is [] e = tt
list_is (x ∷ s) e = let both_small : (nat_lt (unsigned_abs x) (2 ^ 52) ≡ true) × (all_small s ≡ true) = and_parts _ _ e in (small_is x both_small.0, list_is s both_small.1)

pub form_is : (a : List Column) → form_small a ≡ true → SmallForm a
form_is [] e = tt
form_is (c ∷ a) e =
    let own_and_rest_small : (nat_lt (unsigned_abs c.own) (2 ^ 52) ≡ true) × ((all_small c.others && form_small a) ≡ true) = and_parts _ _ e in
    let others_and_form_small : (all_small c.others ≡ true) × (form_small a ≡ true) = and_parts _ _ own_and_rest_small.1 in
    (small_is c.own own_and_rest_small.0, list_is c.others others_and_form_small.0, form_is a others_and_form_small.1)

-- ---- the ranges of an answer
pub record InRange (f : Factor) : Type 0 where
  pub low : pos (2 ^ 20 - 1) ≤ℤ f.d
  pub high : f.d <ℤ pos (2 ^ 52)
  pub l : SmallList f.l

abbrev pub AllInRange : List Factor → Type 0
AllInRange [] = Unit {0}
AllInRange (f ∷ fs) = InRange f × AllInRange fs

taken_range : (c : Column) (m : List Column) (u : Factor × List Column) → Taken c m u → Small c.own → InRange u.0
taken_range c m u t s = record { low = subst (λ (z : ℤ). pos (2 ^ 20 - 1) ≤ℤ z) (sym t.d) r.0; high = subst (λ (z : ℤ). z <ℤ pos (2 ^ 52)) (sym t.d) r.1; l = list_is u.0.l t.small_factors }
  where
    from : (x : ℤ) → pos (2 ^ 20) ≤ℤ x → 2 ^ 20 ≤ unsigned_abs x
    from x h = omega (arith, ints)

    to : (x : ℤ) → pos (2 ^ 20) ≤ℤ x → x <ℤ pos (2 ^ 52) → unsigned_abs x < 2 ^ 52
    to x h k = omega (arith, ints)

    r : (pos (2 ^ 20 - 1) ≤ℤ kept (unsigned_abs c.own)) × (kept (unsigned_abs c.own) <ℤ pos (2 ^ 52))
    r = d_range (unsigned_abs c.own) (from c.own t.pivot) (to c.own t.pivot s.1)

pub steps_range : (j k : ℕ) (a : List Column) (p : List Factor × List Column) → steps j k a ≡ Ok p → SmallForm a → AllInRange p.0 × SmallForm p.1
steps_range j zero a p e s =
    let outcome : (List Factor × List Column) = ([], a) in
    let same_outcome : outcome ≡ p = cc in
    subst (λ (z : List Factor × List Column). AllInRange z.0 × SmallForm z.1) same_outcome (tt, s)
steps_range j (suc k) [] p e s =
    let outcome : (List Factor × List Column) = ([], []) in
    let same_outcome : outcome ≡ p = cc in
    subst (λ (z : List Factor × List Column). AllInRange z.0 × SmallForm z.1) same_outcome (tt, tt)
steps_range j (suc k) (c ∷ m) p e s = first (step j c m) refl (λ b q. steps_range (suc j) k b q) e
  where
    second : (u : Factor × List Column) → Taken c m u → (r : StepsAnswer) →
        ((q : List Factor × List Column) → r ≡ Ok q → AllInRange q.0 × SmallForm q.1) → with_factor u.0 r ≡ Ok p → AllInRange p.0 × SmallForm p.1
    second u t (Err i) ih e = absurd cc
    second u t (Ok q) ih e =
        let longer_outcome : (List Factor × List Column) = (u.0 ∷ q.0, q.1) in
        let same_outcome : longer_outcome ≡ p = cc in
        let rest_in_range : AllInRange q.0 × SmallForm q.1 = ih q refl in
        subst (λ (z : List Factor × List Column). AllInRange z.0 × SmallForm z.1) same_outcome ((taken_range c m u t s.0, rest_in_range.0), rest_in_range.1)

    first : (r : StepAnswer) → step j c m ≡ r →
        ((b : List Column) (q : List Factor × List Column) → steps (suc j) k b ≡ Ok q → SmallForm b → AllInRange q.0 × SmallForm q.1) →
        elim r as (λ t. StepsAnswer) [ Ok u ↦ with_factor u.0 (steps (suc j) k u.1) | Err i ↦ Err i ] ≡ Ok p → AllInRange p.0 × SmallForm p.1
    first (Err i) o ih e = absurd cc
    first (Ok u) o ih e =
        let is_taken : Taken c m u = step_taken j c m u o in
        second u is_taken (steps (suc j) k u.1) (λ q i. ih u.1 q i (form_is u.1 is_taken.small_left)) e
