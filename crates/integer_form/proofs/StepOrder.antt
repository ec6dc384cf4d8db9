-- An answer of the elimination does not depend on the number of its first column.
use Rattle.std.proofs.Common.{◌≡◌, ℕ, zero, suc, ◌^◌, Bool, true, false, int_lt, List, [], ◌∷◌, ℤ, pos, Ok, Err, unsigned_abs, refl, ap, ◌∙◌}
use Rattle.whole_math.specs.Vectors.{len}
use Rattle.quadratic_form.specs.Forms.{Column}
use Rattle.quadratic_form.specs.Elimination.{Factor, weak, wide_factor, wide_entry, kept, factors, next, all_small, form_small, step, with_factor, steps, StepAnswer, StepsAnswer}

step_from : (i j : ℕ) (c : Column) (m : List Column) (p : Factor × List Column) → step i c m ≡ Ok p → step j c m ≡ Ok p
step_from i j c m p e = go (int_lt c.own (pos (2 ^ 20))) e
  where
    l : List ℤ
    l = factors (unsigned_abs c.own) c.others

    rest : List Column
    rest = next (unsigned_abs c.own) (len c.others) c.others m

    tested : StepAnswer
    tested = elim (all_small l) as (λ b. StepAnswer)
        [ false ↦ Err wide_factor | true ↦ elim (form_small rest) [ false ↦ Err wide_entry | true ↦ Ok (record { d = kept (unsigned_abs c.own); l = l }, rest) ] ]

    go : (t : Bool) → elim t as (λ b. StepAnswer) [ true ↦ Err (weak i c.own) | false ↦ tested ] ≡ Ok p →
        elim t as (λ b. StepAnswer) [ true ↦ Err (weak j c.own) | false ↦ tested ] ≡ Ok p
    go true e = absurd cc
    go false e = e

pub steps_from : (i j k : ℕ) (a : List Column) (p : List Factor × List Column) → steps i k a ≡ Ok p → steps j k a ≡ Ok p
steps_from i j zero a p e = e
steps_from i j (suc k) [] p e = e
steps_from i j (suc k) (c ∷ m) p e = first (step i c m) refl (λ b q. steps_from (suc i) (suc j) k b q) e
  where
    second : (f : Factor) (r t : StepsAnswer) → ((q : List Factor × List Column) → r ≡ Ok q → t ≡ Ok q) → with_factor f r ≡ Ok p → with_factor f t ≡ Ok p
    second f (Err n) t ih e = absurd cc
    second f (Ok q) t ih e = ap (λ (x : StepsAnswer). with_factor f x) (ih q refl) ∙ e

    first : (r : StepAnswer) → step i c m ≡ r → ((b : List Column) (q : List Factor × List Column) → steps (suc i) k b ≡ Ok q → steps (suc j) k b ≡ Ok q) →
        elim r as (λ t. StepsAnswer) [ Ok u ↦ with_factor u.0 (steps (suc i) k u.1) | Err n ↦ Err n ] ≡ Ok p →
        elim (step j c m) as (λ t. StepsAnswer) [ Ok u ↦ with_factor u.0 (steps (suc j) k u.1) | Err n ↦ Err n ] ≡ Ok p
    first (Err n) o ih e = absurd cc
    first (Ok u) o ih e = ap (λ (x : StepAnswer). elim x as
        (λ t. StepsAnswer) [ Ok v ↦ with_factor v.0 (steps (suc j) k v.1) | Err n ↦ Err n ]) (step_from i j c m u o)
        ∙ second u.0 (steps (suc i) k u.1) (steps (suc j) k u.1) (λ q. ih u.1 q) e
