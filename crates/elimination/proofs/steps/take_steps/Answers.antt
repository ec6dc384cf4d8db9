use Rattle.std.proofs.Common.{◌≡◌, ◌≢◌, ◌⊎◌, inl, inr, ℕ, suc, ◌+◌, ◌-◌, ◌<◌, ◌≤◌, ◌^◌, List, [], ◌∷◌, ◌++◌, length, set, ℤ, pos, Err, unsigned_abs, slice_index_or, add-one}
use Rattle.std.proofs.Common.{get_or-set_same, get_or-set_other, length-set, arith, to_z, of_z, sym, ap, ap₂, ◌∙◌, subst, rules}
use Rattle.std.specs.Int.{w64, w128}
use Rattle.quadratic_form.specs.Elimination.{Factor, steps, StepsAnswer}
use Rattle.quadratic_form.specs.Places.{form_from}
use Rattle.quadratic_form.specs.Tables.{entry}
use Rattle.elimination.specs.Stops.{refusal_of, column_at, form_after}
use Rattle.integer_form.specs.Factors.{factor_at}
use Rattle.integer_form.specs.Factors.{stored}
use Rattle.elimination.specs.Taken.{before}
use Rattle.whole_math.proofs.Words.{as_w64, as_w128}
use Rattle.elimination.proofs.StoredLaws.{before_last, before_ok, before_err, stored_last, steps_ok, steps_err}
use Rattle.integer_form.proofs.StoredPlaces.{stored_same}
use Rattle.elimination.proofs.steps.take_steps.Goals as goal

pub returns-in-Err-clause-refused : goal.returns-in-Err-clause-refused
returns-in-Err-clause-refused c =
    let j : ℕ = c.loop-j.j in
    let from : ℕ = c.args.from in
    let n : ℕ = (c.args.columns - j) - 1 in
    let left : ℕ = (c.args.end - j) - 1 in
    let low : from ≤ j = search rules in
    let columns_left : c.args.columns - j ≡ suc n = omega (arith, c.loop-j-test.true, c.requires.end_in) in
    let steps_left : c.args.end - j ≡ suc left = omega (arith, c.loop-j-test.true) in
    let factors_before : List Factor = stored c.loop-j.kept c.loop-j.factors c.args.columns from (j - from) in
    let open_it : steps j (c.args.end - j) (form_from (entry c.loop-j.table) j (c.args.columns - j)) ≡ steps j (suc left) (column_at c.loop-j.table j n ∷ form_after c.loop-j.table j n) =
    ap₂ (λ (a b : ℕ). steps j a (form_from (entry c.loop-j.table) j b)) steps_left columns_left in
    let size : unsigned_abs (entry c.loop-j.table j j) ≤ 2 ^ 52 = c.loop-j.invariant.entries j j (omega arith) (omega arith) (omega (arith, c.loop-j-test.true, c.requires.end_in)) in
    let pivot_kept : to_z w128 (of_z w128 c.at-pivot.result) ≡ entry c.loop-j.table j j =
    as_w128 c.at-pivot.result (omega (arith, subst (λ (z : ℤ). unsigned_abs z ≤ 2 ^ 52) (sym c.at-pivot.ensures.value) size)) ∙ c.at-pivot.ensures.value in
    let refusal = refusal_of j (entry c.loop-j.table j j) c.in-Err.stop in
    c.loop-j.invariant.so_far ∙ ap (λ (x : StepsAnswer). before factors_before x) (open_it ∙ steps_err j left (column_at c.loop-j.table j n) (form_after c.loop-j.table j n) refusal c.in-Err.ensures.refused)
    ∙ before_err factors_before refusal
    ∙ ap (λ (z : ℤ). let answer : StepsAnswer = Err (refusal_of j z c.in-Err.stop) in answer) (sym pivot_kept)

pub loop-j-preserved : goal.loop-j-preserved
loop-j-preserved c =
    let j : ℕ = c.loop-j.j in
    let from : ℕ = c.args.from in
    let n : ℕ = (c.args.columns - j) - 1 in
    let left : ℕ = (c.args.end - j) - 1 in
    let low : from ≤ j = search rules in
    let columns_left : c.args.columns - j ≡ suc n = omega (arith, c.loop-j-test.true, c.requires.end_in) in
    let steps_left : c.args.end - j ≡ suc left = omega (arith, c.loop-j-test.true) in
    let factors_before : List Factor = stored c.loop-j.kept c.loop-j.factors c.args.columns from (j - from) in
    let open_it : steps j (c.args.end - j) (form_from (entry c.loop-j.table) j (c.args.columns - j)) ≡ steps j (suc left) (column_at c.loop-j.table j n ∷ form_after c.loop-j.table j n) =
    ap₂ (λ (a b : ℕ). steps j a (form_from (entry c.loop-j.table) j b)) steps_left columns_left in
    let d : ℤ = c.in-Ok.d in
    let kept_word : ℤ = to_z w64 (of_z w64 (to_z w128 (of_z w128 d))) in
    let word_is_kept : kept_word ≡ d = ap (λ z. to_z w64 (of_z w64 z)) (as_w128 d (omega (arith, c.in-Ok.ensures.size))) ∙ as_w64 d (omega (arith, c.in-Ok.ensures.size)) in
    let kept : List ℤ = set c.loop-j.kept j kept_word in
    let factors : List (List ℤ) = c.step.new.factors in
    let table : List (List ℤ) = c.step.new.table in
    let count : ℕ = j - from in
    let place : from + count ≡ j = omega arith in
    let room : j < length c.loop-j.kept = omega (arith, c.loop-j.invariant.full, c.loop-j-test.true, c.requires.end_in, c.requires.columns_in) in
    let here : slice_index_or kept j (pos 0) ≡ d = get_or-set_same c.loop-j.kept j kept_word (pos 0) room ∙ word_is_kept in
    let rest : StepsAnswer = steps (suc j) left (form_after table j n) in
    let same : stored kept factors c.args.columns from count ≡ factors_before =
    stored_same kept c.loop-j.kept factors c.loop-j.factors c.args.columns from count (λ i a b. get_or-set_other c.loop-j.kept j i kept_word (pos 0) (omega arith))
    (λ r i a b. c.in-Ok.ensures.others r i (inl (omega arith))) in
    let more : stored kept factors c.args.columns from (suc count) ≡ factors_before ++ (factor_at d factors j n ∷ []) = stored_last kept factors c.args.columns from count
    ∙ ap (λ (m : ℕ). stored kept factors c.args.columns from count ++ (factor_at (slice_index_or kept m (pos 0)) factors m ((c.args.columns - m) - 1) ∷ [])) place
    ∙ ap₂ (λ (s : List Factor) (z : ℤ). s ++ (factor_at z factors j n ∷ [])) same here in
    let result : before (stored kept factors c.args.columns from (suc count)) rest ≡ before (stored kept factors c.args.columns from ((j + 1) - from))
    (steps (j + 1) (c.args.end - (j + 1)) (form_from (entry table) (j + 1) (c.args.columns - (j + 1)))) =
    ap (λ (m : ℕ). before (stored kept factors c.args.columns from m) rest) (next_count j from low)
    ∙ ap (λ (m : ℕ). before (stored kept factors c.args.columns from ((j + 1) - from)) (steps m left (form_from (entry table) m n))) (sym (add-one j))
    ∙ ap₂ (λ (a b : ℕ). before (stored kept factors c.args.columns from ((j + 1) - from)) (steps (j + 1) a (form_from (entry table) (j + 1) b))) (later c.args.end j) (later c.args.columns j) in
    record {
      full = length-set c.loop-j.kept j kept_word ∙ c.loop-j.invariant.full;
      so_far = c.loop-j.invariant.so_far ∙ ap (λ (x : StepsAnswer). before factors_before x)
          (open_it ∙ steps_ok j left (column_at c.loop-j.table j n) (form_after c.loop-j.table j n) (factor_at d factors j n, form_after table j n) c.in-Ok.ensures.taken)
          ∙ sym (before_last factors_before (factor_at d factors j n) rest) ∙ ap (λ (s : List Factor). before s rest) (sym more) ∙ result;
      factors_outside = λ r i d. c.in-Ok.ensures.others r i (outside from j c.args.end c.args.columns r i low c.loop-j-test.true d) ∙ c.loop-j.invariant.factors_outside r i d;
      kept_outside = λ i d. get_or-set_other c.loop-j.kept j i kept_word (pos 0) (apart from j c.args.end i low c.loop-j-test.true d) ∙ c.loop-j.invariant.kept_outside i d;
      entries = λ r k h l g. c.in-Ok.ensures.small r k (omega arith) l g;
    }
  where
    outside : (from j end n r i : ℕ) → from ≤ j → j < end → ((i < from) ⊎ (end ≤ i)) ⊎ ((r ≤ i) ⊎ (n ≤ r)) → (i ≢ j) ⊎ ((r ≤ j) ⊎ (n ≤ r))
    outside from j end n r i h g (inl (inl d)) = inl (omega arith)
    outside from j end n r i h g (inl (inr d)) = inl (omega arith)
    outside from j end n r i h g (inr (inl d)) = grind arith
    outside from j end n r i h g (inr (inr d)) = inr (inr d)

    apart : (from j end i : ℕ) → from ≤ j → j < end → (i < from) ⊎ (end ≤ i) → i ≢ j
    apart from j end i h g (inl d) = omega arith
    apart from j end i h g (inr d) = omega arith

    next_count : (j from : ℕ) → from ≤ j → suc (j - from) ≡ (j + 1) - from
    next_count j from h = omega arith

    later : (m j : ℕ) → (m - j) - 1 ≡ m - (j + 1)
    later m j = omega arith

pub returns-clause-taken : goal.returns-clause-taken
returns-clause-taken c =
    let j : ℕ = c.loop-j.j in
    let high : j ≤ c.args.end = search rules in
    let all_taken : j ≡ c.args.end = omega (arith, c.loop-j-test.false) in
    let none : c.args.end - c.args.end ≡ 0 = omega arith in
    let factors_before : List Factor = stored c.loop-j.kept c.loop-j.factors c.args.columns c.args.from (c.args.end - c.args.from) in
    c.loop-j.invariant.so_far
    ∙ ap (λ (m : ℕ). before (stored c.loop-j.kept c.loop-j.factors c.args.columns c.args.from (m - c.args.from)) (steps m (c.args.end - m) (form_from (entry c.loop-j.table) m (c.args.columns - m)))) all_taken
    ∙ ap (λ (m : ℕ). before factors_before (steps c.args.end m (form_from (entry c.loop-j.table) c.args.end (c.args.columns - c.args.end)))) none
    ∙ before_ok factors_before (form_from (entry c.loop-j.table) c.args.end (c.args.columns - c.args.end))
