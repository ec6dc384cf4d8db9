use Rattle.std.proofs.Common.{◌≡◌, ⊎_elim, ℕ, suc, ◌+◌, ◌-◌, ◌^◌, ◌<◌, ◌≤◌, nat_lt, true, false, List, ℤ, pos, length, set, length-set, get_or-set_same, get_or-set_other, eq-or-lt_of_le}
use Rattle.std.proofs.Common.{unsigned_abs, to_z, of_z, arith, sym, ap, ◌∙◌, subst, rules}
use Rattle.std.specs.Int.{w64, w128}
use borrow.Author.Tests.{ltb-true}
use Rattle.std.proofs.lemmas.Bool.Decides.{nat_tests}
use Rattle.quadratic_form.specs.Places.{list_from}
use Rattle.integer_form.specs.Factors.{stored}
use Rattle.quadratic_form.specs.Tables.{item}
use Rattle.integer_form.specs.FloatPoint.{solved}
use Rattle.whole_math.proofs.Words.{as_w64, as_w128}
use Rattle.integer_form.proofs.FloatLaws.{solved_more, wide_column}
use Rattle.integer_form.proofs.float_point.solve.Goals as goal

-- the list of the later columns, from one place or the other
moved : (d : List ℤ) (l : List (List ℤ)) (n b j k : ℕ) (x s : List ℤ) → b ≡ suc j → list_from (item x) b (n - 1 - b) ≡ solved (stored d l n b k) s →
    list_from (item x) (suc j) (n - 1 - suc j) ≡ solved (stored d l n (suc j) k) s
moved d l n b j k x s e h = subst (λ (m : ℕ). list_from (item x) m (n - 1 - m) ≡ solved (stored d l n m k) s) e h

pub returns-then-not-is_narrow-clause-wide : goal.returns-then-not-is_narrow-clause-wide
returns-then-not-is_narrow-clause-wide g c = λ d.
    let j : ℕ = c.args.count - 1 - c.loop-k.k in
    let s : List ℤ = list_from (item c.args.numbers.now) c.args.count (c.args.columns - 1 - c.args.count) in
    let start : c.args.count - c.loop-k.k ≡ suc j = omega (arith, c.loop-k-test.true) in
    let place : j + suc c.loop-k.k ≡ c.args.count = omega (arith, c.loop-k-test.true) in
    let word : to_z w128 (of_z w128 c.number_of-number.result) ≡ c.number_of-number.result = as_w128 c.number_of-number.result (omega (arith, c.number_of-number.ensures.size)) in
    let wide : nat_lt (unsigned_abs c.number_of-number.result) (2 ^ 46) ≡ false =
    subst (λ (z : ℤ). nat_lt (unsigned_abs z) (2 ^ 46) ≡ false) word (sym c.is_narrow.ensures ∙ c.if-not-is_narrow.true) in
    wide_column d c.args.l.now c.args.columns j c.loop-k.k c.args.count c.loop-k.numbers s c.number_of-number.result place
    (moved d c.args.l.now c.args.columns (c.args.count - c.loop-k.k) j c.loop-k.k c.loop-k.numbers s start (c.loop-k.invariant.solved d)) c.number_of-number.ensures.value
    (size c.number_of-number.result wide)
  where
    size : (x : ℤ) → nat_lt (unsigned_abs x) (2 ^ 46) ≡ false → 2 ^ 46 ≤ unsigned_abs x
    size x h = grind (arith, nat_tests)

pub loop-k-preserved : goal.loop-k-preserved
loop-k-preserved g c =
    let k : ℕ = c.loop-k.k in
    let j : ℕ = c.args.count - 1 - c.loop-k.k in
    let x : List ℤ = c.loop-k.numbers in
    let v : ℤ = to_z w64 (of_z w64 (to_z w128 (of_z w128 c.number_of-number.result))) in
    let y : List ℤ = set c.loop-k.numbers (c.args.count - 1 - c.loop-k.k) (to_z w64 (of_z w64 (to_z w128 (of_z w128 c.number_of-number.result)))) in
    let s : List ℤ = list_from (item c.args.numbers.now) c.args.count (c.args.columns - 1 - c.args.count) in
    let start : c.args.count - c.loop-k.k ≡ suc j = omega (arith, c.loop-k-test.true) in
    let next : j ≡ c.args.count - (c.loop-k.k + 1) = omega (arith, c.loop-k-test.true) in
    let more : suc k ≡ k + 1 = omega arith in
    let later : suc j < c.args.columns = omega (arith, c.loop-k-test.true, c.requires.count_in) in
    let room : j < length c.loop-k.numbers = omega (arith, c.loop-k.invariant.full, c.requires.columns_in) in
    let word : to_z w128 (of_z w128 c.number_of-number.result) ≡ c.number_of-number.result = as_w128 c.number_of-number.result (omega (arith, c.number_of-number.ensures.size)) in
    let fits : unsigned_abs c.number_of-number.result < 2 ^ 46 =
    size c.number_of-number.result (subst (λ (z : ℤ). nat_lt (unsigned_abs z) (2 ^ 46) ≡ true) word (sym c.is_narrow.ensures ∙ c.if-not-is_narrow.false)) in
    let value : v ≡ c.number_of-number.result = ap (λ z. to_z w64 (of_z w64 z)) word ∙ as_w64 c.number_of-number.result (omega arith) in
    let here : item y j ≡ c.number_of-number.result = get_or-set_same c.loop-k.numbers j v (pos 0) room ∙ value in
    let same : (i : ℕ) → j < i → item y i ≡ item x i = λ i h. get_or-set_other c.loop-k.numbers j i v (pos 0) (omega arith) in
    record {
      full = length-set c.loop-k.numbers j v ∙ c.loop-k.invariant.full;
      solved = λ d. subst (λ (m : ℕ). list_from (item y) m (c.args.columns - 1 - m) ≡ solved (stored d c.args.l.now c.args.columns m (k + 1)) s) next
          (solved_more d c.args.l.now c.args.columns j k x y s c.number_of-number.result later
          (moved d c.args.l.now c.args.columns (c.args.count - c.loop-k.k) j k x s start (c.loop-k.invariant.solved d)) c.number_of-number.ensures.value here same
          ∙ ap (λ (m : ℕ). solved (stored d c.args.l.now c.args.columns j m) s) more);
      narrow = λ i a b. ⊎_elim (λ (e : j ≡ i). subst (λ (m : ℕ). unsigned_abs (item y m) < 2 ^ 46) e (subst (λ (z : ℤ). unsigned_abs z < 2 ^ 46) (sym here) fits))
          (λ (h : j < i). subst (λ (z : ℤ). unsigned_abs z < 2 ^ 46) (sym (same i h)) (c.loop-k.invariant.narrow i (omega arith) b)) (eq-or-lt_of_le {n = j} {m = i} (omega arith));
      outside = λ i a. same i (omega (arith, c.loop-k-test.true)) ∙ c.loop-k.invariant.outside i a;
    }
  where
    size : (x : ℤ) → nat_lt (unsigned_abs x) (2 ^ 46) ≡ true → unsigned_abs x < 2 ^ 46
    size x h = omega (arith, ltb-true)

pub returns-clause-solved : goal.returns-clause-solved
returns-clause-solved g c = λ d.
    let ended : c.loop-k.k ≤ c.args.count = search rules in
    let all : c.loop-k.k ≡ c.args.count = omega (arith, c.loop-k-test.false) in
    let none : c.args.count - c.loop-k.k ≡ 0 = omega arith in
    let left : c.args.columns - 1 - 0 ≡ c.args.columns - 1 = omega arith in
    let s : List ℤ = list_from (item c.args.numbers.now) c.args.count (c.args.columns - 1 - c.args.count) in
    sym (ap (λ (m : ℕ). list_from (item c.loop-k.numbers) 0 m) left)
    ∙ subst (λ (m : ℕ). list_from (item c.loop-k.numbers) m (c.args.columns - 1 - m) ≡ solved (stored d c.args.l.now c.args.columns m c.loop-k.k) s) none (c.loop-k.invariant.solved d)
    ∙ ap (λ (m : ℕ). solved (stored d c.args.l.now c.args.columns 0 m) s) all
