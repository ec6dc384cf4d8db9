use Rattle.std.proofs.Common.{◌≡◌, ℕ, suc, ◌+◌, ◌^◌, ◌≤◌, List, ℤ, true, unsigned_abs, arith, to_z, sym, refl, subst}
use Rattle.std.proofs.lemmas.Int.{to_z-of_z}
use Rattle.std.specs.Int.{w64}
use Rattle.whole_math.proofs.Words.{as_w64}
use Rattle.quadratic_form.specs.Tables.{entry}
use Rattle.elimination.specs.StepEntries.{is_small}
use Rattle.elimination.specs.RowSteps.{IsLeft}
use Rattle.elimination.proofs.SmallEntries.{small_entry, small_size}
use Rattle.elimination.proofs.RowWords.{word, read, read_size}
use Rattle.elimination.proofs.QuotientSteps.{other_step, no_step, one_more}
use Rattle.elimination.proofs.row_steps.left_by_steps.Goals as goal

pub loop-j-init : goal.loop-j-init
loop-j-init c = record {
  left = λ n r h s. no_step c.args.rows.now n r c.args.c (word c.args.number) _ refl;
  size = subst (λ (z : ℤ). unsigned_abs z ≤ 2 ^ 52) (sym (to_z-of_z w64 c.args.number c.ranges.number)) c.requires.size;
}

pub less-requires-clause-q_size : goal.less-requires-clause-q_size
less-requires-clause-q_size c = read_size c.at.result (entry c.args.rows.now c.loop-j.j c.args.c) c.at.ensures.value (c.requires.entries c.loop-j.j c.loop-j-test.true)

pub loop-j-preserved : goal.loop-j-preserved
loop-j-preserved c =
    let j : ℕ = c.loop-j.j in
    let k : ℕ = c.args.c in
    let q : List (List ℤ) = c.args.rows.now in
    let number : ℤ = word c.args.number in
    let x : ℤ = c.in-Some.less in
    let y : ℤ = to_z w64 c.loop-j.left-bits in
    let small : is_small x ≡ true = c.in-Some.ensures.small in
    let kept : word x ≡ x = as_w64 x (small_size x small) in
    let v : word c.at.result ≡ entry q j k = read c.at.result (entry q j k) c.at.ensures.value (c.requires.entries j c.loop-j-test.true) in
    let next : suc j ≡ j + 1 = omega arith in
    record {
      left = λ n r h s. subst (λ (z : ℤ). IsLeft q n r k (j + 1) number z) (sym kept)
          (one_more q n r k j (j + 1) number x y (c.loop-j.invariant.left n r h s)
          (other_step q n r k c.args.count c.args.quotients.now j c.column.result x y number (word c.at.result) s c.loop-j-test.true (omega (arith, c.requires.count)) c.column.ensures h v c.in-Some.ensures.value)
          small next);
      size = subst (λ (z : ℤ). unsigned_abs z ≤ 2 ^ 52) (sym kept) (small_entry x small);
    }

pub returns-clause-left : goal.returns-clause-left
returns-clause-left c =
    let q : List (List ℤ) = c.args.rows.now in
    let x : ℤ = to_z w64 c.loop-j.left-bits in
    let last : c.loop-j.j ≡ c.args.count = omega arith in
    let number : word c.args.number ≡ c.args.number = to_z-of_z w64 c.args.number c.ranges.number in
    λ n r h s. subst (λ (z : ℤ). IsLeft q n r c.args.c c.args.count z x) number (subst (λ (m : ℕ). IsLeft q n r c.args.c m (word c.args.number) x) last (c.loop-j.invariant.left n r h s))
