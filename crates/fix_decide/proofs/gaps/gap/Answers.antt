use Rattle.std.proofs.Common.{◌≡◌, ◌^◌, ◌≤◌, ℤ, pos, ◌+ℤ◌, ◌-ℤ◌, ◌≤ℤ◌, ◌<ℤ◌, unsigned_abs, arith, ap, ◌∙◌}
use Rattle.std.proofs.lemmas.Int.{ints}
use Rattle.quadratic_form.specs.UpperSum.{size}
use Rattle.fix_decide.proofs.Words.{difference_word, gap_word}
use Rattle.fix_decide.proofs.gaps.gap.Goals as goal

record Parts (a b r s : ℤ) : Type 0 where
  a_in : unsigned_abs a ≤ 2 ^ 60
  b_in : unsigned_abs b ≤ 2 ^ 60
  x_from : pos 0 ≤ℤ size (a -ℤ b)
  x_to : size (a -ℤ b) ≤ℤ pos (2 ^ 35)
  r_to : r ≤ℤ pos (2 ^ 33)
  s_to : s ≤ℤ pos (2 ^ 33)
  from : pos 0 ≤ℤ (size (a -ℤ b) +ℤ (r +ℤ s))
  to : (size (a -ℤ b) +ℤ (r +ℤ s)) ≤ℤ pos (2 ^ 34)

parts : (a b r s : ℤ) → pos 0 ≤ℤ r → pos 0 ≤ℤ s → (size a +ℤ r) <ℤ pos (2 ^ 33) → (size b +ℤ s) <ℤ pos (2 ^ 33) → Parts a b r s
parts a b r s h g k l = record {
  a_in = omega (arith, ints);
  b_in = omega (arith, ints);
  x_from = omega (arith, ints);
  x_to = omega (arith, ints);
  r_to = omega (arith, ints);
  s_to = omega (arith, ints);
  from = omega (arith, ints);
  to = omega (arith, ints);
}

pub overflow_add-result : goal.overflow_add-result
overflow_add-result c = omega (arith, ints)

pub returns-clause-value : goal.returns-clause-value
returns-clause-value c =
    let p = c.args.p in
    let q = c.args.q in
    let parts_fit : Parts p.centre q.centre p.rad q.rad = parts p.centre q.centre p.rad q.rad c.requires.p.rad_from c.requires.q.rad_from c.requires.p.below c.requires.q.below in
    let apart_is : c.size-apart.result ≡ size (p.centre -ℤ q.centre) = c.size-apart.ensures ∙ ap size (difference_word p.centre q.centre parts_fit.a_in parts_fit.b_in) in
    gap_word c.size-apart.result (size (p.centre -ℤ q.centre)) p.rad q.rad apart_is parts_fit.x_from parts_fit.x_to c.requires.p.rad_from parts_fit.r_to c.requires.q.rad_from parts_fit.s_to

pub returns-clause-from : goal.returns-clause-from
returns-clause-from c = omega (arith, ints)

pub returns-clause-to : goal.returns-clause-to
returns-clause-to c = omega (arith, ints)
