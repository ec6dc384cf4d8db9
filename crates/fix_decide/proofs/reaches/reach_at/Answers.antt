use Rattle.std.proofs.Common.{◌≡◌, ◌^◌, ◌<◌, ℤ, pos, ◌+ℤ◌, ◌-ℤ◌, ◌*ℤ◌, ◌≤ℤ◌, unsigned_abs, to_z, of_z, arith, ap₂, ◌∙◌, subst}
use Rattle.std.proofs.lemmas.Int.{ints}
use Rattle.std.specs.Int.{w64}
use Rattle.quadratic_form.specs.UpperSum.{size}
use Rattle.obs_rows.specs.Data.{number_at}
use Rattle.obs_rows.specs.Integers.{entry_at}
use Rattle.obs_rows.specs.Signals.{cycle}
use Rattle.whole_math.proofs.Words.{as_w64}
use Rattle.fix_decide.proofs.reaches.reach_at.Goals as goal

pub returns-then-size-moved-ge-WIDE-clause-wide : goal.returns-then-size-moved-ge-WIDE-clause-wide
returns-then-size-moved-ge-WIDE-clause-wide c =
    let signal = c.args.signal in
    let n : ℤ = c.integer_at.result in
    let small : unsigned_abs n < 2 ^ 30 = c.integer_at.ensures.size (2 ^ 30) c.requires.z_size (omega arith) in
    let same_integer : to_z w64 (of_z w64 n) ≡ entry_at c.args.z.now c.args.place = as_w64 n (omega (arith, small)) ∙ c.integer_at.ensures.value in
    let centre_is : c.centre_at-centre.result ≡ (number_at c.args.row.now.y signal -ℤ c.args.moved.advance) -ℤ (cycle signal *ℤ entry_at c.args.z.now c.args.place) =
    c.centre_at-centre.ensures.value
    ∙ ap₂ (λ x y. (number_at c.args.row.now.y signal -ℤ x) -ℤ (cycle signal *ℤ y)) (as_w64 c.args.moved.advance (omega (arith, c.requires.moved.advance_in))) same_integer in
    let from = c.requires.moved.rad_from in
    let radius_at_most = c.requires.moved.rad_to in
    let within = c.centre_at-centre.ensures.size in
    let size_is = c.size.ensures in
    let far = c.if-size-moved-ge-WIDE.true in
    let wide : pos (2 ^ 33) ≤ℤ (size c.centre_at-centre.result +ℤ c.args.moved.rad) = omega (arith, ints, from, radius_at_most, within, size_is, far) in
    subst (λ (x : ℤ). pos (2 ^ 33) ≤ℤ (size x +ℤ c.args.moved.rad)) centre_is wide

pub returns-clause-narrow : goal.returns-clause-narrow
returns-clause-narrow c =
    let from = c.requires.moved.rad_from in
    let radius_at_most = c.requires.moved.rad_to in
    let within = c.centre_at-centre.ensures.size in
    let size_is = c.size.ensures in
    let near = c.if-size-moved-ge-WIDE.false in
    record {
      rad_from = omega (arith, ints, from, radius_at_most);
      below = omega (arith, ints, from, radius_at_most, within, size_is, near);
    }
