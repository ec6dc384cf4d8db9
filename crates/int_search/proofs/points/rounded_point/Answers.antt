use Rattle.std.proofs.Common.{◌≡◌, ◌<◌, ◌+◌, ◌-◌, ◌^◌, ℕ, replicate, pos, neg_ℤ, arith, ap, ◌∙◌, subst, unsigned_abs, to_z, of_z, w64, rules, refl, length-set}
use Rattle.std.specs.Int.{w128}
use Rattle.std.proofs.lemmas.Int.{ints, to_z-of_z}
use Rattle.whole_math.specs.Rounding.{nearest_div}
use Rattle.quadratic_form.specs.declared.sizes.TheConstants.{MOST_INTEGERS}
use Rattle.integer_form.specs.Forms.{integers_of}
use Rattle.int_search.specs.Suffixes.{SearchForm, rest}
use Rattle.int_search.specs.PlainCount.{rounded}
use Rattle.int_search.specs.Vectors.{suffix}
use Rattle.int_search.specs.SearchedForm.{search_form}
use Rattle.int_search.proofs.PointLaws.{rounded_next, rounded_is_large, rounded_first, small_zero, small_set, zeros_start, zeros_set}
use Rattle.int_search.proofs.points.rounded_point.Goals as goal

pub loop-i-init : goal.loop-i-init
loop-i-init c =
    let form : SearchForm = search_form c.args.form.now in
    let n : ℕ = integers_of c.args.form.now in
    let size_is : n ≡ c.args.form.now.columns - 3 - 1 = omega arith in
    record {
      within = omega arith;
      point = subst (λ (m : ℕ). suffix (replicate MOST_INTEGERS (pos 0)) m n ≡ rounded form (n - m)) size_is (rounded_first form (replicate MOST_INTEGERS (pos 0)));
      small = small_zero MOST_INTEGERS;
      zeros = zeros_start MOST_INTEGERS n;
      room = refl;
    }

pub returns-then-is_large : goal.returns-then-is_large
returns-then-is_large c =
    let form : SearchForm = search_form c.args.form.now in
    let n : ℕ = integers_of c.args.form.now in
    let i : ℕ = c.loop-i.i - 1 in
    let place_within = c.loop-i.invariant.within in
    let back : c.loop-i.i ≡ i + 1 = omega arith in
    let suffix_is_rounded : suffix c.loop-i.z (i + 1) n ≡ rounded form (n - (i + 1)) = subst (λ (m : ℕ). suffix c.loop-i.z m n ≡ rounded form (n - m)) back c.loop-i.invariant.point in
    let rest_small = c.later_part.ensures.size in
    let is_nearest : c.nearest_part-x.result ≡ nearest_div (neg_ℤ c.later_part.result) (2 ^ 30) = grind (arith, to_z-of_z) in
    let nearest_of_rest : c.nearest_part-x.result ≡ nearest_div (neg_ℤ (rest form (suffix c.loop-i.z (i + 1) n))) (2 ^ 30) = is_nearest ∙ ap (λ v. nearest_div (neg_ℤ v) (2 ^ 30)) c.later_part.ensures.value in
    let is_large_entry = c.is_large.ensures.yes (rw c.if-is_large.true (search rules)) in
    let entry_small = c.nearest_part-x.ensures.size in
    rounded_is_large form c.loop-i.z i c.nearest_part-x.result (omega arith) suffix_is_rounded nearest_of_rest (omega (arith, ints))

pub loop-i-preserved : goal.loop-i-preserved
loop-i-preserved c =
    let form : SearchForm = search_form c.args.form.now in
    let n : ℕ = integers_of c.args.form.now in
    let i : ℕ = c.loop-i.i - 1 in
    let place_within = c.loop-i.invariant.within in
    let most = c.args.form.now.columns_to in
    let back : c.loop-i.i ≡ i + 1 = omega arith in
    let suffix_is_rounded : suffix c.loop-i.z (i + 1) n ≡ rounded form (n - (i + 1)) = subst (λ (m : ℕ). suffix c.loop-i.z m n ≡ rounded form (n - m)) back c.loop-i.invariant.point in
    let rest_small = c.later_part.ensures.size in
    let is_nearest : c.nearest_part-x.result ≡ nearest_div (neg_ℤ c.later_part.result) (2 ^ 30) = grind (arith, to_z-of_z) in
    let entry_small = c.nearest_part-x.ensures.size in
    let not_large = c.is_large.ensures.no c.if-is_large.false in
    let entry_below : unsigned_abs c.nearest_part-x.result < 2 ^ 30 = omega (arith, ints) in
    let entry_kept : to_z w64 (of_z w64 (to_z w128 (of_z w128 c.nearest_part-x.result))) ≡ c.nearest_part-x.result = omega (arith, ints) in
    let nearest_of_rest : to_z w64 (of_z w64 (to_z w128 (of_z w128 c.nearest_part-x.result))) ≡ nearest_div (neg_ℤ (rest form (suffix c.loop-i.z (i + 1) n))) (2 ^ 30) = entry_kept ∙ is_nearest
    ∙ ap (λ v. nearest_div (neg_ℤ v) (2 ^ 30)) c.later_part.ensures.value in
    let room = c.loop-i.invariant.room in
    record {
      within = omega arith;
      point = rounded_next form c.loop-i.z i _ (omega arith) (omega arith) suffix_is_rounded nearest_of_rest;
      small = small_set c.loop-i.z i _ c.loop-i.invariant.small (rw entry_kept entry_below);
      zeros = zeros_set c.loop-i.z n i _ (omega arith) c.loop-i.invariant.zeros;
      room = length-set c.loop-i.z i _ ∙ room;
    }

pub returns : goal.returns
returns c =
    let form : SearchForm = search_form c.args.form.now in
    let n : ℕ = integers_of c.args.form.now in
    let all_done : c.loop-i.i ≡ 0 = omega arith in
    let suffix_is_rounded : suffix c.loop-i.z 0 n ≡ rounded form (n - 0) = subst (λ (m : ℕ). suffix c.loop-i.z m n ≡ rounded form (n - m)) all_done c.loop-i.invariant.point in
    let whole_size : n - 0 ≡ n = omega arith in
    record { room = c.loop-i.invariant.room; small = c.loop-i.invariant.small; zeros = c.loop-i.invariant.zeros; is = suffix_is_rounded ∙ ap (rounded form) whole_size }
