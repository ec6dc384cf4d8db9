use Rattle.std.proofs.Common.{◌≡◌, ℕ, List, [], length, get_or, drop, ℤ, pos, ◌+ℤ◌, ◌*ℤ◌, arith, rules, SFits, w64, to_z, subst}
use Rattle.std.specs.Int.{w128}
use Rattle.std.proofs.lemmas.Int.{ints, to_z-of_z}
use Rattle.whole_math.specs.Vectors.{dot}
use Rattle.whole_math.proofs.Order.{lins}
use Rattle.quadratic_form.specs.declared.sizes.TheConstants.{MOST_INTEGERS}
use Rattle.int_search.specs.Vectors.{suffix}
use Rattle.int_search.proofs.ImageLaws.{product_step, product_end}
use Rattle.int_search.proofs.images.row_product.Goals as goal

pub loop-k-preserved : goal.loop-k-preserved
loop-k-preserved c =
    let row : List ℤ = get_or c.args.map.now c.args.row [] in
    let z : List ℤ = c.args.z.now in
    let k : ℕ = c.loop-k.k in
    let vector_full : length z ≡ MOST_INTEGERS = c.told-z in
    let row_full : length row ≡ MOST_INTEGERS = c.requires.map.shape.columns c.args.row c.requires.row_in in
    let product_opens = product_step row z k c.args.size (omega arith) (omega arith) (omega arith) in
    let fits_word : SFits w64 (get_or z k (pos 0)) = search rules in
    let entry_is : c.at.result ≡ get_or row k (pos 0) = c.at.ensures.value in
    let product_is : c.product-sum.result ≡ get_or row k (pos 0) *ℤ get_or z k (pos 0) = subst (λ (x : ℤ). c.product-sum.result ≡ x *ℤ get_or z k (pos 0)) entry_is (grind (arith, to_z-of_z)) in
    let product_small = c.product-sum.ensures.size in
    let total_so_far = c.loop-k.invariant.total in
    let sum_small = c.loop-k.invariant.small in
    record { total = omega (arith, lins, product_opens, product_is); small = omega (arith, ints) }

pub returns-clause-value : goal.returns-clause-value
returns-clause-value c =
    let row : List ℤ = get_or c.args.map.now c.args.row [] in
    let z : List ℤ = c.args.z.now in
    let n : ℕ = c.args.size in
    let all_taken : c.loop-k.k ≡ n = omega arith in
    let P : ℕ → Type 0 = λ k. to_z w128 c.loop-k.sum-bits +ℤ dot (drop k row) (suffix z k n) ≡ dot row (suffix z 0 n) in
    let sum_is_dot : to_z w128 c.loop-k.sum-bits +ℤ dot (drop n row) (suffix z n n) ≡ dot row (suffix z 0 n) = subst P all_taken c.loop-k.invariant.total in
    let none_left = product_end row z n in
    omega (arith, lins, sum_is_dot, none_left)
