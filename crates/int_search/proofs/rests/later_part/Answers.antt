use Rattle.std.proofs.Common.{◌≡◌, ℕ, ◌+◌, ◌-◌, List, length, get_or, ℤ, pos, ◌+ℤ◌, ◌*ℤ◌, arith, rules, sym, ap, ◌∙◌, SFits, w64, to_z, subst, [], ◌∷◌, ◌++◌}
use Rattle.std.specs.Int.{w128}
use Rattle.std.proofs.lemmas.Int.{ints, to_z-of_z}
use Rattle.whole_math.specs.Vectors.{dot}
use Rattle.whole_math.proofs.Order.{lins}
use Rattle.quadratic_form.specs.Places.{list_from}
use Rattle.quadratic_form.specs.declared.sizes.TheConstants.{MOST_INTEGERS}
use Rattle.quadratic_form.specs.Tables.{entry}
use Rattle.integer_form.specs.declared.form.Form.{Form}
use Rattle.integer_form.specs.Forms.{integers_of}
use Rattle.int_search.specs.Suffixes.{rest}
use Rattle.int_search.specs.Vectors.{suffix}
use Rattle.int_search.specs.SearchedForm.{search_form}
use Rattle.int_search.proofs.SuffixArrays.{affine_step, affine_end}
use Rattle.int_search.proofs.FormNumbers.{rest_is}
use Rattle.int_search.proofs.rests.later_part.Goals as goal

from_zero : (a b : ℤ) → a ≡ b → pos 0 +ℤ a ≡ b
from_zero a b e = omega (arith, lins)

pub loop-k-init : goal.loop-k-init
loop-k-init c =
    let form : Form = c.args.form.now in
    let z : List ℤ = c.args.z.now in
    let vector_full : length z ≡ MOST_INTEGERS = c.told-z in
    let few_columns = form.columns_to in
    record { total = from_zero _ _ (sym (rest_is form z c.args.i c.requires.place (omega arith))); small = omega arith }

pub loop-k-preserved : goal.loop-k-preserved
loop-k-preserved c =
    let form : Form = c.args.form.now in
    let z : List ℤ = c.args.z.now in
    let k : ℕ = c.loop-k.k in
    let column : ℕ → ℤ = λ r. entry form.l r (3 + c.args.i) in
    let vector_full : length z ≡ MOST_INTEGERS = c.told-z in
    let few_columns = form.columns_to in
    let sum_opens = affine_step column z 3 k (integers_of form) (omega arith) (omega arith) in
    let fits_word : SFits w64 (get_or z k (pos 0)) = search rules in
    let entry_is : c.at.result ≡ column (3 + k) = c.at.ensures.value in
    let product_is : c.product-sum.result ≡ column (3 + k) *ℤ get_or z k (pos 0) = subst (λ (x : ℤ). c.product-sum.result ≡ x *ℤ get_or z k (pos 0)) entry_is (grind (arith, to_z-of_z)) in
    let product_small = c.product-sum.ensures.size in
    let total_so_far = c.loop-k.invariant.total in
    let sum_small = c.loop-k.invariant.small in
    record { total = omega (arith, lins, sum_opens, product_is); small = omega (arith, ints) }

pub returns-clause-value : goal.returns-clause-value
returns-clause-value c =
    let form : Form = c.args.form.now in
    let z : List ℤ = c.args.z.now in
    let n : ℕ = integers_of form in
    let column : ℕ → ℤ = λ r. entry form.l r (3 + c.args.i) in
    let all_taken : c.loop-k.k ≡ n = omega arith in
    let P : ℕ → Type 0 = λ k. to_z w128 c.loop-k.sum-bits +ℤ dot (list_from column (3 + k) (n - k + 1)) (suffix z k n ++ pos 1 ∷ []) ≡ rest (search_form form) (suffix z (c.args.i + 1) n) in
    let sum_is_rest : to_z w128 c.loop-k.sum-bits +ℤ dot (list_from column (3 + n) (n - n + 1)) (suffix z n n ++ pos 1 ∷ []) ≡ rest (search_form form) (suffix z (c.args.i + 1) n) = subst P all_taken c.loop-k.invariant.total in
    let sum_small = c.loop-k.invariant.small in
    let size_is : form.columns - 3 - 1 ≡ n = omega arith in
    let constant_is : c.at-2.result ≡ column (3 + n) = c.at-2.ensures.value ∙ ap (λ j. column (3 + j)) size_is in
    let constant_left = affine_end column z 3 n in
    let fits : SFits w64 c.at-2.result = search rules in
    omega (arith, lins, sum_is_rest, constant_left, constant_is)
