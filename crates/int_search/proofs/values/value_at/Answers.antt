use Rattle.std.proofs.Common.{◌≡◌, ◌-◌, take, arith, sym, ap, ◌∙◌, to_z, of_z}
use Rattle.std.specs.Int.{w128}
use Rattle.std.proofs.lemmas.Int.{ints}
use Rattle.integer_form.specs.Forms.{integers_of, value_of}
use Rattle.int_search.proofs.SuffixArrays.{suffix-all}
use Rattle.int_search.proofs.values.value_at.Goals as goal

pub returns : goal.returns
returns c =
    let value_small = c.value.ensures.size in
    let value_kept : to_z w128 (of_z w128 c.value.result) ≡ c.value.result = omega (arith, ints) in
    let size_is : c.args.form.now.columns - 3 - 1 ≡ integers_of c.args.form.now = omega arith in
    value_kept ∙ c.value.ensures.value ∙ ap (λ m. value_of c.args.form.now (take m c.args.z.now)) size_is ∙ ap (λ v. value_of c.args.form.now v) (sym (suffix-all c.args.z.now (integers_of c.args.form.now)))
