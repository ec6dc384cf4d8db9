use Rattle.std.proofs.Common.{◌≡◌, ◌+◌, ◌-◌, ◌^◌, [], ◌∷◌, length, pos, ◌*ℤ◌, arith, ap, ◌∙◌, to_z, of_z, rules}
use Rattle.std.specs.Int.{w128}
use Rattle.std.proofs.lemmas.Int.{ints, to_z-of_z}
use Rattle.quadratic_form.specs.declared.sizes.TheConstants.{MOST_INTEGERS}
use Rattle.int_search.specs.Suffixes.{SearchForm, rest}
use Rattle.int_search.specs.Vectors.{suffix}
use Rattle.int_search.specs.SearchedForm.{search_form}
use Rattle.int_search.proofs.FormNumbers.{searchable}
use Rattle.int_search.proofs.SearchStateLaws.{walk_begins}
use Rattle.int_search.proofs.walk.SearchState.begin.Goals as goal

pub returns : goal.returns
returns c =
    let form : SearchForm = search_form c.args.form.now in
    let size_is : c.args.form.now.columns - 3 - 1 ≡ form.size = omega arith in
    let vector_full : length c.args.z ≡ MOST_INTEGERS = search rules in
    let one_level : c.push.new.self ≡ c.untouched_level.result ∷ [] = c.push.ensures ∙ ap (λ t. c.untouched_level.result ∷ t) c.new-stack.ensures in
    let rest_small = c.later_part.ensures.size in
    let rest_kept : to_z w128 (of_z w128 c.later_part.result) ≡ c.later_part.result = omega (arith, ints) in
    let first_low_is : to_z w128 (of_z w128 c.first_low.result) ≡ pos (2 ^ 60) *ℤ form.g = grind (arith, to_z-of_z) in
    walk_begins form c.args.best c.untouched_level.result _ c.args.z c.push.new.self _ _ (searchable c.args.form.now c.requires.some) size_is vector_full c.requires.small one_level
    (rest_kept ∙ c.later_part.ensures.value ∙ ap (λ m. rest form (suffix c.args.z (m - 1 + 1) form.size)) size_is) first_low_is c.untouched_level.ensures
