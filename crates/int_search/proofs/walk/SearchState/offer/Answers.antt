use Rattle.std.proofs.Common.{rules, ◌≡◌, ℕ, List, ℤ, length, arith, subst, to_z, of_z}
use Rattle.std.specs.Int.{w128}
use Rattle.std.proofs.lemmas.Int.{ints}
use Rattle.quadratic_form.specs.declared.sizes.TheConstants.{MOST_INTEGERS}
use Rattle.int_search.specs.Suffixes.{SearchForm}
use Rattle.int_search.specs.Vectors.{Holds, suffix}
use Rattle.int_search.specs.Images.{image_of}
use Rattle.int_search.specs.Best.{KeepsBest}
use Rattle.int_search.specs.SearchedForm.{search_form}
use Rattle.int_search.specs.SearchStates.{search_image}
use Rattle.int_search.specs.declared.walk.SearchState.{SearchState}
use Rattle.int_search.proofs.SuffixArrays.{suffix-length}
use Rattle.int_search.proofs.SearchStateLaws.{offers_best}
use Rattle.int_search.proofs.walk.SearchState.offer.Goals as goal

pub returns : goal.returns
returns c =
    let form : SearchForm = search_form c.args.form.now in
    let state : SearchState = c.args.self.now in
    let m : List (List ℤ) = c.args.map.now in
    let vector_full : length state.z ≡ MOST_INTEGERS = search rules in
    let few_columns = c.args.form.now.columns_to in
    let suffix_long : length (suffix state.z 0 form.size) ≡ form.size = let suffix_length_is = suffix-length state.z 0 form.size (omega arith) in omega arith in
    let value_fits = c.value_at-p.type_inv in
    let value_kept : to_z w128 (of_z w128 c.value_at-p.result) ≡ c.value_at-p.result = omega (arith, ints) in
    let kept : KeepsBest form.size c.value_at-p.result c.in-Some.y state.best c.offer.new.self =
    subst (λ (n : ℕ). KeepsBest n c.value_at-p.result c.in-Some.y state.best c.offer.new.self) c.requires.size (rw value_kept at c.offer.ensures) in
    let held : Holds form.size c.in-Some.y (search_image c.args.form.now m (suffix state.z 0 form.size)) =
    subst (λ (n : ℕ). Holds n c.in-Some.y (image_of m n (suffix state.z 0 n))) c.requires.size c.in-Some.ensures in
    offers_best form (search_image c.args.form.now m) state c.value_at-p.result c.in-Some.y c.offer.new.self c.requires.can.one_to_one suffix_long c.value_at-p.ensures kept held
