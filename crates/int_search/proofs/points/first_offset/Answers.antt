use Rattle.std.proofs.Common.{◌≡◌, ◌^◌, List, get_or, ℤ, pos, ◌+ℤ◌, ◌*ℤ◌, arith, sym, ◌∙◌, ap}
use Rattle.std.proofs.lemmas.Int.{to_z-of_z}
use Rattle.whole_math.proofs.Words.{as_w128}
use Rattle.int_search.specs.Suffixes.{SearchForm}
use Rattle.int_search.specs.Vectors.{suffix}
use Rattle.int_search.specs.SearchedForm.{search_form}
use Rattle.int_search.proofs.SuffixLaws.{offset-is}
use Rattle.int_search.proofs.points.first_offset.Goals as goal

pub returns-clause-value : goal.returns-clause-value
returns-clause-value c =
    let form : SearchForm = search_form c.args.form.now in
    let z : List ℤ = c.args.z.now in
    let first : ℤ = get_or z 0 (pos 0) in
    let small = c.requires.small 0 in
    let rest_size = c.later_part.ensures.size in
    let read : c.offset_of.result ≡ (pos (2 ^ 30) *ℤ first) +ℤ c.later_part.result = grind (arith, to_z-of_z) in
    as_w128 c.offset_of.result (omega (arith, c.offset_of.ensures.size)) ∙ read ∙ ap (λ v. (pos (2 ^ 30) *ℤ first) +ℤ v) c.later_part.ensures.value ∙ sym (offset-is form first (suffix z 1 form.size))
