use Rattle.std.proofs.Common.{◌≡◌, ◌<◌, ◌≤◌, ◌^◌, List, get_or, ℤ, pos, ◌+ℤ◌, arith, unsigned_abs, to_z, of_z, w64, rules, length-set, ap, ◌∙◌}
use Rattle.std.proofs.lemmas.Int.{ints}
use Rattle.std.specs.Int.{w128}
use Rattle.whole_math.proofs.Words.{as_w64, as_w128}
use Rattle.integer_form.specs.Forms.{integers_of}
use Rattle.int_search.specs.Suffixes.{SearchForm}
use Rattle.int_search.specs.PlainCount.{side}
use Rattle.int_search.specs.Vectors.{suffix}
use Rattle.int_search.specs.SearchedForm.{search_form}
use Rattle.int_search.proofs.FormNumbers.{searchable}
use Rattle.int_search.proofs.PointLaws.{point_head, neighbour_set, neighbour_is_large, small_set, zeros_set}
use Rattle.int_search.proofs.points.neighbour_point.Goals as goal

-- the numbers of the calls are their words
further : (x z o p : ℤ) → unsigned_abs z < 2 ^ 30 → unsigned_abs o ≤ 2 ^ 91 → x ≡ to_z w64 (of_z w64 z) +ℤ side (to_z w128 (of_z w128 o)) → o ≡ p → x ≡ z +ℤ side p
further x z o p z_small o_small is o_is = (rw (as_w64 z (omega (arith, z_small)), as_w128 o (omega (arith, o_small))) at is) ∙ ap (λ v. z +ℤ side v) o_is

pub returns-then-is_large : goal.returns-then-is_large
returns-then-is_large c =
    let form : SearchForm = search_form c.args.form.now in
    let z : List ℤ = c.args.z.now in
    let first : ℤ = get_or z 0 (pos 0) in
    let further_entries : List ℤ = suffix z 1 form.size in
    let is_searchable = searchable c.args.form.now c.requires.some in
    let some : 0 < integers_of c.args.form.now = is_searchable.some in
    let most = c.args.form.now.columns_to in
    let room = c.requires.point.room in
    let entry_small = further _ _ _ _ (c.requires.point.small 0) c.first_offset.ensures.size c.one_further-x.ensures.value c.first_offset.ensures.value in
    let size = c.one_further-x.ensures.size in
    let head = point_head form z (omega arith) some c.requires.point.is in
    let large = c.is_large.ensures.yes (rw c.if-is_large.true (search rules)) in
    neighbour_is_large form first c.one_further-x.result further_entries head entry_small (omega (arith, ints))

pub returns : goal.returns
returns c =
    let form : SearchForm = search_form c.args.form.now in
    let z : List ℤ = c.args.z.now in
    let is_searchable = searchable c.args.form.now c.requires.some in
    let some : 0 < integers_of c.args.form.now = is_searchable.some in
    let most = c.args.form.now.columns_to in
    let room = c.requires.point.room in
    let entry_small = further _ _ _ _ (c.requires.point.small 0) c.first_offset.ensures.size c.one_further-x.ensures.value c.first_offset.ensures.value in
    let size = c.one_further-x.ensures.size in
    let word = as_w64 c.one_further-x.result (omega (arith, size)) in
    let small = c.is_large.ensures.no c.if-is_large.false in
    record {
      room = length-set z 0 _ ∙ room;
      small = small_set z 0 _ c.requires.point.small (omega (arith, ints));
      zeros = zeros_set z form.size 0 _ some c.requires.point.zeros;
      is = neighbour_set form z _ (omega arith) some c.requires.point.is (word ∙ entry_small);
    }
