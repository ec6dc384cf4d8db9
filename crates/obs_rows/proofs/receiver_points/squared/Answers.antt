use Rattle.std.proofs.Common.{◌≡◌, length, List, ℤ, pos, get_or, to_z, of_z, arith, ◌∙◌}
use Rattle.std.proofs.lemmas.Int.{ints}
use Rattle.std.specs.Int.{w64}
use Rattle.obs_rows.proofs.ReceiverPointLaws.{three_words, norm_of, plain}
use Rattle.obs_rows.proofs.receiver_points.squared.Goals as goal

pub overflow_add-result-2 : goal.overflow_add-result-2
overflow_add-result-2 c = omega (arith, ints)

pub returns : goal.returns
returns c =
    let point : List ℤ = c.args.point.now in
    let three : length point ≡ 3 = c.told-point in
    three_words c.square.result c.square-2.result c.square-3.result c.square.ensures.from c.square.ensures.to c.square-2.ensures.from c.square-2.ensures.to c.square-3.ensures.from
    c.square-3.ensures.to
    ∙ norm_of point c.square.result c.square-2.result c.square-3.result (to_z w64 (of_z w64 (get_or point 0 (pos 0)))) (to_z w64 (of_z w64 (get_or point 1 (pos 0))))
    (to_z w64 (of_z w64 (get_or point 2 (pos 0)))) three
    (plain (get_or point 0 (pos 0)) (c.requires 0 (pos 0) (omega arith))) (plain (get_or point 1 (pos 0)) (c.requires 1 (pos 0) (omega arith)))
    (plain (get_or point 2 (pos 0)) (c.requires 2 (pos 0) (omega arith)))
    c.square.ensures.value c.square-2.ensures.value c.square-3.ensures.value
