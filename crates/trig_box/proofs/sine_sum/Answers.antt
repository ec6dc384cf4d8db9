use Rattle.std.proofs.Common.{◌≡◌, [], ◌∷◌}
use Rattle.trig_box.specs.Chain.{summed}
use Rattle.trig_box.proofs.Lists.{summed_cons, summed_one}
use Rattle.trig_box.proofs.sine_sum.Goals as goal

pub returns-clause-value : goal.returns-clause-value
returns-clause-value c =
    let z = c.args.z in
    let second_sum_is : c.sum_step-inner.result ≡ summed (12966 ∷ 38 ∷ []) z =
    summed_cons 12966 (38 ∷ []) z c.sum_step-inner.result 38 (summed_one 38 z) c.sum_step-inner.ensures.value in
    let third_sum_is : c.sum_step-inner-2.result ≡ summed (3526632 ∷ 12966 ∷ 38 ∷ []) z =
    summed_cons 3526632 (12966 ∷ 38 ∷ []) z c.sum_step-inner-2.result c.sum_step-inner.result second_sum_is c.sum_step-inner-2.ensures.value in
    let fourth_sum_is : c.sum_step-inner-3.result ≡ summed (740592679 ∷ 3526632 ∷ 12966 ∷ 38 ∷ []) z =
    summed_cons 740592679 (3526632 ∷ 12966 ∷ 38 ∷ []) z c.sum_step-inner-3.result c.sum_step-inner-2.result third_sum_is c.sum_step-inner-3.ensures.value in
    let fifth_sum_is : c.sum_step-inner-4.result ≡ summed (115532457973 ∷ 740592679 ∷ 3526632 ∷ 12966 ∷ 38 ∷ []) z =
    summed_cons 115532457973 (740592679 ∷ 3526632 ∷ 12966 ∷ 38 ∷ []) z c.sum_step-inner-4.result c.sum_step-inner-3.result fourth_sum_is c.sum_step-inner-4.ensures.value in
    let sixth_sum_is : c.sum_step-inner-5.result ≡ summed (12708570377060 ∷ 115532457973 ∷ 740592679 ∷ 3526632 ∷ 12966 ∷ 38 ∷ []) z =
    summed_cons 12708570377060 (115532457973 ∷ 740592679 ∷ 3526632 ∷ 12966 ∷ 38 ∷ []) z c.sum_step-inner-5.result c.sum_step-inner-4.result fifth_sum_is c.sum_step-inner-5.ensures.value in
    let seventh_sum_is : c.sum_step-inner-6.result ≡ summed (915017067148291 ∷ 12708570377060 ∷ 115532457973 ∷ 740592679 ∷ 3526632 ∷ 12966 ∷ 38 ∷ []) z =
    summed_cons 915017067148291 (12708570377060 ∷ 115532457973 ∷ 740592679 ∷ 3526632 ∷ 12966 ∷ 38 ∷ []) z c.sum_step-inner-6.result c.sum_step-inner-5.result sixth_sum_is c.sum_step-inner-6.ensures.value in
    let eighth_sum_is : c.sum_step-inner-7.result ≡ summed (38430716820228233 ∷ 915017067148291 ∷ 12708570377060 ∷ 115532457973 ∷ 740592679 ∷ 3526632 ∷ 12966 ∷ 38 ∷ []) z =
    summed_cons 38430716820228233 (915017067148291 ∷ 12708570377060 ∷ 115532457973 ∷ 740592679 ∷ 3526632 ∷ 12966 ∷ 38 ∷ []) z c.sum_step-inner-7.result c.sum_step-inner-6.result seventh_sum_is c.sum_step-inner-7.ensures.value in
    let ninth_sum_is : c.sum_step-inner-8.result ≡ summed (768614336404564651 ∷ 38430716820228233 ∷ 915017067148291 ∷ 12708570377060 ∷ 115532457973 ∷ 740592679 ∷ 3526632 ∷ 12966 ∷ 38 ∷ []) z =
    summed_cons 768614336404564651 (38430716820228233 ∷ 915017067148291 ∷ 12708570377060 ∷ 115532457973 ∷ 740592679 ∷ 3526632 ∷ 12966 ∷ 38 ∷ []) z c.sum_step-inner-8.result c.sum_step-inner-7.result eighth_sum_is c.sum_step-inner-8.ensures.value in
    summed_cons 4611686018427387904 (768614336404564651 ∷ 38430716820228233 ∷ 915017067148291 ∷ 12708570377060 ∷ 115532457973 ∷ 740592679 ∷ 3526632 ∷ 12966 ∷ 38 ∷ []) z c.sum_step.result c.sum_step-inner-8.result ninth_sum_is c.sum_step.ensures.value
