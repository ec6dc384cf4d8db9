use Rattle.std.proofs.Common.{◌≡◌, [], ◌∷◌}
use Rattle.trig_box.specs.Chain.{summed}
use Rattle.trig_box.proofs.Lists.{summed_cons}
use Rattle.trig_box.proofs.SmallSums.{sine_5}
use Rattle.trig_box.proofs.small_sine_sum.Goals as goal

pub returns-clause-value : goal.returns-clause-value
returns-clause-value c =
    let z = c.args.z in
    let seventh_sum_is : c.sum_step-inner.result ≡ summed (915017067148291 ∷ 12708570377060 ∷ 115532457973 ∷ 740592679 ∷ 3526632 ∷ 12966 ∷ 38 ∷ []) z =
    summed_cons 915017067148291 (12708570377060 ∷ 115532457973 ∷ 740592679 ∷ 3526632 ∷ 12966 ∷ 38 ∷ []) z c.sum_step-inner.result 12708570377060 (sine_5 z c.requires) c.sum_step-inner.ensures.value in
    let eighth_sum_is : c.sum_step-inner-2.result ≡ summed (38430716820228233 ∷ 915017067148291 ∷ 12708570377060 ∷ 115532457973 ∷ 740592679 ∷ 3526632 ∷ 12966 ∷ 38 ∷ []) z =
    summed_cons 38430716820228233 (915017067148291 ∷ 12708570377060 ∷ 115532457973 ∷ 740592679 ∷ 3526632 ∷ 12966 ∷ 38 ∷ []) z c.sum_step-inner-2.result c.sum_step-inner.result seventh_sum_is c.sum_step-inner-2.ensures.value in
    let ninth_sum_is : c.sum_step-inner-3.result ≡ summed (768614336404564651 ∷ 38430716820228233 ∷ 915017067148291 ∷ 12708570377060 ∷ 115532457973 ∷ 740592679 ∷ 3526632 ∷ 12966 ∷ 38 ∷ []) z =
    summed_cons 768614336404564651 (38430716820228233 ∷ 915017067148291 ∷ 12708570377060 ∷ 115532457973 ∷ 740592679 ∷ 3526632 ∷ 12966 ∷ 38 ∷ []) z c.sum_step-inner-3.result c.sum_step-inner-2.result eighth_sum_is c.sum_step-inner-3.ensures.value in
    summed_cons 4611686018427387904 (768614336404564651 ∷ 38430716820228233 ∷ 915017067148291 ∷ 12708570377060 ∷ 115532457973 ∷ 740592679 ∷ 3526632 ∷ 12966 ∷ 38 ∷ []) z c.sum_step.result c.sum_step-inner-3.result ninth_sum_is c.sum_step.ensures.value
