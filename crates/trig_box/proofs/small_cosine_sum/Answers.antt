use Rattle.std.proofs.Common.{◌≡◌, [], ◌∷◌}
use Rattle.trig_box.specs.Chain.{summed}
use Rattle.trig_box.proofs.Lists.{summed_cons}
use Rattle.trig_box.proofs.SmallSums.{cosine_5}
use Rattle.trig_box.proofs.small_cosine_sum.Goals as goal

pub returns-clause-value : goal.returns-clause-value
returns-clause-value c =
    let z = c.args.z in
    let seventh_sum_is : c.sum_step-inner.result ≡ summed (6405119470038039 ∷ 114377133393536 ∷ 1270857037706 ∷ 9627704831 ∷ 52899477 ∷ 220414 ∷ 720 ∷ []) z =
    summed_cons 6405119470038039 (114377133393536 ∷ 1270857037706 ∷ 9627704831 ∷ 52899477 ∷ 220414 ∷ 720 ∷ []) z c.sum_step-inner.result 114377133393536 (cosine_5 z c.requires) c.sum_step-inner.ensures.value in
    let eighth_sum_is : c.sum_step-inner-2.result ≡ summed (192153584101141163 ∷ 6405119470038039 ∷ 114377133393536 ∷ 1270857037706 ∷ 9627704831 ∷ 52899477 ∷ 220414 ∷ 720 ∷ []) z =
    summed_cons 192153584101141163 (6405119470038039 ∷ 114377133393536 ∷ 1270857037706 ∷ 9627704831 ∷ 52899477 ∷ 220414 ∷ 720 ∷ []) z c.sum_step-inner-2.result c.sum_step-inner.result seventh_sum_is c.sum_step-inner-2.ensures.value in
    let ninth_sum_is : c.sum_step-inner-3.result ≡ summed (2305843009213693952 ∷ 192153584101141163 ∷ 6405119470038039 ∷ 114377133393536 ∷ 1270857037706 ∷ 9627704831 ∷ 52899477 ∷ 220414 ∷ 720 ∷ []) z =
    summed_cons 2305843009213693952 (192153584101141163 ∷ 6405119470038039 ∷ 114377133393536 ∷ 1270857037706 ∷ 9627704831 ∷ 52899477 ∷ 220414 ∷ 720 ∷ []) z c.sum_step-inner-3.result c.sum_step-inner-2.result eighth_sum_is c.sum_step-inner-3.ensures.value in
    summed_cons 4611686018427387904 (2305843009213693952 ∷ 192153584101141163 ∷ 6405119470038039 ∷ 114377133393536 ∷ 1270857037706 ∷ 9627704831 ∷ 52899477 ∷ 220414 ∷ 720 ∷ []) z c.sum_step.result c.sum_step-inner-3.result ninth_sum_is c.sum_step.ensures.value
