use Rattle.std.proofs.Common.{◌≡◌, ◌<◌, length, w64, to_z, of_z, length-set, sym, ◌∙◌, arith}
use Rattle.cert_words.proofs.ShortLaws.{number_behind, short_word}
use Rattle.cert_words.proofs.short.leading_numbers.Goals as goal

pub loop-k-preserved : goal.loop-k-preserved
loop-k-preserved g c =
    let values = c.loop-k.values in
    let k = c.loop-k.k in
    let z = c.in_ok-value.value in
    let same : to_z w64 (of_z w64 z) ≡ z = short_word z c.in_ok-value.ensures.small in
    let room : k < length values = omega (arith, c.loop-k.invariant.size, c.loop-k-test.true, c.requires) in
    rw same (record {
      spelled = c.loop-k.invariant.spelled ∙ sym (number_behind values k z c.loop-k.left.now c.in_ok-value.behind.now room c.in_ok-value.ensures.spelled);
      size = length-set values k z ∙ c.loop-k.invariant.size;
    })
