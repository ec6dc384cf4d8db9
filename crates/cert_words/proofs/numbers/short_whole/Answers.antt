use Rattle.std.proofs.Common.{◌≡◌, ◌<◌, ◌^◌, length, w64, to_z, of_z, arith}
use Rattle.std.specs.Int.{w128}
use Rattle.std.proofs.lemmas.Bool.Decides.{nat_tests}
use Rattle.decimal_text.specs.Whole.{size_of}
use Rattle.cert_words.proofs.NumberLaws.{word_is}
use Rattle.cert_words.proofs.ShortLaws.{short_word, whole_word}
use Rattle.cert_words.proofs.numbers.short_whole.Goals as goal

pub returns-clause-ok : goal.returns-clause-ok
returns-clause-ok c =
    let z = c.in_ok-number.number in
    let small : size_of z < 2 ^ 63 = c.in_ok-number.ensures.small in
    let short : to_z w64 (of_z w64 z) ≡ z = short_word z small in
    let long : to_z w128 (of_z w128 z) ≡ z = word_is z (omega (arith, small)) in
    let none : length c.in_ok-number.behind.now ≡ 0 = grind (arith, nat_tests, c.is_empty.ensures, c.if-not-is_empty.false) in
    rw (short, long) (whole_word c.args.word.now c.in_ok-number.behind.now z c.in_ok-number.ensures.spelled none small)
