use Rattle.std.proofs.Common.{◌≡◌, [], ◌∷◌, ◌++◌, length, w64, to_z, of_z, sym, ◌∙◌, arith}
use Rattle.std.proofs.lemmas.Bool.Decides.{nat_tests}
use Rattle.cert_words.specs.Spelling.{behind_blanks}
use Rattle.cert_words.proofs.ShortLaws.{short_word}
use Rattle.cert_lines.proofs.Spelled.{three_put}
use Rattle.cert_lines.proofs.counts.short_triple.Goals as goal

pub returns-clause-spelled : goal.returns-clause-spelled
returns-clause-spelled c =
    let x_word : to_z w64 (of_z w64 c.in_ok-x.x) ≡ c.in_ok-x.x = short_word c.in_ok-x.x c.in_ok-x.ensures.small in
    let y_word : to_z w64 (of_z w64 c.in_ok-y.y) ≡ c.in_ok-y.y = short_word c.in_ok-y.y c.in_ok-y.ensures.small in
    let z_word : to_z w64 (of_z w64 c.in_ok-z.z) ≡ c.in_ok-z.z = short_word c.in_ok-z.z c.in_ok-z.ensures.small in
    let none : length c.in_ok-z.end.now ≡ 0 = grind (arith, nat_tests, c.is_empty.ensures) in
    three_put c.args.word.now c.args.line.now c.in_ok-numbers.numbers.now c.in_ok-x.behind_x.now c.in_ok-y.behind_y.now c.in_ok-z.end.now c.in_ok-x.x c.in_ok-y.y c.in_ok-z.z
    c.in_ok-numbers.ensures.cases.0 c.in_ok-numbers.ensures.cases.1 c.in_ok-x.ensures.spelled c.in_ok-y.ensures.spelled c.in_ok-z.ensures.spelled none
    ∙ (λ i. c.args.word.now ++ behind_blanks (sym x_word i ∷ sym y_word i ∷ sym z_word i ∷ []))
