use Rattle.std.proofs.Common.{◌≡◌, ◌<◌, ◌^◌, ℤ, pos, ◌∷◌, [], ◌++◌, codes, length, w64, to_z, of_z, sym, ◌∙◌, subst, arith}
use Rattle.std.proofs.lemmas.Bool.Decides.{nat_tests}
use Rattle.decimal_text.specs.Whole.{size_of}
use Rattle.cert_words.specs.Spelling.{behind_blanks}
use Rattle.cert_words.proofs.ShortLaws.{short_word}
use Rattle.cert_lines.proofs.Spelled.{four_put}
use Rattle.cert_lines.proofs.pairs.short_pair.Goals as goal

pub returns-clause-spelled : goal.returns-clause-spelled
returns-clause-spelled c =
    let none : length c.in_ok-fourth.end.now ≡ 0 = grind (arith, nat_tests, c.is_empty.ensures) in
    let number_is : c.in_ok-first.first ≡ pos c.in_ok-number.number = sym (short_word c.in_ok-first.first c.in_ok-first.ensures.small) ∙ c.in_ok-number.ensures.exact in
    let tag_is : c.in_ok-second.second ≡ pos c.in_ok-tag.tag.0 = sym (short_word c.in_ok-second.second c.in_ok-second.ensures.small) ∙ c.in_ok-tag.ensures.exact in
    let group_is : c.in_ok-group.group ≡ c.in_ok-third.third = c.in_ok-group.ensures.exact ∙ short_word c.in_ok-third.third c.in_ok-third.ensures.small in
    let group_small : size_of c.in_ok-group.group < 2 ^ 63 = subst (λ (z : ℤ). size_of z < 2 ^ 63) (sym group_is) c.in_ok-third.ensures.small in
    let group_word : to_z w64 (of_z w64 c.in_ok-group.group) ≡ c.in_ok-third.third = short_word c.in_ok-group.group group_small ∙ group_is in
    let count_is : c.in_ok-fourth.fourth ≡ pos c.in_ok-count.count = sym (short_word c.in_ok-fourth.fourth c.in_ok-fourth.ensures.small) ∙ c.in_ok-count.ensures.exact in
    four_put (codes "pair") c.args.line.now c.in_ok-numbers.numbers.now c.in_ok-first.behind_first.now c.in_ok-second.behind_second.now c.in_ok-third.behind_third.now c.in_ok-fourth.end.now
    c.in_ok-first.first c.in_ok-second.second c.in_ok-third.third c.in_ok-fourth.fourth
    c.in_ok-numbers.ensures.cases.0 c.in_ok-numbers.ensures.cases.1 c.in_ok-first.ensures.spelled c.in_ok-second.ensures.spelled c.in_ok-third.ensures.spelled c.in_ok-fourth.ensures.spelled none
    ∙ (λ i. codes "pair" ++ behind_blanks (number_is i ∷ tag_is i ∷ sym group_word i ∷ count_is i ∷ []))
