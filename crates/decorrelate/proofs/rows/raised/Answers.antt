use Rattle.std.proofs.Common.{◌≡◌, arith, to_z, of_z, ◌∙◌}
use Rattle.std.proofs.lemmas.Int.{to_z-of_z}
use Rattle.std.specs.Int.{w64}
use Rattle.whole_math.proofs.Words.{as_w128}
use Rattle.quadratic_form.specs.Tables.{entry}
use Rattle.decorrelate.proofs.Words.{small_w64}
use Rattle.decorrelate.proofs.rows.raised.Goals as goal

pub returns-clause-value : goal.returns-clause-value
returns-clause-value c =
    let own = entry c.args.back.now c.args.row c.args.c in
    let other = entry c.args.back.now c.args.from c.args.c in
    let own_word : to_z w64 (of_z w64 own) ≡ own = small_w64 own (c.requires.small c.args.row c.args.c) in
    let other_word : to_z w64 (of_z w64 other) ≡ other = small_w64 other (c.requires.small c.args.from c.args.c) in
    let k_word : to_z w64 (of_z w64 c.args.k) ≡ c.args.k = to_z-of_z w64 c.args.k c.ranges.k in
    as_w128 c.plus_multiple.result (omega (arith, c.plus_multiple.ensures.size)) ∙ (rw (c.at.ensures.value, c.at-added.ensures.value, own_word, other_word, k_word) at c.plus_multiple.ensures.value)
