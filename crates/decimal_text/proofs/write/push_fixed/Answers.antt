-- A power of ten is not 0.
use Rattle.decimal_text.proofs.DigitsLaws.{ten_to_pos}
use Rattle.decimal_text.proofs.write.push_fixed.Goals as goal

pub nonzero_div-size : goal.nonzero_div-size
nonzero_div-size c = ten_to_pos c.pow.result c.args.places c.pow.ensures
