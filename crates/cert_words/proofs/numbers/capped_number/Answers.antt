use Rattle.cert_words.proofs.NumberLaws.{short_is}
use Rattle.cert_words.proofs.numbers.capped_number.Goals as goal

pub returns-in-Some : goal.returns-in-Some
returns-in-Some c = short_is c.args.word.now c.in-Some.value c.in-Some.ensures.ok c.in-Some.ensures.small
