use Rattle.screening.proofs.LockLaws.{only_even}
use Rattle.screening.proofs.marks.may_be_lost.Goals as goal

pub returns-in-len1 : goal.returns-in-len1
returns-in-len1 c = λ none types number.
    only_even types number c.args.epochs.now c.only-item.result c.in-len1.len_at_least c.in-len1.len_below c.only-item.is (c.may_be_lost.ensures none)
