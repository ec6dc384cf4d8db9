-- No number but the one that was read stands in the columns.
use Rattle.std.proofs.Common.{◌≡◌, pos, Ok, arith, sym, ◌∙◌}
use Rattle.std.proofs.lemmas.Int.{ints}
use Rattle.rinex_head.proofs.head.version_of.Goals as goal

pub returns-in_default-clause-refused : goal.returns-in_default-clause-refused
returns-in_default-clause-refused c v is =
    let same_answer = c.in-Ok.ensures.only (Ok (pos v.hundredths)) (rw c.field.ensures is.number) in
    let same : c.in-Ok.hundredths ≡ pos v.hundredths = cc same_answer in
    let least = is.from_300 in
    let most = is.to_305 in
    let test = rw same at c.if-hundredths-le-NEWEST.false in
    omega (arith, ints, test)

pub returns-in_default-2-clause-refused : goal.returns-in_default-2-clause-refused
returns-in_default-2-clause-refused c v is =
    let same_answer = c.in-Ok.ensures.only (Ok (pos v.hundredths)) (rw c.field.ensures is.number) in
    let same : c.in-Ok.hundredths ≡ pos v.hundredths = cc same_answer in
    let least = is.from_300 in
    let most = is.to_305 in
    let test = rw same at c.if-hundredths-ge-OLDEST.false in
    omega (arith, ints, test)

pub returns-in_default-3-clause-refused : goal.returns-in_default-3-clause-refused
returns-in_default-3-clause-refused c v is =
    let same_answer = c.read_fixed.ensures.only (Ok (pos v.hundredths)) (rw c.field.ensures is.number) in
    let fault = sym c.in_default.is ∙ sym same_answer in
    cc fault
