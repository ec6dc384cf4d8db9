use Rattle.std.proofs.Common.{◌≡◌, FitsSigned, w64, to_z, of_z, arith, rules}
use Rattle.std.proofs.lemmas.Int.{ints}
use Rattle.cert_text.proofs.written_tails.push_tail.Goals as goal

pub returns-in-Weak-clause-text : goal.returns-in-Weak-clause-text
returns-in-Weak-clause-text c =
    let pivot = c.in-Weak.pivot in
    let fits : FitsSigned w64 pivot = search rules in
    let same : to_z w64 (of_z w64 pivot) ≡ pivot = omega (arith, ints) in
    let written = rw same at c.push_weak_line.ensures in
    rw c.in-Weak.is written
