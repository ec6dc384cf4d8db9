use Rattle.std.proofs.Common.{◌≡◌, SFits, w64, to_z, of_z, rules}
use Rattle.std.proofs.lemmas.Int.{to_z-of_z}
use Rattle.track_text.proofs.written_tails.push_tail.Goals as goal

pub returns-in-Weak-clause-text : goal.returns-in-Weak-clause-text
returns-in-Weak-clause-text c =
    let pivot = c.in-Weak.pivot in
    let fits : SFits w64 pivot = search rules in
    let same : to_z w64 (of_z w64 pivot) ≡ pivot = to_z-of_z w64 pivot fits in
    let written = rw same at c.push_weak_line.ensures in
    rw c.in-Weak.is written
