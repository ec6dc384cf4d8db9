use Rattle.std.proofs.Common.{◌≡◌, Some, length, refl}
use Rattle.std.specs.Prelude.{slice_get}
use Rattle.std.proofs.lemmas.Option.{slice_get_read}
use Rattle.row_build.proofs.pseudoranges.base_pseudorange_at.Goals as goal

pub returns-in-Some : goal.returns-in-Some
returns-in-Some c =
    let found = c.in-Some.ensures.lookup in
    let kept : slice_get c.args.base_pseudoranges.now c.args.place ≡ Some c.in-Some.base_pseudorange.now = slice_get_read c.args.base_pseudoranges.now
    (length c.args.base_pseudoranges.now) c.args.place c.in-Some.base_pseudorange.now refl found.3.0 found.1 in
    record { holds = c.requires.kept c.in-Some.base_pseudorange.now kept; exists = c.sighting_law.ensures }
