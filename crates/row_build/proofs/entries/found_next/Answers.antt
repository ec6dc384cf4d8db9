use Rattle.std.proofs.Common.{◌∙◌, sym}
use Rattle.row_build.proofs.EntryLaws.{found_entry}
use Rattle.row_build.proofs.entries.found_next.Goals as goal

pub returns-then-is_entry-clause-found : goal.returns-then-is_entry-clause-found
returns-then-is_entry-clause-found c = λ v at. found_entry c.args.boxes.now c.loop-place.place c.args.pair c.args.sat c.index-boxes-place.result v c.loop-place-test.true c.index-boxes-place.is
    (sym c.is_entry.ensures ∙ c.if-is_entry.true) at
