-- One more number.
use Rattle.std.proofs.Common.{◌<◌, ◌∙◌, length, get_or, nat_eq, ap, arith}
use Rattle.std.proofs.lemmas.List.{get_or_default}
use Rattle.indexmap.specs.IndexMap.{insert_entry}
use Rattle.obs_store.proofs.SeenLaws.{one_entry}
use Rattle.obs_store.proofs.tally.Tally.entries.Goals as goal

pub loop-place-preserved : goal.loop-place-preserved
loop-place-preserved c =
    let counts = c.args.self.now.counts in
    let order = c.args.self.now.order.items in
    let place = c.loop-place.place in
    let inside : place < length order = omega (arith, c.loop-place-test.true, c.len-place-end.ensures) in
    let named = c.index-number.ensures ∙ get_or_default order place c.index-number.result.now 0 inside in
    one_entry counts order place c.loop-place.seen.entries c.insert.new.self.entries c.requires.once inside c.loop-place.invariant
    (c.in_ok-insert.ensures.entries ∙ ap (λ n. insert_entry nat_eq c.loop-place.seen.entries n (get_or counts n 0)) named)
