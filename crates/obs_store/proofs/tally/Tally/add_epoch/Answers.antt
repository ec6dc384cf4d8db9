-- One more satellite of the epoch.
use Rattle.std.proofs.Common.{◌≡◌, ◌<◌, ◌≤◌, ◌+◌, ◌∙◌, ℕ, length, take, get_or, [], ◌∷◌, ◌++◌, arith, sym, subst}
use Rattle.std.proofs.lemmas.List.{get_or_default}
use Rattle.obs_store.specs.declared.values.SatObs.{SatObs}
use Rattle.obs_store.specs.declared.series.Epoch.{Epoch}
use Rattle.obs_store.specs.Counts.{IsCountOf}
use Rattle.obs_store.proofs.SeenLaws.{number_in, one_more, with_sats}
use Rattle.obs_store.proofs.tally.Tally.add_epoch.Goals as goal

pub add-requires-clause-inside : goal.add-requires-clause-inside
add-requires-clause-inside c =
    let sats = (get_or c.args.epochs.now c.args.at c.index-epochs-at.result).sats in
    let place = c.loop-place.place in
    let no_sat : SatObs = record { number = 0; values = [] } in
    let inside : place < length sats = omega (arith, c.loop-place-test.true, c.len-place-end.ensures.value) in
    subst (λ (n : ℕ). n ≤ 36) (sym (c.number_at.ensures ∙ number_in sats place no_sat inside)) (c.len-place-end.ensures.kept.numbers place no_sat inside).1

pub loop-place-preserved : goal.loop-place-preserved
loop-place-preserved c d =
    let epochs = c.args.epochs.now in
    let epoch = get_or epochs c.args.at c.index-epochs-at.result in
    let place = c.loop-place.place in
    let no_sat : SatObs = record { number = 0; values = [] } in
    let inside : place < length epoch.sats = omega (arith, c.loop-place-test.true, c.len-place-end.ensures.value) in
    let same : get_or epochs c.args.at d ≡ epoch = get_or_default epochs c.args.at d c.index-epochs-at.result c.requires.inside in
    let named : c.number_at.result ≡ (get_or epoch.sats place no_sat).number = c.number_at.ensures ∙ number_in epoch.sats place no_sat inside in
    let order = c.loop-place.self.order.items in
    let counts = c.loop-place.self.counts in
    let behind = λ (f : Epoch) (j : ℕ). take c.args.at epochs ++ with_sats f (take j f.sats) ∷ [] in
    let held : IsCountOf (behind epoch place) order counts = subst (λ (f : Epoch). IsCountOf (behind f place) order counts) same (c.loop-place.invariant d) in
    subst (λ (f : Epoch). IsCountOf (behind f (place + 1)) c.add.new.self.order.items c.add.new.self.counts) (sym same)
    (one_more (take c.args.at epochs) epoch epoch.sats place no_sat c.number_at.result order counts c.add.new.self.order.items c.add.new.self.counts c.len-place-end.ensures.kept inside named held
    c.in_ok-add.ensures.order c.in_ok-add.ensures.counts)
