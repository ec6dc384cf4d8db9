-- The satellite whose values stand after those of the satellites before it.
use Rattle.std.proofs.Common.{◌≡◌, ◌∙◌, ap, take, arith}
use Rattle.obs_store.specs.Stored.{count_of}
use Rattle.obs_store.proofs.StoredLaws.{read_stored}
use Rattle.obs_store.proofs.stored.sat_at.Goals as goal

pub returns : goal.returns
returns c =
    let last : c.loop-before.before ≡ c.args.place = omega arith in
    let before : c.loop-before.first ≡ count_of (take c.args.place c.args.sats.now) = c.loop-before.invariant ∙ ap (λ k. count_of (take k c.args.sats.now)) last in
    read_stored c.args.sats.now c.args.values.now c.args.place c.loop-before.first (record { number = 0; count = 0 }) c.whole.result c.requires.inside before (c.whole.ensures ∙ c.first.ensures)
