-- All epochs were counted.
use Rattle.std.proofs.Common.{◌≡◌, ◌≤◌, ◌∙◌, ℕ, List, length, ap, arith, subst, IfOk}
use Rattle.std.proofs.lemmas.List.{take_all}
use Rattle.obs_store.specs.Counts.{numbered}
use Rattle.obs_store.specs.Seen.{seen_in}
use Rattle.obs_store.proofs.SeenLaws.{order_distinct, seen_so}
use Rattle.obs_store.proofs.file.ObsFile.seen.Goals as goal

pub entries-requires-clause-once : goal.entries-requires-clause-once
entries-requires-clause-once c = order_distinct _ c.loop-at.tally.order.items c.loop-at.tally.counts c.loop-at.invariant

pub returns : goal.returns
returns c =
    let epochs = c.as_slice-epochs.result.now in
    let order = c.loop-at.tally.order.items in
    let counts = c.loop-at.tally.counts in
    let all : length epochs ≤ c.loop-at.at = omega (arith, c.loop-at-test.false) in
    let same : numbered counts order ≡ seen_in c.args.self.now.epochs = seen_so _ order counts c.loop-at.invariant ∙ ap seen_in (take_all c.loop-at.at epochs all ∙ c.as_slice-epochs.ensures.value) in
    subst (λ (l : List (ℕ × ℕ)). IfOk c.entries.result (λ seen. seen.entries ≡ l)) same c.entries.ensures
