-- The last epoch stands at the last place.
use Rattle.std.proofs.Common.{◌≡◌, ◌+◌, ◌-◌, length, arith, ◌∙◌}
use Rattle.obs_store.proofs.EpochsLaws.{last_is}
use Rattle.obs_store.proofs.series.Epochs.last_tag.Goals as goal

pub returns-in-len1-up : goal.returns-in-len1-up
returns-in-len1-up c =
    let place : (length c.as_slice.result.now - 1) + 1 ≡ length c.as_slice.result.now = omega (arith, c.in-len1-up.len_at_least) in
    last_is c.args.self.now c.as_slice.result.now _ c.last-item.result (c.as_slice.ensures.value ∙ c.self.view_is) place c.last-item.is
