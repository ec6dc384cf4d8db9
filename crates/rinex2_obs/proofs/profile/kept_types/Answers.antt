use Rattle.std.proofs.Common.{◌<◌, ◌≤◌, ◌+◌, ◌++◌, length, drop, get_or, [], List, sym, ap, ◌∙◌, append_assoc}
use Rattle.std.proofs.lemmas.List.{append-nil}
use Rattle.obs_fields.specs.Types.{kept_at}
use Rattle.rinex2_obs.specs.Profile.{kept_type_in, kept_from}
use Rattle.rinex2_obs.proofs.KeptTypes.{kept_more, kept_done}
use Rattle.rinex2_obs.proofs.profile.kept_types.Goals as goal

pub loop-number-preserved : goal.loop-number-preserved
loop-number-preserved c =
    let names = c.args.names.now in
    let less : c.loop-number.number < length names = rw (← c.as_slice-name-items.ensures.value) c.loop-number-test.true in
    let n = c.loop-number.number in
    let more = kept_more names n n [] less in
    let rest = kept_from (n + 1) (drop (n + 1) names) in
    let assoc = append_assoc c.loop-number.kept.items (kept_at n (kept_type_in (get_or names n []))) rest in
    let before = c.loop-number.invariant in
    let now = c.in_ok-add_kept.ensures in
    let same = c.as_slice-name-items.ensures.value in
    let kind = c.kept_type.ensures in
    cc (more, assoc, before, now, kind, same)

pub returns : goal.returns
returns c =
    let few : length c.args.names.now ≤ c.loop-number.number = rw (← c.as_slice-name-items.ensures.value) c.loop-number-test.false in
    sym (c.loop-number.invariant ∙ ap (λ (l : List _). c.loop-number.kept.items ++ l) (kept_done c.args.names.now c.loop-number.number c.loop-number.number few) ∙ append-nil c.loop-number.kept.items)
