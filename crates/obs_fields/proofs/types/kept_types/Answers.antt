use Rattle.std.proofs.Common.{◌<◌, ◌≤◌, ◌+◌, ◌++◌, length, drop, get_or, [], List, sym, ap, ◌∙◌, append_assoc}
use Rattle.std.proofs.lemmas.List.{append-nil}
use Rattle.obs_fields.specs.Types.{kept_type_in, kept_at, kept_from}
use Rattle.obs_fields.proofs.TypeLists.{kept_more, kept_done}
use Rattle.obs_fields.proofs.types.kept_types.Goals as goal

pub loop-number-preserved : goal.loop-number-preserved
loop-number-preserved c =
    let names = c.args.names.now in
    let less : c.loop-number.number < length names = rw (← c.as_slice-name-items.ensures.value) c.loop-number-test.true in
    let number = c.loop-number.number in
    let more = kept_more c.args.system names number number [] less in
    let rest = kept_from c.args.system (number + 1) (drop (number + 1) names) in
    let assoc = append_assoc c.loop-number.kept.items (kept_at number (kept_type_in c.args.system (get_or names number []))) rest in
    let before = c.loop-number.invariant in
    let now = c.in_ok-add_kept.ensures in
    let same = c.as_slice-name-items.ensures.value in
    let kind = c.kept_type.ensures in
    cc (more, assoc, before, now, kind, same)

pub returns : goal.returns
returns c =
    let few : length c.args.names.now ≤ c.loop-number.number = rw (← c.as_slice-name-items.ensures.value) c.loop-number-test.false in
    sym (c.loop-number.invariant ∙ ap (λ (l : List _). c.loop-number.kept.items ++ l)
    (kept_done c.args.system c.args.names.now c.loop-number.number c.loop-number.number few) ∙ append-nil c.loop-number.kept.items)
