use Rattle.std.proofs.Common.{◌≡◌, ◌≤◌, length, arith}
use Rattle.std.proofs.lemmas.List.{length-map}
use Rattle.obs_store.specs.Epochs.{tags_of}
use Rattle.epoch_pair.proofs.BeginLaws.{few_pairs}
use Rattle.epoch_pair.proofs.beginnings.count_of.Goals as goal

pub overflow_cast-result : goal.overflow_cast-result
overflow_cast-result c =
    let few : length c.args.pairs.now ≤ length (tags_of c.args.base.now.epochs) = few_pairs c.args.pairs.now (length (tags_of c.args.base.now.epochs)) c.requires.rises c.requires.within in
    let epochs : length c.args.base.now.epochs ≤ 20000 = c.as_slice-epochs.ensures.kept.few in
    let same : length (tags_of c.args.base.now.epochs) ≡ length c.args.base.now.epochs = length-map c.args.base.now.epochs (λ e. e.tag.0) in
    omega arith
