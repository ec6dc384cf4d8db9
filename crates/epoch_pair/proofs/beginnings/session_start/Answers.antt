use Rattle.std.proofs.Common.{◌<◌, ◌≤◌, ℕ, List, length, AllPairs, arith, sym, subst}
use Rattle.obs_store.specs.Epochs.{tags_of}
use Rattle.epoch_pair.specs.declared.pairs.PairOf.{PairOf}
use Rattle.epoch_pair.specs.Pairs.{Follows, IsTaken, IsNearPair}
use Rattle.obs_rows.specs.BandSets.{bands_of}
use Rattle.obs_rows.specs.declared.limits.TheConstants.{MOST_PAIRS}
use Rattle.epoch_pair.specs.Beginnings.{HaveSignals}
use Rattle.epoch_pair.proofs.Uses.{taken_all, taken_pairs}
use Rattle.epoch_pair.proofs.BeginLaws.{refused_pair}
use Rattle.epoch_pair.proofs.beginnings.session_start.Goals as goal

pub returns-in-Err-clause-refused : goal.returns-in-Err-clause-refused
returns-in-Err-clause-refused c =
    let have_signals : HaveSignals (bands_of c.args.options.now.bands) c.args.base.now c.args.rover.now = (c.in-Some-signals.signals, c.in-Some-signals.ensures) in
    refused_pair c.args.base.now c.args.rover.now c.args.options.now c.in-Err.fault c.fault_of.result c.fault_of.ensures (c.in-Some.position, c.in-Some.ensures) have_signals c.in-Err.ensures.refused

pub returns-in-Ok-take-clause-rises : goal.returns-in-Ok-take-clause-rises
returns-in-Ok-take-clause-rises c =
    let options = c.args.options.now in
    let is_taken : IsTaken c.in-Ok.pairs.items options.first options.step options.count c.in-Ok-take.taken.items =
    subst (λ (l : List PairOf). IsTaken l options.first options.step options.count c.in-Ok-take.taken.items) c.as_slice.ensures.value c.in-Ok-take.ensures in
    let step_positive : 0 < options.step = omega (arith, options.step_from) in
    taken_pairs Follows c.in-Ok.pairs.items options.first options.step options.count c.in-Ok-take.taken.items step_positive c.in-Ok.ensures.rises is_taken

pub returns-in-Ok-take-clause-near : goal.returns-in-Ok-take-clause-near
returns-in-Ok-take-clause-near c =
    let options = c.args.options.now in
    let is_taken : IsTaken c.in-Ok.pairs.items options.first options.step options.count c.in-Ok-take.taken.items =
    subst (λ (l : List PairOf). IsTaken l options.first options.step options.count c.in-Ok-take.taken.items) c.as_slice.ensures.value c.in-Ok-take.ensures in
    taken_all (IsNearPair options.gap (tags_of c.args.base.now.epochs) (tags_of c.args.rover.now.epochs)) c.in-Ok.pairs.items options.first options.step options.count c.in-Ok-take.taken.items c.in-Ok.ensures.near is_taken

pub returns-clause-refused : goal.returns-clause-refused
returns-clause-refused c =
    let have_signals : HaveSignals (bands_of c.args.options.now.bands) c.args.base.now c.args.rover.now = (c.in-Some-signals.signals, c.in-Some-signals.ensures) in
    ((c.in-Some.position, c.in-Some.ensures), (have_signals, (c.in-Ok.ensures.apart_base, c.in-Ok.ensures.apart_rover)))

pub returns-in-Ok-take-clause-few : goal.returns-in-Ok-take-clause-few
returns-in-Ok-take-clause-few c =
    let options = c.args.options.now in
    let is_taken : IsTaken c.in-Ok.pairs.items options.first options.step options.count c.in-Ok-take.taken.items =
    subst (λ (l : List PairOf). IsTaken l options.first options.step options.count c.in-Ok-take.taken.items) c.as_slice.ensures.value c.in-Ok-take.ensures in
    below (length c.in-Ok-take.taken.items) options.count is_taken.few options.count_to
  where
    below : (n m : ℕ) → n ≤ m → m ≤ MOST_PAIRS → n ≤ MOST_PAIRS
    below n m h g = omega arith

pub count_of-requires-clause-rises : goal.count_of-requires-clause-rises
count_of-requires-clause-rises c = subst (AllPairs Follows) (sym c.as_slice-in-Ok-take.ensures.value) c.in-Ok.ensures.rises
