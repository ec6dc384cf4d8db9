use Rattle.std.proofs.Common.{◌≡◌, ◌<◌, ℤ, List, All, length, arith, subst}
use Rattle.std.proofs.lemmas.List.{take_all}
use Rattle.std.proofs.lemmas.List.Elements.{All-more}
use Rattle.obs_rows.specs.declared.pair_rows.PairRows.{PairRows}
use Rattle.obs_rows.specs.Signals.{fine_signals}
use Rattle.cert_lines.specs.Lengths.{IsWholePair}
use Rattle.track_text.specs.Lengths.{AreTriples}
use Rattle.track_text.proofs.Blocks.{placed_pushed}
use Rattle.track_text.proofs.written_pairs.push_all_pairs.Goals as goal

pub loop-k-preserved : goal.loop-k-preserved
loop-k-preserved c =
    let signals = fine_signals c.args.signals in
    let pairs = c.args.pairs.now in
    let points = c.args.points.now in
    let place = c.loop-k.k in
    let inside = c.loop-k-test.true in
    let each = c.requires in
    let within : place < length points = omega arith in
    let pair = c.index-pairs-k.result in
    let pair_is = c.index-pairs-k.is in
    record {
      text = placed_pushed signals c.loop-k.out.items c.push_placed_pair.new.out.items _ pairs points place pair _ inside within pair_is c.in_ok-push_placed_pair.ensures.text c.loop-k.invariant.text;
      whole = All-more IsWholePair pairs place pair inside c.loop-k.invariant.whole (subst IsWholePair pair_is c.in_ok-push_placed_pair.ensures.whole);
      points = All-more (λ (m : List ℤ). length m ≡ 3) points place _ within c.loop-k.invariant.points c.in_ok-push_placed_pair.ensures.point;
    }

pub returns-clause-whole : goal.returns-clause-whole
returns-clause-whole c = subst (λ (pairs : List PairRows). All IsWholePair pairs) (take_all c.loop-k.k c.args.pairs.now c.loop-k-test.false) c.loop-k.invariant.whole

pub returns-clause-points : goal.returns-clause-points
returns-clause-points c =
    let each = c.requires in
    let ended = c.loop-k-test.false in
    subst AreTriples (take_all c.loop-k.k c.args.points.now (omega arith)) c.loop-k.invariant.points
