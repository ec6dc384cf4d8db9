use Rattle.std.proofs.Common.{◌≡◌, ◌<◌, ℤ, List, length, arith, subst}
use Rattle.std.proofs.lemmas.List.{take_all}
use Rattle.std.proofs.lemmas.List.Elements.{All-more}
use Rattle.track_text.specs.Lengths.{AreTriples}
use Rattle.track_text.proofs.Blocks.{move_pushed}
use Rattle.track_text.proofs.written_tails.push_move_lines.Goals as goal

pub loop-k-preserved : goal.loop-k-preserved
loop-k-preserved c =
    let pairs = c.args.pairs.now in
    let moves = c.args.moves.now in
    let place = c.loop-k.k in
    let inside = c.loop-k-test.true in
    let each = c.requires in
    let within : place < length moves = omega arith in
    record {
      text = move_pushed c.loop-k.out.items c.push_move_line.new.out.items _ pairs moves place _ _ inside within c.in_ok-push_move_line.ensures.text c.loop-k.invariant.text;
      whole = All-more (λ (m : List ℤ). length m ≡ 3) moves place _ within c.loop-k.invariant.whole c.in_ok-push_move_line.ensures.whole;
    }

pub returns-clause-whole : goal.returns-clause-whole
returns-clause-whole c =
    let each = c.requires in
    let ended = c.loop-k-test.false in
    subst AreTriples (take_all c.loop-k.k c.args.moves.now (omega arith)) c.loop-k.invariant.whole
