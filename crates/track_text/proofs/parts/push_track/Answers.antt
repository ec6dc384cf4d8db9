use Rattle.std.proofs.Common.{◌++◌}
use Rattle.std.proofs.lemmas.Result.{on_ok_weaker}
use Rattle.obs_rows.specs.Signals.{fine_signals}
use Rattle.cert_lines.specs.Lines.{counted_arcs}
use Rattle.cert_text.proofs.Texts.{then_written}
use Rattle.track_text.proofs.Blocks.{both}
use Rattle.track_text.specs.Spelling.{track_head_lines, counted_placed_pairs}
use Rattle.track_text.proofs.parts.push_track.Goals as goal

pub returns-clause-text : goal.returns-clause-text
returns-clause-text c =
    let track = c.args.track.now in
    let signals = fine_signals track.signals in
    let arcs = rw c.as_slice.ensures at c.in_ok-push_arcs.ensures.text in
    let pairs = rw (c.as_slice-2.ensures, c.as_slice-3.ensures) at c.push_pairs.ensures.text in
    let behind = then_written c.push_head.new.out.items _ _ (counted_arcs signals track.arcs) (counted_placed_pairs signals track.pairs track.points) _ arcs pairs in
    let head = track_head_lines c.args.ratio c.args.budget track.system track.base track.signals in
    then_written c.args.out.now.items _ _ head (counted_arcs signals track.arcs ++ counted_placed_pairs signals track.pairs track.points) _ c.in_ok-push_head.ensures.text behind

pub returns-clause-whole : goal.returns-clause-whole
returns-clause-whole c =
    let arcs = rw c.as_slice.ensures at c.in_ok-push_arcs.ensures.whole in
    let pairs = rw c.as_slice-2.ensures at c.push_pairs.ensures.whole in
    let points = rw c.as_slice-3.ensures at c.push_pairs.ensures.points in
    let spelling = c.push_pairs.result in
    on_ok_weaker spelling (λ each. record { base = c.in_ok-push_head.ensures.base; arcs = arcs; points = each.1; pairs = each.0 }) (both _ _ spelling pairs points)
