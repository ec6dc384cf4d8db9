use Rattle.std.proofs.lemmas.Result.{on_ok_weaker}
use Rattle.cert_text.proofs.Texts.{then_written}
use Rattle.track_text.specs.Spelling.{track_spelling, track_lines, track_tail_lines}
use Rattle.track_text.proofs.write.write_track.Goals as goal

pub returns-clause-text : goal.returns-clause-text
unfolding track_spelling
returns-clause-text c =
    let cert = c.args.cert.now in
    let front = track_lines cert.ratio cert.budget cert.track in
    then_written c.args.out.now.items _ _ front (track_tail_lines cert.track.pairs cert.tail) _ c.in_ok-push_track.ensures.text c.push_tail.ensures.text

pub returns-clause-whole : goal.returns-clause-whole
returns-clause-whole c = on_ok_weaker c.push_tail.result (λ tail. record { track = c.in_ok-push_track.ensures.whole; tail = tail }) c.push_tail.ensures.whole
