use Rattle.session.proofs.RangeLaws.{arcs_along}
use Rattle.track_rows.proofs.files.PairRoundsRounds.session.Goals as goal

pub session_of-requires-clause-may : goal.session_of-requires-clause-may
session_of-requires-clause-may c =
    let files = c.args.self.now.files.now in
    let ready = c.requires.ready.0 in
    record {
      ready = ready;
      arcs_are = arcs_along files.kept.now c.args.arcs.now c.requires.arcs ready.arcs c.requires.shifts;
      same = c.requires.arcs;
      pair_in = c.requires.ready.1.0;
    }
