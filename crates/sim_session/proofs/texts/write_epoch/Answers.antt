use Rattle.std.proofs.Common.{length, ap, arith, length-append}
use Rattle.sim_session.specs.ObservationText.{epoch_line, satellite_lines}
use Rattle.sim_session.proofs.TextLengths.{length-epoch_line, length-satellite_lines}
use Rattle.sim_session.proofs.texts.write_epoch.Goals as goal

pub returns-clause-size : goal.returns-clause-size
returns-clause-size c =
    let satellite_count = length c.args.sats.now in
    omega (
      arith,
      ap (λ xs. length xs) c.in_ok-write_satellites.ensures,
      ap (λ xs. length xs) c.in_ok-write_epoch_line.ensures,
      length-append c.write_epoch_line.new.out.items (satellite_lines c.args.tracking 0 c.args.sats.now),
      length-append c.args.out.now.items (epoch_line c.args.seconds satellite_count),
      length-epoch_line c.args.seconds satellite_count c.requires.few,
      length-satellite_lines c.args.tracking 0 c.args.sats.now c.requires.columns,
    )
