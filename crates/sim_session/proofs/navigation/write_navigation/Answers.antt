use Rattle.std.proofs.Common.{ℕ, List, length, drop, ap, arith, length-append, length-drop}
use Rattle.sim_session.specs.Navigation.{navigation_header, navigation_text, record_texts}
use Rattle.sim_session.proofs.RecordLengths.{length-navigation_header, length-record_texts}
use Rattle.sim_session.proofs.navigation.write_navigation.Goals as goal

pub returns-clause-size : goal.returns-clause-size
returns-clause-size c =
    let rest = drop c.loop-eph.eph-index c.args.records.now in
    omega (
      arith,
      ap (λ (xs : List ℕ). length xs) c.loop-eph.invariant,
      length-append c.loop-eph.out.items (record_texts c.args.letter rest),
      length-append c.args.out.now.items (navigation_text c.args.letter c.args.records.now),
      length-append (navigation_header c.args.letter) (record_texts c.args.letter c.args.records.now),
      length-navigation_header c.args.letter,
      length-record_texts c.args.letter c.args.records.now,
      length-record_texts c.args.letter rest,
      length-drop c.loop-eph.eph-index c.args.records.now,
      c.loop-eph-test.false,
    )
