use Rattle.std.proofs.Common.{◌≡◌, ◌++◌, drop}
use Rattle.sim_session.specs.Navigation.{record_texts, navigation_text}
use Rattle.sim_session.proofs.navigation.write_navigation.Given as goal

abbrev pub invariant-loop-eph : goal.invariant-loop-eph
invariant-loop-eph l = l.out.items ++ record_texts l.letter (drop l.eph-index l.records) ≡ l.fn.out.items ++ navigation_text l.letter l.records
