use Rattle.std.proofs.Common.{◌≡◌, ◌<◌, length, arith}
use Rattle.std.proofs.lemmas.Grind.{common_steps}
use Rattle.std.proofs.lemmas.Bool.Decides.{nat_tests}
use Rattle.rinex_obs.specs.Opened.{expected_in}
use Rattle.rinex_obs.proofs.Feeds.{none_begun, last_line, last_line_fails}
use Rattle.rinex_obs.proofs.feed.OpenText.take_last.Goals as goal

pub returns-then-is_empty-clause-ok : goal.returns-then-is_empty-clause-ok
returns-then-is_empty-clause-ok c = λ system.
    let none : length c.args.self.now.line ≡ 0 = grind (arith, nat_tests, common_steps) in
    none_begun system c.args.self.now.number c.args.self.now.line (expected_in c.args.self.now.file) none

pub returns-clause-ok : goal.returns-clause-ok
returns-clause-ok c =
    let some : 0 < length c.args.self.now.line = grind (arith, nat_tests, common_steps) in
    let taken = rw c.as_slice-2.ensures.value at c.take_line.ensures in
    last_line c.args.self.now.number c.args.self.now.line (expected_in c.args.self.now.file) (expected_in c.take_line.new.file) c.take_line.result some taken

pub returns-clause-refused : goal.returns-clause-refused
returns-clause-refused c =
    let some : 0 < length c.args.self.now.line = grind (arith, nat_tests, common_steps) in
    let taken = rw c.as_slice-2.ensures.value at c.take_line.ensures in
    last_line_fails c.args.self.now.number c.args.self.now.line (expected_in c.args.self.now.file) (expected_in c.take_line.new.file) c.take_line.result some taken
