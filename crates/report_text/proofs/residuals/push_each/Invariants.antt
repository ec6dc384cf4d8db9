use Rattle.std.proofs.Common.{◌≡◌, ◌++◌, drop}
use Rattle.cert_words.specs.Spelling.{behind_blanks}
use Rattle.report_text.proofs.residuals.push_each.Given as goal

abbrev pub invariant-loop-number : goal.invariant-loop-number
invariant-loop-number l = l.out.items ++ behind_blanks (drop l.number-index l.numbers) ≡ l.fn.out.items ++ behind_blanks l.numbers
