use Rattle.std.proofs.Common.{◌≡◌, Ok, refl, ◌∙◌, codes, arith, w64, to_z, of_z}
use Rattle.std.proofs.lemmas.Int.{ints}
use Rattle.std.proofs.lemmas.Result.{err_from_is_err_and}
use Rattle.decimal_text.proofs.Numbers.{size_is}
use Rattle.rinex_head.proofs.LineRuleLaws.{takes, refuses, has_none, goes_on, stops}
use Rattle.file_jobs.specs.ZeroRules.{Head, Claim, claimed, rows_rules, number_behind}
use Rattle.file_jobs.proofs.RowsSteps.{admits_head, refuses_head, same_bytes, other_bytes, number_behind-small}
use Rattle.file_jobs.proofs.zero_rows.read_claim.Goals as goal

pub returns-in_err-first-clause-reads : goal.returns-in_err-first-clause-reads
returns-in_err-first-clause-reads c =
    let is_error = err_from_is_err_and c.from_residual.result c.from_residual.ensures.1 in
    rw (is_error.1, is_error.2) (has_none rows_rules Head _ _ _ _ refl c.in_err-first.ensures)

pub returns-then-ne-clause-reads : goal.returns-then-ne-clause-reads
returns-then-ne-clause-reads c =
    let line = c.in_ok-first.first.bytes.now in
    let other = other_bytes c.ne.result line c.as_slice.result.now (codes "zero 1") c.ne.ensures c.as_slice.ensures c.if-ne.true in
    rw c.at.ensures (refuses rows_rules Head _ _ _ _ line c.in_ok-first.ensures (refuses_head line other))

pub returns-in_err-second-clause-reads : goal.returns-in_err-second-clause-reads
returns-in_err-second-clause-reads c =
    let line = c.in_ok-first.first.bytes.now in
    let same = same_bytes c.ne.result line c.as_slice.result.now (codes "zero 1") c.ne.ensures c.as_slice.ensures c.if-ne.false in
    let is_error = err_from_is_err_and c.from_residual-in_err-second.result c.from_residual-in_err-second.ensures.1 in
    rw (is_error.1, is_error.2) (takes rows_rules Head Claim _ _ _ line c.in_ok-first.ensures (admits_head line same) ∙ has_none rows_rules Claim _ _ _ _ refl c.in_err-second.ensures)

pub returns-in-Ok-clause-reads : goal.returns-in-Ok-clause-reads
returns-in-Ok-clause-reads c =
    let line = c.in_ok-first.first.bytes.now in
    let second = c.in_ok-second.second.bytes.now in
    let same = same_bytes c.ne.result line c.as_slice.result.now (codes "zero 1") c.ne.ensures c.as_slice.ensures c.if-ne.false in
    let claim = c.in-Ok.claim in
    let small = number_behind-small (codes "z ") 10000000 second claim c.in-Ok.ensures in
    let whole : to_z w64 (of_z w64 claim) ≡ claim = omega (arith, ints, small, size_is claim) in
    rw whole (takes rows_rules Head Claim _ _ _ line c.in_ok-first.ensures (admits_head line same)
    ∙ goes_on rows_rules Claim (claimed claim) (number_behind (codes "z ") 10000000 second) (λ z. Ok (claimed z)) claim _ _ _ second c.in_ok-second.ensures refl c.in-Ok.ensures refl)

pub returns-in-Err-clause-reads : goal.returns-in-Err-clause-reads
returns-in-Err-clause-reads c =
    let line = c.in_ok-first.first.bytes.now in
    let second = c.in_ok-second.second.bytes.now in
    let same = same_bytes c.ne.result line c.as_slice.result.now (codes "zero 1") c.ne.ensures c.as_slice.ensures c.if-ne.false in
    rw c.at-in-Err.ensures (takes rows_rules Head Claim _ _ _ line c.in_ok-first.ensures (admits_head line same)
    ∙ stops rows_rules Claim (number_behind (codes "z ") 10000000 second) (λ z. Ok (claimed z)) _ _ _ _ second c.in_ok-second.ensures refl c.in-Err.ensures)
