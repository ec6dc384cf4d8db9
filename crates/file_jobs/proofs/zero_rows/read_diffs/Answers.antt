use Rattle.std.proofs.Common.{◌≡◌, ◌<◌, ◌≤◌, ℤ, List, [], ◌∷◌, ◌++◌, Ok, refl, ◌∙◌, ap, codes, sym, arith, length, w64, to_z, of_z}
use Rattle.std.proofs.lemmas.Int.{ints}
use Rattle.std.proofs.lemmas.Bool.Decides.{nat_tests}
use Rattle.std.proofs.lemmas.Result.{err_from_is_err_and}
use Rattle.decimal_text.specs.Whole.{size_of}
use Rattle.rinex_head.specs.LineRules.{rest_gives}
use Rattle.rinex_head.proofs.LineRuleLaws.{refuses, goes_on, stops, has_long, ends_badly, ends_well}
use Rattle.file_jobs.specs.ZeroRows.{rows}
use Rattle.file_jobs.specs.ZeroRules.{Diff, with_diff, rows_rules, number_behind}
use Rattle.file_jobs.proofs.RowsSteps.{admits_diff, refuses_more, number_behind-small, finish_none, finish_some}
use Rattle.std.proofs.lemmas.List.Elements.{All-push}
use Rattle.decimal_text.proofs.Numbers.{size_is}
use Rattle.file_jobs.proofs.zero_rows.read_diffs.Goals as goal

pub returns-in_err-line-clause-reads : goal.returns-in_err-line-clause-reads
returns-in_err-line-clause-reads c = λ z.
    let is_error = err_from_is_err_and c.from_residual.result c.from_residual.ensures.1 in
    rw (is_error.1, is_error.2) (c.lines.invariant.reads z ∙ has_long rows_rules (Diff (rows z c.lines.diffs.items)) _ _ _ c.in_err-line.ensures)

pub returns-then-len-ge-MAX_DIFFS-clause-reads : goal.returns-then-len-ge-MAX_DIFFS-clause-reads
returns-then-len-ge-MAX_DIFFS-clause-reads c = λ z.
    let so_far = rows z c.lines.diffs.items in
    let line = c.in-Some.line.bytes.now in
    let gives = rw c.in-Some.is at c.in_ok-line.ensures in
    let many : 1000 ≤ length c.lines.diffs.items = omega arith in
    rw c.at.ensures (c.lines.invariant.reads z ∙ refuses rows_rules (Diff so_far) _ _ _ _ line gives (refuses_more so_far line many))

pub lines-preserved : goal.lines-preserved
lines-preserved c =
    let line = c.in-Some.line.bytes.now in
    let gives = rw c.in-Some.is at c.in_ok-line.ensures in
    let few : length c.lines.diffs.items < 1000 = omega arith in
    let diff = c.in-Ok.diff in
    let small = number_behind-small (codes "diff ") 1000000000 line diff c.in-Ok.ensures in
    let same : to_z w64 (of_z w64 diff) ≡ diff = omega (arith, ints, small, size_is diff) in
    let items = c.in_ok-push-in-Ok.ensures.items ∙ ap (λ (d : ℤ). c.lines.diffs.items ++ d ∷ []) same in
    record {
      reads = λ z.
          let so_far = rows z c.lines.diffs.items in
          c.lines.invariant.reads z
          ∙ goes_on rows_rules (Diff so_far) (with_diff so_far diff) (number_behind (codes "diff ") 1000000000 line) (λ d. Ok (with_diff so_far d))
          diff _ _ _ line gives (admits_diff so_far line few) c.in-Ok.ensures refl
          ∙ ap (λ (ds : List ℤ). rest_gives rows_rules c.line_or_end.new.lines (Diff (rows z ds))) (sym items);
      in_range = rw items (All-push (λ d. size_of d ≤ 1000000000) c.lines.diffs.items diff c.lines.invariant.in_range small);
      few = omega (arith, few);
    }

pub returns-in-Err-clause-reads : goal.returns-in-Err-clause-reads
returns-in-Err-clause-reads c = λ z.
    let so_far = rows z c.lines.diffs.items in
    let line = c.in-Some.line.bytes.now in
    let gives = rw c.in-Some.is at c.in_ok-line.ensures in
    let few : length c.lines.diffs.items < 1000 = omega arith in
    rw c.at-in-Err.ensures (c.lines.invariant.reads z
    ∙ stops rows_rules (Diff so_far) (number_behind (codes "diff ") 1000000000 line) (λ d. Ok (with_diff so_far d)) _ _ _ _ line gives (admits_diff so_far line few) c.in-Err.ensures)

pub returns-then-is_empty-clause-reads : goal.returns-then-is_empty-clause-reads
returns-then-is_empty-clause-reads c = λ z.
    let ended = rw c.in_default.is at c.in_ok-line.ensures in
    let none = finish_none z c.lines.diffs.items (grind (arith, nat_tests)) in
    rw c.at-then-is_empty.ensures (c.lines.invariant.reads z ∙ ends_badly rows_rules (Diff (rows z c.lines.diffs.items)) _ _ _ _ ended none c.next_number.ensures)

pub returns-clause-reads : goal.returns-clause-reads
returns-clause-reads c = λ z.
    let ended = rw c.in_default.is at c.in_ok-line.ensures in
    let some = finish_some z c.lines.diffs.items (grind (arith, nat_tests)) in
    c.lines.invariant.reads z ∙ ends_well rows_rules (Diff (rows z c.lines.diffs.items)) _ _ _ ended some
