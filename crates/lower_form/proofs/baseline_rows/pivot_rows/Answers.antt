use Rattle.std.proofs.Common.{◌≡◌, ℕ, ◌^◌, ◌<◌, ◌≤◌, List, length, set, ℤ, pos, int_lt, true, false, unsigned_abs, slice_index_or, get_or-set_same, get_or-set_other, length-set, arith, to_z, of_z, sym, ap, ◌∙◌, subst, rules}
use Rattle.std.specs.Int.{w64}
use Rattle.whole_math.proofs.Words.{as_w64}
use Rattle.quadratic_form.specs.Elimination.{kept}
use Rattle.quadratic_form.specs.Tables.{entry, item}
use Rattle.normal_sum.specs.declared.normal.Normal.{Normal}
use Rattle.elimination.specs.StepEntries.{is_small}
use Rattle.elimination.proofs.SmallEntries.{small_entry}
use Rattle.elimination.proofs.RowStepLaws.{no_rows, more_rows, pivot_sizes, pivots_positive}
use Rattle.lower_form.specs.FirstRounding.{first_entry}
use Rattle.lower_form.proofs.baseline_rows.pivot_rows.Goals as goal

pub loop-j-init : goal.loop-j-init
loop-j-init c = record {
  full = search rules;
  rows = no_rows (first_entry c.args.normal.now c.args.h) c.args.pivots.now.rows c.args.normal.now.columns c.args.front.now.d c.args.front.now.l;
  columns = c.requires.columns;
}

inside : (n : Normal) (j : ℕ) → j < 3 → j < n.columns
inside n j h = let from : 4 ≤ n.columns = n.columns_from in omega arith

pub stepped_row-requires-clause-row_in : goal.stepped_row-requires-clause-row_in
stepped_row-requires-clause-row_in c = inside c.args.normal.now c.loop-j.j c.loop-j-test.true

pub stepped_row-requires-clause-positive : goal.stepped_row-requires-clause-positive
stepped_row-requires-clause-positive c = pivots_positive (first_entry c.args.normal.now c.args.h) c.loop-j.pivots.rows c.args.normal.now.columns c.loop-j.front.d c.loop-j.front.l c.loop-j.j c.loop-j.invariant.rows

pub stepped_row-requires-clause-pivots : goal.stepped_row-requires-clause-pivots
stepped_row-requires-clause-pivots c = pivot_sizes (first_entry c.args.normal.now c.args.h) c.loop-j.pivots.rows c.args.normal.now.columns c.loop-j.front.d c.loop-j.front.l c.loop-j.j c.loop-j.invariant.rows

pub keep-requires-clause-column_in : goal.keep-requires-clause-column_in
keep-requires-clause-column_in c = inside c.args.normal.now c.loop-j.j c.loop-j-test.true

pub keep-requires-clause-own_size : goal.keep-requires-clause-own_size
keep-requires-clause-own_size c =
    let j : ℕ = c.loop-j.j in
    let done : c.stepped_row.result ≡ true = c.if-not-stepped_row.false in
    let in_columns : j < c.args.normal.now.columns = inside c.args.normal.now c.loop-j.j c.loop-j-test.true in
    small_entry (item c.stepped_row.new.row j) (subst (λ (z : ℤ). is_small z ≡ true) (sym (c.stepped_row.ensures.value done j (omega arith) in_columns))
    (c.stepped_row.ensures.small done j j (omega arith) (omega arith) in_columns))

pub loop-j-preserved : goal.loop-j-preserved
loop-j-preserved c =
    let j : ℕ = c.loop-j.j in
    let done : c.stepped_row.result ≡ true = c.if-not-stepped_row.false in
    let in_columns : j < c.args.normal.now.columns = inside c.args.normal.now c.loop-j.j c.loop-j-test.true in
    let own : entry c.keep.new.self.rows j j ≡ item c.stepped_row.new.row j = c.keep.ensures.row j (omega arith) in_columns in
    let f : ℤ = c.in-Some.kept in
    let v : ℤ = to_z w64 (of_z w64 c.in-Some.kept) in
    let ev : v ≡ f = as_w64 f (omega (arith, c.in-Some.ensures.size)) in
    let d : List ℤ = c.stepped_row.new.front.d in
    let same : d ≡ c.loop-j.front.d = c.stepped_row.ensures.others.kept in
    let full : length d ≡ 3 = ap (λ (s : List ℤ). length s) same ∙ c.loop-j.invariant.full in
    let room : j < length d = omega (arith, full, c.loop-j-test.true) in
    record {
      full = length-set d j v ∙ full;
      rows = more_rows (first_entry c.args.normal.now c.args.h) c.loop-j.pivots.rows c.keep.new.self.rows c.args.normal.now.columns c.loop-j.front.d (set d j v) c.loop-j.front.l
          c.stepped_row.new.front.l j c.loop-j.invariant.rows
          (λ i m d. c.keep.ensures.others i m d)
          (λ i a. get_or-set_other d j i v (pos 0) (omega arith) ∙ ap (λ (s : List ℤ). slice_index_or s i (pos 0)) same)
          (λ i m d. c.stepped_row.ensures.others.others i m d)
          (λ k h g. c.keep.ensures.row k h g ∙ c.stepped_row.ensures.value done k h g)
          (subst (λ (z : ℤ). int_lt z (pos (2 ^ 20)) ≡ false) (sym own) c.in-Some.ensures.strong)
          (c.stepped_row.ensures.factors done)
          (get_or-set_same d j v (pos 0) room ∙ ev ∙ c.in-Some.ensures.kept ∙ ap (λ (z : ℤ). kept (unsigned_abs z)) (sym own))
          (c.stepped_row.ensures.small done);
      columns = c.stepped_row.ensures.others.columns ∙ c.loop-j.invariant.columns;
    }
