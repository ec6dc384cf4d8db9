use Rattle.std.proofs.Common.{◌≡◌, ◌+◌, ◌-◌, ◌<◌, ◌≤◌, ◌^◌, ℕ, List, ℤ, unsigned_abs, arith, refl, sym, ap, ◌∙◌, subst}
use Rattle.quadratic_form.specs.declared.sizes.TheConstants.{MOST_FORM_COLUMNS}
use Rattle.quadratic_form.specs.Tables.{entry, IsZeroOutside}
use Rattle.quadratic_form.proofs.TableLaws.{all_zero, zero_small}
use Rattle.integer_form.specs.Forms.{integers_of}
use Rattle.integer_form.specs.Kept.{form_of_table}
use Rattle.int_search.specs.Transformed.{half_entry, IsTransformedSmall, IsTransformed}
use Rattle.int_search.proofs.TransformedLaws.{wholes_as, table_symmetric, table_form}
use Rattle.int_search.proofs.coordinates.transformed.Goals as goal

pub write_wholes-requires-clause-entries : goal.write_wholes-requires-clause-entries
write_wholes-requires-clause-entries c = λ i j. subst (λ (x : ℤ). unsigned_abs x < 2 ^ 52) (sym (all_zero MOST_FORM_COLUMNS MOST_FORM_COLUMNS c.zeros-p.result c.zeros-p.ensures.zeros i j)) zero_small

pub write_wholes-requires-clause-outside : goal.write_wholes-requires-clause-outside
write_wholes-requires-clause-outside c = λ i j past. all_zero MOST_FORM_COLUMNS MOST_FORM_COLUMNS c.zeros-p.result c.zeros-p.ensures.zeros i j

pub returns-then-not-write_wholes-clause-form : goal.returns-then-not-write_wholes-clause-form
returns-then-not-write_wholes-clause-form c =
    let n : ℕ = c.args.change.now.size in
    let m : ℕ → ℕ → ℤ = entry c.args.change.now.map in
    let p : ℕ → ℕ → ℤ = entry c.args.form.now.p in
    subst (λ (k : ℕ). IsTransformedSmall k c.args.change.now.map c.args.form.now.p → ⊥) c.requires
    (λ s. c.if-not-write_wholes.ensures.wide refl (λ i j h g. subst (λ (z : ℤ). unsigned_abs z < 2 ^ 52)
    (sym (wholes_as n m (entry c.write_halves.new.halves) (half_entry n m p) c.write_halves.ensures.value i j g)) (s i j h g)))

pub of-requires-clause-symmetric : goal.of-requires-clause-symmetric
of-requires-clause-symmetric c =
    let n : ℕ = c.args.change.now.size in
    let m : ℕ → ℕ → ℤ = entry c.args.change.now.map in
    let p : ℕ → ℕ → ℤ = entry c.args.form.now.p in
    table_symmetric n m p c.write_wholes.new.p c.args.form.now.symmetric
    (λ i j h g. (c.if-not-write_wholes.ensures.done refl).same i j h g
    ∙ wholes_as n m (entry c.write_halves.new.halves) (half_entry n m p) c.write_halves.ensures.value i j g) (c.if-not-write_wholes.ensures.done refl).outside

pub of-requires-clause-entries_in : goal.of-requires-clause-entries_in
of-requires-clause-entries_in c = (c.if-not-write_wholes.ensures.done refl).entries

pub of-requires-clause-nothing_outside : goal.of-requires-clause-nothing_outside
of-requires-clause-nothing_outside c =
    let from : 4 ≤ c.args.form.now.columns = c.args.form.now.columns_from in
    let count : c.args.change.now.size + 1 ≡ c.args.form.now.columns - 3 = omega (arith, c.requires) in
    subst (λ (k : ℕ). IsZeroOutside k k c.write_wholes.new.p) count (c.if-not-write_wholes.ensures.done refl).outside

pub returns-clause-form : goal.returns-clause-form
returns-clause-form c =
    let n : ℕ = c.args.change.now.size in
    let m : ℕ → ℕ → ℤ = entry c.args.change.now.map in
    let p : ℕ → ℕ → ℤ = entry c.args.form.now.p in
    let size_is : n ≡ integers_of c.args.form.now = c.requires in
    let enough_columns : 4 ≤ c.args.form.now.columns = c.args.form.now.columns_from in
    let column_count : c.of.result.columns ≡ n + 4 = c.of.ensures.columns ∙ omega arith in
    let width_is : c.of.result.columns - 3 ≡ n + 1 = omega arith in
    subst (λ (column_count : ℕ). IsTransformed column_count c.args.change.now.map c.args.form.now.p c.of.result) size_is
    (record {
      columns = column_count;
      small = λ i j h g. subst (λ (z : ℤ). unsigned_abs z < 2 ^ 52)
          ((c.if-not-write_wholes.ensures.done refl).same i j h g ∙ wholes_as n m (entry c.write_halves.new.halves) (half_entry n m p) c.write_halves.ensures.value i j g)
          ((c.if-not-write_wholes.ensures.done refl).entries i j);
      form = ap (λ (t : List (List ℤ)). form_of_table t (c.of.result.columns - 3)) c.of.ensures.p
          ∙ table_form n (c.of.result.columns - 3) c.args.change.now.map c.args.form.now.p c.write_wholes.new.p width_is
          (λ i j h g. (c.if-not-write_wholes.ensures.done refl).same i j h g ∙ wholes_as n m (entry c.write_halves.new.halves) (half_entry n m p) c.write_halves.ensures.value i j g);
    })
