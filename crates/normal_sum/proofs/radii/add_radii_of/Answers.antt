use Rattle.std.proofs.Common.{◌≡◌, ℕ, ◌+◌, ◌*◌, ◌^◌, ◌<◌, ◌≤◌, [], ◌∷◌, List, pos, ◌*ℤ◌, length, map, drop, arith, sym, ap, ◌∙◌, rules}
use Rattle.std.proofs.lemmas.Int.{to_z-of_z}
use Rattle.std.proofs.lemmas.List.{drop_more, drop_all}
use Rattle.std.specs.Int.{w64}
use Rattle.quadratic_form.specs.Rows.{Radii, add_radii, row_radii}
use Rattle.obs_rows.specs.declared.rows.Row.{Row}
use Rattle.obs_rows.specs.SignalGroups.{signal_row}
use Rattle.normal_sum.specs.declared.places.TheConstants.{MOST_ROWS}
use Rattle.normal_sum.specs.RadiusSums.{radii_of, squares_of}
use Rattle.normal_sum.proofs.RadiusLaws.{radii_assoc, at_most_wider}
use Rattle.normal_sum.proofs.NormalLaws.{radii_end}
use Rattle.normal_sum.proofs.radii.add_radii_of.Goals as goal

few : (i n : ℕ) → i ≤ n → n ≤ MOST_ROWS → (2 ^ 99) + (i * 2 ^ 75) ≤ 2 ^ 110
few i n some most = omega arith

all_of : (m n : ℕ) → n ≤ MOST_ROWS → m + (n * 2 ^ 75) ≤ m + (MOST_ROWS * 2 ^ 75)
all_of m n most = omega arith

one_more : (m i : ℕ) → (m + (i * 2 ^ 75)) + 2 ^ 75 ≤ m + ((i + 1) * 2 ^ 75)
one_more m i = omega arith

pub add_row-sums-requires-clause-sums : goal.add_row-sums-requires-clause-sums
add_row-sums-requires-clause-sums c =
    let inside : c.loop-row.row-index < length c.args.rows.now = search rules in
    at_most_wider ((2 ^ 99) + (c.loop-row.row-index * 2 ^ 75)) (2 ^ 110) c.loop-row.sums (few c.loop-row.row-index (length c.args.rows.now) (omega arith) c.requires.few_rows)
    (c.loop-row.invariant.size (2 ^ 99) c.requires.sums)

pub loop-row-preserved : goal.loop-row-preserved
loop-row-preserved c =
    let row : Row = c.row-item.result in
    let later : List Row = drop (c.loop-row.row-index + 1) c.args.rows.now in
    let inside : c.loop-row.row-index < length c.args.rows.now = search rules in
    let next : drop c.loop-row.row-index c.args.rows.now ≡ row ∷ later = drop_more c.args.rows.now c.loop-row.row-index row inside ∙ ap (λ (y : Row). y ∷ later) (sym c.row-item.is) in
    record {
      value = λ w arcs ss s weighs.
          ap (λ (p : Radii). add_radii p (row_radii w (map (signal_row arcs ss s) later)))
          (c.add_row-sums.ensures.value ∙ ap (λ z. add_radii (radii_of c.loop-row.sums) (squares_of z row)) weighs)
          ∙ radii_assoc (radii_of c.loop-row.sums) (squares_of (pos 360360 *ℤ w) row) (row_radii w (map (signal_row arcs ss s) later))
          ∙ ap (λ (l : List Row). add_radii (radii_of c.loop-row.sums) (row_radii w (map (signal_row arcs ss s) l))) (sym next)
          ∙ c.loop-row.invariant.value w arcs ss s weighs;
      size = λ m most. at_most_wider ((m + (c.loop-row.row-index * 2 ^ 75)) + 2 ^ 75) (m + ((c.loop-row.row-index + 1) * 2 ^ 75)) _ (one_more m c.loop-row.row-index)
          (c.add_row-sums.ensures.size (m + (c.loop-row.row-index * 2 ^ 75)) (c.loop-row.invariant.size m most));
    }

pub returns-clause-value : goal.returns-clause-value
returns-clause-value c = λ w arcs ss s weighs.
    let none : drop c.loop-row.row-index c.args.rows.now ≡ [] = drop_all c.loop-row.row-index c.args.rows.now (omega (arith, c.loop-row-test.false)) in
    sym (radii_end (radii_of c.loop-row.sums)) ∙ ap (λ (l : List Row). add_radii (radii_of c.loop-row.sums) (row_radii w (map (signal_row arcs ss s) l))) (sym none)
    ∙ c.loop-row.invariant.value w arcs ss s (to_z-of_z w64 c.args.weight c.ranges.weight ∙ weighs)

pub returns-clause-size : goal.returns-clause-size
returns-clause-size c =
    let i : ℕ = c.loop-row.row-index in
    let upper : i ≤ length c.args.rows.now = search rules in
    λ m most. at_most_wider (m + (i * 2 ^ 75)) (m + (MOST_ROWS * 2 ^ 75)) c.loop-row.sums (all_of m i (omega (arith, c.requires.few_rows))) (c.loop-row.invariant.size m most)
