use Rattle.std.proofs.Common.{◌≡◌, ℕ, zero, suc, ◌^◌, ◌<◌, ◌≤◌, [], ◌∷◌, List, ℤ, pos, unsigned_abs, slice_index_or, arith, sym, ap, ◌∙◌, subst}
use Rattle.std.proofs.lemmas.Int.{ints}
use Rattle.quadratic_form.specs.declared.sizes.TheConstants.{MOST_COLUMNS}
use Rattle.quadratic_form.specs.Tables.{entry, zero_rows}
use Rattle.quadratic_form.proofs.TableLaws.{zero_entry}
use Rattle.normal_sum.specs.Matrices.{IsRadiusSum}
use Rattle.normal_sum.proofs.normal.Normal.empty.Goals as goal

nothing : (t : List (List ℤ)) → t ≡ zero_rows MOST_COLUMNS MOST_COLUMNS → (i j : ℕ) → entry t i j ≡ pos 0
nothing t e i j = ap (λ (t : List (List ℤ)). entry t i j) e ∙ zero_entry MOST_COLUMNS MOST_COLUMNS i j

radius : IsRadiusSum (pos 0)
radius = (omega (arith, ints), omega (arith, ints))

radii : (i : ℕ) (d : ℤ) → i < 4 → IsRadiusSum (slice_index_or (pos 0 ∷ (pos 0 ∷ (pos 0 ∷ (pos 0 ∷ [])))) i d)
radii zero d h = radius
radii (suc zero) d h = radius
radii (suc (suc zero)) d h = radius
radii (suc (suc (suc zero))) d h = radius
radii (suc (suc (suc (suc i)))) d h = absurd (omega arith)

small : (x : ℤ) → x ≡ pos 0 → unsigned_abs x < 2 ^ 120
small x e = subst (λ (z : ℤ). unsigned_abs z < 2 ^ 120) (sym e) (omega arith)

pub invariant_of-result : goal.invariant_of-result
invariant_of-result c =
    let all_zeros : (i j : ℕ) → entry c.zeros.result i j ≡ pos 0 = nothing c.zeros.result c.zeros.ensures.zeros in
    record {
      columns_from = omega arith;
      columns_to = omega arith;
      symmetric = λ i j. all_zeros i j ∙ sym (all_zeros j i);
      entries_in = λ i j. small (entry c.zeros.result i j) (all_zeros i j);
      nothing_outside = λ i j h. all_zeros i j;
      radii_in = radii;
    }

pub returns : goal.returns
returns c = nothing c.zeros.result c.zeros.ensures.zeros
