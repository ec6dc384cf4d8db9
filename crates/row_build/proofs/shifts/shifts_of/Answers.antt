use Rattle.std.proofs.Common.{◌≡◌, ℕ, ℤ, pos, [], ◌∷◌, IsTrue, ◌^◌, ◌<◌, unsigned_abs, arith, refl, to_z, of_z, sym, subst}
use Rattle.std.proofs.lemmas.Int.{ints, to_z-of_z}
use Rattle.std.proofs.lemmas.List.Elements.{All-from_recursion}
use Rattle.obs_rows.specs.Ranges.{IsBelow}
use Rattle.std.specs.Int.{w64}
use Rattle.obs_rows.specs.Data.{number_at}
use Rattle.obs_rows.specs.Signals.{wavelength, band}
use Rattle.row_boxes.specs.Sightings.{Sighting, y_of}
use Rattle.row_boxes.specs.YBoxes.{AreSightings, IsWithinHalf}
use Rattle.row_build.specs.Rows.{seen_by}
use Rattle.row_build.specs.Shifts.{counts}
use Rattle.row_build.proofs.Amounts.{three}
use Rattle.row_build.proofs.UnusedLaws.{bands_off}
use Rattle.row_build.proofs.shifts.shifts_of.Goals as goal

pub returns-clause-near : goal.returns-clause-near
returns-clause-near c = λ base point known. three (λ (s : ℕ). IsTrue (counts c.args.ss.now s) → (b r : Sighting) → AreSightings (seen_by c.args.entry.now.sv.now base point) b r →
    IsWithinHalf (wavelength s) (y_of s (number_at c.args.entry.now.sv.now.observed s) c.args.group
    (number_at (to_z w64 (of_z w64 c.shift_of-l1.result) ∷ to_z w64 (of_z w64 c.shift_of-l2.result) ∷ to_z w64 (of_z w64 c.shift_of-l5.result) ∷ []) (band s)) b r))
    (λ i b r a. plain 0 c.shift_of-l1.result b r (to_z-of_z w64 c.shift_of-l1.result (record { sfits = c.shift_of-l1.type_inv }))
    (c.shift_of-l1.ensures.near i base point known b r a))
    (λ i b r a. plain 1 c.shift_of-l2.result b r (to_z-of_z w64 c.shift_of-l2.result (record { sfits = c.shift_of-l2.type_inv }))
    (c.shift_of-l2.ensures.near i base point known b r a))
    (λ i b r a. plain 4 c.shift_of-l5.result b r (to_z-of_z w64 c.shift_of-l5.result (record { sfits = c.shift_of-l5.type_inv }))
    (c.shift_of-l5.ensures.near i base point known b r a))
  where
    plain : (s : ℕ) (k : ℤ) (b r : Sighting) → to_z w64 (of_z w64 k) ≡ k → IsWithinHalf (wavelength s) (y_of s (number_at c.args.entry.now.sv.now.observed s) (to_z w64 (of_z w64 c.args.group)) k b r) →
        IsWithinHalf (wavelength s) (y_of s (number_at c.args.entry.now.sv.now.observed s) c.args.group (to_z w64 (of_z w64 k)) b r)
    plain s k b r e h = subst (λ (z : ℤ). IsWithinHalf (wavelength s) (y_of s (number_at c.args.entry.now.sv.now.observed s) c.args.group z b r)) (sym e)
        (subst (λ (g : ℤ). IsWithinHalf (wavelength s) (y_of s (number_at c.args.entry.now.sv.now.observed s) g k b r)) (to_z-of_z w64 c.args.group c.ranges.group) h)

pub returns-clause-unused : goal.returns-clause-unused
returns-clause-unused c = bands_off c.args.ss.now _ _ _
    (λ e. plain c.shift_of-l1.result (c.shift_of-l1.ensures.unused e)) (λ e. plain c.shift_of-l2.result (c.shift_of-l2.ensures.unused e))
    (λ e. plain c.shift_of-l5.result (c.shift_of-l5.ensures.unused e))
  where
    plain : (k : ℤ) → k ≡ pos 0 → to_z w64 (of_z w64 k) ≡ pos 0
    plain k e = rw e refl

pub returns-clause-size : goal.returns-clause-size
returns-clause-size c = All-from_recursion (IsBelow (2 ^ 39)) (to_z w64 (of_z w64 c.shift_of-l1.result) ∷ to_z w64 (of_z w64 c.shift_of-l2.result) ∷ to_z w64 (of_z w64 c.shift_of-l5.result) ∷ [])
    (below c.shift_of-l1.result c.shift_of-l1.ensures.size, (below c.shift_of-l2.result c.shift_of-l2.ensures.size, (below c.shift_of-l5.result c.shift_of-l5.ensures.size, tt)))
  where
    below : (k : ℤ) → unsigned_abs k < 2 ^ 39 → unsigned_abs (to_z w64 (of_z w64 k)) < 2 ^ 39
    below k h = omega (arith, ints)
