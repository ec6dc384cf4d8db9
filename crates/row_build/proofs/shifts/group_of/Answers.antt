use Rattle.std.proofs.Common.{◌≡◌, ℕ, ◌^◌, ◌<◌, ℤ, pos, unsigned_abs, lit<, arith, to_z, of_z, sym, subst}
use Rattle.std.proofs.lemmas.Int.{to_z-of_z}
use Rattle.std.specs.Int.{w64}
use Rattle.obs_rows.specs.Data.{number_at}
use Rattle.row_boxes.specs.Sightings.{y_of}
use Rattle.row_boxes.specs.YBoxes.{IsWithinHalf, IsAllowedGroup}
use Rattle.row_boxes.proofs.Ends.{read_small}
use Rattle.row_build.specs.Rows.{seen_by}
use Rattle.row_build.proofs.SightLaws.{held_by_both}
use Rattle.row_build.proofs.shifts.group_of.Goals as goal

wide : (n : ℕ) → n < 2 ^ 37 → n < 2 ^ 48
wide n h = omega arith

read : (c : goal.After-first_group) → to_z w64 (of_z w64 (number_at c.args.entry.now.sv.now.observed 2)) ≡ number_at c.args.entry.now.sv.now.observed 2
read c = read_small (number_at c.args.entry.now.sv.now.observed 2) (wide (unsigned_abs (number_at c.args.entry.now.sv.now.observed 2)) (c.args.entry.now.sv.now.observed_in 2 (lit< tt)))

answer : (c : goal.After-first_group) → to_z w64 (of_z w64 c.first_group.result) ≡ c.first_group.result
answer c = to_z-of_z w64 c.first_group.result (record { sfits = c.first_group.type_inv })

pub first_group-requires : goal.first_group-requires
first_group-requires c =
    let amount : ℤ = number_at c.args.entry.now.sv.now.observed 2 in
    let below : unsigned_abs amount < 2 ^ 37 = c.args.entry.now.sv.now.observed_in 2 (lit< tt) in
    subst (λ (z : ℤ). unsigned_abs z < 2 ^ 37) (sym (read_small amount (wide (unsigned_abs amount) below))) below

pub returns-clause-near : goal.returns-clause-near
returns-clause-near c = λ base point known b r a.
    subst (λ (g : ℤ). IsWithinHalf (pos 1) (y_of 2 (number_at c.args.entry.now.sv.now.observed 2) g (pos 0) b r)) (sym (answer c))
    (subst (λ (n : ℤ). IsWithinHalf (pos 1) (y_of 2 n c.first_group.result (pos 0) b r)) (read c)
    (c.first_group.ensures.near (seen_by c.args.entry.now.sv.now base point) (held_by_both c.args.entry.now base point known) b r a))

pub returns-clause-allowed : goal.returns-clause-allowed
returns-clause-allowed c = λ base point known scale t.
    subst (λ (g : ℤ). IsAllowedGroup (seen_by c.args.entry.now.sv.now base point) scale (number_at c.args.entry.now.sv.now.observed 2) g) (sym (answer c))
    (subst (λ (n : ℤ). IsAllowedGroup (seen_by c.args.entry.now.sv.now base point) scale n c.first_group.result) (read c)
    (c.first_group.ensures.allowed scale (seen_by c.args.entry.now.sv.now base point) t (held_by_both c.args.entry.now base point known)))
