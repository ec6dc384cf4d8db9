use Rattle.std.proofs.Common.{◌≡◌, ◌≤◌, ℤ, pos, ◌-ℤ◌, ◌*ℤ◌, unsigned_abs, to_z, of_z, arith, ap, ◌∙◌}
use Rattle.std.proofs.lemmas.Int.{ints, to_z-of_z}
use Rattle.std.specs.Int.{w64}
use Rattle.signal_travel.specs.Grid.{offset}
use Rattle.signal_travel.proofs.mask.offset_of.Goals as goal
use Rattle.obs_rows.specs.declared.limits.TheConstants.{MOST_COORDINATE}

plain : (g p : ℤ) → unsigned_abs g ≤ 8796093022209 → unsigned_abs p ≤ MOST_COORDINATE →
    to_z w64 (of_z w64 (to_z w64 (of_z w64 (pos 625 *ℤ to_z w64 (of_z w64 g))) -ℤ to_z w64 (of_z w64 (pos 8192 *ℤ to_z w64 (of_z w64 p))))) ≡ (pos 625 *ℤ g) -ℤ (pos 8192 *ℤ p)
plain g p h k = omega (arith, ints)

pub returns-clause-value : goal.returns-clause-value
returns-clause-value c = plain c.grid_of-grid.result c.args.coordinate c.grid_of-grid.ensures.size c.requires.size
    ∙ ap (λ (g : ℤ). (pos 625 *ℤ g) -ℤ (pos 8192 *ℤ c.args.coordinate)) c.grid_of-grid.ensures.value
    ∙ ap (λ (l : ℤ). offset l c.args.coordinate) (to_z-of_z w64 c.args.lo c.ranges.lo)
