-- The ends of the box of a point, and those of its root.
use Rattle.std.proofs.Common.{ℤ, ◌∙◌, subst, sym, lit<}
use Rattle.std.proofs.lemmas.Int.{to_z-of_z}
use Rattle.std.specs.Int.{w64}
use Rattle.iv_core.specs.declared.Iv.{Iv}
use Rattle.iv_core.specs.Intervals.{Holds}
use Rattle.whole_math.specs.Rational.{of_whole}
use Rattle.sv_orbit.proofs.RootOfMu.{root_box, point_of_mu}
use Rattle.sv_orbit.proofs.shape.root_of_mu.Goals as goal

pub new-requires : goal.new-requires
new-requires c =
    let scaled : ℤ = c.scaled_mu-scaled.result in
    let own = to_z-of_z w64 scaled (record { sfits = c.scaled_mu-scaled.type_inv }) in
    let is_root = root_box scaled c.from_ends-mu.result.lo c.from_ends-mu.result.hi c.root_to.result.lo c.root_to.result.hi
    (c.from_ends-mu.ensures.lo ∙ own) (c.from_ends-mu.ensures.hi ∙ own) c.scaled_mu-scaled.ensures.high c.root_to.ensures.not_negative
    c.root_to.result.ordered c.root_to.ensures.near_low c.root_to.ensures.near_high in
    (lit< tt, (lit< tt, ((is_root.0, is_root.1), is_root.2)))

pub returns : goal.returns
returns c = λ r near.
    let scaled : ℤ = c.scaled_mu-scaled.result in
    let own = to_z-of_z w64 scaled (record { sfits = c.scaled_mu-scaled.type_inv }) in
    let held = c.root_to.ensures.holds (of_whole c.args.world.now.mu) r (point_of_mu c.args.world.now.mu scaled c.from_ends-mu.result.lo
    c.from_ends-mu.result.hi c.scaled_mu-scaled.ensures.value (c.from_ends-mu.ensures.lo ∙ own) (c.from_ends-mu.ensures.hi ∙ own)) near in
    subst (λ (b : Iv 36). Holds b r) (sym c.new.ensures) held
