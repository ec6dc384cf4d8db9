use Rattle.std.proofs.Common.{ℤ, pos, ◌-ℤ◌, ◌*ℤ◌, refl, ap, ◌∙◌, to_z, of_z}
use Rattle.std.proofs.lemmas.Int.{to_z-of_z}
use Rattle.std.specs.Int.{w64, w128}
use Rattle.whole_math.specs.Rational.{◌-ʳ◌}
use Rattle.orbit_model.specs.Elements.{sent_at, seconds}
use Rattle.sv_orbit.specs.ClockTerms.{per_ten_thousand}
use Rattle.sv_orbit.proofs.Values.{sent_ratio}
use Rattle.sv_orbit.proofs.correction.time_since.Goals as goal

pub returns : goal.returns
returns g c =
    let n : ℤ = to_z w128 (of_z w128 c.sent_since.result) in
    let own = to_z-of_z w128 c.sent_since.result (record { sfits = c.sent_since.type_inv }) in
    let code = ap (λ (k : ℤ). ((pos c.args.tag.0 -ℤ pos c.args.epoch.0) *ℤ pos 149896229) -ℤ (k *ℤ pos 5000)) (to_z-of_z w64 c.args.code c.ranges.code) in
    c.quotient.ensures (per_ten_thousand (sent_at c.args.tag.0 c.args.code -ʳ seconds c.args.epoch.0)) (sent_ratio c.args.tag.0 c.args.epoch.0 c.args.code n _ (own ∙ c.sent_since.ensures ∙ code) refl)
