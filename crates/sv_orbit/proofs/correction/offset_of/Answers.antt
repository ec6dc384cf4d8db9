use Rattle.std.proofs.Common.{◌≡◌, ℕ, ℤ, arith, sym, subst}
use Rattle.std.proofs.lemmas.Int.{to_z-of_z}
use Rattle.std.specs.Int.{w64}
use Rattle.whole_math.specs.Rational.{◌-ʳ◌}
use Rattle.iv_core.specs.declared.Iv.{Iv}
use Rattle.iv_core.specs.Intervals.{Holds}
use Rattle.orbit_model.specs.Elements.{sent_at, seconds}
use Rattle.sv_orbit.specs.ClockTerms.{per_ten_thousand}
use Rattle.sv_orbit.proofs.correction.offset_of.Goals as goal

pub returns-then-made : goal.returns-then-made
returns-then-made c =
    let eph = c.args.made.now.eph in
    let same : eph.toc.0 ≡ eph.toe.0 = omega arith in
    subst (λ (t : ℕ). Holds c.loose.result.held (per_ten_thousand (sent_at c.args.tag.0 c.args.code -ʳ seconds t))) (sym same)
    (subst (λ (b : Iv 60). Holds b (per_ten_thousand (sent_at c.args.tag.0 c.args.code -ʳ seconds eph.toe.0))) (sym c.loose.ensures) c.requires.sent)

pub returns-else-made : goal.returns-else-made
returns-else-made c = subst (λ (k : ℤ). Holds c.time_since.result.held (per_ten_thousand (sent_at c.args.tag.0 k -ʳ seconds c.args.made.now.eph.toc.0)))
    (to_z-of_z w64 c.args.code c.ranges.code) c.time_since.ensures
