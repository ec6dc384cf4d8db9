use Rattle.std.proofs.Common.{◌≡◌, ◌≤◌, ℤ, pos, ◌+ℤ◌, ◌≤ℤ◌, unsigned_abs, w64, to_z, of_z, arith}
use Rattle.std.proofs.lemmas.Int.{ints}
use Rattle.sim_session.specs.declared.drawn.TheConstants.{MOST_CLOCK}
use Rattle.sim_session.proofs.Measures.{code_near}
use Rattle.sim_session.proofs.distances.code_of.Goals as goal

plain : (n k : ℤ) → pos 4999999000 ≤ℤ n → n ≤ℤ pos 72000001000 → unsigned_abs k ≤ MOST_CLOCK → to_z w64 (of_z w64 (to_z w64 (of_z w64 n) +ℤ to_z w64 (of_z w64 k))) ≡ n +ℤ k
plain n k a b s = omega (arith, ints)

pub returns-clause-near : goal.returns-clause-near
returns-clause-near c = λ v h.
    let units = c.whole_units in
    code_near c.args.distance.now.units units.result c.args.clock _ v (plain units.result c.args.clock units.ensures.low units.ensures.high c.requires) units.ensures.nearest h
