use Rattle.std.proofs.Common.{◌≡◌, ◌^◌, ◌<◌, ◌≤◌, ℕ, ℤ, IsTrue, bit_or, nat_lt, true, arith, subst}
use Rattle.std.proofs.lemmas.Nat.{le_or_l, le_or_r}
use Rattle.std.proofs.lemmas.Bool.Decides.{nat_tests}
use Rattle.std.proofs.lemmas.Int.{to_z-of_z}
use Rattle.std.specs.Int.{w64}
use Rattle.elimination.specs.StepEntries.{is_small}
use Rattle.elimination.proofs.row_steps.are_short.Goals as goal

below_all : (a b c m : ℕ) → IsTrue (nat_lt (bit_or (bit_or a b) c) m) → (a < m) × ((b < m) × (c < m))
below_all a b c m t =
    let first : a ≤ bit_or a b = le_or_l a b in
    let second : b ≤ bit_or a b = le_or_r a b in
    let both : bit_or a b ≤ bit_or (bit_or a b) c = le_or_l (bit_or a b) c in
    let third : c ≤ bit_or (bit_or a b) c = le_or_r (bit_or a b) c in
    let all : bit_or (bit_or a b) c < m = grind (arith, nat_tests, t) in
    (omega (arith, first, both, all), (omega (arith, second, both, all), omega (arith, third, all)))

pub returns-clause-x : goal.returns-clause-x
returns-clause-x c = λ t. subst (λ (z : ℤ). is_small z ≡ true) (to_z-of_z w64 c.args.x c.ranges.x) (c.raised.ensures (below_all c.raised.result c.raised-2.result c.raised-3.result (2 ^ 52) t).0)

pub returns-clause-y : goal.returns-clause-y
returns-clause-y c = λ t. subst (λ (z : ℤ). is_small z ≡ true) (to_z-of_z w64 c.args.y c.ranges.y) (c.raised-2.ensures (below_all c.raised.result c.raised-2.result c.raised-3.result (2 ^ 52) t).1.0)

pub returns-clause-z : goal.returns-clause-z
returns-clause-z c = λ t. subst (λ (z : ℤ). is_small z ≡ true) (to_z-of_z w64 c.args.z c.ranges.z) (c.raised-3.ensures (below_all c.raised.result c.raised-2.result c.raised-3.result (2 ^ 52) t).1.1)
