use Rattle.std.proofs.Common.{◌≡◌, ℕ, ℤ, pos, ◌-ℤ◌, ◌*ℤ◌, ◌≤◌, ◌≤ℤ◌, arith, lit≤}
use Rattle.std.proofs.lemmas.Int.{ints}
use Rattle.sv_orbit.proofs.worlds.worlds_law.Goals as goal

le_pos : (m n : ℕ) → m ≤ n → pos m ≤ℤ pos n
le_pos m n h = omega (arith, ints)

pub returns-clause-effect_high : goal.returns-clause-effect_high
returns-clause-effect_high c = le_pos _ _ (lit≤ tt)

pub returns-clause-effect_low : goal.returns-clause-effect_low
returns-clause-effect_low c = le_pos _ _ (lit≤ tt)

seconds : (t c : ℤ) → ((t *ℤ pos 149896229) -ℤ (c *ℤ pos 5000)) *ℤ pos 2997924580000000000 ≡ ((t *ℤ pos 299792458000) -ℤ (c *ℤ pos 10000000)) *ℤ pos 1498962290000000
seconds t c = omega (arith, ints)

pub returns-clause-sent : goal.returns-clause-sent
returns-clause-sent c = λ tag code. seconds (pos tag) code

pub returns-clause-galileo_high : goal.returns-clause-galileo_high
returns-clause-galileo_high c = le_pos _ _ (lit≤ tt)

pub returns-clause-galileo_low : goal.returns-clause-galileo_low
returns-clause-galileo_low c = le_pos _ _ (lit≤ tt)
