use Rattle.std.proofs.Common.{◌≡◌, ◌^◌, ◌<◌, ◌≤◌, ℤ, ◌-ℤ◌, arith, to_z, of_z, sym, subst, unsigned_abs}
use Rattle.std.specs.Int.{w64}
use Rattle.std.proofs.lemmas.Int.{ints}
use Rattle.obs_rows.specs.Data.{number_at}
use Rattle.screening.specs.Observed.{size_of}
use Rattle.screening.proofs.AmountLaws.{amount_small, difference_small}
use Rattle.screening.proofs.sights.difference.Goals as goal

plain : (a b : ℤ) → unsigned_abs a ≤ 10 ^ 14 → unsigned_abs b ≤ 10 ^ 14 → to_z w64 (of_z w64 (to_z w64 (of_z w64 b) -ℤ to_z w64 (of_z w64 a))) ≡ b -ℤ a
plain a b h k = omega (arith, ints)

pub returns-clause-value : goal.returns-clause-value
returns-clause-value c =
    let signal = c.args.signal in
    plain (number_at c.args.base.now signal) (number_at c.args.rover.now signal)
    (amount_small signal (number_at c.args.base.now signal) (c.requires.base signal c.requires.signal)) (amount_small signal (number_at c.args.rover.now signal) (c.requires.rover signal c.requires.signal))

pub returns-clause-size : goal.returns-clause-size
returns-clause-size c =
    let signal = c.args.signal in
    subst (λ (z : ℤ). unsigned_abs z < size_of signal) (sym (returns-clause-value c))
    (difference_small signal (number_at c.args.base.now signal) (number_at c.args.rover.now signal) (c.requires.base signal c.requires.signal) (c.requires.rover signal c.requires.signal))
