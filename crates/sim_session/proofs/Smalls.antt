-- Cycles are small wherever they are looked up, and so are clock terms.
use Rattle.std.proofs.Common.{◌≡◌, ℕ, zero, suc, ◌≤◌, List, [], ◌∷◌, get_or, ℤ, unsigned_abs, All, w64, to_z, of_z, arith}
use Rattle.std.proofs.lemmas.Int.{ints}
use Rattle.whole_math.proofs.Words.{as_w64}
use Rattle.std.proofs.lemmas.List.Elements.{All-nil, All-head, All-tail}
use Rattle.sim_session.specs.Values.{AreSmall}
use Rattle.sim_session.specs.declared.drawn.TheConstants.{MOST_CLOCK}
use Rattle.sim_session.proofs.SignalSmalls.{IsSmall}

pub cycles_at : (cs : List (List ℤ)) (k : ℕ) → All AreSmall cs → AreSmall (get_or cs k [])
cycles_at [] k h = All-nil IsSmall
cycles_at (c ∷ cs) zero h = All-head AreSmall c cs h
cycles_at (c ∷ cs) (suc k) h = cycles_at cs k (All-tail AreSmall c cs h)

pub clock_cast : (z : ℤ) → unsigned_abs z ≤ MOST_CLOCK → to_z w64 (of_z w64 z) ≡ z
clock_cast z small = as_w64 z (omega (arith, small))

pub still_clock : (z : ℤ) → unsigned_abs z ≤ MOST_CLOCK → unsigned_abs (to_z w64 (of_z w64 z)) ≤ MOST_CLOCK
still_clock z small = omega (arith, ints)
