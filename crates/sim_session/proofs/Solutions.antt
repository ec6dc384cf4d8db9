-- What holds of every solution, said of the numbers that the code hands on.
use Rattle.std.proofs.Common.{◌≡◌, ℕ, List, ℤ, pos, ◌*ℤ◌, ◌≤ℤ◌, ◌<ℤ◌, ◌^◌, arith, w64, to_z, of_z, sym, subst}
use Rattle.std.proofs.lemmas.Int.{ints}
use Rattle.whole_math.proofs.Words.{as_w64}
use Rattle.whole_math.specs.Rational.{Rational, of_whole, ◌+ʳ◌, AreWithin}
use Rattle.eph_store.specs.declared.ephemeris.Eph.{Eph}
use Rattle.orbit_model.specs.Elements.{Constants}
use Rattle.sim_session.specs.ObservationText.{IsInColumns}
use Rattle.sim_session.specs.Observed.{ForSolutions, IsDistance, measured, thousandths, IsCodeAfter, IsPhase}

pub code_is : (world : Constants) (eph : Eph) (tag : ℕ) (before given : ℤ) (point : List ℤ) (units clock own after returned : ℤ) → before ≡ given → clock ≡ own → returned ≡ after →
    ForSolutions world eph tag before point (λ v. IsDistance units v) → ((v : Rational) → IsDistance units v → AreWithin (of_whole (pos 2)) (of_whole after) (measured clock v)) →
    IsCodeAfter world eph tag point own given returned
code_is world eph tag before given point units clock own after returned e f g all near =
    rw (← e, ← f, g) (record { some = all.some; exists = all.exists; every = λ v is. near v (all.every v is) })

pub phase_is : (frequency : ℕ) (world : Constants) (eph : Eph) (tag : ℕ) (code given : ℤ) (point : List ℤ) (units clock own cycles passed phase returned : ℤ) →
    code ≡ given → clock ≡ own → cycles ≡ passed → returned ≡ phase →
    ForSolutions world eph tag code point (λ v. IsDistance units v) →
    ((v : Rational) → IsDistance units v → AreWithin (of_whole (pos 2)) (of_whole phase) (thousandths frequency (measured clock v) +ʳ of_whole (pos 1000 *ℤ cycles))) →
    IsPhase frequency world eph tag point own given passed returned
phase_is frequency world eph tag code given point units clock own cycles passed phase returned e f g h all near =
    rw (← e, ← f, ← g, h) (record { some = all.some; exists = all.exists; every = λ v is. near v (all.every v is) })

pub code_cast : (z : ℤ) → pos 0 ≤ℤ z → z ≤ℤ pos (10 ^ 11) → to_z w64 (of_z w64 z) ≡ z
code_cast z low high = as_w64 z (omega (arith, ints, low, high))

-- what has room in its columns has it as the code hands it on
pub columns_cast : (z : ℤ) → pos 0 ≤ℤ z → z <ℤ pos (10 ^ 13) → IsInColumns (to_z w64 (of_z w64 z))
columns_cast z low high = subst IsInColumns (sym (as_w64 z (omega (arith, ints, low, high)))) (low, high)

pub code_in_columns : (z : ℤ) → pos 0 ≤ℤ z → z ≤ℤ pos (10 ^ 11) → IsInColumns (to_z w64 (of_z w64 z))
code_in_columns z low high = columns_cast z low (omega (arith, ints, high))
