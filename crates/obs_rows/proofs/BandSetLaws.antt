-- What holds for each of the numbers holds for every number of a set of bands.
use Rattle.std.proofs.Common.{◌≡◌, ℕ, refl, Bool, true, false, ◌||◌, IsTrue, subst, sym}
use Rattle.std.specs.Prelude.{◌==◌}
use Rattle.std.proofs.lemmas.Bool.{eqb-true}
use Rattle.obs_rows.specs.declared.band_sets.TheConstants.{BANDS_L1_L2, BANDS_L1_L5, BANDS_L1_L2_L5}
use Rattle.obs_rows.specs.BandSets.{IsBandsNumber}

-- of a test or another the one that holds
one_of : (P : Type 0) (a b : Bool) → (a ≡ true → P) → (b ≡ true → P) → IsTrue (a || b) → P
one_of P true b first second is = first refl
one_of P false b first second is = second is

pub each_number : (P : ℕ → Type 0) → P BANDS_L1_L2 → P BANDS_L1_L5 → P BANDS_L1_L2_L5 → (n : ℕ) → IsBandsNumber n → P n
each_number P l1_l2 l1_l5 all n is =
    one_of (P n) (n == BANDS_L1_L2) ((n == BANDS_L1_L5) || (n == BANDS_L1_L2_L5)) (λ e. subst P (sym (eqb-true n BANDS_L1_L2 e)) l1_l2)
    (one_of (P n) (n == BANDS_L1_L5) (n == BANDS_L1_L2_L5) (λ e. subst P (sym (eqb-true n BANDS_L1_L5 e)) l1_l5) (λ e. subst P (sym (eqb-true n BANDS_L1_L2_L5 e)) all)) is
