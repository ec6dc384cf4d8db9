use Rattle.std.proofs.Common.{◌≡◌, ℕ, map, refl}
use Rattle.std.specs.Fmt.{decimal, digits}
use Rattle.obs_rows.specs.BandSets.{bands_of, digit_of}
use Rattle.obs_rows.proofs.BandSetLaws.{each_number}
use Rattle.obs_rows.proofs.band_sets.digits_law.Goals as goal

pub returns-clause-numbers : goal.returns-clause-numbers
unfolding digits
returns-clause-numbers c = each_number (λ (n : ℕ). map digit_of (bands_of n) ≡ decimal n) refl refl refl
