-- How many pairs rise below a number, and why two files are refused.
use Rattle.std.proofs.Common.{◌≡◌, ℕ, suc, ◌+◌, ◌<◌, ◌≤◌, Bool, Some, List, [], ◌∷◌, length, All, AllPairs, arith, sym, ◌∙◌, subst}
use Rattle.std.proofs.lemmas.Option.{none-some}
use Rattle.obs_store.specs.declared.file.ObsFile.{ObsFile}
use Rattle.obs_store.specs.Epochs.{tags_of}
use Rattle.epoch_pair.specs.declared.pairs.PairOf.{PairOf}
use Rattle.epoch_pair.specs.declared.pairs.PairFault.{PairFault}
use Rattle.epoch_pair.specs.declared.pairs.PairFault.TheVariants.{Dense, NoMemory}
use Rattle.epoch_pair.specs.Faults.{IsPairFault}
use Rattle.obs_rows.specs.declared.options.Options.{Options}
use Rattle.epoch_pair.specs.declared.faults.SessionFault.{SessionFault}
use Rattle.epoch_pair.specs.Beginnings.{HasPosition, HaveSignals, LackSignal, IsSessionFault, fault_of}
use Rattle.obs_rows.specs.BandSets.{bands_of}
use Rattle.epoch_pair.specs.Pairs.{Follows}
use Rattle.epoch_pair.specs.Signals.{letter_on, letter_of, IsLetterFor}

-- numbers that rise from lo on and stay below n are at most n - lo
rising_from : (xs : List PairOf) (lo n : ℕ) → AllPairs Follows xs → All (λ p. lo ≤ p.base) xs → All (λ p. p.base < n) xs → lo ≤ n → lo + length xs ≤ n
rising_from [] lo n r a b h = omega arith
rising_from (x ∷ xs) lo n r a b h =
    let first : lo ≤ x.base = a 0 x (omega arith) in
    let below : x.base < n = b 0 x (omega arith) in
    let rest : suc x.base + length xs ≤ n = rising_from xs (suc x.base) n (λ i j d p q. r (suc i) (suc j) d (omega arith) (omega arith))
    (λ k d i. (r 0 (suc k) d (omega arith) (omega arith)).0) (λ k d i. b (suc k) d (omega arith)) (omega arith) in
    omega arith

pub few_pairs : (xs : List PairOf) (n : ℕ) → AllPairs Follows xs → All (λ p. p.base < n) xs → length xs ≤ n
few_pairs xs n r b = let length_at_most : 0 + length xs ≤ n = rising_from xs 0 n r (λ k d i. omega arith) b (omega arith) in omega arith

-- files that share a letter on each of these bands lack none
pub no_lack : (bands : List ℕ) (base rover : ObsFile) → HaveSignals bands base rover → LackSignal bands base rover → ⊥
no_lack bands base rover (s, are) lack =
    let found : letter_on base.listed rover.listed lack.band ≡ Some (letter_of s lack.band) =
    subst (λ (used : Bool). IsLetterFor used (letter_on base.listed rover.listed lack.band) (letter_of s lack.band)) lack.is_used (are lack.band lack.inside) in
    none-some (letter_of s lack.band) (sym lack.none ∙ found)

pub refused_pair : (base rover : ObsFile) (o : Options) (f : PairFault) (r : SessionFault) → r ≡ fault_of f → HasPosition base → HaveSignals (bands_of o.bands) base rover
    → IsPairFault o.gap (tags_of base.epochs) (tags_of rover.epochs) f → IsSessionFault base rover o r
refused_pair base rover o (Dense in_rover epoch) r e p s h = subst (IsSessionFault base rover o) (sym e) (p, (s, h))
refused_pair base rover o NoMemory r e p s h = subst (IsSessionFault base rover o) (sym e) (p, (s, h))
