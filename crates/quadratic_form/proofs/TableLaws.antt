-- What a table of zeros has.
use Rattle.std.proofs.Common.{◌≡◌, ℕ, zero, suc, [], pos, get_or, replicate, refl, unsigned_abs, ◌<◌, ◌^◌, ap, ◌∙◌, arith, ℤ, List}
use Rattle.std.proofs.lemmas.List.{length-replicate, get_or-replicate}
use Rattle.quadratic_form.specs.Tables.{entry, HasShape, zero_rows}

-- each entry of a list of zeros is 0, also past its end
pub zero_item : (n i : ℕ) → get_or (replicate n (pos 0)) i (pos 0) ≡ pos 0
zero_item zero i = refl
zero_item (suc n) zero = refl
zero_item (suc n) (suc i) = zero_item n i

pub zero_shape : (n k : ℕ) → HasShape n k (zero_rows n k)
zero_shape n k = record { rows = length-replicate n (replicate k (pos 0)); columns = λ i inside. rw (get_or-replicate n i (replicate k (pos 0)) [] inside) (length-replicate k (pos 0)) }

-- each entry of a table of zeros is 0, also past its ends
pub zero_entry : (n k i j : ℕ) → entry (zero_rows n k) i j ≡ pos 0
zero_entry zero k i j = refl
zero_entry (suc n) k zero j = zero_item k j
zero_entry (suc n) k (suc i) j = zero_entry n k i j

pub all_zero : (n k : ℕ) (t : List (List ℤ)) → t ≡ zero_rows n k → (i j : ℕ) → entry t i j ≡ pos 0
all_zero n k t zeros i j = ap (λ (t : List (List ℤ)). entry t i j) zeros ∙ zero_entry n k i j

-- 0 is a small entry
pub zero_small : unsigned_abs (pos 0) < 2 ^ 52
zero_small = omega arith
