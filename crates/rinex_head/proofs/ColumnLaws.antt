-- Fields of a line, column by column.
use Rattle.std.proofs.Common.{◌≡◌, ◌<◌, ◌≤◌, ◌+◌, ◌-◌, ℕ, zero, suc, List, [], ◌∷◌, length, drop, get_or, refl, ap, ◌∙◌, sym, arith}
use Rattle.std.proofs.lemmas.List.{ext_get_or, get_or-drop}
use Rattle.rinex_head.specs.Columns.{padded, columns, column}

abbrev blank : ℕ
blank = 32

pub length-padded : (bs : List ℕ) (n : ℕ) → length (padded bs n) ≡ n
unfolding padded
length-padded bs zero = refl
length-padded [] (suc n) = ap suc (length-padded [] n)
length-padded (b ∷ bs) (suc n) = ap suc (length-padded bs n)

pub get_or-padded : (bs : List ℕ) (n i : ℕ) → i < n → get_or (padded bs n) i 32 ≡ get_or bs i 32
unfolding padded
get_or-padded bs zero i lt = absurd (omega arith)
get_or-padded [] (suc n) zero lt = refl
get_or-padded [] (suc n) (suc i) lt = get_or-padded [] n i (omega arith) ∙ nothing i
  where
    nothing : (i : ℕ) → get_or {A = ℕ} [] i 32 ≡ blank
    nothing zero = refl
    nothing (suc i) = refl
get_or-padded (b ∷ bs) (suc n) zero lt = refl
get_or-padded (b ∷ bs) (suc n) (suc i) lt = get_or-padded bs n i (omega arith)

-- the columns are these bytes, where they are as many and each is the byte of its column
pub columns-are : (line : List ℕ) (first n : ℕ) (bytes : List ℕ) → 1 ≤ first → length bytes ≡ n → ((i : ℕ) → i < n → get_or bytes i 32 ≡ column line (first + i)) → bytes ≡ columns line first n
columns-are line first n bytes from same each = ext_get_or 32 bytes (columns line first n) (same ∙ sym (length-padded (drop (first - 1) line) n)) (λ i lt.
    let less : i < n = omega arith in
    let place_is : first - 1 + i ≡ first + i - 1 = omega arith in
    each i less ∙ sym (get_or-padded (drop (first - 1) line) n i less ∙ get_or-drop (first - 1) line i 32 ∙ ap (λ (k : ℕ). get_or line k 32) place_is))
