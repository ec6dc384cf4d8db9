-- Lines of bytes as the lines of a text: each is written with a carriage return and a line feed after it.
use Rattle.std.proofs.Common.{◌≡◌, ◌≢◌, ◌<◌, ◌+◌, ◌-◌, ◌==◌, ℕ, false, List, [], ◌∷◌, ◌++◌, length, slice_index, All, refl, ap, ◌∙◌, arith, append_assoc, length-append}
use Rattle.std.proofs.lemmas.List.{append-nil, take_at}
use Rattle.std.proofs.lemmas.List.Elements.{All-nil, All-cons, All-head, All-tail, All-append}
use Rattle.std.proofs.lemmas.Bool.Decides.{nat_tests}
use Rattle.std.specs.Str.Lines.{strip_carriage_return}
use Rattle.line_source.specs.Lines.{lines_from, lines_of}
use Rattle.rinex_head.specs.FirstFailing.{IsLine}

abbrev pub IsByte : ℕ → Type 0
IsByte b = b < 256

abbrev spelled : List (List ℕ) → List ℕ
spelled [] = []
spelled (line ∷ lines) = line ++ 13 ∷ 10 ∷ spelled lines

last_byte : (xs : List ℕ) (b : ℕ) → slice_index (xs ++ b ∷ []) (length xs) ≡ b
last_byte [] b = refl
last_byte (x ∷ xs) b = last_byte xs b

stripped : (xs : List ℕ) → strip_carriage_return (xs ++ 13 ∷ []) ≡ xs
stripped xs =
    let count : length (xs ++ 13 ∷ []) - 1 ≡ length xs = omega (arith, length-append xs (13 ∷ [])) in
    rw (count, last_byte xs 13) (take_at xs (13 ∷ []) (length xs) refl)

-- a line that has begun goes on with these bytes
goes_on : (line rest begun : List ℕ) → IsLine line → lines_from (line ++ 13 ∷ 10 ∷ rest) begun ≡ strip_carriage_return ((begun ++ line) ++ 13 ∷ []) ∷ lines_from rest []
goes_on [] rest begun is = rw (append-nil begun) refl
goes_on (b ∷ line) rest begun is =
    let head = All-head (λ b. (b < 256) × (b ≢ 10)) b line is in
    let other : (b == 10) ≡ false = grind (arith, nat_tests, head.1) in
    let same : (begun ++ b ∷ []) ++ line ≡ begun ++ b ∷ line = append_assoc begun (b ∷ []) line in
    rw (other, ← same) (goes_on line rest (begun ++ b ∷ []) (All-tail (λ b. (b < 256) × (b ≢ 10)) b line is))

lines_again : (lines : List (List ℕ)) → All IsLine lines → lines_of (spelled lines) ≡ lines
lines_again [] are = refl
lines_again (line ∷ lines) are =
    goes_on line (spelled lines) [] (All-head IsLine line lines are)
    ∙ ap (λ (l : List ℕ). l ∷ lines_of (spelled lines)) (stripped line)
    ∙ ap (λ (ls : List (List ℕ)). line ∷ ls) (lines_again lines (All-tail IsLine line lines are))

bytes_of_line : (line : List ℕ) → IsLine line → All IsByte line
bytes_of_line [] is = All-nil IsByte
bytes_of_line (b ∷ line) is =
    let head = All-head (λ b. (b < 256) × (b ≢ 10)) b line is in
    All-cons IsByte b line head.0 (bytes_of_line line (All-tail (λ b. (b < 256) × (b ≢ 10)) b line is))

bytes_of_text : (lines : List (List ℕ)) → All IsLine lines → All IsByte (spelled lines)
bytes_of_text [] are = All-nil IsByte
bytes_of_text (line ∷ lines) are =
    let others = bytes_of_text lines (All-tail IsLine line lines are) in
    let ended = All-cons IsByte 13 (10 ∷ spelled lines) (omega arith) (All-cons IsByte 10 (spelled lines) (omega arith) others) in
    All-append IsByte line (13 ∷ 10 ∷ spelled lines) (bytes_of_line line (All-head IsLine line lines are)) ended

pub spelled_lines : (lines : List (List ℕ)) → All IsLine lines → (text : List ℕ) × All (λ b. b < 256) text × (lines_of text ≡ lines)
spelled_lines lines are = (spelled lines, bytes_of_text lines are, lines_again lines are)
