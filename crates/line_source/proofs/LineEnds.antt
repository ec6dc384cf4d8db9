-- Where a line ends, by the first line feed of the bytes that follow.
use Rattle.std.proofs.Common.{◌≡◌, ◌<◌, ◌==◌, ℕ, zero, suc, true, false, List, [], ◌∷◌, ◌++◌, length, take, drop, refl, sym, ap, ◌∙◌, arith, append_assoc}
use Rattle.std.proofs.lemmas.Bool.{false_from_ne_true}
use Rattle.std.proofs.lemmas.List.{append-nil}
use Rattle.std.specs.Str.Lines.{strip_carriage_return}
use Rattle.line_source.specs.Lines.{lines_from, lines_of}
use Rattle.memchr.specs.Find.{is_byte, Passes, Nowhere, NoneBefore}

goes_byte : (b : ℕ) (rest line : List ℕ) → (b == 10) ≡ false → lines_from (b ∷ rest) line ≡ lines_from rest (line ++ b ∷ [])
goes_byte b rest line other = rw other refl

ends_byte : (b : ℕ) (rest line : List ℕ) → (b == 10) ≡ true → lines_from (b ∷ rest) line ≡ strip_carriage_return line ∷ lines_from rest []
ends_byte b rest line feed = rw feed refl

-- bytes without a line feed belong to the line, whatever follows them
pub goes_on : (bytes : List ℕ) → Nowhere (Passes (is_byte 10) bytes) 0 (length bytes) → (line more : List ℕ) → lines_from (bytes ++ more) line ≡ lines_from more (line ++ bytes)
goes_on [] none line more = ap (λ l. lines_from more l) (sym (append-nil line))
goes_on (b ∷ bs) none line more =
    goes_byte b (bs ++ more) line (false_from_ne_true (b == 10) (none 0 (omega arith) (omega arith)))
    ∙ goes_on bs (λ k from inside. none (suc k) (omega arith) (omega arith)) (line ++ b ∷ []) more
    ∙ ap (λ l. lines_from more l) (append_assoc line (b ∷ []) bs)

-- the first line feed ends it
pub ends_at : (bytes : List ℕ) (k : ℕ) → k < length bytes → Nowhere (Passes (is_byte 10) bytes) 0 k → Passes (is_byte 10) bytes k
    → (line more : List ℕ) → lines_from (bytes ++ more) line ≡ strip_carriage_return (line ++ take k bytes) ∷ lines_from (drop (suc k) bytes ++ more) []
ends_at [] k inside none is line more = absurd (omega arith)
ends_at (b ∷ bs) zero inside none is line more = ends_byte b (bs ++ more) line is ∙ ap (λ l. strip_carriage_return l ∷ lines_from (bs ++ more) []) (sym (append-nil line))
ends_at (b ∷ bs) (suc k) inside none is line more =
    goes_byte b (bs ++ more) line (false_from_ne_true (b == 10) (none 0 (omega arith) (omega arith)))
    ∙ ends_at bs k (omega arith) (λ j from lt. none (suc j) (omega arith) (omega arith)) is (line ++ b ∷ []) more
    ∙ ap (λ l. strip_carriage_return l ∷ lines_from (drop (suc k) bs ++ more) []) (append_assoc line (b ∷ []) (take k bs))

-- the first line of a whole text
pub first_ended : (text : List ℕ) (k : ℕ) → NoneBefore (Passes (is_byte 10) text) 0 (length text) k × Passes (is_byte 10) text k
    → lines_of text ≡ strip_carriage_return (take k text) ∷ lines_of (drop (suc k) text)
first_ended text k found =
    ap (λ l. lines_from l []) (sym (append-nil text))
    ∙ ends_at text k found.0.high found.0.before found.1 [] []
    ∙ ap (λ l. strip_carriage_return (take k text) ∷ lines_from l []) (append-nil (drop (suc k) text))

-- the only one
pub none_ended : (text : List ℕ) → 0 < length text → Nowhere (Passes (is_byte 10) text) 0 (length text) → lines_of text ≡ text ∷ []
none_ended [] some none = absurd (omega arith)
none_ended (b ∷ bs) some none = ap (λ l. lines_from l []) (sym (append-nil (b ∷ bs))) ∙ goes_on (b ∷ bs) none [] []
