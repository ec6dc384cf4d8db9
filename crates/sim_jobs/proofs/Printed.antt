-- Lines of printed texts.
use Rattle.std.proofs.Common.{◌≡◌, ℕ, zero, suc, ◌-◌, ◌<◌, true, false, ◌==◌, nat_le, List, [], ◌∷◌, ◌++◌, length, get_or, refl, sym, ap, ◌∙◌, arith, append-nil}
use Rattle.std.proofs.lemmas.Bool.{and_parts}
use Rattle.std.proofs.lemmas.Bool.Decides.{nat_tests}
use Rattle.std.specs.Str.Lines.{strip_carriage_return}
use Rattle.line_source.specs.Lines.{lines_from, lines_of}
use Rattle.decimal_text.proofs.ShapesLaws.{one_more}
use Rattle.sim_jobs.specs.Printed.{are_printed}

pub printed-append : (xs ys : List ℕ) → are_printed xs ≡ true → are_printed ys ≡ true → are_printed (xs ++ ys) ≡ true
printed-append [] ys p q = q
printed-append (x ∷ xs) ys p q = rw (and_parts (nat_le 32 x) (are_printed xs) p).0 (printed-append xs ys (and_parts (nat_le 32 x) (are_printed xs) p).1 q)

not_feed : (b : ℕ) → nat_le 32 b ≡ true → (b == 10) ≡ false
not_feed b is = grind (arith, nat_tests)

not_return : (b : ℕ) → nat_le 32 b ≡ true → (b == 13) ≡ false
not_return b is = grind (arith, nat_tests)

-- printed bytes go into the line
gathered : (text rest line : List ℕ) → are_printed text ≡ true → lines_from (text ++ rest) line ≡ lines_from rest (line ++ text)
gathered [] rest line p = ap (lines_from rest) (sym (append-nil line))
gathered (b ∷ text) rest line p =
    rw (not_feed b (and_parts (nat_le 32 b) (are_printed text) p).0)
    (gathered text rest (line ++ b ∷ []) (and_parts (nat_le 32 b) (are_printed text) p).1 ∙ ap (lines_from rest) (one_more line b text))

printed_at : (line : List ℕ) (i : ℕ) → are_printed line ≡ true → i < length line → nat_le 32 (get_or line i 0) ≡ true
printed_at [] i p lt = absurd (omega arith)
printed_at (b ∷ line) zero p lt = (and_parts (nat_le 32 b) (are_printed line) p).0
printed_at (b ∷ line) (suc i) p lt = printed_at line i (and_parts (nat_le 32 b) (are_printed line) p).1 (omega arith)

unreturned : (line : List ℕ) → are_printed line ≡ true → strip_carriage_return line ≡ line
unreturned [] p = refl
unreturned (b ∷ line) p = rw (not_return (get_or (b ∷ line) (length (b ∷ line) - 1) 0) (printed_at (b ∷ line) (length (b ∷ line) - 1) p (omega arith))) refl

pub line_first : (line rest : List ℕ) → are_printed line ≡ true → lines_of (line ++ 10 ∷ rest) ≡ line ∷ lines_of rest
line_first line rest p = gathered line (10 ∷ rest) [] p ∙ ap (λ l. l ∷ lines_of rest) (unreturned line p)
