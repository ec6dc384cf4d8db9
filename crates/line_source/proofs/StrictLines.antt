-- Where the first line of a text ends, where each line ends with a line feed.
use Rattle.std.proofs.Common.{◌≡◌, ◌<◌, ◌+◌, ◌==◌, ℕ, zero, suc, nat_lt, Bool, true, false, if◌then◌else◌, List, [], ◌∷◌, ◌++◌, length, take, drop, slice_index_or, length-take, length-append, refl, sym, ap, ◌∙◌, arith, append_assoc}
use Rattle.std.specs.List.{HoldsAt}
use Rattle.std.proofs.lemmas.List.{append-nil}
use Rattle.std.proofs.lemmas.Bool.Decides.{nat_tests}
use Rattle.line_source.specs.EndedLines.{without_end, lines_from, ended_lines}
use Rattle.line_source.specs.Lines.{lines_by}
use Rattle.line_source.specs.declared.lines.Ends.{Ends}
use Rattle.line_source.specs.declared.lines.Ends.TheVariants.{Loose, Strict}
use Rattle.memchr.specs.Find.{is_byte, Passes, Nowhere, NoneBefore}

other_byte : (b : ℕ) (rest begun : List ℕ) → ((b == 10) ≡ true → ⊥) → lines_from (b ∷ rest) begun ≡ lines_from rest (begun ++ b ∷ [])
other_byte b rest begun never = by_test (b == 10) refl
  where
    by_test : (t : Bool) → (b == 10) ≡ t → (if t then begun ∷ lines_from rest [] else lines_from rest (begun ++ b ∷ [])) ≡ lines_from rest (begun ++ b ∷ [])
    by_test true is = absurd (never is)
    by_test false is = refl

-- the first line feed ends the line that has begun
begun_at : (text begun : List ℕ) (k : ℕ) → k < length text → Nowhere (Passes (is_byte 10) text) 0 k → Passes (is_byte 10) text k
    → lines_from text begun ≡ (begun ++ take k text) ∷ lines_from (drop (suc k) text) []
begun_at [] begun k inside none is = absurd (omega arith)
begun_at (b ∷ bs) begun zero inside none is = rw is (ap (λ (l : List ℕ). l ∷ lines_from bs []) (sym (append-nil begun)))
begun_at (b ∷ bs) begun (suc k) inside none is =
    other_byte b bs begun (none 0 (omega arith) (omega arith))
    ∙ begun_at bs (begun ++ b ∷ []) k (omega arith) (λ j from lt. none (suc j) (omega arith) (omega arith)) is
    ∙ ap (λ (l : List ℕ). l ∷ lines_from (drop (suc k) bs) []) (append_assoc begun (b ∷ []) (take k bs))

-- where there is none, all belongs to it
begun_on : (text begun : List ℕ) → Nowhere (Passes (is_byte 10) text) 0 (length text) → lines_from text begun ≡ lines_from [] (begun ++ text)
begun_on [] begun none = ap (λ (l : List ℕ). lines_from [] l) (sym (append-nil begun))
begun_on (b ∷ bs) begun none =
    other_byte b bs begun (none 0 (omega arith) (omega arith))
    ∙ begun_on bs (begun ++ b ∷ []) (λ j from lt. none (suc j) (omega arith) (omega arith))
    ∙ ap (λ (l : List ℕ). lines_from [] l) (append_assoc begun (b ∷ []) bs)

pub ended_at : (text : List ℕ) (k : ℕ) → NoneBefore (Passes (is_byte 10) text) 0 (length text) k × Passes (is_byte 10) text k
    → ended_lines text ≡ take k text ∷ ended_lines (drop (k + 1) text)
ended_at text k found =
    let next : suc k ≡ k + 1 = omega arith in
    begun_at text [] k found.0.high found.0.before found.1 ∙ ap (λ (n : ℕ). take k text ∷ lines_from (drop n text) []) next

pub unended_all : (text : List ℕ) → 0 < length text → Nowhere (Passes (is_byte 10) text) 0 (length text) → ended_lines text ≡ without_end text ∷ []
unended_all [] some none = absurd (omega arith)
unended_all (b ∷ bs) some none = begun_on (b ∷ bs) [] none

pub long_first : (text : List ℕ) (k : ℕ) → NoneBefore (Passes (is_byte 10) text) 0 (length text) k × Passes (is_byte 10) text k → 4096 < k
    → (d : List ℕ) → 4096 < length (slice_index_or (ended_lines text) 0 d)
long_first text k found long d =
    let inside : k < length text = found.0.high in
    let count : length (take k text) ≡ k = omega (arith, inside, length-take k text) in
    rw (ended_at text k found) (omega (arith, count))

pub long_last : (text : List ℕ) → 4096 < length text → Nowhere (Passes (is_byte 10) text) 0 (length text) → (d : List ℕ) → 4096 < length (slice_index_or (ended_lines text) 0 d)
long_last text long none d =
    let test : nat_lt 4096 (length text) ≡ true = grind (arith, nat_tests) in
    let more : 4096 < length (text ++ 10 ∷ []) = omega (arith, length-append text (10 ∷ [])) in
    rw (unended_all text (omega arith) none, test) more

-- a line that is too long is there
pub no_long : (lines : List (List ℕ)) → HoldsAt (λ bytes. 4096 < length bytes) lines 0 → lines ≡ [] → ⊥
no_long [] long none = let first : List ℕ = [] in let too_long : 4096 < length first = long first in absurd (omega (arith, too_long))
no_long (line ∷ lines) long none = absurd (cc (none))

-- nothing has no lines
pub none_by : (ends : Ends) → lines_by ends [] ≡ []
none_by Loose = refl
none_by Strict = refl
