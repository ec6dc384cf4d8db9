-- What one line gives in its place.
use Rattle.std.proofs.Common.{if◌then◌else◌, subst, take, drop, ◌+◌, Some, None, Option, ◌≡◌, ◌≤◌, ◌<◌, ℕ, ℤ, nat_le, Bool, not, true, false, List, [], ◌∷◌, length, Ok, refl, sym, ap, ◌∙◌, codes, arith}
use Rattle.std.specs.Str.{bytes_eq}
use Rattle.std.proofs.lemmas.Bool.Decides.{nat_tests}
use Rattle.rinex_head.specs.declared.place.What.TheVariants.{BadLine, BadRange}
use Rattle.rinex_head.specs.Places.{and_then, flawed}
use Rattle.file_jobs.specs.ZeroRows.{Rows, rows}
use Rattle.file_jobs.specs.ZeroRules.{Head, Claim, Diff, admit, number_behind, within, with_diff, finish}
use Rattle.decimal_text.specs.Whole.{whole_of, size_of}

pub admits_head : (line : List ℕ) → bytes_eq line (codes "zero 1") ≡ true → admit Head line ≡ Ok Claim
admits_head line is = rw is refl

pub refuses_head : (line : List ℕ) → bytes_eq line (codes "zero 1") ≡ false → admit Head line ≡ flawed 1 BadLine
refuses_head line is = rw is refl

pub refuses_more : (so_far : Rows) (line : List ℕ) → 1000 ≤ length so_far.diffs → admit (Diff so_far) line ≡ flawed 1 BadLine
refuses_more so_far line many = let test : nat_le 1000 (length so_far.diffs) ≡ true = grind (arith, nat_tests) in rw test refl

pub admits_diff : (so_far : Rows) (line : List ℕ) → length so_far.diffs < 1000 → admit (Diff so_far) line ≡ and_then (number_behind (codes "diff ") 1000000000 line) (λ d. Ok (with_diff so_far d))
admits_diff so_far line few = let test : nat_le 1000 (length so_far.diffs) ≡ false = grind (arith, nat_tests) in rw test refl

-- the test of a line against a text
pub same_bytes : (unlike : Bool) (line word text : List ℕ) → unlike ≡ not (bytes_eq line word) → word ≡ text → unlike ≡ false → bytes_eq line text ≡ true
same_bytes unlike line word text is same differs = by_cases (bytes_eq line word) refl
  where
    by_cases : (t : Bool) → bytes_eq line word ≡ t → bytes_eq line text ≡ true
    by_cases true e = sym (ap (bytes_eq line) same) ∙ e
    by_cases false e = absurd (cc (is, e, differs, ap not e))

pub other_bytes : (unlike : Bool) (line word text : List ℕ) → unlike ≡ not (bytes_eq line word) → word ≡ text → unlike ≡ true → bytes_eq line text ≡ false
other_bytes unlike line word text is same differs = by_cases (bytes_eq line word) refl
  where
    by_cases : (t : Bool) → bytes_eq line word ≡ t → bytes_eq line text ≡ false
    by_cases true e = absurd (cc (is, e, differs, ap not e))
    by_cases false e = sym (ap (bytes_eq line) same) ∙ e

within-small : (most column : ℕ) (o : Option ℤ) (z : ℤ) → within most column o ≡ Ok z → size_of z ≤ most
within-small most column None z e = absurd cc
within-small most column (Some y) z e = by_test (nat_le (size_of y) most) refl e
  where
    by_test : (t : Bool) → nat_le (size_of y) most ≡ t → (if t then Ok y else flawed column BadRange) ≡ Ok z → size_of z ≤ most
    by_test true test is = let same : y ≡ z = cc in subst (λ (x : ℤ). size_of x ≤ most) same (grind (arith, nat_tests))
    by_test false test is = absurd cc

-- a number that is read from a line is in its range
pub number_behind-small : (word : List ℕ) (most : ℕ) (line : List ℕ) (z : ℤ) → Ok z ≡ number_behind word most line → size_of z ≤ most
number_behind-small word most line z e = by_test (bytes_eq (take (length word) line) word) (sym e)
  where
    by_test : (t : Bool) → (if t then within most (length word + 1) (whole_of (drop (length word) line)) else flawed 1 BadLine) ≡ Ok z → size_of z ≤ most
    by_test true is = within-small most (length word + 1) (whole_of (drop (length word) line)) z is
    by_test false is = absurd cc

pub finish_none : (z : ℤ) (ds : List ℤ) → length ds ≤ 0 → finish (Diff (rows z ds)) ≡ flawed 1 BadLine
finish_none z [] h = refl
finish_none z (d ∷ ds) h = absurd (omega arith)

pub finish_some : (z : ℤ) (ds : List ℤ) → 0 < length ds → finish (Diff (rows z ds)) ≡ Ok (rows z ds)
finish_some z [] h = absurd (omega arith)
finish_some z (d ∷ ds) h = refl
