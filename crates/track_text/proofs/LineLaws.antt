-- What is expected takes lines of its form.
use Rattle.std.proofs.Common.{◌≡◌, ◌+◌, ◌-◌, ◌≤◌, ℕ, zero, suc, true, false, List, [], ◌∷◌, ◌++◌, codes, Ok, refl, arith}
use Rattle.obs_rows.specs.declared.arcs.Arc.{Arc}
use Rattle.obs_rows.specs.Arcs.{free_count}
use Rattle.obs_rows.specs.Integers.{integer_count}
use Rattle.obs_rows.specs.declared.limits.TheConstants.{MOST_PAIRS, MOST_RATIO, MOST_BUDGET, MOST_ARCS}
use Rattle.rinex_head.specs.Places.{and_then}
use Rattle.cert_lines.specs.Forms.{count_in, vector_in, system_in, Letters as LettersOf, signals_in, signals_of, arc_in, pair_in, row_in}
use Rattle.cert_lines.specs.TailForms.{begins, values_in, decision_line_in}
use Rattle.cert_lines.specs.declared.ranges.TheConstants.{COORDINATES, ENTRIES}
use Rattle.cert_lines.specs.declared.version.Version.TheVariants.{Two}
use Rattle.cert_text.specs.LineParts.{word_in, TakesLine, IsEnd}
use Rattle.cert_text.specs.Parts.{ArcsAreTaken, RowsAreTaken}
use Rattle.track_text.specs.Spelling.{track_form}
use Rattle.track_text.specs.TailForms.{move_in, declined_in}
use Rattle.track_text.specs.Rules.{Expected, Frame, frame, Form, Ratio, Budget, SystemLine, Base, Letters, ArcCount, PairCount, PairPoint, Tail, Second, Values, Last, End}
use Rattle.track_text.specs.Rules.{track_rules, admit, before_arcs, before_pairs, before_rows, before_moves}

-- ---- where a line of the head is expected

pub form_taken : TakesLine track_rules Form (word_in track_form) (λ u. Ratio)
form_taken = record { admits = λ line. refl; ends = refl }

pub ratio_taken : TakesLine track_rules Ratio (count_in (codes "ratio") 1000 MOST_RATIO) (λ n. Budget)
ratio_taken = record { admits = λ line. refl; ends = refl }

pub budget_taken : TakesLine track_rules Budget (count_in (codes "budget") 1 MOST_BUDGET) (λ n. SystemLine n)
budget_taken = record { admits = λ line. refl; ends = refl }

pub system_taken : (budget : ℕ) → TakesLine track_rules (SystemLine budget) system_in (λ s. Base budget)
system_taken budget = record { admits = λ line. refl; ends = refl }

pub base_taken : (budget : ℕ) → TakesLine track_rules (Base budget) (vector_in (codes "base") 3 COORDINATES) (λ p. Letters budget)
base_taken budget = record { admits = λ line. refl; ends = refl }

-- the signals that count, by the letters
abbrev pub behind_letters : ℕ → LettersOf → Expected
behind_letters budget s = ArcCount (frame budget (signals_of s))

pub letters_taken : (budget : ℕ) → TakesLine track_rules (Letters budget) (signals_in Two) (behind_letters budget)
letters_taken budget = record { admits = λ line. refl; ends = refl }

-- ---- where arcs, pairs, points and rows are expected

pub arc_count_taken : (f : Frame) → TakesLine track_rules (ArcCount f) (count_in (codes "arcs") 2 MOST_ARCS) (λ n. before_arcs f n [])
arc_count_taken f = record { admits = λ line. refl; ends = refl }

arc_taken : (f : Frame) (left : ℕ) (arcs : List Arc) → 1 ≤ left
    → TakesLine track_rules (before_arcs f left arcs) (arc_in Two f.signals (free_count arcs) left) (λ a. before_arcs f (left - 1) (arcs ++ a ∷ []))
arc_taken f zero arcs some = absurd (omega arith)
arc_taken f (suc left) arcs some = record { admits = λ line. refl; ends = refl }

pub arcs_taken : (f : Frame) → ArcsAreTaken track_rules Two f.signals (before_arcs f)
arcs_taken f = record { takes = λ left arcs some. arc_taken f left arcs some }

pub pair_count_taken : (f : Frame) (arcs : List Arc) → TakesLine track_rules (PairCount f arcs) (count_in (codes "pairs") 1 MOST_PAIRS) (λ n. before_pairs f arcs n 0 [])
pair_count_taken f arcs = record { admits = λ line. refl; ends = refl }

pub pair_taken : (f : Frame) (arcs : List Arc) (left least : ℕ) (numbers : List ℕ) → 1 ≤ left
    → TakesLine track_rules (before_pairs f arcs left least numbers) (pair_in Two least) (λ p. PairPoint f arcs (left - 1) p.number p.count numbers)
pair_taken f arcs zero least numbers some = absurd (omega arith)
pair_taken f arcs (suc left) least numbers some = record { admits = λ line. refl; ends = refl }

pub point_taken : (f : Frame) (arcs : List Arc) (pairs number count : ℕ) (numbers : List ℕ)
    → TakesLine track_rules (PairPoint f arcs pairs number count numbers) (vector_in (codes "at") 3 COORDINATES) (λ p. before_rows f arcs pairs number count 0 numbers)
point_taken f arcs pairs number count numbers = record { admits = λ line. refl; ends = refl }

row_taken : (f : Frame) (arcs : List Arc) (pairs number left least : ℕ) (numbers : List ℕ) → 1 ≤ left
    → TakesLine track_rules (before_rows f arcs pairs number left least numbers) (row_in f.signals arcs number least) (λ k. before_rows f arcs pairs number (left - 1) (k + 1) numbers)
row_taken f arcs pairs number zero least numbers some = absurd (omega arith)
row_taken f arcs pairs number (suc left) least numbers some = record { admits = λ line. refl; ends = refl }

pub rows_taken : (f : Frame) (arcs : List Arc) (pairs number : ℕ) (numbers : List ℕ)
    → RowsAreTaken track_rules f.signals arcs number (λ left least. before_rows f arcs pairs number left least numbers) (before_pairs f arcs pairs (number + 1) (numbers ++ number ∷ []))
rows_taken f arcs pairs number numbers = record { takes = λ left least some. row_taken f arcs pairs number left least numbers some; ends = λ least. refl }

-- ---- where a line of a tail after its first is expected, or the end

pub second_taken : (n : ℕ) (numbers : List ℕ) → TakesLine track_rules (Second n numbers) (vector_in (codes "z2") n ENTRIES) (λ z. before_moves numbers)
second_taken n numbers = record { admits = λ line. refl; ends = refl }

pub move_taken : (number : ℕ) (numbers : List ℕ) → TakesLine track_rules (before_moves (number ∷ numbers)) (move_in number) (λ m. before_moves numbers)
move_taken number numbers = record { admits = λ line. refl; ends = refl }

pub values_taken : TakesLine track_rules Values values_in (λ v. Last)
values_taken = record { admits = λ line. refl; ends = refl }

pub decision_taken : TakesLine track_rules Last decision_line_in (λ f. End)
decision_taken = record { admits = λ line. refl; ends = refl }

pub end_taken : IsEnd track_rules End
end_taken = record { admits = λ line. refl; ends = refl }

-- ---- the first line of a tail

pub admits_vectors : (f : Frame) (n : ℕ) (arcs : List Arc) (numbers line : List ℕ) → n ≡ integer_count arcs f.signals → begins (codes "z1") line ≡ true
    → admit (Tail f arcs numbers) line ≡ and_then (vector_in (codes "z1") n ENTRIES line) (λ z. Ok (Second n numbers))
admits_vectors f n arcs numbers line is starts = rw (starts, is) refl

pub admits_declined : (f : Frame) (arcs : List Arc) (numbers line : List ℕ) → begins (codes "z1") line ≡ false
    → admit (Tail f arcs numbers) line ≡ and_then (declined_in f.budget line) (λ t. Ok End)
admits_declined f arcs numbers line starts = rw starts refl
