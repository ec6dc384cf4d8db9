-- What is expected takes lines of its form.
use Rattle.std.proofs.Common.{◌≡◌, ◌+◌, ◌-◌, ◌≤◌, ℕ, zero, suc, true, false, List, [], ◌∷◌, ◌++◌, codes, Ok, refl, sym, ap, arith}
use Rattle.obs_rows.specs.declared.arcs.Arc.{Arc}
use Rattle.obs_rows.specs.Arcs.{free_count}
use Rattle.obs_rows.specs.Integers.{integer_count}
use Rattle.obs_rows.specs.declared.limits.TheConstants.{MOST_PAIRS, MOST_RATIO, MOST_BUDGET}
use Rattle.rinex_head.specs.Places.{and_then}
use Rattle.cert_lines.specs.Forms.{count_in, vector_in, Letters as LettersOf, signals_in, signals_of, arc_in, pair_in, row_in}
use Rattle.cert_lines.specs.TailForms.{begins, values_in, decision_line_in}
use Rattle.cert_lines.specs.declared.ranges.TheConstants.{COORDINATES, ENTRIES, MOVES}
use Rattle.cert_lines.specs.declared.version.Version.{Version}
use Rattle.cert_lines.specs.Versions.{form_line}
use Rattle.cert_text.specs.LineParts.{word_in, TakesLine}
use Rattle.cert_text.specs.Parts.{ArcsAreTaken, RowsAreTaken}
use Rattle.cert_text.specs.TailForms.{declined_in}
use Rattle.cert_text.specs.Rules.{Expected, Frame, frame, behind_budget, Form, Ratio, Budget, Base, Point, Letters, ArcCount, PairCount, Tail, Second, Move, Values, Last, End, cert_rules, admit, before_arcs, before_pairs, before_rows}

-- ---- where a line of the head is expected

pub form_taken : (version : Version) (word : List ℕ) → word ≡ form_line version → TakesLine cert_rules (Form version) (word_in word) (λ u. Ratio version)
form_taken version word is = record { admits = λ line. ap (λ (w : List ℕ). and_then (word_in w line) (λ u. Ok (Ratio version))) (sym is); ends = refl }

pub ratio_taken : (version : Version) → TakesLine cert_rules (Ratio version) (count_in (codes "ratio") 1000 MOST_RATIO) (λ n. Budget version)
ratio_taken version = record { admits = λ line. refl; ends = refl }

pub budget_taken : (version : Version) → TakesLine cert_rules (Budget version) (count_in (codes "budget") 1 MOST_BUDGET) (behind_budget version)
budget_taken version = record { admits = λ line. refl; ends = refl }

pub base_taken : (version : Version) (budget : ℕ) → TakesLine cert_rules (Base version budget) (vector_in (codes "base") 3 COORDINATES) (λ p. Point version budget)
base_taken version budget = record { admits = λ line. refl; ends = refl }

pub point_taken : (version : Version) (budget : ℕ) → TakesLine cert_rules (Point version budget) (vector_in (codes "point") 3 COORDINATES) (λ p. Letters version budget)
point_taken version budget = record { admits = λ line. refl; ends = refl }

-- the signals that count, by the letters
abbrev pub behind_letters : Version → ℕ → LettersOf → Expected
behind_letters version budget s = ArcCount (frame version budget (signals_of s))

pub letters_taken : (version : Version) (budget : ℕ) → TakesLine cert_rules (Letters version budget) (signals_in version) (behind_letters version budget)
letters_taken version budget = record { admits = λ line. refl; ends = refl }

-- ---- where arcs, pairs and rows are expected

pub arc_taken : (f : Frame) (left free : ℕ) (arcs : List Arc) → free ≡ free_count arcs → 1 ≤ left
    → TakesLine cert_rules (before_arcs f left arcs) (arc_in f.version f.signals free left) (λ a. before_arcs f (left - 1) (arcs ++ a ∷ []))
arc_taken f zero free arcs is some = absurd (omega arith)
arc_taken f (suc left) free arcs is some = rw is (record { admits = λ line. refl; ends = refl })

pub pair_taken : (f : Frame) (arcs : List Arc) (left least : ℕ) → 1 ≤ left
    → TakesLine cert_rules (before_pairs f arcs left least) (pair_in f.version least) (λ p. before_rows f arcs (left - 1) p.number p.count 0)
pair_taken f arcs zero least some = absurd (omega arith)
pair_taken f arcs (suc left) least some = record { admits = λ line. refl; ends = refl }

pub row_taken : (f : Frame) (arcs : List Arc) (pairs number left least : ℕ) → 1 ≤ left
    → TakesLine cert_rules (before_rows f arcs pairs number left least) (row_in f.signals arcs number least) (λ k. before_rows f arcs pairs number (left - 1) (k + 1))
row_taken f arcs pairs number zero least some = absurd (omega arith)
row_taken f arcs pairs number (suc left) least some = record { admits = λ line. refl; ends = refl }

pub arcs_taken : (f : Frame) → ArcsAreTaken cert_rules f.version f.signals (before_arcs f)
arcs_taken f = record { takes = λ left arcs some. arc_taken f left (free_count arcs) arcs refl some }

pub rows_taken : (f : Frame) (arcs : List Arc) (pairs number : ℕ)
    → RowsAreTaken cert_rules f.signals arcs number (λ left least. before_rows f arcs pairs number left least) (before_pairs f arcs pairs (number + 1))
rows_taken f arcs pairs number = record { takes = λ left least some. row_taken f arcs pairs number left least some; ends = λ least. refl }

-- ---- where the number of pairs is expected

pub pair_count_taken : (f : Frame) (arcs : List Arc) → TakesLine cert_rules (PairCount f arcs) (count_in (codes "pairs") 1 MOST_PAIRS) (λ n. before_pairs f arcs n 0)
pair_count_taken f arcs = record { admits = λ line. refl; ends = refl }

-- ---- where a line of a tail after its first is expected

pub second_taken : (n : ℕ) → TakesLine cert_rules (Second n) (vector_in (codes "z2") n ENTRIES) (λ z. Move)
second_taken n = record { admits = λ line. refl; ends = refl }

pub move_taken : TakesLine cert_rules Move (vector_in (codes "move") 3 MOVES) (λ m. Values)
move_taken = record { admits = λ line. refl; ends = refl }

pub values_taken : TakesLine cert_rules Values values_in (λ v. Last)
values_taken = record { admits = λ line. refl; ends = refl }

pub decision_taken : TakesLine cert_rules Last decision_line_in (λ f. End)
decision_taken = record { admits = λ line. refl; ends = refl }

-- ---- the first line of a tail

pub admits_vectors : (f : Frame) (n : ℕ) (arcs : List Arc) (line : List ℕ) → n ≡ integer_count arcs f.signals → begins (codes "z1") line ≡ true
    → admit (Tail f arcs) line ≡ and_then (vector_in (codes "z1") n ENTRIES line) (λ z. Ok (Second n))
admits_vectors f n arcs line is starts = rw (starts, is) refl

pub admits_declined : (f : Frame) (arcs : List Arc) (line : List ℕ) → begins (codes "z1") line ≡ false → admit (Tail f arcs) line ≡ and_then (declined_in f.version f.budget line) (λ t. Ok End)
admits_declined f arcs line starts = rw starts refl
