-- What the lines of a tail give where they are spelled.
use Rattle.std.proofs.Common.{◌≡◌, ◌^◌, ◌≤◌, ℕ, ℤ, pos, Bool, true, false, List, [], ◌∷◌, ◌++◌, length, take, get_or, codes, refl, ap, arith, Result, Ok, ◌∙◌, lit≤}
use Rattle.std.proofs.lemmas.List.{length-take-le}
use Rattle.obs_rows.specs.declared.arcs.Arc.{Arc}
use Rattle.obs_rows.specs.Ranges.{IsBelow}
use Rattle.obs_rows.specs.declared.limits.TheConstants.{MOST_BUDGET}
use Rattle.integer_form.specs.declared.faults.Place.{Place}
use Rattle.integer_form.specs.declared.faults.Place.TheVariants.{Y, Factor, Entry, Float, Point, Search, Sum}
use Rattle.int_search.specs.declared.answer.TwoBest.{TwoBest}
use Rattle.cert_words.proofs.NumberLaws.{AreSmall}
use Rattle.cert_lines.specs.Lines.{vector_line, named_line, decision_line, values_line, weak_line}
use Rattle.cert_lines.specs.declared.version.Version.{Version}
use Rattle.cert_words.proofs.RangeLaws.{AreIn}
use Rattle.cert_text.specs.Rules.{Tail, Frame, Second, Move, Values, Last, End, cert_rules, admit}
use Rattle.cert_data.specs.declared.tails.Tail.TheVariants.{Fixed, Unseparated, Weak, Overwidth, Unsettled, Spent}
use Rattle.cert_data.specs.Tails.{AreVectors, IsTailOf, IsWeak}
use Rattle.cert_data.specs.Places.{name_of_place}
use Rattle.cert_text.specs.Spelling.{vectors_lines, tail_lines, unsettled_line, spent_line}
use Rattle.rinex_head.specs.Places.{and_then}
use Rattle.rinex_head.specs.declared.place.Flaw.{Flaw}
use Rattle.cert_lines.proofs.Sizes.{below_small, entries_small, values_small, moves_small, weak_small}
use Rattle.cert_lines.specs.declared.ranges.TheConstants.{ENTRIES, MOVES}
use Rattle.cert_lines.specs.TailForms.{begins}
use Rattle.cert_lines.specs.declared.tails.WeakPivot.{WeakPivot}
use Rattle.cert_lines.specs.Versions.{last_column}
use Rattle.cert_data.specs.declared.tails.Tail.{Tail as CertTail}
use Rattle.cert_text.specs.TailForms.{declined_in}
use Rattle.cert_text.specs.Lengths.{AreWholeVectors, IsWholeTail}
use Rattle.cert_text.specs.Editions.{IsColumnOf}
use Rattle.cert_text.proofs.LineLaws.{admits_vectors, admits_declined}
use Rattle.cert_lines.proofs.LineSpells.{line_length, count_spells, vector_spells, below_is, entries_in, moves_in}
use Rattle.cert_text.proofs.Accepts.{step, AreAccepted, end_accepted}
use Rattle.cert_lines.proofs.TailSpells.{values_spell, weak_spells, decision_read, decision_length}
use Rattle.cert_text.proofs.PlaceLaws.{place_length}

-- ---- tails

-- the lines of a tail with vectors, and the last one
vectors_accepted : (f : Frame) (arcs : List Arc) (h : ℕ) (moved : List ℤ) (best : TwoBest) (top : ℤ) (fixed : Bool) → AreVectors f.signals arcs h moved best top → AreWholeVectors moved best
    → AreAccepted cert_rules (Tail f arcs) (vectors_lines h moved best top ++ decision_line fixed ∷ [])
vectors_accepted f arcs h moved best top fixed are whole =
    let size = best.size in
    let best_values = are.values in
    let first = take size best.first in
    let second = take size best.second in
    let first_long : length first ≡ size = length-take-le size best.first (omega (arith, best.size_to, whole.first)) in
    let second_long : length second ≡ size = length-take-le size best.second (omega (arith, best.size_to, whole.second)) in
    let first_small = entries_small size best.first best_values.first_in in
    let second_small = entries_small size best.second best_values.second_in in
    let moves_small_enough = moves_small moved are.moved_in in
    let values_small_enough = values_small h best.p1 best.p2 top best_values.h_to best_values.p1_in best_values.p2_in best_values.top_in in
    let z1_read = vector_spells (codes "z1") size ENTRIES first first_long first_small (entries_in size best.first best_values.first_in) in
    let first_admitted : admit (Tail f arcs) (vector_line (codes "z1") first) ≡ Ok (Second size) =
    admits_vectors f size arcs (vector_line (codes "z1") first) best_values.size refl ∙ ap (λ (r : Result (List ℤ) Flaw). and_then r (λ z. Ok (Second size))) z1_read in
    let z2_read = vector_spells (codes "z2") size ENTRIES second second_long second_small (entries_in size best.second best_values.second_in) in
    let second_admitted : admit (Second size) (vector_line (codes "z2") second) ≡ Ok Move = ap (λ (r : Result (List ℤ) Flaw). and_then r (λ z. Ok Move)) z2_read in
    let move_read = vector_spells (codes "move") 3 MOVES moved whole.move moves_small_enough (moves_in moved are.moved_in) in
    let move : admit Move (vector_line (codes "move") moved) ≡ Ok Values = ap (λ (r : Result (List ℤ) Flaw). and_then r (λ m. Ok Values)) move_read in
    let values_read = values_spell h best.p1 best.p2 top best_values.h_to best_values.p1_in best_values.p2_in best_values.top_in in
    let values : admit Values (values_line h best.p1 best.p2 top) ≡ Ok Last = ap (λ r. and_then r (λ best_values. Ok Last)) values_read in
    let final : admit Last (decision_line fixed) ≡ Ok End = ap (λ (r : Result Bool Flaw). and_then r (λ f. Ok End)) (decision_read fixed) in
    step cert_rules (Tail f arcs) (Second size) _ _ (line_length (codes "z1") first (lit≤ tt) (omega (arith, first_long, best.size_to)) first_small) first_admitted
    (step cert_rules (Second size) Move _ _ (line_length (codes "z2") second (lit≤ tt) (omega (arith, second_long, best.size_to)) second_small) second_admitted
    (step cert_rules Move Values _ _ (line_length (codes "move") moved (lit≤ tt) (omega (arith, whole.move)) moves_small_enough) move
    (step cert_rules Values Last _ _ (line_length (codes "values") (pos h ∷ best.p1 ∷ best.p2 ∷ top ∷ []) (lit≤ tt) (lit≤ tt) values_small_enough) values
    (step cert_rules Last End (decision_line fixed) [] (decision_length fixed) final (end_accepted cert_rules End refl)))))

-- ---- tails of one line

-- a line that is no vector, and what it says
declined_accepted : (f : Frame) (arcs : List Arc) (line : List ℕ) (t : CertTail) → length line ≤ 4096 → begins (codes "z1") line ≡ false → declined_in f.version f.budget line ≡ Ok t
    → AreAccepted cert_rules (Tail f arcs) (line ∷ [])
declined_accepted f arcs line t short other read =
    step cert_rules (Tail f arcs) End line [] short (admits_declined f arcs line other ∙ ap (λ (r : Result CertTail Flaw). and_then r (λ t. Ok End)) read) (end_accepted cert_rules End refl)

pub weak_read : (version : Version) (budget column : ℕ) (pivot : ℤ) → IsWeak column pivot → column ≤ last_column version
    → declined_in version budget (weak_line (codes "declined weak fine") column pivot) ≡ Ok (Weak column pivot)
weak_read version budget column pivot fits to =
    ap (λ (r : Result WeakPivot Flaw). and_then r (λ w. Ok (Weak w.column w.pivot)))
    (weak_spells (codes "declined weak fine") (last_column version) column pivot (omega (arith, fits.column_to)) fits.pivot_in to)

unsettled_small : (entry : ℤ) → IsBelow (2 ^ 46) entry → AreSmall (entry ∷ [])
unsettled_small entry fits = (below_small (2 ^ 46) entry (omega arith) fits, tt)

pub unsettled_read : (version : Version) (budget : ℕ) (entry : ℤ) → IsBelow (2 ^ 46) entry → declined_in version budget (unsettled_line entry) ≡ Ok (Unsettled entry)
unsettled_read version budget entry fits =
    let inside : AreIn MOVES (entry ∷ []) = (below_is (2 ^ 46) 70_368_744_177_663 entry refl fits, tt) in
    let read = vector_spells (codes "declined unsettled fine") 1 MOVES (entry ∷ []) refl (unsettled_small entry fits) inside in
    ap (λ (r : Result (List ℤ) Flaw). and_then r (λ zs. Ok (Unsettled (get_or zs 0 (pos 0))))) read

pub spent_read : (version : Version) (budget spent : ℕ) → budget ≤ MOST_BUDGET → spent ≡ budget → declined_in version budget (spent_line spent) ≡ Ok (Spent spent)
spent_read version budget spent few is =
    ap (λ (r : Result ℕ Flaw). and_then r (λ b. Ok (Spent b))) (count_spells (codes "declined spent") budget budget spent (omega (arith, is)) (omega (arith, is)) (omega arith))

-- the line of a place
abbrev pub place_line : Place → List ℕ
place_line p = named_line (codes "declined overwidth fine ") (name_of_place p)

pub place_read : (version : Version) (budget : ℕ) (p : Place) → declined_in version budget (place_line p) ≡ Ok (Overwidth p)
place_read version budget Y = refl
place_read version budget Factor = refl
place_read version budget Entry = refl
place_read version budget Float = refl
place_read version budget Point = refl
place_read version budget Search = refl
place_read version budget Sum = refl

pub tail_accepted : (f : Frame) (arcs : List Arc) (t : CertTail) → f.budget ≤ MOST_BUDGET → IsTailOf f.signals arcs f.budget t → IsColumnOf f.version t → IsWholeTail t
    → AreAccepted cert_rules (Tail f arcs) (tail_lines t)
tail_accepted f arcs (Fixed h moved best top) few fits column_to whole = vectors_accepted f arcs h moved best top true fits whole
tail_accepted f arcs (Unseparated h moved best top) few fits column_to whole = vectors_accepted f arcs h moved best top false fits whole
tail_accepted f arcs (Weak column pivot) few fits column_to whole =
    let words = codes "declined weak fine" in
    let short = line_length words (pos column ∷ pivot ∷ []) (lit≤ tt) (lit≤ tt) (weak_small column pivot (omega (arith, fits.column_to)) fits.pivot_in) in
    declined_accepted f arcs (weak_line words column pivot) (Weak column pivot) short refl (weak_read f.version f.budget column pivot fits column_to)
tail_accepted f arcs (Overwidth place) few fits column_to whole =
    declined_accepted f arcs (place_line place) (Overwidth place) (place_length (codes "declined overwidth fine ") place (lit≤ tt)) refl (place_read f.version f.budget place)
tail_accepted f arcs (Unsettled entry) few fits column_to whole =
    let short = line_length (codes "declined unsettled fine") (entry ∷ []) (lit≤ tt) (lit≤ tt) (unsettled_small entry fits) in
    declined_accepted f arcs (unsettled_line entry) (Unsettled entry) short refl (unsettled_read f.version f.budget entry fits)
tail_accepted f arcs (Spent spent) few fits column_to whole =
    let small : AreSmall (pos spent ∷ []) = (omega (arith, fits), tt) in
    let short = line_length (codes "declined spent") (pos spent ∷ []) (lit≤ tt) (lit≤ tt) small in
    declined_accepted f arcs (spent_line spent) (Spent spent) short refl (spent_read f.version f.budget spent few fits)
