-- What the moves and the tails of one line give where they are spelled.
use Rattle.std.proofs.Common.{◌≡◌, ◌+◌, ◌≤◌, ℕ, ℤ, pos, List, [], ◌∷◌, length, take, drop, codes, Result, Ok, refl, sym, ap, ◌∙◌, subst, arith}
use Rattle.std.proofs.lemmas.List.{append-nil}
use Rattle.obs_rows.specs.declared.pair_rows.PairRows.{PairRows}
use Rattle.obs_rows.specs.declared.limits.TheConstants.{MOST_BUDGET}
use Rattle.integer_form.specs.declared.faults.Place.{Place}
use Rattle.integer_form.specs.declared.faults.Place.TheVariants.{Y, Factor, Entry, Float, Point, Search, Sum}
use Rattle.rinex_head.specs.declared.place.Flaw.{Flaw}
use Rattle.rinex_head.specs.Places.{and_then}
use Rattle.cert_words.specs.declared.numbers.Number.{Number}
use Rattle.cert_words.specs.Numbers.{numbers_behind, number_at, natural_within, all_within}
use Rattle.cert_words.proofs.NumberLaws.{AreSmall, placed, line_written}
use Rattle.cert_words.proofs.RangeLaws.{natural_holds}
use Rattle.cert_lines.specs.declared.ranges.TheConstants.{MOVES}
use Rattle.cert_lines.specs.declared.version.Version.TheVariants.{Two}
use Rattle.cert_lines.specs.Versions.{last_column}
use Rattle.cert_lines.specs.Lines.{weak_line, named_line}
use Rattle.cert_lines.specs.declared.tails.WeakPivot.{WeakPivot}
use Rattle.cert_lines.proofs.LineSpells.{HaveValues, placed_values, split_values, values_at, moves_in, count_spells}
use Rattle.cert_lines.proofs.TailSpells.{weak_spells}
use Rattle.cert_data.specs.Tails.{IsMove, IsWeak}
use Rattle.cert_data.specs.Places.{name_of_place}
use Rattle.cert_text.specs.Spelling.{spent_line}
use Rattle.track_data.specs.declared.tails.TrackTail.TheVariants.{Weak, Overwidth, Spent}
use Rattle.track_text.specs.Spelling.{move_line}
use Rattle.track_text.specs.TailForms.{move_in, declined_in}
use Rattle.track_text.proofs.Feeds.{move_small}

pub move_spells : (p : PairRows) (m : List ℤ) → length m ≡ 3 → IsMove m → move_in p.number (move_line p.number m) ≡ Ok m
move_spells p m three is =
    let number = p.number in
    let zs : List ℤ = pos number ∷ m in
    let small : AreSmall zs = move_small p m is in
    let four : length (pos number ∷ m) ≡ 4 = omega (arith, three) in
    let ns = placed (1 + 4) zs in
    let written : numbers_behind (codes "move") 4 (move_line number m) ≡ Ok ns =
    subst (λ (k : ℕ). numbers_behind (codes "move") k (move_line number m) ≡ Ok ns) four (line_written (codes "move") zs small) in
    let have : HaveValues ns zs = placed_values (1 + 4) zs small in
    let first : natural_within number number (number_at ns 0) ≡ Ok number = natural_holds number number number (number_at ns 0) have.0 (omega arith) (omega arith) in
    let all = split_values (drop 1 ns) m [] (subst (λ (l : List ℤ). HaveValues (drop 1 ns) l) (sym (append-nil m)) have.1) in
    let others : all_within MOVES (take 3 (drop 1 ns)) ≡ Ok m = values_at MOVES (take 3 (drop 1 ns)) m (subst (λ (k : ℕ). HaveValues (take k (drop 1 ns)) m) three all.0) (moves_in m is) in
    ap (λ (a : Result (List Number) Flaw). and_then a (λ l. and_then (natural_within number number (number_at l 0)) (λ k. all_within MOVES (take 3 (drop 1 l))))) written
    ∙ ap (λ (a : Result ℕ Flaw). and_then a (λ k. all_within MOVES (take 3 (drop 1 ns)))) first ∙ others

pub weak_read : (budget column : ℕ) (pivot : ℤ) → IsWeak column pivot → declined_in budget (weak_line (codes "declined weak") column pivot) ≡ Ok (Weak column pivot)
weak_read budget column pivot fits =
    let column_at_most : column ≤ last_column Two = omega (arith, fits.column_to) in
    let read = weak_spells (codes "declined weak") (last_column Two) column pivot (omega (arith, fits.column_to)) fits.pivot_in column_at_most in
    ap (λ (r : Result WeakPivot Flaw). and_then r (λ w. Ok (Weak w.column w.pivot))) read

pub spent_read : (budget spent : ℕ) → budget ≤ MOST_BUDGET → spent ≡ budget → declined_in budget (spent_line spent) ≡ Ok (Spent spent)
spent_read budget spent few is =
    let read = count_spells (codes "declined spent") budget budget spent (omega (arith, is)) (omega (arith, is)) (omega arith) in
    ap (λ (r : Result ℕ Flaw). and_then r (λ b. Ok (Spent b))) read

-- the line of a place
abbrev pub place_line : Place → List ℕ
place_line p = named_line (codes "declined overwidth ") (name_of_place p)

pub place_read : (budget : ℕ) (p : Place) → declined_in budget (place_line p) ≡ Ok (Overwidth p)
place_read budget Y = refl
place_read budget Factor = refl
place_read budget Entry = refl
place_read budget Float = refl
place_read budget Point = refl
place_read budget Search = refl
place_read budget Sum = refl
