-- Where a line of a tail was read, it is the spelling of what it says.
use Rattle.std.proofs.Common.{◌≡◌, ◌^◌, ◌<◌, ◌≤◌, ℕ, ℤ, pos, true, List, [], ◌∷◌, ◌++◌, length, take, drop, codes, Ok, to_z, of_z, sym, ap, ◌∙◌, subst, arith, take-append-drop}
use Rattle.std.specs.Int.{w128}
use Rattle.std.specs.Str.{bytes_eq}
use Rattle.std.proofs.lemmas.Int.{ints}
use Rattle.std.proofs.lemmas.Slice.Eq.{bytes_eq-Decides}
use Rattle.decimal_text.specs.Whole.{size_of}
use Rattle.decimal_text.proofs.Numbers.{size_is}
use Rattle.obs_rows.specs.Ranges.{IsBelow}
use Rattle.cert_words.specs.declared.numbers.Number.{Number}
use Rattle.cert_words.specs.Spelling.{behind_blanks}
use Rattle.cert_words.specs.Numbers.{numbers_behind, number_at}
use Rattle.cert_words.proofs.NumberLaws.{AreSmall, values, line_read}
use Rattle.cert_lines.specs.Lines.{values_line, weak_line, named_line}
use Rattle.cert_lines.proofs.Values.{two_values, four_values}

value_at : (s : List Number) (k : ℕ) (x : Number) (z : ℤ) → x ≡ number_at s k → x.value ≡ z → (number_at s k).value ≡ z
value_at s k x z at is = ap (λ (y : Number). y.value) (sym at) ∙ is

pub weak_read : (words line : List ℕ) (ns s : List Number) (x y : Number) (column : ℕ) (pivot : ℤ) → Ok ns ≡ numbers_behind words 2 line → length ns ≡ 2 → s ≡ ns
    → x ≡ number_at s 0 → x.value ≡ pos column → column < 2 ^ 32 → y ≡ number_at s 1 → pivot ≡ y.value → size_of pivot < 2 ^ 64 → line ≡ weak_line words column pivot
weak_read words line ns s x y column pivot read many same ax vx sx ay vy sy =
    let two : length s ≡ 2 = ap length same ∙ many in
    let first = value_at s 0 x (pos column) ax vx in
    let second = value_at s 1 y pivot ay (sym vy) in
    let whole : values ns ≡ pos column ∷ pivot ∷ [] = ap values (sym same) ∙ two_values s two ∙ (λ i. first i ∷ second i ∷ []) in
    let fits : AreSmall (pos column ∷ pivot ∷ []) = (omega arith, (omega (arith, sy), tt)) in
    line_read words 2 line ns (sym read) (subst AreSmall (sym whole) fits) ∙ ap (λ (zs : List ℤ). words ++ behind_blanks zs) whole

below_small : (z : ℤ) → IsBelow (2 ^ 126) z → size_of z < 2 ^ 126
below_small z h = subst (λ (n : ℕ). n < 2 ^ 126) (sym (size_is z)) h

pub values_read : (line : List ℕ) (ns s : List Number) (w x y z : Number) (h : ℕ) (p1 p2 top : ℤ) → Ok ns ≡ numbers_behind (codes "values") 4 line → length ns ≡ 4 → s ≡ ns
    → w ≡ number_at s 0 → w.value ≡ pos h → h ≤ 127 → x ≡ number_at s 1 → p1 ≡ x.value → IsBelow (2 ^ 126) p1
    → y ≡ number_at s 2 → p2 ≡ y.value → IsBelow (2 ^ 126) p2 → z ≡ number_at s 3 → top ≡ z.value → IsBelow (2 ^ 126) top → line ≡ values_line h p1 p2 top
values_read line ns s w x y z h p1 p2 top read many same aw vw sw ax vx sx ay vy sy az vz sz =
    let four : length s ≡ 4 = ap length same ∙ many in
    let exponent_is = value_at s 0 w (pos h) aw vw in
    let first_is = value_at s 1 x p1 ax (sym vx) in
    let second_is = value_at s 2 y p2 ay (sym vy) in
    let top_is = value_at s 3 z top az (sym vz) in
    let whole : values ns ≡ pos h ∷ p1 ∷ p2 ∷ top ∷ [] = ap values (sym same) ∙ four_values s four ∙ (λ i. exponent_is i ∷ first_is i ∷ second_is i ∷ top_is i ∷ []) in
    let fits : AreSmall (pos h ∷ p1 ∷ p2 ∷ top ∷ []) = (omega arith, (below_small p1 sx, (below_small p2 sy, (below_small top sz, tt)))) in
    line_read (codes "values") 4 line ns (sym read) (subst AreSmall (sym whole) fits) ∙ ap (λ (zs : List ℤ). codes "values" ++ behind_blanks zs) whole

pub word126 : (x : ℤ) → IsBelow (2 ^ 126) x → to_z w128 (of_z w128 x) ≡ x
word126 x h = omega (arith, ints)

-- what stands after these words is the rest of the line
pub name_read : (words line name : List ℕ) → bytes_eq (take (length words) line) words ≡ true → name ≡ drop (length words) line → line ≡ named_line words name
name_read words line name test behind =
    let front : take (length words) line ≡ words = (bytes_eq-Decides (take (length words) line) words).0 test in
    sym (take-append-drop (length words) line) ∙ (λ i. front i ++ drop (length words) line) ∙ ap (λ (l : List ℕ). words ++ l) (sym behind)
