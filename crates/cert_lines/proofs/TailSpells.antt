-- What the lines of a tail give where they are spelled.
use Rattle.std.proofs.Common.{◌≡◌, ◌^◌, ◌<◌, ◌≤◌, ℕ, ℤ, pos, Bool, true, false, List, [], ◌∷◌, length, codes, refl, ap, arith, ◌+◌, neg_ℤ, Ok, ◌∙◌, lit≤}
use Rattle.obs_rows.specs.Ranges.{IsBelow}
use Rattle.cert_lines.specs.Lines.{decision_line, values_line, weak_line}
use Rattle.cert_words.specs.Numbers.{IsIn, number_at, natural_within, within_range, IsBetween}
use Rattle.rinex_head.specs.Places.{and_then}
use Rattle.cert_words.specs.declared.numbers.Number.{Number}
use Rattle.cert_words.proofs.NumberLaws.{placed, line_written}
use Rattle.cert_words.proofs.RangeLaws.{within_holds, natural_holds}
use Rattle.cert_lines.specs.declared.ranges.TheConstants.{PIVOTS, VALUE_LIMIT}
use Rattle.cert_lines.specs.TailForms.{weak_pivot, weak_in, form_values, value_within, values_in, decision_line_in}
use Rattle.cert_lines.proofs.LineSpells.{HaveValues, placed_values, range_at, below_is}
use Rattle.cert_lines.proofs.Sizes.{values_small, weak_small}

value_at : (n : Number) (z : ℤ) → n.value ≡ z → IsBelow (2 ^ 126) z → value_within n ≡ Ok z
value_at n z is below =
    let inside : IsBetween (neg_ℤ VALUE_LIMIT) VALUE_LIMIT z = below_is (2 ^ 126) 85_070_591_730_234_615_865_843_651_857_942_052_863 z refl below in
    within_holds (neg_ℤ VALUE_LIMIT) VALUE_LIMIT n (rw is inside) ∙ ap Ok is

value_numbers : (h : ℕ) (p1 p2 top : ℤ) (ns : List Number) → HaveValues ns (pos h ∷ p1 ∷ p2 ∷ top ∷ []) → h ≤ 127 → IsBelow (2 ^ 126) p1 → IsBelow (2 ^ 126) p2 → IsBelow (2 ^ 126) top
    → and_then (natural_within 0 127 (number_at ns 0)) (λ h.
    and_then (value_within (number_at ns 1)) (λ p1.
    and_then (value_within (number_at ns 2)) (λ p2.
    and_then (value_within (number_at ns 3)) (λ top. Ok (form_values h p1 p2 top))))) ≡ Ok (form_values h p1 p2 top)
value_numbers h p1 p2 top [] have to b1 b2 b3 = absurd have
value_numbers h p1 p2 top (a ∷ []) have to b1 b2 b3 = absurd have.1
value_numbers h p1 p2 top (a ∷ b ∷ []) have to b1 b2 b3 = absurd have.1.1
value_numbers h p1 p2 top (a ∷ b ∷ c ∷ []) have to b1 b2 b3 = absurd have.1.1.1
value_numbers h p1 p2 top (a ∷ b ∷ c ∷ d ∷ []) have to b1 b2 b3 =
    rw (natural_holds 0 127 h a have.0 (omega arith) to, value_at b p1 have.1.0 b1, value_at c p2 have.1.1.0 b2, value_at d top have.1.1.1.0 b3) refl
value_numbers h p1 p2 top (a ∷ b ∷ c ∷ d ∷ e ∷ ns) have to b1 b2 b3 = absurd have.1.1.1.1

pub values_spell : (h : ℕ) (p1 p2 top : ℤ) → h ≤ 127 → IsBelow (2 ^ 126) p1 → IsBelow (2 ^ 126) p2 → IsBelow (2 ^ 126) top → values_in (values_line h p1 p2 top) ≡ Ok (form_values h p1 p2 top)
values_spell h p1 p2 top to b1 b2 b3 =
    let numbers : List ℤ = pos h ∷ p1 ∷ p2 ∷ top ∷ [] in
    let small = values_small h p1 p2 top to b1 b2 b3 in
    rw (line_written (codes "values") numbers small) (value_numbers h p1 p2 top (placed (1 + 6) numbers) (placed_values (1 + 6) numbers small) to b1 b2 b3)

weak_numbers : (last column : ℕ) (pivot : ℤ) (ns : List Number) → HaveValues ns (pos column ∷ pivot ∷ []) → column ≤ last → IsIn PIVOTS pivot
    → and_then (natural_within 0 last (number_at ns 0)) (λ column. and_then (within_range PIVOTS (number_at ns 1)) (λ pivot. Ok (weak_pivot column pivot))) ≡ Ok (weak_pivot column pivot)
weak_numbers last column pivot [] have to inside = absurd have
weak_numbers last column pivot (a ∷ []) have to inside = absurd have.1
weak_numbers last column pivot (a ∷ b ∷ []) have to inside = rw (natural_holds 0 last column a have.0 (omega arith) to, range_at PIVOTS b pivot have.1.0 inside) refl
weak_numbers last column pivot (a ∷ b ∷ c ∷ ns) have to inside = absurd have.1.1

pub weak_spells : (words : List ℕ) (last column : ℕ) (pivot : ℤ) → column < 2 ^ 126 → IsBelow (2 ^ 52) pivot → column ≤ last
    → weak_in words last (weak_line words column pivot) ≡ Ok (weak_pivot column pivot)
weak_spells words last column pivot few below to =
    let numbers : List ℤ = pos column ∷ pivot ∷ [] in
    let small = weak_small column pivot few below in
    let inside = below_is (2 ^ 52) 4_503_599_627_370_495 pivot refl below in
    rw (line_written words numbers small) (weak_numbers last column pivot (placed (1 + length words) numbers) (placed_values (1 + length words) numbers small) to inside)

-- ---- the last line

pub decision_read : (fixed : Bool) → decision_line_in (decision_line fixed) ≡ Ok fixed
decision_read true = refl
decision_read false = refl

pub decision_length : (fixed : Bool) → length (decision_line fixed) ≤ 4096
decision_length true = lit≤ tt
decision_length false = lit≤ tt
