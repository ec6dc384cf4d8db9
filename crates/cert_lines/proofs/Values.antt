-- The values of the numbers of a line.
use Rattle.std.proofs.Common.{◌≡◌, ◌+◌, ◌^◌, ◌<◌, ◌≤◌, ℕ, ℤ, pos, List, [], ◌∷◌, ◌++◌, length, take, drop, All, Result, Ok, Err, IfOk, MatchResult, refl, sym, ap, ◌∙◌, subst, arith}
use Rattle.std.proofs.lemmas.List.{drop_more, take-append-drop, drop-drop, take_all, length-drop}
use Rattle.std.proofs.lemmas.List.Elements.{All-head, All-tail}
use Rattle.decimal_text.specs.Whole.{size_of}
use Rattle.rinex_head.specs.declared.place.Flaw.{Flaw}
use Rattle.cert_words.specs.declared.numbers.Number.{Number}
use Rattle.cert_words.specs.declared.ranges.Range.{Range}
use Rattle.cert_words.specs.Spelling.{behind_blanks}
use Rattle.cert_words.specs.Numbers.{numbers_behind, number_at, all_within}
use Rattle.cert_words.proofs.NumberLaws.{AreSmall, values, line_read, values_append}
use Rattle.cert_words.proofs.RangeLaws.{all_passed}
use Rattle.cert_lines.specs.Lines.{count_line, vector_line}

pub all_small : (zs : List ℤ) → All (λ z. size_of z < 2 ^ 64) zs → AreSmall zs
all_small [] h = tt
all_small (z ∷ zs) h =
    let first = All-head (λ (x : ℤ). size_of x < 2 ^ 64) z zs h in
    (omega (arith, first), all_small zs (All-tail (λ (x : ℤ). size_of x < 2 ^ 64) z zs h))

pub small_append : (xs ys : List ℤ) → AreSmall xs → AreSmall ys → AreSmall (xs ++ ys)
small_append [] ys h k = k
small_append (x ∷ xs) ys h k = (h.0, small_append xs ys h.1 k)

pub one_value : (ns : List Number) → length ns ≡ 1 → values ns ≡ (number_at ns 0).value ∷ []
one_value [] e = absurd (omega (arith, e))
one_value (a ∷ []) e = refl
one_value (a ∷ b ∷ ns) e = absurd (omega (arith, e))

pub two_values : (ns : List Number) → length ns ≡ 2 → values ns ≡ (number_at ns 0).value ∷ (number_at ns 1).value ∷ []
two_values [] e = absurd (omega (arith, e))
two_values (a ∷ []) e = absurd (omega (arith, e))
two_values (a ∷ b ∷ []) e = refl
two_values (a ∷ b ∷ c ∷ ns) e = absurd (omega (arith, e))

pub four_values : (ns : List Number) → length ns ≡ 4 → values ns ≡ (number_at ns 0).value ∷ (number_at ns 1).value ∷ (number_at ns 2).value ∷ (number_at ns 3).value ∷ []
four_values [] e = absurd (omega (arith, e))
four_values (a ∷ []) e = absurd (omega (arith, e))
four_values (a ∷ b ∷ []) e = absurd (omega (arith, e))
four_values (a ∷ b ∷ c ∷ []) e = absurd (omega (arith, e))
four_values (a ∷ b ∷ c ∷ d ∷ []) e = refl
four_values (a ∷ b ∷ c ∷ d ∷ x ∷ ns) e = absurd (omega (arith, e))

-- ---- where one number was read, the line is its spelling

count_read : (word line : List ℕ) (ns : List Number) (n : ℕ) → Ok ns ≡ numbers_behind word 1 line → length ns ≡ 1 → (number_at ns 0).value ≡ pos n → n < 2 ^ 64 → line ≡ count_line word n
count_read word line ns n read one value small =
    let are : values ns ≡ pos n ∷ [] = one_value ns one ∙ ap (λ (z : ℤ). z ∷ []) value in
    let fits : AreSmall (pos n ∷ []) = (omega arith, tt) in
    line_read word 1 line ns (sym read) (subst AreSmall (sym are) fits) ∙ ap (λ (zs : List ℤ). word ++ behind_blanks zs) are

pub count_spelled : (word line : List ℕ) (ns s : List Number) (x : Number) (low high : ℕ) (r : Result ℕ Flaw) → Ok ns ≡ numbers_behind word 1 line → length ns ≡ 1 → s ≡ ns
    → x ≡ number_at s 0 → high < 2 ^ 64
    → IfOk r (λ n. (low ≤ n) × (n ≤ high)) → IfOk r (λ n. x.value ≡ pos n) → IfOk r (λ n. line ≡ count_line word n)
count_spelled word line ns s x low high (Ok n) read one same at few in_range exact =
    let place : x ≡ number_at ns 0 = at ∙ ap (λ (l : List Number). number_at l 0) same in
    count_read word line ns n read one (ap (λ (y : Number). y.value) (sym place) ∙ exact) (omega (arith, in_range.1))
count_spelled word line ns s x low high (Err flaw) read one same at few in_range exact = tt

-- ---- the same of numbers of one range

pub vector_spelled : (word line : List ℕ) (count : ℕ) (ns s : List Number) (range : Range) (r : Result (List ℤ) Flaw) → Ok ns ≡ numbers_behind word count line → length ns ≡ count → s ≡ ns
    → MatchResult r (λ vs. all_within range s ≡ Ok (take (length s) vs)) (λ flaw. all_within range s ≡ Err flaw)
    → IfOk r (λ vs. All (λ z. size_of z < 2 ^ 64) (take (length s) vs))
    → IfOk r (λ vs. line ≡ vector_line word (take count vs))
vector_spelled word line count ns s range (Ok vs) read many same within small =
    let many_s : length s ≡ count = ap length same ∙ many in
    let are : take (length s) vs ≡ values s = all_passed range s (take (length s) vs) within in
    let whole : values ns ≡ take count vs = ap values (sym same) ∙ sym are ∙ ap (λ (n : ℕ). take n vs) many_s in
    let fits : AreSmall (values ns) = subst AreSmall (are ∙ ap values same) (all_small (take (length s) vs) small) in
    line_read word count line ns (sym read) fits ∙ ap (λ (zs : List ℤ). word ++ behind_blanks zs) whole
vector_spelled word line count ns s range (Err flaw) read many same within small = tt

pub triple_spelled : (word line : List ℕ) (count : ℕ) (ns s : List Number) (range : Range) (r : Result (List ℤ) Flaw) → Ok ns ≡ numbers_behind word count line → s ≡ ns
    → r ≡ all_within range s → IfOk r (All (λ z. size_of z < 2 ^ 64)) → IfOk r (λ vs. line ≡ vector_line word vs)
triple_spelled word line count ns s range (Ok vs) read same within small =
    let are : vs ≡ values ns = all_passed range s vs (sym within) ∙ ap values same in
    let fits : AreSmall (values ns) = subst AreSmall are (all_small vs small) in
    line_read word count line ns (sym read) fits ∙ ap (λ (zs : List ℤ). word ++ behind_blanks zs) (sym are)
triple_spelled word line count ns s range (Err flaw) read same within small = tt

-- ---- the numbers of a row, part by part

pub row_values : (ns : List Number) (n : ℕ) → length ns ≡ 1 + n + 7 →
    values ns ≡ (number_at ns 0).value ∷ (values (take n (drop 1 ns)) ++ ((number_at ns (1 + n)).value ∷ (values (take 3 (drop (1 + n + 1) ns)) ++ values (take 3 (drop (1 + n + 4) ns)))))
row_values ns n e =
    let none : Number = record { column = 0; value = pos 0 } in
    let three_on : 1 + n + 1 + 3 ≡ 1 + n + 4 = omega arith in
    let first : values ns ≡ (number_at ns 0).value ∷ values (drop 1 ns) = ap values (drop_more ns 0 none (omega (arith, e))) in
    let middle : values (drop (1 + n) ns) ≡ (number_at ns (1 + n)).value ∷ values (drop (1 + n + 1) ns) = ap values (drop_more ns (1 + n) none (omega (arith, e))) in
    let signals_behind : values (drop 1 ns) ≡ values (take n (drop 1 ns)) ++ values (drop (1 + n) ns) = split n 1 ns in
    let directions_behind : values (drop (1 + n + 1) ns) ≡ values (take 3 (drop (1 + n + 1) ns)) ++ values (drop (1 + n + 4) ns) = split 3 (1 + n + 1) ns
    ∙ ap (λ (k : ℕ). values (take 3 (drop (1 + n + 1) ns)) ++ values (drop k ns)) three_on in
    let radii_are_last : drop (1 + n + 4) ns ≡ take 3 (drop (1 + n + 4) ns) = sym (take_all 3 (drop (1 + n + 4) ns) (omega (arith, length-drop (1 + n + 4) ns, e))) in
    first ∙ ap (λ (zs : List ℤ). (number_at ns 0).value ∷ zs) (signals_behind ∙ ap (λ (zs : List ℤ). values (take n (drop 1 ns)) ++ zs)
    (middle ∙ ap (λ (zs : List ℤ). (number_at ns (1 + n)).value ∷ zs) (directions_behind ∙ ap (λ (l : List Number). values (take 3 (drop (1 + n + 1) ns)) ++ values l) radii_are_last)))
  where
    split : (k n : ℕ) (ns : List Number) → values (drop n ns) ≡ values (take k (drop n ns)) ++ values (drop (n + k) ns)
    split k n ns =
        ap values (sym (take-append-drop k (drop n ns))) ∙ values_append (take k (drop n ns)) (drop k (drop n ns))
        ∙ ap (λ (l : List Number). values (take k (drop n ns)) ++ values l) (drop-drop k n ns)
