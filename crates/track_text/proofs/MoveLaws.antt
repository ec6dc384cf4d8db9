-- The lines of the moves, as they are read.
use Rattle.std.proofs.Common.{◌≡◌, ◌-◌, ◌^◌, ◌<◌, ◌≤◌, ◌≤ℤ◌, ℕ, ℤ, pos, negsuc, neg_ℤ, List, [], ◌∷◌, ◌++◌, length, get_or, take, drop, All, codes, Result, Ok, Err, IfOk, refl, sym, ap, ◌∙◌, subst, arith}
use Rattle.std.proofs.lemmas.Int.{ints}
use Rattle.std.proofs.lemmas.List.{drop_more, take_all, length-drop}
use Rattle.decimal_text.specs.Whole.{size_of}
use Rattle.obs_rows.specs.declared.pair_rows.PairRows.{PairRows}
use Rattle.obs_rows.specs.Ranges.{IsBelow}
use Rattle.rinex_head.specs.declared.place.Flaw.{Flaw}
use Rattle.cert_words.specs.declared.numbers.Number.{Number}
use Rattle.cert_words.specs.Spelling.{behind_blanks}
use Rattle.cert_words.specs.Numbers.{numbers_behind, number_at, all_within, IsIn}
use Rattle.cert_words.proofs.NumberLaws.{AreSmall, values, line_read}
use Rattle.cert_words.proofs.RangeLaws.{all_passed}
use Rattle.cert_data.specs.Tails.{IsMove}
use Rattle.cert_lines.specs.declared.ranges.TheConstants.{MOVES}
use Rattle.cert_lines.proofs.Values.{all_small}
use Rattle.track_text.specs.Spelling.{move_line, move_lines}

-- a line that was read is the spelling of the move
move_read : (line : List ℕ) (ns s part : List Number) (x : Number) (number n : ℕ) (m : List ℤ) → Ok ns ≡ numbers_behind (codes "move") 4 line → length ns ≡ 4 → s ≡ ns
    → x ≡ number_at s 0 → x.value ≡ pos n → (number ≤ n) × (n ≤ number) → number < 2 ^ 64
    → part ≡ take 3 (drop 1 s) → Ok m ≡ all_within MOVES part → All (λ z. size_of z < 2 ^ 64) m → line ≡ move_line number m
move_read line ns s part x number n m read many same first value between few is within small =
    let none : Number = record { column = 0; value = pos 0 } in
    let four : length s ≡ 4 = ap length same ∙ many in
    let number_is : n ≡ number = omega (arith, between.0, between.1) in
    let head : (number_at s 0).value ≡ pos number = ap (λ (y : Number). y.value) (sym first) ∙ value ∙ ap pos number_is in
    let are : m ≡ values part = all_passed MOVES part m (sym within) in
    let three : take 3 (drop 1 s) ≡ drop 1 s = take_all 3 (drop 1 s) (omega (arith, length-drop 1 s, four)) in
    let others : values (drop 1 s) ≡ m = ap values (sym three ∙ sym is) ∙ sym are in
    let whole : values ns ≡ pos number ∷ m = ap values (sym same) ∙ ap values (drop_more s 0 none (omega (arith, four))) ∙ (λ i. head i ∷ others i) in
    let fits : AreSmall (pos number ∷ m) = (omega (arith, few), all_small m small) in
    line_read (codes "move") 4 line ns (sym read) (subst AreSmall (sym whole) fits) ∙ ap (λ (zs : List ℤ). codes "move" ++ behind_blanks zs) whole

pub move_spelled : (line : List ℕ) (ns s part : List Number) (x : Number) (number n : ℕ) (r : Result (List ℤ) Flaw) → Ok ns ≡ numbers_behind (codes "move") 4 line → length ns ≡ 4 → s ≡ ns
    → x ≡ number_at s 0 → x.value ≡ pos n → (number ≤ n) × (n ≤ number) → number < 2 ^ 64
    → part ≡ take 3 (drop 1 s) → r ≡ all_within MOVES part → IfOk r (All (λ z. size_of z < 2 ^ 64)) → IfOk r (λ m. line ≡ move_line number m)
move_spelled line ns s part x number n (Ok m) read many same first value between few is within small = move_read line ns s part x number n m read many same first value between few is within small
move_spelled line ns s part x number n (Err flaw) read many same first value between few is within small = tt

-- its numbers are below 2^46 in size
pub moves_below : (r : Result (List ℤ) Flaw) → IfOk r (All (IsIn MOVES)) → IfOk r IsMove
moves_below (Ok m) inside = λ k d h. below (get_or m k d) (inside k d h)
  where
    below : (z : ℤ) → IsIn MOVES z → IsBelow (2 ^ 46) z
    below (pos n) is = let high : pos n ≤ℤ pos (2 ^ 46 - 1) = is.1 in omega (arith, ints)
    below (negsuc n) is = let low : neg_ℤ (pos (2 ^ 46 - 1)) ≤ℤ negsuc n = is.0 in omega (arith, ints)
moves_below (Err flaw) inside = tt

none_left : (pairs : List PairRows) → move_lines pairs [] ≡ []
none_left [] = refl
none_left (p ∷ pairs) = refl

-- no move yet
pub none_took : (pairs : List PairRows) (moves : List (List ℤ)) (rest : List (List ℕ)) → moves ≡ [] → rest ≡ move_lines pairs moves ++ rest
none_took pairs moves rest none = ap (λ (l : List (List ℕ)). l ++ rest) (sym (ap (move_lines pairs) none ∙ none_left pairs))

-- one more move
pub moves_took : (pairs : List PairRows) (moves : List (List ℤ)) (p : PairRows) (m : List ℤ) (rest : List (List ℕ)) → length moves < length pairs → p ≡ get_or pairs (length moves) p
    → move_lines pairs moves ++ move_line p.number m ∷ rest ≡ move_lines pairs (moves ++ m ∷ []) ++ rest
moves_took [] moves p m rest inside is = absurd (omega (arith, inside))
moves_took (q ∷ pairs) [] p m rest inside is = (λ i. move_line (is i).number m ∷ (sym (none_left pairs) i ++ rest))
moves_took (q ∷ pairs) (n ∷ moves) p m rest inside is = ap (λ (l : List (List ℕ)). move_line q.number n ∷ l) (moves_took pairs moves p m rest (omega (arith, inside)) is)
