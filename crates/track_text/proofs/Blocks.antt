-- The lines of a pair before those of the pairs after it.
use Rattle.std.proofs.Common.{◌≡◌, ◌+◌, ◌<◌, ℕ, ℤ, pos, List, [], ◌∷◌, ◌++◌, length, drop, get_or, codes, Result, Ok, Err, OnOk, sym, ap, ◌∙◌, append_assoc}
use Rattle.std.specs.Fmt.{signed_decimal}
use Rattle.std.proofs.lemmas.List.{drop_more}
use Rattle.obs_rows.specs.declared.pair_rows.PairRows.{PairRows}
use Rattle.cert_words.specs.Spelling.{behind_blanks, text_of_lines}
use Rattle.cert_lines.proofs.Appends.{line_pushed}
use Rattle.cert_text.proofs.Texts.{block_pushed}
use Rattle.track_text.specs.Spelling.{placed_pair_lines, all_placed_pairs, move_line, move_lines}

-- a pair with its point, and those after it
pub placed_pushed : (ss a b whole : List ℕ) (pairs : List PairRows) (points : List (List ℤ)) (i : ℕ) (p : PairRows) (x : List ℤ) → i < length pairs → i < length points
    → p ≡ get_or pairs i p → b ≡ a ++ text_of_lines (placed_pair_lines ss p (get_or points i x))
    → a ++ text_of_lines (all_placed_pairs ss (drop i pairs) (drop i points)) ≡ whole
    → b ++ text_of_lines (all_placed_pairs ss (drop (i + 1) pairs) (drop (i + 1) points)) ≡ whole
placed_pushed ss a b whole pairs points i p x inside within is pushed so_far =
    let later = drop (i + 1) pairs in
    let this : drop i pairs ≡ p ∷ later = drop_more pairs i p inside ∙ ap (λ (q : PairRows). q ∷ later) (sym is) in
    let split = ap (λ (ps : List PairRows). a ++ text_of_lines (all_placed_pairs ss ps (drop i points))) this in
    let placed = ap (λ (xs : List (List ℤ)). a ++ text_of_lines (all_placed_pairs ss (p ∷ later) xs)) (drop_more points i x within) in
    block_pushed a b whole (placed_pair_lines ss p (get_or points i x)) (all_placed_pairs ss later (drop (i + 1) points)) pushed (sym placed ∙ sym split ∙ so_far)

-- the move of a pair, and those after it
pub move_pushed : (a b whole : List ℕ) (pairs : List PairRows) (moves : List (List ℤ)) (i : ℕ) (p : PairRows) (m : List ℤ) → i < length pairs → i < length moves
    → b ≡ a ++ text_of_lines (move_line (get_or pairs i p).number (get_or moves i m) ∷ [])
    → a ++ text_of_lines (move_lines (drop i pairs) (drop i moves)) ≡ whole
    → b ++ text_of_lines (move_lines (drop (i + 1) pairs) (drop (i + 1) moves)) ≡ whole
move_pushed a b whole pairs moves i p m inside within pushed so_far =
    let pair = get_or pairs i p in
    let later = drop (i + 1) pairs in
    let split = ap (λ (ps : List PairRows). a ++ text_of_lines (move_lines ps (drop i moves))) (drop_more pairs i p inside) in
    let moved = ap (λ (ms : List (List ℤ)). a ++ text_of_lines (move_lines (pair ∷ later) ms)) (drop_more moves i m within) in
    line_pushed a b whole (move_line pair.number (get_or moves i m)) (move_lines later (drop (i + 1) moves)) pushed (sym moved ∙ sym split ∙ so_far)

-- four parts that were appended in turn
four_appended : (o v w x n : List ℕ) → (((o ++ v) ++ w) ++ x) ++ n ≡ o ++ ((v ++ (w ++ x)) ++ n)
four_appended o v w x n = simp append_assoc

-- a move is written part by part
pub move_appended : (o a b c g : List ℕ) (number : ℕ) (m : List ℤ) → a ≡ o ++ codes "move" → b ≡ a ++ 32 ∷ signed_decimal (pos number) → c ≡ b ++ behind_blanks m → g ≡ c ++ 10 ∷ []
    → g ≡ o ++ text_of_lines (move_line number m ∷ [])
move_appended o a b c g number m ea eb ec eg = rw (eg, ec, eb, ea) (four_appended o (codes "move") (32 ∷ signed_decimal (pos number)) (behind_blanks m) (10 ∷ []))

-- two facts where the memory was there
pub both : {T E : Type 0} (P Q : Type 0) (r : Result T E) → OnOk r P → OnOk r Q → OnOk r (P × Q)
both P Q (Ok x) one other = (one, other)
both P Q (Err e) one other = tt
