-- Lines after lines.
use Rattle.std.proofs.Common.{◌≡◌, ◌+◌, ◌<◌, ℕ, List, [], ◌∷◌, ◌++◌, length, drop, get_or, Result, Ok, Err, OnOk, refl, sym, ap, ◌∙◌, append_assoc}
use Rattle.std.proofs.lemmas.List.{drop_more}
use Rattle.obs_rows.specs.declared.pair_rows.PairRows.{PairRows}
use Rattle.cert_lines.specs.Lines.{pair_lines}
use Rattle.cert_text.specs.Spelling.{all_pair_lines}
use Rattle.cert_words.specs.Spelling.{text_of_lines}

pub text_append : (xs ys : List (List ℕ)) → text_of_lines (xs ++ ys) ≡ text_of_lines xs ++ text_of_lines ys
text_append [] ys = refl
text_append (x ∷ xs) ys = ap (λ (l : List ℕ). x ++ 10 ∷ l) (text_append xs ys) ∙ sym (append_assoc x (10 ∷ text_of_lines xs) (text_of_lines ys))

-- lines that were written after others
pub then_lines : (o a b : List ℕ) (xs ys : List (List ℕ)) → a ≡ o ++ text_of_lines xs → b ≡ a ++ text_of_lines ys → b ≡ o ++ text_of_lines (xs ++ ys)
then_lines o a b xs ys first second =
    second ∙ ap (λ (l : List ℕ). l ++ text_of_lines ys) first ∙ append_assoc o (text_of_lines xs) (text_of_lines ys) ∙ ap (λ (l : List ℕ). o ++ l) (sym (text_append xs ys))

-- the same, where the memory for the last may be wanting
pub then_written : {E : Type 0} → (o a b : List ℕ) (xs ys : List (List ℕ)) (r : Result (Unit {0}) E) → a ≡ o ++ text_of_lines xs → OnOk r (b ≡ a ++ text_of_lines ys)
    → OnOk r (b ≡ o ++ text_of_lines (xs ++ ys))
then_written o a b xs ys (Ok u) first second = then_lines o a b xs ys first second
then_written o a b xs ys (Err e) first second = tt

-- lines that were written, before those to come
pub block_pushed : (a b whole : List ℕ) (block rest : List (List ℕ)) → b ≡ a ++ text_of_lines block → a ++ text_of_lines (block ++ rest) ≡ whole → b ++ text_of_lines rest ≡ whole
block_pushed a b whole block rest pushed so_far =
    ap (λ (l : List ℕ). l ++ text_of_lines rest) pushed ∙ append_assoc a (text_of_lines block) (text_of_lines rest)
    ∙ ap (λ (l : List ℕ). a ++ l) (sym (text_append block rest)) ∙ so_far

-- a pair and those after it
pub pair_pushed : (ss : List ℕ) (a b whole : List ℕ) (pairs : List PairRows) (i : ℕ) (p : PairRows) → i < length pairs → p ≡ get_or pairs i p → b ≡ a ++ text_of_lines (pair_lines ss p)
    → a ++ text_of_lines (all_pair_lines ss (drop i pairs)) ≡ whole → b ++ text_of_lines (all_pair_lines ss (drop (i + 1) pairs)) ≡ whole
pair_pushed ss a b whole pairs i p inside is pushed so_far =
    let split : drop i pairs ≡ p ∷ drop (i + 1) pairs = drop_more pairs i p inside ∙ ap (λ (q : PairRows). q ∷ drop (i + 1) pairs) (sym is) in
    block_pushed a b whole (pair_lines ss p) (all_pair_lines ss (drop (i + 1) pairs)) pushed (ap (λ (ps : List PairRows). a ++ text_of_lines (all_pair_lines ss ps)) (sym split) ∙ so_far)

-- what holds anyway
pub anyway : {T E P : Type 0} (r : Result T E) → P → OnOk r P
anyway (Ok x) holds = holds
anyway (Err e) holds = tt
