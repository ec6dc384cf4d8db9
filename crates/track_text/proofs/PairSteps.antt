-- One more pair of a track, with its point.
use Rattle.std.proofs.Common.{◌≡◌, ◌<◌, ◌≤◌, ℕ, ℤ, List, [], ◌∷◌, ◌++◌, length, codes, All, AllPairs, sym, ap, ◌∙◌, subst, arith, append_assoc}
use Rattle.obs_rows.specs.declared.pair_rows.PairRows.{PairRows}
use Rattle.cert_lines.specs.Lines.{pair_line, vector_line, row_lines}
use Rattle.track_text.specs.Spelling.{placed_pair_lines, all_placed_pairs}

pub placed_took : (ss : List ℕ) (pairs : List PairRows) (points : List (List ℤ)) (p : PairRows) (x : List ℤ) (rest : List (List ℕ)) → length points ≡ length pairs
    → all_placed_pairs ss pairs points ++ (placed_pair_lines ss p x ++ rest) ≡ all_placed_pairs ss (pairs ++ p ∷ []) (points ++ x ∷ []) ++ rest
placed_took ss [] [] p x rest each = sym (append_assoc (placed_pair_lines ss p x) [] rest)
placed_took ss [] (y ∷ points) p x rest each = absurd (omega (arith, each))
placed_took ss (q ∷ pairs) [] p x rest each = absurd (omega (arith, each))
placed_took ss (q ∷ pairs) (y ∷ points) p x rest each =
    let block = placed_pair_lines ss q y in
    append_assoc block (all_placed_pairs ss pairs points) (placed_pair_lines ss p x ++ rest)
    ∙ ap (λ (l : List (List ℕ)). block ++ l) (placed_took ss pairs points p x rest (omega (arith, each)))
    ∙ sym (append_assoc block (all_placed_pairs ss (pairs ++ p ∷ []) (points ++ x ∷ [])) rest)

-- the lines of a pair, by what its head says
pub pair_took : (ss : List ℕ) (p : PairRows) (x : List ℤ) (old middle rest : List (List ℕ)) (number tag : ℕ) (group : ℤ) (count : ℕ)
    → old ≡ pair_line number tag group count ∷ vector_line (codes "at") x ∷ middle → middle ≡ row_lines ss p.rows ++ rest
    → p.number ≡ number → p.tag.0 ≡ tag → p.group ≡ group → length p.rows ≡ count → old ≡ placed_pair_lines ss p x ++ rest
pair_took ss p x old middle rest number tag group count head rows en et eg ec =
    head ∙ (λ i. pair_line (sym en i) (sym et i) (sym eg i) (sym ec i) ∷ vector_line (codes "at") x ∷ rows i)

pub number_after : (p q : PairRows) (least : ℕ) → q.number < least → least ≤ p.number → q.number < p.number
number_after p q least below from = omega (arith, below, from)

-- ---- no pair yet

pub all_none : {X : Type 0} → (P : X → Type 0) (xs : List X) → xs ≡ [] → All P xs
all_none P xs none = subst (All P) (sym none) (λ k d inside. absurd (omega (arith, inside)))

pub all_pairs_none : {X : Type 0} → (R : X → X → Type 0) (xs : List X) → xs ≡ [] → AllPairs R xs
all_pairs_none R xs none = subst (AllPairs R) (sym none) (λ i j d before inside. absurd (omega (arith, inside)))
