-- One more pair of a certificate.
use Rattle.std.proofs.Common.{◌≡◌, ℕ, List, [], ◌∷◌, ◌++◌, ap, sym, ◌∙◌, append_assoc}
use Rattle.obs_rows.specs.declared.pair_rows.PairRows.{PairRows}
use Rattle.cert_lines.specs.Lines.{pair_lines}
use Rattle.cert_text.specs.Spelling.{all_pair_lines}

pub pairs_took : (ss : List ℕ) (pairs : List PairRows) (p : PairRows) (rest : List (List ℕ)) → all_pair_lines ss pairs ++ (pair_lines ss p ++ rest) ≡ all_pair_lines ss (pairs ++ p ∷ []) ++ rest
pairs_took ss [] p rest = sym (append_assoc (pair_lines ss p) [] rest)
pairs_took ss (q ∷ pairs) p rest =
    append_assoc (pair_lines ss q) (all_pair_lines ss pairs) (pair_lines ss p ++ rest) ∙ ap (λ (l : List (List ℕ)). pair_lines ss q ++ l) (pairs_took ss pairs p rest)
    ∙ sym (append_assoc (pair_lines ss q) (all_pair_lines ss (pairs ++ p ∷ [])) rest)
