-- The line of a pair before those of the pairs after it.
use Rattle.std.proofs.Common.{◌≡◌, ◌+◌, ◌<◌, ℕ, ℤ, List, ◌∷◌, ◌++◌, length, drop, get_or, sym, ap, ◌∙◌, append_assoc}
use Rattle.std.proofs.lemmas.List.{drop_more}
use Rattle.obs_rows.specs.declared.pair_rows.PairRows.{PairRows}
use Rattle.report_text.specs.Baselines.{baseline_of}
use Rattle.track_job.specs.TrackTexts.{pair_place_line, place_lines}

pub place_pushed : (a b whole : List ℕ) (base : List ℤ) (pairs : List PairRows) (points moves : List (List ℤ)) (i : ℕ) (p : PairRows) (x m : List ℤ) → i < length pairs → i < length points
    → i < length moves
    → b ≡ a ++ pair_place_line (get_or pairs i p).number (baseline_of (get_or points i x) base (get_or moves i m))
    → a ++ place_lines base (drop i pairs) (drop i points) (drop i moves) ≡ whole
    → b ++ place_lines base (drop (i + 1) pairs) (drop (i + 1) points) (drop (i + 1) moves) ≡ whole
place_pushed a b whole base pairs points moves i p x m of_pairs of_points of_moves pushed so_far =
    let pair = get_or pairs i p in
    let point = get_or points i x in
    let move = get_or moves i m in
    let later = drop (i + 1) pairs in
    let further = drop (i + 1) points in
    let rest = place_lines base later further (drop (i + 1) moves) in
    let line = pair_place_line pair.number (baseline_of point base move) in
    let by_pair = ap (λ (ps : List PairRows). a ++ place_lines base ps (drop i points) (drop i moves)) (drop_more pairs i p of_pairs) in
    let by_point = ap (λ (xs : List (List ℤ)). a ++ place_lines base (pair ∷ later) xs (drop i moves)) (drop_more points i x of_points) in
    let by_move = ap (λ (ms : List (List ℤ)). a ++ place_lines base (pair ∷ later) (point ∷ further) ms) (drop_more moves i m of_moves) in
    ap (λ (l : List ℕ). l ++ rest) pushed ∙ append_assoc a line rest ∙ sym by_move ∙ sym by_point ∙ sym by_pair ∙ so_far
