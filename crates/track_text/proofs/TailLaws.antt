-- What the lines of a tail with vectors say together.
use Rattle.std.proofs.Common.{◌≡◌, ℕ, ℤ, Bool, true, false, List, [], ◌∷◌, ◌++◌, codes, sym, ap, ◌∙◌, subst, append_assoc}
use Rattle.obs_rows.specs.declared.pair_rows.PairRows.{PairRows}
use Rattle.int_search.specs.declared.answer.TwoBest.{TwoBest}
use Rattle.cert_lines.specs.Lines.{vector_line, values_line, decision_line}
use Rattle.track_data.specs.declared.tails.TrackTail.{TrackTail}
use Rattle.track_data.specs.TrackTails.{track_tail_of_vectors}
use Rattle.track_text.specs.Lengths.{AreWholeTrackVectors, IsWholeTrackTail}
use Rattle.track_text.specs.Spelling.{move_lines, track_vectors_lines, track_tail_lines}

-- the lines of two vectors as a tail
pub vectors_told : (pairs : List PairRows) (fixed : Bool) (h : ℕ) (moves : List (List ℤ)) (best : TwoBest) (top : ℤ) (t : TrackTail) → t ≡ track_tail_of_vectors fixed h moves best top
    → track_tail_lines pairs t ≡ track_vectors_lines pairs h moves best top ++ decision_line fixed ∷ []
vectors_told pairs true h moves best top t e = ap (track_tail_lines pairs) e
vectors_told pairs false h moves best top t e = ap (track_tail_lines pairs) e

-- a tail of arrays that have their lengths
pub vectors_whole : (fixed : Bool) (h : ℕ) (moves : List (List ℤ)) (best : TwoBest) (top : ℤ) (t : TrackTail) → t ≡ track_tail_of_vectors fixed h moves best top
    → AreWholeTrackVectors moves best → IsWholeTrackTail t
vectors_whole true h moves best top t e w = subst IsWholeTrackTail (sym e) w
vectors_whole false h moves best top t e w = subst IsWholeTrackTail (sym e) w

-- the parts of the tail, in turn
pub vectors_took : (pairs : List PairRows) (h : ℕ) (moves : List (List ℤ)) (first second : List ℤ) (p1 p2 top : ℤ) (fixed : Bool) (old behind after more rest : List (List ℕ))
    → old ≡ vector_line (codes "z2") second ∷ behind → behind ≡ move_lines pairs moves ++ after → after ≡ values_line h p1 p2 top ∷ more → more ≡ decision_line fixed ∷ rest
    → vector_line (codes "z1") first ∷ old
    ≡ ((vector_line (codes "z1") first ∷ vector_line (codes "z2") second ∷ (move_lines pairs moves ++ values_line h p1 p2 top ∷ [])) ++ decision_line fixed ∷ []) ++ rest
vectors_took pairs h moves first second p1 p2 top fixed old behind after more rest two moved values last =
    let line = values_line h p1 p2 top in
    let tail : behind ≡ ((move_lines pairs moves ++ line ∷ []) ++ decision_line fixed ∷ []) ++ rest =
    moved ∙ ap (λ (l : List (List ℕ)). move_lines pairs moves ++ l) (values ∙ ap (λ (l : List (List ℕ)). line ∷ l) last)
    ∙ sym (append_assoc (move_lines pairs moves) (line ∷ decision_line fixed ∷ []) rest)
    ∙ ap (λ (l : List (List ℕ)). l ++ rest) (sym (append_assoc (move_lines pairs moves) (line ∷ []) (decision_line fixed ∷ []))) in
    ap (λ (l : List (List ℕ)). vector_line (codes "z1") first ∷ l) (two ∙ ap (λ (l : List (List ℕ)). vector_line (codes "z2") second ∷ l) tail)
