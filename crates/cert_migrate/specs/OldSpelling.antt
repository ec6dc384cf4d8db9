-- How a certificate of version 1 is spelled, line by line: a word, and numbers as `itoa` writes them, each after one blank.
use Rattle.std.specs.Prelude.{◌≡◌, ℕ, ℤ, pos, Bool, if◌then◌else◌, List, [], ◌∷◌, ◌++◌, length, take, map, All, codes}
use Rattle.std.specs.List.{flat_map}
use Rattle.cert_words.specs.Spelling.{behind_blanks, text_of_lines}
use Rattle.cert_data.specs.Places.{name_of_place}
use Rattle.cert_migrate.specs.declared.old_arcs.OldArc.{OldArc}
use Rattle.cert_migrate.specs.declared.old_rows.OldRow.{OldRow}
use Rattle.cert_migrate.specs.declared.old_pairs.OldPair.{OldPair}
use Rattle.cert_migrate.specs.declared.old_sessions.OldSession.{OldSession}
use Rattle.cert_migrate.specs.declared.old_tails.OldBest.{OldBest}
use Rattle.cert_migrate.specs.declared.old_tails.OldTail.{OldTail}
use Rattle.cert_migrate.specs.declared.old_tails.OldTail.TheVariants.{Fixed, Unseparated, Weak, Overwidth, Unsettled, Spent}
use Rattle.cert_migrate.specs.declared.old_certs.OldCert.{OldCert}

abbrev pub old_line : List ℕ → List ℤ → List ℕ
old_line word numbers = word ++ behind_blanks numbers

-- ---- the session
abbrev pub old_kind : Bool → List ℕ
old_kind datum = if datum then codes " datum" else codes " free"

abbrev pub old_arc_line : OldArc → List ℕ
old_arc_line a = codes "arc" ++ (behind_blanks (pos a.sat ∷ pos a.first ∷ pos a.last ∷ []) ++ (old_kind a.datum ++ behind_blanks a.shift))

abbrev pub old_row_line : OldRow → List ℕ
old_row_line r = old_line (codes "row") (pos r.arc ∷ (r.y ++ (r.ry ∷ (r.u ++ r.ru))))

-- the line of a pair, and those of its rows
abbrev pub old_pair_lines : OldPair → List (List ℕ)
old_pair_lines p = old_line (codes "pair") (pos p.number ∷ pos p.tag.0 ∷ p.group ∷ pos (length p.rows) ∷ []) ∷ map old_row_line p.rows

abbrev pub old_session_lines : OldSession → List (List ℕ)
old_session_lines s =
    (old_line (codes "base") s.base ∷ old_line (codes "point") s.point ∷ (codes "signals" ++ (32 ∷ s.signals.l1 ∷ 32 ∷ s.signals.l2 ∷ [])) ∷ [])
    ++ ((old_line (codes "arcs") (pos (length s.arcs) ∷ []) ∷ map old_arc_line s.arcs)
    ++ (old_line (codes "pairs") (pos (length s.pairs) ∷ []) ∷ flat_map old_pair_lines s.pairs))

-- ---- the tail
abbrev pub old_vectors_lines : ℕ → List ℤ → OldBest → ℤ → List (List ℕ)
old_vectors_lines h moved best top =
    old_line (codes "z1") (take best.size best.first) ∷ old_line (codes "z2") (take best.size best.second) ∷ old_line (codes "move") moved
    ∷ old_line (codes "values") (pos h ∷ best.p1 ∷ best.p2 ∷ top ∷ []) ∷ []

abbrev pub old_tail_lines : OldTail → List (List ℕ)
old_tail_lines (Fixed h moved best top) = old_vectors_lines h moved best top ++ codes "fixed" ∷ []
old_tail_lines (Unseparated h moved best top) = old_vectors_lines h moved best top ++ codes "declined unseparated" ∷ []
old_tail_lines (Weak column pivot) = old_line (codes "declined weak fine") (pos column ∷ pivot ∷ []) ∷ []
old_tail_lines (Overwidth place) = (codes "declined overwidth fine " ++ name_of_place place) ∷ []
old_tail_lines (Unsettled entry) = old_line (codes "declined unsettled fine") (entry ∷ []) ∷ []
old_tail_lines (Spent budget) = old_line (codes "declined spent") (pos budget ∷ []) ∷ []

-- ---- the text
abbrev pub old_lines : OldCert → List (List ℕ)
old_lines c =
    (codes "baseline-cert 1" ∷ old_line (codes "ratio") (pos c.ratio ∷ []) ∷ old_line (codes "budget") (pos c.budget ∷ []) ∷ [])
    ++ (old_session_lines c.session ++ old_tail_lines c.tail)

unfoldable pub old_spelling : OldCert → List ℕ
old_spelling c = text_of_lines (old_lines c)

-- ---- arrays have their lengths, as those of every value in a program have; in a definition an array is a list of any length
abbrev pub IsWholeOldArc : OldArc → Type 0
IsWholeOldArc a = length a.shift ≡ 2

pub record IsWholeOldRow (r : OldRow) : Type 0 where
  pub y : length r.y ≡ 4
  pub u : length r.u ≡ 3
  pub ru : length r.ru ≡ 3

abbrev pub IsWholeOldPair : OldPair → Type 0
IsWholeOldPair p = All IsWholeOldRow p.rows

pub record AreWholeOldVectors (moved : List ℤ) (best : OldBest) : Type 0 where
  pub move : length moved ≡ 3
  pub first : length best.first ≡ 40
  pub second : length best.second ≡ 40

abbrev pub IsWholeOldTail : OldTail → Type 0
IsWholeOldTail (Fixed h moved best top) = AreWholeOldVectors moved best
IsWholeOldTail (Unseparated h moved best top) = AreWholeOldVectors moved best
IsWholeOldTail _ = Unit {0}

pub record IsWholeOld (c : OldCert) : Type 0 where
  pub base : length c.session.base ≡ 3
  pub point : length c.session.point ≡ 3
  pub arcs : All IsWholeOldArc c.session.arcs
  pub pairs : All IsWholeOldPair c.session.pairs
  pub tail : IsWholeOldTail c.tail

-- the text is the spelling of a certificate of version 1
pub record IsOldCertificate (text : List ℕ) : Type 0 where
  pub cert : OldCert
  pub whole : IsWholeOld cert
  pub spelled : text ≡ old_spelling cert
