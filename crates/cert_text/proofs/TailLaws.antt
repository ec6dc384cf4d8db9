-- What the lines of a tail say together.
use Rattle.std.proofs.Common.{◌≡◌, ℕ, ℤ, Bool, true, false, List, [], ◌∷◌, ◌++◌, ap, subst, sym}
use Rattle.int_search.specs.declared.answer.TwoBest.{TwoBest}
use Rattle.cert_lines.specs.Lines.{decision_line}
use Rattle.cert_lines.specs.declared.version.Version.{Version}
use Rattle.cert_data.specs.declared.tails.Tail.{Tail}
use Rattle.cert_text.specs.Spelling.{vectors_lines, tail_lines}
use Rattle.cert_text.specs.Lengths.{AreWholeVectors, IsWholeTail}
use Rattle.cert_text.specs.Editions.{IsColumnOf}
use Rattle.cert_data.specs.Tails.{tail_of_vectors}

-- the lines of two vectors as a tail
pub vectors_told : (fixed : Bool) (h : ℕ) (m : List ℤ) (best : TwoBest) (top : ℤ) (t : Tail) → t ≡ tail_of_vectors fixed h m best top →
    tail_lines t ≡ vectors_lines h m best top ++ decision_line fixed ∷ []
vectors_told true h m best top t e = ap tail_lines e
vectors_told false h m best top t e = ap tail_lines e

-- a tail with vectors has no column
pub vectors_column : (version : Version) (fixed : Bool) (h : ℕ) (m : List ℤ) (best : TwoBest) (top : ℤ) (t : Tail) → t ≡ tail_of_vectors fixed h m best top → IsColumnOf version t
vectors_column version true h m best top t e = subst (IsColumnOf version) (sym e) tt
vectors_column version false h m best top t e = subst (IsColumnOf version) (sym e) tt

-- a tail of arrays that have their lengths
pub vectors_whole : (fixed : Bool) (h : ℕ) (m : List ℤ) (best : TwoBest) (top : ℤ) (t : Tail) → t ≡ tail_of_vectors fixed h m best top → AreWholeVectors m best → IsWholeTail t
vectors_whole true h m best top t e w = subst IsWholeTail (sym e) w
vectors_whole false h m best top t e w = subst IsWholeTail (sym e) w
