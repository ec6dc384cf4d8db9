-- How near the vector of a text is to the least-squares vector.
use Rattle.std.specs.Prelude.{◌≡◌, ℕ, List, ℤ}
use Rattle.obs_rows.specs.declared.sessions.Session.{Session}
use Rattle.fix_decide.specs.Decisions.{first_of}
use Rattle.cert_data.specs.declared.certs.Cert.{Cert}
use Rattle.cert_data.specs.declared.tails.Tail.{Tail}
use Rattle.cert_data.specs.declared.tails.Tail.TheVariants.{Fixed}
use Rattle.cert_text.specs.Spelling.{spelling}
use Rattle.cert_text.specs.Lengths.{IsWhole}
use Rattle.vector_bound.specs.VectorBounds.{KeepsSessionNear, IsSessionBound, IsInHundredths, move_units, hundredths_of_mm}

-- Each number that the definition gives to these rows and numbers of a tail is one: for all data in the boxes, the least-squares
-- baseline with the integers z is within it of the move, in each coordinate
pub record KeepsItsBounds (s : Session) (h : ℕ) (z move : List ℤ) (top : ℤ) : Type 0 where
  pub units : (x : ℤ) → IsSessionBound s h z move top x → KeepsSessionNear s z move (move_units x)
  pub hundredths : (x y : ℤ) → IsSessionBound s h z move top x → IsInHundredths x y → KeepsSessionNear s z move (hundredths_of_mm y)

-- the text says that the rows are fixed, and its move is so near with its first integers
abbrev pub IsNearLeastSquares : Session → Tail → Type 0
IsNearLeastSquares s (Fixed h moved best top) = KeepsItsBounds s h (first_of best) moved top
IsNearLeastSquares s _ = ⊥

-- the text is a certificate that does
pub record SpellsNear (text : List ℕ) : Type 0 where
  pub cert : Cert
  pub whole : IsWhole cert
  pub spelled : text ≡ spelling cert
  pub near : IsNearLeastSquares cert.session cert.tail
