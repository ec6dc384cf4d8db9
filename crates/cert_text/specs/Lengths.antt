-- Certificates whose arrays have their lengths, as those of every value in a program have. In a definition an array is a
-- list of any length.
use Rattle.std.specs.Prelude.{◌≡◌, ℕ, ℤ, List, length, All}
use Rattle.obs_rows.specs.declared.sessions.Session.{Session}
use Rattle.quadratic_form.specs.declared.sizes.TheConstants.{MOST_INTEGERS}
use Rattle.int_search.specs.declared.answer.TwoBest.{TwoBest}
use Rattle.cert_data.specs.declared.certs.Cert.{Cert}
use Rattle.cert_data.specs.declared.tails.Tail.{Tail}
use Rattle.cert_data.specs.declared.tails.Tail.TheVariants.{Fixed, Unseparated}
use Rattle.cert_lines.specs.Lengths.{IsWholeArc, IsWholePair}
use Rattle.cert_text.specs.Spelling.{spelling}

pub record AreWholeVectors (moved : List ℤ) (best : TwoBest) : Type 0 where
  pub move : length moved ≡ 3
  pub first : length best.first ≡ MOST_INTEGERS
  pub second : length best.second ≡ MOST_INTEGERS

abbrev pub IsWholeTail : Tail → Type 0
IsWholeTail (Fixed h moved best top) = AreWholeVectors moved best
IsWholeTail (Unseparated h moved best top) = AreWholeVectors moved best
IsWholeTail _ = Unit {0}

pub record IsWholeSession (s : Session) : Type 0 where
  pub base : length s.base ≡ 3
  pub point : length s.point ≡ 3
  pub arcs : All IsWholeArc s.arcs
  pub pairs : All IsWholePair s.pairs

pub record IsWhole (c : Cert) : Type 0 where
  pub session : IsWholeSession c.session
  pub tail : IsWholeTail c.tail

-- the text is the spelling of a certificate
pub record IsCertificate (text : List ℕ) : Type 0 where
  pub cert : Cert
  pub whole : IsWhole cert
  pub spelled : text ≡ spelling cert
