-- Tracks whose arrays have their lengths, as those of every value in a program have. In a definition an array is a list of
-- any length.
use Rattle.std.specs.Prelude.{◌≡◌, ℕ, ℤ, List, length, All}
use Rattle.quadratic_form.specs.declared.sizes.TheConstants.{MOST_INTEGERS}
use Rattle.int_search.specs.declared.answer.TwoBest.{TwoBest}
use Rattle.cert_lines.specs.Lengths.{IsWholeArc, IsWholePair}
use Rattle.track_data.specs.declared.tracks.Track.{Track}
use Rattle.track_data.specs.declared.tails.TrackTail.{TrackTail}
use Rattle.track_data.specs.declared.tails.TrackTail.TheVariants.{Fixed, Unseparated}
use Rattle.track_data.specs.declared.certs.TrackCert.{TrackCert}
use Rattle.track_text.specs.Spelling.{track_spelling}

-- three coordinates each
abbrev pub AreTriples : List (List ℤ) → Type 0
AreTriples triples = All (λ m. length m ≡ 3) triples

pub record AreWholeTrackVectors (moves : List (List ℤ)) (best : TwoBest) : Type 0 where
  pub move_each : AreTriples moves
  pub first : length best.first ≡ MOST_INTEGERS
  pub second : length best.second ≡ MOST_INTEGERS

abbrev pub IsWholeTrackTail : TrackTail → Type 0
IsWholeTrackTail (Fixed h moves best top) = AreWholeTrackVectors moves best
IsWholeTrackTail (Unseparated h moves best top) = AreWholeTrackVectors moves best
IsWholeTrackTail _ = Unit {0}

pub record IsWholeTrack (t : Track) : Type 0 where
  pub base : length t.base ≡ 3
  pub arcs : All IsWholeArc t.arcs
  pub points : AreTriples t.points
  pub pairs : All IsWholePair t.pairs

pub record IsWholeTrackCert (c : TrackCert) : Type 0 where
  pub track : IsWholeTrack c.track
  pub tail : IsWholeTrackTail c.tail

-- the text is the spelling of the certificate of a track
pub record IsTrackCertificate (text : List ℕ) : Type 0 where
  pub cert : TrackCert
  pub whole : IsWholeTrackCert cert
  pub spelled : text ≡ track_spelling cert
