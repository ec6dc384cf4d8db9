-- The order of the arcs of a text, and which of them are datums.
use Rattle.std.specs.Prelude.{◌≡◌, ◌<◌, ◌↔◌, ℕ, IsTrue, Some, List, slice_get}
use Rattle.obs_rows.specs.declared.arcs.Arc.{Arc}
use Rattle.slip_arcs.specs.Runs.{Precedes, run_of}
use Rattle.cert_data.specs.declared.certs.Cert.{Cert}
use Rattle.cert_text.specs.Spelling.{spelling}
use Rattle.cert_text.specs.Lengths.{IsWhole}
use Rattle.track_data.specs.declared.certs.TrackCert.{TrackCert}
use Rattle.track_text.specs.Spelling.{track_spelling}
use Rattle.track_text.specs.Lengths.{IsWholeTrackCert}

-- The arcs stand in the order of first pair, then satellite. One is a datum exactly where its first pair is after the last pair of
-- every arc before it
pub record AreArcsInOrder (arcs : List Arc) : Type 0 where
  pub order : (k m : ℕ) (a b : Arc) → k < m → slice_get arcs k ≡ Some a → slice_get arcs m ≡ Some b → Precedes (run_of a) (run_of b)
  pub datums : (k : ℕ) (a : Arc) → slice_get arcs k ≡ Some a
      → IsTrue a.datum ↔ ((m : ℕ) (b : Arc) → m < k → slice_get arcs m ≡ Some b → b.last < a.first)

-- the text is a certificate with such arcs
pub record SpellsOrdered (text : List ℕ) : Type 0 where
  pub cert : Cert
  pub whole : IsWhole cert
  pub spelled : text ≡ spelling cert
  pub arcs : AreArcsInOrder cert.session.arcs

-- the certificate of a track
pub record SpellsOrderedTrack (text : List ℕ) : Type 0 where
  pub cert : TrackCert
  pub whole : IsWholeTrackCert cert
  pub spelled : text ≡ track_spelling cert
  pub arcs : AreArcsInOrder cert.track.arcs
