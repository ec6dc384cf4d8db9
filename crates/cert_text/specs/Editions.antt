-- Certificates in the form of a version of the text.
use Rattle.std.specs.Prelude.{◌≡◌, ◌≤◌, ◌<◌, ℕ, List, unsigned_abs, All}
use Rattle.cert_data.specs.declared.certs.Cert.{Cert}
use Rattle.cert_data.specs.declared.tails.Tail.{Tail}
use Rattle.cert_data.specs.declared.tails.Tail.TheVariants.{Weak}
use Rattle.cert_lines.specs.declared.version.Version.{Version}
use Rattle.cert_lines.specs.declared.version.Version.TheVariants.{One}
use Rattle.cert_lines.specs.Versions.{most_sat, group_limit, last_column}
use Rattle.cert_text.specs.Spelling.{spelling_as}
use Rattle.cert_text.specs.Lengths.{IsWhole}

-- columns of the version
abbrev pub IsColumnOf : Version → Tail → Type 0
IsColumnOf version (Weak column pivot) = column ≤ last_column version
IsColumnOf version _ = Unit {0}

-- what the form of a version can say: the first knew GPS alone, the bands L1 and L2, and narrower ranges
pub record IsOfVersion (version : Version) (c : Cert) : Type 0 where
  pub system : version ≡ One → c.session.system ≡ 71
  pub bands : version ≡ One → c.session.signals.l5 ≡ 0
  pub sats : All (λ a. a.sat ≤ most_sat version) c.session.arcs
  pub groups : All (λ p. unsigned_abs p.group < group_limit version) c.session.pairs
  pub column : IsColumnOf version c.tail

-- the text is the spelling of a certificate in the form of a version
pub record IsCertificateAs (version : Version) (text : List ℕ) : Type 0 where
  pub cert : Cert
  pub whole : IsWhole cert
  pub of_version : IsOfVersion version cert
  pub spelled : text ≡ spelling_as version cert
