-- A text of version 1 is read into a certificate of the present types, whose numbers are then moved: each part of the old
-- certificate follows from that part of the carrier.
use Rattle.std.specs.Prelude.{◌≡◌, ◌≤◌, [], ◌∷◌, take, map}
use Rattle.std.specs.List.{AllZip}
use Rattle.obs_rows.specs.declared.arcs.Arc.{Arc}
use Rattle.obs_rows.specs.declared.rows.Row.{Row}
use Rattle.obs_rows.specs.declared.pair_rows.PairRows.{PairRows}
use Rattle.obs_rows.specs.declared.sessions.Session.{Session}
use Rattle.int_search.specs.declared.answer.TwoBest.{TwoBest}
use Rattle.cert_data.specs.declared.tails.Tail.{Tail}
use Rattle.cert_data.specs.declared.tails.Tail.TheVariants as now
use Rattle.cert_data.specs.declared.certs.Cert.{Cert}
use Rattle.cert_migrate.specs.declared.old_arcs.OldArc.{OldArc}
use Rattle.cert_migrate.specs.declared.old_rows.OldRow.{OldRow}
use Rattle.cert_migrate.specs.declared.old_pairs.OldPair.{OldPair}
use Rattle.cert_migrate.specs.declared.old_sessions.OldSession.{OldSession}
use Rattle.cert_migrate.specs.declared.old_tails.OldBest.{OldBest}
use Rattle.cert_migrate.specs.declared.old_tails.OldTail.{OldTail}
use Rattle.cert_migrate.specs.declared.old_tails.OldTail.TheVariants.{Fixed, Unseparated, Weak, Overwidth, Unsettled, Spent}
use Rattle.cert_migrate.specs.declared.old_certs.OldCert.{OldCert}
use Rattle.cert_migrate.specs.OldSums.{at}

abbrev pub old_arc : Arc → OldArc
old_arc a = record { sat = a.sat; first = a.first; last = a.last; datum = a.datum; shift = at a.shift 0 ∷ at a.shift 1 ∷ [] }

pub record IsRowOf (r : Row) (old : OldRow) : Type 0 where
  pub arc : old.arc ≡ r.arc
  pub y : old.y ≡ at r.y 0 ∷ at r.y 1 ∷ at r.y 2 ∷ at r.y 3 ∷ []
  pub ry : old.ry ≡ r.ry
  pub u : old.u ≡ r.u
  pub ru : old.ru ≡ r.ru

pub record IsPairOf (p : PairRows) (old : OldPair) : Type 0 where
  pub number : old.number ≡ p.number
  pub tag : old.tag ≡ p.tag
  pub group : old.group ≡ p.group
  pub rows : AllZip IsRowOf p.rows old.rows

pub record IsSessionOf (s : Session) (old : OldSession) : Type 0 where
  pub base : old.base ≡ s.base
  pub point : old.point ≡ s.point
  pub l1 : old.signals.l1 ≡ s.signals.l1
  pub l2 : old.signals.l2 ≡ s.signals.l2
  pub arcs : old.arcs ≡ map old_arc s.arcs
  pub pairs : AllZip IsPairOf s.pairs old.pairs

pub record IsBestOf (b : TwoBest) (old : OldBest) : Type 0 where
  pub first : old.first ≡ take 40 b.first
  pub second : old.second ≡ take 40 b.second
  pub p1 : old.p1 ≡ b.p1
  pub p2 : old.p2 ≡ b.p2
  pub size : old.size ≡ b.size

-- the same ending, with the same numbers
abbrev pub IsEndOf : Tail → OldTail → Type 0
IsEndOf (now.Fixed h moved best top) old = (b : OldBest) × (IsBestOf best b × (old ≡ Fixed h moved b top))
IsEndOf (now.Unseparated h moved best top) old = (b : OldBest) × (IsBestOf best b × (old ≡ Unseparated h moved b top))
IsEndOf (now.Weak column pivot) old = old ≡ Weak column pivot
IsEndOf (now.Overwidth place) old = old ≡ Overwidth place
IsEndOf (now.Unsettled entry) old = old ≡ Unsettled entry
IsEndOf (now.Spent budget) old = old ≡ Spent budget

-- the vectors have room in 40 places
abbrev pub HasFewEntries : Tail → Type 0
HasFewEntries (now.Fixed h moved best top) = best.size ≤ 40
HasFewEntries (now.Unseparated h moved best top) = best.size ≤ 40
HasFewEntries _ = Unit {0}

pub record IsCarrierOf (c : Cert) (old : OldCert) : Type 0 where
  pub ratio : old.ratio ≡ c.ratio
  pub budget : old.budget ≡ c.budget
  pub session : IsSessionOf c.session old.session
  pub tail : IsEndOf c.tail old.tail
