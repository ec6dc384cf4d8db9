-- When the integers of a fix are those that its session was made with.
use Rattle.std.specs.Prelude.{◌≡◌, ◌-◌, ◌<◌, ◌≤◌, ℕ, ℤ, pos, ◌+ℤ◌, ◌-ℤ◌, IsTrue, Some, List, All, slice_get, slice_index_or}
use Rattle.obs_rows.specs.declared.arcs.Arc.{Arc}
use Rattle.obs_rows.specs.Arcs.{is_free}
use Rattle.obs_rows.specs.Signals.{fine_signals, is_phase, band}
use Rattle.obs_rows.specs.Integers.{integer}
use Rattle.slip_arcs.specs.Linked.{AreLinked, HaveDatums}
use Rattle.fix_decide.specs.Decisions.{first_of}
use Rattle.cert_data.specs.declared.tails.Tail.{Tail}
use Rattle.cert_data.specs.declared.tails.Tail.TheVariants.{Fixed}
use Rattle.cert_data.specs.declared.outcomes.Answer.{Answer}
use Rattle.cert_data.specs.declared.outcomes.Answer.TheVariants.{Full}

-- arc number d, which is e, is the datum of the linked set of arc number k
pub record IsDatumOf (arcs : List Arc) (k d : ℕ) (e : Arc) : Type 0 where
  pub is : slice_get arcs d ≡ Some e
  pub datum : IsTrue e.datum
  pub linked : AreLinked arcs k d

-- the shift of arc number k, which is a, on the band of phase s, and its entry of z, less the shift of its datum e
abbrev pub found : List Arc → List ℕ → List ℤ → ℕ → Arc → Arc → ℕ → ℤ
found arcs signals z k a e s = (slice_index_or a.shift (band s) (pos 0) +ℤ integer arcs signals z k s) -ℤ slice_index_or e.shift (band s) (pos 0)

-- the cycles of the arc's satellite on that band less those of its datum's
abbrev pub wanted : List ℤ → List ℤ → ℕ → ℤ
wanted of_arc of_datum s = slice_index_or of_arc (band s) (pos 0) -ℤ slice_index_or of_datum (band s) (pos 0)

-- against its datum e, arc number k has in each phase the cycles that it was made with. Those of satellite number n stand at
-- place n - 1 of the truth, by bands
pub record AgreesWith (truth : List (List ℤ)) (arcs : List Arc) (signals : List ℕ) (z : List ℤ) (k : ℕ) (a e : Arc) : Type 0 where
  pub of_arc : List ℤ
  pub of_arc_is : slice_get truth (a.sat - 1) ≡ Some of_arc
  pub of_datum : List ℤ
  pub of_datum_is : slice_get truth (e.sat - 1) ≡ Some of_datum
  pub cycles : All (λ s. IsTrue (is_phase s) → found arcs signals z k a e s ≡ wanted of_arc of_datum s) signals

-- so it does against the datum of its linked set
pub record HasTruth (truth : List (List ℤ)) (arcs : List Arc) (signals : List ℕ) (z : List ℤ) (k : ℕ) (a : Arc) : Type 0 where
  pub place : ℕ
  pub datum : Arc
  pub is_datum : IsDatumOf arcs k place datum
  pub agrees : AgreesWith truth arcs signals z k a datum

-- each free arc does
abbrev pub HaveTruth : List (List ℤ) → List Arc → List ℕ → List ℤ → Type 0
HaveTruth truth arcs signals z = (k : ℕ) (a : Arc) → slice_get arcs k ≡ Some a → IsTrue (is_free a) → HasTruth truth arcs signals z k a

abbrev pub IsMatchedTail : List (List ℤ) → List Arc → List ℕ → Tail → Type 0
IsMatchedTail truth arcs signals (Fixed h moved best top) = HaveTruth truth arcs signals (first_of best)
IsMatchedTail truth arcs signals _ = ⊥

-- the answer is a fix, whose integers are those of the truth
abbrev pub IsMatched : List (List ℤ) → Answer → Type 0
IsMatched truth (Full cert) = IsMatchedTail truth cert.session.arcs (fine_signals cert.session.signals) cert.tail
IsMatched truth _ = ⊥

-- each arc ends no earlier than it begins, and the arcs stand in the order in which they begin
pub record AreInOrder (arcs : List Arc) : Type 0 where
  pub forward : (k : ℕ) (a : Arc) → slice_get arcs k ≡ Some a → a.first ≤ a.last
  pub rising : (m k : ℕ) (b a : Arc) → m < k → slice_get arcs m ≡ Some b → slice_get arcs k ≡ Some a → b.first ≤ a.first

-- the arcs of a session are in order, and just the first of each linked set is a datum
pub record AreMarked (arcs : List Arc) : Type 0 where
  pub order : AreInOrder arcs
  pub datums : HaveDatums arcs

abbrev pub HasMarkedArcs : Answer → Type 0
HasMarkedArcs (Full cert) = AreMarked cert.session.arcs
HasMarkedArcs _ = Unit {0}
