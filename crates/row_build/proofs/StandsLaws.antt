-- Rows of what was screened stand for the files.
use Rattle.std.proofs.Common.{◌≡◌, ℕ, All, Some, List, map, length, get_or, ℤ, refl, sym, subst, ap, ◌∙◌}
use Rattle.std.specs.Prelude.{slice_get}
use Rattle.std.proofs.lemmas.Option.{same_Some, slice_get_within, get_or_from_slice_get}
use Rattle.iv_core.specs.Intervals.{Holds}
use Rattle.whole_math.specs.Rational.{Rational, Near}
use Rattle.orbit_model.specs.Solution.{Quantities}
use Rattle.sv_orbit.specs.declared.place.SvBox.{SvBox}
use Rattle.sv_orbit.specs.Solutions.{HoldsSolution}
use Rattle.orbit_model.specs.SeenPlaces.{Position, sent_place}
use Rattle.orbit_model.specs.Places.{HoldsPlace}
use Rattle.eph_store.specs.declared.ephemeris.Eph.{Eph}
use Rattle.obs_store.specs.declared.series.Epoch.{Epoch}
use Rattle.epoch_pair.specs.declared.pairs.PairOf.{PairOf}
use Rattle.obs_rows.specs.declared.arcs.Arc.{Arc}
use Rattle.obs_rows.specs.declared.rows.Row.{Row}
use Rattle.obs_rows.specs.declared.pair_rows.PairRows.{PairRows}
use Rattle.obs_rows.specs.declared.sessions.Session.{Session}
use Rattle.obs_rows.specs.Data.{number_at}
use Rattle.obs_rows.specs.Signals.{counted, band}
use Rattle.obs_rows.specs.Rounds.{Round, round_of}
use Rattle.obs_rows.specs.declared.bands.Signals.{Signals}
use Rattle.obs_rows.specs.declared.used.UsedPair.{UsedPair}
use Rattle.slip_arcs.specs.Runs.{AreKept}
use Rattle.slip_arcs.specs.Linked.{HaveDatums}
use Rattle.screening.specs.declared.sv_pair.SvPair.{SvPair}
use Rattle.screening.specs.Sightings.{Setting, Sent, WasSent, code_of}
use Rattle.screening.specs.Sightings.{ObservedSat, IsObservedSat}
use Rattle.screening.specs.Screening.{AreEpochsOf, AreUsedPairs, IsSvPair}
use Rattle.row_boxes.specs.Sightings.{Sighting, y_in_rows}
use Rattle.row_boxes.specs.BoxSightings.{IsSighting, HasSighting}
use Rattle.row_build.specs.Entries.{IsEntry}
use Rattle.row_build.specs.Rows.{RowSetting, setting, IsRow}
use Rattle.row_build.specs.PairRows.{ArePairRows}
use Rattle.row_build.specs.SessionRows.{AreSessionRows, pairs_held}
use Rattle.row_build.specs.HeldArcs.{arcs_at}
use Rattle.row_build.specs.Stands.{Origin, IsSolved, HasSolved, StandsForRow, StandsForPair, StandsForFiles}

-- ---- a solution lies in the boxes that hold it

solved : (t : Setting) (eph : Eph) (tag : ℕ) (code : ℤ) (point : List ℤ) (b : SvBox) (s : Sighting) → ((q : Quantities) → Sent t eph tag code q → HoldsSolution b q) →
    IsSolved t eph tag code point s → IsSighting b point s
solved t eph tag code point b s holds h =
    let holds_solution : HoldsSolution b h.solution = holds h.solution h.sent in
    record {
      sent_in = subst (λ (p : Position). HoldsPlace b.place p) (sym h.place) holds_solution.place;
      clock_in = subst (λ (c : Rational). Holds b.clock c) (sym h.clock) holds_solution.clock;
      seen_is = h.seen;
    }

-- the solution that there is, seen from its place in the box
has_solved : (t : Setting) (eph : Eph) (tag : ℕ) (code : ℤ) (point : List ℤ) (b : SvBox) → ((q : Quantities) → Sent t eph tag code q → HoldsSolution b q) → WasSent t eph tag code →
    HasSighting b point → HasSolved t eph tag code point
has_solved t eph tag code point b holds was seen =
    let quantities : Quantities = was.quantities in
    let there = seen.every (sent_place quantities) (holds quantities was.is).place in
    record {
      sighting = record { sent = sent_place quantities; clock = quantities.clock; seen = there.seen; travel = there.travel };
      is = record { solution = quantities; sent = was.is; place = refl; clock = refl; seen = there.is_seen };
    }

-- ---- the entry of the row's satellite
element : (P : SvPair → Type 0) (boxes : List SvPair) (k : ℕ) (v : SvPair) → All P boxes → slice_get boxes k ≡ Some v → P v
element P boxes k v all e = subst P (get_or_from_slice_get boxes k v v e) (all k v (slice_get_within boxes k v e))

-- the epochs of a pair are of its number alone
same_epoch : (xs : List Epoch) (k : ℕ) (a b : Epoch) → slice_get xs k ≡ Some a → slice_get xs k ≡ Some b → a ≡ b
same_epoch xs k a b e f = same_Some a b (sym e ∙ f)

same_pair : (xs : List PairOf) (k : ℕ) (a b : PairOf) → slice_get xs k ≡ Some a → slice_get xs k ≡ Some b → a ≡ b
same_pair xs k a b e f = same_Some a b (sym e ∙ f)

-- a row's y boxes at one sighting of each receiver
abbrev HoldsAll : List ℕ → ℕ → ℤ → List ℤ → Row → Sighting → Sighting → List ℤ → Type 0
HoldsAll ss scale group shift r s w xs = All (λ (i : ℕ). Near (number_at r.y i) r.ry (y_in_rows scale i (number_at xs i) group (number_at shift (band i)) s w)) ss

-- what rows of this origin and round are made from
abbrev pub setting_in : Origin → Round → List SvPair → RowSetting
setting_in from round boxes = setting boxes round.arcs from.position round.point from.signals round.scale

-- an entry of one of the origin's pairs
abbrev pub IsEntryOf : Origin → SvPair → Type 0
IsEntryOf from = IsSvPair from.setting from.base from.rover from.taken

pub row_stands : (from : Origin) (round : Round) (boxes : List SvPair) (n : ℕ) (group : ℤ) (pair : PairOf) (base rover : Epoch) (r : Row) →
    All (IsEntryOf from) boxes → slice_get from.taken n ≡ Some pair → AreEpochsOf from.base from.rover pair base rover →
    IsRow (setting_in from round boxes) n group r →
    (a : Arc) → slice_get round.arcs r.arc ≡ Some a → StandsForRow from round (record { base = base; rover = rover }) group a r
row_stands from round boxes n group pair base rover r all pair_is epochs row a a_is =
    let entry : SvPair = row.entry in
    let arc : row.arc ≡ a = same_Some row.arc a (sym row.arc_is ∙ a_is) in
    let is_entry_pair : IsEntryOf from entry = element (IsEntryOf from) boxes row.entry_is.place entry all row.entry_is.is in
    let own_base : Epoch = is_entry_pair.base_epoch in
    let own_rover : Epoch = is_entry_pair.rover_epoch in
    let is_entry = is_entry_pair.entry in
    let observed : ObservedSat = is_entry.sighting in
    let same_pair_of : is_entry_pair.pair ≡ pair =
    same_pair from.taken n is_entry_pair.pair pair
    (subst (λ (k : ℕ). slice_get from.taken k ≡ Some is_entry_pair.pair) row.entry_is.of_pair is_entry_pair.pair_is) pair_is in
    let same_base_epoch : own_base ≡ base =
    same_epoch from.base pair.base own_base base
    (subst (λ (o : PairOf). slice_get from.base o.base ≡ Some own_base) same_pair_of is_entry_pair.epochs.of_base) epochs.of_base in
    let same_rover_epoch : own_rover ≡ rover =
    same_epoch from.rover pair.rover own_rover rover
    (subst (λ (o : PairOf). slice_get from.rover o.rover ≡ Some own_rover) same_pair_of is_entry_pair.epochs.of_rover) epochs.of_rover in
    let base_sighting = solved from.setting observed.eph own_base.tag.0 (code_of observed.base) from.position entry.base in
    let rover_sighting = solved from.setting observed.eph own_rover.tag.0 (code_of observed.rover) round.point entry.rover in
    let ss : List ℕ = counted from.signals round.scale in
    let made : StandsForRow from round (record { base = own_base; rover = own_rover }) group row.arc r = record {
      observed = observed;
      are = subst (λ (k : ℕ). IsObservedSat from.setting own_base own_rover k observed) row.entry_is.of_sat is_entry.seen;
      base_sees = has_solved from.setting observed.eph own_base.tag.0 (code_of observed.base) from.position entry.base
          is_entry.base_holds is_entry.base_sent row.seen.base;
      rover_sees = has_solved from.setting observed.eph own_rover.tag.0 (code_of observed.rover) round.point entry.rover
          is_entry.rover_holds is_entry.rover_sent row.seen.rover;
      y = λ s w hs hw. subst (λ (xs : List ℤ). HoldsAll ss round.scale group row.arc.shift r s w xs) is_entry.observed
          (λ k d l. row.y k d l s w
          (record { base_is = base_sighting s is_entry.base_holds hs; rover_is = rover_sighting w is_entry.rover_holds hw }));
      u = λ w move direction hw d m. row.u w move direction (rover_sighting w is_entry.rover_holds hw) d m;
      radius = row.radius;
      others = row.others;
      narrow = row.narrow;
    } in
    subst (λ (e : Epoch). StandsForRow from round (record { base = e; rover = rover }) group a r) same_base_epoch
    (subst (λ (e : Epoch). StandsForRow from round (record { base = own_base; rover = e }) group a r) same_rover_epoch
    (subst (λ (c : Arc). StandsForRow from round (record { base = own_base; rover = own_rover }) group c r) arc made))

-- ---- the rows of a pair, and of all pairs
pub pair_stands : (from : Origin) (round : Round) (boxes : List SvPair) (n : ℕ) (p : PairRows) → All (IsEntryOf from) boxes →
    ArePairRows (setting_in from round boxes) n p → StandsForPair from round p
pair_stands from round boxes n p all rows =
    let is_entry : IsEntry boxes n rows.tag.sat rows.tag.entry = rows.tag.entry_is in
    let is_entry_pair : IsEntryOf from rows.tag.entry = element (IsEntryOf from) boxes is_entry.place rows.tag.entry all is_entry.is in
    let pair_at_place : slice_get from.taken n ≡ Some is_entry_pair.pair =
    subst (λ (k : ℕ). slice_get from.taken k ≡ Some is_entry_pair.pair) is_entry.of_pair is_entry_pair.pair_is in
    record {
      pair = is_entry_pair.pair;
      epochs = record { base = is_entry_pair.base_epoch; rover = is_entry_pair.rover_epoch };
      pair_is = subst (λ (k : ℕ). slice_get from.taken k ≡ Some is_entry_pair.pair) (sym rows.number) pair_at_place;
      epochs_are = is_entry_pair.epochs;
      tag = sym rows.tag.tag_is ∙ is_entry_pair.entry.tag;
      held = rows.arcs ∙ ap (λ (k : ℕ). arcs_at round.arcs k) (sym rows.number);
      rows = λ k d l a a_is. row_stands from round boxes n p.group is_entry_pair.pair is_entry_pair.base_epoch is_entry_pair.rover_epoch
          (get_or p.rows k d) all pair_at_place is_entry_pair.epochs (rows.rows k d l) a a_is;
      group = rows.group;
    }

-- what `screen_in`, `cut` and `rows_at` say, together: the session stands for the files
pub session_stands : (from : Origin) (short : ℕ) (used : List UsedPair) (boxes : List SvPair) (s : Session) →
    AreUsedPairs from.setting from.base from.rover from.taken used → All (IsEntryOf from) boxes →
    AreKept from.bands from.jump from.least used s.arcs short → HaveDatums s.arcs →
    s.system ≡ from.system → s.base ≡ from.position → s.signals ≡ from.signals →
    AreSessionRows (setting boxes s.arcs s.base s.point s.signals s.scale) (length used) s.pairs →
    StandsForFiles from s.point (map (λ (a : Arc). a.shift) s.arcs) s.scale s
session_stands from short used boxes s used_are all kept datums system_is base_is signals_are rows = record {
  system_is = system_is;
  base_is = base_is;
  point_is = refl;
  scale_is = refl;
  signals_are = signals_are;
  used = used;
  used_are = used_are;
  short = short;
  kept = kept;
  datums = datums;
  shifts_are = refl;
  numbers = rows.numbers ∙ ap (λ (n : ℕ). pairs_held s.arcs n) used_are.count;
  pairs = λ k d l. pair_stands from (round_of s) boxes (get_or s.pairs k d).number (get_or s.pairs k d) all (of_origin.each k d l);
}
  where
    of_origin : AreSessionRows (setting_in from (round_of s) boxes) (length used) s.pairs
    of_origin = subst (λ (p : List ℤ). AreSessionRows (setting boxes s.arcs p s.point from.signals s.scale) (length used) s.pairs) base_is
        (subst (λ (q : Signals). AreSessionRows (setting boxes s.arcs s.base s.point q s.scale) (length used) s.pairs) signals_are rows)
