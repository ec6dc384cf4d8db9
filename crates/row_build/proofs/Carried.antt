-- Rows of a pair are those of all arcs that agree at the pair.
use Rattle.std.proofs.Common.{◌≡◌, ℕ, zero, suc, ◌+◌, Bool, true, cond, Some, List, [], ◌∷◌, get_or, ℤ, refl, sym, subst, ap, ap₂, ◌∙◌, Option}
use Rattle.std.specs.Prelude.{slice_get}
use Rattle.std.specs.Option.{option_map}
use Rattle.std.proofs.lemmas.Option.{none-some, same_Some, slice_get-map, slice_get-get_or}
use Rattle.obs_rows.specs.declared.arcs.Arc.{Arc}
use Rattle.obs_rows.specs.declared.bands.Signals.{Signals}
use Rattle.obs_rows.specs.declared.rows.Row.{Row}
use Rattle.obs_rows.specs.declared.pair_rows.PairRows.{PairRows}
use Rattle.screening.specs.declared.sv_pair.SvPair.{SvPair}
use Rattle.row_build.specs.HeldArcs.{holds_pair, arcs_from, IsHeld, AgreeAt}
use Rattle.row_build.specs.Rows.{setting, IsRow}
use Rattle.row_build.specs.PairRows.{ArePairRows}
use Rattle.row_build.proofs.ArcLaws.{held_number}

-- the same arcs hold the pair
pub same_held : (arcs others : List Arc) (n pair : ℕ) → AgreeAt pair arcs others → arcs_from n others pair ≡ arcs_from n arcs pair
same_held [] [] n pair a = refl
same_held [] (b ∷ others) n pair a = absurd a
same_held (x ∷ arcs) [] n pair a = absurd a
same_held (x ∷ arcs) (y ∷ others) n pair a =
    ap₂ (λ (h : Bool) (ns : List ℕ). cond h (n ∷ ns) ns) (sym a.0.0) (same_held arcs others (n + 1) pair a.1)

-- an arc that holds the pair stands in both
pub same_arc : (arcs others : List Arc) (pair k : ℕ) (x : Arc) → AgreeAt pair arcs others → slice_get arcs k ≡ Some x → holds_pair x pair ≡ true → slice_get others k ≡ Some x
same_arc [] others pair k x a is h = absurd (none-some x is)
same_arc (y ∷ arcs) [] pair k x a is h = absurd a
same_arc (y ∷ arcs) (z ∷ others) pair zero x a is h =
    let same_arc : y ≡ x = same_Some y x is in
    ap (λ (b : Arc). Some b) (sym (a.0.1 (subst (λ (b : Arc). holds_pair b pair ≡ true) (sym same_arc) h)) ∙ same_arc)
same_arc (y ∷ arcs) (z ∷ others) pair (suc k) x a is h = same_arc arcs others pair k x a.1 is h

-- a row's arc holds the pair
row_held : (boxes : List SvPair) (arcs : List Arc) (base point : List ℤ) (signals : Signals) (scale pair k : ℕ) (d : Row) (p : PairRows) →
    ArePairRows (setting boxes arcs base point signals scale) pair p → slice_get p.rows k ≡ Some d → IsHeld arcs pair d.arc
row_held boxes arcs base point signals scale pair k d p rows is =
    held_number arcs pair k d.arc (ap (λ (xs : List ℕ). slice_get xs k) (sym rows.arcs) ∙ slice_get-map (λ (q : Row). q.arc) p.rows k ∙ ap (λ (o : Option Row). option_map (λ (q : Row). q.arc) o) is)

row_carried : (boxes : List SvPair) (arcs others : List Arc) (base point : List ℤ) (signals : Signals) (scale pair : ℕ) (group : ℤ) (r : Row) →
    AgreeAt pair arcs others → IsHeld arcs pair r.arc → IsRow (setting boxes arcs base point signals scale) pair group r → IsRow (setting boxes others base point signals scale) pair group r
row_carried boxes arcs others base point signals scale pair group r agree held row =
    let same : held.arc ≡ row.arc = same_Some held.arc row.arc (sym held.is ∙ row.arc_is) in
    record {
      arc = row.arc;
      arc_is = same_arc arcs others pair r.arc row.arc agree row.arc_is (subst (λ (a : Arc). holds_pair a pair ≡ true) same held.held);
      entry = row.entry;
      entry_is = row.entry_is;
      seen = row.seen;
      y = row.y;
      radius = row.radius;
      others = row.others;
      u = row.u;
      narrow = row.narrow;
    }

pub rows_carried : (boxes : List SvPair) (arcs others : List Arc) (base point : List ℤ) (signals : Signals) (scale pair : ℕ) (p : PairRows) →
    AgreeAt pair arcs others → ArePairRows (setting boxes arcs base point signals scale) pair p → ArePairRows (setting boxes others base point signals scale) pair p
rows_carried boxes arcs others base point signals scale pair p agree rows = record {
  number = rows.number;
  tag = rows.tag;
  arcs = rows.arcs ∙ sym (same_held arcs others 0 pair agree);
  rows = λ k d h. row_carried boxes arcs others base point signals scale pair p.group (get_or p.rows k d) agree
      (row_held boxes arcs base point signals scale pair k (get_or p.rows k d) p rows (slice_get-get_or p.rows k d h)) (rows.rows k d h);
  group = rows.group;
}
