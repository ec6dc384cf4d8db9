-- The fronts of the rows of pairs, each pair by itself.
use Rattle.std.specs.Prelude.{ℕ, ◌<◌, List, [], ◌∷◌, length, ℤ, get_or}
use Rattle.std.specs.List.{AllZip}
use Rattle.quadratic_form.specs.Lowering.{IsExponent}
use Rattle.obs_rows.specs.declared.arcs.Arc.{Arc}
use Rattle.obs_rows.specs.declared.pair_rows.PairRows.{PairRows}
use Rattle.quadratic_form.specs.Tables.{entry}
use Rattle.normal_sum.specs.declared.normal.Normal.{Normal}
use Rattle.normal_sum.specs.Normals.{IsNormalOf}
use Rattle.normal_sum.specs.Values.{form_of}
use Rattle.integer_form.specs.declared.front_form.FrontForm.{FrontForm}
use Rattle.integer_form.specs.declared.faults.LowerFault.{LowerFault}
use Rattle.integer_form.specs.ReportedRefusals.{IsReportedAs}
use Rattle.integer_form.specs.FloatPoint.{baseline_at}
use Rattle.lower_form.specs.Forms.{IsFrontOf}
use Rattle.lower_form.specs.Fronts.{front_of}
use Rattle.track_form.specs.Fronts.{Front}

-- the front of the normal matrix of a pair's rows
pub record IsFrontOfPair (arcs : List Arc) (signals : List ℕ) (p : PairRows) (f : FrontForm) : Type 0 where
  pub normal : Normal
  pub of_rows : IsNormalOf arcs signals (p ∷ []) normal
  pub front : IsFrontOf normal f

-- that matrix, over the least power of 2 that serves, has no front, for this reason
pub record IsRefusedPair (arcs : List Arc) (signals : List ℕ) (p : PairRows) (fault : LowerFault) : Type 0 where
  pub normal : Normal
  pub of_rows : IsNormalOf arcs signals (p ∷ []) normal
  pub h : ℕ
  pub exponent : IsExponent h (form_of normal)
  pub reported : IsReportedAs fault (front_of h normal)

abbrev pub HasFront : List Arc → List ℕ → PairRows → Type 0
HasFront arcs signals p = (f : FrontForm) × IsFrontOfPair arcs signals p f

abbrev pub AreFronts : List Arc → List ℕ → List PairRows → List FrontForm → Type 0
AreFronts arcs signals pairs fs = AllZip (IsFrontOfPair arcs signals) pairs fs

-- of the pairs that have no front, the first has none for this reason
pub record IsFirstRefused (arcs : List Arc) (signals : List ℕ) (pairs : List PairRows) (fault : LowerFault) : Type 0 where
  pub place : ℕ
  pub inside : place < length pairs
  pub refused : (d : PairRows) → IsRefusedPair arcs signals (get_or pairs place d) fault
  pub before : (k : ℕ) → k < place → (d : PairRows) → HasFront arcs signals (get_or pairs k d)

-- a front by its exponent and the entries of its form
abbrev pub brief : FrontForm → Front
brief f = record { h = f.h; at = entry f.p }

-- the baseline of a pair at the integers z, as a move in 2^-5 ι
abbrev pub move_at : List ℤ → FrontForm → List ℤ
move_at z f = baseline_at f.d f.l f.columns z
