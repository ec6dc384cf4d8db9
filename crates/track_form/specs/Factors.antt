-- What is kept of the fronts of pairs, and the baselines that it gives.
use Rattle.std.specs.Prelude.{◌≡◌, ℕ, List, ℤ}
use Rattle.std.specs.List.{AllZip}
use Rattle.obs_rows.specs.declared.arcs.Arc.{Arc}
use Rattle.obs_rows.specs.declared.pair_rows.PairRows.{PairRows}
use Rattle.integer_form.specs.declared.front_form.FrontForm.{FrontForm}
use Rattle.integer_form.specs.FloatPoint.{baseline_at}
use Rattle.track_form.specs.declared.factors.PairFactors.{PairFactors}
use Rattle.track_form.specs.PairFronts.{IsFrontOfPair}

-- the baseline at the integers z, as a move in 2^-5 ι
abbrev pub move_by : List ℤ → PairFactors → List ℤ
move_by z k = baseline_at k.d k.l k.columns z

-- of the front of the pair's rows
pub record AreOfPair (arcs : List Arc) (signals : List ℕ) (p : PairRows) (k : PairFactors) : Type 0 where
  pub front : FrontForm
  pub is : IsFrontOfPair arcs signals p front
  pub columns : k.columns ≡ front.columns
  pub d : k.d ≡ front.d
  pub l : k.l ≡ front.l

abbrev pub AreFactors : List Arc → List ℕ → List PairRows → List PairFactors → Type 0
AreFactors arcs signals pairs ks = AllZip (AreOfPair arcs signals) pairs ks
