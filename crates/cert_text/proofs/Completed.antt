-- A certificate for each head and each beginning of a list of arcs: one pair with one row, all of 0, and a tail of one line.
use Rattle.std.proofs.Common.{◌≡◌, ◌+◌, ◌-◌, ◌^◌, ◌<◌, ◌≤◌, ◌⊎◌, inl, inr, ℕ, ℤ, zero, suc, pos, nat_lt, Bool, true, false, List, [], ◌∷◌, ◌++◌, length, replicate, All, refl, sym, ap, subst, arith, lit≤, length-append, append_assoc, unsigned_abs}
use Rattle.std.proofs.lemmas.Int.{ints}
use Rattle.std.proofs.lemmas.Bool.Decides.{nat_tests}
use Rattle.std.proofs.lemmas.List.{append-nil}
use Rattle.std.proofs.lemmas.List.Elements.{All-nil, All-cons, All-head, All-push, All-replicate}
use Rattle.std.proofs.lemmas.Bool.{or_right}
use Rattle.quadratic_form.proofs.TableLaws.{zero_item}
use Rattle.integer_form.specs.declared.faults.Place.TheVariants.{Y}
use Rattle.obs_rows.specs.declared.arcs.Arc.{Arc}
use Rattle.obs_rows.specs.declared.rows.Row.{Row}
use Rattle.obs_rows.specs.declared.bands.Signals.{Signals}
use Rattle.obs_rows.specs.declared.pair_rows.PairRows.{PairRows}
use Rattle.obs_rows.specs.declared.sessions.Session.{Session}
use Rattle.obs_rows.specs.declared.units.TheConstants.{MOST_FREE_ARCS, SIGNALS, PHASES}
use Rattle.obs_rows.specs.Ranges.{IsWithin, IsBelow, IsRadius, IsPoint, IsSystem}
use Rattle.obs_rows.specs.Arcs.{IsOfPair, AreArcs, free_count}
use Rattle.obs_rows.specs.Pairs.{HasItsArcs}
use Rattle.obs_rows.specs.Unused.{IsZeroOff, HasUsedRows}
use Rattle.obs_rows.specs.Signals.{fine_signals}
use Rattle.obs_rows.specs.declared.limits.TheConstants.{MOST_PAIRS, MOST_RATIO, MOST_BUDGET, MOST_COORDINATE, MOST_ARCS}
use Rattle.cert_lines.specs.declared.version.Version.{Version}
use Rattle.cert_lines.specs.declared.version.Version.TheVariants.{One, Two}
use Rattle.cert_lines.specs.Versions.{most_sat, group_limit}
use Rattle.cert_lines.specs.Lengths.{IsWholeRow, IsWholePair}
use Rattle.cert_lines.specs.Forms.{arc_of, may_stand}
use Rattle.cert_text.specs.Parts.{free_by}
use Rattle.cert_text.proofs.ArcSteps.{free_push, few_stand, some_stand}
use Rattle.cert_data.specs.declared.certs.Cert.{Cert}
use Rattle.cert_data.specs.declared.tails.Tail.TheVariants.{Overwidth}
use Rattle.cert_text.specs.Lengths.{IsWhole}
use Rattle.cert_text.specs.Editions.{IsOfVersion}
use Rattle.cert_text.proofs.ReadBack.{IsArcOf}

-- ---- the head

-- a value of which something holds
pub record Fit {A : Type 0} (P : A → Type 0) : Type 0 where
  pub value : A
  pub is : P value

abbrev pub IsRatio : ℕ → Type 0
IsRatio n = (1000 ≤ n) × (n ≤ MOST_RATIO)

abbrev pub IsBudget : ℕ → Type 0
IsBudget n = (1 ≤ n) × (n ≤ MOST_BUDGET)

abbrev pub IsSystemOf : Version → ℕ → Type 0
IsSystemOf version s = IsSystem s × (version ≡ One → s ≡ 71)

abbrev pub IsWholePoint : List ℤ → Type 0
IsWholePoint p = IsPoint p × (length p ≡ 3)

abbrev pub AreSignalsOf : Version → Signals → Type 0
AreSignalsOf version s = version ≡ One → s.l5 ≡ 0

pub record Head (version : Version) : Type 0 where
  pub ratio : Fit IsRatio
  pub budget : Fit IsBudget
  pub system : Fit (IsSystemOf version)
  pub base : Fit IsWholePoint
  pub point : Fit IsWholePoint
  pub signals : Fit (AreSignalsOf version)

abbrev pub signals_of_head : {version : Version} → Head version → List ℕ
signals_of_head h = fine_signals h.signals.value

abbrev origin : Fit IsWholePoint
origin = record { value = replicate 3 (pos 0); is = (All-replicate (IsWithin MOST_COORDINATE) 3 (pos 0) (omega arith), refl) }

abbrev two_bands : Signals
two_bands = record { l1 = 67; l2 = 87; l5 = 0; on_l1 = refl; on_l2 = refl; on_l5 = refl; two_bands = refl }

-- one that any version has
abbrev pub any_head : (version : Version) → Head version
any_head version = record {
  ratio = record { value = 1000; is = (omega arith, omega arith) };
  budget = record { value = 1; is = (omega arith, omega arith) };
  system = record { value = 71; is = (refl, λ old. refl) };
  base = origin;
  point = origin;
  signals = record { value = two_bands; is = λ old. refl };
}

-- ---- arcs of which some are to come

-- these arcs, and the number of those that are to come
pub record AreBegun (version : Version) (ss : List ℕ) (left : ℕ) (arcs : List Arc) : Type 0 where
  pub some : 2 ≤ length arcs + left
  pub few : length arcs + left ≤ MOST_ARCS
  pub some_free : (1 ≤ left) ⊎ (1 ≤ free_count arcs)
  pub few_free : free_count arcs ≤ MOST_FREE_ARCS
  pub each : All (IsArcOf version ss) arcs

pub none_begun : (version : Version) (ss : List ℕ) (left : ℕ) → 2 ≤ left → left ≤ MOST_ARCS → AreBegun version ss left []
none_begun version ss left some few = record { some = omega arith; few = omega arith; some_free = inl (omega arith); few_free = omega arith; each = All-nil (IsArcOf version ss) }

-- one more
pub one_more : (version : Version) (ss : List ℕ) (left : ℕ) (arcs : List Arc) (a : Arc) → 1 ≤ left → AreBegun version ss left arcs → IsArcOf version ss a → may_stand (free_count arcs) left a.datum ≡ true
    → AreBegun version ss (left - 1) (arcs ++ a ∷ [])
one_more version ss left arcs a more begun is may =
    let sizes = length-append arcs (a ∷ []) in
    let pushed = free_push arcs a in
    let some = begun.some in
    let few = begun.few in
    let free = few_stand (free_count arcs) left a.datum may begun.few_free in
    record {
      some = omega (arith, sizes);
      few = omega (arith, sizes);
      some_free = by_free (some_stand (free_count arcs) left a.datum more may);
      few_free = omega (arith, pushed, free);
      each = All-push (IsArcOf version ss) arcs a begun.each is;
    }
  where
    by_free : (1 ≤ left - 1) ⊎ (1 ≤ free_count arcs + free_by a.datum) → (1 ≤ left - 1) ⊎ (1 ≤ free_count (arcs ++ a ∷ []))
    by_free (inl h) = inl h
    by_free (inr h) = inr (omega (arith, h, free_push arcs a))

abbrev plain_arc : Bool → Arc
plain_arc datum = arc_of datum 1 0 0 (replicate PHASES (pos 0))

plain_is : (version : Version) (ss : List ℕ) (datum : Bool) → IsArcOf version ss (plain_arc datum)
plain_is version ss datum = record {
  in_range = record { sat_from = lit≤ tt; sat_to = lit≤ tt; order = lit≤ tt; last_in = omega arith; shifts_in = All-replicate (IsBelow (2 ^ 40)) PHASES (pos 0) (omega arith) };
  sat = by_version version;
  used = λ k off. zero_item PHASES k;
  whole = refl;
}
  where
    by_version : (v : Version) → 1 ≤ most_sat v
    by_version One = omega arith
    by_version Two = omega arith

-- a datum may stand where one is free, and a free arc where none is
plain_stands : (free left : ℕ) → may_stand free left (nat_lt 0 free) ≡ true
plain_stands free left = by_test (nat_lt 0 free) refl
  where
    by_test : (t : Bool) → nat_lt 0 free ≡ t → may_stand free left t ≡ true
    by_test true is = or_right (nat_lt 1 left) (nat_lt 0 free) is
    by_test false is = let none : free < MOST_FREE_ARCS = grind (arith, nat_tests) in grind (arith, nat_tests, none)

pub record Filled (version : Version) (ss : List ℕ) (left : ℕ) (arcs : List Arc) : Type 0 where
  pub more : List Arc
  pub count : length more ≡ left
  pub whole : AreBegun version ss 0 (arcs ++ more)

pub filled : (version : Version) (ss : List ℕ) (left : ℕ) (arcs : List Arc) → AreBegun version ss left arcs → Filled version ss left arcs
filled version ss zero arcs begun = record { more = []; count = refl; whole = subst (AreBegun version ss 0) (sym (append-nil arcs)) begun }
filled version ss (suc left) arcs begun =
    let datum = nat_lt 0 (free_count arcs) in
    let arc = plain_arc datum in
    let fewer : suc left - 1 ≡ left = omega arith in
    let one = one_more version ss (suc left) arcs arc (omega arith) begun (plain_is version ss datum) (plain_stands (free_count arcs) (suc left)) in
    let later = filled version ss left (arcs ++ arc ∷ []) (subst (λ (n : ℕ). AreBegun version ss n (arcs ++ arc ∷ [])) fewer one) in
    record { more = arc ∷ later.more; count = ap suc later.count; whole = subst (AreBegun version ss 0) (append_assoc arcs (arc ∷ []) later.more) later.whole }

-- ---- one pair with one row, of the first arc

abbrev plain_row : Row
plain_row = record {
  arc = 0;
  y = replicate SIGNALS (pos 0);
  ry = pos 0;
  u = replicate 3 (pos 0);
  ru = replicate 3 (pos 0);
  y_in = All-replicate (IsWithin (2 ^ 34)) SIGNALS (pos 0) (omega arith);
  ry_in = (omega (arith, ints), omega (arith, ints));
  u_in = All-replicate (IsWithin (2 ^ 24)) 3 (pos 0) (omega arith);
  ru_in = All-replicate IsRadius 3 (pos 0) (omega (arith, ints), omega (arith, ints));
}

abbrev plain_pair : (number : ℕ) → number < MOST_PAIRS → PairRows
plain_pair number few = record {
  number = number;
  tag = record { 0 = 0 };
  group = pos 0;
  rows = plain_row ∷ [];
  number_in = few;
  tag_in = omega arith;
  group_in = omega arith;
  some_rows = omega arith;
  few_rows = omega arith;
  arcs_rise = λ i j d before inside. absurd (omega (arith, before, inside));
}

abbrev first_number : List Arc → ℕ
first_number [] = 0
first_number (a ∷ arcs) = a.first

pub number_few : (version : Version) (ss : List ℕ) (arcs : List Arc) → All (IsArcOf version ss) arcs → first_number arcs < MOST_PAIRS
number_few version ss [] each = omega arith
number_few version ss (a ∷ arcs) each =
    let sat_in_range = (All-head (IsArcOf version ss) a arcs each).in_range in
    let order = sat_in_range.order in
    let last = sat_in_range.last_in in
    omega arith

pub row_of_pair : (version : Version) (ss : List ℕ) (arcs : List Arc) → 1 ≤ length arcs → All (IsArcOf version ss) arcs → IsOfPair arcs (first_number arcs) plain_row
row_of_pair version ss [] some each = absurd (omega arith)
row_of_pair version ss (a ∷ arcs) some each =
    let order = (All-head (IsArcOf version ss) a arcs each).in_range.order in
    record {
      arc_in = some;
      from_first = λ b is. let same : a ≡ b = cc (is) in let first = ap (λ (x : Arc). x.first) same in omega (arith, first);
      to_last = λ b is. let same : a ≡ b = cc (is) in let last = ap (λ (x : Arc). x.last) same in omega (arith, last, order);
    }

-- what holds of one
pub All-one : {X : Type 0} (P : X → Type 0) (x : X) → P x → All P (x ∷ [])
All-one P x is = All-cons P x [] is (All-nil P)

-- ---- the whole

pub arcs_whole : (version : Version) (ss : List ℕ) (arcs : List Arc) → AreBegun version ss 0 arcs → AreArcs arcs
arcs_whole version ss arcs begun =
    let sizes = begun.some in
    let few = begun.few in
    record {
      some = omega arith;
      few = omega arith;
      some_free = by_free begun.some_free;
      few_free = begun.few_free;
      ranges = λ k d inside. (begun.each k d inside).in_range;
    }
  where
    by_free : (1 ≤ 0) ⊎ (1 ≤ free_count arcs) → 1 ≤ free_count arcs
    by_free (inl h) = absurd (omega (arith, h))
    by_free (inr h) = h

abbrev pub pairs_of : (version : Version) (ss : List ℕ) (arcs : List Arc) → AreBegun version ss 0 arcs → List PairRows
pairs_of version ss arcs begun = plain_pair (first_number arcs) (number_few version ss arcs begun.each) ∷ []

abbrev session_of : {version : Version} (h : Head version) (arcs : List Arc) → AreBegun version (signals_of_head h) 0 arcs → Session
session_of {version} h arcs begun = record {
  scale = 0;
  system = h.system.value;
  base = h.base.value;
  point = h.point.value;
  signals = h.signals.value;
  arcs = arcs;
  pairs = pairs_of version (signals_of_head h) arcs begun;
  scale_is = refl;
  system_is = h.system.is.0;
  base_in = h.base.is.0;
  point_in = h.point.is.0;
  arcs_in = arcs_whole version (signals_of_head h) arcs begun;
  some_pairs = omega arith;
  pairs_in = record {
    few = omega arith;
    rising = λ i j d before inside. absurd (omega (arith, before, inside));
    rows_have_arcs =
        All-one (HasItsArcs arcs) (plain_pair (first_number arcs) (number_few version (signals_of_head h) arcs begun.each))
        (All-one (IsOfPair arcs (first_number arcs)) plain_row (row_of_pair version (signals_of_head h) arcs (omega (arith, begun.some)) begun.each));
  };
  rows_used =
      All-one (HasUsedRows (signals_of_head h)) (plain_pair (first_number arcs) (number_few version (signals_of_head h) arcs begun.each))
      (All-one (λ (r : Row). IsZeroOff (signals_of_head h) r.y) plain_row (λ k off. zero_item SIGNALS k));
  shifts_used = λ k d inside. (begun.each k d inside).used;
}

abbrev pub cert_of : {version : Version} (h : Head version) (arcs : List Arc) → AreBegun version (signals_of_head h) 0 arcs → Cert
cert_of h arcs begun = record {
  ratio = h.ratio.value;
  budget = h.budget.value;
  session = session_of h arcs begun;
  tail = Overwidth Y;
  ratio_from = h.ratio.is.0;
  ratio_to = h.ratio.is.1;
  budget_from = h.budget.is.0;
  budget_to = h.budget.is.1;
  fine = refl;
  tail_fits = tt;
}

pub cert_whole : {version : Version} (h : Head version) (arcs : List Arc) (begun : AreBegun version (signals_of_head h) 0 arcs) → IsWhole (cert_of h arcs begun)
cert_whole {version} h arcs begun = record {
  session = record {
    base = h.base.is.1;
    point = h.point.is.1;
    arcs = λ k d inside. (begun.each k d inside).whole;
    pairs =
        All-one IsWholePair (plain_pair (first_number arcs) (number_few version (signals_of_head h) arcs begun.each))
        (All-one IsWholeRow plain_row (record { y = refl; u = refl; ru = refl }));
  };
  tail = tt;
}

pub cert_of_version : {version : Version} (h : Head version) (arcs : List Arc) (begun : AreBegun version (signals_of_head h) 0 arcs) → IsOfVersion version (cert_of h arcs begun)
cert_of_version {version} h arcs begun = record {
  system = h.system.is.1;
  bands = h.signals.is;
  sats = λ k d inside. (begun.each k d inside).sat;
  groups =
      All-one (λ (p : PairRows). unsigned_abs p.group < group_limit version) (plain_pair (first_number arcs) (number_few version (signals_of_head h) arcs begun.each))
      (by_version version);
  column = tt;
}
  where
    by_version : (v : Version) → 0 < group_limit v
    by_version One = omega arith
    by_version Two = omega arith
