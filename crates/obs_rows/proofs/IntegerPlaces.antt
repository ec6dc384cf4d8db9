-- The places of the integers, and what the coefficients there give.
use Rattle.std.proofs.Common.{◌≡◌, ℕ, zero, suc, ◌+◌, ◌*◌, ◌<◌, ◌≤◌, Bool, true, false, cond, Option, Some, None, List, [], ◌∷◌, length, take, set, count_by, ℤ, pos, ◌+ℤ◌, ◌*ℤ◌, arith}
use Rattle.std.proofs.Common.{◌∙◌, ap, refl, length-set, get_or, lit≤, lit<, not, sym, ap₂}
use Rattle.std.specs.Prelude.{slice_get, position, ◌==◌}
use Rattle.std.specs.Option.{option_map}
use Rattle.std.proofs.lemmas.List.Elements.{All-from_recursion}
use Rattle.std.proofs.lemmas.Option.{slice_get-get_or, slice_get_within, get_or_from_slice_get, none-some, same_Some}
use Rattle.std.proofs.lemmas.List.Quantifiers.{position-Some}
use Rattle.std.proofs.lemmas.List.Sums.{count_by_more_yes, sum_by-take-le, count_by-le-length}
use Rattle.std.proofs.lemmas.Bool.{false≢true}
use Rattle.std.proofs.Math.Nat.{mul-le-mul_left}
use Rattle.whole_math.specs.Vectors.{dot, zeros, len}
use Rattle.whole_math.proofs.Vectors.{len_is, dot_zeros}
use Rattle.whole_math.proofs.Ring.{◌⊕◌, ◌⊗◌}
use Rattle.whole_math.proofs.Inequalities.{same_by, nat}
use Rattle.quadratic_form.proofs.MatrixEntries.{length_zeros}
use Rattle.obs_rows.specs.declared.arcs.Arc.{Arc}
use Rattle.obs_rows.specs.Arcs.{is_free, free_count, free_before}
use Rattle.obs_rows.specs.declared.units.TheConstants.{SIGNALS, SIGNALS_12, SIGNALS_15, SIGNALS_125, COARSE_SIGNALS}
use Rattle.obs_rows.specs.declared.bands.Signals.{Signals}
use Rattle.obs_rows.specs.Signals.{phases, fine_signals, counted}
use Rattle.obs_rows.specs.CountedSignals.{AreCounted}
use Rattle.obs_rows.specs.Integers.{integer_count, integer_place, is_some_free, entry_at}
use Rattle.obs_rows.specs.SignalGroups.{only_at}

-- ---- the places
pub free_before_le : (arcs : List Arc) (k : ℕ) → free_count (take k arcs) ≤ free_count arcs
free_before_le arcs k = sum_by-take-le (λ (x : Arc). cond (is_free x) 1 0) arcs k

pub free_before_below : (arcs : List Arc) (k : ℕ) (a : Arc) → slice_get arcs k ≡ Some a → is_free a ≡ true → free_before arcs k + 1 ≤ free_count arcs
free_before_below arcs k a e f =
    let inside : k < length arcs = slice_get_within arcs k a e in
    let here : is_free (get_or arcs k a) ≡ true = ap is_free (get_or_from_slice_get arcs k a a e) ∙ f in
    let more : count_by is_free (take (k + 1) arcs) ≡ count_by is_free (take k arcs) + 1 = count_by_more_yes is_free arcs k a inside here in
    let below : count_by is_free (take (k + 1) arcs) ≤ count_by is_free arcs = sum_by-take-le (λ (x : Arc). cond (is_free x) 1 0) arcs (k + 1) in
    omega arith

from_cond : (b : Bool) (q : Option ℕ) (i : ℕ) → cond b q None ≡ Some i → (b ≡ true) × (q ≡ Some i)
from_cond true q i e = (refl, e)
from_cond false q i e = absurd (none-some i e)

from_map : (f : ℕ → ℕ) (p : Option ℕ) (i : ℕ) → option_map f p ≡ Some i → (j : ℕ) × (p ≡ Some j) × (f j ≡ i)
from_map f (Some j) i e = (j, refl, same_Some (f j) i e)
from_map f None i e = absurd (none-some i e)

some_free : (o : Option Arc) → is_some_free o ≡ true → (a : Arc) × (o ≡ Some a) × (is_free a ≡ true)
some_free (Some a) e = (a, refl, e)
some_free None e = absurd (false≢true e)

-- each place is one of the vector's
pub place_below : (arcs : List Arc) (ss : List ℕ) (k s i : ℕ) → integer_place arcs ss k s ≡ Some i → i < integer_count arcs ss
place_below arcs ss k s i e =
    let is_placed = from_cond (is_some_free (slice_get arcs k)) (option_map (λ (j : ℕ). (length (phases ss) * free_before arcs k) + j) (position (λ (t : ℕ). t == s) (phases ss))) i e in
    let free_arc = some_free (slice_get arcs k) is_placed.0 in
    let phase_place = from_map (λ (j : ℕ). (length (phases ss) * free_before arcs k) + j) (position (λ (t : ℕ). t == s) (phases ss)) i is_placed.1 in
    let inside : phase_place.0 < length (phases ss) = (position-Some (λ (t : ℕ). t == s) (phases ss) phase_place.0 0 phase_place.1).0 in
    let free : free_before arcs k + 1 ≤ free_count arcs = free_before_below arcs k free_arc.0 free_arc.1 free_arc.2 in
    let all : (length (phases ss) * (free_before arcs k + 1)) ≤ (length (phases ss) * free_count arcs) = mul-le-mul_left (length (phases ss)) free in
    below (length (phases ss)) (free_before arcs k) (free_count arcs) phase_place.0 i inside all phase_place.2
  where
    below : (m f n j i : ℕ) → j < m → (m * (f + 1)) ≤ (m * n) → (m * f) + j ≡ i → i < m * n
    below m f n j i h g e = omega arith

pub place_within : (arcs : List Arc) (ss : List ℕ) (k s j m f : ℕ) (d : Arc) → k < length arcs → (get_or arcs k d).datum ≡ false → position (λ t. t == s) (phases ss) ≡ Some j →
    m ≡ length (phases ss) → f ≡ free_before arcs k → (m * f) + j < integer_count arcs ss
place_within arcs ss k s j m f d inside free at em ef =
    let there : slice_get arcs k ≡ Some (get_or arcs k d) = slice_get-get_or arcs k d inside in
    let integer_place_is : integer_place arcs ss k s ≡ Some ((m * f) + j) =
    ap (λ (o : Option Arc). cond (is_some_free o) (option_map (λ i. (length (phases ss) * free_before arcs k) + i) (position (λ t. t == s) (phases ss))) None) there
    ∙ ap (λ (b : Bool). cond (not b) (option_map (λ i. (length (phases ss) * free_before arcs k) + i) (position (λ t. t == s) (phases ss))) None) free
    ∙ ap (λ (o : Option ℕ). option_map (λ i. (length (phases ss) * free_before arcs k) + i) o) at
    ∙ ap₂ (λ (x y : ℕ). Some ((x * y) + j)) (sym em) (sym ef) in
    place_below arcs ss k s ((m * f) + j) integer_place_is

-- ---- coefficients that are 0 but at one place

pub len_only_at : (n : ℕ) (p : Option ℕ) (c : ℤ) → len (only_at n p c) ≡ pos n
len_only_at n (Some i) c = len_is (set (zeros n) i c) ∙ ap pos (length-set (zeros n) i c ∙ length_zeros n)
len_only_at n None c = len_is (zeros n) ∙ ap pos (length_zeros n)

times_zero : (c : ℤ) → pos 0 ≡ c *ℤ pos 0
times_zero c = same_by (c ∷ []) (λ c. (nat 0, c ⊗ nat 0)) refl

dot_set : (n i : ℕ) (c : ℤ) (z : List ℤ) → i < n → dot (set (zeros n) i c) z ≡ c *ℤ get_or z i (pos 0)
dot_set zero i c z h = let impossible : ⊥ = omega arith in absurd impossible
dot_set (suc n) zero c [] h = times_zero c
dot_set (suc n) zero c (x ∷ z) h = ap (λ (w : ℤ). (c *ℤ x) +ℤ w) (dot_zeros n z) ∙ same_by (c ∷ x ∷ []) (λ c x. (c ⊗ x ⊕ nat 0, c ⊗ x)) refl
dot_set (suc n) (suc i) c [] h = times_zero c
dot_set (suc n) (suc i) c (x ∷ z) h = ap (λ (w : ℤ). (pos 0 *ℤ x) +ℤ w) (dot_set n i c z (omega arith)) ∙ same_by (c ∷ get_or z i (pos 0) ∷ x ∷ []) (λ c w x. (nat 0 ⊗ x ⊕ c ⊗ w, c ⊗ w)) refl

pub dot_only_at : (n : ℕ) (p : Option ℕ) (c : ℤ) (z : List ℤ) → ((i : ℕ) → p ≡ Some i → i < n) → dot (only_at n p c) z ≡ c *ℤ entry_at z p
dot_only_at n (Some i) c z h = dot_set n i c z (h i refl)
dot_only_at n None c z h = dot_zeros n z ∙ times_zero c

-- ---- sizes
three_lists : (P : List ℕ → Type 0) → P SIGNALS_12 → P SIGNALS_15 → P SIGNALS_125 → P COARSE_SIGNALS → (signals : Signals) (scale : ℕ) → P (counted signals scale)
three_lists P a b d c signals scale = by_scale (scale == 0)
  where
    by_l2 : (unused : Bool) → P (cond unused SIGNALS_15 SIGNALS_125)
    by_l2 true = b
    by_l2 false = d

    by_l5 : (unused : Bool) → P (cond unused SIGNALS_12 (cond (signals.l2 == 0) SIGNALS_15 SIGNALS_125))
    by_l5 true = a
    by_l5 false = by_l2 (signals.l2 == 0)

    by_scale : (fine : Bool) → P (cond fine (fine_signals signals) COARSE_SIGNALS)
    by_scale true = by_l5 (signals.l5 == 0)
    by_scale false = c

-- what counts are some of the six signals, at most three of them phases
pub counted_are : (signals : Signals) (scale : ℕ) → AreCounted (counted signals scale)
counted_are = three_lists AreCounted
    (record { few = lit≤ tt; small = All-from_recursion (λ s. s < SIGNALS) SIGNALS_12 (lit< tt, (lit< tt, (lit< tt, (lit< tt, tt)))); phases_few = lit≤ tt })
    (record { few = lit≤ tt; small = All-from_recursion (λ s. s < SIGNALS) SIGNALS_15 (lit< tt, (lit< tt, (lit< tt, (lit< tt, tt)))); phases_few = lit≤ tt })
    (record { few = lit≤ tt; small = All-from_recursion (λ s. s < SIGNALS) SIGNALS_125 (lit< tt, (lit< tt, (lit< tt, (lit< tt, (lit< tt, (lit< tt, tt)))))); phases_few = lit≤ tt })
    (record { few = lit≤ tt; small = All-from_recursion (λ s. s < SIGNALS) COARSE_SIGNALS (lit< tt, tt); phases_few = lit≤ tt })

pub free_le_length : (arcs : List Arc) → free_count arcs ≤ length arcs
free_le_length arcs = count_by-le-length is_free arcs
