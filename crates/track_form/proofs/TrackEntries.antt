-- The entries of a track's form: what each pair adds, and the table that holds the sums.
use Rattle.std.proofs.Common.{◌≡◌, ⊎_elim, ℕ, zero, suc, ◌+◌, ◌<◌, ◌≤◌, Bool, true, false, List, [], ◌∷◌, length, drop, get_or, All, nat_eq, cond, ℤ, pos, ◌-ℤ◌, arith, sym, ap, ap₂, ◌∙◌, refl, subst, zero-add, eq-or-lt_of_le}
use Rattle.whole_math.specs.Rounding.{floor_div, nearest_div}
use Rattle.whole_math.proofs.Ring.{◌⊖◌, ◌⊗◌}
use Rattle.whole_math.proofs.Inequalities.{same_by, nat}
use Rattle.quadratic_form.specs.Forms.{Column}
use Rattle.quadratic_form.specs.LowerSums.{SmallForm}
use Rattle.quadratic_form.specs.Places.{list_from, form_from}
use Rattle.quadratic_form.specs.Tables.{entry}
use Rattle.integer_form.specs.Kept.{form_of_table}
use Rattle.elimination.proofs.TableLaws.{form_moved}
use Rattle.elimination.proofs.FinishLaws.{small_form}
use Rattle.track_form.specs.Fronts.{Front, own_entry, other_entry, track_entry, track_form, AreExponents, IsSmallFront}
use Rattle.track_form.specs.Parts.{part_at}
use Rattle.track_form.proofs.Sizes.{entry_small}
use Rattle.obs_rows.specs.declared.limits.TheConstants.{MOST_PAIRS}

-- ---- equal forms have equal entries

list_entry : (f g : ℕ → ℤ) (j k : ℕ) → list_from f j k ≡ list_from g j k → (c : ℕ) → j ≤ c → c < j + k → f c ≡ g c
list_entry f g j zero e c a b = absurd (omega arith)
list_entry f g j (suc k) e c a b = ⊎_elim (λ (i : j ≡ c). subst (λ (m : ℕ). f m ≡ g m) i (ap (λ (s : List ℤ). get_or s 0 (pos 0)) e))
    (λ (i : suc j ≤ c). list_entry f g (suc j) k (ap (λ (s : List ℤ). drop 1 s) e) c i (omega arith)) (eq-or-lt_of_le a)

form_entry : (d e : ℕ → ℕ → ℤ) (j k : ℕ) → form_from d j k ≡ form_from e j k → (r c : ℕ) → j ≤ r → r ≤ c → c < j + k → d r c ≡ e r c
form_entry d e j zero h r c a b l = absurd (omega arith)
form_entry d e j (suc k) h r c a b l = ⊎_elim (λ (i : j ≡ r). subst (λ (m : ℕ). d m c ≡ e m c) i (first (subst (λ (m : ℕ). m ≤ c) (sym i) b)))
    (λ (i : suc j ≤ r). form_entry d e (suc j) k (ap (λ (q : List Column). drop 1 q) h) r c i b (omega arith)) (eq-or-lt_of_le a)
  where
    nothing : Column
    nothing = record { own = pos 0; others = [] }

    own : d j j ≡ e j j
    own = ap (λ (q : List Column). (get_or q 0 nothing).own) h

    others : list_from (d j) (suc j) k ≡ list_from (e j) (suc j) k
    others = ap (λ (q : List Column). (get_or q 0 nothing).others) h

    first : j ≤ c → d j c ≡ e j c
    first g = ⊎_elim (λ (i : j ≡ c). subst (λ (m : ℕ). d j m ≡ e j m) i own) (λ (i : suc j ≤ c). list_entry (d j) (e j) (suc j) k others c i (omega arith)) (eq-or-lt_of_le g)

-- so the forms of two tables add the same
pub part_same : (n m : ℕ) (p q : List (List ℤ)) → form_of_table p n ≡ form_of_table q n → (r c : ℕ) → r ≤ c → c < n → part_at n m (entry p) r c ≡ part_at n m (entry q) r c
part_same n m p q e r c l h = ap₂ (λ (x y : ℤ). cond (nat_eq r c) (floor_div x m -ℤ pos n) (nearest_div y m))
    (form_entry (entry p) (entry q) 0 n e r r (omega arith) (omega arith) (omega arith)) (form_entry (entry p) (entry q) 0 n e r c (omega arith) l (omega arith))

-- ---- the sums
-- of no pairs
pub none_entry : (n h r c : ℕ) → track_entry n h [] r c ≡ pos 0
none_entry n h r c = by_place (nat_eq r c)
  where
    by_place : (b : Bool) → cond b (own_entry n h [] r) (other_entry h [] r c) ≡ pos 0
    by_place true = same_by (pos n ∷ []) (λ n. (nat 0 ⊖ nat 0 ⊗ n, nat 0)) refl
    by_place false = refl

-- a table of the sums, after the baseline's columns
pub summed_form : (n h : ℕ) (fs : List Front) (t : List (List ℤ)) → ((r c : ℕ) → r ≤ c → c < n → entry t (3 + r) (3 + c) ≡ track_entry n h fs r c) → form_from (entry t) 3 n ≡ track_form n h fs
summed_form n h fs t same = form_moved (entry t) (track_entry n h fs) 3 0 n (λ r c l b. same r c l b ∙ sym (ap₂ (λ i j. track_entry n h fs i j) (zero-add r) (zero-add c)))

pub small_track : (n e h : ℕ) (fs : List Front) → 1 ≤ length fs → length fs ≤ MOST_PAIRS → n ≤ 61 → AreExponents fs e h → All IsSmallFront fs → SmallForm (track_form n h fs)
small_track n e h fs some few columns exponents small = small_form (track_entry n h fs) 0 n (entry_small n e h fs some few columns exponents small)
