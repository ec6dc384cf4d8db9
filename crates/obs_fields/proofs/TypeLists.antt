-- Lists of types, name by name.
use Rattle.std.proofs.Common.{◌≡◌, ◌<◌, ◌≤◌, ◌+◌, ◌-◌, ℕ, zero, suc, Bool, true, false, List, [], ◌∷◌, ◌++◌, length, drop, map, Ok, refl, sym, ◌∙◌, arith, get_or}
use Rattle.std.proofs.lemmas.List.{drop_more}
use Rattle.std.proofs.Math.ListN.{get_or-map}
use Rattle.std.proofs.lemmas.List.{ext_get_or}
use Rattle.obs_store.specs.Kinds.{slot_count, kept_types}
use Rattle.obs_store.specs.declared.kinds.ObsType.{ObsType}
use Rattle.obs_store.specs.declared.kinds.ObsType.TheVariants.{C1C}
use Rattle.rinex_head.specs.declared.place.What.TheVariants.{Types}
use Rattle.rinex_head.specs.Places.{flawed}
use Rattle.rinex_head.specs.declared.system.System.{System}
use Rattle.obs_fields.specs.declared.layout.Layout.{Layout}
use Rattle.obs_fields.specs.declared.layout.Layout.TheVariants.{Rinex2, Rinex3}
use Rattle.obs_fields.specs.Layouts.{first_name_of, name_step_of, names_in_line_of, name_in}
use Rattle.obs_fields.specs.Types.{is_listed, is_kept_name, names_from, kept_type_in, kept_at, kept_from, listed_of}

-- a name that is listed already
pub names_again : (layout : Layout) (line : List ℕ) (first n : ℕ) (names : List (List ℕ)) → 0 < n → is_listed names (name_in layout line first) ≡ true
    → names_from layout line first n names ≡ flawed first Types
unfolding names_from
names_again layout line first zero names some is = absurd (omega arith)
names_again layout line first (suc n) names some is = rw is refl

-- a name that isn't
pub names_more : (layout : Layout) (line : List ℕ) (first n : ℕ) (names : List (List ℕ)) → 0 < n → is_listed names (name_in layout line first) ≡ false
    → names_from layout line first n names ≡ names_from layout line (first + name_step_of layout) (n - 1) (names ++ name_in layout line first ∷ [])
unfolding names_from
names_more layout line first zero names some is = absurd (omega arith)
names_more layout line first (suc n) names some is =
    let one_less : suc n - 1 ≡ n = omega arith in
    rw (is, one_less) refl

-- no name is due
pub names_done : (layout : Layout) (line : List ℕ) (first n : ℕ) (names : List (List ℕ)) → n ≤ 0 → names_from layout line first n names ≡ Ok names
unfolding names_from
names_done layout line first zero names none = refl
names_done layout line first (suc n) names none = absurd (omega arith)

-- where names begin
pub first_name-low : (layout : Layout) → 1 ≤ first_name_of layout
first_name-low Rinex2 = omega arith
first_name-low Rinex3 = omega arith

pub first_name-high : (layout : Layout) → first_name_of layout ≤ 11
first_name-high Rinex2 = omega arith
first_name-high Rinex3 = omega arith

pub name_step-high : (layout : Layout) → name_step_of layout ≤ 6
name_step-high Rinex2 = omega arith
name_step-high Rinex3 = omega arith

pub names_in_line-high : (layout : Layout) → names_in_line_of layout ≤ 13
names_in_line-high Rinex2 = omega arith
names_in_line-high Rinex3 = omega arith

-- the kept types from a number on
pub kept_more : (system : System) (names : List (List ℕ)) (k n : ℕ) (d : List ℕ) → n < length names
    → kept_from system k (drop n names) ≡ kept_at k (kept_type_in system (get_or names n d)) ++ kept_from system (k + 1) (drop (n + 1) names)
unfolding kept_from
kept_more system names k n d less = rw (drop_more names n d) refl

pub kept_done : (system : System) (names : List (List ℕ)) (k n : ℕ) → length names ≤ n → kept_from system k (drop n names) ≡ []
unfolding kept_from
kept_done system [] k n none = nothing n
  where
    nothing : (n : ℕ) → kept_from system k (drop n []) ≡ []
    nothing zero = refl
    nothing (suc n) = refl
kept_done system (name ∷ names) k zero none = absurd (omega arith)
kept_done system (name ∷ names) k (suc n) none = kept_done system names k n (omega arith)

-- what is listed, kind by kind
pub listed_is : (system : System) (names : List (List ℕ)) (listed : List Bool) → length listed ≡ slot_count
    → ((i : ℕ) → i < slot_count → get_or listed i false ≡ is_kept_name system names (get_or kept_types i C1C)) → listed ≡ listed_of system names
unfolding listed_of
listed_is system names listed same each =
    let is_kept : ObsType → Bool = λ kind. is_kept_name system names kind in
    ext_get_or (is_kept C1C) listed (map is_kept kept_types) same (λ i less.
    let below : i < slot_count = omega arith in
    inside listed i false (is_kept C1C) less ∙ each i below ∙ sym (get_or-map is_kept kept_types i C1C))
  where
    inside : (l : List Bool) (i : ℕ) (d e : Bool) → i < length l → get_or l i e ≡ get_or l i d
    inside [] i d e less = absurd (omega arith)
    inside (x ∷ xs) zero d e less = refl
    inside (x ∷ xs) (suc i) d e less = inside xs i d e (omega arith)
