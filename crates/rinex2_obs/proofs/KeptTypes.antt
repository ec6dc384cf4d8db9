-- The kept types of a list, name by name.
use Rattle.std.proofs.Common.{◌≡◌, ◌<◌, ◌≤◌, ◌+◌, ℕ, zero, suc, Bool, false, List, [], ◌∷◌, ◌++◌, length, drop, map, refl, sym, ◌∙◌, arith, get_or}
use Rattle.std.proofs.lemmas.List.{drop_more, ext_get_or}
use Rattle.std.proofs.Math.ListN.{get_or-map}
use Rattle.obs_store.specs.Kinds.{slot_count, kept_types}
use Rattle.obs_store.specs.declared.kinds.ObsType.{ObsType}
use Rattle.obs_store.specs.declared.kinds.ObsType.TheVariants.{C1C}
use Rattle.obs_fields.specs.declared.types.KeptType.{KeptType}
use Rattle.obs_fields.specs.Types.{kept_at}
use Rattle.rinex2_obs.specs.Profile.{kept_type_in, kept_from, is_among, listed_of}

-- the kept types from a number on
pub kept_more : (names : List (List ℕ)) (k n : ℕ) (d : List ℕ) → n < length names → kept_from k (drop n names) ≡ kept_at k (kept_type_in (get_or names n d)) ++ kept_from (k + 1) (drop (n + 1) names)
unfolding kept_from
kept_more names k n d less = rw (drop_more names n d) refl

pub kept_done : (names : List (List ℕ)) (k n : ℕ) → length names ≤ n → kept_from k (drop n names) ≡ []
unfolding kept_from
kept_done [] k n none = nothing n
  where
    nothing : (n : ℕ) → kept_from k (drop n []) ≡ []
    nothing zero = refl
    nothing (suc n) = refl
kept_done (name ∷ names) k zero none = absurd (omega arith)
kept_done (name ∷ names) k (suc n) none = kept_done names k n (omega arith)

-- what is listed, kind by kind
pub listed_is : (kept : List KeptType) (listed : List Bool) → length listed ≡ slot_count
    → ((i : ℕ) → i < slot_count → get_or listed i false ≡ is_among kept (get_or kept_types i C1C)) → listed ≡ listed_of kept
unfolding listed_of
listed_is kept listed same each =
    let is_kept : ObsType → Bool = λ kind. is_among kept kind in
    ext_get_or (is_kept C1C) listed (map is_kept kept_types) same (λ i less.
    let below : i < slot_count = omega arith in
    inside listed i false (is_kept C1C) less ∙ each i below ∙ sym (get_or-map is_kept kept_types i C1C))
  where
    inside : (l : List Bool) (i : ℕ) (d e : Bool) → i < length l → get_or l i e ≡ get_or l i d
    inside [] i d e less = absurd (omega arith)
    inside (x ∷ xs) zero d e less = refl
    inside (x ∷ xs) (suc i) d e less = inside xs i d e (omega arith)
