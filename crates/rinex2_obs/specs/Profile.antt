-- Which types of a list are kept, and as which ones.
use Rattle.std.specs.Prelude.{ℕ, ◌+◌, ◌==◌, Bool, List, [], ◌∷◌, ◌++◌, map, codes, None, Some, if◌then◌else◌}
use Rattle.std.specs.declared.option.Option.{Option}
use Rattle.std.specs.List.{list_any}
use Rattle.std.specs.Str.{bytes_eq}
use Rattle.obs_store.specs.declared.kinds.ObsType.{ObsType}
use Rattle.obs_store.specs.declared.kinds.ObsType.TheVariants.{C1C, L1C, C2W, L2W, C5X, L5X}
use Rattle.obs_store.specs.Kinds.{kept_types, slot_of}
use Rattle.obs_fields.specs.declared.types.KeptType.{KeptType}
use Rattle.obs_fields.specs.Types.{kept_at}

-- The profile of the codes of RINEX 2, each with a blank after it. A code on L1 is the civil one, one on L2 that of P(Y);
-- L2 is of P(Y) whichever way it was tracked. P1 and C2 aren't kept.
abbrev pub kept_type_in : List ℕ → Option ObsType
kept_type_in name =
    if bytes_eq name (codes "C1 ") then Some C1C else
    (if bytes_eq name (codes "L1 ") then Some L1C else
    (if bytes_eq name (codes "P2 ") then Some C2W else
    (if bytes_eq name (codes "L2 ") then Some L2W else
    (if bytes_eq name (codes "C5 ") then Some C5X else
    (if bytes_eq name (codes "L5 ") then Some L5X else None)))))

-- the kept types of a list that begins with this number, each with its number
unfoldable pub kept_from : ℕ → List (List ℕ) → List KeptType
kept_from number [] = []
kept_from number (name ∷ names) = kept_at number (kept_type_in name) ++ kept_from (number + 1) names

abbrev pub kept_of : List (List ℕ) → List KeptType
kept_of types = kept_from 0 types

abbrev pub is_among : List KeptType → ObsType → Bool
is_among kept kind = list_any (λ k. slot_of k.kind == slot_of kind) kept

-- whether each type is among the kept ones, in the order of the slots
unfoldable pub listed_of : List KeptType → List Bool
listed_of kept = map (λ kind. is_among kept kind) kept_types
