-- The kept observation types: their names, and the slots of their values.
use Rattle.std.specs.Prelude.{ℕ, List, [], ◌∷◌, codes, find}
use Rattle.std.specs.Str.{bytes_eq}
use Rattle.std.specs.declared.option.Option.{Option}
use Rattle.obs_store.specs.declared.kinds.ObsType.{ObsType}
use Rattle.obs_store.specs.declared.kinds.ObsType.TheVariants.{C1C, C1W, C1X, C1S, C1L, L1C, L1W, L1X, L1S, L1L, C2W, C2X, C2L, C2S, C2C, L2W, L2X, L2L, L2S, L2C, C5Q, C5X, C5I, L5Q, L5X, L5I}

-- how many there are
abbrev pub slot_count : ℕ
slot_count = 26

-- the kept types in the order of their slots
abbrev pub kept_types : List ObsType
kept_types = C1C ∷ C1W ∷ C1X ∷ C1S ∷ C1L ∷ L1C ∷ L1W ∷ L1X ∷ L1S ∷ L1L ∷ C2W ∷ C2X ∷ C2L ∷ C2S ∷ C2C ∷ L2W ∷ L2X ∷ L2L ∷ L2S ∷ L2C ∷ C5Q ∷ C5X ∷ C5I ∷ L5Q ∷ L5X ∷ L5I ∷ []

abbrev pub name_of : ObsType → List ℕ
name_of C1C = codes "C1C"
name_of C1W = codes "C1W"
name_of C1X = codes "C1X"
name_of C1S = codes "C1S"
name_of C1L = codes "C1L"
name_of L1C = codes "L1C"
name_of L1W = codes "L1W"
name_of L1X = codes "L1X"
name_of L1S = codes "L1S"
name_of L1L = codes "L1L"
name_of C2W = codes "C2W"
name_of C2X = codes "C2X"
name_of C2L = codes "C2L"
name_of C2S = codes "C2S"
name_of C2C = codes "C2C"
name_of L2W = codes "L2W"
name_of L2X = codes "L2X"
name_of L2L = codes "L2L"
name_of L2S = codes "L2S"
name_of L2C = codes "L2C"
name_of C5Q = codes "C5Q"
name_of C5X = codes "C5X"
name_of C5I = codes "C5I"
name_of L5Q = codes "L5Q"
name_of L5X = codes "L5X"
name_of L5I = codes "L5I"

-- the kept type of that name
abbrev pub kept_type_of : List ℕ → Option ObsType
kept_type_of name = find (λ t. bytes_eq (name_of t) name) kept_types

-- the place of the type's value among the values of a satellite
abbrev pub slot_of : ObsType → ℕ
slot_of C1C = 0
slot_of C1W = 1
slot_of C1X = 2
slot_of C1S = 3
slot_of C1L = 4
slot_of L1C = 5
slot_of L1W = 6
slot_of L1X = 7
slot_of L1S = 8
slot_of L1L = 9
slot_of C2W = 10
slot_of C2X = 11
slot_of C2L = 12
slot_of C2S = 13
slot_of C2C = 14
slot_of L2W = 15
slot_of L2X = 16
slot_of L2L = 17
slot_of L2S = 18
slot_of L2C = 19
slot_of C5Q = 20
slot_of C5X = 21
slot_of C5I = 22
slot_of L5Q = 23
slot_of L5X = 24
slot_of L5I = 25
