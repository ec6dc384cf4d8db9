-- How two vectors with their values stand in order.
use Rattle.std.specs.Prelude.{◌≡◌, ◌⊎◌, List, ℤ, ◌<ℤ◌}
use Rattle.std.specs.declared.cmp.Ordering.{Ordering}
use Rattle.std.specs.declared.cmp.Ordering.TheVariants.{Less, Equal, Greater}
use Rattle.quadratic_form.specs.TwoLeast.{Before}

-- the order of v and w by entries
abbrev pub IsEntryOrder : List ℤ → List ℤ → Ordering → Type 0
IsEntryOrder v w Less = Before v w
IsEntryOrder v w Equal = v ≡ w
IsEntryOrder v w Greater = Before w v

-- v with the value p comes before w with the value q
abbrev pub IsRankLess : ℤ → List ℤ → ℤ → List ℤ → Type 0
IsRankLess p v q w = (p <ℤ q) ⊎ ((p ≡ q) × Before v w)

-- the order by value, then by entries
abbrev pub IsRankOrder : ℤ → List ℤ → ℤ → List ℤ → Ordering → Type 0
IsRankOrder p v q w Less = IsRankLess p v q w
IsRankOrder p v q w Equal = (p ≡ q) × (v ≡ w)
IsRankOrder p v q w Greater = IsRankLess q w p v
