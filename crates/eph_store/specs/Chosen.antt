-- The chosen record of a satellite at a time, by comparison with all usable records.
use Rattle.std.specs.Prelude.{◌≡◌, ℕ, ◌≤◌, ◌<◌, List, ◌∷◌, ◌++◌, All}
use Rattle.std.specs.Int.{abs_diff}
use Rattle.eph_store.specs.declared.ephemeris.Eph.{Eph}

-- how far the ephemeris' time is from the tag, in ticks
abbrev pub distance : ℕ → Eph → ℕ
distance tag e = abs_diff tag e.toe.0

-- a record of that satellite, at most 7,200 s away
pub record IsCandidate (sat : ℕ) (tag : ℕ) (e : Eph) : Type 0 where
  pub named : e.sat ≡ sat
  pub near : distance tag e ≤ 72_000_000_000

-- no candidate is nearer, and none that stands later in the file is as near
pub record IsChosenRecord (fit : List Eph) (sat : ℕ) (tag : ℕ) (e : Eph) : Type 0 where
  pub front : List Eph
  pub rest : List Eph
  pub stands : fit ≡ front ++ e ∷ rest
  pub candidate : IsCandidate sat tag e
  pub nearest : All (λ f. IsCandidate sat tag f → distance tag e ≤ distance tag f) front
  pub latest : All (λ f. IsCandidate sat tag f → distance tag e < distance tag f) rest

abbrev pub HasNoCandidate : List Eph → ℕ → ℕ → Type 0
HasNoCandidate fit sat tag = All (λ f. IsCandidate sat tag f → ⊥) fit
