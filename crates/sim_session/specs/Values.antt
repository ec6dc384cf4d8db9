-- What the draws of a session stand for, in their order.
use Rattle.std.specs.Prelude.{Bool, ℕ, ℤ, pos, zero, suc, if◌then◌else◌, ◌+◌, ◌*◌, ◌≤◌, ◌-ℤ◌, unsigned_abs, List, [], ◌∷◌, ◌++◌, All}
use Rattle.sim_session.specs.Sequence.{drawn_within}
use Rattle.sim_session.specs.declared.drawn.TheConstants.{MOST_CLOCK, MOST_CYCLES, MOST_OFFSET}

-- what the rover lies off the base in x, y and z, in mm
abbrev pub offset_of : ℕ → List ℤ
offset_of seed = drawn_within MOST_OFFSET seed 0 ∷ drawn_within MOST_OFFSET seed 1 ∷ drawn_within MOST_OFFSET seed 2 ∷ []

-- the receivers' clock terms in mm
abbrev pub base_clock_of : ℕ → ℤ
base_clock_of seed = drawn_within MOST_CLOCK seed 3

abbrev pub rover_clock_of : ℕ → ℤ
rover_clock_of seed = drawn_within MOST_CLOCK seed 4

-- the whole cycles on L5 in draw number n, 0 where L5 isn't drawn
abbrev pub l5_cycles : Bool → ℕ → ℕ → ℤ
l5_cycles l5 seed n = if l5 then drawn_within MOST_CYCLES seed n else pos 0

-- the whole cycles of a satellite at a receiver, on L1, L2 and L5: the first two in the draws from number n on, the third in number m
abbrev pub cycles_from : Bool → ℕ → ℕ → ℕ → List ℤ
cycles_from l5 seed n m = drawn_within MOST_CYCLES seed n ∷ drawn_within MOST_CYCLES seed (n + 1) ∷ l5_cycles l5 seed m ∷ []

-- those of satellite k + 1 of `sats` at the base and at the rover: L5 is drawn after L1 and L2 of all satellites
abbrev pub base_cycles : ℕ → ℕ → Bool → ℕ → List ℤ
base_cycles seed sats l5 k = cycles_from l5 seed (5 + 4 * k) (5 + 4 * sats + 2 * k)

abbrev pub rover_cycles : ℕ → ℕ → Bool → ℕ → List ℤ
rover_cycles seed sats l5 k = cycles_from l5 seed (7 + 4 * k) (6 + 4 * sats + 2 * k)

-- what the rover's are more than the base's
abbrev pub truth_of : ℕ → ℕ → Bool → ℕ → List ℤ
truth_of seed sats l5 k =
    (drawn_within MOST_CYCLES seed (7 + 4 * k) -ℤ drawn_within MOST_CYCLES seed (5 + 4 * k))
    ∷ (drawn_within MOST_CYCLES seed (7 + 4 * k + 1) -ℤ drawn_within MOST_CYCLES seed (5 + 4 * k + 1))
    ∷ (l5_cycles l5 seed (6 + 4 * sats + 2 * k) -ℤ l5_cycles l5 seed (5 + 4 * sats + 2 * k)) ∷ []

-- f 0, f 1 and so on: n of them
abbrev pub first_of : (ℕ → List ℤ) → ℕ → List (List ℤ)
first_of f zero = []
first_of f (suc k) = first_of f k ++ f k ∷ []

-- no number of cycles is above the most in size
abbrev pub AreSmall : List ℤ → Type 0
AreSmall c = All (λ z. unsigned_abs z ≤ MOST_CYCLES) c
