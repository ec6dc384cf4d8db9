-- One level of a search, turn by turn.
use Rattle.std.specs.Prelude.{◌≡◌, ◌≤◌, ◌^◌, ℤ, pos, ◌+ℤ◌, ◌-ℤ◌, ◌*ℤ◌, ◌<ℤ◌, ◌≤ℤ◌, neg_ℤ, unsigned_abs, Bool, true, false}
use Rattle.int_search.specs.declared.stack.Level.{Level}

-- a level where no entry is taken
pub record IsUntouched (rest low : ℤ) (a : Level) : Type 0 where
  pub up_offset_is : a.up_offset ≡ (pos (2 ^ 30) *ℤ a.up) +ℤ rest
  pub down_offset_is : a.down_offset ≡ (pos (2 ^ 30) *ℤ a.down) +ℤ rest
  pub above : pos 0 ≤ℤ a.up_offset
  pub under : a.down_offset <ℤ pos 0
  pub apart : a.up ≡ a.down +ℤ pos 1
  pub low_is : a.low ≡ low
  pub up_size : unsigned_abs a.up ≤ 2 ^ 60
  pub down_size : unsigned_abs a.down ≤ 2 ^ 60
  pub up_offset_size : unsigned_abs a.up_offset ≤ 2 ^ 99
  pub down_offset_size : unsigned_abs a.down_offset ≤ 2 ^ 99

-- x, with the offset c, is the nearer of the two entries at the ends
abbrev pub Chooses : Level → ℤ → ℤ → Bool → Type 0
Chooses a x c true = (x ≡ a.up) × (c ≡ a.up_offset) × (a.up_offset ≤ℤ neg_ℤ a.down_offset)
Chooses a x c false = (x ≡ a.down) × (c ≡ a.down_offset) × (neg_ℤ a.down_offset <ℤ a.up_offset)

-- b is a with the entry of that end taken
abbrev pub Moves : Level → Bool → Level → Type 0
Moves a true b = (b.up ≡ a.up +ℤ pos 1) × (b.up_offset ≡ a.up_offset +ℤ pos (2 ^ 30)) × (b.down ≡ a.down) × (b.down_offset ≡ a.down_offset) × (b.low ≡ a.low)
Moves a false b = (b.down ≡ a.down -ℤ pos 1) × (b.down_offset ≡ a.down_offset -ℤ pos (2 ^ 30)) × (b.up ≡ a.up) × (b.up_offset ≡ a.up_offset) × (b.low ≡ a.low)

-- t is d·c², and at most the room
pub record IsTermWithin (room d c t : ℤ) : Type 0 where
  pub is : t ≡ d *ℤ (c *ℤ c)
  pub within : t ≤ℤ room
  pub size : unsigned_abs t ≤ 2 ^ 126
  pub small : unsigned_abs c ≤ 2 ^ 62
