-- Bytes of printed texts.
use Rattle.std.specs.Prelude.{ℕ, Bool, true, ◌&&◌, nat_le, List, [], ◌∷◌}

-- no byte is a control byte: none ends a line
abbrev pub are_printed : List ℕ → Bool
are_printed [] = true
are_printed (b ∷ bs) = nat_le 32 b && are_printed bs
