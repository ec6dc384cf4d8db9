-- The position and the antenna's delta in a header.
use Rattle.std.specs.Prelude.{ℕ, ℤ, pos, ◌&&◌, List, [], ◌∷◌, Result, Ok, Err, None, Some, if◌then◌else◌}
use Rattle.std.specs.declared.option.Option.{Option}
use Rattle.std.specs.Ordering.{int_eq}
use Rattle.decimal_text.specs.declared.fixed.NumberFault.{NumberFault}
use Rattle.decimal_text.specs.declared.fixed.NumberFault.TheVariants.{Blank, BadChar, TooManyPlaces, TooLong}
use Rattle.decimal_text.specs.Fixed.{fixed_of}
use Rattle.rinex_head.specs.declared.place.Flaw.{Flaw}
use Rattle.rinex_head.specs.declared.place.What.TheVariants.{BadField}
use Rattle.rinex_head.specs.Places.{and_then, flawed}
use Rattle.rinex_head.specs.Columns.{columns}
use Rattle.rinex_head.specs.Fields.{fixed_in}

-- a length of 14 columns in 0.1 mm
abbrev pub length_in : List ℕ → ℕ → Result ℤ Flaw
length_in line first = fixed_in line first 14 4

-- the same, where a blank field is 0
abbrev pub zero_if_blank : ℕ → Result ℤ NumberFault → Result ℤ Flaw
zero_if_blank first (Ok z) = Ok z
zero_if_blank first (Err Blank) = Ok (pos 0)
zero_if_blank first (Err (BadChar at)) = flawed first BadField
zero_if_blank first (Err TooManyPlaces) = flawed first BadField
zero_if_blank first (Err TooLong) = flawed first BadField

unfoldable pub offset_in : List ℕ → ℕ → Result ℤ Flaw
offset_in line first = zero_if_blank first (fixed_of (columns line first 14) 4)

abbrev pub three : ℤ → ℤ → ℤ → List ℤ
three x y z = x ∷ y ∷ z ∷ []

-- X, Y, Z; three fields of 0 give no position
abbrev pub position_of : ℤ → ℤ → ℤ → Option (List ℤ)
position_of x y z = if int_eq x (pos 0) && int_eq y (pos 0) && int_eq z (pos 0) then None else Some (three x y z)

unfoldable pub position_in : List ℕ → Result (Option (List ℤ)) Flaw
position_in line =
    and_then (length_in line 1) (λ x. and_then (length_in line 15) (λ y. and_then (length_in line 29) (λ z. Ok (position_of x y z))))

-- H, E, N
unfoldable pub delta_in : List ℕ → Result (List ℤ) Flaw
delta_in line =
    and_then (offset_in line 1) (λ h. and_then (offset_in line 15) (λ e. and_then (offset_in line 29) (λ n. Ok (three h e n))))
