-- The fields of a satellite's line, each in 14 columns and two blanks after the one before: read field by field, whatever their
-- number.
use Rattle.std.proofs.Common.{◌≡◌, ℕ, ℤ, ◌+◌, ◌-◌, ◌*◌, ◌/◌, ◌^◌, ◌≤◌, ◌<◌, true, List, [], ◌∷◌, length, drop, get_or, Ok, Some, None, Option, All, refl, sym, ap, ◌∙◌, arith, length-append}
use Rattle.std.proofs.lemmas.List.{get_or-drop, drop-drop}
use Rattle.std.proofs.lemmas.List.Elements.{All-head, All-tail}
use Rattle.std.specs.Prelude.{slice_set}
use Rattle.decimal_text.specs.Whole.{size_of}
use Rattle.decimal_text.specs.Fixed.{fixed_of}
use Rattle.obs_store.specs.declared.kinds.ObsType.{ObsType}
use Rattle.obs_store.specs.declared.values.Value.{Value}
use Rattle.obs_store.specs.Kinds.{slot_of}
use Rattle.rinex_head.specs.Columns.{column, columns, padded}
use Rattle.obs_fields.specs.declared.layout.Layout.TheVariants.{Rinex3}
use Rattle.obs_fields.specs.declared.types.KeptType.{KeptType}
use Rattle.obs_fields.specs.SatFields.{unless_zero, amount_in, with_lock, value_in, values_in}
use Rattle.sim_session.specs.Columns.{fixed_in}
use Rattle.sim_session.specs.ObservationText.{further_fields, fields_text, IsInColumns}
use Rattle.sim_session.proofs.TextLengths.{length-thousandths}
use Rattle.sim_jobs.specs.Printed.{are_printed}
use Rattle.sim_jobs.proofs.Printed.{printed-append}
use Rattle.sim_jobs.proofs.Fields.{drop-behind, get-behind, padded-front}
use Rattle.sim_jobs.specs.ObsFiles.{with_no_lock, value_of}
use Rattle.sim_jobs.proofs.ObsTexts.{printed_fixed, fixed_is, size_in}

-- ---- their bytes
printed_field : (z : ℤ) → IsInColumns z → are_printed (fixed_in 14 z 3) ≡ true
printed_field z h = let size = size_in z h in printed_fixed 14 z 3 (small (size_of z) size)
  where
    small : (n : ℕ) → n < 10 ^ 13 → n / 10 ^ 3 < 2 ^ 64
    small n h = omega arith

printed_further : (zs : List ℤ) → All IsInColumns zs → are_printed (further_fields zs) ≡ true
printed_further [] room = refl
printed_further (z ∷ zs) room = printed-append (fixed_in 14 z 3) (further_fields zs) (printed_field z (All-head IsInColumns z zs room)) (printed_further zs (All-tail IsInColumns z zs room))

pub printed_fields : (zs : List ℤ) → All IsInColumns zs → are_printed (fields_text zs) ≡ true
printed_fields [] room = refl
printed_fields (z ∷ zs) room = printed-append (fixed_in 14 z 3) (further_fields zs) (printed_field z (All-head IsInColumns z zs room)) (printed_further zs (All-tail IsInColumns z zs room))

length-further : (zs : List ℤ) → All IsInColumns zs → length (further_fields zs) ≡ 16 * length zs
length-further [] room = refl
length-further (z ∷ zs) room =
    omega (arith, length-append (fixed_in 14 z 3) (further_fields zs), length-thousandths z (All-head IsInColumns z zs room), length-further zs (All-tail IsInColumns z zs room))

pub length-fields : (zs : List ℤ) → All IsInColumns zs → length (fields_text zs) ≤ 16 * length zs
length-fields [] room = omega arith
length-fields (z ∷ zs) room =
    omega (arith, length-append (fixed_in 14 z 3) (further_fields zs), length-thousandths z (All-head IsInColumns z zs room), length-further zs (All-tail IsInColumns z zs room))

-- ---- a line that from a column on has the fields of these numbers
at_field : (line : List ℕ) (first : ℕ) (z : ℤ) (zs : List ℤ) → drop (first - 1) line ≡ fields_text (z ∷ zs) → IsInColumns z → columns line first 14 ≡ fixed_in 14 z 3
at_field line first z zs from room = ap (λ (l : List ℕ). padded l 14) from ∙ padded-front (fixed_in 14 z 3) (further_fields zs) 14 (sym (length-thousandths z room))

-- the digit of loss of lock is blank, or after the line's end
lock_at : (line : List ℕ) (first : ℕ) (z : ℤ) (zs : List ℤ) → 1 ≤ first → drop (first - 1) line ≡ fields_text (z ∷ zs) → IsInColumns z → column line (first + 14) ≡ 32
lock_at line first z zs some from room =
    let place : first + 14 - 1 ≡ first - 1 + 14 = omega (arith, some) in
    let long = length-thousandths z room in
    ap (λ (k : ℕ). get_or line k 32) place ∙ sym (get_or-drop (first - 1) line 14 32) ∙ ap (λ (l : List ℕ). get_or l 14 32) from
    ∙ get-behind (fixed_in 14 z 3) (further_fields zs) 14 0 32 (omega (arith, long)) ∙ blank zs
  where
    blank : (zs : List ℤ) → get_or (further_fields zs) 0 32 ≡ 32
    blank [] = refl
    blank (z ∷ zs) = refl

-- the next field is 16 columns on
next_field : (line : List ℕ) (first next : ℕ) (z : ℤ) (zs : List ℤ) → 1 ≤ first → next ≡ first + 16 → drop (first - 1) line ≡ fields_text (z ∷ zs) → IsInColumns z
    → drop (next - 1) line ≡ fields_text zs
next_field line first next z zs some is from room =
    let place : next - 1 ≡ first - 1 + 16 = omega (arith, some, is) in
    let long = length-thousandths z room in
    ap (λ (k : ℕ). drop k line) place ∙ sym (drop-drop 16 (first - 1) line) ∙ ap (λ (l : List ℕ). drop 16 l) from
    ∙ drop-behind (fixed_in 14 z 3) (further_fields zs) 16 2 (omega (arith, long)) ∙ without_blanks zs
  where
    without_blanks : (zs : List ℤ) → drop 2 (further_fields zs) ≡ fields_text zs
    without_blanks [] = refl
    without_blanks (z ∷ zs) = refl

-- ---- values
value_at : (line : List ℕ) (first : ℕ) (z : ℤ) → columns line first 14 ≡ fixed_in 14 z 3 → column line (first + 14) ≡ 32 → IsInColumns z → value_in line first ≡ Ok (value_of z)
unfolding value_in amount_in
value_at line first z is blank room =
    let size = size_in z room in
    let read : fixed_of (fixed_in 14 z 3) 3 ≡ Ok z = fixed_is 14 z 3 (omega arith) (omega arith) in
    rw (is, read) (locked (unless_zero z))
  where
    locked : (o : Option ℤ) → with_lock line (first + 14) o ≡ Ok (with_no_lock o)
    locked None = refl
    locked (Some a) = rw blank refl

-- types with their numbers from k on
abbrev pub numbered : ℕ → List ObsType → List KeptType
numbered k [] = []
numbered k (kind ∷ kinds) = record { number = k; kind = kind } ∷ numbered (k + 1) kinds

-- numbers one by one in the slots of their types
abbrev pub placed : List ObsType → List ℤ → List (Option Value) → List (Option Value)
placed [] zs values = values
placed (kind ∷ kinds) [] values = values
placed (kind ∷ kinds) (z ∷ zs) values = placed kinds zs (slice_set values (slot_of kind) (value_of z))

pub values_read : (line : List ℕ) (k : ℕ) (kinds : List ObsType) (zs : List ℤ) (values : List (Option Value)) → length kinds ≡ length zs → All IsInColumns zs
    → drop (4 + 16 * k - 1) line ≡ fields_text zs →
    values_in Rinex3 0 (numbered k kinds) line values ≡ Ok (placed kinds zs values)
unfolding values_in
values_read line k [] zs values as_many room from = refl
values_read line k (kind ∷ kinds) [] values as_many room from = absurd (omega (arith, as_many))
values_read line k (kind ∷ kinds) (z ∷ zs) values as_many room from =
    let first : ℕ = 4 + 16 * k in
    let some : 1 ≤ first = omega arith in
    let here = All-head IsInColumns z zs room in
    let value : value_in line first ≡ Ok (value_of z) = value_at line first z (at_field line first z zs from here) (lock_at line first z zs some from here) here in
    let next : 4 + 16 * (k + 1) ≡ first + 16 = omega arith in
    rw value
    (values_read line (k + 1) kinds zs (slice_set values (slot_of kind) (value_of z)) (omega (arith, as_many)) (All-tail IsInColumns z zs room)
    (next_field line first (4 + 16 * (k + 1)) z zs some next from here))
