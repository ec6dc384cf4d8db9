-- What a text is read as with an exponent, and nothing else.
use Rattle.std.proofs.Common.{◌≡◌, ℕ, ℤ, pos, ◌+◌, ◌<◌, ◌≤◌, ◌-ℤ◌, Bool, true, false, nat_le, min, Ok, Err, Result, IfOk, List, [], ◌∷◌, ◌++◌, length, refl, sym, ap, subst, ◌∙◌, inl, inr, None, Some, Option, arith}
use Rattle.std.proofs.lemmas.Bool.{and_parts}
use Rattle.std.proofs.lemmas.Bool.Decides.{nat_tests}
use Rattle.decimal_text.specs.declared.exponent.Dec.{Dec}
use Rattle.decimal_text.specs.declared.fixed.NumberFault.{NumberFault}
use Rattle.decimal_text.specs.declared.fixed.NumberFault.TheVariants.{Blank, BadChar, TooManyPlaces, TooLong}
use Rattle.decimal_text.specs.declared.fixed.Stage.TheVariants.{Start}
use Rattle.decimal_text.specs.Whole.{digit_sum, size_of}
use Rattle.decimal_text.specs.Fixed.{is_blank, are_blank, walk, Outcome, Fails, Ends, signed}
use Rattle.decimal_text.specs.FixedForm.{IsSomeFixed}
use Rattle.decimal_text.specs.Shapes.{FailsFirst}
use Rattle.decimal_text.specs.Exp.{is_mark, before_mark, behind_mark, ends_blank, power_of, dec_from, dec_of}
use Rattle.decimal_text.specs.ExpForm.{IsExp, IsMarked, HasPower, IsReadAsDec}
use Rattle.decimal_text.proofs.Numbers.{digits_are}
use Rattle.decimal_text.proofs.FixedWalks.{walk-fixed, capped_from-is, capped_from, blank_is}
use Rattle.decimal_text.proofs.FixedTakes.{took_start, TookStart}
use Rattle.decimal_text.proofs.FixedPlaces.{fails_first}
use Rattle.decimal_text.proofs.FixedReads.{not_blank_text, size_of_signed}
use Rattle.decimal_text.proofs.MarkLaws.{split_at, fixed-unmarked}
use Rattle.decimal_text.proofs.PowerLaws.{power_fails, power_is, power_took, PowerTook}
use Rattle.decimal_text.proofs.ExpPlaces.{SomeMarked, plain_exp, marked_before, marked_behind, fails_plain, fails_front, fails_apart, fails_exponent}
use Rattle.decimal_text.proofs.ShapesLaws.{fails_not, fails_once}

-- the digits up to 10^18
capped_is : (digits : List ℕ) → capped_from 0 digits ≡ min (digit_sum digits) 1_000_000_000_000_000_000
capped_is digits = capped_from-is 0 digits 0 (omega arith) ∙ ap (λ n. min n 1_000_000_000_000_000_000) (digits_are digits)

-- what a number gives
abbrev given : (text : List ℕ) → IsExp text → Result Dec NumberFault
given text e = dec_from (Ends e.negative (capped_from 0 (e.whole ++ e.part)) (length e.part)) e.power

short_is : (text : List ℕ) (e : IsExp text) → digit_sum (e.whole ++ e.part) < 1_000_000_000_000_000_000
    → given text e ≡ Ok (record { mant = signed e.negative (digit_sum (e.whole ++ e.part)); exp = e.power -ℤ pos (length e.part) })
short_is text e short =
    let cap = capped_is (e.whole ++ e.part) in
    let same : capped_from 0 (e.whole ++ e.part) ≡ digit_sum (e.whole ++ e.part) = omega arith in
    let test : nat_le 1_000_000_000_000_000_000 (digit_sum (e.whole ++ e.part)) ≡ false = grind (arith, nat_tests) in
    rw (same, test) refl

long_is : (text : List ℕ) (e : IsExp text) → 1_000_000_000_000_000_000 ≤ digit_sum (e.whole ++ e.part) → given text e ≡ Err TooLong
long_is text e long =
    let cap = capped_is (e.whole ++ e.part) in
    let reaches : 1_000_000_000_000_000_000 ≤ capped_from 0 (e.whole ++ e.part) = omega arith in
    let test : nat_le 1_000_000_000_000_000_000 (capped_from 0 (e.whole ++ e.part)) ≡ true = grind (arith, nat_tests) in
    rw test refl

given_form : (text : List ℕ) (e : IsExp text) → IsReadAsDec text (given text e)
given_form text e = by (nat_le 1_000_000_000_000_000_000 (digit_sum (e.whole ++ e.part))) refl
  where
    by : (t : Bool) → nat_le 1_000_000_000_000_000_000 (digit_sum (e.whole ++ e.part)) ≡ t → IsReadAsDec text (given text e)
    by true is =
        let long : 1_000_000_000_000_000_000 ≤ digit_sum (e.whole ++ e.part) = grind (arith, nat_tests) in
        subst (IsReadAsDec text) (sym (long_is text e long)) (record { number = e; long = long })
    by false is =
        let short : digit_sum (e.whole ++ e.part) < 1_000_000_000_000_000_000 = grind (arith, nat_tests) in
        subst (IsReadAsDec text) (sym (short_is text e short)) (record { number = e; short = short; mant = refl; exp = refl })

-- a text with a mark isn't blank
blank_unmarked : (text : List ℕ) → are_blank text ≡ true → behind_mark text ≡ None
blank_unmarked [] blank = refl
blank_unmarked (b ∷ bs) blank =
    let blank_parts = and_parts (is_blank b) (are_blank bs) blank in
    let at_32 : b ≡ 32 = blank_is b blank_parts.0 in
    rw at_32 (blank_unmarked bs blank_parts.1)

marked_not_blank : (text tail : List ℕ) → behind_mark text ≡ Some tail → are_blank text ≡ false
marked_not_blank text tail found = by (are_blank text) refl
  where
    by : (t : Bool) → are_blank text ≡ t → are_blank text ≡ false
    by true blank = absurd (cc (blank_unmarked text blank, found))
    by false none = none

-- a number is read as its digits say
exp_is : (text : List ℕ) (e : IsExp text) → dec_of text ≡ given text e
exp_is text e = by e.power e.spelled
  where
    by : (power : ℤ) → HasPower text e.negative e.whole e.part power → dec_of text ≡ dec_from (Ends e.negative (capped_from 0 (e.whole ++ e.part)) (length e.part)) power
    by power (inl (fixed, none)) =
        rw (not_blank_text text e.negative e.whole e.part fixed, fixed-unmarked text e.negative e.whole e.part fixed, walk-fixed text e.negative e.whole e.part fixed, none) refl
    by power (inr (below, digits, marked, value)) =
        let some_marked : SomeMarked text = record { negative = e.negative; whole = e.whole; part = e.part; below = below; power = digits; marked = marked } in
        rw (
          marked_not_blank text marked.tail (marked_behind text some_marked),
          marked_behind text some_marked,
          marked_before text some_marked,
          walk-fixed marked.front e.negative e.whole e.part marked.number,
          marked.next_to,
          power_is marked.tail below digits marked.exponent,
          value,
        ) refl

of_form : (text : List ℕ) → IsReadAsDec text (dec_of text)
of_form text = by_blank (are_blank text) refl
  where
    by_walk : are_blank text ≡ false → behind_mark text ≡ None → (o : Outcome) → walk text 0 Start false 0 0 ≡ o → IsReadAsDec text (dec_of text)
    by_walk not_blank none (Fails at) is = rw (not_blank, none, is) (not_blank, fails_plain text at none (fails_first text at is))
    by_walk not_blank none (Ends negative n k) is =
        let took : TookStart text negative = took_start text 0 0 0 negative n k is in
        let is_exp = plain_exp text (record { negative = negative; whole = took.whole; part = took.part; fixed = took.fixed }) in
        subst (IsReadAsDec text) (sym (exp_is text is_exp)) (given_form text is_exp)

    by_exponent : are_blank text ≡ false → (mark : ℕ) (tail : List ℕ) → is_mark mark ≡ true → behind_mark text ≡ Some tail
        → text ≡ before_mark text ++ mark ∷ tail → behind_mark (before_mark text) ≡ None → (f : IsSomeFixed (before_mark text))
        → ends_blank (before_mark text) ≡ false → (r : Result ℤ ℕ) → power_of tail ≡ r → IsReadAsDec text (dec_of text)
    by_exponent not_blank mark tail marks found split none f next (Err at) is =
        rw (not_blank, found, walk-fixed (before_mark text) f.negative f.whole f.part f.fixed, next, is)
        (not_blank, subst (λ t. FailsFirst IsExp t (length (before_mark text) + 1 + at)) (sym split) (fails_exponent (before_mark text) mark tail at none marks f next (power_fails tail at is)))
    by_exponent not_blank mark tail marks found split none f next (Ok z) is =
        let took : PowerTook tail z = power_took tail z is in
        let is_marked : IsMarked text f.negative f.whole f.part took.negative took.power = record {
          front = before_mark text;
          mark = mark;
          tail = tail;
          text_is = split;
          number = f.fixed;
          next_to = next;
          marks = marks;
          exponent = took.signed_is;
        } in
        let is_exp : IsExp text = record { negative = f.negative; whole = f.whole; part = f.part; power = z; spelled = inr (took.negative, took.power, is_marked, took.value) } in
        subst (IsReadAsDec text) (sym (exp_is text is_exp)) (given_form text is_exp)

    by_end : are_blank text ≡ false → (mark : ℕ) (tail : List ℕ) → is_mark mark ≡ true → behind_mark text ≡ Some tail
        → text ≡ before_mark text ++ mark ∷ tail → behind_mark (before_mark text) ≡ None → (f : IsSomeFixed (before_mark text)) → (t : Bool)
        → ends_blank (before_mark text) ≡ t → IsReadAsDec text (dec_of text)
    by_end not_blank mark tail marks found split none f true blank =
        rw (not_blank, found, walk-fixed (before_mark text) f.negative f.whole f.part f.fixed, blank)
        (not_blank, subst (λ t. FailsFirst IsExp t (length (before_mark text))) (sym split) (fails_apart (before_mark text) mark tail none marks f blank))
    by_end not_blank mark tail marks found split none f false next = by_exponent not_blank mark tail marks found split none f next (power_of tail) refl

    by_front : are_blank text ≡ false → (mark : ℕ) (tail : List ℕ) → is_mark mark ≡ true → behind_mark text ≡ Some tail → text ≡ before_mark text ++ mark ∷ tail
        → behind_mark (before_mark text) ≡ None → (o : Outcome) → walk (before_mark text) 0 Start false 0 0 ≡ o → IsReadAsDec text (dec_of text)
    by_front not_blank mark tail marks found split none (Fails at) is =
        rw (not_blank, found, is)
        (not_blank, subst (λ t. FailsFirst IsExp t at) (sym split) (fails_front (before_mark text) mark tail at none marks (fails_first (before_mark text) at is)))
    by_front not_blank mark tail marks found split none (Ends negative n k) is =
        let took : TookStart (before_mark text) negative = took_start (before_mark text) 0 0 0 negative n k is in
        by_end not_blank mark tail marks found split none (record { negative = negative; whole = took.whole; part = took.part; fixed = took.fixed }) (ends_blank (before_mark text)) refl

    by_mark : are_blank text ≡ false → (o : Option (List ℕ)) → behind_mark text ≡ o → IsReadAsDec text (dec_of text)
    by_mark not_blank None none = by_walk not_blank none (walk text 0 Start false 0 0) refl
    by_mark not_blank (Some tail) found =
        let split = split_at text tail found in
        by_front not_blank split.mark tail split.marks found split.text_is split.none (walk (before_mark text) 0 Start false 0 0) refl

    by_blank : (t : Bool) → are_blank text ≡ t → IsReadAsDec text (dec_of text)
    by_blank true blank = rw blank blank
    by_blank false not_blank = by_mark not_blank (behind_mark text) refl

pub dec_form : (text : List ℕ) (r : Result Dec NumberFault) → r ≡ dec_of text → IsReadAsDec text r
dec_form text r is = rw is (of_form text)

dec_is : (d : Dec) (m e : ℤ) → d.mant ≡ m → d.exp ≡ e → d ≡ record { mant = m; exp = e }
dec_is d m e mant exp =
    let with_exp : d ≡ record { mant = d.mant; exp = e } = subst (λ (y : ℤ). d ≡ record { mant = d.mant; exp = y }) exp refl in
    subst (λ (x : ℤ). d ≡ record { mant = x; exp = e }) mant with_exp

-- a text that fails there is read so
bad_char_is : (text : List ℕ) (at : ℕ) (r : Result Dec NumberFault) → dec_of text ≡ r → IsReadAsDec text r → are_blank text ≡ false → FailsFirst IsExp text at → r ≡ Err (BadChar at)
bad_char_is text at (Ok d) is form none fails = absurd (fails_not IsExp text at fails form.number)
bad_char_is text at (Err Blank) is form none fails = absurd (cc (form, none))
bad_char_is text at (Err (BadChar j)) is form none fails = ap (λ n. Err (BadChar n)) (fails_once IsExp text j at form.1 fails)
bad_char_is text at (Err TooManyPlaces) is form none fails = absurd form
bad_char_is text at (Err TooLong) is form none fails = absurd (fails_not IsExp text at fails form.number)

pub dec_only : (text : List ℕ) (r : Result Dec NumberFault) → IsReadAsDec text r → r ≡ dec_of text
dec_only text (Ok d) form = ap (λ x. Ok x) (dec_is d _ _ form.mant form.exp) ∙ sym (exp_is text form.number ∙ short_is text form.number form.short)
dec_only text (Err Blank) form = rw form refl
dec_only text (Err (BadChar at)) form = sym (bad_char_is text at (dec_of text) refl (of_form text) form.0 form.1)
dec_only text (Err TooManyPlaces) form = absurd form
dec_only text (Err TooLong) form = sym (exp_is text form.number ∙ long_is text form.number form.long)

pub dec_small : (text : List ℕ) (r : Result Dec NumberFault) → IsReadAsDec text r → IfOk r (λ d. size_of d.mant < 1_000_000_000_000_000_000)
dec_small text (Ok d) form =
    let size_is : size_of d.mant ≡ digit_sum (form.number.whole ++ form.number.part) = ap size_of form.mant ∙ size_of_signed form.number.negative (digit_sum (form.number.whole ++ form.number.part)) in
    omega (arith, size_is, form.short)
dec_small text (Err fault) form = tt
