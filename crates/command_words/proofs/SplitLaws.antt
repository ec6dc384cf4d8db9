-- Words that are parted are those whose walk by clap fails nowhere, and the walk gives the same words and numbers.
use Rattle.std.proofs.Common.{◌≡◌, ◌≢◌, ◌⊎◌, inl, inr, drop, zero, suc, ℕ, ◌==◌, not, Bool, true, false, IsTrue, List, [], ◌∷◌, ◌++◌, get_or, append_assoc, append-nil, Option, Some, None, if◌then◌else◌, refl, sym, ap, ap₂, ◌∙◌, subst, arith, true≢false}
use Rattle.std.specs.Str.{bytes_eq}
use Rattle.std.proofs.lemmas.Slice.Eq.{bytes_eq-Decides}
use Rattle.std.proofs.lemmas.Bool.Decides.{nat_tests}
use Rattle.clap.specs.Lexer.{long_of, name_and_value}
use Rattle.clap.proofs.CutLemmas.{Lacks}
use Rattle.clap.proofs.LexerLemmas.{name_and_value-at, name_and_value-without}
use Rattle.clap.specs.Walk.{Row, Text, Waiting, option, positional, Walk}
use Rattle.clap.specs.Simple.{Shape}
use Rattle.clap.specs.Faults.{walk_fault}
use Rattle.std.proofs.lemmas.Bool.{or_parts}
use Rattle.command_words.specs.Commands.{word_id, is_among, free, IsCommand, put, values_in, at, IsSettled, Ends, is_short, has_short}
use Rattle.command_words.proofs.Steps.{nothing_pending, word_pending, option_pending, ends_before, ends_after, fails_at, IsPlainWord, word_steps, further_steps, separator_steps, name_steps, joined_steps, value_steps, unknown_fails, waiting_ends, flag_for_value, separator_for_value}
use Rattle.command_words.proofs.Values.{put_same, put_other}
use Rattle.command_words.specs.declared.settings.Setting.{Setting}
use Rattle.command_words.specs.declared.settings.Setting.TheVariants.{Ratio, Budget, Mask, Gap, Jump, Arc, Step, First, Count, Bands, System}
use Rattle.command_words.specs.declared.settings.Given.{Given}
use Rattle.command_words.specs.Numbers.{IsNumber, IsLetter}
use Rattle.decimal_text.specs.Whole.{are_digits}
use Rattle.command_words.specs.Settings.{name_of, place_of, is_same, numbers_for, setting_of, IsValue}
use Rattle.command_words.specs.Parts.{Piece, Plain, Apart, Joined, is_ordinary, IsPiece, words_of_piece, plain_of_piece, given_of_piece, ArePieces, words_of, plain_of, given_of, IsBehind, AreParted}
use Rattle.command_words.specs.Split.{AreNumbers, AreAll}
use Rattle.command_words.proofs.SettingLaws.{is_name, one_name}

-- ---- names of settings

names_apart : (s : Setting) → (bytes_eq word_id (name_of s) ≡ false) × (bytes_eq (name_of s) word_id ≡ false)
names_apart Ratio = (refl, refl)
names_apart s = (refl, refl)

pub named_word : (s : Setting) → (bytes_eq (45 ∷ 45 ∷ name_of s) (45 ∷ 45 ∷ []) ≡ false) × (long_of (45 ∷ 45 ∷ name_of s) ≡ Some (name_of s, None))
named_word Ratio = (refl, refl)
named_word s = (refl, refl)

pub joined_word : (s : Setting) (d : Text) → (bytes_eq (45 ∷ 45 ∷ (name_of s ++ 61 ∷ d)) (45 ∷ 45 ∷ []) ≡ false) × (long_of (45 ∷ 45 ∷ (name_of s ++ 61 ∷ d)) ≡ Some (name_of s, Some d))
joined_word Ratio d = (refl, refl)
joined_word s d = (refl, refl)

at_place : (s : Setting) → get_or (Ratio ∷ Budget ∷ Mask ∷ Gap ∷ Jump ∷ Arc ∷ Step ∷ First ∷ Count ∷ Bands ∷ System ∷ []) (place_of s) Ratio ≡ s
at_place Ratio = refl
at_place s = refl

pub is_itself : (s : Setting) → is_same s s ≡ true
is_itself Ratio = refl
is_itself s = refl

pub same_setting : (s r : Setting) → is_same s r ≡ true → s ≡ r
same_setting s r same =
    let places : place_of s ≡ place_of r = grind (arith, nat_tests) in
    sym (at_place s) ∙ ap (λ (n : ℕ). get_or (Ratio ∷ Budget ∷ Mask ∷ Gap ∷ Jump ∷ Arc ∷ Step ∷ First ∷ Count ∷ Bands ∷ System ∷ []) n Ratio) places ∙ at_place r

other_names : (s r : Setting) → is_same s r ≡ false → bytes_eq (name_of s) (name_of r) ≡ false
other_names s r other = go (bytes_eq (name_of s) (name_of r)) refl
  where
    go : (b : Bool) → bytes_eq (name_of s) (name_of r) ≡ b → b ≡ false
    go false e = refl
    go true e =
        let one : s ≡ r = one_name (name_of s) s r (is_name s) (ap setting_of ((bytes_eq-Decides (name_of s) (name_of r)).0 e) ∙ is_name r) in
        absurd (true≢false (sym (is_itself s) ∙ ap (λ (t : Setting). is_same s t) one ∙ other))

-- ---- what a walk adds to the rows

pub record Adds (rows final : List Row) (plain : List Text) (given : List Given) : Type 0 where
  pub plain_are : values_in word_id final ≡ values_in word_id rows ++ plain
  pub texts : Setting → List Text
  pub texts_are : (s : Setting) → values_in (name_of s) final ≡ values_in (name_of s) rows ++ texts s
  pub numbers : (s : Setting) → AreNumbers s (texts s) (numbers_for s given)

adds_nothing : (rows : List Row) → Adds rows rows [] []
adds_nothing rows = record { plain_are = sym (append-nil _); texts = λ _. []; texts_are = λ s. sym (append-nil _); numbers = λ s. tt }

adds_word : (rows final : List Row) (word : Text) (plain : List Text) (given : List Given) → Adds (put word_id word rows) final plain given → Adds rows final (word ∷ plain) given
adds_word rows final word plain given more = record {
  plain_are = more.plain_are ∙ ap (λ (ws : List Text). ws ++ plain) (put_same word_id word rows) ∙ append_assoc (values_in word_id rows) (word ∷ []) plain;
  texts = more.texts;
  texts_are = λ s. more.texts_are s ∙ ap (λ (ws : List Text). ws ++ more.texts s) (put_other word_id (name_of s) word rows (names_apart s).0);
  numbers = more.numbers;
}

texts_with : Setting → Text → (Setting → List Text) → Setting → List Text
texts_with s d texts r = if is_same s r then d ∷ texts r else texts r

adds_option : (rows final : List Row) (s : Setting) (d : Text) (n : ℕ) (plain : List Text) (given : List Given) → IsValue s d n → Adds (put (name_of s) d rows) final plain given
    → Adds rows final plain (record { setting = s; number = n } ∷ given)
unfolding texts_with
adds_option rows final s d n plain given is more = record {
  plain_are = more.plain_are ∙ ap (λ (ws : List Text). ws ++ plain) (put_other (name_of s) word_id d rows (names_apart s).1);
  texts = texts_with s d more.texts;
  texts_are = λ r. texts_of r (is_same s r) refl;
  numbers = λ r. numbers_of r (is_same s r) refl;
}
  where
    texts_of : (r : Setting) (b : Bool) → is_same s r ≡ b → values_in (name_of r) final ≡ values_in (name_of r) rows ++ texts_with s d more.texts r
    texts_of r true e =
        let is_same_setting : s ≡ r = same_setting s r e in
        let put_it : values_in (name_of r) (put (name_of s) d rows) ≡ values_in (name_of r) rows ++ d ∷ [] =
        subst (λ (t : Setting). values_in (name_of r) (put (name_of t) d rows) ≡ values_in (name_of r) rows ++ d ∷ []) (sym is_same_setting)
        (put_same (name_of r) d rows) in
        more.texts_are r ∙ ap (λ (ws : List Text). ws ++ more.texts r) put_it ∙ append_assoc (values_in (name_of r) rows) (d ∷ []) (more.texts r)
        ∙ ap (λ (b : Bool). values_in (name_of r) rows ++ (if b then d ∷ more.texts r else more.texts r)) (sym e)
    texts_of r false e =
        more.texts_are r ∙ ap (λ (ws : List Text). ws ++ more.texts r) (put_other (name_of s) (name_of r) d rows (other_names s r e))
        ∙ ap (λ (b : Bool). values_in (name_of r) rows ++ (if b then d ∷ more.texts r else more.texts r)) (sym e)

    numbers_of : (r : Setting) (b : Bool) → is_same s r ≡ b → AreNumbers r (texts_with s d more.texts r) (numbers_for r (record { setting = s; number = n } ∷ given))
    numbers_of r true e = subst (λ (b : Bool). AreNumbers r (if b then d ∷ more.texts r else more.texts r) (if b then n ∷ numbers_for r given else numbers_for r given)) (sym e)
        (subst (λ (t : Setting). IsValue t d n) (same_setting s r e) is, more.numbers r)
    numbers_of r false e = subst (λ (b : Bool). AreNumbers r (if b then d ∷ more.texts r else more.texts r) (if b then n ∷ numbers_for r given else numbers_for r given)) (sym e) (more.numbers r)

-- ---- parted words pass

pub record Passes (sh : Shape) (w : Walk) (words : List Text) (rows : List Row) (plain : List Text) (given : List Given) : Type 0 where
  pub final : List Row
  pub ends : Ends sh w words final
  pub adds : Adds rows final plain given

no_more : (sh : Shape) (w : Walk) (rows : List Row) → IsSettled sh w.held rows → Ends sh w [] rows
unfolding walk_fault
no_more sh w rows settled = record { passes = refl; settled = settled }

further_passes : (sh : Shape) (options : List Text) (r rows : List Row) (p : Option (Text × List Text)) (skip : ℕ) (waits : Waiting) (words : List Text) → IsCommand sh options
    → IsSettled sh (record { rows = r; pending = p; skip = skip }) rows → Passes sh (at r p skip waits true) words rows words []
further_passes sh options r rows p skip waits [] is settled = record { final = rows; ends = no_more sh (at r p skip waits true) rows settled; adds = adds_nothing rows }
further_passes sh options r rows p skip waits (word ∷ words) is settled =
    let rest = further_passes sh options rows (put word_id word rows) (Some (word_id, word ∷ [])) skip positional words is (word_pending sh options rows skip word is) in
    record {
      final = rest.final;
      ends = ends_before sh _ _ word words rest.final (further_steps sh options r rows p skip waits word is settled) rest.ends;
      adds = adds_word rows rest.final word words [] rest.adds;
    }

plain_word : (word : Text) → IsTrue (is_ordinary word) → IsPlainWord word
plain_word [] h = record { no_separator = refl; no_long = refl; no_short = refl }
plain_word (b ∷ []) h = go (b == 45) refl
  where
    apart : (t : Bool) → bytes_eq (b ∷ []) (45 ∷ 45 ∷ []) ≡ t → t ≡ false
    apart false e = refl
    apart true e = absurd (cc ((bytes_eq-Decides (b ∷ []) (45 ∷ 45 ∷ [])).0 e))

    go : (t : Bool) → (b == 45) ≡ t → IsPlainWord (b ∷ [])
    go true e = record { no_separator = apart (bytes_eq (b ∷ []) (45 ∷ 45 ∷ [])) refl; no_long = rw e refl; no_short = rw e refl }
    go false e = record { no_separator = apart (bytes_eq (b ∷ []) (45 ∷ 45 ∷ [])) refl; no_long = rw e refl; no_short = rw e refl }
plain_word (b ∷ c ∷ bs) h = go (b == 45) refl
  where
    apart : (b == 45) ≡ false → (t : Bool) → bytes_eq (b ∷ c ∷ bs) (45 ∷ 45 ∷ []) ≡ t → t ≡ false
    apart e false same = refl
    apart e true same =
        let first : b ≡ 45 = ap (λ (w : Text). get_or w 0 0) ((bytes_eq-Decides (b ∷ c ∷ bs) (45 ∷ 45 ∷ [])).0 same) in
        absurd (true≢false (sym (ap (λ (n : ℕ). n == 45) first) ∙ e))

    go : (t : Bool) → (b == 45) ≡ t → IsPlainWord (b ∷ c ∷ bs)
    go true e = absurd (cc (rw e at h))
    go false e = record { no_separator = apart e (bytes_eq (b ∷ c ∷ bs) (45 ∷ 45 ∷ [])) refl; no_long = rw e refl; no_short = rw e refl }

-- a number is an ordinary word
number_word : (d : Text) (n : ℕ) → IsNumber d n → IsTrue (is_ordinary d)
number_word [] n is = refl
number_word (b ∷ []) n is = refl
number_word (b ∷ c ∷ bs) n is = go (b == 45) refl
  where
    go : (t : Bool) → (b == 45) ≡ t → IsTrue (not t)
    go false e = refl
    go true e =
        let dash : b ≡ 45 = grind (arith, nat_tests) in
        absurd (cc (subst (λ (m : ℕ). are_digits (m ∷ c ∷ bs) ≡ true) dash is.digits))

letter_word : (d : Text) (n : ℕ) → IsLetter d n → IsTrue (is_ordinary d)
letter_word [] n is = refl
letter_word (b ∷ []) n is = refl
letter_word (b ∷ c ∷ bs) n is = absurd (cc is.word_is)

-- and so is each value
pub value_word : (s : Setting) (d : Text) (n : ℕ) → IsValue s d n → IsTrue (is_ordinary d)
value_word System d n is = letter_word d n is
value_word s d n is = number_word d n is

-- the settings that are given are among the options
abbrev pub AreKnown : List Text → List Given → Type 0
AreKnown options [] = Unit {0}
AreKnown options (g ∷ given) = (is_among (name_of g.setting) options ≡ true) × AreKnown options given

pub passes : (sh : Shape) (options : List Text) (r rows : List Row) (p : Option (Text × List Text)) (skip : ℕ) (was_word : Bool) (pieces : List Piece)
    (behind further : List Text) → IsCommand sh options
    → IsSettled sh (record { rows = r; pending = p; skip = skip }) rows → ArePieces pieces → IsBehind behind further → AreKnown options (given_of pieces)
    → Passes sh (at r p skip (free was_word) false) (words_of pieces ++ behind) rows (plain_of pieces ++ further) (given_of pieces)
passes sh options r rows p skip was_word [] [] further is settled are none known =
    record { final = rows; ends = no_more sh (at r p skip (free was_word) false) rows settled; adds = subst (λ (ws : List Text). Adds rows rows ws []) (sym none) (adds_nothing rows) }
passes sh options r rows p skip was_word [] (word ∷ words) further is settled are behind known =
    let rest = further_passes sh options r rows p skip (free was_word) words is settled in
    record {
      final = rest.final;
      ends = subst (λ (w : Text). Ends sh (at r p skip (free was_word) false) (w ∷ words) rest.final) (sym behind.0)
          (ends_before sh _ _ (45 ∷ 45 ∷ []) words rest.final (separator_steps sh r p skip was_word) rest.ends);
      adds = subst (λ (ws : List Text). Adds rows rest.final ws []) behind.1 rest.adds;
    }
passes sh options r rows p skip was_word (Plain word ∷ pieces) behind further is settled are is_behind known =
    let rest = passes sh options rows (put word_id word rows) (Some (word_id, word ∷ [])) skip true pieces behind further is (word_pending sh options rows skip word is) are.1 is_behind known in
    record {
      final = rest.final;
      ends = ends_before sh _ _ word (words_of pieces ++ behind) rest.final (word_steps sh options r rows p skip was_word word is settled (plain_word word are.0)) rest.ends;
      adds = adds_word rows rest.final word (plain_of pieces ++ further) (given_of pieces) rest.adds;
    }
passes sh options r rows p skip was_word (Apart s d n ∷ pieces) behind further is settled are is_behind known =
    let rest = passes sh options rows (put (name_of s) d rows) (Some (name_of s, d ∷ [])) skip false pieces behind further is
    (option_pending sh options (name_of s) rows skip d is known.0) are.1 is_behind known.1 in
    record {
      final = rest.final;
      ends = ends_before sh _ _ (45 ∷ 45 ∷ name_of s) (d ∷ (words_of pieces ++ behind)) rest.final
          (name_steps sh options r rows p skip was_word (45 ∷ 45 ∷ name_of s) (name_of s) is settled (named_word s).0 (named_word s).1 known.0)
          (ends_before sh _ _ d (words_of pieces ++ behind) rest.final (value_steps sh options rows skip (name_of s) d is known.0 (plain_word d (value_word s d n are.0))) rest.ends);
      adds = adds_option rows rest.final s d n (plain_of pieces ++ further) (given_of pieces) are.0 rest.adds;
    }
passes sh options r rows p skip was_word (Joined s d n ∷ pieces) behind further is settled are is_behind known =
    let rest = passes sh options (put (name_of s) d rows) (put (name_of s) d rows) None skip false pieces behind further is
    (nothing_pending sh (put (name_of s) d rows) skip) are.1 is_behind known.1 in
    record {
      final = rest.final;
      ends = ends_before sh _ _ (45 ∷ 45 ∷ (name_of s ++ 61 ∷ d)) (words_of pieces ++ behind) rest.final (joined_steps sh options r rows p skip
          was_word (45 ∷ 45 ∷ (name_of s ++ 61 ∷ d)) (name_of s) d is settled (joined_word s d).0 (joined_word s d).1 known.0) rest.ends;
      adds = adds_option rows rest.final s d n (plain_of pieces ++ further) (given_of pieces) are.0 rest.adds;
    }

-- ---- words that pass are parted

-- what a text is, cut at its first `=`
abbrev pub with_value : Text → Option Text → Text
with_value name None = name
with_value name (Some value) = name ++ 61 ∷ value

pub record IsCut (text : Text) : Type 0 where
  pub name : Text
  pub value : Option Text
  pub cut_is : name_and_value text ≡ (name, value)
  pub text_is : text ≡ with_value name value

pub record IsFirst (text : Text) : Type 0 where
  pub name : Text
  pub value : Option Text
  pub lacks : Lacks 61 name
  pub text_is : text ≡ with_value name value

first_of : (text : Text) → IsFirst text
first_of [] = record { name = []; value = None; lacks = λ i lt. absurd (omega arith); text_is = refl }
first_of (b ∷ bs) = go (b == 61) refl (first_of bs)
  where
    longer : (b == 61) ≡ false → (name : Text) → Lacks 61 name → Lacks 61 (b ∷ name)
    longer e name lacks zero lt = let not_equals_sign : b ≢ 61 = grind (arith, nat_tests) in not_equals_sign
    longer e name lacks (suc i) lt = lacks i (omega arith)

    onward : (name : Text) (value : Option Text) → bs ≡ with_value name value → b ∷ bs ≡ with_value (b ∷ name) value
    onward name None e = ap (λ (t : Text). b ∷ t) e
    onward name (Some v) e = ap (λ (t : Text). b ∷ t) e

    go : (t : Bool) → (b == 61) ≡ t → IsFirst bs → IsFirst (b ∷ bs)
    go true e rest = let is_equals_sign : b ≡ 61 = grind (arith, nat_tests) in record { name = []; value = Some bs; lacks = λ i lt. absurd (omega arith); text_is = ap (λ (n : ℕ). n ∷ bs) is_equals_sign }
    go false e rest = record { name = b ∷ rest.name; value = rest.value; lacks = longer e rest.name rest.lacks; text_is = onward rest.name rest.value rest.text_is }

cut : (text : Text) → IsCut text
cut text = go (first_of text)
  where
    its_parts : (name : Text) (value : Option Text) → Lacks 61 name → name_and_value (with_value name value) ≡ (name, value)
    its_parts name None lacks = name_and_value-without name lacks
    its_parts name (Some v) lacks = name_and_value-at name v lacks

    go : IsFirst text → IsCut text
    go f = record { name = f.name; value = f.value; cut_is = ap name_and_value f.text_is ∙ its_parts f.name f.value f.lacks; text_is = f.text_is }

pub record Found (words : List Text) (rows final : List Row) : Type 0 where
  pub plain : List Text
  pub given : List Given
  pub parted : AreParted words plain given
  pub adds : Adds rows final plain given

one_of : (s : Setting) (xs : List Text) (t : Text) (ys : List Text) → AreAll s (xs ++ t ∷ ys) → (n : ℕ) × IsValue s t n
one_of s [] t ys all = all.0
one_of s (x ∷ xs) t ys all = one_of s xs t ys all.1

-- the value of an option is among those at the end
its_number : (rows final : List Row) (s : Setting) (t : Text) (plain : List Text) (given : List Given)
    → Adds (put (name_of s) t rows) final plain given → AreAll s (values_in (name_of s) final) → (n : ℕ) × IsValue s t n
its_number rows final s t plain given adds all =
    let values : values_in (name_of s) final ≡ values_in (name_of s) rows ++ t ∷ adds.texts s =
    adds.texts_are s ∙ ap (λ (ws : List Text). ws ++ adds.texts s) (put_same (name_of s) t rows) ∙ append_assoc (values_in (name_of s) rows) (t ∷ []) (adds.texts s) in
    one_of s (values_in (name_of s) rows) t (adds.texts s) (subst (AreAll s) values all)

rows_at_end : (sh : Shape) (w : Walk) (rows final : List Row) → IsSettled sh w.held rows → Ends sh w [] final → rows ≡ final
rows_at_end sh w rows final settled ends = sym settled.rows_are ∙ ends.settled.rows_are

further_found : (sh : Shape) (options : List Text) (r rows final : List Row) (p : Option (Text × List Text)) (skip : ℕ) (waits : Waiting) (words : List Text) → IsCommand sh options
    → IsSettled sh (record { rows = r; pending = p; skip = skip }) rows → Ends sh (at r p skip waits true) words final → Adds rows final words []
further_found sh options r rows final p skip waits [] is settled ends =
    subst (λ (f : List Row). Adds rows f [] []) (rows_at_end sh (at r p skip waits true) rows final settled ends) (adds_nothing rows)
further_found sh options r rows final p skip waits (word ∷ words) is settled ends =
    adds_word rows final word words [] (further_found sh options rows (put word_id word rows) final (Some (word_id, word ∷ [])) skip positional words is (word_pending sh options rows skip word is)
    (ends_after sh _ _ word words final (further_steps sh options r rows p skip waits word is settled) ends))

one_piece : (piece : Piece) (words : List Text) (rows final : List Row) (found : Found words rows final) → IsPiece piece
    → AreParted (words_of_piece piece ++ words) (plain_of_piece piece ++ found.plain) (given_of_piece piece ++ found.given)
one_piece piece words rows final found is = record {
  pieces = piece ∷ found.parted.pieces;
  behind = found.parted.behind;
  further = found.parted.further;
  words_are = ap (λ (ws : List Text). words_of_piece piece ++ ws) found.parted.words_are ∙ sym (append_assoc (words_of_piece piece) (words_of found.parted.pieces) found.parted.behind);
  are_pieces = (is, found.parted.are_pieces);
  is_behind = found.parted.is_behind;
  plain_are = ap (λ (ws : List Text). plain_of_piece piece ++ ws) found.parted.plain_are ∙ sym (append_assoc (plain_of_piece piece) (plain_of found.parted.pieces) found.parted.further);
  given_are = ap (λ (gs : List Given). given_of_piece piece ++ gs) found.parted.given_are;
}

-- the options of a command are settings
pub record Knows (sh : Shape) (options : List Text) (final : List Row) : Type 0 where
  pub is : IsCommand sh options
  pub setting : (name : Text) → is_among name options ≡ true → (s : Setting) × (name ≡ name_of s)
  pub numbers : (s : Setting) → AreAll s (values_in (name_of s) final)

abbrev pub FoundAt : Shape → List Row → ℕ → List Text → Type 0
FoundAt sh final skip words = (r rows : List Row) (p : Option (Text × List Text)) (was_word : Bool) → IsSettled sh (record { rows = r; pending = p; skip = skip }) rows → has_short words ≡ false
    → Ends sh (at r p skip (free was_word) false) words final → Found words rows final

plain_found : (sh : Shape) (options : List Text) (final : List Row) (skip : ℕ) (word : Text) (words : List Text) → Knows sh options final
    → FoundAt sh final skip words → IsTrue (is_ordinary word) → has_short words ≡ false
    → (r rows : List Row) (p : Option (Text × List Text)) (was_word : Bool) → IsSettled sh (record { rows = r; pending = p; skip = skip }) rows
    → Ends sh (at r p skip (free was_word) false) (word ∷ words) final → Found (word ∷ words) rows final
plain_found sh options final skip word words knows rest ordinary no_short r rows p was_word settled ends =
    let found = rest rows (put word_id word rows) (Some (word_id, word ∷ [])) true (word_pending sh options rows skip word knows.is) no_short
    (ends_after sh _ _ word words final (word_steps sh options r rows p skip was_word word knows.is settled (plain_word word ordinary)) ends) in
    record {
      plain = word ∷ found.plain;
      given = found.given;
      parted = one_piece (Plain word) words (put word_id word rows) final found ordinary;
      adds = adds_word rows final word found.plain found.given found.adds;
    }

separator_found : (sh : Shape) (options : List Text) (final : List Row) (skip : ℕ) (words : List Text) → Knows sh options final
    → (r rows : List Row) (p : Option (Text × List Text)) (was_word : Bool) → IsSettled sh (record { rows = r; pending = p; skip = skip }) rows
    → Ends sh (at r p skip (free was_word) false) ((45 ∷ 45 ∷ []) ∷ words) final → Found ((45 ∷ 45 ∷ []) ∷ words) rows final
separator_found sh options final skip words knows r rows p was_word settled ends = record {
  plain = words;
  given = [];
  parted = record { pieces = []; behind = (45 ∷ 45 ∷ []) ∷ words; further = words; words_are = refl; are_pieces = tt; is_behind = (refl, refl); plain_are = refl; given_are = refl };
  adds = further_found sh options r rows final p skip (free was_word) words knows.is settled (ends_after sh _ _ (45 ∷ 45 ∷ []) words final (separator_steps sh r p skip was_word) ends);
}

joined_found : (sh : Shape) (options : List Text) (final : List Row) (skip : ℕ) (s : Setting) (value : Text) (words : List Text)
    → Knows sh options final → FoundAt sh final skip words → is_among (name_of s) options ≡ true → has_short words ≡ false
    → (r rows : List Row) (p : Option (Text × List Text)) (was_word : Bool) → IsSettled sh (record { rows = r; pending = p; skip = skip }) rows
    → Ends sh (at r p skip (free was_word) false) ((45 ∷ 45 ∷ (name_of s ++ 61 ∷ value)) ∷ words) final → Found ((45 ∷ 45 ∷ (name_of s ++ 61 ∷ value)) ∷ words) rows final
joined_found sh options final skip s value words knows rest among no_short r rows p was_word settled ends =
    let found = rest (put (name_of s) value rows) (put (name_of s) value rows) None false (nothing_pending sh (put (name_of s) value rows) skip) no_short
    (ends_after sh _ _ (45 ∷ 45 ∷ (name_of s ++ 61 ∷ value)) words final (joined_steps sh options r rows p skip was_word
    (45 ∷ 45 ∷ (name_of s ++ 61 ∷ value)) (name_of s) value knows.is settled (joined_word s value).0 (joined_word s value).1 among) ends) in
    let number = its_number rows final s value found.plain found.given found.adds (knows.numbers s) in
    record {
      plain = found.plain;
      given = record { setting = s; number = number.0 } ∷ found.given;
      parted = one_piece (Joined s value number.0) words (put (name_of s) value rows) final found number.1;
      adds = adds_option rows final s value number.0 found.plain found.given number.1 found.adds;
    }

apart_found : (sh : Shape) (options : List Text) (final : List Row) (skip : ℕ) (s : Setting) (value : Text) (words : List Text) → Knows sh options final
    → FoundAt sh final skip words → is_among (name_of s) options ≡ true → has_short words ≡ false → IsTrue (is_ordinary value)
    → (r rows : List Row) (p : Option (Text × List Text)) (was_word : Bool) → IsSettled sh (record { rows = r; pending = p; skip = skip }) rows
    → Ends sh (at r p skip (free was_word) false) ((45 ∷ 45 ∷ name_of s) ∷ value ∷ words) final → Found ((45 ∷ 45 ∷ name_of s) ∷ value ∷ words) rows final
apart_found sh options final skip s value words knows rest among no_short ordinary r rows p was_word settled ends =
    let waits = ends_after sh _ _ (45 ∷ 45 ∷ name_of s) (value ∷ words) final
    (name_steps sh options r rows p skip was_word (45 ∷ 45 ∷ name_of s) (name_of s) knows.is settled (named_word s).0 (named_word s).1 among) ends in
    let found = rest rows (put (name_of s) value rows) (Some (name_of s, value ∷ [])) false (option_pending sh options (name_of s) rows skip value knows.is among) no_short
    (ends_after sh _ _ value words final (value_steps sh options rows skip (name_of s) value knows.is among (plain_word value ordinary)) waits) in
    let number = its_number rows final s value found.plain found.given found.adds (knows.numbers s) in
    record {
      plain = found.plain;
      given = record { setting = s; number = number.0 } ∷ found.given;
      parted = one_piece (Apart s value number.0) words (put (name_of s) value rows) final found number.1;
      adds = adds_option rows final s value number.0 found.plain found.given number.1 found.adds;
    }

-- ---- what kind of word it is

sorted : (word : Text) → IsTrue (is_ordinary word) ⊎ ((is_short word ≡ true) ⊎ ((text : Text) × (word ≡ 45 ∷ 45 ∷ text)))
sorted [] = inl refl
sorted (b ∷ []) = inl refl
sorted (b ∷ c ∷ bs) = go (b == 45) (c == 45) refl refl
  where
    go : (t u : Bool) → (b == 45) ≡ t → (c == 45) ≡ u → IsTrue (is_ordinary (b ∷ c ∷ bs)) ⊎ ((is_short (b ∷ c ∷ bs) ≡ true) ⊎ ((text : Text) × (b ∷ c ∷ bs ≡ 45 ∷ 45 ∷ text)))
    go false u e f = inl (rw e refl)
    go true false e f = inr (inl (rw (e, f) refl))
    go true true e f = let first : b ≡ 45 = grind (arith, nat_tests) in let second : c ≡ 45 = grind (arith, nat_tests) in inr (inr (bs, ap₂ (λ (m n : ℕ). m ∷ n ∷ bs) first second))

-- neither this word nor a word after it is short
pub neither : (word : Text) (words : List Text) → bytes_eq word (45 ∷ 45 ∷ []) ≡ false → has_short (word ∷ words) ≡ false → (is_short word ≡ false) × (has_short words ≡ false)
neither word words apart h = or_parts (is_short word) (has_short words) (rw apart at h)

short_is_no_separator : (word : Text) → is_short word ≡ true → bytes_eq word (45 ∷ 45 ∷ []) ≡ false
short_is_no_separator word h = go (bytes_eq word (45 ∷ 45 ∷ [])) refl
  where
    go : (b : Bool) → bytes_eq word (45 ∷ 45 ∷ []) ≡ b → b ≡ false
    go false e = refl
    go true e = absurd (true≢false (sym h ∙ ap is_short ((bytes_eq-Decides word (45 ∷ 45 ∷ [])).0 e)))

never_short : {X : Type 0} (word : Text) (words : List Text) → is_short word ≡ true → has_short (word ∷ words) ≡ false → X
never_short word words short h = absurd (true≢false (sym short ∙ (neither word words (short_is_no_separator word short) h).0))

-- a flag where a value is due
flag_behind : (sh : Shape) (options : List Text) (final : List Row) (skip : ℕ) (s : Setting) (text : Text) (rest : List Text) → Knows sh options final
    → is_among (name_of s) options ≡ true → (rows : List Row)
    → Ends sh (at rows (Some (name_of s, [])) skip (option (name_of s)) false) ((45 ∷ 45 ∷ text) ∷ rest) final → ⊥
flag_behind sh options final skip s [] rest knows among rows ends = separator_for_value sh options rows final skip (name_of s) rest knows.is among ends
flag_behind sh options final skip s (b ∷ bs) rest knows among rows ends =
    let parts = cut (b ∷ bs) in
    fails_at sh (at rows (Some (name_of s, [])) skip (option (name_of s)) false) (45 ∷ 45 ∷ b ∷ bs) rest final
    (flag_for_value sh options rows skip (name_of s) (45 ∷ 45 ∷ b ∷ bs) parts.name parts.value knows.is among refl (ap (λ (q : Text × Option Text). Some q) parts.cut_is)) ends

option_found : (sh : Shape) (options : List Text) (final : List Row) (skip : ℕ) (s : Setting) (words : List Text) → Knows sh options final
    → ((v : Text) (rest : List Text) → words ≡ v ∷ rest → FoundAt sh final skip rest) → is_among (name_of s) options ≡ true → has_short words ≡ false
    → (r rows : List Row) (p : Option (Text × List Text)) (was_word : Bool) → IsSettled sh (record { rows = r; pending = p; skip = skip }) rows
    → Ends sh (at r p skip (free was_word) false) ((45 ∷ 45 ∷ name_of s) ∷ words) final → Found ((45 ∷ 45 ∷ name_of s) ∷ words) rows final
option_found sh options final skip s words knows rest among no_short r rows p was_word settled ends =
    go words rest no_short ends (ends_after sh _ _ (45 ∷ 45 ∷ name_of s) words final
    (name_steps sh options r rows p skip was_word (45 ∷ 45 ∷ name_of s) (name_of s) knows.is settled (named_word s).0 (named_word s).1 among) ends)
  where
    behind_it : (v : Text) (more : List Text) → FoundAt sh final skip more → has_short (v ∷ more) ≡ false → Ends sh (at r p skip (free was_word) false) ((45 ∷ 45 ∷ name_of s) ∷ v ∷ more) final
        → Ends sh (at rows (Some (name_of s, [])) skip (option (name_of s)) false) (v ∷ more) final
        → IsTrue (is_ordinary v) ⊎ ((is_short v ≡ true) ⊎ ((text : Text) × (v ≡ 45 ∷ 45 ∷ text))) → Found ((45 ∷ 45 ∷ name_of s) ∷ v ∷ more) rows final
    behind_it v more again none all behind (inl ordinary) = apart_found sh options final skip s v more knows again among
        (neither v more (plain_word v ordinary).no_separator none).1 ordinary r rows p was_word settled all
    behind_it v more again none all behind (inr (inl short)) = never_short v more short none
    behind_it v more again none all behind (inr (inr dashes)) = absurd (flag_behind sh options final skip s dashes.0 more knows among rows
        (subst (λ (w : Text). Ends sh (at rows (Some (name_of s, [])) skip (option (name_of s)) false) (w ∷ more) final) dashes.1 behind))

    go : (ws : List Text) → ((v : Text) (more : List Text) → ws ≡ v ∷ more → FoundAt sh final skip more) → has_short ws ≡ false
        → Ends sh (at r p skip (free was_word) false) ((45 ∷ 45 ∷ name_of s) ∷ ws) final
        → Ends sh (at rows (Some (name_of s, [])) skip (option (name_of s)) false) ws final → Found ((45 ∷ 45 ∷ name_of s) ∷ ws) rows final
    go [] again none all behind = absurd (waiting_ends sh options rows skip (option (name_of s)) false (name_of s) final knows.is among behind)
    go (v ∷ more) again none all behind = behind_it v more (again v more refl) none all behind (sorted v)

-- `--name` or `--name=value`
long_found : (sh : Shape) (options : List Text) (final : List Row) (skip : ℕ) (name : Text) (value : Option Text) (text : Text) (words : List Text)
    → Knows sh options final → FoundAt sh final skip words → ((v : Text) (rest : List Text) → words ≡ v ∷ rest → FoundAt sh final skip rest)
    → bytes_eq (45 ∷ 45 ∷ text) (45 ∷ 45 ∷ []) ≡ false → long_of (45 ∷ 45 ∷ text) ≡ Some (name, value) → text ≡ with_value name value → has_short words ≡ false
    → (r rows : List Row) (p : Option (Text × List Text)) (was_word : Bool) → IsSettled sh (record { rows = r; pending = p; skip = skip }) rows
    → Ends sh (at r p skip (free was_word) false) ((45 ∷ 45 ∷ text) ∷ words) final → Found ((45 ∷ 45 ∷ text) ∷ words) rows final
long_found sh options final skip name value text words knows rest behind apart long text_is no_short r rows p was_word settled ends = go (is_among name options) refl
  where
    known : (s : Setting) (v : Option Text) → is_among (name_of s) options ≡ true → text ≡ with_value (name_of s) v → Found ((45 ∷ 45 ∷ text) ∷ words) rows final
    known s None among e = subst (λ (t : Text). Found ((45 ∷ 45 ∷ t) ∷ words) rows final) (sym e)
        (option_found sh options final skip s words knows behind among no_short r rows p was_word settled
        (subst (λ (t : Text). Ends sh (at r p skip (free was_word) false) ((45 ∷ 45 ∷ t) ∷ words) final) e ends))
    known s (Some v) among e = subst (λ (t : Text). Found ((45 ∷ 45 ∷ t) ∷ words) rows final) (sym e)
        (joined_found sh options final skip s v words knows rest among no_short r rows p was_word settled
        (subst (λ (t : Text). Ends sh (at r p skip (free was_word) false) ((45 ∷ 45 ∷ t) ∷ words) final) e ends))

    go : (b : Bool) → is_among name options ≡ b → Found ((45 ∷ 45 ∷ text) ∷ words) rows final
    go false none = absurd (fails_at sh (at r p skip (free was_word) false) (45 ∷ 45 ∷ text) words final
        (unknown_fails sh options r p skip was_word (45 ∷ 45 ∷ text) name value knows.is apart long none) ends)
    go true among =
        let known_name = knows.setting name among in
        known known_name.0 value (subst (λ (n : Text). is_among n options ≡ true) known_name.1 among) (text_is ∙ ap (λ (n : Text). with_value n value) known_name.1)

step_found : (sh : Shape) (options : List Text) (final : List Row) (skip : ℕ) (word : Text) (words : List Text) → Knows sh options final
    → FoundAt sh final skip words → ((v : Text) (rest : List Text) → words ≡ v ∷ rest → FoundAt sh final skip rest) → FoundAt sh final skip (word ∷ words)
step_found sh options final skip word words knows rest behind r rows p was_word settled no_short ends = go (sorted word)
  where
    dashed : (text : Text) → has_short ((45 ∷ 45 ∷ text) ∷ words) ≡ false → Ends sh (at r p skip (free was_word) false) ((45 ∷ 45 ∷ text) ∷ words) final → Found ((45 ∷ 45 ∷ text) ∷ words) rows final
    dashed [] none all = separator_found sh options final skip words knows r rows p was_word settled all
    dashed (b ∷ bs) none all =
        let parts = cut (b ∷ bs) in
        long_found sh options final skip parts.name parts.value (b ∷ bs) words knows rest behind refl (ap (λ (q : Text × Option Text). Some q) parts.cut_is)
        parts.text_is (neither (45 ∷ 45 ∷ b ∷ bs) words refl none).1 r rows p was_word settled all

    go : IsTrue (is_ordinary word) ⊎ ((is_short word ≡ true) ⊎ ((text : Text) × (word ≡ 45 ∷ 45 ∷ text))) → Found (word ∷ words) rows final
    go (inl ordinary) = plain_found sh options final skip word words knows rest ordinary (neither word words (plain_word word ordinary).no_separator no_short).1 r rows p was_word settled ends
    go (inr (inl short)) = never_short word words short no_short
    go (inr (inr dashes)) = subst (λ (w : Text). Found (w ∷ words) rows final) (sym dashes.1)
        (dashed dashes.0 (subst (λ (w : Text). has_short (w ∷ words) ≡ false) dashes.1 no_short) (subst (λ (w : Text). Ends sh (at r p skip (free was_word) false) (w ∷ words) final) dashes.1 ends))

none_found : (sh : Shape) (final : List Row) (skip : ℕ) → FoundAt sh final skip []
none_found sh final skip r rows p was_word settled no_short ends = record {
  plain = [];
  given = [];
  parted = record { pieces = []; behind = []; further = []; words_are = refl; are_pieces = tt; is_behind = refl; plain_are = refl; given_are = refl };
  adds = subst (λ (f : List Row). Adds rows f [] []) (rows_at_end sh (at r p skip (free was_word) false) rows final settled ends) (adds_nothing rows);
}

pub found : (sh : Shape) (options : List Text) (final : List Row) (skip : ℕ) → Knows sh options final → (words : List Text) → FoundAt sh final skip words
found sh options final skip knows [] = none_found sh final skip
found sh options final skip knows (word ∷ []) = step_found sh options final skip word [] knows (none_found sh final skip) (λ v rest e. absurd (cc e))
found sh options final skip knows (word ∷ v ∷ words) =
    let again = found sh options final skip knows words in
    step_found sh options final skip word (v ∷ words) knows (found sh options final skip knows (v ∷ words))
    (λ w rest e. subst (λ (ws : List Text). FoundAt sh final skip ws) (ap (λ (ws : List Text). drop 1 ws) e) again)
