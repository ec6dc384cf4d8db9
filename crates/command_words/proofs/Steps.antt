-- One step of clap's walk over the words, for each kind of word.
use Rattle.std.proofs.Common.{◌≡◌, ℕ, ◌&&◌, Bool, true, false, List, [], ◌∷◌, Option, Some, None, if◌then◌else◌, refl, sym, ap, ◌∙◌, subst}
use Rattle.std.specs.Prelude.{fold}
use Rattle.std.specs.Str.{bytes_eq}
use Rattle.std.proofs.lemmas.Slice.Eq.{bytes_eq-Decides}
use Rattle.clap.specs.Lexer.{long_of, short_of}
use Rattle.clap.specs.Walk.{Row, Held, Text, Waiting, idle, option, positional, Walk, walked, pushed, is_pending, settled as settled_held}
use Rattle.clap.specs.Simple.{Shape}
use Rattle.clap.specs.Kinds.{Kinds, or_else}
use Rattle.clap.specs.Faults.{settle_fault, turn_fault, walk_fault}
use Rattle.clap.specs.declared.error.kind.ErrorKind.TheVariants.{InvalidValue}
use Rattle.command_words.specs.Commands.{word_id, built_word, is_among, free, IsCommand, put, at, IsSettled, Ends}

-- ---- what is pending

pub nothing_pending : (s : Shape) (rows : List Row) (skip : ℕ) → IsSettled s (record { rows = rows; pending = None; skip = skip }) rows
nothing_pending s rows skip = record { rows_are = refl; passes = refl }

pub word_pending : (s : Shape) (options : List Text) (rows : List Row) (skip : ℕ) (v : Text) → IsCommand s options
    → IsSettled s (record { rows = rows; pending = Some (word_id, v ∷ []); skip = skip }) (put word_id v rows)
word_pending s options rows skip v is = record { rows_are = rw (is.word) refl; passes = rw (is.word) refl }

pub option_pending : (s : Shape) (options : List Text) (name : Text) (rows : List Row) (skip : ℕ) (v : Text) → IsCommand s options → is_among name options ≡ true
    → IsSettled s (record { rows = rows; pending = Some (name, v ∷ []); skip = skip }) (put name v rows)
option_pending s options name rows skip v is among = record { rows_are = rw (is.option name among) refl; passes = rw (is.option name among) refl }

-- ---- one step

pub record Steps (s : Shape) (w : Walk) (word : Text) (after : Walk) : Type 0 where
  pub passes : turn_fault s [] w word ≡ []
  pub goes : walked s.rules [] w word ≡ after

pub ends_before : (s : Shape) (w after : Walk) (word : Text) (words : List Text) (rows : List Row) → Steps s w word after → Ends s after words rows → Ends s w (word ∷ words) rows
unfolding walk_fault
ends_before s w after word words rows step ends = record {
  passes = rw (step.passes, step.goes) ends.passes;
  settled = subst (λ (v : Walk). IsSettled s (fold (walked s.rules []) v words).held rows) (sym step.goes) ends.settled;
}

pub ends_after : (s : Shape) (w after : Walk) (word : Text) (words : List Text) (rows : List Row) → Steps s w word after → Ends s w (word ∷ words) rows → Ends s after words rows
unfolding walk_fault
ends_after s w after word words rows step ends = record {
  passes = rw (step.passes, step.goes) at ends.passes;
  settled = subst (λ (v : Walk). IsSettled s (fold (walked s.rules []) v words).held rows) step.goes ends.settled;
}

first_is : (a b : Kinds) → or_else a b ≡ [] → a ≡ []
first_is [] b h = refl
first_is (k ∷ ks) b h = h

-- a word that fails
pub fails_at : (s : Shape) (w : Walk) (word : Text) (words : List Text) (rows : List Row) → (turn_fault s [] w word ≡ [] → ⊥) → Ends s w (word ∷ words) rows → ⊥
unfolding walk_fault
fails_at s w word words rows fails ends = fails (first_is (turn_fault s [] w word) _ ends.passes)

pub never : {X : Type 0} (b : Bool) (x y : X) → (if b && false then x else y) ≡ y
never true x y = refl
never false x y = refl

-- the word is neither `--` nor begins as a flag
pub record IsPlainWord (word : Text) : Type 0 where
  pub no_separator : bytes_eq word (45 ∷ 45 ∷ []) ≡ false
  pub no_long : long_of word ≡ None
  pub no_short : short_of word ≡ None

abbrev with_word : Text → Bool → Held → Walk
with_word word trailing h = record { held = pushed word_id word h; waiting = positional; position = 1; is_trailing = trailing; stopped = None }

-- an ordinary word, and the same after `--`
pub word_steps : (s : Shape) (options : List Text) (r rows : List Row) (p : Option (Text × List Text)) (skip : ℕ) (was_word : Bool) (word : Text) → IsCommand s options
    → IsSettled s (record { rows = r; pending = p; skip = skip }) rows → IsPlainWord word → Steps s (at r p skip (free was_word) false) word (at rows (Some (word_id, word ∷ [])) skip positional false)
unfolding walked
word_steps s options r rows p skip true word is settled plain =
    let held : Held = record { rows = r; pending = p; skip = skip } in
    record {
      passes = rw (plain.no_separator, plain.no_long, plain.no_short, is.place) (never (is_pending built_word p) [] (settle_fault s.rules s.args_override_self held) ∙ settled.passes);
      goes = rw (plain.no_separator, plain.no_long, plain.no_short, is.place)
          (ap (with_word word false) (never (is_pending built_word p) held (settled_held s.rules held)) ∙ ap (λ (rs : List Row). at rs (Some (word_id, word ∷ [])) skip positional false) settled.rows_are);
    }
word_steps s options r rows p skip false word is settled plain =
    let held : Held = record { rows = r; pending = p; skip = skip } in
    record {
      passes = rw (plain.no_separator, plain.no_long, plain.no_short, is.place) (never (is_pending built_word p) [] (settle_fault s.rules s.args_override_self held) ∙ settled.passes);
      goes = rw (plain.no_separator, plain.no_long, plain.no_short, is.place)
          (ap (with_word word false) (never (is_pending built_word p) held (settled_held s.rules held)) ∙ ap (λ (rs : List Row). at rs (Some (word_id, word ∷ [])) skip positional false) settled.rows_are);
    }

pub further_steps : (s : Shape) (options : List Text) (r rows : List Row) (p : Option (Text × List Text)) (skip : ℕ) (waits : Waiting) (word : Text) → IsCommand s options
    → IsSettled s (record { rows = r; pending = p; skip = skip }) rows → Steps s (at r p skip waits true) word (at rows (Some (word_id, word ∷ [])) skip positional true)
unfolding walked
further_steps s options r rows p skip waits word is settled =
    let held : Held = record { rows = r; pending = p; skip = skip } in
    record {
      passes = rw (is.place) (never (is_pending built_word p) [] (settle_fault s.rules s.args_override_self held) ∙ settled.passes);
      goes = rw (is.place)
          (ap (with_word word true) (never (is_pending built_word p) held (settled_held s.rules held)) ∙ ap (λ (rs : List Row). at rs (Some (word_id, word ∷ [])) skip positional true) settled.rows_are);
    }

-- `--`
pub separator_steps : (s : Shape) (r : List Row) (p : Option (Text × List Text)) (skip : ℕ) (was_word : Bool)
    → Steps s (at r p skip (free was_word) false) (45 ∷ 45 ∷ []) (at r p skip (free was_word) true)
unfolding walked
separator_steps s r p skip true = record { passes = refl; goes = refl }
separator_steps s r p skip false = record { passes = refl; goes = refl }

-- an option whose value is in the next word
pub name_steps : (s : Shape) (options : List Text) (r rows : List Row) (p : Option (Text × List Text)) (skip : ℕ) (was_word : Bool) (word name : Text) → IsCommand s options
    → IsSettled s (record { rows = r; pending = p; skip = skip }) rows → bytes_eq word (45 ∷ 45 ∷ []) ≡ false → long_of word ≡ Some (name, None) → is_among name options ≡ true
    → Steps s (at r p skip (free was_word) false) word (at rows (Some (name, [])) skip (option name) false)
unfolding walked
name_steps s options r rows p skip true word name is settled no_separator long among = record {
  passes = rw (no_separator, long, is.known name among, settled.passes) refl;
  goes = rw (no_separator, long, is.known name among) (ap (λ (rs : List Row). at rs (Some (name, [])) skip (option name) false) settled.rows_are);
}
name_steps s options r rows p skip false word name is settled no_separator long among = record {
  passes = rw (no_separator, long, is.known name among, settled.passes) refl;
  goes = rw (no_separator, long, is.known name among) (ap (λ (rs : List Row). at rs (Some (name, [])) skip (option name) false) settled.rows_are);
}

-- an option with its value
pub joined_steps : (s : Shape) (options : List Text) (r rows : List Row) (p : Option (Text × List Text)) (skip : ℕ) (was_word : Bool) (word name value : Text) → IsCommand s options
    → IsSettled s (record { rows = r; pending = p; skip = skip }) rows → bytes_eq word (45 ∷ 45 ∷ []) ≡ false → long_of word ≡ Some (name, Some value) → is_among name options ≡ true
    → Steps s (at r p skip (free was_word) false) word (at (put name value rows) None skip idle false)
unfolding walked
joined_steps s options r rows p skip true word name value is settled no_separator long among = record {
  passes = rw (no_separator, long, is.known name among, settled.passes) refl;
  goes = rw (no_separator, long, is.known name among) (ap (λ (rs : List Row). at (put name value rs) None skip idle false) settled.rows_are);
}
joined_steps s options r rows p skip false word name value is settled no_separator long among = record {
  passes = rw (no_separator, long, is.known name among, settled.passes) refl;
  goes = rw (no_separator, long, is.known name among) (ap (λ (rs : List Row). at (put name value rs) None skip idle false) settled.rows_are);
}

same_bytes : (name : Text) → bytes_eq name name ≡ true
same_bytes name = (bytes_eq-Decides name name).1 refl

-- the value of the option that waits
pub value_steps : (s : Shape) (options : List Text) (r : List Row) (skip : ℕ) (name word : Text) → IsCommand s options → is_among name options ≡ true → IsPlainWord word
    → Steps s (at r (Some (name, [])) skip (option name) false) word (at r (Some (name, word ∷ [])) skip idle false)
unfolding walked
value_steps s options r skip name word is among plain = record {
  passes = rw (plain.no_separator, plain.no_long, plain.no_short) refl;
  goes = rw (plain.no_separator, plain.no_long, plain.no_short, is.option name among, same_bytes name) refl;
}

-- ---- words that fail

pub unknown_fails : (s : Shape) (options : List Text) (r : List Row) (p : Option (Text × List Text)) (skip : ℕ) (was_word : Bool) (word name : Text) (value : Option Text) → IsCommand s options
    → bytes_eq word (45 ∷ 45 ∷ []) ≡ false → long_of word ≡ Some (name, value) → is_among name options ≡ false → turn_fault s [] (at r p skip (free was_word) false) word ≡ [] → ⊥
unknown_fails s options r p skip true word name value is no_separator long none h = absurd (cc (rw (no_separator, long, is.unknown name none) at h))
unknown_fails s options r p skip false word name value is no_separator long none h = absurd (cc (rw (no_separator, long, is.unknown name none) at h))

-- an option that waits for its value isn't settled
pub unsettled : (s : Shape) (options : List Text) (r : List Row) (skip : ℕ) (name : Text) → IsCommand s options → is_among name options ≡ true
    → settle_fault s.rules s.args_override_self (record { rows = r; pending = Some (name, []); skip = skip }) ≡ InvalidValue ∷ []
unsettled s options r skip name is among = rw (is.option name among) refl

pub waiting_ends : (s : Shape) (options : List Text) (r : List Row) (skip : ℕ) (waits : Waiting) (trailing : Bool) (name : Text) (rows : List Row) → IsCommand s options → is_among name options ≡ true
    → Ends s (at r (Some (name, [])) skip waits trailing) [] rows → ⊥
waiting_ends s options r skip waits trailing name rows is among ends = absurd (cc (sym (unsettled s options r skip name is among) ∙ ends.settled.passes))

pub flag_for_value : (s : Shape) (options : List Text) (r : List Row) (skip : ℕ) (name word other : Text) (value : Option Text) → IsCommand s options → is_among name options ≡ true
    → bytes_eq word (45 ∷ 45 ∷ []) ≡ false → long_of word ≡ Some (other, value) → turn_fault s [] (at r (Some (name, [])) skip (option name) false) word ≡ [] → ⊥
flag_for_value s options r skip name word other value is among no_separator long h = go (is_among other options) refl value long
  where
    go : (b : Bool) → is_among other options ≡ b → (v : Option Text) → long_of word ≡ Some (other, v) → ⊥
    go false none v same = absurd (cc (rw (no_separator, same, is.unknown other none) at h))
    go true there None same = absurd (cc (rw (no_separator, same, is.known other there, is.option name among) at h))
    go true there (Some t) same = absurd (cc (rw (no_separator, same, is.known other there, is.option name among) at h))

separator_waits : (s : Shape) (r : List Row) (skip : ℕ) (name : Text) → Steps s (at r (Some (name, [])) skip (option name) false) (45 ∷ 45 ∷ []) (at r (Some (name, [])) skip (option name) true)
unfolding walked
separator_waits s r skip name = record { passes = refl; goes = refl }

-- `--` in a value's place
pub separator_for_value : (s : Shape) (options : List Text) (r rows : List Row) (skip : ℕ) (name : Text) (words : List Text) → IsCommand s options → is_among name options ≡ true
    → Ends s (at r (Some (name, [])) skip (option name) false) ((45 ∷ 45 ∷ []) ∷ words) rows → ⊥
separator_for_value s options r rows skip name words is among ends = go words (ends_after s (at r (Some (name, [])) skip (option name) false)
    (at r (Some (name, [])) skip (option name) true) (45 ∷ 45 ∷ []) words rows (separator_waits s r skip name) ends)
  where
    fails : (word : Text) → turn_fault s [] (at r (Some (name, [])) skip (option name) true) word ≡ [] → ⊥
    fails word h =
        let held : Held = record { rows = r; pending = Some (name, []); skip = skip } in
        let settles : settle_fault s.rules s.args_override_self held ≡ [] =
        sym (never (is_pending built_word (Some (name, []))) [] (settle_fault s.rules s.args_override_self held)) ∙ (rw (is.place) at h) in
        absurd (cc (sym (unsettled s options r skip name is among) ∙ settles))

    go : (words : List Text) → Ends s (at r (Some (name, [])) skip (option name) true) words rows → ⊥
    go [] ends = waiting_ends s options r skip (option name) true name rows is among ends
    go (word ∷ words) ends = fails_at s (at r (Some (name, [])) skip (option name) true) word words rows (fails word) ends
