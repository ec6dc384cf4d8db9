-- What the walk reads of a command with options, as clap builds it.
use Rattle.std.proofs.Common.{◌≡◌, ◌&&◌, ◌||◌, not, Bool, true, false, List, [], ◌∷◌, Some, None, if◌then◌else◌, refl, sym, ap, subst}
use Rattle.std.specs.Prelude.{fold}
use Rattle.std.specs.List.{list_any}
use Rattle.std.specs.Str.{bytes_eq}
use Rattle.std.proofs.lemmas.Slice.Eq.{bytes_eq-Decides}
use Rattle.clap.specs.Walk.{Row, Rule, Text, arg_by_long, arg_by_id, arg_by_index, has_row, with_default}
use Rattle.clap.specs.Simple.{Shape, filled_from}
use Rattle.clap.specs.Kinds.{Kinds}
use Rattle.clap.specs.Faults.{defaults_fault}
use Rattle.clap.specs.Takes.{is_given}
use Rattle.command_words.specs.Commands.{word_id, rules_with, built_option, built_word, built_rules, is_among, IsCommand}

pub rules_built : (options : List Text) → filled_from 1 (rules_with options) ≡ built_rules options
rules_built [] = refl
rules_built (o ∷ options) = ap (λ (rules : List Rule). built_option o ∷ rules) (rules_built options)

pub is_it : (o name : Text) → bytes_eq o name ≡ true → o ≡ name
is_it o name same = (bytes_eq-Decides o name).0 same

known : (options : List Text) (name : Text) → is_among name options ≡ true → arg_by_long (built_rules options) name ≡ Some (built_option name)
known [] name among = absurd (cc among)
known (o ∷ options) name among = go (bytes_eq o name) refl (λ h. known options name h)
  where
    go : (b : Bool) → bytes_eq o name ≡ b → (is_among name options ≡ true → arg_by_long (built_rules options) name ≡ Some (built_option name))
        → arg_by_long (built_rules (o ∷ options)) name ≡ Some (built_option name)
    go true same rest = rw same (ap (λ (n : Text). Some (built_option n)) (is_it o name same))
    go false other rest = rw other (rest (rw other at among))

unknown : (options : List Text) (name : Text) → is_among name options ≡ false → arg_by_long (built_rules options) name ≡ None
unknown [] name none = refl
unknown (o ∷ options) name none = go (bytes_eq o name) refl (λ h. unknown options name h)
  where
    go : (b : Bool) → bytes_eq o name ≡ b → (is_among name options ≡ false → arg_by_long (built_rules options) name ≡ None) → arg_by_long (built_rules (o ∷ options)) name ≡ None
    go true same rest = absurd (cc (rw same at none))
    go false other rest = rw other (rest (rw other at none))

by_id : (options : List Text) (name : Text) → is_among name options ≡ true → arg_by_id (built_rules options) name ≡ Some (built_option name)
by_id [] name among = absurd (cc among)
by_id (o ∷ options) name among = go (bytes_eq o name) refl (λ h. by_id options name h)
  where
    go : (b : Bool) → bytes_eq o name ≡ b → (is_among name options ≡ true → arg_by_id (built_rules options) name ≡ Some (built_option name))
        → arg_by_id (built_rules (o ∷ options)) name ≡ Some (built_option name)
    go true same rest = rw same (ap (λ (n : Text). Some (built_option n)) (is_it o name same))
    go false other rest = rw other (rest (rw other at among))

word_by_id : (options : List Text) → is_among word_id options ≡ false → arg_by_id (built_rules options) word_id ≡ Some built_word
word_by_id [] none = refl
word_by_id (o ∷ options) none = go (bytes_eq o word_id) refl (λ h. word_by_id options h)
  where
    go : (b : Bool) → bytes_eq o word_id ≡ b → (is_among word_id options ≡ false → arg_by_id (built_rules options) word_id ≡ Some built_word)
        → arg_by_id (built_rules (o ∷ options)) word_id ≡ Some built_word
    go true same rest = absurd (cc (rw same at none))
    go false other rest = rw other (rest (rw other at none))

place : (options : List Text) → arg_by_index (built_rules options) 1 ≡ Some built_word
place [] = refl
place (o ∷ options) = place options

either_way : {X : Type 0} (b : Bool) (x : X) → (if b then x else x) ≡ x
either_way true x = refl
either_way false x = refl

no_default : (b : Bool) (x : Kinds) → (if b || true then [] else x) ≡ []
no_default true x = refl
no_default false x = refl

defaults : (options : List Text) (rows : List Row) → defaults_fault rows (built_rules options) ≡ []
unfolding defaults_fault
defaults [] rows = rw (no_default (has_row word_id rows)) refl
defaults (o ∷ options) rows = rw (no_default (has_row o rows), either_way (has_row o rows) rows) (defaults options rows)

finished : (options : List Text) (rows : List Row) → fold with_default rows (built_rules options) ≡ rows
finished [] rows = either_way (has_row word_id rows) rows
finished (o ∷ options) rows = rw (either_way (has_row o rows) rows, fold) (finished options rows)

none_required : (options : List Text) (rows : List Row) → list_any (λ (a : Rule). a.required && not (is_given a.id rows)) (built_rules options) ≡ false
none_required [] rows = refl
none_required (o ∷ options) rows = none_required options rows

pub is_command : (s : Shape) (options : List Text) → s.rules ≡ built_rules options → is_among word_id options ≡ false
    → s.arg_required_else_help ≡ false → s.subcommand_required ≡ false → s.subcommand_negates_reqs ≡ false → IsCommand s options
is_command s options rules no_word no_help no_sub no_negation = record {
  known = λ name among. rw rules (known options name among);
  unknown = λ name none. rw rules (unknown options name none);
  option = λ name among. rw rules (by_id options name among);
  word = rw rules (word_by_id options no_word);
  place = rw rules (place options);
  defaults = λ rows. rw rules (defaults options rows);
  finished = λ rows. subst (λ (rs : List Rule). fold with_default rows rs ≡ rows) (sym rules) (finished options rows);
  checked = λ rows. rw (rules, no_help, no_sub, no_negation, none_required options rows) refl;
}
