-- What `clap` gets of a command, and what it makes of words.
use Rattle.std.specs.Prelude.{◌≡◌, ℕ, ◌==◌, ◌&&◌, ◌||◌, not, if◌then◌else◌, Bool, true, false, List, [], ◌∷◌, ◌++◌, map, Option, Some, None, codes, fold, find, unwrap_or}
use Rattle.std.specs.List.{list_any}
use Rattle.std.specs.Str.{bytes_eq}
use Rattle.clap.specs.Walk.{Row, Rule, all_of, Held, Text, Waiting, Walk, arg_by_long, arg_by_id, arg_by_index, reading_by, settled_rows, walked, with_default, with_values, idle, positional}
use Rattle.clap.specs.Simple.{App, Shape, filled, new_rule, new_shape, with_index}
use Rattle.clap.specs.Faults.{check_fault, defaults_fault, settle_fault, walk_fault}
use Rattle.clap.specs.declared.builder.action.ArgAction.TheVariants.{Append}
use Rattle.clap.specs.declared.parser.matches.ValueSource.TheVariants.{CommandLine}

-- an option, which may be given again and has one value each time
abbrev pub option_rule : Text → Rule
option_rule name = record (new_rule name) { long = Some name; action = Some Append }

-- the ordinary words
abbrev pub word_id : Text
word_id = codes "word"

abbrev pub word_rule : Rule
word_rule = record (new_rule word_id) { action = Some Append }

abbrev pub rules_with : List Text → List Rule
rules_with options = map option_rule options ++ word_rule ∷ []

-- a command with these options
abbrev pub command_shape : Text → List Text → Shape
command_shape name options = record (new_shape name) { rules = rules_with options }

-- ---- the same as clap builds it

abbrev pub built_option : Text → Rule
built_option name = with_index 1 (filled (option_rule name))

abbrev pub built_word : Rule
built_word = with_index 1 (filled word_rule)

abbrev pub built_rules : List Text → List Rule
built_rules options = map built_option options ++ built_word ∷ []

abbrev pub is_among : Text → List Text → Bool
is_among name options = list_any (λ o. bytes_eq o name) options

-- what the walk reads of a command with these options
pub record IsCommand (s : Shape) (options : List Text) : Type 0 where
  pub known : (name : Text) → is_among name options ≡ true → arg_by_long s.rules name ≡ Some (built_option name)
  pub unknown : (name : Text) → is_among name options ≡ false → arg_by_long s.rules name ≡ None
  pub option : (name : Text) → is_among name options ≡ true → arg_by_id s.rules name ≡ Some (built_option name)
  pub word : arg_by_id s.rules word_id ≡ Some built_word
  pub place : arg_by_index s.rules 1 ≡ Some built_word
  pub defaults : (rows : List Row) → defaults_fault rows s.rules ≡ []
  pub finished : (rows : List Row) → fold with_default rows s.rules ≡ rows
  pub checked : (rows : List Row) → check_fault s rows false ≡ []

-- one more value
abbrev pub put : Text → Text → List Row → List Row
put id value rows = with_values id (reading_by built_word) CommandLine (value ∷ []) rows

-- the values of an argument
abbrev pub values_in : Text → List Row → List Text
values_in id rows = unwrap_or (all_of id rows) []

-- where the walk stands
abbrev pub at : List Row → Option (Text × List Text) → ℕ → Waiting → Bool → Walk
at rows pending skip waiting trailing = record {
  held = record { rows = rows; pending = pending; skip = skip };
  waiting = waiting;
  position = 1;
  is_trailing = trailing;
  stopped = None;
}

-- no option waits for its value; the last word was an ordinary one, or not
abbrev pub free : Bool → Waiting
free true = positional
free false = idle

-- with what is pending the rows are these
pub record IsSettled (s : Shape) (h : Held) (rows : List Row) : Type 0 where
  pub rows_are : settled_rows s.rules h.pending h.rows ≡ rows
  pub passes : settle_fault s.rules s.args_override_self h ≡ []

-- the walk over the words fails nowhere, and ends with these rows
pub record Ends (s : Shape) (w : Walk) (words : List Text) (rows : List Row) : Type 0 where
  pub passes : walk_fault s [] w words ≡ []
  pub settled : IsSettled s (fold (walked s.rules []) w words).held rows

-- a walk's start
abbrev pub start : Walk
start = at [] None 0 idle false

-- ---- the program

abbrev pub top_shape : Shape
top_shape = record (new_shape (codes "baseline")) {
  is_leaf = false;
  no_binary_name = true;
  disable_help_flag = true;
  disable_help_subcommand = true;
  disable_version_flag = true;
  subcommand_required = true;
}

-- before it has commands
abbrev pub bare_app : App
bare_app = record { top = record top_shape { is_leaf = true }; subs = [] }

-- the program with these commands, each with its name and its options
abbrev pub app_with : List (Text × List Text) → App
app_with table = record { top = top_shape; subs = map (λ c. command_shape c.0 c.1) table }

abbrev pub built_shape : Text × List Text → Shape
built_shape c = record (command_shape c.0 c.1) {
  rules = built_rules c.1;
  no_binary_name = true;
  disable_help_flag = true;
  disable_help_subcommand = true;
  disable_version_flag = true;
  is_built = true;
}

abbrev pub built_top : Shape
built_top = record top_shape { is_built = true }

abbrev pub built_app : List (Text × List Text) → App
built_app table = record { top = built_top; subs = map built_shape table }

-- one dash and more, but no second dash
abbrev pub is_short : Text → Bool
is_short [] = false
is_short (b ∷ []) = false
is_short (b ∷ c ∷ bs) = b == 45 && not (c == 45)

-- such a word before `--`
abbrev pub has_short : List Text → Bool
has_short [] = false
has_short (word ∷ words) = if bytes_eq word (45 ∷ 45 ∷ []) then false else (is_short word || has_short words)

-- the command of that name, with its options
abbrev pub command_named : Text → List (Text × List Text) → Option (Text × List Text)
command_named name table = find (λ c. bytes_eq c.0 name) table
