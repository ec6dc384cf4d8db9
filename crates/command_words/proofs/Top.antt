-- What clap makes of the first word and of those after it.
use Rattle.std.proofs.Common.{◌≡◌, ◌==◌, ◌||◌, Bool, true, false, List, [], ◌∷◌, ◌++◌, map, append_assoc, append-nil, Option, Some, None, is_some, refl, sym, ap, ap₂, ◌∙◌, subst}
use Rattle.std.specs.Prelude.{fold, find, codes}
use Rattle.std.specs.Str.{bytes_eq}
use Rattle.clap.specs.Lexer.{long_of, short_of}
use Rattle.clap.specs.Walk.{Row, Rule, Held, Names, Text, idle, Walk, answers_to, nothing_held, rows_after, walk_from, walk, walked, settled_rows, with_default}
use Rattle.clap.specs.Simple.{App, Shape, built, built_leaf, entered, inherited, label_of, names_of, subcommand_of}
use Rattle.clap.specs.Kinds.{Kinds, or_else}
use Rattle.clap.specs.Faults.{built_fault, entered_fault, fault_of, level_fault, settle_fault, turn_fault, walk_fault, defaults_fault}
use Rattle.clap.proofs.FaultLemmas.{stopped_fault}
use Rattle.std.proofs.lemmas.Bool.{or_parts}
use Rattle.command_words.specs.Commands.{built_rules, IsCommand, at, Ends, built_shape, command_shape, built_top, built_app, app_with, start, is_short, has_short, command_named}
use Rattle.command_words.proofs.Leaf.{rules_built, is_it}
use Rattle.command_words.proofs.Steps.{never}

-- ---- after the command's name

stopped_walk : (c : List Rule) (names : Names) (h : Held) (name : Text) (front words : List Text)
    → fold (walked c names) (record (walk_from h) { stopped = Some (name, front) }) words ≡ record (walk_from h) { stopped = Some (name, front ++ words) }
unfolding walked
stopped_walk c names h name front [] = ap (λ (ws : List Text). record (walk_from h) { stopped = Some (name, ws) }) (sym (append-nil front))
stopped_walk c names h name front (word ∷ words) =
    stopped_walk c names h name (front ++ word ∷ []) words ∙ ap (λ (ws : List Text). record (walk_from h) { stopped = Some (name, ws) }) (append_assoc front (word ∷ []) words)

-- a command fails nowhere exactly where its walk ends so
pub leaf_passes : (s : Shape) (options : List Text) (words : List Text) (rows : List Row) → IsCommand s options → Ends s start words rows → level_fault s [] nothing_held words false [] ≡ []
leaf_passes s options words rows is ends = rw (ends.passes, ends.settled.passes, ends.settled.rows_are, is.defaults rows, is.finished rows, is.checked rows) refl

pub leaf_rows : (s : Shape) (options : List Text) (words : List Text) (rows : List Row) → IsCommand s options → Ends s start words rows → rows_after s.rules [] words ≡ rows
leaf_rows s options words rows is ends = ap (λ (rs : List Row). fold with_default rs s.rules) ends.settled.rows_are ∙ is.finished rows

parts : (a b : Kinds) → or_else a b ≡ [] → (a ≡ []) × (b ≡ [])
parts [] b h = (refl, h)
parts (k ∷ ks) b h = absurd (cc h)

-- the walk ends with some rows
pub record Ending (s : Shape) (words : List Text) : Type 0 where
  pub rows : List Row
  pub ends : Ends s start words rows

pub leaf_ends : (s : Shape) (words : List Text) → level_fault s [] nothing_held words false [] ≡ [] → Ending s words
leaf_ends s words h =
    let first = parts (walk_fault s [] start words) _ h in
    let second = parts (settle_fault s.rules s.args_override_self (walk s.rules [] nothing_held words).held) _ first.1 in
    record {
      rows = settled_rows s.rules (walk s.rules [] nothing_held words).held.pending (walk s.rules [] nothing_held words).held.rows;
      ends = record { passes = first.0; settled = record { rows_are = refl; passes = second.0 } };
    }

-- ---- the table of commands

-- the command with that name, among the built ones and among the names
pub record IsNamed (table : List (Text × List Text)) (name : Text) (options : List Text) : Type 0 where
  pub label : find (answers_to name) (map label_of (map built_shape table)) ≡ Some (name, [])
  pub shape : find (λ s. answers_to name (label_of s)) (map built_shape table) ≡ Some (built_shape (name, options))

named_here : (table : List (Text × List Text)) (c : Text × List Text) (name n : Text) (options : List Text) → bytes_eq c.0 name ≡ true → Some c ≡ Some (n, options) → IsNamed (c ∷ table) name options
named_here table c name n options same h =
    let first : c ≡ (n, options) = cc in
    let is_named : c.0 ≡ name = is_it c.0 name same in
    let its : c.1 ≡ options = ap (λ (p : Text × List Text). p.1) first in
    record {
      label = rw same (ap (λ (t : Text). Some (t, [])) is_named);
      shape = rw same (ap₂ (λ (t : Text) (o : List Text). Some (built_shape (t, o))) is_named its);
    }

pub named : (table : List (Text × List Text)) (name n : Text) (options : List Text) → command_named name table ≡ Some (n, options) → IsNamed table name options
named [] name n options h = absurd (cc h)
named (c ∷ table) name n options h = go (bytes_eq c.0 name) refl (λ e. named table name n options e)
  where
    go : (b : Bool) → bytes_eq c.0 name ≡ b → (command_named name table ≡ Some (n, options) → IsNamed table name options) → IsNamed (c ∷ table) name options
    go true same rest = named_here table c name n options same (rw same at h)
    go false other rest =
        let named_later = rest (rw other at h) in
        record { label = rw other named_later.label; shape = rw other named_later.shape }

pub name_found : (table : List (Text × List Text)) (name n : Text) (options : List Text) → command_named name table ≡ Some (n, options) → n ≡ name
name_found [] name n options h = absurd (cc h)
name_found (c ∷ table) name n options h = go (bytes_eq c.0 name) refl (λ e. name_found table name n options e)
  where
    first_is : Some c ≡ Some (n, options) → c ≡ (n, options)
    first_is e = cc

    go : (b : Bool) → bytes_eq c.0 name ≡ b → (command_named name table ≡ Some (n, options) → n ≡ name) → n ≡ name
    go true same rest = sym (ap (λ (p : Text × List Text). p.0) (first_is (rw same at h))) ∙ is_it c.0 name same
    go false other rest = rest (rw other at h)

pub unnamed : (table : List (Text × List Text)) (name : Text) → command_named name table ≡ None → find (answers_to name) (map label_of (map built_shape table)) ≡ None
unnamed [] name h = refl
unnamed (c ∷ table) name h = go (bytes_eq c.0 name) refl (λ e. unnamed table name e)
  where
    go : (b : Bool) → bytes_eq c.0 name ≡ b → (command_named name table ≡ None → find (answers_to name) (map label_of (map built_shape table)) ≡ None)
        → find (answers_to name) (map label_of (map built_shape (c ∷ table))) ≡ None
    go true same rest = absurd (cc (rw same at h))
    go false other rest = rw other (rest (rw other at h))

-- ---- the program as clap builds it

each_built : (c : Text × List Text) → built_leaf (inherited built_top (command_shape c.0 c.1)) ≡ built_shape c
each_built c = ap (λ (rules : List Rule). let shape : Shape = record (built_shape c) { rules = rules } in shape) (rules_built c.1)

all_built : (table : List (Text × List Text)) → map built_leaf (map (inherited built_top) (map (λ (c : Text × List Text). command_shape c.0 c.1) table)) ≡ map built_shape table
all_built [] = refl
all_built (c ∷ table) = ap₂ (λ (s : Shape) (ss : List Shape). s ∷ ss) (each_built c) (all_built table)

pub app_built : (table : List (Text × List Text)) → built (app_with table) ≡ built_app table
app_built table = ap (λ (subs : List Shape). let app : App = record { top = built_top; subs = subs } in app) (all_built table)

-- ---- the first word

or_nil : (a : Kinds) → or_else a [] ≡ a
or_nil [] = refl
or_nil (k ∷ ks) = refl

first_walked : (names : Names) (name : Text) → find (answers_to name) names ≡ Some (name, [])
    → walked [] names (walk_from nothing_held) name ≡ record (walk_from nothing_held) { stopped = Some (name, []) }
unfolding walked
first_walked names name found = rw found refl

whole_walk : (names : Names) (name : Text) (rest : List Text) → find (answers_to name) names ≡ Some (name, [])
    → walk [] names nothing_held (name ∷ rest) ≡ record (walk_from nothing_held) { stopped = Some (name, rest) }
whole_walk names name rest found = ap (λ (w : Walk). fold (walked [] names) w rest) (first_walked names name found) ∙ stopped_walk [] names nothing_held name [] rest

first_passes : (names : Names) (name : Text) → find (answers_to name) names ≡ Some (name, []) → turn_fault built_top names (walk_from nothing_held) name ≡ []
first_passes names name found = rw (found, never (bytes_eq name (codes "help"))) refl

walk_passes : (names : Names) (name : Text) (rest : List Text) → find (answers_to name) names ≡ Some (name, []) → walk_fault built_top names (walk_from nothing_held) (name ∷ rest) ≡ []
unfolding walk_fault
walk_passes names name rest found =
    rw (first_passes names name found) (ap (λ (w : Walk). walk_fault built_top names w rest) (first_walked names name found) ∙ stopped_fault built_top names (walk_from nothing_held) (name, []) rest)

-- the program fails as the command does
top_level : (names : Names) (name : Text) (rest : List Text) (below : Kinds) → find (answers_to name) names ≡ Some (name, [])
    → level_fault built_top names nothing_held (name ∷ rest) true below ≡ below
unfolding defaults_fault
top_level names name rest below found = rw (walk_passes names name rest found, whole_walk names name rest found) (or_nil below)

pub program_fails_as : (table : List (Text × List Text)) (name : Text) (options rest : List Text) → IsNamed table name options
    → fault_of (app_with table) (name ∷ rest) ≡ level_fault (built_shape (name, options)) [] nothing_held rest false []
program_fails_as table name options rest is =
    ap (λ (a : App). built_fault a nothing_held (name ∷ rest)) (app_built table)
    ∙ ap (λ (w : Walk). level_fault built_top (names_of (built_app table)) nothing_held (name ∷ rest) (is_some (entered (built_app table) w.stopped))
    (entered_fault (built_app table) w.stopped)) (whole_walk (names_of (built_app table)) name rest is.label)
    ∙ rw (is.shape) (top_level (names_of (built_app table)) name rest (level_fault (built_shape (name, options)) [] nothing_held rest false []) is.label)

pub program_gives : (table : List (Text × List Text)) (name : Text) (options rest : List Text) → IsNamed table name options
    → subcommand_of (app_with table) (name ∷ rest) ≡ Some (name, rows_after (built_rules options) [] rest)
program_gives table name options rest is =
    ap (λ (a : App). entered a (walk a.top.rules (names_of a) nothing_held (name ∷ rest)).stopped) (app_built table)
    ∙ ap (λ (w : Walk). entered (built_app table) w.stopped) (whole_walk (names_of (built_app table)) name rest is.label)
    ∙ rw (is.shape) refl

-- ---- words that name no command

pub not_short : (word : Text) → is_short word ≡ false → short_of word ≡ None
not_short [] h = refl
not_short (b ∷ []) h = go (b == 45) refl
  where
    go : (t : Bool) → (b == 45) ≡ t → short_of (b ∷ []) ≡ None
    go true e = rw e refl
    go false e = rw e refl
not_short (b ∷ c ∷ bs) h = go (b == 45) (c == 45) refl refl
  where
    go : (t u : Bool) → (b == 45) ≡ t → (c == 45) ≡ u → short_of (b ∷ c ∷ bs) ≡ None
    go true true e f = rw (e, f) refl
    go true false e f = absurd (cc (rw (e, f) at h))
    go false u e f = rw e refl

stray : (names : Names) (w : Text) → find (answers_to w) names ≡ None → bytes_eq w (45 ∷ 45 ∷ []) ≡ false → short_of w ≡ None → turn_fault built_top names start w ≡ [] → ⊥
stray names w none no_separator short h = go (long_of w) refl
  where
    go : (o : Option (Text × Option Text)) → long_of w ≡ o → ⊥
    go None e = absurd (cc (rw (none, no_separator, e, short) at h))
    go (Some p) e = absurd (cc (rw (none, no_separator, e) at h))

stray_behind : (names : Names) (w : Text) → turn_fault built_top names (at [] None 0 idle true) w ≡ [] → ⊥
stray_behind names w h = absurd (cc h)

-- what fails at its first word fails
walk_first : (s : Shape) (names : Names) (word : Text) (words : List Text) (has : Bool) (below : Kinds)
    → level_fault s names nothing_held (word ∷ words) has below ≡ [] → turn_fault s names (walk_from nothing_held) word ≡ []
unfolding walk_fault
walk_first s names word words has below h = (parts (turn_fault s names (walk_from nothing_held) word) _ ((parts (walk_fault s names (walk_from nothing_held) (word ∷ words)) _ h).0)).0

walk_second : (s : Shape) (names : Names) (word next : Text) (words : List Text) (has : Bool) (below : Kinds)
    → level_fault s names nothing_held (word ∷ next ∷ words) has below ≡ [] → turn_fault s names (walked s.rules names (walk_from nothing_held) word) next ≡ []
unfolding walk_fault
walk_second s names word next words has below h =
    let rest = (parts (turn_fault s names (walk_from nothing_held) word) _ ((parts (walk_fault s names (walk_from nothing_held) (word ∷ next ∷ words)) _ h).0)).1 in
    (parts (turn_fault s names (walked s.rules names (walk_from nothing_held) word) next) _ rest).0

trails : (names : Names) → find (answers_to (45 ∷ 45 ∷ [])) names ≡ None → walked [] names (walk_from nothing_held) (45 ∷ 45 ∷ []) ≡ at [] None 0 idle true
unfolding walked
trails names none = rw none refl

separator_alone : (table : List (Text × List Text)) → find (answers_to (45 ∷ 45 ∷ [])) (names_of (built_app table)) ≡ None → built_fault (built_app table) nothing_held ((45 ∷ 45 ∷ []) ∷ []) ≡ [] → ⊥
unfolding walk_fault walked defaults_fault
separator_alone table none h = absurd (cc (rw none at h))

separator_first : (table : List (Text × List Text)) (rest : List Text) → find (answers_to (45 ∷ 45 ∷ [])) (names_of (built_app table)) ≡ None
    → built_fault (built_app table) nothing_held ((45 ∷ 45 ∷ []) ∷ rest) ≡ [] → ⊥
separator_first table [] none h = separator_alone table none h
separator_first table (v ∷ rest) none h = stray_behind (names_of (built_app table)) v
    (subst (λ (w : Walk). turn_fault built_top (names_of (built_app table)) w v ≡ []) (trails (names_of (built_app table)) none)
    (walk_second built_top (names_of (built_app table)) (45 ∷ 45 ∷ []) v rest _ _ h))

no_words : (table : List (Text × List Text)) → built_fault (built_app table) nothing_held [] ≡ [] → ⊥
unfolding walk_fault defaults_fault
no_words table h = absurd (cc h)

-- the words are a command's name, and words that its walk passes
pub record Runs (table : List (Text × List Text)) (words : List Text) : Type 0 where
  pub name : Text
  pub options : List Text
  pub rest : List Text
  pub words_are : words ≡ name ∷ rest
  pub is : IsNamed table name options
  pub found : command_named name table ≡ Some (name, options)
  pub passes : level_fault (built_shape (name, options)) [] nothing_held rest false [] ≡ []

no_command : (table : List (Text × List Text)) (word : Text) (rest : List Text) → command_named word table ≡ None → has_short (word ∷ rest) ≡ false
    → built_fault (built_app table) nothing_held (word ∷ rest) ≡ [] → ⊥
no_command table word rest none no_short h = go (bytes_eq word (45 ∷ 45 ∷ [])) refl
  where
    go : (b : Bool) → bytes_eq word (45 ∷ 45 ∷ []) ≡ b → ⊥
    go true same = separator_first table rest (subst (λ (w : Text). find (answers_to w) (names_of (built_app table)) ≡ None) (is_it word (45 ∷ 45 ∷ []) same) (unnamed table word none))
        (subst (λ (w : Text). built_fault (built_app table) nothing_held (w ∷ rest) ≡ []) (is_it word (45 ∷ 45 ∷ []) same) h)
    go false other =
        let single : (is_short word || has_short rest) ≡ false = rw other at no_short in
        stray (names_of (built_app table)) word (unnamed table word none) other (not_short word (or_parts (is_short word) (has_short rest) single).0)
        (walk_first built_top (names_of (built_app table)) word rest _ _ h)

pub runs : (table : List (Text × List Text)) (words : List Text) → has_short words ≡ false → fault_of (app_with table) words ≡ [] → Runs table words
runs table [] no_short h = absurd (no_words table (sym (ap (λ (a : App). built_fault a nothing_held []) (app_built table)) ∙ h))
runs table (word ∷ rest) no_short h = go (command_named word table) refl
  where
    go : (o : Option (Text × List Text)) → command_named word table ≡ o → Runs table (word ∷ rest)
    go None none = absurd (no_command table word rest none no_short (sym (ap (λ (a : App). built_fault a nothing_held (word ∷ rest)) (app_built table)) ∙ h))
    go (Some c) found =
        let is = named table word c.0 c.1 found in
        record {
          name = word;
          options = c.1;
          rest = rest;
          words_are = refl;
          is = is;
          found = found ∙ ap (λ (n : Text). Some (n, c.1)) (name_found table word c.0 c.1 found);
          passes = sym (program_fails_as table word c.1 rest is) ∙ h;
        }
