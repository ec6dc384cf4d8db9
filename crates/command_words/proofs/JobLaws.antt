-- What clap's account of the program says of jobs.
use Rattle.std.proofs.Common.{◌≡◌, ℕ, ◌==◌, Bool, true, false, IsTrue, List, [], ◌∷◌, ◌++◌, map, append_assoc, Some, None, refl, sym, ap, ◌∙◌, subst, true≢false}
use Rattle.std.specs.Str.{bytes_eq}
use Rattle.std.proofs.lemmas.Slice.Eq.{bytes_eq-Decides}
use Rattle.clap.specs.Walk.{Row, Text}
use Rattle.clap.specs.Simple.{subcommand_of}
use Rattle.clap.specs.Faults.{fault_of}
use Rattle.command_words.specs.Commands.{word_id, is_among, IsCommand, values_in, Ends, has_short, built_shape, command_named, app_with, start}
use Rattle.command_words.specs.Split.{signal_settings, pair_settings, all_settings, commands, IsSplit, AreAll}
use Rattle.command_words.proofs.Steps.{nothing_pending}
use Rattle.command_words.proofs.Leaf.{is_command}
use Rattle.command_words.proofs.Top.{named, runs, program_fails_as, program_gives, leaf_passes, leaf_rows, leaf_ends}
use Rattle.command_words.proofs.SplitLaws.{Adds, AreKnown, passes, Knows, Found, found, neither, named_word, joined_word, value_word}
use Rattle.command_words.proofs.OtherLaws.{first_of_sim, none_behind}
use Rattle.command_words.specs.declared.command_name.CommandName.TheVariants as command_name
use Rattle.command_words.specs.declared.settings.Setting.{Setting}
use Rattle.command_words.specs.declared.settings.Setting.TheVariants.{Ratio, Budget, Bands, System}
use Rattle.command_words.specs.declared.settings.Given.{Given}
use Rattle.command_words.specs.declared.jobs.Job.{Job}
use Rattle.command_words.specs.declared.jobs.Job.TheVariants as job
use Rattle.command_words.specs.Settings.{name_of, is_of_sim, numbers_for, HasNoOthers}
use Rattle.command_words.specs.Parts.{Piece, Plain, Apart, Joined, is_ordinary, IsPiece, words_of_piece, ArePieces, words_of, plain_of, IsBehind, AreParted}
use Rattle.command_words.specs.Words.{name_of_command, IsPlainJob, IsJobOf, IsJob}

-- ---- the options of the commands

setting_among : (settings : List Setting) (name : Text) → is_among name (map name_of settings) ≡ true → (s : Setting) × (name ≡ name_of s)
setting_among [] name among = absurd (true≢false (sym among))
setting_among (s ∷ settings) name among = go (bytes_eq (name_of s) name) refl (λ h. setting_among settings name h)
  where
    go : (b : Bool) → bytes_eq (name_of s) name ≡ b → (is_among name (map name_of settings) ≡ true → (r : Setting) × (name ≡ name_of r)) → (r : Setting) × (name ≡ name_of r)
    go true same rest = (s, sym ((bytes_eq-Decides (name_of s) name).0 same))
    go false other rest = rest (rw other at among)

-- the options are settings, and none is the place of ordinary words
pub record AreSettings (options : List Text) : Type 0 where
  pub setting : (name : Text) → is_among name options ≡ true → (s : Setting) × (name ≡ name_of s)
  pub no_word : is_among word_id options ≡ false

of_all : AreSettings (map name_of all_settings)
of_all = record { setting = λ name among. setting_among all_settings name among; no_word = refl }

of_pairs : AreSettings (map name_of pair_settings)
of_pairs = record { setting = λ name among. setting_among pair_settings name among; no_word = refl }

of_signals : AreSettings (map name_of signal_settings)
of_signals = record { setting = λ name among. setting_among signal_settings name among; no_word = refl }

of_none : AreSettings []
of_none = record { setting = λ name among. absurd (true≢false (sym among)); no_word = refl }

abbrev AllSettings : List (Text × List Text) → Type 0
AllSettings [] = Unit {0}
AllSettings (c ∷ table) = AreSettings c.1 × AllSettings table

table_settings : (table : List (Text × List Text)) (name n : Text) (options : List Text) → AllSettings table → command_named name table ≡ Some (n, options) → AreSettings options
table_settings [] name n options all h = absurd (cc h)
table_settings (c ∷ table) name n options all h = go (bytes_eq c.0 name) refl (λ e. table_settings table name n options all.1 e)
  where
    first_is : Some c ≡ Some (n, options) → c ≡ (n, options)
    first_is e = cc

    go : (b : Bool) → bytes_eq c.0 name ≡ b → (command_named name table ≡ Some (n, options) → AreSettings options) → AreSettings options
    go true same rest = subst AreSettings (ap (λ (p : Text × List Text). p.1) (first_is (rw same at h))) all.0
    go false other rest = rest (rw other at h)

their_settings : (name n : Text) (options : List Text) → command_named name commands ≡ Some (n, options) → AreSettings options
their_settings name n options h = table_settings commands name n options (of_all, (of_pairs, (of_none, (of_none, (of_none, (of_none, (of_none, (of_signals, (of_none, (of_all, (of_none, tt))))))))))) h

pub its_command : (command : Text) (options : List Text) → command_named command commands ≡ Some (command, options) → IsCommand (built_shape (command, options)) options
its_command command options h = is_command (built_shape (command, options)) options refl (their_settings command command options h).no_word refl refl refl

-- ---- a split and clap's account

pub split_account : (words : List Text) (command : Text) (rows : List Row) → IsSplit words command rows
    → (fault_of (app_with commands) words ≡ []) × (subcommand_of (app_with commands) words ≡ Some (command, rows))
split_account words command rows is =
    let its = its_command command is.options is.found in
    let named_so = named commands command command is.options is.found in (
      ap (λ (ws : List Text). fault_of (app_with commands) ws) is.words_are ∙ program_fails_as commands command is.options is.rest named_so
          ∙ leaf_passes (built_shape (command, is.options)) is.options is.rest rows its is.ends,
      ap (λ (ws : List Text). subcommand_of (app_with commands) ws) is.words_are ∙ program_gives commands command is.options is.rest named_so
          ∙ ap (λ (rs : List Row). Some (command, rs)) (leaf_rows (built_shape (command, is.options)) is.options is.rest rows its is.ends),
    )

pub record IsAccounted (words : List Text) : Type 0 where
  pub command : Text
  pub rows : List Row
  pub split : IsSplit words command rows
  pub gives : subcommand_of (app_with commands) words ≡ Some (command, rows)

pub account_split : (words : List Text) → has_short words ≡ false → fault_of (app_with commands) words ≡ [] → IsAccounted words
account_split words no_short passes =
    let run = runs commands words no_short passes in
    let ending = leaf_ends (built_shape (run.name, run.options)) run.rest run.passes in
    let split : IsSplit words run.name ending.rows = record { options = run.options; rest = run.rest; words_are = run.words_are; found = run.found; no_short = no_short; ends = ending.ends } in
    record { command = run.name; rows = ending.rows; split = split; gives = (split_account words run.name ending.rows split).1 }

-- ---- jobs

-- a command's name is no flag
no_flag : (command : Text) (options rest : List Text) → command_named command commands ≡ Some (command, options) → has_short (command ∷ rest) ≡ false → has_short rest ≡ false
no_flag command options rest found h = go (bytes_eq command (45 ∷ 45 ∷ [])) refl
  where
    go : (b : Bool) → bytes_eq command (45 ∷ 45 ∷ []) ≡ b → has_short rest ≡ false
    go false e = (neither command rest e h).1
    go true e = absurd (cc (sym (ap (λ (c : Text). command_named c commands) ((bytes_eq-Decides command (45 ∷ 45 ∷ [])).0 e)) ∙ found))

-- the words that clap splits are parted, where what it finds for options are numbers
pub split_parted : (words : List Text) (command : Text) (rows : List Row) (is : IsSplit words command rows) → ((s : Setting) → AreAll s (values_in (name_of s) rows)) → Found is.rest [] rows
split_parted words command rows is numbers =
    let shape = built_shape (command, is.options) in
    let knows : Knows shape is.options rows = record { is = its_command command is.options is.found; setting = (their_settings command command is.options is.found).setting; numbers = numbers } in
    found shape is.options rows 0 knows is.rest [] [] None false (nothing_pending shape [] 0)
    (no_flag command is.options is.rest is.found (sym (ap has_short is.words_are) ∙ is.no_short)) is.ends

-- what a job's words are to clap
pub record IsClapJob (words : List Text) (command : Text) (behind plain : List Text) (given : List Given) : Type 0 where
  pub rows : List Row
  pub split : IsSplit words command rows
  pub adds : Adds [] rows plain given

ordinary_is_long : (word : Text) (words : List Text) → IsTrue (is_ordinary word) → has_short words ≡ false → has_short (word ∷ words) ≡ false
ordinary_is_long [] words is h = h
ordinary_is_long (b ∷ []) words is h = go (bytes_eq (b ∷ []) (45 ∷ 45 ∷ [])) refl
  where
    go : (t : Bool) → bytes_eq (b ∷ []) (45 ∷ 45 ∷ []) ≡ t → has_short ((b ∷ []) ∷ words) ≡ false
    go true e = rw e refl
    go false e = rw e h
ordinary_is_long (b ∷ c ∷ bs) words is h = go (b == 45) (bytes_eq (b ∷ c ∷ bs) (45 ∷ 45 ∷ [])) refl refl
  where
    go : (t u : Bool) → (b == 45) ≡ t → bytes_eq (b ∷ c ∷ bs) (45 ∷ 45 ∷ []) ≡ u → has_short ((b ∷ c ∷ bs) ∷ words) ≡ false
    go t true e f = rw f refl
    go false false e f = rw (f, e) h
    go true false e f = absurd (cc (rw e at is))

piece_is_long : (p : Piece) (words : List Text) → IsPiece p → has_short words ≡ false → has_short (words_of_piece p ++ words) ≡ false
piece_is_long (Plain word) words is h = ordinary_is_long word words is h
piece_is_long (Apart s d n) words is h = rw ((named_word s).0) (ordinary_is_long d words (value_word s d n is) h)
piece_is_long (Joined s d n) words is h = rw ((joined_word s d).0) h

all_long : (pieces : List Piece) (behind further : List Text) → ArePieces pieces → IsBehind behind further → has_short (words_of pieces ++ behind) ≡ false
all_long [] [] further are is = refl
all_long [] (word ∷ words) further are is = subst (λ (w : Text). has_short (w ∷ words) ≡ false) (sym is.0) refl
all_long (p ∷ pieces) behind further are is =
    ap has_short (append_assoc (words_of_piece p) (words_of pieces) behind) ∙ piece_is_long p (words_of pieces ++ behind) are.0 (all_long pieces behind further are.1 is)

-- the command is in the table, with the options that are given
pub record InTable (command : Text) (given : List Given) : Type 0 where
  pub options : List Text
  pub found : command_named command commands ≡ Some (command, options)
  pub known : AreKnown options given
  pub long : (words : List Text) → has_short (command ∷ words) ≡ has_short words

plain_in_table : (name : Text) (words : List Text) (command : Text) (plain : List Text) (given : List Given)
    → command_named name commands ≡ Some (name, []) → ((ws : List Text) → has_short (name ∷ ws) ≡ has_short ws)
    → IsPlainJob name words command plain given → InTable command given
plain_in_table name words command plain given found long asked = subst (λ (c : Text). InTable c given) (sym asked.command_is)
    (subst (λ (g : List Given). InTable name g) (sym asked.none_given) (record { options = []; found = found; known = tt; long = long }))

among_all : (s : Setting) → is_among (name_of s) (map name_of all_settings) ≡ true
among_all Ratio = refl
among_all s = refl

any_known : (given : List Given) → AreKnown (map name_of all_settings) given
any_known [] = tt
any_known (g ∷ given) = (among_all g.setting, any_known given)

-- neither a ratio nor a budget
pub record IsPairs (s : Setting) (given : List Given) : Type 0 where
  pub among : is_among (name_of s) (map name_of pair_settings) ≡ true
  pub no_ratio : numbers_for Ratio given ≡ []
  pub no_budget : numbers_for Budget given ≡ []

one_known : (s : Setting) (n : ℕ) (given : List Given) → numbers_for Ratio (record { setting = s; number = n } ∷ given) ≡ []
    → numbers_for Budget (record { setting = s; number = n } ∷ given) ≡ [] → IsPairs s given
one_known Ratio n given h also = absurd (cc h)
one_known Budget n given h also = absurd (cc also)
one_known s n given h also = record { among = refl; no_ratio = h; no_budget = also }

pairs_known : (given : List Given) → numbers_for Ratio given ≡ [] → numbers_for Budget given ≡ [] → AreKnown (map name_of pair_settings) given
pairs_known [] h also = tt
pairs_known (g ∷ given) h also =
    let one = one_known g.setting g.number given h also in
    (one.among, pairs_known given one.no_ratio one.no_budget)

among_signals : (s : Setting) → is_of_sim s ≡ true → is_among (name_of s) (map name_of signal_settings) ≡ true
among_signals Bands own = refl
among_signals System own = refl
among_signals s own = absurd (true≢false (sym own))

signals_known : (given : List Given) → HasNoOthers given → AreKnown (map name_of signal_settings) given
signals_known [] none = tt
signals_known (g ∷ given) none =
    let own = first_of_sim g given none in
    (among_signals g.setting own, signals_known given (none_behind g given own none))

in_table : (command : Text) (plain : List Text) (given : List Given) (j : Job) → IsJobOf command plain given j → InTable command given
in_table command plain given (job.Zero rows) asked = plain_in_table (name_of_command command_name.Zero) (rows ∷ []) command plain given refl (λ ws. refl) asked
in_table command plain given (job.List obs) asked = plain_in_table (name_of_command command_name.List) (obs ∷ []) command plain given refl (λ ws. refl) asked
in_table command plain given (job.Check cert) asked = plain_in_table (name_of_command command_name.Check) (cert ∷ []) command plain given refl (λ ws. refl) asked
in_table command plain given (job.Residuals cert) asked = plain_in_table (name_of_command command_name.Residuals) (cert ∷ []) command plain given refl (λ ws. refl) asked
in_table command plain given (job.Migrate cert) asked = plain_in_table (name_of_command command_name.Migrate) (cert ∷ []) command plain given refl (λ ws. refl) asked
in_table command plain given (job.Orbit nav system sat tick) asked = plain_in_table (name_of_command command_name.Orbit) (nav ∷ asked.sat_word ∷ asked.tick_word ∷ []) command plain given refl (λ ws. refl) asked.asked
in_table command plain given (job.Sim part seed epochs sats bands system) asked = subst (λ (c : Text). InTable c given) (sym asked.command_is)
    (record { options = map name_of signal_settings; found = refl; known = signals_known given asked.choice.no_others; long = λ ws. refl })
in_table command plain given (job.Fix base rover nav options) asked = subst (λ (c : Text). InTable c given) (sym asked.command_is)
    (record { options = map name_of all_settings; found = refl; known = any_known given; long = λ ws. refl })
in_table command plain given (job.Track base rover nav options) asked = subst (λ (c : Text). InTable c given) (sym asked.command_is)
    (record { options = map name_of all_settings; found = refl; known = any_known given; long = λ ws. refl })
in_table command plain given (job.CheckTrack cert) asked = plain_in_table (name_of_command command_name.CheckTrack) (cert ∷ []) command plain given refl (λ ws. refl) asked
in_table command plain given (job.Arcs base rover nav options) asked = subst (λ (c : Text). InTable c given) (sym asked.command_is)
    (record { options = map name_of pair_settings; found = refl; known = pairs_known given asked.options.no_ratio asked.options.no_budget; long = λ ws. refl })

clap_job : (command : Text) (behind plain : List Text) (given : List Given) → InTable command given → AreParted behind plain given → IsClapJob (command ∷ behind) command behind plain given
clap_job command behind plain given table parted =
    let shape = built_shape (command, table.options) in
    let passed = passes shape table.options [] [] None 0 false parted.pieces parted.behind parted.further (its_command command table.options table.found)
    (nothing_pending shape [] 0) parted.are_pieces parted.is_behind
    (subst (λ (g : List Given). AreKnown table.options g) parted.given_are table.known) in
    record {
      rows = passed.final;
      split = record {
        options = table.options;
        rest = behind;
        words_are = refl;
        found = table.found;
        no_short = table.long behind ∙ ap has_short parted.words_are ∙ all_long parted.pieces parted.behind parted.further parted.are_pieces parted.is_behind;
        ends = subst (λ (ws : List Text). Ends shape start ws passed.final) (sym parted.words_are) passed.ends;
      };
      adds = subst (λ (ws : List Text). Adds [] passed.final ws given) (sym parted.plain_are)
          (subst (λ (g : List Given). Adds [] passed.final (plain_of parted.pieces ++ parted.further) g) (sym parted.given_are) passed.adds);
    }

-- clap splits the words of a job, into the words and numbers by which they are one
pub job_split : (words : List Text) (j : Job) (is : IsJob words j) → IsClapJob words is.command is.behind is.plain is.given
job_split words j is = subst (λ (ws : List Text). IsClapJob ws is.command is.behind is.plain is.given) (sym is.words_are)
    (clap_job is.command is.behind is.plain is.given (in_table is.command is.plain is.given j is.asked) is.parted)
