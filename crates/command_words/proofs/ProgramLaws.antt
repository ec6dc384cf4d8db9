-- What is built of the program, and what clap's account says of it.
use Rattle.std.proofs.Common.{◌≡◌, inl, inr, ℕ, zero, suc, ◌+◌, ◌&&◌, ◌<◌, not, Bool, true, false, List, [], ◌∷◌, ◌++◌, map, take, length, get_or, Option, Some, None, option_map, refl, sym, ap, ap₂, ◌∙◌, subst, arith, true≢false}
use Rattle.std.proofs.lemmas.List.{map_push, map_more}
use Rattle.std.proofs.lemmas.Option.{same_Some}
use Rattle.std.specs.Prelude.{find, unwrap_or}
use Rattle.std.specs.Borrow.{Bor}
use Rattle.std.specs.Str.{bytes_eq}
use Rattle.clap.specs.Faults.{fault_of, is_simple_and_free}
use Rattle.clap.specs.Kinds.{HasKind, Kinds}
use Rattle.clap.specs.Matches.{matched_of, raw_values}
use Rattle.clap.specs.Values.{kind_of}
use Rattle.clap.specs.declared.error.Error.{Error}
use Rattle.clap.specs.declared.error.kind.ErrorKind.TheVariants.{OutOfMemory}
use Rattle.clap.specs.declared.parser.matches.Found.{Found}
use Rattle.clap.specs.Simple.{App, is_simple, new_shape, subcommand_of, with_rule, with_subcommand}
use Rattle.clap.specs.Walk.{Row, Rule, Text, row_of, rows_of}
use Rattle.clap.specs.Facts.{Entry}
use Rattle.command_words.specs.declared.command_name.CommandName.{CommandName}
use Rattle.command_words.specs.declared.settings.Setting.{Setting}
use Rattle.command_words.specs.declared.settings.Given.{Given}
use Rattle.command_words.specs.Commands.{app_with, command_shape, has_short, option_rule, values_in}
use Rattle.command_words.specs.Settings.{name_of, IsValue}
use Rattle.command_words.specs.Split.{AreAll, IsSplit, TakesNumbers, commands, given_with, options_of}
use Rattle.command_words.specs.Words.{name_of_command}
use Rattle.command_words.proofs.GivenLaws.{one_taken}
use Rattle.command_words.proofs.JobLaws.{account_split}

-- a command with options so far
abbrev pub started : Text → List Text → App
started name options = record { top = record (new_shape name) { rules = map option_rule options }; subs = [] }

pub one_more : (name : Text) (options : List Text) (option : Text) → with_rule (started name options) (option_rule option) ≡ started name (options ++ option ∷ [])
one_more name options option = ap (λ (rules : List Rule). let app : App = record { top = record (new_shape name) { rules = rules }; subs = [] } in app) (sym (map_push option_rule options option))

-- the program with one command more
abbrev pub with_one : App → CommandName → App
with_one a c = with_subcommand a (command_shape (name_of_command c) (options_of c))

-- of tests that hold, the third is of what is not there
pub third : (a b g r : Bool) → (a && (not b && (not g && r))) ≡ true → g ≡ false
third true false false r h = refl
third true false true r h = absurd (true≢false (sym h))
third true true g r h = absurd (true≢false (sym h))
third false b g r h = absurd (true≢false (sym h))

-- the values of an argument by clap's entries and by its rows
pub raw_are : (entries : List Entry) (id : Text)
    → unwrap_or (option_map raw_values (option_map (λ (e : Entry). e.1) (find (λ (e : Entry). bytes_eq e.0.now id) entries))) []
    ≡ unwrap_or (option_map (λ (r : Row). r.values) (find (λ (r : Row). bytes_eq r.id id) (map row_of entries))) []
raw_are [] id = refl
raw_are (e ∷ entries) id = go (bytes_eq e.0.now id) refl (raw_are entries id)
  where
    go : (b : Bool) → bytes_eq e.0.now id ≡ b
        → unwrap_or (option_map raw_values (option_map (λ (x : Entry). x.1) (find (λ (x : Entry). bytes_eq x.0.now id) entries))) []
        ≡ unwrap_or (option_map (λ (r : Row). r.values) (find (λ (r : Row). bytes_eq r.id id) (map row_of entries))) []
        → unwrap_or (option_map raw_values (option_map (λ (x : Entry). x.1) (find (λ (x : Entry). bytes_eq x.0.now id) (e ∷ entries)))) []
        ≡ unwrap_or (option_map (λ (r : Row). r.values) (find (λ (r : Row). bytes_eq r.id id) (map row_of (e ∷ entries)))) []
    go true same rest = rw same refl
    go false other rest = rw other rest

pub raw_values_in : (f : Found) (id : Text) → unwrap_or (option_map raw_values (matched_of f id)) [] ≡ values_in id (rows_of f)
raw_values_in f id = raw_are f.entries.items id

pub commands_simple : is_simple (app_with commands) ≡ true
commands_simple = refl

pub commands_free : is_simple_and_free (app_with commands) ≡ true
commands_free = refl

-- ---- lists of texts, as far as a loop has come

pub option_added : (name : Text) (settings : List Setting) (i : ℕ) (d : Setting) (old new : App) → i < length settings
    → old ≡ started name (map name_of (take i settings)) → new ≡ with_rule old (option_rule (name_of (get_or settings i d)))
    → new ≡ started name (map name_of (take (i + 1) settings))
option_added name settings i d old new lt old_is new_is =
    new_is ∙ ap (λ (a : App). with_rule a (option_rule (name_of (get_or settings i d)))) old_is ∙ one_more name (map name_of (take i settings)) (name_of (get_or settings i d))
    ∙ ap (λ (os : List Text). started name os) (sym (map_more name_of settings i d lt))

pub number_at : (s : Setting) (texts : List (Bor Text)) (i : ℕ) (d : Bor Text) → AreAll s (map (λ t. t.now) texts) → i < length texts → (n : ℕ) × IsValue s (get_or texts i d).now n
number_at s [] i d all lt = absurd (omega arith)
number_at s (t ∷ texts) zero d all lt = all.0
number_at s (t ∷ texts) (suc i) d all lt = number_at s texts i d all.1 (omega arith)

pub text_taken : (s : Setting) (texts : List (Bor Text)) (old given new : List Given) (i : ℕ) (d : Bor Text) (bytes : Text) (n : ℕ)
    → TakesNumbers s (map (λ t. t.now) (take i texts)) old given → i < length texts
    → bytes ≡ (get_or texts i d).now → IsValue s bytes n → new ≡ given ++ given_with s n ∷ [] → TakesNumbers s (map (λ t. t.now) (take (i + 1) texts)) old new
text_taken s texts old given new i d bytes n takes lt bytes_are number new_are =
    let so_far = map (λ (t : Bor Text). t.now) (take i texts) in
    let number_is : IsValue s (get_or texts i d).now n = subst (λ (t : Text). IsValue s t n) bytes_are number in
    subst (λ (ts : List Text). TakesNumbers s ts old new) (sym (map_more (λ (t : Bor Text). t.now) texts i d lt))
    (subst (λ (gs : List Given). TakesNumbers s (so_far ++ (get_or texts i d).now ∷ []) old gs) (sym new_are) (one_taken s so_far old given (get_or texts i d).now n takes number_is))

-- ---- what a parse gives

pub no_kind : (e : Error) (kinds : Kinds) → kinds ≡ [] → HasKind kinds e → kind_of e ≡ OutOfMemory
no_kind e [] none (inl memory) = memory
no_kind e [] none (inr among) = absurd among
no_kind e (k ∷ kinds) none has = absurd (cc none)

module _ {B : Type 0} (name : B → Text) (rows : B → List Row) where
  abbrev both : B → Text × List Row
  both b = (name b, rows b)

  pub pair_of : (o : Option B) (n : Text) (rs : List Row) → Some n ≡ option_map name o → Some rs ≡ option_map (λ (p : Text × List Row). p.1) (option_map both o) → option_map both o ≡ Some (n, rs)
  pair_of None n rs first second = absurd (cc first)
  pair_of (Some b) n rs first second = ap₂ (λ (t : Text) (r : List Row). let row_of_text : Text × List Row = (t, r) in Some row_of_text) (sym (same_Some n (name b) first)) (sym (same_Some rs (rows b) second))

  pub no_pair : (o : Option B) (p : Text × List Row) → None ≡ option_map name o → option_map both o ≡ Some p → ⊥
  no_pair None p first second = absurd (cc second)
  no_pair (Some b) p first second = absurd (cc first)

pub is_split : (words : List Text) (command : Text) (rows : List Row) → has_short words ≡ false → fault_of (app_with commands) words ≡ []
    → subcommand_of (app_with commands) words ≡ Some (command, rows) → IsSplit words command rows
is_split words command rows no_short passes gives =
    let account = account_split words no_short passes in
    let same : (account.command, account.rows) ≡ (command, rows) = same_Some (account.command, account.rows) (command, rows) (sym account.gives ∙ gives) in
    subst (λ (p : Text × List Row). IsSplit words p.0 p.1) same account.split

pub some_texts : (f : Found) (id : Text) (texts : List Text) → Some texts ≡ option_map raw_values (matched_of f id) → texts ≡ values_in id (rows_of f)
some_texts f id texts given = ap (λ (o : Option (List Text)). unwrap_or o []) given ∙ raw_values_in f id

pub no_texts : (f : Found) (id : Text) → None ≡ option_map raw_values (matched_of f id) → [] ≡ values_in id (rows_of f)
no_texts f id none = ap (λ (o : Option (List Text)). unwrap_or o []) none ∙ raw_values_in f id
