-- Lists of options with the same numbers ask for the same job.
use Rattle.std.proofs.Common.{◌≡◌, ◌≢◌, ℕ, ◌+◌, ◌<◌, ◌≤◌, Bool, true, false, List, [], ◌∷◌, ◌++◌, map, append_assoc, append-nil, refl, sym, ap, ap₂, ◌∙◌, subst, arith}
use Rattle.std.proofs.lemmas.Bool.Decides.{nat_tests}
use Rattle.clap.specs.Walk.{Row, Text}
use Rattle.command_words.specs.Commands.{values_in}
use Rattle.command_words.specs.Split.{AreNumbers, AreAll, TakesNumbers, given_with}
use Rattle.command_words.specs.declared.command_name.CommandName.TheVariants as command_name
use Rattle.command_words.specs.declared.settings.Setting.{Setting}
use Rattle.command_words.specs.declared.settings.Setting.TheVariants.{Ratio, Budget, Mask, Gap, Jump, Arc, Step, First, Count, Bands, System}
use Rattle.command_words.specs.declared.settings.Given.{Given}
use Rattle.command_words.specs.declared.jobs.Job.{Job}
use Rattle.command_words.specs.declared.jobs.Job.TheVariants as job
use Rattle.obs_rows.specs.Ranges.{IsSystem}
use Rattle.obs_rows.specs.declared.limits.TheConstants.{MOST_PAIRS, MOST_RATIO, MOST_BUDGET}
use Rattle.obs_rows.specs.declared.defaults.TheConstants.{DEFAULT_SYSTEM, DEFAULT_RATIO, DEFAULT_BUDGET, DEFAULT_MASK, DEFAULT_GAP, DEFAULT_JUMP, DEFAULT_ARC, DEFAULT_STEP, DEFAULT_FIRST, DEFAULT_COUNT}
use Rattle.obs_rows.specs.Defaults.{default_bands}
use Rattle.command_words.specs.Settings.{name_of, place_of, is_same, numbers_for, AreBandsOf, IsChosenBy, IsSetBy, IsSignalChoice, IsValue, AreOptions}
use Rattle.command_words.specs.Words.{name_of_command, IsPlainJob, IsJobOf}
use Rattle.obs_rows.specs.declared.options.Options.{Options}
use Rattle.command_words.proofs.SettingLaws.{one_value}
use Rattle.command_words.proofs.SplitLaws.{is_itself, same_setting}

pub one_numbers : (s : Setting) (texts : List Text) (ms ns : List ℕ) → AreNumbers s texts ms → AreNumbers s texts ns → ms ≡ ns
one_numbers s [] [] [] first second = refl
one_numbers s [] [] (n ∷ ns) first second = absurd second
one_numbers s [] (m ∷ ms) ns first second = absurd first
one_numbers s (t ∷ texts) [] ns first second = absurd first
one_numbers s (t ∷ texts) (m ∷ ms) [] first second = absurd second
one_numbers s (t ∷ texts) (m ∷ ms) (n ∷ ns) first second = ap₂ (λ (k : ℕ) (ks : List ℕ). k ∷ ks) (one_value s t m n first.0 second.0) (one_numbers s texts ms ns first.1 second.1)

pub all_numbers : (s : Setting) (texts : List Text) (ns : List ℕ) → AreNumbers s texts ns → AreAll s texts
all_numbers s [] ns are = tt
all_numbers s (t ∷ texts) [] are = absurd are
all_numbers s (t ∷ texts) (n ∷ ns) are = ((n, are.0), all_numbers s texts ns are.1)

none_left : (given : List Given) → ((s : Setting) → numbers_for s given ≡ []) → given ≡ []
none_left [] none = refl
none_left (g ∷ given) none = absurd (cc (rw (is_itself g.setting) at (none g.setting)))

module _ (g h : List Given) (same : (s : Setting) → numbers_for s g ≡ numbers_for s h) where
  same_choice : (system bands : ℕ) → IsSignalChoice g system bands → IsSignalChoice h system bands
  same_choice system bands is = record {
    system_is = subst (λ (vs : List ℕ). IsChosenBy vs IsSystem DEFAULT_SYSTEM system) (same System) is.system_is;
    bands_are = subst (λ (vs : List ℕ). IsChosenBy vs (AreBandsOf system) (default_bands system) bands) (same Bands) is.bands_are;
  }

  same_options : (o : Options) → AreOptions g o → AreOptions h o
  same_options o is = record {
    ratio = subst (λ (vs : List ℕ). IsSetBy vs 1000 MOST_RATIO DEFAULT_RATIO o.ratio) (same Ratio) is.ratio;
    budget = subst (λ (vs : List ℕ). IsSetBy vs 1 MOST_BUDGET DEFAULT_BUDGET o.budget) (same Budget) is.budget;
    mask = subst (λ (vs : List ℕ). IsSetBy vs 0 900 DEFAULT_MASK o.mask) (same Mask) is.mask;
    gap = subst (λ (vs : List ℕ). IsSetBy vs 0 5000000 DEFAULT_GAP o.gap) (same Gap) is.gap;
    jump = subst (λ (vs : List ℕ). IsSetBy vs 1 1000 DEFAULT_JUMP o.jump) (same Jump) is.jump;
    arc = subst (λ (vs : List ℕ). IsSetBy vs 2 MOST_PAIRS DEFAULT_ARC o.arc) (same Arc) is.arc;
    step = subst (λ (vs : List ℕ). IsSetBy vs 1 1000 DEFAULT_STEP o.step) (same Step) is.step;
    first = subst (λ (vs : List ℕ). IsSetBy vs 0 19999 DEFAULT_FIRST o.first) (same First) is.first;
    count = subst (λ (vs : List ℕ). IsSetBy vs 1 MOST_PAIRS DEFAULT_COUNT o.count) (same Count) is.count;
    choice = same_choice o.system o.bands is.choice;
  }

  same_plain : (name : List ℕ) (words : List (List ℕ)) (command : List ℕ) (plain : List (List ℕ)) → IsPlainJob name words command plain g → IsPlainJob name words command plain h
  same_plain name words command plain is = record {
    command_is = is.command_is;
    plain_are = is.plain_are;
    none_given = none_left h (λ s. sym (same s) ∙ ap (λ (gs : List Given). numbers_for s gs) is.none_given);
  }

  pub same_job : (command : List ℕ) (plain : List (List ℕ)) (j : Job) → IsJobOf command plain g j → IsJobOf command plain h j
  same_job command plain (job.Zero rows) is = same_plain (name_of_command command_name.Zero) (rows ∷ []) command plain is
  same_job command plain (job.List obs) is = same_plain (name_of_command command_name.List) (obs ∷ []) command plain is
  same_job command plain (job.Check cert) is = same_plain (name_of_command command_name.Check) (cert ∷ []) command plain is
  same_job command plain (job.Residuals cert) is = same_plain (name_of_command command_name.Residuals) (cert ∷ []) command plain is
  same_job command plain (job.Migrate cert) is = same_plain (name_of_command command_name.Migrate) (cert ∷ []) command plain is
  same_job command plain (job.Orbit nav system sat tick) is = record {
    sat_word = is.sat_word;
    tick_word = is.tick_word;
    asked = same_plain (name_of_command command_name.Orbit) (nav ∷ is.sat_word ∷ is.tick_word ∷ []) command plain is.asked;
    satellite = is.satellite;
    number = is.number;
  }
  same_job command plain (job.Sim part seed epochs sats bands system) is = record {
    command_is = is.command_is;
    part_word = is.part_word;
    seed_word = is.seed_word;
    epochs_word = is.epochs_word;
    sats_word = is.sats_word;
    plain_are = is.plain_are;
    is = is.is;
    choice = record { choice = same_choice system bands is.choice.choice; no_others = λ s other. sym (same s) ∙ is.choice.no_others s other };
  }
  same_job command plain (job.Fix base rover nav options) is = record { command_is = is.command_is; plain_are = is.plain_are; options = same_options options is.options }
  same_job command plain (job.Track base rover nav options) is = record { command_is = is.command_is; plain_are = is.plain_are; options = same_options options is.options }
  same_job command plain (job.CheckTrack cert) is = same_plain (name_of_command command_name.CheckTrack) (cert ∷ []) command plain is
  same_job command plain (job.Arcs base rover nav options) is = record {
    command_is = is.command_is;
    plain_are = is.plain_are;
    options = record {
      options = same_options options is.options.options;
      no_ratio = sym (same Ratio) ∙ is.options.no_ratio;
      no_budget = sym (same Budget) ∙ is.options.no_budget;
    };
  }

-- ---- numbers that are taken

numbers_append : (s : Setting) (xs ys : List Given) → numbers_for s (xs ++ ys) ≡ numbers_for s xs ++ numbers_for s ys
numbers_append s [] ys = refl
numbers_append s (g ∷ xs) ys = go (is_same g.setting s) refl (numbers_append s xs ys)
  where
    go : (b : Bool) → is_same g.setting s ≡ b → numbers_for s (xs ++ ys) ≡ numbers_for s xs ++ numbers_for s ys → numbers_for s (g ∷ (xs ++ ys)) ≡ numbers_for s (g ∷ xs) ++ numbers_for s ys
    go true e rest = rw e (ap (λ (ns : List ℕ). g.number ∷ ns) rest)
    go false e rest = rw e rest

own_numbers : (s : Setting) (ns : List ℕ) → numbers_for s (map (given_with s) ns) ≡ ns
own_numbers s [] = refl
own_numbers s (n ∷ ns) = rw (is_itself s) (ap (λ (ks : List ℕ). n ∷ ks) (own_numbers s ns))

other_numbers : (s r : Setting) (ns : List ℕ) → is_same s r ≡ false → numbers_for r (map (given_with s) ns) ≡ []
other_numbers s r [] other = refl
other_numbers s r (n ∷ ns) other = rw other (other_numbers s r ns other)

map_push : (s : Setting) (ns : List ℕ) (n : ℕ) → map (given_with s) (ns ++ n ∷ []) ≡ map (given_with s) ns ++ given_with s n ∷ []
map_push s [] n = refl
map_push s (m ∷ ns) n = ap (λ (gs : List Given). given_with s m ∷ gs) (map_push s ns n)

numbers_push : (s : Setting) (texts : List Text) (ns : List ℕ) (t : Text) (n : ℕ) → AreNumbers s texts ns → IsValue s t n → AreNumbers s (texts ++ t ∷ []) (ns ++ n ∷ [])
numbers_push s [] [] t n are is = (is, tt)
numbers_push s [] (m ∷ ns) t n are is = absurd are
numbers_push s (u ∷ texts) [] t n are is = absurd are
numbers_push s (u ∷ texts) (m ∷ ns) t n are is = (are.0, numbers_push s texts ns t n are.1 is)

pub none_taken : (s : Setting) (old : List Given) → TakesNumbers s [] old old
none_taken s old = record { numbers = []; are = tt; new_are = sym (append-nil old) }

pub one_taken : (s : Setting) (texts : List Text) (old new : List Given) (t : Text) (n : ℕ) → TakesNumbers s texts old new → IsValue s t n
    → TakesNumbers s (texts ++ t ∷ []) old (new ++ given_with s n ∷ [])
one_taken s texts old new t n is number = record {
  numbers = is.numbers ++ n ∷ [];
  are = numbers_push s texts is.numbers t n is.are number;
  new_are = ap (λ (gs : List Given). gs ++ given_with s n ∷ []) is.new_are ∙ append_assoc old (map (given_with s) is.numbers) (given_with s n ∷ [])
      ∙ ap (λ (gs : List Given). old ++ gs) (sym (map_push s is.numbers n));
}

-- so far: the settings before a place have their numbers, and the others none
pub record HasUpTo (rows : List Row) (given : List Given) (place : ℕ) : Type 0 where
  pub before : (s : Setting) → place_of s < place → AreNumbers s (values_in (name_of s) rows) (numbers_for s given)
  pub behind : (s : Setting) → place ≤ place_of s → numbers_for s given ≡ []

pub next_taken : (rows : List Row) (old new : List Given) (s : Setting) → HasUpTo rows old (place_of s) → TakesNumbers s (values_in (name_of s) rows) old new → HasUpTo rows new (place_of s + 1)
next_taken rows old new s has takes = record {
  before = λ r lt. of_before r lt (is_same s r) refl;
  behind = λ r le. numbers r ∙ ap (λ (ns : List ℕ). ns ++ numbers_for r (map (given_with s) takes.numbers)) (has.behind r (omega arith))
      ∙ other_numbers s r takes.numbers (apart r le (is_same s r) refl);
}
  where
    numbers : (r : Setting) → numbers_for r new ≡ numbers_for r old ++ numbers_for r (map (given_with s) takes.numbers)
    numbers r = ap (λ (gs : List Given). numbers_for r gs) takes.new_are ∙ numbers_append r old (map (given_with s) takes.numbers)

    apart : (r : Setting) → place_of s + 1 ≤ place_of r → (b : Bool) → is_same s r ≡ b → b ≡ false
    apart r le false e = refl
    apart r le true e = let same : place_of s ≡ place_of r = ap place_of (same_setting s r e) in absurd (omega arith)

    less : (r : Setting) → place_of r < place_of s + 1 → is_same s r ≡ false → place_of r < place_of s
    less r lt e = let places_differ : place_of s ≢ place_of r = grind (arith, nat_tests) in omega arith

    of_before : (r : Setting) → place_of r < place_of s + 1 → (b : Bool) → is_same s r ≡ b → AreNumbers r (values_in (name_of r) rows) (numbers_for r new)
    of_before r lt true e =
        let is_same_setting : s ≡ r = same_setting s r e in
        let own : numbers_for s new ≡ takes.numbers =
        numbers s ∙ ap (λ (ns : List ℕ). ns ++ numbers_for s (map (given_with s) takes.numbers)) (has.behind s (omega arith))
        ∙ own_numbers s takes.numbers in
        subst (λ (t : Setting). AreNumbers t (values_in (name_of t) rows) (numbers_for t new)) is_same_setting (subst (λ (ns : List ℕ). AreNumbers s (values_in (name_of s) rows) ns) (sym own) takes.are)
    of_before r lt false e =
        let kept : numbers_for r new ≡ numbers_for r old = numbers r ∙ ap (λ (ns : List ℕ). numbers_for r old ++ ns) (other_numbers s r takes.numbers e) ∙ append-nil (numbers_for r old) in
        subst (λ (ns : List ℕ). AreNumbers r (values_in (name_of r) rows) ns) (sym kept) (has.before r (less r lt e))
