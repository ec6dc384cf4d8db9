-- The command of a job, and its name.
use Rattle.std.proofs.Common.{◌≡◌, ℕ, Bool, true, false, List, [], ◌∷◌, Some, None, refl, sym, ap, ◌∙◌}
use Rattle.std.proofs.lemmas.Option.{same_Some}
use Rattle.std.proofs.lemmas.Slice.Eq.{bytes_eq-Decides}
use Rattle.std.specs.Prelude.{find}
use Rattle.std.specs.Str.{bytes_eq}
use Rattle.command_words.specs.declared.command_name.CommandName.{CommandName}
use Rattle.command_words.specs.declared.command_name.CommandName.TheVariants as command_name
use Rattle.command_words.specs.declared.settings.Given.{Given}
use Rattle.command_words.specs.declared.jobs.Job.{Job}
use Rattle.command_words.specs.declared.jobs.Job.TheVariants as job
use Rattle.command_words.specs.Split.{all_commands, command_of_name}
use Rattle.command_words.specs.Words.{name_of_command, IsJobOf}

-- ---- a command and its name

has_name : (c : CommandName) → command_of_name (name_of_command c) ≡ Some c
has_name command_name.Fix = refl
has_name c = refl

found_name : (commands : List CommandName) (name : List ℕ) (c : CommandName) → find (λ n. bytes_eq (name_of_command n) name) commands ≡ Some c → name ≡ name_of_command c
found_name [] name c h = absurd (cc h)
found_name (n ∷ commands) name c h = go (bytes_eq (name_of_command n) name) refl (λ e. found_name commands name c e)
  where
    go : (b : Bool) → bytes_eq (name_of_command n) name ≡ b → (find (λ m. bytes_eq (name_of_command m) name) commands ≡ Some c → name ≡ name_of_command c) → name ≡ name_of_command c
    go true same rest = sym ((bytes_eq-Decides (name_of_command n) name).0 same) ∙ ap name_of_command (same_Some n c (rw same at h))
    go false other rest = rest (rw other at h)

pub named_so : (name : List ℕ) (c : CommandName) → command_of_name name ≡ Some c → name ≡ name_of_command c
named_so name c h = found_name all_commands name c h

-- ---- the command of a job

abbrev pub command_name_of : Job → CommandName
command_name_of (job.Zero rows) = command_name.Zero
command_name_of (job.List obs) = command_name.List
command_name_of (job.Orbit nav system sat tick) = command_name.Orbit
command_name_of (job.Check cert) = command_name.Check
command_name_of (job.Residuals cert) = command_name.Residuals
command_name_of (job.Migrate cert) = command_name.Migrate
command_name_of (job.Fix base rover nav options) = command_name.Fix
command_name_of (job.Arcs base rover nav options) = command_name.Arcs
command_name_of (job.Sim part seed epochs sats bands system) = command_name.Sim
command_name_of (job.Track base rover nav options) = command_name.Track
command_name_of (job.CheckTrack cert) = command_name.CheckTrack

asked_so : (c : List ℕ) (p : List (List ℕ)) (g : List Given) (j : Job) → IsJobOf c p g j → c ≡ name_of_command (command_name_of j)
asked_so c p g (job.Orbit nav system sat tick) asked = asked.asked.command_is
asked_so c p g j asked = asked.command_is

-- a name is that of one command
pub one_command : (c : List ℕ) (p : List (List ℕ)) (g : List Given) (a b : Job) → IsJobOf c p g a → IsJobOf c p g b → command_name_of a ≡ command_name_of b
one_command c p g a b first second =
    same_Some (command_name_of a) (command_name_of b) (sym (has_name (command_name_of a)) ∙ ap command_of_name (sym (asked_so c p g a first) ∙ asked_so c p g b second) ∙ has_name (command_name_of b))

pub it_is : (n : CommandName) (p : List (List ℕ)) (g : List Given) (j : Job) → IsJobOf (name_of_command n) p g j → command_name_of j ≡ n
it_is n p g j asked = same_Some (command_name_of j) n (sym (has_name (command_name_of j)) ∙ ap command_of_name (sym (asked_so (name_of_command n) p g j asked)) ∙ has_name n)

-- no job of another name
pub no_command : (c : List ℕ) (p : List (List ℕ)) (g : List Given) → None ≡ command_of_name c → (j : Job) → IsJobOf c p g j → ⊥
no_command c p g none j asked = absurd (cc (none ∙ ap command_of_name (asked_so c p g j asked) ∙ has_name (command_name_of j)))
