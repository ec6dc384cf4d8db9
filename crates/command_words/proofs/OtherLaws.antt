-- Whether other settings are given than those of a simulated session.
use Rattle.std.proofs.Common.{◌≡◌, Bool, true, false, List, [], ◌∷◌, refl, sym, ap, ◌∙◌, true≢false}
use Rattle.command_words.specs.declared.settings.Setting.{Setting}
use Rattle.command_words.specs.declared.settings.Given.{Given}
use Rattle.command_words.specs.Settings.{is_same, is_of_sim, are_of_sim, numbers_for, HasNoOthers}
use Rattle.command_words.proofs.SplitLaws.{is_itself, same_setting}

pub first_of_sim : (g : Given) (given : List Given) → HasNoOthers (g ∷ given) → is_of_sim g.setting ≡ true
first_of_sim g given none = go (is_of_sim g.setting) refl
  where
    go : (b : Bool) → is_of_sim g.setting ≡ b → b ≡ true
    go true e = refl
    go false e = absurd (cc (rw (is_itself g.setting) at (none g.setting e)))

-- a setting of a simulated session is no other
apart : (g : Given) (s : Setting) → is_of_sim g.setting ≡ true → is_of_sim s ≡ false → is_same g.setting s ≡ false
apart g s own other = go (is_same g.setting s) refl
  where
    go : (b : Bool) → is_same g.setting s ≡ b → b ≡ false
    go false e = refl
    go true e = absurd (true≢false (sym own ∙ ap is_of_sim (same_setting g.setting s e) ∙ other))

same_others : (g : Given) (given : List Given) (s : Setting) → is_of_sim g.setting ≡ true → is_of_sim s ≡ false → numbers_for s (g ∷ given) ≡ numbers_for s given
same_others g given s own other = rw (apart g s own other) refl

pub none_behind : (g : Given) (given : List Given) → is_of_sim g.setting ≡ true → HasNoOthers (g ∷ given) → HasNoOthers given
none_behind g given own none s other = sym (same_others g given s own other) ∙ none s other

none_before : (g : Given) (given : List Given) → is_of_sim g.setting ≡ true → HasNoOthers given → HasNoOthers (g ∷ given)
none_before g given own none s other = same_others g given s own other ∙ none s other

-- both say the same
pub no_others : (given : List Given) → are_of_sim given ≡ true → HasNoOthers given
no_others [] all = λ s other. refl
no_others (g ∷ given) all = go (is_of_sim g.setting) refl (λ h. no_others given h)
  where
    go : (b : Bool) → is_of_sim g.setting ≡ b → (are_of_sim given ≡ true → HasNoOthers given) → HasNoOthers (g ∷ given)
    go true e rest = none_before g given e (rest (rw e at all))
    go false e rest = absurd (true≢false (sym (rw e at all)))

pub all_of_sim : (given : List Given) → HasNoOthers given → are_of_sim given ≡ true
all_of_sim [] none = refl
all_of_sim (g ∷ given) none =
    let own = first_of_sim g given none in
    rw own (all_of_sim given (none_behind g given own none))
