-- One more value of an argument.
use Rattle.std.proofs.Common.{◌≡◌, Bool, true, false, List, [], ◌∷◌, ◌++◌, refl, sym, ◌∙◌, true≢false}
use Rattle.std.specs.Str.{bytes_eq}
use Rattle.std.proofs.lemmas.Slice.Eq.{bytes_eq-Decides}
use Rattle.clap.specs.Walk.{Row, Text}
use Rattle.command_words.specs.Commands.{put, values_in}
use Rattle.command_words.proofs.Leaf.{is_it}

pub put_same : (id v : Text) (rows : List Row) → values_in id (put id v rows) ≡ values_in id rows ++ v ∷ []
put_same id v [] = rw ((bytes_eq-Decides id id).1 refl) refl
put_same id v (r ∷ rows) = go (bytes_eq r.id id) refl (put_same id v rows)
  where
    go : (b : Bool) → bytes_eq r.id id ≡ b → values_in id (put id v rows) ≡ values_in id rows ++ v ∷ [] → values_in id (put id v (r ∷ rows)) ≡ values_in id (r ∷ rows) ++ v ∷ []
    go true same rest = rw (same, same) refl
    go false other rest = rw (other, other) rest

pub put_other : (id other v : Text) (rows : List Row) → bytes_eq id other ≡ false → values_in other (put id v rows) ≡ values_in other rows
put_other id other v [] apart = rw apart refl
put_other id other v (r ∷ rows) apart = go (bytes_eq r.id id) (bytes_eq r.id other) refl refl (put_other id other v rows apart)
  where
    go : (b c : Bool) → bytes_eq r.id id ≡ b → bytes_eq r.id other ≡ c → values_in other (put id v rows) ≡ values_in other rows → values_in other (put id v (r ∷ rows)) ≡ values_in other (r ∷ rows)
    go true true same also rest = absurd (true≢false (sym ((bytes_eq-Decides id other).1 (sym (is_it r.id id same) ∙ is_it r.id other also)) ∙ apart))
    go true false same also rest = rw (same, also) refl
    go false true same also rest = rw (same, also) refl
    go false false same also rest = rw (same, also) rest
