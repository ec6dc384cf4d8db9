-- The latest of some levels.
use Rattle.std.specs.Prelude.{◌≡◌, List, ◌∷◌, drop}
use Rattle.int_search.specs.declared.stack.Level.{Level}

pub record IsLatest (levels : List Level) (a : Level) : Type 0 where
  pub split : levels ≡ a ∷ drop 1 levels
