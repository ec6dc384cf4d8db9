-- Factors put before an answer of the elimination.
use Rattle.std.specs.Prelude.{List, [], ◌∷◌, Result}
use Rattle.quadratic_form.specs.Forms.{Column}
use Rattle.quadratic_form.specs.Elimination.{Factor, Refusal, with_factor}

abbrev pub before : List Factor → Result (List Factor × List Column) Refusal → Result (List Factor × List Column) Refusal
before [] r = r
before (f ∷ fs) r = with_factor f (before fs r)
