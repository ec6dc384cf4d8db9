-- What is printed of arcs: each kept one with its satellite, its first and its last pair, and whether it is a datum; then
-- how many were too short.
use Rattle.std.specs.Prelude.{ℕ, ◌/◌, ◌%◌, Bool, true, false, List, [], ◌∷◌, ◌++◌, codes}
use Rattle.std.specs.Fmt.{decimal}
use Rattle.obs_rows.specs.declared.arcs.Arc.{Arc}

abbrev pub kind_word : Bool → List ℕ
kind_word true = codes "datum"
kind_word false = codes "free"

-- a satellite of this system has two digits
abbrev pub arc_line : ℕ → Arc → List ℕ
arc_line system a = codes "arc " ++ ((system ∷ []) ++ (decimal (a.sat / 10) ++
    (decimal (a.sat % 10) ++ (codes " " ++ (decimal a.first ++ (codes " " ++ (decimal a.last ++ (codes " " ++ (kind_word a.datum ++ codes "\n")))))))))

abbrev pub arc_lines : ℕ → List Arc → List ℕ
arc_lines system [] = []
arc_lines system (a ∷ arcs) = arc_line system a ++ arc_lines system arcs

abbrev pub short_line : ℕ → List ℕ
short_line n = codes "short " ++ (decimal n ++ codes "\n")

unfoldable pub arcs_text : ℕ → List Arc → ℕ → List ℕ
arcs_text system kept short = arc_lines system kept ++ short_line short
