-- What is printed of the end of a run: on out the certificate, or why there is none; on err how much of the files went
-- into it, and whether it is a fix.
use Rattle.std.specs.Prelude.{ℕ, ℤ, Bool, true, false, List, [], ◌++◌, codes}
use Rattle.std.specs.Fmt.{decimal, signed_decimal}
use Rattle.obs_rows.specs.declared.sessions.Session.{Session}
use Rattle.cert_data.specs.Places.{name_of_place}
use Rattle.cert_data.specs.declared.outcomes.Outcome.{Outcome}
use Rattle.cert_data.specs.declared.outcomes.Answer.{Answer}
use Rattle.cert_data.specs.declared.outcomes.Answer.TheVariants.{Few, Arcs, Early, Full}
use Rattle.cert_data.specs.declared.outcomes.Stage.{Stage}
use Rattle.cert_data.specs.declared.outcomes.Stage.TheVariants.{Coarse, Fine}
use Rattle.cert_data.specs.declared.tails.Tail.{Tail}
use Rattle.cert_data.specs.declared.tails.Tail.TheVariants as tail
use Rattle.cert_text.specs.Spelling.{spelling}
use Rattle.cert_text.specs.Lengths.{IsWhole}
use Rattle.report_text.specs.Baselines.{baseline_of, baseline_line}

abbrev pub stage_word : Stage → List ℕ
stage_word Coarse = codes "coarse"
stage_word Fine = codes "fine"

-- Why a run is declined in a round of this stage without a session to print. No run ends so with integers or with a spent
-- budget, which both need such a session; of them the stage alone would be printed.
abbrev pub early_text : Stage → Tail → List ℕ
early_text stage (tail.Weak column pivot) = codes "weak " ++ (stage_word stage ++ (codes " " ++ (decimal column ++ (codes " " ++ signed_decimal pivot))))
early_text stage (tail.Overwidth place) = codes "overwidth " ++ (stage_word stage ++ (codes " " ++ name_of_place place))
early_text stage (tail.Unsettled entry) = codes "unsettled " ++ (stage_word stage ++ (codes " " ++ signed_decimal entry))
early_text stage (tail.Fixed h moved best top) = stage_word stage
early_text stage (tail.Unseparated h moved best top) = stage_word stage
early_text stage (tail.Spent budget) = stage_word stage

-- a decline that has one count
abbrev pub decline_line : List ℕ → ℕ → List ℕ
decline_line word count = codes "declined " ++ (word ++ (codes " " ++ (decimal count ++ codes "\n")))

-- the text for out: the certificate, or one line that says why there is none
abbrev pub answer_text : Answer → List ℕ
answer_text (Few pairs) = decline_line (codes "few") pairs
answer_text (Arcs free) = decline_line (codes "arcs") free
answer_text (Early stage why) = codes "declined " ++ (early_text stage why ++ codes "\n")
answer_text (Full cert) = spelling cert

-- the arrays of a certificate that is printed have their lengths, so that its text is no other's
abbrev pub IsWholeAnswer : Answer → Type 0
IsWholeAnswer (Full cert) = IsWhole cert
IsWholeAnswer _ = Unit {0}

-- how many pairs were taken of how many, and how many arcs were kept
abbrev pub counts_text : ℕ → ℕ → ℕ → List ℕ
counts_text taken all kept = codes "pairs " ++ (decimal taken ++ (codes " of " ++ (decimal all ++ (codes "\narcs " ++ (decimal kept ++ codes "\n")))))

-- the deltas of the headers aren't applied: where there is one, that is printed
abbrev pub delta_text : Bool → List ℕ
delta_text true = codes "note antenna delta not applied\n"
delta_text false = []

-- whether it is a fix
abbrev pub verdict_line : Bool → List ℕ
verdict_line true = codes "verdict fixed\n"
verdict_line false = codes "verdict declined\n"

-- the baseline of a fix, and that it is one
abbrev pub fixed_text : Session → List ℤ → List ℕ
fixed_text s moved = baseline_line (baseline_of s.point s.base moved) ++ codes "verdict fixed\n"

-- what was decided on the rows of a session
abbrev pub tail_text : Session → Tail → List ℕ
tail_text s (tail.Fixed h moved best top) = fixed_text s moved
tail_text s (tail.Unseparated h moved best top) = codes "verdict declined\n"
tail_text s (tail.Weak column pivot) = codes "verdict declined\n"
tail_text s (tail.Overwidth place) = codes "verdict declined\n"
tail_text s (tail.Unsettled entry) = codes "verdict declined\n"
tail_text s (tail.Spent budget) = codes "verdict declined\n"

abbrev pub verdict_text : Answer → List ℕ
verdict_text (Few pairs) = codes "verdict declined\n"
verdict_text (Arcs free) = codes "verdict declined\n"
verdict_text (Early stage why) = codes "verdict declined\n"
verdict_text (Full cert) = tail_text cert.session cert.tail

-- the text for err
abbrev pub outcome_text : Outcome → List ℕ
outcome_text outcome =
    counts_text outcome.taken outcome.all outcome.kept ++ (delta_text outcome.delta ++ verdict_text outcome.answer)

-- whether the run ends with a fix
abbrev pub is_fixed_tail : Tail → Bool
is_fixed_tail (tail.Fixed h moved best top) = true
is_fixed_tail _ = false

abbrev pub is_fixed : Answer → Bool
is_fixed (Full cert) = is_fixed_tail cert.tail
is_fixed _ = false
