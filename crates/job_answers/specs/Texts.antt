-- The lines that any job may write to err.
use Rattle.std.specs.Prelude.{ℕ, List, ◌++◌, codes}
use Rattle.std.specs.Fmt.{decimal}
use Rattle.rinex_head.specs.declared.place.At.{At}
use Rattle.rinex_head.specs.Reasons.{text_of_reason}

abbrev pub refusal_line : List ℕ → At → List ℕ
refusal_line name at = codes "refused: " ++ (name ++ (codes " line " ++ (decimal at.line ++ (codes " column " ++ (decimal at.column ++ (codes ": " ++ (text_of_reason at.what ++ codes "\n")))))))

abbrev pub too_large_line : List ℕ → List ℕ
too_large_line name = codes "refused: " ++ (name ++ codes ": file too large\n")

abbrev pub read_fault_line : List ℕ → List ℕ
read_fault_line name = codes "read fault: " ++ (name ++ codes "\n")

abbrev pub write_fault_line : List ℕ
write_fault_line = codes "write fault\n"

abbrev pub no_memory_line : List ℕ
no_memory_line = codes "no memory\n"

abbrev pub usage_line : List ℕ
usage_line = codes "usage: baseline fix|check|residuals|zero|list|orbit|arcs|sim|migrate|track|check-track WORDS\n"
