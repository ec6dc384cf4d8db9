-- What a call leaves of what is reported of a file or a writer of the system.
use Rattle.std.proofs.Common.{◌≡◌, ◌≢◌, ℕ, zero, suc, List, ◌++◌, take, refl, ap, ◌∙◌, append-nil}
use Rattle.std.specs.Prelude.{None, Some, []}
use Rattle.std.specs.declared.option.Option.{Option}
use Rattle.std.specs.Io.KnownBytes.{Keeps, Appends, Consumes, IsAtEnd}
use Rattle.line_source.specs.Host.{of_first}

pub stays : (told : Option (List ℕ)) → Keeps told told
stays None = tt
stays (Some xs) = refl

-- nothing is reported of another id
pub no_others : (k : ℕ) (old new : Option (List ℕ)) → k ≢ 0 → of_first k new ≡ of_first k old
no_others zero old new other = absurd (other refl)
no_others (suc k) old new other = refl

-- no bytes were appended
pub none_written : (old new : Option (List ℕ)) (bytes : List ℕ) (n : ℕ) → n ≡ 0 → Appends old new (take n bytes) → Keeps old new
none_written None new bytes n none is = tt
none_written (Some xs) None bytes n none is = absurd is
none_written (Some xs) (Some ys) bytes n none is = is ∙ ap (λ (m : ℕ). xs ++ take m bytes) none ∙ append-nil xs

-- where the end was read nothing is left
pub at_end : (old new : Option (List ℕ)) (bytes : List ℕ) (n : ℕ) → n ≡ 0 → Consumes old new (take n bytes) → IsAtEnd new → Consumes old (Some []) (take n bytes)
at_end None new bytes n none is ended = tt
at_end (Some xs) None bytes n none is ended = absurd is
at_end (Some xs) (Some ys) bytes n none is ended = is ∙ ap (λ (rest : List ℕ). take n bytes ++ rest) ended
