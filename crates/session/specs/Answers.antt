-- The answers of a run over the arcs that were kept.
use Rattle.std.specs.Prelude.{◌≡◌, ◌≢◌, ◌≤◌, ℕ, Any, pos}
use Rattle.obs_store.specs.declared.file.ObsFile.{ObsFile}
use Rattle.obs_rows.specs.Arcs.{free_count}
use Rattle.obs_rows.specs.declared.units.TheConstants.{COARSE_SCALE}
use Rattle.cert_data.specs.declared.certs.Cert.{Cert}
use Rattle.cert_data.specs.declared.outcomes.RoundCounts.{RoundCounts}
use Rattle.cert_data.specs.declared.outcomes.Answer.{Answer}
use Rattle.cert_data.specs.declared.outcomes.Answer.TheVariants.{Few, Arcs, Early, Full}
use Rattle.obs_rows.specs.declared.options.Options.{Options}
use Rattle.round_steps.specs.Counts.{AreFew, AreMany}
use Rattle.round_steps.specs.Runs.{Rules, most_rounds, EndsEarly, EndsFull}
use Rattle.cert_check.specs.Settled.{IsBestByRatioWhereFixed}

-- four satellites are in kept arcs in some pair, and the arcs aren't too many
pub record GoesOn (rules : Rules) (taken : ℕ) : Type 0 where
  pub not_few : AreFew taken rules.arcs → ⊥
  pub not_many : AreMany rules.arcs → ⊥

-- a certificate of the session in which the run ends, with the ratio and the budget of the options
pub record IsEndCert (rules : Rules) (options : Options) (rounds : RoundCounts) (cert : Cert) : Type 0 where
  pub ratio : cert.ratio ≡ options.ratio
  pub budget : cert.budget ≡ options.budget
  pub ends : EndsFull rules options.ratio options.budget rounds cert.session cert.tail

-- at most ten coarse rounds and at most six fine ones
abbrev pub AreAllowed : RoundCounts → Type 0
AreAllowed rounds = (rounds.coarse ≤ most_rounds COARSE_SCALE) × (rounds.fine ≤ most_rounds 0)

-- no round was made
abbrev pub AreNone : RoundCounts → Type 0
AreNone rounds = (rounds.coarse ≡ 0) × (rounds.fine ≡ 0)

-- Few exactly where no taken pair has four satellites in kept arcs, else Arcs exactly where the arcs are too many, both
-- before any round; else the end of a run with these counts of rounds
abbrev pub IsAnswer : Rules → ℕ → Options → RoundCounts → Answer → Type 0
IsAnswer rules taken options rounds (Few pairs) = (pairs ≡ taken) × (AreFew taken rules.arcs × AreNone rounds)
IsAnswer rules taken options rounds (Arcs free) = (free ≡ free_count rules.arcs) × ((AreFew taken rules.arcs → ⊥) × (AreMany rules.arcs × AreNone rounds))
IsAnswer rules taken options rounds (Early stage tail) = GoesOn rules taken × EndsEarly rules rounds stage tail
IsAnswer rules taken options rounds (Full cert) = GoesOn rules taken × IsEndCert rules options rounds cert

-- where the integers of an answer are fixed, they are with their move best by the certificate's ratio
abbrev pub IsBestAnswer : Answer → Type 0
IsBestAnswer (Few pairs) = Unit {0}
IsBestAnswer (Arcs free) = Unit {0}
IsBestAnswer (Early stage tail) = Unit {0}
IsBestAnswer (Full cert) = IsBestByRatioWhereFixed cert.ratio cert.session cert.tail

-- a header whose antenna delta isn't 0
abbrev pub HasDelta : ObsFile → Type 0
HasDelta file = Any (λ d. d ≢ pos 0) file.delta
