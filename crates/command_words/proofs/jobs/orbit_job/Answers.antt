use Rattle.std.proofs.Common.{ℕ, List, subst}
use Rattle.command_words.specs.Numbers.{IsSatellite}
use Rattle.command_words.proofs.OneJob.{no_satellite}
use Rattle.command_words.proofs.jobs.orbit_job.Goals as goal

pub returns-in_default-satellite_of-clause-usage : goal.returns-in_default-satellite_of-clause-usage
returns-in_default-satellite_of-clause-usage c =
    let none : (system n : ℕ) → IsSatellite c.sat-item.result system n → ⊥ =
    subst (λ (w : List ℕ). (system n : ℕ) → IsSatellite w system n → ⊥) c.as_bytes.ensures c.in_default-satellite_of.ensures in
    λ is job asked. no_satellite c.args.plain.now c.args.given.now c.sat-item.result c.sat-item.is none job asked
