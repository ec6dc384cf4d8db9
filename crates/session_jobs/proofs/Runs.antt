-- The session in which a run ends stands for the files.
use Rattle.std.proofs.Common.{◌≡◌, inl, inr, ℕ, length, map, subst}
use Rattle.obs_store.specs.declared.file.ObsFile.{ObsFile}
use Rattle.eph_store.specs.File.{Records}
use Rattle.obs_rows.specs.declared.arcs.Arc.{Arc}
use Rattle.obs_rows.specs.declared.sessions.Session.{Session}
use Rattle.row_build.specs.Stands.{StandsForFiles}
use Rattle.cert_data.specs.declared.certs.Cert.{Cert}
use Rattle.cert_data.specs.declared.tails.Tail.{Tail}
use Rattle.cert_data.specs.declared.outcomes.Outcome.{Outcome}
use Rattle.cert_data.specs.declared.outcomes.RoundCounts.{RoundCounts}
use Rattle.cert_data.specs.declared.outcomes.Answer.TheVariants.{Full}
use Rattle.round_steps.specs.Runs.{Rules, EndsFull}
use Rattle.obs_rows.specs.declared.options.Options.{Options}
use Rattle.session.specs.FileRules.{rules_of}
use Rattle.session.specs.Answers.{IsAnswer}
use Rattle.session.specs.Origins.{origin_of}
use Rattle.session.specs.Outcomes.{IsOutcome}
use Rattle.session_jobs.specs.FixJobs.{CertStandsForFiles}

-- a run ends in a session that its rules have
full_stands : (rules : Rules) (ratio budget : ℕ) (made : RoundCounts) (s : Session) (tail : Tail) → EndsFull rules ratio budget made s tail → rules.stands s
full_stands rules ratio budget made s tail full = elim (full.1) [
  | inl ends ↦ ends.stands
  | inr decides ↦ decides.stands
]

pub stands_for : (b r : ObsFile) (n : Records) (o : Options) (outcome : Outcome) (cert : Cert) → IsOutcome b r n o outcome → outcome.answer ≡ Full cert → CertStandsForFiles b r n o cert
stands_for b r n o outcome cert is full =
    let rounds = is.rounds in
    let session : Session = cert.session in
    let rules : Rules = rules_of rounds.screened.boxes (length rounds.screened.used) rounds.kept rounds.position rounds.signals rounds.system in
    let ends = (subst (IsAnswer rules outcome.taken o outcome.rounds) full is.answer_is).1 in
    let stands = is.stands session (full_stands rules o.ratio o.budget outcome.rounds session cert.tail ends.ends) in
    record {
      ratio_is = ends.ratio;
      budget_is = ends.budget;
      position = is.position;
      position_is = is.position_is;
      signals = is.signals;
      signals_are = is.signals_are;
      taken = is.taken;
      taken_are = is.taken_are;
      stands = subst
          (λ (k : ℕ). StandsForFiles (origin_of b r n o is.position is.signals is.taken) session.point (map (λ (a : Arc). a.shift) session.arcs) k session)
          cert.fine stands;
    }
