-- The arcs of the session in which a run ends are in order, and just the first of each linked set is a datum.
use Rattle.std.proofs.Common.{◌≡◌, inl, inr, ℕ, ◌≤◌, List, filter, AllPairs, refl, arith}
use Rattle.std.proofs.lemmas.List.Kept.{AllPairs-filter}
use Rattle.obs_store.specs.declared.file.ObsFile.{ObsFile}
use Rattle.eph_store.specs.File.{Records}
use Rattle.obs_rows.specs.declared.arcs.Arc.{Arc}
use Rattle.obs_rows.specs.declared.used.UsedPair.{UsedPair}
use Rattle.slip_arcs.specs.Runs.{Run, Precedes, is_long, run_of, AreKept}
use Rattle.slip_arcs.proofs.Kept.{kept_at, kept_each, precedes_at}
use Rattle.cert_data.specs.declared.outcomes.Outcome.{Outcome}
use Rattle.cert_data.specs.declared.outcomes.Answer.{Answer}
use Rattle.cert_data.specs.declared.outcomes.Answer.TheVariants.{Few, Arcs, Early, Full}
use Rattle.obs_rows.specs.BandSets.{bands_of}
use Rattle.obs_rows.specs.declared.options.Options.{Options}
use Rattle.session.specs.Outcomes.{IsOutcome}
use Rattle.session_jobs.proofs.Runs.{stands_for}
use Rattle.sim_jobs.specs.Matches.{AreInOrder, HasMarkedArcs}

no_later : (r s : Run) → Precedes r s → r.first ≤ s.first
no_later r s (inl less) = omega arith
no_later r s (inr (same, less)) = omega arith

in_order : (bands : List ℕ) (jump least : ℕ) (used : List UsedPair) (kept : List Arc) (short : ℕ) → AreKept bands jump least used kept short → AreInOrder kept
in_order bands jump least used kept short are = record {
  forward = λ k a is. (kept_each bands jump least used kept short k a are is).0.run.order;
  rising = λ m k b a before first second.
      let long_runs : List Run = filter (is_long least) are.runs in
      let pairs : AllPairs Precedes long_runs = AllPairs-filter Precedes (is_long least) are.runs are.all.order in
      no_later (run_of b) (run_of a) (precedes_at long_runs m k (run_of b) (run_of a) pairs before
      (kept_at bands jump least used kept short m b are first) (kept_at bands jump least used kept short k a are second));
}

marked_in : (b r : ObsFile) (n : Records) (o : Options) (outcome : Outcome) → IsOutcome b r n o outcome → (a : Answer) → outcome.answer ≡ a → HasMarkedArcs a
marked_in b r n o outcome is (Few pairs) same = tt
marked_in b r n o outcome is (Arcs free) same = tt
marked_in b r n o outcome is (Early stage why) same = tt
marked_in b r n o outcome is (Full cert) same =
    let stands = (stands_for b r n o outcome cert is same).stands in
    record { order = in_order (bands_of o.bands) o.jump o.arc stands.used cert.session.arcs stands.short stands.kept; datums = stands.datums }

pub marked : (b r : ObsFile) (n : Records) (o : Options) (outcome : Outcome) → IsOutcome b r n o outcome → HasMarkedArcs outcome.answer
marked b r n o outcome is = marked_in b r n o outcome is outcome.answer refl
