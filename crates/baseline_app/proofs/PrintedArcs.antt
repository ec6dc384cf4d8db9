-- The arcs of a printed text stand in order, and its datums are the arcs that begin after all earlier ones.
use Rattle.std.proofs.Common.{◌≡◌, ℕ, ◌<◌, ◌≤◌, inl, inr, List, [], ◌∷◌, filter, Option, Some, arith, refl, ap, ◌∙◌, subst, ⊎_elim}
use Rattle.std.specs.Prelude.{slice_get}
use Rattle.std.proofs.lemmas.Bool.{cases_lt}
use Rattle.std.proofs.lemmas.List.Kept.{AllPairs-filter}
use Rattle.obs_rows.specs.declared.arcs.Arc.{Arc}
use Rattle.obs_rows.specs.declared.used.UsedPair.{UsedPair}
use Rattle.slip_arcs.specs.Runs.{Precedes, is_long, run_of, AreKept}
use Rattle.slip_arcs.specs.Linked.{HaveDatums, IsFirstLinked}
use Rattle.slip_arcs.proofs.Kept.{kept_at, kept_each, precedes_at}
use Rattle.slip_arcs.proofs.Chains.{AreRising, IsFresh, share_first, chain_stays}
use Rattle.obs_rows.specs.declared.options.Options.{Options}
use Rattle.cert_data.specs.declared.certs.Cert.{Cert}
use Rattle.cert_data.specs.declared.outcomes.Answer.{Answer}
use Rattle.cert_data.specs.declared.outcomes.Answer.TheVariants as answer
use Rattle.report_text.specs.OutcomeText.{answer_text, IsWholeAnswer}
use Rattle.track_data.specs.declared.certs.TrackCert.{TrackCert}
use Rattle.track_job.specs.declared.answers.TrackAnswer.{TrackAnswer}
use Rattle.track_job.specs.declared.answers.TrackAnswer.TheVariants as track_answer
use Rattle.track_job.specs.TrackTexts.{track_answer_text, IsWholeTrackAnswer}
use Rattle.track_job.specs.TrackJobs.{AnswersTrack}
use Rattle.job_answers.specs.declared.status.Status.{Status}
use Rattle.job_answers.specs.Endings.{Ending}
use Rattle.job_answers.specs.Delivered.{SinkChange}
use Rattle.job_answers.specs.SessionJobs.{SaysOfSession}
use Rattle.session_jobs.specs.FixJobs.{AnswersFix}
use Rattle.baseline_app.specs.PrintedArcs.{AreArcsInOrder, SpellsOrdered, SpellsOrderedTrack}

in_order : (bands : List ℕ) (jump least : ℕ) (used : List UsedPair) (arcs : List Arc) (short : ℕ) → AreKept bands jump least used arcs short
    → (k m : ℕ) (a b : Arc) → k < m → slice_get arcs k ≡ Some a → slice_get arcs m ≡ Some b → Precedes (run_of a) (run_of b)
in_order bands jump least used arcs short kept k m a b before a_is b_is =
    precedes_at (filter (is_long least) kept.runs) k m (run_of a) (run_of b) (AllPairs-filter Precedes (is_long least) kept.runs kept.all.order) before
    (kept_at bands jump least used arcs short k a kept a_is) (kept_at bands jump least used arcs short m b kept b_is)

no_later : (a b : Arc) → Precedes (run_of a) (run_of b) → a.first ≤ b.first
no_later a b (inl less) = omega arith
no_later a b (inr (same, less)) = omega arith

pub ordered : (bands : List ℕ) (jump least : ℕ) (used : List UsedPair) (arcs : List Arc) (short : ℕ) → AreKept bands jump least used arcs short → HaveDatums arcs → AreArcsInOrder arcs
ordered bands jump least used arcs short kept datums = record {
  order = in_order bands jump least used arcs short kept;
  datums = λ k a is. (λ on. starts_anew k a is ((datums k a is).0 on), λ fresh. (datums k a is).1 (first_of_all k a is fresh));
}
  where
    rising : AreRising arcs
    rising m k b a before b_is a_is = no_later b a (in_order bands jump least used arcs short kept m k b a before b_is a_is)

    starts_anew : (k : ℕ) (a : Arc) → slice_get arcs k ≡ Some a → IsFirstLinked arcs k → IsFresh arcs k a
    starts_anew k a is first m b before found =
        ⊎_elim (λ (less : b.last < a.first). less)
        (λ (more : a.first ≤ b.last).
        let near = share_first arcs k m a b rising (kept_each bands jump least used arcs short k a kept is).0.run.order is found before more in
        let after : k ≤ m = first m (m ∷ [], (near, refl)) in
        absurd (omega arith))
        (cases_lt b.last a.first)

    first_of_all : (k : ℕ) (a : Arc) → slice_get arcs k ≡ Some a → IsFresh arcs k a → IsFirstLinked arcs k
    first_of_all k a is fresh n linked = chain_stays arcs k a rising is fresh linked.0 k n (omega arith) linked.1

-- ---- printed texts
pub fix_ordered : (text_of : List ℕ → Option (List ℕ)) (base rover nav : List ℕ) (o : Options) (status : Status) (out : SinkChange)
    → (fix : SaysOfSession AnswersFix text_of base rover nav o status out) → (cert : Cert) → fix.answer.outcome.answer ≡ answer.Full cert → SpellsOrdered fix.end.out
fix_ordered text_of base rover nav o status out fix cert full =
    let answered = fix.answer in
    let stands = (answered.holds.stands cert full).stands in
    record {
      cert = cert;
      whole = subst IsWholeAnswer full answered.whole;
      spelled = ap (λ (e : Ending). e.out) answered.end_is ∙ ap (λ (a : Answer). answer_text a) full;
      arcs = ordered _ _ _ stands.used cert.session.arcs stands.short stands.kept stands.datums;
    }

pub track_ordered : (text_of : List ℕ → Option (List ℕ)) (base rover nav : List ℕ) (o : Options) (status : Status) (out : SinkChange)
    → (track : SaysOfSession AnswersTrack text_of base rover nav o status out) → (cert : TrackCert) → track.answer.outcome.answer ≡ track_answer.Full cert → SpellsOrderedTrack track.end.out
track_ordered text_of base rover nav o status out track cert full =
    let answered = track.answer in
    let stands = (answered.stands cert full).stands in
    record {
      cert = cert;
      whole = subst IsWholeTrackAnswer full answered.whole;
      spelled = ap (λ (e : Ending). e.out) answered.end_is ∙ ap (λ (a : TrackAnswer). track_answer_text a) full;
      arcs = ordered _ _ _ stands.used cert.track.arcs stands.short stands.kept stands.datums;
    }
