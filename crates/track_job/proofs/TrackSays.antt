-- What an outcome that is a fix says of its files.
use Rattle.std.proofs.Common.{◌≡◌, true, refl, sym, subst}
use Rattle.std.proofs.lemmas.Bool.{false≢true}
use Rattle.eph_store.specs.File.{Records}
use Rattle.obs_store.specs.declared.file.ObsFile.{ObsFile}
use Rattle.obs_rows.specs.Signals.{fine_signals}
use Rattle.fix_decide.specs.Decisions.{first_of}
use Rattle.cert_data.specs.declared.verdicts.Verdict.{Verdict}
use Rattle.cert_data.specs.declared.verdicts.Verdict.TheVariants.{Certified}
use Rattle.obs_rows.specs.declared.options.Options.{Options}
use Rattle.track_data.specs.declared.certs.TrackCert.{TrackCert}
use Rattle.track_data.specs.declared.tails.TrackTail.{TrackTail}
use Rattle.track_data.specs.declared.tails.TrackTail.TheVariants as tail
use Rattle.track_form.specs.SumDecided.{IsBestByRatio}
use Rattle.track_form.proofs.RatioLaws.{ratio_is_strict}
use Rattle.track_form.specs.Decided.{IsTrackDecision, IsSameTail, IsTrackBestWhereFixed}
use Rattle.track_form.specs.Verdicts.{IsTrackVerdict}
use Rattle.track_job.specs.declared.answers.TrackOutcome.{TrackOutcome}
use Rattle.track_job.specs.declared.answers.TrackAnswer.{TrackAnswer}
use Rattle.track_job.specs.declared.answers.TrackAnswer.TheVariants as answer
use Rattle.track_job.specs.TrackTexts.{is_fixed_track, is_track_fixed}
use Rattle.track_job.specs.TrackOutcomes.{IsTrackAnswer, IsTrackOutcome}
use Rattle.track_job.specs.TrackJobs.{IsTrackFix, IsTrackFixedFor}
use Rattle.track_job.proofs.StandsLaws.{track_stands_for}
use Rattle.track_job.proofs.Certified.{certified_again, no_other}

-- an answer that is fixed is the certificate of a track that says so
record IsFixedTrack (a : TrackAnswer) : Type 0 where
  cert : TrackCert
  is : a ≡ answer.Full cert
  fixed : is_fixed_track cert.tail ≡ true

fixed_track : (a : TrackAnswer) → is_track_fixed a ≡ true → IsFixedTrack a
fixed_track (answer.Few pairs) fixed = absurd (false≢true fixed)
fixed_track (answer.Arcs free) fixed = absurd (false≢true fixed)
fixed_track (answer.Lost pairs) fixed = absurd (false≢true fixed)
fixed_track (answer.Full cert) fixed = record { cert = cert; is = refl; fixed = fixed }

-- the certificate of a track that says `fixed`, by the ratio
record IsTrackFixByRatio (cert : TrackCert) : Type 0 where
  fix : IsTrackFix cert
  by_ratio : IsBestByRatio cert.ratio cert.track.arcs (fine_signals cert.track.signals) cert.track.pairs (first_of fix.best) fix.moves

fixed_tail : (cert : TrackCert) (t : TrackTail) → cert.tail ≡ t → is_fixed_track t ≡ true →
    IsTrackBestWhereFixed cert.ratio cert.track.arcs (fine_signals cert.track.signals) cert.track.pairs t → IsTrackFixByRatio cert
fixed_tail cert (tail.Fixed h moves best top) is fixed by_ratio = record {
  fix = record {
    h = h;
    moves = moves;
    best = best;
    top = top;
    tail_is = is;
    strictly_best = ratio_is_strict cert.ratio cert.track.arcs (fine_signals cert.track.signals) cert.track.pairs (first_of best) moves cert.ratio_from by_ratio;
  };
  by_ratio = by_ratio;
}
fixed_tail cert (tail.Unseparated h moves best top) is fixed by_ratio = absurd (false≢true fixed)
fixed_tail cert (tail.Weak column pivot) is fixed by_ratio = absurd (false≢true fixed)
fixed_tail cert (tail.Overwidth place) is fixed by_ratio = absurd (false≢true fixed)
fixed_tail cert (tail.Spent budget) is fixed by_ratio = absurd (false≢true fixed)

-- what a check says of a certificate that is decided as fixed
record IsCertifiedAgain (cert : TrackCert) : Type 0 where
  certified : IsTrackVerdict cert.track.arcs (fine_signals cert.track.signals) cert.track.pairs cert.ratio cert.budget cert.tail Certified
  only : (v : Verdict) → IsTrackVerdict cert.track.arcs (fine_signals cert.track.signals) cert.track.pairs cert.ratio cert.budget cert.tail v → v ≡ Certified

certified_cert : (cert : TrackCert) (fix : IsTrackFix cert) → IsTrackDecision cert.track.arcs (fine_signals cert.track.signals) cert.track.pairs cert.ratio cert.budget cert.tail
    → ((t : TrackTail) → IsTrackDecision cert.track.arcs (fine_signals cert.track.signals) cert.track.pairs cert.ratio cert.budget t → IsSameTail t cert.tail) → IsCertifiedAgain cert
certified_cert cert fix decision only =
    let arcs = cert.track.arcs in
    let fine = fine_signals cert.track.signals in
    let pairs = cert.track.pairs in
    let decided = subst (λ (t : TrackTail). IsTrackDecision arcs fine pairs cert.ratio cert.budget t) fix.tail_is decision in
    let one = subst (λ (u : TrackTail). (t : TrackTail) → IsTrackDecision arcs fine pairs cert.ratio cert.budget t → IsSameTail t u) fix.tail_is only in
    record {
      certified =
          subst (λ (t : TrackTail). IsTrackVerdict arcs fine pairs cert.ratio cert.budget t Certified) (sym fix.tail_is)
          (certified_again arcs fine pairs cert.ratio cert.budget fix.h fix.moves fix.best fix.top decided);
      only =
          λ v is. no_other arcs fine pairs cert.ratio cert.budget fix.h fix.moves fix.best fix.top one v
          (subst (λ (t : TrackTail). IsTrackVerdict arcs fine pairs cert.ratio cert.budget t v) fix.tail_is is);
    }

pub track_fixed_for : (b r : ObsFile) (n : Records) (o : Options) (outcome : TrackOutcome) → IsTrackOutcome b r n o outcome → is_track_fixed outcome.answer ≡ true
    → IsTrackFixedFor b r n o outcome.answer
track_fixed_for b r n o outcome found is =
    let fixed_answer : IsFixedTrack outcome.answer = fixed_track outcome.answer is in
    let answered = subst (λ (a : TrackAnswer). IsTrackAnswer found.screened found.kept found.position found.signals o outcome.taken outcome.lost a) fixed_answer.is found.answer_is in
    let decided = answered.1.1 in
    let fixed : IsTrackFixByRatio fixed_answer.cert = fixed_tail fixed_answer.cert fixed_answer.cert.tail refl fixed_answer.fixed decided.by_ratio in
    let again : IsCertifiedAgain fixed_answer.cert = certified_cert fixed_answer.cert fixed.fix decided.decision decided.only in
    record {
      cert = fixed_answer.cert;
      answer_is = fixed_answer.is;
      fix = fixed.fix;
      by_ratio = fixed.by_ratio;
      certified = again.certified;
      only = again.only;
      stands = track_stands_for b r n o outcome fixed_answer.cert found fixed_answer.is;
    }
