-- What an outcome says of its files.
use Rattle.std.proofs.Common.{◌≡◌, true, refl}
use Rattle.std.proofs.lemmas.Bool.{false≢true}
use Rattle.cert_data.specs.declared.certs.Cert.{Cert}
use Rattle.cert_data.specs.declared.outcomes.Outcome.{Outcome}
use Rattle.cert_data.specs.declared.outcomes.Answer.{Answer}
use Rattle.cert_data.specs.declared.outcomes.Answer.TheVariants.{Few, Arcs, Early, Full}
use Rattle.cert_data.specs.declared.tails.Tail.{Tail}
use Rattle.cert_data.specs.declared.tails.Tail.TheVariants as tail
use Rattle.eph_store.specs.File.{Records}
use Rattle.obs_store.specs.declared.file.ObsFile.{ObsFile}
use Rattle.obs_rows.specs.declared.options.Options.{Options}
use Rattle.obs_rows.specs.Best.{IsBestByRatio}
use Rattle.obs_rows.proofs.RatioLaws.{ratio_is_strict}
use Rattle.fix_decide.specs.Decisions.{first_of}
use Rattle.cert_check.specs.Settled.{IsBestByRatioWhereFixed}
use Rattle.session.specs.Answers.{IsBestAnswer}
use Rattle.session.specs.Outcomes.{IsOutcome}
use Rattle.report_text.specs.OutcomeText.{is_fixed, is_fixed_tail}
use Rattle.session_jobs.specs.FixJobs.{IsFix, IsFixedFor, IsProvedOutcome}
use Rattle.session_jobs.proofs.Runs.{stands_for}
use Rattle.session_jobs.proofs.Certified.{ends_once, certified_again, no_other}

-- a certificate that says `fixed`, by the ratio
record IsFixByRatio (cert : Cert) : Type 0 where
  fix : IsFix cert
  by_ratio : IsBestByRatio cert.ratio cert.session (first_of fix.best) fix.moved

-- an answer that is fixed is a certificate that says so
record IsFixedCert (a : Answer) : Type 0 where
  cert : Cert
  is : a ≡ Full cert
  fixed : IsFixByRatio cert

fixed_tail : (cert : Cert) (t : Tail) → cert.tail ≡ t → is_fixed_tail t ≡ true → IsBestByRatioWhereFixed cert.ratio cert.session t → IsFixByRatio cert
fixed_tail cert (tail.Fixed h moved best top) is fixed by_ratio = record {
  fix = record {
    h = h;
    moved = moved;
    best = best;
    top = top;
    tail_is = is;
    strictly_best = ratio_is_strict cert.ratio cert.session (first_of best) moved cert.ratio_from by_ratio;
  };
  by_ratio = by_ratio;
}
fixed_tail cert (tail.Unseparated h moved best top) is fixed by_ratio = absurd (false≢true fixed)
fixed_tail cert (tail.Weak column pivot) is fixed by_ratio = absurd (false≢true fixed)
fixed_tail cert (tail.Overwidth place) is fixed by_ratio = absurd (false≢true fixed)
fixed_tail cert (tail.Unsettled entry) is fixed by_ratio = absurd (false≢true fixed)
fixed_tail cert (tail.Spent budget) is fixed by_ratio = absurd (false≢true fixed)

fixed_cert : (a : Answer) → is_fixed a ≡ true → IsBestAnswer a → IsFixedCert a
fixed_cert (Few pairs) fixed best = absurd (false≢true fixed)
fixed_cert (Arcs free) fixed best = absurd (false≢true fixed)
fixed_cert (Early stage why) fixed best = absurd (false≢true fixed)
fixed_cert (Full cert) fixed best = record { cert = cert; is = refl; fixed = fixed_tail cert cert.tail refl fixed best }

fixed_for : (b r : ObsFile) (n : Records) (o : Options) (outcome : Outcome) → IsOutcome b r n o outcome → IsBestAnswer outcome.answer
    → is_fixed outcome.answer ≡ true → IsFixedFor b r n o outcome.answer
fixed_for b r n o outcome is best fixed =
    let fixed_answer : IsFixedCert outcome.answer = fixed_cert outcome.answer fixed best in
    let certified = certified_again b r n o outcome fixed_answer.cert is fixed_answer.is fixed_answer.fixed.fix in
    record {
      cert = fixed_answer.cert;
      answer_is = fixed_answer.is;
      fix = fixed_answer.fixed.fix;
      by_ratio = fixed_answer.fixed.by_ratio;
      certified = certified;
      only = no_other fixed_answer.cert certified;
      stands = stands_for b r n o outcome fixed_answer.cert is fixed_answer.is;
    }

pub proved_outcome : (b r : ObsFile) (n : Records) (o : Options) (outcome : Outcome) → IsOutcome b r n o outcome → IsBestAnswer outcome.answer → IsProvedOutcome b r n o outcome
proved_outcome b r n o outcome is best = record {
  is = is;
  fixed = fixed_for b r n o outcome is best;
  only = ends_once b r n o outcome is;
  stands = λ cert full. stands_for b r n o outcome cert is full;
}
