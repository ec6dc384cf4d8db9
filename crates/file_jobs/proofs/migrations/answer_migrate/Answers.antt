use Rattle.std.proofs.Common.{◌≡◌, ℕ, List, ◌++◌, ap, ◌∙◌}
use Rattle.cert_data.specs.declared.certs.Cert.{Cert}
use Rattle.cert_check.proofs.Checked.{strictly_where_fixed}
use Rattle.cert_text.specs.Spelling.{spelling}
use Rattle.job_answers.specs.Endings.{ending}
use Rattle.file_jobs.proofs.migrations.answer_migrate.Goals as goal

pub returns-clause-answer : goal.returns-clause-answer
returns-clause-answer c =
    let cert : Cert = c.in_ok-cert.cert in
    let law = c.in_ok-cert.ensures in
    let out : c.write_cert.new.out.items ≡ spelling cert = c.in_ok-write_cert.ensures.text ∙ ap (λ (text : List ℕ). text ++ spelling cert) c.new-out.ensures.items in
    record {
      cert = cert;
      whole = c.in_ok-write_cert.ensures.whole;
      migrated = record {
        ratio = law.ratio;
        budget = law.budget;
        session = law.session;
        tail = law.tail;
        only = law.only;
        new_best = strictly_where_fixed cert.ratio cert.session cert.tail cert.ratio_from law.new_by_ratio;
        new_by_ratio = law.new_by_ratio;
        boxes = law.boxes;
        sums = law.sums;
        best = law.best;
        by_ratio = law.by_ratio;
      };
      end_is = λ i. ending (c.status_of.ensures.value i) (out i) (c.new.ensures.items i);
    }
