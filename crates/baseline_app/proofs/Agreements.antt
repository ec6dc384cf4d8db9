-- A text has one verdict; what is printed as fixed is certified; and a greater budget keeps what is certified.
use Rattle.std.proofs.Common.{◌≡◌, ℕ, List, [], Option, Some, IfSome, Bool, true, false, refl, sym, ap, ◌∙◌, subst}
use Rattle.std.specs.Io.KnownBytes.{Appends}
use Rattle.obs_rows.specs.Signals.{fine_signals}
use Rattle.obs_rows.specs.declared.sessions.Session.{Session}
use Rattle.cert_data.specs.declared.certs.Cert.{Cert}
use Rattle.cert_data.specs.declared.outcomes.Answer.{Answer}
use Rattle.cert_data.specs.declared.tails.Tail.{Tail}
use Rattle.cert_data.specs.declared.tails.Tail.TheVariants.{Fixed, Unseparated, Weak, Overwidth, Unsettled, Spent}
use Rattle.cert_data.specs.declared.verdicts.Verdict.{Verdict}
use Rattle.cert_data.specs.declared.verdicts.Verdict.TheVariants.{Certified, Not}
use Rattle.cert_lines.specs.declared.version.Version.TheVariants.{Two}
use Rattle.cert_text.specs.Spelling.{spelling}
use Rattle.cert_text.specs.Lengths.{IsWhole}
use Rattle.cert_text.proofs.SameSpelling.{spelling_same}
use Rattle.cert_text.proofs.Versions.{of_two}
use Rattle.cert_check.specs.RowDecisions.{IsRowDecision}
use Rattle.cert_check.specs.Verdicts.{IsVerdictOf}
use Rattle.cert_check.proofs.SameNumbers.{same_numbers}
use Rattle.cert_check.proofs.MoreBudget.{certified_more}
use Rattle.report_text.specs.VerdictText.{verdict_text}
use Rattle.file_jobs.specs.CertJobs.{CheckEnd, status_of, check_job}
use Rattle.file_jobs.specs.Migrations.{status_of as migrated_status, migrate_job}
use Rattle.report_text.specs.OutcomeText.{answer_text, IsWholeAnswer, is_fixed}
use Rattle.obs_rows.specs.declared.options.Options.{Options}
use Rattle.job_answers.specs.declared.status.Status.{Status}
use Rattle.job_answers.specs.declared.status.Status.TheVariants.{Done}
use Rattle.job_answers.specs.Statuses.{verdict_status}
use Rattle.job_answers.specs.Endings.{Ending, ending, IsTextOf}
use Rattle.job_answers.specs.Delivered.{SinkChange}
use Rattle.job_answers.specs.TextJobs.{SaysOfText}
use Rattle.job_answers.specs.SessionJobs.{SaysOfSession}
use Rattle.session_jobs.specs.FixJobs.{AnswersFix}
use Rattle.track_data.specs.declared.certs.TrackCert.{TrackCert}
use Rattle.track_data.specs.declared.tails.TrackTail.{TrackTail}
use Rattle.track_data.specs.declared.tracks.Track.{Track}
use Rattle.track_text.specs.Spelling.{track_spelling}
use Rattle.track_text.specs.Lengths.{IsWholeTrackCert}
use Rattle.track_text.proofs.SameTrack.{spelling_same as track_spelling_same}
use Rattle.track_form.specs.Verdicts.{IsTrackVerdict}
use Rattle.track_form.proofs.MoreBudget.{certified_more as track_certified_more}
use Rattle.track_job.specs.declared.answers.TrackAnswer.{TrackAnswer}
use Rattle.track_job.specs.TrackTexts.{track_answer_text, IsWholeTrackAnswer, is_track_fixed}
use Rattle.track_job.specs.TrackJobs.{AnswersTrack}
use Rattle.track_job.specs.CheckJobs.{IsVerdictOn, CheckTrackEnd, check_track_job}
use Rattle.baseline_app.specs.Agreements.{PrintsCertified, HasMoreBudget, HasMoreTrackBudget}

-- ---- statuses
pub done_true : (fixed : Bool) → verdict_status fixed ≡ Done → fixed ≡ true
done_true true is = refl
done_true false is = absurd (cc (is))

pub done_certified : (v : Verdict) → status_of v ≡ Done → v ≡ Certified
done_certified Certified is = refl
done_certified (Not why) is = absurd (cc (is))

-- the text that is read is the one that is known under the name
told_text : (text_of : List ℕ → Option (List ℕ)) (name text known : List ℕ) → text_of name ≡ Some known → IsTextOf text_of name text → text ≡ known
told_text text_of name text known told is = subst (λ (o : Option (List ℕ)). IfSome o (λ bytes. text ≡ bytes)) told is.told_is

-- a run whose end says `certified`
certifying : (end : Ending) (v : Verdict) (status : Status) (out : SinkChange) → end ≡ ending (status_of v) (verdict_text v) [] → v ≡ Certified → end.status ≡ status → Appends out.old out.new end.out
    → PrintsCertified status out
certifying end v status out end_is v_is status_is printed =
    let said : end ≡ ending (status_of Certified) (verdict_text Certified) [] = end_is ∙ ap (λ (w : Verdict). ending (status_of w) (verdict_text w) []) v_is in
    record {
      done = sym status_is ∙ ap (λ (e : Ending). e.status) said;
      printed = subst (λ (e : Ending). Appends out.old out.new e.out) said printed;
    }

-- ---- certificates of sessions
one_cert : (c d : Cert) → IsWhole c → IsWhole d → spelling c ≡ spelling d → c ≡ d
one_cert c d whole whole_too same = spelling_same Two c d whole whole_too (of_two c) (of_two d) same

one_end : (c d : Cert) (e f : Ending) → c ≡ d → CheckEnd c e → CheckEnd d f → e ≡ f
one_end c d e f same a b =
    let there : CheckEnd d e = subst (λ (x : Cert). CheckEnd x e) same a in
    let one : there.verdict ≡ b.verdict = b.only there.verdict there.is in
    there.end_is ∙ ap (λ (w : Verdict). ending (status_of w) (verdict_text w) []) one ∙ sym b.end_is

pub one_check : (text_of texts : List ℕ → Option (List ℕ)) (name other text : List ℕ) (status other_status : Status) (out other_out : SinkChange) → text_of name ≡ Some text → texts other ≡ Some text
    → (one : SaysOfText check_job text_of name status out) → (two : SaysOfText check_job texts other other_status other_out) → one.end ≡ two.end
one_check text_of texts name other text status other_status out other_out told told_too one two =
    let first : one.text ≡ text = told_text text_of name one.text text told one.is in
    let second : two.text ≡ text = told_text texts other two.text text told_too two.is in
    let same : spelling one.answer.cert ≡ spelling two.answer.cert = sym one.answer.spelled ∙ first ∙ sym second ∙ two.answer.spelled in
    one_end one.answer.cert two.answer.cert one.end two.end (one_cert one.answer.cert two.answer.cert one.answer.whole two.answer.whole same) one.answer.answer two.answer.answer

pub checked_fix : (text_of texts : List ℕ → Option (List ℕ)) (base rover nav name : List ℕ) (o : Options) (status : Status) (out other : SinkChange)
    → (fix : SaysOfSession AnswersFix text_of base rover nav o Done out) → texts name ≡ Some fix.end.out → SaysOfText check_job texts name status other → PrintsCertified status other
checked_fix text_of texts base rover nav name o status out other fix told check =
    let answered = fix.answer in
    let fixed : is_fixed answered.outcome.answer ≡ true = done_true (is_fixed answered.outcome.answer) (sym (ap (λ (e : Ending). e.status) answered.end_is) ∙ fix.status_is) in
    let holds = answered.holds.fixed fixed in
    let whole : IsWhole holds.cert = subst IsWholeAnswer holds.answer_is answered.whole in
    let text_is : fix.end.out ≡ spelling holds.cert = ap (λ (e : Ending). e.out) answered.end_is ∙ ap (λ (a : Answer). answer_text a) holds.answer_is in
    let read : check.text ≡ fix.end.out = told_text texts name check.text fix.end.out told check.is in
    let same : holds.cert ≡ check.answer.cert =
    one_cert holds.cert check.answer.cert whole check.answer.whole (sym text_is ∙ sym read ∙ check.answer.spelled) in
    let said = check.answer.answer in
    let here : IsVerdictOf holds.cert.session holds.cert.ratio holds.cert.budget holds.cert.tail said.verdict =
    subst (λ (x : Cert). IsVerdictOf x.session x.ratio x.budget x.tail said.verdict) (sym same) said.is in
    certifying check.end said.verdict status other said.end_is (holds.only said.verdict here) check.status_is check.printed

-- rows that are decided to be fixed certify the text that says so
fixed_certified : (s : Session) (ratio budget : ℕ) (t : Tail) → migrated_status t ≡ Done → IsRowDecision s ratio budget t → IsVerdictOf s ratio budget t Certified
fixed_certified s ratio budget (Fixed h moved best top) is decision =
    record { decided = Fixed h moved best top; decision = decision; said = same_numbers h moved best top }
fixed_certified s ratio budget (Unseparated h moved best top) is decision = absurd (cc (is))
fixed_certified s ratio budget (Weak column pivot) is decision = absurd (cc (is))
fixed_certified s ratio budget (Overwidth place) is decision = absurd (cc (is))
fixed_certified s ratio budget (Unsettled entry) is decision = absurd (cc (is))
fixed_certified s ratio budget (Spent more) is decision = absurd (cc (is))

pub checked_migrate : (text_of texts : List ℕ → Option (List ℕ)) (old name : List ℕ) (status : Status) (out other : SinkChange)
    → (migrate : SaysOfText migrate_job text_of old Done out) → texts name ≡ Some migrate.end.out → SaysOfText check_job texts name status other → PrintsCertified status other
checked_migrate text_of texts old name status out other migrate told check =
    let made = migrate.answer.answer in
    let cert : Cert = made.cert in
    let text_is : migrate.end.out ≡ spelling cert = ap (λ (e : Ending). e.out) made.end_is in
    let fixed : migrated_status cert.tail ≡ Done = sym (ap (λ (e : Ending). e.status) made.end_is) ∙ migrate.status_is in
    let read : check.text ≡ migrate.end.out = told_text texts name check.text migrate.end.out told check.is in
    let same : cert ≡ check.answer.cert = one_cert cert check.answer.cert made.whole check.answer.whole (sym text_is ∙ sym read ∙ check.answer.spelled) in
    let said = check.answer.answer in
    let here : IsVerdictOf check.answer.cert.session check.answer.cert.ratio check.answer.cert.budget check.answer.cert.tail Certified =
    subst (λ (x : Cert). IsVerdictOf x.session x.ratio x.budget x.tail Certified) same (fixed_certified cert.session cert.ratio cert.budget cert.tail fixed made.migrated.tail) in
    certifying check.end said.verdict status other said.end_is (sym (said.only Certified here)) check.status_is check.printed

-- what is certified within a budget is so within a greater one
more_certified : (cert other : Cert) → HasMoreBudget cert other → IsVerdictOf cert.session cert.ratio cert.budget cert.tail Certified
    → IsVerdictOf other.session other.ratio other.budget other.tail Certified
more_certified cert other has is =
    subst (λ (s : Session). IsVerdictOf s other.ratio other.budget other.tail Certified) (sym has.session_is)
    (subst (λ (ratio : ℕ). IsVerdictOf cert.session ratio other.budget other.tail Certified) (sym has.ratio_is)
    (subst (λ (t : Tail). IsVerdictOf cert.session cert.ratio other.budget t Certified) (sym has.tail_is)
    (certified_more cert.session cert.ratio cert.budget other.budget cert.tail has.more is)))

pub more_check : (cert other : Cert) (text_of texts : List ℕ → Option (List ℕ)) (name other_name : List ℕ) (status : Status) (out other_out : SinkChange) → IsWhole cert → IsWhole other
    → HasMoreBudget cert other → text_of name ≡ Some (spelling cert) → texts other_name ≡ Some (spelling other)
    → SaysOfText check_job text_of name Done out → SaysOfText check_job texts other_name status other_out → PrintsCertified status other_out
more_check cert other text_of texts name other_name status out other_out whole whole_too has told told_too one two =
    let first : one.answer.cert ≡ cert =
    one_cert one.answer.cert cert one.answer.whole whole (sym one.answer.spelled ∙ told_text text_of name one.text (spelling cert) told one.is) in
    let second : two.answer.cert ≡ other =
    one_cert two.answer.cert other two.answer.whole whole_too (sym two.answer.spelled ∙ told_text texts other_name two.text (spelling other) told_too two.is) in
    let a : CheckEnd cert one.end = subst (λ (x : Cert). CheckEnd x one.end) first one.answer.answer in
    let b : CheckEnd other two.end = subst (λ (x : Cert). CheckEnd x two.end) second two.answer.answer in
    let certified : a.verdict ≡ Certified = done_certified a.verdict (sym (ap (λ (e : Ending). e.status) a.end_is) ∙ one.status_is) in
    let is : IsVerdictOf cert.session cert.ratio cert.budget cert.tail Certified =
    subst (λ (v : Verdict). IsVerdictOf cert.session cert.ratio cert.budget cert.tail v) certified a.is in
    certifying two.end b.verdict status other_out b.end_is (sym (b.only Certified (more_certified cert other has is))) two.status_is two.printed

-- ---- certificates of tracks
one_track_end : (c d : TrackCert) (e f : Ending) → c ≡ d → CheckTrackEnd c e → CheckTrackEnd d f → e ≡ f
one_track_end c d e f same a b =
    let there : CheckTrackEnd d e = subst (λ (x : TrackCert). CheckTrackEnd x e) same a in
    let one : there.verdict ≡ b.verdict = b.only there.verdict there.is in
    there.end_is ∙ ap (λ (w : Verdict). ending (status_of w) (verdict_text w) []) one ∙ sym b.end_is

pub one_track_check : (text_of texts : List ℕ → Option (List ℕ)) (name other text : List ℕ) (status other_status : Status) (out other_out : SinkChange) → text_of name ≡ Some text
    → texts other ≡ Some text → (one : SaysOfText check_track_job text_of name status out) → (two : SaysOfText check_track_job texts other other_status other_out) → one.end ≡ two.end
one_track_check text_of texts name other text status other_status out other_out told told_too one two =
    let first : one.text ≡ text = told_text text_of name one.text text told one.is in
    let second : two.text ≡ text = told_text texts other two.text text told_too two.is in
    let same : track_spelling one.answer.cert ≡ track_spelling two.answer.cert = sym one.answer.spelled ∙ first ∙ sym second ∙ two.answer.spelled in
    one_track_end one.answer.cert two.answer.cert one.end two.end (track_spelling_same one.answer.cert two.answer.cert one.answer.whole two.answer.whole same) one.answer.answer two.answer.answer

pub checked_track : (text_of texts : List ℕ → Option (List ℕ)) (base rover nav name : List ℕ) (o : Options) (status : Status) (out other : SinkChange)
    → (track : SaysOfSession AnswersTrack text_of base rover nav o Done out) → texts name ≡ Some track.end.out → SaysOfText check_track_job texts name status other → PrintsCertified status other
checked_track text_of texts base rover nav name o status out other track told check =
    let answered = track.answer in
    let fixed : is_track_fixed answered.outcome.answer ≡ true =
    done_true (is_track_fixed answered.outcome.answer) (sym (ap (λ (e : Ending). e.status) answered.end_is) ∙ track.status_is) in
    let holds = answered.fixed fixed in
    let whole : IsWholeTrackCert holds.cert = subst IsWholeTrackAnswer holds.answer_is answered.whole in
    let text_is : track.end.out ≡ track_spelling holds.cert = ap (λ (e : Ending). e.out) answered.end_is ∙ ap (λ (a : TrackAnswer). track_answer_text a) holds.answer_is in
    let read : check.text ≡ track.end.out = told_text texts name check.text track.end.out told check.is in
    let same : holds.cert ≡ check.answer.cert =
    track_spelling_same holds.cert check.answer.cert whole check.answer.whole (sym text_is ∙ sym read ∙ check.answer.spelled) in
    let said = check.answer.answer in
    let here : IsVerdictOn holds.cert said.verdict = subst (λ (x : TrackCert). IsVerdictOn x said.verdict) (sym same) said.is in
    certifying check.end said.verdict status other said.end_is (holds.only said.verdict here) check.status_is check.printed

more_track_certified : (cert other : TrackCert) → HasMoreTrackBudget cert other → IsVerdictOn cert Certified → IsVerdictOn other Certified
more_track_certified cert other has is =
    subst (λ (t : Track). IsTrackVerdict t.arcs (fine_signals t.signals) t.pairs other.ratio other.budget other.tail Certified) (sym has.track_is)
    (subst (λ (ratio : ℕ). IsTrackVerdict cert.track.arcs (fine_signals cert.track.signals) cert.track.pairs ratio other.budget other.tail Certified) (sym has.ratio_is)
    (subst (λ (t : TrackTail). IsTrackVerdict cert.track.arcs (fine_signals cert.track.signals) cert.track.pairs cert.ratio other.budget t Certified) (sym has.tail_is)
    (track_certified_more cert.track.arcs (fine_signals cert.track.signals) cert.track.pairs cert.ratio cert.budget other.budget cert.tail has.more is)))

pub more_track_check : (cert other : TrackCert) (text_of texts : List ℕ → Option (List ℕ)) (name other_name : List ℕ) (status : Status) (out other_out : SinkChange) → IsWholeTrackCert cert
    → IsWholeTrackCert other → HasMoreTrackBudget cert other → text_of name ≡ Some (track_spelling cert) → texts other_name ≡ Some (track_spelling other)
    → SaysOfText check_track_job text_of name Done out → SaysOfText check_track_job texts other_name status other_out → PrintsCertified status other_out
more_track_check cert other text_of texts name other_name status out other_out whole whole_too has told told_too one two =
    let first : one.answer.cert ≡ cert =
    track_spelling_same one.answer.cert cert one.answer.whole whole (sym one.answer.spelled ∙ told_text text_of name one.text (track_spelling cert) told one.is) in
    let second : two.answer.cert ≡ other =
    track_spelling_same two.answer.cert other two.answer.whole whole_too (sym two.answer.spelled ∙ told_text texts other_name two.text (track_spelling other) told_too two.is) in
    let a : CheckTrackEnd cert one.end = subst (λ (x : TrackCert). CheckTrackEnd x one.end) first one.answer.answer in
    let b : CheckTrackEnd other two.end = subst (λ (x : TrackCert). CheckTrackEnd x two.end) second two.answer.answer in
    let certified : a.verdict ≡ Certified = done_certified a.verdict (sym (ap (λ (e : Ending). e.status) a.end_is) ∙ one.status_is) in
    let is : IsVerdictOn cert Certified = subst (λ (v : Verdict). IsVerdictOn cert v) certified a.is in
    certifying two.end b.verdict status other_out b.end_is (sym (b.only Certified (more_track_certified cert other has is))) two.status_is two.printed
