use Rattle.std.proofs.lemmas.Result.{on_ok_weaker}
use Rattle.cert_text.specs.Spelling.{spelling_as, session_lines, tail_lines}
use Rattle.cert_lines.specs.declared.version.Version.TheVariants.{Two}
use Rattle.cert_text.proofs.Texts.{then_written}
use Rattle.cert_text.proofs.write.write_cert.Goals as goal

pub returns-clause-text : goal.returns-clause-text
unfolding spelling_as
returns-clause-text c =
    let cert = c.args.cert.now in
    let front = session_lines Two cert.ratio cert.budget cert.session in
    then_written c.args.out.now.items _ _ front (tail_lines cert.tail) _ c.in_ok-push_session.ensures.text c.push_tail.ensures.text

pub returns-clause-whole : goal.returns-clause-whole
returns-clause-whole c = on_ok_weaker c.push_tail.result (λ tail. record { session = c.in_ok-push_session.ensures.whole; tail = tail }) c.push_tail.ensures.whole
