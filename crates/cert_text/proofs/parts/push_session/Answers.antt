use Rattle.std.proofs.Common.{◌++◌}
use Rattle.std.proofs.lemmas.Result.{on_ok_weaker}
use Rattle.cert_lines.specs.Lines.{counted_arcs}
use Rattle.cert_text.specs.Spelling.{head_lines, counted_pairs}
use Rattle.obs_rows.specs.Signals.{fine_signals}
use Rattle.cert_lines.specs.declared.version.Version.TheVariants.{Two}
use Rattle.cert_text.proofs.Texts.{then_written}
use Rattle.cert_text.proofs.parts.push_session.Goals as goal

pub returns-clause-text : goal.returns-clause-text
returns-clause-text c =
    let session = c.args.session.now in
    let signals = fine_signals session.signals in
    let arcs = rw c.as_slice.ensures at c.in_ok-push_arcs.ensures.text in
    let pairs = rw c.as_slice-2.ensures at c.push_pairs.ensures.text in
    let behind = then_written c.push_head.new.out.items _ _ (counted_arcs signals session.arcs) (counted_pairs signals session.pairs) _ arcs pairs in
    let head = head_lines Two c.args.ratio c.args.budget session.system session.base session.point session.signals in
    then_written c.args.out.now.items _ _ head (counted_arcs signals session.arcs ++ counted_pairs signals session.pairs) _ c.in_ok-push_head.ensures.text behind

pub returns-clause-whole : goal.returns-clause-whole
returns-clause-whole c =
    let session = c.args.session.now in
    let arcs = rw c.as_slice.ensures at c.in_ok-push_arcs.ensures.whole in
    let pairs = rw c.as_slice-2.ensures at c.push_pairs.ensures.whole in
    let head = c.in_ok-push_head.ensures in
    on_ok_weaker c.push_pairs.result (λ each. record { base = head.base; point = head.point; arcs = arcs; pairs = each }) pairs
