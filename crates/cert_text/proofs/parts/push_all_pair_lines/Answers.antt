use Rattle.std.proofs.Common.{List, All, subst}
use Rattle.std.proofs.lemmas.List.{take_all}
use Rattle.std.proofs.lemmas.List.Elements.{All-more}
use Rattle.obs_rows.specs.declared.pair_rows.PairRows.{PairRows}
use Rattle.cert_lines.specs.Lengths.{IsWholePair}
use Rattle.cert_text.proofs.Texts.{pair_pushed}
use Rattle.obs_rows.specs.Signals.{fine_signals}
use Rattle.cert_text.proofs.parts.push_all_pair_lines.Goals as goal

pub loop-pair-preserved : goal.loop-pair-preserved
loop-pair-preserved c =
    let signals = fine_signals c.args.signals in
    let pairs = c.args.pairs.now in
    let i = c.loop-pair.pair-index in
    let pair = c.pair-item.result in
    let inside = c.loop-pair-test.true in
    record {
      text = pair_pushed signals c.loop-pair.out.items c.push_pair_lines.new.out.items _ pairs i pair inside c.pair-item.is c.in_ok-push_pair_lines.ensures.text c.loop-pair.invariant.text;
      whole = All-more IsWholePair pairs i pair inside c.loop-pair.invariant.whole (subst IsWholePair c.pair-item.is c.in_ok-push_pair_lines.ensures.whole);
    }

pub returns-clause-whole : goal.returns-clause-whole
returns-clause-whole c = subst (λ (pairs : List PairRows). All IsWholePair pairs) (take_all c.loop-pair.pair-index c.args.pairs.now c.loop-pair-test.false) c.loop-pair.invariant.whole
