use Rattle.std.proofs.Common.{sym, ap, ◌∙◌, ◌++◌, ◌<◌, ℕ, List, unsigned_abs, arith}
use Rattle.std.proofs.lemmas.Result.{err_from_is_err_and}
use Rattle.std.proofs.lemmas.List.{length_push}
use Rattle.obs_rows.specs.declared.pair_rows.PairRows.{PairRows}
use Rattle.rinex_head.proofs.LineRuleLaws.{handed_on}
use Rattle.cert_text.specs.Spelling.{all_pair_lines}
use Rattle.std.proofs.lemmas.List.Elements.{All-push}
use Rattle.cert_lines.specs.Lengths.{IsWholePair}
use Rattle.obs_rows.specs.Signals.{fine_signals}
use Rattle.obs_rows.proofs.HeadLaws.{keeps_on}
use Rattle.cert_lines.specs.Versions.{group_limit}
use Rattle.cert_text.proofs.PairSteps.{pairs_took}
use Rattle.cert_text.proofs.RowSteps.{pairs_below}
use Rattle.cert_text.proofs.pairs.read_all_pairs.Goals as goal

pub returns-in_err-pair-clause-reads : goal.returns-in_err-pair-clause-reads
returns-in_err-pair-clause-reads c = λ budget.
    let refusal = err_from_is_err_and c.from_residual.result c.from_residual.ensures.1 in
    let arcs = c.as_slice.ensures ∙ c.pairs.invariant.head.arcs in
    let given = rw arcs at c.in_err-pair.ensures.reads in
    rw (refusal.1, refusal.2) (handed_on _ _ c.in_err-pair.field-0.0 (c.pairs.invariant.reads budget) (given budget))

pub pairs-preserved : goal.pairs-preserved
pairs-preserved c =
    let before = c.pairs.session.pairs in
    let pair = c.in_ok-pair.pair in
    let pairs = c.in_ok-push.ensures.added in
    let arcs = c.as_slice.ensures ∙ c.pairs.invariant.head.arcs in
    let given = rw arcs at c.in_ok-pair.ensures.reads in
    let one = length_push before pair in
    record {
      reads = λ budget. c.pairs.invariant.reads budget ∙ given budget;
      took =
          c.pairs.invariant.took ∙ ap (λ (l : List (List ℕ)). all_pair_lines (fine_signals c.args.session.signals) before ++ l) c.in_ok-pair.ensures.took
          ∙ pairs_took (fine_signals c.args.session.signals) before pair c.next_pair.new.lines.left
          ∙ ap (λ (ps : List PairRows). all_pair_lines (fine_signals c.args.session.signals) ps ++ c.next_pair.new.lines.left) (sym pairs);
      count = rw pairs (omega (arith, one, c.pairs.invariant.count));
      below = rw pairs (pairs_below before pair c.pairs.least c.pairs.invariant.below c.in_ok-pair.ensures.least);
      of_version = rw pairs (All-push (λ (q : PairRows). unsigned_abs q.group < group_limit c.args.version) before pair c.pairs.invariant.of_version c.in_ok-pair.ensures.of_version);
      whole = rw pairs (All-push IsWholePair before pair c.pairs.invariant.whole c.in_ok-pair.ensures.whole);
      head = keeps_on c.args.session c.pairs.session c.push.new.self c.pairs.invariant.head c.push.ensures.head;
    }
