use Rattle.std.proofs.Common.{◌≡◌, ◌+◌, ◌-◌, ◌<◌, ◌≤◌, ◌++◌, ◌∷◌, [], ℕ, ℤ, List, length, get_or, codes, zero-add, sym, ap, ◌∙◌, arith}
use Rattle.std.proofs.lemmas.Result.{err_from_is_err_and}
use Rattle.std.proofs.lemmas.List.{length_push, map_push}
use Rattle.std.proofs.lemmas.List.Elements.{All-push}
use Rattle.std.proofs.lemmas.List.Quantifiers.{all_pairs_push}
use Rattle.obs_rows.specs.declared.pair_rows.PairRows.{PairRows}
use Rattle.obs_rows.specs.Pairs.{HasItsArcs}
use Rattle.obs_rows.specs.Ranges.{IsPoint}
use Rattle.obs_rows.specs.Signals.{fine_signals}
use Rattle.obs_rows.specs.Unused.{HasUsedRows}
use Rattle.rinex_head.specs.LineRules.{rest_gives}
use Rattle.rinex_head.proofs.LineRuleLaws.{handed_on}
use Rattle.cert_lines.specs.Lengths.{IsWholePair}
use Rattle.cert_lines.specs.Lines.{count_line}
use Rattle.cert_text.proofs.RowSteps.{pairs_below}
use Rattle.track_text.specs.Spelling.{all_placed_pairs}
use Rattle.track_text.specs.Rules.{track_rules, frame, numbers_of, PairCount, Tail, before_pairs}
use Rattle.track_text.proofs.LineLaws.{pair_count_taken}
use Rattle.track_text.proofs.PairSteps.{placed_took, number_after, all_none, all_pairs_none}
use Rattle.track_text.proofs.pairs.read_pairs.Goals as goal

pub returns-in_err-count-clause-reads : goal.returns-in_err-count-clause-reads
returns-in_err-count-clause-reads c = λ budget.
    let is_error = err_from_is_err_and c.from_residual.result c.from_residual.ensures.1 in
    let f = frame budget (fine_signals c.args.signals) in
    let arcs = c.args.arcs.now in
    rw (is_error.1, is_error.2) (c.in_err-count.ensures.reads (PairCount f arcs) (λ n. before_pairs f arcs n 0 []) (pair_count_taken f arcs))

pub pairs-init : goal.pairs-init
pairs-init c =
    let fine = fine_signals c.args.signals in
    let arcs = c.args.arcs.now in
    let count = c.in_ok-count.count in
    let pairs = c.new-pairs.result.items in
    let points = c.new-points.result.items in
    let no_pair = c.new-pairs.ensures.items in
    let no_point = c.new-points.ensures.items in
    let between = c.in_ok-count.ensures.in_range in
    record {
      reads = λ budget.
          c.in_ok-count.ensures.reads (PairCount (frame budget fine) arcs) (λ n. before_pairs (frame budget fine) arcs n 0 []) (pair_count_taken (frame budget fine) arcs)
          ∙ ap (λ (ps : List PairRows). rest_gives track_rules c.next_count.new.lines (before_pairs (frame budget fine) arcs count 0 (numbers_of ps))) (sym no_pair);
      took =
          c.in_ok-count.ensures.took ∙ ap (λ (n : ℕ). count_line (codes "pairs") n ∷ c.next_count.new.lines.left) (sym (zero-add count))
          ∙ (λ i. count_line (codes "pairs") (length (sym no_pair i) + count) ∷ (all_placed_pairs fine (sym no_pair i) (sym no_point i) ++ c.next_count.new.lines.left));
      some = rw no_pair (omega (arith, between.0));
      few = rw no_pair (omega (arith, between.1));
      each = ap length no_point ∙ sym (ap length no_pair);
      below = all_none (λ (p : PairRows). p.number < 0) pairs no_pair;
      rising = all_pairs_none (λ (p q : PairRows). p.number < q.number) pairs no_pair;
      have_arcs = all_none (HasItsArcs arcs) pairs no_pair;
      used = all_none (HasUsedRows fine) pairs no_pair;
      points = all_none IsPoint points no_point;
      whole = all_none IsWholePair pairs no_pair;
      triples = all_none (λ (m : List ℤ). length m ≡ 3) points no_point;
    }

pub returns-in_err-placed-clause-reads : goal.returns-in_err-placed-clause-reads
returns-in_err-placed-clause-reads c = λ budget.
    let is_error = err_from_is_err_and c.from_residual-in_err-placed.result c.from_residual-in_err-placed.ensures.1 in
    rw (is_error.1, is_error.2) (handed_on _ _ c.in_err-placed.field-0.0 (c.pairs.invariant.reads budget) (c.in_err-placed.ensures.reads budget (numbers_of c.pairs.pairs.items)))

pub pairs-preserved : goal.pairs-preserved
pairs-preserved c =
    let fine = fine_signals c.args.signals in
    let arcs = c.args.arcs.now in
    let before = c.pairs.pairs.items in
    let points = c.pairs.points.items in
    let pair = c.in_ok-placed.placed.pair in
    let point = c.in_ok-placed.placed.point in
    let more_points = c.in_ok-push.ensures.items in
    let more_pairs = c.in_ok-push-2.ensures.items in
    let rest = c.next_pair.new.lines in
    let one = length_push before pair in
    let other = length_push points point in
    let left : 1 ≤ c.pairs.left = omega (arith, c.pairs-test.true) in
    let total : length before + c.pairs.left ≡ length (before ++ pair ∷ []) + (c.pairs.left - 1) = omega (arith, one, left) in
    let below : (k : ℕ) (d : PairRows) → k < length before → (get_or before k d).number < pair.number =
    λ k d inside. number_after pair (get_or before k d) c.pairs.least (c.pairs.invariant.below k d inside) c.in_ok-placed.ensures.least in
    record {
      reads = λ budget.
          c.pairs.invariant.reads budget ∙ c.in_ok-placed.ensures.reads budget (numbers_of before)
          ∙ ap (λ (ns : List ℕ). rest_gives track_rules rest (before_pairs (frame budget fine) arcs (c.pairs.left - 1) (pair.number + 1) ns)) (sym (map_push (λ (q : PairRows). q.number) before pair))
          ∙ ap (λ (ps : List PairRows). rest_gives track_rules rest (before_pairs (frame budget fine) arcs (c.pairs.left - 1) (pair.number + 1) (numbers_of ps))) (sym more_pairs);
      took =
          c.pairs.invariant.took ∙ ap (λ (l : List (List ℕ)). count_line (codes "pairs") (length before + c.pairs.left) ∷ (all_placed_pairs fine before points ++ l)) c.in_ok-placed.ensures.took
          ∙ (λ i. count_line (codes "pairs") (total i) ∷ placed_took fine before points pair point rest.left c.pairs.invariant.each i)
          ∙ (λ i. count_line (codes "pairs") (length (sym more_pairs i) + (c.pairs.left - 1)) ∷ (all_placed_pairs fine (sym more_pairs i) (sym more_points i) ++ rest.left));
      some = rw more_pairs (omega (arith, one));
      few = rw more_pairs (omega (arith, one, c.pairs.invariant.few, left));
      each = rw (more_pairs, more_points) (omega (arith, one, other, c.pairs.invariant.each));
      below = rw more_pairs (pairs_below before pair c.pairs.least c.pairs.invariant.below c.in_ok-placed.ensures.least);
      rising = rw more_pairs (all_pairs_push (λ (q r : PairRows). q.number < r.number) before pair c.pairs.invariant.rising below);
      have_arcs = rw more_pairs (All-push (HasItsArcs arcs) before pair c.pairs.invariant.have_arcs c.in_ok-placed.ensures.arcs);
      used = rw more_pairs (All-push (HasUsedRows fine) before pair c.pairs.invariant.used c.in_ok-placed.ensures.used);
      points = rw more_points (All-push IsPoint points point c.pairs.invariant.points c.in_ok-placed.ensures.point);
      whole = rw more_pairs (All-push IsWholePair before pair c.pairs.invariant.whole c.in_ok-placed.ensures.whole);
      triples = rw more_points (All-push (λ (m : List ℤ). length m ≡ 3) points point c.pairs.invariant.triples c.in_ok-placed.ensures.triple);
    }

pub returns-clause-reads : goal.returns-clause-reads
returns-clause-reads c = λ budget.
    let ended : c.pairs.left ≡ 0 = omega (arith, c.pairs-test.false) in
    let f = frame budget (fine_signals c.args.signals) in
    c.pairs.invariant.reads budget ∙ ap (λ (n : ℕ). rest_gives track_rules c.pairs.lines (before_pairs f c.args.arcs.now n c.pairs.least (numbers_of c.pairs.pairs.items))) ended
    ∙ ap (λ (ps : List PairRows). rest_gives track_rules c.pairs.lines (Tail f c.args.arcs.now (numbers_of ps))) (sym c.new.ensures)
