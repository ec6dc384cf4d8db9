use Rattle.std.proofs.Common.{◌≡◌, ◌+◌, ◌<◌, ◌++◌, ◌∷◌, ℕ, ℤ, List, length, drop, get_or, refl, sym, ap, ◌∙◌, arith}
use Rattle.std.proofs.lemmas.Result.{err_from_is_err_and}
use Rattle.std.proofs.lemmas.List.{length_push, drop_more, drop_all}
use Rattle.std.proofs.lemmas.List.Elements.{All-push}
use Rattle.obs_rows.specs.declared.pair_rows.PairRows.{PairRows}
use Rattle.rinex_head.specs.LineRules.{rest_gives}
use Rattle.cert_data.specs.Tails.{IsMove}
use Rattle.track_text.specs.Spelling.{move_lines}
use Rattle.track_text.specs.Rules.{track_rules, numbers_of, before_moves}
use Rattle.track_text.proofs.MoveLaws.{none_took, moves_took}
use Rattle.track_text.proofs.PairSteps.{all_none}
use Rattle.track_text.proofs.moves.read_moves.Goals as goal

pub loop-pair-init : goal.loop-pair-init
loop-pair-init c =
    let none = c.new-moves.ensures.items in
    let moves = c.new-moves.result.items in
    record {
      reads = refl;
      took = none_took c.args.pairs.now moves c.args.lines.now.left none;
      each = ap length none;
      inside = omega arith;
      in_range = all_none IsMove moves none;
      whole = all_none (λ (x : List ℤ). length x ≡ 3) moves none;
    }

pub loop-pair-preserved : goal.loop-pair-preserved
loop-pair-preserved c =
    let pairs = c.args.pairs.now in
    let i = c.loop-pair.pair-index in
    let moves = c.loop-pair.moves.items in
    let pair = c.pair-item.result in
    let moved = c.in_ok-moved.moved in
    let items = c.in_ok-push.ensures.items in
    let inside = c.loop-pair-test.true in
    let each = c.loop-pair.invariant.each in
    let later = drop (i + 1) pairs in
    let one = length_push moves moved in
    let split : drop i pairs ≡ pair ∷ later = drop_more pairs i pair inside ∙ ap (λ (q : PairRows). q ∷ later) (sym c.pair-item.is) in
    let this : pair ≡ get_or pairs (length moves) pair = c.pair-item.is ∙ ap (λ (k : ℕ). get_or pairs k pair) (sym each) in
    let within : length moves < length pairs = omega (arith, each, inside) in
    record {
      reads =
          c.loop-pair.invariant.reads ∙ ap (λ (ps : List PairRows). rest_gives track_rules c.loop-pair.lines (before_moves (numbers_of ps))) split
          ∙ c.in_ok-moved.ensures.reads (numbers_of later);
      took =
          c.loop-pair.invariant.took ∙ ap (λ (l : List (List ℕ)). move_lines pairs moves ++ l) c.in_ok-moved.ensures.took
          ∙ moves_took pairs moves pair moved c.next_move.new.lines.left within this
          ∙ ap (λ (ms : List (List ℤ)). move_lines pairs ms ++ c.next_move.new.lines.left) (sym items);
      each = rw items (omega (arith, one, each));
      inside = omega (arith, inside);
      in_range = rw items (All-push IsMove moves moved c.loop-pair.invariant.in_range c.in_ok-moved.ensures.in_range);
      whole = rw items (All-push (λ (x : List ℤ). length x ≡ 3) moves moved c.loop-pair.invariant.whole c.in_ok-moved.ensures.whole);
    }

pub returns-in_err-moved-clause-reads : goal.returns-in_err-moved-clause-reads
returns-in_err-moved-clause-reads c =
    let is_error = err_from_is_err_and c.from_residual.result c.from_residual.ensures.1 in
    let pairs = c.args.pairs.now in
    let i = c.loop-pair.pair-index in
    let pair = c.pair-item.result in
    let later = drop (i + 1) pairs in
    let split : drop i pairs ≡ pair ∷ later = drop_more pairs i pair c.loop-pair-test.true ∙ ap (λ (q : PairRows). q ∷ later) (sym c.pair-item.is) in
    rw (is_error.1, is_error.2) (c.loop-pair.invariant.reads ∙ ap (λ (ps : List PairRows). rest_gives track_rules c.loop-pair.lines (before_moves (numbers_of ps))) split
    ∙ c.in_err-moved.ensures.reads (numbers_of later))

pub returns-clause-reads : goal.returns-clause-reads
returns-clause-reads c =
    c.loop-pair.invariant.reads
    ∙ ap (λ (ps : List PairRows). rest_gives track_rules c.loop-pair.lines (before_moves (numbers_of ps))) (drop_all c.loop-pair.pair-index c.args.pairs.now c.loop-pair-test.false)
