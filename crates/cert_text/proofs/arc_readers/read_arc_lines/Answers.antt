use Rattle.std.proofs.Common.{sym, ap, ◌∙◌, ◌+◌, ◌-◌, ◌≤◌, ◌++◌, ◌∷◌, [], ℕ, List, arith}
use Rattle.std.proofs.lemmas.List.{length_push}
use Rattle.std.proofs.lemmas.List.Elements.{All-push}
use Rattle.obs_rows.specs.declared.arcs.Arc.{Arc}
use Rattle.obs_rows.specs.Arcs.{IsArcInRange, free_count}
use Rattle.rinex_head.specs.LineRules.{rest_gives}
use Rattle.cert_lines.specs.Lines.{arc_lines}
use Rattle.cert_lines.specs.Lengths.{IsWholeArc}
use Rattle.cert_text.specs.Parts.{free_by}
use Rattle.obs_rows.specs.Signals.{fine_signals}
use Rattle.obs_rows.specs.Unused.{HasUsedShifts}
use Rattle.cert_lines.specs.Versions.{most_sat}
use Rattle.cert_text.proofs.ArcSteps.{arcs_took, free_push, few_stand, some_stand}
use Rattle.std.proofs.lemmas.Result.{err_from_is_err_and}
use Rattle.cert_text.proofs.arc_readers.read_arc_lines.Goals as goal

pub arcs-preserved : goal.arcs-preserved
arcs-preserved g c =
    let before = c.arcs.arcs.items in
    let arc = c.in_ok-arc.arc in
    let items = c.in_ok-push.ensures.items in
    let one = length_push before arc in
    let some : 1 ≤ c.arcs.left = omega arith in
    record {
      reads = λ states taken.
          c.arcs.invariant.reads states taken ∙ c.in_ok-arc.ensures.reads (states c.arcs.left before) (λ x. states (c.arcs.left - 1) (before ++ x ∷ []))
          (rw c.arcs.invariant.free (taken.takes c.arcs.left before some))
          ∙ ap (λ (more : List Arc). rest_gives g.G.Grammar.rules c.next_arc.new.lines (states (c.arcs.left - 1) more)) (sym items);
      took =
          c.arcs.invariant.took ∙ ap (λ (l : List (List ℕ)). arc_lines (fine_signals c.args.signals) before ++ l) c.in_ok-arc.ensures.took
          ∙ arcs_took (fine_signals c.args.signals) before arc c.next_arc.new.lines.left
          ∙ ap (λ (more : List Arc). arc_lines (fine_signals c.args.signals) more ++ c.next_arc.new.lines.left) (sym items);
      count = rw items (omega (arith, one, c.arcs.invariant.count));
      free = c.free_with-free.ensures ∙ ap (λ (n : ℕ). n + free_by arc.datum) c.arcs.invariant.free ∙ sym (free_push before arc) ∙ ap free_count (sym items);
      few_free = rw c.free_with-free.ensures (few_stand c.arcs.free c.arcs.left arc.datum c.in_ok-arc.ensures.stands c.arcs.invariant.few_free);
      some_free = rw c.free_with-free.ensures (some_stand c.arcs.free c.arcs.left arc.datum some c.in_ok-arc.ensures.stands);
      ranges = rw items (All-push IsArcInRange before arc c.arcs.invariant.ranges c.in_ok-arc.ensures.in_range);
      of_version = rw items (All-push (λ (x : Arc). x.sat ≤ most_sat c.args.version) before arc c.arcs.invariant.of_version c.in_ok-arc.ensures.of_version);
      used = rw items (All-push (HasUsedShifts (fine_signals c.args.signals)) before arc c.arcs.invariant.used c.in_ok-arc.ensures.used);
      whole = rw items (All-push IsWholeArc before arc c.arcs.invariant.whole c.in_ok-arc.ensures.whole);
    }

pub returns-in_err-arc-clause-reads : goal.returns-in_err-arc-clause-reads
returns-in_err-arc-clause-reads g c = λ states taken.
    let err_parts = err_from_is_err_and c.from_residual.result c.from_residual.ensures.1 in
    let before = c.arcs.arcs.items in
    let some : 1 ≤ c.arcs.left = omega (arith, c.arcs-test.true) in
    rw (err_parts.1, err_parts.2) (c.arcs.invariant.reads states taken
    ∙ c.in_err-arc.ensures.reads (states c.arcs.left before) (λ x. states (c.arcs.left - 1) (before ++ x ∷ [])) (rw c.arcs.invariant.free (taken.takes c.arcs.left before some)))
