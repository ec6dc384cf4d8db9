use Rattle.std.proofs.Common.{◌≡◌, ◌+◌, ◌<◌, ◌^◌, ◌++◌, ◌∷◌, [], false, ℕ, List, length, get_or, All, arith, ap, ◌∙◌, subst, sym}
use Rattle.std.proofs.lemmas.Option.{slice_get-get_or}
use Rattle.std.proofs.lemmas.List.Elements.{All-push}
use Rattle.obs_rows.specs.declared.arcs.Arc.{Arc}
use Rattle.obs_rows.specs.Ranges.{IsBelow}
use Rattle.round_steps.specs.Shifts.{AreShiftsBelow}
use Rattle.round_steps.proofs.ShiftLaws.{more_grown, all_grown}
use Rattle.round_steps.proofs.shifts.grown.Goals as goal

pub loop-k-preserved : goal.loop-k-preserved
loop-k-preserved c =
    let k : ℕ = c.loop-k.k in
    let arcs : List Arc = c.args.arcs.now in
    let no_arc : Arc = record { sat = 0; first = 0; last = 0; datum = false; shift = [] } in
    let inside : k < length arcs = omega arith in
    let pushed : c.push.new.self.items ≡ c.loop-k.after.items ++ c.grown_arc.result ∷ [] = c.in_ok-push.ensures.items in
    record {
      grown = more_grown k arcs c.args.signals.now c.args.numbers.now c.loop-k.after.items c.push.new.self.items (get_or arcs k no_arc) c.loop-k.invariant.grown (slice_get-get_or arcs k no_arc inside)
          (pushed ∙ ap (λ (r : Arc). c.loop-k.after.items ++ r ∷ []) c.grown_arc.ensures.grown);
      below = λ m h z. subst (AreShiftsBelow (m + 2 ^ 30)) (sym pushed) (All-push (λ (b : Arc). All (IsBelow (m + 2 ^ 30)) b.shift)
          c.loop-k.after.items c.grown_arc.result (c.loop-k.invariant.below m h z) (c.grown_arc.ensures.below m (h k no_arc inside) z));
    }

pub returns-clause-grown : goal.returns-clause-grown
returns-clause-grown c = all_grown c.loop-k.k c.args.arcs.now c.args.signals.now c.args.numbers.now c.loop-k.after.items c.loop-k.invariant.grown (omega arith)
