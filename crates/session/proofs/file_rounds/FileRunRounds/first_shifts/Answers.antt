use Rattle.std.proofs.Common.{◌≡◌, ◌^◌, ◌++◌, ◌∷◌, [], length, All, arith, sym, subst}
use Rattle.std.proofs.lemmas.List.Elements.{All-push}
use Rattle.obs_rows.specs.declared.arcs.Arc.{Arc}
use Rattle.obs_rows.specs.Ranges.{IsBelow}
use Rattle.obs_rows.specs.Signals.{fine_signals}
use Rattle.obs_rows.specs.Unused.{HasUsedShifts}
use Rattle.round_steps.specs.Shifts.{AreShiftsBelow}
use Rattle.session.proofs.FirstArcs.{more_first, begins, same_first}
use Rattle.session.proofs.file_rounds.FileRunRounds.first_shifts.Goals as goal

pub loop-k-preserved : goal.loop-k-preserved
loop-k-preserved c =
    let files = c.args.self.now.files.now in
    let pushed : c.push.new.self.items ≡ c.loop-k.arcs.items ++ c.first_arc.result ∷ [] = c.in_ok-push.ensures.items in
    record {
      first = more_first files.screened.boxes files.kept files.position c.args.point.now files.signals c.loop-k.k c.loop-k.arcs.items c.push.new.self.items c.first_arc.result c.loop-k.invariant.first
          (λ a at. record { same = c.first_arc.ensures.same a at; near = c.first_arc.ensures.near a at }) pushed;
      size = subst (AreShiftsBelow (2 ^ 39)) (sym pushed)
          (All-push (λ (b : Arc). All (IsBelow (2 ^ 39)) b.shift) c.loop-k.arcs.items c.first_arc.result c.loop-k.invariant.size c.first_arc.ensures.size);
      used = subst (All (HasUsedShifts (fine_signals files.signals))) (sym pushed)
          (All-push (HasUsedShifts (fine_signals files.signals)) c.loop-k.arcs.items c.first_arc.result c.loop-k.invariant.used c.first_arc.ensures.used);
    }

pub returns-clause-begins : goal.returns-clause-begins
returns-clause-begins c =
    let files = c.args.self.now.files.now in
    let all : c.loop-k.k ≡ length c.args.self.now.files.now.kept = omega (arith, c.len-k-end.ensures) in
    begins files.screened.boxes files.kept files.position c.args.point.now files.signals c.loop-k.k c.loop-k.arcs.items c.loop-k.invariant.first all

pub returns-clause-arcs : goal.returns-clause-arcs
returns-clause-arcs c =
    let files = c.args.self.now.files.now in
    let all : c.loop-k.k ≡ length c.args.self.now.files.now.kept = omega (arith, c.len-k-end.ensures) in
    same_first files.screened.boxes files.kept files.position c.args.point.now files.signals c.loop-k.k c.loop-k.arcs.items c.loop-k.invariant.first all
