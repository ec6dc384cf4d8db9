use Rattle.std.proofs.Common.{ℕ, ◌+◌, ◌<◌, List, [], length, get_or, ℤ, All, sym, subst, ap, ◌∙◌, arith}
use Rattle.std.proofs.lemmas.List.{length_push, get_or_default}
use Rattle.std.proofs.lemmas.List.Elements.{All-nil, All-push}
use Rattle.eph_store.specs.declared.ephemeris.Eph.{Eph}
use Rattle.sv_orbit.specs.Records.{constants_of}
use Rattle.sim_session.specs.declared.signals.Signals.{Signals}
use Rattle.sim_session.specs.ObservationText.{AreInColumns}
use Rattle.sim_session.specs.Observed.{IsObserved}
use Rattle.sim_session.proofs.Progress.{one_more}
use Rattle.sim_session.proofs.Smalls.{cycles_at}
use Rattle.sim_session.proofs.Held.{observed_is}
use Rattle.sim_session.proofs.observations.observe_all.Goals as goal

pub observe-requires-clause-cycles : goal.observe-requires-clause-cycles
observe-requires-clause-cycles c = cycles_at c.args.cycles.now c.loop-k.k c.requires.small

pub loop-k-init : goal.loop-k-init
loop-k-init c = record {
  count = ap (λ (xs : List Signals). length xs) c.new-sats.ensures.items;
  each = λ j s l e d. absurd (omega (arith, l));
  columns = subst (λ (xs : List Signals). All AreInColumns xs) (sym c.new-sats.ensures.items) (All-nil AreInColumns);
}

pub loop-k-preserved : goal.loop-k-preserved
loop-k-preserved c =
    let k = c.loop-k.k in
    let now = c.loop-k.invariant in
    let sats = c.loop-k.sats.items in
    let records = c.args.records.now in
    let all = c.args.cycles.now in
    let world = constants_of c.args.world.now in
    let receiver = c.args.receiver.now in
    let tag = c.args.tag.0 in
    let eph = c.index-records-k.result in
    let own = c.observe.result in
    let within : k < length records = c.loop-k-test.true in
    let also : k < length all = omega (arith, c.requires.as_many) in
    let here : (e : Eph) (d : List ℤ) → IsObserved world tag receiver.point receiver.clock (get_or records k e) (get_or all k d) own =
    λ e d. observed_is world tag receiver.point receiver.clock eph (get_or records k e) (get_or all k []) (get_or all k d) own
    (c.index-records-k.is ∙ get_or_default records k eph e within) (get_or_default all k [] d also) c.observe.ensures.observed in
    record {
      count = ap (λ (xs : List Signals). length xs) c.in_ok-push.ensures.items ∙ length_push sats own ∙ ap (λ (n : ℕ). n + 1) now.count;
      each = λ j s l e d. subst (λ (xs : List Signals). IsObserved world tag receiver.point receiver.clock (get_or records j e) (get_or all j d) (get_or xs j s)) (sym c.in_ok-push.ensures.items)
          (one_more (λ (i : ℕ) (x : Signals). (e : Eph) (d : List ℤ)
          → IsObserved world tag receiver.point receiver.clock (get_or records i e) (get_or all i d) x) sats own k now.count now.each here j s l e d);
      columns = subst (λ (xs : List Signals). All AreInColumns xs) (sym c.in_ok-push.ensures.items) (All-push AreInColumns sats own now.columns c.observe.ensures.columns);
    }

pub returns : goal.returns
returns c =
    let now = c.loop-k.invariant in
    record {
      as_many = omega (arith, now.count, c.loop-k-test.false, c.loop-k.auto.k-end);
      each = λ j e d s l. now.each j s (subst (λ (n : ℕ). j < n) now.count l) e d;
      columns = now.columns;
    }
