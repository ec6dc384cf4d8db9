-- One value more, or none in its slot.
use Rattle.std.proofs.Common.{◌≡◌, ◌∙◌, ap, sym, arith, Some, None}
use Rattle.obs_store.specs.declared.values.Value.{Value}
use Rattle.obs_store.specs.declared.kinds.ObsType.TheVariants.{C1C}
use Rattle.obs_store.specs.Kinds.{slot_of, slot_count}
use Rattle.obs_store.proofs.StoredLaws.{none_stored, stored_some, stored_none, all_stored, slot_at}
use Rattle.obs_store.proofs.sat_values.SatValues.of.Goals as goal
use Rattle.obs_store.proofs.sat_values.SatValues.of.Goals.{in-Some, in-None}

pub loop-slot-init : goal.loop-slot-init
loop-slot-init c = record { stored = rw c.new-stored.ensures (none_stored c.args.values.now); few = rw c.new-stored.ensures (omega arith) }

pub loop-slot-preserved : goal.loop-slot-preserved
loop-slot-preserved c = elim c.match-values-slot.branch [
  | in-Some w ↦ rw w.stored-is (record {
    stored = stored_some c.loop-slot.stored.items w.push.new.self.items c.loop-slot.slot c.args.values.now w.stored_value.result None
        c.loop-slot.invariant.stored c.loop-slot-test.true c.told-values w.push.ensures.items
        (ap slot_of w.stored_value.ensures.kind ∙ slot_at c.loop-slot.slot C1C c.loop-slot-test.true) (w.in-Some.is ∙ ap (λ (v : Value). Some v) (sym w.stored_value.ensures.value));
    few = omega (arith, w.push.ensures.len, c.loop-slot.invariant.few);
  })
  | in-None w ↦ rw w.stored-is (record {
    stored = stored_none c.loop-slot.stored.items c.loop-slot.slot c.args.values.now None c.loop-slot.invariant.stored c.loop-slot-test.true c.told-values w.in-None.is;
    few = omega (arith, c.loop-slot.invariant.few);
  })
]

pub returns : goal.returns
returns c =
    let last : c.loop-slot.slot ≡ slot_count = omega arith in
    all_stored c.loop-slot.stored.items c.loop-slot.slot c.args.values.now c.loop-slot.invariant.stored last c.told-values
