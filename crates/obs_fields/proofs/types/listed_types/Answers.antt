use Rattle.std.proofs.Common.{◌≢◌, ◌<◌, length, arith, ◌∙◌, get_or-set_other, get_or-set_same, below_more, length-set}
use Rattle.obs_fields.proofs.TypeLists.{listed_is}
use Rattle.obs_fields.proofs.types.listed_types.Goals as goal

pub loop-slot-preserved : goal.loop-slot-preserved
loop-slot-preserved c = record {
  so_far = below_more _ _
      (λ i lt. let other : i ≢ c.loop-slot.slot = omega arith in rw get_or-set_other (c.loop-slot.invariant.so_far i lt))
      (let less : c.loop-slot.slot < length c.loop-slot.listed = omega (arith, c.loop-slot.invariant.as_many, c.loop-slot-test.true) in rw get_or-set_same (c.is_listed_kept.ensures));
  as_many = length-set _ _ _ ∙ c.loop-slot.invariant.as_many;
}

pub returns : goal.returns
returns c = listed_is c.args.system c.args.names.now c.loop-slot.listed c.loop-slot.invariant.as_many (λ i lt. c.loop-slot.invariant.so_far i (omega (arith, c.loop-slot-test.false)))
