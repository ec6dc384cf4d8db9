use Rattle.std.proofs.Common.{◌≢◌, ◌<◌, length, arith, ◌∙◌, get_or-set_other, get_or-set_same, below_more, length-set}
use Rattle.std.proofs.lemmas.List.{length-replicate}
use Rattle.rinex_head.proofs.ColumnLaws.{columns-are}
use Rattle.rinex_head.proofs.columns.field.Goals as goal

pub loop-k-init : goal.loop-k-init
loop-k-init g c = record { so_far = λ i lt. absurd (omega arith); as_many = length-replicate _ _ }

pub loop-k-preserved : goal.loop-k-preserved
loop-k-preserved g c = record {
  so_far = below_more _ _
      (λ i lt. let other : i ≢ c.loop-k.k = omega arith in rw get_or-set_other (c.loop-k.invariant.so_far i lt))
      (let less : c.loop-k.k < length c.loop-k.bytes = omega (arith, c.loop-k.invariant.as_many, c.loop-k-test.true) in rw get_or-set_same c.byte_in.ensures);
  as_many = length-set _ _ _ ∙ c.loop-k.invariant.as_many;
}

pub returns : goal.returns
returns g c = columns-are c.args.line.now c.args.first g.row.N c.loop-k.bytes c.requires.from_one c.loop-k.invariant.as_many (λ i lt. c.loop-k.invariant.so_far i (omega (arith, c.loop-k-test.false)))
