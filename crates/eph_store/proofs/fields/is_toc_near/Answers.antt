-- The time is the one that the record names.
use Rattle.std.proofs.Common.{rules}
use Rattle.eph_store.proofs.ProfileLaws.{toc_near}
use Rattle.eph_store.proofs.fields.is_toc_near.Goals as goal

pub returns : goal.returns
returns c =
    let decides_nearness = toc_near c.args.raw.now c.in-Some.week c.in-Some-whole_up_to.second c.abs_diff.result _
    (record {
      week_is = c.in-Some.ensures.1;
      week_in = c.in-Some.ensures.0;
      second_is = c.in-Some-whole_up_to.ensures.1;
      second_in = c.in-Some-whole_up_to.ensures.0;
    }) c.week_tick-toe.ensures c.abs_diff.ensures in
    (λ t. decides_nearness.0 (search rules), λ n. let distance_at_most = decides_nearness.1 n in search rules)
