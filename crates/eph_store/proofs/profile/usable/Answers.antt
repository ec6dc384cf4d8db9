-- A usable record has a whole second.
use Rattle.eph_store.proofs.ProfileLaws.{is_some_whole, toe_in_range}
use Rattle.eph_store.proofs.profile.usable.Goals as goal

pub unwrap-second-requires : goal.unwrap-second-requires
unwrap-second-requires c = is_some_whole c.whole_up_to-2.result c.args.raw.now.toe_s 604799 c.whole_up_to-2.ensures (toe_in_range c.args.raw.now c.requires)
