-- The first number out of its range.
use Rattle.std.proofs.Common.{List, All, subst}
use Rattle.std.proofs.lemmas.List.{take_all}
use Rattle.std.proofs.lemmas.List.Elements.{All-more}
use Rattle.eph_store.specs.declared.fields.Field.{Field}
use Rattle.eph_store.specs.Profile.{InRange}
use Rattle.eph_store.proofs.ProfileLaws.{out_at}
use Rattle.eph_store.proofs.profile.first_out.Goals as goal

pub returns-then-not-is_in_range : goal.returns-then-not-is_in_range
returns-then-not-is_in_range c =
    out_at c.args.raw.now c.args.fields.now c.loop-at.at _ c.loop-at-test.true c.loop-at.invariant (λ h. absurd (cc (c.is_in_range.ensures.1 h, c.if-not-is_in_range.true)))

pub loop-at-preserved : goal.loop-at-preserved
loop-at-preserved c =
    All-more (λ f. InRange f c.args.raw.now) c.args.fields.now c.loop-at.at _ c.loop-at-test.true c.loop-at.invariant (c.is_in_range.ensures.0 c.if-not-is_in_range.false)

pub returns : goal.returns
returns c =
    subst (λ (fs : List Field). All (λ f. InRange f c.args.raw.now) fs) (take_all c.loop-at.at c.args.fields.now c.loop-at-test.false) c.loop-at.invariant
