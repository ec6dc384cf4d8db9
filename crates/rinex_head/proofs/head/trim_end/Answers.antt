-- A blank at the end goes, another byte stays.
use Rattle.std.proofs.Common.{◌∙◌, sym}
use Rattle.rinex_head.proofs.HeadLaws.{trimmed_shorter, trimmed_whole, trimmed_none}
use Rattle.rinex_head.proofs.head.trim_end.Goals as goal

pub returns-then-last-ne32 : goal.returns-then-last-ne32
returns-then-last-ne32 c = sym (c.loop-front.invariant ∙ trimmed_whole c.loop-front.front.now 0 c.in-len1-up.len_at_least c.if-last-ne32.true)

pub loop-front-preserved : goal.loop-front-preserved
loop-front-preserved c = c.loop-front.invariant ∙ trimmed_shorter c.loop-front.front.now 0 c.in-len1-up.len_at_least c.if-last-ne32.false

pub returns : goal.returns
returns c = sym (c.loop-front.invariant ∙ trimmed_none c.loop-front.front.now c.in_default.len_below)
