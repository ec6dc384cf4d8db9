use Rattle.std.proofs.Common.{append_assoc}
use Rattle.report_text.specs.List.{list_text}
use Rattle.report_text.proofs.list.write_list.Goals as goal

pub returns : goal.returns
unfolding list_text
returns c = rw (c.in_ok-write_satellites.ensures, c.in_ok-write_tags.ensures, c.in_ok-write_count.ensures, c.in_ok-write_version.ensures, c.len.ensures.value) (simp append_assoc)
