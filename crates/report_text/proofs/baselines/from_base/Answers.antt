use Rattle.report_text.proofs.Texts.{from_base_in_words}
use Rattle.report_text.proofs.baselines.from_base.Goals as goal

pub returns : goal.returns
returns c =
    from_base_in_words c.args.point c.args.base c.args.number c.coordinate_difference.result c.in_tenths.result c.requires.point c.requires.base c.requires.number c.coordinate_difference.ensures.value c.in_tenths.ensures.value
    c.coordinate_difference.ensures.size c.in_tenths.ensures.size
