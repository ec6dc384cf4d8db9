use Rattle.track_text.proofs.Blocks.{move_appended}
use Rattle.track_text.proofs.written_tails.push_move_line.Goals as goal

pub returns-clause-text : goal.returns-clause-text
returns-clause-text c =
    move_appended c.args.out.now.items c.extend_from_slice.new.self.items c.push_number.new.out.items c.push_numbers.new.out.items c.push.new.self.items c.args.number c.args.moved.now
    c.in_ok-extend_from_slice.ensures.items c.in_ok-push_number.ensures c.in_ok-push_numbers.ensures c.in_ok-push.ensures.items
