use Rattle.std.proofs.Common.{ℕ, ◌+◌, subst, sym}
use Rattle.clap.specs.Matches.{found_of}
use Rattle.clap.specs.Walk.{rows_of}
use Rattle.command_words.proofs.GivenLaws.{HasUpTo, next_taken}
use Rattle.command_words.proofs.parts.numbers_in.Goals as goal

pub loop-place-preserved : goal.loop-place-preserved
loop-place-preserved c =
    let rows = rows_of (found_of c.args.matches.now) in
    let so_far = subst (λ (p : ℕ). HasUpTo rows c.loop-place.given.items p) (sym c.at.ensures) c.loop-place.invariant in
    subst (λ (p : ℕ). HasUpTo rows c.take_setting.new.given.items (p + 1)) c.at.ensures
    (next_taken rows c.loop-place.given.items c.take_setting.new.given.items c.at.result so_far c.in_ok-take_setting.ensures.numbers)
