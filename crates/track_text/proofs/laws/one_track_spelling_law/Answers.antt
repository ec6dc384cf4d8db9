use Rattle.track_text.proofs.SameTrack.{spelling_same}
use Rattle.track_text.proofs.laws.one_track_spelling_law.Goals as goal

pub returns : goal.returns
returns c = λ cert other whole whole' same. spelling_same cert other whole whole' same
