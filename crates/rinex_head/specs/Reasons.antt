-- The reasons of refusals as they are printed.
use Rattle.std.specs.Prelude.{ℕ, List, codes}
use Rattle.rinex_head.specs.declared.place.What.{What}
use Rattle.rinex_head.specs.declared.place.What.TheVariants.{Version, ObsVersion, Kind, NoEnd, Types, NoGps, NoGal, Scale, GalScale, HalfCycle, TimeSystem, BadField, BadDate, Order, Flag, Moving, Changed, BadSat, Twice, Truncated, LongLine, TooMany, BadLine, BadRange}

abbrev pub text_of_reason : What → List ℕ
text_of_reason Version = codes "version not 3.00 to 3.05"
text_of_reason ObsVersion = codes "version not 2.10 to 2.11 or 3.00 to 3.05"
text_of_reason Kind = codes "not this kind of file"
text_of_reason NoEnd = codes "no end of header"
text_of_reason Types = codes "bad list of observation types"
text_of_reason NoGps = codes "no GPS observation types"
text_of_reason NoGal = codes "no Galileo observation types"
text_of_reason Scale = codes "GPS scale factor"
text_of_reason GalScale = codes "Galileo scale factor"
text_of_reason HalfCycle = codes "wavelength factor not 1"
text_of_reason TimeSystem = codes "time system not GPS"
text_of_reason BadField = codes "bad field"
text_of_reason BadDate = codes "bad date"
text_of_reason Order = codes "epochs out of order"
text_of_reason Flag = codes "bad epoch flag"
text_of_reason Moving = codes "antenna moved"
text_of_reason Changed = codes "types or scale changed after header"
text_of_reason BadSat = codes "bad satellite name"
text_of_reason Twice = codes "satellite twice in epoch"
text_of_reason Truncated = codes "file ends early"
text_of_reason LongLine = codes "line too long"
text_of_reason TooMany = codes "too many epochs or records"
text_of_reason BadLine = codes "bad line"
text_of_reason BadRange = codes "number out of range"
