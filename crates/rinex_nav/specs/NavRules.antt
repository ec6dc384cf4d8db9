-- What each line of a navigation file must be in its place.
use Rattle.std.specs.Prelude.{ℕ, Bool, true, false, List, [], ◌∷◌, ◌++◌, length, Result, Ok}
use Rattle.eph_store.specs.declared.record.Raw.{Raw}
use Rattle.rinex_head.specs.declared.place.At.{At}
use Rattle.rinex_head.specs.declared.place.Flaw.{Flaw}
use Rattle.rinex_head.specs.declared.place.What.TheVariants.{Version, NoEnd, Truncated}
use Rattle.rinex_head.specs.declared.system.System.{System}
use Rattle.rinex_head.specs.Places.{and_then, flawed}
use Rattle.rinex_head.specs.LineRules.{Rules, text_gives}
use Rattle.rinex_nav.specs.FirstLine.{first_line_of, ends_header}
use Rattle.rinex_nav.specs.RecordLines.{body_line_of, continuation_of}
use Rattle.rinex_nav.specs.declared.record_lines.Start.{Start}
use Rattle.rinex_nav.specs.declared.record_lines.Quad.{Quad}
use Rattle.rinex_nav.specs.declared.record_lines.BodyLine.{BodyLine}
use Rattle.rinex_nav.specs.declared.record_lines.BodyLine.TheVariants.{Passed, Other, Record}

-- What may be expected: the first line; a line of the header; a record after these, the last one of another system
-- or not; a further line of a record after these.
pub data Expected : Type 0 where
  First : Expected
  Head : Expected
  Body : List Raw → Bool → Expected
  Further : List Raw → Start → List Quad → Expected

-- the record of its eight lines
abbrev pub raw_of : Start → Quad → Quad → Quad → Quad → Quad → Quad → Raw
raw_of s q2 q3 q4 q5 q6 q7 = record {
  sat = s.sat;
  toc = s.toc;
  af0 = s.af0;
  af1 = s.af1;
  af2 = s.af2;
  crs = q2.second;
  dn = q2.third;
  m0 = q2.fourth;
  cuc = q3.first;
  ecc = q3.second;
  cus = q3.third;
  root_a = q3.fourth;
  toe_s = q4.first;
  cic = q4.second;
  node = q4.third;
  cis = q4.fourth;
  incl = q5.first;
  crc = q5.second;
  peri = q5.third;
  node_rate = q5.fourth;
  incl_rate = q6.first;
  week = q6.third;
  health = q7.second;
}

-- after these further lines of a record: another one, or the next record
abbrev pub behind : List Raw → Start → List Quad → Expected
behind raws s (q2 ∷ q3 ∷ q4 ∷ q5 ∷ q6 ∷ q7 ∷ q8 ∷ qs) = Body (raws ++ raw_of s q2 q3 q4 q5 q6 q7 ∷ []) false
behind raws s quads = Further raws s quads

abbrev pub after_header : Bool → Expected
after_header true = Body [] false
after_header false = Head

abbrev pub after_body : List Raw → Bool → BodyLine → Expected
after_body raws skipping Passed = Body raws skipping
after_body raws skipping Other = Body raws true
after_body raws skipping (Record s) = Further raws s []

abbrev pub admit : System → Expected → List ℕ → Result Expected Flaw
admit system First bytes = and_then (first_line_of system bytes) (λ u. Ok Head)
admit system Head bytes = Ok (after_header (ends_header bytes))
admit system (Body raws skipping) bytes = and_then (body_line_of system (length raws) skipping bytes) (λ l. Ok (after_body raws skipping l))
admit system (Further raws s quads) bytes = and_then (continuation_of (length quads) bytes) (λ q. Ok (behind raws s (quads ++ q ∷ [])))

abbrev pub finish : Expected → Result (List Raw) Flaw
finish First = flawed 1 Version
finish Head = flawed 1 NoEnd
finish (Body raws skipping) = Ok raws
finish (Further raws s quads) = flawed 1 Truncated

-- of the satellites of one system
abbrev pub nav_rules : System → Rules Expected (List Raw)
nav_rules system = record { start = First; admit = λ s bytes. admit system s bytes; finish = finish }

-- the records that a text of these lines has, or its first failing place
abbrev pub nav_of : System → List (List ℕ) → Result (List Raw) At
nav_of system lines = text_gives (nav_rules system) lines
