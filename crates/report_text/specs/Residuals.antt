-- What is printed of a certificate's residuals: of each row how far each of its observations lies from the mean of its
-- pair, at the tail's first integers with its move, in micrometres.
use Rattle.std.specs.Prelude.{◌≡◌, ℕ, ℤ, pos, ◌≤◌, ◌^◌, ◌*◌, ◌/◌, ◌-ℤ◌, ◌*ℤ◌, unsigned_abs, Bool, true, false, List, [], ◌∷◌, ◌++◌, length, map, codes, All}
use Rattle.std.specs.Fmt.{decimal}
use Rattle.whole_math.specs.Rounding.{nearest_div}
use Rattle.whole_math.specs.Vectors.{sum}
use Rattle.obs_rows.specs.declared.arcs.Arc.{Arc}
use Rattle.obs_rows.specs.declared.rows.Row.{Row}
use Rattle.obs_rows.specs.declared.pair_rows.PairRows.{PairRows}
use Rattle.obs_rows.specs.declared.sessions.Session.{Session}
use Rattle.obs_rows.specs.declared.units.TheConstants.{UNIT_FREQUENCY, LIGHT_SPEED, ROW_EXPONENT, MOST_FREE_ARCS}
use Rattle.obs_rows.specs.Arcs.{free_count}
use Rattle.obs_rows.specs.Signals.{fine_signals}
use Rattle.obs_rows.specs.CountedSignals.{AreCounted}
use Rattle.obs_rows.specs.Ranges.{IsBelow, IsWithin}
use Rattle.obs_rows.specs.Integers.{integer_count}
use Rattle.cert_words.specs.Spelling.{behind_blanks}
use Rattle.fix_decide.specs.UpperSums.{centre}
use Rattle.fix_decide.specs.Decisions.{first_of}
use Rattle.cert_data.specs.declared.certs.Cert.{Cert}
use Rattle.cert_data.specs.declared.tails.Tail.{Tail}
use Rattle.cert_data.specs.declared.tails.Tail.TheVariants.{Fixed, Unseparated}

-- integers and a move at which residuals of these arcs' rows, over these signals, can be computed
pub record CanShow (arcs : List Arc) (signals : List ℕ) (z moved : List ℤ) : Type 0 where
  pub free : free_count arcs ≤ MOST_FREE_ARCS
  pub counted : AreCounted signals
  pub entries : length z ≡ integer_count arcs signals
  pub z_size : All (IsBelow (2 ^ 30)) z
  pub moved_size : All (IsWithin (2 ^ 46)) moved

-- this number of a row's units of 2^-13 ι is ten times the speed of light in micrometres, since ι is that speed over the unit's
-- frequency
abbrev pub units : ℕ
units = (unsigned_abs UNIT_FREQUENCY / 10 ^ 5) * 2 ^ ROW_EXPONENT

-- a length in the unit of the rows, n times, over n, in micrometres
abbrev pub micrometres : ℤ → ℕ → ℤ
micrometres length_times n = nearest_div (length_times *ℤ pos (10 * unsigned_abs LIGHT_SPEED)) (n * units)

-- of one row of a pair, as a signal sees it
abbrev pub residual : List Arc → List ℕ → List ℤ → List ℤ → List Row → Row → ℕ → ℤ
residual arcs signals z moved rows r s = micrometres ((pos (length rows) *ℤ centre arcs signals z moved s r) -ℤ sum (map (centre arcs signals z moved s) rows)) (length rows)

-- the residuals of a row, as each signal that counts sees it
abbrev pub residuals : List Arc → List ℕ → List ℤ → List ℤ → List Row → Row → List ℤ
residuals arcs signals z moved rows r = map (residual arcs signals z moved rows r) signals

abbrev pub row_line : ℕ → ℕ → List ℤ → List ℕ
row_line number arc rs = decimal number ++ (codes " " ++ (decimal arc ++ (behind_blanks rs ++ 10 ∷ [])))

-- each row of a pair on a line of its own
abbrev pub rows_text : List Arc → List ℕ → List ℤ → List ℤ → ℕ → List Row → List Row → List ℕ
rows_text arcs signals z moved number rows [] = []
rows_text arcs signals z moved number rows (r ∷ rest) = row_line number r.arc (residuals arcs signals z moved rows r) ++ rows_text arcs signals z moved number rows rest

abbrev pub pairs_text : List Arc → List ℕ → List ℤ → List ℤ → List PairRows → List ℕ
pairs_text arcs signals z moved [] = []
pairs_text arcs signals z moved (p ∷ pairs) = rows_text arcs signals z moved p.number p.rows p.rows ++ pairs_text arcs signals z moved pairs

abbrev pub session_text : Session → List ℤ → List ℤ → List ℕ
session_text s z moved = pairs_text s.arcs (fine_signals s.signals) z moved s.pairs

-- whether a tail has vectors
abbrev pub has_vectors : Tail → Bool
has_vectors (Fixed h moved best top) = true
has_vectors (Unseparated h moved best top) = true
has_vectors _ = false

abbrev pub tail_text : Session → Tail → List ℕ
tail_text s (Fixed h moved best top) = session_text s (first_of best) moved
tail_text s (Unseparated h moved best top) = session_text s (first_of best) moved
tail_text s _ = codes "nothing to show\n"

abbrev pub residuals_text : Cert → List ℕ
residuals_text c = tail_text c.session c.tail
