-- A record's lines give its numbers.
use Rattle.std.proofs.Common.{◌≡◌, ℕ, ℤ, pos, negsuc, zero, suc, ◌+◌, ◌^◌, ◌≤◌, ◌<◌, ◌-ℤ◌, ◌*ℤ◌, ◌≤ℤ◌, Bool, ◌&&◌, true, nat_le, List, [], ◌∷◌, ◌++◌, Ok, Some, unsigned_abs, refl, sym, ap, ◌∙◌, arith}
use Rattle.std.proofs.lemmas.Bool.{and_parts}
use Rattle.std.proofs.lemmas.Bool.Decides.{nat_tests}
use Rattle.std.proofs.lemmas.List.{append_assoc}
use Rattle.std.proofs.lemmas.List.Elements.{All-from_recursion}
use Rattle.std.proofs.lemmas.Int.{ints}
use Rattle.std.specs.Prelude.{slice_index_or}
use Rattle.decimal_text.specs.declared.exponent.Dec.{Dec}
use Rattle.gps_time.specs.declared.Tick.{Tick}
use Rattle.eph_store.specs.declared.ephemeris.Eph.{Eph}
use Rattle.line_source.specs.Lines.{lines_of}
use Rattle.rinex_head.specs.Columns.{padded}
use Rattle.rinex_head.specs.Fields.{whole_of}
use Rattle.rinex_head.specs.Systems.{letter_of}
use Rattle.rinex_head.specs.declared.system.System.{System}
use Rattle.rinex_head.specs.declared.system.System.TheVariants.{Gps, Galileo}
use Rattle.rinex_nav.specs.RecordLines.{satellite_of, satellite_in, moment_of, toc_in}
use Rattle.rinex_nav.specs.NavForm.{EightLines, further_of, IsFurther, IsRecord}
use Rattle.sim_session.specs.Satellites.{IsSatellite, AreNormal, anomalies, longitudes, anomaly, node, root_a_tenths}
use Rattle.sim_session.specs.Navigation.{zero_number, second_number, week_number, first_line, further_line, record_text}
use Rattle.sim_jobs.proofs.Fields.{whole_digits}
use Rattle.sim_jobs.proofs.Dates.{moment_is, ticks_are}
use Rattle.sim_jobs.specs.NavRecords.{raw_of}
use Rattle.sim_jobs.proofs.NavNumbers.{HasRoom}
use Rattle.sim_jobs.proofs.NavRooms.{room}
use Rattle.sim_jobs.proofs.NavLines.{first_content, further_content, first_read, further_read, first_letter, first_sat, further_blank, first_24, first_43, first_62, further_5, further_24, further_43, further_62}

unfoldable pub lines_for : ℕ → Eph → EightLines
lines_for letter e = record {
  first = first_content letter e.sat e.af0 e.af1 e.af2;
  second = further_content zero_number e.crs e.dn e.m0;
  third = further_content e.cuc e.ecc e.cus e.root_a;
  fourth = further_content second_number e.cic e.node e.cis;
  fifth = further_content e.incl e.crc e.peri e.node_rate;
  sixth = further_content e.incl_rate zero_number week_number zero_number;
  seventh = further_content zero_number zero_number zero_number zero_number;
  eighth = further_content zero_number zero_number zero_number zero_number;
}

eight : (a b c d e f g h rest : List ℕ) → (a ++ (b ++ (c ++ (d ++ (e ++ (f ++ (g ++ h))))))) ++ rest ≡ a ++ (b ++ (c ++ (d ++ (e ++ (f ++ (g ++ (h ++ rest)))))))
eight a b c d e f g h rest = simp append_assoc

-- the seven further lines of a record, and what follows
abbrev further_text : Eph → List ℕ → List ℕ
further_text e rest =
    further_line zero_number e.crs e.dn e.m0 ++ (further_line e.cuc e.ecc e.cus e.root_a ++ (further_line second_number e.cic e.node e.cis
    ++ (further_line e.incl e.crc e.peri e.node_rate ++ (further_line e.incl_rate zero_number week_number zero_number
    ++ (further_line zero_number zero_number zero_number zero_number ++ (further_line zero_number zero_number zero_number zero_number ++ rest))))))

text_is : (letter : ℕ) (e : Eph) (rest : List ℕ) → record_text letter e ++ rest ≡ first_line letter e.sat e.af0 e.af1 e.af2 ++ further_text e rest
unfolding record_text
text_is letter e rest =
    eight (first_line letter e.sat e.af0 e.af1 e.af2) (further_line zero_number e.crs e.dn e.m0) (further_line e.cuc e.ecc e.cus e.root_a) (further_line second_number e.cic e.node e.cis)
    (further_line e.incl e.crc e.peri e.node_rate) (further_line e.incl_rate zero_number week_number zero_number) (further_line zero_number zero_number zero_number zero_number)
    (further_line zero_number zero_number zero_number zero_number) rest

pub record_read : (letter : ℕ) (e : Eph) (rest : List ℕ) → nat_le 32 letter ≡ true
    → lines_of (record_text letter e ++ rest) ≡ (lines_for letter e).first ∷ (further_of (lines_for letter e) ++ lines_of rest)
unfolding lines_for
record_read letter e rest printed =
    let others : lines_of (further_text e rest) ≡ further_of (lines_for letter e) ++ lines_of rest = simp further_read refl in
    ap lines_of (text_is letter e rest) ∙ first_read letter e.sat e.af0 e.af1 e.af2 (further_text e rest) printed
    ∙ ap (λ (l : List (List ℕ)). first_content letter e.sat e.af0 e.af1 e.af2 ∷ l) others

-- ---- the first line
sat_of : (system : System) (sat : ℕ) → 1 ≤ sat → sat ≤ 32 → satellite_of system (Ok (Some sat)) ≡ Ok sat
sat_of Gps sat low high =
    let above : nat_le 1 sat ≡ true = grind (arith, nat_tests) in
    let below : nat_le sat 32 ≡ true = grind (arith, nat_tests) in
    rw (above, below) refl
sat_of Galileo sat low high =
    let above : nat_le 1 sat ≡ true = grind (arith, nat_tests) in
    let below : nat_le sat 36 ≡ true = grind (arith, nat_tests) in
    rw (above, below) refl

sat_is : (system : System) (letter sat : ℕ) (a b c : Dec) → 1 ≤ sat → sat ≤ 32 → satellite_in system (first_content letter sat a b c) ≡ Ok sat
unfolding satellite_in
sat_is system letter sat a b c low high =
    let few : sat < 10 ^ 2 = omega arith in
    ap (λ (field : List ℕ). satellite_of system (whole_of 2 field)) (first_sat letter sat a b c) ∙ ap (satellite_of system) (whole_digits 2 1 sat few) ∙ sat_of system sat low high

moment : moment_of 2024 1 1 0 0 0 ≡ Ok (record { 0 = 13_881_024_000_000_000 })
unfolding moment_of
moment = rw (moment_is 0 0 0 (omega arith) (omega arith) (omega arith)) (ap (λ (n : ℕ). let tick : Tick = record { 0 = n } in Ok tick) (ticks_are 0 0 0))

date_is : (letter sat : ℕ) (a b c : Dec) → toc_in (first_content letter sat a b c) ≡ moment_of 2024 1 1 0 0 0
unfolding toc_in first_content padded
date_is letter sat a b c = refl

tick_is : (t : Tick) (n : ℕ) → t.0 ≡ n → record { 0 = n } ≡ t
tick_is t n is = ap (λ (m : ℕ). let tick : Tick = record { 0 = m } in tick) (sym is)

toc_is : (t : Tick) (letter sat : ℕ) (a b c : Dec) → t.0 ≡ 13881024000000000 → toc_in (first_content letter sat a b c) ≡ Ok t
toc_is t letter sat a b c is = date_is letter sat a b c ∙ moment ∙ ap (λ (tick : Tick). Ok tick) (tick_is t 13881024000000000 is)

-- ---- all fields
zero_room : HasRoom zero_number
zero_room = record { digits = omega arith; power = omega arith }

second_room : HasRoom second_number
second_room = record { digits = omega arith; power = omega arith }

week_room : HasRoom week_number
week_room = record { digits = omega arith; power = omega arith }

in_ten : List ℤ → Bool
in_ten [] = true
in_ten (z ∷ zs) = nat_le (unsigned_abs z) 9 && in_ten zs

ten_at : (zs : List ℤ) (k : ℕ) → in_ten zs ≡ true → unsigned_abs (slice_index_or zs k (pos 0)) ≤ 9
unfolding in_ten
ten_at [] k all = nothing k
  where
    nothing : (k : ℕ) → unsigned_abs (slice_index_or [] k (pos 0)) ≤ 9
    nothing zero = omega arith
    nothing (suc k) = omega arith
ten_at (z ∷ zs) zero all = at_most (unsigned_abs z) (and_parts (nat_le (unsigned_abs z) 9) (in_ten zs) all).0
  where
    at_most : (n : ℕ) → nat_le n 9 ≡ true → n ≤ 9
    at_most n is = grind (arith, nat_tests)
ten_at (z ∷ zs) (suc k) all = ten_at zs k (and_parts (nat_le (unsigned_abs z) 9) (in_ten zs) all).1

anomalies_are : in_ten anomalies ≡ true
unfolding in_ten
anomalies_are = refl

longitudes_are : in_ten longitudes ≡ true
unfolding in_ten
longitudes_are = refl

small_anomaly : (k : ℕ) → unsigned_abs (anomaly k) ≤ 9
small_anomaly k = ten_at anomalies k anomalies_are

small_longitude : (k : ℕ) → unsigned_abs (slice_index_or longitudes k (pos 0)) ≤ 9
small_longitude k = ten_at longitudes k longitudes_are

low : (z : ℤ) → unsigned_abs z ≤ 9 → negsuc 8 ≤ℤ z
low (pos n) h = omega (arith, ints)
low (negsuc n) h = omega (arith, ints)

high : (z : ℤ) → unsigned_abs z ≤ 9 → z ≤ℤ pos 9
high (pos n) h = omega (arith, ints)
high (negsuc n) h = omega (arith, ints)

sized : (z : ℤ) → negsuc 199 ≤ℤ z → z ≤ℤ pos 200 → unsigned_abs z < 10 ^ 6
sized (pos n) l h = omega (arith, ints)
sized (negsuc n) l h = omega (arith, ints)

small_node : (l a : ℤ) → unsigned_abs l ≤ 9 → unsigned_abs a ≤ 9 → unsigned_abs ((pos 10 *ℤ l) -ℤ (pos 6 *ℤ a)) < 10 ^ 6
small_node l a p q =
    let letter_at_least = low l p in
    let letter_at_most = high l p in
    let anomaly_at_least = low a q in
    let anomaly_at_most = high a q in
    sized ((pos 10 *ℤ l) -ℤ (pos 6 *ℤ a)) (omega (arith, ints)) (omega (arith, ints))

small_root : (system : System) → unsigned_abs (root_a_tenths (letter_of system)) < 10 ^ 6
small_root Gps = omega arith
small_root Galileo = omega arith

pub record_is : (system : System) (k : ℕ) (e : Eph) → IsSatellite (letter_of system) k e → AreNormal e → k < 32 → IsRecord system (lines_for (letter_of system) e) (raw_of e)
unfolding lines_for
record_is system k e is normal few =
    let letter : ℕ = letter_of system in
    let number : e.sat ≡ k + 1 = is.sat in
    record {
      letter = first_letter letter e.sat e.af0 e.af1 e.af2;
      behind = All-from_recursion IsFurther (further_of (lines_for letter e)) (
        further_blank zero_number e.crs e.dn e.m0,
        (
          further_blank e.cuc e.ecc e.cus e.root_a,
          (
            further_blank second_number e.cic e.node e.cis,
            (
              further_blank e.incl e.crc e.peri e.node_rate,
              (
                further_blank e.incl_rate zero_number week_number zero_number,
                (
                  further_blank zero_number zero_number zero_number zero_number,
                  (further_blank zero_number zero_number zero_number zero_number, tt),
                ),
              ),
            ),
          ),
        ),
      );
      sat = sat_is system letter e.sat e.af0 e.af1 e.af2 (omega arith) (omega arith);
      toc = toc_is e.toc letter e.sat e.af0 e.af1 e.af2 is.toc;
      af0 = first_24 letter e.sat e.af0 e.af1 e.af2 (room e.af0 (pos (k + 1)) 5 normal.af0 is.af0 (omega arith) (omega arith));
      af1 = first_43 letter e.sat e.af0 e.af1 e.af2 (room e.af1 (pos 1) 12 normal.af1 is.af1 (omega arith) (omega arith));
      af2 = first_62 letter e.sat e.af0 e.af1 e.af2 (room e.af2 (pos 0) 0 normal.af2 is.af2 (omega arith) (omega arith));
      crs = further_24 zero_number e.crs e.dn e.m0 (room e.crs (pos 0) 0 normal.crs is.crs (omega arith) (omega arith));
      dn = further_43 zero_number e.crs e.dn e.m0 (room e.dn (pos 45) 10 normal.dn is.dn (omega arith) (omega arith));
      m0 = further_62 zero_number e.crs e.dn e.m0 (room e.m0 (anomaly k) 1 normal.m0 is.m0 (omega (arith, small_anomaly k)) (omega arith));
      cuc = further_5 e.cuc e.ecc e.cus e.root_a (room e.cuc (pos 1) 6 normal.cuc is.cuc (omega arith) (omega arith));
      ecc = further_24 e.cuc e.ecc e.cus e.root_a (room e.ecc (pos (k + 1)) 3 normal.ecc is.ecc (omega arith) (omega arith));
      cus = further_43 e.cuc e.ecc e.cus e.root_a (room e.cus (pos 0) 0 normal.cus is.cus (omega arith) (omega arith));
      root_a = further_62 e.cuc e.ecc e.cus e.root_a (room e.root_a (root_a_tenths letter) 1 normal.root_a is.root_a (small_root system) (omega arith));
      toe_s = further_5 second_number e.cic e.node e.cis second_room;
      cic = further_24 second_number e.cic e.node e.cis (room e.cic (pos 0) 0 normal.cic is.cic (omega arith) (omega arith));
      node = further_43 second_number e.cic e.node e.cis (room e.node (node k) 2 normal.node is.node
          (small_node (slice_index_or longitudes k (pos 0)) (anomaly k) (small_longitude k) (small_anomaly k)) (omega arith));
      cis = further_62 second_number e.cic e.node e.cis (room e.cis (pos 0) 0 normal.cis is.cis (omega arith) (omega arith));
      incl = further_5 e.incl e.crc e.peri e.node_rate (room e.incl (pos 96) 2 normal.incl is.incl (omega arith) (omega arith));
      crc = further_24 e.incl e.crc e.peri e.node_rate (room e.crc (pos 200) 0 normal.crc is.crc (omega arith) (omega arith));
      peri = further_43 e.incl e.crc e.peri e.node_rate (room e.peri (pos 0) 0 normal.peri is.peri (omega arith) (omega arith));
      node_rate = further_62 e.incl e.crc e.peri e.node_rate (room e.node_rate (negsuc 7) 9 normal.node_rate is.node_rate (omega arith) (omega arith));
      incl_rate = further_5 e.incl_rate zero_number week_number zero_number (room e.incl_rate (pos 0) 0 normal.incl_rate is.incl_rate (omega arith) (omega arith));
      week = further_43 e.incl_rate zero_number week_number zero_number week_room;
      health = further_24 zero_number zero_number zero_number zero_number zero_room;
    }
