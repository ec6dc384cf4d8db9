-- Lines that give a file are one of the grammar.
use Rattle.std.proofs.Common.{◌≡◌, ◌≢◌, ◌<◌, ◌≤◌, ◌+◌, ℕ, zero, suc, nat_le, ◌==◌, ◌||◌, Bool, true, false, List, [], ◌∷◌, ◌++◌, length, All, Result, Ok, refl, sym, ap, ◌∙◌, subst, arith, append_assoc, length-append, if◌then◌else◌}
use Rattle.std.proofs.lemmas.Bool.Decides.{nat_tests}
use Rattle.std.proofs.lemmas.List.{append-nil}
use Rattle.std.proofs.lemmas.List.Elements.{All-nil, All-cons}
use Rattle.decimal_text.specs.Fixed.{are_blank}
use Rattle.decimal_text.specs.declared.exponent.Dec.{Dec}
use Rattle.eph_store.specs.declared.record.Raw.{Raw}
use Rattle.rinex_head.specs.declared.place.What.{What}
use Rattle.rinex_head.specs.declared.place.What.TheVariants.{Version, NoEnd, BadField, TooMany, Truncated}
use Rattle.rinex_head.specs.declared.place.Flaw.{Flaw}
use Rattle.rinex_head.specs.Places.{and_then, flawed, at_line}
use Rattle.rinex_head.specs.Columns.{column}
use Rattle.rinex_head.specs.LineRules.{walk}
use Rattle.rinex_head.proofs.LineRuleLaws.{walk-end, TookLine, walk-took}
use Rattle.rinex_head.proofs.TakenLines.{and_then_took, then_took, walk-short}
use Rattle.rinex_head.specs.declared.system.System.{System}
use Rattle.rinex_head.specs.Systems.{letter_of}
use Rattle.rinex_nav.specs.FirstLine.{first_line_of, ends_header}
use Rattle.rinex_nav.specs.RecordLines.{satellite_in, toc_in, number_in, start_in, record_line_of, body_line_of, reads_first, reads_second, reads_third, reads_fourth, number_if, quad_in, continuation_of}
use Rattle.rinex_nav.specs.declared.record_lines.Start.{Start}
use Rattle.rinex_nav.specs.declared.record_lines.Quad.{Quad}
use Rattle.rinex_nav.specs.declared.record_lines.BodyLine.{BodyLine}
use Rattle.rinex_nav.specs.declared.record_lines.BodyLine.TheVariants as line
use Rattle.rinex_nav.specs.NavRules.{Expected, First, Head, Body, Further, raw_of, behind, after_header, after_body, nav_rules}
use Rattle.rinex_nav.specs.NavForm.{IsFurther, EightLines, further_of, IsRecord, Part, Blank, Other, Read, IsPart, body_lines, records_of, IsNavFile}
use Rattle.rinex_nav.proofs.FormLaws.{regroup}

no_file : (n : ℕ) (what : What) (whole : List Raw) → at_line (n + 1) (flawed {A = List Raw} 1 what) ≡ Ok whole → ⊥
no_file n what whole e = cc

-- ---- one line

-- a further line is read
record TookQuad (place : ℕ) (bytes : List ℕ) (q : Quad) : Type 0 where
  blank : column bytes 1 ≡ 32
  first : number_if (reads_first place) bytes 5 ≡ Ok q.first
  second : number_if (reads_second place) bytes 24 ≡ Ok q.second
  third : number_if (reads_third place) bytes 43 ≡ Ok q.third
  fourth : number_if (reads_fourth place) bytes 62 ≡ Ok q.fourth

quad_took : (place : ℕ) (bytes : List ℕ) (q : Quad) → continuation_of place bytes ≡ Ok q → TookQuad place bytes q
unfolding continuation_of quad_in
quad_took place bytes q e = by_column (column bytes 1 == 32) refl e
  where
    by_column : (t : Bool) → (column bytes 1 == 32) ≡ t → (if t then quad_in place bytes else flawed 1 Truncated) ≡ Ok q → TookQuad place bytes q
    by_column true is e =
        let first_took = and_then_took (number_if (reads_first place) bytes 5) _ q e in
        let second_took = and_then_took (number_if (reads_second place) bytes 24) _ q first_took.2 in
        let third_took = and_then_took (number_if (reads_third place) bytes 43) _ q second_took.2 in
        let fourth_took = and_then_took (number_if (reads_fourth place) bytes 62) _ q third_took.2 in
        let found : Quad = record { first = first_took.0; second = second_took.0; third = third_took.0; fourth = fourth_took.0 } in
        let same : found ≡ q = cc (fourth_took.2) in
        let dec : Dec → Result Dec Flaw = λ x. Ok x in
        record {
          blank = grind (arith, nat_tests);
          first = first_took.1 ∙ ap (λ (p : Quad). dec p.first) same;
          second = second_took.1 ∙ ap (λ (p : Quad). dec p.second) same;
          third = third_took.1 ∙ ap (λ (p : Quad). dec p.third) same;
          fourth = fourth_took.1 ∙ ap (λ (p : Quad). dec p.fourth) same;
        }
    by_column false is e = absurd cc

module _ (system : System) where
  -- the first line of a record of GPS is read
  record TookStart (bytes : List ℕ) (s : Start) : Type 0 where
    sat : satellite_in system bytes ≡ Ok s.sat
    toc : toc_in bytes ≡ Ok s.toc
    af0 : number_in bytes 24 ≡ Ok s.af0
    af1 : number_in bytes 43 ≡ Ok s.af1
    af2 : number_in bytes 62 ≡ Ok s.af2

  start_took : (bytes : List ℕ) (s : Start) → start_in system bytes ≡ Ok s → TookStart bytes s
  unfolding start_in
  start_took bytes s e =
      let a = and_then_took (satellite_in system bytes) _ s e in
      let b = and_then_took (toc_in bytes) _ s a.2 in
      let c = and_then_took (number_in bytes 24) _ s b.2 in
      let d = and_then_took (number_in bytes 43) _ s c.2 in
      let f = and_then_took (number_in bytes 62) _ s d.2 in
      let found : Start = record { sat = a.0; toc = b.0; af0 = c.0; af1 = d.0; af2 = f.0 } in
      let same : found ≡ s = cc (f.2) in
      record {
        sat = rw (← same) a.1;
        toc = rw (← same) b.1;
        af0 = rw (← same) c.1;
        af1 = rw (← same) d.1;
        af2 = rw (← same) f.1;
      }

  -- what a line is where a record may begin, by what it says there
  abbrev Says : ℕ → Bool → List ℕ → BodyLine → Type 0
  Says count skipping bytes line.Passed = (column bytes 1 ≡ 32) × ((skipping || are_blank bytes) ≡ true)
  Says count skipping bytes line.Other = (column bytes 1 ≢ 32) × (column bytes 1 ≢ letter_of system)
  Says count skipping bytes (line.Record s) = (column bytes 1 ≡ letter_of system) × (count < 4096) × (start_in system bytes ≡ Ok s)

  said : (count : ℕ) (skipping : Bool) (bytes : List ℕ) (l : BodyLine) → body_line_of system count skipping bytes ≡ Ok l → Says count skipping bytes l
  unfolding body_line_of
  said count skipping bytes l e = by_blank (column bytes 1 == 32) refl e
    where
      by_pass : (t : Bool) → (skipping || are_blank bytes) ≡ t → column bytes 1 ≡ 32 → (if t then Ok line.Passed else flawed 1 BadField) ≡ Ok l → Says count skipping bytes l
      by_pass true is blank e = let same : line.Passed ≡ l = cc (e) in subst (λ (k : BodyLine). Says count skipping bytes k) same (blank, is)
      by_pass false is blank e = absurd cc

      by_room : (t : Bool) → nat_le 4096 count ≡ t → column bytes 1 ≡ letter_of system
          → (if t then flawed 1 TooMany else and_then (start_in system bytes) (λ s. Ok (line.Record s))) ≡ Ok l → Says count skipping bytes l
      by_room true is letter e = absurd cc
      by_room false is letter e =
          let s = and_then_took (start_in system bytes) (λ s. Ok (line.Record s)) l e in
          let room : count < 4096 = grind (arith, nat_tests) in
          let same : line.Record s.0 ≡ l = cc (s.2) in
          subst (λ (k : BodyLine). Says count skipping bytes k) same (letter, room, s.1)

      by_letter : (t : Bool) → (column bytes 1 == letter_of system) ≡ t → column bytes 1 ≢ 32 → (if t then record_line_of system count bytes else Ok line.Other) ≡ Ok l → Says count skipping bytes l
      by_letter true is begins e = by_room (nat_le 4096 count) refl (grind (arith, nat_tests)) e
      by_letter false is begins e =
          let other : column bytes 1 ≢ letter_of system = grind (arith, nat_tests) in
          let same : line.Other ≡ l = cc (e) in
          subst (λ (k : BodyLine). Says count skipping bytes k) same (begins, other)

      by_blank : (t : Bool) → (column bytes 1 == 32) ≡ t → (if t then (if skipping || are_blank bytes then Ok line.Passed else flawed 1 BadField)
          else (if column bytes 1 == letter_of system then record_line_of system count bytes else Ok line.Other)) ≡ Ok l → Says count skipping bytes l
      by_blank true is e = by_pass (skipping || are_blank bytes) refl (grind (arith, nat_tests)) e
      by_blank false is e = by_letter (column bytes 1 == letter_of system) refl (grind (arith, nat_tests)) e

  -- ---- a record of GPS

  -- where a further line is expected, one stands, and after it the rest
  record TookFurther (lines : List (List ℕ)) (raws : List Raw) (s : Start) (quads : List Quad) (n : ℕ) (whole : List Raw) : Type 0 where
    bytes : List ℕ
    rest : List (List ℕ)
    lines_are : lines ≡ bytes ∷ rest
    quad : Quad
    says : continuation_of (length quads) bytes ≡ Ok quad
    gives : walk (nav_rules system) rest (n + 1) (behind raws s (quads ++ quad ∷ [])) ≡ Ok whole

  further_took : (lines : List (List ℕ)) (raws : List Raw) (s : Start) (quads : List Quad) (n : ℕ) (whole : List Raw)
      → walk (nav_rules system) lines n (Further raws s quads) ≡ Ok whole → TookFurther lines raws s quads n whole
  further_took [] raws s quads n whole gives = absurd (no_file n Truncated whole (sym (walk-end (nav_rules system) (Further raws s quads) n) ∙ gives))
  further_took (bytes ∷ lines) raws s quads n whole gives =
      let first = walk-took (nav_rules system) (Further raws s quads) bytes lines n whole gives in
      let q = then_took (continuation_of (length quads) bytes) (λ q. behind raws s (quads ++ q ∷ [])) first.next first.admits in
      record {
        bytes = bytes;
        rest = lines;
        lines_are = refl;
        quad = q.0;
        says = q.1;
        gives = subst (λ (e : Expected). walk (nav_rules system) lines (n + 1) e ≡ Ok whole) (sym q.2) first.others;
      }

  -- seven lines, one after the other
  joined : {a b c d e f g : List ℕ} {l0 l1 l2 l3 l4 l5 l6 l7 : List (List ℕ)} → l0 ≡ a ∷ l1 → l1 ≡ b ∷ l2 → l2 ≡ c ∷ l3 → l3 ≡ d ∷ l4 → l4 ≡ e ∷ l5
      → l5 ≡ f ∷ l6 → l6 ≡ g ∷ l7 → l0 ≡ a ∷ b ∷ c ∷ d ∷ e ∷ f ∷ g ∷ l7
  joined p q r s t u v = cc

  record TookRecord (first : List ℕ) (lines : List (List ℕ)) (raws : List Raw) (whole : List Raw) : Type 0 where
    eight : EightLines
    raw : Raw
    rest : List (List ℕ)
    lines_are : first ∷ lines ≡ eight.first ∷ (further_of eight ++ rest)
    is : IsRecord system eight raw
    shorter : length rest ≤ length lines
    number : ℕ
    gives : walk (nav_rules system) rest number (Body (raws ++ raw ∷ []) false) ≡ Ok whole

  record_of : (first : List ℕ) (lines : List (List ℕ)) (raws : List Raw) (s : Start) (n : ℕ) (whole : List Raw) → column first 1 ≡ letter_of system → TookStart first s
      → (t2 : TookFurther lines raws s [] n whole)
      → (t3 : TookFurther t2.rest raws s (t2.quad ∷ []) (n + 1) whole)
      → (t4 : TookFurther t3.rest raws s (t2.quad ∷ t3.quad ∷ []) (n + 1 + 1) whole)
      → (t5 : TookFurther t4.rest raws s (t2.quad ∷ t3.quad ∷ t4.quad ∷ []) (n + 1 + 1 + 1) whole)
      → (t6 : TookFurther t5.rest raws s (t2.quad ∷ t3.quad ∷ t4.quad ∷ t5.quad ∷ []) (n + 1 + 1 + 1 + 1) whole)
      → (t7 : TookFurther t6.rest raws s (t2.quad ∷ t3.quad ∷ t4.quad ∷ t5.quad ∷ t6.quad ∷ []) (n + 1 + 1 + 1 + 1 + 1) whole)
      → (t8 : TookFurther t7.rest raws s (t2.quad ∷ t3.quad ∷ t4.quad ∷ t5.quad ∷ t6.quad ∷ t7.quad ∷ []) (n + 1 + 1 + 1 + 1 + 1 + 1) whole)
      → TookRecord first lines raws whole
  record_of first lines raws s n whole letter l1 t2 t3 t4 t5 t6 t7 t8 =
      let l2 = quad_took 0 t2.bytes t2.quad t2.says in
      let l3 = quad_took 1 t3.bytes t3.quad t3.says in
      let l4 = quad_took 2 t4.bytes t4.quad t4.says in
      let l5 = quad_took 3 t5.bytes t5.quad t5.says in
      let l6 = quad_took 4 t6.bytes t6.quad t6.says in
      let l7 = quad_took 5 t7.bytes t7.quad t7.says in
      let l8 = quad_took 6 t8.bytes t8.quad t8.says in
      let eight : EightLines = record { first = first; second = t2.bytes; third = t3.bytes; fourth = t4.bytes; fifth = t5.bytes; sixth = t6.bytes; seventh = t7.bytes; eighth = t8.bytes } in
      let raw = raw_of s t2.quad t3.quad t4.quad t5.quad t6.quad t7.quad in
      record {
        eight = eight;
        raw = raw;
        rest = t8.rest;
        lines_are = ap (λ (l : List (List ℕ)). first ∷ l) (joined t2.lines_are t3.lines_are t4.lines_are t5.lines_are t6.lines_are t7.lines_are t8.lines_are);
        is = record {
          letter = letter;
          behind = All-cons IsFurther t2.bytes (t3.bytes ∷ t4.bytes ∷ t5.bytes ∷ t6.bytes ∷ t7.bytes ∷ t8.bytes ∷ []) l2.blank
              (All-cons IsFurther t3.bytes (t4.bytes ∷ t5.bytes ∷ t6.bytes ∷ t7.bytes ∷ t8.bytes ∷ []) l3.blank
              (All-cons IsFurther t4.bytes (t5.bytes ∷ t6.bytes ∷ t7.bytes ∷ t8.bytes ∷ []) l4.blank
              (All-cons IsFurther t5.bytes (t6.bytes ∷ t7.bytes ∷ t8.bytes ∷ []) l5.blank (All-cons IsFurther t6.bytes (t7.bytes ∷ t8.bytes ∷ []) l6.blank
              (All-cons IsFurther t7.bytes (t8.bytes ∷ []) l7.blank (All-cons IsFurther t8.bytes ([]) l8.blank (All-nil IsFurther)))))));
          sat = l1.sat;
          toc = l1.toc;
          af0 = l1.af0;
          af1 = l1.af1;
          af2 = l1.af2;
          crs = l2.second;
          dn = l2.third;
          m0 = l2.fourth;
          cuc = l3.first;
          ecc = l3.second;
          cus = l3.third;
          root_a = l3.fourth;
          toe_s = l4.first;
          cic = l4.second;
          node = l4.third;
          cis = l4.fourth;
          incl = l5.first;
          crc = l5.second;
          peri = l5.third;
          node_rate = l5.fourth;
          incl_rate = l6.first;
          week = l6.third;
          health = l7.second;
        };
        shorter = omega (
          arith,
          ap (λ (l : List (List ℕ)). length l) t2.lines_are,
          ap (λ (l : List (List ℕ)). length l) t3.lines_are,
          ap (λ (l : List (List ℕ)). length l) t4.lines_are,
          ap (λ (l : List (List ℕ)). length l) t5.lines_are,
          ap (λ (l : List (List ℕ)). length l)
              t6.lines_are,
          ap (λ (l : List (List ℕ)). length l) t7.lines_are,
          ap (λ (l : List (List ℕ)). length l) t8.lines_are,
        );
        number = n + 1 + 1 + 1 + 1 + 1 + 1 + 1;
        gives = t8.gives;
      }

  record_took : (first : List ℕ) (lines : List (List ℕ)) (raws : List Raw) (s : Start) (n : ℕ) (whole : List Raw) → column first 1 ≡ letter_of system
      → start_in system first ≡ Ok s → walk (nav_rules system) lines n (Further raws s []) ≡ Ok whole → TookRecord first lines raws whole
  record_took first lines raws s n whole letter starts gives =
      let t2 = further_took lines raws s [] n whole gives in
      let t3 = further_took t2.rest raws s (t2.quad ∷ []) (n + 1) whole t2.gives in
      let t4 = further_took t3.rest raws s (t2.quad ∷ t3.quad ∷ []) (n + 1 + 1) whole t3.gives in
      let t5 = further_took t4.rest raws s (t2.quad ∷ t3.quad ∷ t4.quad ∷ []) (n + 1 + 1 + 1) whole t4.gives in
      let t6 = further_took t5.rest raws s (t2.quad ∷ t3.quad ∷ t4.quad ∷ t5.quad ∷ []) (n + 1 + 1 + 1 + 1) whole t5.gives in
      let t7 = further_took t6.rest raws s (t2.quad ∷ t3.quad ∷ t4.quad ∷ t5.quad ∷ t6.quad ∷ []) (n + 1 + 1 + 1 + 1 + 1) whole t6.gives in
      let t8 = further_took t7.rest raws s (t2.quad ∷ t3.quad ∷ t4.quad ∷ t5.quad ∷ t6.quad ∷ t7.quad ∷ []) (n + 1 + 1 + 1 + 1 + 1 + 1) whole t7.gives in
      record_of first lines raws s n whole letter (start_took first s starts) t2 t3 t4 t5 t6 t7 t8

  -- ---- the body

  -- lines where a record may begin
  record TookBody (lines : List (List ℕ)) (raws : List Raw) (whole : List Raw) : Type 0 where
    parts : List Part
    lines_are : lines ≡ body_lines parts
    are : All (IsPart system) parts
    whole_is : whole ≡ raws ++ records_of parts
    few : length raws ≤ 4096 → length whole ≤ 4096

  -- lines after the first one of a record of another system
  record TookOther (lines : List (List ℕ)) (raws : List Raw) (whole : List Raw) : Type 0 where
    further : List (List ℕ)
    parts : List Part
    lines_are : lines ≡ further ++ body_lines parts
    behind : All IsFurther further
    are : All (IsPart system) parts
    whole_is : whole ≡ raws ++ records_of parts
    few : length raws ≤ 4096 → length whole ≤ 4096

  record Took (lines : List (List ℕ)) : Type 0 where
    body : (raws : List Raw) (n : ℕ) (whole : List Raw) → walk (nav_rules system) lines n (Body raws false) ≡ Ok whole → TookBody lines raws whole
    other : (raws : List Raw) (n : ℕ) (whole : List Raw) → walk (nav_rules system) lines n (Body raws true) ≡ Ok whole → TookOther lines raws whole

  -- after a record of another system a part of its own begins
  begins_anew : (lines : List (List ℕ)) (raws whole : List Raw) → TookBody lines raws whole → TookOther lines raws whole
  begins_anew lines raws whole t = record { further = []; parts = t.parts; lines_are = t.lines_are; behind = All-nil IsFurther; are = t.are; whole_is = t.whole_is; few = t.few }

  other_took : (first : List ℕ) (lines : List (List ℕ)) (raws : List Raw) (n : ℕ) (whole : List Raw) → Took lines → column first 1 ≢ 32
      → column first 1 ≢ letter_of system → walk (nav_rules system) lines n (Body raws true) ≡ Ok whole → TookBody (first ∷ lines) raws whole
  other_took first lines raws n whole took begins other gives =
      let rest = took.other raws n whole gives in
      record {
        parts = Other first rest.further ∷ rest.parts;
        lines_are = ap (λ (l : List (List ℕ)). first ∷ l) rest.lines_are;
        are = All-cons (IsPart system) (Other first rest.further) rest.parts (record { begins = begins; other = other; behind = rest.behind }) rest.are;
        whole_is = rest.whole_is;
        few = rest.few;
      }

  gps_took : (first : List ℕ) (lines : List (List ℕ)) (raws : List Raw) (s : Start) (n : ℕ) (whole : List Raw)
      → ((rest : List (List ℕ)) → length rest ≤ length lines → Took rest) → column first 1 ≡ letter_of system → length raws < 4096
      → start_in system first ≡ Ok s
      → walk (nav_rules system) lines n (Further raws s []) ≡ Ok whole → TookBody (first ∷ lines) raws whole
  gps_took first lines raws s n whole again letter room starts gives =
      let t = record_took first lines raws s n whole letter starts gives in
      let rest = (again t.rest t.shorter).body (raws ++ t.raw ∷ []) t.number whole t.gives in
      let one_more : length (raws ++ t.raw ∷ []) ≡ length raws + 1 = length-append raws (t.raw ∷ []) in
      let eight = t.eight in
      record {
        parts = Read eight t.raw ∷ rest.parts;
        lines_are = t.lines_are ∙ ap (λ (l : List (List ℕ)). eight.first ∷ (further_of eight ++ l)) rest.lines_are;
        are = All-cons (IsPart system) (Read eight t.raw) rest.parts t.is rest.are;
        whole_is = rest.whole_is ∙ append_assoc raws (t.raw ∷ []) (records_of rest.parts);
        few = λ le. rest.few (omega arith);
      }

  body_line : (first : List ℕ) (lines : List (List ℕ)) → ((rest : List (List ℕ)) → length rest ≤ length lines → Took rest)
      → (raws : List Raw) (n : ℕ) (whole : List Raw) → walk (nav_rules system) (first ∷ lines) n (Body raws false) ≡ Ok whole
      → TookBody (first ∷ lines) raws whole
  body_line first lines again raws n whole gives = by_line l.0 (said (length raws) false first l.0 l.1) l.2
    where
      t : TookLine (nav_rules system) (Body raws false) first lines n whole
      t = walk-took (nav_rules system) (Body raws false) first lines n whole gives

      l : (b : BodyLine) × (body_line_of system (length raws) false first ≡ Ok b) × (after_body raws false b ≡ t.next)
      l = then_took (body_line_of system (length raws) false first) (λ b. after_body raws false b) t.next t.admits

      others : (next : Expected) → next ≡ t.next → walk (nav_rules system) lines (n + 1) next ≡ Ok whole
      others next same = subst (λ (e : Expected). walk (nav_rules system) lines (n + 1) e ≡ Ok whole) (sym same) t.others

      by_line : (b : BodyLine) → Says (length raws) false first b → after_body raws false b ≡ t.next → TookBody (first ∷ lines) raws whole
      by_line line.Passed says next =
          let rest = (again lines (omega arith)).body raws (n + 1) whole (others (Body raws false) next) in
          record {
            parts = Blank first ∷ rest.parts;
            lines_are = ap (λ (l : List (List ℕ)). first ∷ l) rest.lines_are;
            are = All-cons (IsPart system) (Blank first) rest.parts says.1 rest.are;
            whole_is = rest.whole_is;
            few = rest.few;
          }
      by_line line.Other says next = other_took first lines raws (n + 1) whole (again lines (omega arith)) says.0 says.1 (others (Body raws true) next)
      by_line (line.Record s) says next = gps_took first lines raws s (n + 1) whole again says.0 says.1 says.2 (others (Further raws s []) next)

  other_line : (first : List ℕ) (lines : List (List ℕ)) → ((rest : List (List ℕ)) → length rest ≤ length lines → Took rest)
      → (raws : List Raw) (n : ℕ) (whole : List Raw) → walk (nav_rules system) (first ∷ lines) n (Body raws true) ≡ Ok whole
      → TookOther (first ∷ lines) raws whole
  other_line first lines again raws n whole gives = by_line l.0 (said (length raws) true first l.0 l.1) l.2
    where
      t : TookLine (nav_rules system) (Body raws true) first lines n whole
      t = walk-took (nav_rules system) (Body raws true) first lines n whole gives

      l : (b : BodyLine) × (body_line_of system (length raws) true first ≡ Ok b) × (after_body raws true b ≡ t.next)
      l = then_took (body_line_of system (length raws) true first) (λ b. after_body raws true b) t.next t.admits

      others : (next : Expected) → next ≡ t.next → walk (nav_rules system) lines (n + 1) next ≡ Ok whole
      others next same = subst (λ (e : Expected). walk (nav_rules system) lines (n + 1) e ≡ Ok whole) (sym same) t.others

      by_line : (b : BodyLine) → Says (length raws) true first b → after_body raws true b ≡ t.next → TookOther (first ∷ lines) raws whole
      by_line line.Passed says next =
          let rest = (again lines (omega arith)).other raws (n + 1) whole (others (Body raws true) next) in
          record {
            further = first ∷ rest.further;
            parts = rest.parts;
            lines_are = ap (λ (l : List (List ℕ)). first ∷ l) rest.lines_are;
            behind = All-cons IsFurther first rest.further says.0 rest.behind;
            are = rest.are;
            whole_is = rest.whole_is;
            few = rest.few;
          }
      by_line line.Other says next = begins_anew (first ∷ lines) raws whole (other_took first lines raws (n + 1) whole (again lines (omega arith)) says.0 says.1 (others (Body raws true) next))
      by_line (line.Record s) says next = begins_anew (first ∷ lines) raws whole (gps_took first lines raws s (n + 1) whole again says.0 says.1 says.2 (others (Further raws s []) next))

  ends_here : (raws : List Raw) (skipping : Bool) (n : ℕ) (whole : List Raw) → walk (nav_rules system) [] n (Body raws skipping) ≡ Ok whole → TookBody [] raws whole
  ends_here raws skipping n whole gives =
      let same : raws ≡ whole = cc (sym (walk-end (nav_rules system) (Body raws skipping) n) ∙ gives) in
      record { parts = []; lines_are = refl; are = All-nil (IsPart system); whole_is = sym same ∙ sym (append-nil raws); few = λ le. rw (← same) le }

  -- lines, at most this number
  took : (fuel : ℕ) (lines : List (List ℕ)) → length lines ≤ fuel → Took lines
  took fuel [] le = record { body = λ raws n whole gives. ends_here raws false n whole gives; other = λ raws n whole gives. begins_anew [] raws whole (ends_here raws true n whole gives) }
  took zero (bytes ∷ lines) le = absurd (omega (arith, le))
  took (suc fuel) (bytes ∷ lines) le = record {
    body = body_line bytes lines (λ rest less. took fuel rest (omega (arith, le, less)));
    other = other_line bytes lines (λ rest less. took fuel rest (omega (arith, le, less)));
  }

  -- ---- the header and the file

  record TookHead (lines : List (List ℕ)) (whole : List Raw) : Type 0 where
    between : List (List ℕ)
    last : List ℕ
    rest : List (List ℕ)
    lines_are : lines ≡ between ++ last ∷ rest
    goes_on : All (λ l. ends_header l ≡ false) between
    ends : ends_header last ≡ true
    number : ℕ
    gives : walk (nav_rules system) rest number (Body [] false) ≡ Ok whole

  head_took : (lines : List (List ℕ)) (n : ℕ) (whole : List Raw) → walk (nav_rules system) lines n Head ≡ Ok whole → TookHead lines whole
  head_took [] n whole gives = absurd (no_file n NoEnd whole (sym (walk-end (nav_rules system) Head n) ∙ gives))
  head_took (bytes ∷ lines) n whole gives = by_end (λ e. head_took lines (n + 1) whole e) (ends_header bytes) refl (cc (first.admits))
    where
      first : TookLine (nav_rules system) Head bytes lines n whole
      first = walk-took (nav_rules system) Head bytes lines n whole gives

      others : (next : Expected) → next ≡ first.next → walk (nav_rules system) lines (n + 1) next ≡ Ok whole
      others next same = subst (λ (e : Expected). walk (nav_rules system) lines (n + 1) e ≡ Ok whole) (sym same) first.others

      by_end : (walk (nav_rules system) lines (n + 1) Head ≡ Ok whole → TookHead lines whole) → (t : Bool) → ends_header bytes ≡ t → after_header t ≡ first.next → TookHead (bytes ∷ lines) whole
      by_end again true is e =
          record { between = []; last = bytes; rest = lines; lines_are = refl; goes_on = All-nil (λ l. ends_header l ≡ false); ends = is; number = n + 1; gives = others (Body [] false) e }
      by_end again false is e =
          let later = again (others Head e) in
          record {
            between = bytes ∷ later.between;
            last = later.last;
            rest = later.rest;
            lines_are = ap (λ (l : List (List ℕ)). bytes ∷ l) later.lines_are;
            goes_on = All-cons (λ l. ends_header l ≡ false) bytes later.between is later.goes_on;
            ends = later.ends;
            number = later.number;
            gives = later.gives;
          }

  -- what lines give is a file of the grammar
  pub file_took : (lines : List (List ℕ)) (records : List Raw) → walk (nav_rules system) lines 0 First ≡ Ok records → IsNavFile system lines records
  file_took [] records gives = absurd (no_file 0 Version records (sym (walk-end (nav_rules system) First 0) ∙ gives))
  file_took (bytes ∷ lines) records gives =
      let first = walk-took (nav_rules system) First bytes lines 0 records gives in
      let version = then_took (first_line_of system bytes) (λ u. Head) first.next first.admits in
      let head = head_took lines (0 + 1) records (subst (λ (e : Expected). walk (nav_rules system) lines (0 + 1) e ≡ Ok records) (sym version.2) first.others) in
      let body = (took (length head.rest) head.rest (omega arith)).body [] head.number records head.gives in
      record {
        header = bytes ∷ (head.between ++ head.last ∷ []);
        parts = body.parts;
        short = walk-short (nav_rules system) (bytes ∷ lines) 0 First records gives;
        lines_are = ap (λ (l : List (List ℕ)). bytes ∷ l) (head.lines_are ∙ ap (λ (l : List (List ℕ)). head.between ++ head.last ∷ l) body.lines_are)
            ∙ sym (regroup system bytes head.between head.last (body_lines body.parts));
        is_header = record { first = bytes; between = head.between; last = head.last; lines_are = refl; version = version.1; goes_on = head.goes_on; ends = head.ends };
        are_parts = body.are;
        records_are = body.whole_is;
        few = body.few (omega arith);
      }
