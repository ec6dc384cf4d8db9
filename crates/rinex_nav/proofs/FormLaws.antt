-- What the lines give is what the grammar says.
use Rattle.std.proofs.Common.{◌≡◌, ◌≢◌, ◌<◌, ◌≤◌, ◌+◌, ℕ, pos, suc, nat_le, ◌==◌, Bool, true, false, List, [], ◌∷◌, ◌++◌, length, All, Ok, refl, sym, ap, ◌∙◌, subst, arith, append_assoc, length-append, add-zero}
use Rattle.std.proofs.lemmas.Bool.Decides.{nat_tests}
use Rattle.std.proofs.lemmas.List.{append-nil}
use Rattle.std.proofs.lemmas.List.Elements.{All-head, All-tail}
use Rattle.decimal_text.specs.Fixed.{are_blank}
use Rattle.eph_store.specs.declared.record.Raw.{Raw}
use Rattle.rinex_head.specs.Columns.{column}
use Rattle.rinex_head.specs.LineRules.{walk}
use Rattle.rinex_head.proofs.LineRuleLaws.{walk-takes, walk-end}
use Rattle.rinex_head.proofs.TakenLines.{All-behind}
use Rattle.rinex_head.specs.declared.system.System.{System}
use Rattle.rinex_head.specs.declared.system.System.TheVariants.{Gps, Galileo}
use Rattle.rinex_head.specs.Systems.{letter_of}
use Rattle.rinex_nav.specs.FirstLine.{ends_header}
use Rattle.rinex_nav.specs.RecordLines.{start_in, body_line_of, quad_in, continuation_of}
use Rattle.rinex_nav.specs.declared.record_lines.Start.{Start}
use Rattle.rinex_nav.specs.declared.record_lines.Quad.{Quad}
use Rattle.decimal_text.specs.declared.exponent.Dec.{Dec}
use Rattle.rinex_nav.specs.NavRules.{Expected, First, Head, Body, Further, behind, admit, nav_rules}
use Rattle.rinex_nav.specs.NavForm.{IsFurther, EightLines, further_of, IsRecord, Part, Blank, Other, Read, IsPart, body_lines, records_of, IsNavFile}

-- a line that may be read
abbrev IsShort : List ℕ → Type 0
IsShort line = length line ≤ 4096

abbrev AreShort : List (List ℕ) → Type 0
AreShort lines = All IsShort lines

blank_column : (line : List ℕ) → are_blank line ≡ true → column line 1 ≡ 32
blank_column [] is = refl
blank_column (b ∷ bs) is = grind (arith, nat_tests)

-- a system's letter is no blank, and itself
letter_there : (of : System) → (letter_of of == 32) ≡ false
letter_there Gps = refl
letter_there Galileo = refl

own_letter : (of : System) → (letter_of of == letter_of of) ≡ true
own_letter Gps = refl
own_letter Galileo = refl

module _ (system : System) where
  -- ---- where a record may begin

  takes_blank : (raws : List Raw) (skipping : Bool) (line : List ℕ) → are_blank line ≡ true → admit system (Body raws skipping) line ≡ Ok (Body raws skipping)
  unfolding body_line_of
  takes_blank raws true line is = rw (blank_column line is) refl
  takes_blank raws false line is = rw (blank_column line is, is) refl

  takes_further : (raws : List Raw) (line : List ℕ) → IsFurther line → admit system (Body raws true) line ≡ Ok (Body raws true)
  unfolding body_line_of
  takes_further raws line is = rw is refl

  takes_other : (raws : List Raw) (skipping : Bool) (line : List ℕ) → column line 1 ≢ 32 → column line 1 ≢ letter_of system → admit system (Body raws skipping) line ≡ Ok (Body raws true)
  unfolding body_line_of
  takes_other raws skipping line begins other =
      let no_blank : (column line 1 == 32) ≡ false = grind (arith, nat_tests) in
      let no_letter : (column line 1 == letter_of system) ≡ false = grind (arith, nat_tests) in
      rw (no_blank, no_letter) refl

  -- what the first line of a record says
  abbrev start_of : Raw → Start
  start_of r = record { sat = r.sat; toc = r.toc; af0 = r.af0; af1 = r.af1; af2 = r.af2 }

  starts : (l : EightLines) (r : Raw) → IsRecord system l r → start_in system l.first ≡ Ok (start_of r)
  unfolding start_in
  starts l r is = rw (is.sat, is.toc, is.af0, is.af1, is.af2) refl

  takes_first : (raws : List Raw) (skipping : Bool) (l : EightLines) (r : Raw) → length raws < 4096 → IsRecord system l r
      → admit system (Body raws skipping) l.first ≡ Ok (Further raws (start_of r) [])
  unfolding body_line_of
  takes_first raws skipping l r room is =
      let fits : nat_le 4096 (length raws) ≡ false = grind (arith, nat_tests) in
      rw (is.letter, letter_there system, own_letter system, fits, starts l r is) refl

  -- ---- the further lines of a record

  abbrev unread : Dec
  unread = record { mant = pos 0; exp = pos 0 }

  abbrev second_of : Raw → Quad
  second_of r = record { first = unread; second = r.crs; third = r.dn; fourth = r.m0 }

  abbrev third_of : Raw → Quad
  third_of r = record { first = r.cuc; second = r.ecc; third = r.cus; fourth = r.root_a }

  abbrev fourth_of : Raw → Quad
  fourth_of r = record { first = r.toe_s; second = r.cic; third = r.node; fourth = r.cis }

  abbrev fifth_of : Raw → Quad
  fifth_of r = record { first = r.incl; second = r.crc; third = r.peri; fourth = r.node_rate }

  abbrev sixth_of : Raw → Quad
  sixth_of r = record { first = r.incl_rate; second = unread; third = r.week; fourth = unread }

  abbrev seventh_of : Raw → Quad
  seventh_of r = record { first = unread; second = r.health; third = unread; fourth = unread }

  abbrev eighth_of : Raw → Quad
  eighth_of r = record { first = unread; second = unread; third = unread; fourth = unread }

  second_says : (l : EightLines) (r : Raw) → IsRecord system l r → continuation_of 0 l.second ≡ Ok (second_of r)
  unfolding continuation_of quad_in
  second_says l r is = let blank : column l.second 1 ≡ 32 = is.behind 0 [] (omega arith) in rw (blank, is.crs, is.dn, is.m0) refl

  third_says : (l : EightLines) (r : Raw) → IsRecord system l r → continuation_of 1 l.third ≡ Ok (third_of r)
  unfolding continuation_of quad_in
  third_says l r is = let blank : column l.third 1 ≡ 32 = is.behind 1 [] (omega arith) in rw (blank, is.cuc, is.ecc, is.cus, is.root_a) refl

  fourth_says : (l : EightLines) (r : Raw) → IsRecord system l r → continuation_of 2 l.fourth ≡ Ok (fourth_of r)
  unfolding continuation_of quad_in
  fourth_says l r is = let blank : column l.fourth 1 ≡ 32 = is.behind 2 [] (omega arith) in rw (blank, is.toe_s, is.cic, is.node, is.cis) refl

  fifth_says : (l : EightLines) (r : Raw) → IsRecord system l r → continuation_of 3 l.fifth ≡ Ok (fifth_of r)
  unfolding continuation_of quad_in
  fifth_says l r is = let blank : column l.fifth 1 ≡ 32 = is.behind 3 [] (omega arith) in rw (blank, is.incl, is.crc, is.peri, is.node_rate) refl

  sixth_says : (l : EightLines) (r : Raw) → IsRecord system l r → continuation_of 4 l.sixth ≡ Ok (sixth_of r)
  unfolding continuation_of quad_in
  sixth_says l r is = let blank : column l.sixth 1 ≡ 32 = is.behind 4 [] (omega arith) in rw (blank, is.incl_rate, is.week) refl

  seventh_says : (l : EightLines) (r : Raw) → IsRecord system l r → continuation_of 5 l.seventh ≡ Ok (seventh_of r)
  unfolding continuation_of quad_in
  seventh_says l r is = let blank : column l.seventh 1 ≡ 32 = is.behind 5 [] (omega arith) in rw (blank, is.health) refl

  eighth_says : (l : EightLines) (r : Raw) → IsRecord system l r → continuation_of 6 l.eighth ≡ Ok (eighth_of r)
  unfolding continuation_of quad_in
  eighth_says l r is = let blank : column l.eighth 1 ≡ 32 = is.behind 6 [] (omega arith) in rw (blank) refl

  takes_quad : (raws : List Raw) (s : Start) (quads : List Quad) (line : List ℕ) (q : Quad) (next : Expected)
      → continuation_of (length quads) line ≡ Ok q → behind raws s (quads ++ q ∷ []) ≡ next → admit system (Further raws s quads) line ≡ Ok next
  takes_quad raws s quads line q next says is = rw (says, is) refl

  -- a record of GPS is taken
  record_taken : (l : EightLines) (r : Raw) (more : List (List ℕ)) (raws : List Raw) (skipping : Bool) (n : ℕ) → IsRecord system l r → length raws < 4096 → AreShort (l.first ∷ (further_of l ++ more))
      → walk (nav_rules system) (l.first ∷ (further_of l ++ more)) n (Body raws skipping) ≡ walk (nav_rules system) more (n + 1 + 1 + 1 + 1 + 1 + 1 + 1 + 1) (Body (raws ++ r ∷ []) false)
  record_taken l r more raws skipping n is room short =
      let s = start_of r in
      let q0 : List Quad = [] in
      let q1 : List Quad = second_of r ∷ [] in
      let q2 : List Quad = second_of r ∷ third_of r ∷ [] in
      let q3 : List Quad = second_of r ∷ third_of r ∷ fourth_of r ∷ [] in
      let q4 : List Quad = second_of r ∷ third_of r ∷ fourth_of r ∷ fifth_of r ∷ [] in
      let q5 : List Quad = second_of r ∷ third_of r ∷ fourth_of r ∷ fifth_of r ∷ sixth_of r ∷ [] in
      let q6 : List Quad = second_of r ∷ third_of r ∷ fourth_of r ∷ fifth_of r ∷ sixth_of r ∷ seventh_of r ∷ [] in
      walk-takes (nav_rules system) (Body raws skipping) (Further raws s []) l.first (further_of l ++ more) n (short 0 [] (omega arith)) (takes_first raws skipping l r room is)
      ∙ walk-takes (nav_rules system) (Further raws s q0) (Further raws s q1) l.second (l.third ∷ l.fourth ∷ l.fifth ∷ l.sixth ∷ l.seventh ∷ l.eighth ∷ more)
      (n + 1) (short 1 [] (omega arith)) (takes_quad raws s q0 l.second (second_of r) (Further raws s q1) (second_says l r is) refl)
      ∙ walk-takes (nav_rules system) (Further raws s q1) (Further raws s q2) l.third (l.fourth ∷ l.fifth ∷ l.sixth ∷ l.seventh ∷ l.eighth ∷ more)
      (n + 1 + 1) (short 2 [] (omega arith)) (takes_quad raws s q1 l.third (third_of r) (Further raws s q2) (third_says l r is) refl)
      ∙ walk-takes (nav_rules system) (Further raws s q2) (Further raws s q3) l.fourth (l.fifth ∷ l.sixth ∷ l.seventh ∷ l.eighth ∷ more)
      (n + 1 + 1 + 1) (short 3 [] (omega arith)) (takes_quad raws s q2 l.fourth (fourth_of r) (Further raws s q3) (fourth_says l r is) refl)
      ∙ walk-takes (nav_rules system) (Further raws s q3) (Further raws s q4) l.fifth (l.sixth ∷ l.seventh ∷ l.eighth ∷ more) (n + 1 + 1 + 1 + 1)
      (short 4 [] (omega arith)) (takes_quad raws s q3 l.fifth (fifth_of r) (Further raws s q4) (fifth_says l r is) refl)
      ∙ walk-takes (nav_rules system) (Further raws s q4) (Further raws s q5) l.sixth (l.seventh ∷ l.eighth ∷ more) (n + 1 + 1 + 1 + 1 + 1)
      (short 5 [] (omega arith)) (takes_quad raws s q4 l.sixth (sixth_of r) (Further raws s q5) (sixth_says l r is) refl)
      ∙ walk-takes (nav_rules system) (Further raws s q5) (Further raws s q6) l.seventh (l.eighth ∷ more) (n + 1 + 1 + 1 + 1 + 1 + 1) (short 6 [] (omega arith))
      (takes_quad raws s q5 l.seventh (seventh_of r) (Further raws s q6) (seventh_says l r is) refl)
      ∙ walk-takes (nav_rules system) (Further raws s q6) (Body (raws ++ r ∷ []) false) l.eighth more (n + 1 + 1 + 1 + 1 + 1 + 1 + 1) (short 7 [] (omega arith))
      (takes_quad raws s q6 l.eighth (eighth_of r) (Body (raws ++ r ∷ []) false) (eighth_says l r is) refl)

  -- ---- the body

  -- the further lines of a record of another system are taken
  further_taken : (lines more : List (List ℕ)) (raws : List Raw) (n : ℕ) → AreShort (lines ++ more) → All IsFurther lines
      → walk (nav_rules system) (lines ++ more) n (Body raws true) ≡ walk (nav_rules system) more (n + length lines) (Body raws true)
  further_taken [] more raws n short are = rw add-zero refl
  further_taken (line ∷ lines) more raws n short are =
      let on : n + suc (length lines) ≡ n + 1 + length lines = omega arith in
      walk-takes (nav_rules system) (Body raws true) (Body raws true) line (lines ++ more) n (short 0 [] (omega arith)) (takes_further raws line (All-head IsFurther line lines are))
      ∙ further_taken lines more raws (n + 1) (All-tail IsShort line (lines ++ more) short) (All-tail IsFurther line lines are) ∙ rw on refl

  -- and so are the parts of a body
  parts_taken : (parts : List Part) (raws : List Raw) (skipping : Bool) (n : ℕ) → AreShort (body_lines parts) → All (IsPart system) parts → length raws + length (records_of parts) ≤ 4096
      → walk (nav_rules system) (body_lines parts) n (Body raws skipping) ≡ Ok (raws ++ records_of parts)
  parts_taken [] raws skipping n short are few = walk-end (nav_rules system) (Body raws skipping) n ∙ rw (append-nil raws) refl
  parts_taken (Blank line ∷ parts) raws skipping n short are few =
      walk-takes (nav_rules system) (Body raws skipping) (Body raws skipping) line (body_lines parts) n (short 0 [] (omega arith))
      (takes_blank raws skipping line (All-head (IsPart system) (Blank line) parts are))
      ∙ parts_taken parts raws skipping (n + 1) (All-tail IsShort line (body_lines parts) short) (All-tail (IsPart system) (Blank line) parts are) few
  parts_taken (Other first further ∷ parts) raws skipping n short are few =
      let is = All-head (IsPart system) (Other first further) parts are in
      let others = All-tail IsShort first (further ++ body_lines parts) short in
      walk-takes (nav_rules system) (Body raws skipping) (Body raws true) first (further ++ body_lines parts) n (short 0 [] (omega arith)) (takes_other raws skipping first is.begins is.other)
      ∙ further_taken further (body_lines parts) raws (n + 1) others is.behind
      ∙ parts_taken parts raws true (n + 1 + length further) (All-behind IsShort further (body_lines parts) others) (All-tail (IsPart system) (Other first further) parts are) few
  parts_taken (Read lines r ∷ parts) raws skipping n short are few =
      let is = All-head (IsPart system) (Read lines r) parts are in
      let one_more : length (raws ++ r ∷ []) ≡ length raws + 1 = length-append raws (r ∷ []) in
      let fits : length (raws ++ r ∷ []) + length (records_of parts) ≤ 4096 = omega arith in
      record_taken lines r (body_lines parts) raws skipping n is (omega arith) short
      ∙ parts_taken parts (raws ++ r ∷ []) false (n + 1 + 1 + 1 + 1 + 1 + 1 + 1 + 1)
      (All-behind IsShort (lines.first ∷ further_of lines) (body_lines parts) short) (All-tail (IsPart system) (Read lines r) parts are) fits
      ∙ rw (append_assoc raws (r ∷ []) (records_of parts)) refl

  -- ---- the header and the file

  between_taken : (lines more : List (List ℕ)) (n : ℕ) → AreShort (lines ++ more) → All (λ line. ends_header line ≡ false) lines
      → walk (nav_rules system) (lines ++ more) n Head ≡ walk (nav_rules system) more (n + length lines) Head
  between_taken [] more n short are = rw add-zero refl
  between_taken (line ∷ lines) more n short are =
      let on : n + suc (length lines) ≡ n + 1 + length lines = omega arith in
      let goes_on : ends_header line ≡ false = All-head (λ l. ends_header l ≡ false) line lines are in
      let admits : admit system Head line ≡ Ok Head = rw goes_on refl in
      walk-takes (nav_rules system) Head Head line (lines ++ more) n (short 0 [] (omega arith)) admits
      ∙ between_taken lines more (n + 1) (All-tail IsShort line (lines ++ more) short) (All-tail (λ l. ends_header l ≡ false) line lines are) ∙ rw on refl

  pub regroup : (first : List ℕ) (between : List (List ℕ)) (last : List ℕ) (more : List (List ℕ)) → (first ∷ (between ++ last ∷ [])) ++ more ≡ first ∷ (between ++ last ∷ more)
  regroup first between last more = simp append_assoc

  -- a file of the grammar is what its lines give
  pub file_given : (lines : List (List ℕ)) (records : List Raw) → IsNavFile system lines records → walk (nav_rules system) lines 0 First ≡ Ok records
  file_given lines records is =
      let h = is.is_header in
      let body = body_lines is.parts in
      let all : lines ≡ h.first ∷ (h.between ++ h.last ∷ body) = is.lines_are ∙ ap (λ (l : List (List ℕ)). l ++ body) h.lines_are ∙ regroup h.first h.between h.last body in
      let short : AreShort (h.first ∷ (h.between ++ h.last ∷ body)) = subst AreShort all is.short in
      let behind_first = All-tail IsShort h.first (h.between ++ h.last ∷ body) short in
      let from_last = All-behind IsShort h.between (h.last ∷ body) behind_first in
      let first_admits : admit system First h.first ≡ Ok Head = rw (h.version) refl in
      let last_admits : admit system Head h.last ≡ Ok (Body [] false) = rw (h.ends) refl in
      let n = 0 + 1 + length h.between in
      let fits : 0 + length (records_of is.parts) ≤ 4096 = omega (arith, ap (λ (rs : List Raw). length rs) is.records_are, is.few) in
      ap (λ (l : List (List ℕ)). walk (nav_rules system) l 0 First) all
      ∙ walk-takes (nav_rules system) First Head h.first (h.between ++ h.last ∷ body) 0 (short 0 [] (omega arith)) first_admits
      ∙ between_taken h.between (h.last ∷ body) (0 + 1) behind_first h.goes_on
      ∙ walk-takes (nav_rules system) Head (Body [] false) h.last body n (from_last 0 [] (omega arith)) last_admits
      ∙ parts_taken is.parts [] false (n + 1) (All-tail IsShort h.last body from_last) is.are_parts fits
      ∙ ap (λ (rs : List Raw). Ok rs) (sym is.records_are)
