-- Lines of a header that are taken are of the form.
use Rattle.std.proofs.Common.{◌≡◌, ◌≤◌, ◌+◌, ℕ, ℤ, zero, suc, List, [], ◌∷◌, ◌++◌, length, Result, Ok, Option, Some, None, refl, sym, ap, ◌∙◌, subst, arith}
use Rattle.rinex_head.specs.declared.place.Flaw.{Flaw}
use Rattle.rinex_head.specs.declared.system.System.{System}
use Rattle.rinex_head.specs.Places.{flawed, at_line}
use Rattle.rinex_head.specs.LineRules.{walk}
use Rattle.rinex_head.proofs.LineRuleLaws.{walk-end, walk-took}
use Rattle.rinex_head.proofs.TakenLines.{and_then_took, then_took}
use Rattle.obs_fields.specs.declared.header.Header.{Header}
use Rattle.obs_fields.specs.declared.header_lines.HeaderLine.{HeaderLine}
use Rattle.obs_fields.specs.declared.header_lines.HeaderLine.TheVariants as header
use Rattle.obs_fields.specs.FirstLine.{first_line_of}
use Rattle.obs_fields.specs.HeaderLines.{header_line_of}
use Rattle.obs_fields.specs.Types.{first_types_of, further_types_of}
use Rattle.obs_fields.specs.HeaderRules.{InHeader, First, Next, AfterLine, Inside, Whole, so_far, bare_header, whole_header, begun_list, after_line, admit_header, missing_line}
use Rattle.obs_fields.specs.HeaderForm.{HeadPart, IsPlain, AreHeadParts, head_lines, position_by, delta_by, last_position, last_delta, AreFurther, IsTypeList, IsHeader}
use Rattle.obs_fields.proofs.HeaderLaws.{HeaderReader, inside, line_after, types_after, regroup, zero_delta}

-- a text may not end within a header
no_end : {S F : Type 0} (r : HeaderReader S F) (n : ℕ) (s : InHeader) (whole : F) → walk r.rules [] n (inside r s) ≡ Ok whole → ⊥
no_end {S} {F} r n s whole gives =
    let flaw_is_whole : at_line (n + 1) (flawed {A = F} 1 (missing_line s)) ≡ Ok whole =
    ap (λ (f : Result F Flaw). at_line (n + 1) f) (sym (r.missing s)) ∙ sym (walk-end r.rules (inside r s) n) ∙ gives in
    cc

-- lines that give something begin with one that is admitted
record TookInside {S F : Type 0} (r : HeaderReader S F) (s : InHeader) (bytes : List ℕ) (lines : List (List ℕ)) (n : ℕ) (whole : F) : Type 0 where
  next : AfterLine
  short : length bytes ≤ 4096
  admits : admit_header r.layout s bytes ≡ Ok next
  others : walk r.rules lines (n + 1) (r.after next) ≡ Ok whole

took_inside : {S F : Type 0} (r : HeaderReader S F) (s : InHeader) (bytes : List ℕ) (lines : List (List ℕ)) (n : ℕ) (whole : F)
    → walk r.rules (bytes ∷ lines) n (inside r s) ≡ Ok whole → TookInside r s bytes lines n whole
took_inside {S} r s bytes lines n whole gives =
    let first = walk-took r.rules (inside r s) bytes lines n whole gives in
    let line = then_took (admit_header r.layout s bytes) (λ l. r.after l) first.next (sym (r.admits s bytes) ∙ first.admits) in
    record { next = line.0; short = first.short; admits = line.1; others = subst (λ (s : S). walk r.rules lines (n + 1) s ≡ Ok whole) (sym line.2) first.others }

abbrev answer : AfterLine → Result AfterLine Flaw
answer l = Ok l

-- the walk goes on from the same state
same_walk : {S F : Type 0} (r : HeaderReader S F) (lines : List (List ℕ)) (n : ℕ) (whole : F) (l next : AfterLine)
    → l ≡ next → walk r.rules lines n (r.after next) ≡ Ok whole → walk r.rules lines n (r.after l) ≡ Ok whole
same_walk r lines n whole l next same gives = subst (λ (l : AfterLine). walk r.rules lines n (r.after l) ≡ Ok whole) (sym same) gives

-- After the first line of a header, by its system and its version.
module _ {S F : Type 0} (r : HeaderReader S F) (system : System) (hundredths : ℕ) where
  abbrev line_now : Option (List ℤ) → List ℤ → Option (List (List ℕ)) → InHeader
  line_now p d t = line_after system hundredths p d t

  abbrev types_now : Option (List ℤ) → List ℤ → List (List ℕ) → ℕ → InHeader
  types_now p d names left = types_after system hundredths p d names left

  pub record TookEnd (lines : List (List ℕ)) (p : Option (List ℤ)) (d : List ℤ) (types : List (List ℕ)) (whole : F) : Type 0 where
    pub after : List HeadPart
    pub last : List ℕ
    pub rest : List (List ℕ)
    pub lines_are : lines ≡ head_lines after ++ (last ∷ rest)
    pub are : AreHeadParts r.layout system after
    pub last_short : length last ≤ 4096
    pub ends : header_line_of r.layout system last ≡ Ok header.End
    pub number : ℕ
    pub gives : walk r.rules rest number (r.after (Whole (whole_header (so_far system hundredths (last_position p after) (last_delta d after) (Some types)) types))) ≡ Ok whole

  pub record TookMore (lines : List (List ℕ)) (p : Option (List ℤ)) (d : List ℤ) (names : List (List ℕ)) (left : ℕ) (whole : F) : Type 0 where
    pub further : List (List ℕ)
    pub tail : List (List ℕ)
    pub all : List (List ℕ)
    pub lines_are : lines ≡ further ++ tail
    pub are : AreFurther r.layout further names left all
    pub end : TookEnd tail p d all whole

  pub record TookList (lines : List (List ℕ)) (p : Option (List ℤ)) (d : List ℤ) (whole : F) : Type 0 where
    pub before : List HeadPart
    pub list : List ℕ
    pub further : List (List ℕ)
    pub tail : List (List ℕ)
    pub types : List (List ℕ)
    pub lines_are : lines ≡ head_lines before ++ (list ∷ (further ++ tail))
    pub are : AreHeadParts r.layout system before
    pub is_list : IsTypeList r.layout system list further types
    pub end : TookEnd tail (last_position p before) (last_delta d before) types whole

  -- what lines of a header are: after the list of types, within it, and before it
  record Took (lines : List (List ℕ)) : Type 0 where
    some : (p : Option (List ℤ)) (d : List ℤ) (types : List (List ℕ)) (n : ℕ) (whole : F) → walk r.rules lines n (inside r (line_now p d (Some types))) ≡ Ok whole → TookEnd lines p d types whole
    more : (p : Option (List ℤ)) (d : List ℤ) (names : List (List ℕ)) (left n : ℕ) (whole : F)
        → walk r.rules lines n (inside r (types_now p d names (suc left))) ≡ Ok whole → TookMore lines p d names (suc left) whole
    none : (p : Option (List ℤ)) (d : List ℤ) (n : ℕ) (whole : F) → walk r.rules lines n (inside r (line_now p d None)) ≡ Ok whole → TookList lines p d whole

  of_due : (lines : List (List ℕ)) → Took lines → (p : Option (List ℤ)) (d : List ℤ) (names : List (List ℕ)) (left n : ℕ) (whole : F)
      → walk r.rules lines n (inside r (types_now p d names left)) ≡ Ok whole → TookMore lines p d names left whole
  of_due lines took p d names zero n whole gives = record { further = []; tail = lines; all = names; lines_are = refl; are = (refl, refl); end = took.some p d names n whole gives }
  of_due lines took p d names (suc left) n whole gives = took.more p d names left n whole gives

  more_line : (bytes : List ℕ) (lines : List (List ℕ)) → Took lines → (p : Option (List ℤ)) (d : List ℤ) (names : List (List ℕ)) (left n : ℕ) (whole : F)
      → walk r.rules (bytes ∷ lines) n (inside r (types_now p d names (suc left))) ≡ Ok whole → TookMore (bytes ∷ lines) p d names (suc left) whole
  more_line bytes lines took p d names left n whole gives =
      let first = took_inside r (types_now p d names (suc left)) bytes lines n whole gives in
      let line = then_took (further_types_of r.layout bytes names (suc left)) (λ list. Inside (types_now p d list.names list.left)) first.next first.admits in
      let list = line.0 in
      let rest = of_due lines took p d list.names list.left (n + 1) whole (same_walk r lines (n + 1) whole (Inside (types_now p d list.names list.left)) first.next line.2 first.others) in
      record {
        further = bytes ∷ rest.further;
        tail = rest.tail;
        all = rest.all;
        lines_are = ap (λ (l : List (List ℕ)). bytes ∷ l) rest.lines_are;
        are = (omega arith, first.short, (list, line.1, rest.are));
        end = rest.end;
      }

  -- the line of a list, which has what it says
  list_line : (bytes : List ℕ) (lines : List (List ℕ)) → Took lines → (p : Option (List ℤ)) (d : List ℤ) (n : ℕ) (whole : F) (next : AfterLine)
      → length bytes ≤ 4096 → header_line_of r.layout system bytes ≡ Ok header.Types → begun_list r.layout (so_far system hundredths p d None) bytes None ≡ Ok next
      → walk r.rules lines (n + 1) (r.after next) ≡ Ok whole → TookList (bytes ∷ lines) p d whole
  list_line bytes lines took p d n whole next short is begins gives =
      let line = then_took (first_types_of r.layout bytes) (λ list. Inside (types_now p d list.names list.left)) next begins in
      let list = line.0 in
      let rest = of_due lines took p d list.names list.left (n + 1) whole (same_walk r lines (n + 1) whole (Inside (types_now p d list.names list.left)) next line.2 gives) in
      record {
        before = [];
        list = bytes;
        further = rest.further;
        tail = rest.tail;
        types = rest.all;
        lines_are = ap (λ (l : List (List ℕ)). bytes ∷ l) rest.lines_are;
        are = tt;
        is_list = record { short = short; begins = is; list = list; first = line.1; others = rest.are };
        end = rest.end;
      }

  abbrev part_of : List ℕ → HeaderLine → HeadPart
  part_of bytes meaning = record { bytes = bytes; meaning = meaning }

  some_line : (bytes : List ℕ) (lines : List (List ℕ)) → Took lines → (p : Option (List ℤ)) (d : List ℤ) (types : List (List ℕ)) (n : ℕ) (whole : F)
      → walk r.rules (bytes ∷ lines) n (inside r (line_now p d (Some types))) ≡ Ok whole → TookEnd (bytes ∷ lines) p d types whole
  some_line bytes lines took p d types n whole gives =
      let line = and_then_took (header_line_of r.layout system bytes) (λ l. after_line r.layout (so_far system hundredths p d (Some types)) bytes l) first.next first.admits in
      by_meaning line.0 line.1 line.2
    where
      first : TookInside r (line_now p d (Some types)) bytes lines n whole
      first = took_inside r (line_now p d (Some types)) bytes lines n whole gives

      others : (l : AfterLine) → answer l ≡ answer first.next → walk r.rules lines (n + 1) (r.after l) ≡ Ok whole
      others l is = let same : l ≡ first.next = cc (is) in same_walk r lines (n + 1) whole l first.next same first.others

      with_part : (meaning : HeaderLine) → header_line_of r.layout system bytes ≡ Ok meaning → IsPlain meaning → TookEnd lines (position_by p meaning) (delta_by d meaning) types whole → TookEnd (bytes ∷ lines) p d types whole
      with_part meaning is plain rest = record {
        after = part_of bytes meaning ∷ rest.after;
        last = rest.last;
        rest = rest.rest;
        lines_are = ap (λ (l : List (List ℕ)). bytes ∷ l) rest.lines_are;
        are = (first.short, is, plain, rest.are);
        last_short = rest.last_short;
        ends = rest.ends;
        number = rest.number;
        gives = rest.gives;
      }

      by_meaning : (meaning : HeaderLine) → header_line_of r.layout system bytes ≡ Ok meaning → after_line r.layout (so_far system hundredths p d (Some types)) bytes meaning ≡ Ok first.next → TookEnd (bytes ∷ lines) p d types whole
      by_meaning header.End is gives =
          let end = Whole (whole_header (so_far system hundredths p d (Some types)) types) in
          record { after = []; last = bytes; rest = lines; lines_are = refl; are = tt; last_short = first.short; ends = is; number = n + 1; gives = others end gives }
      by_meaning (header.Position q) is gives = with_part (header.Position q) is tt (took.some q d types (n + 1) whole (others (Inside (line_now q d (Some types))) gives))
      by_meaning (header.Delta e) is gives = with_part (header.Delta e) is tt (took.some p e types (n + 1) whole (others (Inside (line_now p e (Some types))) gives))
      by_meaning header.Types is gives = absurd cc
      by_meaning header.Skipped is gives = with_part header.Skipped is tt (took.some p d types (n + 1) whole (others (Inside (line_now p d (Some types))) gives))

  none_line : (bytes : List ℕ) (lines : List (List ℕ)) → Took lines → (p : Option (List ℤ)) (d : List ℤ) (n : ℕ) (whole : F)
      → walk r.rules (bytes ∷ lines) n (inside r (line_now p d None)) ≡ Ok whole → TookList (bytes ∷ lines) p d whole
  none_line bytes lines took p d n whole gives =
      let line = and_then_took (header_line_of r.layout system bytes) (λ l. after_line r.layout (so_far system hundredths p d None) bytes l) first.next first.admits in
      by_meaning line.0 line.1 line.2
    where
      first : TookInside r (line_now p d None) bytes lines n whole
      first = took_inside r (line_now p d None) bytes lines n whole gives

      others : (l : AfterLine) → answer l ≡ answer first.next → walk r.rules lines (n + 1) (r.after l) ≡ Ok whole
      others l is = let same : l ≡ first.next = cc (is) in same_walk r lines (n + 1) whole l first.next same first.others

      with_part : (meaning : HeaderLine) → header_line_of r.layout system bytes ≡ Ok meaning → IsPlain meaning → TookList lines (position_by p meaning) (delta_by d meaning) whole → TookList (bytes ∷ lines) p d whole
      with_part meaning is plain rest = record {
        before = part_of bytes meaning ∷ rest.before;
        list = rest.list;
        further = rest.further;
        tail = rest.tail;
        types = rest.types;
        lines_are = ap (λ (l : List (List ℕ)). bytes ∷ l) rest.lines_are;
        are = (first.short, is, plain, rest.are);
        is_list = rest.is_list;
        end = rest.end;
      }

      by_meaning : (meaning : HeaderLine) → header_line_of r.layout system bytes ≡ Ok meaning → after_line r.layout (so_far system hundredths p d None) bytes meaning ≡ Ok first.next → TookList (bytes ∷ lines) p d whole
      by_meaning header.End is gives = absurd cc
      by_meaning (header.Position q) is gives = with_part (header.Position q) is tt (took.none q d (n + 1) whole (others (Inside (line_now q d None)) gives))
      by_meaning (header.Delta e) is gives = with_part (header.Delta e) is tt (took.none p e (n + 1) whole (others (Inside (line_now p e None)) gives))
      by_meaning header.Types is gives = list_line bytes lines took p d n whole first.next first.short is gives first.others
      by_meaning header.Skipped is gives = with_part header.Skipped is tt (took.none p d (n + 1) whole (others (Inside (line_now p d None)) gives))

  took_lines : (lines : List (List ℕ)) → Took lines
  took_lines [] = record {
    some = λ p d types n whole gives. absurd (no_end r n (line_now p d (Some types)) whole gives);
    more = λ p d names left n whole gives. absurd (no_end r n (types_now p d names (suc left)) whole gives);
    none = λ p d n whole gives. absurd (no_end r n (line_now p d None) whole gives);
  }
  took_lines (bytes ∷ lines) = record { some = some_line bytes lines (took_lines lines); more = more_line bytes lines (took_lines lines); none = none_line bytes lines (took_lines lines) }

  pub list_took : (lines : List (List ℕ)) (n : ℕ) (whole : F) → walk r.rules lines n (inside r (line_now None zero_delta None)) ≡ Ok whole → TookList lines None zero_delta whole
  list_took lines n whole gives = (took_lines lines).none None zero_delta n whole gives

-- the lines are a header and others, which give the whole
pub record TookHeader {S F : Type 0} (r : HeaderReader S F) (system : System) (lines : List (List ℕ)) (whole : F) : Type 0 where
  pub header_lines : List (List ℕ)
  pub header : Header
  pub rest : List (List ℕ)
  pub lines_are : lines ≡ header_lines ++ rest
  pub is_header : IsHeader r.layout header_lines header
  pub of_system : header.system ≡ system
  pub number : ℕ
  pub gives : walk r.rules rest number (r.after (Whole header)) ≡ Ok whole

pub header_took : {S F : Type 0} (r : HeaderReader S F) (system : System) (lines : List (List ℕ)) (whole : F) → walk r.rules lines 0 (inside r (First system)) ≡ Ok whole → TookHeader r system lines whole
header_took r system [] whole gives = absurd (no_end r 0 (First system) whole gives)
header_took r system (bytes ∷ lines) whole gives =
    let first = took_inside r (First system) bytes lines 0 whole gives in
    let version = then_took (first_line_of r.layout system bytes) (λ hundredths. Inside (Next (bare_header system hundredths))) first.next first.admits in
    let hundredths = version.0 in
    let list = list_took r system hundredths lines (0 + 1) whole (same_walk r lines (0 + 1) whole (Inside (Next (bare_header system hundredths))) first.next version.2 first.others) in
    let end = list.end in
    let grouped = regroup (head_lines list.before) list.list list.further (head_lines end.after) end.last end.rest in
    let behind = list.lines_are ∙ ap (λ (l : List (List ℕ)). head_lines list.before ++ (list.list ∷ (list.further ++ l))) end.lines_are ∙ sym grouped in
    record {
      header_lines = bytes ∷ (head_lines list.before ++ (list.list ∷ (list.further ++ (head_lines end.after ++ (end.last ∷ [])))));
      header = whole_header (so_far system hundredths (last_position (last_position None list.before) end.after) (last_delta (last_delta zero_delta list.before) end.after) (Some list.types)) list.types;
      rest = end.rest;
      lines_are = ap (λ (l : List (List ℕ)). bytes ∷ l) behind;
      is_header = record {
        first = bytes;
        before = list.before;
        list = list.list;
        further = list.further;
        after = end.after;
        last = end.last;
        lines_are = refl;
        first_short = first.short;
        version = version.1;
        before_are = list.are;
        types = list.is_list;
        after_are = end.are;
        last_short = end.last_short;
        ends = end.ends;
        position = refl;
        delta = refl;
      };
      of_system = refl;
      number = end.number;
      gives = end.gives;
    }
