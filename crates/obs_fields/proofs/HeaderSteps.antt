-- What one line of a header gives in its place.
use Rattle.std.proofs.Common.{◌≡◌, ◌<◌, ◌≤◌, ◌+◌, ℕ, zero, suc, List, length, Ok, Option, Some, None, refl, arith, subst}
use Rattle.rinex_head.specs.declared.place.What.TheVariants.{NoEnd}
use Rattle.rinex_head.specs.Places.{and_then}
use Rattle.rinex_head.proofs.TakenLines.{and_then_took, then_holds}
use Rattle.obs_fields.specs.declared.layout.Layout.{Layout}
use Rattle.obs_fields.specs.declared.header_lines.HeaderLine.{HeaderLine}
use Rattle.obs_fields.specs.declared.header_lines.HeaderLine.TheVariants as header
use Rattle.obs_fields.specs.declared.types.TypeList.{TypeList}
use Rattle.obs_fields.specs.declared.types.TheConstants.{MOST_TYPES}
use Rattle.obs_fields.specs.FirstLine.{first_line_of}
use Rattle.obs_fields.specs.HeaderLines.{header_line_of}
use Rattle.obs_fields.specs.Types.{first_types_of, further_types_of}
use Rattle.obs_fields.specs.HeaderRules.{HeaderSoFar, InHeader, First, Next, More, AfterLine, Inside, Whole, bare_header, with_position, with_delta, with_types, whole_header, more_types, begun_list, ended_header, after_line, admit_header, missing_line}
use Rattle.obs_fields.specs.OpenHeaders.{next_in}
use Rattle.obs_fields.proofs.FreshNames.{first_counted, further_counted}

-- types are due
pub types_due : (h : HeaderSoFar) (names : List (List ℕ)) (n : ℕ) → 0 < n → more_types h names n ≡ More h names n
types_due h names zero some = absurd (omega arith)
types_due h names (suc n) some = refl

-- or none
pub types_all : (h : HeaderSoFar) (names : List (List ℕ)) (n : ℕ) → n ≡ 0 → more_types h names n ≡ Next (with_types h names)
types_all h names zero none = refl
types_all h names (suc n) none = absurd (omega arith)

-- after the first line the header must end
pub begun_missing : (h : HeaderSoFar) (list : Option TypeList) → missing_line (next_in h list) ≡ NoEnd
begun_missing h None = refl
begun_missing h (Some list) = refl

-- a further line of the list of types
pub admit_more : (layout : Layout) (h : HeaderSoFar) (names : List (List ℕ)) (left : ℕ) (bytes : List ℕ) → 0 < left
    → admit_header layout (more_types h names left) bytes ≡ and_then (further_types_of layout bytes names left) (λ list. Ok (Inside (more_types h list.names list.left)))
admit_more layout h names zero bytes some = absurd (omega arith)
admit_more layout h names (suc left) bytes some = refl

-- ---- what holds of each state that can be reached: of the types at most 200 are listed and due

abbrev pub HasFew : InHeader → Type 0
HasFew (First system) = Unit {0}
HasFew (Next h) = Unit {0}
HasFew (More h names n) = length names + n ≤ MOST_TYPES

abbrev pub HasFewAfter : AfterLine → Type 0
HasFewAfter (Inside s) = HasFew s
HasFewAfter (Whole h) = Unit {0}

pub few_types : (h : HeaderSoFar) (names : List (List ℕ)) (n : ℕ) → length names + n ≤ MOST_TYPES → HasFew (more_types h names n)
few_types h names zero few = tt
few_types h names (suc n) few = few

few_begun : (layout : Layout) (h : HeaderSoFar) (bytes : List ℕ) (types : Option (List (List ℕ))) (next : AfterLine) → begun_list layout h bytes types ≡ Ok next → HasFewAfter next
few_begun layout h bytes (Some types) next is = absurd cc
few_begun layout h bytes None next is =
    then_holds HasFewAfter (first_types_of layout bytes) (λ list. Inside (more_types h list.names list.left)) next
    (λ list gives. few_types h list.names list.left (first_counted layout bytes list gives)) is

few_ended : (layout : Layout) (h : HeaderSoFar) (types : Option (List (List ℕ))) (next : AfterLine) → ended_header layout h types ≡ Ok next → HasFewAfter next
few_ended layout h None next is = absurd cc
few_ended layout h (Some types) next is = let same : Whole (whole_header h types) ≡ next = cc in subst HasFewAfter same tt

few_after : (layout : Layout) (h : HeaderSoFar) (bytes : List ℕ) (l : HeaderLine) (next : AfterLine) → after_line layout h bytes l ≡ Ok next → HasFewAfter next
few_after layout h bytes header.End next is = few_ended layout h h.types next is
few_after layout h bytes (header.Position p) next is = let same : Inside (Next (with_position h p)) ≡ next = cc in subst HasFewAfter same tt
few_after layout h bytes (header.Delta d) next is = let same : Inside (Next (with_delta h d)) ≡ next = cc in subst HasFewAfter same tt
few_after layout h bytes header.Types next is = few_begun layout h bytes h.types next is
few_after layout h bytes header.Skipped next is = let same : Inside (Next h) ≡ next = cc in subst HasFewAfter same tt

pub few_kept : (layout : Layout) (s : InHeader) (bytes : List ℕ) (next : AfterLine) → HasFew s → admit_header layout s bytes ≡ Ok next → HasFewAfter next
few_kept layout (First system) bytes next few is =
    then_holds HasFewAfter (first_line_of layout system bytes) (λ hundredths. Inside (Next (bare_header system hundredths))) next (λ hundredths gives. tt) is
few_kept layout (Next h) bytes next few is =
    let took = and_then_took (header_line_of layout h.system bytes) (λ l. after_line layout h bytes l) next is in
    few_after layout h bytes took.0 next took.2
few_kept layout (More h names n) bytes next few is =
    then_holds HasFewAfter (further_types_of layout bytes names n) (λ list. Inside (more_types h list.names list.left)) next
    (λ list gives. few_types h list.names list.left (omega (arith, few, further_counted layout bytes names n list gives))) is
