-- Rules that read a header. The lines of a header by the form are taken.
use Rattle.std.proofs.Common.{◌≡◌, ◌+◌, ℕ, ℤ, pos, suc, List, [], ◌∷◌, ◌++◌, length, Result, Ok, Option, Some, None, refl, ap, ◌∙◌, arith, append_assoc, add-zero}
use Rattle.rinex_head.specs.declared.place.Flaw.{Flaw}
use Rattle.rinex_head.specs.declared.system.System.{System}
use Rattle.rinex_head.specs.Places.{and_then, flawed}
use Rattle.rinex_head.specs.LineRules.{Rules, walk}
use Rattle.rinex_head.proofs.LineRuleLaws.{walk-takes}
use Rattle.obs_fields.specs.declared.header.Header.{Header}
use Rattle.obs_fields.specs.declared.header_lines.HeaderLine.{HeaderLine}
use Rattle.obs_fields.specs.declared.header_lines.HeaderLine.TheVariants as header
use Rattle.obs_fields.specs.declared.layout.Layout.{Layout}
use Rattle.obs_fields.specs.HeaderLines.{header_line_of}
use Rattle.obs_fields.specs.HeaderRules.{InHeader, First, Next, AfterLine, Inside, Whole, so_far, more_types, whole_header, after_line, admit_header, missing_line}
use Rattle.obs_fields.specs.HeaderForm.{HeadPart, IsPlain, AreHeadParts, head_lines, position_by, delta_by, last_position, last_delta, AreFurther, IsHeader}
use Rattle.obs_fields.proofs.HeaderSteps.{admit_more}

-- Rules with a header in them: `after` is what is expected after a line of the header.
pub record HeaderReader (S F : Type 0) : Type 0 where
  pub rules : Rules S F
  pub layout : Layout
  pub after : AfterLine → S
  pub admits : (s : InHeader) (bytes : List ℕ) → rules.admit (after (Inside s)) bytes ≡ and_then (admit_header layout s bytes) (λ l. Ok (after l))
  pub missing : (s : InHeader) → rules.finish (after (Inside s)) ≡ flawed 1 (missing_line s)

-- the lines of a header after its first one, and those behind it, in groups
pub regroup : (before : List (List ℕ)) (list : List ℕ) (further after : List (List ℕ)) (last : List ℕ) (more : List (List ℕ))
    → (before ++ (list ∷ (further ++ (after ++ (last ∷ []))))) ++ more ≡ before ++ (list ∷ (further ++ (after ++ (last ∷ more))))
regroup before list further after last more = simp append_assoc

abbrev pub zero_delta : List ℤ
zero_delta = pos 0 ∷ pos 0 ∷ pos 0 ∷ []

-- what is expected within the header
abbrev pub inside : {S F : Type 0} → HeaderReader S F → InHeader → S
inside r s = r.after (Inside s)

pub step : {S F : Type 0} (r : HeaderReader S F) (s : InHeader) (l : AfterLine) (bytes : List ℕ) → admit_header r.layout s bytes ≡ Ok l → r.rules.admit (inside r s) bytes ≡ Ok (r.after l)
step {S} r s l bytes is =
    let then_after : Result AfterLine Flaw → Result S Flaw = λ a. and_then a (λ l. Ok (r.after l)) in
    r.admits s bytes ∙ ap then_after is

-- a line is expected after a position, a delta and perhaps a list of types
abbrev pub line_after : System → ℕ → Option (List ℤ) → List ℤ → Option (List (List ℕ)) → InHeader
line_after system hundredths p d t = Next (so_far system hundredths p d t)

-- and this number of types of the list that has begun
abbrev pub types_after : System → ℕ → Option (List ℤ) → List ℤ → List (List ℕ) → ℕ → InHeader
types_after system hundredths p d names left = more_types (so_far system hundredths p d None) names left

-- After the first line of a header, by its system and its version.
module _ {S F : Type 0} (r : HeaderReader S F) (system : System) (hundredths : ℕ) where
  pub admit_line : (p : Option (List ℤ)) (d : List ℤ) (t : Option (List (List ℕ))) (bytes : List ℕ)
      → admit_header r.layout (line_after system hundredths p d t) bytes ≡ and_then (header_line_of r.layout system bytes) (λ l. after_line r.layout (so_far system hundredths p d t) bytes l)
  admit_line p d t bytes = refl

  -- the further lines of a list of types
  further_taken : (lines more : List (List ℕ)) (p : Option (List ℤ)) (d : List ℤ) (names : List (List ℕ)) (left : ℕ) (all : List (List ℕ)) (n : ℕ) → AreFurther r.layout lines names left all
      → walk r.rules (lines ++ more) n (inside r (types_after system hundredths p d names left)) ≡ walk r.rules more (n + length lines) (inside r (line_after system hundredths p d (Some all)))
  further_taken [] more p d names left all n are = rw (are.0, are.1, add-zero) refl
  further_taken (bytes ∷ lines) more p d names left all n are =
      let list = are.2.0 in
      let behind : n + suc (length lines) ≡ n + 1 + length lines = omega arith in
      let now = types_after system hundredths p d names left in
      let next = types_after system hundredths p d list.names list.left in
      let admits : admit_header r.layout now bytes ≡ Ok (Inside next) = admit_more r.layout (so_far system hundredths p d None) names left bytes are.0 ∙ rw (are.2.1) refl in
      walk-takes r.rules (inside r now) (inside r next) bytes (lines ++ more) n are.1 (step r now (Inside next) bytes admits)
      ∙ further_taken lines more p d list.names list.left all (n + 1) are.2.2 ∙ rw behind refl

  plain_step : (p : Option (List ℤ)) (d : List ℤ) (t : Option (List (List ℕ))) (bytes : List ℕ) (l : HeaderLine) → IsPlain l
      → after_line r.layout (so_far system hundredths p d t) bytes l ≡ Ok (Inside (line_after system hundredths (position_by p l) (delta_by d l) t))
  plain_step p d t bytes header.End plain = absurd plain
  plain_step p d t bytes (header.Position q) plain = refl
  plain_step p d t bytes (header.Delta e) plain = refl
  plain_step p d t bytes header.Types plain = absurd plain
  plain_step p d t bytes header.Skipped plain = refl

  -- the other lines
  plain_taken : (parts : List HeadPart) (more : List (List ℕ)) (p : Option (List ℤ)) (d : List ℤ) (t : Option (List (List ℕ))) (n : ℕ) → AreHeadParts r.layout system parts
      → walk r.rules (head_lines parts ++ more) n (inside r (line_after system hundredths p d t)) ≡ walk r.rules more (n + length parts) (inside r (line_after system hundredths (last_position p parts) (last_delta d parts) t))
  plain_taken [] more p d t n are = rw add-zero refl
  plain_taken (part ∷ parts) more p d t n are =
      let behind : n + suc (length parts) ≡ n + 1 + length parts = omega arith in
      let p₂ = position_by p part.meaning in
      let d₂ = delta_by d part.meaning in
      let now = line_after system hundredths p d t in
      let next = line_after system hundredths p₂ d₂ t in
      let admits : admit_header r.layout now part.bytes ≡ Ok (Inside next) = admit_line p d t part.bytes ∙ rw (are.1) (plain_step p d t part.bytes part.meaning are.2) in
      walk-takes r.rules (inside r now) (inside r next) part.bytes (head_lines parts ++ more) n are.0 (step r now (Inside next) part.bytes admits)
      ∙ plain_taken parts more p₂ d₂ t (n + 1) are.3 ∙ rw behind refl

-- all lines of a header, whatever follows them
pub header_given : {S F : Type 0} (r : HeaderReader S F) (lines more : List (List ℕ)) (h : Header) → IsHeader r.layout lines h
    → (number : ℕ) × (walk r.rules (lines ++ more) 0 (inside r (First h.system)) ≡ walk r.rules more number (r.after (Whole h)))
header_given r lines more h is =
    let system = h.system in
    let version = h.hundredths in
    let p₂ = last_position None is.before in
    let d₂ = last_delta zero_delta is.before in
    let p₃ = last_position p₂ is.after in
    let d₃ = last_delta d₂ is.after in
    let n₂ = 0 + 1 + length is.before in
    let n₃ = n₂ + 1 + length is.further in
    let begun = line_after system version None zero_delta None in
    let before_list = line_after system version p₂ d₂ None in
    let within_list = types_after system version p₂ d₂ is.types.list.names is.types.list.left in
    let before_end = line_after system version p₃ d₃ (Some h.types) in
    let end = Whole (whole_header (so_far system version p₃ d₃ (Some h.types)) h.types) in
    let behind_list = head_lines is.after ++ (is.last ∷ more) in
    let behind_first = head_lines is.before ++ (is.list ∷ (is.further ++ behind_list)) in
    let first_admits : admit_header r.layout (First system) is.first ≡ Ok (Inside begun) = rw (is.version) refl in
    let list_admits : admit_header r.layout before_list is.list ≡ Ok (Inside within_list) =
    admit_line r system version p₂ d₂ None is.list ∙ rw (is.types.begins, is.types.first) refl in
    let last_admits : admit_header r.layout before_end is.last ≡ Ok end = admit_line r system version p₃ d₃ (Some h.types) is.last ∙ rw (is.ends) refl in
    let whole : whole_header (so_far system version p₃ d₃ (Some h.types)) h.types ≡ h = rw (← is.position, ← is.delta) refl in (
      n₃ + length is.after + 1,
      ap (λ (l : List (List ℕ)). walk r.rules (l ++ more) 0 (inside r (First system))) is.lines_are
          ∙ ap (λ (l : List (List ℕ)). walk r.rules (is.first ∷ l) 0 (inside r (First system))) (regroup (head_lines is.before) is.list is.further (head_lines is.after) is.last more)
          ∙ walk-takes r.rules (inside r (First system)) (inside r begun) is.first behind_first 0 is.first_short (step r (First system) (Inside begun) is.first first_admits)
          ∙ plain_taken r system version is.before (is.list ∷ (is.further ++ behind_list)) None zero_delta None (0 + 1) is.before_are
          ∙ walk-takes r.rules (inside r before_list) (inside r within_list) is.list (is.further ++ behind_list) n₂ is.types.short (step r before_list (Inside within_list) is.list list_admits)
          ∙ further_taken r system version is.further behind_list p₂ d₂ is.types.list.names is.types.list.left h.types (n₂ + 1) is.types.others
          ∙ plain_taken r system version is.after (is.last ∷ more) p₂ d₂ (Some h.types) n₃ is.after_are
          ∙ walk-takes r.rules (inside r before_end) (r.after end) is.last more (n₃ + length is.after) is.last_short (step r before_end end is.last last_admits)
          ∙ ap (λ (w : Header). walk r.rules more (n₃ + length is.after + 1) (r.after (Whole w))) whole,
    )
