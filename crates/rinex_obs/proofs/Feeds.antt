-- The lines of a text that is taken in pieces.
use Rattle.std.proofs.Common.{◌≡◌, ◌<◌, ◌≤◌, ◌+◌, ◌-◌, ◌==◌, nat_lt, ℕ, suc, Bool, true, false, List, [], ◌∷◌, ◌++◌, length, take, drop, slice_index, Result, Ok, Err, OnOk, IfErr, refl, sym, ap, subst, ◌∙◌, arith, append_assoc, length-append, length-take}
use Rattle.std.proofs.lemmas.Bool.Decides.{nat_tests}
use Rattle.std.proofs.lemmas.List.{append-nil}
use Rattle.std.specs.Str.Lines.{strip_carriage_return}
use Rattle.line_source.specs.Lines.{lines_from, lines_of}
use Rattle.line_source.proofs.LineEnds.{ends_at}
use Rattle.rinex_head.specs.declared.place.At.{At}
use Rattle.rinex_head.specs.declared.place.What.TheVariants.{LongLine}
use Rattle.rinex_head.specs.Places.{place, at_line}
use Rattle.rinex_head.specs.declared.place.TextFault.{TextFault}
use Rattle.rinex_head.specs.declared.place.TextFault.TheVariants.{Refused, NoMemory}
use Rattle.rinex_head.specs.declared.system.System.{System}
use Rattle.rinex_head.specs.LineRules.{Rules, admitted, walk, Gives, FailsBy}
use Rattle.rinex_head.proofs.LineRuleLaws.{gives_same}
use Rattle.rinex_head.proofs.Stops.{refused_exit, first_exit}
use Rattle.obs_store.specs.declared.file.ObsFile.{ObsFile}
use Rattle.obs_fields.proofs.AmountLaws.{tail_is}
use Rattle.rinex_obs.specs.ObsRules.{Expected, obs_rules, obs_of, finish}
use Rattle.rinex_obs.specs.ObsForm.{HasObsFile}
use Rattle.rinex_obs.proofs.FormPlaces.{file_of_rules, rules_of_file, ends, ok_exit, only_exit}
use Rattle.memchr.specs.Find.{is_byte, Passes, NoneBefore}
use Rattle.rinex_obs.specs.Started.{EndsLine}
use Rattle.rinex_obs.specs.Feeding.{line_gives, gives_with, Takes, TakesAll, IsFed, IsAnswerTo}

-- ---- where a line ends

pub ends_slices : (bytes : List ℕ) (k : ℕ) → NoneBefore (Passes (is_byte 10) bytes) 0 (length bytes) k × Passes (is_byte 10) bytes k
    → EndsLine bytes (take k bytes) (take (length bytes - (k + 1)) (drop (k + 1) bytes))
ends_slices bytes k found =
    let next : suc k ≡ k + 1 = omega arith in
    let behind : drop (suc k) bytes ≡ take (length bytes - (k + 1)) (drop (k + 1) bytes) = ap (λ j. drop j bytes) next ∙ sym (tail_is (k + 1) bytes) in
    subst (λ l. EndsLine bytes (take k bytes) l) behind (ends_at bytes k found.0.high found.0.before found.1)

pub front_slices : (bytes : List ℕ) (k : ℕ) → NoneBefore (Passes (is_byte 10) bytes) 0 (length bytes) k × Passes (is_byte 10) bytes k → take k bytes ≡ take (length (take k bytes)) bytes
front_slices bytes k found = let inside : k < length bytes = found.0.high in let count : length (take k bytes) ≡ k = omega (arith, inside, length-take k bytes) in ap (λ n. take n bytes) (sym count)

-- ---- lines that are too long

strip-length : (l : List ℕ) → length l ≤ length (strip_carriage_return l) + 1
strip-length l = by_test (slice_index l (length l - 1) == 13) refl
  where
    by_test : (t : Bool) → (slice_index l (length l - 1) == 13) ≡ t → length l ≤ length (strip_carriage_return l) + 1
    by_test true is = rw is (simp length-take (omega arith))
    by_test false is = rw is (omega arith)

pub long_stripped : (line : List ℕ) → 4097 < length line → 4096 < length (strip_carriage_return line)
long_stripped line long = omega (arith, strip-length line)

-- the first of the lines is too long
abbrev pub BeginsLong : List (List ℕ) → Type 0
BeginsLong [] = ⊥
BeginsLong (line ∷ lines) = 4096 < length line

-- a line that has begun may be too long already, whatever follows it
pub long_begins : (more line : List ℕ) → 4097 < length line → BeginsLong (lines_from more line)
long_begins [] [] long = absurd (omega arith)
long_begins [] (c ∷ cs) long = omega arith
long_begins (b ∷ more) line long = by_feed (long_begins more (line ++ b ∷ []) (simp length-append (omega arith))) (b == 10) refl
  where
    by_feed : BeginsLong (lines_from more (line ++ b ∷ [])) → (t : Bool) → (b == 10) ≡ t → BeginsLong (lines_from (b ∷ more) line)
    by_feed again true is = rw is (long_stripped line long)
    by_feed again false is = rw is again

-- it is refused, whatever is expected
pub long_refused : {S F : Type 0} (rules : Rules S F) (s : S) (n : ℕ) (lines : List (List ℕ)) → BeginsLong lines → walk rules lines n s ≡ Err (place (n + 1) 1 LongLine)
unfolding walk
long_refused rules s n [] long = absurd long
long_refused rules s n (line ∷ lines) long = let test : nat_lt 4096 (length line) ≡ true = grind (arith, nat_tests) in rw test refl

module _ (system : System) where
  -- a line that has begun may be too long already
  pub gives_long : (n : ℕ) (line : List ℕ) (s : Expected) (more : List ℕ) → 4097 < length line → gives_with system n line s more ≡ Err (place (n + 1) 1 LongLine)
  gives_long n line s more long = long_refused (obs_rules system) s n (lines_from more line) (long_begins more line long)

  -- ---- one more line

  pub gives_step : (n : ℕ) (line bytes front behind : List ℕ) (s next : Expected) → EndsLine bytes front behind
      → admitted (obs_rules system) s (strip_carriage_return (line ++ front)) ≡ Ok next → (more : List ℕ)
      → gives_with system n line s (bytes ++ more) ≡ gives_with system (n + 1) [] next (behind ++ more)
  unfolding walk
  gives_step n line bytes front behind s next ends is more = rw (ends line more, is) refl

  pub gives_refused : (n : ℕ) (line bytes front behind : List ℕ) (s : Expected) (at : At) → EndsLine bytes front behind
      → at_line (n + 1) (admitted (obs_rules system) s (strip_carriage_return (line ++ front))) ≡ Err at → (more : List ℕ)
      → gives_with system n line s (bytes ++ more) ≡ Err at
  unfolding walk
  gives_refused n line bytes front behind s at ends is more = rw (ends line more, is) refl

  -- a line in whose end the piece goes wrong
  pub step_fails : (n : ℕ) (line bytes front behind : List ℕ) (s next : Expected) (fault : TextFault) → EndsLine bytes front behind
      → Takes (admitted (obs_rules system) s (strip_carriage_return (line ++ front))) (n + 1) next (Err fault)
      → TakesAll bytes (λ more. gives_with system n line s more) (λ more. gives_with system n line s more) (Err fault)
  step_fails n line bytes front behind s next (Refused at) ends is = gives_refused n line bytes front behind s at ends is
  step_fails n line bytes front behind s next NoMemory ends is = tt

  -- the bytes before the piece's rest were read, and its rest goes wrong
  pub fails_on : (piece rest : List ℕ) (first old new last : List ℕ → Result ObsFile At) (fault : TextFault)
      → ((more : List ℕ) → first (piece ++ more) ≡ old (rest ++ more)) → TakesAll rest old new (Err fault) → TakesAll piece first last (Err fault)
  fails_on piece rest first old new last (Refused at) same fails = λ more. same more ∙ fails more
  fails_on piece rest first old new last NoMemory same fails = tt

  -- ---- the end of the text

  -- a line that has begun is the last
  pub last_taken : (n : ℕ) (line : List ℕ) (s next : Expected) → 0 < length line → admitted (obs_rules system) s line ≡ Ok next → gives_with system n line s [] ≡ at_line (n + 1 + 1) (finish next)
  unfolding walk
  last_taken n [] s next some is = absurd (omega arith)
  last_taken n (c ∷ cs) s next some is = rw is refl

  pub last_fails : (n : ℕ) (line : List ℕ) (s next : Expected) (fault : TextFault) → 0 < length line
      → Takes (admitted (obs_rules system) s line) (n + 1) next (Err fault) → FailsBy (gives_with system n line s []) fault
  unfolding walk
  last_fails n [] s next fault some is = absurd (omega arith)
  last_fails n (c ∷ cs) s next (Refused at) some is = rw is refl
  last_fails n (c ∷ cs) s next NoMemory some is = tt

  pub none_begun : (n : ℕ) (line : List ℕ) (s : Expected) → length line ≡ 0 → gives_with system n line s [] ≡ at_line (n + 1) (finish s)
  unfolding walk
  none_begun n [] s none = refl
  none_begun n (c ∷ cs) s none = absurd (omega arith)

  -- ---- what a feed stands for

  pub fed_more : (old new : List ℕ → Result ObsFile At) (taken : ℕ) (text piece : List ℕ) → ((more : List ℕ) → old (piece ++ more) ≡ new more)
      → IsFed system old taken text → IsFed system new (taken + length piece) (text ++ piece)
  fed_more old new taken text piece same fed = record {
    counted = omega (arith, fed.counted, length-append text piece);
    gives_so = λ more. ap (λ (l : List ℕ). obs_of system (lines_of l)) (append_assoc text piece more) ∙ fed.gives_so (piece ++ more) ∙ same more;
  }

  pub exact_answers : (text : List ℕ) (result : Result ObsFile TextFault) → Gives (obs_of system (lines_of text)) (λ (file : ObsFile). file) result → IsAnswerTo system text result
  exact_answers text result exact = record {
    ok = ok_exit system (lines_of text) _ exact;
    only = only_exit system (lines_of text) _ exact;
    refused = refused_exit (obs_rules system) (HasObsFile system) (file_of_rules system) (lines_of text) _ _ exact;
    first = first_exit (obs_rules system) (HasObsFile system) (file_of_rules system) (rules_of_file system) (ends system) (lines_of text) _ _ exact;
    exact = exact;
  }

  pub fed_answers : (gives : List ℕ → Result ObsFile At) (taken : ℕ) (text : List ℕ) (result : Result ObsFile TextFault)
      → IsFed system gives taken text → Gives (gives []) (λ (file : ObsFile). file) result → IsAnswerTo system text result
  fed_answers gives taken text result fed ends =
      let whole : obs_of system (lines_of text) ≡ gives [] = ap (λ (l : List ℕ). obs_of system (lines_of l)) (sym (append-nil text)) ∙ fed.gives_so [] in
      exact_answers text result (gives_same _ _ (λ (file : ObsFile). file) result whole ends)

-- the last line, for the satellites of every system
pub last_line : (n : ℕ) (line : List ℕ) (s next : Expected) (r : Result (Unit {0}) TextFault) → 0 < length line
    → Takes (line_gives s line) (n + 1) next r → OnOk r ((system : System) → gives_with system n line s [] ≡ at_line (n + 1 + 1) (finish next))
last_line n line s next (Ok u) some is = λ system. last_taken system n line s next some is
last_line n line s next (Err fault) some is = tt

pub last_line_fails : (n : ℕ) (line : List ℕ) (s next : Expected) (r : Result (Unit {0}) TextFault) → 0 < length line
    → Takes (line_gives s line) (n + 1) next r → IfErr r (λ fault. (system : System) → FailsBy (gives_with system n line s []) fault)
last_line_fails n line s next (Ok u) some is = tt
last_line_fails n line s next (Err fault) some is = λ system. last_fails system n line s next fault some is
