-- For which texts a taker stands, and its answers to them.
use Rattle.std.proofs.Common.{◌≡◌, ◌<◌, ◌+◌, ◌-◌, ℕ, Bool, true, false, List, [], ◌∷◌, ◌++◌, length, take, drop, Result, Ok, Err, refl, sym, ap, ◌∙◌, subst, arith, append_assoc, length-append, if◌then◌else◌}
use Rattle.std.proofs.lemmas.List.{append-nil, take-append-drop}
use Rattle.std.specs.Str.Lines.{strip_carriage_return}
use Rattle.line_source.specs.Lines.{lines_from, lines_of}
use Rattle.obs_store.specs.declared.file.ObsFile.{ObsFile}
use Rattle.rinex_head.specs.declared.place.TextFault.{TextFault}
use Rattle.rinex_head.specs.declared.place.TextFault.TheVariants.{Refused, NoMemory}
use Rattle.rinex_head.specs.declared.system.System.{System}
use Rattle.rinex_head.specs.declared.system.System.TheVariants.{Gps, Galileo}
use Rattle.rinex_head.specs.declared.place.At.{At}
use Rattle.rinex_head.specs.declared.place.What.TheVariants.{LongLine}
use Rattle.rinex_head.specs.Head.{trimmed}
use Rattle.rinex_head.specs.Places.{place}
use Rattle.rinex_head.specs.LineRules.{Gives}
use Rattle.rinex_head.proofs.LineRuleLaws.{gives_same}
use Rattle.rinex_obs.specs.Feeding.{IsAnswerTo}
use Rattle.rinex_obs.specs.ObsRules.{Head, obs_rules, obs_of}
use Rattle.rinex_obs.specs.Started.{EndsLine, GoesOn}
use Rattle.rinex_obs.proofs.Feeds.{BeginsLong, long_begins, long_refused, long_stripped}
use Rattle.obs_fields.specs.HeaderRules.{First}
use Rattle.obs_fields.proofs.AmountLaws.{tail_is}
use Rattle.rinex2_obs.specs.Obs2Rules
use Rattle.job_answers.specs.Formats.{begins_2, is_two, any_of}
use Rattle.job_answers.specs.Taking.{IsReadBy, IsFirstOf, IsAnswer}
use Rattle.job_answers.proofs.FormatLaws.{file_given, file_took, first_failing}

-- ---- answers

pub exact_answers : (system : System) (text : List ℕ) (result : Result ObsFile TextFault) → Gives (any_of system (lines_of text)) (λ (file : ObsFile). file) result → IsAnswer system text result
exact_answers system text (Ok file) exact = record {
  ok = file_took system (lines_of text) file exact;
  only = λ other is. let same : Ok other ≡ Ok file = sym (file_given system (lines_of text) other is) ∙ exact in cc (same);
  refused = tt;
  first = tt;
  exact = exact;
}
exact_answers system text (Err (Refused at)) exact = record {
  ok = tt;
  only = tt;
  refused = λ has. let given = file_given system (lines_of text) has.0 has.1 in absurd (cc (given, exact));
  first = first_failing system (lines_of text) at exact;
  exact = exact;
}
exact_answers system text (Err NoMemory) exact = record { ok = tt; only = tt; refused = tt; first = tt; exact = tt }

-- of a reader that reads the text as all are read
pub reader_answers : (reads : List (List ℕ) → Result ObsFile At) (text : List ℕ) (result : Result ObsFile TextFault) → IsReadBy reads text
    → Gives (reads (lines_of text)) (λ (file : ObsFile). file) result → IsAnswer Gps text result
reader_answers reads text result so exact =
    let whole : any_of Gps (lines_of text) ≡ reads (lines_of text) = subst (λ (t : List ℕ). any_of Gps (lines_of t) ≡ reads (lines_of t)) (append-nil text) (so []) in
    exact_answers Gps text result (gives_same _ _ (λ (file : ObsFile). file) result whole exact)

-- of the reader of Galileo's files
pub galileo_answers : (text : List ℕ) (result : Result ObsFile TextFault) → IsAnswerTo Galileo text result → IsAnswer Galileo text result
galileo_answers text result answer = record { ok = answer.ok; only = answer.only; refused = answer.refused; first = answer.first; exact = answer.exact }

-- ---- nothing was taken

pub goes_none : (line : List ℕ) → line ≡ [] → GoesOn line
goes_none line none = subst GoesOn (sym none) (λ begun more. ap (λ (l : List ℕ). lines_from more l) (sym (append-nil begun)))

-- ---- the first line of a text

pub goes_both : (line piece : List ℕ) → GoesOn line → GoesOn piece → GoesOn (line ++ piece)
goes_both line piece first second begun more =
    ap (λ (l : List ℕ). lines_from l begun) (append_assoc line piece more) ∙ first begun (piece ++ more) ∙ second (begun ++ line) more
    ∙ ap (λ (l : List ℕ). lines_from more l) (append_assoc begun line piece)

-- what follows a line that goes on
after_line : (line piece more : List ℕ) → GoesOn line → lines_of ((line ++ piece) ++ more) ≡ lines_from (piece ++ more) line
after_line line piece more goes = ap lines_of (append_assoc line piece more) ∙ goes [] (piece ++ more)

pub first_ends : (line piece front behind : List ℕ) → GoesOn line → EndsLine piece front behind → IsFirstOf (strip_carriage_return (line ++ front)) (line ++ piece)
first_ends line piece front behind goes ends more = (lines_from (behind ++ more) [], after_line line piece more goes ∙ ends line more)

-- a first line that is too long is refused by either reader
long_same : (lines : List (List ℕ)) → BeginsLong lines → any_of Gps lines ≡ obs_of Gps lines
long_same lines long = by_format (is_two lines)
  where
    three : obs_of Gps lines ≡ Err (place 1 1 LongLine)
    three = long_refused (obs_rules Gps) (Head (First Gps)) 0 lines long

    two : Obs2Rules.obs2_of lines ≡ Err (place 1 1 LongLine)
    two = long_refused Obs2Rules.obs2_rules (Obs2Rules.Head (First Gps)) 0 lines long

    by_format : (t : Bool) → (if t then Obs2Rules.obs2_of lines else obs_of Gps lines) ≡ obs_of Gps lines
    by_format true = two ∙ sym three
    by_format false = refl

pub long_goes : (line piece : List ℕ) → GoesOn line → GoesOn piece → 4097 < length line + length piece → IsReadBy (λ lines. obs_of Gps lines) (line ++ piece)
long_goes line piece first second long = λ more.
    let long_line : 4097 < length (line ++ piece) = omega (arith, long, length-append line piece) in
    let lines : lines_of ((line ++ piece) ++ more) ≡ lines_from more (line ++ piece) = goes_both line piece first second [] more in
    long_same (lines_of ((line ++ piece) ++ more)) (subst BeginsLong (sym lines) (long_begins more (line ++ piece) long_line))

pub long_ends : (line piece front behind : List ℕ) → GoesOn line → EndsLine piece front behind → 4097 < length line + length front → IsReadBy (λ lines. obs_of Gps lines) (line ++ piece)
long_ends line piece front behind goes ends long = λ more.
    let long_line : 4097 < length (line ++ front) = omega (arith, long, length-append line front) in
    let lines : lines_of ((line ++ piece) ++ more) ≡ strip_carriage_return (line ++ front) ∷ lines_from (behind ++ more) [] = after_line line piece more goes ∙ ends line more in
    long_same (lines_of ((line ++ piece) ++ more)) (subst BeginsLong (sym lines) (long_stripped (line ++ front) long_line))

-- ---- the format by the first line

pub read_2 : (first text : List ℕ) → IsFirstOf first text → begins_2 first ≡ true → IsReadBy Obs2Rules.obs2_of text
read_2 first text is two = λ more. let lines = (is more).1 in let test : is_two (lines_of (text ++ more)) ≡ true = ap is_two lines ∙ two in rw test refl

pub read_3 : (first text : List ℕ) → IsFirstOf first text → begins_2 first ≡ false → IsReadBy (λ lines. obs_of Gps lines) text
read_3 first text is three = λ more. let lines = (is more).1 in let test : is_two (lines_of (text ++ more)) ≡ false = ap is_two lines ∙ three in rw test refl

-- of a text of one line
alone : (line : List ℕ) → is_two (lines_from [] line) ≡ begins_2 line
unfolding begins_2 trimmed
alone [] = refl
alone (b ∷ bs) = refl

alone_lines : (line : List ℕ) → GoesOn line → lines_of line ≡ lines_from [] line
alone_lines line goes = ap lines_of (sym (append-nil line)) ∙ goes [] []

pub alone_is : (line : List ℕ) (t : Bool) → GoesOn line → begins_2 line ≡ t → is_two (lines_of line) ≡ t
alone_is line t goes is = ap is_two (alone_lines line goes) ∙ alone line ∙ is

pub alone_2 : (line : List ℕ) (result : Result ObsFile TextFault) → GoesOn line → begins_2 line ≡ true
    → Gives (Obs2Rules.obs2_of (lines_of line)) (λ (file : ObsFile). file) result → IsAnswer Gps line result
alone_2 line result goes is exact =
    let test : is_two (lines_of line) ≡ true = alone_is line true goes is in
    let whole : any_of Gps (lines_of line) ≡ Obs2Rules.obs2_of (lines_of line) = rw test refl in
    exact_answers Gps line result (gives_same _ _ (λ (file : ObsFile). file) result whole exact)

pub alone_3 : (line : List ℕ) (result : Result ObsFile TextFault) → GoesOn line → begins_2 line ≡ false → IsAnswerTo Gps line result → IsAnswer Gps line result
alone_3 line result goes is answer =
    let test : is_two (lines_of line) ≡ false = alone_is line false goes is in
    let whole : any_of Gps (lines_of line) ≡ obs_of Gps (lines_of line) = rw test refl in
    exact_answers Gps line result (gives_same _ _ (λ (file : ObsFile). file) result whole answer.exact)

-- ---- one more piece

pub reads_more : (reads : List (List ℕ) → Result ObsFile At) (text piece : List ℕ) → IsReadBy reads text → IsReadBy reads (text ++ piece)
reads_more reads text piece so = λ more. subst (λ (t : List ℕ). any_of Gps (lines_of t) ≡ reads (lines_of t)) (sym (append_assoc text piece more)) (so (piece ++ more))

-- the bytes before the line's end and the rest of the piece
rest_joined : (line front piece : List ℕ) → front ≡ take (length front) piece → (line ++ front) ++ take (length piece - length front) (drop (length front) piece) ≡ line ++ piece
rest_joined line front piece is =
    append_assoc line front (take (length piece - length front) (drop (length front) piece))
    ∙ ap (λ (l : List ℕ). line ++ (front ++ l)) (tail_is (length front) piece)
    ∙ ap (λ (l : List ℕ). line ++ (l ++ drop (length front) piece)) is
    ∙ ap (λ (l : List ℕ). line ++ l) (take-append-drop (length front) piece)

-- the line that has ended, with the rest of the piece
pub first_joined : (line now front piece behind : List ℕ) → now ≡ line ++ front → GoesOn line → front ≡ take (length front) piece → EndsLine piece front behind
    → IsFirstOf (strip_carriage_return now) (now ++ take (length piece - length front) (drop (length front) piece))
first_joined line now front piece behind is goes whole ends =
    let rest = take (length piece - length front) (drop (length front) piece) in
    subst (λ (l : List ℕ). IsFirstOf (strip_carriage_return l) (l ++ rest)) (sym is)
    (subst (λ (t : List ℕ). IsFirstOf (strip_carriage_return (line ++ front)) t) (sym (rest_joined line front piece whole)) (first_ends line piece front behind goes ends))

pub now_joined : (line now front piece : List ℕ) → now ≡ line ++ front → front ≡ take (length front) piece → now ++ take (length piece - length front) (drop (length front) piece) ≡ line ++ piece
now_joined line now front piece is whole = ap (λ (l : List ℕ). l ++ take (length piece - length front) (drop (length front) piece)) is ∙ rest_joined line front piece whole

-- what is kept of two parts
pub two_parts : (none one two line rest : List ℕ) → none ≡ [] → one ≡ none ++ line → two ≡ one ++ rest → line ++ rest ≡ two
two_parts none one two line rest empty first second = sym (second ∙ ap (λ (l : List ℕ). l ++ rest) (first ∙ ap (λ (l : List ℕ). l ++ line) empty))
