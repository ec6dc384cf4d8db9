-- What the lines give is what the form says.
use Rattle.std.proofs.Common.{IfOk, ◌≡◌, ◌≤◌, ◌<◌, ◌+◌, ℕ, ℤ, pos, nat_le, Bool, true, false, List, [], ◌∷◌, ◌++◌, length, take, drop, take-append-drop, Result, Ok, Err, None, Some, Option, refl, sym, ap, ◌∙◌, subst, codes, arith, append_assoc, length-append, lit≤, if◌then◌else◌}
use Rattle.std.specs.Str.{bytes_eq}
use Rattle.std.proofs.lemmas.List.{take_at, drop_at, append-nil}
use Rattle.std.proofs.lemmas.Bool.Decides.{nat_tests}
use Rattle.std.proofs.lemmas.Slice.Eq.{bytes_eq-Decides}
use Rattle.decimal_text.specs.Whole.{whole_of, size_of}
use Rattle.decimal_text.proofs.Numbers.{whole_of-spelled, spelled-whole_of}
use Rattle.rinex_head.specs.declared.place.Flaw.{Flaw}
use Rattle.rinex_head.specs.declared.place.What.TheVariants.{BadLine, BadRange}
use Rattle.rinex_head.specs.Places.{and_then, flawed, at_line}
use Rattle.rinex_head.specs.declared.place.TextFault.{TextFault}
use Rattle.rinex_head.specs.LineRules.{walk, Gives}
use Rattle.rinex_head.specs.FirstFailing.{IsFileOf}
use Rattle.rinex_head.proofs.LineRuleLaws.{walk-takes, walk-end, walk-took}
use Rattle.rinex_head.proofs.Stops.{Completes, CanEnd, can_end, with_line, with_end}
use Rattle.file_jobs.specs.ZeroRows.{Rows, rows, AreDiffLines, AreRows, IsNumberLine, IsZeroFile}
use Rattle.file_jobs.specs.ZeroRules.{Expected, Head, Claim, Diff, claimed, with_diff, with_some, admit, finish, within, number_behind, rows_rules, rows_of}
use Rattle.file_jobs.proofs.RowsSteps.{admits_diff, finish_some}

-- a line with the word is the word and what stands after it
word_front : (word line text : List ℕ) → bytes_eq (take (length word) line) word ≡ true → text ≡ drop (length word) line → line ≡ word ++ text
word_front word line text same is =
    let front = (bytes_eq-Decides (take (length word) line) word).0 same in
    sym (take-append-drop (length word) line) ∙ ap (λ (l : List ℕ). l ++ drop (length word) line) front ∙ ap (λ (l : List ℕ). word ++ l) (sym is)

-- the line of a number gives it
pub number_line-behind : (word : List ℕ) (most : ℕ) (line : List ℕ) (z : ℤ) → IsNumberLine word most line z → number_behind word most line ≡ Ok z
number_line-behind word most line z is =
    let front : take (length word) line ≡ word = ap (λ (l : List ℕ). take (length word) l) is.line_is ∙ take_at word is.text (length word) refl in
    let same : bytes_eq (take (length word) line) word ≡ true = (bytes_eq-Decides (take (length word) line) word).1 front in
    let behind : drop (length word) line ≡ is.text = ap (λ (l : List ℕ). drop (length word) l) is.line_is ∙ drop_at word is.text (length word) refl in
    let spelled : whole_of (drop (length word) line) ≡ Some z = ap whole_of behind ∙ whole_of-spelled is.text z is.spelled in
    let test : nat_le (size_of z) most ≡ true = grind (arith, nat_tests, is.in_range) in
    rw (same, spelled, test) refl

within-ok : (most column : ℕ) (o : Option ℤ) (z : ℤ) → within most column o ≡ Ok z → (o ≡ Some z) × (size_of z ≤ most)
within-ok most column None z e = absurd cc
within-ok most column (Some y) z e = by_test (nat_le (size_of y) most) refl e
  where
    by_test : (t : Bool) → nat_le (size_of y) most ≡ t → (if t then Ok y else flawed column BadRange) ≡ Ok z → (Some y ≡ Some z) × (size_of z ≤ most)
    by_test true test is = let same : y ≡ z = cc in (ap Some same, subst (λ (x : ℤ). size_of x ≤ most) same (grind (arith, nat_tests)))
    by_test false test is = absurd cc

pub behind-number_line : (word : List ℕ) (most : ℕ) (line : List ℕ) (z : ℤ) → number_behind word most line ≡ Ok z → IsNumberLine word most line z
behind-number_line word most line z e = by_test (bytes_eq (take (length word) line) word) refl e
  where
    by_test : (t : Bool) → bytes_eq (take (length word) line) word ≡ t
        → (if t then within most (length word + 1) (whole_of (drop (length word) line)) else flawed 1 BadLine) ≡ Ok z → IsNumberLine word most line z
    by_test true same is =
        let found = within-ok most (length word + 1) (whole_of (drop (length word) line)) z is in
        record {
          text = drop (length word) line;
          line_is = word_front word line (drop (length word) line) same refl;
          spelled = spelled-whole_of (drop (length word) line) z found.0;
          in_range = found.1;
        }
    by_test false same is = absurd cc

-- the differences of the form are taken
diffs_taken : (lines : List (List ℕ)) (ds front : List ℤ) (z : ℤ) (n : ℕ) → AreDiffLines lines ds → length front + length ds ≤ 1000
    → 0 < length front + length ds → walk rows_rules lines n (Diff (rows z front)) ≡ Ok (rows z (front ++ ds))
diffs_taken [] [] front z n are few some =
    let more : 0 < length front = omega arith in
    walk-end rows_rules (Diff (rows z front)) n ∙ ap (at_line (n + 1)) (finish_some z front more) ∙ ap (λ (l : List ℤ). Ok (rows z l)) (sym (append-nil front))
diffs_taken [] (d ∷ ds) front z n are few some = absurd are
diffs_taken (line ∷ lines) [] front z n are few some = absurd are
diffs_taken (line ∷ lines) (d ∷ ds) front z n are few some =
    let longer = length-append front (d ∷ []) in
    let room : length front < 1000 = omega arith in
    let admits : admit (Diff (rows z front)) line ≡ Ok (with_diff (rows z front) d) =
    admits_diff (rows z front) line room ∙ ap (λ (r : Result ℤ Flaw). and_then r (λ d. Ok (with_diff (rows z front) d))) (number_line-behind (codes "diff ") 1000000000 line d are.1) in
    walk-takes rows_rules (Diff (rows z front)) (with_diff (rows z front) d) line lines n are.0 admits
    ∙ diffs_taken lines ds (front ++ d ∷ []) z (n + 1) are.2 (omega (arith, longer)) (omega (arith, longer))
    ∙ ap (λ (l : List ℤ). Ok (rows z l)) (append_assoc front (d ∷ []) ds)

-- a line that is admitted in a difference's place
record TookDiff (so_far : Rows) (line : List ℕ) (next : Expected) : Type 0 where
  room : length so_far.diffs < 1000
  diff : ℤ
  behind : number_behind (codes "diff ") 1000000000 line ≡ Ok diff
  next_is : next ≡ with_diff so_far diff

took_diff : (so_far : Rows) (line : List ℕ) (next : Expected) → admit (Diff so_far) line ≡ Ok next → TookDiff so_far line next
took_diff so_far line next e = by_test (nat_le 1000 (length so_far.diffs)) refl e
  where
    by_part : (r : Result ℤ Flaw) → number_behind (codes "diff ") 1000000000 line ≡ r → length so_far.diffs < 1000 → and_then r (λ d. Ok (with_diff so_far d)) ≡ Ok next → TookDiff so_far line next
    by_part (Ok d) is room gives = record { room = room; diff = d; behind = is; next_is = cc }
    by_part (Err flaw) is room gives = absurd cc

    by_test : (t : Bool) → nat_le 1000 (length so_far.diffs) ≡ t
        → (if t then flawed 1 BadLine else and_then (number_behind (codes "diff ") 1000000000 line) (λ d. Ok (with_diff so_far d))) ≡ Ok next
        → TookDiff so_far line next
    by_test true test gives = absurd cc
    by_test false test gives = by_part (number_behind (codes "diff ") 1000000000 line) refl (grind (arith, nat_tests)) gives

-- what is taken are differences of the form
record TookDiffs (lines : List (List ℕ)) (front : List ℤ) (z : ℤ) (whole : Rows) : Type 0 where
  ds : List ℤ
  are : AreDiffLines lines ds
  whole_is : whole ≡ rows z (front ++ ds)
  few : length front + length ds ≤ 1000
  some : 0 < length front + length ds

finished : (front : List ℤ) (z : ℤ) (n : ℕ) (whole : Rows) → at_line n (with_some z front) ≡ Ok whole → (whole ≡ rows z front) × (0 < length front)
finished [] z n whole e = absurd cc
finished (d ∷ ds) z n whole e = (cc, omega arith)

took_diffs : (lines : List (List ℕ)) (front : List ℤ) (z : ℤ) (n : ℕ) (whole : Rows) → length front ≤ 1000 → walk rows_rules lines n (Diff (rows z front)) ≡ Ok whole → TookDiffs lines front z whole
took_diffs [] front z n whole few gives =
    let end = finished front z (n + 1) whole (sym (walk-end rows_rules (Diff (rows z front)) n) ∙ gives) in
    record { ds = []; are = tt; whole_is = end.0 ∙ ap (λ (l : List ℤ). rows z l) (sym (append-nil front)); few = omega arith; some = omega (arith, end.1) }
took_diffs (line ∷ lines) front z n whole few gives =
    let took = walk-took rows_rules (Diff (rows z front)) line lines n whole gives in
    let diff = took_diff (rows z front) line took.next took.admits in
    let difference = diff.diff in
    let longer = length-append front (difference ∷ []) in
    let others = subst (λ (s : Expected). walk rows_rules lines (n + 1) s ≡ Ok whole) diff.next_is took.others in
    let more = took_diffs lines (front ++ difference ∷ []) z (n + 1) whole (omega (arith, longer, diff.room)) others in
    record {
      ds = difference ∷ more.ds;
      are = (took.short, behind-number_line (codes "diff ") 1000000000 line difference diff.behind, more.are);
      whole_is = more.whole_is ∙ ap (λ (l : List ℤ). rows z l) (append_assoc front (difference ∷ []) more.ds);
      few = omega (arith, longer, more.few);
      some = omega arith;
    }

-- rows of the form are what the lines give
pub rows_of-form : (lines : List (List ℕ)) (z : ℤ) (ds : List ℤ) → AreRows lines z ds → rows_of lines ≡ Ok (rows z ds)
rows_of-form lines z ds are =
    let claim : admit Claim are.second ≡ Ok (claimed z) = ap (λ (r : Result ℤ Flaw). and_then r (λ y. Ok (claimed y))) (number_line-behind (codes "z ") 10000000 are.second z are.claim) in
    let few : length {A = ℤ} [] + length ds ≤ 1000 = omega (arith, are.few) in
    let some : 0 < length {A = ℤ} [] + length ds = omega (arith, are.some) in
    ap rows_of are.lines_are
    ∙ walk-takes rows_rules Head Claim (codes "zero 1") (are.second ∷ are.others) 0 (lit≤ tt) refl
    ∙ walk-takes rows_rules Claim (claimed z) are.second are.others 1 are.second_short claim
    ∙ diffs_taken are.others ds [] z 2 are.diffs few some

took_head : (line : List ℕ) (next : Expected) → admit Head line ≡ Ok next → (line ≡ codes "zero 1") × (next ≡ Claim)
took_head line next e = by_test (bytes_eq line (codes "zero 1")) refl e
  where
    by_test : (t : Bool) → bytes_eq line (codes "zero 1") ≡ t → (if t then Ok Claim else flawed 1 BadLine) ≡ Ok next → (line ≡ codes "zero 1") × (next ≡ Claim)
    by_test true same gives = ((bytes_eq-Decides line (codes "zero 1")).0 same, cc)
    by_test false same gives = absurd cc

took_claim : (line : List ℕ) (next : Expected) → admit Claim line ≡ Ok next → (z : ℤ) × (number_behind (codes "z ") 10000000 line ≡ Ok z) × (next ≡ claimed z)
took_claim line next e = by_part (number_behind (codes "z ") 10000000 line) refl e
  where
    by_part : (r : Result ℤ Flaw) → number_behind (codes "z ") 10000000 line ≡ r → and_then r (λ z. Ok (claimed z)) ≡ Ok next
        → (z : ℤ) × (number_behind (codes "z ") 10000000 line ≡ Ok z) × (next ≡ claimed z)
    by_part (Ok z) is gives = (z, is, cc)
    by_part (Err flaw) is gives = absurd cc

no_more : (s : Expected) (n : ℕ) (whole : Rows) → finish s ≡ flawed 1 BadLine → walk rows_rules [] n s ≡ Ok whole → ⊥
no_more s n whole is gives = let end_is_ok = sym (walk-end rows_rules s n) ∙ gives in let same_at_line = ap (at_line (n + 1)) is in absurd (cc (end_is_ok, same_at_line))

-- and what the lines give are rows of the form
pub form-rows_of : (lines : List (List ℕ)) (whole : Rows) → rows_of lines ≡ Ok whole → AreRows lines whole.claim whole.diffs
form-rows_of [] whole gives = absurd (no_more Head 0 whole refl gives)
form-rows_of (first ∷ []) whole gives =
    let took = walk-took rows_rules Head first [] 0 whole gives in
    let head = took_head first took.next took.admits in
    absurd (no_more Claim 1 whole refl (subst (λ (s : Expected). walk rows_rules [] 1 s ≡ Ok whole) head.1 took.others))
form-rows_of (first ∷ second ∷ others) whole gives =
    let took = walk-took rows_rules Head first (second ∷ others) 0 whole gives in
    let head = took_head first took.next took.admits in
    let behind = subst (λ (s : Expected). walk rows_rules (second ∷ others) 1 s ≡ Ok whole) head.1 took.others in
    let took_second = walk-took rows_rules Claim second others 1 whole behind in
    let claim = took_claim second took_second.next took_second.admits in
    let z = claim.0 in
    let diffs = subst (λ (s : Expected). walk rows_rules others 2 s ≡ Ok whole) claim.2 took_second.others in
    let more = took_diffs others [] z 2 whole (omega arith) diffs in
    let form : AreRows (first ∷ second ∷ others) z more.ds = record {
      second = second;
      others = others;
      lines_are = ap (λ (l : List ℕ). l ∷ second ∷ others) head.0;
      second_short = took_second.short;
      claim = behind-number_line (codes "z ") 10000000 second z claim.1;
      diffs = more.are;
      some = omega (arith, more.some);
      few = omega (arith, more.few);
    } in
    subst (λ (w : Rows). AreRows (first ∷ second ∷ others) w.claim w.diffs) (sym more.whole_is) form

-- the form and the rules have the same files
pub file_of_rules : (lines : List (List ℕ)) → IsZeroFile lines → IsFileOf rows_rules lines
file_of_rules lines file = (rows file.0 file.1, rows_of-form lines file.0 file.1 file.2)

pub rules_of_file : (lines : List (List ℕ)) → IsFileOf rows_rules lines → IsZeroFile lines
rules_of_file lines found = (found.0.claim, found.0.diffs, form-rows_of lines found.0 found.1)

-- after whatever was read stands a rest that makes a file of it
completed : (s : Expected) → Completes rows_rules s
unfolding whole_of
completed Head = with_line rows_rules Head Claim (codes "zero 1") refl (lit≤ tt) refl (completed_claim)
  where
    completed_diff : (z : ℤ) → Completes rows_rules (claimed z)
    completed_diff z = with_line rows_rules (claimed z) (with_diff (rows z []) (pos 0)) (codes "diff 0") refl (lit≤ tt) refl (with_end rows_rules (with_diff (rows z []) (pos 0)) (rows z (pos 0 ∷ [])) refl)

    completed_claim : Completes rows_rules Claim
    completed_claim = with_line rows_rules Claim (claimed (pos 0)) (codes "z 0") refl (lit≤ tt) refl (completed_diff (pos 0))
completed Claim = with_line rows_rules Claim (claimed (pos 0)) (codes "z 0") refl (lit≤ tt) refl
    (with_line rows_rules (claimed (pos 0)) (with_diff (rows (pos 0) []) (pos 0)) (codes "diff 0") refl (lit≤ tt) refl
    (with_end rows_rules (with_diff (rows (pos 0) []) (pos 0)) (rows (pos 0) (pos 0 ∷ [])) refl))
completed (Diff so_far) = by_diffs so_far.diffs
  where
    by_diffs : (ds : List ℤ) → Completes rows_rules (Diff (rows so_far.claim ds))
    by_diffs [] = with_line rows_rules (Diff (rows so_far.claim [])) (Diff (rows so_far.claim (pos 0 ∷ []))) (codes "diff 0") refl (lit≤ tt) refl
        (with_end rows_rules (Diff (rows so_far.claim (pos 0 ∷ []))) (rows so_far.claim (pos 0 ∷ [])) refl)
    by_diffs (d ∷ ds) = with_end rows_rules (Diff (rows so_far.claim (d ∷ ds))) (rows so_far.claim (d ∷ ds)) refl

pub ends : CanEnd rows_rules
ends = can_end rows_rules completed

-- an answer is the one file of the lines
pub ok_exit : (lines : List (List ℕ)) (r : Result Rows TextFault) → Gives (rows_of lines) (λ found. found) r → IfOk r (λ found. AreRows lines found.claim found.diffs)
ok_exit lines (Ok found) given = form-rows_of lines found given
ok_exit lines (Err fault) given = tt

pub only_exit : (lines : List (List ℕ)) (r : Result Rows TextFault) → Gives (rows_of lines) (λ found. found) r → IfOk r (λ found. (z : ℤ) (ds : List ℤ) → AreRows lines z ds → rows z ds ≡ found)
only_exit lines (Ok found) given = λ z ds are. let form = rows_of-form lines z ds are in cc (form, given)
only_exit lines (Err fault) given = tt
