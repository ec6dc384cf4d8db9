-- The line of an arc: what is read was written so, and what is written is read.
use Rattle.std.proofs.Common.{◌≡◌, ◌+◌, ◌≤◌, ◌<◌, ◌^◌, ℕ, ℤ, pos, Bool, true, false, List, [], ◌∷◌, ◌++◌, length, map, take, drop, codes, Result, Ok, Err, IfOk, Option, None, Some, refl, sym, ap, ◌∙◌, subst, lit<, arith, length-append}
use Rattle.std.proofs.lemmas.Int.{ints}
use Rattle.std.proofs.lemmas.List.{append-nil, take_all, length-drop, length-take-le, length-map}
use Rattle.obs_rows.specs.declared.arcs.Arc.{Arc}
use Rattle.rinex_head.specs.declared.place.Flaw.{Flaw}
use Rattle.rinex_head.proofs.TakenLines.{and_then_took}
use Rattle.cert_words.specs.declared.numbers.Number.{Number}
use Rattle.cert_words.specs.Spelling.{behind_blanks}
use Rattle.cert_words.specs.Numbers.{capped, Part, part, some_then, behind_text, more_numbers, at_end, number_at, natural_within}
use Rattle.cert_words.proofs.NumberLaws.{AreSmall, values, took_more, took_text, took_end, some_took, were_small, values-length}
use Rattle.cert_words.proofs.RangeLaws.{natural_passed, AreIn, in_small, NaturalPassed}
use Rattle.obs_rows.specs.declared.units.TheConstants.{PHASES}
use Rattle.obs_rows.specs.Signals.{used_signals}
use Rattle.obs_rows.specs.CountedSignals.{phase_bands}
use Rattle.obs_rows.specs.declared.limits.TheConstants.{LAST_PAIR}
use Rattle.cert_lines.specs.declared.version.Version.{Version}
use Rattle.cert_lines.specs.declared.version.Version.TheVariants.{One, Two}
use Rattle.cert_lines.specs.Versions.{most_sat}
use Rattle.cert_lines.specs.Places.{select, put_within, AreGood}
use Rattle.cert_lines.proofs.Spreading.{bands_good}
use Rattle.cert_lines.proofs.Spelled.{were_placed}
use Rattle.cert_lines.specs.declared.arcs.ArcWords.{ArcWords}
use Rattle.cert_lines.specs.declared.ranges.TheConstants.{SHIFTS}
use Rattle.cert_lines.specs.Lines.{kind_text, arc_line}
use Rattle.cert_lines.specs.Forms.{kind_by, kind_in, with_shifts, words_of_arc, arc_words, arc_of, arc_numbers}

-- ---- from the line to the arc

-- the parts of an arc's line
record TookWords (n : ℕ) (line : List ℕ) (w : ArcWords) : Type 0 where
  pub front : List ℤ
  pub back : List ℤ
  pub three : length front ≡ 3
  pub count : length back ≡ n
  pub are : values w.numbers ≡ map capped front ++ map capped back
  pub line_is : AreSmall front → AreSmall back → line ≡ codes "arc" ++ (behind_blanks front ++ (kind_text w.datum ++ behind_blanks back))

took_kind : (p : Part) (k : Bool × Part) → kind_in p ≡ Some k → (p.left ≡ kind_text k.0 ++ k.1.left) × (k.1.numbers ≡ p.numbers)
took_kind p k e = by_kind (behind_text (codes " datum") p) refl (behind_text (codes " free") p) refl e
  where
    by_kind : (a : Option Part) → behind_text (codes " datum") p ≡ a → (b : Option Part) → behind_text (codes " free") p ≡ b → kind_by a b ≡ Some k
        → (p.left ≡ kind_text k.0 ++ k.1.left) × (k.1.numbers ≡ p.numbers)
    by_kind (Some q) is b other given =
        let took = took_text (codes " datum") p q is in
        let same : (true, q) ≡ k = cc in
        subst (λ (x : Bool × Part). (p.left ≡ kind_text x.0 ++ x.1.left) × (x.1.numbers ≡ p.numbers)) same took
    by_kind None is (Some q) other given =
        let took = took_text (codes " free") p q other in
        let same : (false, q) ≡ k = cc in
        subst (λ (x : Bool × Part). (p.left ≡ kind_text x.0 ++ x.1.left) × (x.1.numbers ≡ p.numbers)) same took
    by_kind None is None other given = absurd cc

took_words : (n : ℕ) (line : List ℕ) (w : ArcWords) → arc_words n line ≡ Ok w → TookWords n line w
took_words n line w e = by_kind (some_then first (λ p. kind_in p)) refl e
  where
    first : Option Part
    first = some_then (behind_text (codes "arc") (part [] 1 line)) (λ p. more_numbers 3 p)

    by_kind : (o : Option (Bool × Part)) → some_then first (λ p. kind_in p) ≡ o → with_shifts n o ≡ Ok w → TookWords n line w
    by_kind None is given = absurd cc
    by_kind (Some k) is given =
        let ends = and_then_took (at_end (more_numbers n k.1)) (λ (ns : List Number). Ok (words_of_arc k.0 ns)) w given in
        let end = took_end (more_numbers n k.1) ends.0 ends.1 in
        let kinds = some_took first (λ p. kind_in p) k is in
        let front = some_took (behind_text (codes "arc") (part [] 1 line)) (λ p. more_numbers 3 p) kinds.0 kinds.1 in
        let text = took_text (codes "arc") (part [] 1 line) front.0 front.1 in
        let three = took_more 3 front.0 kinds.0 front.2 in
        let kind = took_kind kinds.0 k kinds.2 in
        let two = took_more n k.1 end.0 end.1 in
        let words : words_of_arc k.0 ends.0 ≡ w = cc (ends.2) in
        let none : values front.0.numbers ≡ [] = ap values text.1 in
        let before : values k.1.numbers ≡ map capped three.numbers = ap values kind.1 ∙ three.are ∙ ap (λ (zs : List ℤ). zs ++ map capped three.numbers) none in
        subst (TookWords n line) words (record {
          front = three.numbers;
          back = two.numbers;
          three = three.count;
          count = two.count;
          are = ap values (sym end.3) ∙ two.are ∙ ap (λ (zs : List ℤ). zs ++ map capped two.numbers) before;
          line_is = λ small others.
              let back : k.1.left ≡ behind_blanks two.numbers = two.left others ∙ ap (λ (l : List ℕ). behind_blanks two.numbers ++ l) end.2 ∙ append-nil (behind_blanks two.numbers) in
              text.0 ∙ ap (λ (l : List ℕ). codes "arc" ++ l) (three.left small ∙ ap (λ (l : List ℕ). behind_blanks three.numbers ++ l) (kind.0 ∙ ap (λ (l : List ℕ). kind_text k.0 ++ l) back));
        })

-- three numbers stand before those of its shifts
pub words_count : (n : ℕ) (line : List ℕ) (w : ArcWords) → arc_words n line ≡ Ok w → length w.numbers ≡ 3 + n
words_count n line w e =
    let took = took_words n line w e in
    let whole = values-length w.numbers in
    let sizes = ap length took.are ∙ length-append (map capped took.front) (map capped took.back) in
    let front = length-map took.front capped in
    let back = length-map took.back capped in
    let three = took.three in
    let count = took.count in
    omega (arith, whole, sizes, front, back, three, count)

-- the steps in which an arc is made of its numbers
pub record ArcParts (version : Version) (bands : List ℕ) (datum : Bool) (ns : List Number) (a : Arc) : Type 0 where
  pub kind : a.datum ≡ datum
  pub sat : NaturalPassed 1 (most_sat version) (number_at ns 0) a.sat
  pub first : NaturalPassed 0 LAST_PAIR (number_at ns 1) a.first
  pub last : NaturalPassed a.first LAST_PAIR (number_at ns 2) a.last
  pub shift : put_within PHASES SHIFTS bands (take (length bands) (drop 3 ns)) ≡ Ok a.shift

pub arc_parts : (version : Version) (bands : List ℕ) (datum : Bool) (ns : List Number) (a : Arc) → arc_numbers version bands datum ns ≡ Ok a → ArcParts version bands datum ns a
arc_parts version bands datum ns a e =
    let one = and_then_took (natural_within 1 (most_sat version) (number_at ns 0)) _ a e in
    let two = and_then_took (natural_within 0 LAST_PAIR (number_at ns 1)) _ a one.2 in
    let three = and_then_took (natural_within two.0 LAST_PAIR (number_at ns 2)) _ a two.2 in
    let four = and_then_took (put_within PHASES SHIFTS bands (take (length bands) (drop 3 ns))) _ a three.2 in
    let arc : arc_of datum one.0 two.0 three.0 four.0 ≡ a = cc (four.2) in
    subst (ArcParts version bands datum ns) arc (record {
      kind = refl;
      sat = natural_passed 1 (most_sat version) one.0 (number_at ns 0) one.1;
      first = natural_passed 0 LAST_PAIR two.0 (number_at ns 1) two.1;
      last = natural_passed two.0 LAST_PAIR three.0 (number_at ns 2) three.1;
      shift = four.1;
    })

-- the arc's numbers in their order
record TookNumbers (bands : List ℕ) (datum : Bool) (ns : List Number) (a : Arc) : Type 0 where
  pub kind : a.datum ≡ datum
  pub are : values ns ≡ pos a.sat ∷ pos a.first ∷ pos a.last ∷ select bands a.shift
  pub small : AreSmall (values ns)

three_values : (ns : List Number) (n : ℕ) (x y z : ℤ) (zs : List ℤ) → length ns ≡ 3 + n → (number_at ns 0).value ≡ x → (number_at ns 1).value ≡ y → (number_at ns 2).value ≡ z
    → values (take n (drop 3 ns)) ≡ zs → values ns ≡ x ∷ y ∷ z ∷ zs
three_values [] n x y z zs e p q r s = absurd (omega (arith, e))
three_values (a ∷ []) n x y z zs e p q r s = absurd (omega (arith, e))
three_values (a ∷ b ∷ []) n x y z zs e p q r s = absurd (omega (arith, e))
three_values (a ∷ b ∷ c ∷ ns) n x y z zs e p q r s =
    let all : take n ns ≡ ns = take_all n ns (omega (arith, e)) in
    let rest : values ns ≡ zs = ap values (sym all) ∙ s in
    λ i. p i ∷ q i ∷ r i ∷ rest i

shifts_small : (zs : List ℤ) → AreIn SHIFTS zs → AreSmall zs
shifts_small zs inside = in_small 1_099_511_627_775 SHIFTS zs (lit< tt) (record { low = omega (arith, ints); high = omega (arith, ints) }) inside

sat_small : (version : Version) (n : ℕ) → n ≤ most_sat version → n < 2 ^ 126
sat_small One n h = omega arith
sat_small Two n h = omega arith

took_numbers : (version : Version) (bands : List ℕ) (datum : Bool) (ns : List Number) (a : Arc) → AreGood PHASES bands → length ns ≡ 3 + length bands
    → arc_numbers version bands datum ns ≡ Ok a → TookNumbers bands datum ns a
took_numbers version bands datum ns a good five e =
    let arc_holds = arc_parts version bands datum ns a e in
    let own = take (length bands) (drop 3 ns) in
    let many : length own ≡ length bands = length-take-le (length bands) (drop 3 ns) (omega (arith, length-drop 3 ns, five)) in
    let placed = were_placed PHASES SHIFTS bands own a.shift good many arc_holds.shift in
    let shifts = select bands a.shift in
    let are : values ns ≡ pos a.sat ∷ pos a.first ∷ pos a.last ∷ shifts = three_values ns (length bands) (pos a.sat) (pos a.first) (pos a.last) shifts five arc_holds.sat.value arc_holds.first.value arc_holds.last.value placed.are in
    let small : AreSmall (pos a.sat ∷ pos a.first ∷ pos a.last ∷ shifts) = (sat_small version a.sat arc_holds.sat.to, (omega (arith, arc_holds.first.to), (omega (arith, arc_holds.last.to), shifts_small shifts placed.inside))) in
    record { kind = arc_holds.kind; are = are; small = subst AreSmall (sym are) small }

-- lists that are equal, part by part
same_parts : (xs ys us vs : List ℤ) → length xs ≡ length us → xs ++ ys ≡ us ++ vs → (xs ≡ us) × (ys ≡ vs)
same_parts [] ys [] vs e h = (refl, h)
same_parts [] ys (u ∷ us) vs e h = absurd (omega (arith, e))
same_parts (x ∷ xs) ys [] vs e h = absurd (omega (arith, e))
same_parts (x ∷ xs) ys (u ∷ us) vs e h =
    let first : x ≡ u = cc in
    let rest : xs ++ ys ≡ us ++ vs = cc in
    let others = same_parts xs ys us vs (omega (arith, e)) rest in
    ((λ i. first i ∷ others.0 i), others.1)

small_parts : (xs ys : List ℤ) → AreSmall (xs ++ ys) → AreSmall xs × AreSmall ys
small_parts [] ys h = (tt, h)
small_parts (x ∷ xs) ys h = let others = small_parts xs ys h.1 in ((h.0, others.0), others.1)

pub arc_read : (version : Version) (bands : List ℕ) (line : List ℕ) (w : ArcWords) (a : Arc) → AreGood PHASES bands → arc_words (length bands) line ≡ Ok w
    → length w.numbers ≡ 3 + length bands → arc_numbers version bands w.datum w.numbers ≡ Ok a
    → line ≡ codes "arc" ++ (behind_blanks (pos a.sat ∷ pos a.first ∷ pos a.last ∷ []) ++ (kind_text a.datum ++ behind_blanks (select bands a.shift)))
arc_read version bands line w a good words five numbers =
    let line_of = took_words (length bands) line w words in
    let arc = took_numbers version bands w.datum w.numbers a good five numbers in
    let shifts = select bands a.shift in
    let small = small_parts (map capped line_of.front) (map capped line_of.back) (subst AreSmall line_of.are arc.small) in
    let front = were_small line_of.front small.0 in
    let back = were_small line_of.back small.1 in
    let three : length (pos a.sat ∷ pos a.first ∷ pos a.last ∷ []) ≡ length (map capped line_of.front) = sym (length-map line_of.front capped ∙ line_of.three) in
    let parts = same_parts (pos a.sat ∷ pos a.first ∷ pos a.last ∷ []) shifts (map capped line_of.front) (map capped line_of.back) three (sym arc.are ∙ line_of.are) in
    let fronts : line_of.front ≡ pos a.sat ∷ pos a.first ∷ pos a.last ∷ [] = sym front.same ∙ sym parts.0 in
    let backs : line_of.back ≡ shifts = sym back.same ∙ sym parts.1 in
    let kind : w.datum ≡ a.datum = sym arc.kind in
    line_of.line_is front.small back.small ∙ (λ i. codes "arc" ++ (behind_blanks (fronts i) ++ (kind_text (kind i) ++ behind_blanks (backs i))))

-- the same where the last step's answer is handed on
pub arc_spelled : (version : Version) (l2 l5 : ℕ) (bands : List ℕ) (line : List ℕ) (w : ArcWords) (s : List Number) (r : Result Arc Flaw) → bands ≡ phase_bands (used_signals l2 l5)
    → Ok w ≡ arc_words (length bands) line → length w.numbers ≡ 3 + length bands → s ≡ w.numbers
    → r ≡ arc_numbers version bands w.datum s → IfOk r (λ a. line ≡ arc_line (used_signals l2 l5) a)
arc_spelled version l2 l5 bands line w s (Ok a) are words five same numbers =
    let good : AreGood PHASES bands = subst (AreGood PHASES) (sym are) (bands_good l2 l5) in
    arc_read version bands line w a good (sym words) five (ap (λ (l : List Number). arc_numbers version bands w.datum l) (sym same) ∙ sym numbers)
    ∙ ap (λ (bs : List ℕ). codes "arc" ++ (behind_blanks (pos a.sat ∷ pos a.first ∷ pos a.last ∷ []) ++ (kind_text a.datum ++ behind_blanks (select bs a.shift)))) are
arc_spelled version l2 l5 bands line w s (Err flaw) are words five same numbers = tt
