-- Where the numbers of a line were read, the line is their spelling.
use Rattle.std.proofs.Common.{◌≡◌, ◌+◌, ◌^◌, ◌<◌, ◌==◌, ℕ, ℤ, pos, Bool, List, [], ◌∷◌, ◌++◌, length, length-take, take, drop, get_or, codes, All, IsTrue, Ok, true, false, lit<, refl, sym, ap, ◌∙◌, subst, arith}
use Rattle.std.proofs.lemmas.List.{take-append-drop, take_all}
use Rattle.std.specs.Fmt.{signed_decimal}
use Rattle.std.proofs.lemmas.Slice.Eq.{bytes_eq-Decides}
use Rattle.std.specs.Str.{bytes_eq}
use Rattle.std.proofs.lemmas.Int.{ints}
use Rattle.std.proofs.lemmas.Bool.Decides.{nat_tests}
use Rattle.obs_rows.specs.declared.rows.Row.{Row}
use Rattle.decimal_text.specs.Whole.{size_of}
use Rattle.obs_rows.specs.declared.units.TheConstants.{SIGNALS}
use Rattle.obs_rows.specs.declared.limits.TheConstants.{MOST_ARCS}
use Rattle.obs_rows.specs.declared.bands.TheConstants.{L2_LETTERS, L5_LETTERS}
use Rattle.obs_rows.specs.declared.arcs.Arc.{Arc}
use Rattle.obs_rows.specs.Letters.{is_letter}
use Rattle.cert_words.specs.declared.ranges.Range.{Range}
use Rattle.rinex_head.proofs.TakenLines.{and_then_took}
use Rattle.cert_lines.specs.declared.version.Version.TheVariants.{Two}
use Rattle.cert_lines.specs.Places.{select, spread, put_within, AreGood}
use Rattle.cert_lines.specs.Forms.{behind_y, arc_at, row_in}
use Rattle.cert_words.specs.declared.numbers.Number.{Number}
use Rattle.cert_words.specs.Spelling.{behind_blanks}
use Rattle.cert_words.specs.Numbers.{numbers_behind, number_at, all_within, within_range}
use Rattle.cert_words.proofs.NumberLaws.{AreSmall, values, line_read, values-length}
use Rattle.cert_words.proofs.RangeLaws.{all_passed, passed_in, AreIn, in_small}
use Rattle.cert_lines.specs.declared.ranges.TheConstants.{OBSERVATIONS, DIRECTIONS, RADII}
use Rattle.cert_lines.specs.Lines.{letters_text, signals_line, pair_line, row_line}
use Rattle.cert_lines.proofs.Appends.{row_taken}
use Rattle.cert_lines.proofs.Values.{four_values, row_values, all_small, small_append}

-- the number in a place of the list that was read
record IsAt (s : List Number) (k : ℕ) (z : ℤ) : Type 0 where
  pub is : (number_at s k).value ≡ z
  pub small : size_of z < 2 ^ 64

is_at : (s : List Number) (k : ℕ) (x : Number) (z : ℤ) → x ≡ number_at s k → x.value ≡ z → size_of z < 2 ^ 64 → IsAt s k z
is_at s k x z at is small = record { is = ap (λ (y : Number). y.value) (sym at) ∙ is; small = small }

four_spelled : (word line : List ℕ) (ns s : List Number) (a b c d : ℤ) → Ok ns ≡ numbers_behind word 4 line → length ns ≡ 4 → s ≡ ns → IsAt s 0 a → IsAt s 1 b → IsAt s 2 c → IsAt s 3 d
    → line ≡ word ++ behind_blanks (a ∷ b ∷ c ∷ d ∷ [])
four_spelled word line ns s a b c d read many same ia ib ic id =
    let four : length s ≡ 4 = ap length same ∙ many in
    let are : values s ≡ a ∷ b ∷ c ∷ d ∷ [] = four_values s four ∙ (λ i. ia.is i ∷ ib.is i ∷ ic.is i ∷ id.is i ∷ []) in
    let fits : AreSmall (a ∷ b ∷ c ∷ d ∷ []) = (omega (arith, ia.small), (omega (arith, ib.small), (omega (arith, ic.small), (omega (arith, id.small), tt)))) in
    let whole : values ns ≡ a ∷ b ∷ c ∷ d ∷ [] = ap values (sym same) ∙ are in
    line_read word 4 line ns (sym read) (subst AreSmall (sym whole) fits) ∙ ap (λ (zs : List ℤ). word ++ behind_blanks zs) whole

pub pair_spelled : (line : List ℕ) (ns s : List Number) (x y z w : Number) (number tag count : ℕ) (group : ℤ) → Ok ns ≡ numbers_behind (codes "pair") 4 line → length ns ≡ 4 → s ≡ ns
    → x ≡ number_at s 0 → x.value ≡ pos number → number < 2 ^ 64 → y ≡ number_at s 1 → y.value ≡ pos tag → tag < 2 ^ 64
    → z ≡ number_at s 2 → group ≡ z.value → size_of group < 2 ^ 64 → w ≡ number_at s 3 → w.value ≡ pos count → count < 2 ^ 64 → line ≡ pair_line number tag group count
pair_spelled line ns s x y z w number tag count group read many same ax vx sx ay vy sy az vz sz aw vw sw =
    four_spelled (codes "pair") line ns s (pos number) (pos tag) group (pos count) read many same (is_at s 0 x (pos number) ax vx sx) (is_at s 1 y (pos tag) ay vy sy)
    (is_at s 2 z group az (sym vz) sz) (is_at s 3 w (pos count) aw vw sw)

-- numbers in their places, in the range
pub record WerePlaced (n : ℕ) (range : Range) (places : List ℕ) (ns : List Number) (zs : List ℤ) : Type 0 where
  pub are : values ns ≡ select places zs
  pub inside : AreIn range (select places zs)

pub were_placed : (n : ℕ) (range : Range) (places : List ℕ) (ns : List Number) (zs : List ℤ) → AreGood n places → length ns ≡ length places → put_within n range places ns ≡ Ok zs
    → WerePlaced n range places ns zs
were_placed n range places ns zs good many e =
    let both = and_then_took (all_within range ns) (λ (vs : List ℤ). Ok (spread n places vs)) zs e in
    let passed_values : List ℤ = both.0 in
    let are : passed_values ≡ values ns = all_passed range ns passed_values both.1 in
    let put : spread n places passed_values ≡ zs = cc (both.2) in
    let count : length passed_values ≡ length places = ap length are ∙ values-length ns ∙ many in
    let back : select places zs ≡ passed_values = ap (λ (l : List ℤ). select places l) (sym put) ∙ good.back passed_values count in
    record { are = sym are ∙ sym back; inside = subst (AreIn range) (sym back) (passed_in range ns passed_values both.1) }

observations_small : (zs : List ℤ) → AreIn OBSERVATIONS zs → AreSmall zs
observations_small zs inside = in_small 17_179_869_184 OBSERVATIONS zs (lit< tt) (record { low = omega (arith, ints); high = omega (arith, ints) }) inside

pub row_spelled : (ss : List ℕ) (line : List ℕ) (ns s yn un rn : List Number) (x v : Number) (arc : ℕ) (y : List ℤ) (ry : ℤ) (u ru : List ℤ) → AreGood SIGNALS ss
    → Ok ns ≡ numbers_behind (codes "row") (behind_y ss + 7) line → length ns ≡ behind_y ss + 7 → s ≡ ns
    → x ≡ number_at s 0 → x.value ≡ pos arc → arc < MOST_ARCS
    → yn ≡ take (length ss) (drop 1 s) → length yn ≡ length ss → Ok y ≡ put_within SIGNALS OBSERVATIONS ss yn
    → v ≡ number_at s (behind_y ss) → ry ≡ v.value → size_of ry < 2 ^ 64
    → un ≡ take 3 (drop (behind_y ss + 1) s) → Ok u ≡ all_within DIRECTIONS un → All (λ z. size_of z < 2 ^ 64) u
    → rn ≡ take 3 (drop (behind_y ss + 4) s) → Ok ru ≡ all_within RADII rn → All (λ z. size_of z < 2 ^ 64) ru
    → line ≡ codes "row" ++ behind_blanks (pos arc ∷ (select ss y ++ (ry ∷ (u ++ ru))))
row_spelled ss line ns s yn un rn x v arc y ry u ru good read many same ax vx sx ay my py av vv sv au pu su ar pr sr =
    let count : length s ≡ behind_y ss + 7 = ap length same ∙ many in
    let first : (number_at s 0).value ≡ pos arc = ap (λ (n : Number). n.value) (sym ax) ∙ vx in
    let middle : (number_at s (behind_y ss)).value ≡ ry = ap (λ (n : Number). n.value) (sym av) ∙ sym vv in
    let placed = were_placed SIGNALS OBSERVATIONS ss yn y good my (sym py) in
    let signals_are : values (take (length ss) (drop 1 s)) ≡ select ss y = ap values (sym ay) ∙ placed.are in
    let directions_are : values (take 3 (drop (behind_y ss + 1) s)) ≡ u = ap values (sym au) ∙ sym (all_passed DIRECTIONS un u (sym pu)) in
    let radii_are : values (take 3 (drop (behind_y ss + 4) s)) ≡ ru = ap values (sym ar) ∙ sym (all_passed RADII rn ru (sym pr)) in
    let are : values s ≡ pos arc ∷ (select ss y ++ (ry ∷ (u ++ ru))) = row_values s (length ss) count ∙ (λ i. first i ∷ (signals_are i ++ (middle i ∷ (directions_are i ++ radii_are i)))) in
    let fits : AreSmall (pos arc ∷ (select ss y ++ (ry ∷ (u ++ ru)))) =
    (omega arith, small_append (select ss y) (ry ∷ (u ++ ru)) (observations_small (select ss y) placed.inside) (omega (arith, sv), small_append u ru (all_small u su) (all_small ru sr))) in
    let whole : values ns ≡ pos arc ∷ (select ss y ++ (ry ∷ (u ++ ru))) = ap values (sym same) ∙ are in
    line_read (codes "row") (behind_y ss + 7) line ns (sym read) (subst AreSmall (sym whole) fits) ∙ ap (λ (zs : List ℤ). codes "row" ++ behind_blanks zs) whole

-- a word at the head of a line
pub behind_word : (word line : List ℕ) → bytes_eq (take (length word) line) word ≡ true → line ≡ word ++ drop (length word) line
behind_word word line test =
    let front : take (length word) line ≡ word = (bytes_eq-Decides (take (length word) line) word).0 test in
    sym (take-append-drop (length word) line) ∙ (λ i. front i ++ drop (length word) line)

-- a row that was read part by part, its observations put in their places
pub row_put : (ss : List ℕ) (line numbers a b c d end : List ℕ) (number ry : ℤ) (seen y u ru : List ℤ) (r : Row) → AreGood SIGNALS ss → length seen ≡ SIGNALS → length u ≡ 3 → length ru ≡ 3
    → bytes_eq (take 3 line) (codes "row") ≡ true → numbers ≡ drop 3 line → numbers ≡ 32 ∷ (signed_decimal number ++ a) → number ≡ pos r.arc
    → a ≡ behind_blanks (take (length ss) seen) ++ b
    → b ≡ 32 ∷ (signed_decimal ry ++ c) → c ≡ behind_blanks (take 3 u) ++ d → d ≡ behind_blanks (take 3 ru) ++ end → length end ≡ 0
    → y ≡ spread SIGNALS ss (take (length ss) seen) → r.y ≡ y → r.ry ≡ ry → r.u ≡ u → r.ru ≡ ru → line ≡ row_line ss r
row_put ss line numbers a b c d end number ry seen y u ru r good many three three_too test left en is ea eb ec ed none put y_is ry_is u_is ru_is =
    let line_is : line ≡ codes "row" ++ numbers = behind_word (codes "row") line test ∙ ap (λ (l : List ℕ). codes "row" ++ l) (sym left) in
    let own = take (length ss) seen in
    let count : length own ≡ length ss = omega (arith, length-take (length ss) seen, good.few, many) in
    let back : own ≡ select ss r.y = sym (ap (λ (l : List ℤ). select ss l) (y_is ∙ put) ∙ good.back own count) in
    let first : numbers ≡ 32 ∷ (signed_decimal (pos r.arc) ++ a) = en ∙ ap (λ (z : ℤ). 32 ∷ (signed_decimal z ++ a)) is in
    let all_u : c ≡ behind_blanks u ++ d = ec ∙ ap (λ (l : List ℤ). behind_blanks l ++ d) (take_all 3 u (omega (arith, three))) in
    let all_ru : d ≡ behind_blanks ru ++ end = ed ∙ ap (λ (l : List ℤ). behind_blanks l ++ end) (take_all 3 ru (omega (arith, three_too))) in
    row_taken r.arc own ry u ru line numbers a b c d end line_is first ea eb all_u all_ru none
    ∙ (λ i. codes "row" ++ behind_blanks (pos r.arc ∷ (back i ++ (sym ry_is i ∷ (sym u_is i ++ sym ru_is i)))))

-- the arc of a row whose parts were read
pub row_value : (ss : List ℕ) (arcs : List Arc) (number least : ℕ) (line : List ℕ) (ns s yn un rn : List Number) (x v : Number) (arc : ℕ) (y : List ℤ) (ry : ℤ) (u ru : List ℤ)
    → Ok ns ≡ numbers_behind (codes "row") (behind_y ss + 7) line → s ≡ ns
    → x ≡ number_at s 0 → Ok arc ≡ arc_at arcs number least x → yn ≡ take (length ss) (drop 1 s) → Ok y ≡ put_within SIGNALS OBSERVATIONS ss yn → v ≡ number_at s (behind_y ss)
    → Ok ry ≡ within_range RADII v
    → un ≡ take 3 (drop (behind_y ss + 1) s) → Ok u ≡ all_within DIRECTIONS un → rn ≡ take 3 (drop (behind_y ss + 4) s) → Ok ru ≡ all_within RADII rn → row_in ss arcs number least line ≡ Ok arc
row_value ss arcs number least line ns s yn un rn x v arc y ry u ru read same ax pa ay py av pv au pu ar pr =
    let arc_is : arc_at arcs number least (number_at ns 0) ≡ Ok arc = ap (λ (l : List Number). arc_at arcs number least (number_at l 0)) (sym same)
    ∙ ap (λ (n : Number). arc_at arcs number least n) (sym ax) ∙ sym pa in
    let y_is : put_within SIGNALS OBSERVATIONS ss (take (length ss) (drop 1 ns)) ≡ Ok y =
    ap (λ (l : List Number). put_within SIGNALS OBSERVATIONS ss (take (length ss) (drop 1 l))) (sym same) ∙ ap (λ (l : List Number). put_within SIGNALS OBSERVATIONS ss l) (sym ay) ∙ sym py in
    let ry_is : within_range RADII (number_at ns (behind_y ss)) ≡ Ok ry = ap (λ (l : List Number). within_range RADII (number_at l (behind_y ss))) (sym same)
    ∙ ap (λ (n : Number). within_range RADII n) (sym av) ∙ sym pv in
    let u_is : all_within DIRECTIONS (take 3 (drop (behind_y ss + 1) ns)) ≡ Ok u =
    ap (λ (l : List Number). all_within DIRECTIONS (take 3 (drop (behind_y ss + 1) l))) (sym same) ∙ ap (λ (l : List Number). all_within DIRECTIONS l) (sym au) ∙ sym pu in
    let ru_is : all_within RADII (take 3 (drop (behind_y ss + 4) ns)) ≡ Ok ru =
    ap (λ (l : List Number). all_within RADII (take 3 (drop (behind_y ss + 4) l))) (sym same) ∙ ap (λ (l : List Number). all_within RADII l) (sym ar) ∙ sym pr in
    rw (sym read, arc_is, y_is, ry_is, u_is, ru_is) refl

-- ---- letters after a word

pub one_spelled : (word line letters : List ℕ) → bytes_eq (take (length word) line) word ≡ true → letters ≡ drop (length word) line → length letters ≡ 2 → get_or letters 0 0 ≡ 32
    → line ≡ word ++ (32 ∷ get_or letters 1 0 ∷ [])
one_spelled word line letters test left two before = behind_word word line test ∙ ap (λ (l : List ℕ). word ++ l) (sym left ∙ by_two letters two before)
  where
    by_two : (l : List ℕ) → length l ≡ 2 → get_or l 0 0 ≡ 32 → l ≡ 32 ∷ get_or l 1 0 ∷ []
    by_two [] e p = absurd (omega (arith, e))
    by_two (a ∷ []) e p = absurd (omega (arith, e))
    by_two (a ∷ b ∷ []) e p = λ i. p i ∷ b ∷ []
    by_two (a ∷ b ∷ c ∷ l) e p = absurd (omega (arith, e))

pub two_spelled : (word line letters : List ℕ) → bytes_eq (take (length word) line) word ≡ true → letters ≡ drop (length word) line → length letters ≡ 4 → get_or letters 0 0 ≡ 32
    → get_or letters 2 0 ≡ 32
    → line ≡ word ++ letters_text (get_or letters 1 0 ∷ get_or letters 3 0 ∷ [])
two_spelled word line letters test left four before between = behind_word word line test ∙ ap (λ (l : List ℕ). word ++ l) (sym left ∙ by_four letters four before between)
  where
    by_four : (l : List ℕ) → length l ≡ 4 → get_or l 0 0 ≡ 32 → get_or l 2 0 ≡ 32 → l ≡ 32 ∷ get_or l 1 0 ∷ 32 ∷ get_or l 3 0 ∷ []
    by_four [] e p q = absurd (omega (arith, e))
    by_four (a ∷ []) e p q = absurd (omega (arith, e))
    by_four (a ∷ b ∷ []) e p q = absurd (omega (arith, e))
    by_four (a ∷ b ∷ c ∷ []) e p q = absurd (omega (arith, e))
    by_four (a ∷ b ∷ c ∷ d ∷ []) e p q = λ i. p i ∷ b ∷ q i ∷ d ∷ []
    by_four (a ∷ b ∷ c ∷ d ∷ x ∷ l) e p q = absurd (omega (arith, e))

pub three_spelled : (word line letters : List ℕ) → bytes_eq (take (length word) line) word ≡ true → letters ≡ drop (length word) line → length letters ≡ 6 → get_or letters 0 0 ≡ 32
    → get_or letters 2 0 ≡ 32 → get_or letters 4 0 ≡ 32
    → line ≡ word ++ letters_text (get_or letters 1 0 ∷ get_or letters 3 0 ∷ get_or letters 5 0 ∷ [])
three_spelled word line letters test left six before between behind = behind_word word line test ∙ ap (λ (l : List ℕ). word ++ l) (sym left ∙ by_six letters six before between behind)
  where
    by_six : (l : List ℕ) → length l ≡ 6 → get_or l 0 0 ≡ 32 → get_or l 2 0 ≡ 32 → get_or l 4 0 ≡ 32 → l ≡ 32 ∷ get_or l 1 0 ∷ 32 ∷ get_or l 3 0 ∷ 32 ∷ get_or l 5 0 ∷ []
    by_six [] e p q r = absurd (omega (arith, e))
    by_six (a ∷ []) e p q r = absurd (omega (arith, e))
    by_six (a ∷ b ∷ []) e p q r = absurd (omega (arith, e))
    by_six (a ∷ b ∷ c ∷ []) e p q r = absurd (omega (arith, e))
    by_six (a ∷ b ∷ c ∷ d ∷ []) e p q r = absurd (omega (arith, e))
    by_six (a ∷ b ∷ c ∷ d ∷ f ∷ []) e p q r = absurd (omega (arith, e))
    by_six (a ∷ b ∷ c ∷ d ∷ f ∷ g ∷ []) e p q r = λ i. p i ∷ b ∷ q i ∷ d ∷ r i ∷ g ∷ []
    by_six (a ∷ b ∷ c ∷ d ∷ f ∷ g ∷ x ∷ l) e p q r = absurd (omega (arith, e))

-- a letter of a band isn't 0
pub some_l2 : (x : ℕ) → IsTrue (is_letter L2_LETTERS x) → (x == 0) ≡ false
some_l2 x is = by_test (x == 0) refl
  where
    none : IsTrue (is_letter L2_LETTERS 0) → ⊥
    none h = absurd cc

    by_test : (t : Bool) → (x == 0) ≡ t → t ≡ false
    by_test true e = let zero_is : x ≡ 0 = grind (arith, nat_tests) in absurd (none (subst (λ (y : ℕ). IsTrue (is_letter L2_LETTERS y)) zero_is is))
    by_test false e = refl

pub some_l5 : (x : ℕ) → IsTrue (is_letter L5_LETTERS x) → (x == 0) ≡ false
some_l5 x is = by_test (x == 0) refl
  where
    none : IsTrue (is_letter L5_LETTERS 0) → ⊥
    none h = absurd cc

    by_test : (t : Bool) → (x == 0) ≡ t → t ≡ false
    by_test true e = let zero_is : x ≡ 0 = grind (arith, nat_tests) in absurd (none (subst (λ (y : ℕ). IsTrue (is_letter L5_LETTERS y)) zero_is is))
    by_test false e = refl

pub spelled_15 : (l1 l5 : ℕ) → IsTrue (is_letter L5_LETTERS l5) → signals_line Two l1 0 l5 ≡ codes "signals 15" ++ letters_text (l1 ∷ l5 ∷ [])
spelled_15 l1 l5 is = rw (some_l5 l5 is) refl

pub spelled_125 : (l1 l2 l5 : ℕ) → IsTrue (is_letter L2_LETTERS l2) → IsTrue (is_letter L5_LETTERS l5) → signals_line Two l1 l2 l5 ≡ codes "signals 125" ++ letters_text (l1 ∷ l2 ∷ l5 ∷ [])
spelled_125 l1 l2 l5 two five = rw (some_l5 l5 five, some_l2 l2 two) refl

-- a word and three numbers that were read one by one
pub three_put : (word line numbers a b end : List ℕ) (x y z : ℤ) → bytes_eq (take (length word) line) word ≡ true → numbers ≡ drop (length word) line → numbers ≡ 32 ∷ (signed_decimal x ++ a)
    → a ≡ 32 ∷ (signed_decimal y ++ b) → b ≡ 32 ∷ (signed_decimal z ++ end) → length end ≡ 0 → line ≡ word ++ behind_blanks (x ∷ y ∷ z ∷ [])
three_put word line numbers a b end x y z test left en ea eb none =
    behind_word word line test
    ∙ ap (λ (l : List ℕ). word ++ l)
    (sym left ∙ en ∙ ap (λ (l : List ℕ). 32 ∷ (signed_decimal x ++ l)) (ea ∙ ap (λ (l : List ℕ). 32 ∷ (signed_decimal y ++ l)) (eb ∙ ap (λ (l : List ℕ). 32 ∷ (signed_decimal z ++ l)) (empty end none))))
  where
    empty : (l : List ℕ) → length l ≡ 0 → l ≡ []
    empty [] e = refl
    empty (k ∷ l) e = absurd (omega (arith, e))

-- a word and four numbers that were read one by one
pub four_put : (word line numbers a b d end : List ℕ) (x y z w : ℤ) → bytes_eq (take (length word) line) word ≡ true → numbers ≡ drop (length word) line → numbers ≡ 32 ∷ (signed_decimal x ++ a)
    → a ≡ 32 ∷ (signed_decimal y ++ b) → b ≡ 32 ∷ (signed_decimal z ++ d) → d ≡ 32 ∷ (signed_decimal w ++ end) → length end ≡ 0 → line ≡ word ++ behind_blanks (x ∷ y ∷ z ∷ w ∷ [])
four_put word line numbers a b d end x y z w test left en ea eb ed none =
    behind_word word line test
    ∙ ap (λ (l : List ℕ). word ++ l)
    (sym left ∙ en ∙ ap (λ (l : List ℕ). 32 ∷ (signed_decimal x ++ l)) (ea ∙ ap (λ (l : List ℕ). 32 ∷ (signed_decimal y ++ l)) (eb ∙ ap (λ (l : List ℕ). 32 ∷ (signed_decimal z ++ l))
    (ed ∙ ap (λ (l : List ℕ). 32 ∷ (signed_decimal w ++ l)) (nothing end none)))))
  where
    nothing : (l : List ℕ) → length l ≡ 0 → l ≡ []
    nothing [] e = refl
    nothing (k ∷ l) e = absurd (omega (arith, e))
