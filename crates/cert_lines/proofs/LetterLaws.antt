-- The lines of the system and of the signals: they have no line feed, and what is spelled is read.
use Rattle.std.proofs.Common.{◌≡◌, ◌≤◌, ℕ, Bool, true, false, ◌==◌, ◌||◌, ◌&&◌, not, List, [], ◌∷◌, ◌++◌, length, codes, IsTrue, refl, ap, subst, arith, Result, Ok, sym, ◌∙◌, lit≤, if◌then◌else◌}
use Rattle.std.proofs.lemmas.Bool.Decides.{nat_tests}
use Rattle.obs_rows.specs.declared.bands.Signals.{Signals}
use Rattle.obs_rows.specs.declared.bands.TheConstants.{L1_LETTERS, L2_LETTERS, L5_LETTERS}
use Rattle.obs_rows.specs.Letters.{is_letter}
use Rattle.obs_rows.specs.Ranges.{IsSystem}
use Rattle.cert_words.proofs.TextLaws.{has_no_feed, feed-append}
use Rattle.cert_lines.specs.Lines.{letters_text, signals_line, system_line}
use Rattle.cert_lines.specs.declared.version.Version.{Version}
use Rattle.cert_lines.specs.declared.version.Version.TheVariants.{One, Two}
use Rattle.rinex_head.specs.Places.{and_then, flawed}
use Rattle.rinex_head.specs.declared.place.Flaw.{Flaw}
use Rattle.rinex_head.specs.declared.place.What.TheVariants.{BadLine}
use Rattle.cert_lines.specs.Forms.{system_in, two_of, three_of, Letters as LettersOf, letters, or_else, on_12 as on_12_in, on_15 as on_15_in, on_125 as on_125_in, signals_in}
use Rattle.cert_lines.proofs.Feeds.{among_feed}

pub not_one : Two ≡ One → ⊥
not_one e = absurd cc

-- ---- which bands have letters

-- a letter where the band has one
or_letter : (letters : List ℕ) (x : ℕ) → IsTrue ((x == 0) || is_letter letters x) → (x == 0) ≡ false → IsTrue (is_letter letters x)
or_letter letters x is other = subst (λ (t : Bool). IsTrue (t || is_letter letters x)) other is

one_letter : (l2 l5 : ℕ) → IsTrue (not ((l2 == 0) && (l5 == 0))) → (l5 == 0) ≡ true → (l2 == 0) ≡ false
one_letter l2 l5 two none = by_test (l2 == 0) refl
  where
    by_test : (t : Bool) → (l2 == 0) ≡ t → t ≡ false
    by_test true e = absurd (cc (subst (λ (t : Bool). IsTrue (not ((l2 == 0) && t))) none two, e))
    by_test false e = refl

-- which bands have letters
pub data Used (l2 l5 : ℕ) : Type 0 where
  on_12 : (l5 == 0) ≡ true → IsTrue (is_letter L2_LETTERS l2) → Used l2 l5
  on_15 : (l5 == 0) ≡ false → (l2 == 0) ≡ true → IsTrue (is_letter L5_LETTERS l5) → Used l2 l5
  on_125 : (l5 == 0) ≡ false → (l2 == 0) ≡ false → IsTrue (is_letter L2_LETTERS l2) → IsTrue (is_letter L5_LETTERS l5) → Used l2 l5

pub used : (s : Signals) → Used s.l2 s.l5
used s = by_tests (s.l5 == 0) refl (s.l2 == 0) refl
  where
    by_tests : (t : Bool) → (s.l5 == 0) ≡ t → (u : Bool) → (s.l2 == 0) ≡ u → Used s.l2 s.l5
    by_tests true is u two = on_12 is (or_letter L2_LETTERS s.l2 s.on_l2 (one_letter s.l2 s.l5 s.two_bands is))
    by_tests false is true two = on_15 is two (or_letter L5_LETTERS s.l5 s.on_l5 is)
    by_tests false is false two = on_125 is two (or_letter L2_LETTERS s.l2 s.on_l2 two) (or_letter L5_LETTERS s.l5 s.on_l5 is)

-- ---- no line feed

first_feed : (x : ℕ) → IsTrue (is_letter L1_LETTERS x) → not (x == 10) ≡ true
first_feed x is = among_feed (λ y. IsTrue (is_letter L1_LETTERS y)) x none is
  where
    none : IsTrue (is_letter L1_LETTERS 10) → ⊥
    none h = absurd cc

second_feed : (x : ℕ) → IsTrue (is_letter L2_LETTERS x) → not (x == 10) ≡ true
second_feed x is = among_feed (λ y. IsTrue (is_letter L2_LETTERS y)) x none is
  where
    none : IsTrue (is_letter L2_LETTERS 10) → ⊥
    none h = absurd cc

third_feed : (x : ℕ) → IsTrue (is_letter L5_LETTERS x) → not (x == 10) ≡ true
third_feed x is = among_feed (λ y. IsTrue (is_letter L5_LETTERS y)) x none is
  where
    none : IsTrue (is_letter L5_LETTERS 10) → ⊥
    none h = absurd cc

two_feed : (word : List ℕ) (a b : ℕ) → has_no_feed word ≡ true → not (a == 10) ≡ true → not (b == 10) ≡ true → has_no_feed (word ++ letters_text (a ∷ b ∷ [])) ≡ true
two_feed word a b w x y = feed-append word (letters_text (a ∷ b ∷ [])) w (rw (x, y) refl)

three_feed : (word : List ℕ) (a b c : ℕ) → has_no_feed word ≡ true → not (a == 10) ≡ true → not (b == 10) ≡ true → not (c == 10) ≡ true → has_no_feed (word ++ letters_text (a ∷ b ∷ c ∷ [])) ≡ true
three_feed word a b c w x y z = feed-append word (letters_text (a ∷ b ∷ c ∷ [])) w (rw (x, y, z) refl)

-- the version's line is that of the bands that are used
pub signals_feed : (version : Version) (s : Signals) → (version ≡ One → s.l5 ≡ 0) → has_no_feed (signals_line version s.l1 s.l2 s.l5) ≡ true
signals_feed One s old = by_used (used s)
  where
    by_used : Used s.l2 s.l5 → has_no_feed (signals_line One s.l1 s.l2 s.l5) ≡ true
    by_used (on_12 five two) = two_feed (codes "signals") s.l1 s.l2 refl (first_feed s.l1 s.on_l1) (second_feed s.l2 two)
    by_used (on_15 five none other) = absurd (cc (five, ap (λ (x : ℕ). x == 0) (old refl)))
    by_used (on_125 five two a b) = absurd (cc (five, ap (λ (x : ℕ). x == 0) (old refl)))
signals_feed Two s old = by_used (used s)
  where
    by_used : Used s.l2 s.l5 → has_no_feed (signals_line Two s.l1 s.l2 s.l5) ≡ true
    by_used (on_12 five two) = rw five (two_feed (codes "signals 12") s.l1 s.l2 refl (first_feed s.l1 s.on_l1) (second_feed s.l2 two))
    by_used (on_15 five none other) = rw (five, none) (two_feed (codes "signals 15") s.l1 s.l5 refl (first_feed s.l1 s.on_l1) (third_feed s.l5 other))
    by_used (on_125 five two a b) = rw (five, two) (three_feed (codes "signals 125") s.l1 s.l2 s.l5 refl (first_feed s.l1 s.on_l1) (second_feed s.l2 a) (third_feed s.l5 b))

pub system_line_feed : (system : ℕ) → IsSystem system → has_no_feed (system_line system) ≡ true
system_line_feed system is = feed-append (codes "system") (32 ∷ system ∷ []) refl (rw (among_feed IsSystem system none is) refl)
  where
    none : IsSystem 10 → ⊥
    none h = absurd cc

-- ---- what is spelled is read

two_read : (others : List ℕ) (a b : ℕ) → IsTrue (is_letter L1_LETTERS a) → IsTrue (is_letter others b) → two_of others (letters_text (a ∷ b ∷ [])) ≡ Ok (a, b)
two_read others a b x y = by_tests (is_letter L1_LETTERS a) (is_letter others b) x y
  where
    by_tests : (s t : Bool) → s ≡ true → t ≡ true → if◌then◌else◌ {A = Result (ℕ × ℕ) Flaw} (((32 == 32) && (32 == 32)) && (s && t)) (Ok (a, b)) (flawed 1 BadLine) ≡ Ok (a, b)
    by_tests s t p q = rw (p, q) refl

three_read : (a b c : ℕ) → IsTrue (is_letter L1_LETTERS a) → IsTrue (is_letter L2_LETTERS b) → IsTrue (is_letter L5_LETTERS c) → three_of (letters_text (a ∷ b ∷ c ∷ [])) ≡ Ok (a, b, c)
three_read a b c x y z = by_tests (is_letter L1_LETTERS a) (is_letter L2_LETTERS b) (is_letter L5_LETTERS c) x y z
  where
    by_tests : (s t u : Bool) → s ≡ true → t ≡ true → u ≡ true
        → if◌then◌else◌ {A = Result (ℕ × ℕ × ℕ) Flaw} (((32 == 32) && ((32 == 32) && (32 == 32))) && (s && (t && u))) (Ok (a, b, c)) (flawed 1 BadLine) ≡ Ok (a, b, c)
    by_tests s t u p q r = rw (p, q, r) refl

abbrev pub letters_of_signals : Signals → LettersOf
letters_of_signals s = letters s.l1 s.l2 s.l5

pub letters_spell : (version : Version) (s : Signals) → (version ≡ One → s.l5 ≡ 0) → signals_in version (signals_line version s.l1 s.l2 s.l5) ≡ Ok (letters_of_signals s)
letters_spell One s old = by_used (used s)
  where
    by_used : Used s.l2 s.l5 → signals_in One (signals_line One s.l1 s.l2 s.l5) ≡ Ok (letters_of_signals s)
    by_used (on_12 five two) =
        ap (λ (r : Result (ℕ × ℕ) Flaw). and_then r (λ p. Ok (letters p.0 p.1 0))) (two_read L2_LETTERS s.l1 s.l2 s.on_l1 two) ∙ ap (λ (x : ℕ). Ok (letters s.l1 s.l2 x)) (sym (old refl))
    by_used (on_15 five none other) = absurd (cc (five, ap (λ (x : ℕ). x == 0) (old refl)))
    by_used (on_125 five two a b) = absurd (cc (five, ap (λ (x : ℕ). x == 0) (old refl)))
letters_spell Two s old = by_used (used s)
  where
    zero_is : (x : ℕ) → (x == 0) ≡ true → 0 ≡ x
    zero_is x e = grind (arith, nat_tests)

    by_used : Used s.l2 s.l5 → signals_in Two (signals_line Two s.l1 s.l2 s.l5) ≡ Ok (letters_of_signals s)
    by_used (on_12 five two) =
        let line : signals_line Two s.l1 s.l2 s.l5 ≡ codes "signals 12" ++ letters_text (s.l1 ∷ s.l2 ∷ []) = rw five refl in
        let read : on_12_in (codes "signals 12") (codes "signals 12" ++ letters_text (s.l1 ∷ s.l2 ∷ [])) ≡ Ok (letters s.l1 s.l2 0) =
        ap (λ (r : Result (ℕ × ℕ) Flaw). and_then r (λ p. Ok (letters p.0 p.1 0))) (two_read L2_LETTERS s.l1 s.l2 s.on_l1 two) in
        ap (signals_in Two) line ∙ ap (λ (r : Result LettersOf Flaw). or_else r
        (or_else (on_15_in (codes "signals 12" ++ letters_text (s.l1 ∷ s.l2 ∷ []))) (on_125_in (codes "signals 12" ++ letters_text (s.l1 ∷ s.l2 ∷ []))))) read
        ∙ ap (λ (x : ℕ). Ok (letters s.l1 s.l2 x)) (zero_is s.l5 five)
    by_used (on_15 five none other) =
        let line : signals_line Two s.l1 s.l2 s.l5 ≡ codes "signals 15" ++ letters_text (s.l1 ∷ s.l5 ∷ []) = rw (five, none) refl in
        let read : on_15_in (codes "signals 15" ++ letters_text (s.l1 ∷ s.l5 ∷ [])) ≡ Ok (letters s.l1 0 s.l5) =
        ap (λ (r : Result (ℕ × ℕ) Flaw). and_then r (λ p. Ok (letters p.0 0 p.1))) (two_read L5_LETTERS s.l1 s.l5 s.on_l1 other) in
        ap (signals_in Two) line ∙ ap (λ (r : Result LettersOf Flaw). or_else r (on_125_in (codes "signals 15" ++ letters_text (s.l1 ∷ s.l5 ∷ [])))) read
        ∙ ap (λ (x : ℕ). Ok (letters s.l1 x s.l5)) (zero_is s.l2 none)
    by_used (on_125 five two a b) =
        let line : signals_line Two s.l1 s.l2 s.l5 ≡ codes "signals 125" ++ letters_text (s.l1 ∷ s.l2 ∷ s.l5 ∷ []) = rw (five, two) refl in
        let read : on_125_in (codes "signals 125" ++ letters_text (s.l1 ∷ s.l2 ∷ s.l5 ∷ [])) ≡ Ok (letters s.l1 s.l2 s.l5) =
        ap (λ (r : Result (ℕ × ℕ × ℕ) Flaw). and_then r (λ p. Ok (letters p.0 p.1 p.2))) (three_read s.l1 s.l2 s.l5 s.on_l1 a b) in
        ap (signals_in Two) line ∙ read

pub letters_length : (version : Version) (s : Signals) → length (signals_line version s.l1 s.l2 s.l5) ≤ 4096
letters_length One s = lit≤ tt
letters_length Two s = by_tests (s.l5 == 0) (s.l2 == 0)
  where
    by_tests : (t u : Bool) → length (if t then codes "signals 12" ++ letters_text (s.l1 ∷ s.l2 ∷ []) else
        if u then codes "signals 15" ++ letters_text (s.l1 ∷ s.l5 ∷ []) else codes "signals 125" ++ letters_text (s.l1 ∷ s.l2 ∷ s.l5 ∷ [])) ≤ 4096
    by_tests true u = lit≤ tt
    by_tests false true = lit≤ tt
    by_tests false false = lit≤ tt

-- the line of the system, where the version has one
pub system_spells : (system : ℕ) → IsSystem system → system_in (system_line system) ≡ Ok system
system_spells system is = by_test ((system == 71) || (system == 69)) is
  where
    by_test : (t : Bool) → IsTrue t → if◌then◌else◌ {A = Result ℕ Flaw} ((32 == 32) && t) (Ok system) (flawed 1 BadLine) ≡ Ok system
    by_test true h = refl
    by_test false h = absurd cc
