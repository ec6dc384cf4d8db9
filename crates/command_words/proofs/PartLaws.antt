-- Words are parted in one way.
use Rattle.std.proofs.Common.{◌≡◌, ℕ, IsTrue, List, [], ◌∷◌, ◌++◌, append_assoc, append-nil, refl, sym, ap, ◌∙◌, subst, drop, get_or, Some}
use Rattle.command_words.specs.declared.settings.Setting.{Setting}
use Rattle.command_words.specs.declared.settings.Given.{Given}
use Rattle.command_words.specs.Settings.{name_of, setting_of, IsValue}
use Rattle.command_words.specs.Parts.{Piece, Plain, Apart, Joined, is_ordinary, IsPiece, words_of_piece, plain_of_piece, given_of_piece, ArePieces, words_of, plain_of, given_of, IsBehind, AreParted}
use Rattle.command_words.proofs.SettingLaws.{begins_with_name, is_name, one_name, no_longer_name, same_behind, one_value}

head_is : (a b : List ℕ) (xs ys : List (List ℕ)) → a ∷ xs ≡ b ∷ ys → a ≡ b
head_is a b xs ys h = ap (λ (ws : List (List ℕ)). get_or ws 0 a) h

tail_is : (a b : List ℕ) (xs ys : List (List ℕ)) → a ∷ xs ≡ b ∷ ys → xs ≡ ys
tail_is a b xs ys h = ap (λ (ws : List (List ℕ)). drop 1 ws) h

-- a word with two dashes and more is not ordinary
no_dashes : (word text : List ℕ) → IsTrue (is_ordinary word) → word ≡ 45 ∷ 45 ∷ text → ⊥
no_dashes word text is h = no (subst (λ (w : List ℕ). IsTrue (is_ordinary w)) h is)
  where
    no : IsTrue (is_ordinary (45 ∷ 45 ∷ text)) → ⊥
    no t = absurd (cc t)

text_is : (s t : List ℕ) → 45 ∷ 45 ∷ s ≡ 45 ∷ 45 ∷ t → s ≡ t
text_is s t h = ap (λ (w : List ℕ). drop 2 w) h

-- what two pieces at the front of the same words have in common: all
pub record ArePeeled (p q : Piece) (xs ys : List (List ℕ)) : Type 0 where
  pub same : p ≡ q
  pub rest : xs ≡ ys

peeled_apart : (s r : Setting) (d e : List ℕ) (m n : ℕ) (xs ys : List (List ℕ)) → name_of s ≡ name_of r → d ≡ e → IsValue s d m → IsValue r e n → xs ≡ ys → ArePeeled (Apart s d m) (Apart r e n) xs ys
peeled_apart s r d e m n xs ys name digits first second rest =
    let setting : s ≡ r = one_name (name_of s) s r (is_name s) (subst (λ (t : List ℕ). setting_of t ≡ Some r) (sym name) (is_name r)) in
    let number : m ≡ n = one_value s d m n first (subst (λ (t : Setting). IsValue t d n) (sym setting) (subst (λ (w : List ℕ). IsValue r w n) (sym digits) second)) in
    record { same = cc (setting, digits, number); rest = rest }

peeled_joined : (s r : Setting) (d e : List ℕ) (m n : ℕ) (xs ys : List (List ℕ)) → name_of s ++ 61 ∷ d ≡ name_of r ++ 61 ∷ e → IsValue s d m
    → IsValue r e n → xs ≡ ys → ArePeeled (Joined s d m) (Joined r e n) xs ys
peeled_joined s r d e m n xs ys text first second rest =
    let setting : s ≡ r = one_name (name_of s ++ 61 ∷ d) s r (begins_with_name s (61 ∷ d)) (subst (λ (t : List ℕ). setting_of t ≡ Some r) (sym text) (begins_with_name r (61 ∷ e))) in
    let behind : 61 ∷ d ≡ 61 ∷ e = same_behind (name_of s) (61 ∷ d) (61 ∷ e) (text ∙ ap (λ (t : Setting). name_of t ++ 61 ∷ e) (sym setting)) in
    let digits : d ≡ e = ap (λ (w : List ℕ). drop 1 w) behind in
    let number : m ≡ n = one_value s d m n first (subst (λ (t : Setting). IsValue t d n) (sym setting) (subst (λ (w : List ℕ). IsValue r w n) (sym digits) second)) in
    record { same = cc (setting, digits, number); rest = rest }

no_apart_joined : (s r : Setting) (d : List ℕ) → name_of s ≡ name_of r ++ 61 ∷ d → ⊥
no_apart_joined s r d h =
    let setting : s ≡ r = one_name (name_of s) s r (is_name s) (subst (λ (t : List ℕ). setting_of t ≡ Some r) (sym h) (begins_with_name r (61 ∷ d))) in
    no_longer_name s d (h ∙ ap (λ (t : Setting). name_of t ++ 61 ∷ d) (sym setting))

pub peel : (p q : Piece) (xs ys : List (List ℕ)) → IsPiece p → IsPiece q → words_of_piece p ++ xs ≡ words_of_piece q ++ ys → ArePeeled p q xs ys
peel (Plain w) (Plain v) xs ys is also h = record { same = ap (λ (t : List ℕ). Plain t) (head_is w v xs ys h); rest = tail_is w v xs ys h }
peel (Plain w) (Apart s d n) xs ys is also h = absurd (no_dashes w (name_of s) is (head_is w _ xs (d ∷ ys) h))
peel (Plain w) (Joined s d n) xs ys is also h = absurd (no_dashes w (name_of s ++ 61 ∷ d) is (head_is w _ xs ys h))
peel (Apart s d n) (Plain v) xs ys is also h = absurd (no_dashes v (name_of s) also (sym (head_is _ v (d ∷ xs) ys h)))
peel (Joined s d n) (Plain v) xs ys is also h = absurd (no_dashes v (name_of s ++ 61 ∷ d) also (sym (head_is _ v xs ys h)))
peel (Apart s d m) (Apart r e n) xs ys is also h =
    let behind : d ∷ xs ≡ e ∷ ys = tail_is _ _ (d ∷ xs) (e ∷ ys) h in
    peeled_apart s r d e m n xs ys (text_is _ _ (head_is _ _ (d ∷ xs) (e ∷ ys) h)) (head_is d e xs ys behind) is also (tail_is d e xs ys behind)
peel (Joined s d m) (Joined r e n) xs ys is also h = peeled_joined s r d e m n xs ys (text_is _ _ (head_is _ _ xs ys h)) is also (tail_is _ _ xs ys h)
peel (Apart s d m) (Joined r e n) xs ys is also h = absurd (no_apart_joined s r e (text_is _ _ (head_is _ _ (d ∷ xs) ys h)))
peel (Joined s d m) (Apart r e n) xs ys is also h = absurd (no_apart_joined r s d (sym (text_is _ _ (head_is _ _ xs (e ∷ ys) h))))

-- no piece begins with `--` alone
pub no_separator : (p : Piece) (xs further : List (List ℕ)) → IsPiece p → words_of_piece p ++ xs ≡ (45 ∷ 45 ∷ []) ∷ further → ⊥
no_separator (Plain w) xs further is h = no_dashes w [] is (head_is w _ xs further h)
no_separator (Apart s d n) xs further is h = no_name s [] (text_is _ _ (head_is _ _ (d ∷ xs) further h)) refl
  where
    no_name : (s : Setting) (t : List ℕ) → name_of s ≡ t → t ≡ [] → ⊥
    no_name s t h e = absurd (cc (sym (is_name s) ∙ ap setting_of (h ∙ e)))
no_separator (Joined s d n) xs further is h = absurd (cc (sym (begins_with_name s (61 ∷ d)) ∙ ap setting_of (text_is _ _ (head_is _ _ xs further h))))

no_words : (p : Piece) (xs : List (List ℕ)) → words_of_piece p ++ xs ≡ [] → ⊥
no_words (Plain w) xs h = absurd (cc h)
no_words (Apart s d n) xs h = absurd (cc h)
no_words (Joined s d n) xs h = absurd (cc h)

-- no piece begins what stands after the pieces
no_behind : (p : Piece) (xs behind further : List (List ℕ)) → IsPiece p → IsBehind behind further → words_of_piece p ++ xs ≡ behind → ⊥
no_behind p xs [] further is behind h = no_words p xs h
no_behind p xs (w ∷ ws) further is behind h = no_separator p xs ws is (h ∙ ap (λ (t : List ℕ). t ∷ ws) behind.0)

-- what is left of parted words after their first piece
pub record IsLeft (p : Piece) (rest plain : List (List ℕ)) (given : List Given) : Type 0 where
  pub plain_rest : List (List ℕ)
  pub given_rest : List Given
  pub parted : AreParted rest plain_rest given_rest
  pub plain_are : plain ≡ plain_of_piece p ++ plain_rest
  pub given_are : given ≡ given_of_piece p ++ given_rest

left_of : (p : Piece) (rest words plain : List (List ℕ)) (given : List Given) (pieces : List Piece) (behind further : List (List ℕ)) → IsPiece p
    → words ≡ words_of_piece p ++ rest → words ≡ words_of pieces ++ behind → ArePieces pieces → IsBehind behind further
    → plain ≡ plain_of pieces ++ further → given ≡ given_of pieces → IsLeft p rest plain given
left_of p rest words plain given [] behind further is first second are is_behind plain_are given_are = absurd (no_behind p rest behind further is is_behind (sym first ∙ second))
left_of p rest words plain given (q ∷ pieces) behind further is first second are is_behind plain_are given_are =
    let peeled = peel p q rest (words_of pieces ++ behind) is are.0 (sym first ∙ second ∙ append_assoc (words_of_piece q) (words_of pieces) behind) in
    record {
      plain_rest = plain_of pieces ++ further;
      given_rest = given_of pieces;
      parted = record { pieces = pieces; behind = behind; further = further; words_are = peeled.rest; are_pieces = are.1; is_behind = is_behind; plain_are = refl; given_are = refl };
      plain_are = plain_are ∙ append_assoc (plain_of_piece q) (plain_of pieces) further ∙ ap (λ (t : Piece). plain_of_piece t ++ (plain_of pieces ++ further)) (sym peeled.same);
      given_are = given_are ∙ ap (λ (t : Piece). given_of_piece t ++ given_of pieces) (sym peeled.same);
    }

pub left : (p : Piece) (rest plain : List (List ℕ)) (given : List Given) → IsPiece p → AreParted (words_of_piece p ++ rest) plain given → IsLeft p rest plain given
left p rest plain given is parted = left_of p rest _ plain given parted.pieces parted.behind parted.further is refl parted.words_are parted.are_pieces
    parted.is_behind parted.plain_are parted.given_are

-- what is left of parted words after some pieces
pub record AreLeft (pieces : List Piece) (rest plain : List (List ℕ)) (given : List Given) : Type 0 where
  pub plain_rest : List (List ℕ)
  pub given_rest : List Given
  pub parted : AreParted rest plain_rest given_rest
  pub plain_are : plain ≡ plain_of pieces ++ plain_rest
  pub given_are : given ≡ given_of pieces ++ given_rest

all_left : (pieces : List Piece) (rest plain : List (List ℕ)) (given : List Given) → ArePieces pieces → AreParted (words_of pieces ++ rest) plain given → AreLeft pieces rest plain given
all_left [] rest plain given are parted = record { plain_rest = plain; given_rest = given; parted = parted; plain_are = refl; given_are = refl }
all_left (p ∷ pieces) rest plain given are parted =
    let split : AreParted (words_of_piece p ++ (words_of pieces ++ rest)) plain given =
    subst (λ (ws : List (List ℕ)). AreParted ws plain given) (append_assoc (words_of_piece p) (words_of pieces) rest) parted in
    let first = left p (words_of pieces ++ rest) plain given are.0 split in
    let more = all_left pieces rest first.plain_rest first.given_rest are.1 first.parted in
    record {
      plain_rest = more.plain_rest;
      given_rest = more.given_rest;
      parted = more.parted;
      plain_are = first.plain_are ∙ ap (λ (t : List (List ℕ)). plain_of_piece p ++ t) more.plain_are ∙ sym (append_assoc (plain_of_piece p) (plain_of pieces) more.plain_rest);
      given_are = first.given_are ∙ ap (λ (t : List Given). given_of_piece p ++ t) more.given_are ∙ sym (append_assoc (given_of_piece p) (given_of pieces) more.given_rest);
    }

-- ---- one parting
one_behind : (behind further other more : List (List ℕ)) → IsBehind behind further → behind ≡ other → IsBehind other more → further ≡ more
one_behind [] further [] more first same second = first ∙ sym second
one_behind [] further (w ∷ ws) more first same second = absurd (cc same)
one_behind (w ∷ ws) further [] more first same second = absurd (cc same)
one_behind (w ∷ ws) further (v ∷ vs) more first same second = sym first.1 ∙ tail_is w v ws vs same ∙ second.1

pub record IsAllBehind (further plain : List (List ℕ)) (given : List Given) : Type 0 where
  pub plain_are : plain ≡ further
  pub none_given : given ≡ []

behind_parted : (behind further plain : List (List ℕ)) (given : List Given) (pieces : List Piece) (other more : List (List ℕ)) → IsBehind behind further
    → behind ≡ words_of pieces ++ other → ArePieces pieces → IsBehind other more → plain ≡ plain_of pieces ++ more → given ≡ given_of pieces
    → IsAllBehind further plain given
behind_parted behind further plain given [] other more is same are also plain_are given_are =
    record { plain_are = plain_are ∙ sym (one_behind behind further other more is same also); none_given = given_are }
behind_parted behind further plain given (q ∷ pieces) other more is same are also plain_are given_are =
    absurd (no_behind q (words_of pieces ++ other) behind further are.0 is (sym (same ∙ append_assoc (words_of_piece q) (words_of pieces) other)))

-- words are parted in one way
pub one_parting : (words plain other : List (List ℕ)) (given others : List Given) → AreParted words plain given → AreParted words other others → (plain ≡ other) × (given ≡ others)
one_parting words plain other given others first second =
    let left = all_left first.pieces first.behind other others first.are_pieces (subst (λ (ws : List (List ℕ)). AreParted ws other others) first.words_are second) in
    let rest = left.parted in
    let all = behind_parted first.behind first.further left.plain_rest left.given_rest rest.pieces rest.behind rest.further first.is_behind
    rest.words_are rest.are_pieces rest.is_behind rest.plain_are rest.given_are in (
      first.plain_are ∙ ap (λ (ws : List (List ℕ)). plain_of first.pieces ++ ws) (sym all.plain_are) ∙ sym left.plain_are,
      first.given_are ∙ sym (append-nil (given_of first.pieces)) ∙ ap (λ (gs : List Given). given_of first.pieces ++ gs) (sym all.none_given) ∙ sym left.given_are,
    )
