use Rattle.std.proofs.Common.{◌≡◌, ◌^◌, unsigned_abs, ◌≤◌, ℤ, pos, ◌≤ℤ◌, ◌<ℤ◌, ap₂, ◌∙◌, refl, sym, subst, arith}
use Rattle.std.proofs.lemmas.Int.{ints}
use Rattle.std.specs.Int.{int_max}
use Rattle.whole_math.specs.Rounding.{floor_div}
use Rattle.vector_bound.specs.Curvatures.{minor, determinant, curvature_of}
use Rattle.vector_bound.proofs.Words.{word, word_of, cross_of}
use Rattle.vector_bound.proofs.kept.curvature_of.Goals as goal
use Rattle.vector_bound.proofs.kept.curvature_of.Goals.{then-first-lt1-via-then-first-lt1, then-first-lt1-via-else-first-lt1+then-second-lt1, then-first-lt1-via-else-first-lt1+else-second-lt1+then-third-lt1}

determinant_is : (x a b c f g h : ℤ) → unsigned_abs a ≤ 2 ^ 40 → unsigned_abs b ≤ 2 ^ 40 → unsigned_abs c ≤ 2 ^ 40 → unsigned_abs f ≤ 2 ^ 40 → unsigned_abs g ≤ 2 ^ 40 → unsigned_abs h ≤ 2 ^ 40 →
    x ≡ determinant (word a) (word b) (word c) (word f) (word g) (word h) → x ≡ determinant a b c f g h
determinant_is x a b c f g h i j k l m n e = e ∙ rw (small a i, small b j, small c k, small f l, small g m, small h n) refl
  where
    small : (x : ℤ) → unsigned_abs x ≤ 2 ^ 40 → word x ≡ x
    small x h = word_of x (2 ^ 40) (omega arith) h

pub returns-clause-curved : goal.returns-clause-curved
returns-clause-curved c =
    let r = c.requires in
    let one : word c.cross-first.result ≡ minor c.args.a c.args.b c.args.f =
    word_of c.cross-first.result (2 ^ 81) (omega arith) c.cross-first.ensures.size ∙ cross_of c.cross-first.result c.args.a c.args.b c.args.f c.args.f r.a r.b r.f r.f c.cross-first.ensures.value in
    let two : word c.cross-second.result ≡ minor c.args.a c.args.c c.args.g =
    word_of c.cross-second.result (2 ^ 81) (omega arith) c.cross-second.ensures.size ∙ cross_of c.cross-second.result c.args.a c.args.c c.args.g c.args.g r.a r.c r.g r.g c.cross-second.ensures.value in
    let three : word c.cross-third.result ≡ minor c.args.b c.args.c c.args.h =
    word_of c.cross-third.result (2 ^ 81) (omega arith) c.cross-third.ensures.size ∙ cross_of c.cross-third.result c.args.b c.args.c c.args.h c.args.h r.b r.c r.h r.h c.cross-third.ensures.value in
    let first_one : pos 1 ≤ℤ word c.cross-first.result = omega (arith, ints, c.if-first-lt1.false) in
    let second_one : pos 1 ≤ℤ word c.cross-second.result = omega (arith, ints, c.if-second-lt1.false) in
    let third_one : pos 1 ≤ℤ word c.cross-third.result = omega (arith, ints, c.if-third-lt1.false) in
    let whole : word c.determinant_of.result ≡ determinant c.args.a c.args.b c.args.c c.args.f c.args.g c.args.h =
    word_of c.determinant_of.result (2 ^ 123) (omega arith) c.determinant_of.ensures.size
    ∙ determinant_is c.determinant_of.result c.args.a c.args.b c.args.c c.args.f c.args.g c.args.h r.a r.b r.c r.f r.g r.h c.determinant_of.ensures.value in
    let greatest : word c.greater-2.result ≡ int_max (int_max (minor c.args.a c.args.b c.args.f) (minor c.args.a c.args.c c.args.g)) (minor c.args.b c.args.c c.args.h) =
    word_of c.greater-2.result (2 ^ 81) (omega arith) c.greater-2.ensures.size ∙ c.greater-2.ensures.value
    ∙ ap₂ (λ x y. int_max x y) (word_of c.greater.result (2 ^ 81) (omega arith) c.greater.ensures.size ∙ c.greater.ensures.value ∙ ap₂ (λ x y. int_max x y) one two) three in
    let size : unsigned_abs c.floor-mu.result ≤ 2 ^ 123 = wider c.floor-mu.result (word c.determinant_of.result) c.floor-mu.ensures.size
    (subst (λ (x : ℤ). unsigned_abs x ≤ 2 ^ 123) (sym (word_of c.determinant_of.result (2 ^ 123) (omega arith) c.determinant_of.ensures.size)) c.determinant_of.ensures.size) in
    record {
      first = subst (λ (x : ℤ). pos 1 ≤ℤ x) one first_one;
      second = subst (λ (x : ℤ). pos 1 ≤ℤ x) two second_one;
      third = subst (λ (x : ℤ). pos 1 ≤ℤ x) three third_one;
      value = word_of c.floor-mu.result (2 ^ 123) (omega arith) size ∙ c.floor-mu.ensures.value ∙ ap₂ (λ x y. floor_div x (unsigned_abs y)) whole greatest;
    }
  where
    wider : (x y : ℤ) → unsigned_abs x ≤ unsigned_abs y → unsigned_abs y ≤ 2 ^ 123 → unsigned_abs x ≤ 2 ^ 123
    wider x y h k = omega (arith, h, k)

none_there : (x w m : ℤ) → w ≡ m → w <ℤ pos 1 → pos 1 ≤ℤ m → ⊥
none_there x w m e h from = omega (arith, ints, e, h, from)

pub returns-then-first-lt1-clause-none : goal.returns-then-first-lt1-clause-none
returns-then-first-lt1-clause-none c =
    let r = c.requires in
    let one : word c.cross-first.result ≡ minor c.args.a c.args.b c.args.f =
    word_of c.cross-first.result (2 ^ 81) (omega arith) c.cross-first.ensures.size ∙ cross_of c.cross-first.result c.args.a c.args.b c.args.f c.args.f r.a r.b r.f r.f c.cross-first.ensures.value in
    let two : word c.cross-second.result ≡ minor c.args.a c.args.c c.args.g =
    word_of c.cross-second.result (2 ^ 81) (omega arith) c.cross-second.ensures.size ∙ cross_of c.cross-second.result c.args.a c.args.c c.args.g c.args.g r.a r.c r.g r.g c.cross-second.ensures.value in
    let three : word c.cross-third.result ≡ minor c.args.b c.args.c c.args.h =
    word_of c.cross-third.result (2 ^ 81) (omega arith) c.cross-third.ensures.size ∙ cross_of c.cross-third.result c.args.b c.args.c c.args.h c.args.h r.b r.c r.h r.h c.cross-third.ensures.value in
    elim c.then-first-lt1.branch [
      | then-first-lt1-via-then-first-lt1 w ↦
          let low : word c.cross-first.result <ℤ pos 1 = omega (arith, ints) in
          λ none mu is. absurd (none_there mu (word c.cross-first.result) (minor c.args.a c.args.b c.args.f) one low is.first)
      | then-first-lt1-via-else-first-lt1+then-second-lt1 w ↦
          let low : word c.cross-second.result <ℤ pos 1 = omega (arith, ints) in
          λ none mu is. absurd (none_there mu (word c.cross-second.result) (minor c.args.a c.args.c c.args.g) two low is.second)
      | then-first-lt1-via-else-first-lt1+else-second-lt1+then-third-lt1 w ↦
          let low : word c.cross-third.result <ℤ pos 1 = omega (arith, ints) in
          λ none mu is. absurd (none_there mu (word c.cross-third.result) (minor c.args.b c.args.c c.args.h) three low is.third)
    ]

pub returns-then-mu-lt1-clause-none : goal.returns-then-mu-lt1-clause-none
returns-then-mu-lt1-clause-none c =
    let r = c.requires in
    let one : word c.cross-first.result ≡ minor c.args.a c.args.b c.args.f =
    word_of c.cross-first.result (2 ^ 81) (omega arith) c.cross-first.ensures.size ∙ cross_of c.cross-first.result c.args.a c.args.b c.args.f c.args.f r.a r.b r.f r.f c.cross-first.ensures.value in
    let two : word c.cross-second.result ≡ minor c.args.a c.args.c c.args.g =
    word_of c.cross-second.result (2 ^ 81) (omega arith) c.cross-second.ensures.size ∙ cross_of c.cross-second.result c.args.a c.args.c c.args.g c.args.g r.a r.c r.g r.g c.cross-second.ensures.value in
    let three : word c.cross-third.result ≡ minor c.args.b c.args.c c.args.h =
    word_of c.cross-third.result (2 ^ 81) (omega arith) c.cross-third.ensures.size ∙ cross_of c.cross-third.result c.args.b c.args.c c.args.h c.args.h r.b r.c r.h r.h c.cross-third.ensures.value in
    let whole : word c.determinant_of.result ≡ determinant c.args.a c.args.b c.args.c c.args.f c.args.g c.args.h =
    word_of c.determinant_of.result (2 ^ 123) (omega arith) c.determinant_of.ensures.size
    ∙ determinant_is c.determinant_of.result c.args.a c.args.b c.args.c c.args.f c.args.g c.args.h r.a r.b r.c r.f r.g r.h c.determinant_of.ensures.value in
    let greatest : word c.greater-2.result ≡ int_max (int_max (minor c.args.a c.args.b c.args.f) (minor c.args.a c.args.c c.args.g)) (minor c.args.b c.args.c c.args.h) =
    word_of c.greater-2.result (2 ^ 81) (omega arith) c.greater-2.ensures.size ∙ c.greater-2.ensures.value
    ∙ ap₂ (λ x y. int_max x y) (word_of c.greater.result (2 ^ 81) (omega arith) c.greater.ensures.size ∙ c.greater.ensures.value ∙ ap₂ (λ x y. int_max x y) one two) three in
    let size : unsigned_abs c.floor-mu.result ≤ 2 ^ 123 = wider c.floor-mu.result (word c.determinant_of.result) c.floor-mu.ensures.size
    (subst (λ (x : ℤ). unsigned_abs x ≤ 2 ^ 123) (sym (word_of c.determinant_of.result (2 ^ 123) (omega arith) c.determinant_of.ensures.size)) c.determinant_of.ensures.size) in
    let value : word c.floor-mu.result ≡ curvature_of c.args.a c.args.b c.args.c c.args.f c.args.g c.args.h =
    word_of c.floor-mu.result (2 ^ 123) (omega arith) size ∙ c.floor-mu.ensures.value ∙ ap₂ (λ x y. floor_div x (unsigned_abs y)) whole greatest in
    let low : word c.floor-mu.result <ℤ pos 1 = omega (arith, ints, c.if-mu-lt1.true) in
    λ none mu is. subst (λ (x : ℤ). x <ℤ pos 1) (value ∙ sym is.value) low
  where
    wider : (x y : ℤ) → unsigned_abs x ≤ unsigned_abs y → unsigned_abs y ≤ 2 ^ 123 → unsigned_abs x ≤ 2 ^ 123
    wider x y h k = omega (arith, h, k)
