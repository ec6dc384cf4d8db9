use Rattle.std.proofs.Common.{◌≡◌, ◌^◌, ◌≤◌, ℤ, pos, ◌-ℤ◌, true, unsigned_abs, arith, refl, sym, ap, ◌∙◌}
use Rattle.std.proofs.lemmas.Int.{ints}
use Rattle.whole_math.proofs.Words.{as_w64}
use Rattle.elimination.specs.StepEntries.{is_small}
use Rattle.elimination.specs.Quotients.{factor_by}
use Rattle.elimination.proofs.SmallEntries.{small_size, small_given, none_given}
use Rattle.elimination.proofs.RowWords.{word}
use Rattle.elimination.proofs.quotients.Quotient.factor.Goals as goal

turned_back : (x y : ℤ) → unsigned_abs x ≤ 2 ^ 62 → x ≡ pos 0 -ℤ y → word (pos 0 -ℤ x) ≡ y
turned_back x y h e = omega (arith, ints)

same_size : (x : ℤ) → unsigned_abs (pos 0 -ℤ x) ≡ unsigned_abs x
same_size x = omega (arith, ints)

turned_small : (x : ℤ) → is_small (pos 0 -ℤ x) ≡ is_small x
turned_small x = rw (same_size x) refl

pub returns-in-Some : goal.returns-in-Some
returns-in-Some c =
    let x : ℤ = c.in-Some.turned in
    let f : ℤ = factor_by c.args.self.now in
    let size : unsigned_abs c.in-Some.turned ≤ 2 ^ 62 = small_size x c.in-Some.ensures.small in
    let value : word (pos 0 -ℤ word c.in-Some.turned) ≡ f = ap (λ z. word (pos 0 -ℤ z)) (as_w64 x size) ∙ turned_back x f size c.in-Some.ensures.value in
    let small : is_small f ≡ true = sym (turned_small f) ∙ ap (λ z. is_small z) (sym c.in-Some.ensures.value) ∙ c.in-Some.ensures.small in
    small_given f (word (pos 0 -ℤ word c.in-Some.turned)) value (ap (λ z. is_small z) value ∙ small)

pub returns-in-None : goal.returns-in-None
returns-in-None c =
    let f : ℤ = factor_by c.args.self.now in
    none_given f (sym (turned_small f) ∙ c.in-None.ensures.refused refl)
