-- Numbers that are the same where their words are.
use Rattle.std.proofs.Common.{◌≡◌, ℕ, ℤ, IsTrue, nat_eq, FitsSigned, to_z, of_z, arith, sym, ap, ◌∙◌}
use Rattle.std.proofs.lemmas.Bool.Decides.{nat_tests}
use Rattle.std.specs.Int.{w128}
use Rattle.std.proofs.lemmas.Int.{to_z-of_z}

pub same_words : (x y : ℤ) → FitsSigned w128 x → FitsSigned w128 y → IsTrue (nat_eq (of_z w128 x) (of_z w128 y)) → x ≡ y
same_words x y fits also words = sym (to_z-of_z w128 x fits) ∙ ap (to_z w128) (one (of_z w128 x) (of_z w128 y) words) ∙ to_z-of_z w128 y also
  where
    one : (m n : ℕ) → IsTrue (nat_eq m n) → m ≡ n
    one m n equal = grind (arith, nat_tests)

pub words_same : (x y : ℤ) → x ≡ y → IsTrue (nat_eq (of_z w128 x) (of_z w128 y))
words_same x y same = one (of_z w128 x) (of_z w128 y) (ap (of_z w128) same)
  where
    one : (m n : ℕ) → m ≡ n → IsTrue (nat_eq m n)
    one m n equal = grind (arith, nat_tests)
