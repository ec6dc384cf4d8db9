-- An entry on the diagonal and one after it.
use Rattle.std.proofs.Common.{◌≡◌, ℕ, ◌^◌, ◌<◌, ◌≤◌, Bool, false, nat_eq, cond, List, ℤ, pos, ◌-ℤ◌, ◌*ℤ◌, ◌<ℤ◌, unsigned_abs, to_z, arith, ap, ◌∙◌, refl}
use Rattle.std.proofs.lemmas.Bool.Decides.{nat_tests}
use Rattle.std.proofs.lemmas.Int.{ints}
use Rattle.std.specs.Int.{w128}
use Rattle.std.proofs.lemmas.Bool.{eq-eqb}
use Rattle.whole_math.specs.Rounding.{nearest_div, ceil_div}
use Rattle.quadratic_form.specs.declared.sizes.TheConstants.{MOST_COLUMNS}
use Rattle.quadratic_form.specs.Tables.{entry}
use Rattle.elimination.specs.StepEntries.{own_entry, other_entry, new_entry}

pub apart : (r c : ℕ) → r < c → nat_eq r c ≡ false
apart r c h = grind (arith, nat_tests)

pub new_own : (t : List (List ℤ)) (j a : ℕ) (n : ℤ) (r : ℕ) → new_entry t j a n r r ≡ own_entry t j a n r
new_own t j a n r = ap (λ (b : Bool). cond b (own_entry t j a n r) (other_entry t j a r r)) (eq-eqb r r refl)

pub new_other : (t : List (List ℤ)) (j a : ℕ) (n : ℤ) (r c : ℕ) → r < c → new_entry t j a n r c ≡ other_entry t j a r c
new_other t j a n r c h = ap (λ (b : Bool). cond b (own_entry t j a n r) (other_entry t j a r c)) (apart r c h)

pub other_same : (t u : List (List ℤ)) (j a r c : ℕ) → entry u r c ≡ entry t r c → entry u j r ≡ entry t j r → entry u j c ≡ entry t j c → other_entry u j a r c ≡ other_entry t j a r c
other_same t u j a r c x p q = ap (λ z. z -ℤ nearest_div (entry u j r *ℤ entry u j c) a) x ∙ ap (λ z. entry t r c -ℤ nearest_div (z *ℤ entry u j c) a) p
    ∙ ap (λ z. entry t r c -ℤ nearest_div (entry t j r *ℤ z) a) q

pub positive_is : (a : ℤ) → pos 0 <ℤ a → a ≡ pos (unsigned_abs a)
positive_is a h = omega (arith, ints)

pub count_word : (n : ℕ) → n ≤ MOST_COLUMNS → to_z w128 n ≡ pos n
count_word n h = omega (arith, ints)

pub new_same : (t u : List (List ℤ)) (j a : ℕ) (n : ℤ) (r c : ℕ) → ((k : ℕ) → entry u r k ≡ entry t r k) → ((k : ℕ) → entry u j k ≡ entry t j k) → new_entry u j a n r c ≡ new_entry t j a n r c
new_same t u j a n r c h g = ap (λ z. cond (nat_eq r c) z (other_entry u j a r c)) own ∙ ap (λ z. cond (nat_eq r c) (own_entry t j a n r) z) (other_same t u j a r c (h c) (g r) (g c))
  where
    own : own_entry u j a n r ≡ own_entry t j a n r
    own = ap (λ z. ((z -ℤ ceil_div (entry u j r *ℤ entry u j r) a) -ℤ n) -ℤ ceil_div (n *ℤ pos a) (2 ^ 42)) (h r)
        ∙ ap (λ z. ((entry t r r -ℤ ceil_div (z *ℤ z) a) -ℤ n) -ℤ ceil_div (n *ℤ pos a) (2 ^ 42)) (g r)
