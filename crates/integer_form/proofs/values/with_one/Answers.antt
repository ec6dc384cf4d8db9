use Rattle.std.proofs.Common.{◌≡◌, ℕ, suc, ◌+◌, ◌<◌, ◌≤◌, List, [], ◌∷◌, ◌++◌, length, set, ℤ, pos, get_or-set_same, get_or-set_other, arith, ap, ap₂, ◌∙◌, zero-add}
use Rattle.quadratic_form.specs.Places.{list_from}
use Rattle.quadratic_form.specs.Tables.{item}
use Rattle.integer_form.proofs.PlaceLaws.{list_last, list_whole}
use Rattle.integer_form.proofs.values.with_one.Goals as goal

-- the entries of z, and 1 after them
ends : (x z : List ℤ) (i : ℕ) → length z < length x → length z ≤ i → ((k : ℕ) → k < i → item x k ≡ item z k) → list_from (item (set x (length z) (pos 1))) 0 (suc (length z)) ≡ z ++ (pos 1 ∷ [])
ends x z i l m h = list_last (item (set x (length z) (pos 1))) 0 (length z)
    ∙ ap₂ (λ (s : List ℤ) (y : ℤ). s ++ (y ∷ [])) (list_whole (item (set x (length z) (pos 1))) z 0 (λ k g. first k g))
    (ap (λ (k : ℕ). item (set x (length z) (pos 1)) k) (zero-add (length z)) ∙ get_or-set_same x (length z) (pos 1) (pos 0) l)
  where
    first : (k : ℕ) → k < length z → item (set x (length z) (pos 1)) (0 + k) ≡ item z k
    first k g = ap (λ (m : ℕ). item (set x (length z) (pos 1)) m) (zero-add k) ∙ get_or-set_other x (length z) k (pos 1) (pos 0) (omega arith) ∙ h k (omega arith)

pub returns-clause-list : goal.returns-clause-list
returns-clause-list c = ends c.loop-i.x c.args.z.now c.loop-i.i (omega (arith, c.requires.count, c.loop-i.invariant.full)) c.loop-i-test.false c.loop-i.invariant.same
