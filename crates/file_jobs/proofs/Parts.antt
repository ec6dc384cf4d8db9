-- The first of some differences, and the others.
use Rattle.std.proofs.Common.{◌≡◌, ℤ, suc, pos, neg_ℤ, ◌-◌, ◌^◌, ◌≤◌, ◌+ℤ◌, ◌-ℤ◌, ◌*ℤ◌, ◌≤ℤ◌, List, [], ◌∷◌, length, take, drop, get_or, refl, arith}
use Rattle.std.proofs.lemmas.List.{take_all}
use Rattle.file_jobs.specs.ZeroSums.{square, sum_at, total, AreSmall}

-- what is after the first
abbrev pub others : List ℤ → List ℤ
others rest = take (length rest - 1) (drop 1 rest)

pub record Parts (rest : List ℤ) : Type 0 where
  pub low : neg_ℤ (pos (2 ^ 30)) ≤ℤ get_or rest 0 (pos 0)
  pub high : get_or rest 0 (pos 0) ≤ℤ pos (2 ^ 30)
  pub small : AreSmall (others rest)
  pub count : length rest ≡ suc (length (others rest))
  pub value : (w : ℤ) → sum_at rest w ≡ square (get_or rest 0 (pos 0) -ℤ pos 60 *ℤ w) +ℤ sum_at (others rest) w
  pub sum : total rest ≡ get_or rest 0 (pos 0) +ℤ total (others rest)

pub parts : (rest : List ℤ) → 1 ≤ length rest → AreSmall rest → Parts rest
parts [] some small = absurd (omega arith)
parts (d ∷ ds) some small =
    let all : take (length (d ∷ ds) - 1) ds ≡ ds = take_all (length (d ∷ ds) - 1) ds (omega arith) in
    record {
      low = small.0;
      high = small.1;
      small = rw all small.2;
      count = rw all refl;
      value = λ w. rw all refl;
      sum = rw all refl;
    }
