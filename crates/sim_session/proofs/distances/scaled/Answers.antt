use Rattle.std.proofs.Common.{◌≡◌, ℕ, ◌*◌, ◌≤◌, ◌∷◌, [], ℤ, pos, ◌*ℤ◌, ◌≤ℤ◌, FitsSigned, to_z, of_z, arith, refl}
use Rattle.std.specs.Int.{w128}
use Rattle.std.proofs.lemmas.Int.{ints}
use Rattle.whole_math.proofs.Words.{as_w128}
use Rattle.whole_math.proofs.Ring.{va, ko, ◌⊗◌}
use Rattle.whole_math.proofs.Certificates.{cert, ◌≼◌, hy, nm, ◌⊞◌, ◌⊠◌}
use Rattle.sim_session.proofs.distances.scaled.Goals as goal

cast : (m : ℤ) → pos 336725436006400000000 ≤ℤ m → m ≤ℤ pos 5016521801728000000000 → to_z w128 (of_z w128 m) ≡ m
cast m low high = as_w128 m (omega (arith, ints, low, high))

frequency_cast : (f : ℕ) → f ≤ 2000000000 → to_z w128 f ≡ pos f
frequency_cast f h = omega (arith, ints)

least : (f : ℕ) → 1000000000 ≤ f → pos 1000000000 ≤ℤ pos f
least f h = omega (arith, ints)

most : (f : ℕ) → f ≤ 2000000000 → pos f ≤ℤ pos 2000000000
most f h = omega (arith, ints)

product_low : (m f : ℤ) → pos 336725436006400000000 ≤ℤ m → pos 1000000000 ≤ℤ f → pos (336725436006400000000 * 1000000000) ≤ℤ (m *ℤ f)
product_low m f h k = cert (m ∷ f ∷ []) ((ko (pos 336725436006400000000) ≼ va 0) ∷ (ko (pos 1000000000) ≼ va 1) ∷ [])
    (ko (pos (336725436006400000000 * 1000000000))) (va 0 ⊗ va 1) (hy 0 ⊠ (hy 1 ⊞ nm 1000000000) ⊞ nm 336725436006400000000 ⊠ hy 1) refl (h, (k, tt))

product_high : (m f : ℤ) → pos 336725436006400000000 ≤ℤ m → m ≤ℤ pos 5016521801728000000000 → f ≤ℤ pos 2000000000 → (m *ℤ f) ≤ℤ pos (5016521801728000000000 * 2000000000)
product_high m f h k l = cert (m ∷ f ∷ [])
    ((ko (pos 336725436006400000000) ≼ va 0) ∷ (va 0 ≼ ko (pos 5016521801728000000000)) ∷ (va 1 ≼ ko (pos 2000000000)) ∷ []) (va 0 ⊗ va 1)
    (ko (pos (5016521801728000000000 * 2000000000))) (hy 1 ⊠ nm 2000000000 ⊞ (hy 0 ⊞ nm 336725436006400000000) ⊠ hy 2) refl (h, (k, (l, tt)))

fits : (p : ℤ) → pos (336725436006400000000 * 1000000000) ≤ℤ p → p ≤ℤ pos (5016521801728000000000 * 2000000000) → FitsSigned w128 p
fits p h k = omega (arith, ints)

plain : (p : ℤ) → pos (336725436006400000000 * 1000000000) ≤ℤ p → p ≤ℤ pos (5016521801728000000000 * 2000000000) → to_z w128 (of_z w128 p) ≡ p
plain p low high = as_w128 p (omega (arith, ints, low, high))

pub overflow_mul-result : goal.overflow_mul-result
overflow_mul-result c =
    let same_length = cast c.args.length c.requires.low c.requires.high in
    let same_frequency = frequency_cast c.args.frequency c.requires.most in
    rw (same_length, same_frequency) (fits (c.args.length *ℤ pos c.args.frequency) (product_low c.args.length (pos c.args.frequency) c.requires.low (least c.args.frequency c.requires.least))
    (product_high c.args.length (pos c.args.frequency) c.requires.low c.requires.high (most c.args.frequency c.requires.most)))

pub returns-clause-value : goal.returns-clause-value
returns-clause-value c =
    let same_length = cast c.args.length c.requires.low c.requires.high in
    let same_frequency = frequency_cast c.args.frequency c.requires.most in
    rw (same_length, same_frequency) (plain (c.args.length *ℤ pos c.args.frequency) (product_low c.args.length (pos c.args.frequency) c.requires.low (least c.args.frequency c.requires.least))
    (product_high c.args.length (pos c.args.frequency) c.requires.low c.requires.high (most c.args.frequency c.requires.most)))

pub returns-clause-low : goal.returns-clause-low
returns-clause-low c =
    let product_at_least = product_low c.args.length (pos c.args.frequency) c.requires.low (least c.args.frequency c.requires.least) in
    let product_at_most = product_high c.args.length (pos c.args.frequency) c.requires.low c.requires.high (most c.args.frequency c.requires.most) in
    let same_length = cast c.args.length c.requires.low c.requires.high in
    let same_frequency = frequency_cast c.args.frequency c.requires.most in
    let same_product = plain (c.args.length *ℤ pos c.args.frequency) product_at_least product_at_most in
    rw (same_length, same_frequency, same_product) product_at_least

pub returns-clause-high : goal.returns-clause-high
returns-clause-high c =
    let product_at_least = product_low c.args.length (pos c.args.frequency) c.requires.low (least c.args.frequency c.requires.least) in
    let product_at_most = product_high c.args.length (pos c.args.frequency) c.requires.low c.requires.high (most c.args.frequency c.requires.most) in
    let same_length = cast c.args.length c.requires.low c.requires.high in
    let same_frequency = frequency_cast c.args.frequency c.requires.most in
    let same_product = plain (c.args.length *ℤ pos c.args.frequency) product_at_least product_at_most in
    rw (same_length, same_frequency, same_product) product_at_most
