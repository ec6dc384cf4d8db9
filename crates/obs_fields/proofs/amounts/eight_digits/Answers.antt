-- The bytes are digits, and the sums of two of them are in the bytes.
use Rattle.std.proofs.Common.{◌≡◌, ◌+◌, ◌-◌, ◌<◌, ◌≤◌, ℕ, get_or, bit_and, rules, arith}
use Rattle.obs_fields.proofs.EightDigits.{zeros, word_in, word_zeros, word_nines, word_number}
use Rattle.obs_fields.proofs.amounts.eight_digits.Goals as goal

pub overflow_sub-digits : goal.overflow_sub-digits
overflow_sub-digits c =
    let text = c.args.text.now in
    let word = c.from_le_bytes-word.result in
    let small : (i : ℕ) → get_or text i 0 < 256 = search rules in
    let word_is : word ≡ word_in text = omega (arith, c.from_le_bytes-word.ensures) in
    let halves : bit_and word 0xf0f0f0f0f0f0f0f0 ≡ zeros = omega (arith, c.if-halves-ne-ZEROS.false) in
    (word_zeros text word small word_is halves).0

pub overflow_add-more : goal.overflow_add-more
overflow_add-more c =
    let text = c.args.text.now in
    let word = c.from_le_bytes-word.result in
    let small : (i : ℕ) → get_or text i 0 < 256 = search rules in
    let word_is : word ≡ word_in text = omega (arith, c.from_le_bytes-word.ensures) in
    let halves : bit_and word 0xf0f0f0f0f0f0f0f0 ≡ zeros = omega (arith, c.if-halves-ne-ZEROS.false) in
    let below : word ≤ 0x3f3f3f3f3f3f3f3f = (word_zeros text word small word_is halves).1 in
    omega (arith, below)

pub overflow_mul-tens : goal.overflow_mul-tens
overflow_mul-tens c =
    let text = c.args.text.now in
    let word = c.from_le_bytes-word.result in
    let small : (i : ℕ) → get_or text i 0 < 256 = search rules in
    let word_is : word ≡ word_in text = omega (arith, c.from_le_bytes-word.ensures) in
    let halves : bit_and word 0xf0f0f0f0f0f0f0f0 ≡ zeros = omega (arith, c.if-halves-ne-ZEROS.false) in
    let above : bit_and (word - zeros + 0x0606060606060606) 0xf0f0f0f0f0f0f0f0 ≡ 0 = omega (arith, c.if-above-ne0.false) in
    let below : word - zeros ≤ 0x0909090909090909 = word_nines text word small word_is halves above in
    omega (arith, below)

pub overflow_add-pairs : goal.overflow_add-pairs
overflow_add-pairs c =
    let text = c.args.text.now in
    let word = c.from_le_bytes-word.result in
    let small : (i : ℕ) → get_or text i 0 < 256 = search rules in
    let word_is : word ≡ word_in text = omega (arith, c.from_le_bytes-word.ensures) in
    let halves : bit_and word 0xf0f0f0f0f0f0f0f0 ≡ zeros = omega (arith, c.if-halves-ne-ZEROS.false) in
    let above : bit_and (word - zeros + 0x0606060606060606) 0xf0f0f0f0f0f0f0f0 ≡ 0 = omega (arith, c.if-above-ne0.false) in
    let below : word - zeros ≤ 0x0909090909090909 = word_nines text word small word_is halves above in
    omega (arith, below)

pub returns-clause-digits : goal.returns-clause-digits
returns-clause-digits c =
    let text = c.args.text.now in
    let word = c.from_le_bytes-word.result in
    let small : (i : ℕ) → get_or text i 0 < 256 = search rules in
    let word_is : word ≡ word_in text = omega (arith, c.from_le_bytes-word.ensures) in
    let halves : bit_and word 0xf0f0f0f0f0f0f0f0 ≡ zeros = omega (arith, c.if-halves-ne-ZEROS.false) in
    let above : bit_and (word - zeros + 0x0606060606060606) 0xf0f0f0f0f0f0f0f0 ≡ 0 = omega (arith, c.if-above-ne0.false) in
    (word_number text word c.requires small word_is halves above).0

pub returns-clause-small : goal.returns-clause-small
returns-clause-small c =
    let text = c.args.text.now in
    let word = c.from_le_bytes-word.result in
    let small : (i : ℕ) → get_or text i 0 < 256 = search rules in
    let word_is : word ≡ word_in text = omega (arith, c.from_le_bytes-word.ensures) in
    let halves : bit_and word 0xf0f0f0f0f0f0f0f0 ≡ zeros = omega (arith, c.if-halves-ne-ZEROS.false) in
    let above : bit_and (word - zeros + 0x0606060606060606) 0xf0f0f0f0f0f0f0f0 ≡ 0 = omega (arith, c.if-above-ne0.false) in
    (word_number text word c.requires small word_is halves above).1
