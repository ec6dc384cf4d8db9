-- Laws of the profile.
use Rattle.std.proofs.Common.{◌≡◌, ℕ, suc, ◌*◌, ◌/◌, ◌+◌, ◌<◌, ◌≤◌, ◌↔◌, List, ◌∷◌, ◌++◌, take, drop, length, get_or, refl, sym, ap, ◌∙◌, arith, Some, None, Option, IsSome, MatchOption, All, Err, Result, IsOk, IfOk, length-append}
use Rattle.std.proofs.lemmas.Int.{ints}
use Rattle.std.specs.Int.{abs_diff}
use Rattle.std.proofs.Math.Nat.{le_of_mul-le-mul_right}
use Rattle.std.proofs.lemmas.List.{take-append-drop, length-take-le}
use Rattle.std.proofs.Math.Seq.{drop-cons, get_or-append_seam}
use Rattle.std.proofs.Math.ListN.{get_or-append}
use Rattle.std.proofs.lemmas.Nat.{div-mul-add}
use Rattle.decimal_text.specs.declared.exponent.Dec.{Dec}
use Rattle.eph_store.specs.declared.record.Raw.{Raw}
use Rattle.eph_store.specs.declared.ephemeris.Eph.{Eph}
use Rattle.eph_store.specs.declared.profile.Unfit.{Unfit}
use Rattle.eph_store.specs.declared.profile.Unfit.TheVariants.{Unhealthy, Range}
use Rattle.eph_store.specs.declared.fields.Field.{Field}
use Rattle.eph_store.specs.declared.fields.Field.TheVariants.{Week}
use Rattle.eph_store.specs.Decimals.{value_of, IsWhole}
use Rattle.eph_store.specs.Profile.{IsTimeOf, IsTocNear, toe_tick, InRange, IsHealthy, IsUsable, IsFirstOut, fields_in_order}
use Rattle.eph_store.specs.Records.{IsEphOf}

-- a number is at most one whole number
pub whole_once : (d : Dec) (n m : ℕ) → IsWhole d n → IsWhole d m → n ≡ m
whole_once d n m h k =
    let same_multiple : n * (value_of d).den ≡ m * (value_of d).den = omega (arith, ints, h, k) in
    let left_at_most : n ≤ m = le_of_mul-le-mul_right (omega (arith, same_multiple)) (value_of d).positive in
    let right_at_most : m ≤ n = le_of_mul-le-mul_right (omega (arith, same_multiple)) (value_of d).positive in
    omega (arith, left_at_most, right_at_most)

pub toc_near : (raw : Raw) (week second far toe : ℕ) → IsTimeOf raw week second → toe ≡ toe_tick week second → far ≡ abs_diff raw.toc.0 toe → (far ≤ 72000000000) ↔ IsTocNear raw
toc_near raw week second far toe time at is = (
  λ h. record { week = week; second = second; time = time; near = let distance_is : abs_diff raw.toc.0 (toe_tick week second) ≡ far = ap (λ (t : ℕ). abs_diff raw.toc.0 t) (sym at) ∙ sym is in rw distance_is h },
  λ near.
      let same_week : near.week ≡ week = whole_once raw.week near.week week near.time.week_is time.week_is in
      let same_second : near.second ≡ second = whole_once raw.toe_s near.second second near.time.second_is time.second_is in
      let distance_is : far ≡ abs_diff raw.toc.0 (toe_tick near.week near.second) = is ∙ ap (λ (t : ℕ). abs_diff raw.toc.0 t) (at ∙ rw (same_week, same_second) refl) in
      rw distance_is near.near,
)

-- that record's time is this one
pub near_is : (raw : Raw) (week second toe : ℕ) → IsTimeOf raw week second → toe ≡ toe_tick week second → IsTocNear raw → abs_diff raw.toc.0 toe ≤ 72000000000
near_is raw week second toe time at near = (toc_near raw week second (abs_diff raw.toc.0 toe) toe time at refl).1 near

pub is_some_whole : (r : Option ℕ) (d : Dec) (most : ℕ) → MatchOption r ((n : ℕ) → n ≤ most → IsWhole d n → ⊥) (λ n. (n ≤ most) × IsWhole d n) → (n : ℕ) × (n ≤ most) × IsWhole d n → IsSome r
is_some_whole None d most h (n, small, is) = absurd (h n small is)
is_some_whole (Some m) d most h is = refl

pub usable_range : (raw : Raw) (k : ℕ) → IsUsable raw → k < 21 → InRange (get_or fields_in_order k Week) raw
usable_range raw k u h = u.profile k Week h

pub toe_in_range : (raw : Raw) → IsUsable raw → (n : ℕ) × (n ≤ 604799) × IsWhole raw.toe_s n
toe_in_range raw u = usable_range raw 1 u (omega arith)

-- the place of the first number out of its range
pub out_at : (raw : Raw) (fields : List Field) (i : ℕ) (d : Field) → i < length fields → All (λ f. InRange f raw) (take i fields)
    → (InRange (get_or fields i d) raw → ⊥) → IsFirstOut raw fields (i + 1)
out_at raw fields i d inside before out = record {
  front = take i fields;
  field = get_or fields i d;
  rest = drop (suc i) fields;
  order = sym (take-append-drop i fields) ∙ ap (λ (zs : List Field). take i fields ++ zs) (drop-cons fields i d inside);
  counted = let taken_length : length (take i fields) ≡ i = length-take-le i fields (omega (arith, inside)) in omega (arith, taken_length);
  before = before;
  out = out;
}

-- a tick of a week
pub tick_in : (week second toe : ℕ) → toe ≡ toe_tick week second → week ≤ 9999 → second ≤ 604799 → toe < 60480000000000000
tick_in week second toe is w s = omega (arith, is, w, s)

pub second_of_week : (week second toe : ℕ) → toe ≡ toe_tick week second → second ≤ 604799 → toe ≡ (toe / 6048000000000 * 604800 + second) * 10000000
second_of_week week second toe is s =
    let whole : toe ≡ week * 6048000000000 + second * 10000000 = omega (arith, is) in
    let part : second * 10000000 < 6048000000000 = omega (arith, s) in
    let week_is : toe / 6048000000000 ≡ week = ap (λ (t : ℕ). t / 6048000000000) whole ∙ div-mul-add week 6048000000000 (second * 10000000) part in
    rw week_is is

pub late_enough : (toc toe : ℕ) → abs_diff toc toe ≤ 72000000000 → toe ≤ toc + 72000000000
late_enough toc toe h = omega (arith, h)

pub early_enough : (toc toe : ℕ) → abs_diff toc toe ≤ 72000000000 → toc ≤ toe + 72000000000
early_enough toc toe h = omega (arith, h)

pub toc_in_range : (raw : Raw) → IsUsable raw → IsTocNear raw
toc_in_range raw u = usable_range raw 2 u (omega arith)

-- where all numbers lie in their ranges, none is the first out
pub none_out : (raw : Raw) (fields : List Field) (number : ℕ) → All (λ f. InRange f raw) fields → IsFirstOut raw fields number → ⊥
none_out raw fields number all out =
    let here : get_or fields (length out.front) out.field ≡ out.field =
    ap (λ (fs : List Field). get_or fs (length out.front) out.field) out.order ∙ get_or-append_seam out.front out.field out.rest out.field in
    let inside : length out.front < length fields = omega (arith, ap length out.order, length-append out.front (out.field ∷ out.rest)) in
    out.out (rw (← here) (all (length out.front) out.field inside))

not_before : (raw : Raw) (fields : List Field) (n m : ℕ) (s : IsFirstOut raw fields n) (t : IsFirstOut raw fields m) → length s.front < length t.front → ⊥
not_before raw fields n m s t less =
    let here : get_or fields (length s.front) s.field ≡ s.field = ap (λ (fs : List Field). get_or fs (length s.front) s.field) s.order ∙ get_or-append_seam s.front s.field s.rest s.field in
    let there : get_or fields (length s.front) s.field ≡ get_or t.front (length s.front) s.field =
    ap (λ (fs : List Field). get_or fs (length s.front) s.field) t.order ∙ get_or-append t.front (t.field ∷ t.rest) s.field (length s.front) less in
    s.out (rw (← here) (rw there (t.before (length s.front) s.field less)))

-- there is one first
pub first_once : (raw : Raw) (fields : List Field) (n m : ℕ) → IsFirstOut raw fields n → IsFirstOut raw fields m → n ≡ m
first_once raw fields n m s t =
    let not_shorter : (length s.front < length t.front) → ⊥ = not_before raw fields n m s t in
    let not_longer : (length t.front < length s.front) → ⊥ = not_before raw fields m n t s in
    omega (arith, not_shorter, not_longer, s.counted, t.counted)

-- the clauses of `of`
pub record Tells (raw : Raw) (r : Result Eph Unfit) : Type 0 where
  pub value : IfOk r (λ e. IsEphOf raw e)
  pub usable : IsOk r ↔ IsUsable raw
  pub unhealthy : (r ≡ Err Unhealthy) ↔ (IsHealthy raw → ⊥)
  pub range : (n : ℕ) → (r ≡ Err (Range n)) ↔ (IsHealthy raw × IsFirstOut raw fields_in_order n)

-- what `of` says of a number out of its range
pub tells_range : (raw : Raw) (field : ℕ) → IsHealthy raw → IsFirstOut raw fields_in_order field → Tells raw (Err (Range field))
tells_range raw field healthy first = record {
  value = tt;
  usable = (λ h. absurd (cc h), λ u. absurd (none_out raw fields_in_order field u.profile first));
  unhealthy = (λ h. absurd (cc h), λ h. absurd (h healthy));
  range = λ n. (λ h. let field_is : field ≡ n = cc h in (healthy, rw (← field_is) first), λ h. ap (λ (m : ℕ). Err (Range m)) (first_once raw fields_in_order field n first h.1));
}
