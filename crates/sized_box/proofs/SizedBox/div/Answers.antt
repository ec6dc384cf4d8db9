use Rattle.std.proofs.Common.{◌≡◌, ℕ, ◌+◌, ◌-◌, ◌^◌, ◌<◌, pos, ◌+ℤ◌, ◌*ℤ◌, ◌≤ℤ◌, ◌<ℤ◌, arith}
use Rattle.std.proofs.lemmas.Int.{ints}
use Rattle.std.proofs.lemmas.Result.{IfOk-at_ok}
use Rattle.iv_core.specs.Intervals.{width_of, low_quotient, high_quotient, IsRatioWithin}
use Rattle.sized_box.proofs.Bounds.{ok_of_quotient, in_reach, same_within, quotient_within, ratio_within, product_narrow}
use Rattle.sized_box.proofs.SizedBox.div.Goals as goal

pub unwrap-requires : goal.unwrap-requires
unwrap-requires g c =
    let x = c.args.self.now in
    let y = c.args.other.now in
    let p : ℕ = 2 ^ (g.row.TO + g.row.A - g.row.K) in
    let quotient_in = quotient_within x.held.lo x.held.hi y.held.lo y.held.hi g.row.SIZE p g.row.TO_SIZE g.row.LEAST x.held.ordered y.held.ordered x.within.0
    x.within.1 c.requires.positive c.requires.least c.requires.size in
    ok_of_quotient c.div_to.result
    (λ h. absurd (omega (arith, ints, (c.div_to.ensures.zero_inside.0 h).0, c.requires.least, c.requires.positive)))
    (λ h. in_reach _ _ g.row.TO_SIZE c.requires.limit quotient_in.0 quotient_in.1 ((c.div_to.ensures.overwidth.0 h).1))

pub new-requires : goal.new-requires
new-requires g c =
    let x = c.args.self.now in
    let y = c.args.other.now in
    let p : ℕ = 2 ^ (g.row.TO + g.row.A - g.row.K) in
    let ends_are = IfOk-at_ok (λ r. (r.lo ≡ low_quotient g.row.TO x.held y.held) × (r.hi ≡ high_quotient g.row.TO x.held y.held)) c.unwrap.ensures c.div_to.ensures.ends in
    let width_narrow = IfOk-at_ok (λ r. (d q : ℕ) → 0 < d → pos d ≤ℤ y.held.lo → IsRatioWithin p q x.held y.held → (pos d *ℤ width_of r)
    <ℤ (((pos p *ℤ width_of x.held) +ℤ (pos q *ℤ width_of y.held)) +ℤ (pos 2 *ℤ pos d))) c.unwrap.ensures c.div_to.ensures.width in
    let quotient_in = quotient_within x.held.lo x.held.hi y.held.lo y.held.hi g.row.SIZE p g.row.TO_SIZE g.row.LEAST x.held.ordered y.held.ordered x.within.0
    x.within.1 c.requires.positive c.requires.least c.requires.size in
    let ratio_in = ratio_within x.held.lo x.held.hi y.held.lo g.row.SIZE p g.row.TO_SIZE g.row.LEAST x.held.ordered x.within.0 x.within.1 c.requires.least c.requires.size in (
      omega arith,
      (
        omega arith,
        (
          same_within c.unwrap.result.lo c.unwrap.result.hi (low_quotient g.row.TO x.held y.held) (high_quotient g.row.TO x.held y.held) g.row.TO_SIZE ends_are.0 ends_are.1 quotient_in.0 quotient_in.1,
          product_narrow (width_of c.unwrap.result) (width_of y.held) (width_of x.held) p g.row.TO_SIZE g.row.OTHER_WIDTH g.row.WIDTH g.row.TO_WIDTH
              g.row.LEAST c.requires.positive y.narrow x.narrow c.requires.width (width_narrow g.row.LEAST g.row.TO_SIZE c.requires.positive c.requires.least ratio_in),
        ),
      ),
    )
