use Rattle.std.proofs.Common.{List, ℕ, length, ap, arith, length-append, append_assoc}
use Rattle.sim_session.specs.ObservationText.{header_text}
use Rattle.sim_session.proofs.TextLengths.{length-header_text}
use Rattle.sim_session.proofs.texts.write_header.Goals as goal

pub returns-clause-written : goal.returns-clause-written
unfolding header_text
returns-clause-written c = rw (
  c.in_ok-extend_from_slice-4.ensures.items,
  c.in_ok-extend_from_slice-3.ensures.items,
  c.in_ok-write_types.ensures,
  c.in_ok-extend_from_slice-2.ensures.items,
  c.in_ok-extend_from_slice.ensures.items,
  c.in_ok-write_version.ensures,
) (simp append_assoc)

pub returns-clause-size : goal.returns-clause-size
returns-clause-size c =
    omega (arith, ap (λ (xs : List ℕ). length xs) (returns-clause-written c), length-append c.args.out.now.items (header_text c.args.tracking), length-header_text c.args.tracking)
