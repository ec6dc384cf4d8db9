use Rattle.std.proofs.Common.{IsTrue, rules, sym, ◌∙◌}
use Rattle.obs_rows.specs.Signals.{is_phase}
use Rattle.sim_jobs.proofs.Words.{same_words, words_same}
use Rattle.sim_jobs.proofs.matches.is_as_made.Goals as goal

pub returns : goal.returns
returns c =
    let phase : IsTrue (is_phase c.args.signal) = search rules in (
      λ on. λ p. same_words c.args.cycles c.wanted.result (record { sfits = c.ranges.cycles.sfits }) (record { sfits = c.wanted.type_inv }) on
          ∙ c.wanted.ensures,
      λ as_made. words_same c.args.cycles c.wanted.result (as_made phase ∙ sym c.wanted.ensures),
    )
