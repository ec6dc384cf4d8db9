-- The moves of a certified track are near the least-squares baselines of its pairs.
use Rattle.std.proofs.Common.{◌≡◌, true, ℕ, suc, ℤ, List, [], ◌∷◌, length, get_or, Option, arith, refl, sym, ap, ◌∙◌, subst}
use Rattle.std.specs.List.{AllZip}
use Rattle.whole_math.proofs.Ring.{va, ◌⊕◌}
use Rattle.whole_math.proofs.Certificates.{◌≼◌, hy}
use Rattle.whole_math.specs.Rational.{Rational, ◌+ʳ◌, ◌≤ʳ◌}
use Rattle.whole_math.proofs.RationalOrders.{order_r}
use Rattle.whole_math.specs.Spread.{Baseline}
use Rattle.obs_rows.specs.declared.arcs.Arc.{Arc}
use Rattle.obs_rows.specs.declared.pair_rows.PairRows.{PairRows}
use Rattle.obs_rows.specs.Signals.{fine_signals}
use Rattle.obs_rows.specs.Integers.{integer_count}
use Rattle.obs_rows.specs.Data.{Observed}
use Rattle.fix_decide.specs.Decisions.{first_of}
use Rattle.track_data.specs.declared.tracks.Track.{Track}
use Rattle.track_data.specs.declared.tails.TrackTail.{TrackTail}
use Rattle.track_data.specs.declared.tails.TrackTail.TheVariants.{Fixed, Unseparated, Weak, Overwidth, Spent}
use Rattle.track_form.specs.Verdicts.{IsTrackBestIn}
use Rattle.track_form.proofs.Lists.{all_zip_from}
use Rattle.track_form.specs.Best.{track_sum}
use Rattle.track_form.specs.SumDecided.{IsStrictlyBest, pair_sum, IsPairData}
use Rattle.vector_bound.specs.VectorBounds.{move_units, hundredths_of_mm}
use Rattle.vector_bound.proofs.Sessions.{wider_distance, rounded_hundredths}
use Rattle.vector_bound.proofs.PairLaws.{pair_near}
use Rattle.obs_rows.specs.declared.options.Options.{Options}
use Rattle.job_answers.specs.declared.status.Status.TheVariants.{Done}
use Rattle.job_answers.specs.Endings.{Ending}
use Rattle.job_answers.specs.Delivered.{SinkChange}
use Rattle.job_answers.specs.TextJobs.{SaysOfText}
use Rattle.job_answers.specs.SessionJobs.{SaysOfSession}
use Rattle.track_job.specs.declared.answers.TrackAnswer.{TrackAnswer}
use Rattle.track_job.specs.TrackTexts.{track_answer_text, IsWholeTrackAnswer, is_track_fixed}
use Rattle.track_job.specs.TrackJobs.{AnswersTrack}
use Rattle.track_job.specs.CheckJobs.{check_track_job}
use Rattle.baseline_app.specs.PrintedTracks.{KeepsPairBounds, AreLeastSquares, AreWithinBounds, KeepsTrackBounds, AreNearLeastSquares, SpellsNearTrack}
use Rattle.baseline_app.proofs.Agreements.{done_true, done_certified}

of_pair : (arcs : List Arc) (ss : List ℕ) (p : PairRows) (z m : List ℤ) → length z ≡ integer_count arcs ss → KeepsPairBounds arcs ss p z m
of_pair arcs ss p z m entries = record {
  units = λ x is. pair_near arcs ss p z m x entries is;
  hundredths = λ x y is rounded. wider_distance arcs ss (p ∷ []) z m (move_units x) (hundredths_of_mm y) (rounded_hundredths x y rounded.0) (pair_near arcs ss p z m x entries is);
}

-- what is added to both sides
cancel_last : (p q r : Rational) → (p +ʳ r) ≤ʳ (q +ʳ r) → p ≤ʳ q
cancel_last p q r h = order_r (p ∷ q ∷ r ∷ []) ((va 0 ⊕ va 2 ≼ va 1 ⊕ va 2) ∷ []) [] (va 0) (va 1) (hy 0) [] refl (h, tt) tt

cancel_first : (p q r : Rational) → (p +ʳ q) ≤ʳ (p +ʳ r) → q ≤ʳ r
cancel_first p q r h = order_r (p ∷ q ∷ r ∷ []) ((va 0 ⊕ va 1 ≼ va 0 ⊕ va 2) ∷ []) [] (va 1) (va 2) (hy 0) [] refl (h, tt) tt

-- baselines that are least squares together are so pair by pair
together : (arcs : List Arc) (ss : List ℕ) (z : List ℤ) (pairs : List PairRows) (observed : List (List Observed)) (moves : List (List ℤ)) (bs : List Baseline) → AllZip (IsPairData ss) pairs observed
    → AllZip (λ p m. KeepsPairBounds arcs ss p z m) pairs moves → AreLeastSquares arcs ss pairs z observed bs → AreWithinBounds arcs ss z pairs moves bs
together arcs ss z [] [] [] [] fit near is = tt
together arcs ss z [] [] [] (b ∷ bs) fit near is = absurd (omega (arith, is.each))
together arcs ss z [] [] (m ∷ ms) bs fit near is = absurd near
together arcs ss z [] (o ∷ os) ms bs fit near is = absurd fit
together arcs ss z (p ∷ ps) [] ms bs fit near is = absurd fit
together arcs ss z (p ∷ ps) (o ∷ os) [] bs fit near is = absurd near
together arcs ss z (p ∷ ps) (o ∷ os) (m ∷ ms) [] fit near is = absurd (omega (arith, is.each))
together arcs ss z (p ∷ ps) (o ∷ os) (m ∷ ms) (b ∷ bs) fit near is =
    let rest : Rational = track_sum (pair_sum arcs ss) ps os z bs in (
      λ x bound. (near.0.units x bound).least (o ∷ []) fit.0 b (λ c. cancel_last (pair_sum arcs ss p o z b) (pair_sum arcs ss p o z c) rest (is.least (c ∷ bs) is.each)),
      together arcs ss z ps os ms bs fit.1 near.1 (record {
        each = fewer (length bs) (length ps) is.each;
        least = λ cs each. cancel_first (pair_sum arcs ss p o z b) rest (track_sum (pair_sum arcs ss) ps os z cs) (is.least (b ∷ cs) (ap (λ (n : ℕ). suc n) each));
      }),
    )
  where
    fewer : (n k : ℕ) → suc n ≡ suc k → n ≡ k
    fewer n k e = omega (arith, e)

of_best : (arcs : List Arc) (ss : List ℕ) (pairs : List PairRows) (z : List ℤ) (moves : List (List ℤ)) → IsStrictlyBest arcs ss pairs z moves → KeepsTrackBounds arcs ss pairs z moves
of_best arcs ss pairs z moves best =
    let each : AllZip (λ p m. KeepsPairBounds arcs ss p z m) pairs moves =
    all_zip_from (λ p m. KeepsPairBounds arcs ss p z m) pairs moves best.move_each (λ k inside p m. of_pair arcs ss (get_or pairs k p) z (get_or moves k m) best.entries) in
    record { each = each; together = λ observed fit bs is. together arcs ss z pairs observed moves bs fit each is }

best_near : (t : Track) (tail : TrackTail) → IsTrackBestIn t.arcs (fine_signals t.signals) t.pairs tail → AreNearLeastSquares t tail
best_near t (Fixed h moves best top) is = of_best t.arcs (fine_signals t.signals) t.pairs (first_of best) moves is
best_near t (Unseparated h moves best top) is = absurd is
best_near t (Weak column pivot) is = absurd is
best_near t (Overwidth place) is = absurd is
best_near t (Spent budget) is = absurd is

-- ---- printed texts
pub track_near : (text_of : List ℕ → Option (List ℕ)) (base rover nav : List ℕ) (o : Options) (out : SinkChange)
    → (track : SaysOfSession AnswersTrack text_of base rover nav o Done out) → SpellsNearTrack track.end.out
track_near text_of base rover nav o out track =
    let answered = track.answer in
    let fixed : is_track_fixed answered.outcome.answer ≡ true =
    done_true (is_track_fixed answered.outcome.answer) (sym (ap (λ (e : Ending). e.status) answered.end_is) ∙ track.status_is) in
    let holds = answered.fixed fixed in
    let t : Track = holds.cert.track in
    record {
      cert = holds.cert;
      whole = subst IsWholeTrackAnswer holds.answer_is answered.whole;
      spelled = ap (λ (e : Ending). e.out) answered.end_is ∙ ap (λ (a : TrackAnswer). track_answer_text a) holds.answer_is;
      near = subst (λ (tail : TrackTail). AreNearLeastSquares t tail) (sym holds.fix.tail_is)
          (of_best t.arcs (fine_signals t.signals) t.pairs (first_of holds.fix.best) holds.fix.moves holds.fix.strictly_best);
    }

pub check_track_near : (text_of : List ℕ → Option (List ℕ)) (name : List ℕ) (out : SinkChange) → (check : SaysOfText check_track_job text_of name Done out) → SpellsNearTrack check.text
check_track_near text_of name out check =
    let said = check.answer.answer in
    record {
      cert = check.answer.cert;
      whole = check.answer.whole;
      spelled = check.answer.spelled;
      near = best_near check.answer.cert.track check.answer.cert.tail (said.best (done_certified said.verdict (sym (ap (λ (e : Ending). e.status) said.end_is) ∙ check.status_is)));
    }
