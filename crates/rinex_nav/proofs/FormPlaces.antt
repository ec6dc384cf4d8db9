-- The place of a refusal is the first failing line by the grammar: every state can be completed to a file.
use Rattle.std.proofs.Common.{◌≡◌, ◌<◌, ◌≤◌, ◌+◌, ◌⊎◌, inl, inr, ℕ, zero, suc, pos, Bool, true, false, List, [], ◌∷◌, ◌++◌, length, codes, Result, Ok, Err, refl, sym, ◌∙◌, subst, arith, lit≤, length-append, IfOk}
use Rattle.decimal_text.specs.declared.exponent.Dec.{Dec}
use Rattle.eph_store.specs.declared.record.Raw.{Raw}
use Rattle.eph_store.specs.File.{Records}
use Rattle.rinex_head.specs.declared.place.TextFault.{TextFault}
use Rattle.rinex_head.specs.Columns.{padded}
use Rattle.rinex_head.specs.Fields.{exponent_in}
use Rattle.rinex_head.specs.Head.{trimmed}
use Rattle.rinex_head.specs.LineRules.{text_gives, Gives}
use Rattle.rinex_head.specs.FirstFailing.{IsFileOf}
use Rattle.rinex_head.proofs.Stops.{Completes, CanEnd, can_end, with_line, with_end}
use Rattle.rinex_head.specs.declared.system.System.{System}
use Rattle.rinex_head.specs.declared.system.System.TheVariants.{Gps, Galileo}
use Rattle.rinex_nav.specs.FirstLine.{first_line_of, ends_header}
use Rattle.rinex_nav.specs.RecordLines.{number_in, number_if, quad_in, continuation_of, reads_first, reads_second, reads_third, reads_fourth}
use Rattle.rinex_nav.specs.declared.record_lines.Start.{Start}
use Rattle.rinex_nav.specs.declared.record_lines.Quad.{Quad}
use Rattle.rinex_nav.specs.NavRules.{Expected, First, Head, Body, Further, raw_of, behind, admit, nav_rules}
use Rattle.rinex_nav.specs.NavForm.{IsNavFile, HasNavFile}
use Rattle.rinex_nav.proofs.FormLaws.{file_given}
use Rattle.rinex_nav.proofs.FormTook.{file_took}

module _ (system : System) where
  body_done : (raws : List Raw) (skipping : Bool) → Completes (nav_rules system) (Body raws skipping)
  body_done raws skipping = with_end (nav_rules system) (Body raws skipping) raws refl

  -- ---- inside a record: a line of four zeros may stand in the place of each further line

  abbrev zero_line : List ℕ
  zero_line = codes "    0                  0                  0                  0"

  abbrev nothing : Dec
  nothing = record { mant = pos 0; exp = pos 0 }

  abbrev zeros : Quad
  zeros = record { first = nothing; second = nothing; third = nothing; fourth = nothing }

  zero_first : number_in zero_line 5 ≡ Ok nothing
  unfolding number_in exponent_in padded
  zero_first = refl

  zero_second : number_in zero_line 24 ≡ Ok nothing
  unfolding number_in exponent_in padded
  zero_second = refl

  zero_third : number_in zero_line 43 ≡ Ok nothing
  unfolding number_in exponent_in padded
  zero_third = refl

  zero_fourth : number_in zero_line 62 ≡ Ok nothing
  unfolding number_in exponent_in padded
  zero_fourth = refl

  -- read or not
  zero_if : (read : Bool) (first : ℕ) → number_in zero_line first ≡ Ok nothing → number_if read zero_line first ≡ Ok nothing
  zero_if true first is = is
  zero_if false first is = refl

  zero_says : (place : ℕ) → continuation_of place zero_line ≡ Ok zeros
  unfolding continuation_of quad_in
  zero_says place = rw (
    zero_if (reads_first place) 5 zero_first,
    zero_if (reads_second place) 24 zero_second,
    zero_if (reads_third place) 43 zero_third,
    zero_if (reads_fourth place) 62 zero_fourth,
  ) refl

  -- after the further lines that were read another one is expected, or the record is whole
  abbrev Behind : List Raw → Start → List Quad → Type 0
  Behind raws s quads = ((length quads < 7) × (behind raws s quads ≡ Further raws s quads)) ⊎ ((raw : Raw) × (behind raws s quads ≡ Body (raws ++ raw ∷ []) false))

  behind_is : (raws : List Raw) (s : Start) (quads : List Quad) → Behind raws s quads
  behind_is raws s [] = inl (omega arith, refl)
  behind_is raws s (q2 ∷ []) = inl (omega arith, refl)
  behind_is raws s (q2 ∷ q3 ∷ []) = inl (omega arith, refl)
  behind_is raws s (q2 ∷ q3 ∷ q4 ∷ []) = inl (omega arith, refl)
  behind_is raws s (q2 ∷ q3 ∷ q4 ∷ q5 ∷ []) = inl (omega arith, refl)
  behind_is raws s (q2 ∷ q3 ∷ q4 ∷ q5 ∷ q6 ∷ []) = inl (omega arith, refl)
  behind_is raws s (q2 ∷ q3 ∷ q4 ∷ q5 ∷ q6 ∷ q7 ∷ []) = inl (omega arith, refl)
  behind_is raws s (q2 ∷ q3 ∷ q4 ∷ q5 ∷ q6 ∷ q7 ∷ q8 ∷ quads) = inr (raw_of s q2 q3 q4 q5 q6 q7, refl)

  takes_zeros : (raws : List Raw) (s : Start) (quads : List Quad) → admit system (Further raws s quads) zero_line ≡ Ok (behind raws s (quads ++ zeros ∷ []))
  takes_zeros raws s quads = rw (zero_says (length quads)) refl

  by_count : (raws : List Raw) (s : Start) (quads : List Quad) → Behind raws s quads
      → (length quads < 7 → Completes (nav_rules system) (behind raws s (quads ++ zeros ∷ []))) → Completes (nav_rules system) (behind raws s quads)
  by_count raws s quads (inl is) again =
      subst (λ (e : Expected). Completes (nav_rules system) e) (sym is.1) (with_line (nav_rules system) (Further raws s quads)
      (behind raws s (quads ++ zeros ∷ [])) zero_line refl (lit≤ tt) (takes_zeros raws s quads) (again is.0))
  by_count raws s quads (inr is) again = subst (λ (e : Expected). Completes (nav_rules system) e) (sym is.1) (body_done (raws ++ is.0 ∷ []) false)

  further_done : (due : ℕ) (raws : List Raw) (s : Start) (quads : List Quad) → 7 ≤ length quads + due → Completes (nav_rules system) (behind raws s quads)
  further_done zero raws s quads enough = by_count raws s quads (behind_is raws s quads) (λ few. absurd (omega (arith, few, enough)))
  further_done (suc due) raws s quads enough =
      by_count raws s quads (behind_is raws s quads) (λ few. further_done due raws s (quads ++ zeros ∷ []) (omega (arith, enough, length-append quads (zeros ∷ []))))

  -- ---- the header

  abbrev end_line : List ℕ
  end_line = codes "                                                            END OF HEADER"

  abbrev version_line : List ℕ
  version_line = codes "     3.04           N: GNSS NAV DATA    M                   RINEX VERSION / TYPE"

  end_line-ends : ends_header end_line ≡ true
  unfolding trimmed
  end_line-ends = refl

  version_line-says : (of : System) → first_line_of of version_line ≡ Ok tt
  unfolding first_line_of trimmed padded
  version_line-says Gps = refl
  version_line-says Galileo = refl

  head_done : Completes (nav_rules system) Head
  head_done =
      let admits : admit system Head end_line ≡ Ok (Body [] false) = rw end_line-ends refl in
      with_line (nav_rules system) Head (Body [] false) end_line refl (lit≤ tt) admits (body_done [] false)

  completed : (s : Expected) → Completes (nav_rules system) s
  completed First =
      let admits : admit system First version_line ≡ Ok Head = rw (version_line-says system) refl in
      with_line (nav_rules system) First Head version_line refl (lit≤ tt) admits head_done
  completed Head = head_done
  completed (Body raws skipping) = body_done raws skipping
  completed (Further raws s quads) = with_line (nav_rules system) (Further raws s quads) (behind raws s (quads ++ zeros ∷ [])) zero_line refl (lit≤ tt)
      (takes_zeros raws s quads) (further_done 7 raws s (quads ++ zeros ∷ []) (omega arith))

  pub ends : CanEnd (nav_rules system)
  ends = can_end (nav_rules system) completed

  -- ---- the answers of the reader

  -- the grammar and the rules have the same files
  pub file_of_rules : (lines : List (List ℕ)) → HasNavFile system lines → IsFileOf (nav_rules system) lines
  file_of_rules lines is = (is.0, file_given system lines is.0 is.1)

  pub rules_of_file : (lines : List (List ℕ)) → IsFileOf (nav_rules system) lines → HasNavFile system lines
  rules_of_file lines is = (is.0, file_took system lines is.0 is.1)

  pub ok_exit : (lines : List (List ℕ)) (r : Result Records TextFault) → Gives (text_gives (nav_rules system) lines) (λ file. file.all) r → IfOk r (λ file. IsNavFile system lines file.all)
  ok_exit lines (Ok file) given = file_took system lines file.all given
  ok_exit lines (Err fault) given = tt

  -- a text has at most one list of records
  pub only_exit : (lines : List (List ℕ)) (r : Result Records TextFault) → Gives (text_gives (nav_rules system) lines) (λ file. file.all) r
      → IfOk r (λ file. (other : List Raw) → IsNavFile system lines other → other ≡ file.all)
  only_exit lines (Ok file) given = λ other is. let same : Ok other ≡ Ok (file.all) = sym (file_given system lines other is) ∙ given in cc (same)
  only_exit lines (Err fault) given = tt
