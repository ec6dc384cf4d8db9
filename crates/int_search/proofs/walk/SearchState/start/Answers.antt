use Rattle.std.proofs.Common.{◌≡◌, ◌-◌, ◌^◌, ◌<◌, ℕ, List, length, ℤ, pos, ◌<ℤ◌, ◌≤ℤ◌, arith, refl, inl, inr, ap, ◌∙◌, subst, to_z, of_z}
use Rattle.std.specs.Int.{w128}
use Rattle.std.proofs.lemmas.Int.{ints}
use Rattle.quadratic_form.specs.Rows.{value}
use Rattle.integer_form.specs.declared.form.Form.{Form}
use Rattle.int_search.specs.Suffixes.{SearchForm}
use Rattle.int_search.specs.PlainCount.{rounded, neighbour, top, HasLarge}
use Rattle.int_search.specs.Vectors.{Holds, suffix}
use Rattle.int_search.specs.Images.{image_of}
use Rattle.int_search.specs.Orders.{IsRankLess}
use Rattle.int_search.specs.SearchedForm.{search_form}
use Rattle.int_search.specs.SearchStates.{search_image, BeginsWith}
use Rattle.int_search.proofs.FormNumbers.{searchable}
use Rattle.int_search.proofs.PointLaws.{top_first, top_second, top_small, within_top, rounded_length, neighbour_length}
use Rattle.int_search.proofs.StartLaws.{IsPoint, begins, start_small, start_top, points_differ}
use Rattle.int_search.proofs.walk.SearchState.start.Goals as goal
use Rattle.int_search.proofs.walk.SearchState.start.Goals.{then-p-via-then-p, then-p-via-else-p+then-q}

-- the numbers of the code for the sizes of the form
same_size : (form : Form) → form.columns - 3 - 1 ≡ form.columns - 4
same_size form = omega arith

-- an image, by the number of integers
image_held : (form : Form) (map : List (List ℤ)) (z y : List ℤ) → Holds (form.columns - 3 - 1) y (image_of map (form.columns - 3 - 1) (suffix z 0 (form.columns - 3 - 1))) →
    Holds (form.columns - 4) y (search_image form map (suffix z 0 (form.columns - 4)))
image_held form map z y h = subst (λ (n : ℕ). Holds n y (image_of map n (suffix z 0 n))) (same_size form) h

image_large : (form : Form) (map : List (List ℤ)) (z : List ℤ) → HasLarge (image_of map (form.columns - 3 - 1) (suffix z 0 (form.columns - 3 - 1))) →
    HasLarge (search_image form map (suffix z 0 (form.columns - 4)))
image_large form map z h = subst (λ (n : ℕ). HasLarge (image_of map n (suffix z 0 n))) (same_size form) h

rank_less : (form : Form) (p q a b : ℤ) (y x : List ℤ) → a ≡ p → b ≡ q → IsRankLess a (suffix y 0 (form.columns - 3 - 1)) b (suffix x 0 (form.columns - 3 - 1)) →
    IsRankLess p (suffix y 0 (form.columns - 4)) q (suffix x 0 (form.columns - 4))
rank_less form p q a b y x e g h = subst (λ (n : ℕ). IsRankLess p (suffix y 0 n) q (suffix x 0 n)) (same_size form)
    (subst (λ (t : ℤ). IsRankLess p (suffix y 0 (form.columns - 3 - 1)) t (suffix x 0 (form.columns - 3 - 1))) g
    (subst (λ (t : ℤ). IsRankLess t (suffix y 0 (form.columns - 3 - 1)) b (suffix x 0 (form.columns - 3 - 1))) e h))

-- the rounded point z and its neighbour w, with their images y and v and their values p and q
record ArePoints (form : Form) (map : List (List ℤ)) (z w y v : List ℤ) (p q : ℤ) : Type 0 where
  first : IsPoint (search_form form) (search_image form map) (suffix z 0 (search_form form).size) y p
  second : IsPoint (search_form form) (search_image form map) (suffix w 0 (search_form form).size) v q
  small : top (search_form form) <ℤ pos (2 ^ 62)

points : (form : Form) (map : List (List ℤ)) (z w y v : List ℤ) (p q : ℤ) → 0 < (search_form form).size
    → suffix z 0 (search_form form).size ≡ rounded (search_form form) (search_form form).size → suffix w 0 (search_form form).size ≡ neighbour (search_form form)
    → Holds (form.columns - 3 - 1) y (image_of map (form.columns - 3 - 1) (suffix z 0 (form.columns - 3 - 1)))
    → Holds (form.columns - 3 - 1) v (image_of map (form.columns - 3 - 1) (suffix w 0 (form.columns - 3 - 1)))
    → p ≡ value (search_form form).p (suffix z 0 (search_form form).size) → q ≡ value (search_form form).p (suffix w 0 (search_form form).size)
    → p <ℤ pos (2 ^ 62) → q <ℤ pos (2 ^ 62) → ArePoints form map z w y v p q
points form map z w y v p q some z_is w_is y_held v_held p_is q_is p_small q_small =
    let sought : SearchForm = search_form form in
    record {
      first = record { size = ap length z_is ∙ rounded_length sought sought.size; held = image_held form map z y y_held; value_is = p_is; within = within_top sought (rounded sought sought.size) _ z_is (top_first sought) };
      second = record { size = ap length w_is ∙ neighbour_length sought some; held = image_held form map w v v_held; value_is = q_is; within = within_top sought (neighbour sought) _ w_is (top_second sought) };
      small = top_small sought p q (p_is ∙ ap (λ u. value sought.p u) z_is) (q_is ∙ ap (λ u. value sought.p u) w_is) p_small q_small;
    }

pub returns-then-p : goal.returns-then-p
returns-then-p c =
    let form : SearchForm = search_form c.args.form.now in
    let im : List ℤ → List ℤ = search_image c.args.form.now c.args.map.now in
    let first : List ℤ = suffix c.in_ok-z.z 0 form.size in
    let second : List ℤ = suffix c.in_ok-w.w 0 form.size in
    let first_within : value form.p first ≤ℤ top form = within_top form (rounded form form.size) first c.in_ok-z.ensures.is (top_first form) in
    let second_within : value form.p second ≤ℤ top form = within_top form (neighbour form) second c.in_ok-w.ensures.is (top_second form) in
    let first_fits = c.value_at-p.type_inv in
    let second_fits = c.value_at-q.type_inv in
    elim c.then-p.branch [
      | then-p-via-then-p w ↦
          let past : pos (2 ^ 62) ≤ℤ value form.p first = omega (arith, ints, c.value_at-p.ensures) in
          start_top form im first first_within past
      | then-p-via-else-p+then-q w ↦
          let past : pos (2 ^ 62) ≤ℤ value form.p second = omega (arith, ints, c.value_at-q.ensures) in
          start_top form im second second_within past
    ]

pub returns-in_err-y : goal.returns-in_err-y
returns-in_err-y c =
    let form : SearchForm = search_form c.args.form.now in
    let is_searchable = searchable c.args.form.now c.requires.some in
    let vector : List ℤ = suffix c.in_ok-z.z 0 form.size in
    let large : HasLarge (search_image c.args.form.now c.args.map.now vector) = image_large c.args.form.now c.args.map.now c.in_ok-z.z c.in_err-y.ensures in
    rw c.from_residual-in_err-y.ensures (record { wide = inr (vector, (inl c.in_ok-z.ensures.is, inr large)) })

pub returns-in_err-v : goal.returns-in_err-v
returns-in_err-v c =
    let form : SearchForm = search_form c.args.form.now in
    let is_searchable = searchable c.args.form.now c.requires.some in
    let vector : List ℤ = suffix c.in_ok-w.w 0 form.size in
    let large : HasLarge (search_image c.args.form.now c.args.map.now vector) = image_large c.args.form.now c.args.map.now c.in_ok-w.w c.in_err-v.ensures in
    rw c.from_residual-in_err-v.ensures (record { wide = inr (vector, (inr c.in_ok-w.ensures.is, inr large)) })

pub returns-in_err-z : goal.returns-in_err-z
returns-in_err-z c =
    let form : SearchForm = search_form c.args.form.now in
    rw c.from_residual.ensures (record { wide = inr (rounded form form.size, (inl refl, inl c.in_err-z.ensures)) })

pub returns-in_err-w : goal.returns-in_err-w
returns-in_err-w c =
    let form : SearchForm = search_form c.args.form.now in
    rw c.from_residual-in_err-w.ensures (record { wide = inr (neighbour form, (inr refl, inl c.in_err-w.ensures)) })

pub unreachable-requires : goal.unreachable-requires
unreachable-requires c =
    let form : SearchForm = search_form c.args.form.now in
    let is_searchable = searchable c.args.form.now c.requires.some in
    let same_points : suffix c.in_ok-y.y 0 form.size ≡ suffix c.in_ok-v.v 0 form.size = subst (λ (n : ℕ). suffix c.in_ok-y.y 0 n ≡ suffix c.in_ok-v.v 0 n) (same_size c.args.form.now) (c.in-Equal.ensures).1 in
    points_differ form (search_image c.args.form.now c.args.map.now) (suffix c.in_ok-z.z 0 form.size)
    (suffix c.in_ok-w.w 0 form.size) c.in_ok-y.y c.in_ok-v.v is_searchable c.requires.one_to_one c.in_ok-z.ensures.is c.in_ok-w.ensures.is
    (image_held c.args.form.now c.args.map.now c.in_ok-z.z c.in_ok-y.y c.in_ok-y.ensures) (image_held c.args.form.now c.args.map.now c.in_ok-w.w c.in_ok-v.v c.in_ok-v.ensures) same_points

pub returns-in-Less : goal.returns-in-Less
returns-in-Less c =
    let form : Form = c.args.form.now in
    let sought : SearchForm = search_form form in
    let im : List ℤ → List ℤ = search_image form c.args.map.now in
    let first_fits = c.value_at-p.type_inv in
    let second_fits = c.value_at-q.type_inv in
    let first_kept : to_z w128 (of_z w128 c.value_at-p.result) ≡ c.value_at-p.result = omega (arith, ints) in
    let second_kept : to_z w128 (of_z w128 c.value_at-q.result) ≡ c.value_at-q.result = omega (arith, ints) in
    let are : ArePoints form c.args.map.now c.in_ok-z.z c.in_ok-w.w c.in_ok-y.y c.in_ok-v.v c.value_at-p.result c.value_at-q.result =
    points form c.args.map.now c.in_ok-z.z c.in_ok-w.w c.in_ok-y.y c.in_ok-v.v c.value_at-p.result c.value_at-q.result (searchable form c.requires.some).some c.in_ok-z.ensures.is c.in_ok-w.ensures.is
    c.in_ok-y.ensures c.in_ok-v.ensures c.value_at-p.ensures c.value_at-q.ensures (omega (arith, ints)) (omega (arith, ints)) in
    let begins_with : BeginsWith sought (record { first = c.in_ok-y.y; second = c.in_ok-v.v; p1 = c.value_at-p.result; p2 = c.value_at-q.result }) c.begin.result = rw (first_kept, second_kept) at c.begin.ensures in
    begins sought im (suffix c.in_ok-z.z 0 sought.size) (suffix c.in_ok-w.w 0 sought.size) c.in_ok-y.y c.in_ok-v.v c.value_at-p.result c.value_at-q.result c.begin.result are.first are.second
    (rank_less form _ _ _ _ c.in_ok-y.y c.in_ok-v.v first_kept second_kept c.in-Less.ensures) are.small (inl (c.in_ok-z.ensures.is, c.in_ok-w.ensures.is))
    (start_small sought im c.in_ok-z.z c.in_ok-w.w (suffix c.in_ok-z.z 0 sought.size) (suffix c.in_ok-w.w 0 sought.size) c.in_ok-y.y c.in_ok-v.v c.in_ok-z.ensures.is c.in_ok-w.ensures.is c.in_ok-z.ensures.small c.in_ok-w.ensures.small
    refl refl are.first.held are.second.held are.small) begins_with

pub returns-in-Greater : goal.returns-in-Greater
returns-in-Greater c =
    let form : Form = c.args.form.now in
    let sought : SearchForm = search_form form in
    let im : List ℤ → List ℤ = search_image form c.args.map.now in
    let first_fits = c.value_at-p.type_inv in
    let second_fits = c.value_at-q.type_inv in
    let first_kept : to_z w128 (of_z w128 c.value_at-p.result) ≡ c.value_at-p.result = omega (arith, ints) in
    let second_kept : to_z w128 (of_z w128 c.value_at-q.result) ≡ c.value_at-q.result = omega (arith, ints) in
    let are : ArePoints form c.args.map.now c.in_ok-z.z c.in_ok-w.w c.in_ok-y.y c.in_ok-v.v c.value_at-p.result c.value_at-q.result =
    points form c.args.map.now c.in_ok-z.z c.in_ok-w.w c.in_ok-y.y c.in_ok-v.v c.value_at-p.result c.value_at-q.result (searchable form c.requires.some).some c.in_ok-z.ensures.is c.in_ok-w.ensures.is
    c.in_ok-y.ensures c.in_ok-v.ensures c.value_at-p.ensures c.value_at-q.ensures (omega (arith, ints)) (omega (arith, ints)) in
    let begins_with : BeginsWith sought (record { first = c.in_ok-v.v; second = c.in_ok-y.y; p1 = c.value_at-q.result; p2 = c.value_at-p.result }) c.begin-in-Greater.result =
    rw (first_kept, second_kept) at c.begin-in-Greater.ensures in
    begins sought im (suffix c.in_ok-w.w 0 sought.size) (suffix c.in_ok-z.z 0 sought.size) c.in_ok-v.v c.in_ok-y.y c.value_at-q.result c.value_at-p.result c.begin-in-Greater.result are.second are.first
    (rank_less form _ _ _ _ c.in_ok-v.v c.in_ok-y.y second_kept first_kept c.in-Greater.ensures) are.small (inr (c.in_ok-w.ensures.is, c.in_ok-z.ensures.is))
    (start_small sought im c.in_ok-z.z c.in_ok-w.w (suffix c.in_ok-z.z 0 sought.size) (suffix c.in_ok-w.w 0 sought.size) c.in_ok-y.y c.in_ok-v.v c.in_ok-z.ensures.is c.in_ok-w.ensures.is c.in_ok-z.ensures.small c.in_ok-w.ensures.small
    refl refl are.first.held are.second.held are.small) begins_with
