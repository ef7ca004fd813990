-- Where the answer to a loop is to cut it, the loops over its pieces run as the loop does, from each moment whose store
-- holds the program.
use Rattle.std.proofs.Common.{◌≡◌, ◌≢◌, refl, sym, ap, ◌∙◌, subst, inl, inr, ℕ, suc, ◌≤◌, ◌<◌, ℤ, pos, Bool, true, false, List, [], ◌∷◌, ◌++◌, length, get_or, ◌^◌, Result, Ok, Option, Some, None, nat_le, arith}
use Rattle.std.specs.Prelude.{nat_abs}
use Rattle.std.specs.List.{AllPairs}
use Rattle.std.proofs.lemmas.Bool.{leb-true, le-leb}
use Rattle.std.proofs.lemmas.Bool.Decides.{Decides-int_eq}
use Rattle.std.proofs.lemmas.List.Kept.{AllPairs-from_increasing}
use Rattle.components.specs.Lists.{IsMember}
use Rattle.find_nests.specs.Found.{InNest, nest_of_loop}
use Rattle.find_nests.specs.Loops.{Numbered, as_statement}
use Rattle.index_split.proofs.CutLaws.{considered_once}
use Rattle.index_split.specs.Answers.{AreUsed, IsAnswerTo, IsCutAs, IsNestAnswer, cut_by, whole_or}
use Rattle.index_split.specs.Pieces.{all_bounds, are_assignments, loops_over}
use Rattle.index_split.specs.Points.{AreCutPoints, IsConsidered}
use Rattle.index_split.specs.declared.answers.Answer.TheVariants.{Cut, Whole}
use Rattle.index_split.specs.declared.pieces.Bounds.{Bounds}
use Rattle.index_split.specs.declared.pieces.Pieces.{Pieces}
use Rattle.last_values.specs.normal_forms.NormalLoops.{is_zero}
use Rattle.linear_forms.proofs.Faultless.{linear_has_value}
use Rattle.linear_forms.proofs.TextsKeep.{text_limited}
use Rattle.linear_forms.specs.Affines.{IsAffineOf, IsFound}
use Rattle.linear_forms.specs.Laws.{AreSized}
use Rattle.linear_forms.specs.Linear.{Form, HaveValues, form_of, is_limited, number_at}
use Rattle.meaning.specs.Blocks.{Surroundings}
use Rattle.meaning.specs.Dialect.{Dialect}
use Rattle.meaning.specs.Holding.{HoldsProgram}
use Rattle.meaning.specs.Profile77.{AreDeclarations, IsStatement}
use Rattle.meaning.specs.Run.{State, does, does_all}
use Rattle.meaning.specs.Value.{number_of, trip_count}
use Rattle.index_split.specs.Cuts.{outermost}
use Rattle.nest.specs.Plain.{Loop, Nest}
use Rattle.nest_reasons.specs.Symbols.{symbols_of}
use Rattle.pass_laws.proofs.FoundSources.Lists.{clash}
use Rattle.pass_laws.proofs.NormalValues.Steps.{IsMade}
use Rattle.split_laws.proofs.Bounds.{assignments_leave_alone}
use Rattle.split_laws.proofs.CutLoops.{loops_over_pieces_run_as_loop}
use Rattle.split_laws.specs.Loops.{AreLoopsPieces, EndWith}
use Rattle.split_programs.proofs.Bodies.{assigns_others, variable_apart}
use Rattle.split_programs.proofs.Nests.{counted, forms, loop_of, quotient_is}
use Rattle.split_programs.proofs.Symbols.{known, numbers, values, values_sized}
use Rattle.split_programs.proofs.Trips.{increment_is, limited_size, trip_is}
use Rattle.subscripts.specs.declared.affine.Affine.{Affine}
use Rattle.tree.specs.Operators.{as_number}
use Rattle.tree.specs.Plain.{Expression, Program, block}
use Rattle.tree.specs.Steps.{◌>>=◌}
use Rattle.tree.specs.declared.ops.Fault.{Fault}
use Rattle.tree.specs.declared.ops.Value.{Value}

-- ---- pieces that end behind points

pub behind_first : (x : ℕ) (xs : List ℕ) → ((k : ℕ) → k < length xs → x < get_or xs k 0) → (y : ℕ) → IsMember y xs → x < y
behind_first x [] f y i = absurd i
behind_first x (z ∷ zs) f y (inl e) = subst (λ w. x < w) (sym e) (f 0 (omega arith))
behind_first x (z ∷ zs) f y (inr i) = behind_first x zs (λ k h. f (suc k) (omega (arith, h))) y i

end_with : (before : ℕ) (points : List ℕ) (t : ℕ) → AllPairs (λ x y. x < y) points → ((x : ℕ) → IsMember x points → before < x) → ((x : ℕ) → IsMember x points → x < t) → before < t
    → EndWith before (points ++ t ∷ []) t
end_with before [] t rise low high less = (less, refl)
end_with before (x ∷ xs) t rise low high less = (
  low x (inl refl),
  end_with x xs t (λ i j d a b. rise (suc i) (suc j) d (omega (arith, a)) (omega (arith, b))) (behind_first x xs (λ k h. rise 0 (suc k) 0 (omega arith) (omega (arith, h)))) (λ y i. high y (inr i)) (high x (inl refl)),
)

-- ---- the answer

uncut : (ps : Pieces) → Cut ps ≡ Whole → ⊥
uncut ps e = cc

used_points : (ps : Pieces) (points : List ℕ) → ((AreUsed points → ⊥) → Cut ps ≡ Whole) → AreUsed points
used_points ps points f = by (nat_le 1 (length points)) (nat_le (length points) 16) refl refl
  where
    by : (b c : Bool) → nat_le 1 (length points) ≡ b → nat_le (length points) 16 ≡ c → AreUsed points
    by true true e g = record { some = leb-true 1 (length points) e; few = leb-true (length points) 16 g }
    by true false e g = absurd (uncut ps (f (λ u. clash (nat_le (length points) 16) (le-leb (length points) 16 u.few) g)))
    by false c e g = absurd (uncut ps (f (λ u. clash (nat_le 1 (length points)) (le-leb 1 (length points) u.some) e)))

first_of : (xs : List ℕ) → 1 ≤ length xs → (x : ℕ) × IsMember x xs
first_of [] h = absurd (omega (arith, h))
first_of (x ∷ xs) h = (x, inl refl)

pub within_points : (m : Nest) (points : List ℕ) (t : ℕ) → AreCutPoints m points → IsConsidered m t → (y : ℕ) → IsMember y points → (1 ≤ y) × (y < t)
within_points m points t are considered y i =
    let g = (are.each y).0 i in
    let same : g.0 ≡ t = considered_once m g.0 t g.1 considered in
    (g.2.gives.gives.point.from, subst (λ k. y < k) same g.2.gives.gives.point.to)

-- into pieces that end behind its points
pub record IsCutNest (n m : Nest) (l : Loop) (ps : Pieces) : Type 0 where
  pub points : List ℕ
  pub turns : ℕ
  pub considered : IsConsidered m turns
  pub rise : EndWith 0 (points ++ turns ∷ []) turns
  pub cut : IsCutAs n l (points ++ turns ∷ []) (Cut ps)

pub cut_nest : (n m : Nest) (l : Loop) (ps : Pieces) → outermost n.body ≡ Some l → IsNestAnswer n m (Cut ps) → IsCutNest n m l ps
cut_nest n m l ps e a =
    let used = used_points ps a.points a.unused in
    let x = first_of a.points used.some in
    let h = (a.are.each x.0).0 x.1 in
    let some = h.1.some in
    record {
      points = a.points;
      turns = h.0;
      considered = h.1;
      rise = end_with 0 a.points h.0 (AllPairs-from_increasing a.points a.are.rising)
          (λ y i. let w = (within_points m a.points h.0 a.are h.1 y i).0 in omega (arith, w))
          (λ y i. (within_points m a.points h.0 a.are h.1 y i).1)
          (omega (arith, some));
      cut = a.used h.0 l used h.1 e;
    }

-- the form of the first value, and the bounds by it
pub record IsCutBy (symbols : List (List ℕ)) (step : ℤ) (o : Option Affine) (ends : List ℕ) (ps : Pieces) : Type 0 where
  pub first : Affine
  pub form : o ≡ Some first
  pub bounds : List Bounds
  pub are : all_bounds first step 0 ends ≡ Some bounds
  pub is : ps ≡ record { symbols = symbols; bounds = bounds; step = step }

pub cut_is : (symbols : List (List ℕ)) (step : ℤ) (o : Option Affine) (ends : List ℕ) (ps : Pieces) → Cut ps ≡ cut_by symbols step o ends → IsCutBy symbols step o ends ps
cut_is symbols step None ends ps e = absurd (uncut ps e)
cut_is symbols step (Some a) ends ps e = by (all_bounds a step 0 ends) refl e
  where
    same : (qs : Pieces) → Cut ps ≡ Cut qs → ps ≡ qs
    same qs f = cc

    by : (o : Option (List Bounds)) → all_bounds a step 0 ends ≡ o → Cut ps ≡ whole_or symbols step o → IsCutBy symbols step (Some a) ends ps
    by None f g = absurd (uncut ps g)
    by (Some bs) f g = record { first = a; form = refl; bounds = bs; are = f; is = same (record { symbols = symbols; bounds = bs; step = step }) g }

pub found_form : (f : Form) (a : Affine) (o : Option Form) (q : Option Affine) → o ≡ Some f → q ≡ Some a → IsFound 0 o q → IsAffineOf 0 f a
found_form f a o q e g h = subst (λ r. IsFound 0 (Some f) r) g (subst (λ r. IsFound 0 r q) e h)

-- ---- the loops over the pieces

other_than_zero : (z : ℤ) → is_zero z ≡ false → z ≢ pos 0
other_than_zero z h e = clash (is_zero z) ((Decides-int_eq z (pos 0)).1 e) h

pub form_limited : (symbols : List (List ℕ)) (e : Expression) (f : Form) → form_of [] symbols e ≡ Some f → is_limited 0 f ≡ true
form_limited symbols e f h = text_limited 0 symbols e f h

module _ (lang own : Dialect) (limit : Option ℕ) (plain : lang.arrays ≡ false) (few : lang.bits ≤ 63) (p : Program) (are : AreDeclarations own p.declarations) (number : ℕ) (place : Numbered) (w : Surroundings)
    (stands : IsStatement p.declarations (as_statement place.loop) w) (assigns : are_assignments place.loop.body ≡ true) (ps : Pieces) (answer : IsAnswerTo (InNest (nest_of_loop p number place)) (Cut ps)) (s : State) (holds : HoldsProgram lang p s.store) where
  abbrev symbols : List (List ℕ)
  symbols = symbols_of p.declarations place.loop.variable place.loop.body

  abbrev step : ℤ
  step = (loop_of place).step

  cut : IsCutNest (nest_of_loop p number place) answer.0 (loop_of place) ps
  cut = cut_nest (nest_of_loop p number place) answer.0 (loop_of place) ps refl answer.2

  abbrev ends : List ℕ
  ends = cut.points ++ cut.turns ∷ []

  split : IsCutBy symbols step cut.cut.first ends ps
  split = cut_is symbols step cut.cut.first ends ps cut.cut.is

  made : IsMade symbols [] (loop_of place) (counted p number place answer.0 answer.1 cut.turns cut.considered).form
  made = forms p number place answer.0 answer.1 cut.turns cut.considered

  abbrev pieces : Pieces
  pieces = record { symbols = symbols; bounds = split.bounds; step = step }

  abbrev zs : List ℤ
  zs = values lang few p s.store holds own are place.loop.variable place.loop.body

  sized : AreSized zs
  sized = values_sized lang few p s.store holds own are place.loop.variable place.loop.body

  have : HaveValues symbols s.store zs
  have = known lang few p s.store holds own are place.loop.variable place.loop.body

  are_pieces : AreLoopsPieces lang limit place.loop pieces made.first_form ends
  are_pieces = record {
    first = split.first;
    form = found_form made.first_form split.first (form_of [] symbols place.loop.first) cut.cut.first made.first_linear split.form cut.cut.form;
    limits = form_limited symbols place.loop.first made.first_form made.first_linear;
    bounds = split.are;
    step = made.step_small;
    some_step = other_than_zero step made.step_other;
    body = λ c.
        assignments_leave_alone lang limit (record { line = place.loop.line; variable = place.loop.variable; step = c; body = place.loop.body }) symbols plain
        (assigns_others p.declarations place.loop.variable place.loop.body w assigns stands.5);
    apart = variable_apart p.declarations place.loop.variable place.loop.body;
  }

  abbrev m1 : ℤ
  m1 = number_at made.first_form zs

  abbrev m2 : ℤ
  m2 = number_at made.last_form zs

  number_is : (e : Expression) (f : Form) → form_of [] symbols e ≡ Some f → number_of lang e s.store ≡ Ok (number_at f zs)
  number_is e f h = ap (λ (r : Result Value Fault). do v ← r; as_number v) (linear_has_value lang [] symbols e f s.store zs h have sized)

  trip : trip_count m1 m2 step ≡ Ok cut.turns
  unfolding made
  trip =
      trip_is m1 m2 step cut.turns
      (limited_size made.first_form zs (form_limited symbols place.loop.first made.first_form made.first_linear) sized)
      (limited_size made.last_form zs (form_limited symbols place.loop.last made.last_form made.last_linear) sized)
      (leb-true (nat_abs step) (2 ^ 40) made.step_small)
      (quotient_is p number place answer.0 answer.1 cut.turns cut.considered (numbers lang few p s.store holds own are place.loop.variable place.loop.body) m1 m2 refl refl)
      cut.considered.few

  pub cut_runs : does_all lang limit (block (loops_over ps place.loop.line place.loop.variable place.loop.body)) s ≡ does lang limit (as_statement place.loop) s
  cut_runs =
      ap (λ (qs : Pieces). does_all lang limit (block (loops_over qs place.loop.line place.loop.variable place.loop.body)) s) split.is
      ∙ loops_over_pieces_run_as_loop lang limit place.loop pieces made.first_form ends cut.turns s zs m2 are_pieces cut.rise (let h = cut.considered.some in omega (arith, h)) have sized
      (number_is place.loop.first made.first_form made.first_linear) (number_is place.loop.last made.last_form made.last_linear)
      (increment_is lang place.loop.step s.store made.step_other) trip
