-- What the forms in an emission ask for beside the facts of the nest: trips as they are written, names of their own,
-- and declared loop variables.
use Rattle.std.proofs.Common.{◌≡◌, refl, sym, ap, ◌∙◌, subst, ◌⊎◌, inl, inr, ℕ, zero, suc, ◌+◌, ◌-◌, ◌<◌, ◌≤◌, ◌==◌}
use Rattle.std.proofs.Common.{nat_le, ℤ, pos, negsuc, neg_ℤ, int_div, Bool, true, false, cond, ◌&&◌, List, [], ◌∷◌}
use Rattle.std.proofs.Common.{◌++◌, drop, length, replicate, Some, Result, Ok, Err, append-nil, div-one, arith}
use Rattle.std.specs.Prelude.{IsSomeAnd, ◌≤ℤ◌}
use Rattle.std.specs.Ordering.{int_eq}
use Rattle.std.proofs.lemmas.Bool.{leb-true}
use Rattle.std.proofs.lemmas.Int.{ints}
use Rattle.std.proofs.lemmas.List.{length-append, length-drop, length-replicate}
use Rattle.array_form.specs.forms.Trips.{AreDistinct, divided}
use Rattle.array_form.proofs.forms.Coefficients.{found_form}
use Rattle.dependence_graph.proofs.dep_graph.FormValues.{affine_value}
use Rattle.emission.specs.emission_pieces.Nests.{loops_at}
use Rattle.tree.specs.Operators.{apply, as_number, fits, number, quotient}
use Rattle.tree.specs.Plain.{Declaration, Expression, Number, Binary}
use Rattle.tree.specs.declared.ops.Fault.{Fault}
use Rattle.tree.specs.declared.ops.Fault.TheVariants.{Overflow, ZeroDivide}
use Rattle.tree.specs.declared.ops.Kind.TheVariants.{Integer}
use Rattle.tree.specs.declared.ops.Op.TheVariants.{Div}
use Rattle.tree.specs.declared.ops.Value.{Value}
use Rattle.tree.specs.declared.ops.Value.TheVariants.{Int}
use Rattle.meaning.specs.Dialect.{Dialect}
use Rattle.meaning.specs.Store.{Store}
use Rattle.meaning.specs.Typed.{declared}
use Rattle.meaning.specs.Value.{number_of, value_of}
use Rattle.emission.specs.graph_orders.Nests.{run_nest}
use Rattle.linear_forms.specs.Laws.{AreSized}
use Rattle.linear_forms.specs.Linear.{Form, HaveValues, all_small, form_of, is_small, not_zero, number_at}
use Rattle.linear_forms.specs.Places.{padded, terms_from}
use Rattle.linear_forms.specs.Affines.{IsAffineOf}
use Rattle.linear_forms.proofs.Faultless.{linear_has_value}
use Rattle.nest_order.specs.facts.Facts.{values_from}
use Rattle.dependence_graph.specs.nest_graph.Instances.{turns_at}
use Rattle.dependence_graph.specs.nest_graph.Ready.{IsTripIn}
use Rattle.nest_order.specs.orders.Lists.{In}
use Rattle.nest_order.specs.orders.Shapes.{loops_of_shape}
use Rattle.nest_order.specs.runs.Stores.{Setting}
use Rattle.nest_order.proofs.runs.Results.{both_ok, ok_same}
use Rattle.nest.specs.declared.parts.Trip.{Trip}
use Rattle.nest.specs.Bodies.{nest_statements}
use Rattle.nest.specs.Plain.{Loop, Nest}
use Rattle.array_form.specs.holds.Surroundings.{coefficients_from}
use Rattle.subscripts.specs.Forms.{value_at}
use Rattle.subscripts.specs.Shapes.{IsForm}
use Rattle.emission.specs.emission_forms.Written.{HasFormFacts, HaveTripTexts, IsTripText}
use Rattle.emission.proofs.EmissionForms.FormsLimits.{values_same}

-- ---- symbols of a trip

terms_counted : (o : ℕ) (cs : List ℤ) → length (terms_from o cs) ≡ not_zero cs
terms_counted o [] = refl
terms_counted o (c ∷ cs) = by (int_eq c (pos 0)) (terms_counted (suc o) cs)
  where
    by : (b : Bool) → length (terms_from (suc o) cs) ≡ not_zero cs → length (cond b (terms_from (suc o) cs) ((o, c) ∷ terms_from (suc o) cs)) ≡ cond b (not_zero cs) (suc (not_zero cs))
    by true more = more
    by false more = ap suc more

eight_places : (ts : List (ℕ × ℤ)) → length ts ≤ 8 → length (padded ts) ≡ 8
eight_places ts h =
    let e = length-append ts (replicate (8 - length ts) (0, pos 0)) in
    let f : length (replicate {A = ℕ × ℤ} (8 - length ts) (0, pos 0)) ≡ 8 - length ts = length-replicate (8 - length ts) (0, pos 0) in omega arith

back_zeros : (p m : ℕ) → coefficients_from p (replicate m (0, pos 0)) ≡ []
back_zeros p zero = refl
back_zeros p (suc m) = refl

-- the places of the terms of coefficients are theirs
back_short : (cs : List ℤ) (p o m : ℕ) → p ≤ o → length (coefficients_from p (terms_from o cs ++ replicate m (0, pos 0))) ≤ (o - p) + length cs
back_short [] p o m h = let e : length (coefficients_from p (replicate m (0, pos 0))) ≡ 0 = ap (λ (xs : List ℤ). length xs) (back_zeros p m) in omega arith
back_short (c ∷ cs) p o m h = by (int_eq c (pos 0)) refl (back_short cs p (suc o) m (omega arith)) (back_short cs (suc o) (suc o) m (omega arith))
  where
    by : (b : Bool) → int_eq c (pos 0) ≡ b → length (coefficients_from p (terms_from (suc o) cs ++ replicate m (0, pos 0))) ≤ (suc o - p) + length cs
        → length (coefficients_from (suc o) (terms_from (suc o) cs ++ replicate m (0, pos 0))) ≤ (suc o - suc o) + length cs
        → length (coefficients_from p (cond b (terms_from (suc o) cs) ((o, c) ∷ terms_from (suc o) cs) ++ replicate m (0, pos 0))) ≤ (o - p) + suc (length cs)
    by true e more least = omega arith
    by false e more least =
        let rest = coefficients_from (suc o) (terms_from (suc o) cs ++ replicate m (0, pos 0)) in
        let q : length (replicate (o - p) (pos 0) ++ c ∷ rest) ≤ (o - p) + suc (length cs) = let f = length-append (replicate (o - p) (pos 0)) (c ∷ rest) in let g = length-replicate (o - p) (pos 0) in omega arith in
        subst (λ b. length (cond b [] (replicate (o - p) (pos 0) ++ c ∷ rest)) ≤ (o - p) + suc (length cs)) (sym e) q

-- ---- what is known of a trip by itself

pub record IsKnownTrip (depth : ℕ) (symbols : List (List ℕ)) (t : Trip) : Type 0 where
  pub top : IsForm depth t.top
  pub by : ℕ
  pub by_is : t.by ≡ pos by
  pub least : 1 ≤ by
  pub seven : length t.top.loops ≡ 7
  pub eight : length t.top.syms ≡ 8
  pub short : length (coefficients_from 0 t.top.syms) ≤ length symbols

limits_parts : (a b c : Bool) → (a && (b && c)) ≡ true → c ≡ true
limits_parts true true c h = h
limits_parts true false c h = cc
limits_parts false b c h = cc

positive_by : (z : ℤ) → pos 1 ≤ℤ z → (b : ℕ) × (z ≡ pos b) × (1 ≤ b)
positive_by (pos b) h = (b, refl, omega (arith, ints))
positive_by (negsuc b) h = absurd (omega (arith, ints))

pub known_of_text : (round symbols : List (List ℕ)) (last : Expression) (t : Trip) → IsTripIn (length round) t → IsTripText round symbols last t → IsKnownTrip (length round) symbols t
known_of_text round symbols last t ready text =
    let cs = drop (length round) text.form.coefficients in
    let found : (e : Expression) × (form_of round symbols e ≡ Some text.form) = elim text.text [ inl x ↦ (last, x.0) | inr x ↦ (x.0, x.3) ] in
    let limits = found_form round symbols found.0 text.form found.1 in
    let count : not_zero cs ≤ 8 = leb-true (not_zero cs) 8 (limits_parts (all_small text.form.coefficients) (is_small text.form.constant) (nat_le (not_zero cs) 8) limits.limits) in
    let terms = terms_counted 0 cs in
    let few : length (terms_from 0 cs) ≤ 8 = omega arith in
    let size : length cs ≤ length symbols = let e = length-drop (length round) text.form.coefficients in let f = limits.short in let g = length-append round symbols in omega arith in
    let b = positive_by t.by ready.positive in
    record {
      top = ready.top;
      by = b.0;
      by_is = b.1;
      least = b.2;
      seven = text.seven;
      eight = ap (λ (ts : List (ℕ × ℤ)). length ts) text.top.symbols ∙ eight_places (terms_from 0 cs) few;
      short = subst (λ ts. length (coefficients_from 0 ts) ≤ length symbols) (sym text.top.symbols) (let e = back_short cs 0 0 (8 - length (terms_from 0 cs)) (omega arith) in omega arith);
    }

-- ---- its value

pub by_one : (z : ℤ) → int_div z (pos 1) ≡ z
by_one (pos m) = ap pos (div-one m)
by_one (negsuc m) = ap (λ k. neg_ℤ (pos k)) (div-one (suc m))

pub divided_is : (b : ℕ) (z : ℤ) → divided b z ≡ int_div z (pos b)
divided_is zero z = refl
divided_is (suc zero) z = sym (by_one z)
divided_is (suc (suc b)) z = let e : (suc (suc b) == 1) ≡ false = grind arith in ap (λ c. cond c z (int_div z (pos (suc (suc b))))) e

quotient_is : (m z : ℤ) (b : ℕ) → (v : Value) → apply Div (Int m) (Int (pos b)) ≡ Ok v → as_number v ≡ Ok z → z ≡ int_div m (pos b)
quotient_is m z b v e f =
    let p = both_ok (quotient m (pos b)) number v e in
    by (int_eq (pos b) (pos 0)) p.0 p.1 p.2
  where
    last : (q : ℤ) → number q ≡ Ok v → z ≡ q
    last q h = on (fits 127 q) h
      where
        on : (c : Bool) → ◌≡◌ {A = Result Value Fault} (cond c (Ok (Int q)) (Err Overflow)) (Ok v) → z ≡ q
        on true h = let g : Int q ≡ v = ok_same {F = Fault} (Int q) v h in sym (ok_same {F = Fault} q z (ap as_number g ∙ f))
        on false h = cc

    by : (c : Bool) (q : ℤ) → ◌≡◌ {A = Result ℤ Fault} (cond c (Err ZeroDivide) (Ok (int_div m (pos b)))) (Ok q) → number q ≡ Ok v → z ≡ int_div m (pos b)
    by true q f h = cc
    by false q f h = last q h ∙ sym (ok_same {F = Fault} (int_div m (pos b)) q f)

module _ (lang : Dialect) (round symbols : List (List ℕ)) (v : ℕ → ℤ) (xs : List ℤ) (s : Store) (long : length xs ≡ length round)
    (have : HaveValues (round ++ symbols) s (xs ++ values_from v 0 symbols)) (sized : AreSized (xs ++ values_from v 0 symbols)) where
  -- where the loops round it have the numbers xs, it has its number of turns
  pub trip_has_value : (last : Expression) (t : Trip) (z : ℤ) → IsTripText round symbols last t → number_of lang last s ≡ Ok z → z ≡ turns_at t v xs
  trip_has_value last t z text e = on text.text
    where
      value : (a : Expression) → form_of round symbols a ≡ Some text.form → value_of lang a s ≡ Ok (Int (value_at t.top v xs))
      value a g =
          let short = (found_form round symbols a text.form g).short in
          let both = length-append round symbols in
          linear_has_value lang round symbols a text.form s (xs ++ values_from v 0 symbols) g have sized
          ∙ ap (λ k. Ok (Int k)) (sym (ap (value_at t.top v) (sym (append-nil xs)) ∙ (affine_value text.form t.top symbols v xs [] (subst (λ m. IsAffineOf m text.form t.top) (sym long) text.top) (omega arith)
          ∙ ap (λ vs. number_at text.form (xs ++ vs)) (values_same v 0 symbols))))

      on : ((form_of round symbols last ≡ Some text.form) × (t.by ≡ pos 1))
          ⊎ ((a : Expression) × (b : ℕ) × (last ≡ Binary Div a (Number (pos b))) × (form_of round symbols a ≡ Some text.form) × (t.by ≡ pos b)) → z ≡ turns_at t v xs
      on (inl (g, one)) =
          let p = both_ok (value_of lang last s) as_number z e in
          let q : p.0 ≡ Int (value_at t.top v xs) = ok_same {F = Fault} p.0 (Int (value_at t.top v xs)) (sym p.1 ∙ value last g) in
          sym (ok_same {F = Fault} (value_at t.top v xs) z (ap as_number (sym q) ∙ p.2)) ∙ (sym (by_one (value_at t.top v xs)) ∙ ap (int_div (value_at t.top v xs)) (sym one))
      on (inr (a, b, same, g, is)) =
          let p = both_ok (value_of lang last s) as_number z e in
          let val : value_of lang (Binary Div a (Number (pos b))) s ≡ Ok p.0 = subst (λ k. value_of lang k s ≡ Ok p.0) same p.1 in
          let q = both_ok (value_of lang a s) (λ x. apply Div x (Int (pos b))) p.0 val in
          let r : q.0 ≡ Int (value_at t.top v xs) = ok_same {F = Fault} q.0 (Int (value_at t.top v xs)) (sym q.1 ∙ value a g) in
          quotient_is (value_at t.top v xs) z b p.0 (subst (λ x. apply Div x (Int (pos b)) ≡ Ok p.0) r q.2) p.2 ∙ ap (int_div (value_at t.top v xs)) (sym is)
