-- A loop whose trip is a constant turns as often at most, at whatever iterations of the loops round it.
use Rattle.std.proofs.Common.{◌≡◌, inl, inr, ◌⊎◌, refl, sym, ap, ◌∙◌, subst, ℕ, zero, suc, ◌+◌, ◌<◌, ◌≤◌, ◌==◌, nat_le, ℤ, pos, negsuc}
use Rattle.std.proofs.Common.{int_div, nat_abs, ◌+ℤ◌, ◌*ℤ◌, Bool, true, false, cond, List, [], ◌∷◌, ◌++◌, map, length, get_or, replicate, Some, arith}
use Rattle.std.specs.Ordering.{int_eq}
use Rattle.std.proofs.lemmas.Bool.{and_parts, cases_lt}
use Rattle.std.proofs.lemmas.Bool.Decides.{Decides-int_eq}
use Rattle.std.proofs.lemmas.Int.{ints}
use Rattle.std.proofs.lemmas.List.{length-replicate}
use Rattle.array_form.specs.forms.Loops.{FormTrip}
use Rattle.array_form.specs.holds.Bounds.{is_constant_trip}
use Rattle.array_form.specs.holds.Statements.{no_statement}
use Rattle.array_form.specs.holds.Surroundings.{coefficients_from, counted_loop, form_of_affine, form_trip_of}
use Rattle.array_form.specs.lone.Cells.{KeepConstantTrips}
use Rattle.dependence_graph.specs.nest_graph.Instances.{turns_at}
use Rattle.dependence_graph.specs.nest_graph.Ready.{IsReady}
use Rattle.emission.specs.emission_pieces.Nests.{loops_at, standing_at}
use Rattle.emission.specs.graph_orders.Nests.{turns_in, turns_of_loop, turns_of_trip}
use Rattle.emission.proofs.EmissionForms.FormsGiven.{IsKnownTrip, by_one}
use Rattle.emission.proofs.EmissionForms.FormsLimits.{number_of_form, value_by_front}
use Rattle.emission.proofs.EmissionForms.FormsTurns.{HaveKnown, front_get, trip_in}
use Rattle.emission.proofs.EmissionForms.Surroundings.{known_loop}
use Rattle.linear_forms.specs.Linear.{not_zero, weighted}
use Rattle.meaning.specs.Sections.{not_negative}
use Rattle.nest.specs.Bodies.{nest_loops, nest_statements}
use Rattle.nest.specs.Plain.{Loop, Nest}
use Rattle.nest_order.specs.facts.Facts as facts
use Rattle.nest_order.specs.orders.Lists.{In}
use Rattle.nest_order.specs.runs.Touched.{nth_of}
use Rattle.nest_order.specs.shapes.Shapes.{IsPlain, loop_numbered}
use Rattle.subscripts.specs.Forms.{value_at}
use Rattle.nest.specs.declared.parts.Trip.{Trip}

-- ---- lists

nth_in : {X : Type 0} (xs : List X) (j : ℕ) (x : X) → nth_of xs j ≡ Some x → In x xs
nth_in [] j x e = cc
nth_in (y ∷ xs) zero x e = inl (let p : x ≡ y = cc in p)
nth_in (y ∷ xs) (suc j) x e = inr (nth_in xs j x e)

nth_map : {X Y : Type 0} (f : X → Y) (xs : List X) (j : ℕ) (x : X) (y : Y) → nth_of xs j ≡ Some x → nth_of (map f xs) j ≡ Some y → f x ≡ y
nth_map f [] j x y e g = cc
nth_map f (z ∷ xs) zero x y e g = let p : x ≡ z = cc in let q : f z ≡ y = cc in ap f p ∙ q
nth_map f (z ∷ xs) (suc j) x y e g = nth_map f xs j x y e g

-- ---- forms without names

abbrev HasNoNames : List ℤ → Type 0
HasNoNames cs = not_zero cs ≡ 0

first_zero : (c : ℤ) (cs : List ℤ) → HasNoNames (c ∷ cs) → (c ≡ pos 0) × HasNoNames cs
first_zero c cs h = by (int_eq c (pos 0)) refl h
  where
    by : (b : Bool) → int_eq c (pos 0) ≡ b → cond b (not_zero cs) (suc (not_zero cs)) ≡ 0 → (c ≡ pos 0) × HasNoNames cs
    by true e g = ((Decides-int_eq c (pos 0)).0 e, g)
    by false e g = absurd (omega (arith, g))

zero_at : (cs : List ℤ) (k : ℕ) → HasNoNames cs → get_or cs k (pos 0) ≡ pos 0
zero_at [] k h = refl
zero_at (c ∷ cs) zero h = (first_zero c cs h).0
zero_at (c ∷ cs) (suc k) h = zero_at cs k (first_zero c cs h).1

weighs_nothing : (cs xs : List ℤ) → HasNoNames cs → weighted cs xs ≡ pos 0
weighs_nothing [] xs h = refl
weighs_nothing (c ∷ cs) [] h = refl
weighs_nothing (c ∷ cs) (x ∷ xs) h =
    let f = first_zero c cs h in
    ap (λ z. z *ℤ x +ℤ weighted cs xs) f.0 ∙ (ap (λ z. pos 0 *ℤ x +ℤ z) (weighs_nothing cs xs f.1) ∙ nought x)
  where
    nought : (x : ℤ) → pos 0 *ℤ x +ℤ pos 0 ≡ pos 0
    nought x = omega (arith, ints)

only_constant : (w z : ℤ) → w ≡ pos 0 → w +ℤ z ≡ z
only_constant w z e = ap (λ y. y +ℤ z) e ∙ nothing z
  where
    nothing : (z : ℤ) → pos 0 +ℤ z ≡ z
    nothing z = omega (arith, ints)

-- ---- a constant trip

-- of loops with so many loops round the statement
module _ (m depth : ℕ) (symbols : List (List ℕ)) (t : Trip) (known : IsKnownTrip depth symbols t) (deep : depth ≤ m) (few : m ≤ 7)
    (none : HasNoNames (form_of_affine m t.top).coefficients) where
  no_loop : (k : ℕ) → get_or t.top.loops k (pos 0) ≡ pos 0
  no_loop k = by (cases_lt k m)
    where
      by : (k < m) ⊎ (m ≤ k) → get_or t.top.loops k (pos 0) ≡ pos 0
      by (inl h) =
          let seven = known.seven in
          sym (front_get m t.top.loops (coefficients_from 0 t.top.syms) k h (omega arith)) ∙ zero_at (form_of_affine m t.top).coefficients k none
      by (inr h) = known.top.past_depth k (omega arith)

  -- it has one value
  pub same_value : (v : ℕ → ℤ) (xs : List ℤ) → value_at t.top v xs ≡ t.top.constant
  same_value v xs =
      let zs = replicate m (pos 0) in
      value_by_front t.top v [] xs (λ k h. no_loop k)
      ∙ (sym (value_by_front t.top v [] zs (λ k h. no_loop k))
      ∙ (sym (number_of_form m depth t.top symbols v zs deep few known.seven known.eight known.top known.short (length-replicate m (pos 0)))
      ∙ only_constant (weighted (form_of_affine m t.top).coefficients (zs ++ facts.values_from v 0 symbols)) t.top.constant
      (weighs_nothing (form_of_affine m t.top).coefficients (zs ++ facts.values_from v 0 symbols) none)))

counted_most : (z : ℤ) → facts.counted z ≤ not_negative z
counted_most (pos k) = by (nat_le k 2147483646)
  where
    by : (b : Bool) → cond b k 0 ≤ k
    by true = omega arith
    by false = omega arith
counted_most (negsuc k) = omega arith

-- ---- the loops round a statement

pub record IsKnownLoop (symbols : List (List ℕ)) (most : ℕ) (l : Loop) : Type 0 where
  pub has : l.trip ≡ Some (trip_in l)
  pub depth : ℕ
  pub deep : depth ≤ most
  pub trip : IsKnownTrip depth symbols (trip_in l)

known_at : (symbols : List (List ℕ)) (d : ℕ) (ls : List Loop) (j : ℕ) (l : Loop) → HaveKnown symbols d ls → nth_of ls j ≡ Some l → IsKnownLoop symbols (d + length ls) l
known_at symbols d [] j l h e = cc
known_at symbols d (k ∷ ls) zero l h e =
    let p : k ≡ l = cc in
    subst (IsKnownLoop symbols (d + suc (length ls))) p (record { has = h.0; depth = d; deep = omega arith; trip = h.1 })
known_at symbols d (k ∷ ls) (suc j) l h e =
    let more = known_at symbols (suc d) ls j l h.2 e in
    let deep = more.deep in
    record { has = more.has; depth = more.depth; deep = omega arith; trip = more.trip }

abs_one : (b : ℕ) (z : ℤ) → z ≡ pos b → nat_abs z ≡ 1 → z ≡ pos 1
abs_one b z e h = e ∙ ap pos (sym (ap nat_abs e) ∙ h)

one_is : (d : ℕ) → (d == 1) ≡ true → d ≡ 1
one_is d e = grind arith

none_is : (d : ℕ) → (d == 0) ≡ true → d ≡ 0
none_is d e = grind arith

module _ (n : Nest) (v : ℕ → ℤ) (m : ℕ) (few : m ≤ 7) (l : Loop) (known : IsKnownLoop n.symbols m l) (there : loop_numbered (nest_loops n) l.number ≡ Some l) where
  abbrev form_trip : FormTrip
  form_trip = form_trip_of m (counted_loop l).trip

  constant_turns : (before : List ℕ) → is_constant_trip form_trip ≡ true → turns_in n v l.number before ≤ not_negative form_trip.form.constant
  constant_turns before h =
      let p = and_parts (form_trip.divisor == 1) (not_zero form_trip.form.coefficients == 0) h in
      let by_is : (trip_in l).by ≡ pos 1 = abs_one known.trip.by (trip_in l).by known.trip.by_is (one_is form_trip.divisor p.0) in
      let none : HasNoNames (form_of_affine m (trip_in l).top).coefficients = none_is (not_zero form_trip.form.coefficients) p.1 in
      let value = same_value m known.depth n.symbols (trip_in l) known.trip known.deep few none v (map pos before) in
      let turns : turns_at (trip_in l) v (map pos before) ≡ (trip_in l).top.constant
      = ap (int_div (value_at (trip_in l).top v (map pos before))) by_is ∙ (by_one (value_at (trip_in l).top v (map pos before)) ∙ value) in
      let count : turns_in n v l.number before ≡ facts.counted (trip_in l).top.constant
      = ap (λ o. turns_of_loop o v before) there ∙ (ap (λ o. turns_of_trip o v before) known.has ∙ ap facts.counted turns) in
      subst (λ k. k ≤ not_negative (trip_in l).top.constant) (sym count) (counted_most (trip_in l).top.constant)

pub constant_trips : (n : Nest) (plain : IsPlain n.body) (ready : IsReady n) (s : ℕ) (within : s < length (nest_statements n)) → HaveKnown n.symbols 0 (loops_at n s) → (v : ℕ → ℤ)
    → KeepConstantTrips (turns_in n) v (standing_at n s)
constant_trips n plain ready s within known v j l t before at round h =
    let m = length (loops_at n s) in
    let few : m ≤ 7 = (ready.statements s no_statement within).depth in
    let same : form_trip_of m (counted_loop l).trip ≡ t = nth_map (λ (k : Loop). form_trip_of m (counted_loop k).trip) (loops_at n s) j l t at round in
    let there = known_loop n plain ready s within l (nth_in (loops_at n s) j l at) in
    let most = constant_turns n v m few l (subst (λ k. IsKnownLoop n.symbols k l) (let e : 0 + m ≡ m = omega arith in e) (known_at n.symbols 0 (loops_at n s) j l known at)) there before (subst (λ (u : FormTrip). is_constant_trip u ≡ true) (sym same) h) in
    subst (λ (u : FormTrip). turns_in n v l.number before ≤ not_negative u.form.constant) same most
