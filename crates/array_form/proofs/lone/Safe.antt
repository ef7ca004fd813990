-- The references of safe statements name cells in each instance, whatever the guard is there.
use Rattle.std.proofs.Common.{◌≡◌, refl, sym, ap, ap₂, ◌∙◌, subst, ◌⊎◌, inl, inr, ℕ, suc, ◌≤◌, ◌==◌, ℤ, pos, negsuc, ◌+ℤ◌, ◌*ℤ◌, ◌≤ℤ◌, Bool, true, false, ◌&&◌, ◌||◌, cond, List, [], ◌∷◌, ◌++◌, map, drop, length, Ok, Err, Option, Some, None, Contains, arith}
use Rattle.std.specs.Prelude.{int_le, is_none, is_some, unwrap_or, IsSome}
use Rattle.std.specs.List.{flat_map, list_all, list_any}
use Rattle.std.specs.Option.{option_map}
use Rattle.std.specs.Cmp.Lexicographic.{pointwise}
use Rattle.std.specs.Ordering.{int_eq}
use Rattle.std.specs.Str.{bytes_eq}
use Rattle.std.proofs.lemmas.Bool.{eqb-true}
use Rattle.std.proofs.lemmas.Bool.Decides.{Decides-int_eq}
use Rattle.std.proofs.lemmas.Int.{ints}
use Rattle.std.proofs.lemmas.Slice.Eq.{bytes_eq-Decides}
use Rattle.tree.specs.Plain.{Expression, Number, Logic, Named, Unary, Binary, Apply, Constructor, Spread, Transpose, Reshape, Reduce, Expressions, no_expressions, expression, Subscript, Only, Section, Subscripts, no_subscripts, subscript, Reference}
use Rattle.meaning.specs.Sections.{not_negative}
use Rattle.meaning.specs.Store.{Cell, cell_in, is_within}
use Rattle.meaning_laws.proofs.arrays.Members.{here, there, nowhere, cases_of}
use Rattle.linear_forms.proofs.LinearLaws.{number_at-sum, number_at-multiple}
use Rattle.linear_forms.specs.Linear.{Form, form_of, multiple, not_zero, number_at, sum, weighted}
use Rattle.dependence_graph.specs.nest_graph.References as graph
use Rattle.dependence_graph.specs.nest_graph.References.{references_of, own_reference}
use Rattle.nest.specs.Bodies.{Standing, nest_statements}
use Rattle.nest.specs.Plain.{Loop}
use Rattle.nest.specs.Plain as plain
use Rattle.nest_order.specs.facts.Facts.{HasFacts, number_by, places_of, values_from}
use Rattle.nest_order.specs.orders.Lists.{In}
use Rattle.nest_order.proofs.orders.Lists.{In-append, In-left, In-right}
use Rattle.nest_order.proofs.orders.Common.{statement_stands}
use Rattle.nest_order.proofs.orders.Membership.{In-map, instance_stands, stands_instance}
use Rattle.nest_order.proofs.orders.Once.{stands_in_statements}
use Rattle.nest_order.specs.orders.Nests.{IsInstance}
use Rattle.nest_order.specs.orders.Shapes.{Instance, instances, Within}
use Rattle.tree.specs.declared.ops.Fault.TheVariants.{Bounds}
use Rattle.nest_order.specs.runs.Cells.{NamesCell}
use Rattle.nest_order.specs.runs.Guarded.{GuardedAssignment}
use Rattle.nest_order.specs.runs.Nests.{RunNest}
use Rattle.nest_order.specs.runs.Stores.{Setting, IsNestIn}
use Rattle.nest_order.specs.runs.Touched.{IsPlain, EachIsPlain, ArePlain, IsPlainSubscript, IsPlainAssignment, IsPlainGuard, MayHave, MayHaveEach, nth_of, touched_in, references_in_each, touched_in_subscripts, touched_in_subscript, touched_in_guard, references_read}
use Rattle.nest_order.specs.shapes.Shapes.{guarded_of, loops_round, nest_of}
use Rattle.nest_order.proofs.runs.Cells.{unguarded_instances_name_cells}
use Rattle.nest_order.proofs.runs.Alone.{stands_loops}
use Rattle.nest_order.proofs.runs.Runs.{run_is_instances}
use Rattle.meaning_laws.proofs.arrays.OneToOne.{of_flat_map}
use Rattle.array_form.specs.forms.Loops.{FormTrip}
use Rattle.array_form.specs.holds.Bounds.{Bounded, Term, bounded_subscripts, coefficients_of, declared_bounds, form_in, is_between, is_constant_trip, is_in_box, is_made, is_met, is_safe, is_safe_subscript, is_same, is_sized, is_zero_form, iterations_of, lies_within, loop_numbers_round, meets, stays_between, subscripts_of, terms_in, trips_round, subscripts_with_bounds}
use Rattle.array_form.specs.holds.Surroundings.{counted_loop, form_trip_of}
use Rattle.array_form.specs.lone.Cells.{AreLinear, HasCells, HasDeclaredBounds, HaveCells, IsReferenceOf, KeepConstantTrips, RunNamesCells, SafeStatementsHaveCells, StatementsStand, UnguardedNameCells}
use Rattle.array_form.proofs.forms.Positions.{AreFrom, from_sequence, in_flat_map}
use Rattle.array_form.proofs.forms.Tests.{all_nought}
use Rattle.array_form.proofs.lone.Instances.{contains_in}
use Rattle.array_form.proofs.holds.BoxLaws.{at_all, both_parts, le_true, true_le}
use Rattle.tree.specs.Widths.{bits_of}
use Rattle.tree.specs.declared.width.Width.{Width}

-- ---- the run of a nest

pub run_names_cells : RunNamesCells
run_names_cells bits n w y s ok inside go x is free r i =
    let run = run_is_instances bits n w y s ok inside go in
    let k = statement_stands n.shape x.statement is.0 in
    let e : k.0 ≡ n.loops_of x.statement = sym (ok.text.nest.fits x.statement k.0 k.1) in
    let there = stands_instance (n.turns_of w.values) n.shape [] x.statement k.0 x.iterations k.1 (subst (λ ls. Within (n.turns_of w.values) [] ls x.iterations) (sym e) is.1) in
    unguarded_instances_name_cells bits n w (instances (n.turns_of w.values) n.shape []) s.store run.0 ok inside (each n ok) run.1 x there free r i
  where
    each : (n : RunNest) → IsNestIn bits n w → (z : Instance) → In z (instances (n.turns_of w.values) n.shape []) → IsInstance n.loops_of (n.turns_of w.values) n.shape z
    each n ok z j =
        let h = instance_stands (n.turns_of w.values) n.shape [] z j in
        (stands_in_statements n.shape z.statement h.loops h.stands, subst (λ ls. Within (n.turns_of w.values) [] ls z.iterations) (sym (ok.text.nest.fits z.statement h.loops h.stands)) h.within)

-- ---- references

module _ (loops : List (List ℕ)) where
  -- a variable of a loop
  abbrev IsLoopVariable : Reference → Type 0
  IsLoopVariable r = (r.subscripts ≡ no_subscripts) × (graph.is_among loops r.name ≡ true)

  abbrev Splits : List Reference → List Reference → Type 0
  Splits rs qs = (r : Reference) → In r rs → IsLoopVariable r ⊎ In r qs

  splits_append : (xs us ys vs : List Reference) → Splits xs us → Splits ys vs → Splits (xs ++ ys) (us ++ vs)
  splits_append xs us ys vs f g r i = by (In-append r xs ys i)
    where
      by : In r xs ⊎ In r ys → IsLoopVariable r ⊎ In r (us ++ vs)
      by (inl j) = elim (f r j) [ inl a ↦ inl a | inr b ↦ inr (In-left r us vs b) ]
      by (inr j) = elim (g r j) [ inl a ↦ inl a | inr b ↦ inr (In-right r us vs b) ]

  own_splits : (x : List ℕ) (ps : Subscripts) → Splits (record { name = x; subscripts = ps } ∷ []) (own_reference loops x ps)
  own_splits x no_subscripts r (inr i) = absurd i
  own_splits x no_subscripts r (inl e) = by (graph.is_among loops x) refl
    where
      by : (b : Bool) → graph.is_among loops x ≡ b → IsLoopVariable r ⊎ In r (cond b [] (record { name = x; subscripts = no_subscripts } ∷ []))
      by true g = inl (ap (λ (q : Reference). q.subscripts) e, ap (λ (q : Reference). graph.is_among loops q.name) e ∙ g)
      by false g = inr (inl e)
  own_splits x (subscript p ps) r i = inr i

  mutual
    splits_in : (e : Expression) → Splits (touched_in e) (graph.references_in loops e)
    splits_in (Number n) = λ r i. absurd i
    splits_in (Logic b) = λ r i. absurd i
    splits_in (Named x ps) = splits_append (record { name = x; subscripts = ps } ∷ []) (own_reference loops x ps) (touched_in_subscripts ps) (graph.references_in_subscripts loops ps) (own_splits x ps) (splits_in_subscripts ps)
    splits_in (Unary o a) = splits_in a
    splits_in (Binary o a b) = splits_append (touched_in a) (graph.references_in loops a) (touched_in b) (graph.references_in loops b) (splits_in a) (splits_in b)
    splits_in (Apply f es) = splits_in_each es
    splits_in (Constructor es ls) = λ r i. absurd i
    splits_in (Spread a n e) = λ r i. absurd i
    splits_in (Transpose a) = λ r i. absurd i
    splits_in (Reshape a es) = λ r i. absurd i
    splits_in (Reduce o a) = λ r i. absurd i

    splits_in_each : (es : Expressions) → Splits (references_in_each es) (graph.references_in_all loops es)
    splits_in_each no_expressions = λ r i. absurd i
    splits_in_each (expression e es) = splits_append (touched_in e) (graph.references_in loops e) (references_in_each es) (graph.references_in_all loops es) (splits_in e) (splits_in_each es)

    splits_in_subscripts : (ps : Subscripts) → Splits (touched_in_subscripts ps) (graph.references_in_subscripts loops ps)
    splits_in_subscripts no_subscripts = λ r i. absurd i
    splits_in_subscripts (subscript p ps) = splits_append (touched_in_subscript p) (graph.references_in_subscript loops p) (touched_in_subscripts ps) (graph.references_in_subscripts loops ps) (splits_in_subscript p) (splits_in_subscripts ps)

    splits_in_subscript : (p : Subscript) → Splits (touched_in_subscript p) (graph.references_in_subscript loops p)
    splits_in_subscript (Only e) = splits_in e
    splits_in_subscript (Section a b c) = λ r i. absurd i

  splits_in_guard : (o : Option Expression) → Splits (touched_in_guard o) (graph.references_in_guard loops o)
  splits_in_guard None = λ r i. absurd i
  splits_in_guard (Some e) = splits_in e

  -- those that a graph has are read
  abbrev Comes : List Reference → List Reference → Type 0
  Comes qs rs = (r : Reference) → In r qs → In r rs

  comes_append : (xs us ys vs : List Reference) → Comes xs us → Comes ys vs → Comes (xs ++ ys) (us ++ vs)
  comes_append xs us ys vs f g r i = by (In-append r xs ys i)
    where
      by : In r xs ⊎ In r ys → In r (us ++ vs)
      by (inl j) = In-left r us vs (f r j)
      by (inr j) = In-right r us vs (g r j)

  own_comes : (x : List ℕ) (ps : Subscripts) → Comes (own_reference loops x ps) (record { name = x; subscripts = ps } ∷ [])
  own_comes x no_subscripts r i = by (graph.is_among loops x) i
    where
      by : (b : Bool) → In r (cond b [] (record { name = x; subscripts = no_subscripts } ∷ [])) → In r (record { name = x; subscripts = no_subscripts } ∷ [])
      by true j = absurd j
      by false j = j
  own_comes x (subscript p ps) r i = i

  mutual
    comes_in : (e : Expression) → IsPlain e → Comes (graph.references_in loops e) (touched_in e)
    comes_in (Number n) h = λ r i. absurd i
    comes_in (Logic b) h = λ r i. absurd i
    comes_in (Named x ps) h = comes_append (own_reference loops x ps) (record { name = x; subscripts = ps } ∷ []) (graph.references_in_subscripts loops ps) (touched_in_subscripts ps) (own_comes x ps) (comes_in_subscripts ps h)
    comes_in (Unary o a) h = comes_in a h
    comes_in (Binary o a b) h = comes_append (graph.references_in loops a) (touched_in a) (graph.references_in loops b) (touched_in b) (comes_in a h.0) (comes_in b h.1)
    comes_in (Apply f es) h = comes_in_each es h
    comes_in (Constructor es ls) h = absurd h
    comes_in (Spread a n e) h = absurd h
    comes_in (Transpose a) h = absurd h
    comes_in (Reshape a es) h = absurd h
    comes_in (Reduce o a) h = absurd h

    comes_in_each : (es : Expressions) → EachIsPlain es → Comes (graph.references_in_all loops es) (references_in_each es)
    comes_in_each no_expressions h = λ r i. absurd i
    comes_in_each (expression e es) h = comes_append (graph.references_in loops e) (touched_in e) (graph.references_in_all loops es) (references_in_each es) (comes_in e h.0) (comes_in_each es h.1)

    comes_in_subscripts : (ps : Subscripts) → ArePlain ps → Comes (graph.references_in_subscripts loops ps) (touched_in_subscripts ps)
    comes_in_subscripts no_subscripts h = λ r i. absurd i
    comes_in_subscripts (subscript p ps) h = comes_append (graph.references_in_subscript loops p) (touched_in_subscript p) (graph.references_in_subscripts loops ps) (touched_in_subscripts ps) (comes_in_subscript p h.0) (comes_in_subscripts ps h.1)

    comes_in_subscript : (p : Subscript) → IsPlainSubscript p → Comes (graph.references_in_subscript loops p) (touched_in_subscript p)
    comes_in_subscript (Only e) h = comes_in e h
    comes_in_subscript (Section a b c) h = absurd h

  comes_in_guard : (o : Option Expression) → IsPlainGuard o → Comes (graph.references_in_guard loops o) (touched_in_guard o)
  comes_in_guard None h = λ r i. absurd i
  comes_in_guard (Some e) h = comes_in e h

-- ---- members

in_contains : {X : Type 0} (xs : List X) (x : X) → In x xs → Contains xs x
in_contains [] x i = absurd i
in_contains (y ∷ xs) x (inl e) = subst (λ z. Contains (y ∷ xs) z) (sym e) (here y xs)
in_contains (y ∷ xs) x (inr i) = there y xs x (in_contains xs x i)

numbered : {X : Type 0} (xs : List X) (x : X) → Contains xs x → (k : ℕ) × (nth_of xs k ≡ Some x)
numbered [] x c = absurd (nowhere x c)
numbered (y ∷ xs) x c = elim (cases_of y xs x c) [ inl e ↦ (0, ap (λ z. let o : Option _ = Some z in o) e) | inr d ↦ (let r = numbered xs x d in (suc r.0, r.1)) ]

any_at : {X : Type 0} (p : X → Bool) (xs : List X) → list_any p xs ≡ true → (x : X) × Contains xs x × (p x ≡ true)
any_at p [] h = cc
any_at {X} p (y ∷ xs) h = by (p y) refl h (any_at p xs)
  where
    by : (b : Bool) → p y ≡ b → (b || list_any p xs) ≡ true → (list_any p xs ≡ true → (x : X) × Contains xs x × (p x ≡ true)) → (x : X) × Contains (y ∷ xs) x × (p x ≡ true)
    by true e h more = (y, here y xs, e)
    by false e h more = let r = more h in (r.0, there y xs r.0 r.1, r.2)

among_in : (xs : List (List ℕ)) (x : List ℕ) → graph.is_among xs x ≡ true → In x xs
among_in [] x h = cc
among_in (y ∷ xs) x h = by (bytes_eq y x) refl h (among_in xs x)
  where
    by : (b : Bool) → bytes_eq y x ≡ b → (b || graph.is_among xs x) ≡ true → (graph.is_among xs x ≡ true → In x xs) → In x (y ∷ xs)
    by true e h more = inl (sym ((bytes_eq-Decides y x).0 e))
    by false e h more = inr (more h)

-- ---- equal forms

zero_number : (f : Form) (xs : List ℤ) → is_zero_form f ≡ true → number_at f xs ≡ pos 0
zero_number f xs h =
    let parts = both_parts (not_zero f.coefficients == 0) (int_eq f.constant (pos 0)) h in
    ap₂ (λ a b. a +ℤ b) (all_nought f.coefficients xs (eqb-true (not_zero f.coefficients) 0 parts.0)) ((Decides-int_eq f.constant (pos 0)).0 parts.1)

no_difference : (a b : ℤ) → a +ℤ negsuc 0 *ℤ b ≡ pos 0 → a ≡ b
no_difference a b h = omega (arith, ints)

same_number : (f : Form) (o : Option Form) → is_same f o ≡ true → (g : Form) × (o ≡ Some g) × ((xs : List ℤ) → number_at f xs ≡ number_at g xs)
same_number f None h = cc
same_number f (Some g) h = (
  g,
  refl,
  λ xs. no_difference (number_at f xs) (number_at g xs)
      (sym (ap (λ z. number_at f xs +ℤ z) (number_at-multiple (negsuc 0) g xs)) ∙ (sym (number_at-sum f (multiple (negsuc 0) g) xs) ∙ zero_number (sum f (multiple (negsuc 0) g)) xs h)),
)

closer : (b c : ℤ × ℤ) (z : ℤ) → lies_within b c ≡ true → is_between c z ≡ true → is_between b z ≡ true
closer b c z h k =
    let p = both_parts (int_le b.0 c.0) (int_le c.1 b.1) h in
    let q = both_parts (int_le c.0 z) (int_le z c.1) k in
    let l1 = true_le b.0 c.0 p.0 in
    let l2 = true_le c.0 z q.0 in
    let u1 = true_le c.1 b.1 p.1 in
    let u2 = true_le z c.1 q.1 in
    ap₂ (λ x y. x && y) (le_true b.0 z (le_both b.0 c.0 z l1 l2)) (le_true z b.1 (le_both z c.1 b.1 u2 u1))
  where
    le_both : (x y z : ℤ) → x ≤ℤ y → y ≤ℤ z → x ≤ℤ z
    le_both x y z h k = omega (arith, ints)

-- ---- boxes

-- each iteration is from 1 on, and in a loop with a constant trip not past it
abbrev AreTurns : List FormTrip → List ℕ → Type 0
AreTurns [] [] = Unit {0}
AreTurns (t ∷ ts) (i ∷ is) = ((1 ≤ i) × (is_constant_trip t ≡ true → i ≤ not_negative t.form.constant)) × AreTurns ts is
AreTurns _ _ = ⊥

abbrev all_constant : List Term → Bool
all_constant ts = list_all (λ (t : Term). is_constant_trip t.trip) ts

abbrev counts_in : List Term → List ℕ
counts_in ts = map (λ (t : Term). not_negative t.trip.form.constant) ts

-- the iterations of the loops that stand in a form
abbrev picked : List FormTrip → List ℤ → List ℕ → List ℕ
picked [] cs is = []
picked (t ∷ ts) [] is = []
picked (t ∷ ts) (c ∷ cs) [] = []
picked (t ∷ ts) (c ∷ cs) (i ∷ is) = cond (int_eq c (pos 0)) (picked ts cs is) (i ∷ picked ts cs is)

picked_from : (ts : List FormTrip) (cs : List ℤ) (is : List ℕ) → AreTurns ts is → all_constant (terms_in ts cs) ≡ true → AreFrom 1 (counts_in (terms_in ts cs)) (picked ts cs is)
picked_from [] cs is a h = tt
picked_from (t ∷ ts) [] is a h = tt
picked_from (t ∷ ts) (c ∷ cs) [] a h = absurd a
picked_from (t ∷ ts) (c ∷ cs) (i ∷ is) a h = by (int_eq c (pos 0)) h (picked_from ts cs is a.1)
  where
    by : (b : Bool) → all_constant (cond b (terms_in ts cs) (record { coefficient = c; trip = t } ∷ terms_in ts cs)) ≡ true
        → (all_constant (terms_in ts cs) ≡ true → AreFrom 1 (counts_in (terms_in ts cs)) (picked ts cs is))
        → AreFrom 1 (counts_in (cond b (terms_in ts cs) (record { coefficient = c; trip = t } ∷ terms_in ts cs))) (cond b (picked ts cs is) (i ∷ picked ts cs is))
    by true h more = more h
    by false h more =
        let parts = both_parts (is_constant_trip t) (all_constant (terms_in ts cs)) h in
        let low : 1 ≤ i = a.0.0 in
        let high : i ≤ not_negative t.form.constant = a.0.1 parts.0 in
        ((low, omega arith), more parts.1)

picked_sum : (ts : List FormTrip) (cs vals : List ℤ) (is : List ℕ) → AreTurns ts is → (not_zero (drop (length ts) cs) == 0) ≡ true
    → weighted cs (map pos is ++ vals) ≡ weighted (coefficients_of (terms_in ts cs)) (map pos (picked ts cs is))
picked_sum [] cs vals [] a h = all_nought cs vals (eqb-true (not_zero cs) 0 h)
picked_sum [] cs vals (i ∷ is) a h = absurd a
picked_sum (t ∷ ts) [] vals is a h = refl
picked_sum (t ∷ ts) (c ∷ cs) vals [] a h = absurd a
picked_sum (t ∷ ts) (c ∷ cs) vals (i ∷ is) a h = by (int_eq c (pos 0)) refl (picked_sum ts cs vals is a.1 h)
  where
    left_out : (z r q : ℤ) → z ≡ pos 0 → r ≡ q → z *ℤ pos i +ℤ r ≡ q
    left_out z r q e f = ap (λ y. y *ℤ pos i +ℤ r) e ∙ (nothing r ∙ f)
      where
        nothing : (r : ℤ) → pos 0 *ℤ pos i +ℤ r ≡ r
        nothing r = omega (arith, ints)

    by : (b : Bool) → int_eq c (pos 0) ≡ b → weighted cs (map pos is ++ vals) ≡ weighted (coefficients_of (terms_in ts cs)) (map pos (picked ts cs is))
        → c *ℤ pos i +ℤ weighted cs (map pos is ++ vals) ≡ weighted (coefficients_of (cond b (terms_in ts cs) (record { coefficient = c; trip = t } ∷ terms_in ts cs))) (map pos (cond b (picked ts cs is) (i ∷ picked ts cs is)))
    by true e more = left_out c (weighted cs (map pos is ++ vals)) (weighted (coefficients_of (terms_in ts cs)) (map pos (picked ts cs is))) ((Decides-int_eq c (pos 0)).0 e) more
    by false e more = ap (λ z. c *ℤ pos i +ℤ z) more

in_box_number : (ts : List FormTrip) (f : Form) (b : ℤ × ℤ) (vals : List ℤ) (is : List ℕ) → AreTurns ts is → is_in_box ts f b ≡ true → is_between b (number_at f (map pos is ++ vals)) ≡ true
in_box_number ts f b vals is a h =
    let one = both_parts (not_zero (drop (length ts) f.coefficients) == 0) (all_constant (terms_in ts f.coefficients) && stays_between b f.constant (terms_in ts f.coefficients)) h in
    let two = both_parts (all_constant (terms_in ts f.coefficients)) (stays_between b f.constant (terms_in ts f.coefficients)) one.1 in
    let terms = terms_in ts f.coefficients in
    let inside = from_sequence (counts_in terms) (picked ts f.coefficients is) (picked_from ts f.coefficients is a two.0) in
    ap (λ z. is_between b (z +ℤ f.constant)) (picked_sum ts f.coefficients vals is a one.0)
    ∙ at_all (λ js. is_between b (weighted (coefficients_of terms) (map pos js) +ℤ f.constant)) (iterations_of terms) two.1 (picked ts f.coefficients is) inside

-- ---- a nest

same_numbers : (ks ls : List ℕ) → pointwise (λ i j. i == j) ks ls ≡ true → ks ≡ ls
same_numbers [] [] h = refl
same_numbers [] (l ∷ ls) h = cc
same_numbers (k ∷ ks) [] h = cc
same_numbers (k ∷ ks) (l ∷ ls) h =
    let parts = both_parts (k == l) (pointwise (λ i j. i == j) ks ls) h in
    ap₂ (λ x xs. x ∷ xs) (eqb-true k l parts.0) (same_numbers ks ls parts.1)

module _ (width : Width) (p : plain.Nest) (linear : ℕ → Expression → Option ((ℕ → ℤ) → List ℕ → ℤ)) (turns : (ℕ → ℤ) → ℕ → List ℕ → ℕ) (w : Setting) where
  abbrev n : RunNest
  n = nest_of p.body p.symbols linear turns

  abbrev places : List ℕ → List ℤ
  places is = places_of w.values p.symbols is

  module _ (stand : StatementsStand p (nest_of p.body p.symbols linear turns)) (facts : HasFacts (bits_of width) (nest_of p.body p.symbols linear turns) w) (bounds : HasDeclaredBounds p w) where
    -- a subscript with its form
    linear_is : (s : ℕ) (x : Standing) → nth_of (nest_statements p) s ≡ Some x → (e : Expression) → (nest_of p.body p.symbols linear turns).linear s e ≡ number_by p.symbols (form_in p (graph.variables_round x) (Only e))
    linear_is s x at e =
        let there = stand s x at in
        facts.linear s e there.0 ∙ ap (λ xs. number_by p.symbols (form_of xs p.symbols e)) there.1

    -- the subscripts of a reference that names a cell are within the bounds
    named_within : (s : ℕ) (x : Standing) → nth_of (nest_statements p) s ≡ Some x → (is : List ℕ) (ps : Subscripts) (bs : List (ℤ × ℤ)) (qs : List Bounded) (zs : List ℤ)
        → subscripts_with_bounds p (graph.variables_round x) ps bs ≡ Some qs → MayHaveEach (nest_of p.body p.symbols linear turns) w.values s is ps zs → is_within bs zs ≡ true
        → (q : Bounded) → Contains qs q → (g : Form) → q.form ≡ Some g → is_between q.bounds (number_at g (places_of w.values p.symbols is)) ≡ true
    named_within s x at is no_subscripts [] qs zs e m h q c g f = absurd (nowhere q (subst (λ rs. Contains rs q) (sym (some_is e)) c))
      where
        some_is : {ys zs : List Bounded} → Some ys ≡ Some zs → ys ≡ zs
        some_is e = cc
    named_within s x at is no_subscripts (b ∷ bs) qs zs e m h q c g f = cc
    named_within s x at is (subscript r ps) [] qs zs e m h q c g f = cc
    named_within s x at is (subscript (Section i j k) ps) (b ∷ bs) qs zs e m h q c g f = absurd m
    named_within s x at is (subscript (Only i) ps) (b ∷ bs) qs [] e m h q c g f = absurd m
    named_within s x at is (subscript (Only i) ps) (b ∷ bs) qs (z ∷ zs) e m h q c g f =
        by (subscripts_with_bounds p (graph.variables_round x) ps bs) refl e (λ rs k. named_within s x at is ps bs rs zs k m.1 parts.1 q)
      where
        first : Bounded
        first = record { form = form_in p (graph.variables_round x) (Only i); bounds = b }

        parts : (is_between b z ≡ true) × (is_within bs zs ≡ true)
        parts =
            let one = both_parts (int_le b.0 z) (int_le z b.1 && is_within bs zs) h in
            let two = both_parts (int_le z b.1) (is_within bs zs) one.1 in
            (ap₂ (λ x y. x && y) one.0 two.0, two.1)

        -- by its linear form
        at_first : (o : Option Form) → form_in p (graph.variables_round x) (Only i) ≡ o → o ≡ Some g → is_between b (number_at g (places_of w.values p.symbols is)) ≡ true
        at_first None k l = cc
        at_first (Some f') k l =
            let is_linear : (nest_of p.body p.symbols linear turns).linear s i ≡ Some (λ v js. number_at g (places_of v p.symbols js)) = linear_is s x at i ∙ ap (number_by p.symbols) (k ∙ l) in
            let value : z ≡ number_at g (places_of w.values p.symbols is) = subst (λ o. MayHave (nest_of p.body p.symbols linear turns) w.values is o z) is_linear m.0 in
            ap (is_between b) (sym value) ∙ parts.0

        by : (o : Option (List Bounded)) → subscripts_with_bounds p (graph.variables_round x) ps bs ≡ o → option_map (λ rs. record { form = form_in p (graph.variables_round x) (Only i); bounds = b } ∷ rs) o ≡ Some qs
            → ((rs : List Bounded) → subscripts_with_bounds p (graph.variables_round x) ps bs ≡ Some rs → Contains rs q → (g' : Form) → q.form ≡ Some g' → is_between q.bounds (number_at g' (places_of w.values p.symbols is)) ≡ true)
            → is_between q.bounds (number_at g (places_of w.values p.symbols is)) ≡ true
        by None k l more = cc
        by (Some rs) k l more =
            let whole : first ∷ rs ≡ qs = some_same l in
            elim (cases_of first rs q (subst (λ ys. Contains ys q) (sym whole) c)) [
              | inl same ↦ subst (λ (y : Bounded). is_between y.bounds (number_at g (places_of w.values p.symbols is)) ≡ true) same (at_first (form_in p (graph.variables_round x) (Only i)) refl (ap (λ (y : Bounded). y.form) same ∙ f))
              | inr later ↦ more rs k later g f
            ]
          where
            some_same : {ys zs : List Bounded} → Some ys ≡ Some zs → ys ≡ zs
            some_same e = cc

    -- ---- an unguarded statement

    is_unguarded : (o : Option Expression) → is_none o ≡ true → o ≡ None
    is_unguarded None h = refl
    is_unguarded (Some e) h = cc

    guarded_is : (s : ℕ) (x : Standing) → nth_of (nest_statements p) s ≡ Some x
        → ◌≡◌ {A = GuardedAssignment} ((nest_of p.body p.symbols linear turns).statement_at s) (record { guard = x.statement.guard; left = x.statement.left; right = x.statement.right })
    guarded_is s x at = ap guarded_of at

    -- its references are read
    read_there : (s : ℕ) (x : Standing) → nth_of (nest_statements p) s ≡ Some x → (r : Reference) → In r (references_of x) → IsReferenceOf (nest_of p.body p.symbols linear turns) s r
    read_there s x at r i =
        let plain' = facts.text.plain s (stand s x at).0 in
        let own = subst (λ (g : GuardedAssignment). IsPlainAssignment g) (guarded_is s x at) plain' in
        let loops = graph.variables_round x in
        let g : GuardedAssignment = record { guard = x.statement.guard; left = x.statement.left; right = x.statement.right } in
        subst (λ (g : GuardedAssignment). In r (g.left ∷ references_read g)) (sym (guarded_is s x at))
        (elim i [
          | inl e ↦ inl e
          | inr j ↦ inr (comes_append loops (graph.references_in_guard loops x.statement.guard) (touched_in_guard x.statement.guard)
              (graph.references_in_subscripts loops x.statement.left.subscripts ++ graph.references_in loops x.statement.right) (touched_in_subscripts x.statement.left.subscripts ++ touched_in x.statement.right)
              (comes_in_guard loops x.statement.guard own.0)
              (comes_append loops (graph.references_in_subscripts loops x.statement.left.subscripts) (touched_in_subscripts x.statement.left.subscripts) (graph.references_in loops x.statement.right) (touched_in x.statement.right)
              (comes_in_subscripts loops x.statement.left.subscripts own.2) (comes_in loops x.statement.right own.1)) r j)
        ])

    -- the bounds of a reference's subscripts are declared
    declared_there : (loops : List (List ℕ)) (r : Reference) (qs : List Bounded) → bounded_subscripts p loops r ≡ Some qs
        → ((is_made p r.name ≡ true) × (qs ≡ [])) ⊎ ((is_made p r.name ≡ false) × (bs : List (ℤ × ℤ)) × (declared_bounds p r.name ≡ Some bs) × (subscripts_with_bounds p loops r.subscripts bs ≡ Some qs))
    declared_there loops r qs h = by (is_made p r.name) refl (declared_bounds p r.name) refl h
      where
        by : (b : Bool) → is_made p r.name ≡ b → (o : Option (List (ℤ × ℤ))) → declared_bounds p r.name ≡ o
            → cond b (Some []) (elim o [ None ↦ None | Some bs ↦ subscripts_with_bounds p loops r.subscripts bs ]) ≡ Some qs
            → ((is_made p r.name ≡ true) × (qs ≡ [])) ⊎ ((is_made p r.name ≡ false) × (bs : List (ℤ × ℤ)) × (declared_bounds p r.name ≡ Some bs) × (subscripts_with_bounds p loops r.subscripts bs ≡ Some qs))
        by true e o f k = let same : [] ≡ qs = cc in inl (e, sym same)
        by false e None f k = cc
        by false e (Some bs) f k = inr (e, bs, f, k)

    found_in : {q : Bounded} (o : Option (List Bounded)) → Contains (unwrap_or o []) q → (qs : List Bounded) × (o ≡ Some qs) × Contains qs q
    found_in {q} None c = absurd (nowhere q c)
    found_in (Some qs) c = (qs, refl, c)

    is_cell : (o : Option (List (ℤ × ℤ))) (bs : List (ℤ × ℤ)) (x : List ℕ) (zs : List ℤ) (c : Cell) → o ≡ Some bs → cell_in o x zs ≡ Ok c → is_within bs zs ≡ true
    is_cell o bs x zs c e h = by (is_within bs zs) refl (subst (λ q. cell_in q x zs ≡ Ok c) e h)
      where
        by : (b : Bool) → is_within bs zs ≡ b → cond b (Ok (record { name = x; subscripts = zs })) (Err Bounds) ≡ Ok c → b ≡ true
        by true f k = refl
        by false f k = cc

    -- a subscript that it has is within its bounds in each instance
    met_number : UnguardedNameCells (nest_of p.body p.symbols linear turns) w → (t : ℕ) (y : Standing) → nth_of (nest_statements p) t ≡ Some y → y.statement.guard ≡ None
        → (is : List ℕ) → IsInstance (nest_of p.body p.symbols linear turns).loops_of (turns w.values) (nest_of p.body p.symbols linear turns).shape (record { statement = t; iterations = is })
        → (q : Bounded) → Contains (subscripts_of p y) q → (g : Form) → q.form ≡ Some g → is_between q.bounds (number_at g (places_of w.values p.symbols is)) ≡ true
    met_number cells t y at free is it q c g f =
        let o = of_flat_map (λ r. unwrap_or (bounded_subscripts p (graph.variables_round y) r) []) (references_of y) q c in
        let k = found_in (bounded_subscripts p (graph.variables_round y) o.0) o.2 in
        let z : Instance = record { statement = t; iterations = is } in
        let named = cells z it (ap (λ (g : GuardedAssignment). g.guard) (guarded_is t y at) ∙ free) o.0 (read_there t y at o.0 (contains_in (references_of y) o.0 o.1)) in
        elim (declared_there (graph.variables_round y) o.0 k.0 k.1) [
          | inl m ↦ absurd (nowhere q (subst (λ qs. Contains qs q) m.1 k.2))
          | inr d ↦ named_within t y at is o.0.subscripts d.1 k.0 named.cell.subscripts d.3 named.may.subscripts
              (is_cell (w.bounds o.0.name) d.1 o.0.name named.cell.subscripts named.cell (bounds o.0.name d.1 d.2) named.within) q k.2 g f
        ]

    -- ---- a safe statement

    module _ (cells : UnguardedNameCells (nest_of p.body p.symbols linear turns) w) (s : ℕ) (x : Standing) (at : nth_of (nest_statements p) s ≡ Some x) (keeps : KeepConstantTrips turns w.values x) (is : List ℕ)
        (it : IsInstance (nest_of p.body p.symbols linear turns).loops_of (turns w.values) (nest_of p.body p.symbols linear turns).shape (record { statement = s; iterations = is })) where
      numbers_are : (nest_of p.body p.symbols linear turns).loops_of s ≡ loop_numbers_round x
      numbers_are = ap loops_round at

      turning : (f : Loop → FormTrip) (ls : List Loop) → ((j : ℕ) (l : Loop) (t : FormTrip) (before : List ℕ) → nth_of ls j ≡ Some l → nth_of (map f ls) j ≡ Some t → is_constant_trip t ≡ true → turns w.values l.number before ≤ not_negative t.form.constant)
          → (before js : List ℕ) → Within (turns w.values) before (map (λ (l : Loop). l.number) ls) js → AreTurns (map f ls) js
      turning f [] k before [] v = tt
      turning f [] k before (j ∷ js) v = absurd v
      turning f (l ∷ ls) k before [] v = absurd v
      turning f (l ∷ ls) k before (j ∷ js) v =
          let low : 1 ≤ j = v.0 in
          let high : j ≤ turns w.values l.number before = v.1 in
          ((low, λ c. let most = k 0 l (f l) before refl refl c in let r : j ≤ not_negative (f l).form.constant = omega arith in r), turning f ls (λ i m t b e g c. k (suc i) m t b e g c) (before ++ j ∷ []) js v.2)

      own_turns : AreTurns (trips_round x) is
      own_turns = turning (λ l. form_trip_of (length x.loops) (counted_loop l).trip) x.loops keeps [] is (subst (λ ls. Within (turns w.values) [] ls is) numbers_are it.1)

      safe_number : (q : Bounded) → is_safe_subscript p x q ≡ true → (g : Form) × (q.form ≡ Some g) × (is_between q.bounds (number_at g (places_of w.values p.symbols is)) ≡ true)
      safe_number q h = by q.form refl h
        where
          by_parts : (g : Form) → q.form ≡ Some g → (b : Bool) → is_in_box (trips_round x) g q.bounds ≡ b → (b || is_met p (loop_numbers_round x) g q.bounds) ≡ true → is_between q.bounds (number_at g (places_of w.values p.symbols is)) ≡ true
          by_parts g e true f k = in_box_number (trips_round x) g q.bounds (values_from w.values 0 p.symbols) is own_turns f
          by_parts g e false f k =
              let m = any_at (meets p (loop_numbers_round x) g q.bounds) (nest_statements p) k in
              let y = m.0 in
              let one = both_parts (is_none y.statement.guard) (pointwise (λ i j. i == j) (loop_numbers_round y) (loop_numbers_round x) && list_any (λ (r : Bounded). is_same g r.form && lies_within q.bounds r.bounds) (subscripts_of p y)) m.2 in
              let two = both_parts (pointwise (λ i j. i == j) (loop_numbers_round y) (loop_numbers_round x)) (list_any (λ (r : Bounded). is_same g r.form && lies_within q.bounds r.bounds) (subscripts_of p y)) one.1 in
              let r = any_at (λ (r : Bounded). is_same g r.form && lies_within q.bounds r.bounds) (subscripts_of p y) two.1 in
              let alike = both_parts (is_same g r.0.form) (lies_within q.bounds r.0.bounds) r.2 in
              let k' = numbered (nest_statements p) y m.1 in
              let same = same_number g r.0.form alike.0 in
              let loops : (nest_of p.body p.symbols linear turns).loops_of k'.0 ≡ (nest_of p.body p.symbols linear turns).loops_of s = ap loops_round k'.1 ∙ (same_numbers (loop_numbers_round y) (loop_numbers_round x) two.0 ∙ sym numbers_are) in
              let there : IsInstance (nest_of p.body p.symbols linear turns).loops_of (turns w.values) (nest_of p.body p.symbols linear turns).shape (record { statement = k'.0; iterations = is })
              = ((stand k'.0 y k'.1).0, subst (λ ls. Within (turns w.values) [] ls is) (sym loops) it.1) in
              let number = met_number cells k'.0 y k'.1 (is_unguarded y.statement.guard one.0) is there r.0 r.1 same.0 same.1 in
              closer q.bounds r.0.bounds (number_at g (places_of w.values p.symbols is)) alike.1 (ap (is_between r.0.bounds) (same.2 (places_of w.values p.symbols is)) ∙ number)

          by : (o : Option Form) → q.form ≡ o → elim o [ None ↦ false | Some f ↦ is_in_box (trips_round x) f q.bounds || is_met p (loop_numbers_round x) f q.bounds ] ≡ true
              → (g : Form) × (q.form ≡ Some g) × (is_between q.bounds (number_at g (places_of w.values p.symbols is)) ≡ true)
          by None e k = cc
          by (Some g) e k = (g, e, by_parts g e (is_in_box (trips_round x) g q.bounds) refl k)

    -- what a reference's subscripts are, where all of them are safe
    pub record Fits (s : ℕ) (is : List ℕ) (ps : Subscripts) (bs : List (ℤ × ℤ)) : Type 0 where
      pub zs : List ℤ
      pub have : MayHaveEach (nest_of p.body p.symbols linear turns) w.values s is ps zs
      pub within : is_within bs zs ≡ true

    AllSafe : List ℕ → List Bounded → Type 0
    AllSafe is qs = (q : Bounded) → Contains qs q → (g : Form) × (q.form ≡ Some g) × (is_between q.bounds (number_at g (places_of w.values p.symbols is)) ≡ true)

    some_rest : {a : Bounded} (o : Option (List Bounded)) (qs : List Bounded) → option_map (λ rs. a ∷ rs) o ≡ Some qs → (rs : List Bounded) × (o ≡ Some rs) × (qs ≡ a ∷ rs)
    some_rest None qs h = cc
    some_rest {a} (Some rs) qs h = let same : a ∷ rs ≡ qs = cc in (rs, refl, sym same)

    fitting : (s : ℕ) (x : Standing) → nth_of (nest_statements p) s ≡ Some x → (is : List ℕ) (ps : Subscripts) (bs : List (ℤ × ℤ)) (qs : List Bounded) → subscripts_with_bounds p (graph.variables_round x) ps bs ≡ Some qs
        → ((q : Bounded) → Contains qs q → (g : Form) × (q.form ≡ Some g) × (is_between q.bounds (number_at g (places_of w.values p.symbols is)) ≡ true)) → Fits s is ps bs
    fitting s x at is no_subscripts [] qs e safe = record { zs = []; have = tt; within = refl }
    fitting s x at is no_subscripts (b ∷ bs) qs e safe = cc
    fitting s x at is (subscript r ps) [] qs e safe = cc
    fitting s x at is (subscript (Section i j k) ps) (b ∷ bs) qs e safe =
        let rest = some_rest (subscripts_with_bounds p (graph.variables_round x) ps bs) qs e in
        let one = safe (record { form = None; bounds = b }) (subst (λ rs. Contains rs (record { form = None; bounds = b })) (sym rest.2) (here (record { form = None; bounds = b }) rest.0)) in
        let bad : None ≡ Some one.0 = one.1 in
        cc
    fitting s x at is (subscript (Only i) ps) (b ∷ bs) qs e safe =
        let first : Bounded = record { form = form_in p (graph.variables_round x) (Only i); bounds = b } in
        let rest = some_rest (subscripts_with_bounds p (graph.variables_round x) ps bs) qs e in
        let one = safe first (subst (λ rs. Contains rs first) (sym rest.2) (here first rest.0)) in
        let more = fitting s x at is ps bs rest.0 rest.1 (λ q c. safe q (subst (λ rs. Contains rs q) (sym rest.2) (there first rest.0 q c))) in
        let z = number_at one.0 (places_of w.values p.symbols is) in
        let is_linear : (nest_of p.body p.symbols linear turns).linear s i ≡ Some (λ v js. number_at one.0 (places_of v p.symbols js)) = linear_is s x at i ∙ ap (number_by p.symbols) one.1 in
        let inside = both_parts (int_le b.0 z) (int_le z b.1) one.2 in
        record {
          zs = z ∷ more.zs;
          have = (subst (λ o. MayHave (nest_of p.body p.symbols linear turns) w.values is o z) (sym is_linear) refl, more.have);
          within = ap₂ (λ x y. x && y) inside.0 (ap₂ (λ x y. x && y) inside.1 more.within);
        }

    linears : (s : ℕ) (x : Standing) → nth_of (nest_statements p) s ≡ Some x → (ps : Subscripts) (bs : List (ℤ × ℤ)) (qs : List Bounded) → subscripts_with_bounds p (graph.variables_round x) ps bs ≡ Some qs
        → ((q : Bounded) → Contains qs q → is_safe_subscript p x q ≡ true) → AreLinear (nest_of p.body p.symbols linear turns) s ps
    linears s x at no_subscripts bs qs e safe = tt
    linears s x at (subscript r ps) [] qs e safe = cc
    linears s x at (subscript (Section i j k) ps) (b ∷ bs) qs e safe =
        let rest = some_rest (subscripts_with_bounds p (graph.variables_round x) ps bs) qs e in
        let one = safe (record { form = None; bounds = b }) (subst (λ rs. Contains rs (record { form = None; bounds = b })) (sym rest.2) (here (record { form = None; bounds = b }) rest.0)) in
        cc
    linears s x at (subscript (Only i) ps) (b ∷ bs) qs e safe =
        let first : Bounded = record { form = form_in p (graph.variables_round x) (Only i); bounds = b } in
        let rest = some_rest (subscripts_with_bounds p (graph.variables_round x) ps bs) qs e in
        let one = safe first (subst (λ rs. Contains rs first) (sym rest.2) (here first rest.0)) in
        (subst (λ o. IsSome o) (sym (linear_is s x at i)) (has_form (form_in p (graph.variables_round x) (Only i)) b one), linears s x at ps bs rest.0 rest.1 (λ q c. safe q (subst (λ rs. Contains rs q) (sym rest.2) (there first rest.0 q c))))
      where
        has_form : (o : Option Form) (b : ℤ × ℤ) → is_safe_subscript p x (record { form = o; bounds = b }) ≡ true → IsSome (number_by p.symbols o)
        has_form None b h = cc
        has_form (Some f) b h = refl

    is_some_at : (o : Option (List Bounded)) → is_some o ≡ true → (qs : List Bounded) × (o ≡ Some qs)
    is_some_at None h = cc
    is_some_at (Some qs) h = (qs, refl)

    gathered : (f : Reference → List Bounded) (rs : List Reference) (r : Reference) (q : Bounded) → Contains rs r → Contains (f r) q → Contains (flat_map f rs) q
    gathered f rs r q c d = in_flat_map f rs r q c d

    -- each reference of a safe statement
    has_cells : UnguardedNameCells (nest_of p.body p.symbols linear turns) w → (s : ℕ) (x : Standing) → nth_of (nest_statements p) s ≡ Some x → KeepConstantTrips turns w.values x → is_safe p x ≡ true
        → (r : Reference) → In r (references_of x) → is_made p r.name ≡ false → HasCells (nest_of p.body p.symbols linear turns) w s r
    has_cells cells s x at keeps safe r i unmade =
        let parts = both_parts (is_sized p x) (list_all (is_safe_subscript p x) (subscripts_of p x)) safe in
        let loops = graph.variables_round x in
        let member = in_contains (references_of x) r i in
        let found = is_some_at (bounded_subscripts p loops r) (at_all (λ r. is_some (bounded_subscripts p loops r)) (references_of x) parts.0 r member) in
        let each : (q : Bounded) → Contains found.0 q → is_safe_subscript p x q ≡ true = λ q c.
        at_all (is_safe_subscript p x) (subscripts_of p x) parts.1 q
        (gathered (λ r. unwrap_or (bounded_subscripts p loops r) []) (references_of x) r q member (subst (λ o. Contains (unwrap_or o []) q) (sym found.1) c)) in
        elim (declared_there loops r found.0 found.1) [
          | inl m ↦ absurd (let bad : true ≡ false = sym m.0 ∙ unmade in cc)
          | inr d ↦ record {
            linear = linears s x at r.subscripts d.1 found.0 d.3 each;
            names = λ z it here'. named_cell z it here' d.1 d.2 found.0 d.3 each;
          }
        ]
      where
        named_cell : (z : Instance) → IsInstance (nest_of p.body p.symbols linear turns).loops_of (turns w.values) (nest_of p.body p.symbols linear turns).shape z → z.statement ≡ s
            → (bs : List (ℤ × ℤ)) → declared_bounds p r.name ≡ Some bs → (qs : List Bounded) → subscripts_with_bounds p (graph.variables_round x) r.subscripts bs ≡ Some qs → ((q : Bounded) → Contains qs q → is_safe_subscript p x q ≡ true)
            → NamesCell (nest_of p.body p.symbols linear turns) w z r
        named_cell z it here' bs e qs f each =
            let own : IsInstance (nest_of p.body p.symbols linear turns).loops_of (turns w.values) (nest_of p.body p.symbols linear turns).shape (record { statement = s; iterations = z.iterations })
            = subst (λ t. IsInstance (nest_of p.body p.symbols linear turns).loops_of (turns w.values) (nest_of p.body p.symbols linear turns).shape (record { statement = t; iterations = z.iterations })) here' it in
            let fit = fitting s x at z.iterations r.subscripts bs qs f (λ q c. safe_number cells s x at keeps z.iterations own q (each q c)) in
            let cell : Cell = record { name = r.name; subscripts = fit.zs } in
            record {
              cell = cell;
              may = record { name = refl; subscripts = subst (λ t. MayHaveEach (nest_of p.body p.symbols linear turns) w.values t z.iterations r.subscripts fit.zs) (sym here') fit.have };
              within = ap (λ o. cell_in o r.name fit.zs) (bounds r.name bs e) ∙ ap (λ b. cond b (Ok cell) (Err Bounds)) fit.within;
            }

    -- a loop's variable is a scalar
    variable_cells : (s : ℕ) (x : Standing) → nth_of (nest_statements p) s ≡ Some x → (r : Reference) → r.subscripts ≡ no_subscripts → graph.is_among (graph.variables_round x) r.name ≡ true
        → HasCells (nest_of p.body p.symbols linear turns) w s r
    variable_cells s x at r none among =
        let there' = stand s x at in
        let o = In-map (nest_of p.body p.symbols linear turns).variable_at r.name ((nest_of p.body p.symbols linear turns).loops_of s) (subst (λ xs. In r.name xs) (sym there'.1) (among_in (graph.variables_round x) r.name among)) in
        let k = statement_stands (nest_of p.body p.symbols linear turns).shape s there'.0 in
        let e : k.0 ≡ (nest_of p.body p.symbols linear turns).loops_of s = sym (facts.text.nest.fits s k.0 k.1) in
        let known = stands_loops (nest_of p.body p.symbols linear turns).shape s k.0 k.1 o.it (subst (λ ls. In o.it ls) (sym e) o.inside) in
        let scalar : w.bounds r.name ≡ Some [] = ap w.bounds o.is ∙ facts.variables o.it known in
        let cell : Cell = record { name = r.name; subscripts = [] } in
        record {
          linear = subst (AreLinear (nest_of p.body p.symbols linear turns) s) (sym none) tt;
          names = λ z it here'. record {
            cell = cell;
            may = record { name = refl; subscripts = subst (λ ps. MayHaveEach (nest_of p.body p.symbols linear turns) w.values z.statement z.iterations ps []) (sym none) tt };
            within = ap (λ b. cell_in b r.name []) scalar;
          };
        }

    all_cells : UnguardedNameCells (nest_of p.body p.symbols linear turns) w → (s : ℕ) (x : Standing) → nth_of (nest_statements p) s ≡ Some x → KeepConstantTrips turns w.values x
        → ((r : Reference) → IsReferenceOf (nest_of p.body p.symbols linear turns) s r → is_made p r.name ≡ true → HasCells (nest_of p.body p.symbols linear turns) w s r)
        → is_safe p x ≡ true → HaveCells (nest_of p.body p.symbols linear turns) w s
    all_cells cells s x at keeps made safe r i =
        let loops = graph.variables_round x in
        let g : GuardedAssignment = record { guard = x.statement.guard; left = x.statement.left; right = x.statement.right } in
        let j = subst (λ (g : GuardedAssignment). In r (g.left ∷ references_read g)) (guarded_is s x at) i in
        elim (split_of j) [
          | inl v ↦ variable_cells s x at r v.0 v.1
          | inr k ↦ by (is_made p r.name) refl k
        ]
      where
        split_of : In r (x.statement.left ∷ references_read (record { guard = x.statement.guard; left = x.statement.left; right = x.statement.right })) → IsLoopVariable (graph.variables_round x) r ⊎ In r (references_of x)
        split_of (inl e) = inr (inl e)
        split_of (inr k) =
            let loops = graph.variables_round x in
            elim (splits_append loops (touched_in_guard x.statement.guard) (graph.references_in_guard loops x.statement.guard) (touched_in_subscripts x.statement.left.subscripts ++ touched_in x.statement.right)
            (graph.references_in_subscripts loops x.statement.left.subscripts ++ graph.references_in loops x.statement.right) (splits_in_guard loops x.statement.guard)
            (splits_append loops (touched_in_subscripts x.statement.left.subscripts) (graph.references_in_subscripts loops x.statement.left.subscripts) (touched_in x.statement.right) (graph.references_in loops x.statement.right)
            (splits_in_subscripts loops x.statement.left.subscripts) (splits_in loops x.statement.right)) r k) [ inl v ↦ inl v | inr m ↦ inr (inr m) ]

        by : (b : Bool) → is_made p r.name ≡ b → In r (references_of x) → HasCells (nest_of p.body p.symbols linear turns) w s r
        by true e k = made r i e
        by false e k = has_cells cells s x at keeps safe r k e

pub safe_statements_have_cells : (width : Width) → SafeStatementsHaveCells width
safe_statements_have_cells width p linear turns w s x stand facts at bounds keeps cells made safe = all_cells width p linear turns w stand facts bounds cells s x at keeps made safe
