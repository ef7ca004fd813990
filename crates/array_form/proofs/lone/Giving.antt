-- References that name cells have values in each instance, as the laws of array forms ask for.
use Rattle.std.proofs.Common.{◌≡◌, refl, sym, ap, ap₂, ◌∙◌, subst, inl, inr, ℕ, zero, suc, ◌+◌, ◌-◌, ◌≤◌, ◌^◌, ℤ, pos, Bool, true, false, ◌&&◌, cond, List, [], ◌∷◌, ◌++◌, map, drop, length, nat_abs, Result, Ok, Option, Some, None, Contains, arith}
use Rattle.std.specs.Prelude.{IsSome}
use Rattle.std.specs.Cmp.Lexicographic.{pointwise}
use Rattle.std.specs.Ordering.{int_eq}
use Rattle.std.specs.Str.{bytes_eq}
use Rattle.std.proofs.lemmas.List.{length-map}
use Rattle.std.proofs.lemmas.Slice.Eq.{bytes_eq-Decides}
use Rattle.meaning.proofs.Exchanges.{same_cell-refl}
use Rattle.tree.specs.Operators.{as_number}
use Rattle.tree.specs.Plain.{Expression, Number, Logic, Named, Unary, Binary, Apply, Constructor, Spread, Transpose, Reshape, Reduce, Expressions, no_expressions, expression, Only, Section, Subscripts, no_subscripts, subscript, Reference}
use Rattle.tree.specs.Steps.{◌>>=◌}
use Rattle.tree.specs.declared.ops.Fault.{Fault}
use Rattle.tree.specs.declared.ops.Value.{Value}
use Rattle.tree.specs.declared.ops.Value.TheVariants.{Int}
use Rattle.meaning.specs.ArrayValues.{positions}
use Rattle.meaning.specs.Dialect.{fortran90}
use Rattle.tree.specs.declared.width.Width.{Width}
use Rattle.meaning.specs.Store.{Store, Cell, cell_at, cell_in, same_cell}
use Rattle.meaning.specs.Value.{value_of, subscript_values, bound_to}
use Rattle.linear_forms.specs.Laws.{AreSized}
use Rattle.linear_forms.specs.Linear.{Form, HaveValues, form_of}
use Rattle.linear_forms.proofs.Faultless.{linear_has_value}
use Rattle.nest_order.specs.facts.Facts.{HasFacts, number_by, places_of, values_from}
use Rattle.nest_order.proofs.facts.Facts.{have-append, sized-append, small_iterations, small_sized, symbols-have, symbols-sized}
use Rattle.nest_order.specs.orders.Lists.{In}
use Rattle.nest_order.proofs.orders.Common.{statement_stands}
use Rattle.nest_order.proofs.orders.Lists.{In-left, In-right}
use Rattle.nest_order.proofs.orders.Membership.{In-map}
use Rattle.nest_order.specs.orders.Nests.{IsInstance}
use Rattle.nest_order.specs.orders.Shapes.{loops_of_shape, statements, Within}
use Rattle.nest_order.specs.runs.Guarded.{at_iterations, variable_cell}
use Rattle.nest_order.specs.runs.Nests.{RunNest, AreAt, variables_round}
use Rattle.nest_order.specs.runs.Stores.{Setting, HoldsNest}
use Rattle.nest_order.specs.runs.Touched.{IsPlain, EachIsPlain, MayHave, MayHaveEach, touched_in, references_in_each, touched_in_guard, touched_in_subscripts}
use Rattle.nest_order.proofs.runs.Alone.{stands_loops}
use Rattle.nest_order.proofs.runs.Holding.{nth-In}
use Rattle.nest_order.proofs.runs.Variables.{bounds_there}
use Rattle.array_form.specs.forms.Guarded.{NameCells, ReferencesHaveValues, EachHasValues}
use Rattle.array_form.specs.forms.Instances.{count_of, counts_of, in_sequence}
use Rattle.array_form.specs.forms.Instances as forms
use Rattle.array_form.specs.forms.Laws.{HasValues, store_at}
use Rattle.array_form.specs.forms.Loops.{FormLoop, FormSurroundings, form_variables_of, form_names_of, is_among}
use Rattle.array_form.specs.forms.Statements.{loops_from, loops_assigned, unguarded_hold}
use Rattle.array_form.specs.forms.Trips.{AreDistinct}
use Rattle.array_form.specs.lone.Cells.{AreLinear, HasCells, HaveCells}
use Rattle.array_form.specs.lone.Composed.{CellsGiveValues}
use Rattle.array_form.specs.lone.Instances.{AreRectangular}
use Rattle.array_form.proofs.forms.Iterations.{iterations, any_order}
use Rattle.array_form.proofs.forms.Orders.{Ordered, ordered_loops, distinct_front}
use Rattle.array_form.proofs.forms.Positions.{AreFrom, from_sequence, iteration_of, iterations_are, positions_from}
use Rattle.array_form.proofs.forms.Values.{bounded_by, same_length}
use Rattle.array_form.proofs.forms.Whole.{from_within, same_variables}
use Rattle.array_form.proofs.lone.Instances.{instance_within, store_same}
use Rattle.tree.specs.Widths.{bits_of}

-- ---- names that hold iterations

not_same : (x : List ℕ) (c : Cell) → bytes_eq x c.name ≡ false → same_cell (variable_cell x) c ≡ false
not_same x c h = ap (λ b. b && pointwise int_eq [] c.subscripts) h

first_apart : (y : List ℕ) (ys : List (List ℕ)) (x : List ℕ) → is_among (y ∷ ys) x ≡ false → (bytes_eq y x ≡ false) × (is_among ys x ≡ false)
first_apart y ys x h = by (bytes_eq y x) refl h
  where
    by : (b : Bool) → bytes_eq y x ≡ b → cond b true (is_among ys x) ≡ false → (bytes_eq y x ≡ false) × (is_among ys x ≡ false)
    by true e k = cc
    by false e k = (e, k)

untouched : (xs : List (List ℕ)) (is : List ℕ) (t : Store) (c : Cell) → is_among xs c.name ≡ false → (at_iterations xs is t).held c ≡ t.held c
untouched [] [] t c h = refl
untouched [] (i ∷ is) t c h = refl
untouched (x ∷ xs) [] t c h = refl
untouched (x ∷ xs) (i ∷ is) t c h =
    let p = first_apart x xs c.name h in
    untouched xs is (bound_to x (pos i) t) c p.1 ∙ ap (λ b. cond b (Int (pos i)) (t.held c)) (not_same x c p.0)

bounds_after : (xs : List (List ℕ)) (is : List ℕ) (t : Store) → (at_iterations xs is t).bounds ≡ t.bounds
bounds_after [] [] t = refl
bounds_after [] (i ∷ is) t = refl
bounds_after (x ∷ xs) [] t = refl
bounds_after (x ∷ xs) (i ∷ is) t = bounds_after xs is (bound_to x (pos i) t)

itself : (x : List ℕ) → same_cell (variable_cell x) (variable_cell x) ≡ true
itself x = same_cell-refl (variable_cell x)

hold_iterations : (xs : List (List ℕ)) (is : List ℕ) (t : Store) → AreDistinct xs → length xs ≡ length is → ((x : List ℕ) → In x xs → t.bounds x ≡ Some []) → HaveValues xs (at_iterations xs is t) (map pos is)
hold_iterations [] [] t d l b = tt
hold_iterations [] (i ∷ is) t d l b = cc
hold_iterations (x ∷ xs) [] t d l b = cc
hold_iterations (x ∷ xs) (i ∷ is) t d l b = (
  ap (λ (f : List ℕ → Option (List (ℤ × ℤ))). f x) (bounds_after xs is (bound_to x (pos i) t)) ∙ b x (inl refl),
  untouched xs is (bound_to x (pos i) t) (variable_cell x) d.0 ∙ ap (λ c. cond c (Int (pos i)) (t.held (variable_cell x))) (itself x),
  hold_iterations xs is (bound_to x (pos i) t) d.1 (let e : suc (length xs) ≡ suc (length is) = l in omega arith) (λ y j. b y (inr j)),
)

within_long : (trip : ℕ → List ℕ → ℕ) (before ls is : List ℕ) → Within trip before ls is → length ls ≡ length is
within_long trip before [] [] v = refl
within_long trip before [] (i ∷ is) v = absurd v
within_long trip before (l ∷ ls) [] v = absurd v
within_long trip before (l ∷ ls) (i ∷ is) v = ap suc (within_long trip (before ++ i ∷ []) ls is v.2)

not_in : (xs : List (List ℕ)) (x : List ℕ) → (In x xs → ⊥) → is_among xs x ≡ false
not_in [] x h = refl
not_in (y ∷ xs) x h = by (bytes_eq y x) refl (not_in xs x (λ i. h (inr i)))
  where
    by : (b : Bool) → bytes_eq y x ≡ b → is_among xs x ≡ false → cond b true (is_among xs x) ≡ false
    by true e more = absurd (h (inl (sym ((bytes_eq-Decides y x).0 e))))
    by false e more = more

-- ---- an instance

module _ (width : Width) (n : RunNest) (w : Setting) (facts : HasFacts (bits_of width) n w) (s : ℕ) (in_nest : In s (statements n.shape)) (distinct : AreDistinct (variables_round n s)) (t : Store) (holds : HoldsNest (bits_of width) n w t) where
  loops_known : (m : ℕ) → In m (n.loops_of s) → In m (loops_of_shape n.shape)
  loops_known m i =
      let k = statement_stands n.shape s in_nest in
      let e : k.0 ≡ n.loops_of s = sym (facts.text.nest.fits s k.0 k.1) in
      stands_loops n.shape s k.0 k.1 m (subst (In m) (sym e) i)

  module _ (js : List ℕ) (it : IsInstance n.loops_of (n.turns_of w.values) n.shape (record { statement = s; iterations = js })) where
    abbrev there : Store
    there = at_iterations (variables_round n s) js t

    places_have : HaveValues (variables_round n s ++ n.symbols) there (places_of w.values n.symbols js)
    places_have =
        have-append (variables_round n s) n.symbols there (map pos js) (values_from w.values 0 n.symbols)
        (hold_iterations (variables_round n s) js t distinct (length-map (n.loops_of s) n.variable_at ∙ within_long (n.turns_of w.values) [] (n.loops_of s) js it.1)
        (λ x i. let o = In-map n.variable_at x (n.loops_of s) i in holds.bounds x ∙ (ap w.bounds o.is ∙ facts.variables o.it (loops_known o.it o.inside))))
        (symbols-have w.values there n.symbols 0 (λ x i. bounds_there n (variables_round n s) js t x ∙ (holds.bounds x ∙ facts.symbols x i))
        (λ j x e. untouched (variables_round n s) js t (variable_cell x) (not_in (variables_round n s) x (λ i. other x (nth-In n.symbols j x e) i)) ∙ (holds.symbols j x e ∙ ap (λ m. Int (w.values m)) (let z : j ≡ 0 + j = omega arith in z))))
      where
        other : (x : List ℕ) → In x n.symbols → In x (variables_round n s) → ⊥
        other x i j = let o = In-map n.variable_at x (n.loops_of s) j in facts.text.others o.it x (loops_known o.it o.inside) i (sym o.is)

    places_sized : AreSized (places_of w.values n.symbols js)
    places_sized =
        sized-append (map pos js) (values_from w.values 0 n.symbols) (small_sized js (small_iterations (bits_of width) n w facts (n.loops_of s) js [] loops_known it.1))
        (symbols-sized w.values there n.symbols 0 (λ j x e. subst (λ m. nat_abs (w.values m) ≤ 2 ^ 63) (let z : j ≡ 0 + j = omega arith in z) (facts.values j x e)))

    linear_value : (e : Expression) (z : ℤ) → IsSome (n.linear s e) → MayHave n w.values js (n.linear s e) z → value_of (fortran90 width) e there ≡ Ok (Int z)
    linear_value e z is have = by (form_of (variables_round n s) n.symbols e) refl (subst (λ o. IsSome o) same is) (subst (λ o. MayHave n w.values js o z) same have)
      where
        same : n.linear s e ≡ number_by n.symbols (form_of (variables_round n s) n.symbols e)
        same = facts.linear s e in_nest

        by : (o : Option Form) → form_of (variables_round n s) n.symbols e ≡ o → IsSome (number_by n.symbols o) → MayHave n w.values js (number_by n.symbols o) z → value_of (fortran90 width) e there ≡ Ok (Int z)
        by None f i h = cc
        by (Some f') f i h =
            linear_has_value (fortran90 width) (variables_round n s) n.symbols e f' there (places_of w.values n.symbols js) f places_have places_sized ∙ ap (λ y. let r : Result Value Fault = Ok (Int y) in r) (sym h)

    subscripts_value : (ps : Subscripts) (zs : List ℤ) → AreLinear n s ps → MayHaveEach n w.values s js ps zs → subscript_values (fortran90 width) ps there ≡ Ok zs
    subscripts_value no_subscripts [] l h = refl
    subscripts_value no_subscripts (z ∷ zs) l h = absurd h
    subscripts_value (subscript (Section a b c) ps) zs l h = absurd l
    subscripts_value (subscript (Only e) ps) [] l h = absurd h
    subscripts_value (subscript (Only e) ps) (z ∷ zs) l h =
        ap₂ (λ (r : Result Value Fault) (q : Result (List ℤ) Fault). do i ← (do x ← r; as_number x); is ← q; Ok (i ∷ is)) (linear_value e z l.0 h.0) (subscripts_value ps zs l.1 h.1)

    reference_value : (r : Reference) → HasCells n w s r → (v : Value) × (value_of (fortran90 width) (Named r.name r.subscripts) there ≡ Ok v)
    reference_value r h =
        let c = h.names (record { statement = s; iterations = js }) it refl in
        let found : cell_in (there.bounds r.name) r.name c.cell.subscripts ≡ Ok c.cell
        = ap (λ b. cell_in b r.name c.cell.subscripts) (bounds_there n (variables_round n s) js t r.name ∙ holds.bounds r.name) ∙ c.within in (
          there.held c.cell,
          ap (λ (q : Result (List ℤ) Fault). do is ← q; k ← cell_at r.name is there; Ok (there.held k)) (subscripts_value r.subscripts c.cell.subscripts h.linear c.may.subscripts)
              ∙ ap (λ (q : Result Cell Fault). do k ← q; Ok (there.held k)) found,
        )

-- ---- in the order of the left subscripts

module _ (width : Width) (n : RunNest) (w : Setting) (s : ℕ) (a : FormSurroundings) (outer inner before : List ℕ) (xs : List ℤ) (t : Store) (facts : HasFacts (bits_of width) n w) (in_nest : In s (statements n.shape)) (fits : n.loops_of s ≡ outer ++ inner)
    (variables : form_variables_of a.loops ≡ map n.variable_at (outer ++ inner)) (distinct : AreDistinct (form_names_of a)) (no_hold : unguarded_hold a (suc (length outer)) (n.statement_at s).left ≡ None)
    (rectangular : AreRectangular (n.turns_of w.values) inner before (counts_of xs (loops_from a (suc (length outer))))) (within : Within (n.turns_of w.values) [] outer before) (holds : HoldsNest (bits_of width) n w t) (at : AreAt n outer before t) where
  abbrev k : ℕ
  k = suc (length outer)

  abbrev mine : List FormLoop
  mine = loops_from a k

  abbrev D : List FormLoop
  D = loops_assigned a k (n.statement_at s).left

  order : Ordered (loops_from a (suc (length outer))) (n.statement_at s).left.subscripts (loops_assigned a (suc (length outer)) (n.statement_at s).left)
  order = ordered_loops a (suc (length outer)) (n.statement_at s).left distinct no_hold

  own_distinct : AreDistinct (variables_round n s)
  own_distinct = subst AreDistinct (variables ∙ ap (map n.variable_at) (sym fits)) (distinct_front (form_variables_of a.loops) a.symbols distinct)

  drop-map : (m : ℕ) (ls : List FormLoop) → form_variables_of (drop m ls) ≡ drop m (form_variables_of ls)
  drop-map zero ls = refl
  drop-map (suc m) [] = refl
  drop-map (suc m) (l ∷ ls) = drop-map m ls

  drop-front : (f : ℕ → List ℕ) (us ys : List ℕ) → drop (length us) (map f (us ++ ys)) ≡ map f ys
  drop-front f [] ys = refl
  drop-front f (x ∷ us) ys = drop-front f us ys

  inner_variables : form_variables_of (loops_from a (suc (length outer))) ≡ map n.variable_at inner
  inner_variables =
      let less : suc (length outer) - 1 ≡ length outer = omega arith in
      ap (λ m. form_variables_of (drop m a.loops)) less ∙ (drop-map (length outer) a.loops ∙ (ap (drop (length outer)) variables ∙ drop-front n.variable_at outer inner))

  -- the store of a position is that of an instance
  pub record Instanced (is : List ℕ) : Type 0 where
    pub js : List ℕ
    pub it : IsInstance n.loops_of (n.turns_of w.values) n.shape (record { statement = s; iterations = before ++ js })
    pub same : at_iterations (variables_round n s) (before ++ js) t ≡ store_at (loops_assigned a (suc (length outer)) (n.statement_at s).left) is t

  higher : (ns is : List ℕ) → AreFrom 0 ns is → AreFrom 1 ns (map suc is)
  higher [] [] h = tt
  higher [] (i ∷ is) h = absurd h
  higher (m ∷ ns) [] h = absurd h
  higher (m ∷ ns) (i ∷ is) h = let low = h.0.0 in let high = h.0.1 in ((omega (arith, low), omega (arith, high)), higher ns is h.1)

  instanced : (is : List ℕ) → Contains (positions (counts_of xs (loops_assigned a (suc (length outer)) (n.statement_at s).left))) is → Instanced is
  instanced is c =
      let from = higher (counts_of xs D) is (positions_from (counts_of xs D) is c) in
      let ι = iteration_of D (map suc is) in
      let are = iterations_are 1 D (counts_of xs D) (map suc is) order.distinct (same_length xs D) from in
      let js = iterations ι mine in
      let in_order = from_sequence (counts_of xs mine) js (from_within xs ι mine (λ l c. let b = bounded_by xs 1 D (map suc is) ι are from l (order.onto l c) in let low = b.0 in let high = b.1 in (low, omega (arith, high)))) in
      record {
        js = js;
        it = instance_within n w s in_nest outer inner before fits (counts_of xs mine) rectangular within js in_order;
        same = store_same n s outer inner before fits mine inner_variables js t at
            ∙ (any_order ι mine D t (same_variables mine D order.onto order.into) ∙ ap (λ ks. forms.at_iterations D ks t) are);
      }

  have_value : (r : Reference) → HasCells n w s r → HasValues (fortran90 width) xs (loops_assigned a (suc (length outer)) (n.statement_at s).left) (Named r.name r.subscripts) t
  have_value r h is c =
      let i = instanced is c in
      let v = reference_value width n w facts s in_nest own_distinct t holds (before ++ i.js) i.it r h in
      (v.0, ap (value_of (fortran90 width) (Named r.name r.subscripts)) (sym i.same) ∙ v.1)

  mutual
    right_values : (e : Expression) → IsPlain e → ((r : Reference) → In r (touched_in e) → HasCells n w s r) → ReferencesHaveValues (fortran90 width) xs (loops_assigned a (suc (length outer)) (n.statement_at s).left) e t
    right_values (Number m) p h = tt
    right_values (Logic b) p h = tt
    right_values (Named x ps) p h = have_value (record { name = x; subscripts = ps }) (h (record { name = x; subscripts = ps }) (inl refl))
    right_values (Unary o e) p h = right_values e p h
    right_values (Binary o e f) p h = (right_values e p.0 (λ r i. h r (In-left r (touched_in e) (touched_in f) i)), right_values f p.1 (λ r i. h r (In-right r (touched_in e) (touched_in f) i)))
    right_values (Apply f es) p h = each_values es p h
    right_values (Constructor es ls) p h = absurd p
    right_values (Spread e m f) p h = absurd p
    right_values (Transpose e) p h = absurd p
    right_values (Reshape e es) p h = absurd p
    right_values (Reduce o e) p h = absurd p

    each_values : (es : Expressions) → EachIsPlain es → ((r : Reference) → In r (references_in_each es) → HasCells n w s r) → EachHasValues (fortran90 width) xs (loops_assigned a (suc (length outer)) (n.statement_at s).left) es t
    each_values no_expressions p h = tt
    each_values (expression e es) p h = (right_values e p.0 (λ r i. h r (In-left r (touched_in e) (references_in_each es) i)), each_values es p.1 (λ r i. h r (In-right r (touched_in e) (references_in_each es) i)))

  give : HaveCells n w s → NameCells (fortran90 width) xs (loops_assigned a (suc (length outer)) (n.statement_at s).left) (n.statement_at s).left (n.statement_at s).right t
  give cells =
      let g = n.statement_at s in
      record {
        left_cells = have_value g.left (cells g.left (inl refl));
        right_cells = right_values g.right (facts.text.plain s in_nest).1
            (λ r i. cells r (inr (In-right r (touched_in_guard g.guard) (touched_in_subscripts g.left.subscripts ++ touched_in g.right) (In-right r (touched_in_subscripts g.left.subscripts) (touched_in g.right) i))));
      }

pub cells_give_values : (width : Width) → CellsGiveValues width
cells_give_values width n w s a outer inner before xs t facts in_nest fits variables distinct no_hold rectangular within holds at cells =
    give width n w s a outer inner before xs t facts in_nest fits variables distinct no_hold rectangular within holds at cells
