-- The array form of an assignment under a guard in which one of its loops stands: a WHERE stores what its instances store.
use Rattle.std.proofs.Common.{◌≡◌, ◌≤◌, refl, sym, ap, ◌∙◌, subst, ◌⊎◌, inl, inr, ℕ, suc, ◌+◌, ◌-◌, ℤ, Bool, true, false, cond, ◌&&◌, List, [], ◌∷◌, ◌++◌, map, length, Result, Ok, Err, Option, Some, None, arith, Contains}
use Rattle.std.specs.List.{AllByRecursion}
use Rattle.std.proofs.lemmas.List.Elements.{recursion_from_All}
use mathlib.Core.Path.{ap₂}
use Rattle.tree.specs.Operators.{as_truth}
use Rattle.tree.specs.Plain.{Expression, Number, Logic, Named, Unary, Binary, Apply, Constructor, Spread, Transpose, Reshape, Reduce, Expressions, no_expressions, expression, Only, Section, Subscripts, no_subscripts, subscript, Reference, Where, Block, no_statements, statement}
use Rattle.tree.specs.Steps.{◌>>=◌}
use Rattle.tree.specs.declared.ops.Fault.{Fault}
use Rattle.tree.specs.declared.ops.Fault.TheVariants.{Allocated, Bounds}
use Rattle.tree.specs.declared.ops.Value.{Value}
use Rattle.tree.specs.declared.ops.Value.TheVariants.{Int, Truth}
use Rattle.tree.specs.declared.stmts.Mark.{Mark}
use Rattle.meaning.specs.ArrayStatements.{axes_named, storable, writes_of}
use Rattle.meaning.specs.ArrayValues.{Elements, each, positions, conform}
use Rattle.meaning.specs.Dialect.{Dialect, fortran90}
use Rattle.tree.specs.declared.width.Width.{Width}
use Rattle.meaning.specs.Reads.{names_in, names_in_subscripts}
use Rattle.meaning.specs.CellsRead.{cells_read, cells_read_by}
use Rattle.meaning.specs.Run.{State, Going, does_all}
use Rattle.meaning.specs.Sections.{Axis, extents_of}
use Rattle.meaning.specs.Store.{Store, Cell, cell_at, cell_in}
use Rattle.meaning.specs.Value.{value_of, array_of, subscript_values, cell_named}
use Rattle.meaning.proofs.CellFrame.{first_part, second_part, value_of-same, cell_named-same}
use Rattle.meaning_laws.specs.arrays.Assignments as assignments
use Rattle.meaning_laws.specs.arrays.Assignments.{element_assigned, shape_assigned}
use Rattle.meaning_laws.specs.arrays.Elements.{cell_at_position, subscripts_at}
use Rattle.meaning_laws.specs.arrays.Forms.{StandsFor, StoreApart}
use Rattle.meaning_laws.specs.arrays.Instances.{Instance, ComesFromReads, puts, writes_in, in_turn, NoneReadsWritten}
use Rattle.meaning_laws.proofs.arrays.Assignments.{bounds_alike, where_stores}
use Rattle.meaning_laws.proofs.arrays.Forms.{effect_of, array_form_is_instances}
use Rattle.meaning_laws.proofs.arrays.Members.{here, there, nowhere, cases_of, in_map, of_map}
use Rattle.meaning_laws.proofs.arrays.OneToOne.{positions_are_one_to_one}
use Rattle.meaning_laws.proofs.arrays.Stages.{bound}
use Rattle.meaning_laws.proofs.arrays.Turns.{in_turn_is_at_once}
use Rattle.linear_forms.proofs.Sizes.{both}
use Rattle.array_form.specs.forms.Following.{has_no_loop, are_moved, is_regular, are_regular, are_regular_subscripts}
use Rattle.array_form.specs.forms.Forms.{form, forms, subscript_forms}
use Rattle.array_form.specs.forms.Guarded.{stored_if, guarded_at, guarded_from, ReferencesHaveValues, EachHasValues, FormHasValuesOrFaults}
use Rattle.array_form.specs.forms.Instances.{at_iterations, counts_of, in_sequence}
use Rattle.array_form.specs.forms.Laws.{Turns, AreKnown, AreTurning, HasValues}
use Rattle.array_form.specs.forms.Loops.{FormLoop, FormSurroundings, form_variables_of, form_names_of, loops_in_order, loops_among}
use Rattle.array_form.specs.forms.Statements.{loops_from, unguarded_hold, loops_assigned, left_form, right_form, form_tests_of, guarded_by}
use Rattle.array_form.proofs.forms.Axes as axes
use Rattle.array_form.proofs.forms.Axes.{Fit, Within, NoFault, Takes, places}
use Rattle.array_form.proofs.forms.Forming.{conforming, unary, binary, HasEach, no_arguments, one_argument, applied}
use Rattle.array_form.proofs.forms.Iterations.{iterations, at_those, bounds_at, any_order}
use Rattle.array_form.proofs.forms.Tests.{ready, block_done}
use Rattle.array_form.proofs.forms.Orders.{Ordered, ordered_loops, no_triangle, of_drop, distinct_front, distinct_drop}
use Rattle.array_form.proofs.forms.Positions.{from_sequence, sequence_from, iteration_of, iterations_are}
use Rattle.array_form.proofs.forms.Taking.{takes}
use Rattle.array_form.proofs.forms.Values.{fitting, bounded_by, same_length, by_position}
use Rattle.array_form.proofs.forms.Whole.{held_kept, bounds_kept, same_variables, from_within, linear_regular, linear_vectors, unsubscripted}
use Rattle.meaning.proofs.Widths.{narrowest}

-- ---- forms of expressions that may meet faults, but for their references

module _ (d : Dialect) (bits : 31 ≤ d.bits) (a : FormSurroundings) (s : Store) (xs : List ℤ) (k : AreKnown a s xs) where
  abbrev InD : List FormLoop → (List ℕ → ℕ) → Type 0
  InD D ι = Within d a s xs k.few k.values k.sized k.distinct D ι

  abbrev SafeD : List FormLoop → Expression → Type 0
  SafeD D e = NoFault d a s xs k.few k.values k.sized k.distinct D e

  abbrev HasD : List FormLoop → Expression → Expression → Type 0
  HasD D e F = Takes d a s xs k.few k.values k.sized k.distinct D e F

  abbrev fitD : (D : List FormLoop) → AreTurning a D xs → Fit d a s xs k.few k.values k.sized k.distinct D
  fitD D t = fitting d a D s xs k t

  abbrev mutual
    pub Safely : List FormLoop → Expression → Type 0
    Safely D (Named x ps) = SafeD D (Named x ps)
    Safely D (Unary o e) = Safely D e
    Safely D (Binary o e f) = Safely D e × Safely D f
    Safely D (Apply f es) = SafelyEach D es
    Safely D (Reduce r e) = SafeD D (Reduce r e)
    Safely D _ = Unit {0}

    pub SafelyEach : List FormLoop → Expressions → Type 0
    SafelyEach D no_expressions = Unit {0}
    SafelyEach D (expression e es) = Safely D e × SafelyEach D es

  mutual
    pub takes_safely : (e : Expression) (D : List FormLoop) (t : AreTurning a D xs) → is_regular a D e ≡ true → Safely D e → HasD D e (form a D e)
    takes_safely (Number n) D t h safe = takes d bits a s xs k (Number n) D t h (λ ι w. (Int n, refl))
    takes_safely (Logic b) D t h safe = takes d bits a s xs k (Logic b) D t h (λ ι w. (Truth b, refl))
    takes_safely (Named x ps) D t h safe = takes d bits a s xs k (Named x ps) D t h safe
    takes_safely (Unary o e) D t h safe = unary d a s xs k.few k.values k.sized k.distinct D (fitD D t) o e (form a D e) (takes_safely e D t h safe)
    takes_safely (Binary o e f) D t h safe =
        let parts = both (is_regular a D e) (is_regular a D f) h in
        binary d a s xs k.few k.values k.sized k.distinct D (fitD D t) o e f (form a D e) (form a D f) (takes_safely e D t parts.0 safe.0) (takes_safely f D t parts.1 safe.1)
    takes_safely (Apply f es) D t h safe = applied d a s xs k.few k.values k.sized k.distinct D (fitD D t) f es (forms a D es) (takes_each_safely es D t true h safe)
    takes_safely (Reduce r e) D t h safe = takes d bits a s xs k (Reduce r e) D t h safe
    takes_safely (Constructor es ls) D t h safe = absurd cc
    takes_safely (Spread e n f) D t h safe = absurd cc
    takes_safely (Transpose e) D t h safe = absurd cc
    takes_safely (Reshape e es) D t h safe = absurd cc

    takes_each_safely : (es : Expressions) (D : List FormLoop) (t : AreTurning a D xs) (b : Bool) → are_regular a D es ≡ true → SafelyEach D es → HasEach d a s xs k.few k.values k.sized k.distinct D (fitD D t) es (forms a D es) b
    takes_each_safely no_expressions D t b h safe = no_arguments d a s xs k.few k.values k.sized k.distinct D (fitD D t) b
    takes_each_safely (expression e es) D t b h safe =
        let parts = both (is_regular a D e) (are_regular a D es) h in
        one_argument d a s xs k.few k.values k.sized k.distinct D (fitD D t) e (form a D e) es (forms a D es) b
        (takes_safely e D t parts.0 safe.0) (takes_each_safely es D t (b && has_no_loop (loops_among D (names_in e))) parts.1 safe.1)

  -- the iterations of a position
  iterated : (D : List FormLoop) (ι : List ℕ → ℕ) → InD D ι → (ls : List FormLoop) → ((l : FormLoop) → Contains ls l → Contains D l) → map suc (map (λ (l : FormLoop). ι l.variable - 1) ls) ≡ iterations ι ls
  iterated D ι w [] h = refl
  iterated D ι w (l ∷ ls) h =
      let low = (w l (h l (here l ls))).0 in
      ap₂ (λ (x : ℕ) (ys : List ℕ). x ∷ ys) (omega (arith, low)) (iterated D ι w ls (λ m g. h m (there l ls m g)))

  pub no_fault : (D : List FormLoop) (e : Expression) → HasValues d xs D e s → SafeD D e
  no_fault D e has ι w =
      let is = map (λ (l : FormLoop). ι l.variable - 1) D in
      let v = has is (axes.contained d a s xs k.few k.values k.sized k.distinct D ι w) in
      (v.0, ap (λ js. value_of d e (at_iterations D js s)) (sym (iterated D ι w D (λ l g. g))) ∙ v.1)

  mutual
    pub safely : (D : List FormLoop) (e : Expression) → ReferencesHaveValues d xs D e s → Safely D e
    safely D (Number n) h = tt
    safely D (Logic b) h = tt
    safely D (Named x ps) h = no_fault D (Named x ps) h
    safely D (Unary o e) h = safely D e h
    safely D (Binary o e f) h = (safely D e h.0, safely D f h.1)
    safely D (Apply f es) h = safely_each D es h
    safely D (Reduce r e) h = no_fault D (Reduce r e) h
    safely D (Constructor es ls) h = tt
    safely D (Spread e n f) h = tt
    safely D (Transpose e) h = tt
    safely D (Reshape e es) h = tt

    safely_each : (D : List FormLoop) (es : Expressions) → EachHasValues d xs D es s → SafelyEach D es
    safely_each D no_expressions h = tt
    safely_each D (expression e es) h = (safely D e h.0, safely_each D es h.1)

pub form_has_values_or_faults : FormHasValuesOrFaults
form_has_values_or_faults lang a D e s xs bits k t regular has =
    let h = takes_safely lang bits a s xs k e D t regular (safely lang bits a s xs k D e has) in
    record {
      array = h.array;
      known = h.known;
      extents = h.extents;
      at = λ is c.
          let b = by_position lang a D s xs k t is c in
          ap h.array.at (sym b.places_are) ∙ (h.at b.ι b.within ∙ ap (λ js. value_of lang e (at_iterations D js s)) b.iterations_are);
    }

-- ---- an instance depends on the cells that it reads alone

module _ (d : Dialect) (ls : List FormLoop) (guard : Expression) (left : Reference) (right : Expression) where
  from_reads : (is : List ℕ) → ComesFromReads (guarded_at d ls (Some guard) left right is)
  from_reads is = record {
    same = λ s t e m.
        let u = at_iterations ls is s in
        let v = at_iterations ls is t in
        let first = cells_read d guard u in
        let read = cells_read d right u in
        let all = held_kept ls is s t (first ++ (read ++ cells_read_by d left.subscripts u)) (recursion_from_All (λ c. s.held c ≡ t.held c) (first ++ (read ++ cells_read_by d left.subscripts u)) m) in
        let more = second_part (λ c. u.held c ≡ v.held c) first (read ++ cells_read_by d left.subscripts u) all in
        let b = bounds_kept ls is s t e in
        let g : value_of d guard u ≡ value_of d guard v = value_of-same d u v guard (bounds_alike u v b (names_in guard)) (first_part (λ c. u.held c ≡ v.held c) first (read ++ cells_read_by d left.subscripts u) all) in
        let stored : (b : Bool) → stored_if d b left right u ≡ stored_if d b left right v = same_stored u v
        (value_of-same d u v right (bounds_alike u v b (names_in right)) (first_part (λ c. u.held c ≡ v.held c) read (cells_read_by d left.subscripts u) more))
        (cell_named-same d u v left (ap (λ (f : List ℕ → Option (List (ℤ × ℤ))). f left.name) b) (bounds_alike u v b (names_in_subscripts left.subscripts)) (second_part (λ c. u.held c ≡ v.held c) read (cells_read_by d left.subscripts u) more)) in
        both_same (value_of d guard u) (value_of d guard v) g (λ b. stored_if d b left right u) (λ b. stored_if d b left right v) stored;
  }
    where
      same_stored : (u v : Store) → value_of d right u ≡ value_of d right v → cell_named d left u ≡ cell_named d left v → (b : Bool) → stored_if d b left right u ≡ stored_if d b left right v
      same_stored u v e f false = refl
      same_stored u v e f true = ap₂ (λ (r : Result Value Fault) (q : Result Cell Fault). do x ← r; c ← q; w ← storable d x; Ok (Some (c, w))) e f

      both_same : (r q : Result Value Fault) → r ≡ q → (f g : Bool → Result (Option (Cell × Value)) Fault) → ((b : Bool) → f b ≡ g b) → (do b ← (do x ← r; as_truth x); f b) ≡ (do b ← (do x ← q; as_truth x); g b)
      both_same r q e f g h = ap (λ (z : Result Value Fault). let y : Result (Option (Cell × Value)) Fault = (do b ← (do x ← z; as_truth x); f b) in y) e ∙ by (do x ← q; as_truth x)
        where
          by : (z : Result Bool Fault) → (do b ← z; f b) ≡ (do b ← z; g b)
          by (Ok b) = h b
          by (Err x) = refl

  all_from_reads : (iss : List (List ℕ)) → AllByRecursion ComesFromReads (map (guarded_at d ls (Some guard) left right) iss)
  all_from_reads [] = tt
  all_from_reads (is ∷ iss) = (from_reads is, all_from_reads iss)

-- ---- the assignment to an element with subscripts

module _ (d : Dialect) (bits : 31 ≤ d.bits) (a : FormSurroundings) (k : ℕ) (s : Store) (xs : List ℤ) (known : AreKnown a s xs) (turns : (l : FormLoop) → Contains (loops_from a k) l → Turns a xs l)
    (x : List ℕ) (e : Expression) (ps : Subscripts) (guard right : Expression) (no_hold : unguarded_hold a k (record { name = x; subscripts = subscript (Only e) ps }) ≡ None)
    (moved : are_moved a (loops_assigned a k (record { name = x; subscripts = subscript (Only e) ps })) (subscript (Only e) ps) ≡ true)
    (t : Store) where
  abbrev left : Reference
  left = record { name = x; subscripts = subscript (Only e) ps }

  abbrev mine : List FormLoop
  mine = loops_from a k

  abbrev D : List FormLoop
  D = loops_assigned a k left

  abbrev instances : List Instance
  instances = guarded_from d a k xs (Some guard) left right

  abbrev L : Reference
  L = left_form a k left

  abbrev R : Expression
  R = right_form a k left right

  abbrev M : Expression
  M = form a D guard

  order : Ordered mine (subscript (Only e) ps) D
  order = ordered_loops a k left known.distinct no_hold

  turning : AreTurning a D xs
  turning = record { loops = λ l c. of_drop (k - 1) a.loops l (order.into l c); once = order.distinct; turns = λ l c. turns l (order.into l c); apart = λ l m p q n. no_triangle a k left no_hold l m (order.into l p) (order.into m q) n }

  fit : Fit d a s xs known.few known.values known.sized known.distinct D
  fit = fitting d a D s xs known turning

  abbrev In : (List ℕ → ℕ) → Type 0
  In ι = Within d a s xs known.few known.values known.sized known.distinct D ι

  abbrev spots : (List ℕ → ℕ) → List ℕ
  spots ι = places d a s xs known.few known.values known.sized known.distinct ι D

  same_store : (ι : List ℕ → ℕ) → at_those ι mine s ≡ at_those ι D s
  same_store ι = any_order ι mine D s (same_variables mine D order.onto order.into)

  in_instances : (ι : List ℕ → ℕ) → In ι → Contains instances (guarded_at d mine (Some guard) left right (iterations ι mine))
  in_instances ι w = in_map (guarded_at d mine (Some guard) left right) (in_sequence (counts_of xs mine)) (iterations ι mine)
      (from_sequence (counts_of xs mine) (iterations ι mine) (from_within xs ι mine (λ l c. w l (order.onto l c))))

  abbrev done_under : Bool → Store → Result (Option (Cell × Value)) Fault
  done_under b u = stored_if d b left right u

  -- the guard has a value in each instance
  guard_there : (ι : List ℕ → ℕ) (o : Option (Cell × Value)) → (guarded_at d mine (Some guard) left right (iterations ι mine)).effect s ≡ Ok o → (v : Value) × (value_of d guard (at_those ι D s) ≡ Ok v)
  guard_there ι o h =
      let u = at_those ι mine s in
      let b = bound (do x ← value_of d guard u; as_truth x) (λ b. stored_if d b left right u) o h in
      let v = bound (value_of d guard u) (λ x. as_truth x) b.0 b.1 in
      (v.0, ap (value_of d guard) (sym (same_store ι)) ∙ v.1)

  module _ (guard_safe : NoFault d a s xs known.few known.values known.sized known.distinct D guard)
      (left_safe : NoFault d a s xs known.few known.values known.sized known.distinct D (Named x (subscript (Only e) ps)))
      (right_safe : Safely d bits a s xs known D right)
      (bs : List (ℤ × ℤ)) (bounds : s.bounds x ≡ Some bs) (regular_guard : is_regular a D guard ≡ true) (regular : is_regular a D right ≡ true) where
    -- each left subscript with a loop is linear
    left_regular : are_regular_subscripts a D (subscript (Only e) ps) ≡ true
    left_regular = linear_regular a D (subscript (Only e) ps) moved

    left_vectors : axes.Vectors d a s xs known.few known.values known.sized known.distinct D (subscript (Only e) ps)
    left_vectors = linear_vectors d a s xs known D (subscript (Only e) ps) moved

    abbrev picked : axes.SelectsAll d a s xs known.few known.values known.sized known.distinct D (subscript (Only e) ps) (subscript_forms a D (subscript (Only e) ps)) bs (loops_in_order D (subscript (Only e) ps))
    picked = axes.picks d a s xs known.few known.values known.sized known.distinct D fit x e ps bs bounds order.ones left_regular left_vectors left_safe

    L_axes : axes_named d L s ≡ Ok picked.axes
    L_axes = axes.axes_there d a s xs known.few known.values known.sized known.distinct D fit x e ps bs bounds order.ones left_regular left_vectors left_safe

    L_extents : extents_of picked.axes ≡ counts_of xs D
    L_extents = picked.extents ∙ ap (counts_of xs) order.same

    -- the cell of an instance is that at its position
    cell_is : (ι : List ℕ → ℕ) → (w : In ι) → cell_named d left (at_those ι D s) ≡ Ok (cell_at_position x picked.axes (spots ι))
    cell_is ι w =
        let u = at_those ι D s in
        let m = axes.element d a s xs known.few known.values known.sized known.distinct D fit x e ps bs bounds order.ones left_regular left_vectors left_safe ι w in
        let c : Cell = record { name = x; subscripts = m.numbers } in
        let there' : u.bounds x ≡ Some bs = ap (λ (b : List ℕ → Option (List (ℤ × ℤ))). b x) (bounds_at ι D s) ∙ bounds in
        let found : cell_named d left u ≡ Ok c =
        ap₂ (λ (r : Result (List ℤ) Fault) (o : Option (List (ℤ × ℤ))). do is ← r; cell_in o x is) m.known there'
        ∙ ap (λ b. let r : Result Cell Fault = cond b (Ok c) (Err Bounds) in r) m.within in
        found
        ∙ ap (λ zs. let c : Cell = record { name = x; subscripts = zs } in let r : Result Cell Fault = Ok c in r)
        (axes.cell_there d a s xs known.few known.values known.sized known.distinct D fit x e ps bs bounds order.ones left_regular left_vectors left_safe ι w ∙ ap (λ ls. subscripts_at picked.axes (places d a s xs known.few known.values known.sized known.distinct ι ls)) order.same)

    -- what an instance stores, by the truth of its guard and the value of its right side
    abbrev effect_by : Cell → Bool → Result Value Fault → Result (Option (Cell × Value)) Fault
    effect_by c false r = Ok None
    effect_by c true r = do
      v ← r
      w ← storable d v
      Ok (Some (c, w))

    stored_is : (c : Cell) (u : Store) → cell_named d left u ≡ Ok c → (b : Bool) → stored_if d b left right u ≡ effect_by c b (value_of d right u)
    stored_is c u h false = refl
    stored_is c u h true = by (value_of d right u)
      where
        by : (r : Result Value Fault) → ◌≡◌ {A = Result (Option (Cell × Value)) Fault} (do v ← r; c ← cell_named d left u; w ← storable d v; Ok (Some (c, w))) (do v ← r; w ← storable d v; Ok (Some (c, w)))
        by (Ok v) = ap (λ (q : Result Cell Fault). do c ← q; w ← storable d v; Ok (Some (c, w))) h
        by (Err f) = refl

    abbrev effect_at : (List ℕ → ℕ) → Result (Option (Cell × Value)) Fault
    effect_at ι = do
      b ← (do x ← value_of d guard (at_those ι D s); as_truth x)
      effect_by (cell_at_position x picked.axes (spots ι)) b (value_of d right (at_those ι D s))

    instance_effect : (ι : List ℕ → ℕ) → (w : In ι) → (guarded_at d mine (Some guard) left right (iterations ι mine)).effect s ≡ effect_at ι
    instance_effect ι w =
        ap (λ (u : Store). let r : Result (Option (Cell × Value)) Fault = (do b ← (do x ← value_of d guard u; as_truth x); stored_if d b left right u) in r) (same_store ι)
        ∙ by (do x ← value_of d guard (at_those ι D s); as_truth x)
      where
        by : (z : Result Bool Fault) → (do b ← z; stored_if d b left right (at_those ι D s)) ≡ (do b ← z; effect_by (cell_at_position x picked.axes (spots ι)) b (value_of d right (at_those ι D s)))
        by (Ok b) = stored_is (cell_at_position x picked.axes (spots ι)) (at_those ι D s) (cell_is ι w) b
        by (Err f) = refl

    in_extents : (ι : List ℕ → ℕ) → In ι → Contains (positions (extents_of picked.axes)) (spots ι)
    in_extents ι w = subst (λ ns. Contains (positions ns) (spots ι)) (sym L_extents) (axes.contained d a s xs known.few known.values known.sized known.distinct D ι w)

    -- the names of an instance's iterations
    record Listed (is : List ℕ) : Type 0 where
      ι : List ℕ → ℕ
      within : In ι
      are : iterations ι mine ≡ is

    listed : (is : List ℕ) → Contains (in_sequence (counts_of xs mine)) is → Listed is
    listed is c =
        let from = sequence_from (counts_of xs mine) is c in
        let ι = iteration_of mine is in
        let are = iterations_are 1 mine (counts_of xs mine) is (distinct_drop (k - 1) a.loops (distinct_front (form_variables_of a.loops) a.symbols known.distinct)) (same_length xs mine) from in
        record { ι = ι; within = λ l h. let b = bounded_by xs 1 mine is ι are from l (order.into l h) in let low = b.0 in let high = b.1 in (low, omega (arith, high)); are = are }

    at_member : (f g : FormLoop → ℕ) (ls : List FormLoop) → map f ls ≡ map g ls → (l : FormLoop) → Contains ls l → f l ≡ g l
    at_member f g [] e l c = absurd (nowhere l c)
    at_member f g (m ∷ ls) e l c =
        let first : f m ≡ g m = cc in
        let others : map f ls ≡ map g ls = cc in
        by first (cases_of m ls l c) (at_member f g ls others l)
      where
        by : f m ≡ g m → (m ≡ l) ⊎ Contains ls l → (Contains ls l → f l ≡ g l) → f l ≡ g l
        by p (inl q) more = subst (λ (i : FormLoop). f i ≡ g i) q p
        by p (inr h) more = more h

    same_on : (ι κ : List ℕ → ℕ) → In ι → In κ → spots ι ≡ spots κ → (ls : List FormLoop) → ((l : FormLoop) → Contains ls l → Contains D l) → iterations ι ls ≡ iterations κ ls
    same_on ι κ v w e [] h = refl
    same_on ι κ v w e (l ∷ ls) h =
        let c = h l (here l ls) in
        let low = (v l c).0 in
        let low' = (w l c).0 in
        let same = at_member (λ (m : FormLoop). ι m.variable - 1) (λ (m : FormLoop). κ m.variable - 1) D e l c in
        ap₂ (λ (i : ℕ) (is : List ℕ). i ∷ is) (omega (arith, low, low', same)) (same_on ι κ v w e ls (λ m g. h m (there l ls m g)))

    pair_same : (c c' : Cell) (v v' : Value) → ◌≡◌ {A = Result (Option (Cell × Value)) Fault} (Ok (Some (c, v))) (Ok (Some (c', v'))) → (c ≡ c') × (v ≡ v')
    pair_same c c' v v' h = let same : ◌≡◌ {A = Cell × Value} (c, v) (c', v') = cc in (ap (λ (p : Cell × Value). p.0) same, ap (λ (p : Cell × Value). p.1) same)

    -- an instance that stores does so in its own cell
    own_cell : (c : Cell) (z : Result Bool Fault) (r : Result Value Fault) (o : Cell) (v : Value) → (do b ← z; effect_by c b r) ≡ Ok (Some (o, v)) → c ≡ o
    own_cell c (Ok true) r o v h =
        let y = bound r (λ v. do w ← storable d v; Ok (Some (c, w))) (Some (o, v)) h in
        let w = bound (storable d y.0) (λ w. Ok (Some (c, w))) (Some (o, v)) y.2 in
        (pair_same c o w.0 v w.2).0
    own_cell c (Ok false) r o v h = absurd cc
    own_cell c (Err f) r o v h = absurd cc

    cell_of_instance : (ι : List ℕ → ℕ) → In ι → (c : Cell) (v : Value) → (guarded_at d mine (Some guard) left right (iterations ι mine)).effect s ≡ Ok (Some (c, v)) → cell_at_position x picked.axes (spots ι) ≡ c
    cell_of_instance ι w c v h = own_cell (cell_at_position x picked.axes (spots ι)) (do x ← value_of d guard (at_those ι D s); as_truth x) (value_of d right (at_those ι D s)) c v (sym (instance_effect ι w) ∙ h)

    -- instances with one cell are one
    own_cells : (is js : List ℕ) (c : Cell) (v w : Value) → Contains (in_sequence (counts_of xs mine)) is → Contains (in_sequence (counts_of xs mine)) js
        → (guarded_at d mine (Some guard) left right is).effect s ≡ Ok (Some (c, v)) → (guarded_at d mine (Some guard) left right js).effect s ≡ Ok (Some (c, w)) → is ≡ js
    own_cells is js c v w hi hj ei ej =
        let m = listed is hi in
        let n = listed js hj in
        let p = cell_of_instance m.ι m.within c v (ap (λ ks. (guarded_at d mine (Some guard) left right ks).effect s) m.are ∙ ei) in
        let q = cell_of_instance n.ι n.within c w (ap (λ ks. (guarded_at d mine (Some guard) left right ks).effect s) n.are ∙ ej) in
        let one = positions_are_one_to_one x picked.axes (spots m.ι) (spots n.ι) (picked.once moved) (in_extents m.ι m.within) (in_extents n.ι n.within) (p ∙ sym q) in
        sym m.are ∙ (same_on m.ι n.ι m.within n.within one mine order.onto ∙ n.are)

    apart : StoreApart s instances
    apart y z c v w hy hz ey ez =
        let m = of_map (guarded_at d mine (Some guard) left right) (in_sequence (counts_of xs mine)) y hy in
        let n = of_map (guarded_at d mine (Some guard) left right) (in_sequence (counts_of xs mine)) z hz in
        let one = own_cells m.0 n.0 c v w m.1 n.1 (ap (λ (i : Instance). i.effect s) m.2 ∙ ey) (ap (λ (i : Instance). i.effect s) n.2 ∙ ez) in
        let same : y ≡ z = sym m.2 ∙ (ap (guarded_at d mine (Some guard) left right) one ∙ n.2) in
        (pair_same c c v w (sym ey ∙ (ap (λ (i : Instance). i.effect s) same ∙ ez))).1

    R_values : Takes d a s xs known.few known.values known.sized known.distinct D right R
    R_values = takes_safely d bits a s xs known right D turning regular right_safe

    M_values : Takes d a s xs known.few known.values known.sized known.distinct D guard M
    M_values = takes d bits a s xs known guard D turning regular_guard guard_safe

    -- what is stored at a position is what the instance stores
    element_effect : (ι : List ℕ → ℕ) → (w : In ι) → (element_assigned d M L R (spots ι)).effect s ≡ effect_at ι
    element_effect ι w =
        ap (λ (r : Result Value Fault). let y : Result (Option (Cell × Value)) Fault = (do x ← r; b ← as_truth x; assignments.assigned_if d b L R (spots ι) s) in y)
        (ap (λ (r : Result (Elements Value) Fault). do g ← r; g.at (spots ι)) M_values.known ∙ M_values.at ι w)
        ∙ by (value_of d guard (at_those ι D s))
      where
        on : (b : Bool) → assignments.assigned_if d b L R (spots ι) s ≡ effect_by (cell_at_position x picked.axes (spots ι)) b (value_of d right (at_those ι D s))
        on false = refl
        on true =
            ap₂ (λ (r : Result (List Axis) Fault) (q : Result Value Fault). do c ← (do axes ← r; Ok (cell_at_position x axes (spots ι))); v ← q; z ← storable d v; Ok (Some (c, z))) L_axes
            (ap (λ (r : Result (Elements Value) Fault). do g ← r; g.at (spots ι)) R_values.known ∙ R_values.at ι w)

        by : (r : Result Value Fault) → (do x ← r; b ← as_truth x; assignments.assigned_if d b L R (spots ι) s) ≡ (do b ← (do x ← r; as_truth x); effect_by (cell_at_position x picked.axes (spots ι)) b (value_of d right (at_those ι D s)))
        by (Ok v) = then (as_truth v)
          where
            then : (z : Result Bool Fault) → (do b ← z; assignments.assigned_if d b L R (spots ι) s) ≡ (do b ← z; effect_by (cell_at_position x picked.axes (spots ι)) b (value_of d right (at_those ι D s)))
            then (Ok b) = on b
            then (Err f) = refl
        by (Err f) = refl

    stands : StandsFor d M L R picked.axes s instances
    stands = record {
      instance_of = λ is c.
          let b = by_position d a D s xs known turning is (subst (λ ns. Contains (positions ns) is) L_extents c) in (
            guarded_at d mine (Some guard) left right (iterations b.ι mine),
            in_instances b.ι b.within,
            ap (λ js. (element_assigned d M L R js).effect s) (sym b.places_are) ∙ (element_effect b.ι b.within ∙ sym (instance_effect b.ι b.within)),
          );
      position_of = λ y c.
          let m = of_map (guarded_at d mine (Some guard) left right) (in_sequence (counts_of xs mine)) y c in
          let n = listed m.0 m.1 in
          let is : guarded_at d mine (Some guard) left right (iterations n.ι mine) ≡ y = ap (guarded_at d mine (Some guard) left right) n.are ∙ m.2 in
          (spots n.ι, in_extents n.ι n.within, element_effect n.ι n.within ∙ (sym (instance_effect n.ι n.within) ∙ ap (λ (i : Instance). i.effect s) is));
    }

    shape : shape_assigned d M L R s ≡ Ok (counts_of xs D)
    shape =
        ap₂ (λ (rm : Result (Elements Value) Fault) (ra : Result (List Axis) Fault). do m ← rm; axes ← ra; ns ← conform m.extents (extents_of axes); g ← array_of d R s; conform ns g.extents) M_values.known L_axes
        ∙ (ap (λ (r : Result (List ℕ) Fault). do ns ← r; g ← array_of d R s; conform ns g.extents)
        (ap₂ conform M_values.extents L_extents ∙ (conforming (has_no_loop (loops_among D (names_in guard))) false (counts_of xs D) ∙ whole (has_no_loop (loops_among D (names_in guard)))))
        ∙ (ap (λ (r : Result (Elements Value) Fault). do g ← r; conform (counts_of xs D) g.extents) R_values.known
        ∙ (ap (conform (counts_of xs D)) R_values.extents ∙ conforming false (has_no_loop (loops_among D (names_in right))) (counts_of xs D))))
      where
        whole : (b : Bool) → ◌≡◌ {A = Result (List ℕ) Fault} (Ok (cond (b && false) [] (counts_of xs D))) (Ok (counts_of xs D))
        whole true = refl
        whole false = refl

    writes_there : NoneReadsWritten [] instances s → in_turn instances s ≡ Ok t → (ws : List (Cell × Value)) × (writes_of d M L R s ≡ Ok ws) × (puts ws s ≡ t)
    writes_there none run = array_form_is_instances d M R L picked.axes (counts_of xs D) instances s t L_axes shape (all_from_reads d mine guard left right (in_sequence (counts_of xs mine))) none run stands apart

  -- all instances have truths where they go through in turn
  guards_in_turn : NoneReadsWritten [] instances s → in_turn instances s ≡ Ok t → NoFault d a s xs known.few known.values known.sized known.distinct D guard
  guards_in_turn none run ι w =
      let once = sym (in_turn_is_at_once instances s (all_from_reads d mine guard left right (in_sequence (counts_of xs mine))) none) ∙ run in
      let os = bound (each (λ (i : Instance). i.effect s) instances) (λ os. Ok (puts (writes_in os) s)) t once in
      let o = effect_of s instances os.0 os.1 (guarded_at d mine (Some guard) left right (iterations ι mine)) (in_instances ι w) in
      guard_there ι o.0 o.1

  record Written : Type 0 where
    writes : List (Cell × Value)
    writes_known : writes_of d M L R s ≡ Ok writes
    are : puts writes s ≡ t

  -- the array is there, since its elements are
  is_there : NoFault d a s xs known.few known.values known.sized known.distinct D (Named x (subscript (Only e) ps)) → s.bounds x ≡ None → ⊥
  is_there safe b =
      let ι : List ℕ → ℕ = λ y. 1 in
      let u = at_those ι D s in
      let v = safe ι (axes.firsts d a s xs known.few known.values known.sized known.distinct D fit) in
      let zs = bound (subscript_values d (subscript (Only e) ps) u) (λ is. do c ← cell_at x is u; Ok (u.held c)) v.0 v.1 in
      let none : u.bounds x ≡ None = ap (λ (f : List ℕ → Option (List (ℤ × ℤ))). f x) (bounds_at ι D s) ∙ b in
      let bad : ◌≡◌ {A = Result Value Fault} (Err Allocated) (Ok v.0) = ap (λ o. do c ← cell_in o x zs.0; Ok (u.held c)) (sym none) ∙ zs.2 in
      cc

  written : is_regular a D guard ≡ true → is_regular a D right ≡ true → HasValues d xs D (Named x (subscript (Only e) ps)) s → ReferencesHaveValues d xs D right s
      → NoneReadsWritten [] instances s → in_turn instances s ≡ Ok t → Written
  written regular_guard regular hl hr none run = by (s.bounds x) refl
    where
      by : (o : Option (List (ℤ × ℤ))) → s.bounds x ≡ o → Written
      by (Some bs) b =
          let w = writes_there (guards_in_turn none run) (no_fault d bits a s xs known D (Named x (subscript (Only e) ps)) hl) (safely d bits a s xs known D right hr) bs b regular_guard regular none run in
          record { writes = w.0; writes_known = w.1; are = w.2 }
      by None b = absurd (is_there (no_fault d bits a s xs known D (Named x (subscript (Only e) ps)) hl) b)

-- ---- the whole

abbrev pub masked_form_of : FormSurroundings → ℕ → ℕ → Option Mark → Expression → Reference → Expression → Block
masked_form_of a k line mark guard left right = guarded_by line (form_tests_of (form_names_of a) (loops_from a k))
    (statement (Where line mark (form a (loops_assigned a k left) guard) (left_form a k left) (right_form a k left right)) no_statements)

module _ (width : Width) (a : FormSurroundings) (k line : ℕ) (mark : Option Mark) (guard : Expression) (s : State) (t : Store) (xs : List ℤ) (known : AreKnown a s.store xs) (turns : (l : FormLoop) → Contains (loops_from a k) l → Turns a xs l) (some : has_no_loop (loops_from a k) ≡ false) where
  abbrev Result_of : Reference → Expression → Type 0
  Result_of left right = (n : ℕ) × (does_all (fortran90 width) None (masked_form_of a k line mark guard left right) (ready s) ≡ record s { store = t; steps = n; way = Going })

  with_subscripts : (x : List ℕ) (e : Expression) (ps : Subscripts) (right : Expression) → let left : Reference = record { name = x; subscripts = subscript (Only e) ps } in unguarded_hold a k left ≡ None
      → are_moved a (loops_assigned a k left) (subscript (Only e) ps) ≡ true → is_regular a (loops_assigned a k left) guard ≡ true → is_regular a (loops_assigned a k left) right ≡ true
      → HasValues (fortran90 width) xs (loops_assigned a k left) (Named x (subscript (Only e) ps)) s.store → ReferencesHaveValues (fortran90 width) xs (loops_assigned a k left) right s.store
      → NoneReadsWritten [] (guarded_from (fortran90 width) a k xs (Some guard) left right) s.store
      → in_turn (guarded_from (fortran90 width) a k xs (Some guard) left right) s.store ≡ Ok t → Result_of left right
  with_subscripts x e ps right no_hold moved regular_guard regular hl hr none run =
      let w = written (fortran90 width) (narrowest width) a k s.store xs known turns x e ps guard right no_hold moved t regular_guard regular hl hr none run in
      let left : Reference = record { name = x; subscripts = subscript (Only e) ps } in
      let mask = form a (loops_assigned a k left) guard in
      let g = block_done (fortran90 width) a line (statement (Where line mark mask (left_form a k left) (right_form a k left right)) no_statements) s xs known (loops_from a k) turns in (
        g.0 + 1 + length w.writes,
        g.1 ∙ (where_stores (fortran90 width) line mark mask (right_form a k left right) (left_form a k left) (ready (record s { steps = g.0 })) w.writes refl refl w.writes_known
            ∙ ap (λ (u : Store). let r : State = record s { store = u; steps = g.0 + 1 + length w.writes; way = Going } in r) w.are),
      )

  pub stores_masked : (left : Reference) (right : Expression) → unguarded_hold a k left ≡ None → are_moved a (loops_assigned a k left) left.subscripts ≡ true
      → is_regular a (loops_assigned a k left) guard ≡ true → is_regular a (loops_assigned a k left) right ≡ true
      → HasValues (fortran90 width) xs (loops_assigned a k left) (Named left.name left.subscripts) s.store → ReferencesHaveValues (fortran90 width) xs (loops_assigned a k left) right s.store
      → NoneReadsWritten [] (guarded_from (fortran90 width) a k xs (Some guard) left right) s.store
      → in_turn (guarded_from (fortran90 width) a k xs (Some guard) left right) s.store ≡ Ok t → Result_of left right
  stores_masked left right no_hold moved regular_guard regular hl hr none run = by left.subscripts refl
    where
      again : (qs : Subscripts) → left.subscripts ≡ qs → left ≡ record { name = left.name; subscripts = qs }
      again qs e = ap (λ rs. let r : Reference = record { name = left.name; subscripts = rs } in r) e

      by : (qs : Subscripts) → left.subscripts ≡ qs → Result_of left right
      by no_subscripts e = absurd (unsubscripted a k left known.distinct some no_hold e)
      by (subscript (Section i j l) ps) e = absurd (let bad : false ≡ true = ap (are_moved a (loops_assigned a k left)) (sym e) ∙ moved in cc)
      by (subscript (Only i) ps) e =
          let same = again (subscript (Only i) ps) e in
          subst (λ (r : Reference). Result_of r right) (sym same) (with_subscripts left.name i ps right
          (subst (λ (r : Reference). unguarded_hold a k r ≡ None) same no_hold)
          (subst (λ (r : Reference). are_moved a (loops_assigned a k r) r.subscripts ≡ true) same moved)
          (subst (λ (r : Reference). is_regular a (loops_assigned a k r) guard ≡ true) same regular_guard)
          (subst (λ (r : Reference). is_regular a (loops_assigned a k r) right ≡ true) same regular)
          (subst (λ (r : Reference). HasValues (fortran90 width) xs (loops_assigned a k r) (Named r.name r.subscripts) s.store) same hl)
          (subst (λ (r : Reference). ReferencesHaveValues (fortran90 width) xs (loops_assigned a k r) right s.store) same hr)
          (subst (λ (r : Reference). NoneReadsWritten [] (guarded_from (fortran90 width) a k xs (Some guard) r right) s.store) same none)
          (subst (λ (r : Reference). in_turn (guarded_from (fortran90 width) a k xs (Some guard) r right) s.store ≡ Ok t) same run))
