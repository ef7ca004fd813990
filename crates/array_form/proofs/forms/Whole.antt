-- The array form of an assignment stores what its instances store.
use Rattle.std.proofs.Common.{◌≡◌, refl, sym, ap, ◌∙◌, subst, ◌⊎◌, inl, inr, ℕ, ◌+◌, ◌-◌, ◌≤◌, ℤ, pos, Bool, true, false, cond, ◌&&◌, not, List, [], ◌∷◌, ◌++◌, map, length, Result, Ok, Err, Option, Some, None, arith, Contains}
use Rattle.std.specs.List.{AllByRecursion}
use Rattle.std.proofs.lemmas.List.Elements.{recursion_from_All}
use mathlib.Core.Path.{ap₂}
use Rattle.tree.specs.Plain.{Expression, Logic, Named, Only, Section, Subscripts, no_subscripts, subscript, Reference, no_statements, statement}
use Rattle.tree.specs.Steps.{◌>>=◌}
use Rattle.tree.specs.declared.ops.Fault.{Fault}
use Rattle.tree.specs.declared.ops.Fault.TheVariants.{Allocated, Bounds}
use Rattle.tree.specs.declared.ops.Value.{Value}
use Rattle.tree.specs.declared.ops.Value.TheVariants.{Int}
use Rattle.tree.specs.declared.stmts.Mark.{Mark}
use Rattle.meaning.specs.ArrayStatements.{axes_named, storable, writes_of}
use Rattle.meaning.specs.ArrayValues.{Elements, each, positions, conform}
use Rattle.meaning.specs.Dialect.{Dialect, fortran90}
use Rattle.tree.specs.declared.width.Width.{Width}
use Rattle.meaning.specs.Reads.{names_in, names_in_subscripts}
use Rattle.meaning.specs.CellsRead.{cells_read, cells_read_by}
use Rattle.meaning.specs.Run.{State, Going, does_all}
use Rattle.meaning.specs.Sections.{Axis, extents_of}
use Rattle.meaning.specs.Store.{Store, Cell, same_cell, cell_at, cell_in}
use Rattle.meaning.specs.Value.{value_of, subscript_values, cell_named, bound_to, is_array, named}
use Rattle.meaning.proofs.CellFrame.{first_part, second_part, value_of-same, cell_named-same}
use Rattle.meaning_laws.specs.arrays.Assignments.{element_assigned, shape_assigned}
use Rattle.meaning_laws.specs.arrays.Elements.{cell_at_position, subscripts_at}
use Rattle.meaning_laws.specs.arrays.Forms.{StandsFor, StoreApart}
use Rattle.meaning_laws.specs.arrays.Instances.{Instance, ComesFromReads, puts, writes_in, in_turn, NoneReadsWritten}
use Rattle.meaning_laws.proofs.arrays.Assignments.{bounds_alike, array_statement_stores}
use Rattle.meaning_laws.proofs.arrays.Forms.{effect_of, array_form_is_instances}
use Rattle.meaning_laws.proofs.arrays.Members.{here, there, nowhere, cases_of, in_map, of_map}
use Rattle.meaning_laws.proofs.arrays.OneToOne.{positions_are_one_to_one}
use Rattle.meaning_laws.proofs.arrays.Stages.{bound, same_answer}
use Rattle.meaning_laws.proofs.arrays.Turns.{in_turn_is_at_once}
use Rattle.linear_forms.specs.Linear.{Form, form_of}
use Rattle.linear_forms.proofs.Sizes.{both}
use Rattle.array_form.specs.forms.Following.{has_no_loop, is_moved, are_moved, is_regular, are_regular_subscripts}
use Rattle.array_form.specs.forms.Forms.{subscript_forms}
use Rattle.array_form.specs.forms.Instances.{at_iterations, count_of, counts_of, in_sequence, instance_at, instances_of}
use Rattle.array_form.specs.forms.Laws.{Turns, AreKnown, AreTurning, instances_from, OwnCells, InstancesHaveOwnCells, ArrayFormStoresInstances}
use Rattle.array_form.specs.forms.Loops.{FormLoop, FormSurroundings, form_variables_of, form_names_of, loops_in_order, loops_among}
use Rattle.array_form.specs.forms.Trips.{AreDistinct}
use Rattle.array_form.specs.forms.Statements.{loops_from, unguarded_hold, loops_assigned, left_form, right_form, array_assignment, array_form_of}
use Rattle.array_form.proofs.forms.Axes as axes
use Rattle.array_form.proofs.forms.Axes.{Fit, Within, NoFault, Takes, places}
use Rattle.array_form.proofs.forms.Forming.{conforming}
use Rattle.array_form.proofs.forms.Iterations.{is_variable, variable_cell, iterations, at_those, bounds_at, any_order}
use Rattle.array_form.proofs.forms.Tests.{ready, block_done, all_or_one, nothing_done, no_sequence}
use Rattle.array_form.proofs.forms.Orders.{Ordered, ordered_loops, no_triangle, of_drop, distinct_front, distinct_drop}
use Rattle.array_form.proofs.forms.Positions.{AreFrom, from_sequence, sequence_from, iteration_of, iterations_are}
use Rattle.array_form.proofs.forms.Taking.{takes}
use Rattle.array_form.proofs.forms.Values.{fitting, bounded_by, same_length, by_position}
use Rattle.meaning.proofs.Widths.{narrowest}

-- ---- an instance depends on the cells that it reads alone

pub bound_kept : (x : List ℕ) (z : ℤ) (s t : Store) (cs : List Cell) → AllByRecursion (λ c. s.held c ≡ t.held c) cs → AllByRecursion (λ c. (bound_to x z s).held c ≡ (bound_to x z t).held c) cs
bound_kept x z s t [] h = tt
bound_kept x z s t (c ∷ cs) h = (ap (cond (same_cell (record { name = x; subscripts = [] }) c) (Int z)) h.0, bound_kept x z s t cs h.1)

pub held_kept : (ls : List FormLoop) (is : List ℕ) (s t : Store) (cs : List Cell) → AllByRecursion (λ c. s.held c ≡ t.held c) cs → AllByRecursion (λ c. (at_iterations ls is s).held c ≡ (at_iterations ls is t).held c) cs
held_kept [] is s t cs h = h
held_kept (l ∷ ls) [] s t cs h = h
held_kept (l ∷ ls) (i ∷ is) s t cs h = held_kept ls is (bound_to l.variable (pos i) s) (bound_to l.variable (pos i) t) cs (bound_kept l.variable (pos i) s t cs h)

pub bounds_kept : (ls : List FormLoop) (is : List ℕ) (s t : Store) → s.bounds ≡ t.bounds → (at_iterations ls is s).bounds ≡ (at_iterations ls is t).bounds
bounds_kept [] is s t e = e
bounds_kept (l ∷ ls) [] s t e = e
bounds_kept (l ∷ ls) (i ∷ is) s t e = bounds_kept ls is (bound_to l.variable (pos i) s) (bound_to l.variable (pos i) t) e

module _ (d : Dialect) (ls : List FormLoop) (left : Reference) (right : Expression) where
  from_reads : (is : List ℕ) → ComesFromReads (instance_at d ls left right is)
  from_reads is = record {
    same = λ s t e m.
        let u = at_iterations ls is s in
        let v = at_iterations ls is t in
        let read = cells_read d right u in
        let all = held_kept ls is s t (read ++ cells_read_by d left.subscripts u) (recursion_from_All (λ c. s.held c ≡ t.held c) (read ++ cells_read_by d left.subscripts u) m) in
        let b = bounds_kept ls is s t e in
        ap₂ (λ (r : Result Value Fault) (q : Result Cell Fault). do x ← r; c ← q; w ← storable d x; Ok (Some (c, w)))
        (value_of-same d u v right (bounds_alike u v b (names_in right)) (first_part (λ c. u.held c ≡ v.held c) read (cells_read_by d left.subscripts u) all))
        (cell_named-same d u v left (ap (λ (f : List ℕ → Option (List (ℤ × ℤ))). f left.name) b) (bounds_alike u v b (names_in_subscripts left.subscripts)) (second_part (λ c. u.held c ≡ v.held c) read (cells_read_by d left.subscripts u) all));
  }

  all_from_reads : (iss : List (List ℕ)) → AllByRecursion ComesFromReads (map (instance_at d ls left right) iss)
  all_from_reads [] = tt
  all_from_reads (is ∷ iss) = (from_reads is, all_from_reads iss)

-- ---- loops in two orders

pub either_way : (p q : Bool) → (p ≡ true → q ≡ true) → (q ≡ true → p ≡ true) → p ≡ q
either_way true q h k = sym (h refl)
either_way false true h k = k refl
either_way false false h k = refl

variable_found : (ls : List FormLoop) (l : FormLoop) (c : Cell) → Contains ls l → same_cell (variable_cell l.variable) c ≡ true → is_variable ls c ≡ true
variable_found [] l c h e = absurd (nowhere l h)
variable_found (m ∷ ls) l c h e = by (cases_of m ls l h) (λ k. variable_found ls l c k e)
  where
    any : (b : Bool) → cond b true true ≡ true
    any true = refl
    any false = refl

    by : (m ≡ l) ⊎ Contains ls l → (Contains ls l → is_variable ls c ≡ true) → cond (is_variable ls c) true (same_cell (variable_cell m.variable) c) ≡ true
    by (inl p) more = ap (cond (is_variable ls c) true) (ap (λ (k : FormLoop). same_cell (variable_cell k.variable) c) p ∙ e) ∙ any (is_variable ls c)
    by (inr k) more = ap (λ b. cond b true (same_cell (variable_cell m.variable) c)) (more k)

variable_of : (ls : List FormLoop) (c : Cell) → is_variable ls c ≡ true → (l : FormLoop) × Contains ls l × (same_cell (variable_cell l.variable) c ≡ true)
variable_of [] c h = absurd cc
variable_of (m ∷ ls) c h = by (is_variable ls c) refl h (variable_of ls c)
  where
    by : (b : Bool) → is_variable ls c ≡ b → cond b true (same_cell (variable_cell m.variable) c) ≡ true → (is_variable ls c ≡ true → (l : FormLoop) × Contains ls l × (same_cell (variable_cell l.variable) c ≡ true))
        → (l : FormLoop) × Contains (m ∷ ls) l × (same_cell (variable_cell l.variable) c ≡ true)
    by true e h more = let r = more e in (r.0, there m ls r.0 r.1, r.2)
    by false e h more = (m, here m ls, h)

pub same_variables : (ls ms : List FormLoop) → ((l : FormLoop) → Contains ls l → Contains ms l) → ((l : FormLoop) → Contains ms l → Contains ls l) → (c : Cell) → is_variable ls c ≡ is_variable ms c
same_variables ls ms h k c = either_way (is_variable ls c) (is_variable ms c)
    (λ e. let r = variable_of ls c e in variable_found ms r.0 c (h r.0 r.1) r.2)
    (λ e. let r = variable_of ms c e in variable_found ls r.0 c (k r.0 r.1) r.2)

pub value_of_cell : (r : Result (List ℤ) Fault) (f : List ℤ → Result Cell Fault) (h : Cell → Value) (c : Cell) → (do is ← r; f is) ≡ Ok c → ◌≡◌ {A = Result Value Fault} (do is ← r; k ← f is; Ok (h k)) (Ok (h c))
value_of_cell (Ok is) f h c e = ap (λ (q : Result Cell Fault). do k ← q; Ok (h k)) e
value_of_cell (Err g) f h c e = absurd cc

pub from_within : (xs : List ℤ) (ι : List ℕ → ℕ) (ls : List FormLoop) → ((l : FormLoop) → Contains ls l → (1 ≤ ι l.variable) × (ι l.variable ≤ count_of xs l)) → AreFrom 1 (counts_of xs ls) (iterations ι ls)
from_within xs ι [] h = tt
from_within xs ι (l ∷ ls) h = let b = h l (here l ls) in let low = b.0 in let high = b.1 in ((low, omega (arith, high)), from_within xs ι ls (λ m g. h m (there l ls m g)))

-- ---- linear subscripts

linear_one : (a : FormSurroundings) (hs : List FormLoop) (o : Option Form) (other : Bool) → is_moved a hs o false ≡ true → is_moved a hs o other ≡ true
linear_one a [] o other h = refl
linear_one a (l ∷ hs) (Some f) other h = h
linear_one a (l ∷ hs) None other h = absurd cc

pub linear_regular : (a : FormSurroundings) (D : List FormLoop) (ps : Subscripts) → are_moved a D ps ≡ true → are_regular_subscripts a D ps ≡ true
linear_regular a D no_subscripts h = refl
linear_regular a D (subscript (Section i j k) ps) h = absurd cc
linear_regular a D (subscript (Only e) ps) h =
    let hs = loops_among D (names_in e) in
    let o = form_of (form_variables_of a.loops) a.symbols e in
    let parts = both (is_moved a hs o false) (are_moved a D ps) h in
    ap₂ (λ p q. p && q) (linear_one a hs o (is_regular a hs e) parts.0) (linear_regular a D ps parts.1)

no_vector : (d : Dialect) (a : FormSurroundings) (s : Store) (xs : List ℤ) (k : AreKnown a s xs) (e : Expression) (hs : List FormLoop) (o : Option Form) → is_moved a hs o false ≡ true → axes.VectorFor d a s xs k.few k.values k.sized k.distinct hs e o
no_vector d a s xs k e [] o h = tt
no_vector d a s xs k e (l ∷ []) (Some f) h = tt
no_vector d a s xs k e (l ∷ []) None h = absurd cc
no_vector d a s xs k e (l ∷ m ∷ hs) o h = tt

pub linear_vectors : (d : Dialect) (a : FormSurroundings) (s : Store) (xs : List ℤ) (k : AreKnown a s xs) (D : List FormLoop) (ps : Subscripts) → are_moved a D ps ≡ true → axes.Vectors d a s xs k.few k.values k.sized k.distinct D ps
linear_vectors d a s xs k D no_subscripts h = tt
linear_vectors d a s xs k D (subscript (Section i j l) ps) h = tt
linear_vectors d a s xs k D (subscript (Only e) ps) h =
    let hs = loops_among D (names_in e) in
    let o = form_of (form_variables_of a.loops) a.symbols e in
    let parts = both (is_moved a hs o false) (are_moved a D ps) h in
    (no_vector d a s xs k e hs o parts.0, linear_vectors d a s xs k D ps parts.1)

-- ---- the assignment to an element with subscripts

module _ (d : Dialect) (bits : 31 ≤ d.bits) (a : FormSurroundings) (k : ℕ) (s : Store) (xs : List ℤ) (known : AreKnown a s xs) (turns : (l : FormLoop) → Contains (loops_from a k) l → Turns a xs l)
    (x : List ℕ) (e : Expression) (ps : Subscripts) (right : Expression) (no_hold : unguarded_hold a k (record { name = x; subscripts = subscript (Only e) ps }) ≡ None)
    (moved : are_moved a (loops_assigned a k (record { name = x; subscripts = subscript (Only e) ps })) (subscript (Only e) ps) ≡ true)
    (t : Store) where
  abbrev left : Reference
  left = record { name = x; subscripts = subscript (Only e) ps }

  abbrev mine : List FormLoop
  mine = loops_from a k

  abbrev D : List FormLoop
  D = loops_assigned a k left

  abbrev instances : List Instance
  instances = instances_of d mine (counts_of xs mine) left right

  abbrev L : Reference
  L = left_form a k left

  abbrev R : Expression
  R = right_form a k left right

  order : Ordered mine (subscript (Only e) ps) D
  order = ordered_loops a k left known.distinct no_hold

  turning : AreTurning a D xs
  turning = record { loops = λ l c. of_drop (k - 1) a.loops l (order.into l c); once = order.distinct; turns = λ l c. turns l (order.into l c); apart = λ l m p q n. no_triangle a k left no_hold l m (order.into l p) (order.into m q) n }

  fit : Fit d a s xs known.few known.values known.sized known.distinct D
  fit = fitting d a D s xs known turning

  abbrev In : (List ℕ → ℕ) → Type 0
  In ι = Within d a s xs known.few known.values known.sized known.distinct D ι

  abbrev spots : (List ℕ → ℕ) → List ℕ
  spots ι = places d a s xs known.few known.values known.sized known.distinct ι D

  same_store : (ι : List ℕ → ℕ) → at_those ι mine s ≡ at_those ι D s
  same_store ι = any_order ι mine D s (same_variables mine D order.onto order.into)

  in_instances : (ι : List ℕ → ℕ) → In ι → Contains instances (instance_at d mine left right (iterations ι mine))
  in_instances ι w = in_map (instance_at d mine left right) (in_sequence (counts_of xs mine)) (iterations ι mine)
      (from_sequence (counts_of xs mine) (iterations ι mine) (from_within xs ι mine (λ l c. w l (order.onto l c))))

  -- what an instance does, where it meets no fault
  record Done (ι : List ℕ → ℕ) : Type 0 where
    value : Value
    cell : Cell
    stored : Value
    right_known : value_of d right (at_those ι D s) ≡ Ok value
    left_known : cell_named d left (at_those ι D s) ≡ Ok cell
    stored_known : storable d value ≡ Ok stored

  done_by : (ι : List ℕ → ℕ) (o : Option (Cell × Value)) → (instance_at d mine left right (iterations ι mine)).effect s ≡ Ok o → Done ι
  done_by ι o h =
      let u = at_those ι mine s in
      let v = bound (value_of d right u) (λ v. do c ← cell_named d left u; w ← storable d v; Ok (Some (c, w))) o h in
      let c = bound (cell_named d left u) (λ c. do w ← storable d v.0; Ok (Some (c, w))) o v.2 in
      let w = bound (storable d v.0) (λ w. Ok (Some (c.0, w))) o c.2 in
      record { value = v.0; cell = c.0; stored = w.0; right_known = ap (value_of d right) (sym (same_store ι)) ∙ v.1; left_known = ap (cell_named d left) (sym (same_store ι)) ∙ c.1; stored_known = w.1 }

  module _ (all_done : (ι : List ℕ → ℕ) → In ι → Done ι) where
    right_safe : NoFault d a s xs known.few known.values known.sized known.distinct D right
    right_safe ι w = ((all_done ι w).value, (all_done ι w).right_known)

    left_safe : NoFault d a s xs known.few known.values known.sized known.distinct D (Named x (subscript (Only e) ps))
    left_safe ι w =
        let u = at_those ι D s in
        let done = all_done ι w in
        (u.held done.cell, value_of_cell (subscript_values d (subscript (Only e) ps) u) (λ is. cell_at x is u) u.held done.cell done.left_known)

    -- each left subscript with a loop is linear
    left_regular : are_regular_subscripts a D (subscript (Only e) ps) ≡ true
    left_regular = linear_regular a D (subscript (Only e) ps) moved

    left_vectors : axes.Vectors d a s xs known.few known.values known.sized known.distinct D (subscript (Only e) ps)
    left_vectors = linear_vectors d a s xs known D (subscript (Only e) ps) moved

    module _ (bs : List (ℤ × ℤ)) (bounds : s.bounds x ≡ Some bs) where
      abbrev picked : axes.SelectsAll d a s xs known.few known.values known.sized known.distinct D (subscript (Only e) ps) (subscript_forms a D (subscript (Only e) ps)) bs (loops_in_order D (subscript (Only e) ps))
      picked = axes.picks d a s xs known.few known.values known.sized known.distinct D fit x e ps bs bounds order.ones left_regular left_vectors left_safe

      L_axes : axes_named d L s ≡ Ok picked.axes
      L_axes = axes.axes_there d a s xs known.few known.values known.sized known.distinct D fit x e ps bs bounds order.ones left_regular left_vectors left_safe

      L_extents : extents_of picked.axes ≡ counts_of xs D
      L_extents = picked.extents ∙ ap (counts_of xs) order.same

      -- the cell of an instance is that at its position
      cell_is : (ι : List ℕ → ℕ) → (w : In ι) → (all_done ι w).cell ≡ cell_at_position x picked.axes (spots ι)
      cell_is ι w =
          let u = at_those ι D s in
          let m = axes.element d a s xs known.few known.values known.sized known.distinct D fit x e ps bs bounds order.ones left_regular left_vectors left_safe ι w in
          let c : Cell = record { name = x; subscripts = m.numbers } in
          let there' : u.bounds x ≡ Some bs = ap (λ (b : List ℕ → Option (List (ℤ × ℤ))). b x) (bounds_at ι D s) ∙ bounds in
          let found : cell_named d left u ≡ Ok c =
          ap₂ (λ (r : Result (List ℤ) Fault) (o : Option (List (ℤ × ℤ))). do is ← r; cell_in o x is) m.known there'
          ∙ ap (λ b. let r : Result Cell Fault = cond b (Ok c) (Err Bounds) in r) m.within in
          same_answer (all_done ι w).cell c (sym (all_done ι w).left_known ∙ found)
          ∙ ap (λ zs. let c : Cell = record { name = x; subscripts = zs } in c)
          (axes.cell_there d a s xs known.few known.values known.sized known.distinct D fit x e ps bs bounds order.ones left_regular left_vectors left_safe ι w ∙ ap (λ ls. subscripts_at picked.axes (places d a s xs known.few known.values known.sized known.distinct ι ls)) order.same)

      instance_effect : (ι : List ℕ → ℕ) → (w : In ι) → (instance_at d mine left right (iterations ι mine)).effect s ≡ Ok (Some (cell_at_position x picked.axes (spots ι), (all_done ι w).stored))
      instance_effect ι w =
          let done = all_done ι w in
          ap (λ (u : Store). let r : Result (Option (Cell × Value)) Fault = (do v ← value_of d right u; c ← cell_named d left u; z ← storable d v; Ok (Some (c, z))) in r) (same_store ι)
          ∙ (ap₂ (λ (r : Result Value Fault) (q : Result Cell Fault). do v ← r; c ← q; z ← storable d v; Ok (Some (c, z))) done.right_known done.left_known
          ∙ (ap (λ (r : Result Value Fault). do z ← r; Ok (Some (done.cell, z))) done.stored_known ∙ ap (λ c. Ok (Some (c, done.stored))) (cell_is ι w)))

      in_extents : (ι : List ℕ → ℕ) → In ι → Contains (positions (extents_of picked.axes)) (spots ι)
      in_extents ι w = subst (λ ns. Contains (positions ns) (spots ι)) (sym L_extents) (axes.contained d a s xs known.few known.values known.sized known.distinct D ι w)

      -- the names of an instance's iterations
      record Numbered (y : Instance) : Type 0 where
        ι : List ℕ → ℕ
        within : In ι
        is : instance_at d mine left right (iterations ι mine) ≡ y

      numbered : (y : Instance) → Contains instances y → Numbered y
      numbered y c =
          let js = of_map (instance_at d mine left right) (in_sequence (counts_of xs mine)) y c in
          let from = sequence_from (counts_of xs mine) js.0 js.1 in
          let ι = iteration_of mine js.0 in
          let are = iterations_are 1 mine (counts_of xs mine) js.0 (distinct_drop (k - 1) a.loops (distinct_front (form_variables_of a.loops) a.symbols known.distinct)) (same_length xs mine) from in
          record {
            ι = ι;
            within = λ l h. let b = bounded_by xs 1 mine js.0 ι are from l (order.into l h) in let low = b.0 in let high = b.1 in (low, omega (arith, high));
            is = ap (instance_at d mine left right) are ∙ js.2;
          }

      pair_same : (c c' : Cell) (v v' : Value) → ◌≡◌ {A = Result (Option (Cell × Value)) Fault} (Ok (Some (c, v))) (Ok (Some (c', v'))) → (c ≡ c') × (v ≡ v')
      pair_same c c' v v' h = let same : ◌≡◌ {A = Cell × Value} (c, v) (c', v') = cc in (ap (λ (p : Cell × Value). p.0) same, ap (λ (p : Cell × Value). p.1) same)

      -- the names of iterations
      record Listed (is : List ℕ) : Type 0 where
        ι : List ℕ → ℕ
        within : In ι
        are : iterations ι mine ≡ is

      listed : (is : List ℕ) → Contains (in_sequence (counts_of xs mine)) is → Listed is
      listed is c =
          let from = sequence_from (counts_of xs mine) is c in
          let ι = iteration_of mine is in
          let are = iterations_are 1 mine (counts_of xs mine) is (distinct_drop (k - 1) a.loops (distinct_front (form_variables_of a.loops) a.symbols known.distinct)) (same_length xs mine) from in
          record { ι = ι; within = λ l h. let b = bounded_by xs 1 mine is ι are from l (order.into l h) in let low = b.0 in let high = b.1 in (low, omega (arith, high)); are = are }

      at_member : (f g : FormLoop → ℕ) (ls : List FormLoop) → map f ls ≡ map g ls → (l : FormLoop) → Contains ls l → f l ≡ g l
      at_member f g [] e l c = absurd (nowhere l c)
      at_member f g (m ∷ ls) e l c =
          let first : f m ≡ g m = cc in
          let others : map f ls ≡ map g ls = cc in
          by first (cases_of m ls l c) (at_member f g ls others l)
        where
          by : f m ≡ g m → (m ≡ l) ⊎ Contains ls l → (Contains ls l → f l ≡ g l) → f l ≡ g l
          by p (inl q) more = subst (λ (i : FormLoop). f i ≡ g i) q p
          by p (inr h) more = more h

      same_on : (ι κ : List ℕ → ℕ) → In ι → In κ → spots ι ≡ spots κ → (ls : List FormLoop) → ((l : FormLoop) → Contains ls l → Contains D l) → iterations ι ls ≡ iterations κ ls
      same_on ι κ v w e [] h = refl
      same_on ι κ v w e (l ∷ ls) h =
          let c = h l (here l ls) in
          let low = (v l c).0 in
          let low' = (w l c).0 in
          let same = at_member (λ (m : FormLoop). ι m.variable - 1) (λ (m : FormLoop). κ m.variable - 1) D e l c in
          ap₂ (λ (i : ℕ) (is : List ℕ). i ∷ is) (omega (arith, low, low', same)) (same_on ι κ v w e ls (λ m g. h m (there l ls m g)))

      -- instances with one cell are one
      own_cells : (is js : List ℕ) (c : Cell) (v w : Value) → Contains (in_sequence (counts_of xs mine)) is → Contains (in_sequence (counts_of xs mine)) js
          → (instance_at d mine left right is).effect s ≡ Ok (Some (c, v)) → (instance_at d mine left right js).effect s ≡ Ok (Some (c, w)) → is ≡ js
      own_cells is js c v w hi hj ei ej =
          let m = listed is hi in
          let n = listed js hj in
          let p = pair_same (cell_at_position x picked.axes (spots m.ι)) c (all_done m.ι m.within).stored v (sym (instance_effect m.ι m.within) ∙ (ap (λ ks. (instance_at d mine left right ks).effect s) m.are ∙ ei)) in
          let q = pair_same (cell_at_position x picked.axes (spots n.ι)) c (all_done n.ι n.within).stored w (sym (instance_effect n.ι n.within) ∙ (ap (λ ks. (instance_at d mine left right ks).effect s) n.are ∙ ej)) in
          let one = positions_are_one_to_one x picked.axes (spots m.ι) (spots n.ι) (picked.once moved) (in_extents m.ι m.within) (in_extents n.ι n.within) (p.0 ∙ sym q.0) in
          sym m.are ∙ (same_on m.ι n.ι m.within n.within one mine order.onto ∙ n.are)

      apart : StoreApart s instances
      apart y z c v w hy hz ey ez =
          let m = of_map (instance_at d mine left right) (in_sequence (counts_of xs mine)) y hy in
          let n = of_map (instance_at d mine left right) (in_sequence (counts_of xs mine)) z hz in
          let one = own_cells m.0 n.0 c v w m.1 n.1 (ap (λ (i : Instance). i.effect s) m.2 ∙ ey) (ap (λ (i : Instance). i.effect s) n.2 ∙ ez) in
          let same : y ≡ z = sym m.2 ∙ (ap (instance_at d mine left right) one ∙ n.2) in
          (pair_same c c v w (sym ey ∙ (ap (λ (i : Instance). i.effect s) same ∙ ez))).1

      left_is_array : d.arrays ≡ true → has_no_loop D ≡ false → is_array d (named L) s ≡ true
      left_is_array arrays some = ap₂ (λ p q. p && not q) arrays (picked.indices ∙ (ap has_no_loop order.same ∙ some))

      -- a regular right side
      module _ (regular : is_regular a D right ≡ true) where
        R_values : Takes d a s xs known.few known.values known.sized known.distinct D right R
        R_values = takes d bits a s xs known right D turning regular right_safe

        -- what is stored there is what the instance stores
        element_effect : (ι : List ℕ → ℕ) → (w : In ι) → (element_assigned d (Logic true) L R (spots ι)).effect s ≡ Ok (Some (cell_at_position x picked.axes (spots ι), (all_done ι w).stored))
        element_effect ι w =
            let done = all_done ι w in
            ap₂ (λ (r : Result (List Axis) Fault) (q : Result Value Fault). do c ← (do axes ← r; Ok (cell_at_position x axes (spots ι))); v ← q; z ← storable d v; Ok (Some (c, z))) L_axes
            (ap (λ (r : Result (Elements Value) Fault). do g ← r; g.at (spots ι)) R_values.known ∙ (R_values.at ι w ∙ done.right_known))
            ∙ ap (λ (r : Result Value Fault). do z ← r; Ok (Some (cell_at_position x picked.axes (spots ι), z))) done.stored_known

        stands : StandsFor d (Logic true) L R picked.axes s instances
        stands = record {
          instance_of = λ is c.
              let b = by_position d a D s xs known turning is (subst (λ ns. Contains (positions ns) is) L_extents c) in (
                instance_at d mine left right (iterations b.ι mine),
                in_instances b.ι b.within,
                ap (λ js. (element_assigned d (Logic true) L R js).effect s) (sym b.places_are) ∙ (element_effect b.ι b.within ∙ sym (instance_effect b.ι b.within)),
              );
          position_of = λ y c.
              let n = numbered y c in
              (spots n.ι, in_extents n.ι n.within, element_effect n.ι n.within ∙ (sym (instance_effect n.ι n.within) ∙ ap (λ (i : Instance). i.effect s) n.is));
        }

        shape : shape_assigned d (Logic true) L R s ≡ Ok (counts_of xs D)
        shape =
            ap₂ (λ (ra : Result (List Axis) Fault) (rg : Result (Elements Value) Fault). do axes ← ra; g ← rg; conform (extents_of axes) g.extents) L_axes R_values.known
            ∙ (ap₂ conform L_extents R_values.extents ∙ conforming false (has_no_loop (loops_among D (names_in right))) (counts_of xs D))

        writes_there : NoneReadsWritten [] instances s → in_turn instances s ≡ Ok t → (ws : List (Cell × Value)) × (writes_of d (Logic true) L R s ≡ Ok ws) × (puts ws s ≡ t)
        writes_there none run = array_form_is_instances d (Logic true) R L picked.axes (counts_of xs D) instances s t L_axes shape (all_from_reads d mine left right (in_sequence (counts_of xs mine))) none run stands apart

  -- all instances are done where they go through in turn
  all_done_in_turn : NoneReadsWritten [] instances s → in_turn instances s ≡ Ok t → (ι : List ℕ → ℕ) → In ι → Done ι
  all_done_in_turn none run ι w =
      let once = sym (in_turn_is_at_once instances s (all_from_reads d mine left right (in_sequence (counts_of xs mine))) none) ∙ run in
      let os = bound (each (λ (i : Instance). i.effect s) instances) (λ os. Ok (puts (writes_in os) s)) t once in
      let o = effect_of s instances os.0 os.1 (instance_at d mine left right (iterations ι mine)) (in_instances ι w) in
      done_by ι o.0 o.1

  some_D : has_no_loop mine ≡ false → has_no_loop D ≡ false
  some_D h = by (has_no_loop D) refl
    where
      first_one : (ls : List FormLoop) → has_no_loop ls ≡ false → (l : FormLoop) × Contains ls l
      first_one [] h = absurd cc
      first_one (l ∷ ls) h = (l, here l ls)

      none_in : (ls : List FormLoop) → has_no_loop ls ≡ true → (l : FormLoop) → Contains ls l → ⊥
      none_in [] h l c = nowhere l c
      none_in (m ∷ ls) h l c = absurd cc

      by : (b : Bool) → has_no_loop D ≡ b → b ≡ false
      by false p = refl
      by true p = let l = first_one mine h in absurd (none_in D p l.0 (order.onto l.0 l.1))

  record Written : Type 0 where
    writes : List (Cell × Value)
    writes_known : writes_of d (Logic true) L R s ≡ Ok writes
    are : puts writes s ≡ t
    is_array_there : is_array d (named L) s ≡ true

  no_bounds : NoneReadsWritten [] instances s → in_turn instances s ≡ Ok t → s.bounds x ≡ None → ⊥
  no_bounds none run b =
      let ι : List ℕ → ℕ = λ y. 1 in
      let u = at_those ι D s in
      let done = all_done_in_turn none run ι (axes.firsts d a s xs known.few known.values known.sized known.distinct D fit) in
      let zs = bound (subscript_values d (subscript (Only e) ps) u) (λ is. cell_at x is u) done.cell done.left_known in
      let nowhere' : u.bounds x ≡ None = ap (λ (b : List ℕ → Option (List (ℤ × ℤ))). b x) (bounds_at ι D s) ∙ b in
      let bad : ◌≡◌ {A = Result Cell Fault} (Err Allocated) (Ok done.cell) = ap (λ o. cell_in o x zs.0) (sym nowhere') ∙ zs.2 in
      cc

  written : is_regular a D right ≡ true → d.arrays ≡ true → has_no_loop mine ≡ false → NoneReadsWritten [] instances s → in_turn instances s ≡ Ok t → Written
  written regular arrays some none run = by (s.bounds x) refl
    where
      by : (o : Option (List (ℤ × ℤ))) → s.bounds x ≡ o → Written
      by (Some bs) b =
          let done = all_done_in_turn none run in
          let w = writes_there done bs b regular none run in
          record { writes = w.0; writes_known = w.1; are = w.2; is_array_there = left_is_array done bs b arrays (some_D some) }
      by None b = absurd (no_bounds none run b)

-- ---- what they store in is their own

module _ (d : Dialect) (bits : 31 ≤ d.bits) (a : FormSurroundings) (k : ℕ) (s t : Store) (xs : List ℤ) (known : AreKnown a s xs) (turns : (l : FormLoop) → Contains (loops_from a k) l → Turns a xs l) where
  element_own : (x : List ℕ) (e : Expression) (ps : Subscripts) (right : Expression) → let left : Reference = record { name = x; subscripts = subscript (Only e) ps } in unguarded_hold a k left ≡ None
      → are_moved a (loops_assigned a k left) (subscript (Only e) ps) ≡ true → NoneReadsWritten [] (instances_from d a k xs left right) s → in_turn (instances_from d a k xs left right) s ≡ Ok t
      → OwnCells d a k xs left right s
  element_own x e ps right no_hold moved none run = by (s.bounds x) refl
    where
      by : (o : Option (List (ℤ × ℤ))) → s.bounds x ≡ o → OwnCells d a k xs (record { name = x; subscripts = subscript (Only e) ps }) right s
      by (Some bs) b = own_cells d bits a k s xs known turns x e ps right no_hold moved t (all_done_in_turn d bits a k s xs known turns x e ps right no_hold moved t none run) bs b
      by None b = absurd (no_bounds d bits a k s xs known turns x e ps right no_hold moved t none run b)

-- a left side in which loops stand has subscripts
pub unsubscripted : (a : FormSurroundings) (k : ℕ) (left : Reference) → AreDistinct (form_names_of a) → has_no_loop (loops_from a k) ≡ false → unguarded_hold a k left ≡ None → left.subscripts ≡ no_subscripts → ⊥
unsubscripted a k left distinct some no_hold e =
    let order = ordered_loops a k left distinct no_hold in
    let empty : loops_assigned a k left ≡ [] = ap (loops_in_order (loops_from a k)) e in
    one_of (loops_from a k) some (λ l c. nowhere l (subst (λ ls. Contains ls l) empty (order.onto l c)))
  where
    one_of : (ls : List FormLoop) → has_no_loop ls ≡ false → ((l : FormLoop) → Contains ls l → ⊥) → ⊥
    one_of [] h f = absurd cc
    one_of (l ∷ ls) h f = f l (here l ls)

-- ---- the whole

module _ (width : Width) (a : FormSurroundings) (k line : ℕ) (mark : Option Mark) (s : State) (t : Store) (xs : List ℤ) (known : AreKnown a s.store xs) (turns : (l : FormLoop) → Contains (loops_from a k) l → Turns a xs l) (some : has_no_loop (loops_from a k) ≡ false) where
  abbrev Result_of : Reference → Expression → Type 0
  Result_of left right = (n : ℕ) × (does_all (fortran90 width) None (array_form_of a k line mark None left right) (ready s) ≡ record s { store = t; steps = n; way = Going })

  -- whatever the number of steps is
  abbrev Done_by : Reference → Expression → Type 0
  Done_by left right = (ws : List (Cell × Value)) × ((n : ℕ) → does_all (fortran90 width) None (statement (array_assignment a k line mark left right) no_statements) (ready (record s { steps = n })) ≡ record s { store = t; steps = n + 1 + length ws; way = Going })

  with_subscripts : (x : List ℕ) (e : Expression) (ps : Subscripts) (right : Expression) → let left : Reference = record { name = x; subscripts = subscript (Only e) ps } in unguarded_hold a k left ≡ None
      → are_moved a (loops_assigned a k left) (subscript (Only e) ps) ≡ true → is_regular a (loops_assigned a k left) right ≡ true
      → NoneReadsWritten [] (instances_of (fortran90 width) (loops_from a k) (counts_of xs (loops_from a k)) left right) s.store
      → in_turn (instances_of (fortran90 width) (loops_from a k) (counts_of xs (loops_from a k)) left right) s.store ≡ Ok t → Done_by left right
  with_subscripts x e ps right no_hold moved regular none run =
      let w = written (fortran90 width) (narrowest width) a k s.store xs known turns x e ps right no_hold moved t regular refl some none run in
      let left : Reference = record { name = x; subscripts = subscript (Only e) ps } in (
        w.writes,
        λ n. array_statement_stores (fortran90 width) line mark (right_form a k left right) (left_form a k left) (ready (record s { steps = n })) w.writes refl w.is_array_there w.writes_known
            ∙ ap (λ (u : Store). let r : State = record s { store = u; steps = n + 1 + length w.writes; way = Going } in r) w.are,
      )

  pub assignment_done : (left : Reference) (right : Expression) → unguarded_hold a k left ≡ None → are_moved a (loops_assigned a k left) left.subscripts ≡ true → is_regular a (loops_assigned a k left) right ≡ true
      → NoneReadsWritten [] (instances_of (fortran90 width) (loops_from a k) (counts_of xs (loops_from a k)) left right) s.store
      → in_turn (instances_of (fortran90 width) (loops_from a k) (counts_of xs (loops_from a k)) left right) s.store ≡ Ok t → Done_by left right
  assignment_done left right no_hold moved regular none run = by left.subscripts refl
    where
      again : (qs : Subscripts) → left.subscripts ≡ qs → left ≡ record { name = left.name; subscripts = qs }
      again qs e = ap (λ rs. let r : Reference = record { name = left.name; subscripts = rs } in r) e

      by : (qs : Subscripts) → left.subscripts ≡ qs → Done_by left right
      by no_subscripts e = absurd (unsubscripted a k left known.distinct some no_hold e)
      by (subscript (Section i j l) ps) e = absurd (let bad : false ≡ true = ap (are_moved a (loops_assigned a k left)) (sym e) ∙ moved in cc)
      by (subscript (Only i) ps) e =
          let same = again (subscript (Only i) ps) e in
          subst (λ (r : Reference). Done_by r right) (sym same) (with_subscripts left.name i ps right
          (subst (λ (r : Reference). unguarded_hold a k r ≡ None) same no_hold)
          (subst (λ (r : Reference). are_moved a (loops_assigned a k r) r.subscripts ≡ true) same moved)
          (subst (λ (r : Reference). is_regular a (loops_assigned a k r) right ≡ true) same regular)
          (subst (λ (r : Reference). NoneReadsWritten [] (instances_of (fortran90 width) (loops_from a k) (counts_of xs (loops_from a k)) r right) s.store) same none)
          (subst (λ (r : Reference). in_turn (instances_of (fortran90 width) (loops_from a k) (counts_of xs (loops_from a k)) r right) s.store ≡ Ok t) same run))

  pub stores_instances : (left : Reference) (right : Expression) → unguarded_hold a k left ≡ None → are_moved a (loops_assigned a k left) left.subscripts ≡ true → is_regular a (loops_assigned a k left) right ≡ true
      → NoneReadsWritten [] (instances_of (fortran90 width) (loops_from a k) (counts_of xs (loops_from a k)) left right) s.store
      → in_turn (instances_of (fortran90 width) (loops_from a k) (counts_of xs (loops_from a k)) left right) s.store ≡ Ok t → Result_of left right
  stores_instances left right no_hold moved regular none run =
      let r = assignment_done left right no_hold moved regular none run in
      let g = block_done (fortran90 width) a line (statement (array_assignment a k line mark left right) no_statements) s xs known (loops_from a k) turns in
      (g.0 + 1 + length r.0, g.1 ∙ r.1 g.0)

pub instances_have_own_cells : InstancesHaveOwnCells
instances_have_own_cells lang a k left right s t xs bits known trips some no_hold moved none run = by (all_or_one xs (loops_from a k))
  where
    again : (qs : Subscripts) → left.subscripts ≡ qs → left ≡ record { name = left.name; subscripts = qs }
    again qs e = ap (λ rs. let r : Reference = record { name = left.name; subscripts = rs } in r) e

    by_subscripts : ((l : FormLoop) → Contains (loops_from a k) l → Turns a xs l) → (qs : Subscripts) → left.subscripts ≡ qs → OwnCells lang a k xs left right s
    by_subscripts turns no_subscripts e = absurd (unsubscripted a k left known.distinct some no_hold e)
    by_subscripts turns (subscript (Section i j l) ps) e = absurd (let bad : false ≡ true = ap (are_moved a (loops_assigned a k left)) (sym e) ∙ moved in cc)
    by_subscripts turns (subscript (Only i) ps) e =
        let same = again (subscript (Only i) ps) e in
        subst (λ (r : Reference). OwnCells lang a k xs r right s) (sym same) (element_own lang bits a k s t xs known turns left.name i ps right
        (subst (λ (r : Reference). unguarded_hold a k r ≡ None) same no_hold)
        (subst (λ (r : Reference). are_moved a (loops_assigned a k r) r.subscripts ≡ true) same moved)
        (subst (λ (r : Reference). NoneReadsWritten [] (instances_from lang a k xs r right) s) same none)
        (subst (λ (r : Reference). in_turn (instances_from lang a k xs r right) s ≡ Ok t) same run))

    by : ((l : FormLoop) → Contains (loops_from a k) l → 1 ≤ count_of xs l) ⊎ ((l : FormLoop) × Contains (loops_from a k) l × (count_of xs l ≡ 0)) → OwnCells lang a k xs left right s
    by (inl turn) = by_subscripts (λ l c. record { trip = trips l c; least = turn l c }) left.subscripts refl
    by (inr one) = λ is js c v w hi hj ei ej. absurd (nowhere is (subst (λ iss. Contains iss is) (no_sequence xs (loops_from a k) one.0 one.1 one.2) hi))

pub array_form_stores_instances : (width : Width) → ArrayFormStoresInstances width
array_form_stores_instances width a k line mark left right s t xs going known trips some no_hold moved regular none run = by (all_or_one xs (loops_from a k))
  where
    Outcome : Type 0
    Outcome = (n : ℕ) × (does_all (fortran90 width) None (array_form_of a k line mark None left right) s ≡ record s { store = t; steps = n })

    at_going : (u : Store) → u ≡ t → (n : ℕ) → does_all (fortran90 width) None (array_form_of a k line mark None left right) (ready s) ≡ record s { store = u; steps = n; way = Going } → Outcome
    at_going u e n h = (
      n,
      subst (λ (v : State). does_all (fortran90 width) None (array_form_of a k line mark None left right) v ≡ record v { store = t; steps = n }) (λ i. let v : State = record s { way = sym going i } in v)
          (h ∙ ap (λ (v : Store). let r : State = record s { store = v; steps = n; way = Going } in r) e),
    )

    by : ((l : FormLoop) → Contains (loops_from a k) l → 1 ≤ count_of xs l) ⊎ ((l : FormLoop) × Contains (loops_from a k) l × (count_of xs l ≡ 0)) → Outcome
    by (inl turn) =
        let r = stores_instances width a k line mark s t xs known (λ l c. record { trip = trips l c; least = turn l c }) some left right no_hold moved regular none run in
        at_going t refl r.0 r.1
    by (inr one) =
        let r = nothing_done (fortran90 width) a line (statement (array_assignment a k line mark left right) no_statements) s xs known (loops_from a k) (λ l c. let h = trips l c in (h.limits, h.divisor)) one.0 one.1 one.2 in
        let stays = ap (λ iss. in_turn (map (instance_at (fortran90 width) (loops_from a k) left right) iss) s.store) (sym (no_sequence xs (loops_from a k) one.0 one.1 one.2)) ∙ run in
        at_going s.store (same_answer s.store t stays) r.0 r.1
