-- The instances of a statement in its inner loops.
use Rattle.std.proofs.Common.{◌≡◌, refl, sym, ap, ap₂, ◌∙◌, subst, inl, inr, ℕ, zero, suc, ◌+◌, pos, Bool, true, false, cond, List, [], ◌∷◌, ◌++◌, map, Result, Ok, Err, Option, Some, None, Contains, append-nil, arith}
use Rattle.tree.specs.Operators.{as_truth}
use Rattle.tree.specs.Steps.{◌>>=◌}
use Rattle.std.specs.Prelude.{flat_map}
use Rattle.tree.specs.Plain.{Expression, Reference}
use Rattle.tree.specs.declared.ops.Value.{Value}
use Rattle.tree.specs.declared.ops.Fault.{Fault}
use Rattle.tree.specs.declared.ops.Fault.TheVariants.{Overflow}
use Rattle.meaning.specs.ArrayValues.{counted}
use Rattle.meaning.specs.Dialect.{fortran90}
use Rattle.tree.specs.declared.width.Width.{Width}
use Rattle.meaning.specs.CellsRead.{cells_read, cells_read_by}
use Rattle.meaning.specs.Store.{Store, Cell}
use Rattle.meaning.specs.Value.{value_of, cell_named, is_in_range, bound_to}
use Rattle.array_form.specs.forms.Guarded.{stored_if, guarded_at, guarded_of}
use Rattle.array_form.specs.forms.Instances.{in_sequence}
use Rattle.array_form.specs.forms.Instances as forms
use Rattle.array_form.specs.forms.Loops.{FormLoop, form_variables_of}
use Rattle.meaning_laws.specs.arrays.Instances.{in_turn, NoneReadsWritten, after, cell_of}
use Rattle.meaning_laws.specs.arrays.Instances as arrays
use Rattle.nest_order.specs.orders.Lists.{In}
use Rattle.nest_order.specs.orders.Nests.{IsInstance}
use Rattle.nest_order.specs.orders.Shapes.{Instance, within_turn, turns, instances, statements, Within}
use Rattle.nest_order.specs.orders.Shapes as shapes
use Rattle.nest_order.proofs.orders.Lists.{In-left}
use Rattle.nest_order.proofs.orders.Common.{statement_stands}
use Rattle.nest_order.proofs.orders.Membership.{instance_stands, map-In}
use Rattle.nest_order.specs.runs.Alone.{chain, inside, inner_instances}
use Rattle.nest_order.specs.runs.Guarded.{sequential, at_iterations, assigned_if, guard_holds, read_by_guard}
use Rattle.nest_order.specs.runs.Laws.{as_instance}
use Rattle.nest_order.specs.runs.Nests.{RunNest, AreAt, variables_round}
use Rattle.nest_order.specs.runs.Stores.{Setting, HoldsNest, IsNestIn}
use Rattle.nest_order.specs.runs.Touched.{IsPlainGuard}
use Rattle.nest_order.proofs.runs.Alone.{chain_stands, stands_loops}
use Rattle.nest_order.proofs.runs.Arrays.{value_is_kept, cell_is_kept, same_cells_are_read, subscripts_read_same, outer_iterations_hold}
use Rattle.nest_order.proofs.runs.Holding.{instance_inside}
use Rattle.nest_order.proofs.runs.Results.{both_ok, after_ok, ok_same}
use Rattle.nest_order.proofs.runs.Runs.{at_after}
use Rattle.nest_order.proofs.runs.Variables.{Within-both}
use Rattle.array_form.specs.lone.Instances.{AreRectangular, GuardedInstancesOfArrayForms, InstancesOfArrayForms}
use Rattle.meaning_laws.proofs.arrays.Members.{cases_of, nowhere}
use Rattle.tree.specs.Widths.{bits_of}

-- ---- lists

map-append : {X Y : Type 0} (f : X → Y) (xs ys : List X) → map f (xs ++ ys) ≡ map f xs ++ map f ys
map-append f [] ys = refl
map-append f (x ∷ xs) ys = ap (λ zs. f x ∷ zs) (map-append f xs ys)

map-map : {X Y Z : Type 0} (f : Y → Z) (g : X → Y) (xs : List X) → map f (map g xs) ≡ map (λ x. f (g x)) xs
map-map f g [] = refl
map-map f g (x ∷ xs) = ap (λ zs. f (g x) ∷ zs) (map-map f g xs)

turns-flat : {X Y : Type 0} (f : ℕ → List Y) (g : X → Y) (h : ℕ → List X) (i m : ℕ) → ((k : ℕ) → f k ≡ map g (h k)) → turns i m f ≡ map g (flat_map h (counted i m))
turns-flat f g h i zero each = refl
turns-flat f g h i (suc m) each =
    ap₂ (λ xs ys. xs ++ ys) (each i) (turns-flat f g h (suc i) m each ∙ ap (λ k. map g (flat_map h (counted k m))) (let e : suc i ≡ i + 1 = omega arith in e))
    ∙ sym (map-append g (h i) (flat_map h (counted (i + 1) m)))

-- ---- the instances of a statement by itself, where its loops have turns of their own

abbrev of_statement : ℕ → List ℕ → Instance
of_statement s is = record { statement = s; iterations = is }

instances_are : (trip : ℕ → List ℕ → ℕ) (s : ℕ) (ls before ks : List ℕ) → AreRectangular trip ls before ks → instances trip (chain ls s) before ≡ map (of_statement s) (in_sequence ks)
instances_are trip s [] before [] h = refl
instances_are trip s [] before (k ∷ ks) h = absurd h
instances_are trip s (l ∷ ls) before [] h = absurd h
instances_are trip s (l ∷ ls) before (k ∷ ks) h =
    ap (λ m. turns 1 m (λ i. map (within_turn i) (instances trip (chain ls s) (before ++ i ∷ []) ++ []))) h.0
    ∙ turns-flat (λ i. map (within_turn i) (instances trip (chain ls s) (before ++ i ∷ []) ++ [])) (of_statement s) (λ i. map (λ is. i ∷ is) (in_sequence ks)) 1 k (λ i.
    ap (map (within_turn i)) (append-nil (instances trip (chain ls s) (before ++ i ∷ [])) ∙ instances_are trip s ls (before ++ i ∷ []) ks (h.1 i))
    ∙ (map-map (within_turn i) (of_statement s) (in_sequence ks) ∙ sym (map-map (of_statement s) (λ is. i ∷ is) (in_sequence ks))))

-- the store in which the inner loops are at iterations
same_iterations : (loops : List FormLoop) (xs : List (List ℕ)) (is : List ℕ) (t : Store) → form_variables_of loops ≡ xs → forms.at_iterations loops is t ≡ at_iterations xs is t
same_iterations loops xs is t e = by loops is t ∙ ap (λ ys. at_iterations ys is t) e
  where
    by : (ls : List FormLoop) (is : List ℕ) (t : Store) → forms.at_iterations ls is t ≡ at_iterations (form_variables_of ls) is t
    by [] [] t = refl
    by [] (i ∷ is) t = refl
    by (l ∷ ls) [] t = refl
    by (l ∷ ls) (i ∷ is) t = by ls is (bound_to l.variable (pos i) t)

-- ---- a guard with arrays as values

guard_reads : (width : Width) (o : Option Expression) (t : Store) → IsPlainGuard o → read_by_guard (fortran90 width) o t ≡ read_by_guard (sequential (bits_of width)) o t
guard_reads width None t h = refl
guard_reads width (Some e) t h = sym (same_cells_are_read (bits_of width) true e t h)

guard_is_kept : (width : Width) (o : Option Expression) (t : Store) (b : Bool) → guard_holds (sequential (bits_of width)) o t ≡ Ok b → guard_holds (fortran90 width) o t ≡ Ok b
guard_is_kept width None t b h = h
guard_is_kept width (Some e) t b h =
    let p = both_ok (value_of (sequential (bits_of width)) e t) as_truth b h in
    ap (λ (r : Result Value Fault). do x ← r; as_truth x) (value_is_kept (bits_of width) true e t p.0 p.1) ∙ p.2

-- ---- an instance

pub contains_in : {X : Type 0} (xs : List X) (x : X) → Contains xs x → In x xs
contains_in [] x c = absurd (nowhere x c)
contains_in (y ∷ xs) x c = elim (cases_of y xs x c) [ inl e ↦ inl (sym e) | inr d ↦ inr (contains_in xs x d) ]

pub instance_there : (n : RunNest) (w : Setting) (s : ℕ) → In s (statements n.shape) → (outer inner before : List ℕ) → n.loops_of s ≡ outer ++ inner → (counts : List ℕ) → AreRectangular (n.turns_of w.values) inner before counts
    → Within (n.turns_of w.values) [] outer before → (is : List ℕ) → In is (in_sequence counts) → IsInstance n.loops_of (n.turns_of w.values) n.shape (record { statement = s; iterations = before ++ is })
instance_there n w s i outer inner before fits counts rectangular within is j =
    let there : In (of_statement s is) (instances (n.turns_of w.values) (chain inner s) before) = subst (In (of_statement s is)) (sym (instances_are (n.turns_of w.values) s inner before counts rectangular)) (map-In (of_statement s) is (in_sequence counts) j) in
    let h = instance_stands (n.turns_of w.values) (chain inner s) before (of_statement s is) there in
    let c = chain_stands s inner s h.loops h.stands in
    let v : Within (n.turns_of w.values) before inner is = subst (λ ls. Within (n.turns_of w.values) before ls is) c.1 h.within in
    (i, subst (λ ls. Within (n.turns_of w.values) [] ls (before ++ is)) (sym fits) (Within-both (n.turns_of w.values) [] outer inner before is within v))

pub instance_within : (n : RunNest) (w : Setting) (s : ℕ) → In s (statements n.shape) → (outer inner before : List ℕ) → n.loops_of s ≡ outer ++ inner → (counts : List ℕ) → AreRectangular (n.turns_of w.values) inner before counts
    → Within (n.turns_of w.values) [] outer before → (is : List ℕ) → Contains (in_sequence counts) is → IsInstance n.loops_of (n.turns_of w.values) n.shape (record { statement = s; iterations = before ++ is })
instance_within n w s i outer inner before fits counts rectangular within is c =
    instance_there n w s i outer inner before fits counts rectangular within is (contains_in (in_sequence counts) is c)

pub outer_known : (width : Width) (n : RunNest) (w : Setting) (ok : IsNestIn (bits_of width) n w) (s : ℕ) → In s (statements n.shape) → (outer inner : List ℕ) → n.loops_of s ≡ outer ++ inner → (m : ℕ) → In m outer → In m (shapes.loops_of_shape n.shape)
outer_known width n w ok s i outer inner fits m j =
    let k = statement_stands n.shape s i in
    let e : k.0 ≡ outer ++ inner = sym (ok.text.nest.fits s k.0 k.1) ∙ fits in
    stands_loops n.shape s k.0 k.1 m (subst (In m) (sym e) (In-left m outer inner j))

-- the same store
pub store_same : (n : RunNest) (s : ℕ) (outer inner before : List ℕ) → n.loops_of s ≡ outer ++ inner → (loops : List FormLoop) → form_variables_of loops ≡ map n.variable_at inner → (is : List ℕ) (t : Store) → AreAt n outer before t
    → at_iterations (variables_round n s) (before ++ is) t ≡ forms.at_iterations loops is t
store_same n s outer inner before fits loops variables is t h =
    ap (λ ls. at_iterations (map n.variable_at ls) (before ++ is) t) fits ∙ (outer_iterations_hold n outer inner before is t h ∙ sym (same_iterations loops (map n.variable_at inner) is t variables))

module _ (width : Width) (n : RunNest) (w : Setting) (ok : IsNestIn (bits_of width) n w) (s : ℕ) (in_nest : In s (statements n.shape)) (outer inner before : List ℕ) (fits : n.loops_of s ≡ outer ++ inner)
    (loops : List FormLoop) (variables : form_variables_of loops ≡ map n.variable_at inner) (known : (m : ℕ) → In m outer → In m (shapes.loops_of_shape n.shape)) where
  abbrev IsIt : Instance → Type 0
  IsIt = IsInstance n.loops_of (n.turns_of w.values) n.shape

  abbrev guard : Option Expression
  guard = (n.statement_at s).guard

  abbrev left : Reference
  left = (n.statement_at s).left

  abbrev right : Expression
  right = (n.statement_at s).right

  abbrev mine : List ℕ → arrays.Instance
  mine is = as_instance n (sequential (bits_of width)) (record { statement = s; iterations = before ++ is })

  abbrev form : List ℕ → arrays.Instance
  form is = guarded_at (fortran90 width) loops guard left right is

  abbrev there : List ℕ → Store → Store
  there is t = at_iterations (variables_round n s) (before ++ is) t

  same : (is : List ℕ) (t : Store) → AreAt n outer before t → there is t ≡ forms.at_iterations loops is t
  same is t h = store_same n s outer inner before fits loops variables is t h

  reads_same : (is : List ℕ) (t : Store) → AreAt n outer before t → (form is).reads t ≡ (mine is).reads t
  reads_same is t h =
      let plain = ok.text.plain s in_nest in
      ap (λ z. read_by_guard (fortran90 width) guard z ++ (cells_read (fortran90 width) right z ++ cells_read_by (fortran90 width) left.subscripts z)) (sym (same is t h))
      ∙ ap₂ (λ xs ys. xs ++ ys) (guard_reads width guard (there is t) plain.0)
      (ap₂ (λ xs ys. xs ++ ys) (sym (same_cells_are_read (bits_of width) true right (there is t) plain.1)) (sym (subscripts_read_same (bits_of width) true left.subscripts (there is t) plain.2)))

  -- what it stores
  abbrev stored_by : Bool → Store → Result (Option (Cell × Value)) Fault
  stored_by b z = stored_if (fortran90 width) b left right z

  stored : (is : List ℕ) (t : Store) (b : Bool) (o : Option (Cell × Value)) → assigned_if (sequential (bits_of width)) b left right (there is t) ≡ Ok o → stored_if (fortran90 width) b left right (there is t) ≡ Ok o
  stored is t false o e = e
  stored is t true o e =
      let p = both_ok (value_of (sequential (bits_of width)) right (there is t)) (λ x. do d ← cell_named (sequential (bits_of width)) left (there is t); cond (is_in_range (bits_of width) x) (Ok (Some (d, x))) (Err Overflow)) o e in
      let q = both_ok (cell_named (sequential (bits_of width)) left (there is t)) (λ d. cond (is_in_range (bits_of width) p.0) (Ok (Some (d, p.0))) (Err Overflow)) o p.2 in
      on p.0 q.0 p.1 q.1 (is_in_range (bits_of width) p.0) refl q.2
    where
      on : (x : Value) (d : Cell) → value_of (sequential (bits_of width)) right (there is t) ≡ Ok x → cell_named (sequential (bits_of width)) left (there is t) ≡ Ok d
          → (b : Bool) → is_in_range (bits_of width) x ≡ b → ◌≡◌ {A = Result (Option (Cell × Value)) Fault} (cond b (Ok (Some (d, x))) (Err Overflow)) (Ok o) → stored_if (fortran90 width) true left right (there is t) ≡ Ok o
      on x d g k true r z =
          let a = value_is_kept (bits_of width) true right (there is t) x g in
          let b = cell_is_kept (bits_of width) true left (there is t) d k in
          let both : stored_if (fortran90 width) true left right (there is t) ≡ Ok (Some (d, x)) = rw (a, b, r) refl in
          both ∙ z
      on x d g k false r z = cc

  kept : (is : List ℕ) (t : Store) (o : Option (Cell × Value)) → AreAt n outer before t → (mine is).effect t ≡ Ok o → (form is).effect t ≡ Ok o
  kept is t o h e =
      let p = both_ok (guard_holds (sequential (bits_of width)) guard (there is t)) (λ b. assigned_if (sequential (bits_of width)) b left right (there is t)) o e in
      subst (λ z. ◌≡◌ {A = Result (Option (Cell × Value)) Fault} (do b ← guard_holds (fortran90 width) guard z; stored_if (fortran90 width) b left right z) (Ok o)) (same is t h)
      (ap (λ (r : Result Bool Fault). do b ← r; stored_if (fortran90 width) b left right (there is t)) (guard_is_kept width guard (there is t) p.0 p.1) ∙ stored is t p.0 o p.2)

  -- ---- one after another

  abbrev Follows : List Cell → List (List ℕ) → Store → Store → Type 0
  Follows written iss t u = NoneReadsWritten written (map form iss) t × (in_turn (map form iss) t ≡ Ok u)

  inside_after : (is : List ℕ) (t : Store) (o : Option (Cell × Value)) → IsIt (record { statement = s; iterations = before ++ is }) → HoldsNest (bits_of width) n w t → AreAt n outer before t → (mine is).effect t ≡ Ok o
      → HoldsNest (bits_of width) n w (after o t) × AreAt n outer before (after o t)
  inside_after is t None it holds at e = (holds, at)
  inside_after is t (Some p) it holds at e = (
    instance_inside (bits_of width) n w ok (record { statement = s; iterations = before ++ is }) it t p.0 p.1 holds e,
    at_after (bits_of width) n w ok outer before (record { statement = s; iterations = before ++ is }) it t p.0 p.1 known e at,
  )

  follows : (iss : List (List ℕ)) (written : List Cell) (t u : Store) → ((is : List ℕ) → In is iss → IsIt (record { statement = s; iterations = before ++ is })) → HoldsNest (bits_of width) n w t → AreAt n outer before t
      → NoneReadsWritten written (map mine iss) t → in_turn (map mine iss) t ≡ Ok u → Follows written iss t u
  follows [] written t u are holds at h e = (tt, e)
  follows (is ∷ iss) written t u are holds at h e =
      let a = both_ok ((mine is).effect t) (λ o. in_turn (map mine iss) (after o t)) u e in
      let form_stores = kept is t a.0 at a.1 in
      let inside = inside_after is t a.0 (are is (inl refl)) holds at a.1 in
      let rest = follows iss (cell_of a.0 ++ written) (after a.0 t) u (λ js i. are js (inr i)) inside.0 inside.1 (h.1 a.0 a.1) a.2 in (
        (
          (λ c i. subst (λ cs. ¬ Contains cs c) (sym (reads_same is t at)) (h.0 c i)),
          (λ o f. subst (λ x. NoneReadsWritten (cell_of x ++ written) (map form iss) (after x t)) (ok_same {F = Fault} a.0 o (sym form_stores ∙ f)) rest.0),
        ),
        after_ok ((form is).effect t) (λ o. in_turn (map form iss) (after o t)) a.0 form_stores ∙ rest.1,
      )

pub guarded_instances_of_array_forms : (width : Width) → GuardedInstancesOfArrayForms width
guarded_instances_of_array_forms width n w s outer inner before loops counts t u ok in_nest fits variables rectangular within holds at none e =
    let trip = n.turns_of w.values in
    let list : inner_instances (bits_of width) n w before inner s ≡ map (λ is. as_instance n (sequential (bits_of width)) (record { statement = s; iterations = before ++ is })) (in_sequence counts)
    = ap (λ xs. map (as_instance n (sequential (bits_of width))) (map (inside before) xs)) (instances_are trip s inner before counts rectangular)
    ∙ (ap (map (as_instance n (sequential (bits_of width)))) (map-map (inside before) (of_statement s) (in_sequence counts))
    ∙ map-map (as_instance n (sequential (bits_of width))) (λ is. record { statement = s; iterations = before ++ is }) (in_sequence counts)) in
    follows width n w ok s in_nest outer inner before fits loops variables (outer_known width n w ok s in_nest outer inner fits) (in_sequence counts) [] t u (instance_there n w s in_nest outer inner before fits counts rectangular within) holds at
    (subst (λ xs. NoneReadsWritten [] xs t) list none) (subst (λ xs. in_turn xs t ≡ Ok u) list e)

-- without a guard
pub instances_of_array_forms : (width : Width) → InstancesOfArrayForms width
instances_of_array_forms width n w s outer inner before loops counts t u ok in_nest fits free variables rectangular within holds at none e =
    subst (λ g. NoneReadsWritten [] (guarded_of (fortran90 width) loops counts g (n.statement_at s).left (n.statement_at s).right) t × (in_turn (guarded_of (fortran90 width) loops counts g (n.statement_at s).left (n.statement_at s).right) t ≡ Ok u)) free
    (guarded_instances_of_array_forms width n w s outer inner before loops counts t u ok in_nest fits variables rectangular within holds at none e)
