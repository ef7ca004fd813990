-- The array form of an assignment under a guard stores what its instances store: as a WHERE, or in an IF.
use Rattle.std.proofs.Common.{◌≡◌, refl, sym, ap, ◌∙◌, subst, ◌⊎◌, inl, inr, ℕ, ◌+◌, ◌≤◌, le_refl, ℤ, pos, Bool, true, false, cond, List, [], ◌∷◌, ◌++◌, map, length, Result, Ok, Option, Some, None, Contains}
use Rattle.std.proofs.lemmas.List.Elements.{recursion_from_All, Contains-append_left, Contains-append_right}
use Rattle.tree.specs.Operators.{as_truth}
use Rattle.tree.specs.Plain.{Expression, Reference, Where, If, no_arms, arm, Block, no_statements, statement}
use Rattle.tree.specs.Steps.{◌>>=◌}
use Rattle.tree.specs.declared.ops.Fault.{Fault}
use Rattle.tree.specs.declared.ops.Value.{Value}
use Rattle.tree.specs.declared.ops.Value.TheVariants.{Int}
use Rattle.tree.specs.declared.stmts.Mark.{Mark}
use Rattle.meaning.specs.Dialect.{Dialect, fortran90}
use Rattle.tree.specs.declared.width.Width.{Width}
use Rattle.meaning.specs.Reads.{names_in}
use Rattle.meaning.specs.CellsRead.{cells_read}
use Rattle.meaning.specs.Run.{State, Going, does_all}
use Rattle.meaning.specs.Store.{Store, Cell, same_cell, put}
use Rattle.meaning.specs.Value.{truth_of, bound_to}
use Rattle.meaning.proofs.CellFrame.{value_of-same}
use Rattle.meaning.proofs.Exchanges.{same_cell-same}
use Rattle.meaning_laws.specs.arrays.Instances.{Instance, in_turn, NoneReadsWritten, after, cell_of}
use Rattle.meaning_laws.proofs.arrays.Assignments.{bounds_alike}
use Rattle.meaning_laws.proofs.arrays.Members.{here, nowhere, each_member}
use Rattle.meaning_laws.proofs.arrays.Stages.{bound, same_answer}
use Rattle.array_form.specs.forms.Following.{has_no_loop, are_moved, is_regular}
use Rattle.array_form.specs.forms.Forms.{form}
use Rattle.array_form.specs.forms.Guarded.{stored_if, guarded_at, guarded_from, GuardedFormStoresInstances}
use Rattle.array_form.specs.forms.Instances.{at_iterations, count_of, counts_of, in_sequence, instance_at}
use Rattle.array_form.specs.forms.Laws.{Turns, AreKnown}
use Rattle.array_form.specs.forms.Loops.{FormLoop, FormSurroundings, form_names_of, is_among, loops_among}
use Rattle.array_form.specs.forms.Statements.{loops_from, unguarded_hold, stand_in_guard, loops_assigned, left_form, right_form, array_assignment, form_tests_of, guarded_by, array_form_of}
use Rattle.array_form.proofs.forms.Holding.{stands_more, none_stand}
use Rattle.array_form.proofs.forms.Iterations.{iterations, not_it}
use Rattle.array_form.proofs.forms.Masking.{stores_masked}
use Rattle.array_form.proofs.forms.Names.{Alike, value_alike}
use Rattle.array_form.proofs.forms.Orders.{Ordered, ordered_loops}
use Rattle.array_form.proofs.forms.Positions.{from_sequence}
use Rattle.array_form.proofs.forms.Tests.{ready, taken, passed, block_done, all_or_one, form_passes, no_sequence}
use Rattle.array_form.proofs.forms.Whole.{held_kept, bounds_kept, from_within, assignment_done, array_form_stores_instances}

-- ---- a guard in which no loop stands

none_here : (l : FormLoop) (ls : List FormLoop) (names : List (List ℕ)) → loops_among (l ∷ ls) names ≡ [] → (is_among names l.variable ≡ false) × (loops_among ls names ≡ [])
none_here l ls names h = by (is_among names l.variable) refl h
  where
    by : (b : Bool) → is_among names l.variable ≡ b → cond b (l ∷ loops_among ls names) (loops_among ls names) ≡ [] → (is_among names l.variable ≡ false) × (loops_among ls names ≡ [])
    by true e f = cc
    by false e f = (e, f)

free_alike : (ls : List FormLoop) (is : List ℕ) (names : List (List ℕ)) (s : Store) → loops_among ls names ≡ [] → Alike names (at_iterations ls is s) s
free_alike [] is names s h = record { bounds = refl; held = λ c m. refl }
free_alike (l ∷ ls) [] names s h = record { bounds = refl; held = λ c m. refl }
free_alike (l ∷ ls) (i ∷ is) names s h =
    let parts = none_here l ls names h in
    let more = free_alike ls is names (bound_to l.variable (pos i) s) parts.1 in
    record {
      bounds = more.bounds;
      held = λ c m. more.held c m ∙ ap (λ b. cond b (Int (pos i)) (s.held c)) (not_it l names c m parts.0);
    }

module _ (d : Dialect) (ls : List FormLoop) (e : Expression) (left : Reference) (right : Expression) (free : loops_among ls (names_in e) ≡ []) where
  abbrev guarded : List ℕ → Instance
  guarded is = guarded_at d ls (Some e) left right is

  abbrev plain : List ℕ → Instance
  plain is = instance_at d ls left right is

  truth_there : (is : List ℕ) (s : Store) → truth_of d e (at_iterations ls is s) ≡ truth_of d e s
  truth_there is s = ap (λ (r : Result Value Fault). do x ← r; as_truth x) (value_alike d e (at_iterations ls is s) s (free_alike ls is (names_in e) s free))

  effect_by : (is : List ℕ) (s : Store) (b : Bool) → truth_of d e s ≡ Ok b → (guarded is).effect s ≡ stored_if d b left right (at_iterations ls is s)
  effect_by is s b h = ap (λ (r : Result Bool Fault). do t ← r; stored_if d t left right (at_iterations ls is s)) (truth_there is s ∙ h)

  -- where it is false, nothing is stored
  idle : (iss : List (List ℕ)) (s : Store) → truth_of d e s ≡ Ok false → in_turn (map guarded iss) s ≡ Ok s
  idle [] s h = refl
  idle (is ∷ iss) s h = ap (λ (r : Result (Option (Cell × Value)) Fault). do o ← r; in_turn (map guarded iss) (after o s)) (effect_by is s false h) ∙ idle iss s h

  -- a store in a cell that isn't read keeps its truth
  kept_truth : (js : List ℕ) (s : Store) (o : Option (Cell × Value)) → ((c : Cell) → Contains (cell_of o) c → ¬ Contains ((guarded js).reads (after o s)) c) → truth_of d e (after o s) ≡ truth_of d e s
  kept_truth js s None h = refl
  kept_truth js s (Some w) h =
      let t = put w.0 w.1 s in
      let u = at_iterations ls js t in
      let v = at_iterations ls js s in
      let first = cells_read d e u in
      let unread : (c : Cell) → Contains first c → u.held c ≡ v.held c = λ c m. (held_kept ls js t s (c ∷ []) (other c m, tt)).0 in
      let same = value_of-same d u v e (bounds_alike u v (bounds_kept ls js t s refl) (names_in e)) (recursion_from_All (λ c. u.held c ≡ v.held c) first (each_member (λ c. u.held c ≡ v.held c) first unread)) in
      sym (truth_there js t) ∙ (ap (λ (r : Result Value Fault). do x ← r; as_truth x) same ∙ truth_there js s)
    where
      other : (c : Cell) → Contains (cells_read d e (at_iterations ls js (put w.0 w.1 s))) c → (put w.0 w.1 s).held c ≡ s.held c
      other c m = by (same_cell w.0 c) refl
        where
          by : (b : Bool) → same_cell w.0 c ≡ b → cond b w.1 (s.held c) ≡ s.held c
          by false q = refl
          by true q =
              let is : w.0 ≡ c = same_cell-same w.0 c q in
              absurd (h c (subst (λ x. Contains (w.0 ∷ []) x) is (here w.0 [])) (Contains-append_left (cells_read d e (at_iterations ls js (put w.0 w.1 s))) _ c m))

  abbrev StartsTrue : List (List ℕ) → Store → Type 0
  StartsTrue [] s = Unit {0}
  StartsTrue (is ∷ iss) s = truth_of d e s ≡ Ok true

  -- where it is true, the instances are those without a guard
  follow : (iss : List (List ℕ)) (written : List Cell) (s t : Store) → StartsTrue iss s → NoneReadsWritten written (map guarded iss) s → in_turn (map guarded iss) s ≡ Ok t
      → NoneReadsWritten written (map plain iss) s × (in_turn (map plain iss) s ≡ Ok t)
  follow [] written s t h none run = (tt, run)
  follow (is ∷ iss) written s t h none run =
      let same : (guarded is).effect s ≡ (plain is).effect s = effect_by is s true h in
      let a = bound ((guarded is).effect s) (λ o. in_turn (map guarded iss) (after o s)) t run in
      let rest = follow iss (cell_of a.0 ++ written) (after a.0 s) t (starts iss a.0 (none.1 a.0 a.1)) (none.1 a.0 a.1) a.2 in (
        (
          (λ c k m. none.0 c k (Contains-append_right (cells_read d e (at_iterations ls is s)) ((plain is).reads s) c m)),
          (λ o q. subst (λ x. NoneReadsWritten (cell_of x ++ written) (map plain iss) (after x s)) (same_answer a.0 o (sym a.1 ∙ (same ∙ q))) rest.0),
        ),
        ap (λ (r : Result (Option (Cell × Value)) Fault). do o ← r; in_turn (map plain iss) (after o s)) (sym same ∙ a.1) ∙ rest.1,
      )
    where
      starts : (jss : List (List ℕ)) (o : Option (Cell × Value)) → NoneReadsWritten (cell_of o ++ written) (map guarded jss) (after o s) → StartsTrue jss (after o s)
      starts [] o n = tt
      starts (js ∷ jss) o n = kept_truth js s o (λ c k. n.0 c (Contains-append_left (cell_of o) written c k)) ∙ h

  start : (iss : List (List ℕ)) (s : Store) → truth_of d e s ≡ Ok true → StartsTrue iss s
  start [] s h = tt
  start (is ∷ iss) s h = h

  -- there is an instance, so it has a truth
  has_truth : (iss : List (List ℕ)) (is : List ℕ) (s t : Store) → Contains iss is → in_turn (map guarded iss) s ≡ Ok t → (b : Bool) × (truth_of d e s ≡ Ok b)
  has_truth [] is s t m run = absurd (nowhere is m)
  has_truth (js ∷ iss) is s t m run =
      let a = bound ((guarded js).effect s) (λ o. in_turn (map guarded iss) (after o s)) t run in
      let b = bound (truth_of d e (at_iterations ls js s)) (λ b. stored_if d b left right (at_iterations ls js s)) a.0 a.1 in
      (b.0, sym (truth_there js s) ∙ b.1)

-- ---- the assignment in an IF

module _ (width : Width) (a : FormSurroundings) (k line : ℕ) (mark : Option Mark) (e : Expression) (left : Reference) (right : Expression) (s : State) (t : Store) (xs : List ℤ) (known : AreKnown a s.store xs)
    (turns : (l : FormLoop) → Contains (loops_from a k) l → Turns a xs l) (some : has_no_loop (loops_from a k) ≡ false) (no_hold : unguarded_hold a k left ≡ None)
    (moved : are_moved a (loops_assigned a k left) left.subscripts ≡ true) (regular : is_regular a (loops_assigned a k left) right ≡ true)
    (free : loops_among (loops_from a k) (names_in e) ≡ []) where
  abbrev mine : List FormLoop
  mine = loops_from a k

  abbrev inside : Block
  inside = statement (array_assignment a k line mark left right) no_statements

  abbrev tested : Block
  tested = statement (If line (arm e inside no_arms) no_statements) no_statements

  abbrev Outcome_of : Block → Type 0
  Outcome_of body = (n : ℕ) × (does_all (fortran90 width) None (guarded_by line (form_tests_of (form_names_of a) mine) body) (ready s) ≡ record s { store = t; steps = n; way = Going })

  first_instance : Contains (in_sequence (counts_of xs mine)) (iterations (λ y. 1) mine)
  first_instance = from_sequence (counts_of xs mine) (iterations (λ y. 1) mine) (from_within xs (λ y. 1) mine (λ l c. (le_refl 1, (turns l c).least)))

  in_if : NoneReadsWritten [] (guarded_from (fortran90 width) a k xs (Some e) left right) s.store → in_turn (guarded_from (fortran90 width) a k xs (Some e) left right) s.store ≡ Ok t → Outcome_of tested
  in_if none run =
      let b = has_truth (fortran90 width) mine e left right free (in_sequence (counts_of xs mine)) (iterations (λ y. 1) mine) s.store t first_instance run in
      by b.0 b.1
    where
      by : (b : Bool) → truth_of (fortran90 width) e s.store ≡ Ok b → Outcome_of tested
      by true h =
          let both = follow (fortran90 width) mine e left right free (in_sequence (counts_of xs mine)) [] s.store t (start (fortran90 width) mine e left right free (in_sequence (counts_of xs mine)) s.store h) none run in
          let done = assignment_done width a k line mark s t xs known turns some left right no_hold moved regular both.0 both.1 in
          let g = block_done (fortran90 width) a line tested s xs known mine turns in
          (g.0 + 1 + 1 + length done.0, g.1 ∙ (taken (fortran90 width) line e inside (record s { steps = g.0 }) h ∙ done.1 (g.0 + 1)))
      by false h =
          let g = block_done (fortran90 width) a line tested s xs known mine turns in
          let stays : s.store ≡ t = same_answer s.store t (sym (idle (fortran90 width) mine e left right free (in_sequence (counts_of xs mine)) s.store h) ∙ run) in
          (g.0 + 1, g.1 ∙ (passed (fortran90 width) line e inside (record s { steps = g.0 }) h ∙ ap (λ (u : Store). let r : State = record s { store = u; steps = g.0 + 1; way = Going } in r) stays))

-- ---- both

pub guarded_form_stores_instances : (width : Width) → GuardedFormStoresInstances width
guarded_form_stores_instances width a k line mark None left right s t xs going known trips some no_hold moved guard_regular regular cells none run =
    array_form_stores_instances width a k line mark left right s t xs going known trips some no_hold moved regular none run
guarded_form_stores_instances width a k line mark (Some e) left right s t xs going known trips some no_hold moved guard_regular regular cells none run = by (all_or_one xs (loops_from a k))
  where
    Outcome : Type 0
    Outcome = (n : ℕ) × (does_all (fortran90 width) None (array_form_of a k line mark (Some e) left right) s ≡ record s { store = t; steps = n })

    at_going : (n : ℕ) → does_all (fortran90 width) None (array_form_of a k line mark (Some e) left right) (ready s) ≡ record s { store = t; steps = n; way = Going } → Outcome
    at_going n h = (
      n,
      subst (λ (v : State). does_all (fortran90 width) None (array_form_of a k line mark (Some e) left right) v ≡ record v { store = t; steps = n }) (λ i. let v : State = record s { way = sym going i } in v) h,
    )

    order : Ordered (loops_from a k) left.subscripts (loops_assigned a k left)
    order = ordered_loops a k left known.distinct no_hold

    as_block : Bool → Block
    as_block b = guarded_by line (form_tests_of (form_names_of a) (loops_from a k))
        (statement (cond b (Where line mark (form a (loops_assigned a k left) e) (left_form a k left) (right_form a k left right))
        (If line (arm e (statement (array_assignment a k line mark left right) no_statements) no_arms) no_statements)) no_statements)

    turning : ((l : FormLoop) → Contains (loops_from a k) l → Turns a xs l) → (b : Bool) → stand_in_guard (loops_assigned a k left) (Some e) ≡ b
        → (n : ℕ) × (does_all (fortran90 width) None (as_block b) (ready s) ≡ record s { store = t; steps = n; way = Going })
    turning turns true h =
        let named = cells (stands_more (loops_assigned a k left) (loops_from a k) e order.into h) in
        stores_masked width a k line mark e s t xs known turns some left right no_hold moved guard_regular regular named.left_cells named.right_cells none run
    turning turns false h =
        in_if width a k line mark e left right s t xs known turns some no_hold moved regular (none_stand (loops_from a k) (loops_assigned a k left) e order.onto h) none run

    by : ((l : FormLoop) → Contains (loops_from a k) l → 1 ≤ count_of xs l) ⊎ ((l : FormLoop) × Contains (loops_from a k) l × (count_of xs l ≡ 0)) → Outcome
    by (inl turn) =
        let r = turning (λ l c. record { trip = trips l c; least = turn l c }) (stand_in_guard (loops_assigned a k left) (Some e)) refl in
        at_going r.0 r.1
    by (inr one) =
        let r = form_passes (fortran90 width) a k line mark (Some e) left right s xs going known (λ l c. let h = trips l c in (h.limits, h.divisor)) one.0 one.1 one.2 in
        let stays : s.store ≡ t = same_answer s.store t (ap (λ iss. in_turn (map (guarded_at (fortran90 width) (loops_from a k) (Some e) left right) iss) s.store) (sym (no_sequence xs (loops_from a k) one.0 one.1 one.2)) ∙ run) in
        (r.0, r.1 ∙ ap (λ (u : Store). let v : State = record s { store = u; steps = r.0 } in v) stays)
