-- An array assignment stores what its elements store one by one.
use Rattle.std.proofs.Common.{◌≡◌, refl, sym, ap, ◌∙◌, subst, ℕ, suc, ◌+◌, Bool, true, false, List, [], ◌∷◌, ◌++◌, map, length, Result, Ok, Err, Option, Some, None, arith}
use Rattle.std.proofs.lemmas.List.Elements.{recursion_from_All}
use Rattle.std.specs.List.{AllByRecursion, zip}
use mathlib.Core.Path.{ap₂}
use Rattle.tree.specs.Operators.{as_truth}
use Rattle.tree.specs.Plain.{Expression, Logic, Reference, Assignment, Where}
use Rattle.tree.specs.Steps.{◌>>=◌}
use Rattle.tree.specs.declared.ops.Fault.{Fault}
use Rattle.tree.specs.declared.ops.Value.{Value}
use Rattle.tree.specs.declared.ops.Value.TheVariants.{Int, Truth}
use Rattle.tree.specs.declared.stmts.Mark.{Mark}
use Rattle.meaning.specs.ArrayStatements.{second, where_true, axes_named, storable, writes_of}
use Rattle.meaning.specs.ArrayValues.{Elements, each, positions, conform}
use Rattle.meaning.specs.Dialect.{Dialect}
use Rattle.meaning.specs.Reads.{names_in, names_in_subscripts}
use Rattle.meaning.specs.CellsRead.{cells_read_to_select}
use Rattle.meaning.specs.Run.{State, Going, nothing, either, does, for_each, while_going, evaluates, counts_step, stores, stores_element, array_assigns}
use Rattle.meaning.specs.Sections.{Axis, extents_of, cells_along}
use Rattle.meaning.specs.Store.{Store, Cell, put}
use Rattle.meaning.specs.Value.{array_of, is_array, named}
use Rattle.meaning.proofs.CellFrame.{first_part, second_part}
use Rattle.meaning_laws.specs.arrays.Assignments.{assigned_if, element_assigned, elements_assigned, shape_assigned, WritesAreEffects, EffectsAreWrites, ArrayAssignmentInTurn, ElementsInTurnAtOnce, ArrayAssignmentStores, ArrayStatementStores, WhereStores}
use Rattle.meaning_laws.specs.arrays.Elements.{cell_at_position, element_of, cells_read_at}
use Rattle.meaning_laws.specs.arrays.Instances.{Instance, ComesFromReads, puts, writes_in}
use Rattle.meaning_laws.proofs.arrays.Elements.{axes_same, element_same}
use Rattle.meaning_laws.proofs.arrays.Sections.{cells_by_position}
use Rattle.meaning_laws.proofs.arrays.Stages.{bound, same_answer, chosen_by, stored_at, placed, Staged, staged_stored, stored_staged}
use Rattle.meaning_laws.proofs.arrays.Turns.{in_turn_is_at_once, apart_is_at_once}

-- ---- an element's assignment depends on the cells that it reads alone

masked : (r : Result Value Fault) (f k : Bool → Result (Option (Cell × Value)) Fault) → ((b : Bool) → f b ≡ k b) → ◌≡◌ {A = Result (Option (Cell × Value)) Fault} (do x ← r; b ← as_truth x; f b) (do x ← r; b ← as_truth x; k b)
masked (Ok (Truth b)) f k h = h b
masked (Ok (Int z)) f k h = refl
masked (Err e) f k h = refl

pub bounds_alike : (s t : Store) → s.bounds ≡ t.bounds → (xs : List (List ℕ)) → AllByRecursion (λ x. s.bounds x ≡ t.bounds x) xs
bounds_alike s t e [] = tt
bounds_alike s t e (x ∷ xs) = (ap (λ (b : List ℕ → _). b x) e, bounds_alike s t e xs)

module _ (d : Dialect) (mask right : Expression) (left : Reference) where
  assigned_same : (is : List ℕ) (s t : Store) → s.bounds ≡ t.bounds
      → AllByRecursion (λ c. s.held c ≡ t.held c) (cells_read_to_select d left.subscripts s ++ cells_read_at d right is s) → (b : Bool) → assigned_if d b left right is s ≡ assigned_if d b left right is t
  assigned_same is s t e m false = refl
  assigned_same is s t e m true = ap₂ (λ (r : Result (List Axis) Fault) (q : Result Value Fault). do c ← (do axes ← r; Ok (cell_at_position left.name axes is)); x ← q; v ← storable d x; Ok (Some (c, v)))
      (axes_same d s t left (ap (λ (b : List ℕ → _). b left.name) e) (bounds_alike s t e (names_in_subscripts left.subscripts)) (first_part (λ c. s.held c ≡ t.held c) (cells_read_to_select d left.subscripts s) (cells_read_at d right is s) m))
      (element_same d s t is right (bounds_alike s t e (names_in right)) (second_part (λ c. s.held c ≡ t.held c) (cells_read_to_select d left.subscripts s) (cells_read_at d right is s) m))

  pub element_from_reads : (is : List ℕ) → ComesFromReads (element_assigned d mask left right is)
  element_from_reads is = record { same = λ s t e m. by s t e (recursion_from_All (λ c. s.held c ≡ t.held c) ((element_assigned d mask left right is).reads s) m) }
    where
      by : (s t : Store) → s.bounds ≡ t.bounds → AllByRecursion (λ c. s.held c ≡ t.held c) (cells_read_at d mask is s ++ (cells_read_to_select d left.subscripts s ++ cells_read_at d right is s))
          → (element_assigned d mask left right is).effect s ≡ (element_assigned d mask left right is).effect t
      by s t e m =
          masked (element_of d mask is s) (λ b. assigned_if d b left right is s) (λ b. assigned_if d b left right is t)
          (assigned_same is s t e (second_part (λ c. s.held c ≡ t.held c) (cells_read_at d mask is s) (cells_read_to_select d left.subscripts s ++ cells_read_at d right is s) m))
          ∙ ap (λ (r : Result Value Fault). do x ← r; b ← as_truth x; assigned_if d b left right is t)
          (element_same d s t is mask (bounds_alike s t e (names_in mask)) (first_part (λ c. s.held c ≡ t.held c) (cells_read_at d mask is s) (cells_read_to_select d left.subscripts s ++ cells_read_at d right is s) m))

  all_from_reads : (iss : List (List ℕ)) → AllByRecursion ComesFromReads (map (element_assigned d mask left right) iss)
  all_from_reads [] = tt
  all_from_reads (is ∷ iss) = (element_from_reads is, all_from_reads iss)

  -- ---- in a store where mask, left side and right side are known

  module _ (axes : List Axis) (s : Store) (m g : Elements Value) (known_left : axes_named d left s ≡ Ok axes) (known_mask : array_of d mask s ≡ Ok m) (known_right : array_of d right s ≡ Ok g) where
    abbrev cell : List ℕ → Cell
    cell = cell_at_position left.name axes

    effect_known : (is : List ℕ) → (element_assigned d mask left right is).effect s ≡ stored_at d m g cell is
    effect_known is =
        masked (element_of d mask is s) (λ b. assigned_if d b left right is s) (λ b. chosen_by d m g cell b is) by
        ∙ ap (λ (r : Result (Elements Value) Fault). do x ← (do a ← r; a.at is); b ← as_truth x; chosen_by d m g cell b is) known_mask
      where
        by : (b : Bool) → assigned_if d b left right is s ≡ chosen_by d m g cell b is
        by false = refl
        by true = ap₂ (λ (r : Result (List Axis) Fault) (q : Result (Elements Value) Fault). do c ← (do axes ← r; Ok (cell_at_position left.name axes is)); x ← (do a ← q; a.at is); v ← storable d x; Ok (Some (c, v))) known_left known_right

    effects_known : (iss : List (List ℕ)) → each (λ (i : Instance). i.effect s) (map (element_assigned d mask left right) iss) ≡ each (stored_at d m g cell) iss
    effects_known [] = refl
    effects_known (is ∷ iss) = ap₂ (λ (r : Result (Option (Cell × Value)) Fault) (q : Result (List (Option (Cell × Value))) Fault). do w ← r; ws ← q; Ok (w ∷ ws)) (effect_known is) (effects_known iss)

  -- ---- the stages

  abbrev last_stages : Elements Value → Elements Value → List (List ℕ × Cell) → Result (List (Cell × Value)) Fault
  last_stages m g ps = do
    chosen ← where_true m ps
    xs ← each (λ (p : List ℕ × Cell). g.at p.0) chosen
    vs ← each (storable d) xs
    Ok (zip (map second chosen) vs)

  zipped : (f : List ℕ → Cell) (iss : List (List ℕ)) → zip iss (map f iss) ≡ map (λ is. (is, f is)) iss
  zipped f [] = refl
  zipped f (is ∷ iss) = ap (λ ps. (is, f is) ∷ ps) (zipped f iss)

  paired_with : (axes : List Axis) → zip (positions (extents_of axes)) (cells_along left.name axes) ≡ map (λ is. (is, cell_at_position left.name axes is)) (positions (extents_of axes))
  paired_with axes = ap (zip (positions (extents_of axes))) (cells_by_position left.name axes) ∙ zipped (cell_at_position left.name axes) (positions (extents_of axes))

  staged : (m g : Elements Value) (cell : List ℕ → Cell) (iss : List (List ℕ)) (ws : List (Cell × Value)) → last_stages m g (placed d m g cell iss) ≡ Ok ws → Staged d m g cell iss ws
  staged m g cell iss ws e =
      let c = bound (where_true m (placed d m g cell iss)) (λ chosen. do xs ← each (λ (p : List ℕ × Cell). g.at p.0) chosen; vs ← each (storable d) xs; Ok (zip (map second chosen) vs)) ws e in
      let x = bound (each (λ (p : List ℕ × Cell). g.at p.0) c.0) (λ xs. do vs ← each (storable d) xs; Ok (zip (map second c.0) vs)) ws c.2 in
      let v = bound (each (storable d) x.0) (λ vs. Ok (zip (map second c.0) vs)) ws x.2 in
      record { chosen = c.0; values = x.0; stored = v.0; mask = c.1; right = x.1; range = v.1; are = same_answer (zip (map second c.0) v.0) ws v.2 }

  stages_of : (m g : Elements Value) (cell : List ℕ → Cell) (iss : List (List ℕ)) (ws : List (Cell × Value)) → Staged d m g cell iss ws → last_stages m g (placed d m g cell iss) ≡ Ok ws
  stages_of m g cell iss ws h =
      ap (λ (r : Result (List (List ℕ × Cell)) Fault). do chosen ← r; xs ← each (λ (p : List ℕ × Cell). g.at p.0) chosen; vs ← each (storable d) xs; Ok (zip (map second chosen) vs)) h.mask
      ∙ (ap (λ (r : Result (List Value) Fault). do xs ← r; vs ← each (storable d) xs; Ok (zip (map second h.chosen) vs)) h.right
      ∙ (ap (λ (r : Result (List Value) Fault). do vs ← r; Ok (zip (map second h.chosen) vs)) h.range ∙ ap Ok h.are))

  -- mask, right side and extents, where they conform
  record Shaped (axes : List Axis) (s : Store) : Type 0 where
    m : Elements Value
    ns : List ℕ
    g : Elements Value
    ks : List ℕ
    known_mask : array_of d mask s ≡ Ok m
    known_right : array_of d right s ≡ Ok g
    left_conforms : conform m.extents (extents_of axes) ≡ Ok ns
    right_conforms : conform ns g.extents ≡ Ok ks

  abbrev all_stages : Result (Elements Value) Fault → Result (List Axis) Fault → Result (Elements Value) Fault → Result (List (Cell × Value)) Fault
  all_stages rm ra rg = do
    m ← rm
    axes ← ra
    ns ← conform m.extents (extents_of axes)
    g ← rg
    _ ← conform ns g.extents
    last_stages m g (zip (positions (extents_of axes)) (cells_along left.name axes))

  stages_known : (axes : List Axis) (s : Store) → axes_named d left s ≡ Ok axes → (h : Shaped axes s) → writes_of d mask left right s ≡ last_stages h.m h.g (placed d h.m h.g (cell_at_position left.name axes) (positions (extents_of axes)))
  stages_known axes s e h =
      ap₂ (λ rm ra. all_stages rm ra (array_of d right s)) h.known_mask e
      ∙ (ap (λ rg. all_stages (Ok h.m) (Ok axes) rg) h.known_right
      ∙ (ap (λ (r : Result (List ℕ) Fault). do ns ← r; _ ← conform ns h.g.extents; last_stages h.m h.g (zip (positions (extents_of axes)) (cells_along left.name axes))) h.left_conforms
      ∙ (ap (λ (r : Result (List ℕ) Fault). do _ ← r; last_stages h.m h.g (zip (positions (extents_of axes)) (cells_along left.name axes))) h.right_conforms
      ∙ ap (last_stages h.m h.g) (paired_with axes))))

  shaped_writes : (axes : List Axis) (s : Store) (ws : List (Cell × Value)) → axes_named d left s ≡ Ok axes → writes_of d mask left right s ≡ Ok ws → Shaped axes s
  shaped_writes axes s ws e w =
      let m = bound (array_of d mask s) (λ m. all_stages (Ok m) (Ok axes) (array_of d right s)) ws (sym (ap (λ ra. all_stages (array_of d mask s) ra (array_of d right s)) e) ∙ w) in
      let n = bound (conform m.0.extents (extents_of axes)) (λ ns. do g ← array_of d right s; _ ← conform ns g.extents; last_stages m.0 g (zip (positions (extents_of axes)) (cells_along left.name axes))) ws m.2 in
      let g = bound (array_of d right s) (λ g. do _ ← conform n.0 g.extents; last_stages m.0 g (zip (positions (extents_of axes)) (cells_along left.name axes))) ws n.2 in
      let k = bound (conform n.0 g.0.extents) (λ _. last_stages m.0 g.0 (zip (positions (extents_of axes)) (cells_along left.name axes))) ws g.2 in
      record { m = m.0; ns = n.0; g = g.0; ks = k.0; known_mask = m.1; known_right = g.1; left_conforms = n.1; right_conforms = k.1 }

  shaped_shape : (axes : List Axis) (s : Store) (ks : List ℕ) → axes_named d left s ≡ Ok axes → shape_assigned d mask left right s ≡ Ok ks → Shaped axes s
  shaped_shape axes s ks e w =
      let m = bound (array_of d mask s) (λ m. do ns ← conform m.extents (extents_of axes); g ← array_of d right s; conform ns g.extents) ks
      (sym (ap (λ (ra : Result (List Axis) Fault). do m ← array_of d mask s; axes ← ra; ns ← conform m.extents (extents_of axes); g ← array_of d right s; conform ns g.extents) e) ∙ w) in
      let n = bound (conform m.0.extents (extents_of axes)) (λ ns. do g ← array_of d right s; conform ns g.extents) ks m.2 in
      let g = bound (array_of d right s) (λ g. conform n.0 g.extents) ks n.2 in
      record { m = m.0; ns = n.0; g = g.0; ks = ks; known_mask = m.1; known_right = g.1; left_conforms = n.1; right_conforms = g.2 }

-- ---- the laws

pub writes_are_effects : WritesAreEffects
writes_are_effects d mask right left axes s ws e w =
    let h = shaped_writes d mask right left axes s ws e w in
    let iss = positions (extents_of axes) in
    let cell = cell_at_position left.name axes in
    let t = staged_stored d h.m h.g cell iss ws (staged d mask right left h.m h.g cell iss ws (sym (stages_known d mask right left axes s e h) ∙ w)) in
    (t.effects, effects_known d mask right left axes s h.m h.g e h.known_mask h.known_right iss ∙ t.at, t.are)

pub effects_are_writes : EffectsAreWrites
effects_are_writes d mask right left axes ns s os e shape all =
    let h = shaped_shape d mask right left axes s ns e shape in
    let iss = positions (extents_of axes) in
    let cell = cell_at_position left.name axes in
    let t = stored_staged d h.m h.g cell iss os (sym (effects_known d mask right left axes s h.m h.g e h.known_mask h.known_right iss) ∙ all) in
    stages_known d mask right left axes s e h ∙ stages_of d mask right left h.m h.g cell iss (writes_in os) t

pub array_assignment_in_turn : ArrayAssignmentInTurn
array_assignment_in_turn d mask right left axes s ws e apart w =
    let o = writes_are_effects d mask right left axes s ws e w in
    apart_is_at_once (elements_assigned d mask left right axes) s (all_from_reads d mask right left (positions (extents_of axes))) apart
    ∙ (ap (λ (r : Result (List (Option (Cell × Value))) Fault). do os ← r; Ok (puts (writes_in os) s)) o.1 ∙ ap (λ us. Ok (puts us s)) o.2)

pub elements_in_turn_at_once : ElementsInTurnAtOnce
elements_in_turn_at_once d mask right left axes ns s t e shape none run =
    let is = elements_assigned d mask left right axes in
    let once = sym (in_turn_is_at_once is s (all_from_reads d mask right left (positions (extents_of axes))) none) ∙ run in
    let o = bound (each (λ (i : Instance). i.effect s) is) (λ os. Ok (puts (writes_in os) s)) t once in
    (writes_in o.0, effects_are_writes d mask right left axes ns s o.0 e shape o.1, same_answer (puts (writes_in o.0) s) t o.2)

-- ---- in a run

abbrev ready : State → State
ready s = record s { way = Going }

one_later : (k n : ℕ) → k + 1 + n ≡ k + suc n
one_later k n = omega arith

no_later : (k : ℕ) → k ≡ k + 0
no_later k = omega arith

each_stored : (d : Dialect) (ws : List (Cell × Value)) (s : State) → for_each ws (stores_element d None) (ready s) ≡ record s { store = puts ws s.store; steps = s.steps + length ws; way = Going }
unfolding while_going counts_step stores
each_stored d [] s = ap (λ n. let t : State = record s { steps = n; way = Going } in t) (no_later s.steps)
each_stored d (w ∷ ws) s =
    each_stored d ws (record s { store = put w.0 w.1 s.store; steps = s.steps + 1 })
    ∙ ap (λ n. let t : State = record s { store = puts ws (put w.0 w.1 s.store); steps = n; way = Going } in t) (one_later s.steps (length ws))

assigned_ready : (d : Dialect) (line : ℕ) (mask right : Expression) (left : Reference) (s : State) (ws : List (Cell × Value)) → writes_of d mask left right s.store ≡ Ok ws
    → array_assigns d None line mask left right (ready s) ≡ record s { store = puts ws s.store; steps = s.steps + length ws; way = Going }
unfolding evaluates while_going
assigned_ready d line mask right left s ws e = rw e (each_stored d ws s)

pub array_assignment_stores : ArrayAssignmentStores
array_assignment_stores d line mask right left s ws going e =
    subst (λ (t : State). array_assigns d None line mask left right t ≡ record t { store = puts ws t.store; steps = t.steps + length ws }) (λ i. let t : State = record s { way = sym going i } in t) (assigned_ready d line mask right left s ws e)

-- at a moment that goes on
at_going : (P : State → Type 0) (s : State) → s.way ≡ Going → P (ready s) → P s
at_going P s going h = subst P (λ i. let t : State = record s { way = sym going i } in t) h

statement_ready : (d : Dialect) (line : ℕ) (mark : Option Mark) (right : Expression) (left : Reference) (s : State) (ws : List (Cell × Value)) → is_array d (named left) s.store ≡ true → writes_of d (Logic true) left right s.store ≡ Ok ws
    → does d None (Assignment line mark left right) (ready s) ≡ record s { store = puts ws s.store; steps = s.steps + 1 + length ws; way = Going }
unfolding counts_step while_going
statement_ready d line mark right left s ws a e = rw a (assigned_ready d line (Logic true) right left (record s { steps = s.steps + 1 }) ws e)

where_ready : (d : Dialect) (line : ℕ) (mark : Option Mark) (mask right : Expression) (left : Reference) (s : State) (ws : List (Cell × Value)) → d.arrays ≡ true → writes_of d mask left right s.store ≡ Ok ws
    → does d None (Where line mark mask left right) (ready s) ≡ record s { store = puts ws s.store; steps = s.steps + 1 + length ws; way = Going }
unfolding counts_step while_going
where_ready d line mark mask right left s ws a e =
    ap (λ b. either b (counts_step d None (array_assigns d None line mask left right)) nothing (ready s)) a
    ∙ assigned_ready d line mask right left (record s { steps = s.steps + 1 }) ws e

pub array_statement_stores : ArrayStatementStores
array_statement_stores d line mark right left s ws going a e =
    at_going (λ (t : State). is_array d (named left) t.store ≡ true → writes_of d (Logic true) left right t.store ≡ Ok ws → does d None (Assignment line mark left right) t ≡ record t { store = puts ws t.store; steps = t.steps + 1 + length ws }) s going
    (statement_ready d line mark right left s ws) a e

pub where_stores : WhereStores
where_stores d line mark mask right left s ws going a e =
    at_going (λ (t : State). writes_of d mask left right t.store ≡ Ok ws → does d None (Where line mark mask left right) t ≡ record t { store = puts ws t.store; steps = t.steps + 1 + length ws }) s going
    (where_ready d line mark mask right left s ws a) e
