-- The forms in an emission stand for one statement each, and do what its instances do.
use Rattle.std.proofs.Common.{◌≡◌, refl, sym, ap, ◌∙◌, subst, inl, inr, ℕ, suc, ◌+◌, ◌<◌, ◌≤◌, Bool, true, false, not}
use Rattle.std.proofs.Common.{List, [], ◌∷◌, ◌++◌, map, length, Option, Some, None, ◌≢◌, arith}
use Rattle.std.proofs.lemmas.List.{length-append, length-map}
use Rattle.array_form.specs.forms.Following.{are_moved, is_regular}
use Rattle.array_form.specs.forms.Guarded.{GuardedFormStoresInstances, is_regular_guard}
use Rattle.array_form.specs.forms.Loops as forms
use Rattle.array_form.specs.forms.Trips as trips
use Rattle.array_form.specs.forms.Statements.{array_form_of, hold_at, is_triangle, loops_assigned}
use Rattle.dependence_graph.specs.declared.graphs.Graph.{Graph}
use Rattle.dependence_graph.specs.declared.graphs.Hold.{Hold}
use Rattle.emission.specs.emission_pieces.Levels.{is_held, is_recurrent, may_be_formed}
use Rattle.emission.specs.emission_pieces.Nests.{loops_at, standing_at}
use Rattle.emission.specs.emission_pieces.Pieces.{formed_block, mark_of}
use Rattle.emission.specs.emission_pieces.Shapes.{numbers_at}
use Rattle.emission.proofs.EmissionPieces.Lists.{both_true}
use Rattle.tree.specs.Plain.{Expression, Reference, Statement, statement, no_statements}
use Rattle.emission.specs.graph_orders.Arcs.{arcs_of}
use Rattle.emission.specs.graph_orders.Laws.{ArcsAreEdges}
use Rattle.emission.specs.graph_orders.Nests.{linear_in, run_nest, turns_in}
use Rattle.nest_order.specs.facts.Facts.{HasFacts}
use Rattle.dependence_graph.specs.nest_graph.Graph.{IsGraphOf}
use Rattle.dependence_graph.specs.nest_graph.Ready.{HaveTrips, IsReady}
use Rattle.nest_order.specs.orders.Lists.{In, Distinct}
use Rattle.nest_order.specs.orders.Shapes.{loops_of_shape}
use Rattle.nest_order.proofs.orders.Lists.{In-left, In-right}
use Rattle.nest_order.specs.runs.Guarded as runs
use Rattle.nest_order.specs.runs.LoneForms.{AreLoneForms, IsFormOf}
use Rattle.nest_order.specs.runs.Stores.{Setting}
use Rattle.nest_order.specs.shapes.Shapes.{IsPlain, loop_numbered, numbers_of}
use Rattle.nest.specs.Bodies.{nest_loops, nest_statements}
use Rattle.nest.specs.Plain.{Loop, Nest}
use Rattle.array_form.specs.holds.Bounds.{is_safe}
use Rattle.array_form.specs.holds.Statements.{no_statement}
use Rattle.array_form.specs.holds.Surroundings.{surroundings_of}
use Rattle.emission.specs.emission_forms.Forms.{AreAllHolds, AreRegular, IsLevelOf, formed, hold_there}
use Rattle.emission.proofs.EmissionForms.FormsComposed.{IsThere, composed, inner_loops, no_triangle}
use Rattle.array_form.proofs.forms.Holding.{unheld}
use Rattle.array_form.proofs.forms.Guarding.{guarded_form_stores_instances}
use Rattle.array_form.proofs.lone.Safe.{safe_statements_have_cells}
use Rattle.array_form.specs.lone.Cells.{HaveCells, UnguardedNameCells}
use Rattle.emission.proofs.GraphOrders.Edges.{arcs_are_edges}
use Rattle.emission.specs.emission_forms.Laws.{FormsAreLone}
use Rattle.emission.specs.emission_forms.Written.{HasFormFacts, HaveGuardedNames, HaveTripTexts}
use Rattle.emission.proofs.EmissionForms.ConstantTrips.{constant_trips}
use Rattle.emission.proofs.EmissionForms.FormsShapes.{formed_is}
use Rattle.emission.proofs.EmissionForms.FormsTurns.{HaveKnown, all_free, around, formed_loop, have_known, map-append}
use Rattle.emission.proofs.EmissionForms.FormsTurns.{texts_behind, trips_behind}
use Rattle.emission.proofs.EmissionForms.OwnEdges.{no_own_edge}
use Rattle.emission.proofs.EmissionForms.Surroundings.{guarded_there, in_nest, known_loop, loops_known}
use Rattle.emission.proofs.EmissionForms.Surroundings.{loops_there, names_distinct, nth_is, statements_stand, variables_numbered}
use Rattle.tree.specs.Widths.{bits_of}
use Rattle.tree.specs.declared.width.Width.{Width}

-- ---- the outer loops and the inner ones

pub record Split (ls : List Loop) (outer inner : List ℕ) : Type 0 where
  pub outs : List Loop
  pub ins : List Loop
  pub is : ls ≡ outs ++ ins
  pub outer_is : numbers_of outs ≡ outer
  pub inner_is : numbers_of ins ≡ inner

both_same : (x y : ℕ) (xs ys : List ℕ) → x ∷ xs ≡ y ∷ ys → (x ≡ y) × (xs ≡ ys)
both_same x y xs ys e = (cc, cc)

split : (ls : List Loop) (outer inner : List ℕ) → numbers_of ls ≡ outer ++ inner → Split ls outer inner
split ls [] inner e = record { outs = []; ins = ls; is = refl; outer_is = refl; inner_is = e }
split [] (k ∷ outer) inner e = cc
split (l ∷ ls) (k ∷ outer) inner e =
    let p = both_same l.number k (numbers_of ls) (outer ++ inner) e in
    let more = split ls outer inner p.1 in
    record {
      outs = l ∷ more.outs;
      ins = more.ins;
      is = ap (λ ms. l ∷ ms) more.is;
      outer_is = ap (λ ks. l.number ∷ ks) more.outer_is ∙ ap (λ m. m ∷ outer) p.0;
      inner_is = more.inner_is;
    }

not_both : (b : Bool) → b ≡ true → not b ≡ true → ⊥
not_both b p q = cc

-- ---- a statement

module _ (width : Width) (stores : GuardedFormStoresInstances width) (n : Nest) (g : Graph) (holds : List Hold) (w : Setting) (plain : IsPlain n.body) (ready : IsReady n) (regular : AreRegular n) (all : AreAllHolds n holds)
    (facts : HasFacts (bits_of width) (run_nest n) w) (given : HasFormFacts n w) (guarded : HaveGuardedNames n w) (named : UnguardedNameCells (run_nest n) w) where
  module _ (s : ℕ) (within : s < length (nest_statements n)) (outs ins : List Loop) (is : loops_at n s ≡ outs ++ ins) (some : 1 ≤ length ins) where
    abbrev level : ℕ
    level = suc (length (numbers_of outs))

    abbrev own_left : Reference
    own_left = (standing_at n s).statement.left

    abbrev own_right : Expression
    own_right = (standing_at n s).statement.right

    abbrev own_guard : Option Expression
    own_guard = (standing_at n s).statement.guard

    abbrev safe : Bool
    safe = is_safe n (standing_at n s)

    same : ◌≡◌ {A = runs.GuardedAssignment} (record { guard = own_guard; left = own_left; right = own_right }) ((run_nest n).statement_at s)
    same = sym (guarded_there n plain ready s within)

    left_is : own_left ≡ ((run_nest n).statement_at s).left
    left_is = ap (λ (x : runs.GuardedAssignment). x.left) same

    at_level : IsLevelOf n level s
    at_level =
        let a = ap (λ (ls : List Loop). length ls) is in
        let b = length-append outs ins in
        let c = length-map outs (λ (l : Loop). l.number) in
        (within, omega arith, omega arith)

    none_listed : may_be_formed g.edges holds level s ≡ true → hold_there n level s ≡ None
    none_listed may =
        elim (all level s at_level) [ inl h ↦ h | inr held ↦ absurd (not_both (is_held holds level s) held (both_true (not (is_recurrent g.edges level s)) (not (is_held holds level s)) may).1) ]

    no_hold : may_be_formed g.edges holds level s ≡ true → hold_at (around n outs ins) level own_guard own_left safe ≡ None
    no_hold may = subst (λ ls. hold_at (surroundings_of n ls) level own_guard own_left safe ≡ None) is (none_listed may)

    numbers_are : numbers_at n s ≡ numbers_of outs ++ numbers_of ins
    numbers_are = ap numbers_of is ∙ map-append (λ (l : Loop). l.number) outs ins

    known_there : (l : Loop) → In l (outs ++ ins) → loop_numbered (nest_loops n) l.number ≡ Some l
    known_there l i = known_loop n plain ready s within l (subst (In l) (sym is) i)

    texts : HaveTripTexts n.symbols (map (λ (l : Loop). l.variable) outs) ins
    texts = texts_behind n.symbols [] outs ins (subst (HaveTripTexts n.symbols []) is (given.trips s within))

    known_trips : HaveKnown n.symbols (length outs + 0) ins
    known_trips =
        let size = length-map outs (λ (l : Loop). l.variable) in
        let trips = trips_behind 0 outs ins (subst (HaveTrips 0) is (ready.statements s no_statement within).trips) in
        let inner : HaveTrips (length (map (λ (l : Loop). l.variable) outs)) ins = subst (λ d. HaveTrips d ins) (let e : 0 + length outs ≡ length (map (λ (l : Loop). l.variable) outs) = omega arith in e) trips in
        subst (λ d. HaveKnown n.symbols d ins) (let e : length (map (λ (l : Loop). l.variable) outs) ≡ length outs + 0 = omega arith in e) (have_known n.symbols (map (λ (l : Loop). l.variable) outs) ins inner texts)

    loops_once : Distinct (numbers_of outs ++ numbers_of ins) × ((m : ℕ) → In m (numbers_of outs ++ numbers_of ins) → In m (loops_of_shape (run_nest n).shape))
    loops_once = subst (λ ks. Distinct ks × ((m : ℕ) → In m ks → In m (loops_of_shape (run_nest n).shape))) numbers_are (loops_known n plain ready s within facts.text)

    there : may_be_formed g.edges holds level s ≡ true → IsThere width n w outs ins s
    there may =
        let few : length (outs ++ ins) ≤ 7 = subst (λ (ls : List Loop). length ls ≤ 7) is (ready.statements s no_statement within).depth in
        let distinct = subst (λ ls. trips.AreDistinct (forms.form_names_of (surroundings_of n ls))) is (names_distinct n plain ready s within facts.text given.symbols) in
        let square : is_triangle (around n outs ins) (map (formed_loop n outs ins) ins) ≡ false
        = subst (λ ls. is_triangle (around n outs ins) ls ≡ false) (inner_loops width n w outs ins) (no_triangle (around n outs ins) level own_left (unheld (around n outs ins) level own_guard own_left safe (no_hold may))) in
        record {
          in_nest = in_nest n plain ready s within;
          fits = loops_there n plain ready s within ∙ numbers_are;
          few = few;
          distinct = distinct;
          free = all_free n outs ins few distinct square [] ins refl known_trips;
          texts = subst (λ xs. HaveTripTexts n.symbols xs ins) (sym (variables_numbered n outs (λ l i. known_there l (In-left l outs ins i)))) texts;
          numbered = λ l i. known_there l (In-right l outs ins i);
          variables = ap (map (run_nest n).variable_at) (sym (map-append (λ (l : Loop). l.number) outs ins)) ∙ variables_numbered n (outs ++ ins) known_there;
          once = loops_once.0;
          known = loops_once.1;
          declares = λ l i. given.variables l (loops_once.1 l (In-right l (numbers_of outs) (numbers_of ins) i));
        }

    -- where the statement has a guard, its references name cells if it is safe
    has_guard : ((run_nest n).statement_at s).guard ≢ None → own_guard ≢ None
    has_guard there_is none = there_is (sym (ap (λ (x : runs.GuardedAssignment). x.guard) same) ∙ none)

    all_known : HaveKnown n.symbols 0 (loops_at n s)
    all_known = have_known n.symbols [] (loops_at n s) (ready.statements s no_statement within).trips (given.trips s within)

    cells : own_guard ≢ None → safe ≡ true → HaveCells (run_nest n) w s
    cells there_is h =
        let own = guarded s within there_is in
        safe_statements_have_cells width n (linear_in n) (turns_in n) w s (standing_at n s) (statements_stand n plain ready) facts (nth_is (nest_statements n) s no_statement within)
        own.declared (constant_trips n plain ready s within all_known w.values) named own.made h

    -- the left side moves, and guard and right side are regular, with these loops
    abbrev IsRegularIn : List Loop → runs.GuardedAssignment → Type 0
    IsRegularIn ls x =
        (are_moved (surroundings_of n ls) (loops_assigned (surroundings_of n ls) level x.left) x.left.subscripts ≡ true)
        × (is_regular_guard (surroundings_of n ls) (loops_assigned (surroundings_of n ls) level x.left) x.guard ≡ true)
        × (is_regular (surroundings_of n ls) (loops_assigned (surroundings_of n ls) level x.left) x.right ≡ true)

    abbrev IsForm : Statement → List Loop → runs.GuardedAssignment → Type 0
    IsForm c ls x =
        array_form_of (surroundings_of n ls) level (standing_at n s).statement.line (Some (mark_of n s level)) x.guard x.left x.right ≡ statement c no_statements

    abbrev IsUnheld : runs.GuardedAssignment → Type 0
    IsUnheld x = hold_at (around n outs ins) level x.guard x.left safe ≡ None

    form_is : (c : Statement) → may_be_formed g.edges holds level s ≡ true → formed_block n level s ≡ statement c no_statements → IsFormOf (bits_of width) true (run_nest n) w (numbers_of outs) (numbers_of ins) s c
    form_is c may form =
        let rest = regular level s at_level (none_listed may) in
        let x : runs.GuardedAssignment = record { guard = own_guard; left = own_left; right = own_right } in
        let moves = subst (IsRegularIn (outs ++ ins)) same (subst (λ ls. IsRegularIn ls x) is (rest.left, rest.guard, rest.right)) in
        composed width n w outs ins facts stores s (there may) some (standing_at n s).statement.line (Some (mark_of n s level)) c safe (λ there_is. cells (has_guard there_is))
        (subst IsUnheld same (no_hold may)) moves.0 moves.1 moves.2
        (subst (IsForm c (outs ++ ins)) same (subst (λ ls. IsForm c ls x) is form))

  -- ---- all forms

  pub lone_forms : ArcsAreEdges → IsGraphOf n g → AreLoneForms (bits_of width) true (run_nest n) w (arcs_of g.edges) (formed n g.edges holds)
  lone_forms arcs graph outer t c e =
      let f = formed_is n g.edges holds outer t c e in
      let parts = split (loops_at n f.number) outer f.inner f.loops in
      let some : 1 ≤ length parts.ins = let a = ap (λ (ks : List ℕ). length ks) parts.inner_is in let b = length-map parts.ins (λ (l : Loop). l.number) in let h = f.some in omega arith in (
        f.number,
        f.inner,
        f.is_chain,
        no_own_edge n g holds (length outer) f.number graph (arcs n g ready graph) f.may,
        subst (λ ks. IsFormOf (bits_of width) true (run_nest n) w outer ks f.number c) parts.inner_is
            (subst (λ ks. IsFormOf (bits_of width) true (run_nest n) w ks (numbers_of parts.ins) f.number c) parts.outer_is
            (form_is f.number f.within parts.outs parts.ins parts.is some c
            (subst (λ (ks : List ℕ). may_be_formed g.edges holds (suc (length ks)) f.number ≡ true) (sym parts.outer_is) f.may)
            (subst (λ (ks : List ℕ). formed_block n (suc (length ks)) f.number ≡ statement c no_statements) (sym parts.outer_is) f.form))),
      )

pub forms_are_lone : (width : Width) → FormsAreLone width
forms_are_lone width n g holds w plain ready regular graph all facts given guarded named =
    lone_forms width (guarded_form_stores_instances width) n g holds w plain ready regular all facts given guarded named arcs_are_edges graph
