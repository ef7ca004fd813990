-- The array form of a statement of a nest does what the statement's instances in the inner loops do.
use Rattle.std.proofs.Common.{◌≡◌, refl, sym, ap, ◌∙◌, subst, ◌⊎◌, inl, inr, ℕ, suc, ◌-◌, ◌≤◌, ℤ, pos, Bool, true}
use Rattle.std.proofs.Common.{false, cond, not, List, [], ◌∷◌, ◌++◌, map, drop, length, Ok, Option, Some, None}
use Rattle.std.proofs.Common.{Contains, ◌≢◌, append-nil, arith}
use Rattle.std.proofs.lemmas.List.{length-map}
use Rattle.tree.specs.Plain.{Declaration, Expression, Reference, Statement, statement, no_statements}
use Rattle.tree.specs.declared.ops.Fault.{Fault}
use Rattle.tree.specs.declared.ops.Kind.TheVariants.{Integer}
use Rattle.tree.specs.declared.stmts.Mark.{Mark}
use Rattle.meaning.specs.Dialect.{fortran90}
use Rattle.tree.specs.declared.width.Width.{Width}
use Rattle.meaning.specs.Run.{State, does, does_all}
use Rattle.meaning.specs.Store.{Store}
use Rattle.meaning.specs.Typed.{declared}
use Rattle.array_form.specs.forms.Following.{has_no_loop, are_moved, is_regular}
use Rattle.array_form.specs.forms.Instances.{counts_of}
use Rattle.array_form.specs.forms.Guarded.{GuardedFormStoresInstances, NameCells, is_regular_guard}
use Rattle.array_form.specs.forms.Laws.{HasTrip}
use Rattle.array_form.specs.forms.Loops as forms
use Rattle.array_form.specs.forms.Trips as trips
use Rattle.array_form.specs.forms.Statements.{FormHold, HoldCause, TriangleHold, array_form_of, has_form, hold_at}
use Rattle.array_form.specs.forms.Statements.{is_triangle, loops_assigned, loops_from, stand_in_guard, unguarded_hold}
use Rattle.array_form.specs.lone.Cells.{HaveCells}
use Rattle.array_form.proofs.forms.Tests.{HasText, form_passes}
use Rattle.meaning_laws.specs.arrays.Instances.{in_turn}
use Rattle.meaning_laws.proofs.arrays.Members.{cases_of, nowhere, of_map}
use Rattle.emission.specs.graph_orders.Nests.{run_nest}
use Rattle.array_form.proofs.forms.Holding.{unheld, unheld_safe}
use Rattle.array_form.proofs.lone.Giving.{cells_give_values}
use Rattle.array_form.proofs.lone.Instances.{guarded_instances_of_array_forms}
use Rattle.array_form.proofs.lone.Known.{numbers_are_known}
use Rattle.nest_order.specs.facts.Facts.{HasFacts, values_from}
use Rattle.nest_order.proofs.facts.Facts.{facts_suffice, small_iterations}
use Rattle.nest_order.specs.orders.Lists.{In, Each, Distinct}
use Rattle.nest_order.specs.orders.Shapes.{loops_of_shape, statements}
use Rattle.nest_order.proofs.orders.Lists.{Each-In, In-left}
use Rattle.nest_order.specs.runs.Alone.{inner_instances, inside}
use Rattle.nest_order.specs.runs.Guarded.{sequential}
use Rattle.nest_order.specs.runs.Laws.{as_instance}
use Rattle.nest_order.specs.runs.LoneForms.{IsFormOf}
use Rattle.nest_order.specs.runs.Stores.{Setting}
use Rattle.nest_order.proofs.runs.Results.{ok_same}
use Rattle.nest_order.proofs.runs.Variables.{Within-length}
use Rattle.nest_order.specs.shapes.Shapes.{loop_numbered, numbers_of}
use Rattle.nest.specs.Bodies.{nest_loops}
use Rattle.nest.specs.Plain.{Loop, Nest}
use Rattle.emission.proofs.EmissionForms.FormsCounted.{AreSmall, Stops, counted_or_none, no_instances}
use Rattle.emission.specs.emission_forms.Written.{HaveTripTexts}
use Rattle.emission.proofs.EmissionForms.FormsTurns.{IsFree, around, count_is, counted_small, formed_loop, has_trip}
use Rattle.emission.proofs.EmissionForms.FormsTurns.{limits_there, rectangular, turns_are, turns_there}
use Rattle.emission.proofs.EmissionForms.Surroundings.{variables_counted}
use Rattle.tree.specs.Widths.{bits_of}

-- ---- lists

contains_in : {X : Type 0} (xs : List X) (x : X) → Contains xs x → In x xs
contains_in [] x c = absurd (nowhere x c)
contains_in (y ∷ xs) x c = elim (cases_of y xs x c) [ inl e ↦ inl (sym e) | inr d ↦ inr (contains_in xs x d) ]

in_contains : {X : Type 0} (xs : List X) (x : X) → In x xs → Contains xs x
in_contains [] x i = absurd i
in_contains (y ∷ xs) x (inl e) = subst (λ z. Contains (y ∷ xs) z) (sym e) (Rattle.meaning_laws.proofs.arrays.Members.here y xs)
in_contains (y ∷ xs) x (inr i) = Rattle.meaning_laws.proofs.arrays.Members.there y xs x (in_contains xs x i)

behind : {X Y : Type 0} (f : X → Y) (xs ys : List X) → drop (length xs) (map f (xs ++ ys)) ≡ map f ys
behind f [] ys = refl
behind f (x ∷ xs) ys = behind f xs ys

pub no_triangle : (a : forms.FormSurroundings) (k : ℕ) (left : Reference) → unguarded_hold a k left ≡ None → is_triangle a (loops_from a k) ≡ false
no_triangle a k left h = by (has_form a (loops_from a k) left.subscripts) (is_triangle a (loops_from a k)) h
  where
    by : (b c : Bool) → ◌≡◌ {A = Option HoldCause} (cond (not b) (Some FormHold) (cond c (Some TriangleHold) None)) None → c ≡ false
    by false c e = cc
    by true true e = cc
    by true false e = refl

-- a guard in which a loop stands is one
some_guard : (loops : List forms.FormLoop) (guard : Option Expression) → stand_in_guard loops guard ≡ true → guard ≢ None
some_guard loops None h e = cc
some_guard loops (Some x) h e = cc

-- ---- a statement with loops `outs` round its inner loops `ins`

module _ (width : Width) (n : Nest) (w : Setting) (outs ins : List Loop) where
  pub inner_loops : loops_from (around n outs ins) (suc (length (numbers_of outs))) ≡ map (formed_loop n outs ins) ins
  inner_loops =
      let size : suc (length (numbers_of outs)) - 1 ≡ length outs = let e = length-map outs (λ (l : Loop). l.number) in omega arith in
      ap (λ m. drop m (around n outs ins).loops) size ∙ behind (formed_loop n outs ins) outs ins

  some_loops : (ls : List Loop) → 1 ≤ length ls → has_no_loop (map (formed_loop n outs ins) ls) ≡ false
  some_loops [] h = absurd (omega arith)
  some_loops (l ∷ ls) h = refl

  -- what stands of the statement s in the tables
  pub record IsThere (s : ℕ) : Type 0 where
    pub in_nest : In s (statements (run_nest n).shape)
    pub fits : (run_nest n).loops_of s ≡ numbers_of outs ++ numbers_of ins
    pub few : length (outs ++ ins) ≤ 7
    pub distinct : trips.AreDistinct (forms.form_names_of (around n outs ins))
    pub free : Each (IsFree n outs ins) ins
    pub texts : HaveTripTexts n.symbols (map (run_nest n).variable_at (numbers_of outs)) ins
    pub numbered : (l : Loop) → In l ins → loop_numbered (nest_loops n) l.number ≡ Some l
    pub variables : map (run_nest n).variable_at (numbers_of outs ++ numbers_of ins) ≡ map (λ (l : Loop). l.variable) (outs ++ ins)
    pub once : Distinct (numbers_of outs ++ numbers_of ins)
    pub known : (m : ℕ) → In m (numbers_of outs ++ numbers_of ins) → In m (loops_of_shape (run_nest n).shape)
    pub declares : (l : ℕ) → In l (numbers_of ins) → (d : Declaration) × (declared w.program.declarations ((run_nest n).variable_at l) ≡ Some d) × (d.kind ≡ Integer)

  names_inside : (s : ℕ) → IsThere s → forms.form_variables_of (loops_from (around n outs ins) (suc (length (numbers_of outs)))) ≡ map (run_nest n).variable_at (numbers_of ins)
  names_inside s there =
      let size = length-map outs (λ (l : Loop). l.number) in
      let names : map (run_nest n).variable_at (numbers_of ins) ≡ map (λ (l : Loop). l.variable) ins =
      sym (dropped (run_nest n).variable_at (numbers_of outs) (numbers_of ins)) ∙ (ap (drop (length (numbers_of outs))) there.variables ∙ (ap (λ m. drop m (map (λ (l : Loop). l.variable) (outs ++ ins))) size ∙ behind (λ (l : Loop). l.variable) outs ins)) in
      ap forms.form_variables_of inner_loops ∙ (variables_counted (length (outs ++ ins)) ins ∙ sym names)
    where
      dropped : (f : ℕ → List ℕ) (xs ys : List ℕ) → drop (length xs) (map f (xs ++ ys)) ≡ map f ys
      dropped f xs ys = behind f xs ys

  module _ (facts : HasFacts (bits_of width) (run_nest n) w) (stores : GuardedFormStoresInstances width) (s : ℕ) (there : IsThere s) (some : 1 ≤ length ins) (line : ℕ) (mark : Option Mark) (c : Statement) (safe : Bool)
      (cells : ((run_nest n).statement_at s).guard ≢ None → safe ≡ true → HaveCells (run_nest n) w s) where
    abbrev guard : Option Expression
    guard = ((run_nest n).statement_at s).guard

    abbrev left : Reference
    left = ((run_nest n).statement_at s).left

    abbrev right : Expression
    right = ((run_nest n).statement_at s).right

    abbrev level : ℕ
    level = suc (length (numbers_of outs))

    pub composed : hold_at (around n outs ins) level guard left safe ≡ None → are_moved (around n outs ins) (loops_assigned (around n outs ins) level left) left.subscripts ≡ true
        → is_regular_guard (around n outs ins) (loops_assigned (around n outs ins) level left) guard ≡ true → is_regular (around n outs ins) (loops_assigned (around n outs ins) level left) right ≡ true
        → array_form_of (around n outs ins) level line mark guard left right ≡ statement c no_statements → IsFormOf (bits_of width) true (run_nest n) w (numbers_of outs) (numbers_of ins) s c
    composed hold moved regular_guard regular form before t u within counted holds at way none apart run =
        let r = run_nest n in
        let a = around n outs ins in
        let outer = numbers_of outs in
        let inner = numbers_of ins in
        let few : length a.loops ≤ 7 = let e = length-map (outs ++ ins) (formed_loop n outs ins) in let f = there.few in omega arith in
        let numbers = numbers_are_known width r w s a outer inner before t.store facts there.in_nest there.fits variables_there refl few there.distinct there.declares within holds at in
        let as_many : length before ≡ length outs = let e = Within-length (r.turns_of w.values) [] outer before within in let f = length-map outs (λ (l : Loop). l.number) in omega arith in
        let as_many_inner : length numbers.0 ≡ length ins = let e = numbers.1 in let f = length-map ins (λ (l : Loop). l.number) in omega arith in
        let small = small_iterations (bits_of width) r w facts outer before [] (λ m i. there.known m (In-left m outer inner i)) within in
        finish before t u within holds at way none run numbers.0 as_many as_many_inner numbers.2
        (counted_or_none width n w facts outs ins before as_many s ins outer before [] t.store (sym (append-nil before)) there.free there.texts there.numbered there.once there.known small holds at counted)
      where
        variables_there : forms.form_variables_of (around n outs ins).loops ≡ map (run_nest n).variable_at (numbers_of outs ++ numbers_of ins)
        variables_there = variables_counted (length (outs ++ ins)) (outs ++ ins) ∙ sym there.variables

        no_hold : unguarded_hold (around n outs ins) level left ≡ None
        no_hold = unheld (around n outs ins) level guard left safe hold

        ends : (t : State) (u : Store) (m : ℕ) → t.way ≡ Rattle.meaning.specs.Run.Going → does_all (fortran90 width) None (array_form_of (around n outs ins) level line mark guard left right) t ≡ record t { store = u; steps = m }
            → ((does (fortran90 width) None c t).way ≡ Rattle.meaning.specs.Run.Going) × ((does (fortran90 width) None c t).store ≡ u)
        ends t u m way e =
            let is = sym (ap (λ b. does_all (fortran90 width) None b t) form) ∙ e in
            (ap (λ (z : State). z.way) is ∙ way, ap (λ (z : State). z.store) is)

        finish : (before : List ℕ) (t : State) (u : Store) → Rattle.nest_order.specs.orders.Shapes.Within ((run_nest n).turns_of w.values) [] (numbers_of outs) before
            → Rattle.nest_order.specs.runs.Stores.HoldsNest (bits_of width) (run_nest n) w t.store → Rattle.nest_order.specs.runs.Nests.AreAt (run_nest n) (numbers_of outs) before t.store → t.way ≡ Rattle.meaning.specs.Run.Going
            → Rattle.meaning_laws.specs.arrays.Instances.NoneReadsWritten [] (inner_instances (bits_of width) (run_nest n) w before (numbers_of ins) s) t.store
            → in_turn (inner_instances (bits_of width) (run_nest n) w before (numbers_of ins) s) t.store ≡ Ok u
            → (zs : List ℤ) (as_many : length before ≡ length outs) (as_many_inner : length zs ≡ length ins)
            → Rattle.array_form.specs.forms.Laws.AreKnown (around n outs ins) t.store (map pos before ++ (zs ++ values_from w.values 0 n.symbols))
            → AreSmall width n w facts outs ins before as_many s ins ⊎ Stops width n w facts outs ins before as_many s ins
            → ((does (fortran90 width) None c t).way ≡ Rattle.meaning.specs.Run.Going) × ((does (fortran90 width) None c t).store ≡ u)
        finish before t u within holds at way none run zs as_many as_many_inner known (inl small) =
            let r = run_nest n in
            let a = around n outs ins in
            let xs : List ℤ = map pos before ++ (zs ++ values_from w.values 0 n.symbols) in
            let trips : (l : forms.FormLoop) → Contains (loops_from a level) l → HasTrip a xs l = λ l d.
            let o = of_map (formed_loop n outs ins) ins l (subst (λ ls. Contains ls l) inner_loops d) in
            let i = contains_in ins o.0 o.1 in
            subst (HasTrip a xs) o.2 (has_trip n outs ins w.values before as_many zs as_many_inner there.few o.0 (Each-In (IsFree n outs ins) ins there.free o.0 i) (small o.0 i)) in
            let rows = rectangular n outs ins w.values before as_many zs as_many_inner there.few ins there.free there.numbered small [] in
            let square = subst (λ js. Rattle.array_form.specs.lone.Instances.AreRectangular (r.turns_of w.values) (numbers_of ins) js (counts_of xs (loops_from a level))) (append-nil before)
            (subst (λ ls. Rattle.array_form.specs.lone.Instances.AreRectangular (r.turns_of w.values) (numbers_of ins) (before ++ []) (counts_of xs ls)) (sym inner_loops) rows) in
            let both = guarded_instances_of_array_forms width r w s (numbers_of outs) (numbers_of ins) before (loops_from a level) (counts_of xs (loops_from a level)) t.store u (facts_suffice (bits_of width) r w facts) there.in_nest there.fits
            (names_inside s there) square within holds at none run in
            let named : stand_in_guard (loops_from a level) guard ≡ true → NameCells (fortran90 width) xs (loops_assigned a level left) left right t.store
            = λ e. cells_give_values width r w s a (numbers_of outs) (numbers_of ins) before xs t.store facts there.in_nest there.fits variables_there there.distinct no_hold square within holds at
            (cells (some_guard (loops_from a level) guard e) (unheld_safe a level guard left safe hold e)) in
            let stored = stores a level line mark guard left right t u xs way known trips (ap has_no_loop inner_loops ∙ some_loops ins some) no_hold moved regular_guard regular named both.0 both.1 in
            ends t u stored.0 way stored.1
        finish before t u within holds at way none run zs as_many as_many_inner known (inr stops) =
            let r = run_nest n in
            let a = around n outs ins in
            let xs : List ℤ = map pos before ++ (zs ++ values_from w.values 0 n.symbols) in
            let texts : (l : forms.FormLoop) → Contains (loops_from a level) l → HasText a l = λ l d.
            let o = of_map (formed_loop n outs ins) ins l (subst (λ ls. Contains ls l) inner_loops d) in
            subst (HasText a) o.2 (limits_there n outs ins w.values before as_many zs as_many_inner there.few o.0 (Each-In (IsFree n outs ins) ins there.free o.0 (contains_in ins o.0 o.1))) in
            let own = Each-In (IsFree n outs ins) ins there.free stops.loop stops.among in
            let still = count_is n outs ins w.values before as_many zs as_many_inner there.few stops.loop own ∙ stops.none in
            let member : Contains (loops_from a level) (formed_loop n outs ins stops.loop)
            = subst (λ ls. Contains ls (formed_loop n outs ins stops.loop)) (sym inner_loops) (Rattle.meaning_laws.proofs.arrays.Members.in_map (formed_loop n outs ins) ins stops.loop (in_contains ins stops.loop stops.among)) in
            let passes = form_passes (fortran90 width) a level line mark guard left right t xs way known texts (formed_loop n outs ins stops.loop) member still in
            let nowhere' = no_instances (r.turns_of w.values) (numbers_of ins) before s stops.loop.number (Rattle.nest_order.proofs.orders.Membership.map-In (λ (l : Loop). l.number) stops.loop ins stops.among)
            (λ is. turns_are n outs ins w.values before as_many stops.loop own (there.numbered stops.loop stops.among) is ∙ (counted_small (turns_there n outs ins w.values before as_many stops.loop) (let e = stops.none in omega arith) ∙ stops.none)) in
            let same : t.store ≡ u = ok_same {F = Fault} t.store u (ap (λ is. in_turn (map (as_instance r (sequential (bits_of width))) (map (inside before) is)) t.store) (sym nowhere') ∙ run) in
            let e = ends t t.store passes.0 way passes.1 in
            (e.0, e.1 ∙ same)
