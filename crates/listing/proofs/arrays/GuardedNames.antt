-- Each reference of a nest whose loops have moved to what was made for private scalars names a cell, whatever the guard
-- of its statement is.
use Rattle.std.proofs.Common.{◌≡◌, ◌⊎◌, inl, inr, refl, sym, ap, ap₂, ◌∙◌, subst, ℕ, zero, suc, ◌+◌, ◌<◌, ◌≤◌, ℤ, pos, Bool, true, List, []}
use Rattle.std.proofs.Common.{◌∷◌, ◌++◌, map, reverse, length, get_or, Option, Some, None, arith}
use Rattle.std.specs.Option.{option_map}
use Rattle.std.specs.Prelude.{unwrap_or}
use Rattle.array_form.specs.holds.Bounds.{is_made}
use Rattle.array_form.specs.holds.Statements.{no_statement}
use Rattle.array_form.specs.lone.Cells.{AreLinear, HasCells}
use Rattle.prepared_passes.proofs.ArrangedNests.Again.{arranged_nest_is_prepared}
use Rattle.prepared_passes.proofs.ArrangedNests.MovedChains.{IsMovedChain, moved_chain, moved_is}
use Rattle.prepared_passes.proofs.ArrangedNests.Names.{found_in}
use Rattle.prepared_passes.proofs.ArrangedNests.Shapes.{standing_under}
use Rattle.emission.proofs.EmissionForms.Surroundings.{statements_stand}
use Rattle.emission.specs.emission_forms.Written.{HasGuardedNames, HaveGuardedNames}
use Rattle.emission.specs.emission_pieces.Nests.{standing_at}
use Rattle.emission.specs.graph_orders.Nests.{run_nest, turns_in}
use Rattle.prepared_passes.proofs.ExpandedNests.Guarded.{expanded_nest_has_guarded_names}
use Rattle.prepared_passes.proofs.ExpandedNests.Rounds.{each_here, linear_variable}
use Rattle.prepared_passes.proofs.ExpandedNests.Variables.{Here, Pairs, are_linear, has_each}
use Rattle.prepared_passes.specs.expansion.Left.{references_touched}
use Rattle.prepared_passes.proofs.SplitNests.Elements.{split_nest_has_elements}
use Rattle.prepared_passes.proofs.SplitNests.Guarded.{split_nest_has_guarded_names}
use Rattle.prepared_passes.proofs.SplitNests.Prepared.{split_nest_is_prepared}
use Rattle.prepared_passes.specs.expansion.Places.{IsExpandedInPlaces}
use Rattle.prepared_passes.specs.expansion.Prepared.{extent_depth}
use Rattle.prepared_passes.specs.splitting.Elements.{HasElements}
use Rattle.prepared_passes.specs.splitting.Laws.{split_rise}
use Rattle.prepared_passes.specs.splitting.Splits.{MayBeSplit, nodes_split}
use Rattle.meaning.specs.Profile90.{AreDeclarations}
use Rattle.dependence_graph.specs.declared.graphs.Place.{Place}
use Rattle.node_splitting.specs.Split.{with_nodes_split}
use Rattle.interchange.specs.Arranged.{arranged, with_moved_loops}
use Rattle.last_values.specs.normal_forms.NormalLoops.{counter_name}
use Rattle.linear_forms.specs.Laws.{HoldsSized}
use Rattle.meaning.specs.Run.{State}
use Rattle.nest.specs.Bodies.{Standing, nest_loops, nest_statements}
use Rattle.nest.specs.Plain.{Loop, Made, Nest}
use Rattle.nest_order.proofs.orders.Lists.{In-append}
use Rattle.nest_order.proofs.orders.Membership.{In-map, map-In}
use Rattle.nest_order.specs.orders.Lists.{Distinct, In}
use Rattle.nest_order.specs.orders.Nests.{IsInstance}
use Rattle.nest_order.specs.orders.Shapes.{Instance, Within}
use Rattle.nest_order.specs.runs.Cells.{NamesCell}
use Rattle.nest_order.specs.runs.Guarded as runs
use Rattle.nest_order.specs.runs.Stores.{Setting}
use Rattle.nest_order.specs.runs.Touched.{IsPlainAssignment, MayHaveEach, nth_of, references_read}
use Rattle.nest_order.specs.shapes.Shapes.{guarded_of, loops_round as rounds_of, numbers_of}
use Rattle.nest_rewrite.specs.Statements.{rewritten_statement}
use Rattle.pass_laws.proofs.NormalFacts.Tables.{all_in}
use Rattle.pass_laws.proofs.PreparedNests.Lists.{distinct_too}
use Rattle.pass_laws.proofs.PreparedNests.Ready.{prepared_nest_is_ready}
use Rattle.pass_laws.specs.prepared_nests.Loops.{IsPreparedLoop, variables_of_loops}
use Rattle.pass_laws.specs.prepared_nests.Made.{IsPreparedMade}
use Rattle.pass_laws.specs.prepared_nests.Nests.{IsPrepared, IsPreparedSymbol}
use Rattle.pass_laws.specs.prepared_nests.Statements.{IsPreparedStatement, assignment}
use Rattle.pass_laws.specs.prepared_runs.Running.{MayRun, setting_at}
use Rattle.rewrite.specs.Making.{made, made_subscripts}
use Rattle.scalar_expand.specs.Expanded.{expanded}
use Rattle.scalar_expand.specs.declared.privates.RoundLoop.{RoundLoop}
use Rattle.subscripts.specs.declared.affine.Dirs.{Dirs}
use Rattle.tree.specs.Plain.{Declaration, Program, Reference, Subscripts}
use Rattle.listing.proofs.arrays.Counted.{names_counted, nothing_deeper, prepared_counted}
use Rattle.listing.proofs.arrays.Elements.{IsElementIn, by_loops, expanded_nest_has_elements, made_named}
use Rattle.listing.proofs.arrays.Iterations.{AreBefore, HaveBoth, are_before, both, of_loops, one_each}
use Rattle.listing.proofs.arrays.Moved.{IsInBoth, in_both, loops_made, making, nest_is, new, old, old_loops, there}
use Rattle.listing.proofs.arrays.Moved.{variables_made}
use Rattle.listing.proofs.arrays.References.{ComesFrom, of_statement, subscripts_stay}
use Rattle.listing.specs.arrays.Laws.{ArrangedNestHasGuardedNames}
use Rattle.listing.specs.programs.Stages.{with_copies_before}
use Rattle.tree.specs.declared.width.Width.{Width}

-- ---- lists

nth_in : (xs : List Standing) (s : ℕ) (x : Standing) → nth_of xs s ≡ Some x → In x xs
nth_in [] s x e = let no : ⊥ = cc in absurd no
nth_in (y ∷ xs) zero x e = let same : y ≡ x = cc in inl (sym same)
nth_in (y ∷ xs) (suc s) x e = inr (nth_in xs s x e)

at_place : (xs : List Standing) (s : ℕ) (x d : Standing) → nth_of xs s ≡ Some x
    → (s < length xs) × (get_or xs s d ≡ x)
at_place [] s x d e = let no : ⊥ = cc in absurd no
at_place (y ∷ xs) zero x d e = (omega arith, cc)
at_place (y ∷ xs) (suc s) x d e = let r = at_place xs s x d e in let less = r.0 in (omega (arith, less), r.1)

-- ---- what passes made has no name of a loop or a symbol

module _ (es : List Declaration) (around : List (List ℕ)) (deepest : ℕ) (n : Nest) (h : IsPrepared es around deepest n) where
  made_is : (c : Made) → In c n.made → IsPreparedMade es n.symbols deepest c
  made_is c i = all_in (IsPreparedMade es n.symbols deepest) n.made h.parts.made c i

  counter_is : (l : Loop) → In l (nest_loops n) → l.variable ≡ counter_name l.number
  counter_is l i = (found_in (IsPreparedLoop es n.symbols) l [] n.body h.plain h.parts.loops i).1.variable

  no_variable : (c : Made) → In c n.made → (ls : List Loop) → ((l : Loop) → In l ls → In l (nest_loops n))
      → ¬ In c.name (variables_of_loops ls)
  no_variable c i ls f j =
      let o = In-map (λ (l : Loop). l.variable) c.name ls j in
      (made_is c i).counter o.it.number (o.is ∙ counter_is o.it (f o.it o.inside))

  no_symbol : (c : Made) → In c n.made → ¬ In c.name n.symbols
  no_symbol c i j =
      (made_is c i).made (all_in (IsPreparedSymbol es) n.symbols h.parts.symbols c.name j).name

  made_apart : (ls : List Loop) → ((l : Loop) → In l ls → In l (nest_loops n)) → (y : List ℕ) → is_made n y ≡ true
      → ¬ In y (variables_of_loops ls ++ n.symbols)
  made_apart ls f y e i =
      let c = made_named n.made y e in
      by c.0 c.1 c.2 (In-append y (variables_of_loops ls) n.symbols i)
    where
      by : (c : Made) → In c n.made → c.name ≡ y → In y (variables_of_loops ls) ⊎ In y n.symbols → ⊥
      by c k same (inl j) = no_variable c k ls f (subst (λ z. In z (variables_of_loops ls)) (sym same) j)
      by c k same (inr j) = no_symbol c k (subst (λ z. In z n.symbols) (sym same) j)

-- ---- a nest whose loops have moved

module _ (width : Width) (a : Program) (around : List (List ℕ)) (deeper : ℕ) (nest : Nest) (are : AreDeclarations a.declarations)
    (behind : IsPrepared a.declarations around deeper nest) (elements : HasElements nest) (u : State)
    (names_before : (h : MayRun width a nest u) → HaveGuardedNames nest (setting_at width h)) (k : Nest) (c : IsMovedChain nest k)
    (g : IsPrepared a.declarations around (deeper + 18) (there nest k c)) (may : MayRun width a (there nest k c) u) where
  -- before a loop moved it might be run there, too
  abbrev may_before : MayRun width a nest u
  may_before = record {
    going = may.going;
    holds = may.holds;
    values = may.values;
    valued = may.valued;
    made = may.made;
  }

  abbrev w : Setting
  w = setting_at width may

  once : Distinct (numbers_of (nest_loops nest))
  once = distinct_too (numbers_of (nest_loops nest)) behind.parts.once

  once_there : Distinct (numbers_of (nest_loops (there nest k c)))
  once_there = distinct_too (numbers_of (nest_loops (there nest k c))) g.parts.once

  module _ (s : ℕ) (q : IsInBoth nest k c s) where
    abbrev was : Standing
    was = standing_under (old nest k c) q.guarded

    abbrev is : Standing
    is = standing_under (loops_made (making nest k c) (new nest k c)) (rewritten_statement (making nest k c) q.guarded)

    was_in : In was (nest_statements nest)
    was_in = nth_in (nest_statements nest) s was q.was

    is_in : In is (nest_statements (there nest k c))
    is_in = nth_in (nest_statements (there nest k c)) s is q.is

    before : Standing → Type 0
    before y = standing_at nest s ≡ y

    before_is : (s < length (nest_statements nest)) × (standing_at nest s ≡ was)
    before_is = at_place (nest_statements nest) s was no_statement q.was

    plain : IsPlainAssignment (assignment q.guarded)
    plain =
        (all_in (IsPreparedStatement a.declarations nest deeper) (nest_statements nest)
        behind.parts.statements was was_in).plain

    module _ (guarded : ¬ (q.guarded.guard ≡ None)) where
      names : HasGuardedNames nest (setting_at width may_before) s
      names =
          names_before may_before s before_is.0
          (λ none. guarded (sym (ap (λ (y : Standing). y.statement.guard) before_is.1) ∙ none))

      -- ---- an element

      module _ (r : Reference) (inside : In r (references_touched q.guarded)) (made : is_made nest r.name ≡ true) where
        cells : HasCells (run_nest nest) (setting_at width may_before) s r
        cells =
            names.made r (subst (λ (y : runs.GuardedAssignment). In r (y.left ∷ references_read y)) (sym (ap guarded_of q.was)) inside)
            made

        element : IsElementIn (old nest k c) r
        element = by_loops (old nest k c) r (elements was was_in guarded r inside made)

        module _ (o : Instance)
            (instance : IsInstance (run_nest (there nest k c)).loops_of ((run_nest (there nest k c)).turns_of may.values)
            (run_nest (there nest k c)).shape o) (at : o.statement ≡ s) where
          abbrev HereNow : List ℕ → ℕ → Type 0
          HereNow = Here (run_nest (there nest k c)) may.values s o.iterations

          turns : Within (turns_in (there nest k c) may.values) [] (numbers_of (loops_made (making nest k c) (new nest k c))) o.iterations
          turns =
              subst (λ (ls : List ℕ). Within (turns_in (there nest k c) may.values) [] ls o.iterations)
              (ap (run_nest (there nest k c)).loops_of at ∙ ap rounds_of q.is) instance.1

          now : Pairs HereNow (variables_of_loops (loops_made (making nest k c) (new nest k c))) o.iterations
          now =
              each_here a.declarations around (deeper + 18) (there nest k c) g may.values s is q.is is_in o.iterations
              turns

          first : AreBefore nest k c may.values once once_there HereNow o.iterations (old nest k c)
          first = are_before nest k c may.values once once_there HereNow o.iterations now turns

          abbrev HereThen : List ℕ → ℕ → Type 0
          HereThen = Here (run_nest nest) may.values s first.iterations

          then_here : Pairs HereThen (variables_of_loops (old nest k c)) first.iterations
          then_here =
              each_here a.declarations around deeper nest behind may.values s was q.was was_in first.iterations
              (first.within [])

          abbrev place : Instance
          place = record { statement = s; iterations = first.iterations }

          stands : IsInstance (run_nest nest).loops_of ((run_nest nest).turns_of may.values) (run_nest nest).shape place
          stands = (
            (statements_stand nest behind.plain
                (prepared_nest_is_ready a.declarations around deeper nest are behind) s was q.was).0,
            subst (λ (ls : List ℕ). Within (turns_in nest may.values) [] ls first.iterations)
                (sym (ap rounds_of q.was)) (first.within []),
          )

          named : NamesCell (run_nest nest) (setting_at width may_before) place r
          named = cells.names place stands refl

          -- the variables of the element have the same iterations in both
          have : HaveBoth HereThen HereNow element.loops
          have =
              of_loops HereThen HereNow (variables_of_loops (old nest k c)) first.iterations
              (both HereThen HereNow (variables_of_loops (old nest k c)) first.iterations then_here first.here)
              element.loops element.among

          abbrev values : List ℤ
          values = reverse (map pos have.iterations)

          same : reverse (map pos have.iterations) ≡ named.cell.subscripts
          same =
              one_each (run_nest nest) may.values s first.iterations r.subscripts values named.cell.subscripts
              cells.linear
              (subst (λ (qs : Subscripts). MayHaveEach (run_nest nest) may.values s first.iterations qs values)
              (sym element.is)
              (has_each (run_nest nest) may.values s first.iterations element.loops have.iterations have.first))
              named.may.subscripts

          there_too : MayHaveEach (run_nest (there nest k c)) may.values s o.iterations r.subscripts named.cell.subscripts
          there_too =
              subst (λ (zs : List ℤ). MayHaveEach (run_nest (there nest k c)) may.values s o.iterations r.subscripts zs) same
              (subst (λ (qs : Subscripts). MayHaveEach (run_nest (there nest k c)) may.values s o.iterations qs values)
              (sym element.is)
              (has_each (run_nest (there nest k c)) may.values s o.iterations element.loops have.iterations have.second))

          names_now : NamesCell (run_nest (there nest k c)) (setting_at width may) o r
          names_now = record {
            cell = named.cell;
            may = record {
              name = named.may.name;
              subscripts =
                  subst (λ (n : ℕ). MayHaveEach (run_nest (there nest k c)) may.values n o.iterations r.subscripts named.cell.subscripts)
                  (sym at) there_too;
            };
            within = named.within;
          }

        variable_now : (l : RoundLoop) → In l element.loops
            → In l.variable (variables_of_loops (loops_made (making nest k c) (new nest k c)))
        variable_now l i =
            let v = In-map (λ (y : Loop). y.variable) l.variable (old nest k c) (element.among l i) in
            subst (In l.variable) (sym (variables_made (making nest k c) (new nest k c)))
            (subst (λ z. In z (variables_of_loops (new nest k c))) (sym v.is)
            (map-In (λ (y : Loop). y.variable) v.it (new nest k c) (c.all v.it v.inside)))

        has_cells : HasCells (run_nest (there nest k c)) (setting_at width may) s r
        has_cells = record {
          linear =
              subst (AreLinear (run_nest (there nest k c)) s) (sym element.is)
              (are_linear (run_nest (there nest k c)) s element.loops
              (λ l i. linear_variable a.declarations around (deeper + 18) (there nest k c) g may.values s is q.is is_in
              l.variable (variable_now l i)));
          names = λ o instance at. names_now o instance at;
        }

      -- ---- whichever it is

      in_nest : (l : Loop) → In l (new nest k c) → In l (nest_loops nest)
      in_nest l i = subst (In l) (sym (old_loops nest k c)) (c.among l i)

      of_made : (r : Reference) → In r (references_touched (rewritten_statement (making nest k c) q.guarded))
          → is_made nest r.name ≡ true → HasCells (run_nest (there nest k c)) (setting_at width may) s r
      of_made r i made =
          by (of_statement (variables_of_loops (new nest k c)) nest.symbols q.guarded plain r i)
        where
          by : ComesFrom (variables_of_loops (new nest k c)) nest.symbols (references_touched q.guarded) r
              → HasCells (run_nest (there nest k c)) (setting_at width may) s r
          by (inl j) =
              absurd
              (made_apart a.declarations around deeper nest behind (new nest k c) in_nest r.name made j)
          by (inr h) =
              let there_made : is_made nest h.first.name ≡ true
              = subst (λ y. is_made nest y ≡ true) h.name made in
              let o = element h.first h.inside there_made in
              let stay : made_subscripts (making nest k c) h.first.subscripts ≡ h.first.subscripts
              = ap (made_subscripts (making nest k c)) o.is
              ∙ (subscripts_stay (variables_of_loops (new nest k c)) nest.symbols o.loops ∙ sym o.is) in
              let same : r ≡ h.first
              = ap₂ (λ y (qs : Subscripts). record { name = y; subscripts = qs }) h.name (h.subscripts ∙ stay) in
              subst (HasCells (run_nest (there nest k c)) (setting_at width may) s) (sym same)
              (has_cells h.first h.inside there_made)

      has_names : HasGuardedNames (there nest k c) (setting_at width may) s
      has_names = record {
        declared = names.declared;
        made = λ r i made.
            of_made r (subst (λ (y : runs.GuardedAssignment). In r (y.left ∷ references_read y)) (ap guarded_of q.is) i) made;
      }

  guarded_names : HaveGuardedNames (there nest k c) (setting_at width may)
  guarded_names s within guarded =
      let q = in_both nest k c s within in
      let at = at_place (nest_statements (there nest k c)) s (is s q) no_statement q.is in
      has_names s q
      (λ none. guarded (ap (λ (y : Standing). y.statement.guard) at.1
      ∙ ap (option_map (made (making nest k c))) none))

-- whatever nest it is whose guarded statements name elements of what was made
moved_nest_has_guarded_names : (width : Width) (a : Program) (around : List (List ℕ)) (deeper : ℕ) (nest : Nest) (vectors : List Dirs)
    (u : State) → AreDeclarations a.declarations → IsPrepared a.declarations around deeper nest → HasElements nest
    → ((h : MayRun width a nest u) → HaveGuardedNames nest (setting_at width h)) → (may : MayRun width a (arranged nest vectors) u)
    → HaveGuardedNames (arranged nest vectors) (setting_at width may)
moved_nest_has_guarded_names width a around deeper nest vectors u are behind elements before may =
    by (with_moved_loops nest vectors) refl may
  where
    prepared : IsPrepared a.declarations around (deeper + 18) (arranged nest vectors)
    prepared = arranged_nest_is_prepared a.declarations around deeper nest vectors behind

    by : (o : Option Nest) → with_moved_loops nest vectors ≡ o → (h : MayRun width a (unwrap_or o nest) u)
        → HaveGuardedNames (unwrap_or o nest) (setting_at width h)
    by None e h = before h
    by (Some k) e h =
        let c = moved_chain nest vectors k (moved_is nest vectors k e) in
        let same = nest_is nest k c in
        let again : IsPrepared a.declarations around (deeper + 18) k
        = subst (λ (o : Option Nest). IsPrepared a.declarations around (deeper + 18) (unwrap_or o nest)) e prepared in
        subst (λ (z : Nest). (i : MayRun width a z u) → HaveGuardedNames z (setting_at width i)) (sym same)
        (λ i. guarded_names width a around deeper nest are behind elements u before k c
        (subst (IsPrepared a.declarations around (deeper + 18)) same again) i) h

-- ---- the split nest

module _ (width : Width) (p b a : Program) (around : List (List ℕ)) (deepest deeper copies : ℕ) (m : Nest) (may : Place → Bool)
    (u : State) (x : IsExpandedInPlaces p b a around deepest deeper m) (room : extent_depth ≤ deeper)
    (can : MayBeSplit a.declarations may (with_copies_before copies (expanded m))) (sized : HoldsSized u.store) where
  abbrev e : Nest
  e = with_copies_before copies (expanded m)

  abbrev HasAll : Nest → Type 0
  HasAll z = IsPrepared a.declarations around (deeper + split_rise) z × HasElements z
      × ((h : MayRun width a z u) → HaveGuardedNames z (setting_at width h))

  prepared_before : IsPrepared a.declarations around deeper (with_copies_before copies (expanded m))
  prepared_before = prepared_counted a.declarations around deeper (expanded m) copies x.behind

  elements_before : HasElements (with_copies_before copies (expanded m))
  elements_before = expanded_nest_has_elements p b a around deepest deeper m x

  names_before_split : (h : MayRun width a (with_copies_before copies (expanded m)) u) → HaveGuardedNames (with_copies_before copies (expanded m)) (setting_at width h)
  names_before_split =
      names_counted width a (expanded m) copies u
      (λ h. expanded_nest_has_guarded_names width p b a around deepest deeper m u x h sized)

  split_has_all : IsPrepared a.declarations around (deeper + split_rise) (nodes_split may (with_copies_before copies (expanded m)))
      × HasElements (nodes_split may (with_copies_before copies (expanded m)))
      × ((h : MayRun width a (nodes_split may (with_copies_before copies (expanded m))) u)
      → HaveGuardedNames (nodes_split may (with_copies_before copies (expanded m))) (setting_at width h))
  split_has_all = by (with_nodes_split may e) refl
    where
      by : (o : Option Nest) → with_nodes_split may e ≡ o → HasAll (unwrap_or o e)
      by None f = (
        nothing_deeper a.declarations around deeper split_rise e prepared_before,
        elements_before,
        names_before_split,
      )
      by (Some k) f = (
        split_nest_is_prepared a.declarations around deeper may e k prepared_before can room f,
        split_nest_has_elements a around deeper may e k prepared_before can f elements_before,
        (λ h. split_nest_has_guarded_names width a around deeper may e k u x.places.behind.are prepared_before can room f
            elements_before names_before_split h sized),
      )

pub arranged_nest_has_guarded_names : (width : Width) → ArrangedNestHasGuardedNames width
arranged_nest_has_guarded_names width p b a around deepest deeper copies m split may vectors u x room can same run sized =
    let all = split_has_all width p b a around deepest deeper copies m may u x room can sized in
    subst (λ (z : Nest). (h : MayRun width a (arranged z vectors) u) → HaveGuardedNames (arranged z vectors) (setting_at width h)) (sym same)
    (λ h. moved_nest_has_guarded_names width a around (deeper + split_rise) (nodes_split may (with_copies_before copies (expanded m)))
    vectors u x.places.behind.are all.0 all.1 all.2 h) run
