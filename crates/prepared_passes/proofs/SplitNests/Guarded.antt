-- Each reference of the split nest to what was made names a cell, whatever the guard of its statement is: those of the
-- nest did before, and a copy's array has an element for each iteration.
use Rattle.std.proofs.Common.{◌≡◌, ◌⊎◌, inl, inr, refl, sym, ap, ap₂, ◌∙◌, subst, ℕ, zero, suc, ◌+◌, ◌≤◌, ◌<◌, ℤ, pos, Bool, true, cond, List, [], ◌∷◌, ◌++◌, map, length, get_or, Ok, Err, Option, Some, None, arith}
use Rattle.std.specs.Option.{IsSomeAnd}
use Rattle.std.specs.Prelude.{IsSome, is_some, unwrap_or}
use Rattle.array_form.specs.holds.Statements.{no_statement}
use Rattle.array_form.specs.lone.Cells.{AreLinear, HasCells}
use Rattle.dependence_graph.specs.declared.graphs.Place.{Place}
use Rattle.emission.proofs.EmissionForms.Surroundings.{statements_stand}
use Rattle.emission.specs.emission_forms.Written.{HasGuardedNames, HaveGuardedNames}
use Rattle.emission.specs.emission_pieces.Nests.{standing_at}
use Rattle.emission.specs.graph_orders.Nests.{run_nest, turns_in, turns_of_loop}
use Rattle.linear_forms.specs.Linear.{form_of}
use Rattle.meaning.specs.Profile90.{AreDeclarations}
use Rattle.meaning.specs.Run.{State}
use Rattle.meaning.specs.Store.{cell_in, is_within}
use Rattle.nest.specs.Bodies.{Standing, nest_loops, nest_statements}
use Rattle.nest.specs.Plain.{Loop, Made, Nest}
use Rattle.nest.specs.declared.parts.Trip.{Trip}
use Rattle.nest_order.proofs.orders.Lists.{In-left, In-right}
use Rattle.nest_order.proofs.orders.Membership.{map-In}
use Rattle.nest_order.specs.facts.Facts.{number_by}
use Rattle.nest_order.specs.orders.Lists.{In}
use Rattle.nest_order.specs.orders.Nests.{IsInstance}
use Rattle.nest_order.specs.orders.Shapes.{Instance, Within}
use Rattle.nest_order.specs.runs.Cells.{NamesCell}
use Rattle.nest_order.specs.runs.Guarded as runs
use Rattle.nest_order.specs.runs.Nests as run_nests
use Rattle.nest_order.specs.runs.Touched.{MayHave, MayHaveEach, nth_of, references_read}
use Rattle.nest_order.specs.shapes.Shapes.{guarded_of, loop_numbered, loops_round as rounds_of, numbers_of, variable_of_loop}
use Rattle.pass_laws.proofs.NormalFacts.Tables.{all_in, each_from}
use Rattle.pass_laws.proofs.PreparedNests.Ready.{prepared_nest_is_ready}
use Rattle.pass_laws.proofs.ReadyNests.Lists.{Each-All}
use Rattle.pass_laws.specs.prepared_nests.Loops.{variables_of_loops}
use Rattle.pass_laws.specs.prepared_nests.Made.{AreBoundsBy}
use Rattle.pass_laws.specs.prepared_nests.Nests.{IsPrepared}
use Rattle.pass_laws.specs.prepared_runs.Running.{MayRun, setting_at}
use Rattle.prepared_passes.proofs.ExpandedNests.Rounds.{at_turns, each_here, linear_variable}
use Rattle.prepared_passes.proofs.ExpandedNests.Variables.{Here, Pairs, are_linear, has_each}
use Rattle.prepared_passes.specs.expansion.Prepared.{extent_depth}
use Rattle.scalar_expand.specs.Expanded as expanded
use Rattle.scalar_expand.specs.Flow.{AreTurns}
use Rattle.scalar_expand.specs.Numbers.{limits_of, trip_at}
use Rattle.scalar_expand.specs.Privates.{round_loop}
use Rattle.scalar_expand.specs.Stores.{element_cell, numbers}
use Rattle.scalar_expand.specs.declared.privates.RoundLoop.{RoundLoop}
use Rattle.tree.specs.Plain.{Expression, Only, Program, Reference, Section, Subscripts, no_subscripts, subscript}
use Rattle.tree.specs.declared.ops.Fault.TheVariants.{Bounds}
use Rattle.node_splitting.specs.Arrays.{array, copy_name, extents_over, texts_over}
use Rattle.node_splitting.specs.Counts.{variables_from_outside}
use Rattle.node_splitting.specs.Split.{last_from, made_arrays, reads_at, with_copy_arrays}
use Rattle.prepared_passes.specs.splitting.Elements.{HasElements, SplitNestHasGuardedNames}
use Rattle.prepared_passes.specs.splitting.Splits.{MayBeSplit}
use Rattle.prepared_passes.proofs.SplitNests.Elements.{IsNew, IsOld, guarded_before, which}
use Rattle.prepared_passes.proofs.SplitNests.Kept.{IsFromStatement, array_made, each, from_statement, has}
use Rattle.prepared_passes.proofs.SplitNests.Limits.{covered, element_is, limits_are, over}
use Rattle.prepared_passes.proofs.SplitNests.Places.{array_at}
use Rattle.prepared_passes.proofs.SplitNests.Prepared.{whole_prepared}
use Rattle.prepared_passes.proofs.SplitNests.Reading.{extents_there}
use Rattle.prepared_passes.proofs.SplitNests.Standings.{comes_from}
use Rattle.prepared_passes.proofs.SplitNests.Texts.{split_is}
use Rattle.tree.specs.declared.width.Width.{Width}

-- ---- lists

nth_at : (xs : List Standing) (s : ℕ) (d : Standing) → s < length xs → nth_of xs s ≡ Some (get_or xs s d)
nth_at [] s d h = absurd (omega (arith, h))
nth_at (x ∷ xs) zero d h = refl
nth_at (x ∷ xs) (suc s) d h = nth_at xs s d (omega (arith, h))

at_in : (xs : List Standing) (s : ℕ) (d : Standing) → s < length xs → In (get_or xs s d) xs
at_in [] s d h = absurd (omega (arith, h))
at_in (x ∷ xs) zero d h = inl refl
at_in (x ∷ xs) (suc s) d h = inr (at_in xs s d (omega (arith, h)))

at_place : (xs : List Standing) (s : ℕ) (x d : Standing) → nth_of xs s ≡ Some x → (s < length xs) × (get_or xs s d ≡ x)
at_place [] s x d e = let no : ⊥ = cc in absurd no
at_place (y ∷ xs) zero x d e = (omega arith, cc)
at_place (y ∷ xs) (suc s) x d e = let r = at_place xs s x d e in let less = r.0 in (omega (arith, less), r.1)

nth_parted : (pre post : List Standing) (x : Standing) → nth_of (pre ++ x ∷ post) (length pre) ≡ Some x
nth_parted [] post x = refl
nth_parted (y ∷ pre) post x = nth_parted pre post x

-- ---- two nests in which what is written has the same numbers

module _ (n k : run_nests.RunNest) (s t : ℕ) (same : (e : Expression) → k.linear s e ≡ n.linear t e) where
  linear_over : (qs : Subscripts) → AreLinear n t qs → AreLinear k s qs
  linear_over no_subscripts h = tt
  linear_over (subscript (Only e) qs) h = (subst IsSome (sym (same e)) h.0, linear_over qs h.1)
  linear_over (subscript (Section a b c) qs) h = absurd h

  each_over : (v : ℕ → ℤ) (is : List ℕ) (qs : Subscripts) (zs : List ℤ) → MayHaveEach n v t is qs zs → MayHaveEach k v s is qs zs
  each_over v is no_subscripts [] h = tt
  each_over v is no_subscripts (z ∷ zs) h = absurd h
  each_over v is (subscript (Only e) qs) [] h = absurd h
  each_over v is (subscript (Only e) qs) (z ∷ zs) h = (subst (λ o. MayHave k v is o z) (sym (same e)) (one (n.linear t e) h.0), each_over v is qs zs h.1)
    where
      one : (o : Option ((ℕ → ℤ) → List ℕ → ℤ)) → MayHave n v is o z → MayHave k v is o z
      one None g = tt
      one (Some f) g = g
  each_over v is (subscript (Section a b c) qs) [] h = absurd h
  each_over v is (subscript (Section a b c) qs) (z ∷ zs) h = absurd h

-- ---- a guarded statement

module _ (width : Width) (p : Program) (around : List (List ℕ)) (deepest : ℕ) (may : Place → Bool) (m : Nest) (u : State) (are : AreDeclarations p.declarations)
    (h : IsPrepared p.declarations around deepest m) (can : MayBeSplit p.declarations may m) (room : extent_depth ≤ deepest) (elements : HasElements m)
    (run : MayRun width p (with_copy_arrays may m (made_arrays may m)) u) where
  abbrev k : Nest
  k = with_copy_arrays may m (made_arrays may m)

  abbrev v : ℕ → ℤ
  v = run.values

  prepared : IsPrepared p.declarations around (deepest + 19) (with_copy_arrays may m (made_arrays may m))
  prepared = whole_prepared p.declarations around deepest may m h can room

  -- without the copies the nest might be run there, too
  abbrev run_before : MayRun width p m u
  run_before = record {
    going = run.going;
    holds = run.holds;
    values = run.values;
    valued = run.valued;
    made = Each-All (λ (a : Made). IsSomeAnd (u.store.bounds a.name) (AreBoundsBy m.symbols run.values a.extents)) m.made
        (each_from (λ (a : Made). IsSomeAnd (u.store.bounds a.name) (AreBoundsBy m.symbols run.values a.extents)) m.made
        (λ a i. all_in (λ (a : Made). IsSomeAnd (u.store.bounds a.name) (AreBoundsBy m.symbols run.values a.extents)) (m.made ++ made_arrays may m) run.made a
        (In-left a m.made (made_arrays may m) i)));
  }

  same_loops : nest_loops (with_copy_arrays may m (made_arrays may m)) ≡ nest_loops m
  same_loops = (has may m can.loop h.plain).loops

  same_turns : turns_in (with_copy_arrays may m (made_arrays may m)) run.values ≡ turns_in m run.values
  same_turns = ap (λ (os : List Loop). λ (l : ℕ) (before : List ℕ). turns_of_loop (loop_numbered os l) run.values before) same_loops

  module _ (s : ℕ) (y : Standing) (there : nth_of (nest_statements (with_copy_arrays may m (made_arrays may m))) s ≡ Some y)
      (among : In y (nest_statements (with_copy_arrays may m (made_arrays may m)))) (guarded : ¬ (y.statement.guard ≡ None)) (f : IsFromStatement may m y) where
    abbrev ls : List Loop
    ls = f.from.loops

    abbrev vs : List (List ℕ)
    vs = variables_from_outside f.from.loops

    abbrev rs : List Reference
    rs = reads_at may (length m.symbols) f.from.loops (length f.pre) f.from.statement

    abbrev first : ℕ
    first = last_from may m 0 m.copies f.pre

    loops_are : y.loops ≡ f.from.loops
    loops_are = ap (λ (z : Standing). z.loops) f.text.same

    was : nth_of (nest_statements m) (length f.pre) ≡ Some f.from
    was = ap (λ xs. nth_of xs (length f.pre)) f.parted ∙ nth_parted f.pre f.post f.from

    rounds : rounds_of (nth_of (nest_statements (with_copy_arrays may m (made_arrays may m))) s) ≡ rounds_of (nth_of (nest_statements m) (length f.pre))
    rounds = ap rounds_of there ∙ (ap numbers_of loops_are ∙ sym (ap rounds_of was))

    same_forms : (e : Expression) → (run_nest (with_copy_arrays may m (made_arrays may m))).linear s e ≡ (run_nest m).linear (length f.pre) e
    same_forms e =
        ap₂ (λ (os : List Loop) (ns : List ℕ). number_by m.symbols (form_of (map (λ n. variable_of_loop (loop_numbered os n)) ns) m.symbols e)) same_loops rounds

    -- the iterations of an instance
    turns_now : (o : Instance) → IsInstance (run_nest (with_copy_arrays may m (made_arrays may m))).loops_of ((run_nest (with_copy_arrays may m (made_arrays may m))).turns_of run.values)
        (run_nest (with_copy_arrays may m (made_arrays may m))).shape o → o.statement ≡ s → Within (turns_in (with_copy_arrays may m (made_arrays may m)) run.values) [] (numbers_of y.loops) o.iterations
    turns_now o instance at =
        subst (λ (ns : List ℕ). Within (turns_in (with_copy_arrays may m (made_arrays may m)) run.values) [] ns o.iterations)
        (ap (run_nest (with_copy_arrays may m (made_arrays may m))).loops_of at ∙ ap rounds_of there) instance.1

    -- ---- what stood there before

    module _ (r : Reference) (old : IsOld p.declarations around deepest may m h can elements y f guarded r)
        (names : HasGuardedNames m (setting_at width run_before) (length f.pre)) where
      cells : HasCells (run_nest m) (setting_at width run_before) (length f.pre) r
      cells = names.made r (subst (λ (g : runs.GuardedAssignment). In r (g.left ∷ references_read g)) (sym (ap guarded_of was)) old.among) old.made

      old_cell : (o : Instance) → IsInstance (run_nest (with_copy_arrays may m (made_arrays may m))).loops_of ((run_nest (with_copy_arrays may m (made_arrays may m))).turns_of run.values)
          (run_nest (with_copy_arrays may m (made_arrays may m))).shape o → o.statement ≡ s → NamesCell (run_nest (with_copy_arrays may m (made_arrays may m))) (setting_at width run) o r
      old_cell o instance at = record {
        cell = named.cell;
        may = record {
          name = named.may.name;
          subscripts = subst (λ (i : ℕ). MayHaveEach (run_nest (with_copy_arrays may m (made_arrays may m))) run.values i o.iterations r.subscripts named.cell.subscripts) (sym at)
              (each_over (run_nest m) (run_nest (with_copy_arrays may m (made_arrays may m))) s (length f.pre) same_forms run.values o.iterations r.subscripts named.cell.subscripts named.may.subscripts);
        };
        within = named.within;
      }
        where
          place : Instance
          place = record { statement = length f.pre; iterations = o.iterations }

          turns : Within (turns_in m run.values) [] (numbers_of f.from.loops) o.iterations
          turns =
              subst (λ w. Within w [] (numbers_of f.from.loops) o.iterations) same_turns
              (subst (λ (os : List Loop). Within (turns_in (with_copy_arrays may m (made_arrays may m)) run.values) [] (numbers_of os) o.iterations) loops_are (turns_now o instance at))

          stands : IsInstance (run_nest m).loops_of ((run_nest m).turns_of run.values) (run_nest m).shape (record { statement = length f.pre; iterations = o.iterations })
          stands = (
            (statements_stand m h.plain (prepared_nest_is_ready p.declarations around deepest m are h) (length f.pre) f.from was).0,
            subst (λ (ns : List ℕ). Within (turns_in m run.values) [] ns o.iterations) (sym (ap rounds_of was)) turns,
          )

          named : NamesCell (run_nest m) (setting_at width run_before) (record { statement = length f.pre; iterations = o.iterations }) r
          named = cells.names (record { statement = length f.pre; iterations = o.iterations }) stands refl

      old_cells : HasCells (run_nest (with_copy_arrays may m (made_arrays may m))) (setting_at width run) s r
      old_cells = record {
        linear = linear_over (run_nest m) (run_nest (with_copy_arrays may m (made_arrays may m))) s (length f.pre) same_forms r.subscripts cells.linear;
        names = old_cell;
      }

    -- ---- elements of copies

    module _ (r : Reference) (new : IsNew p.declarations around deepest may m h can elements y f guarded r) where
      abbrev j : ℕ
      j = new.number

      record HasArray : Type 0 where
        read : Reference
        stands : In read rs
        made : In (array m f.from.loops new.number read) (made_arrays may m)

      has_array : HasArray
      has_array =
          let a = array_at m f.from.loops new.number first rs new.least new.below in
          record { read = a.read; stands = a.among; made = array_made may m y f (array m f.from.loops new.number a.read) a.there }

      abbrev exts : List Trip
      exts = unwrap_or (extents_over (length m.symbols) f.from.loops) []

      exts_are : extents_over (length m.symbols) f.from.loops ≡ Some exts
      exts_are = by (extents_over (length m.symbols) f.from.loops) (extents_there may (length m.symbols) f.from.loops (length f.pre) f.from.statement has_array.read has_array.stands)
        where
          by : (o : Option (List Trip)) → is_some o ≡ true → o ≡ Some (unwrap_or o [])
          by None e = cc
          by (Some ts) e = refl

      has_bounds : IsSomeAnd (u.store.bounds (copy_name new.number)) (AreBoundsBy m.symbols run.values (texts_over m.symbols (extents_over (length m.symbols) f.from.loops)))
      has_bounds =
          all_in (λ (a : Made). IsSomeAnd (u.store.bounds a.name) (AreBoundsBy m.symbols run.values a.extents)) (m.made ++ made_arrays may m) run.made
          (array m f.from.loops new.number has_array.read) (In-right (array m f.from.loops new.number has_array.read) m.made (made_arrays may m) has_array.made)

      bounds : u.store.bounds (copy_name new.number) ≡ Some (limits_of (length m.symbols) run.values (pos 1) (over f.from.loops exts new.number))
      bounds = limits_are width p around deepest m h u.store run.holds run.values run.valued f.from.loops exts exts_are new.number has_bounds

      variables_round : (os : List Loop) → map (λ (l : RoundLoop). l.variable) (map round_loop os) ≡ variables_of_loops os
      variables_round [] = refl
      variables_round (l ∷ os) = ap (λ ys. l.variable ∷ ys) (variables_round os)

      variable_there : (l : RoundLoop) → In l (map round_loop f.from.loops) → In l.variable (variables_of_loops y.loops)
      variable_there l i =
          subst (In l.variable) (variables_round f.from.loops ∙ ap variables_of_loops (sym loops_are))
          (map-In (λ (o : RoundLoop). o.variable) l (map round_loop f.from.loops) i)

      module _ (o : Instance) (instance : IsInstance (run_nest (with_copy_arrays may m (made_arrays may m))).loops_of ((run_nest (with_copy_arrays may m (made_arrays may m))).turns_of run.values)
          (run_nest (with_copy_arrays may m (made_arrays may m))).shape o) (at : o.statement ≡ s) where
        turns : Within (turns_in (with_copy_arrays may m (made_arrays may m)) run.values) [] (numbers_of y.loops) o.iterations
        turns = turns_now o instance at

        covers : is_within (limits_of (length m.symbols) run.values (pos 1) (over f.from.loops exts new.number)) (numbers o.iterations) ≡ true
        covers =
            covered width p around deepest m h u.store run.holds run.values run.valued f.from.loops exts exts_are new.number o.iterations
            (subst (λ (os : List Loop). AreTurns (trip_at (length m.symbols) run.values) [] os o.iterations) loops_are
            (at_turns p.declarations around (deepest + 19) (with_copy_arrays may m (made_arrays may m)) prepared run.values s y there among o.iterations turns))

        here : Pairs (Here (run_nest (with_copy_arrays may m (made_arrays may m))) run.values s o.iterations) (map (λ (l : RoundLoop). l.variable) (map round_loop f.from.loops)) o.iterations
        here =
            subst (λ (ys : List (List ℕ)). Pairs (Here (run_nest (with_copy_arrays may m (made_arrays may m))) run.values s o.iterations) ys o.iterations)
            (ap variables_of_loops loops_are ∙ sym (variables_round f.from.loops))
            (each_here p.declarations around (deepest + 19) (with_copy_arrays may m (made_arrays may m)) prepared run.values s y there among o.iterations turns)

        new_cell : NamesCell (run_nest (with_copy_arrays may m (made_arrays may m))) (setting_at width run) o (expanded.element (over f.from.loops exts new.number))
        new_cell = record {
          cell = element_cell (over f.from.loops exts new.number) o.iterations;
          may = record {
            name = refl;
            subscripts = subst (λ (i : ℕ). MayHaveEach (run_nest (with_copy_arrays may m (made_arrays may m))) run.values i o.iterations
                (expanded.element (over f.from.loops exts new.number)).subscripts (numbers o.iterations)) (sym at)
                (has_each (run_nest (with_copy_arrays may m (made_arrays may m))) run.values s o.iterations (map round_loop f.from.loops) o.iterations here);
          };
          within =
              ap (λ (b : Option (List (ℤ × ℤ))). cell_in b (copy_name new.number) (numbers o.iterations)) bounds
              ∙ ap (λ (t : Bool). cond t (Ok (element_cell (over f.from.loops exts new.number) o.iterations)) (Err Bounds)) covers;
        }

      new_cells : HasCells (run_nest (with_copy_arrays may m (made_arrays may m))) (setting_at width run) s r
      new_cells =
          subst (HasCells (run_nest (with_copy_arrays may m (made_arrays may m))) (setting_at width run) s) (element_is f.from.loops exts new.number ∙ sym new.is) (record {
            linear = are_linear (run_nest (with_copy_arrays may m (made_arrays may m))) s (map round_loop f.from.loops)
                (λ l i. linear_variable p.declarations around (deepest + 19) (with_copy_arrays may m (made_arrays may m)) prepared run.values s y there among l.variable (variable_there l i));
            names = new_cell;
          })

  -- ---- whichever it is

  module _ (before : HaveGuardedNames m (setting_at width run_before)) (s : ℕ) (less : s < length (nest_statements (with_copy_arrays may m (made_arrays may m))))
      (guarded : ¬ ((standing_at (with_copy_arrays may m (made_arrays may m)) s).statement.guard ≡ None)) where
    abbrev stands_here : Standing
    stands_here = standing_at (with_copy_arrays may m (made_arrays may m)) s

    there : nth_of (nest_statements (with_copy_arrays may m (made_arrays may m))) s ≡ Some (standing_at (with_copy_arrays may m (made_arrays may m)) s)
    there = nth_at (nest_statements (with_copy_arrays may m (made_arrays may m))) s no_statement less

    among : In (standing_at (with_copy_arrays may m (made_arrays may m)) s) (nest_statements (with_copy_arrays may m (made_arrays may m)))
    among = at_in (nest_statements (with_copy_arrays may m (made_arrays may m))) s no_statement less

    from : IsFromStatement may m (standing_at (with_copy_arrays may m (made_arrays may m)) s)
    from =
        from_statement may m (standing_at (with_copy_arrays may m (made_arrays may m)) s)
        (comes_from (each may m) 0 (nest_statements m) (standing_at (with_copy_arrays may m (made_arrays may m)) s)
        (subst (λ (zs : List Standing). In (standing_at (with_copy_arrays may m (made_arrays may m)) s) zs) (has may m can.loop h.plain).statements among))

    names : HasGuardedNames m (setting_at width run_before) (length from.pre)
    names =
        let q = at_place (nest_statements m) (length from.pre) from.from no_statement (was s stands_here there among guarded from) in
        before (length from.pre) q.0
        (λ none. guarded_before p.declarations around deepest may m h can elements stands_here from guarded (sym (ap (λ (z : Standing). z.statement.guard) q.1) ∙ none))

    names_now : HasGuardedNames (with_copy_arrays may m (made_arrays may m)) (setting_at width run) s
    names_now = record {
      declared = names.declared;
      made = λ r i e. by r (which p.declarations around deepest may m h can elements stands_here from guarded r
          (subst (λ (g : runs.GuardedAssignment). In r (g.left ∷ references_read g)) (ap guarded_of there) i) e);
    }
      where
        by : (r : Reference) → IsOld p.declarations around deepest may m h can elements stands_here from guarded r ⊎ IsNew p.declarations around deepest may m h can elements stands_here from guarded r
            → HasCells (run_nest (with_copy_arrays may m (made_arrays may m))) (setting_at width run) s r
        by r (inl o) = old_cells s stands_here there among guarded from r o names
        by r (inr n) = new_cells s stands_here there among guarded from r n

pub split_nest_has_guarded_names : (width : Width) → SplitNestHasGuardedNames width
split_nest_has_guarded_names width p around deepest may m k u are h can room split elements before run sized =
    subst (λ (z : Nest). (w : MayRun width p z u) → HaveGuardedNames z (setting_at width w)) (sym (split_is may m k split))
    (λ w s less guarded.
    names_now width p around deepest may m u are h can room elements w (before (run_before width p around deepest may m u are h can room elements w)) s less guarded) run
