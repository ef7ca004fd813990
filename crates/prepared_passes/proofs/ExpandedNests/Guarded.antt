-- Each reference of an expanded nest to what passes made names a cell, whatever the guard of its statement is.
use Rattle.std.proofs.Common.{◌≡◌, inl, inr, refl, sym, ap, ◌∙◌, subst, ℕ, zero, suc, ◌<◌, ℤ, pos, Bool, true, false, cond, ◌||◌, List, [], ◌∷◌, ◌++◌, map, length, get_or, Ok, Err, Option, Some, None, IfSome, arith}
use Rattle.std.specs.Option.{IsSomeAnd}
use Rattle.std.specs.List.{list_any}
use Rattle.std.specs.Str.{bytes_eq}
use Rattle.std.proofs.lemmas.Int.{ints}
use Rattle.std.proofs.lemmas.Slice.Eq.{bytes_eq-Decides}
use Rattle.tree.specs.Plain.{Declaration, Extent, Given, Later, Program, Reference, Subscripts, no_subscripts}
use Rattle.tree.specs.declared.ops.Fault.TheVariants.{Bounds}
use Rattle.array_form.specs.holds.Bounds.{is_made}
use Rattle.array_form.specs.holds.Statements.{no_statement}
use Rattle.array_form.specs.lone.Cells.{AreLinear, HasCells, HasDeclaredBounds, IsReferenceOf}
use Rattle.emission.specs.emission_pieces.Nests.{standing_at}
use Rattle.emission.specs.graph_orders.Nests.{run_nest}
use Rattle.linear_forms.specs.Laws.{HoldsSized}
use Rattle.meaning.specs.Holding.{HasBounds}
use Rattle.meaning.specs.Run.{State}
use Rattle.meaning.specs.Store.{cell_in, is_within, opening_bounds}
use Rattle.meaning.specs.Typed.{declared}
use Rattle.nest.specs.Bodies.{Standing, nest_loops, nest_statements}
use Rattle.nest.specs.Plain.{Loop, Made, Nest}
use Rattle.nest_order.specs.orders.Lists.{In}
use Rattle.nest_order.specs.orders.Nests.{IsInstance}
use Rattle.nest_order.specs.orders.Shapes.{Instance, Within}
use Rattle.nest_order.specs.runs.Cells.{NamesCell}
use Rattle.nest_order.specs.runs.Guarded as runs
use Rattle.nest_order.specs.runs.Touched.{nth_of, references_read}
use Rattle.nest_order.specs.shapes.Shapes.{guarded_of, loops_round as rounds_of, numbers_of}
use Rattle.pass_laws.proofs.NormalFacts.Tables.{all_in}
use Rattle.pass_laws.proofs.PreparedNests.Lists.{distinct_too}
use Rattle.pass_laws.specs.prepared_nests.Loops.{variables_of_loops}
use Rattle.pass_laws.specs.prepared_nests.Made.{IsPreparedMade}
use Rattle.pass_laws.specs.prepared_nests.Statements.{IsPreparedStatement}
use Rattle.pass_laws.specs.prepared_runs.Running.{MayRun, setting_at}
use Rattle.scalar_expand.proofs.Covers.{covered}
use Rattle.scalar_expand.specs.Expanded.{element, expanded, expanding, named_private}
use Rattle.scalar_expand.specs.Flow.{AreTurns}
use Rattle.scalar_expand.specs.Numbers.{limits_of, trip_at}
use Rattle.scalar_expand.specs.Privates.{private_scalars, round_loop}
use Rattle.scalar_expand.specs.Stores.{element_cell, numbers}
use Rattle.scalar_expand.specs.declared.privates.Private.{Private}
use Rattle.scalar_expand.specs.declared.privates.RoundLoop.{RoundLoop}
use Rattle.prepared_passes.specs.expansion.Places.{ExpandedNestHasGuardedNames, IsExpandedInPlaces}
use Rattle.prepared_passes.proofs.ExpandedNests.Before.{kept, made_scalar_there, not_made}
use Rattle.prepared_passes.proofs.ExpandedNests.Beginning.{limits_there, may_valued}
use Rattle.prepared_passes.proofs.ExpandedNests.GuardedNames.{all_suit, counts_by, names_scalar, read_in_all, stands}
use Rattle.prepared_passes.proofs.ExpandedNests.MadeArrays.{declarations_are, made_are, symbols_are}
use Rattle.prepared_passes.proofs.ExpandedNests.References.{ComesFrom, all_of, of_statement, read_by, scalar_has_none}
use Rattle.prepared_passes.proofs.ExpandedNests.Rounds.{at_turns, each_here, linear_variable}
use Rattle.prepared_passes.proofs.ExpandedNests.Standings.{IsMadeOf, loops_round, statement_made}
use Rattle.prepared_passes.proofs.ExpandedNests.Variables.{Here, Pairs, are_linear, has_each}
use Rattle.last_values.specs.Occurrences.{stands_in_statement}
use Rattle.nest_order.specs.runs.Stores.{Setting}
use Rattle.nest_order.specs.runs.Touched.{MayHaveEach}
use Rattle.nest_order.proofs.orders.Membership.{map-In}
use Rattle.nest_rewrite.specs.Statements.{rewritten_statement}
use Rattle.scalar_expand.specs.Expanded.{made_before, made_now}
use Rattle.tree.specs.declared.width.Width.{Width}

-- ---- lists

nth_at : (xs : List Standing) (s : ℕ) (d : Standing) → s < length xs → nth_of xs s ≡ Some (get_or xs s d)
nth_at [] s d h = absurd (omega (arith, h))
nth_at (x ∷ xs) zero d h = refl
nth_at (x ∷ xs) (suc s) d h = nth_at xs s d (omega (arith, h))

at_in : (xs : List Standing) (s : ℕ) (d : Standing) → s < length xs → In (get_or xs s d) xs
at_in [] s d h = absurd (omega (arith, h))
at_in (x ∷ xs) zero d h = inl refl
at_in (x ∷ xs) (suc s) d h = inr (at_in xs s d (omega (arith, h)))

made_named : (ms : List Made) (y : List ℕ) → list_any (λ (c : Made). bytes_eq c.name y) ms ≡ true → (c : Made) × In c ms × (c.name ≡ y)
made_named [] y e = cc
made_named (c ∷ ms) y e = by (bytes_eq c.name y) refl e (λ f. made_named ms y f)
  where
    by : (b : Bool) → bytes_eq c.name y ≡ b → (b || list_any (λ (c : Made). bytes_eq c.name y) ms) ≡ true
        → (list_any (λ (c : Made). bytes_eq c.name y) ms ≡ true → (d : Made) × In d ms × (d.name ≡ y)) → (d : Made) × In d (c ∷ ms) × (d.name ≡ y)
    by true f g r = (c, inl refl, (bytes_eq-Decides c.name y).0 f)
    by false f g r = let h = r g in (h.0, inr h.1, h.2)

-- bounds that a declaration gives
given_bounds : (ds : List Declaration) (y : List ℕ) (bs : List (ℤ × ℤ)) → opening_bounds ds y ≡ Some bs → (d : Declaration) × (declared ds y ≡ Some d) × (d.extent ≡ Given bs)
given_bounds [] y bs e = cc
given_bounds (d ∷ ds) y bs e = by (bytes_eq d.name y) refl e (λ f. given_bounds ds y bs f)
  where
    of_extent : (x : Extent) → ◌≡◌ {A = Option (List (ℤ × ℤ))} (elim x [ Given cs ↦ Some cs | Later n ↦ None ]) (Some bs) → x ≡ Given bs
    of_extent (Given cs) f = let same : cs ≡ bs = cc in ap (λ (bs : List (ℤ × ℤ)). Given bs) same
    of_extent (Later n) f = cc

    by : (b : Bool) → bytes_eq d.name y ≡ b → cond b (elim d.extent [ Given cs ↦ Some cs | Later n ↦ None ]) (opening_bounds ds y) ≡ Some bs
        → (opening_bounds ds y ≡ Some bs → (c : Declaration) × (declared ds y ≡ Some c) × (c.extent ≡ Given bs))
        → (c : Declaration) × (declared (d ∷ ds) y ≡ Some c) × (c.extent ≡ Given bs)
    by true f g r = (d, ap (λ b. cond b (Some d) (declared ds y)) f, of_extent d.extent g)
    by false f g r = let h = r g in (h.0, ap (λ b. cond b (Some d) (declared ds y)) f ∙ h.1, h.2)

-- ---- all of it

module _ (width : Width) (p b a : Program) (around : List (List ℕ)) (deepest deeper : ℕ) (m : Nest) (x : IsExpandedInPlaces p b a around deepest deeper m)
    (u : State) (may : MayRun width a (expanded m) u) (sized : HoldsSized u.store) where
  abbrev k : Nest
  k = expanded m

  abbrev w : Setting
  w = setting_at width may

  declared_there : HasDeclaredBounds (expanded m) (setting_at width may)
  declared_there y bs e =
      let d = given_bounds m.declarations y bs (ap (λ (ds : List Declaration). opening_bounds ds y) (sym (declarations_are m)) ∙ e) in
      let there = kept width p b a around deepest deeper m x y d.0 (x.may.among y d.0 d.1) (not_made width p b a around deepest deeper m x y (x.may.source y d.0 d.1)) in
      by d.0 d.2 (subst (λ (o : Option Declaration). IfSome o (λ (f : Declaration). HasBounds f.extent (u.store.bounds y))) there (may.holds.bounds y))
    where
      by : (d : Declaration) → d.extent ≡ Given bs → HasBounds d.extent (u.store.bounds y) → u.store.bounds y ≡ Some bs
      by d same h = subst (λ (f : Extent). HasBounds f (u.store.bounds y)) same h

  -- ---- one reference

  module _ (s : ℕ) (y z : Standing) (there : nth_of (nest_statements (expanded m)) s ≡ Some y) (inside : In y (nest_statements (expanded m)))
      (first : In z (nest_statements m)) (is : y ≡ record { loops = z.loops; statement = rewritten_statement (expanding (private_scalars m)) z.statement }) where
    st : IsPreparedStatement b.declarations m deepest z
    st = all_in (IsPreparedStatement b.declarations m deepest) (nest_statements m) x.before.parts.statements z first

    behind : IsPreparedStatement a.declarations (expanded m) deeper y
    behind = all_in (IsPreparedStatement a.declarations (expanded m) deeper) (nest_statements (expanded m)) x.behind.parts.statements y inside

    -- a scalar that stays has its cell
    scalar_cells : (r : Reference) → In r (y.statement.left ∷ read_by (private_scalars m) y.statement) → (c : Made) → In c m.made
        → named_private (private_scalars m) c.name ≡ None → c.name ≡ r.name → HasCells (run_nest (expanded m)) (setting_at width may) s r
    scalar_cells r i c j none same = record {
      linear = subst (AreLinear (run_nest (expanded m)) s) (sym bare) tt;
      names = λ o instance at. record {
        cell = record { name = r.name; subscripts = [] };
        may = record { name = refl; subscripts = subst (λ (qs : Subscripts). MayHaveEach (run_nest (expanded m)) may.values o.statement o.iterations qs []) (sym bare) tt };
        within = ap (λ (e : Option (List (ℤ × ℤ))). cell_in e r.name []) bounds;
      };
    }
      where
        scalar : IsSomeAnd (declared a.declarations r.name) (λ (d : Declaration). (d.kind ≡ c.kind) × (d.extent ≡ Given []))
        scalar = subst (λ n. IsSomeAnd (declared a.declarations n) (λ (d : Declaration). (d.kind ≡ c.kind) × (d.extent ≡ Given []))) same
            (made_scalar_there width p b a around deepest deeper m x c j none)

        given : IsSomeAnd (declared a.declarations r.name) (λ (d : Declaration). d.extent ≡ Given [])
        given = by (declared a.declarations r.name) scalar
          where
            by : (o : Option Declaration) → IsSomeAnd o (λ (d : Declaration). (d.kind ≡ c.kind) × (d.extent ≡ Given [])) → IsSomeAnd o (λ (d : Declaration). d.extent ≡ Given [])
            by None h = absurd h
            by (Some d) h = h.1

        bare : r.subscripts ≡ no_subscripts
        bare = scalar_has_none a.declarations r given
            (all_suit (private_scalars m) a.declarations (expanded m) deeper y behind r (read_in_all (private_scalars m) y.statement r i))

        bounds : u.store.bounds r.name ≡ Some []
        bounds = by (declared a.declarations r.name) given (may.holds.bounds r.name)
          where
            by : (o : Option Declaration) → IsSomeAnd o (λ (d : Declaration). d.extent ≡ Given []) → IfSome o (λ (d : Declaration). HasBounds d.extent (u.store.bounds r.name)) → u.store.bounds r.name ≡ Some []
            by None h g = absurd h
            by (Some d) h g = subst (λ (f : Extent). HasBounds f (u.store.bounds r.name)) h g

    -- ---- elements

    module _ (q : Private) (among : In q (private_scalars m)) (loops : q.loops ≡ map round_loop y.loops) where
      variables_are : map (λ (l : RoundLoop). l.variable) q.loops ≡ variables_of_loops y.loops
      variables_are = ap (map (λ (l : RoundLoop). l.variable)) loops ∙ each y.loops
        where
          each : (ls : List Loop) → map (λ (l : RoundLoop). l.variable) (map round_loop ls) ≡ variables_of_loops ls
          each [] = refl
          each (l ∷ ls) = ap (λ ys. l.variable ∷ ys) (each ls)

      name_there : (l : RoundLoop) → In l q.loops → In l.variable (variables_of_loops y.loops)
      name_there l i = subst (In l.variable) variables_are (map-In (λ (n : RoundLoop). n.variable) l q.loops i)

      -- in an instance at these iterations
      module _ (js : List ℕ) (turns : Within ((run_nest (expanded m)).turns_of may.values) [] (numbers_of y.loops) js) where
        covers : is_within (limits_of (length m.symbols) may.values (pos 1) q) (numbers js) ≡ true
        covers =
            covered m may.values (pos 1) (omega (arith, ints)) q among y.loops loops js
            (subst (λ (ss : List (List ℕ)). AreTurns (trip_at (length ss) may.values) [] y.loops js) (symbols_are m)
            (at_turns a.declarations around deeper (expanded m) x.behind may.values s y there inside js turns))

        cell_there : cell_in (u.store.bounds q.array) q.array (numbers js) ≡ Ok (element_cell q js)
        cell_there =
            ap (λ (o : Option (List (ℤ × ℤ))). cell_in o q.array (numbers js))
            (limits_there width p b a around deepest deeper m x u may sized may.values (may_valued width p b a around deepest deeper m x u may sized) q among)
            ∙ ap (λ (t : Bool). cond t (Ok (element_cell q js)) (Err Bounds)) covers

        each_there : Pairs (Here (run_nest (expanded m)) may.values s js) (map (λ (l : RoundLoop). l.variable) q.loops) js
        each_there =
            subst (λ (ys : List (List ℕ)). Pairs (Here (run_nest (expanded m)) may.values s js) ys js) (sym variables_are)
            (each_here a.declarations around deeper (expanded m) x.behind may.values s y there inside js turns)

      names_cell : (o : Instance) → IsInstance (run_nest (expanded m)).loops_of ((run_nest (expanded m)).turns_of may.values) (run_nest (expanded m)).shape o → o.statement ≡ s
          → NamesCell (run_nest (expanded m)) (setting_at width may) o (element q)
      names_cell o instance at =
          let turns = subst (λ (ls : List ℕ). Within ((run_nest (expanded m)).turns_of may.values) [] ls o.iterations)
          (ap (run_nest (expanded m)).loops_of at ∙ ap rounds_of there) instance.1 in
          record {
            cell = element_cell q o.iterations;
            may = record {
              name = refl;
              subscripts = subst (λ (t : ℕ). MayHaveEach (run_nest (expanded m)) may.values t o.iterations (element q).subscripts (numbers o.iterations)) (sym at)
                  (has_each (run_nest (expanded m)) may.values s o.iterations q.loops o.iterations (each_there o.iterations turns));
            };
            within = cell_there o.iterations turns;
          }

      element_cells : HasCells (run_nest (expanded m)) (setting_at width may) s (element q)
      element_cells = record {
        linear = are_linear (run_nest (expanded m)) s q.loops
            (λ l i. linear_variable a.declarations around deeper (expanded m) x.behind may.values s y there inside l.variable (name_there l i));
        names = names_cell;
      }

    -- ---- whichever it is

    cells : (r : Reference) → In r (y.statement.left ∷ read_by (private_scalars m) y.statement) → is_made (expanded m) r.name ≡ true
        → HasCells (run_nest (expanded m)) (setting_at width may) s r
    cells r i e =
        let c = made_named (expanded m).made r.name e in
        let j = subst (In c.0) (made_are m) c.1 in
        by c.0 c.1 j c.2 (of_statement (private_scalars m) z.statement st.plain.0 st.plain.2 st.plain.1 r
        (subst (λ (v : Standing). In r (v.statement.left ∷ read_by (private_scalars m) v.statement)) is i))
      where
        by : (c : Made) → In c (expanded m).made → In c (made_before m.symbols (private_scalars m) m.made ++ made_now m.symbols (private_scalars m)) → c.name ≡ r.name
            → ComesFrom (private_scalars m) (all_of (private_scalars m) z.statement) r → HasCells (run_nest (expanded m)) (setting_at width may) s r
        by c k j same (inl h) =
            let st_here = subst (λ n. stands_in_statement n z.statement ≡ true) h.name
            (stands (private_scalars m) z.statement st.plain.0 st.plain.1 st.plain.2 h.first h.inside) in
            let round = loops_round m x.before.plain (distinct_too (numbers_of (nest_loops m)) x.before.parts.once) h.scalar h.among z first st_here in
            subst (HasCells (run_nest (expanded m)) (setting_at width may) s) (sym h.is)
            (element_cells h.scalar h.among (round ∙ ap (λ (v : Standing). map round_loop v.loops) (sym is)))
        by c k j same (inr (inl h)) =
            let n = names_scalar b.declarations around deepest m x.before x.may z first r h c j same in
            scalar_cells r i c n.0 n.1 same
        by c k j same (inr (inr h)) =
            let n = counts_by b.declarations around deepest m x.before x.may h.scalar h.among h.loop h.inside in
            absurd ((all_in (IsPreparedMade a.declarations (expanded m).symbols deeper) (expanded m).made x.behind.parts.made c k).counter n.0 (same ∙ (h.name ∙ n.1)))

pub expanded_nest_has_guarded_names : (width : Width) → ExpandedNestHasGuardedNames width
expanded_nest_has_guarded_names width p b a around deepest deeper m u x may sized s within guarded = record {
  declared = declared_there width p b a around deepest deeper m x u may sized;
  made = λ r i e. by (statement_made m x.before.plain (standing_at (expanded m) s) inside) r i e;
}
  where
    inside : In (standing_at (expanded m) s) (nest_statements (expanded m))
    inside = at_in (nest_statements (expanded m)) s no_statement within

    there : nth_of (nest_statements (expanded m)) s ≡ Some (standing_at (expanded m) s)
    there = nth_at (nest_statements (expanded m)) s no_statement within

    by : IsMadeOf (expanding (private_scalars m)) (nest_statements m) (standing_at (expanded m) s) → (r : Reference) → IsReferenceOf (run_nest (expanded m)) s r → is_made (expanded m) r.name ≡ true
        → HasCells (run_nest (expanded m)) (setting_at width may) s r
    by (inr none) r i e = absurd (guarded none)
    by (inl h) r i e =
        cells width p b a around deepest deeper m x u may sized s (standing_at (expanded m) s) h.first there inside h.inside h.is r
        (subst (λ (g : runs.GuardedAssignment). In r (g.left ∷ references_read g)) (ap guarded_of there) i) e
