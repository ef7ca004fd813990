-- From the moment before expansion the nest's run is followed by that of the expanded nest.
use Rattle.std.proofs.Common.{◌≡◌, inl, inr, refl, sym, ap, ◌∙◌, subst, ℕ, ℤ, pos, Bool, true, false, cond, List, [], ◌∷◌, ◌++◌, length, Result, Ok, Err, Option, Some, None, IfSome, Contains, arith}
use Rattle.std.specs.Option.{IsSomeAnd}
use Rattle.std.specs.Str.{bytes_eq}
use Rattle.std.proofs.lemmas.Slice.Eq.{bytes_eq-Decides}
use Rattle.tree.specs.Names.{IsSourceName}
use Rattle.tree.specs.Plain.{Declaration, Extent, Program}
use Rattle.tree.specs.declared.ops.Fault.{Fault}
use Rattle.tree.specs.declared.ops.Fault.TheVariants.{Bounds}
use Rattle.linear_forms.specs.Laws.{HoldsSized}
use Rattle.meaning.specs.Dialect.{fortran77}
use Rattle.tree.specs.declared.width.Width.{Width}
use Rattle.meaning.specs.Holding.{HasBounds, IsStorable}
use Rattle.meaning.specs.Run.{State, does_all}
use Rattle.meaning.specs.Store.{Cell, IsCell, cell_in, is_within, names_of, nought_like}
use Rattle.meaning.specs.Typed.{declared}
use Rattle.meaning_laws.proofs.dialects.MadeNames.{is_declared}
use Rattle.meaning_laws.proofs.profiles.Programs.{kept_declaration}
use Rattle.nest.specs.Plain.{Made, Nest}
use Rattle.nest_order.specs.orders.Lists.{In}
use Rattle.nest_steps.specs.Keeping.{GoOnAlike}
use Rattle.nest_steps.specs.Leading.{Led}
use Rattle.nest_steps.specs.Statements.{cell_of}
use Rattle.pass_laws.proofs.NormalFacts.MadeStatements.{counter_long}
use Rattle.pass_laws.proofs.NormalFacts.Tables.{all_in, each_from}
use Rattle.pass_laws.proofs.ReadyNests.Lists.{Each-All}
use Rattle.pass_laws.specs.prepared_nests.After.{CountsNone}
use Rattle.pass_laws.specs.prepared_nests.Made.{AreBoundsBy, IsPreparedMade, extent_for}
use Rattle.pass_laws.specs.prepared_nests.Statements.{made_names}
use Rattle.pass_laws.specs.prepared_runs.Running.{MayRun, loops_then_after}
use Rattle.rewrite.specs.Following.{IsSound}
use Rattle.scalar_expand.proofs.Changes.{found}
use Rattle.scalar_expand.specs.Endings.{AreSettled}
use Rattle.scalar_expand.specs.Expanded.{declared_privates, expanded, named_private}
use Rattle.scalar_expand.specs.Laws.{own_of}
use Rattle.scalar_expand.specs.Numbers.{ends_of, limits_of}
use Rattle.scalar_expand.specs.Privates.{private_or_none, private_scalars}
use Rattle.scalar_expand.specs.Stores.{arrays}
use Rattle.scalar_expand.specs.declared.privates.Private.{Private}
use Rattle.prepared_passes.specs.expansion.Laws.{counters_of}
use Rattle.prepared_passes.specs.expansion.Runs.{IsSettled}
use Rattle.prepared_passes.specs.expansion.Places.{ExpandedNestIsBegunBefore, IsExpandedInPlaces}
use Rattle.prepared_passes.proofs.ExpandedNests.After.{prepared_nest_runs_expanded}
use Rattle.prepared_passes.proofs.ExpandedNests.Before.{agrees_before, earlier, holds_before, made_private, not_made, others_before, sized_before}
use Rattle.prepared_passes.proofs.ExpandedNests.Beginning.{alike, in_place, number_at, symbol_kept, values, wide}
use Rattle.prepared_passes.proofs.ExpandedNests.KeptKinds.{one_kind, run_keeps_kinds}
use Rattle.prepared_passes.proofs.ExpandedNests.MadeArrays.{name_in}
use Rattle.prepared_passes.proofs.ExpandedNests.Names.{source_no_array}
use Rattle.tree.specs.Widths.{bits_of}
use Rattle.meaning.proofs.Widths.{narrowest}

-- ---- private scalars that the program declares

own_in : (ps : List Private) (ds : List Declaration) (q : Private) (d : Declaration) → named_private ps q.name ≡ Some q → declared ds q.name ≡ Some d
    → In q (declared_privates ps ds)
own_in ps [] q d is e = cc
own_in ps (c ∷ ds) q d is e = by (bytes_eq c.name q.name) refl e (λ f. own_in ps ds q d is f)
  where
    first : (o : Option Private) → o ≡ Some q → In q (private_or_none o ++ declared_privates ps ds)
    first None f = cc
    first (Some r) f = inl (let same : r ≡ q = cc in sym same)

    later : (o : Option Private) → In q (declared_privates ps ds) → In q (private_or_none o ++ declared_privates ps ds)
    later None i = i
    later (Some r) i = inr i

    by : (t : Bool) → bytes_eq c.name q.name ≡ t → cond t (Some c) (declared ds q.name) ≡ Some d → (declared ds q.name ≡ Some d → In q (declared_privates ps ds))
        → In q (private_or_none (named_private ps c.name) ++ declared_privates ps ds)
    by true f g r = first (named_private ps c.name) (ap (named_private ps) ((bytes_eq-Decides c.name q.name).0 f) ∙ is)
    by false f g r = later (named_private ps c.name) (r g)

-- a scalar has one cell
scalar_cell : (b : Option (List (ℤ × ℤ))) (c : Cell) → b ≡ Some [] → cell_in b c.name c.subscripts ≡ Ok c → c ≡ cell_of c.name
scalar_cell b c e f = by c.subscripts (ap (λ (o : Option (List (ℤ × ℤ))). cell_in o c.name c.subscripts) (sym e) ∙ f) refl
  where
    by : (is : List ℤ) → ◌≡◌ {A = Result Cell Fault} (cond (is_within [] is) (Ok (record { name = c.name; subscripts = is })) (Err Bounds)) (Ok c)
        → c.subscripts ≡ is → c ≡ cell_of c.name
    by [] g same = ap (λ (is : List ℤ). (let d : Cell = record { name = c.name; subscripts = is } in d)) same
    by (i ∷ is) g same = cc

module _ (width : Width) (p b a : Program) (around : List (List ℕ)) (deepest deeper : ℕ) (m : Nest) (x : IsExpandedInPlaces p b a around deepest deeper m)
    (u : State) (may : MayRun width a (expanded m) u) (sized : HoldsSized u.store) where
  abbrev v : State
  v = record u { store = earlier m u.store }

  abbrev limits : Private → List (ℤ × ℤ)
  limits = limits_of (length m.symbols) (values width p b a around deepest deeper m x u may sized) (pos 1)

  abbrev lasts : Private → List ℕ
  lasts = ends_of (length m.symbols) (values width p b a around deepest deeper m x u may sized)

  -- ---- the nest may be run there

  scalar_there : (c : Made) → In c m.made → IsSomeAnd ((earlier m u.store).bounds c.name) (AreBoundsBy m.symbols (values width p b a around deepest deeper m x u may sized) c.extents)
  scalar_there c i =
      let is = all_in (IsPreparedMade b.declarations m.symbols deepest) m.made x.before.parts.made c i in
      let none = all_in (λ (c : Made). c.extents ≡ []) m.made x.scalars c i in
      by (declared b.declarations c.name) is.declaration ((holds_before width p b a around deepest deeper m x u.store may.holds sized).bounds c.name) none
    where
      by : (o : Option Declaration) → IsSomeAnd o (λ (d : Declaration). (d.kind ≡ c.kind) × (d.extent ≡ extent_for c.extents))
          → IfSome o (λ (d : Declaration). HasBounds d.extent ((earlier m u.store).bounds c.name)) → c.extents ≡ []
          → IsSomeAnd ((earlier m u.store).bounds c.name) (AreBoundsBy m.symbols (values width p b a around deepest deeper m x u may sized) c.extents)
      by None h g none = absurd h
      by (Some d) h g none =
          let there : (earlier m u.store).bounds c.name ≡ Some [] = subst (λ (e : Extent). HasBounds e ((earlier m u.store).bounds c.name)) (h.1 ∙ ap extent_for none) g in
          subst (λ (o : Option (List (ℤ × ℤ))). IsSomeAnd o (AreBoundsBy m.symbols (values width p b a around deepest deeper m x u may sized) c.extents)) (sym there)
          (subst (λ es. AreBoundsBy m.symbols (values width p b a around deepest deeper m x u may sized) es []) (sym none) tt)

  may_before : MayRun width b m v
  may_before = record {
    going = may.going;
    holds = holds_before width p b a around deepest deeper m x u.store may.holds sized;
    values = values width p b a around deepest deeper m x u may sized;
    valued = λ k y e. (let n = number_at width p b a around deepest deeper m x u may sized k y e in
        let i = in_place m.symbols k y e in
        (symbol_kept width p b a around deepest deeper m x u may sized y i).1 (cell_of y) refl ∙ n.held);
    made = Each-All (λ (c : Made). IsSomeAnd ((earlier m u.store).bounds c.name) (AreBoundsBy m.symbols (values width p b a around deepest deeper m x u may sized) c.extents)) m.made
        (each_from (λ (c : Made). IsSomeAnd ((earlier m u.store).bounds c.name) (AreBoundsBy m.symbols (values width p b a around deepest deeper m x u may sized) c.extents)) m.made scalar_there);
  }

  -- ---- names of the program

  module _ (y : List ℕ) (i : Contains (names_of p) y) where
    source : IsSourceName y
    source = x.places.source y i

    counts_none : CountsNone y
    counts_none k e = counter_long y k source.within e

    no_array : ¬ In y (arrays (private_scalars m))
    no_array = source_no_array b.declarations around deepest m x.before x.may y source

    -- a private scalar of the program's is one that it declares
    own : (q : Private) → named_private (private_scalars m) y ≡ Some q → In q (own_of m)
    own q e = let f = found (private_scalars m) y q e in by f.0 f.1 (declared m.declarations q.name) refl
      where
        by : In q (private_scalars m) → q.name ≡ y → (w : Option Declaration) → declared m.declarations q.name ≡ w → In q (own_of m)
        by i is (Some d) g = own_in (private_scalars m) m.declarations q d (ap (named_private (private_scalars m)) is ∙ e) g
        by i is None g =
            let c = made_private width p b a around deepest deeper m x q i g in
            absurd (not_made width p b a around deepest deeper m x y source (subst (λ z. Contains (made_names m) z) (c.2 ∙ is) (name_in m.made c.0 c.1)))

  -- ---- the end

  module _ (sound : IsSound (does_all (fortran77 width) None (loops_then_after m) v).way) where
    settled : IsSettled (bits_of width) m (values width p b a around deepest deeper m x u may sized) (does_all (fortran77 width) None (loops_then_after m) v)
        (does_all (fortran77 width) None (loops_then_after (expanded m)) u)
    settled =
        prepared_nest_runs_expanded (bits_of width) b.declarations around deepest m x.loop x.body (values width p b a around deepest deeper m x u may sized) v u.store u.steps
        (narrowest width) x.before x.turns x.may x.free (wide width p b a around deepest deeper m x u may sized) may.going
        (alike width p b a around deepest deeper m x u may sized) sound

    led : Led (AreSettled (bits_of width) m limits lasts (counters_of m) settled.value) (does_all (fortran77 width) None (loops_then_after m) v)
        (does_all (fortran77 width) None (loops_then_after (expanded m)) u)
    led = settled.led

    abbrev s : State
    s = does_all (fortran77 width) None (loops_then_after m) v

    abbrev t : State
    t = does_all (fortran77 width) None (loops_then_after (expanded m)) u

    sound_behind : IsSound t.way
    sound_behind = subst IsSound (sym (ap (λ (r : State). r.way) led.rest ∙ led.going)) tt

    kinds : (c : Cell) → Contains (names_of p) c.name → nought_like (s.store.held c) ≡ nought_like (t.store.held c)
    kinds c i =
        let d = is_declared p.declarations c.name i in
        let k = run_keeps_kinds width b around deepest m v x.before may_before sound c (counts_none c.name i) in
        let l = run_keeps_kinds width a around deeper (expanded m) u x.behind may sound_behind c (counts_none c.name i) in
        let one = subst (λ (o : Option Declaration). IfSome o (λ (e : Declaration). IsStorable (fortran77 width) e.kind (s.store.held c)))
        (kept_declaration p.declarations b.declarations x.places.before c.name d.0 d.1) k in
        let two = subst (λ (o : Option Declaration). IfSome o (λ (e : Declaration). IsStorable (fortran77 width) e.kind (t.store.held c)))
        (kept_declaration p.declarations a.declarations x.places.behind c.name d.0 d.1) l in
        one_kind d.0.kind (s.store.held c) (t.store.held c) one.kind two.kind

    same_bounds : (y : List ℕ) → Contains (names_of p) y → s.store.bounds y ≡ t.store.bounds y
    same_bounds y i = by (named_private (private_scalars m) y) refl
      where
        by : (o : Option Private) → named_private (private_scalars m) y ≡ o → s.store.bounds y ≡ t.store.bounds y
        by None e = sym (led.stores.beside.bounds y e (no_array y i))
        by (Some q) e =
            let f = found (private_scalars m) y q e in
            led.stores.beside.scalars y q e ∙ sym (subst (λ z. t.store.bounds z ≡ Some []) f.1 (led.stores.beside.own q f.0 (own y i q e)))

    same_held : (c : Cell) → Contains (names_of p) c.name → IsCell s.store c → s.store.held c ≡ t.store.held c
    same_held c i here = by (named_private (private_scalars m) c.name) refl
      where
        by : (o : Option Private) → named_private (private_scalars m) c.name ≡ o → s.store.held c ≡ t.store.held c
        by None e = sym (led.stores.beside.held c e (no_array c.name i))
        by (Some q) e =
            let f = found (private_scalars m) c.name q e in
            let one = scalar_cell (s.store.bounds c.name) c (led.stores.beside.scalars c.name q e) here ∙ ap cell_of (sym f.1) in
            sym (subst (λ (d : Cell). t.store.held d ≡ s.store.held d) (sym one) (led.stores.kept q f.0 (own c.name i q e)))

    goes_on : GoOnAlike p s t
    goes_on = record {
      going = led.going;
      agree = record { bounds = same_bounds; held = same_held; kinds = kinds };
      rest = led.rest;
    }

pub expanded_nest_is_begun_before : (width : Width) → ExpandedNestIsBegunBefore width
expanded_nest_is_begun_before width p b a around deepest deeper m u x may sized = record {
  state = record u { store = earlier m u.store };
  holds = holds_before width p b a around deepest deeper m x u.store may.holds sized;
  sized = sized_before width p b a around deepest deeper m x u.store may.holds sized;
  others = others_before width p b a around deepest deeper m x u.store may.holds sized;
  alike = record {
    going = may.going;
    agree = agrees_before width p b a around deepest deeper m x u.store may.holds sized;
    rest = refl;
  };
  leads = λ sound. goes_on width p b a around deepest deeper m x u may sized sound;
}
