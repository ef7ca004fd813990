-- What stands in the place of a nest does what the nest's loop does: its arrays come to be, what was emitted goes on as
-- the last nest does, which goes on as the loop, and the arrays go. The nests before the last one are looked at in a
-- program in which masks are scalars, at a moment that goes with that at which the arrays are there.
use Rattle.std.proofs.Common.{◌≡◌, refl, sym, ap, ◌∙◌, subst, ℕ, ◌+◌, ℤ, Bool, false, List, [], ◌∷◌, ◌++◌}
use Rattle.std.proofs.Common.{Option, Some, None, Contains, arith}
use Rattle.std.specs.Option.{IsSomeAnd}
use Rattle.std.specs.Prelude.{All, unwrap_or}
use Rattle.listing.proofs.arrays.GuardedNames.{arranged_nest_has_guarded_names}
use Rattle.prepared_passes.proofs.ArrangedNests.GoesOn.{arranged_nest_goes_on_as_nest}
use Rattle.emission.specs.emission_forms.Written.{HaveGuardedNames}
use Rattle.emission.specs.emission_pieces.Pieces.{Pieces, block_of_pieces}
use Rattle.emission.specs.graph_orders.Nests.{run_nest}
use Rattle.prepared_passes.proofs.ExpandedNests.Begun.{expanded_nest_is_begun_before}
use Rattle.prepared_passes.specs.expansion.Before.{before_expansion}
use Rattle.prepared_passes.specs.expansion.Found.{IsFoundInPlaces, expanded_depth}
use Rattle.prepared_passes.specs.expansion.Unexpanded.{unexpanded_depth}
use Rattle.prepared_passes.specs.expansion.Places.{IsBegunBefore}
use Rattle.find_nests.specs.Found.{InNest, found_in}
use Rattle.find_nests.specs.Laws.{IsFoundNest}
use Rattle.find_nests.specs.Loops.{as_statement}
use Rattle.interchange.specs.Arranged.{arranged, vectors_of}
use Rattle.linear_forms.specs.Laws.{HoldsSized}
use Rattle.listing.proofs.programs.Arranging.{arranged_rest, last_depth}
use Rattle.listing.proofs.programs.Splitting.{split_so}
use Rattle.listing.specs.programs.Stages.{with_copies_before}
use Rattle.dependence_graph.specs.declared.graphs.Place.{Place}
use Rattle.dependence_graph.specs.nest_graph.Graph.{IsGraphOf}
use Rattle.node_splitting.specs.Split.{made_arrays as arrays_of_copies, with_nodes_split}
use Rattle.prepared_passes.proofs.SplitNests.Runs.{split_nest_goes_on_as_nest}
use Rattle.prepared_passes.proofs.SplitNests.Standing.{no_source}
use Rattle.prepared_passes.specs.splitting.Laws.{split_rise}
use Rattle.prepared_passes.specs.splitting.Splits.{IsCopyName, MayBeSplit, nodes_split}
use Rattle.meaning.proofs.Agreeing.{statements_keep_agreement}
use Rattle.meaning.specs.Agreement.{MomentsAgree}
use Rattle.meaning.specs.Reads.{names_in_block}
use Rattle.meaning.specs.Blocks.{Surroundings}
use Rattle.meaning.specs.Dialect.{fortran77, fortran90}
use Rattle.tree.specs.declared.width.Width.{Width}
use Rattle.meaning.specs.Holding.{HoldsProgram}
use Rattle.meaning.specs.Profile77.{IsDeclaration, IsProgram77}
use Rattle.meaning.specs.Profile90.{IsBlock}
use Rattle.meaning.specs.Run.{Going, State, does, does_all}
use Rattle.meaning.specs.Store.{Agree, Cell, Store, names_of, nought_like}
use Rattle.meaning.specs.Typed.{declared}
use Rattle.meaning_laws.proofs.dialects.MadeNames.{is_declared}
use Rattle.meaning_laws.proofs.dialects.NamesIn.{among}
use Rattle.meaning_laws.proofs.profiles.Lists.{all_at}
use Rattle.meaning_laws.proofs.profiles.Names as declarations
use Rattle.meaning_laws.proofs.profiles.Programs.{as_it_stands, kept_declaration}
use Rattle.meaning_laws.proofs.profiles.TargetRuns.{statements_keep_stores}
use Rattle.meaning_laws.proofs.profiles.Targets.{block_is}
use Rattle.meaning_laws.specs.profiles.Profiles.{AddMadeNames}
use Rattle.nest.specs.Allocations.{allocation_then, allocations_then, block_then, deallocation_then, deallocations}
use Rattle.nest.specs.Bodies.{nest_loops}
use Rattle.nest.specs.Plain.{Loop, Made, Nest}
use Rattle.nest_order.specs.runs.Guarded.{variable_cell}
use Rattle.nest_order.specs.runs.Nests.{is_nest_variable}
use Rattle.nest_order.specs.runs.Touched.{nth_of}
use Rattle.nest_steps.specs.Keeping.{GoOnAlike}
use Rattle.pass_laws.proofs.NormalFacts.MadeStatements.{counter_long}
use Rattle.nest_order.proofs.orders.Lists.{In-left}
use Rattle.pass_laws.proofs.NormalFacts.Tables.{all_in, each_from}
use Rattle.pass_laws.proofs.ReadyNests.Lists.{Each-All}
use Rattle.pass_laws.specs.normal_facts.Laws.{IsCounter}
use Rattle.pass_laws.specs.prepared_nests.Made.{AreBoundsBy, AreOf64Bits}
use Rattle.pass_laws.specs.prepared_nests.Nests.{IsPrepared, IsPreparedSymbol}
use Rattle.pass_laws.proofs.PreparedRuns.Allocations.{arrays_are_allocated, arrays_are_deallocated}
use Rattle.pass_laws.proofs.PreparedRuns.Counters.{no_variable}
use Rattle.pass_laws.proofs.PreparedRuns.Endings.{endings_no_label}
use Rattle.pass_laws.proofs.PreparedRuns.Found.{short_name, with_rest}
use Rattle.pass_laws.proofs.PreparedRuns.Pieces.{does_then, pieces_no_label, then_no_label}
use Rattle.pass_laws.proofs.PreparedRuns.Together.{in_list, pieces_go_on_as_nest}
use Rattle.pass_laws.proofs.PreparedRuns.Symbols.{IsNumber, holds_number, value_there, values_in, values_sized}
use Rattle.pass_laws.specs.prepared_runs.Allocations.{HoldSymbols, IsAllocated, IsDeallocated, made_arrays}
use Rattle.pass_laws.specs.prepared_runs.Running.{GoOnTogether, MayRun, loops_then_after, pieces_then_after, setting_at}
use Rattle.pass_laws.specs.prepared_runs.Unlabelled.{HasNoLabel}
use Rattle.rewrite.specs.Following.{IsSound}
use Rattle.scalar_expand.specs.Expanded.{expanded}
use Rattle.tree.specs.Names.{IsSourceName}
use Rattle.tree.specs.Plain.{Block, Declaration, Expression, Program, Statement, no_statements, statement}
use Rattle.translation.proofs.NestTranslation.Arrays.{arrays_free, free_again, made_apart, made_still, none_of_source}
use Rattle.translation.proofs.NestTranslation.Arrays.{of_77, of_90, sized_still}
use Rattle.translation.proofs.NestTranslation.Bounds.{sequential_keeps_bounds}
use Rattle.translation.proofs.NestTranslation.Cleaned.{add_both, agree_back, agree_fewer, agree_on, alike_then, cleaned, cleaned_agrees}
use Rattle.translation.proofs.NestTranslation.Cleaned.{cleaned_holds, cleaned_sized, same_agree}
use Rattle.translation.proofs.NestTranslation.Converted.{unexpanded_nest_goes_on_as_loop}
use Rattle.translation.proofs.Converting.{last_is, may_of}
use Rattle.translation.proofs.NestTranslation.Prepared.{counted_nest_is_prepared, passed_nest_is_in_places}
use Rattle.translation.proofs.NestTranslation.Prepared.{passed_nest_is_prepared, passed_nest_may_be_split}
use Rattle.translation.proofs.NestTranslation.Prepared.{split_nest_is_prepared_there}
use Rattle.translation.proofs.PlacedProfile.SourceNames.{source_name}
use Rattle.translation.proofs.ProgramTranslation.Standing.{Stands, loop_stands}
use Rattle.translation.specs.nest_translation.Laws.{AreMadeDeclared, IsTranslatedNest, TranslationDoesAsLoop}
use Rattle.translation.specs.placed_loops.Beside.{AreBeside}

-- ---- names

-- a name that is declared in p is declared in q
more_names : (p q : Program) → AddMadeNames p.declarations q.declarations → (x : List ℕ) → Contains (names_of p) x
    → Contains (names_of q) x
more_names p q add x i =
    let d = is_declared p.declarations x i in
    among q.declarations x (λ e. Unit {0})
    (subst (λ o. IsSomeAnd o (λ (e : Declaration). Unit {0}))
    (sym (kept_declaration p.declarations q.declarations add x d.0 d.1)) tt)

number_of : (es : List Declaration) (x : List ℕ) → IsSomeAnd (declared es x) IsCounter → IsNumber es x
number_of es x h = by (declared es x) refl h
  where
    by : (o : Option Declaration) → declared es x ≡ o → IsSomeAnd o IsCounter → IsNumber es x
    by None e g = absurd g
    by (Some d) e g = record { declaration = d; is = e; kind = g.kind; extent = g.scalar }

-- ---- moments

-- what goes on like one moment does so like each other one that does
alike_beside : (p : Program) (s t u : State) → GoOnAlike p s u → GoOnAlike p t u → GoOnAlike p s t
alike_beside p s t u h g = record {
  going = h.going;
  agree = agree_on p s.store u.store t.store h.agree (agree_back p t.store u.store g.agree);
  rest =
      with_rest t s (sym (ap (λ (x : State). x.written) g.rest) ∙ ap (λ (x : State). x.written) h.rest)
      (sym (ap (λ (x : State). x.input) g.rest) ∙ ap (λ (x : State). x.input) h.rest)
      (sym (ap (λ (x : State). x.had_value) g.rest) ∙ ap (λ (x : State). x.had_value) h.rest)
      (sym (ap (λ (x : State). x.way) g.rest) ∙ ap (λ (x : State). x.way) h.rest);
}

-- ---- blocks

allocations_no_label : (line : ℕ) (ms : List Made) (b : Block) → HasNoLabel b → HasNoLabel (allocations_then line ms b)
allocations_no_label line [] b h = h
allocations_no_label line (a ∷ ms) b h = by a.extents (allocations_no_label line ms b h)
  where
    by : (es : List Expression) → HasNoLabel (allocations_then line ms b)
        → HasNoLabel (allocation_then line a.name es (allocations_then line ms b))
    by [] k = k
    by (e ∷ es) k = (tt, k)

deallocations_no_label : (line : ℕ) (ms : List Made) → HasNoLabel (deallocations line ms)
deallocations_no_label line [] = tt
deallocations_no_label line (a ∷ ms) = by a.extents (deallocations_no_label line ms)
  where
    by : (es : List Expression) → HasNoLabel (deallocations line ms)
        → HasNoLabel (deallocation_then line a.name es (deallocations line ms))
    by [] k = k
    by (e ∷ es) k = (tt, k)

module _ (width : Width) (p q r : Program) (n m : Nest) (b : Block) (w : Surroundings) (found : IsFoundNest p n)
    (program : IsProgram77 (fortran77 width) p) (is_nest : Contains (found_in p) (InNest n))
    (add : AddMadeNames p.declarations q.declarations) (more : AddMadeNames q.declarations r.declarations)
    (translated : IsTranslatedNest n m b)
    (counters : All (λ (l : Loop). IsSomeAnd (declared r.declarations l.variable) IsCounter)
    (nest_loops translated.passed.normal)) (made : AreMadeDeclared r m)
    (names : All (Contains (names_of q)) (names_in_block b)) (block : IsBlock q.declarations b w) where
  abbrev c : Statement
  c = as_statement found.loop.loop.loop

  abbrev ps : Pieces
  ps = translated.pieces

  all : AddMadeNames p.declarations r.declarations
  all = add_both p.declarations q.declarations r.declarations add more

  stands : Stands width program found.loop
  stands = loop_stands width program found.loop found.stands

  abbrev around : List (List ℕ)
  around = stands.round.variables

  -- the nest before private scalars become arrays, and the program in which it stands
  abbrev k : Nest
  k = translated.passed.named

  abbrev before : Program
  before = before_expansion r k

  in_places : IsFoundInPlaces width p r translated.passed.normal translated.passed.converted k translated.counts.masks around
  in_places =
      passed_nest_is_in_places width p translated.counts n m stands.round found program is_nest translated.passed stands.named
      stands.is r all counters made

  -- and with arrays for these, before its loops are moved
  abbrev x : Nest
  x = expanded k

  prepared_before : IsPrepared r.declarations around expanded_depth x
  prepared_before = in_places.places.behind

  -- in which reads are copied
  abbrev may_copy : Place → Bool
  may_copy = may_of translated.counts n m translated.passed

  abbrev y : Nest
  y = with_copies_before translated.counts.copies (expanded translated.passed.named)

  abbrev copying : Nest
  copying = nodes_split (may_of translated.counts n m translated.passed)
      (with_copies_before translated.counts.copies (expanded translated.passed.named))

  copying_is : translated.passed.split ≡ copying
  copying_is =
      split_so y translated.passed.split translated.passed.split_graph translated.passed.graph translated.passed.is_split

  last_so : m ≡ arranged copying (vectors_of translated.passed.graph.edges)
  last_so =
      translated.passed.is_arranged
      ∙ ap (λ (z : Nest). arranged z (vectors_of translated.passed.graph.edges)) copying_is

  may_be_copied : MayBeSplit r.declarations may_copy y
  may_be_copied =
      passed_nest_may_be_split width p translated.counts n m stands.round found program is_nest translated.passed stands.named
      stands.is r all counters made

  prepared_counted : IsPrepared r.declarations around expanded_depth y
  prepared_counted =
      counted_nest_is_prepared width p translated.counts n m stands.round found program is_nest translated.passed stands.named
      stands.is r all counters made

  prepared_copying : IsPrepared r.declarations around (expanded_depth + split_rise) copying
  prepared_copying =
      split_nest_is_prepared_there width p translated.counts n m stands.round found program is_nest translated.passed
      stands.named stands.is r all counters made

  prepared : IsPrepared r.declarations around last_depth m
  prepared =
      passed_nest_is_prepared width p translated.counts n m stands.round found program is_nest translated.passed stands.named
      stands.is r all counters made

  no_label : HasNoLabel b
  no_label =
      let behind = then_no_label m.after (deallocations m.line m.made)
      (endings_no_label m.after prepared.parts.after.endings) (deallocations_no_label m.line m.made) in
      subst HasNoLabel (sym translated.block)
      (allocations_no_label m.line m.made (block_then (block_of_pieces m 1 ps) (block_then m.after (deallocations m.line m.made)))
      (then_no_label (block_of_pieces m 1 ps) (block_then m.after (deallocations m.line m.made)) (pieces_no_label m 1 ps) behind))

  own_source : (x : List ℕ) → Contains (names_of p) x → IsSourceName x
  own_source x i =
      let d = is_declared p.declarations x i in
      let f = declarations.found p.declarations x d.0 d.1 in
      subst IsSourceName f.name
      (source_name d.0.name (all_at (IsDeclaration (fortran77 width)) p.declarations d.0 program.declarations.each f.among).name)

  -- no name of p is that of an array which is made
  of_p : (x : List ℕ) → Contains (names_of p) x → ¬ Contains (made_arrays m) x
  of_p y i = none_of_source r around last_depth m prepared y (own_source y i)

  apart : (d : Cell) → Contains (names_of p) d.name → is_nest_variable (run_nest m) d ≡ false
  apart d i =
      no_variable r.declarations around last_depth m prepared d
      (λ k e. counter_long d.name k (short_name width p program d.name i) e)

  apart_before : (d : Cell) → Contains (names_of p) d.name → is_nest_variable (run_nest copying) d ≡ false
  apart_before d i =
      no_variable r.declarations around (expanded_depth + split_rise) copying prepared_copying d
      (λ k e. counter_long d.name k (short_name width p program d.name i) e)

  -- what made the nest m of that one keeps symbols and arrays
  may_before : (u : State) → MayRun width r m u → MayRun width r (expanded k) u
  may_before u h =
      of_both (subst (λ (z : Nest). MayRun width r z u)
      (last_is may_copy translated.counts.copies k m (vectors_of translated.passed.graph.edges) last_so) h)
    where
      of_both : MayRun width r (record (expanded k) {
        body = m.body;
        made = (expanded k).made ++ arrays_of_copies may_copy y;
        copies = copying.copies;
      }) u → MayRun width r (expanded k) u
      of_both i = record {
        going = i.going;
        holds = i.holds;
        values = i.values;
        valued = i.valued;
        made = Each-All (λ (a : Made). IsSomeAnd (u.store.bounds a.name) (AreBoundsBy (expanded k).symbols i.values a.extents))
            (expanded k).made
            (each_from (λ (a : Made). IsSomeAnd (u.store.bounds a.name) (AreBoundsBy (expanded k).symbols i.values a.extents))
            (expanded k).made
            (λ a at. all_in (λ (a : Made). IsSomeAnd (u.store.bounds a.name) (AreBoundsBy (expanded k).symbols i.values a.extents))
            ((expanded k).made ++ arrays_of_copies may_copy y) i.made a
            (In-left a (expanded k).made (arrays_of_copies may_copy y) at)));
      }

  -- moving loops alone keeps all but the body
  may_copying : (u : State) → MayRun width r m u → MayRun width r copying u
  may_copying u h = of_body (subst (λ (z : Nest). MayRun width r z u) same h)
    where
      same : m ≡ record copying { body = (arranged copying (vectors_of translated.passed.graph.edges)).body }
      same = last_so ∙ arranged_rest copying (vectors_of translated.passed.graph.edges)

      of_body : MayRun width r (record copying { body = (arranged copying (vectors_of translated.passed.graph.edges)).body }) u
          → MayRun width r copying u
      of_body i = record { going = i.going; holds = i.holds; values = i.values; valued = i.valued; made = i.made }

  module _ (s t : State) (going : s.way ≡ Going) (beside : AreBeside width p q s t) (sound : IsSound (does (fortran77 width) None c s).way) where
    -- ---- the store from which the nest's run starts: names that q hasn't are as at the opening of a run

    abbrev store : Store
    store = cleaned q.declarations r.declarations t.store

    abbrev t0 : State
    t0 = record t { store = store }

    holds : HoldsProgram (fortran77 width) r store
    holds = cleaned_holds width q r t.store more beside.holds_beside

    sized : HoldsSized store
    sized = cleaned_sized width q r.declarations t.store beside.holds_beside

    number : (k : ℕ) (x : List ℕ) → nth_of m.symbols k ≡ Some x → IsNumber r.declarations x
    number k x e =
        number_of r.declarations x
        (all_in (IsPreparedSymbol r.declarations) m.symbols prepared.parts.symbols x (in_list m.symbols k x e)).scalar

    abbrev v : ℕ → ℤ
    v = values_in m.symbols store

    valued : HoldSymbols m.symbols v store
    valued k x e = (value_there m.symbols store k x e (holds_number (fortran77 width) r store x holds (number k x e))).held

    wide : AreOf64Bits v
    wide = values_sized m.symbols store sized

    -- ---- the arrays come to be

    allocated : IsAllocated width r m v t0
    allocated =
        arrays_are_allocated width r around last_depth m v t0 all.are prepared wide (of_77 width r store holds) valued
        (arrays_free q r around last_depth m t.store more prepared beside.free) (sym beside.way ∙ going)

    abbrev u : State
    u = allocated.state

    u_holds : HoldsProgram (fortran77 width) r u.store
    u_holds = of_90 width r u.store allocated.program

    agrees : Agree p s.store u.store
    agrees =
        agree_on p s.store t.store u.store beside.store
        (agree_on p t.store store u.store
        (agree_fewer p q t.store store (more_names p q add) (cleaned_agrees q r.declarations t.store))
        (same_agree p store u.store (λ x i. sym (allocated.others.bounds x (of_p x i)))
        (λ d i. sym (allocated.others.held d (of_p d.name i)))))

    start : GoOnAlike p s u
    start = record {
      going = going;
      agree = agrees;
      rest =
          with_rest u s (ap (λ (x : State). x.written) allocated.rest ∙ sym beside.written)
          (ap (λ (x : State). x.input) allocated.rest ∙ sym beside.input)
          (ap (λ (x : State). x.had_value) allocated.rest ∙ sym beside.had_value)
          (ap (λ (x : State). x.way) allocated.rest ∙ sym beside.way);
    }

    may : MayRun width r m u
    may = record {
      going = allocated.going;
      holds = u_holds;
      values = v;
      valued = λ k x e. allocated.others.held (variable_cell x) (made_apart r around last_depth m prepared x k e) ∙ valued k x e;
      made = allocated.made;
    }

    u_sized : HoldsSized u.store
    u_sized = sized_still width r around last_depth m v t0 prepared sized allocated

    may_there : MayRun width r (expanded k) u
    may_there = may_before u may

    -- ---- from the loop to the nest before private scalars become arrays

    begun : IsBegunBefore width p before k u
    begun =
        expanded_nest_is_begun_before width p before r around unexpanded_depth expanded_depth k u in_places.places
        may_there u_sized

    abbrev earlier : State
    earlier = does_all (fortran77 width) None (loops_then_after k) begun.state

    from_loop : GoOnAlike p (does (fortran77 width) None c s) earlier
    from_loop =
        unexpanded_nest_goes_on_as_loop width p before translated.counts n m found s begun.state program is_nest translated.passed
        in_places.places.places.before in_places.counters in_places.masks in_places.goes_on begun.holds begun.sized
        (alike_beside p s begun.state u start begun.alike) sound

    earlier_goes : earlier.way ≡ Going
    earlier_goes = ap (λ (x : State). x.way) from_loop.rest ∙ from_loop.going

    -- ---- to the nest with arrays for these

    abbrev with_arrays : State
    with_arrays = does_all (fortran77 width) None (loops_then_after (expanded k)) u

    to_arrays : GoOnAlike p earlier with_arrays
    to_arrays = begun.leads (subst IsSound (sym earlier_goes) tt)

    arrays_go : with_arrays.way ≡ Going
    arrays_go = ap (λ (x : State). x.way) to_arrays.rest ∙ earlier_goes

    -- ---- to the nest in which reads are copied

    abbrev with_reads : State
    with_reads = does_all (fortran77 width) None (loops_then_after copying) u

    -- no name of p is that of a copy
    no_copy : (x : List ℕ) → Contains (names_of p) x → ¬ IsCopyName may_copy y x
    no_copy x i = no_source may_copy y may_be_copied.few x (own_source x i)

    to_reads : GoOnAlike p with_arrays with_reads
    to_reads = by (with_nodes_split may_copy y) refl (may_copying u may)
      where
        by : (o : Option Nest) → with_nodes_split may_copy y ≡ o → MayRun width r (unwrap_or o y) u
            → GoOnAlike p with_arrays (does_all (fortran77 width) None (loops_then_after (unwrap_or o y)) u)
        by None e run = record {
          going = arrays_go;
          agree = same_agree p with_arrays.store with_arrays.store (λ x i. refl) (λ d i. refl);
          rest = with_rest with_arrays with_arrays refl refl refl refl;
        }
        by (Some z) e run =
            let h = split_nest_goes_on_as_nest width r around expanded_depth may_copy y z u prepared_counted may_be_copied e run
            u_sized (subst IsSound (sym arrays_go) tt) in
            record {
              going = h.going;
              agree = same_agree p with_arrays.store (does_all (fortran77 width) None (loops_then_after z) u).store
                  (λ x i. sym (h.bounds x)) (λ d i. sym (h.held d (no_copy d.name i)));
              rest = h.rest;
            }

    reads_go : with_reads.way ≡ Going
    reads_go = ap (λ (x : State). x.way) to_reads.rest ∙ arrays_go

    -- ---- to the last nest that the passes make, whose loops are moved

    abbrev second : State
    second = does_all (fortran77 width) None (loops_then_after m) u

    together : GoOnTogether copying u with_reads second
    together =
        subst (λ (z : Nest). GoOnTogether copying u with_reads (does_all (fortran77 width) None (loops_then_after z) u))
        (sym last_so)
        (arranged_nest_goes_on_as_nest width r around (expanded_depth + split_rise) copying translated.passed.graph u all.are
        prepared_copying
        (subst (λ (z : Nest). IsGraphOf z translated.passed.graph) copying_is translated.passed.is_split.graph)
        (may_copying u may) u_sized (subst IsSound (sym reads_go) tt))

    to_last : GoOnAlike p with_reads second
    to_last = record {
      going = together.going;
      agree = record {
        bounds = λ y i. together.beside.near.bounds y;
        held = λ d i here. together.beside.near.held d (apart_before d i);
        kinds = λ d i. ap nought_like (together.beside.near.held d (apart_before d i));
      };
      rest =
          with_rest second with_reads (together.lines_beside.written ∙ sym together.lines.written)
          (together.lines_beside.input ∙ sym together.lines.input)
          (together.lines_beside.had_value ∙ sym together.lines.had_value) (together.beside.way ∙ sym together.going);
    }

    one : GoOnAlike p (does (fortran77 width) None c s) second
    one =
        alike_then p (does (fortran77 width) None c s) earlier second from_loop
        (alike_then p earlier with_arrays second to_arrays (alike_then p with_arrays with_reads second to_reads to_last))

    second_goes : second.way ≡ Going
    second_goes = ap (λ (x : State). x.way) one.rest ∙ one.going

    -- ---- from the nest to what is emitted

    abbrev third : State
    third = does_all (fortran90 width) None (pieces_then_after m ps) u

    guarded : HaveGuardedNames m (setting_at width may)
    guarded =
        subst (λ (z : Nest). (h : MayRun width r z u) → HaveGuardedNames z (setting_at width h)) (sym translated.passed.is_arranged)
        (λ h. arranged_nest_has_guarded_names width p before r around unexpanded_depth expanded_depth translated.counts.copies k
        translated.passed.split may_copy (vectors_of translated.passed.graph.edges) u in_places.places (omega arith)
        may_be_copied copying_is h u_sized) may

    two : GoOnTogether m u second third
    two =
        pieces_go_on_as_nest width r around last_depth m ps u all.are prepared translated.are may guarded
        (subst IsSound (sym second_goes) tt)

    near : Agree p second.store third.store
    near = record {
      bounds = λ x i. two.beside.near.bounds x;
      held = λ d i here. two.beside.near.held d (apart d i);
      kinds = λ d i. ap nought_like (two.beside.near.held d (apart d i));
    }

    -- ---- the arrays go

    third_bounds : (x : List ℕ) → third.store.bounds x ≡ u.store.bounds x
    third_bounds x = sym (two.beside.near.bounds x) ∙ sequential_keeps_bounds width (loops_then_after m) u x

    went : IsDeallocated width m third
    went =
        arrays_are_deallocated width r around last_depth m v third prepared wide
        (made_still m v u.store third.store third_bounds allocated.made) two.beside.way

    abbrev fourth : State
    fourth = does_all (fortran90 width) None (deallocations m.line m.made) third

    gone : Agree p third.store fourth.store
    gone =
        same_agree p third.store fourth.store (λ x i. sym (went.others.bounds x (of_p x i)))
        (λ d i. sym (went.others.held d (of_p d.name i)))

    -- ---- all of the block

    abbrev behind : Block
    behind = block_then m.after (deallocations m.line m.made)

    whole : does_all (fortran90 width) None b t0 ≡ fourth
    whole =
        ap (λ (d : Block). does_all (fortran90 width) None d t0) translated.block
        ∙ (allocated.runs (block_then (block_of_pieces m 1 ps) behind)
        ∙ (does_then (fortran90 width) None (block_of_pieces m 1 ps) behind u
        ∙ (does_then (fortran90 width) None m.after (deallocations m.line m.made) (does_all (fortran90 width) None (block_of_pieces m 1 ps) u)
        ∙ ap (does_all (fortran90 width) None (deallocations m.line m.made)) (sym (does_then (fortran90 width) None (block_of_pieces m 1 ps) m.after u)))))

    moved : MomentsAgree q (does_all (fortran90 width) None b t0) (does_all (fortran90 width) None b t)
    moved = statements_keep_agreement (fortran90 width) None q b t0 t names
        (record {
          store = agree_back q t.store store (cleaned_agrees q r.declarations t.store);
          written = refl;
          input = refl;
          had_value = refl;
          steps = refl;
          way = refl;
        })

    block_goes : (does_all (fortran90 width) None b t).way ≡ Going
    block_goes = sym moved.way ∙ (ap (λ (x : State). x.way) whole ∙ went.going)

    from_fourth : Agree q fourth.store (does_all (fortran90 width) None b t).store
    from_fourth = subst (λ (x : State). Agree q x.store (does_all (fortran90 width) None b t).store) whole moved.store

    to_block : Agree p (does (fortran77 width) None c s).store (does_all (fortran90 width) None b t).store
    to_block =
        agree_on p (does (fortran77 width) None c s).store second.store (does_all (fortran90 width) None b t).store one.agree
        (agree_on p second.store third.store (does_all (fortran90 width) None b t).store near
        (agree_on p third.store fourth.store (does_all (fortran90 width) None b t).store gone
        (agree_fewer p q fourth.store (does_all (fortran90 width) None b t).store (more_names p q add) from_fourth)))

    written : (does (fortran77 width) None c s).written ≡ (does_all (fortran90 width) None b t).written
    written =
        sym (ap (λ (x : State). x.written) one.rest)
        ∙ (two.lines.written
        ∙ (sym two.lines_beside.written
        ∙ (sym (ap (λ (x : State). x.written) went.rest) ∙ (sym (ap (λ (x : State). x.written) whole) ∙ moved.written))))

    input : (does (fortran77 width) None c s).input ≡ (does_all (fortran90 width) None b t).input
    input =
        sym (ap (λ (x : State). x.input) one.rest)
        ∙ (two.lines.input
        ∙ (sym two.lines_beside.input
        ∙ (sym (ap (λ (x : State). x.input) went.rest) ∙ (sym (ap (λ (x : State). x.input) whole) ∙ moved.input))))

    had_value : (does (fortran77 width) None c s).had_value ≡ (does_all (fortran90 width) None b t).had_value
    had_value =
        sym (ap (λ (x : State). x.had_value) one.rest)
        ∙ (two.lines.had_value
        ∙ (sym two.lines_beside.had_value
        ∙ (sym (ap (λ (x : State). x.had_value) went.rest) ∙ (sym (ap (λ (x : State). x.had_value) whole) ∙ moved.had_value))))

    ends : AreBeside width p q (does (fortran77 width) None c s) (does_all (fortran90 width) None b t)
    ends = record {
      store = to_block;
      holds = statements_keep_stores (fortran77 width) None p (statement c no_statements) stands.round s
          (block_is p.declarations p.declarations (as_it_stands (fortran77 width) p program) (statement c no_statements) stands.round
          (stands.is, tt)) beside.holds;
      holds_beside = statements_keep_stores (fortran90 width) None q b w t block beside.holds_beside;
      free =
          free_again q r m t.store u.store third.store fourth.store (does_all (fortran90 width) None b t).store beside.free
          allocated.others third_bounds went.others went.free from_fourth;
      written = written;
      input = input;
      had_value = had_value;
      way = one.going ∙ sym block_goes;
    }

pub translation_does_as_loop : (width : Width) → TranslationDoesAsLoop width
translation_does_as_loop width p q r n m b w found program is_nest add more translated counters made names block = (
  (λ s t going beside sound.
      ends width p q r n m b w found program is_nest add more translated counters made names block s t going beside sound),
  no_label width p q r n m b w found program is_nest add more translated counters made names block,
)
