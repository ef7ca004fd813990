-- The nest that is expanded, of one that was found: what stands behind its loops is free, and in a program that has its
-- masks and the names of ranges it goes on as the nest with its symbols found anew.
use Rattle.std.proofs.Common.{◌≡◌, ◌⊎◌, inl, inr, refl, sym, ap, ◌∙◌, subst, ℕ, ◌+◌, ◌<◌, ◌≤◌, ◌^◌, Contains, List, [], ◌∷◌, map, Some, None}
use Rattle.std.specs.Prelude.{All}
use Rattle.std.specs.Option.{IsSomeAnd}
use Rattle.tree.specs.Names.{IsSourceName}
use Rattle.tree.specs.Plain.{Block, Declaration, Program, block}
use Rattle.find_nests.specs.Found.{InNest, found_in}
use Rattle.find_nests.specs.Laws.{IsFoundNest}
use Rattle.find_nests.specs.Loops.{as_statement}
use Rattle.if_convert.specs.Converted.{converted_nest}
use Rattle.if_convert.specs.Masks.{mask_name}
use Rattle.meaning.specs.Blocks.{Surroundings}
use Rattle.meaning.specs.Dialect.{fortran77}
use Rattle.tree.specs.declared.width.Width.{Width}
use Rattle.meaning.specs.Profile77.{IsProgram77, IsStatement}
use Rattle.meaning.specs.Reads.{names_in}
use Rattle.meaning.specs.Run.{State, does_all}
use Rattle.meaning.specs.Store.{Cell, Store, names_of, nought_like}
use Rattle.meaning.specs.Typed.{declared}
use Rattle.meaning_laws.proofs.arrays.Members.{of_map}
use Rattle.meaning_laws.specs.profiles.Profiles.{AddMadeNames}
use Rattle.nest.specs.Allocations.{block_then}
use Rattle.nest.specs.Bodies.{Standing, nest_loops, nest_statements}
use Rattle.nest.specs.Plain.{Loop, Nest}
use Rattle.nest_order.proofs.orders.Membership.{In-map, map-In}
use Rattle.nest_order.specs.orders.Lists.{In}
use Rattle.nest_steps.specs.Keeping.{GoOnAlike}
use Rattle.normal_loops.specs.Normalised.{normalised}
use Rattle.pass_laws.proofs.NormalFacts.MadeStatements.{counter_long}
use Rattle.pass_laws.proofs.NormalFacts.Tables.{each_asked}
use Rattle.pass_laws.proofs.PreparedNests.Walks.{walked}
use Rattle.pass_laws.specs.normal_facts.Laws.{IsCounter}
use Rattle.pass_laws.specs.prepared_nests.Laws.{normal_depth}
use Rattle.pass_laws.specs.prepared_nests.Loops.{IsPreparedLoop}
use Rattle.pass_laws.specs.prepared_nests.Nests.{IsPrepared}
use Rattle.pass_laws.specs.prepared_runs.Running.{loops_then_after}
use Rattle.rewrite.specs.Following.{IsSound}
use Rattle.inductions.specs.Ends.{induction_end_text, induction_ending}
use Rattle.inductions.specs.Found.{inductions_of}
use Rattle.inductions.specs.Nests.{induction_names}
use Rattle.inductions.specs.declared.found.Induction.{Induction}
use Rattle.scalar_rename.specs.Ranges.{HaveFewRanges}
use Rattle.symbols_anew.specs.Found.{names_assigned}
use Rattle.symbols_anew.specs.Nests.{with_symbols_found}
use Rattle.prepared_passes.proofs.ConvertedNests.FoundDeclared.{own_source}
use Rattle.prepared_passes.proofs.ExpandedNests.ApartBehind.{assigned_before, behind_is, found_nest_is_apart_behind, masked_prepared, same_but_text}
use Rattle.prepared_passes.proofs.ExpandedNests.FoundMade.{may_be_expanded, may_rename, prepared_by, renamed_from}
use Rattle.prepared_passes.proofs.ExpandedNests.FreeBehind.{IsMadeFrom, free_behind}
use Rattle.prepared_passes.proofs.ExpandedNests.LastTexts.{end_told, ending_free, free_block_then}
use Rattle.prepared_passes.proofs.ExpandedNests.Names.{symbol_apart}
use Rattle.prepared_passes.proofs.ExpandedNests.Renaming.{anew_prepared, anew_source, range_no_source, sub_from, sub_prepared, sub_trip}
use Rattle.prepared_passes.proofs.ExpandedNests.Sameness.{few_before, masks_unexpanded}
use Rattle.prepared_passes.proofs.RenamedNests.Runs.{renamed_nest_goes_on_as_nest}
use Rattle.prepared_passes.proofs.SubstitutedNests.Named.{in_no_trip, is_written, named_by, source_name}
use Rattle.prepared_passes.proofs.SubstitutedNests.Runs.{substituted_nest_runs_alike}
use Rattle.prepared_passes.specs.conversion.Places.{IsMask}
use Rattle.prepared_passes.specs.expansion.Laws.{MayBeExpanded, counters_of}
use Rattle.prepared_passes.specs.expansion.Runs.{AreFree, IsFree, IsFreeBehind, IsOther, MayGet}
use Rattle.prepared_passes.specs.expansion.Unexpanded.{FoundNestIsUnexpanded, GoesOnAs, IsUnexpandedIn, substituted, unexpanded, unexpanded_depth}
use Rattle.prepared_passes.specs.renaming.Laws.{GoOnButNames, IsMadeFor}
use Rattle.prepared_passes.specs.renaming.Renamed.{AreNamesDeclared}
use Rattle.prepared_passes.specs.substitution.Laws.{IsSameButSteps}
use Rattle.prepared_passes.specs.symbols.Same.{without_trip}
use Rattle.prepared_passes.specs.symbols.Sources.{IsOfSource}

-- a loop of one list is one of the other, but for its trip
record IsAmong (ls : List Loop) (l : Loop) : Type 0 where
  loop : Loop
  inside : In loop ls
  last : l.last ≡ loop.last

among_but_trips : (ls os : List Loop) → map without_trip ls ≡ map without_trip os → (l : Loop) → In l ls → IsAmong os l
among_but_trips ls os e l i =
    let o = In-map without_trip (without_trip l) os (subst (λ (xs : List Loop). In (without_trip l) xs) e (map-In without_trip l ls i)) in
    record { loop = o.it; inside = o.inside; last = ap (λ (x : Loop). x.last) o.is }

module _ (width : Width) (p b : Program) (n m masked k : Nest) (ds : List Declaration) (masks : ℕ) (w : Surroundings) (found_nest : IsFoundNest p n) (is : IsProgram77 (fortran77 width) p)
    (among : Contains (found_in p) (InNest n)) (normal : normalised n ≡ Some m) (made : converted_nest masks m ≡ Some masked) (anew : k ≡ unexpanded m masked)
    (ranges_few : HaveFewRanges (substituted m masked)) (few : masked.masks ≤ 4294967296) (add : AddMadeNames p.declarations ds) (none : (i : ℕ) → declared ds (mask_name i) ≡ None)
    (counters : All (λ (l : Loop). IsSomeAnd (declared ds l.variable) IsCounter) (nest_loops m)) (more : AddMadeNames p.declarations b.declarations)
    (marks : (i : ℕ) → masks ≤ i → i < masked.masks → IsSomeAnd (declared b.declarations (mask_name i)) IsMask)
    (counted : All (λ (l : Loop). IsSomeAnd (declared b.declarations l.variable) IsCounter) (nest_loops m)) (named : AreNamesDeclared b.declarations (substituted m masked))
    (number : n.number < 2 ^ 32) (round : All IsSourceName w.variables) (stated : IsStatement p.declarations (as_statement found_nest.loop.loop.loop) w) where
  abbrev es : List Declaration
  es = b.declarations

  abbrev a : Nest
  a = with_symbols_found m masked

  abbrev sub : Nest
  sub = substituted m masked

  h : IsPrepared b.declarations w.variables normal_depth masked
  h = masked_prepared width p n m masked ds b.declarations masks w found_nest is among normal made few add none counters more marks counted number round stated

  h_anew : IsPrepared b.declarations w.variables (normal_depth + 18) (with_symbols_found m masked)
  h_anew = anew_prepared width p n m masked masks is among normal made few b.declarations more w.variables h

  s_anew : IsOfSource b.declarations (with_symbols_found m masked)
  s_anew = anew_source width p n m masked masks is among normal made few b.declarations more

  prepared : IsPrepared b.declarations w.variables unexpanded_depth k
  prepared = prepared_by width p n m masked k masks is among normal made few anew ranges_few b.declarations more named w.variables h

  may : MayBeExpanded b.declarations k
  may = may_be_expanded width p n m masked k masks is among normal made few anew ranges_few b.declarations more

  -- ---- symbols and statements

  before : (y : List ℕ) → In y (names_assigned (with_symbols_found m masked)) → In y (names_assigned masked)
  before = assigned_before width p n m masked ds b.declarations masks w found_nest is among normal made few add none counters more marks counted number round stated

  symbols_are : k.symbols ≡ (substituted m masked).symbols
  symbols_are = ap (λ (z : Nest). z.symbols) (renamed_from width p n m masked k masks is among normal made few anew ranges_few).rest

  symbol_kept : (y : List ℕ) → In y (with_symbols_found m masked).symbols → In y k.symbols
  symbol_kept y i = subst (λ (ys : List (List ℕ)). In y ys) (sym symbols_are) ((sub_from width p n m masked masks is among normal made few).kept y i)

  symbol_added : (d : Induction) → In d (inductions_of (with_symbols_found m masked)) → In d.name k.symbols
  symbol_added d i =
      subst (λ (ys : List (List ℕ)). In d.name ys) (sym symbols_are)
      ((sub_from width p n m masked masks is among normal made few).added d.name (map-In (λ (d : Induction). d.name) d (inductions_of a) i))

  made_from : IsMadeFrom width p n m masked ds b.declarations masks w found_nest is among normal made few add none counters more marks counted number round stated k
  made_from = record {
    assigned = λ x i s. given x s ((renamed_from width p n m masked k masks is among normal made few anew ranges_few).targets x i);
    kept = λ y i. symbol_kept y ((same_but_text width p n m masked ds b.declarations masks w found_nest is among normal made few add none counters more marks counted number round stated).kept y i);
    new = λ y i. later y ((sub_from width p n m masked masks is among normal made few).new y (subst (λ (ys : List (List ℕ)). In y ys) symbols_are i));
  }
    where
      given : (x : Standing) → IsSourceName x.statement.left.name
          → IsMadeFor (substituted m masked) x.statement.left.name ⊎ ((y : Standing) × In y (nest_statements (substituted m masked)) × (y.statement.left.name ≡ x.statement.left.name))
          → In x.statement.left.name (names_assigned masked)
      given x s (inl r) = absurd (range_no_source width p n m masked masks is among normal made few r.0 r.1 (subst IsSourceName (sym r.2) s))
      given x s (inr r) = before x.statement.left.name (subst (λ z. In z (names_assigned a)) r.2 ((sub_from width p n m masked masks is among normal made few).assigned r.0 r.1))

      sooner : (y : List ℕ) → In y masked.symbols ⊎ In y (names_assigned m) → In y masked.symbols ⊎ (In y (names_assigned m) ⊎ In y (names_assigned masked))
      sooner y (inl i) = inl i
      sooner y (inr i) = inr (inl i)

      later : (y : List ℕ) → In y (with_symbols_found m masked).symbols ⊎ In y (induction_names (inductions_of (with_symbols_found m masked)))
          → In y masked.symbols ⊎ (In y (names_assigned m) ⊎ In y (names_assigned masked))
      later y (inl i) = sooner y ((same_but_text width p n m masked ds b.declarations masks w found_nest is among normal made few add none counters more marks counted number round stated).new y i)
      later y (inr i) =
          let d = named_by width es w.variables (normal_depth + 18) a h_anew s_anew y i in
          inr (inr (subst (λ z. In z (names_assigned masked)) (sym d.2) (before d.0.name (is_written width es w.variables (normal_depth + 18) a h_anew s_anew d.0 d.1))))

  -- ---- what stands behind the loops

  first_free : AreFree (IsOther k) (MayGet k) masked.after
  first_free =
      free_behind width p n m masked ds b.declarations masks w found_nest is among normal made few add none counters more marks counted number round stated k unexpanded_depth prepared may made_from

  module _ (d : Induction) (i : In d (inductions_of (with_symbols_found m masked))) where
    other : IsOther k d.name
    other = symbol_apart es w.variables unexpanded_depth k prepared may d.name (symbol_added d i)

    no_counter : ¬ In d.name (counters_of k)
    no_counter j =
        let o = In-map (λ (x : Loop). x.variable) d.name (nest_loops k) j in
        let r = each_asked (IsPreparedLoop es k.symbols) (nest_loops k) [] k.body prepared.plain (walked (IsPreparedLoop es k.symbols) [] k.body prepared.parts.loops) o.it o.inside in
        counter_long d.name o.it.number (source_name width es w.variables (normal_depth + 18) a h_anew s_anew d i).within (o.is ∙ r.asked.variable)

    no_trip : (l : Loop) → In l (nest_loops k) → ¬ In d.name (names_in l.last)
    no_trip l j q =
        let there = subst (λ (ls : List Loop). In l ls) (renamed_from width p n m masked k masks is among normal made few anew ranges_few).loops j in
        let o = among_but_trips (nest_loops sub) (nest_loops a) (sub_from width p n m masked masks is among normal made few).loops l there in
        in_no_trip width es w.variables (normal_depth + 18) a h_anew s_anew d i o.loop o.inside (subst (λ e. In d.name (names_in e)) o.last q)

    gets : MayGet k d.name (induction_end_text (with_symbols_found m masked).symbols (sub_trip width p n m masked masks is among normal made few) d)
    gets = (
      other,
      no_counter,
      λ there. (no_trip, (end_told k.symbols a.symbols symbol_kept (sub_trip width p n m masked masks is among normal made few) d (symbol_added d i)).number),
    )

    one_free : IsFree (IsOther k) (MayGet k) (induction_ending (with_symbols_found m masked).symbols (with_symbols_found m masked).line (sub_trip width p n m masked masks is among normal made few) d)
    one_free =
        ending_free k.symbols a.symbols symbol_kept (sub_trip width p n m masked masks is among normal made few) d (symbol_added d i) (IsOther k) (MayGet k) a.line
        (λ y j. symbol_apart es w.variables unexpanded_depth k prepared may y j) gets

  all_free : (xs : List Induction) → ((d : Induction) → In d xs → In d (inductions_of (with_symbols_found m masked)))
      → AreFree (IsOther k) (MayGet k) (block (map (induction_ending (with_symbols_found m masked).symbols (with_symbols_found m masked).line (sub_trip width p n m masked masks is among normal made few)) xs))
  all_free [] f = tt
  all_free (d ∷ xs) f = (one_free d (f d (inl refl)), all_free xs (λ c j. f c (inr j)))

  after_is : k.after ≡ block_then masked.after
      (block (map (induction_ending (with_symbols_found m masked).symbols (with_symbols_found m masked).line (sub_trip width p n m masked masks is among normal made few)) (inductions_of (with_symbols_found m masked))))
  after_is =
      ap (λ (z : Nest). z.after) (renamed_from width p n m masked k masks is among normal made few anew ranges_few).rest
      ∙ ((sub_from width p n m masked masks is among normal made few).after
      ∙ ap (λ (c : Block). block_then c (block (map (induction_ending a.symbols a.line (sub_trip width p n m masked masks is among normal made few)) (inductions_of a))))
      (behind_is width p n m masked ds b.declarations masks w found_nest is among normal made few add none counters more marks counted number round stated))

  free : IsFreeBehind k
  free =
      subst (λ (c : Block). AreFree (IsOther k) (MayGet k) c) (sym after_is)
      (free_block_then (IsOther k) (MayGet k) masked.after (block (map (induction_ending a.symbols a.line (sub_trip width p n m masked masks is among normal made few)) (inductions_of a))) first_free
      (all_free (inductions_of a) (λ d i. i)))

  -- ---- runs

  source_names : (x : List ℕ) → Contains (names_of p) x → IsSourceName x
  source_names x c =
      let o = of_map (λ (d : Declaration). d.name) p.declarations x c in
      subst IsSourceName o.2 (own_source width p n m masked masks is among normal made few o.0 o.1)

  not_made : (x : List ℕ) → Contains (names_of p) x → ¬ IsMadeFor (substituted m masked) x
  not_made x c r = range_no_source width p n m masked masks is among normal made few r.0 r.1 (subst IsSourceName (sym r.2) (source_names x c))

  both : (r t u : State) → IsSameButSteps r t → GoOnButNames (substituted m masked) t u → GoOnAlike p r u
  both r t u first second = record {
    going = ap (λ (x : State). x.way) (sym first) ∙ second.going;
    agree = record {
      bounds = λ x c. ap (λ (y : Store). y.bounds x) (sym same) ∙ sym (second.bounds x);
      held = λ c i j. there c i;
      kinds = λ c i. ap nought_like (there c i);
    };
    rest = second.rest ∙ ap (λ (x : State). record x { store = u.store; steps = u.steps }) first;
  }
    where
      same : t.store ≡ r.store
      same = ap (λ (x : State). x.store) first

      there : (c : Cell) → Contains (names_of p) c.name → r.store.held c ≡ u.store.held c
      there c i = ap (λ (y : Store). y.held c) (sym same) ∙ sym (second.held c (not_made c.name i))

  goes_on : GoesOnAs width p b (with_symbols_found m masked) (unexpanded m masked)
  goes_on s going holds sized sound =
      let first = substituted_nest_runs_alike width b w.variables (normal_depth + 18) a s h_anew s_anew
      (found_nest_is_apart_behind width p n m masked ds b.declarations masks w found_nest is among normal made few add none counters more marks counted number round stated) going holds sized sound in
      let way : (does_all (fortran77 width) None (loops_then_after sub) s).way ≡ (does_all (fortran77 width) None (loops_then_after a) s).way = ap (λ (x : State). x.way) first in
      let second = renamed_nest_goes_on_as_nest width b w.variables unexpanded_depth sub s (sub_prepared width p n m masked masks is among normal made few b.declarations more w.variables h)
      (may_rename width p n m masked k masks is among normal made few anew ranges_few b.declarations more named) going holds (subst IsSound (sym way) sound) in
      both (does_all (fortran77 width) None (loops_then_after a) s) (does_all (fortran77 width) None (loops_then_after sub) s) (does_all (fortran77 width) None (loops_then_after (unexpanded m masked)) s) first second

  pub is_unexpanded : IsUnexpandedIn width p b m masked k w.variables
  is_unexpanded = record {
    prepared = prepared;
    may = may;
    free = free;
    goes_on = subst (GoesOnAs width p b (with_symbols_found m masked)) (sym anew) goes_on;
  }

pub found_nest_is_unexpanded : (width : Width) → FoundNestIsUnexpanded width
found_nest_is_unexpanded width p b n m masked k ds masks w found_nest is among normal made anew ranges_few few add none counters more marks counted named number round stated =
    is_unexpanded width p b n m masked k ds masks w found_nest is among normal made anew ranges_few (few_before m masked k anew few) add none counters more
    (subst (λ (e : ℕ). (i : ℕ) → masks ≤ i → i < e → IsSomeAnd (declared b.declarations (mask_name i)) IsMask) (masks_unexpanded m masked k anew) marks)
    counted named number round stated
