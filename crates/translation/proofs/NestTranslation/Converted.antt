-- The nest with loops from 1 by 1, and with masks in place of its IFs, labels and jumps, goes on as the source's loop,
-- and so does that nest with its symbols found anew, with inductions substituted, and with scalars renamed.
use Rattle.std.proofs.Common.{◌≡◌, refl, sym, ap, ◌∙◌, subst, ℕ, ◌^◌, ◌≤◌, ℤ, Bool, List, [], ◌∷◌, Option, Some}
use Rattle.std.proofs.Common.{None, IfSome, Contains}
use Rattle.std.specs.Option.{IsSomeAnd}
use Rattle.std.specs.Prelude.{All}
use Rattle.prepared_passes.proofs.ConvertedNests.Masked.{AreBeside as AreBesideMasks, IsOther}
use Rattle.prepared_passes.proofs.ConvertedNests.ProgramNames.{program_has_no_masks}
use Rattle.prepared_passes.proofs.ConvertedNests.Standing.{IsLoopOf, loop_of, nest_leads}
use Rattle.prepared_passes.specs.conversion.Branching.{IsBranching}
use Rattle.prepared_passes.specs.conversion.Places.{IsMask}
use Rattle.prepared_passes.specs.expansion.Unexpanded.{GoesOnAs}
use Rattle.find_nests.specs.Found.{InNest, found_in}
use Rattle.find_nests.specs.Laws.{IsFoundNest}
use Rattle.find_nests.specs.Loops.{as_statement}
use Rattle.if_convert.specs.Converted.{converted_loop, converted_nest}
use Rattle.if_convert.specs.Masks.{mask_name}
use Rattle.linear_forms.specs.Laws.{HoldsSized}
use Rattle.meaning.specs.Dialect.{fortran77}
use Rattle.tree.specs.declared.width.Width.{Width}
use Rattle.meaning.specs.Holding.{HasBounds, HoldsProgram, IsStorable}
use Rattle.meaning.specs.Profile77.{IsProgram77}
use Rattle.meaning.specs.Run.{Going, State, does, does_all}
use Rattle.meaning.specs.Store.{names_of}
use Rattle.meaning.specs.Typed.{declared}
use Rattle.meaning_laws.specs.profiles.Profiles.{AddMadeNames}
use Rattle.nest.specs.Allocations.{allocation_then, allocations_then, block_then, deallocation_then, deallocations}
use Rattle.nest.specs.Blocks.{block_of_nest, statement_of_part}
use Rattle.nest.specs.Bodies.{nest_loops}
use Rattle.nest.specs.Plain.{Loop, Made, Nest, Parts, Turns}
use Rattle.symbols_anew.specs.Nests.{with_symbols_found}
use Rattle.nest_order.specs.runs.Guarded.{variable_cell}
use Rattle.nest_steps.specs.Keeping.{GoOnAlike}
use Rattle.nest_steps.specs.Leading.{Led}
use Rattle.pass_laws.specs.normal_facts.Laws.{IsCounter}
use Rattle.pass_laws.specs.prepared_nests.Laws.{normal_depth}
use Rattle.pass_laws.specs.prepared_nests.Nests.{IsPrepared}
use Rattle.pass_laws.proofs.PreparedRuns.Found.{normal_nest_goes_on_as_loop}
use Rattle.pass_laws.proofs.PreparedRuns.Pieces.{does_then}
use Rattle.pass_laws.specs.prepared_runs.Running.{loops_then_after}
use Rattle.rewrite.specs.Following.{IsSound}
use Rattle.prepared_passes.proofs.SymbolsAnew.Runs.{nest_with_symbols_runs_alike}
use Rattle.tree.specs.OperationFaults.{kind_of}
use Rattle.tree.specs.Plain.{Block, Declaration, Expression, Program, statement}
use Rattle.tree.specs.declared.ops.Kind.TheVariants.{Logical}
use Rattle.tree.specs.declared.ops.Value.{Value}
use Rattle.tree.specs.declared.ops.Value.TheVariants.{Int, Truth}
use Rattle.listing.specs.declared.programs.counts.Counts.{Counts}
use Rattle.listing.specs.programs.Passed.{IsPassedAs}
use Rattle.translation.proofs.NestTranslation.Cleaned.{agree_on, alike_then, same_agree}
use Rattle.translation.proofs.Converting.{same_masks}
use Rattle.translation.proofs.NestTranslation.Prepared.{AreMasksDeclared, few_converted, passed_nest_is_converted}
use Rattle.translation.proofs.ProgramTranslation.Standing.{Stands, loop_stands}
use Rattle.tree.specs.Widths.{bits_of}

-- ---- without arrays as values no array comes or goes

module _ (width : Width) (line : ℕ) where
  allocate_none : (ms : List Made) (b : Block) (s : State)
      → does_all (fortran77 width) None (allocations_then line ms b) s ≡ does_all (fortran77 width) None b s
  allocate_none [] b s = refl
  allocate_none (a ∷ ms) b s = by a.extents ∙ allocate_none ms b s
    where
      by : (es : List Expression)
          → does_all (fortran77 width) None (allocation_then line a.name es (allocations_then line ms b)) s
          ≡ does_all (fortran77 width) None (allocations_then line ms b) s
      by [] = refl
      by (e ∷ es) = refl

  deallocate_none : (ms : List Made) (s : State) → does_all (fortran77 width) None (deallocations line ms) s ≡ s
  deallocate_none [] s = refl
  deallocate_none (a ∷ ms) s = by a.extents ∙ deallocate_none ms s
    where
      by : (es : List Expression)
          → does_all (fortran77 width) None (deallocation_then line a.name es (deallocations line ms)) s
          ≡ does_all (fortran77 width) None (deallocations line ms) s
      by [] = refl
      by (e ∷ es) = refl

-- so a nest's sequential run is that of its loops, and of what comes after them
pub nest_is_loops : (width : Width) (n : Nest) (s : State)
    → does_all (fortran77 width) None (block_of_nest n) s ≡ does_all (fortran77 width) None (loops_then_after n) s
nest_is_loops width n s =
    let behind : Block = block_then n.after (deallocations n.line n.made) in
    allocate_none width n.line n.made (statement (statement_of_part n.line n.body) behind) s
    ∙ (does_then (fortran77 width) None n.after (deallocations n.line n.made) (does (fortran77 width) None (statement_of_part n.line n.body) s)
    ∙ deallocate_none width n.line n.made (does_all (fortran77 width) None (loops_then_after n) s))

-- ---- masks in a store

mask_bounds : (o : Option Declaration) (b : Option (List (ℤ × ℤ))) → IsSomeAnd o IsMask
    → IfSome o (λ (d : Declaration). HasBounds d.extent b) → b ≡ Some []
mask_bounds None b h g = absurd h
mask_bounds (Some d) b h g = subst (λ e. HasBounds e b) h.extent g

truth_of_kind : (v : Value) → kind_of v ≡ Logical → (b : Bool) × (v ≡ Truth b)
truth_of_kind (Truth b) e = (b, refl)
truth_of_kind (Int z) e = let no : ⊥ = cc in absurd no

mask_truth : (width : Width) (o : Option Declaration) (v : Value) → IsSomeAnd o IsMask
    → IfSome o (λ (d : Declaration). IsStorable (fortran77 width) d.kind v) → (b : Bool) × (v ≡ Truth b)
mask_truth width None v h g = absurd h
mask_truth width (Some d) v h g = truth_of_kind v (g.kind ∙ h.kind)

masks_beside : (width : Width) (b : Program) (k e : ℕ) (v : State) → AreMasksDeclared b k e → HoldsProgram (fortran77 width) b v.store
    → AreBesideMasks k e v.store v.store
masks_beside width b k e v marks holds = record {
  bounds = λ y o. refl;
  held = λ c o. refl;
  scalars = λ i u. mask_bounds (declared b.declarations (mask_name i)) (v.store.bounds (mask_name i)) (marks i u.0 u.1)
      (holds.bounds (mask_name i));
  flags = λ i u. mask_truth width (declared b.declarations (mask_name i)) (v.store.held (variable_cell (mask_name i)))
      (marks i u.0 u.1) (holds.kinds (variable_cell (mask_name i)));
}

-- ---- from loops from 1 by 1 to masks, at a moment at which the masks are there

module _ (width : Width) (masks : ℕ) (n : Nest) (v : State) (branching : IsBranching n) (going : v.way ≡ Going)
    (sound : IsSound (does_all (fortran77 width) None (loops_then_after n) v).way) where
  abbrev AreBesideIn : Nest → Type 0
  AreBesideIn z = AreBesideMasks masks z.masks v.store v.store

  abbrev LedTo : Nest → Type 0
  LedTo z = Led (AreBesideMasks masks z.masks) (does_all (fortran77 width) None (block_of_nest n) v)
      (does_all (fortran77 width) None (block_of_nest z) v)

  sound_nest : IsSound (does_all (fortran77 width) None (block_of_nest n) v).way
  sound_nest = subst (λ (x : State). IsSound x.way) (sym (nest_is_loops width n v)) sound

  led_to : (l : Loop) (ps : Parts) → n.body ≡ Turns l ps → (converted_loop n masks l ps).masks ≤ 2 ^ 32
      → AreBesideIn (converted_loop n masks l ps) → LedTo (converted_loop n masks l ps)
  led_to l ps body few beside =
      (nest_leads (bits_of width) masks n branching l ps body few).at v v.store v.steps going beside sound_nest

  by_loop : (m : Nest) → IsLoopOf masks n m → m.masks ≤ 2 ^ 32 → AreBesideIn m → LedTo m
  by_loop m f few beside =
      subst LedTo f.made
      (led_to f.loop f.within f.body (subst (λ (z : Nest). z.masks ≤ 2 ^ 32) (sym f.made) few)
      (subst AreBesideIn (sym f.made) beside))

  masks_lead : (m : Nest) → converted_nest masks n ≡ Some m → m.masks ≤ 2 ^ 32 → AreBesideIn m
      → Led (AreBesideMasks masks m.masks) (does_all (fortran77 width) None (loops_then_after n) v)
      (does_all (fortran77 width) None (loops_then_after m) v)
  masks_lead m e few beside =
      subst (λ (x : State). Led (AreBesideMasks masks m.masks) x (does_all (fortran77 width) None (loops_then_after m) v))
      (nest_is_loops width n v)
      (subst (λ (x : State). Led (AreBesideMasks masks m.masks) (does_all (fortran77 width) None (block_of_nest n) v) x)
      (nest_is_loops width m v) (by_loop m (loop_of masks n m e) few beside))

-- ---- from the loop

module _ (width : Width) (p b : Program) (counts : Counts) (n m : Nest) (found : IsFoundNest p n) (program : IsProgram77 (fortran77 width) p)
    (is_nest : Contains (found_in p) (InNest n)) (passed : IsPassedAs counts n m)
    (add : AddMadeNames p.declarations b.declarations)
    (counters : All (λ (l : Loop). IsSomeAnd (declared b.declarations l.variable) IsCounter) (nest_loops passed.normal))
    (marks : AreMasksDeclared b counts.masks passed.converted.masks) where
  abbrev k : Nest
  k = passed.converted

  stands : Stands width program found.loop
  stands = loop_stands width program found.loop found.stands

  branching_and_prepared : IsBranching passed.normal × IsPrepared b.declarations stands.round.variables normal_depth k
  branching_and_prepared =
      passed_nest_is_converted width p counts n m stands.round found program is_nest passed stands.named stands.is b add
      counters marks

  branching : IsBranching passed.normal
  branching = branching_and_prepared.0

  no_mask : (x : List ℕ) → Contains (names_of p) x → IsOther x
  no_mask x i j e = program_has_no_masks width p j program (subst (Contains (names_of p)) (sym e) i)

  module _ (s v : State) (holds : HoldsProgram (fortran77 width) b v.store) (sized : HoldsSized v.store)
      (start : GoOnAlike p s v) (sound : IsSound (does (fortran77 width) None (as_statement found.loop.loop.loop) s).way) where
    abbrev first : State
    first = does (fortran77 width) None (as_statement found.loop.loop.loop) s

    abbrev second : State
    second = does_all (fortran77 width) None (loops_then_after passed.normal) v

    abbrev third : State
    third = does_all (fortran77 width) None (loops_then_after k) v

    one : GoOnAlike p first second
    one =
        normal_nest_goes_on_as_loop width p b n passed.normal found s v program is_nest passed.made add counters holds sized
        start sound

    second_goes : second.way ≡ Going
    second_goes = ap (λ (x : State). x.way) one.rest ∙ one.going

    two : Led (AreBesideMasks counts.masks passed.converted.masks) second third
    two =
        masks_lead width counts.masks passed.normal v branching (ap (λ (x : State). x.way) start.rest ∙ start.going)
        (subst IsSound (sym second_goes) tt) passed.converted passed.is_converted (few_converted counts n m passed)
        (masks_beside width b counts.masks passed.converted.masks v marks holds)

    goes_on : GoOnAlike p first third
    goes_on = record {
      going = one.going;
      agree = agree_on p first.store second.store third.store one.agree
          (same_agree p second.store third.store (λ x i. sym (two.stores.bounds x (no_mask x i)))
          (λ c i. sym (two.stores.held c (no_mask c.name i))));
      rest =
          two.rest ∙ ap (λ (x : State). record x { store = third.store; steps = third.steps }) one.rest;
    }

    -- with its symbols found anew it comes to the same moment
    third_goes : third.way ≡ Going
    third_goes = ap (λ (x : State). x.way) goes_on.rest ∙ goes_on.going

    alike : does_all (fortran77 width) None (loops_then_after passed.anew) v ≡ third
    alike =
        ap (λ (z : Nest). does_all (fortran77 width) None (loops_then_after z) v) passed.is_anew
        ∙ nest_with_symbols_runs_alike width passed.normal passed.converted v branching_and_prepared.1.plain sized
        (subst IsSound (sym third_goes) tt)

    goes_on_anew : GoOnAlike p first (does_all (fortran77 width) None (loops_then_after passed.anew) v)
    goes_on_anew = subst (λ (x : State). GoOnAlike p first x) (sym alike) goes_on

    -- and so it goes on with its inductions substituted, and its scalars renamed
    module _ (on : GoesOnAs width p b (with_symbols_found passed.normal passed.converted) passed.named) where
      goes_on_so : GoesOnAs width p b passed.anew passed.named
      goes_on_so = subst (λ (z : Nest). GoesOnAs width p b z passed.named) (sym passed.is_anew) on

      anew_goes : (does_all (fortran77 width) None (loops_then_after passed.anew) v).way ≡ Going
      anew_goes = ap (λ (x : State). x.way) goes_on_anew.rest ∙ goes_on_anew.going

      goes_on_named : GoOnAlike p first (does_all (fortran77 width) None (loops_then_after passed.named) v)
      goes_on_named =
          alike_then p first (does_all (fortran77 width) None (loops_then_after passed.anew) v)
          (does_all (fortran77 width) None (loops_then_after passed.named) v) goes_on_anew
          (goes_on_so v (ap (λ (x : State). x.way) start.rest ∙ start.going) holds sized
          (subst IsSound (sym anew_goes) tt))

-- from moments that agree on p, where b declares the counters, the masks and the names of ranges, and where the loop
-- meets no fault
pub unexpanded_nest_goes_on_as_loop : (width : Width) (p b : Program) (counts : Counts) (n m : Nest) (found : IsFoundNest p n) (s v : State)
    → IsProgram77 (fortran77 width) p → Contains (found_in p) (InNest n) → (passed : IsPassedAs counts n m)
    → AddMadeNames p.declarations b.declarations
    → All (λ (l : Loop). IsSomeAnd (declared b.declarations l.variable) IsCounter) (nest_loops passed.normal)
    → AreMasksDeclared b counts.masks passed.named.masks
    → GoesOnAs width p b (with_symbols_found passed.normal passed.converted) passed.named → HoldsProgram (fortran77 width) b v.store → HoldsSized v.store
    → GoOnAlike p s v
    → IsSound (does (fortran77 width) None (as_statement found.loop.loop.loop) s).way
    → GoOnAlike p (does (fortran77 width) None (as_statement found.loop.loop.loop) s)
    (does_all (fortran77 width) None (loops_then_after passed.named) v)
unexpanded_nest_goes_on_as_loop width p b counts n m found s v program is_nest passed add counters marks on holds sized start sound =
    goes_on_named width p b counts n m found program is_nest passed add counters
    (subst (AreMasksDeclared b counts.masks) (same_masks counts n m passed) marks) s v holds sized start sound on
