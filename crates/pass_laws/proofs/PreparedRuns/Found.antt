-- The loops of the normal form of a found nest, and what comes after them, go on as the nest's loop does.
use Rattle.std.proofs.Common.{◌≡◌, refl, sym, ap, ◌∙◌, subst, ℕ, ◌≤◌, ℤ, Bool, true, false, List, [], Option, Some, None}
use Rattle.std.proofs.Common.{IfSome, Contains, length, get_or, arith}
use Rattle.std.specs.Option.{IsSomeAnd}
use Rattle.std.specs.Prelude.{All}
use Rattle.std.proofs.lemmas.List.Elements.{All-from_recursion, All-map}
use Rattle.tree.specs.Plain.{Block, Declaration, Expression, Program, Statement, no_statements, statement}
use Rattle.meaning.proofs.Agreeing.{statements_keep_agreement}
use Rattle.meaning.proofs.Kept.{IsKeptByParts, Keeps, Keeps-nothing, Keeps-then}
use Rattle.meaning.specs.Agreement.{MomentsAgree}
use Rattle.meaning.specs.Reads.{names_in_block}
use Rattle.meaning.specs.Blocks.{outermost}
use Rattle.meaning.specs.Dialect.{fortran77}
use Rattle.tree.specs.declared.width.Width.{Width}
use Rattle.meaning.specs.Holding.{HasBounds, HoldsProgram}
use Rattle.meaning.specs.Profile77.{IsDeclaration, IsProgram77}
use Rattle.meaning.specs.Relined.{AlikeButLine, way_without_line}
use Rattle.meaning.specs.Run.{Act, Cut, Failed, Going, Jumping, State, Stopped, Way, arrives, does, does_all, either, goes}
use Rattle.meaning.specs.Run.{nothing}
use Rattle.meaning.specs.Store.{Agree, Store, cell_in, names_of, nought_like}
use Rattle.meaning.specs.Typed.{declared}
use Rattle.meaning_laws.proofs.dialects.MadeNames.{is_declared}
use Rattle.meaning_laws.proofs.dialects.NamesIn.{block_known}
use Rattle.meaning_laws.proofs.profiles.Lists.{all_at}
use Rattle.meaning_laws.proofs.profiles.Names as declarations
use Rattle.meaning_laws.proofs.profiles.Programs.{kept_declaration}
use Rattle.meaning_laws.specs.profiles.Profiles.{AddMadeNames}
use Rattle.rewrite.specs.Following.{IsSound, sequential}
use Rattle.find_nests.specs.Found.{InNest, found_in}
use Rattle.find_nests.specs.Laws.{IsFoundNest}
use Rattle.find_nests.specs.Loops.{as_statement}
use Rattle.linear_forms.specs.Laws.{HoldsSized}
use Rattle.linear_forms.specs.Linear.{HaveValues}
use Rattle.last_values.specs.normal_forms.Numbers.{values_from}
use Rattle.nest.specs.Allocations.{allocations_then, block_then, deallocations}
use Rattle.nest.specs.Blocks.{block_of_nest, block_of_parts, statement_of_part}
use Rattle.nest.specs.Bodies.{nest_loops}
use Rattle.nest.specs.Plain.{Branches, Choice, Jump, Label, Loop, Made, Nest, Part, Parts, Run, Turns, branch}
use Rattle.nest.specs.Plain.{no_branches, no_parts, part}
use Rattle.nest.specs.statement_loops.Names.{is_among}
use Rattle.nest_order.proofs.runs.Quieting.{quiet_statements_keep_lines}
use Rattle.nest_order.specs.runs.Quiet.{AreQuiet, AreQuietArms, IsQuiet, SameLines}
use Rattle.nest_order.specs.runs.Touched.{nth_of}
use Rattle.nest.specs.Blocks.{arms_of_branches, assignment_of, guarded_statement, under_guard}
use Rattle.nest.specs.Plain.{Guarded}
use Rattle.normal_loops.specs.Normalised.{normalised}
use Rattle.pass_laws.proofs.BranchMeaning.Ways as ways
use Rattle.pass_laws.proofs.BranchMeaning.Ways.{IsOn, no_jump}
use Rattle.pass_laws.proofs.BranchSources.Found.{found_nest_is_branched_source, found_nest_keeps_meaning}
use Rattle.pass_laws.proofs.NestLoops.FoundRuns.{found_nest_runs}
use Rattle.pass_laws.proofs.NestLoops.Standing.{Stands, loop_stands}
use Rattle.pass_laws.proofs.NormalMeaning.Made as texts
use Rattle.pass_laws.proofs.NormalMeaning.Made.{behind}
use Rattle.pass_laws.proofs.ReadyNests.Made as normal
use Rattle.pass_laws.specs.branch_meaning.Sources.{IsBranchedSource}
use Rattle.pass_laws.specs.normal_facts.Laws.{IsCounter}
use Rattle.pass_laws.specs.normal_meaning.Laws.{GoOnButCounters}
use Rattle.pass_laws.specs.normal_runs.Sources.{counters_in}
use Rattle.nest_steps.specs.Keeping.{GoOnAlike}
use Rattle.pass_laws.specs.prepared_nests.After.{AreEndings}
use Rattle.pass_laws.proofs.PreparedRuns.CounterNames.{no_counter, variables_are_counters}
use Rattle.pass_laws.proofs.PreparedRuns.Endings.{endings_quiet}
use Rattle.pass_laws.proofs.PreparedRuns.LastEndings.{last_values_end}
use Rattle.pass_laws.proofs.PreparedRuns.Symbols.{IsNumber, have_values, holds_number, symbol_is_number}
use Rattle.pass_laws.proofs.PreparedRuns.Symbols.{value_there, values_in}
use Rattle.pass_laws.specs.prepared_runs.Laws.{NormalNestGoesOnAsLoop}
use Rattle.pass_laws.specs.prepared_runs.Running.{loops_then_after}
use Rattle.tree.specs.Widths.{bits_of}
use Rattle.meaning.proofs.Widths.{narrowest, widest}

-- ---- stores and moments

agree_on : (p : Program) (s t u : Store) → Agree p s t → Agree p t u → Agree p s u
agree_on p s t u a b = record {
  bounds = λ x n. a.bounds x n ∙ b.bounds x n;
  held = λ c n here. a.held c n here ∙ b.held c n (ap (λ b. cell_in b c.name c.subscripts) (sym (a.bounds c.name n)) ∙ here);
  kinds = λ c n. a.kinds c n ∙ b.kinds c n;
}

-- the same in all but store and steps
pub with_rest : (u v : State) → u.written ≡ v.written → u.input ≡ v.input → u.had_value ≡ v.had_value → u.way ≡ v.way
    → u ≡ record v { store = u.store; steps = u.steps }
with_rest u v a b c d =
    ap (λ x. record u { written = x }) a
    ∙ (ap (λ x. record u { written = v.written; input = x }) b
    ∙ (ap (λ x. record u { written = v.written; input = v.input; had_value = x }) c
    ∙ ap (λ x. record u { written = v.written; input = v.input; had_value = v.had_value; way = x }) d))

sound_beside : (v w : Way) → way_without_line v ≡ way_without_line w → IsSound v → IsSound w
sound_beside v w e h = back w (subst IsSound e (forth v h))
  where
    forth : (w : Way) → IsSound w → IsSound (way_without_line w)
    forth Going k = k
    forth (Jumping n) k = k
    forth Stopped k = k
    forth (Failed f n) k = k
    forth Cut k = k

    back : (w : Way) → IsSound (way_without_line w) → IsSound w
    back Going k = k
    back (Jumping n) k = k
    back Stopped k = k
    back (Failed f n) k = k
    back Cut k = k

going_beside : (v w : Way) → way_without_line v ≡ way_without_line w → w ≡ Going → v ≡ Going
going_beside v w e h = by v (subst (λ x. way_without_line v ≡ way_without_line x) h e)
  where
    by : (v : Way) → way_without_line v ≡ Going → v ≡ Going
    by Going k = refl
    by (Jumping n) k = let no : ⊥ = cc in absurd no
    by Stopped k = let no : ⊥ = cc in absurd no
    by (Failed f n) k = let no : ⊥ = cc in absurd no
    by Cut k = let no : ⊥ = cc in absurd no

-- ---- parts of nests end where they stand, and read and write no lines

module _ (bits line : ℕ) where
  abbrev StaysOn : State → Type 0
  StaysOn s = IsSound s.way → IsOn s.way

  kept : IsKeptByParts (sequential bits) None StaysOn
  kept = record {
    failed = λ f l s h g. absurd g;
    cut = λ s n h g. absurd g;
    written = λ t s h. h;
    stored = λ c v s e h. h;
    allocated = λ y cs s e h. h;
    deallocated = λ y s e h. h;
    input = λ rest b s h. h;
    step = λ s h. h;
  }

  label_on : (k : ℕ) (s : State) → StaysOn s → StaysOn (does (sequential bits) None (statement_of_part line (Label k)) s)
  label_on k s h = by (arrives k s.way)
    where
      by : (b : Bool) → StaysOn (either b (goes Going) nothing s)
      by true g = tt
      by false g = h g

  mutual
    part_on : (p : Part) → Keeps StaysOn (does (sequential bits) None (statement_of_part line p))
    part_on (Run g) = ways.run_keeps bits line StaysOn kept g
    part_on (Turns l ps) = ways.loop_keeps bits line StaysOn kept l ps (parts_on ps)
    part_on (Choice bs ps) = branches_on bs (does_all (sequential bits) None (block_of_parts line ps)) (parts_on ps)
    part_on (Label k) = record { at = label_on k }
    part_on (Jump k) = ways.jump_keeps bits line StaysOn kept k (λ s h g. tt)

    parts_on : (ps : Parts) → Keeps StaysOn (does_all (sequential bits) None (block_of_parts line ps))
    parts_on no_parts = Keeps-nothing (sequential bits) None StaysOn kept
    parts_on (part p ps) = Keeps-then (sequential bits) None StaysOn kept _ _ (part_on p) (parts_on ps)

    branches_on : (bs : Branches) (other : Act) → Keeps StaysOn other → Keeps StaysOn (ways.choosing bits line bs other)
    branches_on no_branches other h = h
    branches_on (branch test qs bs) other h =
        ways.choice_keeps bits line StaysOn kept test qs bs other (parts_on qs) (branches_on bs other h)

module _ (line : ℕ) where
  statement_quiet : (g : Guarded) → IsQuiet (guarded_statement g)
  statement_quiet g = by g.guard
    where
      by : (o : Option Expression) → IsQuiet (under_guard g.line o (assignment_of g))
      by None = tt
      by (Some e) = (((tt, tt), tt), tt)

  mutual
    part_quiet : (p : Part) → IsQuiet (statement_of_part line p)
    part_quiet (Run g) = statement_quiet g
    part_quiet (Turns l ps) = parts_quiet ps
    part_quiet (Choice bs ps) = (branches_quiet bs, parts_quiet ps)
    part_quiet (Label k) = tt
    part_quiet (Jump k) = tt

    parts_quiet : (ps : Parts) → AreQuiet (block_of_parts line ps)
    parts_quiet no_parts = tt
    parts_quiet (part p ps) = (part_quiet p, parts_quiet ps)

    branches_quiet : (bs : Branches) → AreQuietArms (arms_of_branches line bs)
    branches_quiet no_branches = tt
    branches_quiet (branch test ps bs) = (parts_quiet ps, branches_quiet bs)

-- ---- blocks of a nest to which nothing was added

then_nothing : (b : Block) → block_then b no_statements ≡ b
then_nothing no_statements = refl
then_nothing (statement c cs) = ap (statement c) (then_nothing cs)

bare_block : (n : Nest) → n.made ≡ [] → block_of_nest n ≡ loops_then_after n
bare_block n none =
    ap (λ (ms : List Made). allocations_then n.line ms
    (statement (statement_of_part n.line n.body) (block_then n.after (deallocations n.line ms)))) none
    ∙ ap (statement (statement_of_part n.line n.body)) (then_nothing n.after)

-- ---- names

pub short_name : (width : Width) (p : Program) → IsProgram77 (fortran77 width) p → (x : List ℕ) → Contains (names_of p) x → length x ≤ 6
short_name width p program x i =
    let d = is_declared p.declarations x i in
    let f = declarations.found p.declarations x d.0 d.1 in
    let is = all_at (IsDeclaration (fortran77 width)) p.declarations d.0 program.declarations.each f.among in
    subst (λ (y : List ℕ). length y ≤ 6) f.name is.name.within

counter_bounds : (o : Option Declaration) (b : Option (List (ℤ × ℤ))) → IfSome o (λ (e : Declaration). HasBounds e.extent b)
    → IsSomeAnd o IsCounter → b ≡ Some []
counter_bounds None b h g = absurd g
counter_bounds (Some e) b h g = subst (λ x. HasBounds x b) g.scalar h

module _ (width : Width) (p r : Program) (n m : Nest) (found : IsFoundNest p n) (program : IsProgram77 (fortran77 width) p)
    (is_nest : Contains (found_in p) (InNest n)) (made : normalised n ≡ Some m)
    (add : AddMadeNames p.declarations r.declarations)
    (counters : All (λ (l : Loop). IsSomeAnd (declared r.declarations l.variable) IsCounter) (nest_loops m)) where
  abbrev c : Statement
  c = as_statement found.loop.loop.loop

  source : IsBranchedSource n
  source = found_nest_is_branched_source width p n program is_nest

  is : texts.IsMadeOf n m
  is = texts.made_of n m made

  parts : normal.IsMadeOf n m
  parts = normal.made_of n m made

  none : n.made ≡ []
  none = ap (λ (k : Nest). k.made) found.is

  bare : n.after ≡ no_statements
  bare = ap (λ (k : Nest). k.after) found.is

  old_block : block_of_nest n ≡ statement (statement_of_part n.line n.body) no_statements
  old_block = bare_block n none ∙ ap (statement (statement_of_part n.line n.body)) bare

  new_block : block_of_nest m ≡ loops_then_after m
  new_block = bare_block m (is.made ∙ none)

  ends : AreEndings m.after
  ends = subst AreEndings (sym (is.after ∙ ap (λ (b : Block). block_then b (behind n)) bare)) (last_values_end n)

  symbol_number : (k : ℕ) (x : List ℕ) → nth_of n.symbols k ≡ Some x → IsNumber r.declarations x
  symbol_number k x e =
      let l = found.loop.loop.loop in
      let those = subst (λ (ys : List (List ℕ)). nth_of ys k ≡ Some x) (ap (λ (j : Nest). j.symbols) found.is) e in
      let d = symbol_is_number p.declarations program.declarations.ordered l.variable l.body k x those in
      record {
        declaration = d.declaration;
        is = kept_declaration p.declarations r.declarations add x d.declaration d.is;
        kind = d.kind;
        extent = d.extent;
      }

  stands : Stands p.declarations found.loop
  stands = loop_stands p.declarations p.body 0 [] outermost found.loop program.statements found.stands

  known_names : All (Contains (names_of p)) (names_in_block (statement c no_statements))
  known_names =
      All-from_recursion (Contains (names_of p)) (names_in_block (statement c no_statements))
      (block_known p.declarations (statement c no_statements) stands.round (stands.is, tt))

  apart : (x : List ℕ) → Contains (names_of p) x → is_among (counters_in n) x ≡ false
  apart x i = no_counter n m parts x (short_name width p program x i)

  declared_counters : All (λ x. IsSomeAnd (declared r.declarations x) IsCounter) (counters_in n)
  declared_counters =
      subst (All (λ x. IsSomeAnd (declared r.declarations x) IsCounter)) (variables_are_counters n m parts)
      (All-map (λ x. IsSomeAnd (declared r.declarations x) IsCounter) (λ (l : Loop). l.variable) (nest_loops m) counters)

  module _ (s t : State) (holds : HoldsProgram (fortran77 width) r t.store) (sized : HoldsSized t.store) (alike : GoOnAlike p s t)
      (sound : IsSound (does (fortran77 width) None c s).way) where
    abbrev s0 : State
    s0 = record s { store = t.store }

    abbrev values : ℕ → ℤ
    values = values_in n.symbols t.store

    abbrev first : State
    first = does_all (fortran77 width) None (block_of_nest n) s0

    abbrev second : State
    second = does_all (fortran77 width) None (block_of_nest m) t

    known : HaveValues n.symbols t.store (values_from (length n.symbols) 0 values)
    known =
        have_values n.symbols values t.store
        (λ k x e. value_there n.symbols t.store k x e (holds_number (fortran77 width) r t.store x holds (symbol_number k x e)))

    scalars : All (λ x. t.store.bounds x ≡ Some []) (counters_in n)
    scalars k d i =
        counter_bounds (declared r.declarations (get_or (counters_in n) k d)) (t.store.bounds (get_or (counters_in n) k d))
        (holds.bounds (get_or (counters_in n) k d)) (declared_counters k d i)

    -- ---- the loop, and the nest's loop

    moments : MomentsAgree p (does (fortran77 width) None c s) (does (fortran77 width) None c s0)
    moments = statements_keep_agreement (fortran77 width) None p (statement c no_statements) s s0 known_names
        (record { store = alike.agree; written = refl; input = refl; had_value = refl; steps = refl; way = refl })

    runs : AlikeButLine (does (fortran77 width) None c s0) first × ((does (fortran77 width) None c s0).had_value ≡ first.had_value)
    runs = found_nest_runs (fortran77 width) p n found program (fortran77 width) None s0

    first_sound : IsSound first.way
    first_sound = sound_beside (does (fortran77 width) None c s0).way first.way runs.0.way (subst IsSound moments.way sound)

    alone : first ≡ does (fortran77 width) None (statement_of_part n.line n.body) s0
    alone = ap (λ (b : Block). does_all (fortran77 width) None b s0) old_block

    first_goes : first.way ≡ Going
    first_goes =
        ap (λ (u : State). u.way) alone
        ∙ no_jump (does (fortran77 width) None (statement_of_part n.line n.body) s0).way
        ((part_on (bits_of width) n.line n.body).at s0 (λ g. ways.going_on s.way alike.going)
        (subst (λ (u : State). IsSound u.way) alone first_sound))
        (ways.lands (bits_of width) n.line n.body [] source.jumps s0 (ways.going_comes _ s.way alike.going))

    loop_goes : (does (fortran77 width) None c s).way ≡ Going
    loop_goes = moments.way ∙ going_beside (does (fortran77 width) None c s0).way first.way runs.0.way first_goes

    -- ---- the normal form

    t_goes : t.way ≡ Going
    t_goes = ap (λ (u : State). u.way) alike.rest ∙ alike.going

    both : GoOnButCounters n first second
    both =
        found_nest_keeps_meaning width (bits_of width) p n m values s0 t (narrowest width) (widest width) program is_nest made
        (record { way = alike.going; way_beside = t_goes; stores = record { bounds = λ x h. refl; held = λ d h. refl } })
        sized sized known scalars first_goes

    agree : Agree p (does (fortran77 width) None c s).store second.store
    agree = agree_on p (does (fortran77 width) None c s).store first.store second.store
        (subst (λ (u : Store). Agree p (does (fortran77 width) None c s).store u) runs.0.store moments.store)
        (record {
          bounds = λ x i. sym (both.stores.bounds x (apart x i));
          held = λ d i here. sym (both.stores.held d (apart d.name i));
          kinds = λ d i. ap nought_like (sym (both.stores.held d (apart d.name i)));
        })

    -- ---- lines

    loop_lines : SameLines s0 first
    loop_lines =
        quiet_statements_keep_lines (fortran77 width) None (block_of_nest n) s0
        (subst AreQuiet (sym old_block) (part_quiet n.line n.body, tt))

    normal_lines : SameLines t second
    normal_lines =
        quiet_statements_keep_lines (fortran77 width) None (block_of_nest m) t
        (subst AreQuiet (sym new_block) (part_quiet m.line m.body, endings_quiet m.after ends))

    written : second.written ≡ (does (fortran77 width) None c s).written
    written =
        normal_lines.written ∙ (ap (λ (u : State). u.written) alike.rest
        ∙ sym (moments.written ∙ (runs.0.written ∙ loop_lines.written)))

    input : second.input ≡ (does (fortran77 width) None c s).input
    input =
        normal_lines.input ∙ (ap (λ (u : State). u.input) alike.rest
        ∙ sym (moments.input ∙ (runs.0.input ∙ loop_lines.input)))

    had_value : second.had_value ≡ (does (fortran77 width) None c s).had_value
    had_value =
        normal_lines.had_value ∙ (ap (λ (u : State). u.had_value) alike.rest
        ∙ sym (moments.had_value ∙ (runs.1 ∙ loop_lines.had_value)))

    goes_on : GoOnAlike p (does (fortran77 width) None c s) second
    goes_on = record {
      going = loop_goes;
      agree = agree;
      rest = with_rest second (does (fortran77 width) None c s) written input had_value (both.way_beside ∙ sym loop_goes);
    }

pub normal_nest_goes_on_as_loop : (width : Width) → NormalNestGoesOnAsLoop width
normal_nest_goes_on_as_loop width p r n m found s t program is_nest made add counters holds sized alike sound =
    subst (λ (b : Block). GoOnAlike p (does (fortran77 width) None (as_statement found.loop.loop.loop) s)
    (does_all (fortran77 width) None b t)) (new_block width p r n m found program is_nest made add counters)
    (goes_on width p r n m found program is_nest made add counters s t holds sized alike sound)
