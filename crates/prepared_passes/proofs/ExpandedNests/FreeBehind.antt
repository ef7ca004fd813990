-- What stands behind the loops of a found nest with masks gives values to no private scalar, and reads none.
use Rattle.std.proofs.Common.{◌≡◌, ◌⊎◌, inl, inr, refl, sym, ap, ◌∙◌, subst, ℕ, ◌<◌, ◌≤◌, ◌^◌, Bool, true, false, ◌&&◌, ◌||◌, List, [], ◌∷◌, ◌++◌, map, length, Option, Some, None, Contains, arith}
use Rattle.std.specs.Prelude.{All}
use Rattle.std.specs.Option.{IsSomeAnd}
use Rattle.std.specs.Str.{bytes_eq}
use Rattle.std.proofs.lemmas.Slice.Eq.{bytes_eq-Decides}
use Rattle.tree.specs.Names.{IsSourceName}
use Rattle.tree.specs.Plain.{Block, Declaration, Expression, Program, no_statements}
use Rattle.components.specs.Lists.{Each}
use Rattle.prepared_passes.proofs.ConvertedNests.Converted.{converted_branched_nest_is_prepared}
use Rattle.prepared_passes.proofs.ConvertedNests.Standing.{loop_of}
use Rattle.prepared_passes.proofs.ConvertedNests.Unguarded.{found_nest_is_unguarded}
use Rattle.prepared_passes.specs.conversion.Places.{IsMask}
use Rattle.find_nests.specs.Found.{InNest, found_in}
use Rattle.find_nests.specs.Laws.{IsFoundNest}
use Rattle.find_nests.specs.Loops.{as_statement}
use Rattle.if_convert.specs.Converted.{converted_loop, converted_nest}
use Rattle.if_convert.specs.Masks.{mask_name}
use Rattle.last_values.specs.Behind.{stands_behind}
use Rattle.last_values.specs.declared.behind.NestedLoop.{NestedLoop}
use Rattle.meaning.specs.Blocks.{Surroundings}
use Rattle.meaning.specs.Dialect.{fortran77}
use Rattle.tree.specs.declared.width.Width.TheVariants.{Plain}
use Rattle.tree.specs.declared.width.Width.{Width}
use Rattle.meaning.specs.Profile77.{IsProgram77, IsStatement}
use Rattle.meaning.specs.Typed.{declared}
use Rattle.meaning_laws.specs.profiles.Profiles.{AddMadeNames}
use Rattle.nest.specs.Allocations.{block_then}
use Rattle.nest.specs.Bodies.{Standing, nest_loops, nest_statements}
use Rattle.nest.specs.Plain.{Choice, Jump, Label, Loop, Nest, Part, Parts, Run, Turns}
use Rattle.nest.specs.statement_loops.Names.{is_among}
use Rattle.nest_order.proofs.orders.Membership.{In-map}
use Rattle.nest_order.specs.orders.Lists.{In}
use Rattle.normal_loops.specs.Normalised.{normalised}
use Rattle.pass_laws.proofs.BranchSources.Found.{found_nest_is_branched_source}
use Rattle.pass_laws.proofs.LastRuns.Made.{each_front, each_of_all}
use Rattle.pass_laws.proofs.NormalFacts.MadeStatements.{counter_long}
use Rattle.pass_laws.proofs.NormalFacts.Tables.{all_in, each_asked, each_from, each_in}
use Rattle.pass_laws.proofs.NormalMeaning.Made as texts
use Rattle.pass_laws.proofs.ReadyNests.Lists.{Each-All}
use Rattle.pass_laws.proofs.ReadyNests.Made as normal
use Rattle.pass_laws.proofs.ReadyNests.Walk.{EachIn}
use Rattle.pass_laws.specs.branch_meaning.Sources.{IsBranchedSource}
use Rattle.pass_laws.specs.normal_facts.Laws.{IsCounter}
use Rattle.pass_laws.specs.normal_runs.Sources.{counters_in, ends_behind, loops_in, variables_in}
use Rattle.pass_laws.proofs.PreparedNests.Lists.{Contains-In, In-Contains}
use Rattle.pass_laws.proofs.PreparedNests.Normal.MadeNames.{extends}
use Rattle.pass_laws.proofs.PreparedNests.Normal.Prepared.{normal_nest_is_branched}
use Rattle.pass_laws.proofs.PreparedNests.Normal.Sources.{IsSoundLoop, IsSoundStatement, declared_source, loop_is}
use Rattle.pass_laws.proofs.PreparedNests.Walks.{walked}
use Rattle.pass_laws.specs.prepared_nests.After.{CountsNone}
use Rattle.pass_laws.specs.prepared_nests.Laws.{normal_depth}
use Rattle.pass_laws.specs.prepared_nests.Loops.{IsPreparedLoop}
use Rattle.pass_laws.specs.prepared_nests.Nests.{IsBranched, IsPrepared}
use Rattle.pass_laws.specs.prepared_nests.Statements.{IsPreparedStatement}
use Rattle.rewrite.proofs.Replacing.{either_false}
use Rattle.scalar_expand.proofs.Changes.{found}
use Rattle.scalar_expand.specs.Expanded.{named_private}
use Rattle.scalar_expand.specs.Privates.{private_scalars}
use Rattle.scalar_expand.specs.declared.privates.Private.{Private}
use Rattle.symbols_anew.specs.Found.{names_assigned}
use Rattle.prepared_passes.proofs.SymbolsAnew.Same.{assigned_in}
use Rattle.prepared_passes.specs.expansion.FreeBehind.{FoundNestIsFreeBehind}
use Rattle.prepared_passes.specs.expansion.Laws.{MayBeExpanded, counters_of}
use Rattle.prepared_passes.specs.expansion.Runs.{AreFree, IsOther, MayGet}
use Rattle.prepared_passes.proofs.ExpandedNests.LastGiven.{nested_named, values_free}
use Rattle.prepared_passes.proofs.ExpandedNests.Names.{source_no_array, start, symbol_apart}
use Rattle.prepared_passes.proofs.ExpandedNests.Unassigned.{left_alone}

-- ---- the nest with masks

of_body : (masks : ℕ) (x : Nest) (l : Loop) (ps : Parts) → x.body ≡ Turns l ps → converted_nest masks x ≡ Some (converted_loop x masks l ps)
unfolding converted_nest
of_body masks x l ps e =
    ap (λ (b : Part). elim b [
      | Run g ↦ None
      | Turns o qs ↦ Some (converted_loop x masks o qs)
      | Choice bs other ↦ None
      | Label k ↦ None
      | Jump k ↦ None
    ]) e

symbols_kept : (masks : ℕ) (m k : Nest) → converted_nest masks m ≡ Some k → k.symbols ≡ m.symbols
symbols_kept masks m k e = let f = loop_of masks m k e in ap (λ (z : Nest). z.symbols) (sym f.made)

after_kept : (masks : ℕ) (m k : Nest) → converted_nest masks m ≡ Some k → k.after ≡ m.after
after_kept masks m k e = let f = loop_of masks m k e in ap (λ (z : Nest). z.after) (sym f.made)

-- the loops alone, in the body of a loop with the variable v
abbrev alone_in : Nest → Nest
alone_in m = record m { after = no_statements }

still_prepared : (es : List Declaration) (deepest : ℕ) (m : Nest) (x : Standing) → IsPreparedStatement es m deepest x → IsPreparedStatement es (alone_in m) deepest x
still_prepared es deepest m x h = record {
  line = h.line;
  plain = h.plain;
  names = h.names;
  target = h.target;
  free = h.free;
  kind = h.kind;
  left = h.left;
  right = h.right;
  guard = h.guard;
  deep = h.deep;
  canonical = h.canonical;
}

branched_alone : (es : List Declaration) (around : List (List ℕ)) (deepest : ℕ) (m : Nest) (v : List ℕ) → IsSourceName v → IsBranched es around deepest m
    → ((x : Standing) → In x (nest_statements m) → ¬ (x.statement.left.name ≡ v)) → IsBranched es (v ∷ []) deepest (alone_in m)
branched_alone es around deepest m v source b none = record {
  parts = record {
    line = b.parts.line;
    number = b.parts.number;
    symbols = b.parts.symbols;
    ordered = b.parts.ordered;
    few = b.parts.few;
    loops = b.parts.loops;
    once = b.parts.once;
    statements = Each-All (IsPreparedStatement es (alone_in m) deepest) (nest_statements m)
        (each_from (IsPreparedStatement es (alone_in m) deepest) (nest_statements m)
        (λ x i. still_prepared es deepest m x (all_in (IsPreparedStatement es m deepest) (nest_statements m) b.parts.statements x i)));
    made = b.parts.made;
    made_once = b.parts.made_once;
    after = record { endings = tt; names = Each-All CountsNone [] tt; profile = λ w e. tt; deep = omega arith };
    source = Each-All IsSourceName (v ∷ []) (source, tt);
    outside = Each-All (λ (x : Standing). ¬ Contains (v ∷ []) x.statement.left.name) (nest_statements m)
        (each_from (λ (x : Standing). ¬ Contains (v ∷ []) x.statement.left.name) (nest_statements m) (λ x i c. one (Contains-In x.statement.left.name (v ∷ []) c) (none x i)));
  };
  tests = b.tests;
  jumps = b.jumps;
}
  where
    one : {y : List ℕ} → In y (v ∷ []) → ¬ (y ≡ v) → ⊥
    one (inl e) f = f e
    one (inr j) f = j

among_map : (ls : List NestedLoop) (l : NestedLoop) → In l ls → is_among (map (λ (o : NestedLoop). o.turns.variable) ls) l.turns.variable ≡ true
among_map [] l i = absurd i
among_map (o ∷ ls) l (inl e) = ap (λ b. b || is_among (map (λ (o : NestedLoop). o.turns.variable) ls) l.turns.variable) ((bytes_eq-Decides o.turns.variable l.turns.variable).1 (ap (λ (x : NestedLoop). x.turns.variable) (sym e)))
among_map (o ∷ ls) l (inr i) = by (bytes_eq o.turns.variable l.turns.variable) (among_map ls l i)
  where
    by : (b : Bool) → is_among (map (λ (o : NestedLoop). o.turns.variable) ls) l.turns.variable ≡ true → (b || is_among (map (λ (o : NestedLoop). o.turns.variable) ls) l.turns.variable) ≡ true
    by true e = refl
    by false e = e

named_each : (P : List ℕ → Type 0) (ls : List NestedLoop) (l : NestedLoop) → In l ls → Each P (map (λ (o : NestedLoop). o.turns.variable) ls) → P l.turns.variable
named_each P [] l i h = absurd i
named_each P (o ∷ ls) l (inl e) h = subst (λ (x : NestedLoop). P x.turns.variable) (sym e) h.0
named_each P (o ∷ ls) l (inr i) h = named_each P ls l i h.1

not_in : (ys : List (List ℕ)) (x : List ℕ) → is_among ys x ≡ false → ¬ In x ys
not_in [] x e i = i
not_in (y ∷ ys) x e (inl f) =
    let yes : bytes_eq y x ≡ true = (bytes_eq-Decides y x).1 (sym f) in
    let no : true ≡ false = sym yes ∙ (either_false (bytes_eq y x) (is_among ys x) e).0 in
    cc
not_in (y ∷ ys) x e (inr i) = not_in ys x (either_false (bytes_eq y x) (is_among ys x) e).1 i

-- ---- the nest

module _ (width : Width) (p : Program) (n m j : Nest) (ds es : List Declaration) (masks : ℕ) (w : Surroundings) (found_nest : IsFoundNest p n) (is : IsProgram77 (fortran77 width) p)
    (among : Contains (found_in p) (InNest n)) (made : normalised n ≡ Some m) (converted : converted_nest masks m ≡ Some j) (few : j.masks ≤ 2 ^ 32)
    (add : AddMadeNames p.declarations ds) (none : (i : ℕ) → declared ds (mask_name i) ≡ None)
    (counters : All (λ (l : Loop). IsSomeAnd (declared ds l.variable) IsCounter) (nest_loops m)) (more : AddMadeNames p.declarations es)
    (marks : (i : ℕ) → masks ≤ i → i < j.masks → IsSomeAnd (declared es (mask_name i)) IsMask)
    (counted : All (λ (l : Loop). IsSomeAnd (declared es l.variable) IsCounter) (nest_loops m)) (number : n.number < 2 ^ 32) (round : All IsSourceName w.variables)
    (stated : IsStatement p.declarations (as_statement found_nest.loop.loop.loop) w) where
  without : IsBranched ds w.variables normal_depth m
  without = normal_nest_is_branched width p n m ds w found_nest is among made add counters number round stated

  with_masks : IsBranched es w.variables normal_depth m
  with_masks = normal_nest_is_branched width p n m es w found_nest is among made more counted number round stated

  pub converted_prepared : IsPrepared es w.variables normal_depth j
  converted_prepared =
      converted_branched_nest_is_prepared ds es w.variables normal_depth masks m j without none (found_nest_is_unguarded width p n m is among made) converted few (omega arith)
      with_masks marks

  source : IsBranchedSource n
  source = found_nest_is_branched_source width p n is among

  symbols_same : j.symbols ≡ n.symbols
  symbols_same = symbols_kept masks m j converted ∙ (normal.made_of n m made).symbols

  after_is : j.after ≡ texts.behind n
  after_is =
      after_kept masks m j converted
      ∙ ((texts.made_of n m made).after ∙ ap (λ (z : Nest). block_then z.after (texts.behind n)) found_nest.is)

  -- ---- a variable that gets its last values behind the loops

  module _ (l : NestedLoop) (inside : In l (loops_in n)) (behind : stands_behind (length n.symbols) (loops_in n) n.body l.turns.variable ≡ true) where
    source_name : IsSourceName l.turns.variable
    source_name =
        each_in (λ (o : NestedLoop). IsSourceName o.turns.variable) (loops_in n)
        (nested_named n.symbols (IsSoundStatement es w) (IsSoundLoop w) IsSourceName (λ o h. h.source) [] n.body tt
        (subst (λ (z : Nest). EachIn (IsSoundStatement es w) (IsSoundLoop w) z.body) (sym found_nest.is)
        (loop_is p.declarations es (extends (fortran77 width) p es is more) (declared_source (fortran77 width) p is) w found_nest.loop.loop stated))) l inside

    ends : ends_behind n l.turns.variable ≡ true
    ends = ap (λ b. b && stands_behind (length n.symbols) (loops_in n) n.body l.turns.variable) (among_map (loops_in n) l inside) ∙ behind

    no_symbol : ¬ In l.turns.variable n.symbols
    no_symbol =
        not_in n.symbols l.turns.variable
        (named_each (λ y. is_among n.symbols y ≡ false) (loops_in n) l inside
        (each_front (λ y. is_among n.symbols y ≡ false) (variables_in n) (counters_in n)
        (each_of_all (λ y. is_among n.symbols y ≡ false) (variables_in n ++ counters_in n) source.apart)))

    -- no statement gives it a value
    untouched : (y : Standing) → In y (nest_statements j) → ¬ (y.statement.left.name ≡ l.turns.variable)
    untouched y i e =
        let f = loop_of masks m j converted in
        let left = left_alone n m source made l.turns.variable ends behind in
        let b = branched_alone ds w.variables normal_depth m l.turns.variable source_name without left in
        let d = branched_alone es w.variables normal_depth m l.turns.variable source_name with_masks left in
        let is_prepared = converted_branched_nest_is_prepared ds es (l.turns.variable ∷ []) normal_depth masks (alone_in m) (converted_loop (alone_in m) masks f.loop f.within)
        b none (found_nest_is_unguarded width p n m is among made) (of_body masks (alone_in m) f.loop f.within f.body)
        (subst (λ (z : Nest). z.masks ≤ 2 ^ 32) (sym f.made) few) (omega arith) d
        (subst (λ (z : Nest). (i : ℕ) → masks ≤ i → i < z.masks → IsSomeAnd (declared es (mask_name i)) IsMask) (sym f.made) marks) in
        all_in (λ (x : Standing). ¬ Contains (l.turns.variable ∷ []) x.statement.left.name) (nest_statements (converted_loop (alone_in m) masks f.loop f.within))
        is_prepared.parts.outside y (subst (λ (z : Nest). In y (nest_statements z)) (sym f.made) i)
        (subst (λ z. Contains (l.turns.variable ∷ []) z) (sym e) (In-Contains l.turns.variable (l.turns.variable ∷ []) (inl refl)))

  -- ---- a nest that gives values to the same names of the source, behind whose loops the same stands, and more

  -- its symbols are those of j, and maybe names that j or m gives values to
  pub record IsMadeFrom (k : Nest) : Type 0 where
    pub assigned : (x : Standing) → In x (nest_statements k) → IsSourceName x.statement.left.name → In x.statement.left.name (names_assigned j)
    pub kept : (y : List ℕ) → In y j.symbols → In y k.symbols
    pub new : (y : List ℕ) → In y k.symbols → In y j.symbols ⊎ (In y (names_assigned m) ⊎ In y (names_assigned j))

  pub not_assigned : (l : NestedLoop) → In l (loops_in n) → stands_behind (length n.symbols) (loops_in n) n.body l.turns.variable ≡ true → ¬ In l.turns.variable (names_assigned j)
  not_assigned l inside behind i =
      let there = In-map (λ (x : Standing). x.statement.left.name) l.turns.variable (nest_statements j) i in
      untouched l inside behind there.it there.inside (sym there.is)

  pub not_written : (l : NestedLoop) → In l (loops_in n) → stands_behind (length n.symbols) (loops_in n) n.body l.turns.variable ≡ true → ¬ In l.turns.variable (names_assigned m)
  not_written l inside behind i =
      let o = In-map (λ (x : Standing). x.statement.left.name) l.turns.variable (nest_statements m) i in
      left_alone n m source made l.turns.variable (ends l inside behind) behind o.it o.inside (sym o.is)

  -- no symbol of such a nest gets a last value
  pub none_of_symbols : (k : Nest) → IsMadeFrom k → (l : NestedLoop) → In l (loops_in n) → stands_behind (length n.symbols) (loops_in n) n.body l.turns.variable ≡ true
      → ¬ In l.turns.variable k.symbols
  none_of_symbols k same l inside behind i = by (same.new l.turns.variable i)
    where
      by : In l.turns.variable j.symbols ⊎ (In l.turns.variable (names_assigned m) ⊎ In l.turns.variable (names_assigned j)) → ⊥
      by (inl h) = no_symbol l inside behind (subst (In l.turns.variable) symbols_same h)
      by (inr (inl h)) = not_written l inside behind h
      by (inr (inr h)) = not_assigned l inside behind h

  pub free_by : (R : List ℕ → Type 0) (W : List ℕ → Expression → Type 0) → ((y : List ℕ) → In y j.symbols → R y)
      → ((l : NestedLoop) → In l (loops_in n) → stands_behind (length n.symbols) (loops_in n) n.body l.turns.variable ≡ true → R l.turns.variable × ((e : Expression) → W l.turns.variable e))
      → AreFree R W j.after
  free_by R W f g =
      subst (λ (b : Block). AreFree R W b) (sym after_is)
      (values_free n.symbols n.line n.body R W (each_from R n.symbols (λ y i. f y (subst (In y) (sym symbols_same) i))) (loops_in n) g)

  module _ (k : Nest) (d : ℕ) (prepared : IsPrepared es w.variables d k) (may : MayBeExpanded es k) (same : IsMadeFrom k) where
    module _ (l : NestedLoop) (inside : In l (loops_in n)) (behind : stands_behind (length n.symbols) (loops_in n) n.body l.turns.variable ≡ true) where
      not_private : named_private (private_scalars k) l.turns.variable ≡ None
      not_private = by (named_private (private_scalars k) l.turns.variable) refl
        where
          by : (o : Option Private) → named_private (private_scalars k) l.turns.variable ≡ o → named_private (private_scalars k) l.turns.variable ≡ None
          by None e = e
          by (Some q) e =
              let f = found (private_scalars k) l.turns.variable q e in
              let s = start es w.variables d k prepared may q f.0 in
              let name : s.standing.statement.left.name ≡ l.turns.variable = s.target ∙ f.1 in
              absurd (not_assigned l inside behind
              (subst (λ y. In y (names_assigned j)) name (same.assigned s.standing s.inside (subst IsSourceName (sym name) (source_name l inside behind)))))

      other : IsOther k l.turns.variable
      other = (not_private, source_no_array es w.variables d k prepared may l.turns.variable (source_name l inside behind))

      no_counter : ¬ In l.turns.variable (counters_of k)
      no_counter i =
          let o = In-map (λ (x : Loop). x.variable) l.turns.variable (nest_loops k) i in
          let r = each_asked (IsPreparedLoop es k.symbols) (nest_loops k) [] k.body prepared.plain (walked (IsPreparedLoop es k.symbols) [] k.body prepared.parts.loops) o.it o.inside in
          counter_long l.turns.variable o.it.number (source_name l inside behind).within (o.is ∙ r.asked.variable)

    -- what stood behind the loops
    pub free_behind : AreFree (IsOther k) (MayGet k) j.after
    free_behind =
        free_by (IsOther k) (MayGet k) (λ y i. symbol_apart es w.variables d k prepared may y (same.kept y i))
        (λ l i e. (other l i e, λ right. (other l i e, no_counter l i e, λ there. absurd (none_of_symbols k same l i e there))))

pub found_nest_is_free_behind : (width : Width) → FoundNestIsFreeBehind width
found_nest_is_free_behind width p n m k ds es masks w found_nest is among made converted few add none counters more marks counted number round stated may =
    free_behind width p n m k ds es masks w found_nest is among made converted few add none counters more marks counted number round stated k normal_depth
    (converted_prepared width p n m k ds es masks w found_nest is among made converted few add none counters more marks counted number round stated) may
    (record { assigned = λ x i s. assigned_in (nest_statements k) x i; kept = λ y i. i; new = λ y i. inl i })
