-- What is made of a nest that was found has prepared parts, and is prepared where it has loops and statements alone.
use Rattle.std.proofs.Common.{◌≡◌, inl, refl, sym, ap, ◌∙◌, subst, ℕ, ◌≤◌, ◌<◌, ◌^◌, Bool, true, false, cond}
use Rattle.std.proofs.Common.{List, [], ◌∷◌, ◌++◌, map, length, Option, Some, None, Contains, arith}
use Rattle.std.specs.Option.{IfSome, IsSomeAnd, option_map}
use Rattle.std.specs.Prelude.{All}
use Rattle.std.proofs.lemmas.List.{length-map}
use Rattle.std.proofs.lemmas.List.Elements.{All-cons, All-nil}
use Rattle.components.specs.Lists as lists
use Rattle.find_nests.specs.Found.{InNest, found_in}
use Rattle.find_nests.specs.Laws.{IsFoundNest}
use Rattle.find_nests.specs.Loops.{as_statement}
use Rattle.linear_forms.specs.CanonicalLaws.{AreDistinct}
use Rattle.meaning.specs.Reads.{names_in_block}
use Rattle.meaning.specs.Blocks.{Surroundings, before_labels, labels_of}
use Rattle.meaning.specs.Labels.{IsLine}
use Rattle.meaning.specs.Depths.{depth_of}
use Rattle.meaning.specs.Dialect.{fortran77}
use Rattle.tree.specs.declared.width.Width.{Width}
use Rattle.meaning.specs.Profile77 as source_profile
use Rattle.meaning.specs.Profile77.{IsProgram77}
use Rattle.meaning.specs.Profile90.{IsBlock, IsStatement}
use Rattle.meaning.specs.Typed.{declared, rank_of_extent}
use Rattle.meaning.specs.Typed90.{IsIntegerScalar, IsScalar}
use Rattle.meaning.specs.Value.{named}
use Rattle.meaning_laws.specs.profiles.Profiles.{AddMadeNames}
use Rattle.nest.specs.Allocations.{block_then}
use Rattle.nest.specs.Bodies.{Standing, nest_loops, nest_statements}
use Rattle.nest.specs.Plain.{Guarded, Loop, Made, Nest, Part}
use Rattle.nest_order.specs.orders.Lists.{In}
use Rattle.nest_order.specs.shapes.Shapes.{numbers_of}
use Rattle.nest_reasons.specs.Symbols.{is_symbol}
use Rattle.normal_loops.specs.Bodies.{normal_part}
use Rattle.normal_loops.specs.Loops.{nested_loops}
use Rattle.normal_loops.specs.Normal.{is_normal}
use Rattle.normal_loops.specs.Normalised.{normalised, only_one, with_body, with_loops}
use Rattle.pass_laws.proofs.FoundSources.PlainNests.{normal_nests_are_plain}
use Rattle.rewrite.specs.Names.{names_written_in}
use Rattle.meaning.specs.Names.{IsInByteOrder}
use Rattle.meaning_laws.proofs.profiles.Names.{once as declared_once}
use Rattle.pass_laws.proofs.NormalFacts.FoundStatements.{IsFoundBody, IsShort, IsSource, IsSourceLoop, found_body}
use Rattle.pass_laws.proofs.NormalFacts.FoundSymbols.{chosen, symbol_integer}
use Rattle.pass_laws.proofs.NormalFacts.MadeStatements.{IsKnown, IsMade, counter_long, made_statements}
use Rattle.pass_laws.proofs.NormalFacts.Tables.{all_in, each_from, each_in}
use Rattle.pass_laws.proofs.NormalMeaning.Made as texts
use Rattle.pass_laws.proofs.ReadyNests.FoundNumbers.{found_loops_are_distinct}
use Rattle.pass_laws.proofs.ReadyNests.Lists.{Each-All}
use Rattle.pass_laws.proofs.ReadyNests.Made as normal
use Rattle.pass_laws.proofs.ReadyNests.NormalNumbers.{normal_loops_are_those}
use Rattle.pass_laws.proofs.ReadyNests.SourceRanks.{few_symbols}
use Rattle.pass_laws.proofs.ReadyNests.Walk.{EachIn}
use Rattle.pass_laws.specs.normal_facts.Laws.{IsCounter}
use Rattle.pass_laws.specs.normal_runs.Sources.{loops_in}
use Rattle.pass_laws.specs.ready_nests.Distinct as ready
use Rattle.tree.specs.Names.{IsSourceName}
use Rattle.tree.specs.Plain.{Allocate, Assignment, Block, Deallocate, Declaration, Do, Expression, GoTo, If, Label}
use Rattle.tree.specs.Plain.{Print, Program, Read, Statement, Stop, Where, arm, no_arms, no_statements}
use Rattle.tree.specs.Plain.{statement}
use Rattle.tree.specs.declared.ops.Kind.TheVariants.{Integer, Logical}
use Rattle.pass_laws.specs.prepared_nests.After.{AreEndings, CountsNone, IsEnding, IsPreparedAfter}
use Rattle.pass_laws.specs.prepared_nests.Laws.{NormalNestHasParts, NormalNestIsBranched, NormalNestIsPrepared, normal_depth}
use Rattle.pass_laws.specs.prepared_nests.Loops.{EachLoop, IsPreparedLoop, variables_of_loops}
use Rattle.pass_laws.specs.prepared_nests.Made.{IsPreparedMade}
use Rattle.pass_laws.specs.prepared_nests.Nests.{AreMadeParts, IsBranched, IsPreparedSymbol}
use Rattle.pass_laws.specs.prepared_nests.Branches.{IsPreparedTest, StandingTest, tests_under}
use Rattle.pass_laws.proofs.BranchSources.Found.{found_nest_is_branched_source}
use Rattle.pass_laws.proofs.NormalFacts.Texts.{plain}
use Rattle.pass_laws.specs.prepared_nests.Statements.{IsCanonical, IsPreparedStatement, expressions_of, guard_or_none}
use Rattle.pass_laws.proofs.PreparedNests.Lists.{Contains-In, distinct_too}
use Rattle.pass_laws.proofs.PreparedNests.Trips.{BearsNumber, bears_number, names_apart}
use Rattle.pass_laws.proofs.PreparedNests.Walks.{AreRound, Follow, few, rounds, test_rounds}
use Rattle.pass_laws.proofs.PreparedNests.Normal.Endings.{IsGoodBlock, last_values_are}
use Rattle.pass_laws.proofs.PreparedNests.Normal.Conditions.{known_variables, own_in}
use Rattle.pass_laws.proofs.PreparedNests.Normal.Fit.{IsFit, IsFitStatement, IsFitTest, statements_fit, tests_fit}
use Rattle.pass_laws.proofs.PreparedNests.Normal.Jumps.{jumps_stay}
use Rattle.pass_laws.proofs.PreparedNests.Normal.TestWalk.{EachTest}
use Rattle.pass_laws.proofs.PreparedNests.Normal.LastNames.{block_names, nested_short, values_over, AreEndingsOver}
use Rattle.pass_laws.proofs.PreparedNests.Normal.Loops.{normal_loops_prepared}
use Rattle.pass_laws.proofs.PreparedNests.Normal.MadeNames.{extends}
use Rattle.pass_laws.proofs.PreparedNests.Normal.Sources.{BothStatement, IsSoundLoop, IsSoundStatement, IsSoundTest, declared_source, each_both}
use Rattle.pass_laws.proofs.PreparedNests.Normal.Sources.{loop_is, tests_sound}
use Rattle.pass_laws.proofs.PreparedNests.Normal.Statements.{WasCanonised, canonical_is, own_names, plain_statement, were_canonised}
use Rattle.pass_laws.proofs.PreparedNests.Normal.Symbols.{symbol_counter, symbols_ordered}

-- ---- what stands behind is of the profile wherever the loops round it have the same variables

module _ (es : List Declaration) where
  mutual
    statement_there : (c : Statement) (v w : Surroundings) → v.variables ≡ w.variables → IsEnding c → IsStatement es c w → IsStatement es c v
    statement_there (Assignment line mark left right) v w e k h = (h.0, (h.1.0, h.1.1, subst (λ xs. Contains xs left.name → ⊥) (sym e) h.1.2))
    statement_there (If line (arm test body no_arms) no_statements) v w e k h = (h.0, h.1, (h.2.0, block_there body v w e k.0.0 h.2.1, tt), tt)
    statement_there (If line (arm test body no_arms) (statement c cs)) v w e k h = absurd k.1
    statement_there (If line (arm test body (arm u d ms)) other) v w e k h = absurd k.0.1
    statement_there (If line no_arms other) v w e k h = absurd k.0
    statement_there (Where line mark mask left right) v w e k h = absurd k
    statement_there (Do line x a b c body) v w e k h = absurd k
    statement_there (Label n) v w e k h = absurd k
    statement_there (GoTo line n) v w e k h = absurd k
    statement_there (Stop line) v w e k h = absurd k
    statement_there (Read line is) v w e k h = absurd k
    statement_there (Print line is) v w e k h = absurd k
    statement_there (Allocate line x vs) v w e k h = absurd k
    statement_there (Deallocate line x) v w e k h = absurd k

    block_there : (b : Block) (v w : Surroundings) → v.variables ≡ w.variables → AreEndings b → IsBlock es b w → IsBlock es b v
    block_there no_statements v w e k h = tt
    block_there (statement c cs) v w e k h =
        (statement_there c (before_labels (labels_of cs) v) (before_labels (labels_of cs) w) e k.0 h.0, block_there cs v w e k.1 h.1)

-- ---- what is made has the number of the nest

record HasNumberOf (n m : Nest) : Type 0 where
  number : m.number ≡ n.number

with_body_number : (n : Nest) (more : Block) (p : Part) → HasNumberOf n (with_body n more p)
unfolding with_body
with_body_number n more p = record { number = refl }

module _ (n m : Nest) where
  from_bodies : (ps : List Part) → option_map (with_body n (texts.behind n)) (only_one ps) ≡ Some m → HasNumberOf n m
  from_bodies [] h = let no : ⊥ = cc in absurd no
  from_bodies (p ∷ []) h = let same : with_body n (texts.behind n) p ≡ m = cc in subst (HasNumberOf n) same (with_body_number n (texts.behind n) p)
  from_bodies (p ∷ q ∷ ps) h = let no : ⊥ = cc in absurd no

  from_loops : with_loops n (nested_loops n.symbols [] n.body) ≡ Some m → HasNumberOf n m
  unfolding with_loops
  from_loops h = from_bodies (normal_part n (nested_loops n.symbols [] n.body) [] n.body) h

  same_number : normalised n ≡ Some m → HasNumberOf n m
  unfolding normalised
  same_number h = by (is_normal n.symbols [] n.body) h
    where
      by : (b : Bool) → cond b (with_loops n (nested_loops n.symbols [] n.body)) None ≡ Some m → HasNumberOf n m
      by true g = from_loops g
      by false g = let no : ⊥ = cc in absurd no

-- ---- lists

follow_each : (Asked : List Loop → Loop → Type 0) (P : Loop → Type 0) → ((round : List Loop) (l : Loop) → Asked round l → P l) → (before ls : List Loop) → Follow Asked before ls → lists.Each P ls
follow_each Asked P f before [] h = tt
follow_each Asked P f before (l ∷ ls) h = (f before l h.0, follow_each Asked P f (before ++ l ∷ []) ls h.1)

integer_each : (es : List Declaration) (ls : List Loop) → lists.Each (λ (l : Loop). IsIntegerScalar es l.variable) ls → lists.Each (IsIntegerScalar es) (variables_of_loops ls)
integer_each es [] h = tt
integer_each es (l ∷ ls) h = (h.0, integer_each es ls h.1)

counter_integer : (o : Option Declaration) → IsSomeAnd o IsCounter → IsSomeAnd o (λ (d : Declaration). (d.kind ≡ Integer) × (rank_of_extent d.extent ≡ 0))
counter_integer None h = absurd h
counter_integer (Some e) h = (h.kind, ap rank_of_extent h.scalar)

-- ---- the nest

module _ (width : Width) (p : Program) (n m : Nest) (es : List Declaration) (w : Surroundings) (found : IsFoundNest p n) (is : IsProgram77 (fortran77 width) p) (among : Contains (found_in p) (InNest n))
    (normal_is : normalised n ≡ Some m) (added : AddMadeNames p.declarations es)
    (counters : All (λ (l : Loop). IsSomeAnd (declared es l.variable) IsCounter) (nest_loops m)) (number : n.number < 2 ^ 32) (round : All IsSourceName w.variables)
    (source : source_profile.IsStatement p.declarations (as_statement found.loop.loop.loop) w) where
  body : IsFoundBody es n
  body = found_body (fortran77 width) p es is added n among

  made : normal.IsMadeOf n m
  made = normal.made_of n m normal_is

  text : texts.IsMadeOf n m
  text = texts.made_of n m normal_is

  line : IsLine n.line
  line = subst (λ (n : Nest). IsLine n.line) (sym found.is) source.0

  sound : EachIn (IsSoundStatement es w) (IsSoundLoop w) n.body
  sound = subst (λ (n : Nest). EachIn (IsSoundStatement es w) (IsSoundLoop w) n.body) (sym found.is)
      (loop_is p.declarations es (extends (fortran77 width) p es is added) (declared_source (fortran77 width) p is) w found.loop.loop source)

  nothing_made : m.made ≡ []
  nothing_made = text.made ∙ ap (λ (n : Nest). n.made) found.is

  after_is : m.after ≡ texts.behind n
  after_is = text.after ∙ ap (λ (k : Nest). block_then k.after (texts.behind n)) found.is

  -- ---- symbols

  symbol_source : (y : List ℕ) → In y n.symbols → IsSourceName y
  symbol_source y i =
      let l = found.loop.loop.loop in
      let c = chosen (is_symbol l.variable (names_written_in l.body)) p.declarations y (subst (λ (k : Nest). In y k.symbols) found.is i) in
      declared_source (fortran77 width) p is y c.declaration (ap (declared p.declarations) c.name ∙ declared_once p.declarations c.declaration is.declarations.ordered c.among)

  symbol : (y : List ℕ) → In y n.symbols → IsPreparedSymbol es y
  symbol y i = record { name = symbol_source y i; scalar = symbol_counter es y (body.symbols y i).0 }

  short : (y : List ℕ) → In y n.symbols → length y ≤ 6
  short y i = (body.symbols y i).1

  few_of : length n.symbols ≤ 1000
  few_of =
      let within : length n.symbols ≤ length p.declarations =
      subst (λ (k : Nest). length k.symbols ≤ length p.declarations) (sym found.is) (few_symbols p.declarations found.loop.loop.loop.variable found.loop.loop.loop.body) in
      let most : length p.declarations ≤ 1000 = is.declarations.few in
      omega (arith, within, most)

  -- ---- loops

  loops : EachLoop (IsPreparedLoop es n.symbols) [] m.body
  loops = normal_loops_prepared es n m made body.body (λ l i. all_in (λ (l : Loop). IsSomeAnd (declared es l.variable) IsCounter) (nest_loops m) counters l i)

  once : lists.Distinct (ready.numbers_of (nest_loops m))
  once = subst (λ (ks : List ℕ). lists.Distinct ks) (sym (normal_loops_are_those n m normal_is)) (found_loops_are_distinct (fortran77 width) p n is among)

  -- ---- statements

  round_of : (x : Standing) → In x (nest_statements m) → AreRound (IsPreparedLoop es n.symbols) x.loops
  round_of x i = rounds (IsPreparedLoop es n.symbols) m.body loops (distinct_too (numbers_of (nest_loops m)) once) x i

  -- of loops that stand round a statement or a condition
  module _ (ls : List Loop) (u : AreRound (IsPreparedLoop es n.symbols) ls) where
    integers : lists.Each (IsIntegerScalar es) (variables_of_loops ls)
    integers =
        integer_each es ls
        (follow_each (IsPreparedLoop es n.symbols) (λ (l : Loop). IsIntegerScalar es l.variable) (λ round l h. counter_integer (declared es l.variable) h.counter) [] ls u.follow)

    few_names : length (variables_of_loops ls) ≤ 7
    few_names =
        let least = few (IsPreparedLoop es n.symbols) 7 (λ round l h. h.depth) [] ls u.follow (omega arith) in
        let same = length-map ls (λ (l : Loop). l.variable) in
        omega (arith, least, same)

    bear : lists.Each BearsNumber ls
    bear = follow_each (IsPreparedLoop es n.symbols) BearsNumber (λ round l h. bears_number es n.symbols round l h) [] ls u.follow

    apart : AreDistinct (variables_of_loops ls ++ n.symbols)
    apart = names_apart n.symbols short body.distinct ls bear u.once

  fit : (x : Standing) → In x (nest_statements m) → IsFitStatement es w x.statement
  fit x i = each_in (IsFit es n w body line) (nest_statements m) (statements_fit es n w body line sound m made) x i (integers x.loops (round_of x i))

  canonical : (x : Standing) → In x (nest_statements m) → IsCanonical (variables_of_loops x.loops) n.symbols x.statement
  canonical x i =
      canonical_is n.symbols x (few_names x.loops (round_of x i)) (apart x.loops (round_of x i))
      (each_in (WasCanonised n.symbols) (nest_statements m)
      (were_canonised n m (IsSource es n.symbols) (IsSourceLoop es n.symbols) (λ l f. f.number) made body.body) x i)

  deep_expressions : (g : Guarded) → g.guard ≡ None → depth_of (named g.left) ≤ 665 → depth_of g.right ≤ 665 → All (λ (e : Expression). depth_of e ≤ normal_depth) (expressions_of g)
  deep_expressions g none left right =
      subst (λ o. All (λ (e : Expression). depth_of e ≤ normal_depth) (guard_or_none o ++ named g.left ∷ g.right ∷ [])) (sym none)
      (All-cons (λ (e : Expression). depth_of e ≤ normal_depth) (named g.left) (g.right ∷ []) (omega (arith, left))
      (All-cons (λ (e : Expression). depth_of e ≤ normal_depth) g.right [] (omega (arith, right)) (All-nil (λ (e : Expression). depth_of e ≤ normal_depth))))

  statement_is : (x : Standing) → In x (nest_statements m) → IsPreparedStatement es m normal_depth x
  statement_is x i =
      let a = fit x i in
      let b = each_in (IsMade es n.symbols) (nest_statements m) (made_statements es n body m made) x i in
      record {
        line = a.line;
        plain = plain_statement (IsKnown x.loops) x.statement b.over;
        names = own_names x.loops x.statement b.over;
        target = inl a.source;
        free = λ c. b.free (Contains-In x.statement.left.name n.symbols (subst (λ xs. Contains xs x.statement.left.name) made.symbols c));
        kind = a.kind;
        left = a.left;
        right = a.right;
        guard = subst (λ o. IfSome o (λ (e : Expression). IsScalar es e Logical)) (sym a.unguarded) tt;
        deep = deep_expressions x.statement a.unguarded a.left_depth a.right_depth;
        canonical = subst (λ xs. IsCanonical (variables_of_loops x.loops) xs x.statement) (sym made.symbols) (canonical x i);
      }

  -- ---- what stands behind

  abbrev Source : Guarded → Type 0
  Source s = BothStatement (IsSource es n.symbols) (IsSoundStatement es w) (IsSourceLoop es n.symbols) (IsSoundLoop w) s

  scalars : lists.Each (IsIntegerScalar es) n.symbols
  scalars = each_from (IsIntegerScalar es) n.symbols (λ y i. symbol_integer es y (body.symbols y i).0)

  behind : IsGoodBlock es w n.line line n.symbols scalars (texts.behind n)
  behind =
      last_values_are es w n.line line n.symbols scalars Source n.body
      (each_both (IsSource es n.symbols) (IsSoundStatement es w) (IsSourceLoop es n.symbols) (IsSoundLoop w) n.body body.body sound)

  over : AreEndingsOver IsShort (texts.behind n)
  over =
      values_over IsShort n.line n.symbols (each_from IsShort n.symbols short) (loops_in n) n.body
      (nested_short es n.symbols [] n.body tt body.body)

  after : IsPreparedAfter es w.variables normal_depth (texts.behind n)
  after =
      let deep = behind.deep in
      record {
        endings = behind.endings;
        names = Each-All CountsNone (names_in_block (texts.behind n))
            (each_from CountsNone (names_in_block (texts.behind n)) (λ x i k. counter_long x k (block_names IsShort (texts.behind n) over x i)));
        profile = λ v e. block_there es (texts.behind n) v w e behind.endings behind.profile;
        deep = omega (arith, deep);
      }

  -- ---- all parts

  pub parts : AreMadeParts es w.variables normal_depth m
  parts = record {
    line = subst IsLine (sym text.line) line;
    number = subst (λ k. k < 2 ^ 32) (sym (same_number n m normal_is).number) number;
    symbols = subst (λ xs. All (IsPreparedSymbol es) xs) (sym made.symbols) (Each-All (IsPreparedSymbol es) n.symbols (each_from (IsPreparedSymbol es) n.symbols symbol));
    ordered = subst IsInByteOrder (sym made.symbols) (symbols_ordered p n is.declarations.ordered among);
    few = subst (λ (xs : List (List ℕ)). length xs ≤ 1000) (sym made.symbols) few_of;
    loops = subst (λ xs. EachLoop (IsPreparedLoop es xs) [] m.body) (sym made.symbols) loops;
    once = once;
    statements = Each-All (IsPreparedStatement es m normal_depth) (nest_statements m) (each_from (IsPreparedStatement es m normal_depth) (nest_statements m) statement_is);
    made = subst (λ (ms : List Made). All (IsPreparedMade es m.symbols normal_depth) ms) (sym nothing_made) (All-nil (IsPreparedMade es m.symbols normal_depth));
    made_once = subst (λ (ms : List Made). lists.Distinct (map (λ (a : Made). a.name) ms)) (sym nothing_made) tt;
    after = subst (IsPreparedAfter es w.variables normal_depth) (sym after_is) after;
    source = round;
    outside = Each-All (λ (x : Standing). ¬ Contains w.variables x.statement.left.name) (nest_statements m)
        (each_from (λ (x : Standing). ¬ Contains w.variables x.statement.left.name) (nest_statements m) (λ x i. (fit x i).outside));
  }

  -- ---- conditions and jumps

  tests : EachTest (IsSoundTest es) n.body
  tests = subst (λ (n : Nest). EachTest (IsSoundTest es) n.body) (sym found.is)
      (tests_sound p.declarations es (extends (fortran77 width) p es is added) (declared_source (fortran77 width) p is) w found.loop.loop source)

  test_is : (x : StandingTest) → In x (tests_under [] m.body) → IsPreparedTest es n.symbols normal_depth x
  test_is x i =
      let a = each_in (IsFitTest es n w body line) (tests_under [] m.body) (tests_fit es n w body line sound tests m made) x i in
      let u = test_rounds (IsPreparedLoop es n.symbols) m.body loops (distinct_too (numbers_of (nest_loops m)) once) x i in
      let over = a.over (known_variables x.loops x.loops (λ k j. j) (bear x.loops u)) in
      let scalars = a.scalars (integers x.loops u) in
      let deep = scalars.depth in
      record {
        plain = plain (IsKnown x.loops) x.test over;
        names = own_in x.loops x.test over;
        kind = scalars.kind;
        deep = omega (arith, deep);
        canonical = a.canonical (few_names x.loops u) (apart x.loops u);
      }

  pub branched : IsBranched es w.variables normal_depth m
  branched = record {
    parts = parts;
    tests = subst (λ xs. All (IsPreparedTest es xs normal_depth) (tests_under [] m.body)) (sym made.symbols)
        (Each-All (IsPreparedTest es n.symbols normal_depth) (tests_under [] m.body) (each_from (IsPreparedTest es n.symbols normal_depth) (tests_under [] m.body) test_is));
    jumps = jumps_stay n m made (found_nest_is_branched_source width p n is among).jumps;
  }

pub normal_nest_has_parts : (width : Width) → NormalNestHasParts width
normal_nest_has_parts width p n m es w found is among normal_is added counters number round source = parts width p n m es w found is among normal_is added counters number round source

pub normal_nest_is_branched : (width : Width) → NormalNestIsBranched width
normal_nest_is_branched width p n m es w found is among normal_is added counters number round source = branched width p n m es w found is among normal_is added counters number round source

-- without IF, label and jump it is plain
pub normal_nest_is_prepared : (width : Width) → NormalNestIsPrepared width
normal_nest_is_prepared width p n m es w found is among normal_is alone added counters number round source = record {
  plain = (normal_nests_are_plain width p n m is among normal_is alone).1;
  parts = parts width p n m es w found is among normal_is added counters number round source;
}
