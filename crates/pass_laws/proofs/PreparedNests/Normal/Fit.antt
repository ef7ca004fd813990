-- The statements that are made of a nest that was found: lines, names, kinds and depths.
use Rattle.std.proofs.Common.{◌≡◌, refl, sym, ap, subst, ℕ, ◌≤◌, List, [], ◌∷◌, ◌++◌, Option, Some, pos, length}
use Rattle.std.proofs.Common.{None, Contains, arith}
use Rattle.std.specs.Option.{IsSomeAnd}
use Rattle.components.specs.Lists.{Each}
use Rattle.components.proofs.ListLaws.{Each-append}
use Rattle.meaning.specs.Blocks.{Surroundings}
use Rattle.meaning.specs.Labels.{IsLine}
use Rattle.meaning.specs.Depths.{depth_of}
use Rattle.meaning.specs.Typed.{declared, rank_of_extent}
use Rattle.meaning.specs.Typed77.{deepest}
use Rattle.meaning.specs.Typed90.{IsIntegerScalar, IsScalar}
use Rattle.meaning.specs.Value.{named}
use Rattle.tree.specs.Plain.{Declaration, Expression, Number}
use Rattle.tree.specs.Names.{IsSourceName}
use Rattle.tree.specs.declared.ops.Kind.{Kind}
use Rattle.tree.specs.declared.ops.Kind.TheVariants.{Integer}
use Rattle.last_values.specs.InPlace.{end_text, first_text, own_trip_text}
use Rattle.normal_loops.specs.Counting.{counting}
use Rattle.normal_loops.specs.Values.{in_text, normal_statement, statement_with_values, with_value}
use Rattle.rewrite.specs.Making.{made}
use Rattle.std.specs.Option.{option_map}
use Rattle.nest_rewrite.specs.Statements.{rewritten_statement}
use Rattle.nest.specs.Bodies.{Standing, nest_statements}
use Rattle.nest.specs.Plain.{Guarded, Loop, Nest}
use Rattle.pass_laws.proofs.NormalFacts.FoundStatements.{IsFoundBody, IsSource, IsSourceLoop}
use Rattle.pass_laws.proofs.NormalFacts.FoundSymbols.{symbol_integer}
use Rattle.pass_laws.proofs.NormalFacts.LoopLimits.{loop_has_limits}
use Rattle.pass_laws.proofs.NormalFacts.StatementKinds.{IsNumber, IsSmallLoop, IsTypedLoop, end_is, first_is}
use Rattle.pass_laws.proofs.NormalFacts.Tables.{each_from}
use Rattle.last_values.specs.normal_forms.NormalLoops.{counters_of, normal_loop}
use Rattle.last_values.specs.declared.normal_forms.loops.NormalLoop.{NormalLoop}
use Rattle.pass_laws.proofs.ReadyNests.LoopForms.{normal_loop_is}
use Rattle.pass_laws.proofs.ReadyNests.Made.{IsMadeOf}
use Rattle.pass_laws.proofs.ReadyNests.Walk.{EachIn, Steps, assigning, each_statement, standing}
use Rattle.pass_laws.proofs.PreparedNests.Normal.LoopSizes.{HasSizes, loop_sized}
use Rattle.pass_laws.proofs.PreparedNests.Normal.Rules.{IsScalarTest, normal_assignment, normal_condition}
use Rattle.pass_laws.proofs.PreparedNests.Normal.Sources.{BothLoop, BothStatement, IsSoundLoop, IsSoundStatement, IsSoundTest, each_both}
use Rattle.pass_laws.proofs.PreparedNests.Normal.TextDepths.{binary_deep, text_deep, trip_deep}
use Rattle.pass_laws.proofs.PreparedNests.Normal.TextKinds.{at_least_is}
use Rattle.pass_laws.specs.prepared_nests.Loops.{variables_of_loops}
use Rattle.pass_laws.proofs.PreparedNests.Normal.Loops as normal
use Rattle.std.proofs.lemmas.List.{length-map}
use Rattle.last_values.specs.normal_forms.Texts.{at_least_one}
use Rattle.linear_forms.specs.Canonical.{canonising}
use Rattle.linear_forms.specs.CanonicalLaws.{AreDistinct}
use Rattle.normal_loops.specs.Tests.{normal_test}
use Rattle.pass_laws.proofs.NormalFacts.LoopLimits.{HasTop}
use Rattle.pass_laws.proofs.NormalFacts.MadeStatements.{IsKnown, short_known}
use Rattle.pass_laws.proofs.NormalFacts.Texts.{CountersAre, IsOver, trip_over}
use Rattle.tree.specs.declared.ops.Op.TheVariants.{Ge}
use Rattle.pass_laws.specs.prepared_nests.Branches.{StandingTest, tests_under}
use Rattle.pass_laws.proofs.PreparedNests.Normal.Conditions.{condition_over, condition_stays, trip_number}
use Rattle.pass_laws.proofs.PreparedNests.Normal.TestTexts.{test_stays}
use Rattle.pass_laws.proofs.PreparedNests.Normal.TestWalk.{EachTest, TestSteps, each_test, standing_test}

-- ---- a statement keeps its line and its name

name_kept : (symbols : List (List ℕ)) (outer rs : List NormalLoop) (s : Guarded) → (statement_with_values symbols outer rs s).left.name ≡ s.left.name
name_kept symbols outer [] s = refl
name_kept symbols outer (r ∷ rs) s = name_kept symbols (outer ++ r ∷ []) rs (rewritten_statement (with_value symbols outer r) s)

normal_name : (symbols : List (List ℕ)) (round : List NormalLoop) (s : Guarded) → (normal_statement symbols round s).left.name ≡ s.left.name
unfolding normal_statement
normal_name symbols round s = name_kept symbols [] round s

line_kept : (symbols : List (List ℕ)) (outer rs : List NormalLoop) (s : Guarded) → (statement_with_values symbols outer rs s).line ≡ s.line
line_kept symbols outer [] s = refl
line_kept symbols outer (r ∷ rs) s = line_kept symbols (outer ++ r ∷ []) rs (rewritten_statement (with_value symbols outer r) s)

normal_line : (symbols : List (List ℕ)) (round : List NormalLoop) (s : Guarded) → (normal_statement symbols round s).line ≡ s.line
unfolding normal_statement
normal_line symbols round s = line_kept symbols [] round s

guard_kept : (symbols : List (List ℕ)) (outer rs : List NormalLoop) (s : Guarded) → s.guard ≡ None → (statement_with_values symbols outer rs s).guard ≡ None
guard_kept symbols outer [] s h = h
guard_kept symbols outer (r ∷ rs) s h =
    guard_kept symbols (outer ++ r ∷ []) rs (rewritten_statement (with_value symbols outer r) s) (ap (option_map (made (with_value symbols outer r))) h)

normal_guard : (symbols : List (List ℕ)) (round : List NormalLoop) (s : Guarded) → s.guard ≡ None → (normal_statement symbols round s).guard ≡ None
unfolding normal_statement
normal_guard symbols round s h = ap (option_map (made (in_text symbols round))) (guard_kept symbols [] round s h)

abbrev IsInteger : Declaration → Type 0
IsInteger d = (d.kind ≡ Integer) × (rank_of_extent d.extent ≡ 0)

-- an assignment of scalars of one kind, of limited depth, to a name of the source that isn't one of the DO variables
-- round the nest
pub record IsFitStatement (es : List Declaration) (w : Surroundings) (s : Guarded) : Type 0 where
  pub line : IsLine s.line
  pub unguarded : s.guard ≡ None
  pub source : IsSourceName s.left.name
  pub outside : Contains w.variables s.left.name → ⊥
  pub kind : Kind
  pub left : IsScalar es (named s.left) kind
  pub right : IsScalar es s.right kind
  pub left_depth : depth_of (named s.left) ≤ 665
  pub right_depth : depth_of s.right ≤ 665

-- ---- the loops round it

record AreRound (es : List Declaration) (round : List NormalLoop) (ls : List Loop) : Type 0 where
  under : normal.AreUnder round ls
  fit : Each (λ (r : NormalLoop). IsIntegerScalar es r.variable × IsSmallLoop r) round
  sizes : Each HasSizes round

module _ (es : List Declaration) (n : Nest) (w : Surroundings) (body : IsFoundBody es n) (line : IsLine n.line) where
  abbrev symbols : List (List ℕ)
  symbols = n.symbols

  integers : Each (IsIntegerScalar es) symbols
  integers = each_from (IsIntegerScalar es) symbols (λ y i. symbol_integer es y (body.symbols y i).0)

  abbrev Source : Guarded → Type 0
  Source s = BothStatement (IsSource es symbols) (IsSoundStatement es w) (IsSourceLoop es symbols) (IsSoundLoop w) s

  abbrev Fair : Loop → Type 0
  Fair l = BothLoop (IsSource es symbols) (IsSoundStatement es w) (IsSourceLoop es symbols) (IsSoundLoop w) l

  -- where the loops round it have INTEGER scalars as their variables
  abbrev pub IsFit : Standing → Type 0
  IsFit x = Each (IsIntegerScalar es) (variables_of_loops x.loops) → IsFitStatement es w x.statement

  variable_is : (round : List NormalLoop) (ls : List Loop) (l : Loop) (r : NormalLoop) → AreRound es round ls → normal_loop symbols round l ≡ Some r → r.variable ≡ l.variable
  variable_is round ls l r u e = (normal_loop_is symbols round l r u.under.loops.zeros e).variable

  integer : (round : List NormalLoop) (ls : List Loop) (l : Loop) (r : NormalLoop) → AreRound es round ls → Fair l → normal_loop symbols round l ≡ Some r → IsIntegerScalar es r.variable
  integer round ls l r u f e = subst (IsIntegerScalar es) (sym (variable_is round ls l r u e)) f.0.integer

  small : (round : List NormalLoop) (ls : List Loop) (l : Loop) (r : NormalLoop) → AreRound es round ls → normal_loop symbols round l ≡ Some r → IsSmallLoop r
  small round ls l r u e = (loop_has_limits symbols round l r u.under.loops.zeros e).small

  typed : (round : List NormalLoop) (ls : List Loop) → AreRound es round ls → Each (IsIntegerScalar es) (variables_of_loops ls) → Each (IsTypedLoop es) round
  typed round ls u h = each round u.fit (subst (Each (IsIntegerScalar es)) (sym u.under.counters) h)
    where
      each : (rs : List NormalLoop) → Each (λ (r : NormalLoop). IsIntegerScalar es r.variable × IsSmallLoop r) rs → Each (IsIntegerScalar es) (counters_of rs) → Each (IsTypedLoop es) rs
      each [] f g = tt
      each (r ∷ rs) f g = ((g.0, f.0), each rs f.1 g.1)

  round_more : (round : List NormalLoop) (ls : List Loop) (l : Loop) (r : NormalLoop) → AreRound es round ls → Fair l → normal_loop symbols round l ≡ Some r
      → AreRound es (round ++ r ∷ []) (ls ++ counting symbols round l r ∷ [])
  round_more round ls l r u f e = record {
    under = normal.under_more n Fair (λ l f. f.0.number) round ls l r u.under e;
    fit = Each-append (λ (r : NormalLoop). IsIntegerScalar es r.variable × IsSmallLoop r) round (r ∷ []) u.fit ((integer round ls l r u f e, small round ls l r u e), tt);
    sizes = Each-append HasSizes round (r ∷ []) u.sizes (loop_sized symbols round l r e, tt);
  }

  -- ---- statements

  run : (round : List NormalLoop) (ls : List Loop) (s : Guarded) → AreRound es round ls → Source s → IsFit (standing ls (normal_statement symbols round s))
  run round ls s u h t =
      let a = normal_assignment es symbols integers round s deepest u.under.loops.few (typed round ls u t) u.sizes h.1.scalars in
      let left = a.left_depth in
      let right = a.right_depth in
      record {
        line = subst IsLine (sym (normal_line symbols round s)) h.1.line;
        unguarded = normal_guard symbols round s h.1.unguarded;
        source = subst IsSourceName (sym (normal_name symbols round s)) h.1.source;
        outside = subst (λ x. Contains w.variables x → ⊥) (sym (normal_name symbols round s)) h.1.outside;
        kind = a.kind;
        left = a.left;
        right = a.right;
        left_depth = omega (arith, left);
        right_depth = omega (arith, right);
      }

  -- a variable gets its value in place
  assigns : (v : List ℕ) (e : Expression) → IsIntegerScalar es v → IsNumber es e → depth_of e ≤ 665 → IsSourceName v → (Contains w.variables v → ⊥)
      → IsFitStatement es w (assigning n.line v e)
  assigns v e i number deep source outside = record {
    line = line;
    unguarded = refl;
    source = source;
    outside = outside;
    kind = Integer;
    left = ((named_kind (declared es v) i, tt), named_rank (declared es v) i);
    right = number;
    left_depth = omega arith;
    right_depth = deep;
  }
    where
      named_kind : (o : Option Declaration) → IsSomeAnd o IsInteger → IsSomeAnd o (λ (d : Declaration). (Integer ≡ d.kind) × Unit {0})
      named_kind None h = absurd h
      named_kind (Some d) h = (sym h.0, tt)

      named_rank : (o : Option Declaration) → IsSomeAnd o IsInteger → ◌≡◌ {A = ℕ} (elim o [ None ↦ 0 | Some d ↦ rank_of_extent d.extent ]) 0
      named_rank None h = absurd h
      named_rank (Some d) h = h.1

  first_deep : (round : List NormalLoop) (r : NormalLoop) → HasSizes r → depth_of (first_text symbols round r) ≤ 665
  first_deep round r s = let d = text_deep (counters_of round) symbols [] r.first 0 s.first tt in omega (arith, d)

  end_deep : (round : List NormalLoop) (r : NormalLoop) → HasSizes r → depth_of (end_text symbols round r) ≤ 665
  end_deep round r s =
      let trip = trip_deep (counters_of round) symbols [] r.trip 0 s.top tt in
      let d = text_deep (counters_of round) symbols (own_trip_text symbols round r ∷ []) r.end 36 s.end (trip, tt) in omega (arith, d)

  in_place : (round : List NormalLoop) (ls : List Loop) (l : Loop) (r : NormalLoop) (e : Expression) → AreRound es round ls → Fair l → normal_loop symbols round l ≡ Some r
      → (Each (IsTypedLoop es) round → IsNumber es e) → depth_of e ≤ 665 → IsFit (standing ls (assigning n.line r.variable e))
  in_place round ls l r e u f is number deep t =
      let same = variable_is round ls l r u is in
      assigns r.variable e (integer round ls l r u f is) (number (typed round ls u t)) deep (subst IsSourceName (sym same) f.1.source) (subst (λ x. Contains w.variables x → ⊥) (sym same) f.1.outside)

  steps : Steps n Source Fair (AreRound es) IsFit
  steps = record {
    run = run;
    turns = round_more;
    first = λ round ls l r u f h. in_place round ls l r (first_text symbols round r) u f h
        (λ t. first_is es symbols integers round r t (small round ls l r u h)) (first_deep round r (loop_sized symbols round l r h));
    end = λ round ls l r u f h. in_place round ls l r (end_text symbols round r) u f h
        (λ t. end_is es symbols integers round r t (small round ls l r u h)) (end_deep round r (loop_sized symbols round l r h));
  }

  pub statements_fit : EachIn (IsSoundStatement es w) (IsSoundLoop w) n.body → (m : Nest) → IsMadeOf n m → Each IsFit (nest_statements m)
  statements_fit sound m h =
      each_statement n m Source Fair (AreRound es) IsFit steps (record { under = normal.none_under; fit = tt; sizes = tt })
      (each_both (IsSource es symbols) (IsSoundStatement es w) (IsSourceLoop es symbols) (IsSoundLoop w) n.body body.body sound) h

  -- ---- conditions

  -- scalar, over counters of loops round it and names of the source, and in canonical text
  pub record IsFitTest (x : StandingTest) : Type 0 where
    pub scalars : Each (IsIntegerScalar es) (variables_of_loops x.loops) → IsScalarTest es x.test 665
    pub over : Each (IsKnown x.loops) (variables_of_loops x.loops) → IsOver (IsKnown x.loops) x.test
    pub canonical : length (variables_of_loops x.loops) ≤ 7 → AreDistinct (variables_of_loops x.loops ++ symbols)
        → made (canonising (variables_of_loops x.loops) symbols) x.test ≡ x.test

  known_symbols : (ls : List Loop) → Each (IsKnown ls) symbols
  known_symbols ls = each_from (IsKnown ls) symbols (λ y i. short_known ls y (body.symbols y i).1)

  known_counters : (round : List NormalLoop) (ls : List Loop) → AreRound es round ls → Each (IsKnown ls) (variables_of_loops ls) → CountersAre (IsKnown ls) round
  known_counters round ls u h = each round (subst (Each (IsKnown ls)) (sym u.under.counters) h)
    where
      each : (rs : List NormalLoop) → Each (IsKnown ls) (counters_of rs) → CountersAre (IsKnown ls) rs
      each [] g = tt
      each (r ∷ rs) g = (g.0, each rs g.1)

  run_test : (round : List NormalLoop) (ls : List Loop) (e : Expression) → AreRound es round ls → IsSoundTest es e → IsFitTest (standing_test ls (normal_test symbols round e))
  run_test round ls e u h = record {
    scalars = λ t. normal_condition es symbols integers round e deepest u.under.loops.few (typed round ls u t) u.sizes h.scalars;
    over = λ k. condition_over symbols ls (known_symbols ls) round e (known_counters round ls u k) h.over;
    canonical = λ few apart. condition_stays (variables_of_loops ls) symbols few apart round e u.under.counters;
  }

  own_test : (round : List NormalLoop) (ls : List Loop) (l : Loop) (r : NormalLoop) → AreRound es round ls → Fair l → normal_loop symbols round l ≡ Some r
      → IsFitTest (standing_test ls (at_least_one (own_trip_text symbols round r)))
  own_test round ls l r u f e =
      let limits = loop_has_limits symbols round l r u.under.loops.zeros e in
      let many : length round ≡ length (counters_of round) = sym (length-map round (λ (q : NormalLoop). q.counter)) in
      let top : HasTop (length symbols) (length (counters_of round)) r.trip = subst (λ d. HasTop (length symbols) d r.trip) many limits.top in
      record {
        scalars = λ t. own_scalar round r (loop_sized symbols round l r e) limits.small (subst (Each (IsIntegerScalar es)) (sym u.under.counters) t);
        over = λ k. (trip_over (IsKnown ls) symbols (known_symbols ls) round r.trip (known_counters round ls u k), tt);
        canonical = subst (λ cs. length cs ≤ 7 → AreDistinct (cs ++ symbols) → made (canonising cs symbols) (at_least_one (own_trip_text symbols round r)) ≡ at_least_one (own_trip_text symbols round r))
            u.under.counters (λ few apart. test_stays (counters_of round) symbols few apart (length symbols) r.trip top);
      }
    where
      own_scalar : (round : List NormalLoop) (r : NormalLoop) → HasSizes r → IsSmallLoop r → Each (IsIntegerScalar es) (counters_of round) → IsScalarTest es (at_least_one (own_trip_text symbols round r)) 665
      own_scalar round r z s t =
          let trip = own_trip_text symbols round r in
          let deep = binary_deep Ge trip (Number (pos 1)) 36 (trip_deep (counters_of round) symbols [] r.trip 0 z.top tt) (omega arith) in
          record { kind = at_least_is es trip (trip_number es (counters_of round) symbols r.trip s.divisor t integers s.top s.by s.small); depth = omega (arith, deep) }

  test_steps : TestSteps n (IsSoundTest es) Fair (AreRound es) IsFitTest
  test_steps = record { test = run_test; turns = round_more; own = own_test }

  pub tests_fit : EachIn (IsSoundStatement es w) (IsSoundLoop w) n.body → EachTest (IsSoundTest es) n.body → (m : Nest) → IsMadeOf n m → Each IsFitTest (tests_under [] m.body)
  tests_fit sound tests m h =
      each_test n m Source (IsSoundTest es) Fair (AreRound es) IsFitTest test_steps (record { under = normal.none_under; fit = tt; sizes = tt })
      (each_both (IsSource es symbols) (IsSoundStatement es w) (IsSourceLoop es symbols) (IsSoundLoop w) n.body body.body sound) tests h
