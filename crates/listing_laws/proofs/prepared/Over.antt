-- The names in a prepared nest: each one is declared, so that it is as declared names are.
use Rattle.std.proofs.Common.{◌≡◌, refl, sym, subst, ℕ, ◌<◌, ◌^◌, pos, List, [], ◌∷◌, ◌++◌, map, Option, Some, None, IfSome}
use Rattle.std.specs.Option.{IsSomeAnd}
use Rattle.components.specs.Lists.{Each}
use Rattle.last_values.specs.declared.normal_forms.loops.NormalLoop.{NormalLoop}
use Rattle.last_values.specs.normal_forms.NormalLoops.{counter_name, counters_of}
use Rattle.last_values.specs.normal_forms.Texts.{trip_text}
use Rattle.meaning.specs.Typed.{declared}
use Rattle.meaning.specs.Typed90.{AreArguments, AreSubscripts, HasKind, IsScalar, IsSubscript}
use Rattle.nest.specs.Bodies.{Standing, nest_statements}
use Rattle.nest.specs.Plain.{Branches, Choice, Jump, Label, Loop, Nest, Part, Parts, Run, Turns, branch, no_branches, no_parts}
use Rattle.nest.specs.Plain.{part}
use Rattle.nest.specs.declared.parts.Trip.{Trip}
use Rattle.nest_order.specs.orders.Lists.{In}
use Rattle.nest_order.specs.runs.Touched.{ArePlain, EachIsPlain, IsPlain, IsPlainGuard, IsPlainSubscript}
use Rattle.pass_laws.proofs.NormalFacts.LoopWalk as walk
use Rattle.pass_laws.proofs.NormalFacts.Tables.{all_in, each_from}
use Rattle.pass_laws.proofs.NormalFacts.Texts.{AreOver, EachIsOver, GuardIsOver, IsOver, IsStatementOver, OneIsOver, trip_over}
use Rattle.pass_laws.specs.normal_facts.Laws.{IsCounter}
use Rattle.pass_laws.specs.prepared_nests.Loops as loops
use Rattle.pass_laws.specs.prepared_nests.Loops.{IsPreparedLoop, IsPreparedTrip, variables_of_loops}
use Rattle.pass_laws.specs.prepared_nests.Nests.{IsPrepared, IsPreparedSymbol}
use Rattle.pass_laws.specs.prepared_nests.Statements.{IsPreparedStatement}
use Rattle.tree.specs.OperatorTable.{operand_kind}
use Rattle.tree.specs.Plain.{Apply, Binary, Constructor, Declaration, Expression, Expressions, Logic, Named, Number, Only, Reduce}
use Rattle.tree.specs.Plain.{Reshape, Section, Spread, Subscript, Subscripts, Transpose, Unary, expression, no_expressions}
use Rattle.tree.specs.Plain.{no_subscripts, subscript}
use Rattle.tree.specs.declared.ops.Kind.{Kind}
use Rattle.tree.specs.declared.ops.Kind.TheVariants.{Integer, Logical}

module _ (es : List Declaration) (P : List ℕ → Type 0) (known : (x : List ℕ) (d : Declaration) → declared es x ≡ Some d → P x) where
  name : (x : List ℕ) (Q : Declaration → Type 0) → IsSomeAnd (declared es x) Q → P x
  name x Q h = by (declared es x) refl h
    where
      by : (o : Option Declaration) → declared es x ≡ o → IsSomeAnd o Q → P x
      by None e g = absurd g
      by (Some d) e g = known x d e

  -- ---- expressions

  mutual
    over : (e : Expression) (k : Kind) → IsPlain e → HasKind es e k → IsOver P e
    over (Number n) k p h = tt
    over (Logic b) k p h = tt
    over (Named x ss) k p h = (name x _ h.0, over_in ss p h.1)
    over (Unary o a) k p h = over a (operand_kind o) p h.2
    over (Binary o a b) k p h = (over a (operand_kind o) p.0 h.2, over b (operand_kind o) p.1 h.3)
    over (Apply f vs) k p h = over_each vs p h.3
    over (Constructor vs ls) k p h = absurd p
    over (Spread a i n) k p h = absurd p
    over (Transpose a) k p h = absurd p
    over (Reshape a vs) k p h = absurd p
    over (Reduce r a) k p h = absurd p

    over_each : (vs : Expressions) → EachIsPlain vs → AreArguments es vs → EachIsOver P vs
    over_each no_expressions p h = tt
    over_each (expression e vs) p h = (over e Integer p.0 h.0, over_each vs p.1 h.2)

    over_in : (ss : Subscripts) → ArePlain ss → AreSubscripts es ss → AreOver P ss
    over_in no_subscripts p h = tt
    over_in (subscript s ss) p h = (over_one s p.0 h.0, over_in ss p.1 h.1)

    over_one : (s : Subscript) → IsPlainSubscript s → IsSubscript es s → OneIsOver P s
    over_one (Only e) p h = over e Integer p h.0
    over_one (Section a b c) p h = absurd p

  guard_over : (o : Option Expression) → IsPlainGuard o → IfSome o (λ (e : Expression). IsScalar es e Logical) → GuardIsOver P o
  guard_over None p h = tt
  guard_over (Some e) p h = over e Logical p h.0

  -- ---- trips

  -- a loop that counts by this name, all else whatever
  abbrev counts_by : Trip → List ℕ → NormalLoop
  counts_by t x = record {
    variable = x;
    counter = x;
    step = pos 1;
    first = t.top;
    below = t.top;
    value = t.top;
    trip = t;
    end = t.top;
  }

  counters_back : (t : Trip) (xs : List (List ℕ)) → counters_of (map (counts_by t) xs) ≡ xs
  counters_back t [] = refl
  counters_back t (x ∷ xs) = λ i. x ∷ counters_back t xs i

  counters_are : (t : Trip) (xs : List (List ℕ)) → Each P xs → Each (λ (r : NormalLoop). P r.counter) (map (counts_by t) xs)
  counters_are t [] h = tt
  counters_are t (x ∷ xs) h = (h.0, counters_are t xs h.1)

  text_over : (round symbols : List (List ℕ)) (t : Trip) → Each P round → Each P symbols → IsOver P (trip_text round symbols [] t)
  text_over round symbols t h k =
      subst (λ (xs : List (List ℕ)). IsOver P (trip_text xs symbols [] t)) (counters_back t round)
      (trip_over P symbols k (map (counts_by t) round) t (counters_are t round h))

  module _ (counter : (k : ℕ) → k < 2 ^ 32 → P (counter_name k)) (symbols : List (List ℕ)) (are : Each P symbols) where
    abbrev pub IsLoopOver : List Loop → Loop → Type 0
    IsLoopOver round l = P l.variable × IsOver P l.last

    variable_is : (round : List Loop) (l : Loop) → IsPreparedLoop es symbols round l → P l.variable
    variable_is round l h = subst P (sym h.variable) (counter l.number h.number)

    loop_over : (round : List Loop) (l : Loop) → Each P (variables_of_loops round) → IsPreparedLoop es symbols round l
        → IsLoopOver round l
    loop_over round l u h = (variable_is round l h, by l.trip h.trip)
      where
        by : (o : Option Trip) → IsSomeAnd o (IsPreparedTrip (variables_of_loops round) symbols l.last) → IsOver P l.last
        by None g = absurd g
        by (Some t) g = subst (IsOver P) (sym g.text) (text_over (variables_of_loops round) symbols t u are)

    more_variables : (round : List Loop) (l : Loop) → Each P (variables_of_loops round) → P l.variable
        → Each P (variables_of_loops (round ++ l ∷ []))
    more_variables [] l u h = (h, tt)
    more_variables (r ∷ round) l u h = (u.0, more_variables round l u.1 h)

    mutual
      loops_over : (round : List Loop) (p : Part) → loops.EachLoop (IsPreparedLoop es symbols) round p
          → Each P (variables_of_loops round) → walk.EachLoop IsLoopOver round p
      loops_over round (Run s) h u = tt
      loops_over round (Turns l ps) h u =
          (loop_over round l u h.0, loops_over_in (round ++ l ∷ []) ps h.1 (more_variables round l u (variable_is round l h.0)))
      loops_over round (Choice bs ps) h u = (loops_over_under round bs h.0 u, loops_over_in round ps h.1 u)
      loops_over round (Label k) h u = tt
      loops_over round (Jump k) h u = tt

      loops_over_in : (round : List Loop) (ps : Parts) → loops.EachLoopIn (IsPreparedLoop es symbols) round ps
          → Each P (variables_of_loops round) → walk.EachLoopIn IsLoopOver round ps
      loops_over_in round no_parts h u = tt
      loops_over_in round (part p ps) h u = (loops_over round p h.0 u, loops_over_in round ps h.1 u)

      loops_over_under : (round : List Loop) (bs : Branches) → loops.EachLoopUnder (IsPreparedLoop es symbols) round bs
          → Each P (variables_of_loops round) → walk.EachLoopUnder IsLoopOver round bs
      loops_over_under round no_branches h u = tt
      loops_over_under round (branch test ps bs) h u = (loops_over_in round ps h.0 u, loops_over_under round bs h.1 u)

  -- ---- a prepared nest

  module _ (around : List (List ℕ)) (deepest : ℕ) (m : Nest) (h : IsPrepared es around deepest m) where
    symbols_are : Each P m.symbols
    symbols_are =
        each_from P m.symbols
        (λ x i. name x IsCounter (all_in (IsPreparedSymbol es) m.symbols h.parts.symbols x i).scalar)

    statement_over : (x : Standing) → IsPreparedStatement es m deepest x → IsStatementOver P x.statement
    statement_over x s = record {
      guard = guard_over x.statement.guard s.plain.0 s.guard;
      name = name x.statement.left.name _ s.left.0.0;
      left = over_in x.statement.left.subscripts s.plain.2 s.left.0.1;
      right = over x.statement.right s.kind s.plain.1 s.right.0;
    }

    pub statements_over : (x : Standing) → In x (nest_statements m) → IsStatementOver P x.statement
    statements_over x i =
        statement_over x (all_in (IsPreparedStatement es m deepest) (nest_statements m) h.parts.statements x i)

    pub nest_loops_over : (counter : (k : ℕ) → k < 2 ^ 32 → P (counter_name k))
        → walk.EachLoop (λ (round : List Loop) (l : Loop). P l.variable × IsOver P l.last) [] m.body
    nest_loops_over counter = loops_over counter m.symbols symbols_are [] m.body h.parts.loops tt
