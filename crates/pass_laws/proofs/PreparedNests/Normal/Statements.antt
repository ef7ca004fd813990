-- The statements of what is made of a nest that was found: their names, and their canonical text.
use Rattle.std.proofs.Common.{◌≡◌, ◌⊎◌, inl, inr, refl, sym, ap, ◌∙◌, subst, ℕ, ◌≤◌, List, [], ◌∷◌, ◌++◌, length, Option}
use Rattle.std.proofs.Common.{Some, None, Contains}
use Rattle.std.specs.Option.{option_map}
use Rattle.std.specs.Prelude.{All}
use Rattle.components.specs.Lists as lists
use Rattle.last_values.specs.declared.normal_forms.loops.NormalLoop.{NormalLoop}
use Rattle.last_values.specs.normal_forms.NormalLoops.{counters_of}
use Rattle.linear_forms.proofs.CanonicalStays.{subscripts_twice, twice}
use Rattle.linear_forms.specs.Canonical.{canonising}
use Rattle.linear_forms.specs.CanonicalLaws.{AreDistinct}
use Rattle.meaning.specs.Reads.{names_in, names_in_subscripts}
use Rattle.nest.specs.Bodies.{Standing, nest_statements}
use Rattle.nest.specs.Plain.{Guarded, Loop, Nest}
use Rattle.nest_order.proofs.orders.Lists.{In-append, In-left, In-right}
use Rattle.nest_order.specs.orders.Lists.{In}
use Rattle.nest_order.specs.runs.Guarded as guarded
use Rattle.nest_order.specs.runs.Guarded.{names_of}
use Rattle.nest_order.specs.runs.Touched.{IsPlainAssignment, IsPlainGuard}
use Rattle.nest_order.specs.shapes.Shapes.{numbers_of}
use Rattle.nest_rewrite.specs.Statements.{rewritten_statement}
use Rattle.normal_loops.specs.Values.{normal_statement, statement_with_values}
use Rattle.pass_laws.proofs.NormalFacts.MadeStatements.{IsKnown}
use Rattle.pass_laws.proofs.NormalFacts.Tables.{each_from}
use Rattle.pass_laws.proofs.NormalFacts.Texts.{CountersAre, GuardIsOver, IsOver, IsStatementOver, end_over, first_over, named, named_in, plain}
use Rattle.pass_laws.proofs.NormalFacts.Texts.{plain_in}
use Rattle.pass_laws.proofs.ReadyNests.Lists.{Each-All}
use Rattle.pass_laws.proofs.ReadyNests.Made.{IsMadeOf}
use Rattle.pass_laws.proofs.ReadyNests.Walk.{EachIn, Steps, each_statement, standing}
use Rattle.rewrite.specs.Making.{made, made_subscripts}
use Rattle.tree.specs.Plain.{Expression, Subscripts, no_subscripts}
use Rattle.pass_laws.specs.prepared_nests.Loops.{variables_of_loops}
use Rattle.pass_laws.specs.prepared_nests.Statements.{IsCanonical, IsOwn, assignment}
use Rattle.pass_laws.proofs.PreparedNests.Lists.{In-Contains, within_32}
use Rattle.pass_laws.proofs.PreparedNests.Normal.Loops.{AreUnder, none_under, under_more}

-- ---- names and array forms

names_over : (P : List ℕ → Type 0) (s : Guarded) → IsStatementOver P s → (x : List ℕ) → In x (names_of (assignment s)) → P x
names_over P s h x i = first s.guard h.guard (In-append x (guarded.names_of_guard s.guard) (names_in s.right ++ (s.left.name ∷ names_in_subscripts s.left.subscripts)) i)
  where
    last : In x (s.left.name ∷ names_in_subscripts s.left.subscripts) → P x
    last (inl e) = subst P (sym e) h.name
    last (inr j) = named_in P s.left.subscripts h.left x j

    middle : In x (names_in s.right) ⊎ In x (s.left.name ∷ names_in_subscripts s.left.subscripts) → P x
    middle (inl j) = named P s.right h.right x j
    middle (inr j) = last j

    first : (o : Option Expression) → GuardIsOver P o → In x (guarded.names_of_guard o) ⊎ In x (names_in s.right ++ (s.left.name ∷ names_in_subscripts s.left.subscripts)) → P x
    first None g (inl j) = absurd j
    first (Some e) g (inl j) = named P e g x j
    first o g (inr j) = middle (In-append x (names_in s.right) (s.left.name ∷ names_in_subscripts s.left.subscripts) j)

plain_guard : (P : List ℕ → Type 0) (o : Option Expression) → GuardIsOver P o → IsPlainGuard o
plain_guard P None h = tt
plain_guard P (Some e) h = plain P e h

pub plain_statement : (P : List ℕ → Type 0) (s : Guarded) → IsStatementOver P s → IsPlainAssignment (assignment s)
plain_statement P s h = (plain_guard P s.guard h.guard, plain P s.right h.right, plain_in P s.left.subscripts h.left)

pub own_names : (ls : List Loop) (s : Guarded) → IsStatementOver (IsKnown ls) s → All (IsOwn ls) (names_of (assignment s))
own_names ls s h =
    Each-All (IsOwn ls) (names_of (assignment s))
    (each_from (IsOwn ls) (names_of (assignment s)) (λ x i k small e. In-Contains k (numbers_of ls) (names_over (IsKnown ls) s h x i k (within_32 k small) e)))

-- ---- canonical text

-- it was brought into canonical text, or assigns a scalar what stands over the variables of loops and symbols
abbrev pub WasCanonised : List (List ℕ) → Standing → Type 0
WasCanonised symbols x =
    ((x.statement.guard ≡ None) × (x.statement.left.subscripts ≡ no_subscripts) × IsOver (λ y. In y (variables_of_loops x.loops ++ symbols)) x.statement.right)
    ⊎ ((g : Guarded) × (x.statement ≡ rewritten_statement (canonising (variables_of_loops x.loops) symbols) g))

module _ (n m : Nest) where
  run : (round : List NormalLoop) (ls : List Loop) (g : Guarded) → AreUnder round ls → WasCanonised n.symbols (standing ls (normal_statement n.symbols round g))
  unfolding normal_statement
  run round ls g u =
      inr (
        statement_with_values n.symbols [] round g,
        ap (λ xs. rewritten_statement (canonising xs n.symbols) (statement_with_values n.symbols [] round g)) u.counters,
      )

  known_symbols : (ls : List Loop) → lists.Each (λ y. In y (variables_of_loops ls ++ n.symbols)) n.symbols
  known_symbols ls = each_from (λ y. In y (variables_of_loops ls ++ n.symbols)) n.symbols (λ y i. In-right y (variables_of_loops ls) n.symbols i)

  known_counters : (round : List NormalLoop) (ls : List Loop) → AreUnder round ls → CountersAre (λ y. In y (variables_of_loops ls ++ n.symbols)) round
  known_counters round ls u = each round (λ y i. In-left y (variables_of_loops ls) n.symbols (subst (λ (xs : List (List ℕ)). In y xs) u.counters i))
    where
      each : (rs : List NormalLoop) → ((y : List ℕ) → In y (counters_of rs) → In y (variables_of_loops ls ++ n.symbols)) → CountersAre (λ y. In y (variables_of_loops ls ++ n.symbols)) rs
      each [] f = tt
      each (r ∷ rs) f = (f r.counter (inl refl), each rs (λ y i. f y (inr i)))

  steps : (Source : Guarded → Type 0) (Fair : Loop → Type 0) → ((l : Loop) → Fair l → l.number ≤ 4294967295) → Steps n Source Fair AreUnder (WasCanonised n.symbols)
  steps Source Fair few = record {
    run = λ round ls g u p. run round ls g u;
    turns = λ round ls l r u f e. under_more n Fair few round ls l r u e;
    first = λ round ls l r u f e. inl (refl, refl, first_over (λ y. In y (variables_of_loops ls ++ n.symbols)) n.symbols (known_symbols ls) round r (known_counters round ls u));
    end = λ round ls l r u f e. inl (refl, refl, end_over (λ y. In y (variables_of_loops ls ++ n.symbols)) n.symbols (known_symbols ls) round r (known_counters round ls u));
  }

  pub were_canonised : (Source : Guarded → Type 0) (Fair : Loop → Type 0) → ((l : Loop) → Fair l → l.number ≤ 4294967295) → IsMadeOf n m → EachIn Source Fair n.body
      → lists.Each (WasCanonised n.symbols) (nest_statements m)
  were_canonised Source Fair few made h = each_statement n m Source Fair AreUnder (WasCanonised n.symbols) (steps Source Fair few) none_under h made

-- what was brought into canonical text stays as it is
module _ (loops symbols : List (List ℕ)) (few : length loops ≤ 7) (apart : AreDistinct (loops ++ symbols)) where
  abbrev settled : Expression → Expression
  settled e = made (canonising loops symbols) e

  guard_twice : (o : Option Expression) → option_map settled (option_map settled o) ≡ option_map settled o
  guard_twice None = refl
  guard_twice (Some e) = ap Some (twice loops symbols few apart e)

  abbrev statement_of : Guarded → Option Expression → Subscripts → Expression → Guarded
  statement_of g o ss e = record { line = g.line; guard = o; left = record { name = g.left.name; subscripts = ss }; right = e }

  statement_twice : (g : Guarded)
      → rewritten_statement (canonising loops symbols) (rewritten_statement (canonising loops symbols) g) ≡ rewritten_statement (canonising loops symbols) g
  statement_twice g =
      ap (λ o. statement_of g o (made_subscripts (canonising loops symbols) (made_subscripts (canonising loops symbols) g.left.subscripts)) (settled (settled g.right))) (guard_twice g.guard)
      ∙ (ap (λ ss. statement_of g (option_map settled g.guard) ss (settled (settled g.right))) (subscripts_twice loops symbols few apart g.left.subscripts)
      ∙ ap (λ e. statement_of g (option_map settled g.guard) (made_subscripts (canonising loops symbols) g.left.subscripts) e) (twice loops symbols few apart g.right))

pub canonical_is : (symbols : List (List ℕ)) (x : Standing) → length (variables_of_loops x.loops) ≤ 7 → AreDistinct (variables_of_loops x.loops ++ symbols) → WasCanonised symbols x
    → IsCanonical (variables_of_loops x.loops) symbols x.statement
canonical_is symbols x few apart (inl h) =
    let loops : List (List ℕ) = variables_of_loops x.loops in
    record {
      guard = subst (λ (o : Option Expression). option_map (made (canonising loops symbols)) o ≡ o) (sym h.0) refl;
      left = subst (λ (ss : Subscripts). made_subscripts (canonising loops symbols) ss ≡ ss) (sym h.1) refl;
      right = inr (Each-All (Contains (loops ++ symbols)) (names_in x.statement.right)
          (each_from (Contains (loops ++ symbols)) (names_in x.statement.right) (λ y i. In-Contains y (loops ++ symbols) (named (λ y. In y (loops ++ symbols)) x.statement.right h.2 y i))));
    }
canonical_is symbols x few apart (inr g) =
    let loops : List (List ℕ) = variables_of_loops x.loops in
    let twice : rewritten_statement (canonising loops symbols) x.statement ≡ x.statement =
    subst (λ (s : Guarded). rewritten_statement (canonising loops symbols) s ≡ s) (sym g.1) (statement_twice loops symbols few apart g.0) in
    record {
      guard = ap (λ (s : Guarded). s.guard) twice;
      left = ap (λ (s : Guarded). s.left.subscripts) twice;
      right = inl (ap (λ (s : Guarded). s.right) twice);
    }
