-- In a scalar expression each name has as many subscripts as dimensions.
use Rattle.std.proofs.Common.{◌≡◌, refl, sym, ◌∙◌, ℕ, ◌+◌, ◌≤◌, max, List, ◌++◌, map, Option, Some, None, arith}
use Rattle.std.specs.Option.{IsSomeAnd, IfSome}
use Rattle.components.proofs.ListLaws.{Each-append}
use Rattle.components.specs.Lists.{Each}
use Rattle.dependence_graph.specs.nest_graph.Ready.{IsElement, subscript_count}
use Rattle.dependence_graph.specs.nest_graph.References.{references_in, references_in_guard, references_in_subscripts}
use Rattle.meaning.specs.Profile90.{AreDeclarations, IsDeclaration, IsExtent}
use Rattle.meaning.specs.Typed.{declared, number_of_subscripts, rank_of_extent}
use Rattle.meaning.specs.Typed90.{AreArguments, AreSubscripts, HasKind, IsScalar, IsSubscript, SuitsDimensions, rank_of, rank_of_each}
use Rattle.meaning.specs.Typed90.{rank_of_name, rank_of_subscript, rank_of_subscripts}
use Rattle.meaning.specs.Value.{named}
use Rattle.meaning_laws.proofs.profiles.Names.{each_found}
use Rattle.nest.specs.Bodies.{Standing}
use Rattle.nest.specs.Plain.{Guarded, Loop, Nest}
use Rattle.nest_order.specs.runs.Touched.{ArePlain, EachIsPlain, IsPlain, IsPlainAssignment, IsPlainGuard, IsPlainSubscript}
use Rattle.pass_laws.proofs.ReadyNests.NormalRanks.{AllFit}
use Rattle.pass_laws.proofs.ReadyNests.Ranks.{Fits, HasRanks, HaveRanks, HaveRanksEach, IsRanked, are_elements, references_fit}
use Rattle.pass_laws.proofs.ReadyNests.Ranks.{references_fit_in}
use Rattle.pass_laws.proofs.ReadyNests.SourceRanks.{GuardHasRanks, IsRankedStatement}
use Rattle.tree.specs.OperatorTable.{operand_kind}
use Rattle.tree.specs.Plain.{Apply, Binary, Constructor, Declaration, Expression, Expressions, Extent, Given, Later, Logic, Named}
use Rattle.tree.specs.Plain.{Number, Only, Reduce, Reference, Reshape, Section, Spread, Subscript, Subscripts, Transpose, Unary}
use Rattle.tree.specs.Plain.{expression, no_expressions, no_subscripts, subscript}
use Rattle.tree.specs.declared.ops.Kind.{Kind}
use Rattle.tree.specs.declared.ops.Kind.TheVariants.{Integer, Logical}
use Rattle.pass_laws.specs.prepared_nests.Statements.{IsPreparedStatement, assignment}

count_is : (ss : Subscripts) → subscript_count ss ≡ number_of_subscripts ss
count_is no_subscripts = refl
count_is (subscript s ss) = let more = count_is ss in omega (arith, more)

left_zero : (a b : ℕ) → max a b ≡ 0 → a ≡ 0
left_zero a b h = omega (arith, h)

right_zero : (a b : ℕ) → max a b ≡ 0 → b ≡ 0
right_zero a b h = omega (arith, h)

first_zero : (a b : ℕ) → a + b ≡ 0 → a ≡ 0
first_zero a b h = omega (arith, h)

second_zero : (a b : ℕ) → a + b ≡ 0 → b ≡ 0
second_zero a b h = omega (arith, h)

module _ (es : List Declaration) where
  abbrev pub rank : List ℕ → ℕ
  rank x = rank_of_name es x

  abbrev rank_or_zero : Option Declaration → ℕ
  rank_or_zero o = elim o [ None ↦ 0 | Some d ↦ rank_of_extent d.extent ]

  counted : (x : List ℕ) (s : Subscript) (ss : Subscripts) (k : Kind)
      → IsSomeAnd (declared es x) (λ (d : Declaration). (k ≡ d.kind) × SuitsDimensions (subscript s ss) (rank_of_extent d.extent)) → subscript_count (subscript s ss) ≡ rank x
  counted x s ss k h = by (declared es x) h
    where
      by : (o : Option Declaration) → IsSomeAnd o (λ (d : Declaration). (k ≡ d.kind) × SuitsDimensions (subscript s ss) (rank_of_extent d.extent))
          → subscript_count (subscript s ss) ≡ rank_or_zero o
      by None g = absurd g
      by (Some d) g = count_is (subscript s ss) ∙ g.1

  mutual
    pub scalar_ranks : (e : Expression) (k : Kind) → IsPlain e → HasKind es e k → rank_of es e ≡ 0 → HasRanks rank e
    scalar_ranks (Number n) k p h z = tt
    scalar_ranks (Logic b) k p h z = tt
    scalar_ranks (Named x no_subscripts) k p h z = (sym z, tt)
    scalar_ranks (Named x (subscript s ss)) k p h z = (counted x s ss k h.0, subscripts_ranks (subscript s ss) p h.1 z)
    scalar_ranks (Unary o a) k p h z = scalar_ranks a (operand_kind o) p h.2 z
    scalar_ranks (Binary o a b) k p h z = (
      scalar_ranks a (operand_kind o) p.0 h.2 (left_zero (rank_of es a) (rank_of es b) z),
      scalar_ranks b (operand_kind o) p.1 h.3 (right_zero (rank_of es a) (rank_of es b) z),
    )
    scalar_ranks (Apply f vs) k p h z = arguments_ranks vs p h.3 z
    scalar_ranks (Constructor vs ls) k p h z = absurd p
    scalar_ranks (Spread a i n) k p h z = absurd p
    scalar_ranks (Transpose a) k p h z = absurd p
    scalar_ranks (Reshape a vs) k p h z = absurd p
    scalar_ranks (Reduce r a) k p h z = absurd p

    arguments_ranks : (vs : Expressions) → EachIsPlain vs → AreArguments es vs → rank_of_each es vs ≡ 0 → HaveRanksEach rank vs
    arguments_ranks no_expressions p h z = tt
    arguments_ranks (expression e vs) p h z = (
      scalar_ranks e Integer p.0 h.0 (left_zero (rank_of es e) (rank_of_each es vs) z),
      arguments_ranks vs p.1 h.2 (right_zero (rank_of es e) (rank_of_each es vs) z),
    )

    subscripts_ranks : (ss : Subscripts) → ArePlain ss → AreSubscripts es ss → rank_of_subscripts es ss ≡ 0 → HaveRanks rank ss
    subscripts_ranks no_subscripts p h z = tt
    subscripts_ranks (subscript s ss) p h z = (
      one_ranks s p.0 h.0 (first_zero (rank_of_subscript es s) (rank_of_subscripts es ss) z),
      subscripts_ranks ss p.1 h.1 (second_zero (rank_of_subscript es s) (rank_of_subscripts es ss) z),
    )

    one_ranks : (s : Subscript) → IsPlainSubscript s → IsSubscript es s → rank_of_subscript es s ≡ 0 → IsRanked rank s
    one_ranks (Only e) p h z = scalar_ranks e Integer p h.0 z
    one_ranks (Section a b c) p h z = absurd p

  -- ---- a statement

  left_ranks : (x : List ℕ) (ss : Subscripts) (k : Kind) → ArePlain ss → IsScalar es (Named x ss) k → (subscript_count ss ≡ rank x) × HaveRanks rank ss
  left_ranks x ss k p h = scalar_ranks (Named x ss) k p h.0 h.1

  guard_ranks : (o : Option Expression) → IsPlainGuard o → IfSome o (λ (e : Expression). IsScalar es e Logical) → GuardHasRanks rank o
  guard_ranks None p h = tt
  guard_ranks (Some e) p h = scalar_ranks e Logical p h.0 h.1

  statement_ranks : (g : Guarded) (k : Kind) → IsPlainAssignment (assignment g) → IfSome g.guard (λ (e : Expression). IsScalar es e Logical) → IsScalar es (named g.left) k
      → IsScalar es g.right k → IsRankedStatement rank g
  statement_ranks g k p guard left right =
      let l = left_ranks g.left.name g.left.subscripts k p.2 left in
      record {
        guard = guard_ranks g.guard p.0 guard;
        count = l.0;
        left = l.1;
        right = scalar_ranks g.right k p.1 right.0 right.1;
      }

  -- ---- its references

  guard_fits : (loops : List (List ℕ)) (o : Option Expression) → GuardHasRanks rank o → Each (Fits rank) (references_in_guard loops o)
  guard_fits loops None h = tt
  guard_fits loops (Some e) h = references_fit rank loops e h

  statement_fits : (x : Standing) → IsRankedStatement rank x.statement → AllFit rank x
  statement_fits x h =
      let xs : List (List ℕ) = map (λ (l : Loop). l.variable) x.loops in
      let s = x.statement in (
        record { elements = are_elements rank s.left.subscripts h.left; count = h.count },
        Each-append (Fits rank) (references_in_guard xs s.guard) (references_in_subscripts xs s.left.subscripts ++ references_in xs s.right)
            (guard_fits xs s.guard h.guard)
            (Each-append (Fits rank) (references_in_subscripts xs s.left.subscripts) (references_in xs s.right)
            (references_fit_in rank xs s.left.subscripts h.left) (references_fit rank xs s.right h.right)),
      )

  pub references_of_prepared : (m : Nest) (deepest : ℕ) (x : Standing) → IsPreparedStatement es m deepest x → AllFit rank x
  references_of_prepared m deepest x h = statement_fits x (statement_ranks x.statement h.kind h.plain h.guard h.left h.right)

  -- ---- at most seven dimensions

  few_in : (o : Extent) → IsExtent o → rank_of_extent o ≤ 7
  few_in (Given bs) h = h.0
  few_in (Later n) h = h.1

  pub few_dimensions : AreDeclarations es → (x : List ℕ) → rank x ≤ 7
  few_dimensions are x = by (declared es x) refl
    where
      by : (o : Option Declaration) → declared es x ≡ o → rank_or_zero o ≤ 7
      by None e = omega arith
      by (Some d) e = few_in d.extent (each_found IsDeclaration es are.each x d e).extent

  pub element_of : AreDeclarations es → (r : Reference) → Fits rank r → IsElement r
  element_of are r h = let most = few_dimensions are r.name in let same = h.count in record { elements = h.elements; dimensions = omega (arith, most, same) }
