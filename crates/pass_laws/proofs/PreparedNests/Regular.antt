-- The subscripts of prepared nests move with the loops.
use Rattle.std.proofs.Common.{◌≡◌, ◌⊎◌, inl, inr, refl, sym, ap, subst, ℕ, ◌+◌, Bool, true, false, ◌&&◌, ◌||◌, not, List, [], ◌∷◌, ◌++◌}
use Rattle.std.proofs.Common.{map, length, pos, Option, Some, None, All, Contains, get_or, arith}
use mathlib.Core.Path.{ap₂}
use Rattle.std.specs.Option.{IsSomeAnd, option_map}
use Rattle.array_form.specs.forms.Following.{are_regular, has_no_loop, is_regular}
use Rattle.array_form.specs.forms.Guarded.{is_regular_guard}
use Rattle.array_form.specs.forms.Following.{are_moved}
use Rattle.array_form.specs.forms.Loops as forms
use Rattle.array_form.specs.forms.Loops.{FormSurroundings, loops_among, one_each, form_variables_of}
use Rattle.array_form.specs.forms.Statements.{hold_at, loops_assigned}
use Rattle.array_form.specs.holds.Bounds.{is_safe}
use Rattle.array_form.specs.holds.Statements.{no_statement}
use Rattle.array_form.specs.holds.Surroundings.{counted_loop, counted_of, surroundings_of}
use Rattle.linear_forms.specs.Canonical.{canonising}
use Rattle.meaning.specs.Reads.{names_in, names_in_each}
use Rattle.meaning.specs.Typed.{declared, number_of_subscripts, rank_of_extent}
use Rattle.meaning.specs.Typed90.{AreArguments, HasKind, SuitsDimensions}
use Rattle.nest.specs.Bodies.{Standing, nest_statements}
use Rattle.nest.specs.Plain.{Guarded, Loop, Nest}
use Rattle.nest_order.proofs.orders.Lists.{In-append, In-left, In-right}
use Rattle.nest_order.specs.orders.Lists.{In}
use Rattle.nest_order.specs.runs.Touched.{EachIsPlain, IsPlain, IsPlainAssignment}
use Rattle.pass_laws.proofs.NormalFacts.Moved.{IsRegularFrom, statement_regular}
use Rattle.pass_laws.proofs.NormalFacts.Tables.{all_in, each_from}
use Rattle.pass_laws.proofs.ReadyNests.Lists.{Each-All}
use Rattle.pass_laws.specs.normal_facts.Laws.{IsCounter}
use Rattle.rewrite.specs.Making.{made, made_subscripts}
use Rattle.tree.specs.OperatorTable.{operand_kind}
use Rattle.tree.specs.Plain.{Apply, Binary, Constructor, Declaration, Expression, Expressions, Logic, Named, Number}
use Rattle.tree.specs.Plain.{Reduce, Reference, Reshape, Spread, Subscripts, Transpose, Unary, expression}
use Rattle.tree.specs.Plain.{no_expressions, no_subscripts, subscript}
use Rattle.tree.specs.declared.ops.Kind.{Kind}
use Rattle.tree.specs.declared.ops.Kind.TheVariants.{Integer}
use Rattle.pass_laws.specs.prepared_nests.Laws.{PreparedNestIsRegular}
use Rattle.pass_laws.specs.prepared_nests.Loops.{IsPreparedLoop, variables_of_loops}
use Rattle.pass_laws.specs.prepared_nests.Nests.{IsPrepared, IsPreparedSymbol}
use Rattle.pass_laws.specs.prepared_nests.Statements.{IsCanonical, IsPreparedStatement, assignment}
use Rattle.pass_laws.proofs.PreparedNests.Lists.{Contains-In, In-Contains}
use Rattle.pass_laws.proofs.PreparedNests.Ready.{round_statement}
use Rattle.pass_laws.proofs.PreparedNests.Walks.{AreRound, Follow}

-- ---- what stands over scalars alone

and_true : (a b : Bool) → a ≡ true → b ≡ true → (a && b) ≡ true
and_true a b h k = ap₂ (λ x y. x && y) h k

or_true : (a b : Bool) → b ≡ true → (a || b) ≡ true
or_true true b h = refl
or_true false b h = h

module _ (es : List Declaration) (a : FormSurroundings) where
  abbrev AreScalars : List (List ℕ) → Type 0
  AreScalars xs = (y : List ℕ) → In y xs → IsSomeAnd (declared es y) IsCounter

  has_subscripts : (o : Option Declaration) (ss : Subscripts) (k : Kind) → IsSomeAnd o IsCounter → IsSomeAnd o (λ (d : Declaration). (k ≡ d.kind) × ((1 + number_of_subscripts ss) ≡ rank_of_extent d.extent)) → ⊥
  has_subscripts None ss k h g = h
  has_subscripts (Some d) ss k h g = let none : rank_of_extent d.extent ≡ 0 = ap rank_of_extent h.scalar in let some = g.1 in omega (arith, none, some)

  mutual
    scalars_regular : (D : List forms.FormLoop) (e : Expression) (k : Kind) → IsPlain e → HasKind es e k → AreScalars (names_in e) → is_regular a D e ≡ true
    scalars_regular D (Number n) k p h f = refl
    scalars_regular D (Logic b) k p h f = refl
    scalars_regular D (Named x no_subscripts) k p h f = or_true (has_no_loop (loops_among D (x ∷ []))) (not (one_each D no_subscripts) || true) (or_true (not (one_each D no_subscripts)) true refl)
    scalars_regular D (Named x (subscript s ss)) k p h f = absurd (has_subscripts (declared es x) ss k (f x (inl refl)) h.0)
    scalars_regular D (Unary o e) k p h f = scalars_regular D e (operand_kind o) p h.2 f
    scalars_regular D (Binary o b c) k p h f = and_true (is_regular a D b) (is_regular a D c)
        (scalars_regular D b (operand_kind o) p.0 h.2 (λ y i. f y (In-left y (names_in b) (names_in c) i))) (scalars_regular D c (operand_kind o) p.1 h.3 (λ y i. f y (In-right y (names_in b) (names_in c) i)))
    scalars_regular D (Apply g vs) k p h f = each_regular D vs p h.3 f
    scalars_regular D (Constructor vs ls) k p h f = absurd p
    scalars_regular D (Spread b n c) k p h f = absurd p
    scalars_regular D (Transpose b) k p h f = absurd p
    scalars_regular D (Reshape b vs) k p h f = absurd p
    scalars_regular D (Reduce r b) k p h f = absurd p

    each_regular : (D : List forms.FormLoop) (vs : Expressions) → EachIsPlain vs → AreArguments es vs → AreScalars (names_in_each vs) → are_regular a D vs ≡ true
    each_regular D no_expressions p h f = refl
    each_regular D (expression e vs) p h f = and_true (is_regular a D e) (are_regular a D vs)
        (scalars_regular D e Integer p.0 h.0 (λ y i. f y (In-left y (names_in e) (names_in_each vs) i))) (each_regular D vs p.1 h.2 (λ y i. f y (In-right y (names_in e) (names_in_each vs) i)))

-- ---- statements

-- regular where nothing forbids its array form
abbrev IsRegularIn : FormSurroundings → Guarded → Bool → ℕ → Type 0
IsRegularIn a g safe k = hold_at a k g.guard g.left safe ≡ None → IsRegularFrom a k g.guard g.left g.right

abbrev with_subscripts : Reference → Subscripts → Reference
with_subscripts r ss = record { name = r.name; subscripts = ss }

module _ (a : FormSurroundings) (g : Guarded) (p : IsPlainAssignment (assignment g)) where
  abbrev settled : Expression → Expression
  settled = made (canonising (form_variables_of a.loops) a.symbols)

  -- with what canonical text makes of e as its right side
  with_right : (e : Expression) → IsPlain e → IsCanonical (form_variables_of a.loops) a.symbols g → (safe : Bool) (k : ℕ) → hold_at a k g.guard g.left safe ≡ None → IsRegularFrom a k g.guard g.left (settled e)
  with_right e q c safe k =
      subst (λ (o : Option Expression). hold_at a k o g.left safe ≡ None → IsRegularFrom a k o g.left (settled e)) c.guard
      (subst (λ (ss : Subscripts). hold_at a k (option_map settled g.guard) (with_subscripts g.left ss) safe ≡ None → IsRegularFrom a k (option_map settled g.guard) (with_subscripts g.left ss) (settled e)) c.left
      (λ h. statement_regular a k g.guard g.left e safe p.2 q p.0 h))

  canonical_regular : IsCanonical (form_variables_of a.loops) a.symbols g
      → ((D : List forms.FormLoop) → ((y : List ℕ) → In y (names_in g.right) → In y (form_variables_of a.loops ++ a.symbols)) → is_regular a D g.right ≡ true)
      → (safe : Bool) (k : ℕ) → IsRegularIn a g safe k
  canonical_regular c over safe k h = by c.right
    where
      by : (settled g.right ≡ g.right) ⊎ All (Contains (form_variables_of a.loops ++ a.symbols)) (names_in g.right) → IsRegularFrom a k g.guard g.left g.right
      by (inl e) = subst (λ (r : Expression). IsRegularFrom a k g.guard g.left r) e (with_right g.right p.1 c safe k h)
      by (inr among) =
          let front = with_right (Number (pos 0)) tt c safe k h in
          record {
            left = front.left;
            guard_is = front.guard_is;
            right = over (loops_assigned a k g.left)
                (λ y i. Contains-In y (form_variables_of a.loops ++ a.symbols) (all_in (Contains (form_variables_of a.loops ++ a.symbols)) (names_in g.right) among y i));
          }

variables_round : (d : ℕ) (ls : List Loop) → form_variables_of (map (λ l. counted_of d (counted_loop l)) ls) ≡ variables_of_loops ls
variables_round d [] = refl
variables_round d (l ∷ ls) = ap (λ xs. l.variable ∷ xs) (variables_round d ls)

counters_round : (es : List Declaration) (symbols : List (List ℕ)) (before ls : List Loop) → Follow (IsPreparedLoop es symbols) before ls → (y : List ℕ) → In y (variables_of_loops ls) → IsSomeAnd (declared es y) IsCounter
counters_round es symbols before [] h y i = absurd i
counters_round es symbols before (l ∷ ls) h y (inl e) = subst (λ z. IsSomeAnd (declared es z) IsCounter) (sym e) h.0.counter
counters_round es symbols before (l ∷ ls) h y (inr i) = counters_round es symbols (before ++ l ∷ []) ls h.1 y i

module _ (es : List Declaration) (m : Nest) (deepest : ℕ) (x : Standing) (h : IsPreparedStatement es m deepest x) (round : AreRound (IsPreparedLoop es m.symbols) x.loops)
    (symbols : (y : List ℕ) → In y m.symbols → IsSomeAnd (declared es y) IsCounter) where
  abbrev a : FormSurroundings
  a = surroundings_of m x.loops

  scalar : (y : List ℕ) → In y (variables_of_loops x.loops) ⊎ In y m.symbols → IsSomeAnd (declared es y) IsCounter
  scalar y (inl i) = counters_round es m.symbols [] x.loops round.follow y i
  scalar y (inr i) = symbols y i

  same : form_variables_of a.loops ≡ variables_of_loops x.loops
  same = variables_round (length x.loops) x.loops

  statement_is : (k : ℕ) → IsRegularIn a x.statement (is_safe m x) k
  statement_is k =
      canonical_regular a x.statement h.plain (subst (λ xs. IsCanonical xs m.symbols x.statement) (sym same) h.canonical)
      (λ D over. scalars_regular es a D x.statement.right h.kind h.plain.1 h.right.0
      (λ y i. scalar y (In-append y (variables_of_loops x.loops) m.symbols (subst (λ xs. In y (xs ++ m.symbols)) same (over y i)))))
      (is_safe m x) k

pub prepared_nest_is_regular : PreparedNestIsRegular
prepared_nest_is_regular es around deepest m h k s level held =
    let x = get_or (nest_statements m) s no_statement in
    let round = Each-All (λ (x : Standing). AreRound (IsPreparedLoop es m.symbols) x.loops) (nest_statements m)
    (each_from (λ (x : Standing). AreRound (IsPreparedLoop es m.symbols) x.loops) (nest_statements m) (λ x i. round_statement es around deepest m h x i)) in
    let r = statement_is es m deepest x (h.parts.statements s no_statement level.0) (round s no_statement level.0)
    (λ y i. (all_in (IsPreparedSymbol es) m.symbols h.parts.symbols y i).scalar) k held in
    record { left = r.left; guard = r.guard_is; right = r.right }
