-- What stands in a prepared nest is declared, so that no statement has the name of an array that isn't.
use Rattle.std.proofs.Common.{◌≡◌, inl, inr, refl, sym, ap, ◌∙◌, subst, ℕ, Bool, true, false, ◌||◌, List, [], ◌∷◌, Option, Some, None}
use Rattle.std.specs.Option.{IfSome, IsSomeAnd}
use Rattle.std.specs.Str.{bytes_eq}
use Rattle.std.proofs.lemmas.Slice.Eq.{bytes_eq-Decides}
use Rattle.last_values.specs.Occurrences.{stands_in, stands_in_guard, stands_in_left, stands_in_statement}
use Rattle.meaning.specs.Reads.{names_in, names_in_each, names_in_subscripts}
use Rattle.meaning.specs.Typed.{declared, rank_of_extent}
use Rattle.meaning.specs.Typed90.{AreArguments, AreSubscripts, HasKind, IsScalar, SuitsDimensions}
use Rattle.meaning.specs.Value.{named}
use Rattle.nest.specs.Bodies.{Standing, nest_statements}
use Rattle.nest.specs.Plain.{Made, Nest}
use Rattle.nest.specs.statement_loops.Names.{is_among}
use Rattle.nest_order.proofs.orders.Membership.{In-map}
use Rattle.nest_order.specs.orders.Lists.{In}
use Rattle.nest_order.specs.runs.Touched.{ArePlain, EachIsPlain, IsPlain, IsPlainGuard}
use Rattle.pass_laws.proofs.NormalFacts.Tables.{all_in}
use Rattle.pass_laws.specs.prepared_nests.Made.{IsPreparedMade, extent_for}
use Rattle.pass_laws.specs.prepared_nests.Statements.{IsPreparedStatement, made_names}
use Rattle.pass_laws.proofs.PreparedNests.Lists.{Contains-In}
use Rattle.pass_laws.proofs.PreparedNests.Normal.MadeNames.{extends}
use Rattle.pass_laws.proofs.PreparedNests.Normal.Sources.{declared_source}
use Rattle.tree.specs.OperatorTable.{operand_kind}
use Rattle.tree.specs.Plain.{Apply, Binary, Constructor, Declaration, Expression, Expressions, Logic, Named, Number, Only}
use Rattle.tree.specs.Plain.{Reduce, Reshape, Section, Spread, Subscripts, Transpose, Unary, expression, no_expressions}
use Rattle.tree.specs.Plain.{no_subscripts, subscript}
use Rattle.tree.specs.declared.ops.Kind.{Kind}
use Rattle.tree.specs.declared.ops.Kind.TheVariants.{Integer, Logical}
use Rattle.prepared_passes.specs.expansion.Allowed.{PreparedNestMayBeExpanded}
use Rattle.prepared_passes.proofs.ExpandedNests.Elements.{either_in}

is_in : (zs : List (List ℕ)) (z : List ℕ) → is_among zs z ≡ true → In z zs
is_in [] z e = let bad : false ≡ true = e in let none : ⊥ = cc in absurd none
is_in (y ∷ zs) z e = by (bytes_eq y z) refl e (λ f. is_in zs z f)
  where
    by : (b : Bool) → bytes_eq y z ≡ b → (b || is_among zs z) ≡ true → (is_among zs z ≡ true → In z zs) → In z (y ∷ zs)
    by true f g r = inl (sym ((bytes_eq-Decides y z).0 f))
    by false f g r = inr (r g)

pub not_among : (zs : List (List ℕ)) (z : List ℕ) → ¬ In z zs → is_among zs z ≡ false
not_among zs z n = by (is_among zs z) refl
  where
    by : (b : Bool) → is_among zs z ≡ b → b ≡ false
    by true e = absurd (n (is_in zs z e))
    by false e = refl

pub among_is : (zs : List (List ℕ)) (z : List ℕ) → In z zs → is_among zs z ≡ true
among_is [] z i = absurd i
among_is (y ∷ zs) z i = by (bytes_eq y z) refl i (among_is zs z)
  where
    by : (b : Bool) → bytes_eq y z ≡ b → In z (y ∷ zs) → (In z zs → is_among zs z ≡ true) → (b || is_among zs z) ≡ true
    by true e i r = refl
    by false e (inl f) r = let bad : true ≡ false = sym ((bytes_eq-Decides y z).1 (sym f)) ∙ e in cc
    by false e (inr j) r = r j

module _ (es : List Declaration) (x : List ℕ) (none : declared es x ≡ None) where
  undeclared : (y : List ℕ) (P : Declaration → Type 0) → x ≡ y → IsSomeAnd (declared es y) P → ⊥
  undeclared y P e h = subst (λ (o : Option Declaration). IsSomeAnd o P) (sym (ap (declared es) e) ∙ none) h

  mutual
    absent : (e : Expression) (k : Kind) → IsPlain e → HasKind es e k → ¬ In x (names_in e)
    absent (Number n) k p h i = i
    absent (Logic b) k p h i = i
    absent (Named y ss) k p h (inl e) = undeclared y (λ (d : Declaration). (k ≡ d.kind) × SuitsDimensions ss (rank_of_extent d.extent)) e h.0
    absent (Named y ss) k p h (inr i) = absent_in ss p h.1 i
    absent (Unary o a) k p h i = absent a (operand_kind o) p h.2 i
    absent (Binary o a b) k p h i = either_in x (names_in a) (names_in b) ⊥ (λ j. absent a (operand_kind o) p.0 h.2 j) (λ j. absent b (operand_kind o) p.1 h.3 j) i
    absent (Apply f vs) k p h i = absent_each vs p h.3 i
    absent (Constructor vs ls) k p h i = p
    absent (Spread a n b) k p h i = p
    absent (Transpose a) k p h i = p
    absent (Reshape a vs) k p h i = p
    absent (Reduce r a) k p h i = p

    absent_each : (vs : Expressions) → EachIsPlain vs → AreArguments es vs → ¬ In x (names_in_each vs)
    absent_each no_expressions p h i = i
    absent_each (expression e vs) p h i = either_in x (names_in e) (names_in_each vs) ⊥ (λ j. absent e Integer p.0 h.0 j) (λ j. absent_each vs p.1 h.2 j) i

    absent_in : (ss : Subscripts) → ArePlain ss → AreSubscripts es ss → ¬ In x (names_in_subscripts ss)
    absent_in no_subscripts p h i = i
    absent_in (subscript (Only e) ss) p h i = either_in x (names_in e) (names_in_subscripts ss) ⊥ (λ j. absent e Integer p.0 h.0.0 j) (λ j. absent_in ss p.1 h.1 j) i
    absent_in (subscript (Section a b c) ss) p h i = p.0

  -- ---- statements

  three : (a b c : Bool) → a ≡ false → b ≡ false → c ≡ false → (a || (b || c)) ≡ false
  three a b c e f g = ap (λ (z : Bool). z || (b || c)) e ∙ (ap (λ (z : Bool). z || c) f ∙ g)

  absent_there : (m : Nest) (deepest : ℕ) (s : Standing) → IsPreparedStatement es m deepest s → stands_in_statement x s.statement ≡ false
  absent_there m deepest s h =
      three (stands_in_guard x s.statement.guard) (stands_in_left x s.statement.left) (stands_in x s.statement.right) (guard s.statement.guard h.plain.0 h.guard)
      (not_among (names_in (named s.statement.left)) x (λ i. absent (named s.statement.left) h.kind h.plain.2 h.left.0 i))
      (not_among (names_in s.statement.right) x (λ i. absent s.statement.right h.kind h.plain.1 h.right.0 i))
    where
      guard : (o : Option Expression) → IsPlainGuard o → IfSome o (λ (e : Expression). IsScalar es e Logical) → stands_in_guard x o ≡ false
      guard None p g = refl
      guard (Some e) p g = not_among (names_in e) x (λ i. absent e Logical p g.0 i)

pub prepared_nest_may_be_expanded : PreparedNestMayBeExpanded
prepared_nest_may_be_expanded d p es around deepest m is added same h none = record {
  among = λ x c e. (extends d p es is added).found x c (subst (λ ds. declared ds x ≡ Some c) same e);
  source = λ x c e. declared_source d p is x c (subst (λ ds. declared ds x ≡ Some c) same e);
  fresh = λ q i n s j. absent_there es q.array (none q i n) m deepest s (all_in (IsPreparedStatement es m deepest) (nest_statements m) h.parts.statements s j);
  unmade = λ q i n c. made q.array (none q i n) (Contains-In q.array (made_names m) c);
}
  where
    made : (x : List ℕ) → declared es x ≡ None → ¬ In x (made_names m)
    made x e i =
        let o = In-map (λ (a : Made). a.name) x m.made i in
        undeclared es x e o.it.name (λ (c : Declaration). (c.kind ≡ o.it.kind) × (c.extent ≡ extent_for o.it.extents)) o.is (all_in (IsPreparedMade es m.symbols deepest) m.made h.parts.made o.it o.inside).declaration
