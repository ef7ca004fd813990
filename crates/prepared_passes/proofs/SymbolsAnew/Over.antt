-- Canonical text has no names but those of the expression, of the loops and of the symbols.
use Rattle.std.proofs.Common.{inl, inr, refl, ℕ, zero, suc, ℤ, pos, negsuc, Bool, true, false, cond, List, [], ◌∷◌, ◌++◌, Option, Some, None}
use Rattle.std.specs.Option.{option_map}
use Rattle.std.specs.Prelude.{All, ◌==◌}
use Rattle.components.specs.Lists.{Each}
use Rattle.components.proofs.ListLaws.{Each-append}
use Rattle.tree.specs.Plain.{Expression, Number, Logic, Named, Unary, Binary, Apply, Constructor, Spread, Transpose, Reshape, Reduce}
use Rattle.tree.specs.Plain.{Expressions, no_expressions, expression, Subscript, Only, Section, Subscripts, no_subscripts, subscript}
use Rattle.tree.specs.declared.ops.Op.TheVariants.{Mul}
use Rattle.meaning.specs.Reads.{names_in, names_in_each, names_in_subscript, names_in_subscripts}
use Rattle.rewrite.specs.Making.{made, made_expressions, made_subscript, made_subscripts}
use Rattle.rewrite.specs.Names.{mentions}
use Rattle.linear_forms.specs.Canonical.{canonical_node, canonical_text, canonising, text_or}
use Rattle.linear_forms.specs.Expressed.{minus_term, plus_term, term, variables, with_constant, with_term, with_terms}
use Rattle.linear_forms.specs.Linear.{Form, form_of}
use Rattle.nest.specs.Plain.{Guarded}
use Rattle.nest_order.proofs.orders.Lists.{In-left, In-right}
use Rattle.nest_order.specs.orders.Lists.{In}
use Rattle.nest_order.specs.runs.Guarded.{names_of, names_of_guard}
use Rattle.nest_order.specs.runs.Touched.{ArePlain, EachIsPlain, IsPlain, IsPlainAssignment, IsPlainGuard, IsPlainSubscript}
use Rattle.nest_rewrite.specs.Statements.{rewritten_statement}
use Rattle.pass_laws.proofs.NormalFacts.Tables.{all_in}
use Rattle.pass_laws.proofs.NormalFacts.Texts.{AreOver, EachIsOver, GuardIsOver, IsOver, IsStatementOver, OneIsOver}
use Rattle.pass_laws.specs.prepared_nests.Statements.{assignment}

module _ (P : List ℕ → Type 0) where
  -- ---- by the names of the expression

  abbrev AllNamed : List (List ℕ) → Type 0
  AllNamed xs = (x : List ℕ) → In x xs → P x

  front : (xs ys : List (List ℕ)) → AllNamed (xs ++ ys) → AllNamed xs
  front xs ys f x i = f x (In-left x xs ys i)

  back : (xs ys : List (List ℕ)) → AllNamed (xs ++ ys) → AllNamed ys
  back xs ys f x i = f x (In-right x xs ys i)

  mutual
    over : (e : Expression) → IsPlain e → AllNamed (names_in e) → IsOver P e
    over (Number n) p f = tt
    over (Logic b) p f = tt
    over (Named x ss) p f = (f x (inl refl), over_in ss p (λ y i. f y (inr i)))
    over (Unary o a) p f = over a p f
    over (Binary o a b) p f =
        (over a p.0 (front (names_in a) (names_in b) f), over b p.1 (back (names_in a) (names_in b) f))
    over (Apply g es) p f = over_each es p f
    over (Constructor es ls) p f = absurd p
    over (Spread a n e) p f = absurd p
    over (Transpose a) p f = absurd p
    over (Reshape a es) p f = absurd p
    over (Reduce r a) p f = absurd p

    over_each : (es : Expressions) → EachIsPlain es → AllNamed (names_in_each es) → EachIsOver P es
    over_each no_expressions p f = tt
    over_each (expression e es) p f =
        (over e p.0 (front (names_in e) (names_in_each es) f), over_each es p.1 (back (names_in e) (names_in_each es) f))

    over_in : (ss : Subscripts) → ArePlain ss → AllNamed (names_in_subscripts ss) → AreOver P ss
    over_in no_subscripts p f = tt
    over_in (subscript s ss) p f = (
      over_one s p.0 (front (names_in_subscript s) (names_in_subscripts ss) f),
      over_in ss p.1 (back (names_in_subscript s) (names_in_subscripts ss) f),
    )

    over_one : (s : Subscript) → IsPlainSubscript s → AllNamed (names_in_subscript s) → OneIsOver P s
    over_one (Only e) p f = over e p f
    over_one (Section a b c) p f = absurd p

  over_guard : (o : Option Expression) → IsPlainGuard o → AllNamed (names_of_guard o) → GuardIsOver P o
  over_guard None p f = tt
  over_guard (Some e) p f = over e p f

  pub statement_over : (g : Guarded) → IsPlainAssignment (assignment g) → All P (names_of (assignment g)) → IsStatementOver P g
  statement_over g p h =
      let f : AllNamed (names_of (assignment g)) = all_in P (names_of (assignment g)) h in
      let rest : AllNamed (names_in g.right ++ (g.left.name ∷ names_in_subscripts g.left.subscripts))
      = back (names_of_guard g.guard) (names_in g.right ++ (g.left.name ∷ names_in_subscripts g.left.subscripts)) f in
      let left : AllNamed (g.left.name ∷ names_in_subscripts g.left.subscripts)
      = back (names_in g.right) (g.left.name ∷ names_in_subscripts g.left.subscripts) rest in
      record {
        guard = over_guard g.guard p.0
            (front (names_of_guard g.guard) (names_in g.right ++ (g.left.name ∷ names_in_subscripts g.left.subscripts)) f);
        name = left g.left.name (inl refl);
        left = over_in g.left.subscripts p.2 (λ y i. left y (inr i));
        right = over g.right p.1 (front (names_in g.right) (g.left.name ∷ names_in_subscripts g.left.subscripts) rest);
      }

  -- ---- texts

  abbrev SoFar : Option Expression → Type 0
  SoFar None = Unit {0}
  SoFar (Some e) = IsOver P e

  term_over : (n : ℕ) (t : Expression) → IsOver P t → IsOver P (term n t)
  term_over n t h = by (n == 1)
    where
      by : (b : Bool) → IsOver P (cond b t (Binary Mul (Number (pos n)) t))
      by true = h
      by false = (tt, h)

  plus_over : (o : Option Expression) (t : Expression) → SoFar o → IsOver P t → IsOver P (plus_term o t)
  plus_over None t h k = k
  plus_over (Some e) t h k = (h, k)

  minus_over : (o : Option Expression) (t : Expression) → SoFar o → IsOver P t → IsOver P (minus_term o t)
  minus_over None t h k = k
  minus_over (Some e) t h k = (h, k)

  one_over : (o : Option Expression) (c : ℤ) (t : Expression) → SoFar o → IsOver P t → SoFar (with_term o c t)
  one_over o (pos zero) t h k = h
  one_over o (pos (suc n)) t h k = plus_over o (term (suc n) t) h (term_over (suc n) t k)
  one_over o (negsuc n) t h k = minus_over o (term (suc n) t) h (term_over (suc n) t k)

  terms_over : (o : Option Expression) (cs : List ℤ) (ts : List Expression) → SoFar o → Each (IsOver P) ts → SoFar (with_terms o cs ts)
  terms_over o [] ts h k = h
  terms_over o (c ∷ cs) [] h k = h
  terms_over o (c ∷ cs) (t ∷ ts) h k = terms_over (with_term o c t) cs ts (one_over o c t h k.0) k.1

  constant_over : (o : Option Expression) (z : ℤ) → SoFar o → IsOver P (with_constant o z)
  constant_over None (pos n) h = tt
  constant_over None (negsuc n) h = tt
  constant_over (Some e) (pos zero) h = h
  constant_over (Some e) (pos (suc n)) h = (h, tt)
  constant_over (Some e) (negsuc n) h = (h, tt)

  variables_over : (xs : List (List ℕ)) → Each P xs → Each (IsOver P) (variables xs)
  variables_over [] h = tt
  variables_over (x ∷ xs) h = ((h.0, tt), variables_over xs h.1)

  -- ---- canonical text

  module _ (loops symbols : List (List ℕ)) (of_loops : Each P loops) (of_symbols : Each P symbols) where
    text_over : (o : Option Form) (e : Expression) → IsOver P e → IsOver P (text_or loops symbols o e)
    text_over None e k = k
    text_over (Some f) e k =
        constant_over (with_terms None f.coefficients (variables (loops ++ symbols))) f.constant
        (terms_over None f.coefficients (variables (loops ++ symbols)) tt
        (variables_over (loops ++ symbols) (Each-append P loops symbols of_loops of_symbols)))

    node_over : (first e : Expression) → IsOver P e → IsOver P (canonical_node loops symbols first e)
    node_over first e k = by (mentions loops first)
      where
        by : (b : Bool) → IsOver P (cond b (canonical_text loops symbols e) e)
        by true = text_over (form_of loops symbols e) e k
        by false = k

    mutual
      settled_over : (e : Expression) → IsOver P e → IsOver P (made (canonising loops symbols) e)
      settled_over (Number n) h = node_over (Number n) (Number n) h
      settled_over (Logic b) h = node_over (Logic b) (Logic b) h
      settled_over (Named x ss) h =
          node_over (Named x ss) (Named x (made_subscripts (canonising loops symbols) ss)) (h.0, settled_over_in ss h.1)
      settled_over (Unary o a) h = node_over (Unary o a) (Unary o (made (canonising loops symbols) a)) (settled_over a h)
      settled_over (Binary o a b) h =
          node_over (Binary o a b) (Binary o (made (canonising loops symbols) a) (made (canonising loops symbols) b))
          (settled_over a h.0, settled_over b h.1)
      settled_over (Apply f es) h =
          node_over (Apply f es) (Apply f (made_expressions (canonising loops symbols) es)) (settled_over_each es h)
      settled_over (Constructor es ls) h = absurd h
      settled_over (Spread a n e) h = absurd h
      settled_over (Transpose a) h = absurd h
      settled_over (Reshape a es) h = absurd h
      settled_over (Reduce r a) h = absurd h

      settled_over_each : (es : Expressions) → EachIsOver P es → EachIsOver P (made_expressions (canonising loops symbols) es)
      settled_over_each no_expressions h = tt
      settled_over_each (expression e es) h = (settled_over e h.0, settled_over_each es h.1)

      settled_over_in : (ss : Subscripts) → AreOver P ss → AreOver P (made_subscripts (canonising loops symbols) ss)
      settled_over_in no_subscripts h = tt
      settled_over_in (subscript s ss) h = (settled_over_one s h.0, settled_over_in ss h.1)

      settled_over_one : (s : Subscript) → OneIsOver P s → OneIsOver P (made_subscript (canonising loops symbols) s)
      settled_over_one (Only e) h = settled_over e h
      settled_over_one (Section a b c) h = absurd h

    settled_guard : (o : Option Expression) → GuardIsOver P o → GuardIsOver P (option_map (made (canonising loops symbols)) o)
    settled_guard None h = tt
    settled_guard (Some e) h = settled_over e h

    pub settled_statement : (g : Guarded) → IsStatementOver P g → IsStatementOver P (rewritten_statement (canonising loops symbols) g)
    settled_statement g h = record {
      guard = settled_guard g.guard h.guard;
      name = h.name;
      left = settled_over_in g.left.subscripts h.left;
      right = settled_over g.right h.right;
    }
