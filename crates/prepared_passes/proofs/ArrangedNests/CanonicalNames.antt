-- The names in canonical text: those of the text, of loops and of symbols.
use Rattle.std.proofs.Common.{refl, inl, inr, ℕ, zero, suc, ℤ, pos, negsuc, Bool, true, false, cond, List, [], ◌∷◌, ◌++◌}
use Rattle.std.proofs.Common.{Option, Some, None}
use Rattle.std.specs.Option.{option_map}
use Rattle.std.specs.Prelude.{◌==◌}
use Rattle.components.specs.Lists.{Each}
use Rattle.components.proofs.ListLaws.{Each-append}
use Rattle.meaning.specs.Reads.{names_in, names_in_each, names_in_subscripts}
use Rattle.rewrite.specs.Making.{Making, made, made_expressions, made_subscripts}
use Rattle.rewrite.specs.Names.{mentions}
use Rattle.tree.specs.Plain.{Expression, Number, Logic, Named, Unary, Binary, Apply, Constructor, Spread, Transpose}
use Rattle.tree.specs.Plain.{Reshape, Reduce, Expressions, no_expressions, expression, Only, Section}
use Rattle.tree.specs.Plain.{Subscripts, no_subscripts, subscript}
use Rattle.tree.specs.declared.ops.Op.TheVariants.{Mul}
use Rattle.linear_forms.specs.Canonical.{canonical_text, canonising, text_or}
use Rattle.linear_forms.specs.Expressed.{minus_term, plus_term, term, variables, with_constant, with_term, with_terms}
use Rattle.linear_forms.specs.Linear.{Form, form_of}
use Rattle.nest.specs.Plain.{Guarded}
use Rattle.nest_order.proofs.orders.Lists.{In-left, In-right}
use Rattle.nest_order.specs.orders.Lists.{In}
use Rattle.nest_order.specs.runs.Guarded.{names_of, names_of_guard}
use Rattle.nest_order.specs.runs.Touched.{ArePlain, EachIsPlain, IsPlain, IsPlainAssignment, IsPlainGuard}
use Rattle.nest_rewrite.specs.Statements.{rewritten_statement}
use Rattle.pass_laws.proofs.NormalFacts.Texts.{AreOver, EachIsOver, GuardIsOver, IsOver, IsStatementOver}
use Rattle.pass_laws.specs.prepared_nests.Statements.{assignment}

module _ (P : List ℕ → Type 0) where
  -- ---- of plain text, by its names

  mutual
    over_names : (e : Expression) → IsPlain e → ((x : List ℕ) → In x (names_in e) → P x) → IsOver P e
    over_names (Number n) plain h = tt
    over_names (Logic b) plain h = tt
    over_names (Named x ss) plain h = (h x (inl refl), over_names_in ss plain (λ y i. h y (inr i)))
    over_names (Unary o a) plain h = over_names a plain h
    over_names (Binary o a b) plain h = (
      over_names a plain.0 (λ x i. h x (In-left x (names_in a) (names_in b) i)),
      over_names b plain.1 (λ x i. h x (In-right x (names_in a) (names_in b) i)),
    )
    over_names (Apply f es) plain h = over_names_each es plain h
    over_names (Constructor es ls) plain h = absurd plain
    over_names (Spread a n e) plain h = absurd plain
    over_names (Transpose a) plain h = absurd plain
    over_names (Reshape a es) plain h = absurd plain
    over_names (Reduce r a) plain h = absurd plain

    over_names_each : (es : Expressions) → EachIsPlain es → ((x : List ℕ) → In x (names_in_each es) → P x) → EachIsOver P es
    over_names_each no_expressions plain h = tt
    over_names_each (expression e es) plain h = (
      over_names e plain.0 (λ x i. h x (In-left x (names_in e) (names_in_each es) i)),
      over_names_each es plain.1 (λ x i. h x (In-right x (names_in e) (names_in_each es) i)),
    )

    over_names_in : (ss : Subscripts) → ArePlain ss → ((x : List ℕ) → In x (names_in_subscripts ss) → P x) → AreOver P ss
    over_names_in no_subscripts plain h = tt
    over_names_in (subscript (Only e) ss) plain h = (
      over_names e plain.0 (λ x i. h x (In-left x (names_in e) (names_in_subscripts ss) i)),
      over_names_in ss plain.1 (λ x i. h x (In-right x (names_in e) (names_in_subscripts ss) i)),
    )
    over_names_in (subscript (Section a b s) ss) plain h = absurd plain.0

  guard_over : (o : Option Expression) → IsPlainGuard o → ((x : List ℕ) → In x (names_of_guard o) → P x) → GuardIsOver P o
  guard_over None plain h = tt
  guard_over (Some e) plain h = over_names e plain h

  pub statement_over : (g : Guarded) → IsPlainAssignment (assignment g) → ((x : List ℕ) → In x (names_of (assignment g)) → P x) → IsStatementOver P g
  statement_over g plain h =
      let left : List (List ℕ) = g.left.name ∷ names_in_subscripts g.left.subscripts in
      let behind : (x : List ℕ) → In x (names_in g.right ++ left) → P x = λ x i. h x (In-right x (names_of_guard g.guard) (names_in g.right ++ left) i) in
      record {
        guard = guard_over g.guard plain.0 (λ x i. h x (In-left x (names_of_guard g.guard) (names_in g.right ++ left) i));
        name = behind g.left.name (In-right g.left.name (names_in g.right) left (inl refl));
        left = over_names_in g.left.subscripts plain.2 (λ x i. behind x (In-right x (names_in g.right) left (inr i)));
        right = over_names g.right plain.1 (λ x i. behind x (In-left x (names_in g.right) left i));
      }

  -- ---- the text of a form

  abbrev SoFar : Option Expression → Type 0
  SoFar None = Unit {0}
  SoFar (Some e) = IsOver P e

  term_over : (n : ℕ) (t : Expression) → IsOver P t → IsOver P (term n t)
  term_over n t h = by (n == 1)
    where
      by : (b : Bool) → IsOver P (cond b t (Binary Mul (Number (pos n)) t))
      by true = h
      by false = (tt, h)

  plus_over : (o : Option Expression) (t : Expression) → SoFar o → IsOver P t → IsOver P (plus_term o t)
  plus_over None t h k = k
  plus_over (Some e) t h k = (h, k)

  minus_over : (o : Option Expression) (t : Expression) → SoFar o → IsOver P t → IsOver P (minus_term o t)
  minus_over None t h k = k
  minus_over (Some e) t h k = (h, k)

  one_over : (o : Option Expression) (c : ℤ) (t : Expression) → SoFar o → IsOver P t → SoFar (with_term o c t)
  one_over o (pos zero) t h k = h
  one_over o (pos (suc n)) t h k = plus_over o (term (suc n) t) h (term_over (suc n) t k)
  one_over o (negsuc n) t h k = minus_over o (term (suc n) t) h (term_over (suc n) t k)

  terms_over : (o : Option Expression) (cs : List ℤ) (ts : List Expression) → SoFar o → Each (IsOver P) ts → SoFar (with_terms o cs ts)
  terms_over o [] ts h k = h
  terms_over o (c ∷ cs) [] h k = h
  terms_over o (c ∷ cs) (t ∷ ts) h k = terms_over (with_term o c t) cs ts (one_over o c t h k.0) k.1

  constant_over : (o : Option Expression) (z : ℤ) → SoFar o → IsOver P (with_constant o z)
  constant_over None (pos n) h = tt
  constant_over None (negsuc n) h = tt
  constant_over (Some e) (pos zero) h = h
  constant_over (Some e) (pos (suc n)) h = (h, tt)
  constant_over (Some e) (negsuc n) h = (h, tt)

  variables_over : (xs : List (List ℕ)) → Each P xs → Each (IsOver P) (variables xs)
  variables_over [] h = tt
  variables_over (x ∷ xs) h = ((h.0, tt), variables_over xs h.1)

  -- ---- canonical text

  module _ (loops symbols : List (List ℕ)) (first : Each P loops) (second : Each P symbols) where
    abbrev rule : Making
    rule = canonising loops symbols

    node_over : (whole e : Expression) → IsOver P e → IsOver P (rule.expression whole e)
    node_over whole e k = chosen (mentions loops whole)
      where
        text : (o : Option Form) → IsOver P (text_or loops symbols o e)
        text None = k
        text (Some f) =
            constant_over (with_terms None f.coefficients (variables (loops ++ symbols))) f.constant
            (terms_over None f.coefficients (variables (loops ++ symbols)) tt (variables_over (loops ++ symbols) (Each-append P loops symbols first second)))

        chosen : (b : Bool) → IsOver P (cond b (canonical_text loops symbols e) e)
        chosen true = text (form_of loops symbols e)
        chosen false = k

    mutual
      made_over : (e : Expression) → IsOver P e → IsOver P (made rule e)
      made_over (Number n) h = node_over (Number n) (Number n) h
      made_over (Logic b) h = node_over (Logic b) (Logic b) h
      made_over (Named x ss) h = node_over (Named x ss) (Named x (made_subscripts rule ss)) (h.0, made_over_in ss h.1)
      made_over (Unary o a) h = node_over (Unary o a) (Unary o (made rule a)) (made_over a h)
      made_over (Binary o a b) h = node_over (Binary o a b) (Binary o (made rule a) (made rule b)) (made_over a h.0, made_over b h.1)
      made_over (Apply f es) h = node_over (Apply f es) (Apply f (made_expressions rule es)) (made_over_each es h)
      made_over (Constructor es ls) h = absurd h
      made_over (Spread a n e) h = absurd h
      made_over (Transpose a) h = absurd h
      made_over (Reshape a es) h = absurd h
      made_over (Reduce r a) h = absurd h

      made_over_each : (es : Expressions) → EachIsOver P es → EachIsOver P (made_expressions rule es)
      made_over_each no_expressions h = tt
      made_over_each (expression e es) h = (made_over e h.0, made_over_each es h.1)

      made_over_in : (ss : Subscripts) → AreOver P ss → AreOver P (made_subscripts rule ss)
      made_over_in no_subscripts h = tt
      made_over_in (subscript (Only e) ss) h = (made_over e h.0, made_over_in ss h.1)
      made_over_in (subscript (Section a b s) ss) h = absurd h.0

    guard_made : (o : Option Expression) → GuardIsOver P o → GuardIsOver P (option_map (made rule) o)
    guard_made None h = tt
    guard_made (Some e) h = made_over e h

    pub statement_made_over : (g : Guarded) → IsStatementOver P g → IsStatementOver P (rewritten_statement rule g)
    statement_made_over g h = record {
      guard = guard_made g.guard h.guard;
      name = h.name;
      left = made_over_in g.left.subscripts h.left;
      right = made_over g.right h.right;
    }
