-- The references of canonical text: those of the text, with their subscripts in canonical text, and names of loops and
-- symbols.
use Rattle.std.proofs.Common.{◌≡◌, ◌⊎◌, inl, inr, refl, sym, ap, ◌∙◌, subst, ℕ, zero, suc, ℤ, pos, negsuc, Bool, true, false}
use Rattle.std.proofs.Common.{cond, List, [], ◌∷◌, ◌++◌, map, reverse, length, Option, Some, None}
use Rattle.std.specs.Option.{option_map}
use Rattle.std.specs.Prelude.{◌==◌, nat_le}
use Rattle.std.specs.Str.{bytes_eq}
use Rattle.std.proofs.lemmas.Slice.Eq.{bytes_eq-Decides}
use mathlib.Core.List.{reverse_aux}
use Rattle.components.specs.Lists.{Each}
use Rattle.prepared_passes.specs.expansion.Left.{references_touched}
use Rattle.linear_forms.specs.Canonical.{canonical_text, canonising, text_or}
use Rattle.linear_forms.specs.Expressed.{minus_term, plus_term, term, variables, with_constant, with_term, with_terms}
use Rattle.linear_forms.specs.Linear.{Form, form_of, is_limited, limited, linear, unit, with_no_constant, with_zero}
use Rattle.nest.specs.Plain.{Guarded}
use Rattle.nest_order.proofs.orders.Lists.{In-append, In-left, In-right}
use Rattle.nest_order.specs.orders.Lists.{In}
use Rattle.nest_order.specs.runs.Touched.{ArePlain, EachIsPlain, IsPlain, IsPlainAssignment, IsPlainGuard, touched_in}
use Rattle.nest_order.specs.runs.Touched.{references_in_each, touched_in_guard, touched_in_subscripts}
use Rattle.nest_rewrite.specs.Statements.{rewritten_statement}
use Rattle.pass_laws.specs.prepared_nests.Statements.{assignment}
use Rattle.rewrite.specs.Making.{Making, made, made_expressions, made_subscripts}
use Rattle.rewrite.specs.Names.{mentions}
use Rattle.scalar_expand.specs.Expanded.{loop_subscript}
use Rattle.scalar_expand.specs.declared.privates.RoundLoop.{RoundLoop}
use Rattle.tree.specs.Limits.{nest_depth}
use Rattle.tree.specs.Plain.{Apply, Binary, Constructor, Expression, Expressions, Logic, Named, Number, Only, Reduce, Reference}
use Rattle.tree.specs.Plain.{Reshape, Section, Spread, Subscript, Subscripts, Transpose, Unary, expression, no_expressions}
use Rattle.tree.specs.Plain.{no_subscripts, subscript, subscripts}
use Rattle.tree.specs.declared.ops.Op.TheVariants.{Mul}

-- ---- the text of a form names what it is over

module _ (names : List (List ℕ)) where
  abbrev Only-named : Expression → Type 0
  Only-named e = (r : Reference) → In r (touched_in e) → In r.name names

  abbrev SoFar : Option Expression → Type 0
  SoFar None = Unit {0}
  SoFar (Some e) = Only-named e

  both : (xs ys : List Reference) (r : Reference) → (In r xs → In r.name names) → (In r ys → In r.name names)
      → In r (xs ++ ys) → In r.name names
  both xs ys r f g i = by (In-append r xs ys i)
    where
      by : In r xs ⊎ In r ys → In r.name names
      by (inl j) = f j
      by (inr j) = g j

  of_term : (n : ℕ) (t : Expression) → Only-named t → Only-named (term n t)
  of_term n t h = by (n == 1)
    where
      by : (b : Bool) → Only-named (cond b t (Binary Mul (Number (pos n)) t))
      by true r i = h r i
      by false r i = h r i

  of_plus : (o : Option Expression) (t : Expression) → SoFar o → Only-named t → Only-named (plus_term o t)
  of_plus None t h k r i = k r i
  of_plus (Some e) t h k r i = both (touched_in e) (touched_in t) r (h r) (k r) i

  of_minus : (o : Option Expression) (t : Expression) → SoFar o → Only-named t → Only-named (minus_term o t)
  of_minus None t h k r i = k r i
  of_minus (Some e) t h k r i = both (touched_in e) (touched_in t) r (h r) (k r) i

  of_one : (o : Option Expression) (c : ℤ) (t : Expression) → SoFar o → Only-named t → SoFar (with_term o c t)
  of_one o (pos zero) t h k = h
  of_one o (pos (suc n)) t h k = of_plus o (term (suc n) t) h (of_term (suc n) t k)
  of_one o (negsuc n) t h k = of_minus o (term (suc n) t) h (of_term (suc n) t k)

  of_terms : (o : Option Expression) (cs : List ℤ) (ts : List Expression) → SoFar o → Each Only-named ts
      → SoFar (with_terms o cs ts)
  of_terms o [] ts h k = h
  of_terms o (c ∷ cs) [] h k = h
  of_terms o (c ∷ cs) (t ∷ ts) h k = of_terms (with_term o c t) cs ts (of_one o c t h k.0) k.1

  of_constant : (o : Option Expression) (z : ℤ) → SoFar o → Only-named (with_constant o z)
  of_constant None (pos n) h r i = absurd i
  of_constant None (negsuc n) h r i = absurd i
  of_constant (Some e) (pos zero) h r i = h r i
  of_constant (Some e) (pos (suc n)) h r i = both (touched_in e) [] r (h r) (λ j. absurd j) i
  of_constant (Some e) (negsuc n) h r i = both (touched_in e) [] r (h r) (λ j. absurd j) i

  of_variable : (x : List ℕ) → In x names → Only-named (Named x no_subscripts)
  of_variable x i r (inl e) = subst (λ (q : Reference). In q.name names) (sym e) i
  of_variable x i r (inr j) = absurd j

  of_variables : (xs : List (List ℕ)) → ((x : List ℕ) → In x xs → In x names) → Each Only-named (variables xs)
  of_variables [] f = tt
  of_variables (x ∷ xs) f = (of_variable x (f x (inl refl)), of_variables xs (λ y i. f y (inr i)))

-- ---- canonical text

module _ (loops symbols : List (List ℕ)) where
  abbrev pub rule : Making
  rule = canonising loops symbols

  -- one of these, with its subscripts in canonical text
  pub record IsMadeOf (rs : List Reference) (r : Reference) : Type 0 where
    pub first : Reference
    pub inside : In first rs
    pub name : r.name ≡ first.name
    pub subscripts : r.subscripts ≡ made_subscripts (canonising loops symbols) first.subscripts

  -- or the name of a loop or a symbol
  abbrev pub ComesFrom : List Reference → Reference → Type 0
  ComesFrom rs r = In r.name (loops ++ symbols) ⊎ IsMadeOf rs r

  more : (rs us : List Reference) (r : Reference) → ((x : Reference) → In x rs → In x us) → ComesFrom rs r → ComesFrom us r
  more rs us r f (inl i) = inl i
  more rs us r f (inr h) =
      inr (record { first = h.first; inside = f h.first h.inside; name = h.name; subscripts = h.subscripts })

  -- in one of two lists of references
  of_two : (xs ys rs us : List Reference) (r : Reference) → (In r xs → ComesFrom rs r) → (In r ys → ComesFrom us r)
      → In r (xs ++ ys) → ComesFrom (rs ++ us) r
  of_two xs ys rs us r f g i = by (In-append r xs ys i)
    where
      by : In r xs ⊎ In r ys → ComesFrom (rs ++ us) r
      by (inl j) = more rs (rs ++ us) r (λ x k. In-left x rs us k) (f j)
      by (inr j) = more us (rs ++ us) r (λ x k. In-right x rs us k) (g j)

  of_node : (whole e : Expression) (rs : List Reference) (r : Reference) → (In r (touched_in e) → ComesFrom rs r)
      → In r (touched_in ((canonising loops symbols).expression whole e)) → ComesFrom rs r
  of_node whole e rs r h = chosen (mentions loops whole)
    where
      text : (o : Option Form) → In r (touched_in (text_or loops symbols o e)) → ComesFrom rs r
      text None i = h i
      text (Some f) i =
          inl (of_constant (loops ++ symbols) (with_terms None f.coefficients (variables (loops ++ symbols))) f.constant
          (of_terms (loops ++ symbols) None f.coefficients (variables (loops ++ symbols)) tt
          (of_variables (loops ++ symbols) (loops ++ symbols) (λ x j. j))) r i)

      chosen : (b : Bool) → In r (touched_in (cond b (canonical_text loops symbols e) e)) → ComesFrom rs r
      chosen true i = text (form_of loops symbols e) i
      chosen false i = h i

  of_name : (x : List ℕ) (qs : Subscripts) (r : Reference)
      → (In r (touched_in_subscripts (made_subscripts (canonising loops symbols) qs)) → ComesFrom (touched_in_subscripts qs) r)
      → In r (touched_in (Named x (made_subscripts (canonising loops symbols) qs))) → ComesFrom (touched_in (Named x qs)) r
  of_name x qs r within (inl e) = inr (record {
    first = record { name = x; subscripts = qs };
    inside = inl refl;
    name = ap (λ (q : Reference). q.name) e;
    subscripts = ap (λ (q : Reference). q.subscripts) e;
  })
  of_name x qs r within (inr j) =
      more (touched_in_subscripts qs) (touched_in (Named x qs)) r (λ y k. inr k) (within j)

  mutual
    of_expression : (e : Expression) → IsPlain e → (r : Reference) → In r (touched_in (made (canonising loops symbols) e))
        → ComesFrom (touched_in e) r
    of_expression (Number n) plain r i = of_node (Number n) (Number n) [] r (λ j. absurd j) i
    of_expression (Logic b) plain r i = of_node (Logic b) (Logic b) [] r (λ j. absurd j) i
    of_expression (Named x qs) plain r i =
        of_node (Named x qs) (Named x (made_subscripts (canonising loops symbols) qs)) (touched_in (Named x qs)) r
        (of_name x qs r (of_subscripts qs plain r)) i
    of_expression (Unary o a) plain r i =
        of_node (Unary o a) (Unary o (made (canonising loops symbols) a)) (touched_in a) r
        (λ j. of_expression a plain r j) i
    of_expression (Binary o a b) plain r i =
        of_node (Binary o a b) (Binary o (made (canonising loops symbols) a) (made (canonising loops symbols) b))
        (touched_in a ++ touched_in b) r
        (of_two (touched_in (made (canonising loops symbols) a)) (touched_in (made (canonising loops symbols) b))
        (touched_in a) (touched_in b) r (λ j. of_expression a plain.0 r j) (λ j. of_expression b plain.1 r j)) i
    of_expression (Apply f es) plain r i =
        of_node (Apply f es) (Apply f (made_expressions (canonising loops symbols) es)) (references_in_each es) r
        (λ j. of_each es plain r j) i
    of_expression (Constructor es ls) plain r i = absurd plain
    of_expression (Spread a d n) plain r i = absurd plain
    of_expression (Transpose a) plain r i = absurd plain
    of_expression (Reshape a es) plain r i = absurd plain
    of_expression (Reduce o a) plain r i = absurd plain

    of_each : (es : Expressions) → EachIsPlain es → (r : Reference)
        → In r (references_in_each (made_expressions (canonising loops symbols) es)) → ComesFrom (references_in_each es) r
    of_each no_expressions plain r i = absurd i
    of_each (expression e es) plain r i =
        of_two (touched_in (made (canonising loops symbols) e))
        (references_in_each (made_expressions (canonising loops symbols) es)) (touched_in e) (references_in_each es) r
        (λ j. of_expression e plain.0 r j) (λ j. of_each es plain.1 r j) i

    of_subscripts : (qs : Subscripts) → ArePlain qs → (r : Reference)
        → In r (touched_in_subscripts (made_subscripts (canonising loops symbols) qs))
        → ComesFrom (touched_in_subscripts qs) r
    of_subscripts no_subscripts plain r i = absurd i
    of_subscripts (subscript (Only e) qs) plain r i =
        of_two (touched_in (made (canonising loops symbols) e))
        (touched_in_subscripts (made_subscripts (canonising loops symbols) qs)) (touched_in e)
        (touched_in_subscripts qs) r (λ j. of_expression e plain.0 r j) (λ j. of_subscripts qs plain.1 r j) i
    of_subscripts (subscript (Section a b c) qs) plain r i = absurd plain.0

  of_guard : (o : Option Expression) → IsPlainGuard o → (r : Reference)
      → In r (touched_in_guard (option_map (made (canonising loops symbols)) o)) → ComesFrom (touched_in_guard o) r
  of_guard None plain r i = absurd i
  of_guard (Some e) plain r i = of_expression e plain r i

  pub of_statement : (g : Guarded) → IsPlainAssignment (assignment g) → (r : Reference)
      → In r (references_touched (rewritten_statement (canonising loops symbols) g)) → ComesFrom (references_touched g) r
  of_statement g plain r (inl e) = inr (record {
    first = g.left;
    inside = inl refl;
    name = ap (λ (q : Reference). q.name) e;
    subscripts = ap (λ (q : Reference). q.subscripts) e;
  })
  of_statement g plain r (inr i) =
      more (touched_in_guard g.guard ++ (touched_in_subscripts g.left.subscripts ++ touched_in g.right))
      (references_touched g) r (λ x k. inr k)
      (of_two (touched_in_guard (option_map (made (canonising loops symbols)) g.guard))
      (touched_in_subscripts (made_subscripts (canonising loops symbols) g.left.subscripts)
      ++ touched_in (made (canonising loops symbols) g.right))
      (touched_in_guard g.guard) (touched_in_subscripts g.left.subscripts ++ touched_in g.right) r
      (of_guard g.guard plain.0 r)
      (of_two (touched_in_subscripts (made_subscripts (canonising loops symbols) g.left.subscripts))
      (touched_in (made (canonising loops symbols) g.right)) (touched_in_subscripts g.left.subscripts)
      (touched_in g.right) r (of_subscripts g.left.subscripts plain.2 r) (of_expression g.right plain.1 r)) i)

  -- ---- a name alone is canonical text

  unit_text : (ys : List (List ℕ)) (x : List ℕ) (cs : List ℤ) → unit ys x ≡ Some cs
      → with_terms None cs (variables ys) ≡ Some (Named x no_subscripts)
  unit_text [] x cs e = let no : ⊥ = cc in absurd no
  unit_text (y ∷ ys) x cs e = by (bytes_eq y x) refl e (λ ds h. unit_text ys x ds h)
    where
      later : (o : Option (List ℤ)) → unit ys x ≡ o → with_zero o ≡ Some cs
          → ((ds : List ℤ) → unit ys x ≡ Some ds → with_terms None ds (variables ys) ≡ Some (Named x no_subscripts))
          → with_terms None cs (variables (y ∷ ys)) ≡ Some (Named x no_subscripts)
      later None h k more = let no : ⊥ = cc in absurd no
      later (Some ds) h k more =
          let same : pos 0 ∷ ds ≡ cs = cc in
          subst (λ zs. with_terms None zs (variables (y ∷ ys)) ≡ Some (Named x no_subscripts)) same (more ds h)

      by : (b : Bool) → bytes_eq y x ≡ b → cond b (Some (pos 1 ∷ [])) (with_zero (unit ys x)) ≡ Some cs
          → ((ds : List ℤ) → unit ys x ≡ Some ds → with_terms None ds (variables ys) ≡ Some (Named x no_subscripts))
          → with_terms None cs (variables (y ∷ ys)) ≡ Some (Named x no_subscripts)
      by true f g more =
          let same : pos 1 ∷ [] ≡ cs = cc in
          subst (λ zs. with_terms None zs (variables (y ∷ ys)) ≡ Some (Named x no_subscripts)) same
          (ap (λ z. Some (Named z no_subscripts)) ((bytes_eq-Decides y x).0 f))
      by false f g more = later (unit ys x) refl g more

  form_text : (x : List ℕ) (o : Option (List ℤ)) → unit (loops ++ symbols) x ≡ o
      → text_or loops symbols (limited (length loops) (with_no_constant o)) (Named x no_subscripts) ≡ Named x no_subscripts
  form_text x None e = refl
  form_text x (Some cs) e = by (is_limited (length loops) (record { coefficients = cs; constant = pos 0 }))
    where
      by : (b : Bool)
          → text_or loops symbols (cond b (Some (record { coefficients = cs; constant = pos 0 })) None) (Named x no_subscripts)
          ≡ Named x no_subscripts
      by true = ap (λ o. with_constant o (pos 0)) (unit_text (loops ++ symbols) x cs e)
      by false = refl

  name_text : (x : List ℕ) → canonical_text loops symbols (Named x no_subscripts) ≡ Named x no_subscripts
  name_text x = by (nat_le (length loops) nest_depth)
    where
      by : (b : Bool)
          → text_or loops symbols (cond b (linear (length loops) (loops ++ symbols) (Named x no_subscripts)) None)
          (Named x no_subscripts)
          ≡ Named x no_subscripts
      by true = form_text x (unit (loops ++ symbols) x) refl
      by false = refl

  name_stays : (x : List ℕ) → made (canonising loops symbols) (Named x no_subscripts) ≡ Named x no_subscripts
  name_stays x = by (mentions loops (Named x no_subscripts))
    where
      by : (b : Bool) → cond b (canonical_text loops symbols (Named x no_subscripts)) (Named x no_subscripts) ≡ Named x no_subscripts
      by true = name_text x
      by false = refl

  stay_onto : (ls : List RoundLoop) (ss : List Subscript)
      → made_subscripts (canonising loops symbols) (subscripts ss) ≡ subscripts ss
      → made_subscripts (canonising loops symbols) (subscripts (reverse_aux (map loop_subscript ls) ss))
      ≡ subscripts (reverse_aux (map loop_subscript ls) ss)
  stay_onto [] ss e = e
  stay_onto (l ∷ ls) ss e =
      stay_onto ls (loop_subscript l ∷ ss)
      (ap (λ z. subscript (Only z) (made_subscripts (canonising loops symbols) (subscripts ss))) (name_stays l.variable)
      ∙ ap (subscript (loop_subscript l)) e)

  -- so the subscripts of elements stay
  pub subscripts_stay : (ls : List RoundLoop)
      → made_subscripts (canonising loops symbols) (subscripts (reverse (map loop_subscript ls)))
      ≡ subscripts (reverse (map loop_subscript ls))
  subscripts_stay ls = stay_onto ls [] refl
