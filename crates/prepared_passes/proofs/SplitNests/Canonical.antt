-- The references of canonical text are those of the text, with their subscripts in canonical text.
use Rattle.std.proofs.Common.{◌≡◌, ◌⊎◌, inl, inr, refl, sym, ap, ◌∙◌, subst, ℕ, zero, suc, ℤ, pos, negsuc, ◌+ℤ◌, ◌*ℤ◌, Bool, true, false}
use Rattle.std.proofs.Common.{cond, List, [], ◌∷◌, ◌++◌, map, reverse, length, Option, Some, None}
use Rattle.std.proofs.Math.IntN.{*ℤ-zero}
use Rattle.std.specs.Option.{option_map}
use Rattle.std.specs.Prelude.{◌==◌, nat_le}
use Rattle.std.specs.Str.{bytes_eq}
use Rattle.std.proofs.lemmas.Slice.Eq.{bytes_eq-Decides}
use mathlib.Core.List.{reverse_aux}
use Rattle.prepared_passes.specs.expansion.Left.{references_touched}
use Rattle.last_values.specs.Scalars.{scalar}
use Rattle.linear_forms.specs.Canonical.{canonical_text, canonising, text_or}
use Rattle.linear_forms.specs.Expressed.{minus_term, plus_term, term, variables, with_constant, with_term, with_terms}
use Rattle.linear_forms.specs.Linear.{Form, added, constant_of, constant_or, form_of_pair, form_of_product, form_of_sign, form_of_two, is_limited, limited, linear, multiple, unit, with_no_constant, with_zero}
use Rattle.nest.specs.Plain.{Guarded}
use Rattle.nest_order.proofs.orders.Lists.{In-append, In-left, In-right}
use Rattle.nest_order.specs.orders.Lists.{In}
use Rattle.nest_order.specs.runs.Touched.{touched_in}
use Rattle.nest_order.specs.runs.Touched.{references_in_each, touched_in_guard, touched_in_subscripts}
use Rattle.nest_rewrite.specs.Statements.{rewritten_statement}
use Rattle.rewrite.specs.Making.{made, made_expressions, made_loops, made_subscripts}
use Rattle.rewrite.specs.Names.{mentions}
use Rattle.tree.specs.Limits.{nest_depth}
use Rattle.tree.specs.Plain.{Apply, Binary, Constructor, Expression, Expressions, Logic, Named, Number, Only, Reduce, Reference}
use Rattle.tree.specs.Plain.{Reshape, Section, Spread, Subscript, Subscripts, Transpose, Unary, expression, no_expressions}
use Rattle.tree.specs.Plain.{no_subscripts, subscript, subscripts}
use Rattle.tree.specs.declared.ops.Op.{Op}
use Rattle.tree.specs.declared.ops.Op.TheVariants.{Pow, Mul, Div, Neg, Add, Sub, Lt, Le, Eq, Ne, Gt, Ge, Not, And, Or, Eqv, Neqv}
use Rattle.node_splitting.specs.Arrays.{variable_subscript}

-- ---- a form has coefficients for names that stand in the expression

module _ (rs : List Reference) where
  -- the coefficient is 0, or the name stands there
  abbrev Stand : List ℤ → List (List ℕ) → Type 0
  Stand [] ys = Unit {0}
  Stand (c ∷ cs) [] = Unit {0}
  Stand (c ∷ cs) (y ∷ ys) = ((c ≡ pos 0) ⊎ In (scalar y) rs) × Stand cs ys

  abbrev FormStands : List (List ℕ) → Option Form → Type 0
  FormStands ys None = Unit {0}
  FormStands ys (Some f) = Stand f.coefficients ys

  abbrev UnitStands : List (List ℕ) → Option (List ℤ) → Type 0
  UnitStands ys None = Unit {0}
  UnitStands ys (Some cs) = Stand cs ys

  both_stand : (c d : ℤ) (y : List ℕ) → (c ≡ pos 0) ⊎ In (scalar y) rs → (d ≡ pos 0) ⊎ In (scalar y) rs → (c +ℤ d ≡ pos 0) ⊎ In (scalar y) rs
  both_stand c d y (inl e) (inl f) = inl (ap (λ z. z +ℤ d) e ∙ ap (λ z. pos 0 +ℤ z) f)
  both_stand c d y (inl e) (inr i) = inr i
  both_stand c d y (inr i) h = inr i

  added_stand : (cs ds : List ℤ) (ys : List (List ℕ)) → Stand cs ys → Stand ds ys → Stand (added cs ds) ys
  added_stand [] ds ys h k = k
  added_stand (c ∷ cs) [] ys h k = h
  added_stand (c ∷ cs) (d ∷ ds) [] h k = tt
  added_stand (c ∷ cs) (d ∷ ds) (y ∷ ys) h k = (both_stand c d y h.0 k.0, added_stand cs ds ys h.1 k.1)

  multiple_stand : (n : ℤ) (cs : List ℤ) (ys : List (List ℕ)) → Stand cs ys → Stand (map (λ a. n *ℤ a) cs) ys
  multiple_stand n [] ys h = tt
  multiple_stand n (c ∷ cs) [] h = tt
  multiple_stand n (c ∷ cs) (y ∷ ys) h = (by h.0, multiple_stand n cs ys h.1)
    where
      by : (c ≡ pos 0) ⊎ In (scalar y) rs → (n *ℤ c ≡ pos 0) ⊎ In (scalar y) rs
      by (inl e) = inl (ap (λ z. n *ℤ z) e ∙ *ℤ-zero n)
      by (inr i) = inr i

  unit_stands : (ys : List (List ℕ)) (x : List ℕ) → In (scalar x) rs → UnitStands ys (unit ys x)
  unit_stands [] x i = tt
  unit_stands (y ∷ ys) x i = by (bytes_eq y x) refl (unit ys x) (unit_stands ys x i)
    where
      by : (b : Bool) → bytes_eq y x ≡ b → (o : Option (List ℤ)) → UnitStands ys o → UnitStands (y ∷ ys) (cond b (Some (pos 1 ∷ [])) (with_zero o))
      by true e o h = (inr (subst (λ z. In (scalar z) rs) (sym ((bytes_eq-Decides y x).0 e)) i), tt)
      by false e None h = tt
      by false e (Some cs) h = (inl refl, h)

  limited_stands : (n : ℕ) (ys : List (List ℕ)) (o : Option Form) → FormStands ys o → FormStands ys (limited n o)
  limited_stands n ys None h = tt
  limited_stands n ys (Some f) h = by (is_limited n f)
    where
      by : (b : Bool) → FormStands ys (cond b (Some f) None)
      by true = h
      by false = tt

  constant_stands : (ys : List (List ℕ)) (c : Option ℤ) (o : Option Form) → FormStands ys o → FormStands ys (constant_or c o)
  constant_stands ys None o h = h
  constant_stands ys (Some z) o h = tt

  name_stands : (ys : List (List ℕ)) (o : Option (List ℤ)) → UnitStands ys o → FormStands ys (with_no_constant o)
  name_stands ys None h = tt
  name_stands ys (Some cs) h = h

  product_stands : (ys : List (List ℕ)) (k l : Option ℤ) (f g : Form) → Stand f.coefficients ys → Stand g.coefficients ys → FormStands ys (form_of_product k l f g)
  product_stands ys (Some k) l f g h i = multiple_stand k g.coefficients ys i
  product_stands ys None (Some l) f g h i = multiple_stand l f.coefficients ys h
  product_stands ys None None f g h i = tt

  two_stand : (ys : List (List ℕ)) (o : Op) (k l : Option ℤ) (f g : Form) → Stand f.coefficients ys → Stand g.coefficients ys → FormStands ys (form_of_two o k l f g)
  two_stand ys Add k l f g h i = added_stand f.coefficients g.coefficients ys h i
  two_stand ys Sub k l f g h i = added_stand f.coefficients (multiple (negsuc 0) g).coefficients ys h (multiple_stand (negsuc 0) g.coefficients ys i)
  two_stand ys Mul k l f g h i = product_stands ys k l f g h i
  two_stand ys Pow k l f g h i = tt
  two_stand ys Div k l f g h i = tt
  two_stand ys Neg k l f g h i = tt
  two_stand ys Lt k l f g h i = tt
  two_stand ys Le k l f g h i = tt
  two_stand ys Eq k l f g h i = tt
  two_stand ys Ne k l f g h i = tt
  two_stand ys Gt k l f g h i = tt
  two_stand ys Ge k l f g h i = tt
  two_stand ys Not k l f g h i = tt
  two_stand ys And k l f g h i = tt
  two_stand ys Or k l f g h i = tt
  two_stand ys Eqv k l f g h i = tt
  two_stand ys Neqv k l f g h i = tt

  pair_stands : (ys : List (List ℕ)) (o : Op) (k l : Option ℤ) (f g : Option Form) → FormStands ys f → FormStands ys g → FormStands ys (form_of_pair o k l f g)
  pair_stands ys o k l (Some f) (Some g) h i = two_stand ys o k l f g h i
  pair_stands ys o k l (Some f) None h i = tt
  pair_stands ys o k l None g h i = tt

  sign_stands : (ys : List (List ℕ)) (o : Op) (f : Option Form) → FormStands ys f → FormStands ys (form_of_sign o f)
  sign_stands ys Neg None h = tt
  sign_stands ys Neg (Some f) h = multiple_stand (negsuc 0) f.coefficients ys h
  sign_stands ys Pow f h = tt
  sign_stands ys Mul f h = tt
  sign_stands ys Div f h = tt
  sign_stands ys Add f h = tt
  sign_stands ys Sub f h = tt
  sign_stands ys Lt f h = tt
  sign_stands ys Le f h = tt
  sign_stands ys Eq f h = tt
  sign_stands ys Ne f h = tt
  sign_stands ys Gt f h = tt
  sign_stands ys Ge f h = tt
  sign_stands ys Not f h = tt
  sign_stands ys And f h = tt
  sign_stands ys Or f h = tt
  sign_stands ys Eqv f h = tt
  sign_stands ys Neqv f h = tt

  linear_stands : (n : ℕ) (ys : List (List ℕ)) (e : Expression) → ((r : Reference) → In r (touched_in e) → In r rs) → FormStands ys (linear n ys e)
  linear_stands n ys (Number k) f = limited_stands n ys (constant_or (constant_of (Number k)) None) (constant_stands ys (constant_of (Number k)) None tt)
  linear_stands n ys (Logic b) f = tt
  linear_stands n ys (Named x no_subscripts) f = limited_stands n ys (with_no_constant (unit ys x)) (name_stands ys (unit ys x) (unit_stands ys x (f (scalar x) (inl refl))))
  linear_stands n ys (Named x (subscript q qs)) f = tt
  linear_stands n ys (Unary o a) f =
      limited_stands n ys (constant_or (constant_of (Unary o a)) (form_of_sign o (linear n ys a)))
      (constant_stands ys (constant_of (Unary o a)) (form_of_sign o (linear n ys a)) (sign_stands ys o (linear n ys a) (linear_stands n ys a f)))
  linear_stands n ys (Binary o a b) f =
      limited_stands n ys (constant_or (constant_of (Binary o a b)) (form_of_pair o (constant_of a) (constant_of b) (linear n ys a) (linear n ys b)))
      (constant_stands ys (constant_of (Binary o a b)) (form_of_pair o (constant_of a) (constant_of b) (linear n ys a) (linear n ys b))
      (pair_stands ys o (constant_of a) (constant_of b) (linear n ys a) (linear n ys b)
      (linear_stands n ys a (λ r i. f r (In-left r (touched_in a) (touched_in b) i)))
      (linear_stands n ys b (λ r i. f r (In-right r (touched_in a) (touched_in b) i)))))
  linear_stands n ys (Apply g es) f = limited_stands n ys (constant_or (constant_of (Apply g es)) None) (constant_stands ys (constant_of (Apply g es)) None tt)
  linear_stands n ys (Constructor es ls) f = tt
  linear_stands n ys (Spread a d e) f = tt
  linear_stands n ys (Transpose a) f = tt
  linear_stands n ys (Reshape a es) f = tt
  linear_stands n ys (Reduce o a) f = tt

  -- ---- so has its text

  abbrev Only-there : Expression → Type 0
  Only-there e = (r : Reference) → In r (touched_in e) → In r rs

  abbrev SoFar : Option Expression → Type 0
  SoFar None = Unit {0}
  SoFar (Some e) = Only-there e

  both : (xs ys : List Reference) (r : Reference) → (In r xs → In r rs) → (In r ys → In r rs) → In r (xs ++ ys) → In r rs
  both xs ys r f g i = by (In-append r xs ys i)
    where
      by : In r xs ⊎ In r ys → In r rs
      by (inl j) = f j
      by (inr j) = g j

  of_term : (n : ℕ) (t : Expression) → Only-there t → Only-there (term n t)
  of_term n t h = by (n == 1)
    where
      by : (b : Bool) → Only-there (cond b t (Binary Mul (Number (pos n)) t))
      by true r i = h r i
      by false r i = h r i

  of_plus : (o : Option Expression) (t : Expression) → SoFar o → Only-there t → Only-there (plus_term o t)
  of_plus None t h k r i = k r i
  of_plus (Some e) t h k r i = both (touched_in e) (touched_in t) r (h r) (k r) i

  of_minus : (o : Option Expression) (t : Expression) → SoFar o → Only-there t → Only-there (minus_term o t)
  of_minus None t h k r i = k r i
  of_minus (Some e) t h k r i = both (touched_in e) (touched_in t) r (h r) (k r) i

  of_variable : (x : List ℕ) → In (scalar x) rs → Only-there (Named x no_subscripts)
  of_variable x i r (inl e) = subst (λ (q : Reference). In q rs) (sym e) i
  of_variable x i r (inr j) = absurd j

  of_one : (o : Option Expression) (c : ℤ) (y : List ℕ) → SoFar o → (c ≡ pos 0) ⊎ In (scalar y) rs → SoFar (with_term o c (Named y no_subscripts))
  of_one o (pos zero) y h k = h
  of_one o (pos (suc n)) y h (inl e) = absurd (let no : ⊥ = cc in no)
  of_one o (pos (suc n)) y h (inr i) = of_plus o (term (suc n) (Named y no_subscripts)) h (of_term (suc n) (Named y no_subscripts) (of_variable y i))
  of_one o (negsuc n) y h (inl e) = absurd (let no : ⊥ = cc in no)
  of_one o (negsuc n) y h (inr i) = of_minus o (term (suc n) (Named y no_subscripts)) h (of_term (suc n) (Named y no_subscripts) (of_variable y i))

  of_terms : (o : Option Expression) (cs : List ℤ) (ys : List (List ℕ)) → SoFar o → Stand cs ys → SoFar (with_terms o cs (variables ys))
  of_terms o [] ys h k = h
  of_terms o (c ∷ cs) [] h k = h
  of_terms o (c ∷ cs) (y ∷ ys) h k = of_terms (with_term o c (Named y no_subscripts)) cs ys (of_one o c y h k.0) k.1

  of_constant : (o : Option Expression) (z : ℤ) → SoFar o → Only-there (with_constant o z)
  of_constant None (pos n) h r i = absurd i
  of_constant None (negsuc n) h r i = absurd i
  of_constant (Some e) (pos zero) h r i = h r i
  of_constant (Some e) (pos (suc n)) h r i = both (touched_in e) [] r (h r) (λ j. absurd j) i
  of_constant (Some e) (negsuc n) h r i = both (touched_in e) [] r (h r) (λ j. absurd j) i

-- ---- canonical text

module _ (loops symbols : List (List ℕ)) where
  -- one of these, with its subscripts in canonical text
  pub record IsMadeOf (rs : List Reference) (r : Reference) : Type 0 where
    pub first : Reference
    pub inside : In first rs
    pub name : r.name ≡ first.name
    pub subscripts : r.subscripts ≡ made_subscripts (canonising loops symbols) first.subscripts

  more : (rs us : List Reference) (r : Reference) → ((x : Reference) → In x rs → In x us) → IsMadeOf rs r → IsMadeOf us r
  more rs us r f h = record { first = h.first; inside = f h.first h.inside; name = h.name; subscripts = h.subscripts }

  -- in one of two lists of references
  of_two : (xs ys rs us : List Reference) (r : Reference) → (In r xs → IsMadeOf rs r) → (In r ys → IsMadeOf us r)
      → In r (xs ++ ys) → IsMadeOf (rs ++ us) r
  of_two xs ys rs us r f g i = by (In-append r xs ys i)
    where
      by : In r xs ⊎ In r ys → IsMadeOf (rs ++ us) r
      by (inl j) = more rs (rs ++ us) r (λ x k. In-left x rs us k) (f j)
      by (inr j) = more us (rs ++ us) r (λ x k. In-right x rs us k) (g j)

  text_stands : (e : Expression) (r : Reference) → In r (touched_in (canonical_text loops symbols e)) → In r (touched_in e)
  text_stands e r = by (nat_le (length loops) nest_depth)
    where
      text : (o : Option Form) → FormStands (touched_in e) (loops ++ symbols) o → In r (touched_in (text_or loops symbols o e)) → In r (touched_in e)
      text None h i = i
      text (Some f) h i =
          of_constant (touched_in e) (with_terms None f.coefficients (variables (loops ++ symbols))) f.constant
          (of_terms (touched_in e) None f.coefficients (loops ++ symbols) tt h) r i

      by : (b : Bool) → In r (touched_in (text_or loops symbols (cond b (linear (length loops) (loops ++ symbols) e) None) e)) → In r (touched_in e)
      by true i = text (linear (length loops) (loops ++ symbols) e) (linear_stands (touched_in e) (length loops) (loops ++ symbols) e (λ q j. j)) i
      by false i = i

  of_node : (whole e : Expression) (rs : List Reference) (r : Reference) → (In r (touched_in e) → IsMadeOf rs r)
      → In r (touched_in ((canonising loops symbols).expression whole e)) → IsMadeOf rs r
  of_node whole e rs r h = chosen (mentions loops whole)
    where
      chosen : (b : Bool) → In r (touched_in (cond b (canonical_text loops symbols e) e)) → IsMadeOf rs r
      chosen true i = h (text_stands e r i)
      chosen false i = h i

  of_name : (x : List ℕ) (qs : Subscripts) (r : Reference)
      → (In r (touched_in_subscripts (made_subscripts (canonising loops symbols) qs)) → IsMadeOf (touched_in_subscripts qs) r)
      → In r (touched_in (Named x (made_subscripts (canonising loops symbols) qs))) → IsMadeOf (touched_in (Named x qs)) r
  of_name x qs r within (inl e) = (record {
    first = record { name = x; subscripts = qs };
    inside = inl refl;
    name = ap (λ (q : Reference). q.name) e;
    subscripts = ap (λ (q : Reference). q.subscripts) e;
  })
  of_name x qs r within (inr j) =
      more (touched_in_subscripts qs) (touched_in (Named x qs)) r (λ y k. inr k) (within j)

  mutual
    of_expression : (e : Expression) → (r : Reference) → In r (touched_in (made (canonising loops symbols) e))
        → IsMadeOf (touched_in e) r
    of_expression (Number n) r i = of_node (Number n) (Number n) [] r (λ j. absurd j) i
    of_expression (Logic b) r i = of_node (Logic b) (Logic b) [] r (λ j. absurd j) i
    of_expression (Named x qs) r i =
        of_node (Named x qs) (Named x (made_subscripts (canonising loops symbols) qs)) (touched_in (Named x qs)) r
        (of_name x qs r (of_subscripts qs r)) i
    of_expression (Unary o a) r i =
        of_node (Unary o a) (Unary o (made (canonising loops symbols) a)) (touched_in a) r
        (λ j. of_expression a r j) i
    of_expression (Binary o a b) r i =
        of_node (Binary o a b) (Binary o (made (canonising loops symbols) a) (made (canonising loops symbols) b))
        (touched_in a ++ touched_in b) r
        (of_two (touched_in (made (canonising loops symbols) a)) (touched_in (made (canonising loops symbols) b))
        (touched_in a) (touched_in b) r (λ j. of_expression a r j) (λ j. of_expression b r j)) i
    of_expression (Apply f es) r i =
        of_node (Apply f es) (Apply f (made_expressions (canonising loops symbols) es)) (references_in_each es) r
        (λ j. of_each es r j) i
    of_expression (Constructor es ls) r i = of_node (Constructor es ls) (Constructor (made_expressions (canonising loops symbols) es) (made_loops (canonising loops symbols) ls)) [] r (λ j. absurd j) i
    of_expression (Spread a d n) r i = of_node (Spread a d n) (Spread (made (canonising loops symbols) a) d (made (canonising loops symbols) n)) [] r (λ j. absurd j) i
    of_expression (Transpose a) r i = of_node (Transpose a) (Transpose (made (canonising loops symbols) a)) [] r (λ j. absurd j) i
    of_expression (Reshape a es) r i = of_node (Reshape a es) (Reshape (made (canonising loops symbols) a) (made_expressions (canonising loops symbols) es)) [] r (λ j. absurd j) i
    of_expression (Reduce o a) r i = of_node (Reduce o a) (Reduce o (made (canonising loops symbols) a)) [] r (λ j. absurd j) i

    of_each : (es : Expressions) → (r : Reference)
        → In r (references_in_each (made_expressions (canonising loops symbols) es)) → IsMadeOf (references_in_each es) r
    of_each no_expressions r i = absurd i
    of_each (expression e es) r i =
        of_two (touched_in (made (canonising loops symbols) e))
        (references_in_each (made_expressions (canonising loops symbols) es)) (touched_in e) (references_in_each es) r
        (λ j. of_expression e r j) (λ j. of_each es r j) i

    of_subscripts : (qs : Subscripts) → (r : Reference)
        → In r (touched_in_subscripts (made_subscripts (canonising loops symbols) qs))
        → IsMadeOf (touched_in_subscripts qs) r
    of_subscripts no_subscripts r i = absurd i
    of_subscripts (subscript (Only e) qs) r i =
        of_two (touched_in (made (canonising loops symbols) e))
        (touched_in_subscripts (made_subscripts (canonising loops symbols) qs)) (touched_in e)
        (touched_in_subscripts qs) r (λ j. of_expression e r j) (λ j. of_subscripts qs r j) i
    of_subscripts (subscript (Section a b c) qs) r i = of_subscripts qs r i

  of_guard : (o : Option Expression) → (r : Reference)
      → In r (touched_in_guard (option_map (made (canonising loops symbols)) o)) → IsMadeOf (touched_in_guard o) r
  of_guard None r i = absurd i
  of_guard (Some e) r i = of_expression e r i

  pub of_statement : (g : Guarded) → (r : Reference)
      → In r (references_touched (rewritten_statement (canonising loops symbols) g)) → IsMadeOf (references_touched g) r
  of_statement g r (inl e) = (record {
    first = g.left;
    inside = inl refl;
    name = ap (λ (q : Reference). q.name) e;
    subscripts = ap (λ (q : Reference). q.subscripts) e;
  })
  of_statement g r (inr i) =
      more (touched_in_guard g.guard ++ (touched_in_subscripts g.left.subscripts ++ touched_in g.right))
      (references_touched g) r (λ x k. inr k)
      (of_two (touched_in_guard (option_map (made (canonising loops symbols)) g.guard))
      (touched_in_subscripts (made_subscripts (canonising loops symbols) g.left.subscripts)
      ++ touched_in (made (canonising loops symbols) g.right))
      (touched_in_guard g.guard) (touched_in_subscripts g.left.subscripts ++ touched_in g.right) r
      (of_guard g.guard r)
      (of_two (touched_in_subscripts (made_subscripts (canonising loops symbols) g.left.subscripts))
      (touched_in (made (canonising loops symbols) g.right)) (touched_in_subscripts g.left.subscripts)
      (touched_in g.right) r (of_subscripts g.left.subscripts r) (of_expression g.right r)) i)

  -- ---- a name alone is canonical text

  unit_text : (ys : List (List ℕ)) (x : List ℕ) (cs : List ℤ) → unit ys x ≡ Some cs
      → with_terms None cs (variables ys) ≡ Some (Named x no_subscripts)
  unit_text [] x cs e = let no : ⊥ = cc in absurd no
  unit_text (y ∷ ys) x cs e = by (bytes_eq y x) refl e (λ ds h. unit_text ys x ds h)
    where
      later : (o : Option (List ℤ)) → unit ys x ≡ o → with_zero o ≡ Some cs
          → ((ds : List ℤ) → unit ys x ≡ Some ds → with_terms None ds (variables ys) ≡ Some (Named x no_subscripts))
          → with_terms None cs (variables (y ∷ ys)) ≡ Some (Named x no_subscripts)
      later None h k more = let no : ⊥ = cc in absurd no
      later (Some ds) h k more =
          let same : pos 0 ∷ ds ≡ cs = cc in
          subst (λ zs. with_terms None zs (variables (y ∷ ys)) ≡ Some (Named x no_subscripts)) same (more ds h)

      by : (b : Bool) → bytes_eq y x ≡ b → cond b (Some (pos 1 ∷ [])) (with_zero (unit ys x)) ≡ Some cs
          → ((ds : List ℤ) → unit ys x ≡ Some ds → with_terms None ds (variables ys) ≡ Some (Named x no_subscripts))
          → with_terms None cs (variables (y ∷ ys)) ≡ Some (Named x no_subscripts)
      by true f g more =
          let same : pos 1 ∷ [] ≡ cs = cc in
          subst (λ zs. with_terms None zs (variables (y ∷ ys)) ≡ Some (Named x no_subscripts)) same
          (ap (λ z. Some (Named z no_subscripts)) ((bytes_eq-Decides y x).0 f))
      by false f g more = later (unit ys x) refl g more

  form_text : (x : List ℕ) (o : Option (List ℤ)) → unit (loops ++ symbols) x ≡ o
      → text_or loops symbols (limited (length loops) (with_no_constant o)) (Named x no_subscripts) ≡ Named x no_subscripts
  form_text x None e = refl
  form_text x (Some cs) e = by (is_limited (length loops) (record { coefficients = cs; constant = pos 0 }))
    where
      by : (b : Bool)
          → text_or loops symbols (cond b (Some (record { coefficients = cs; constant = pos 0 })) None) (Named x no_subscripts)
          ≡ Named x no_subscripts
      by true = ap (λ o. with_constant o (pos 0)) (unit_text (loops ++ symbols) x cs e)
      by false = refl

  name_text : (x : List ℕ) → canonical_text loops symbols (Named x no_subscripts) ≡ Named x no_subscripts
  name_text x = by (nat_le (length loops) nest_depth)
    where
      by : (b : Bool)
          → text_or loops symbols (cond b (linear (length loops) (loops ++ symbols) (Named x no_subscripts)) None)
          (Named x no_subscripts)
          ≡ Named x no_subscripts
      by true = form_text x (unit (loops ++ symbols) x) refl
      by false = refl

  pub name_stays : (x : List ℕ) → made (canonising loops symbols) (Named x no_subscripts) ≡ Named x no_subscripts
  name_stays x = by (mentions loops (Named x no_subscripts))
    where
      by : (b : Bool) → cond b (canonical_text loops symbols (Named x no_subscripts)) (Named x no_subscripts) ≡ Named x no_subscripts
      by true = name_text x
      by false = refl

  stay_onto : (vs : List (List ℕ)) (ss : List Subscript)
      → made_subscripts (canonising loops symbols) (subscripts ss) ≡ subscripts ss
      → made_subscripts (canonising loops symbols) (subscripts (reverse_aux (map variable_subscript vs) ss))
      ≡ subscripts (reverse_aux (map variable_subscript vs) ss)
  stay_onto [] ss e = e
  stay_onto (v ∷ vs) ss e =
      stay_onto vs (variable_subscript v ∷ ss)
      (ap (λ z. subscript (Only z) (made_subscripts (canonising loops symbols) (subscripts ss))) (name_stays v)
      ∙ ap (subscript (variable_subscript v)) e)

  -- so the subscripts of elements stay
  pub subscripts_stay : (vs : List (List ℕ))
      → made_subscripts (canonising loops symbols) (subscripts (reverse (map variable_subscript vs)))
      ≡ subscripts (reverse (map variable_subscript vs))
  subscripts_stay vs = stay_onto vs [] refl
