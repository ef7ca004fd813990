-- What canonical text leaves as it is stays so where variables get other names.
use Rattle.std.proofs.Common.{◌≡◌, ◌⊎◌, inl, inr, refl, sym, ap, ap₂, ◌∙◌, subst, ℕ, ℤ, pos, Bool, true, false, cond, List, [], ◌∷◌, ◌++◌, length, Option, Some, None, Result, Ok, Err}
use Rattle.std.specs.Option.{option_map}
use Rattle.std.specs.Str.{bytes_eq}
use Rattle.std.specs.Prelude.{nat_le}
use Rattle.std.proofs.lemmas.Slice.Eq.{bytes_eq-Decides}
use Rattle.components.specs.Lists.{Each}
use Rattle.linear_forms.proofs.CanonicalRule.{name-node}
use Rattle.linear_forms.proofs.Parts.{parted}
use Rattle.linear_forms.specs.Canonical.{canonical_node, canonical_text, canonising, text_or}
use Rattle.linear_forms.specs.Expressed.{expressed, variables}
use Rattle.linear_forms.specs.Linear.{Form, as_constant, constant_of, constant_or, form_of, form_of_pair, form_of_sign, known, limited}
use Rattle.linear_forms.specs.Linear.{linear, no_store, unit, with_no_constant, with_zero}
use Rattle.meaning.specs.Dialect.{fortran77}
use Rattle.tree.specs.declared.width.Width.TheVariants.{Plain}
use Rattle.meaning.specs.Reads.{names_in, names_in_each, names_in_subscript, names_in_subscripts}
use Rattle.meaning.specs.Store.{cell_at}
use Rattle.meaning.specs.Value.{subscript_values, value_of, values_of}
use Rattle.nest_order.proofs.orders.Lists.{In-append, In-left, In-right}
use Rattle.nest_order.specs.orders.Lists.{In}
use Rattle.nest_order.specs.runs.Touched.{ArePlain, EachIsPlain, IsPlain, IsPlainSubscript}
use Rattle.pass_laws.proofs.NormalFacts.CanonicalPlain.{expressed_is}
use Rattle.rewrite.specs.Making.{Making, made, made_expressions, made_subscript, made_subscripts}
use Rattle.rewrite.specs.Names.{mentions}
use Rattle.tree.specs.Operators.{apply, call}
use Rattle.tree.specs.Plain.{Apply, Binary, Constructor, Expression, Expressions, Logic, Named, Number, Only, Reduce}
use Rattle.tree.specs.Plain.{Reshape, Section, Spread, Subscript, Subscripts, Transpose, Unary, expression}
use Rattle.tree.specs.Plain.{no_expressions, no_subscripts, subscript}
use Rattle.tree.specs.Steps.{◌>>=◌}
use Rattle.tree.specs.declared.ops.Fault.{Fault}
use Rattle.tree.specs.declared.ops.Op.{Op}
use Rattle.tree.specs.declared.ops.Op.TheVariants.{Add, And, Div, Eq, Eqv, Ge, Gt, Le, Lt, Mul, Ne, Neg, Neqv, Not, Or, Pow, Sub}
use Rattle.tree.specs.declared.ops.Value.{Value}
use Rattle.scalar_rename.specs.Renamed.{bare_name, named_or}
use Rattle.tree.specs.Widths.{bits_of}

-- each bare name x becomes f x
abbrev pub by_names : (List ℕ → List ℕ) → Making
by_names f = record { expression = λ first e. named_or (option_map f (bare_name e)) e; left = λ l. l }

either_in : (z : List ℕ) (xs ys : List (List ℕ)) (P : Type 0) → (In z xs → P) → (In z ys → P) → In z (xs ++ ys) → P
either_in z xs ys P f g i = by (In-append z xs ys i)
  where
    by : In z xs ⊎ In z ys → P
    by (inl j) = f j
    by (inr j) = g j

-- ---- what has a value though no name has a cell has no names

mutual
  no_names : (e : Expression) (v : Value) (z : List ℕ) → value_of (fortran77 Plain) e no_store ≡ Ok v → In z (names_in e) → ⊥
  no_names (Number n) v z h i = i
  no_names (Logic b) v z h i = i
  no_names (Named x ps) v z h i =
      let p = parted (subscript_values (fortran77 Plain) ps no_store) (λ is. do c ← cell_at x is no_store; Ok (no_store.held c)) v h in
      let e = p.second in cc
  no_names (Unary o a) v z h i = let p = parted (value_of (fortran77 Plain) a no_store) (λ x. apply o x x) v h in no_names a p.part z p.first i
  no_names (Binary o a b) v z h i =
      let p = parted (value_of (fortran77 Plain) a no_store) (λ x. do y ← value_of (fortran77 Plain) b no_store; apply o x y) v h in
      let q = parted (value_of (fortran77 Plain) b no_store) (λ y. apply o p.part y) v p.second in
      either_in z (names_in a) (names_in b) ⊥ (λ j. no_names a p.part z p.first j) (λ j. no_names b q.part z q.first j) i
  no_names (Apply f es) v z h i = let p = parted (values_of (fortran77 Plain) es no_store) (λ xs. call f xs) v h in no_names_each es p.part z p.first i
  no_names (Constructor es ls) v z h i = cc
  no_names (Spread a k b) v z h i = cc
  no_names (Transpose a) v z h i = cc
  no_names (Reshape a es) v z h i = cc
  no_names (Reduce r a) v z h i = cc

  no_names_each : (es : Expressions) (vs : List Value) (z : List ℕ) → values_of (fortran77 Plain) es no_store ≡ Ok vs → In z (names_in_each es) → ⊥
  no_names_each no_expressions vs z h i = i
  no_names_each (expression e es) vs z h i =
      let p = parted (value_of (fortran77 Plain) e no_store) (λ x. do xs ← values_of (fortran77 Plain) es no_store; Ok (x ∷ xs)) vs h in
      let q = parted (values_of (fortran77 Plain) es no_store) (λ xs. Ok (p.part ∷ xs)) vs p.second in
      either_in z (names_in e) (names_in_each es) ⊥ (λ j. no_names e p.part z p.first j) (λ j. no_names_each es q.part z q.first j) i

no_constant : (e : Expression) (z : List ℕ) → In z (names_in e) → constant_of e ≡ None
no_constant e z i = by (value_of (fortran77 Plain) e no_store) refl
  where
    by : (r : Result Value Fault) → value_of (fortran77 Plain) e no_store ≡ r → as_constant (known r) ≡ None
    by (Ok v) h = absurd (no_names e v z h i)
    by (Err f) h = refl

sign_none : (o : Op) → form_of_sign o None ≡ None
sign_none Pow = refl
sign_none Mul = refl
sign_none Div = refl
sign_none Neg = refl
sign_none Add = refl
sign_none Sub = refl
sign_none Lt = refl
sign_none Le = refl
sign_none Eq = refl
sign_none Ne = refl
sign_none Gt = refl
sign_none Ge = refl
sign_none Not = refl
sign_none And = refl
sign_none Or = refl
sign_none Eqv = refl
sign_none Neqv = refl

pair_none : (o : Op) (k l : Option ℤ) (f : Option Form) → form_of_pair o k l f None ≡ None
pair_none o k l (Some f) = refl
pair_none o k l None = refl

-- ---- a form has no other names than its places

module _ (loops symbols : List (List ℕ)) where
  abbrev names : List (List ℕ)
  names = loops ++ symbols

  abbrev settled : Expression → Expression
  settled = made (canonising loops symbols)

  abbrev settled_each : Expressions → Expressions
  settled_each = made_expressions (canonising loops symbols)

  abbrev settled_subscripts : Subscripts → Subscripts
  settled_subscripts = made_subscripts (canonising loops symbols)

  no_place : (xs : List (List ℕ)) (x : List ℕ) → ¬ In x xs → unit xs x ≡ None
  no_place [] x n = refl
  no_place (y ∷ ys) x n = by (bytes_eq y x) refl (no_place ys x (λ i. n (inr i)))
    where
      by : (b : Bool) → bytes_eq y x ≡ b → unit ys x ≡ None → unit (y ∷ ys) x ≡ None
      by true e r = absurd (n (inl (sym ((bytes_eq-Decides y x).0 e))))
      by false e r = ap (λ b. cond b (Some (pos 1 ∷ [])) (with_zero (unit ys x))) e ∙ ap with_zero r

  linear_none : (e : Expression) → IsPlain e → (z : List ℕ) → In z (names_in e) → ¬ In z names → linear (length loops) names e ≡ None
  linear_none (Number n) p z i non = absurd i
  linear_none (Logic b) p z i non = refl
  linear_none (Named x no_subscripts) p z (inl e) non =
      ap (λ o. limited (length loops) (with_no_constant o)) (no_place names x (λ j. non (subst (λ y. In y names) (sym e) j)))
  linear_none (Named x no_subscripts) p z (inr i) non = absurd i
  linear_none (Named x (subscript s ss)) p z i non = refl
  linear_none (Unary o a) p z i non =
      ap₂ (λ (c : Option ℤ) (f : Option Form). limited (length loops) (constant_or c f)) (no_constant (Unary o a) z i)
      (ap (form_of_sign o) (linear_none a p z i non) ∙ sign_none o)
  linear_none (Binary o a b) p z i non =
      ap₂ (λ (c : Option ℤ) (f : Option Form). limited (length loops) (constant_or c f)) (no_constant (Binary o a b) z i)
      (either_in z (names_in a) (names_in b) (form_of_pair o (constant_of a) (constant_of b) (linear (length loops) names a) (linear (length loops) names b) ≡ None)
      (λ j. ap (λ f. form_of_pair o (constant_of a) (constant_of b) f (linear (length loops) names b)) (linear_none a p.0 z j non))
      (λ j. ap (λ f. form_of_pair o (constant_of a) (constant_of b) (linear (length loops) names a) f) (linear_none b p.1 z j non)
      ∙ pair_none o (constant_of a) (constant_of b) (linear (length loops) names a)) i)
  linear_none (Apply f es) p z i non = ap (λ (c : Option ℤ). limited (length loops) (constant_or c None)) (no_constant (Apply f es) z i)
  linear_none (Constructor es ls) p z i non = absurd p
  linear_none (Spread a k b) p z i non = absurd p
  linear_none (Transpose a) p z i non = absurd p
  linear_none (Reshape a es) p z i non = absurd p
  linear_none (Reduce r a) p z i non = absurd p

  form_none : (e : Expression) → IsPlain e → (z : List ℕ) → In z (names_in e) → ¬ In z names → form_of loops symbols e ≡ None
  form_none e p z i non = by (nat_le (length loops) 7)
    where
      by : (b : Bool) → cond b (linear (length loops) names e) None ≡ None
      by true = linear_none e p z i non
      by false = refl

  -- so a node in which another name stands stays
  stays : (first e : Expression) → IsPlain e → (z : List ℕ) → In z (names_in e) → ¬ In z names → canonical_node loops symbols first e ≡ e
  stays first e p z i non = by (mentions loops first)
    where
      by : (b : Bool) → cond b (canonical_text loops symbols e) e ≡ e
      by true = ap (λ o. text_or loops symbols o e) (form_none e p z i non)
      by false = refl

  variables_named : (xs : List (List ℕ)) → ((x : List ℕ) → In x xs → In x names) → Each (λ (e : Expression). (z : List ℕ) → In z (names_in e) → In z names) (variables xs)
  variables_named [] f = tt
  variables_named (x ∷ xs) f = (λ z i. one z i, variables_named xs (λ y j. f y (inr j)))
    where
      one : (z : List ℕ) → In z (x ∷ []) → In z names
      one z (inl e) = subst (λ y. In y names) (sym e) (f x (inl refl))
      one z (inr i) = absurd i

  text_named : (f : Form) (z : List ℕ) → In z (names_in (expressed (variables names) f)) → In z names
  text_named f =
      expressed_is (λ (e : Expression). (z : List ℕ) → In z (names_in e) → In z names) (λ n z i. absurd i) (λ o e h. h)
      (λ o a b h k z i. either a b h k z (In-append z (names_in a) (names_in b) i)) (variables names) f (variables_named names (λ x i. i))
    where
      either : (a b : Expression) → ((z : List ℕ) → In z (names_in a) → In z names) → ((z : List ℕ) → In z (names_in b) → In z names) → (z : List ℕ) → In z (names_in a) ⊎ In z (names_in b) → In z names
      either a b h k z (inl j) = h z j
      either a b h k z (inr j) = k z j

  -- an expression that stays, and in which another name stands, was kept as it is: e is what its parts have become
  was_kept : (first whole e : Expression) (z : List ℕ) → In z (names_in whole) → ¬ In z names → canonical_node loops symbols first e ≡ whole → e ≡ whole
  was_kept first whole e z i non h = by (mentions loops first) h
    where
      text : (o : Option Form) → text_or loops symbols o e ≡ whole → e ≡ whole
      text None g = g
      text (Some f) g = absurd (non (text_named f z (subst (λ (w : Expression). In z (names_in w)) (sym g) i)))

      by : (b : Bool) → cond b (canonical_text loops symbols e) e ≡ whole → e ≡ whole
      by true g = text (form_of loops symbols e) g
      by false g = g

  -- ---- where variables get other names

  module _ (f : List ℕ → List ℕ) (apart : (z : List ℕ) → (f z ≡ z) ⊎ ((¬ In z names) × (¬ In (f z) names))) where
    abbrev new : Expression → Expression
    new = made (by_names f)

    abbrev new_each : Expressions → Expressions
    new_each = made_expressions (by_names f)

    abbrev new_subscripts : Subscripts → Subscripts
    new_subscripts = made_subscripts (by_names f)

    abbrev AreKept : List (List ℕ) → Type 0
    AreKept zs = (z : List ℕ) → In z zs → f z ≡ z

    abbrev IsSomeOf : List (List ℕ) → Type 0
    IsSomeOf zs = (z : List ℕ) × (In z zs) × (¬ In z names)

    decide : (zs : List (List ℕ)) → AreKept zs ⊎ IsSomeOf zs
    decide [] = inl (λ z i. absurd i)
    decide (y ∷ zs) = by (apart y) (decide zs)
      where
        by : (f y ≡ y) ⊎ ((¬ In y names) × (¬ In (f y) names)) → AreKept zs ⊎ IsSomeOf zs → AreKept (y ∷ zs) ⊎ IsSomeOf (y ∷ zs)
        by (inr q) r = inr (y, inl refl, q.0)
        by (inl e) (inr r) = inr (r.0, inr r.1, r.2)
        by (inl e) (inl r) = inl (λ z i. none z i)
          where
            none : (z : List ℕ) → In z (y ∷ zs) → f z ≡ z
            none z (inl g) = ap f g ∙ (e ∙ sym g)
            none z (inr i) = r z i

    -- ---- where no name changes nothing does

    mutual
      pub unchanged : (e : Expression) → IsPlain e → AreKept (names_in e) → new e ≡ e
      unchanged (Number n) p h = refl
      unchanged (Logic b) p h = refl
      unchanged (Named x no_subscripts) p h = ap (λ y. Named y no_subscripts) (h x (inl refl))
      unchanged (Named x (subscript q qs)) p h =
          ap₂ (λ (s : Subscript) (ss : Subscripts). Named x (subscript s ss)) (one_unchanged q p.0 (λ z i. h z (inr (In-left z (names_in_subscript q) (names_in_subscripts qs) i))))
          (unchanged_in qs p.1 (λ z i. h z (inr (In-right z (names_in_subscript q) (names_in_subscripts qs) i))))
      unchanged (Unary o a) p h = ap (Unary o) (unchanged a p h)
      unchanged (Binary o a b) p h =
          ap₂ (Binary o) (unchanged a p.0 (λ z i. h z (In-left z (names_in a) (names_in b) i))) (unchanged b p.1 (λ z i. h z (In-right z (names_in a) (names_in b) i)))
      unchanged (Apply g es) p h = ap (Apply g) (unchanged_each es p h)
      unchanged (Constructor es ls) p h = absurd p
      unchanged (Spread a k b) p h = absurd p
      unchanged (Transpose a) p h = absurd p
      unchanged (Reshape a es) p h = absurd p
      unchanged (Reduce r a) p h = absurd p

      unchanged_each : (es : Expressions) → EachIsPlain es → AreKept (names_in_each es) → new_each es ≡ es
      unchanged_each no_expressions p h = refl
      unchanged_each (expression e es) p h =
          ap₂ expression (unchanged e p.0 (λ z i. h z (In-left z (names_in e) (names_in_each es) i))) (unchanged_each es p.1 (λ z i. h z (In-right z (names_in e) (names_in_each es) i)))

      unchanged_in : (ss : Subscripts) → ArePlain ss → AreKept (names_in_subscripts ss) → new_subscripts ss ≡ ss
      unchanged_in no_subscripts p h = refl
      unchanged_in (subscript q qs) p h =
          ap₂ subscript (one_unchanged q p.0 (λ z i. h z (In-left z (names_in_subscript q) (names_in_subscripts qs) i))) (unchanged_in qs p.1 (λ z i. h z (In-right z (names_in_subscript q) (names_in_subscripts qs) i)))

      one_unchanged : (q : Subscript) → IsPlainSubscript q → AreKept (names_in_subscript q) → made_subscript (by_names f) q ≡ q
      one_unchanged (Only e) p h = ap Only (unchanged e p h)
      one_unchanged (Section a b c) p h = absurd p

    mutual
      pub stays_plain : (e : Expression) → IsPlain e → IsPlain (new e)
      stays_plain (Number n) p = tt
      stays_plain (Logic b) p = tt
      stays_plain (Named x no_subscripts) p = tt
      stays_plain (Named x (subscript q qs)) p = (stays_plain_one q p.0, stays_plain_in qs p.1)
      stays_plain (Unary o a) p = stays_plain a p
      stays_plain (Binary o a b) p = (stays_plain a p.0, stays_plain b p.1)
      stays_plain (Apply g es) p = stays_plain_each es p
      stays_plain (Constructor es ls) p = absurd p
      stays_plain (Spread a k b) p = absurd p
      stays_plain (Transpose a) p = absurd p
      stays_plain (Reshape a es) p = absurd p
      stays_plain (Reduce r a) p = absurd p

      stays_plain_each : (es : Expressions) → EachIsPlain es → EachIsPlain (new_each es)
      stays_plain_each no_expressions p = tt
      stays_plain_each (expression e es) p = (stays_plain e p.0, stays_plain_each es p.1)

      pub stays_plain_in : (ss : Subscripts) → ArePlain ss → ArePlain (new_subscripts ss)
      stays_plain_in no_subscripts p = tt
      stays_plain_in (subscript q qs) p = (stays_plain_one q p.0, stays_plain_in qs p.1)

      stays_plain_one : (q : Subscript) → IsPlainSubscript q → IsPlainSubscript (made_subscript (by_names f) q)
      stays_plain_one (Only e) p = stays_plain e p
      stays_plain_one (Section a b c) p = absurd p

    -- ---- another name stays another one

    abbrev Left : List (List ℕ) → Type 0
    Left zs = (y : List ℕ) × (In y zs) × (¬ In y names)

    first_left : (xs ys : List (List ℕ)) → Left xs → Left (xs ++ ys)
    first_left xs ys h = (h.0, In-left h.0 xs ys h.1, h.2)

    second_left : (xs ys : List (List ℕ)) → Left ys → Left (xs ++ ys)
    second_left xs ys h = (h.0, In-right h.0 xs ys h.1, h.2)

    mutual
      left_in : (e : Expression) → IsPlain e → (z : List ℕ) → In z (names_in e) → ¬ In z names → Left (names_in (new e))
      left_in (Number n) p z i non = absurd i
      left_in (Logic b) p z i non = absurd i
      left_in (Named x no_subscripts) p z (inr i) non = absurd i
      left_in (Named x no_subscripts) p z (inl e) non = (f x, inl refl, other (apart x))
        where
          other : (f x ≡ x) ⊎ ((¬ In x names) × (¬ In (f x) names)) → ¬ In (f x) names
          other (inl g) i = non (subst (λ y. In y names) (g ∙ sym e) i)
          other (inr q) i = q.1 i
      left_in (Named x (subscript q qs)) p z (inl e) non = (z, inl e, non)
      left_in (Named x (subscript q qs)) p z (inr i) non = let r = left_in_subscripts (subscript q qs) p z i non in (r.0, inr r.1, r.2)
      left_in (Unary o a) p z i non = left_in a p z i non
      left_in (Binary o a b) p z i non =
          either_in z (names_in a) (names_in b) (Left (names_in (new a) ++ names_in (new b))) (λ j. first_left (names_in (new a)) (names_in (new b)) (left_in a p.0 z j non))
          (λ j. second_left (names_in (new a)) (names_in (new b)) (left_in b p.1 z j non)) i
      left_in (Apply g es) p z i non = left_in_each es p z i non
      left_in (Constructor es ls) p z i non = absurd p
      left_in (Spread a k b) p z i non = absurd p
      left_in (Transpose a) p z i non = absurd p
      left_in (Reshape a es) p z i non = absurd p
      left_in (Reduce r a) p z i non = absurd p

      left_in_each : (es : Expressions) → EachIsPlain es → (z : List ℕ) → In z (names_in_each es) → ¬ In z names → Left (names_in_each (new_each es))
      left_in_each no_expressions p z i non = absurd i
      left_in_each (expression e es) p z i non =
          either_in z (names_in e) (names_in_each es) (Left (names_in (new e) ++ names_in_each (new_each es))) (λ j. first_left (names_in (new e)) (names_in_each (new_each es)) (left_in e p.0 z j non))
          (λ j. second_left (names_in (new e)) (names_in_each (new_each es)) (left_in_each es p.1 z j non)) i

      left_in_subscripts : (ss : Subscripts) → ArePlain ss → (z : List ℕ) → In z (names_in_subscripts ss) → ¬ In z names → Left (names_in_subscripts (new_subscripts ss))
      left_in_subscripts no_subscripts p z i non = absurd i
      left_in_subscripts (subscript (Only e) qs) p z i non =
          either_in z (names_in e) (names_in_subscripts qs) (Left (names_in (new e) ++ names_in_subscripts (new_subscripts qs)))
          (λ j. first_left (names_in (new e)) (names_in_subscripts (new_subscripts qs)) (left_in e p.0 z j non))
          (λ j. second_left (names_in (new e)) (names_in_subscripts (new_subscripts qs)) (left_in_subscripts qs p.1 z j non)) i
      left_in_subscripts (subscript (Section a b c) qs) p z i non = absurd p.0

    -- ---- what stays as it is

    -- a node in which another name stands
    node_stays : (whole now : Expression) → IsPlain whole → IsSomeOf (names_in whole) → (next : Expression) → new whole ≡ now → settled now ≡ canonical_node loops symbols now next → next ≡ now → settled now ≡ now
    node_stays whole now p some next is node same =
        let left = subst (λ (e : Expression). Left (names_in e)) is (left_in whole p some.0 some.1 some.2) in
        node ∙ (ap (canonical_node loops symbols now) same
        ∙ stays now now (subst IsPlain is (stays_plain whole p)) left.0 left.1 left.2)

    mutual
      pub keeps : (e : Expression) → IsPlain e → settled e ≡ e → settled (new e) ≡ new e
      keeps (Number n) p h = refl
      keeps (Logic b) p h = refl
      keeps (Named x no_subscripts) p h = name-node (bits_of Plain) loops symbols (Named (f x) no_subscripts) (f x) no_subscripts
      keeps (Named x (subscript q qs)) p h =
          let was : Named x (settled_subscripts (subscript q qs)) ≡ Named x (subscript q qs) =
          sym (name-node (bits_of Plain) loops symbols (Named x (subscript q qs)) x (settled_subscripts (subscript q qs))) ∙ h in
          let inner : settled_subscripts (subscript q qs) ≡ subscript q qs = cc in
          name-node (bits_of Plain) loops symbols (Named x (new_subscripts (subscript q qs))) x (settled_subscripts (new_subscripts (subscript q qs)))
          ∙ ap (Named x) (keeps_in (subscript q qs) p inner)
      keeps (Unary o a) p h = by (decide (names_in (Unary o a))) (λ e. keeps a p e)
        where
          by : AreKept (names_in (Unary o a)) ⊎ IsSomeOf (names_in (Unary o a)) → (settled a ≡ a → settled (new a) ≡ new a) → settled (new (Unary o a)) ≡ new (Unary o a)
          by (inl none) f = subst (λ (e : Expression). settled e ≡ e) (sym (unchanged (Unary o a) p none)) h
          by (inr some) f =
              let was : Unary o (settled a) ≡ Unary o a = was_kept (Unary o a) (Unary o a) (Unary o (settled a)) some.0 some.1 some.2 h in
              let inner : settled a ≡ a = cc in
              node_stays (Unary o a) (Unary o (new a)) p some (Unary o (settled (new a))) refl refl (ap (Unary o) (f inner))
      keeps (Binary o a b) p h = by (decide (names_in (Binary o a b))) (λ e. keeps a p.0 e) (λ e. keeps b p.1 e)
        where
          by : AreKept (names_in (Binary o a b)) ⊎ IsSomeOf (names_in (Binary o a b)) → (settled a ≡ a → settled (new a) ≡ new a) → (settled b ≡ b → settled (new b) ≡ new b) → settled (new (Binary o a b)) ≡ new (Binary o a b)
          by (inl none) f g = subst (λ (e : Expression). settled e ≡ e) (sym (unchanged (Binary o a b) p none)) h
          by (inr some) f g =
              let was : Binary o (settled a) (settled b) ≡ Binary o a b = was_kept (Binary o a b) (Binary o a b) (Binary o (settled a) (settled b)) some.0 some.1 some.2 h in
              let first : settled a ≡ a = cc in
              let second : settled b ≡ b = cc in
              node_stays (Binary o a b) (Binary o (new a) (new b)) p some (Binary o (settled (new a)) (settled (new b))) refl refl (ap₂ (Binary o) (f first) (g second))
      keeps (Apply f es) p h = by (decide (names_in (Apply f es))) (λ e. keeps_each es p e)
        where
          by : AreKept (names_in (Apply f es)) ⊎ IsSomeOf (names_in (Apply f es)) → (settled_each es ≡ es → settled_each (new_each es) ≡ new_each es) → settled (new (Apply f es)) ≡ new (Apply f es)
          by (inl none) g = subst (λ (e : Expression). settled e ≡ e) (sym (unchanged (Apply f es) p none)) h
          by (inr some) g =
              let was : Apply f (settled_each es) ≡ Apply f es = was_kept (Apply f es) (Apply f es) (Apply f (settled_each es)) some.0 some.1 some.2 h in
              let inner : settled_each es ≡ es = cc in
              node_stays (Apply f es) (Apply f (new_each es)) p some (Apply f (settled_each (new_each es))) refl refl (ap (Apply f) (g inner))
      keeps (Constructor es ls) p h = absurd p
      keeps (Spread a k b) p h = absurd p
      keeps (Transpose a) p h = absurd p
      keeps (Reshape a es) p h = absurd p
      keeps (Reduce r a) p h = absurd p

      keeps_each : (es : Expressions) → EachIsPlain es → settled_each es ≡ es → settled_each (new_each es) ≡ new_each es
      keeps_each no_expressions p h = refl
      keeps_each (expression e es) p h =
          let first : settled e ≡ e = cc in
          let rest : settled_each es ≡ es = cc in
          ap₂ expression (keeps e p.0 first) (keeps_each es p.1 rest)

      pub keeps_in : (ss : Subscripts) → ArePlain ss → settled_subscripts ss ≡ ss → settled_subscripts (new_subscripts ss) ≡ new_subscripts ss
      keeps_in no_subscripts p h = refl
      keeps_in (subscript (Only e) qs) p h =
          let one : Only (settled e) ≡ Only e = cc in
          let first : settled e ≡ e = cc in
          let rest : settled_subscripts qs ≡ qs = cc in
          ap₂ subscript (ap Only (keeps e p.0 first)) (keeps_in qs p.1 rest)
      keeps_in (subscript (Section a b c) qs) p h = absurd p.0
