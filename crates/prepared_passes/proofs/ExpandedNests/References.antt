-- The references of a statement in which private scalars have become elements, and where each comes from.
use Rattle.std.proofs.Common.{◌≡◌, ◌⊎◌, inl, inr, refl, sym, ap, ◌∙◌, subst, ℕ, List, [], ◌∷◌, ◌++◌, map, Option, Some, None, arith}
use Rattle.std.specs.Option.{IsSomeAnd, option_map}
use mathlib.Core.List.{reverse_aux}
use Rattle.tree.specs.Plain.{Apply, Binary, Constructor, Declaration, Expression, Expressions, Given, Logic, Named, Number, Only, Reduce, Reference, Reshape, Section, Spread, Subscript, Subscripts, Transpose, Unary, expression, no_expressions, no_subscripts, subscript, subscripts}
use Rattle.tree.specs.declared.ops.Kind.{Kind}
use Rattle.tree.specs.declared.ops.Kind.TheVariants.{Integer}
use Rattle.meaning.specs.Typed.{declared, number_of_subscripts, rank_of_extent}
use Rattle.meaning.specs.Typed90.{AreArguments, AreSubscripts, HasKind, SuitsDimensions}
use Rattle.meaning.specs.Value.{named}
use Rattle.nest.specs.Plain.{Guarded}
use Rattle.nest_order.proofs.orders.Lists.{In-append, In-left, In-right}
use Rattle.nest_order.specs.orders.Lists.{In}
use Rattle.nest_order.specs.runs.Touched.{ArePlain, EachIsPlain, IsPlain, IsPlainGuard, touched_in, references_in_each, touched_in_guard, touched_in_subscripts, references_read}
use Rattle.nest_rewrite.specs.Statements.{rewritten_statement}
use Rattle.rewrite.specs.Making.{made, made_expressions, made_left, made_subscripts}
use Rattle.scalar_expand.proofs.Changes.{found}
use Rattle.scalar_expand.specs.Expanded.{as_expression, element, element_or, expanding, named_private, loop_subscript}
use Rattle.scalar_expand.specs.declared.privates.Private.{Private}
use Rattle.scalar_expand.specs.declared.privates.RoundLoop.{RoundLoop}

-- ---- where a reference comes from

-- of these references: r is the element of a private scalar that stands among them
pub record IsElementOf (ps : List Private) (rs : List Reference) (r : Reference) : Type 0 where
  pub scalar : Private
  pub among : In scalar ps
  pub is : r ≡ element scalar
  pub first : Reference
  pub inside : In first rs
  pub name : first.name ≡ scalar.name

-- or the name of one of them, which is no private scalar
pub record IsNamedAs (ps : List Private) (rs : List Reference) (r : Reference) : Type 0 where
  pub first : Reference
  pub inside : In first rs
  pub name : first.name ≡ r.name
  pub other : first.subscripts ≡ no_subscripts → named_private ps r.name ≡ None

-- or the variable of a loop round a private scalar
pub record IsVariableOf (ps : List Private) (r : Reference) : Type 0 where
  pub scalar : Private
  pub among : In scalar ps
  pub loop : RoundLoop
  pub inside : In loop scalar.loops
  pub name : r.name ≡ loop.variable

abbrev pub ComesFrom : List Private → List Reference → Reference → Type 0
ComesFrom ps rs r = IsElementOf ps rs r ⊎ IsNamedAs ps rs r ⊎ IsVariableOf ps r

module _ (ps : List Private) where
  more : (rs us : List Reference) (r : Reference) → ((x : Reference) → In x rs → In x us) → ComesFrom ps rs r → ComesFrom ps us r
  more rs us r f (inl h) = inl (record { scalar = h.scalar; among = h.among; is = h.is; first = h.first; inside = f h.first h.inside; name = h.name })
  more rs us r f (inr (inl h)) = inr (inl (record { first = h.first; inside = f h.first h.inside; name = h.name; other = h.other }))
  more rs us r f (inr (inr h)) = inr (inr h)

  -- ---- elements

  -- the subscripts of an element are the variables of its loops
  pub variables_onto : (ls : List RoundLoop) (ss : List Subscript) (r : Reference) → In r (touched_in_subscripts (subscripts (reverse_aux (map loop_subscript ls) ss)))
      → ((l : RoundLoop) × In l ls × (r.name ≡ l.variable)) ⊎ In r (touched_in_subscripts (subscripts ss))
  variables_onto [] ss r i = inr i
  variables_onto (l ∷ ls) ss r i = by (variables_onto ls (loop_subscript l ∷ ss) r i)
    where
      by : ((k : RoundLoop) × In k ls × (r.name ≡ k.variable)) ⊎ In r (touched_in_subscripts (subscripts (loop_subscript l ∷ ss)))
          → ((k : RoundLoop) × In k (l ∷ ls) × (r.name ≡ k.variable)) ⊎ In r (touched_in_subscripts (subscripts ss))
      by (inl h) = inl (h.0, inr h.1, h.2)
      by (inr (inl e)) = inl (l, inl refl, ap (λ (q : Reference). q.name) e)
      by (inr (inr j)) = inr j

  of_element : (q : Private) → In q ps → (rs : List Reference) (first : Reference) → In first rs → first.name ≡ q.name → (r : Reference)
      → In r (touched_in (as_expression (element q))) → ComesFrom ps rs r
  of_element q among rs first inside name r (inl e) = inl (record { scalar = q; among = among; is = e; first = first; inside = inside; name = name })
  of_element q among rs first inside name r (inr j) = by (variables_onto q.loops [] r j)
    where
      by : ((l : RoundLoop) × In l q.loops × (r.name ≡ l.variable)) ⊎ In r (touched_in_subscripts (subscripts [])) → ComesFrom ps rs r
      by (inl h) = inr (inr (record { scalar = q; among = among; loop = h.0; inside = h.1; name = h.2 }))
      by (inr k) = absurd k

  -- ---- expressions

  either : {A B : Type 0} (rs us : List Reference) (r : Reference) → (A → ComesFrom ps rs r) → (B → ComesFrom ps us r) → A ⊎ B → ComesFrom ps (rs ++ us) r
  either rs us r f g (inl j) = more rs (rs ++ us) r (λ y k. In-left y rs us k) (f j)
  either rs us r f g (inr j) = more us (rs ++ us) r (λ y k. In-right y rs us k) (g j)

  mutual
    pub of_expression : (e : Expression) → IsPlain e → (r : Reference) → In r (touched_in (made (expanding ps) e)) → ComesFrom ps (touched_in e) r
    of_expression (Number n) plain r i = absurd i
    of_expression (Logic b) plain r i = absurd i
    of_expression (Named x no_subscripts) plain r i = by (named_private ps x) refl i
      where
        by : (o : Option Private) → named_private ps x ≡ o → In r (touched_in (as_expression (element_or o (record { name = x; subscripts = no_subscripts })))) → ComesFrom ps (touched_in (Named x no_subscripts)) r
        by None e (inl f) = inr (inl (record {
          first = record { name = x; subscripts = no_subscripts };
          inside = inl refl;
          name = ap (λ (q : Reference). q.name) (sym f);
          other = λ g. ap (λ (q : Reference). named_private ps q.name) f ∙ e;
        }))
        by None e (inr j) = absurd j
        by (Some q) e j = let f = found ps x q e in of_element q f.0 (touched_in (Named x no_subscripts)) (record { name = x; subscripts = no_subscripts }) (inl refl) (sym f.1) r j
    of_expression (Named x (subscript q qs)) plain r (inl f) = inr (inl (record {
      first = record { name = x; subscripts = subscript q qs };
      inside = inl refl;
      name = ap (λ (q : Reference). q.name) (sym f);
      other = λ g. cc;
    }))
    of_expression (Named x (subscript q qs)) plain r (inr j) =
        more (touched_in_subscripts (subscript q qs)) (touched_in (Named x (subscript q qs))) r (λ y k. inr k) (of_subscripts (subscript q qs) plain r j)
    of_expression (Unary o a) plain r i = of_expression a plain r i
    of_expression (Binary o a b) plain r i =
        either (touched_in a) (touched_in b) r (λ j. of_expression a plain.0 r j) (λ j. of_expression b plain.1 r j)
        (In-append r (touched_in (made (expanding ps) a)) (touched_in (made (expanding ps) b)) i)
    of_expression (Apply f es) plain r i = of_each es plain r i
    of_expression (Constructor es ls) plain r i = absurd plain
    of_expression (Spread a d n) plain r i = absurd plain
    of_expression (Transpose a) plain r i = absurd plain
    of_expression (Reshape a es) plain r i = absurd plain
    of_expression (Reduce o a) plain r i = absurd plain

    of_each : (es : Expressions) → EachIsPlain es → (r : Reference) → In r (references_in_each (made_expressions (expanding ps) es)) → ComesFrom ps (references_in_each es) r
    of_each no_expressions plain r i = absurd i
    of_each (expression e es) plain r i =
        either (touched_in e) (references_in_each es) r (λ j. of_expression e plain.0 r j) (λ j. of_each es plain.1 r j)
        (In-append r (touched_in (made (expanding ps) e)) (references_in_each (made_expressions (expanding ps) es)) i)

    of_subscripts : (qs : Subscripts) → ArePlain qs → (r : Reference) → In r (touched_in_subscripts (made_subscripts (expanding ps) qs)) → ComesFrom ps (touched_in_subscripts qs) r
    of_subscripts no_subscripts plain r i = absurd i
    of_subscripts (subscript (Only e) qs) plain r i =
        either (touched_in e) (touched_in_subscripts qs) r (λ j. of_expression e plain.0 r j) (λ j. of_subscripts qs plain.1 r j)
        (In-append r (touched_in (made (expanding ps) e)) (touched_in_subscripts (made_subscripts (expanding ps) qs)) i)
    of_subscripts (subscript (Section a b c) qs) plain r i = absurd plain.0

  -- ---- statements

  -- all references of a statement
  abbrev pub all_of : Guarded → List Reference
  all_of g = touched_in_guard g.guard ++ (touched_in (named g.left) ++ touched_in g.right)

  abbrev pub read_by : Guarded → List Reference
  read_by g = references_read (record { guard = g.guard; left = g.left; right = g.right })

  of_guard : (o : Option Expression) → IsPlainGuard o → (r : Reference) → In r (touched_in_guard (option_map (made (expanding ps)) o)) → ComesFrom ps (touched_in_guard o) r
  of_guard None plain r i = absurd i
  of_guard (Some e) plain r i = of_expression e plain r i

  pub of_statement : (g : Guarded) → IsPlainGuard g.guard → ArePlain g.left.subscripts → IsPlain g.right → (r : Reference)
      → In r ((rewritten_statement (expanding ps) g).left ∷ read_by (rewritten_statement (expanding ps) g)) → ComesFrom ps (all_of g) r
  of_statement g guard left right r i = by i
    where
      left_is : (x : List ℕ) (qs : Subscripts) → (y : Reference) → y ≡ made_left (expanding ps) (record { name = x; subscripts = qs }) ⊎ In y (touched_in_subscripts (made_left (expanding ps) (record { name = x; subscripts = qs })).subscripts)
          → In y (touched_in (made (expanding ps) (Named x qs)))
      left_is x no_subscripts y (inl e) = inl e
      left_is x no_subscripts y (inr j) = inr j
      left_is x (subscript q qs) y (inl e) = inl e
      left_is x (subscript q qs) y (inr j) = inr j

      at_left : (y : Reference) → y ≡ made_left (expanding ps) g.left ⊎ In y (touched_in_subscripts (made_left (expanding ps) g.left).subscripts) → ComesFrom ps (all_of g) y
      at_left y j =
          more (touched_in (named g.left)) (all_of g) y
          (λ z k. In-right z (touched_in_guard g.guard) (touched_in (named g.left) ++ touched_in g.right) (In-left z (touched_in (named g.left)) (touched_in g.right) k))
          (of_expression (named g.left) left y (left_is g.left.name g.left.subscripts y j))

      others : In r (touched_in_subscripts (made_left (expanding ps) g.left).subscripts) ⊎ In r (touched_in (made (expanding ps) g.right)) → ComesFrom ps (all_of g) r
      others (inl j) = at_left r (inr j)
      others (inr j) =
          more (touched_in g.right) (all_of g) r
          (λ z k. In-right z (touched_in_guard g.guard) (touched_in (named g.left) ++ touched_in g.right) (In-right z (touched_in (named g.left)) (touched_in g.right) k))
          (of_expression g.right right r j)

      read : In r (touched_in_guard (option_map (made (expanding ps)) g.guard)) ⊎ In r (touched_in_subscripts (made_left (expanding ps) g.left).subscripts ++ touched_in (made (expanding ps) g.right)) → ComesFrom ps (all_of g) r
      read (inl j) = more (touched_in_guard g.guard) (all_of g) r (λ z k. In-left z (touched_in_guard g.guard) (touched_in (named g.left) ++ touched_in g.right) k) (of_guard g.guard guard r j)
      read (inr j) = others (In-append r (touched_in_subscripts (made_left (expanding ps) g.left).subscripts) (touched_in (made (expanding ps) g.right)) j)

      by : r ≡ made_left (expanding ps) g.left ⊎ In r (read_by (rewritten_statement (expanding ps) g)) → ComesFrom ps (all_of g) r
      by (inl e) = at_left r (inl e)
      by (inr j) = read (In-append r (touched_in_guard (option_map (made (expanding ps)) g.guard)) (touched_in_subscripts (made_left (expanding ps) g.left).subscripts ++ touched_in (made (expanding ps) g.right)) j)

-- ---- references in an expression that has a kind

module _ (es : List Declaration) where
  -- it has as many subscripts as its name has dimensions, or none
  abbrev pub Suits : Reference → Type 0
  Suits r = IsSomeAnd (declared es r.name) (λ (d : Declaration). SuitsDimensions r.subscripts (rank_of_extent d.extent))

  suits : (o : Option Declaration) (k : Kind) (qs : Subscripts) → IsSomeAnd o (λ (d : Declaration). (k ≡ d.kind) × SuitsDimensions qs (rank_of_extent d.extent))
      → IsSomeAnd o (λ (d : Declaration). SuitsDimensions qs (rank_of_extent d.extent))
  suits None k qs h = absurd h
  suits (Some d) k qs h = h.1

  in_two : (rs us : List Reference) (r : Reference) → (In r rs → Suits r) → (In r us → Suits r) → In r (rs ++ us) → Suits r
  in_two rs us r f g i = by (In-append r rs us i)
    where
      by : In r rs ⊎ In r us → Suits r
      by (inl j) = f j
      by (inr j) = g j

  mutual
    pub each_suits : (e : Expression) (k : Kind) → IsPlain e → HasKind es e k → (r : Reference) → In r (touched_in e) → Suits r
    each_suits (Number n) k plain h r i = absurd i
    each_suits (Logic b) k plain h r i = absurd i
    each_suits (Named x qs) k plain h r (inl e) =
        subst Suits (sym e) (suits (declared es x) k qs h.0)
    each_suits (Named x qs) k plain h r (inr j) = in_subscripts qs plain h.1 r j
    each_suits (Unary o a) k plain h r i = each_suits a _ plain h.2 r i
    each_suits (Binary o a b) k plain h r i =
        in_two (touched_in a) (touched_in b) r (λ j. each_suits a _ plain.0 h.2 r j) (λ j. each_suits b _ plain.1 h.3 r j) i
    each_suits (Apply f as') k plain h r i = in_each as' plain h.3 r i
    each_suits (Constructor as' ls) k plain h r i = absurd plain
    each_suits (Spread a d n) k plain h r i = absurd plain
    each_suits (Transpose a) k plain h r i = absurd plain
    each_suits (Reshape a as') k plain h r i = absurd plain
    each_suits (Reduce o a) k plain h r i = absurd plain

    in_each : (as' : Expressions) → EachIsPlain as' → AreArguments es as' → (r : Reference) → In r (references_in_each as') → Suits r
    in_each no_expressions plain h r i = absurd i
    in_each (expression e as') plain h r i =
        in_two (touched_in e) (references_in_each as') r (λ j. each_suits e Integer plain.0 h.0 r j) (λ j. in_each as' plain.1 h.2 r j) i

    in_subscripts : (qs : Subscripts) → ArePlain qs → AreSubscripts es qs → (r : Reference) → In r (touched_in_subscripts qs) → Suits r
    in_subscripts no_subscripts plain h r i = absurd i
    in_subscripts (subscript (Only e) qs) plain h r i =
        in_two (touched_in e) (touched_in_subscripts qs) r (λ j. each_suits e Integer plain.0 h.0.0 r j) (λ j. in_subscripts qs plain.1 h.1 r j) i
    in_subscripts (subscript (Section a b c) qs) plain h r i = absurd plain.0

  -- that of a scalar has none
  pub scalar_has_none : (r : Reference) → IsSomeAnd (declared es r.name) (λ (d : Declaration). d.extent ≡ Given []) → Suits r → r.subscripts ≡ no_subscripts
  scalar_has_none r scalar h = by (declared es r.name) r.subscripts scalar h
    where
      by : (o : Option Declaration) (qs : Subscripts) → IsSomeAnd o (λ (d : Declaration). d.extent ≡ Given [])
          → IsSomeAnd o (λ (d : Declaration). SuitsDimensions qs (rank_of_extent d.extent)) → qs ≡ no_subscripts
      by o no_subscripts s h = refl
      by None (subscript q qs) s h = absurd s
      by (Some d) (subscript q qs) s h = let none : number_of_subscripts (subscript q qs) ≡ 0 = h ∙ ap rank_of_extent s in absurd (omega (arith, none))
