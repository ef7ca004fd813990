-- What a rule makes of expressions and items whose kinds suit.
use Rattle.std.proofs.Common.{◌≡◌, refl, sym, ap, ◌∙◌, subst, ◌⊎◌, inl, inr, ℕ, zero, suc, ◌+◌, ◌≤◌, max, nat_le, Bool, true, false, cond, List, ◌∷◌, Option, Some, None, arith}
use Rattle.std.specs.Prelude.{IsTrue, Contains}
use Rattle.std.specs.Option.{IsSomeAnd}
use Rattle.std.proofs.lemmas.Bool.Decides.{nat_tests}
use mathlib.Core.Path.{ap₂}
use Rattle.tree.specs.declared.functions.Intrinsic.TheVariants as intrinsics
use Rattle.tree.specs.declared.functions.Fun.{Fun}
use Rattle.tree.specs.declared.ops.Op.{Op}
use Rattle.tree.specs.declared.ops.Kind.{Kind}
use Rattle.tree.specs.declared.ops.Kind.TheVariants.{Integer, Logical}
use Rattle.tree.specs.Functions.{name_of_function, suits_number}
use Rattle.tree.specs.OperatorTable.{left_least, right_least, level_of, operand_kind}
use Rattle.tree.specs.Plain.{Expression, Number, Logic, Named, Unary, Binary, Apply, Constructor, Spread, Transpose, Reshape, Reduce, Expressions, no_expressions, expression, Subscript, Only, Section, Subscripts, no_subscripts, subscript, Loops, no_loops, loop, Reference, Item, Single, Constant, ImpliedDo, Items, no_items, item, Declaration}
use Rattle.meaning.specs.Depths.{level, enclosed, depth_of, depth_of_each, depth_of_subscript, depth_of_subscripts, depth_under, depth_of_item, depth_of_items}
use Rattle.meaning.specs.Typed.{declared, number_of_arguments, number_of_subscripts, rank_of_extent, has_item}
use Rattle.meaning.specs.Typed90.{Conform, SuitsDimensions, IsFree, HasKind, AreArguments, AreScalars, AreSubscripts}
use Rattle.meaning.specs.Typed90.{IsSubscript, AreLoops, SuitsLoops, rank_of, rank_of_name, rank_of_each}
use Rattle.meaning.specs.Typed90.{rank_of_subscript, rank_of_subscripts, IsIntegerScalar, IsScalar, IsDoVariable}
use Rattle.meaning.specs.Typed90.{HasSomeKind}
use Rattle.meaning.specs.Items90.{IsInput, IsInputItem, AreInputItems, IsOutputItem, AreOutputItems}
use Rattle.meaning.specs.Value.{named}
use Rattle.rewrite.specs.Making.{Making, made, made_expressions, made_subscripts, made_subscript, made_loops}
use Rattle.rewrite.specs.Making.{made_parts, made_left}
use Rattle.rewrite.specs.MadeBlocks.{made_input, made_inputs, made_output, made_outputs}
use Rattle.rewrite.specs.Suits.{Suiting, Suits, SuitsEach, SuitsSubscripts, SuitsSubscript, SuitsLeft, SuitsInput}
use Rattle.rewrite.specs.Suits.{SuitsInputs, SuitsOutput, SuitsOutputs, SuitsLoop}
use Rattle.rewrite.specs.Suits as making
use Rattle.rewrite.specs.Profile.{DeclaresAlso, TakesPlace, KeepsProfile}

-- ---- depths

pub enclosed-more : (least own a b r : ℕ) → a ≤ b + r → enclosed least own a ≤ enclosed least own b + r
enclosed-more least own a b r h = by (nat_le least own)
  where
    by : (t : Bool) → cond t a (1 + a) ≤ cond t b (1 + b) + r
    by true = h
    by false = omega (arith, h)

-- by itself an expression stands in no parentheses
pub enclosed-alone : (own a : ℕ) → enclosed 0 own a ≡ a
enclosed-alone own a = grind (arith, nat_tests)

within : (x y z r : ℕ) → x ≤ max y r → y ≤ z + r → x ≤ z + r
within x y z r h k = omega arith

two-deeper : (a b c d r : ℕ) → a ≤ c + r → b ≤ d + r → max a b ≤ max c d + r
two-deeper a b c d r h k = omega arith

one-deeper : (a b r : ℕ) → a ≤ b + r → 1 + a ≤ (1 + b) + r
one-deeper a b r h = omega arith

-- ---- declarations

some-mapped : (o : Option Declaration) (P Q : Declaration → Type 0) → ((d : Declaration) → P d → Q d) → IsSomeAnd o P → IsSomeAnd o Q
some-mapped (Some d) P Q f h = f d h
some-mapped None P Q f h = h

some-also : (o q : Option Declaration) (P : Declaration → Type 0) → ((d : Declaration) → o ≡ Some d → q ≡ Some d) → IsSomeAnd o P → IsSomeAnd q P
some-also (Some d) q P f h = subst (λ (o : Option Declaration). IsSomeAnd o P) (sym (f d refl)) h
some-also None q P f h = absurd h

module _ (ds es : List Declaration) (also : DeclaresAlso ds es) where
  pub declared-also : (x : List ℕ) (P : Declaration → Type 0) → IsSomeAnd (declared ds x) P → IsSomeAnd (declared es x) P
  declared-also x P h = some-also (declared ds x) (declared es x) P (also.names x) h

  pub rank_of_name-also : (x : List ℕ) (P : Declaration → Type 0) → IsSomeAnd (declared ds x) P → rank_of_name es x ≡ rank_of_name ds x
  rank_of_name-also x P h = by (declared ds x) (declared es x) (also.names x) h
    where
      by : (o q : Option Declaration) → ((d : Declaration) → o ≡ Some d → q ≡ Some d) → IsSomeAnd o P
          → ◌≡◌ {A = ℕ} (elim q [ None ↦ 0 | Some d ↦ rank_of_extent d.extent ]) (elim o [ None ↦ 0 | Some d ↦ rank_of_extent d.extent ])
      by (Some d) q f h = ap (λ (q : Option Declaration). elim q [ None ↦ 0 | Some d ↦ rank_of_extent d.extent ]) (f d refl)
      by None q f h = absurd h

  free_function : (f : Fun) → IsFree ds (name_of_function f) → IsFree es (name_of_function f)
  free_function f h = also.free (intrinsics.Elemental f) h

  -- ---- expressions

  module _ (raise : ℕ) (m : Making) (suits : Suiting) (keeps : KeepsProfile es raise m suits) where
    -- f, which was made of e, has its kind and its rank
    pub record Becomes (e f : Expression) (k : Kind) : Type 0 where
      pub kind : HasKind es f k
      pub rank : rank_of es f ≡ rank_of ds e
      pub depth : (least : ℕ) → enclosed least (level f) (depth_of f) ≤ enclosed least (level e) (depth_of e) + raise

    pub record BecomeArguments (bs cs : Expressions) : Type 0 where
      pub kinds : AreArguments es cs
      pub rank : rank_of_each es cs ≡ rank_of_each ds bs
      pub depth : depth_of_each cs ≤ depth_of_each bs + raise

    pub record BecomeScalars (bs cs : Expressions) (k : Kind) : Type 0 where
      pub kinds : AreScalars es cs k
      pub depth : depth_of_each cs ≤ depth_of_each bs + raise

    pub record BecomeSubscripts (ps qs : Subscripts) : Type 0 where
      pub kinds : AreSubscripts es qs
      pub rank : rank_of_subscripts es qs ≡ rank_of_subscripts ds ps
      pub depth : depth_of_subscripts qs ≤ depth_of_subscripts ps + raise

    pub record BecomesSubscript (p q : Subscript) : Type 0 where
      pub kind : IsSubscript es q
      pub rank : rank_of_subscript es q ≡ rank_of_subscript ds p
      pub depth : depth_of_subscript q ≤ depth_of_subscript p + raise

    pub record BecomeLoops (ls ms : Loops) : Type 0 where
      pub kinds : AreLoops es ms
      pub depth : (a b : ℕ) → a ≤ b + raise → depth_under ms a ≤ depth_under ls b + raise

    pub depth-alone : (e f : Expression) (k : Kind) → Becomes e f k → depth_of f ≤ depth_of e + raise
    depth-alone e f k b =
        let h = b.depth 0 in
        subst (λ (n : ℕ). n ≤ depth_of e + raise) (enclosed-alone (level f) (depth_of f))
        (subst (λ (n : ℕ). enclosed 0 (level f) (depth_of f) ≤ n + raise) (enclosed-alone (level e) (depth_of e)) h)

    -- the node that was made, and what it becomes
    node : (e f : Expression) (k : Kind) → IsTrue (suits.expression f) → HasKind es f k → rank_of es f ≡ rank_of ds e
        → level f ≡ level e → depth_of f ≤ depth_of e + raise → Becomes e (m.expression e f) k
    node e f k h kind rank own depth =
        let t = keeps.expression e f k h kind in
        record {
          kind = t.kind;
          rank = t.rank ∙ rank;
          depth = λ least. within _ _ _ raise (t.depth least)
              (subst (λ (n : ℕ). enclosed least n (depth_of f) ≤ enclosed least (level e) (depth_of e) + raise) (sym own)
              (enclosed-more least (level e) (depth_of f) (depth_of e) raise depth));
        }

    pub number_of_arguments-made : (bs : Expressions) → number_of_arguments (made_expressions m bs) ≡ number_of_arguments bs
    number_of_arguments-made no_expressions = refl
    number_of_arguments-made (expression e bs) = ap (λ n. 1 + n) (number_of_arguments-made bs)

    number_of_subscripts-made : (ps : Subscripts) → number_of_subscripts (made_subscripts m ps) ≡ number_of_subscripts ps
    number_of_subscripts-made no_subscripts = refl
    number_of_subscripts-made (subscript p ps) = ap (λ n. 1 + n) (number_of_subscripts-made ps)

    dimensions-made : (ps : Subscripts) (n : ℕ) → SuitsDimensions ps n → SuitsDimensions (made_subscripts m ps) n
    dimensions-made no_subscripts n h = h
    dimensions-made (subscript p ps) n h = ap (λ n. 1 + n) (number_of_subscripts-made ps) ∙ h

    loops-made : (ls : Loops) (n k : ℕ) → k ≡ n → SuitsLoops ls n → SuitsLoops (made_loops m ls) k
    loops-made no_loops n k e h = subst (λ (n : ℕ). 1 ≤ n) (sym e) h
    loops-made (loop x a b ls) n k e h = e ∙ h

    conform : (a b c d : ℕ) → c ≡ a → d ≡ b → Conform a b → Conform c d
    conform a b c d e f h = subst (λ (n : ℕ). Conform n d) (sym e) (subst (λ (n : ℕ). Conform a n) (sym f) h)

    named_rank : (x : List ℕ) (ps : Subscripts) (P : Declaration → Type 0) → IsSomeAnd (declared ds x) P
        → rank_of_subscripts es (made_subscripts m ps) ≡ rank_of_subscripts ds ps
        → rank_of es (Named x (made_subscripts m ps)) ≡ rank_of ds (Named x ps)
    named_rank x no_subscripts P h e = rank_of_name-also x P h
    named_rank x (subscript p ps) P h e = e

    -- a name that keeps its name
    pub named_kind : (x : List ℕ) (ps : Subscripts) (k : Kind) → HasKind ds (Named x ps) k → AreSubscripts es (made_subscripts m ps)
        → HasKind es (Named x (made_subscripts m ps)) k
    named_kind x ps k h s =
        (some-mapped (declared es x) _ _ (λ d p. (p.0, dimensions-made ps (rank_of_extent d.extent) p.1)) (declared-also x _ h.0), s)

    mutual
      pub Becomes-made : (e : Expression) (k : Kind) → Suits m suits e → HasKind ds e k → Becomes e (made m e) k
      Becomes-made (Number n) k h t = node (Number n) (Number n) k h t refl refl (omega arith)
      Becomes-made (Logic b) k h t = node (Logic b) (Logic b) k h t refl refl (omega arith)
      Becomes-made (Named x ps) k h t =
          let s = BecomeSubscripts-made ps h.1 t.1 in
          node (Named x ps) (Named x (made_subscripts m ps)) k h.0 (named_kind x ps k t s.kinds) (named_rank x ps _ t.0 s.rank) refl s.depth
      Becomes-made (Unary o a) k h t =
          let b = Becomes-made a (operand_kind o) h.1 t.2 in
          node (Unary o a) (Unary o (made m a)) k h.0 (t.0, t.1, b.kind) b.rank refl (one-deeper _ _ raise (b.depth (right_least o)))
      Becomes-made (Binary o a c) k h t =
          let b = Becomes-made a (operand_kind o) h.1 t.2 in
          let d = Becomes-made c (operand_kind o) h.2 t.3 in
          node (Binary o a c) (Binary o (made m a) (made m c)) k h.0
          (t.0, t.1, b.kind, d.kind, conform (rank_of ds a) (rank_of ds c) _ _ b.rank d.rank t.4) (ap₂ max b.rank d.rank) refl
          (one-deeper _ _ raise (two-deeper _ _ _ _ raise (b.depth (left_least o)) (d.depth (right_least o))))
      Becomes-made (Apply f vs) k h t =
          let b = BecomeArguments-made vs h.1 t.3 in
          node (Apply f vs) (Apply f (made_expressions m vs)) k h.0
          (subst (λ (n : ℕ). IsTrue (suits_number f n)) (sym (number_of_arguments-made vs)) t.0, free_function f t.1, t.2, b.kinds)
          b.rank refl (one-deeper _ _ raise b.depth)
      Becomes-made (Constructor vs ls) k h t =
          let b = BecomeScalars-made vs k h.1 t.0 in
          let l = BecomeLoops-made ls h.2 t.2 in
          node (Constructor vs ls) (Constructor (made_expressions m vs) (made_loops m ls)) k h.0
          (b.kinds, loops-made ls _ _ (number_of_arguments-made vs) t.1, l.kinds) refl refl
          (one-deeper _ _ raise (l.depth _ _ b.depth))
      Becomes-made (Spread a i n) k h t =
          let b = Becomes-made a k h.1 t.4 in
          let d = Becomes-made n Integer h.2 t.5 in
          node (Spread a i n) (Spread (made m a) i (made m n)) k h.0
          (also.free intrinsics.Spread t.0, t.1, subst (λ (n : ℕ). i ≤ n + 1) (sym b.rank) t.2, rw b.rank t.3, b.kind, d.kind, d.rank ∙ t.6)
          (ap (λ n. n + 1) b.rank) refl
          (one-deeper _ _ raise (two-deeper _ _ _ _ raise (depth-alone a _ k b) (depth-alone n _ Integer d)))
      Becomes-made (Transpose a) k h t =
          let b = Becomes-made a k h.1 t.2 in
          node (Transpose a) (Transpose (made m a)) k h.0 (also.free intrinsics.Transpose t.0, b.rank ∙ t.1, b.kind) refl refl
          (one-deeper _ _ raise (depth-alone a _ k b))
      Becomes-made (Reshape a vs) k h t =
          let b = Becomes-made a k h.1 t.4 in
          let d = BecomeScalars-made vs Integer h.2 t.5 in
          let n = number_of_arguments-made vs in
          node (Reshape a vs) (Reshape (made m a) (made_expressions m vs)) k h.0
          (also.free intrinsics.Reshape t.0, rw b.rank t.1, rw n t.2, rw n t.3, b.kind, d.kinds) n refl
          (one-deeper _ _ raise (two-deeper _ _ _ _ raise (depth-alone a _ k b) (one-deeper _ _ raise d.depth)))
      Becomes-made (Reduce r a) k h t =
          let b = Becomes-made a Integer h.1 t.3 in
          node (Reduce r a) (Reduce r (made m a)) k h.0 (also.free (intrinsics.Reduction r) t.0, rw b.rank t.1, t.2, b.kind) refl refl
          (one-deeper _ _ raise (depth-alone a _ Integer b))

      pub BecomeArguments-made : (vs : Expressions) → SuitsEach m suits vs → AreArguments ds vs → BecomeArguments vs (made_expressions m vs)
      BecomeArguments-made no_expressions h t = record { kinds = tt; rank = refl; depth = omega arith }
      BecomeArguments-made (expression e vs) h t =
          let b = Becomes-made e Integer h.0 t.0 in
          let c = BecomeArguments-made vs h.1 t.2 in
          record {
            kinds = (b.kind, conform (rank_of ds e) (rank_of_each ds vs) _ _ b.rank c.rank t.1, c.kinds);
            rank = ap₂ max b.rank c.rank;
            depth = two-deeper _ _ _ _ raise (depth-alone e _ Integer b) c.depth;
          }

      pub BecomeScalars-made : (vs : Expressions) (k : Kind) → SuitsEach m suits vs → AreScalars ds vs k → BecomeScalars vs (made_expressions m vs) k
      BecomeScalars-made no_expressions k h t = record { kinds = tt; depth = omega arith }
      BecomeScalars-made (expression e vs) k h t =
          let b = Becomes-made e k h.0 t.0.0 in
          let c = BecomeScalars-made vs k h.1 t.1 in
          record {
            kinds = ((b.kind, b.rank ∙ t.0.1), c.kinds);
            depth = two-deeper _ _ _ _ raise (depth-alone e _ k b) c.depth;
          }

      pub BecomeSubscripts-made : (ps : Subscripts) → SuitsSubscripts m suits ps → AreSubscripts ds ps → BecomeSubscripts ps (made_subscripts m ps)
      BecomeSubscripts-made no_subscripts h t = record { kinds = tt; rank = refl; depth = omega arith }
      BecomeSubscripts-made (subscript p ps) h t =
          let b = BecomesSubscript-made p h.0 t.0 in
          let c = BecomeSubscripts-made ps h.1 t.1 in
          record {
            kinds = (b.kind, c.kinds);
            rank = ap₂ (λ a d. a + d) b.rank c.rank;
            depth = two-deeper _ _ _ _ raise (one-deeper _ _ raise b.depth) c.depth;
          }

      pub BecomesSubscript-made : (p : Subscript) → SuitsSubscript m suits p → IsSubscript ds p → BecomesSubscript p (made_subscript m p)
      BecomesSubscript-made (Only e) h t =
          let b = Becomes-made e Integer h t.0 in
          record { kind = (b.kind, rw b.rank t.1); rank = b.rank; depth = depth-alone e _ Integer b }
      BecomesSubscript-made (Section a b c) h t =
          let x = Becomes-made a Integer h.0 t.0.0 in
          let y = Becomes-made b Integer h.1 t.1.0 in
          let z = Becomes-made c Integer h.2 t.2.0 in
          record {
            kind = ((x.kind, x.rank ∙ t.0.1), (y.kind, y.rank ∙ t.1.1), (z.kind, z.rank ∙ t.2.1));
            rank = refl;
            depth = two-deeper _ _ _ _ raise (depth-alone a _ Integer x) (two-deeper _ _ _ _ raise (depth-alone b _ Integer y) (depth-alone c _ Integer z));
          }

      pub BecomeLoops-made : (ls : Loops) → making.SuitsLoops m suits ls → AreLoops ds ls → BecomeLoops ls (made_loops m ls)
      BecomeLoops-made no_loops h t = record { kinds = tt; depth = λ a b h. h }
      BecomeLoops-made (loop x a b ls) h t =
          let y = Becomes-made a Integer h.0 t.1.0 in
          let z = Becomes-made b Integer h.1 t.2.0 in
          let l = BecomeLoops-made ls h.2 t.3 in
          record {
            kinds = (declared-also x _ t.0, (y.kind, y.rank ∙ t.1.1), (z.kind, z.rank ∙ t.2.1), l.kinds);
            depth = λ c d e. l.depth _ _ (one-deeper _ _ raise (two-deeper _ _ _ _ raise e (two-deeper _ _ _ _ raise (depth-alone a _ Integer y) (depth-alone b _ Integer z))));
          }

    -- ---- left sides, and scalars

    pub Becomes-left : (r : Reference) (k : Kind) → SuitsLeft m suits r → HasKind ds (named r) k → Becomes (named r) (named (made_left m r)) k
    Becomes-left r k h t =
        let s = BecomeSubscripts-made r.subscripts h.1 t.1 in
        let p = keeps.left (made_parts m r) k h.0 (named_kind r.name r.subscripts k t s.kinds) in
        record {
          kind = p.kind;
          rank = p.rank ∙ named_rank r.name r.subscripts _ t.0 s.rank;
          depth = λ least. within _ _ _ raise (p.depth least) (enclosed-more least 10 _ _ raise s.depth);
        }

    pub scalar-made : (e : Expression) (k : Kind) → Suits m suits e → IsScalar ds e k → IsScalar es (made m e) k
    scalar-made e k h t = let b = Becomes-made e k h t.0 in (b.kind, b.rank ∙ t.1)

    pub depth-made : (e : Expression) (k : Kind) → Suits m suits e → HasKind ds e k → depth_of (made m e) ≤ depth_of e + raise
    depth-made e k h t = depth-alone e _ k (Becomes-made e k h t)

    -- ---- items

    pub DoVariable-also : (x : List ℕ) (around : List (List ℕ)) → IsDoVariable ds x around → IsDoVariable es x around
    DoVariable-also x around h = record { integer = declared-also x _ h.integer; free = h.free }

    input-made : (x : List ℕ) (ps : Subscripts) (around : List (List ℕ)) → SuitsSubscripts m suits ps → IsInput ds (Named x ps) around
        → IsInput es (Named x (made_subscripts m ps)) around × (depth_of_subscripts (made_subscripts m ps) ≤ depth_of_subscripts ps + raise)
    input-made x ps around h t = by t.0
      where
        with_kind : (k : Kind) → HasKind ds (Named x ps) k → HasKind es (Named x (made_subscripts m ps)) k
        with_kind k q = named_kind x ps k q (BecomeSubscripts-made ps h q.1).kinds

        rest : (k : Kind) → HasKind ds (Named x ps) k → HasSomeKind es (Named x (made_subscripts m ps))
            → IsInput es (Named x (made_subscripts m ps)) around × (depth_of_subscripts (made_subscripts m ps) ≤ depth_of_subscripts ps + raise)
        rest k q s = let b = BecomeSubscripts-made ps h q.1 in ((s, b.rank ∙ t.1, t.2), b.depth)

        by : HasSomeKind ds (Named x ps) → IsInput es (Named x (made_subscripts m ps)) around × (depth_of_subscripts (made_subscripts m ps) ≤ depth_of_subscripts ps + raise)
        by (inl q) = rest Integer q (inl (with_kind Integer q))
        by (inr q) = rest Logical q (inr (with_kind Logical q))

    output-made : (e : Expression) → Suits m suits e → HasSomeKind ds e → HasSomeKind es (made m e) × (depth_of (made m e) ≤ depth_of e + raise)
    output-made e h (inl t) = let b = Becomes-made e Integer h t in (inl b.kind, depth-alone e _ Integer b)
    output-made e h (inr t) = let b = Becomes-made e Logical h t in (inr b.kind, depth-alone e _ Logical b)

    has_item-inputs : (is : Items) → has_item (made_inputs m is) ≡ has_item is
    has_item-inputs no_items = refl
    has_item-inputs (item i is) = refl

    has_item-outputs : (is : Items) → has_item (made_outputs m is) ≡ has_item is
    has_item-outputs no_items = refl
    has_item-outputs (item i is) = refl

    control-deeper : (a b c : Expression) (n k : ℕ) → Suits m suits a → Suits m suits b → Suits m suits c
        → IsScalar ds a Integer → IsScalar ds b Integer → IsScalar ds c Integer → k ≤ n + raise
        → 1 + max k (max (depth_of (made m a)) (max (depth_of (made m b)) (depth_of (made m c))))
        ≤ (1 + max n (max (depth_of a) (max (depth_of b) (depth_of c)))) + raise
    control-deeper a b c n k ha hb hc ta tb tc h =
        one-deeper _ _ raise (two-deeper _ _ _ _ raise h (two-deeper _ _ _ _ raise (depth-made a Integer ha ta.0)
        (two-deeper _ _ _ _ raise (depth-made b Integer hb tb.0) (depth-made c Integer hc tc.0))))

    mutual
      pub input_item-made : (i : Item) (around : List (List ℕ)) → SuitsInput m suits i → IsInputItem ds i around
          → IsInputItem es (made_input m i) around × (depth_of_item (made_input m i) ≤ depth_of_item i + raise)
      input_item-made (Single (Named x ps)) around h t = input-made x ps around h.1 t
      input_item-made (Single (Number n)) around h t = absurd t
      input_item-made (Single (Logic b)) around h t = absurd t
      input_item-made (Single (Unary o a)) around h t = absurd t
      input_item-made (Single (Binary o a b)) around h t = absurd t
      input_item-made (Single (Apply f vs)) around h t = absurd t
      input_item-made (Single (Constructor vs ls)) around h t = absurd t
      input_item-made (Single (Spread a k n)) around h t = absurd t
      input_item-made (Single (Transpose a)) around h t = absurd t
      input_item-made (Single (Reshape a vs)) around h t = absurd t
      input_item-made (Single (Reduce r a)) around h t = absurd t
      input_item-made (Constant c) around h t = absurd t
      input_item-made (ImpliedDo is x a b c) around h t =
          let s = input_items-made is (x ∷ around) h.1 t.5 in (
            (
              subst IsTrue (sym (has_item-inputs is)) t.0,
              DoVariable-also x around t.1,
              scalar-made a Integer h.0.1 t.2,
              scalar-made b Integer h.0.2 t.3,
              scalar-made c Integer h.0.3 t.4,
              s.0,
            ),
            control-deeper a b c _ _ h.0.1 h.0.2 h.0.3 t.2 t.3 t.4 s.1,
          )

      pub input_items-made : (is : Items) (around : List (List ℕ)) → SuitsInputs m suits is → AreInputItems ds is around
          → AreInputItems es (made_inputs m is) around × (depth_of_items (made_inputs m is) ≤ depth_of_items is + raise)
      input_items-made no_items around h t = (tt, omega arith)
      input_items-made (item i is) around h t =
          let a = input_item-made i around h.0 t.0 in
          let b = input_items-made is around h.1 t.1 in
          ((a.0, b.0), two-deeper _ _ _ _ raise a.1 b.1)

    mutual
      pub output_item-made : (i : Item) (around : List (List ℕ)) → SuitsOutput m suits i → IsOutputItem ds i around
          → IsOutputItem es (made_output m i) around × (depth_of_item (made_output m i) ≤ depth_of_item i + raise)
      output_item-made (Single e) around h t = output-made e h t
      output_item-made (Constant c) around h t = (t, omega arith)
      output_item-made (ImpliedDo is x a b c) around h t =
          let s = output_items-made is (x ∷ around) h.1 t.5 in (
            (
              subst IsTrue (sym (has_item-outputs is)) t.0,
              DoVariable-also x around t.1,
              scalar-made a Integer h.0.1 t.2,
              scalar-made b Integer h.0.2 t.3,
              scalar-made c Integer h.0.3 t.4,
              s.0,
            ),
            control-deeper a b c _ _ h.0.1 h.0.2 h.0.3 t.2 t.3 t.4 s.1,
          )

      pub output_items-made : (is : Items) (around : List (List ℕ)) → SuitsOutputs m suits is → AreOutputItems ds is around
          → AreOutputItems es (made_outputs m is) around × (depth_of_items (made_outputs m is) ≤ depth_of_items is + raise)
      output_items-made no_items around h t = (tt, omega arith)
      output_items-made (item i is) around h t =
          let a = output_item-made i around h.0 t.0 in
          let b = output_items-made is around h.1 t.1 in
          ((a.0, b.0), two-deeper _ _ _ _ raise a.1 b.1)
