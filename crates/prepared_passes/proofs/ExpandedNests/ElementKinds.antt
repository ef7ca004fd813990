-- Expressions in which private scalars become elements: their kinds, ranks, depths and names.
use Rattle.std.proofs.Common.{◌≡◌, ◌⊎◌, inl, inr, refl, sym, ap, ap₂, ◌∙◌, subst, ℕ, ◌+◌, ◌≤◌, max, List, [], ◌∷◌, ◌++◌, length, Option, Some, None, arith}
use Rattle.std.specs.Option.{IsSomeAnd}
use Rattle.meaning.specs.Depths.{depth_of, depth_of_each, depth_of_subscripts, enclosed, level}
use Rattle.meaning.specs.Reads.{names_in, names_in_each, names_in_subscripts}
use Rattle.meaning.specs.Typed.{declared, number_of_arguments, number_of_subscripts, rank_of_extent}
use Rattle.meaning.specs.Typed90.{AreArguments, AreSubscripts, Conform, HasKind, IsScalar, rank_of, rank_of_each}
use Rattle.meaning.specs.Typed90.{rank_of_name, rank_of_subscripts}
use Rattle.nest_order.proofs.orders.Lists.{In-append, In-left, In-right}
use Rattle.nest_order.specs.orders.Lists.{In}
use Rattle.nest_order.specs.runs.Touched.{ArePlain, EachIsPlain, IsPlain}
use Rattle.pass_laws.specs.normal_facts.Laws.{IsCounter}
use Rattle.rewrite.proofs.Profiles.{enclosed-more}
use Rattle.rewrite.specs.Making.{made, made_expressions, made_subscripts}
use Rattle.tree.specs.Functions.{name_of_function}
use Rattle.tree.specs.OperatorTable.{left_least, operand_kind, right_least}
use Rattle.tree.specs.Plain.{Apply, Binary, Constructor, Declaration, Expression, Expressions, Given, Logic, Named, Number}
use Rattle.tree.specs.Plain.{Only, Reduce, Reshape, Section, Spread, Subscripts, Transpose, Unary, expression}
use Rattle.tree.specs.Plain.{no_expressions, no_subscripts, subscript}
use Rattle.tree.specs.declared.functions.Fun.{Fun}
use Rattle.tree.specs.declared.ops.Kind.{Kind}
use Rattle.tree.specs.declared.ops.Kind.TheVariants.{Integer}
use Rattle.scalar_expand.specs.Expanded.{as_expression, element, element_or, expanding, named_private}
use Rattle.scalar_expand.specs.declared.privates.Private.{Private}
use Rattle.scalar_expand.specs.declared.privates.RoundLoop.{RoundLoop}
use Rattle.prepared_passes.proofs.ExpandedNests.Elements.{counter_scalar, element_deep, element_names, element_scalar}

abbrev bare : RoundLoop → Expression
bare l = Named l.variable no_subscripts

-- a private scalar by the declarations es, and its element by fs; Own says which names may stand there
pub record IsElementFor (es fs : List Declaration) (Own : List ℕ → Type 0) (p : Private) : Type 0 where
  pub scalar : IsSomeAnd (declared es p.name) (λ (d : Declaration). (d.kind ≡ p.kind) × (d.extent ≡ Given []))
  pub array : IsSomeAnd (declared fs p.array) (λ (d : Declaration). (d.kind ≡ p.kind) × (rank_of_extent d.extent ≡ length p.loops))
  pub counters : (l : RoundLoop) → In l p.loops → IsSomeAnd (declared fs l.variable) IsCounter
  pub own : (l : RoundLoop) → In l p.loops → Own l.variable
  pub array_own : Own p.array

-- the names that stand in a statement
pub record AreNames (es fs : List Declaration) (ps : List Private) (Own Stands : List ℕ → Type 0) : Type 0 where
  pub private : (x : List ℕ) (p : Private) → named_private ps x ≡ Some p → Stands x → IsElementFor es fs Own p × (p.name ≡ x)
  pub other : (x : List ℕ) (d : Declaration) → named_private ps x ≡ None → Stands x → declared es x ≡ Some d → declared fs x ≡ Some d
  pub functions : (f : Fun) → declared es (name_of_function f) ≡ None → declared fs (name_of_function f) ≡ None
  pub own : (x : List ℕ) → Stands x → Own x

-- ---- elements

module _ (es fs : List Declaration) (Own : List ℕ → Type 0) (p : Private) (h : IsElementFor es fs Own p) where
  pub element_is : IsScalar fs (as_expression (element p)) p.kind
  element_is = element_scalar fs bare p.array p.kind p.loops h.array (λ l i. counter_scalar fs l.variable (h.counters l i))

  pub element_shallow : depth_of (as_expression (element p)) ≤ 1
  element_shallow = element_deep fs bare 0 p.loops (λ l i. omega arith)

  pub subscripts_own : (y : List ℕ) → In y (names_in_subscripts (element p).subscripts) → Own y
  subscripts_own = element_names fs bare Own p.loops (λ l i y j. one l i y j)
    where
      one : (l : RoundLoop) → In l p.loops → (y : List ℕ) → In y (l.variable ∷ []) → Own y
      one l i y (inl e) = subst Own (sym e) (h.own l i)
      one l i y (inr j) = absurd j

  pub element_own : (y : List ℕ) → In y (names_in (as_expression (element p))) → Own y
  element_own y (inl e) = subst Own (sym e) h.array_own
  element_own y (inr i) = subscripts_own y i

-- ---- expressions

module _ (es fs : List Declaration) (ps : List Private) (Own Stands : List ℕ → Type 0) (names : AreNames es fs ps Own Stands) where
  abbrev expand : Expression → Expression
  expand = made (expanding ps)

  abbrev expand_each : Expressions → Expressions
  expand_each = made_expressions (expanding ps)

  abbrev expand_subscripts : Subscripts → Subscripts
  expand_subscripts = made_subscripts (expanding ps)

  abbrev Stand : List (List ℕ) → Type 0
  Stand xs = (x : List ℕ) → In x xs → Stands x

  front : (xs ys : List (List ℕ)) → Stand (xs ++ ys) → Stand xs
  front xs ys h x i = h x (In-left x xs ys i)

  rest : (xs ys : List (List ℕ)) → Stand (xs ++ ys) → Stand ys
  rest xs ys h x i = h x (In-right x xs ys i)

  abbrev Owned : List (List ℕ) → Type 0
  Owned ys = (y : List ℕ) → In y ys → Own y

  both_owned : (xs ys : List (List ℕ)) → Owned xs → Owned ys → Owned (xs ++ ys)
  both_owned xs ys f g y i = by (In-append y xs ys i)
    where
      by : In y xs ⊎ In y ys → Own y
      by (inl j) = f y j
      by (inr j) = g y j

  pub record Became (e : Expression) (k : Kind) (f : Expression) : Type 0 where
    pub kind : HasKind fs f k
    pub rank : rank_of fs f ≡ rank_of es e
    pub deep : depth_of f ≤ depth_of e + 1
    pub same : level f ≡ level e
    pub own : Owned (names_in f)

  record BecameEach (vs ws : Expressions) : Type 0 where
    kinds : AreArguments fs ws
    rank : rank_of_each fs ws ≡ rank_of_each es vs
    deep : depth_of_each ws ≤ depth_of_each vs + 1
    many : number_of_arguments ws ≡ number_of_arguments vs
    own : Owned (names_in_each ws)

  pub record BecameIn (ss ts : Subscripts) : Type 0 where
    pub kinds : AreSubscripts fs ts
    pub rank : rank_of_subscripts fs ts ≡ rank_of_subscripts es ss
    pub deep : depth_of_subscripts ts ≤ depth_of_subscripts ss + 1
    pub many : number_of_subscripts ts ≡ number_of_subscripts ss
    pub own : Owned (names_in_subscripts ts)

  conform : (a b c d : ℕ) → c ≡ a → d ≡ b → Conform a b → Conform c d
  conform a b c d e f h = subst (λ x. Conform x d) (sym e) (subst (λ y. Conform a y) (sym f) h)

  -- ---- names

  -- a name that isn't private keeps its declaration
  kept : (x : List ℕ) (P : Declaration → Type 0) → named_private ps x ≡ None → Stands x → IsSomeAnd (declared es x) P → IsSomeAnd (declared fs x) P
  kept x P none st h = by (declared es x) refl h
    where
      by : (o : Option Declaration) → declared es x ≡ o → IsSomeAnd o P → IsSomeAnd (declared fs x) P
      by None e g = absurd g
      by (Some d) e g = subst (λ (o : Option Declaration). IsSomeAnd o P) (sym (names.other x d none st e)) g

  kept_rank : (x : List ℕ) (P : Declaration → Type 0) → named_private ps x ≡ None → Stands x → IsSomeAnd (declared es x) P → rank_of_name fs x ≡ rank_of_name es x
  kept_rank x P none st h = by (declared es x) refl h
    where
      by : (o : Option Declaration) → declared es x ≡ o → IsSomeAnd o P → rank_of_name fs x ≡ rank_of_name es x
      by None e g = absurd g
      by (Some d) e g = ap (λ (o : Option Declaration). elim o [ None ↦ 0 | Some c ↦ rank_of_extent c.extent ]) (names.other x d none st e ∙ sym e)

  -- what is private has no subscripts
  no_element : (x : List ℕ) (ss : Subscripts) (k : Kind) (p : Private) → named_private ps x ≡ Some p → Stands x
      → IsSomeAnd (declared es x) (λ (d : Declaration). (k ≡ d.kind) × ((1 + number_of_subscripts ss) ≡ rank_of_extent d.extent)) → ⊥
  no_element x ss k p e st h =
      let f = names.private x p e st in
      by (declared es x) (subst (λ y. IsSomeAnd (declared es y) (λ (d : Declaration). (d.kind ≡ p.kind) × (d.extent ≡ Given []))) f.1 f.0.scalar) h
    where
      by : (o : Option Declaration) → IsSomeAnd o (λ (d : Declaration). (d.kind ≡ p.kind) × (d.extent ≡ Given []))
          → IsSomeAnd o (λ (d : Declaration). (k ≡ d.kind) × ((1 + number_of_subscripts ss) ≡ rank_of_extent d.extent)) → ⊥
      by None f g = f
      by (Some d) f g = let none : rank_of_extent d.extent ≡ 0 = ap rank_of_extent f.1 in let some = g.1 in omega (arith, none, some)

  pub not_private : (x : List ℕ) (ss : Subscripts) (k : Kind) → Stands x → IsSomeAnd (declared es x) (λ (d : Declaration). (k ≡ d.kind) × ((1 + number_of_subscripts ss) ≡ rank_of_extent d.extent)) → named_private ps x ≡ None
  not_private x ss k st h = by (named_private ps x) refl
    where
      by : (o : Option Private) → named_private ps x ≡ o → named_private ps x ≡ None
      by None e = e
      by (Some p) e = absurd (no_element x ss k p e st h)

  -- a private scalar's kind is that of its array
  kind_same : (x : List ℕ) (k : Kind) (p : Private) → named_private ps x ≡ Some p → Stands x → IsSomeAnd (declared es x) (λ (d : Declaration). (k ≡ d.kind) × Unit {0}) → k ≡ p.kind
  kind_same x k p e st h =
      let f = names.private x p e st in
      by (declared es x) (subst (λ y. IsSomeAnd (declared es y) (λ (d : Declaration). (d.kind ≡ p.kind) × (d.extent ≡ Given []))) f.1 f.0.scalar) h
    where
      by : (o : Option Declaration) → IsSomeAnd o (λ (d : Declaration). (d.kind ≡ p.kind) × (d.extent ≡ Given [])) → IsSomeAnd o (λ (d : Declaration). (k ≡ d.kind) × Unit {0}) → k ≡ p.kind
      by None f g = absurd f
      by (Some d) f g = g.0 ∙ f.0

  rank_none : (x : List ℕ) (p : Private) → named_private ps x ≡ Some p → Stands x → rank_of_name es x ≡ 0
  rank_none x p e st =
      let f = names.private x p e st in
      by (declared es x) (subst (λ y. IsSomeAnd (declared es y) (λ (d : Declaration). (d.kind ≡ p.kind) × (d.extent ≡ Given []))) f.1 f.0.scalar)
    where
      by : (o : Option Declaration) → IsSomeAnd o (λ (d : Declaration). (d.kind ≡ p.kind) × (d.extent ≡ Given [])) → ◌≡◌ {A = ℕ} (elim o [ None ↦ 0 | Some d ↦ rank_of_extent d.extent ]) 0
      by None f = absurd f
      by (Some d) f = ap rank_of_extent f.1

  pub scalar_became : (x : List ℕ) (k : Kind) → Stands x → HasKind es (Named x no_subscripts) k → Became (Named x no_subscripts) k (as_expression (element_or (named_private ps x) (record { name = x; subscripts = no_subscripts })))
  scalar_became x k st h = by (named_private ps x) refl
    where
      one : (y : List ℕ) → In y (x ∷ []) → Own y
      one y (inl e) = subst Own (sym e) (names.own x st)
      one y (inr i) = absurd i

      by : (o : Option Private) → named_private ps x ≡ o → Became (Named x no_subscripts) k (as_expression (element_or o (record { name = x; subscripts = no_subscripts })))
      by None e = record {
        kind = (kept x (λ (d : Declaration). (k ≡ d.kind) × Unit {0}) e st h.0, tt);
        rank = kept_rank x (λ (d : Declaration). (k ≡ d.kind) × Unit {0}) e st h.0;
        deep = omega arith;
        same = refl;
        own = one;
      }
      by (Some p) e =
          let f = (names.private x p e st).0 in
          let is = element_is es fs Own p f in
          record {
            kind = subst (HasKind fs (as_expression (element p))) (sym (kind_same x k p e st h.0)) is.0;
            rank = is.1 ∙ sym (rank_none x p e st);
            deep = element_shallow es fs Own p f;
            same = refl;
            own = element_own es fs Own p f;
          }

  -- ---- all forms

  joined : (a b c d : ℕ) → a ≤ c + 1 → b ≤ d + 1 → 1 + max a b ≤ (1 + max c d) + 1
  joined a b c d h k = omega (arith, h, k)

  wider : (a b c d : ℕ) → a ≤ c + 1 → b ≤ d + 1 → max a b ≤ max c d + 1
  wider a b c d h k = omega (arith, h, k)

  under : (a b c d : ℕ) → a ≤ c + 1 → b ≤ d + 1 → max (1 + a) b ≤ max (1 + c) d + 1
  under a b c d h k = omega (arith, h, k)

  enclosed_rises : (least : ℕ) (e f : Expression) → level f ≡ level e → depth_of f ≤ depth_of e + 1 → enclosed least (level f) (depth_of f) ≤ enclosed least (level e) (depth_of e) + 1
  enclosed_rises least e f same h = subst (λ l. enclosed least l (depth_of f) ≤ enclosed least (level e) (depth_of e) + 1) (sym same) (enclosed-more least (level e) (depth_of f) (depth_of e) 1 h)

  mutual
    pub became : (e : Expression) (k : Kind) → IsPlain e → HasKind es e k → Stand (names_in e) → Became e k (expand e)
    became (Number n) k p h st = record { kind = h; rank = refl; deep = omega arith; same = refl; own = λ y i. absurd i }
    became (Logic b) k p h st = record { kind = h; rank = refl; deep = omega arith; same = refl; own = λ y i. absurd i }
    became (Named x no_subscripts) k p h st = scalar_became x k (st x (inl refl)) h
    became (Named x (subscript q qs)) k p h st =
        let none = not_private x qs k (st x (inl refl)) h.0 in
        let r = became_in (subscript q qs) p h.1 (λ y i. st y (inr i)) in
        let many : number_of_subscripts (expand_subscripts (subscript q qs)) ≡ number_of_subscripts (subscript q qs) = r.many in
        record {
          kind = (
            subst (λ n. IsSomeAnd (declared fs x) (λ (d : Declaration). (k ≡ d.kind) × (n ≡ rank_of_extent d.extent))) (sym many)
                (kept x (λ (d : Declaration). (k ≡ d.kind) × (number_of_subscripts (subscript q qs) ≡ rank_of_extent d.extent)) none (st x (inl refl)) h.0),
            r.kinds,
          );
          rank = r.rank;
          deep = r.deep;
          same = refl;
          own = own r.own;
        }
      where
        own : Owned (names_in_subscripts (expand_subscripts (subscript q qs))) → Owned (x ∷ names_in_subscripts (expand_subscripts (subscript q qs)))
        own f y (inl e) = subst Own (sym e) (names.own x (st x (inl refl)))
        own f y (inr i) = f y i
    became (Unary o a) k p h st =
        let r = became a (operand_kind o) p h.2 st in
        let d = enclosed_rises (right_least o) a (expand a) r.same r.deep in
        record { kind = (h.0, h.1, r.kind); rank = r.rank; deep = omega (arith, d); same = refl; own = r.own }
    became (Binary o a b) k p h st =
        let r = became a (operand_kind o) p.0 h.2 (front (names_in a) (names_in b) st) in
        let s = became b (operand_kind o) p.1 h.3 (rest (names_in a) (names_in b) st) in
        record {
          kind = (h.0, h.1, r.kind, s.kind, conform (rank_of es a) (rank_of es b) (rank_of fs (expand a)) (rank_of fs (expand b)) r.rank s.rank h.4);
          rank = ap₂ (λ m n. max m n) r.rank s.rank;
          deep = joined (enclosed (left_least o) (level (expand a)) (depth_of (expand a))) (enclosed (right_least o) (level (expand b)) (depth_of (expand b)))
              (enclosed (left_least o) (level a) (depth_of a)) (enclosed (right_least o) (level b) (depth_of b))
              (enclosed_rises (left_least o) a (expand a) r.same r.deep) (enclosed_rises (right_least o) b (expand b) s.same s.deep);
          same = refl;
          own = both_owned (names_in (expand a)) (names_in (expand b)) r.own s.own;
        }
    became (Apply f vs) k p h st =
        let r = became_each vs p h.3 st in
        let d = r.deep in
        record {
          kind = (subst (λ n. Rattle.std.specs.Prelude.IsTrue (Rattle.tree.specs.Functions.suits_number f n)) (sym r.many) h.0, names.functions f h.1, h.2, r.kinds);
          rank = r.rank;
          deep = omega (arith, d);
          same = refl;
          own = r.own;
        }
    became (Constructor vs ls) k p h st = absurd p
    became (Spread a n b) k p h st = absurd p
    became (Transpose a) k p h st = absurd p
    became (Reshape a vs) k p h st = absurd p
    became (Reduce r a) k p h st = absurd p

    became_each : (vs : Expressions) → EachIsPlain vs → AreArguments es vs → Stand (names_in_each vs) → BecameEach vs (expand_each vs)
    became_each no_expressions p h st = record { kinds = tt; rank = refl; deep = omega arith; many = refl; own = λ y i. absurd i }
    became_each (expression e vs) p h st =
        let r = became e Integer p.0 h.0 (front (names_in e) (names_in_each vs) st) in
        let s = became_each vs p.1 h.2 (rest (names_in e) (names_in_each vs) st) in
        record {
          kinds = (r.kind, conform (rank_of es e) (rank_of_each es vs) (rank_of fs (expand e)) (rank_of_each fs (expand_each vs)) r.rank s.rank h.1, s.kinds);
          rank = ap₂ (λ m n. max m n) r.rank s.rank;
          deep = wider (depth_of (expand e)) (depth_of_each (expand_each vs)) (depth_of e) (depth_of_each vs) r.deep s.deep;
          many = ap (λ n. 1 + n) s.many;
          own = both_owned (names_in (expand e)) (names_in_each (expand_each vs)) r.own s.own;
        }

    pub became_in : (ss : Subscripts) → ArePlain ss → AreSubscripts es ss → Stand (names_in_subscripts ss) → BecameIn ss (expand_subscripts ss)
    became_in no_subscripts p h st = record { kinds = tt; rank = refl; deep = omega arith; many = refl; own = λ y i. absurd i }
    became_in (subscript (Only e) qs) p h st =
        let r = became e Integer p.0 h.0.0 (front (names_in e) (names_in_subscripts qs) st) in
        let s = became_in qs p.1 h.1 (rest (names_in e) (names_in_subscripts qs) st) in
        record {
          kinds = ((r.kind, subst (λ n. n ≤ 1) (sym r.rank) h.0.1), s.kinds);
          rank = ap₂ (λ m n. m + n) r.rank s.rank;
          deep = under (depth_of (expand e)) (depth_of_subscripts (expand_subscripts qs)) (depth_of e) (depth_of_subscripts qs) r.deep s.deep;
          many = ap (λ n. 1 + n) s.many;
          own = both_owned (names_in (expand e)) (names_in_subscripts (expand_subscripts qs)) r.own s.own;
        }
    became_in (subscript (Section a b c) qs) p h st = absurd p.0
