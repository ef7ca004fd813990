-- Expressions in which variables get other names: their kinds, ranks, depths and names.
use Rattle.std.proofs.Common.{◌≡◌, ◌⊎◌, inl, inr, refl, sym, ap, ap₂, ◌∙◌, subst, ℕ, ◌+◌, ◌≤◌, max, List, [], ◌∷◌, ◌++◌, Option, Some, None}
use Rattle.std.specs.Option.{IsSomeAnd}
use Rattle.meaning.specs.Depths.{depth_of, depth_of_each, depth_of_subscripts, enclosed, level}
use Rattle.meaning.specs.Reads.{names_in, names_in_each, names_in_subscripts}
use Rattle.meaning.specs.Typed.{declared, number_of_arguments, number_of_subscripts, rank_of_extent}
use Rattle.meaning.specs.Typed90.{AreArguments, AreSubscripts, Conform, HasKind, rank_of, rank_of_each}
use Rattle.meaning.specs.Typed90.{rank_of_subscripts}
use Rattle.nest_order.proofs.orders.Lists.{In-append, In-left, In-right}
use Rattle.nest_order.specs.orders.Lists.{In}
use Rattle.nest_order.specs.runs.Touched.{ArePlain, EachIsPlain, IsPlain}
use Rattle.rewrite.specs.Making.{made, made_expressions, made_subscripts}
use Rattle.tree.specs.Functions.{suits_number}
use Rattle.tree.specs.OperatorTable.{left_least, operand_kind, right_least}
use Rattle.tree.specs.Plain.{Apply, Binary, Constructor, Declaration, Expression, Expressions, Given, Logic, Named, Number}
use Rattle.tree.specs.Plain.{Only, Reduce, Reshape, Section, Spread, Subscripts, Transpose, Unary, expression}
use Rattle.tree.specs.Plain.{no_expressions, no_subscripts, subscript}
use Rattle.tree.specs.declared.ops.Kind.{Kind}
use Rattle.tree.specs.declared.ops.Kind.TheVariants.{Integer}
use Rattle.std.specs.Prelude.{IsTrue}
use Rattle.prepared_passes.proofs.RenamedNests.Settled.{by_names}

abbrev pub IsScalarOf : List Declaration → Kind → List ℕ → Type 0
IsScalarOf es k x = IsSomeAnd (declared es x) (λ (d : Declaration). (d.kind ≡ k) × (d.extent ≡ Given []))

-- x keeps its name, or both are scalars of one kind
pub record IsNamedSo (es : List Declaration) (Own : List ℕ → Type 0) (x y : List ℕ) : Type 0 where
  pub kind : Kind
  pub old : IsScalarOf es kind x
  pub new : IsScalarOf es kind y
  pub own : Own y

module _ (es : List Declaration) (Own Stands : List ℕ → Type 0) (f : List ℕ → List ℕ) (named : (x : List ℕ) → (f x ≡ x) ⊎ IsNamedSo es Own x (f x))
    (owned : (x : List ℕ) → Stands x → Own x) where
  abbrev new : Expression → Expression
  new = made (by_names f)

  abbrev new_each : Expressions → Expressions
  new_each = made_expressions (by_names f)

  abbrev new_subscripts : Subscripts → Subscripts
  new_subscripts = made_subscripts (by_names f)

  abbrev Stand : List (List ℕ) → Type 0
  Stand xs = (x : List ℕ) → In x xs → Stands x

  front : (xs ys : List (List ℕ)) → Stand (xs ++ ys) → Stand xs
  front xs ys h x i = h x (In-left x xs ys i)

  rest : (xs ys : List (List ℕ)) → Stand (xs ++ ys) → Stand ys
  rest xs ys h x i = h x (In-right x xs ys i)

  abbrev Owned : List (List ℕ) → Type 0
  Owned ys = (y : List ℕ) → In y ys → Own y

  both_owned : (xs ys : List (List ℕ)) → Owned xs → Owned ys → Owned (xs ++ ys)
  both_owned xs ys g h y i = by (In-append y xs ys i)
    where
      by : In y xs ⊎ In y ys → Own y
      by (inl j) = g y j
      by (inr j) = h y j

  pub record Became (e : Expression) (k : Kind) (d : Expression) : Type 0 where
    pub kind : HasKind es d k
    pub rank : rank_of es d ≡ rank_of es e
    pub deep : depth_of d ≡ depth_of e
    pub same : level d ≡ level e
    pub own : Owned (names_in d)

  record BecameEach (vs ws : Expressions) : Type 0 where
    kinds : AreArguments es ws
    rank : rank_of_each es ws ≡ rank_of_each es vs
    deep : depth_of_each ws ≡ depth_of_each vs
    many : number_of_arguments ws ≡ number_of_arguments vs
    own : Owned (names_in_each ws)

  pub record BecameIn (ss ts : Subscripts) : Type 0 where
    pub kinds : AreSubscripts es ts
    pub rank : rank_of_subscripts es ts ≡ rank_of_subscripts es ss
    pub deep : depth_of_subscripts ts ≡ depth_of_subscripts ss
    pub many : number_of_subscripts ts ≡ number_of_subscripts ss
    pub own : Owned (names_in_subscripts ts)

  conform : (a b c d : ℕ) → c ≡ a → d ≡ b → Conform a b → Conform c d
  conform a b c d e g h = subst (λ x. Conform x d) (sym e) (subst (λ y. Conform a y) (sym g) h)

  -- ---- names

  kind_same : (o : Option Declaration) (k j : Kind) → IsSomeAnd o (λ (d : Declaration). (d.kind ≡ j) × (d.extent ≡ Given [])) → IsSomeAnd o (λ (d : Declaration). (k ≡ d.kind) × Unit {0}) → k ≡ j
  kind_same None k j a b = absurd a
  kind_same (Some d) k j a b = b.0 ∙ a.0

  has_kind : (o : Option Declaration) (k j : Kind) → k ≡ j → IsSomeAnd o (λ (d : Declaration). (d.kind ≡ j) × (d.extent ≡ Given [])) → IsSomeAnd o (λ (d : Declaration). (k ≡ d.kind) × Unit {0})
  has_kind None k j e a = absurd a
  has_kind (Some d) k j e a = (e ∙ sym a.0, tt)

  no_rank : (o : Option Declaration) (j : Kind) → IsSomeAnd o (λ (d : Declaration). (d.kind ≡ j) × (d.extent ≡ Given [])) → ◌≡◌ {A = ℕ} (elim o [ None ↦ 0 | Some d ↦ rank_of_extent d.extent ]) 0
  no_rank None j a = absurd a
  no_rank (Some d) j a = ap rank_of_extent a.1

  pub scalar_became : (x : List ℕ) (k : Kind) → Stands x → HasKind es (Named x no_subscripts) k → Became (Named x no_subscripts) k (Named (f x) no_subscripts)
  scalar_became x k st h = by (named x)
    where
      one : (y : List ℕ) → Own y → (z : List ℕ) → In z (y ∷ []) → Own z
      one y o z (inl e) = subst Own (sym e) o
      one y o z (inr i) = absurd i

      by : (f x ≡ x) ⊎ IsNamedSo es Own x (f x) → Became (Named x no_subscripts) k (Named (f x) no_subscripts)
      by (inl e) =
          subst (λ y. Became (Named x no_subscripts) k (Named y no_subscripts)) (sym e)
          (record { kind = h; rank = refl; deep = refl; same = refl; own = one x (owned x st) })
      by (inr q) = record {
        kind = (has_kind (declared es (f x)) k q.kind (kind_same (declared es x) k q.kind q.old h.0) q.new, tt);
        rank = no_rank (declared es (f x)) q.kind q.new ∙ sym (no_rank (declared es x) q.kind q.old);
        deep = refl;
        same = refl;
        own = one (f x) q.own;
      }

  -- ---- all forms

  mutual
    pub became : (e : Expression) (k : Kind) → IsPlain e → HasKind es e k → Stand (names_in e) → Became e k (new e)
    became (Number n) k p h st = record { kind = h; rank = refl; deep = refl; same = refl; own = λ y i. absurd i }
    became (Logic b) k p h st = record { kind = h; rank = refl; deep = refl; same = refl; own = λ y i. absurd i }
    became (Named x no_subscripts) k p h st = scalar_became x k (st x (inl refl)) h
    became (Named x (subscript q qs)) k p h st =
        let r = became_in (subscript q qs) p h.1 (λ y i. st y (inr i)) in
        let many : number_of_subscripts (new_subscripts (subscript q qs)) ≡ number_of_subscripts (subscript q qs) = r.many in
        record {
          kind = (subst (λ n. IsSomeAnd (declared es x) (λ (d : Declaration). (k ≡ d.kind) × (n ≡ rank_of_extent d.extent))) (sym many) h.0, r.kinds);
          rank = r.rank;
          deep = r.deep;
          same = refl;
          own = own r.own;
        }
      where
        own : Owned (names_in_subscripts (new_subscripts (subscript q qs))) → Owned (x ∷ names_in_subscripts (new_subscripts (subscript q qs)))
        own g y (inl e) = subst Own (sym e) (owned x (st x (inl refl)))
        own g y (inr i) = g y i
    became (Unary o a) k p h st =
        let r = became a (operand_kind o) p h.2 st in
        record { kind = (h.0, h.1, r.kind); rank = r.rank; deep = ap₂ (λ (l d : ℕ). 1 + enclosed (right_least o) l d) r.same r.deep; same = refl; own = r.own }
    became (Binary o a b) k p h st =
        let r = became a (operand_kind o) p.0 h.2 (front (names_in a) (names_in b) st) in
        let s = became b (operand_kind o) p.1 h.3 (rest (names_in a) (names_in b) st) in
        record {
          kind = (h.0, h.1, r.kind, s.kind, conform (rank_of es a) (rank_of es b) (rank_of es (new a)) (rank_of es (new b)) r.rank s.rank h.4);
          rank = ap₂ (λ m n. max m n) r.rank s.rank;
          deep = ap₂ (λ m n. 1 + max m n) (ap₂ (enclosed (left_least o)) r.same r.deep) (ap₂ (enclosed (right_least o)) s.same s.deep);
          same = refl;
          own = both_owned (names_in (new a)) (names_in (new b)) r.own s.own;
        }
    became (Apply g vs) k p h st =
        let r = became_each vs p h.3 st in
        record {
          kind = (subst (λ n. IsTrue (suits_number g n)) (sym r.many) h.0, h.1, h.2, r.kinds);
          rank = r.rank;
          deep = ap (λ n. 1 + n) r.deep;
          same = refl;
          own = r.own;
        }
    became (Constructor vs ls) k p h st = absurd p
    became (Spread a n b) k p h st = absurd p
    became (Transpose a) k p h st = absurd p
    became (Reshape a vs) k p h st = absurd p
    became (Reduce r a) k p h st = absurd p

    became_each : (vs : Expressions) → EachIsPlain vs → AreArguments es vs → Stand (names_in_each vs) → BecameEach vs (new_each vs)
    became_each no_expressions p h st = record { kinds = tt; rank = refl; deep = refl; many = refl; own = λ y i. absurd i }
    became_each (expression e vs) p h st =
        let r = became e Integer p.0 h.0 (front (names_in e) (names_in_each vs) st) in
        let s = became_each vs p.1 h.2 (rest (names_in e) (names_in_each vs) st) in
        record {
          kinds = (r.kind, conform (rank_of es e) (rank_of_each es vs) (rank_of es (new e)) (rank_of_each es (new_each vs)) r.rank s.rank h.1, s.kinds);
          rank = ap₂ (λ m n. max m n) r.rank s.rank;
          deep = ap₂ (λ m n. max m n) r.deep s.deep;
          many = ap (λ n. 1 + n) s.many;
          own = both_owned (names_in (new e)) (names_in_each (new_each vs)) r.own s.own;
        }

    pub became_in : (ss : Subscripts) → ArePlain ss → AreSubscripts es ss → Stand (names_in_subscripts ss) → BecameIn ss (new_subscripts ss)
    became_in no_subscripts p h st = record { kinds = tt; rank = refl; deep = refl; many = refl; own = λ y i. absurd i }
    became_in (subscript (Only e) qs) p h st =
        let r = became e Integer p.0 h.0.0 (front (names_in e) (names_in_subscripts qs) st) in
        let s = became_in qs p.1 h.1 (rest (names_in e) (names_in_subscripts qs) st) in
        record {
          kinds = ((r.kind, subst (λ n. n ≤ 1) (sym r.rank) h.0.1), s.kinds);
          rank = ap₂ (λ m n. m + n) r.rank s.rank;
          deep = ap₂ (λ m n. max (1 + m) n) r.deep s.deep;
          many = ap (λ n. 1 + n) s.many;
          own = both_owned (names_in (new e)) (names_in_subscripts (new_subscripts qs)) r.own s.own;
        }
    became_in (subscript (Section a b c) qs) p h st = absurd p.0
