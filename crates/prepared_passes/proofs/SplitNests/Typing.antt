-- Expressions in which reads become elements: their kinds, ranks, depths and names.
use Rattle.std.proofs.Common.{◌≡◌, ◌⊎◌, inl, inr, refl, sym, ap, subst, ℕ, ◌+◌, ◌≤◌, max, not, Bool, true, false, List, ◌∷◌, ◌++◌, length, arith}
use Rattle.std.specs.Option.{IsSomeAnd}
use Rattle.std.specs.Prelude.{IsTrue, cond, nat_le}
use Rattle.meaning.specs.Depths.{depth_of, depth_of_each, depth_of_subscripts, enclosed, level}
use Rattle.meaning.specs.Reads.{names_in, names_in_each, names_in_subscripts}
use Rattle.meaning.specs.Typed.{declared, number_of_arguments, number_of_subscripts, rank_of_extent}
use Rattle.meaning.specs.Typed90.{AreArguments, AreSubscripts, HasKind, IsScalar, rank_of, rank_of_each, rank_of_subscripts}
use Rattle.nest_order.proofs.orders.Lists.{In-append, In-left, In-right}
use Rattle.nest_order.specs.orders.Lists.{In}
use Rattle.nest_order.specs.runs.Touched.{ArePlain, EachIsPlain, IsPlain}
use Rattle.rewrite.proofs.Profiles.{enclosed-more}
use Rattle.tree.specs.Functions.{suits_number}
use Rattle.tree.specs.OperatorTable.{left_least, operand_kind, right_least}
use Rattle.tree.specs.Plain.{Apply, Binary, Constructor, Declaration, Expression, Expressions, Logic, Named, Number, Reference}
use Rattle.tree.specs.Plain.{Only, Reduce, Reshape, Section, Spread, Subscripts, Transpose, Unary, expression}
use Rattle.tree.specs.Plain.{no_expressions, no_subscripts, subscript}
use Rattle.tree.specs.declared.ops.Kind.{Kind}
use Rattle.tree.specs.declared.ops.Kind.TheVariants.{Integer}
use Rattle.node_splitting.specs.Counts.{count, is_counter}
use Rattle.node_splitting.specs.Reads.{read_as_expression, behind, is_copied, itself_or, read_or, reads_in, reads_of, reads_of_all, split_in, split_of, split_of_all}
use Rattle.prepared_passes.proofs.SplitNests.Reading.{AreAt, Passes, both_true, first_at, not_true, second_at}

-- ---- ranks

first_zero : (a b : ℕ) → max a b ≡ 0 → a ≡ 0
first_zero a b e = omega (arith, e)

second_zero : (a b : ℕ) → max a b ≡ 0 → b ≡ 0
second_zero a b e = omega (arith, e)

first_of_sum : (a b : ℕ) → a + b ≡ 0 → a ≡ 0
first_of_sum a b e = omega (arith, e)

second_of_sum : (a b : ℕ) → a + b ≡ 0 → b ≡ 0
second_of_sum a b e = omega (arith, e)

both_zero : (a b : ℕ) → a ≡ 0 → b ≡ 0 → max a b ≡ 0
both_zero a b e f = omega (arith, e, f)

sum_zero : (a b : ℕ) → a ≡ 0 → b ≡ 0 → a + b ≡ 0
sum_zero a b e f = omega (arith, e, f)

low : (a : ℕ) → a ≡ 0 → a ≤ 1
low a e = omega (arith, e)

-- of a name with a subscript or more
pub name_rank : (es : List Declaration) (x : List ℕ) (ss : Subscripts) → rank_of es (Named x ss) ≡ 0 → rank_of_subscripts es ss ≡ 0
name_rank es x no_subscripts e = refl
name_rank es x (subscript q qs) e = e

-- ---- what reads keep of the expressions that they stand in

-- a scalar without sections and arrays, so deep at most, whose names are these
pub record IsGood (es : List Declaration) (N : List ℕ → Type 0) (deepest : ℕ) (e : Expression) : Type 0 where
  pub kind : Kind
  pub scalar : IsScalar es e kind
  pub plain : IsPlain e
  pub names : (x : List ℕ) → In x (names_in e) → N x
  pub deep : depth_of e ≤ deepest

pub record AreGood (es : List Declaration) (N : List ℕ → Type 0) (deepest : ℕ) (vs : Expressions) : Type 0 where
  pub kinds : AreArguments es vs
  pub rank : rank_of_each es vs ≡ 0
  pub plain : EachIsPlain vs
  pub names : (x : List ℕ) → In x (names_in_each vs) → N x
  pub deep : depth_of_each vs ≤ deepest

pub record AreGoodIn (es : List Declaration) (N : List ℕ → Type 0) (deepest : ℕ) (ss : Subscripts) : Type 0 where
  pub kinds : AreSubscripts es ss
  pub rank : rank_of_subscripts es ss ≡ 0
  pub plain : ArePlain ss
  pub names : (x : List ℕ) → In x (names_in_subscripts ss) → N x
  pub deep : depth_of_subscripts ss ≤ deepest

module _ (es : List Declaration) (N : List ℕ → Type 0) (deepest : ℕ) where
  inside : (least own d : ℕ) → 1 + enclosed least own d ≤ deepest → d ≤ deepest
  inside least own d h = by (nat_le least own) h
    where
      by : (b : Bool) → 1 + cond b d (1 + d) ≤ deepest → d ≤ deepest
      by true g = omega (arith, g)
      by false g = omega (arith, g)

  left_part : (a b : ℕ) → 1 + max a b ≤ deepest → 1 + a ≤ deepest
  left_part a b h = omega (arith, h)

  right_part : (a b : ℕ) → 1 + max a b ≤ deepest → 1 + b ≤ deepest
  right_part a b h = omega (arith, h)

  pub good_passes : Passes (IsGood es N deepest) (AreGood es N deepest) (AreGoodIn es N deepest)
  good_passes = record {
    named = λ x ss h. record { kinds = h.scalar.0.1; rank = name_rank es x ss h.scalar.1; plain = h.plain; names = λ y i. h.names y (inr i); deep = h.deep };
    unary = λ o a h. record { kind = operand_kind o; scalar = (h.scalar.0.2, h.scalar.1); plain = h.plain; names = h.names; deep = inside (right_least o) (level a) (depth_of a) h.deep };
    binary = λ o a b h. (
      record {
        kind = operand_kind o;
        scalar = (h.scalar.0.2, first_zero (rank_of es a) (rank_of es b) h.scalar.1);
        plain = h.plain.0;
        names = λ y i. h.names y (In-left y (names_in a) (names_in b) i);
        deep = inside (left_least o) (level a) (depth_of a) (left_part (enclosed (left_least o) (level a) (depth_of a)) (enclosed (right_least o) (level b) (depth_of b)) h.deep);
      },
      record {
        kind = operand_kind o;
        scalar = (h.scalar.0.3, second_zero (rank_of es a) (rank_of es b) h.scalar.1);
        plain = h.plain.1;
        names = λ y i. h.names y (In-right y (names_in a) (names_in b) i);
        deep = inside (right_least o) (level b) (depth_of b) (right_part (enclosed (left_least o) (level a) (depth_of a)) (enclosed (right_least o) (level b) (depth_of b)) h.deep);
      },
    );
    apply = λ f vs h. record { kinds = h.scalar.0.3; rank = h.scalar.1; plain = h.plain; names = h.names; deep = (let d = h.deep in omega (arith, d)) };
    each = λ e vs h. (
      record {
        kind = Integer;
        scalar = (h.kinds.0, first_zero (rank_of es e) (rank_of_each es vs) h.rank);
        plain = h.plain.0;
        names = λ y i. h.names y (In-left y (names_in e) (names_in_each vs) i);
        deep = (let d = h.deep in omega (arith, d));
      },
      record {
        kinds = h.kinds.2;
        rank = second_zero (rank_of es e) (rank_of_each es vs) h.rank;
        plain = h.plain.1;
        names = λ y i. h.names y (In-right y (names_in e) (names_in_each vs) i);
        deep = (let d = h.deep in omega (arith, d));
      },
    );
    only = λ e ss h. record {
      kind = Integer;
      scalar = (h.kinds.0.0, first_of_sum (rank_of es e) (rank_of_subscripts es ss) h.rank);
      plain = h.plain.0;
      names = λ y i. h.names y (In-left y (names_in e) (names_in_subscripts ss) i);
      deep = (let d = h.deep in omega (arith, d));
    };
    more = λ e ss h. record {
      kinds = h.kinds.1;
      rank = second_of_sum (rank_of es e) (rank_of_subscripts es ss) h.rank;
      plain = h.plain.1;
      names = λ y i. h.names y (In-right y (names_in e) (names_in_subscripts ss) i);
      deep = (let d = h.deep in omega (arith, d));
    };
    section = λ a b c ss h. absurd h.plain.0;
  }

-- ---- elements

-- what may stand in the place of a read of this kind
pub record IsElementOf (es : List Declaration) (Own : List ℕ → Type 0) (r : Reference) (k : Kind) : Type 0 where
  pub scalar : IsScalar es (read_as_expression r) k
  pub shallow : depth_of (read_as_expression r) ≤ 1
  pub plain : IsPlain (read_as_expression r)
  pub own : (y : List ℕ) → In y (names_in (read_as_expression r)) → Own y

module _ (es : List Declaration) (loops : List (List ℕ)) (may : ℕ → Bool) (element : ℕ → Reference) (Own : List ℕ → Type 0) where
  -- the element with a number fits the read that it is for
  abbrev pub Fits : ℕ → Reference → Type 0
  Fits c r = (k : Kind) → IsScalar es (read_as_expression r) k → is_counter loops r.name r.subscripts ≡ false → IsElementOf es Own (element c) k

  abbrev Owned : List (List ℕ) → Type 0
  Owned xs = (x : List ℕ) → In x xs → Own x

  both_owned : (xs ys : List (List ℕ)) → Owned xs → Owned ys → Owned (xs ++ ys)
  both_owned xs ys f g y i = by (In-append y xs ys i)
    where
      by : In y xs ⊎ In y ys → Own y
      by (inl j) = f y j
      by (inr j) = g y j

  front : (xs ys : List (List ℕ)) → Owned (xs ++ ys) → Owned xs
  front xs ys h x i = h x (In-left x xs ys i)

  rest : (xs ys : List (List ℕ)) → Owned (xs ++ ys) → Owned ys
  rest xs ys h x i = h x (In-right x xs ys i)

  pub record Became (e : Expression) (k : Kind) (f : Expression) : Type 0 where
    pub scalar : IsScalar es f k
    pub plain : IsPlain f
    pub deep : depth_of f ≤ depth_of e + 1
    pub same : level f ≡ level e
    pub own : Owned (names_in f)

  record BecameEach (vs ws : Expressions) : Type 0 where
    kinds : AreArguments es ws
    rank : rank_of_each es ws ≡ 0
    plain : EachIsPlain ws
    deep : depth_of_each ws ≤ depth_of_each vs + 1
    many : number_of_arguments ws ≡ number_of_arguments vs
    own : Owned (names_in_each ws)

  pub record BecameIn (ss ts : Subscripts) : Type 0 where
    pub kinds : AreSubscripts es ts
    pub rank : rank_of_subscripts es ts ≡ 0
    pub plain : ArePlain ts
    pub deep : depth_of_subscripts ts ≤ depth_of_subscripts ss + 1
    pub many : number_of_subscripts ts ≡ number_of_subscripts ss
    pub own : Owned (names_in_subscripts ts)

  joined : (a b c d : ℕ) → a ≤ c + 1 → b ≤ d + 1 → 1 + max a b ≤ (1 + max c d) + 1
  joined a b c d h k = omega (arith, h, k)

  wider : (a b c d : ℕ) → a ≤ c + 1 → b ≤ d + 1 → max a b ≤ max c d + 1
  wider a b c d h k = omega (arith, h, k)

  under : (a b c d : ℕ) → a ≤ c + 1 → b ≤ d + 1 → max (1 + a) b ≤ max (1 + c) d + 1
  under a b c d h k = omega (arith, h, k)

  enclosed_rises : (least : ℕ) (e f : Expression) → level f ≡ level e → depth_of f ≤ depth_of e + 1 → enclosed least (level f) (depth_of f) ≤ enclosed least (level e) (depth_of e) + 1
  enclosed_rises least e f same h = subst (λ l. enclosed least l (depth_of f) ≤ enclosed least (level e) (depth_of e) + 1) (sym same) (enclosed-more least (level e) (depth_of f) (depth_of e) 1 h)

  -- a name with its subscripts split
  pub named_became : (x : List ℕ) (ss ts : Subscripts) (k : Kind) → HasKind es (Named x ss) k → rank_of es (Named x ss) ≡ 0 → Own x → BecameIn ss ts → Became (Named x ss) k (Named x ts)
  named_became x ss ts k h z o r = by ss ts h z r
    where
      own : (qs : Subscripts) → Owned (names_in_subscripts qs) → Owned (x ∷ names_in_subscripts qs)
      own qs f y (inl e) = subst Own (sym e) o
      own qs f y (inr i) = f y i

      by : (ss ts : Subscripts) → HasKind es (Named x ss) k → rank_of es (Named x ss) ≡ 0 → BecameIn ss ts → Became (Named x ss) k (Named x ts)
      by no_subscripts no_subscripts h z r = record { scalar = ((h.0, tt), z); plain = tt; deep = omega arith; same = refl; own = own no_subscripts (λ y i. absurd i) }
      by no_subscripts (subscript q qs) h z r = let bad : number_of_subscripts (subscript q qs) ≡ 0 = r.many in absurd (omega (arith, bad))
      by (subscript p ps) no_subscripts h z r = let bad : 0 ≡ number_of_subscripts (subscript p ps) = r.many in absurd (omega (arith, bad))
      by (subscript p ps) (subscript q qs) h z r = record {
        scalar = (
          (subst (λ n. IsSomeAnd (declared es x) (λ (d : Declaration). (k ≡ d.kind) × (n ≡ rank_of_extent d.extent))) (sym r.many) h.0, r.kinds),
          r.rank,
        );
        plain = r.plain;
        deep = r.deep;
        same = refl;
        own = own (subscript q qs) r.own;
      }

  -- a read, or the name with its subscripts split
  one_became : (b : Bool) (q c : ℕ) (x : List ℕ) (ss ts : Subscripts) (k : Kind) (rs : List Reference) → is_copied loops may q x ss ≡ b → IsScalar es (Named x ss) k
      → AreAt Fits c (itself_or b (record { name = x; subscripts = ss }) rs) → Own x → (AreAt Fits c rs → BecameIn ss ts)
      → Became (Named x ss) k (read_or b (element c) (Named x ts))
  one_became true q c x ss ts k rs e h fit o f =
      let b = both_true (not (is_counter loops x ss)) (may q) e in
      let r = fit.0 k h (not_true (is_counter loops x ss) b.0) in
      record {
        scalar = r.scalar;
        plain = r.plain;
        deep = (let d = r.shallow in omega (arith, d));
        same = refl;
        own = r.own;
      }
  one_became false q c x ss ts k rs e h fit o f = named_became x ss ts k h.0 h.1 o (f fit)

  mutual
    pub became : (q c : ℕ) (e : Expression) (k : Kind) → IsPlain e → IsScalar es e k → Owned (names_in e) → AreAt Fits c (reads_of loops may q e) → Became e k (split_of loops may element q c e)
    became q c (Number n) k p h o fit = record { scalar = h; plain = tt; deep = omega arith; same = refl; own = λ y i. absurd i }
    became q c (Logic b) k p h o fit = record { scalar = h; plain = tt; deep = omega arith; same = refl; own = λ y i. absurd i }
    became q c (Named x ss) k p h o fit =
        one_became (is_copied loops may q x ss) q c x ss (split_in loops may element (behind loops may q x ss) c ss) k (reads_in loops may (behind loops may q x ss) ss) refl h fit (o x (inl refl))
        (λ g. became_in (behind loops may q x ss) c ss p h.0.1 (name_rank es x ss h.1) (λ y i. o y (inr i)) g)
    became q c (Unary w a) k p h o fit =
        let r = became q c a (operand_kind w) p (h.0.2, h.1) o fit in
        let d = enclosed_rises (right_least w) a (split_of loops may element q c a) r.same r.deep in
        record { scalar = ((h.0.0, h.0.1, r.scalar.0), r.scalar.1); plain = r.plain; deep = omega (arith, d); same = refl; own = r.own }
    became q c (Binary w a b) k p h o fit =
        let q2 = q + count loops a in
        let c2 = c + length (reads_of loops may q a) in
        let r = became q c a (operand_kind w) p.0 (h.0.2, first_zero (rank_of es a) (rank_of es b) h.1) (front (names_in a) (names_in b) o) (first_at Fits c (reads_of loops may q a) (reads_of loops may q2 b) fit) in
        let s = became q2 c2 b (operand_kind w) p.1 (h.0.3, second_zero (rank_of es a) (rank_of es b) h.1) (rest (names_in a) (names_in b) o) (second_at Fits c (reads_of loops may q a) (reads_of loops may q2 b) fit) in
        record {
          scalar = ((h.0.0, h.0.1, r.scalar.0, s.scalar.0, inl r.scalar.1), both_zero (rank_of es (split_of loops may element q c a)) (rank_of es (split_of loops may element q2 c2 b)) r.scalar.1 s.scalar.1);
          plain = (r.plain, s.plain);
          deep = joined (enclosed (left_least w) (level (split_of loops may element q c a)) (depth_of (split_of loops may element q c a)))
              (enclosed (right_least w) (level (split_of loops may element q2 c2 b)) (depth_of (split_of loops may element q2 c2 b)))
              (enclosed (left_least w) (level a) (depth_of a)) (enclosed (right_least w) (level b) (depth_of b))
              (enclosed_rises (left_least w) a (split_of loops may element q c a) r.same r.deep) (enclosed_rises (right_least w) b (split_of loops may element q2 c2 b) s.same s.deep);
          same = refl;
          own = both_owned (names_in (split_of loops may element q c a)) (names_in (split_of loops may element q2 c2 b)) r.own s.own;
        }
    became q c (Apply f vs) k p h o fit =
        let r = became_each q c vs p h.0.3 h.1 o fit in
        let d = r.deep in
        record {
          scalar = ((subst (λ n. IsTrue (suits_number f n)) (sym r.many) h.0.0, h.0.1, h.0.2, r.kinds), r.rank);
          plain = r.plain;
          deep = omega (arith, d);
          same = refl;
          own = r.own;
        }
    became q c (Constructor vs ls) k p h o fit = absurd p
    became q c (Spread a n b) k p h o fit = absurd p
    became q c (Transpose a) k p h o fit = absurd p
    became q c (Reshape a vs) k p h o fit = absurd p
    became q c (Reduce w a) k p h o fit = absurd p

    became_each : (q c : ℕ) (vs : Expressions) → EachIsPlain vs → AreArguments es vs → rank_of_each es vs ≡ 0 → Owned (names_in_each vs) → AreAt Fits c (reads_of_all loops may q vs)
        → BecameEach vs (split_of_all loops may element q c vs)
    became_each q c no_expressions p h z o fit = record { kinds = tt; rank = refl; plain = tt; deep = omega arith; many = refl; own = λ y i. absurd i }
    became_each q c (expression e vs) p h z o fit =
        let q2 = q + count loops e in
        let c2 = c + length (reads_of loops may q e) in
        let r = became q c e Integer p.0 (h.0, first_zero (rank_of es e) (rank_of_each es vs) z) (front (names_in e) (names_in_each vs) o) (first_at Fits c (reads_of loops may q e) (reads_of_all loops may q2 vs) fit) in
        let s = became_each q2 c2 vs p.1 h.2 (second_zero (rank_of es e) (rank_of_each es vs) z) (rest (names_in e) (names_in_each vs) o) (second_at Fits c (reads_of loops may q e) (reads_of_all loops may q2 vs) fit) in
        record {
          kinds = (r.scalar.0, inl r.scalar.1, s.kinds);
          rank = both_zero (rank_of es (split_of loops may element q c e)) (rank_of_each es (split_of_all loops may element q2 c2 vs)) r.scalar.1 s.rank;
          plain = (r.plain, s.plain);
          deep = wider (depth_of (split_of loops may element q c e)) (depth_of_each (split_of_all loops may element q2 c2 vs)) (depth_of e) (depth_of_each vs) r.deep s.deep;
          many = ap (λ n. 1 + n) s.many;
          own = both_owned (names_in (split_of loops may element q c e)) (names_in_each (split_of_all loops may element q2 c2 vs)) r.own s.own;
        }

    pub became_in : (q c : ℕ) (ss : Subscripts) → ArePlain ss → AreSubscripts es ss → rank_of_subscripts es ss ≡ 0 → Owned (names_in_subscripts ss) → AreAt Fits c (reads_in loops may q ss)
        → BecameIn ss (split_in loops may element q c ss)
    became_in q c no_subscripts p h z o fit = record { kinds = tt; rank = refl; plain = tt; deep = omega arith; many = refl; own = λ y i. absurd i }
    became_in q c (subscript (Only e) ss) p h z o fit =
        let q2 = q + count loops e in
        let c2 = c + length (reads_of loops may q e) in
        let r = became q c e Integer p.0 (h.0.0, first_of_sum (rank_of es e) (rank_of_subscripts es ss) z) (front (names_in e) (names_in_subscripts ss) o) (first_at Fits c (reads_of loops may q e) (reads_in loops may q2 ss) fit) in
        let s = became_in q2 c2 ss p.1 h.1 (second_of_sum (rank_of es e) (rank_of_subscripts es ss) z) (rest (names_in e) (names_in_subscripts ss) o) (second_at Fits c (reads_of loops may q e) (reads_in loops may q2 ss) fit) in
        record {
          kinds = ((r.scalar.0, low (rank_of es (split_of loops may element q c e)) r.scalar.1), s.kinds);
          rank = sum_zero (rank_of es (split_of loops may element q c e)) (rank_of_subscripts es (split_in loops may element q2 c2 ss)) r.scalar.1 s.rank;
          plain = (r.plain, s.plain);
          deep = under (depth_of (split_of loops may element q c e)) (depth_of_subscripts (split_in loops may element q2 c2 ss)) (depth_of e) (depth_of_subscripts ss) r.deep s.deep;
          many = ap (λ n. 1 + n) s.many;
          own = both_owned (names_in (split_of loops may element q c e)) (names_in_subscripts (split_in loops may element q2 c2 ss)) r.own s.own;
        }
    became_in q c (subscript (Section a b d) ss) p h z o fit = absurd p.0
