-- The kind and the rank that are found of an expression are those that it has.
use Rattle.std.proofs.Common.{◌≡◌, ◌≢◌, inl, inr, ℕ, ◌+◌, ◌==◌, max, ◌&&◌, cond, refl, sym, ap, ◌∙◌, subst, arith}
use Rattle.std.proofs.Common.{Option, None, Some, Decides, nat_le, List}
use Rattle.std.proofs.lemmas.Bool.{ne_eqb, cond-false}
use Rattle.std.proofs.lemmas.Bool.Decides.{Decides-eqb, Decides-and}
use Rattle.std.specs.Option.{IsSomeAnd}
use Rattle.tree.specs.Plain.{Expression, Number, Logic, Named, Unary, Binary, Apply, Constructor, Spread, Transpose}
use Rattle.tree.specs.Plain.{Reshape, Reduce}
use Rattle.tree.specs.Plain.{Expressions, no_expressions, expression, Subscript, Only, Section, Subscripts}
use Rattle.tree.specs.Plain.{no_subscripts, subscript, Loops, no_loops, loop, Declaration}
use Rattle.tree.specs.declared.ops.Kind.{Kind}
use Rattle.tree.specs.declared.ops.Kind.TheVariants.{Integer, Logical}
use Rattle.tree.specs.declared.functions.Intrinsic.{Intrinsic}
use Rattle.tree.specs.declared.functions.Intrinsic.TheVariants as intrinsics
use Rattle.tree.specs.Functions.{name_of_intrinsic}
use Rattle.meaning.specs.Typed.{number_of_arguments, number_of_subscripts, rank_of_extent, declared}
use Rattle.meaning.specs.Typed90.{Conform, SuitsDimensions, SuitsLoops, IsFree, rank_of, rank_of_each}
use Rattle.meaning.specs.Typed90.{rank_of_subscripts, rank_of_subscript, HasKind, AreArguments, AreScalars}
use Rattle.meaning.specs.Typed90.{AreSubscripts, IsSubscript, AreLoops}
use Rattle.f90_names.specs.declared.kinds.declarations.names.Declared.{Declared}
use Rattle.f90_names.specs.kinds.declarations.Names.{Tells}
use Rattle.f90_names.specs.declared.kinds.nodes.Ranked.{Ranked}
use Rattle.f90_names.specs.kinds.Kinds.{IsKindOf}
use Rattle.f90_names.specs.kinds.Found.{ranked, ranked_if, same_kind, is_scalar, conform, name_with, with_argument}
use Rattle.f90_names.specs.kinds.Found.{with_scalar, is_integer_scalar, suits_loop, is_unknown, number_of_loops, is_free}
use Rattle.f90_names.specs.kinds.Found.{kind_in, common_rank, common_kind, are_scalars, are_loops, rank_of_all, rank_in}
use Rattle.f90_names.proofs.kinds.Exact.{Exact, ExactRank, Decides-same, Decides-leb, Decides-conform, Decides-found}
use Rattle.f90_names.proofs.kinds.Exact.{Decides-rank, Decides-scalar, none_some, chosen, chosen_by, tested, reworded}
use Rattle.f90_names.proofs.kinds.Exact.{literal-is, unary-is, binary-is, call-is, spread-is, transpose-is, reshape-is}
use Rattle.f90_names.proofs.kinds.Exact.{reduce-is, constructor-is, only-is, section-is}

-- ---- names

unknown-is : (o : Option Declared) (d : Option Declaration) → Tells o d → Decides (is_unknown o) (d ≡ None)
unknown-is None None t = (λ e. refl, λ e. refl)
unknown-is None (Some d) t = absurd t
unknown-is (Some k) None t = absurd t
unknown-is (Some k) (Some d) t = (λ e. absurd (cc), λ e. absurd (cc))

pub integer-is : (o : Option Declared) (d : Option Declaration) → Tells o d
    → Decides (is_integer_scalar o) (IsSomeAnd d (λ (e : Declaration). (e.kind ≡ Integer)
    × (rank_of_extent e.extent ≡ 0)))
integer-is None None t = (λ e. absurd (cc), λ h. absurd h)
integer-is None (Some d) t = absurd t
integer-is (Some k) None t = absurd t
integer-is (Some k) (Some d) t =
    let same = Decides-and (same_kind k.kind Integer) (k.rank == 0) (Decides-same k.kind Integer)
    (Decides-eqb k.rank 0) in
    (λ e. (sym t.kind ∙ (same.0 e).0, sym t.rank ∙ (same.0 e).1), λ h. same.1 (t.kind ∙ h.0, t.rank ∙ h.1))

abbrev rank_of_declared : Option Declaration → ℕ
rank_of_declared o = elim o [ None ↦ 0 | Some d ↦ rank_of_extent d.extent ]

abbrev SuitsName : Option Declaration → Subscripts → Kind → Type 0
SuitsName o ps k = IsSomeAnd o (λ (d : Declaration). (k ≡ d.kind) × SuitsDimensions ps (rank_of_extent d.extent))

alone-is : (o : Option Declared) (d : Option Declaration) → Tells o d
    → Exact (λ k. SuitsName d no_subscripts k × Unit {0}) (rank_of_declared d) (name_with o 0 (Some 0))
alone-is None None t = record { whole = λ k h. absurd h.0; right = λ r e. absurd (none_some r e) }
alone-is None (Some d) t = absurd t
alone-is (Some k) None t = absurd t
alone-is (Some k) (Some d) t = record {
  whole = λ j h. ap (λ n. Some (ranked k.kind n)) t.rank ∙ ap (λ i. Some (ranked i (rank_of_extent d.extent)))
      (t.kind ∙ sym h.0.0);
  right = λ r e. let f : ranked k.kind k.rank ≡ r = cc in
      (((sym (ap (λ (q : Ranked). q.kind) f) ∙ t.kind, tt), tt), sym t.rank ∙ ap (λ (q : Ranked). q.rank) f);
}

listed-is : (o : Option Declared) (d : Option Declaration) → Tells o d → (n : ℕ) (A : Type 0) (r : ℕ) (q : Option ℕ)
    → n ≢ 0 → ExactRank A r q
    → Exact (λ k. IsSomeAnd d (λ (e : Declaration). (k ≡ e.kind) × (n ≡ rank_of_extent e.extent)) × A) r
    (name_with o n q)
listed-is None None t n A r q some x = record { whole = λ k h. absurd h.0; right = λ r e. absurd (none_some r e) }
listed-is None (Some d) t n A r q some x = absurd t
listed-is (Some k) None t n A r q some x = absurd t
listed-is (Some k) (Some d) t n A r None some x = record {
  whole = λ j h. absurd (none_some r (x.whole h.1));
  right =
      λ s e. absurd (none_some s e);
}
listed-is (Some k) (Some d) t n A r (Some m) some x =
    subst (λ o. Exact (λ j. ((j ≡ d.kind) × (n ≡ rank_of_extent d.extent)) × A) r o)
    (sym (cond-false (n == 0) (Some (ranked k.kind k.rank)) (ranked_if (n == k.rank) k.kind m) (ne_eqb n 0 some)))
    (reworded (λ j. (j ≡ k.kind) × (n ≡ k.rank)) (λ j. ((j ≡ d.kind) × (n ≡ rank_of_extent d.extent)) × A) m r
    (ranked_if (n == k.rank) k.kind m)
    (tested (n == k.rank) (n ≡ k.rank) k.kind m (Decides-eqb n k.rank))
    (λ j h. ((h.0 ∙ t.kind, h.1 ∙ t.rank), (x.right m refl).0)) (λ j h. (h.0.0 ∙ sym t.kind, h.0.1 ∙ sym t.rank))
    (λ j h. sym (x.right m refl).1))

-- ---- steps through lists

then_some : {A B : Type 0} (o : Option A) (f : A → Option B) (b : B) → elim o [ None ↦ None | Some a ↦ f a ] ≡ Some b
    → (a : A) × (o ≡ Some a) × (f a ≡ Some b)
then_some None f b e = absurd (none_some b e)
then_some (Some a) f b e = (a, refl, e)

scalar_first : (P : Kind → Type 0) (m : ℕ) (o : Option Ranked) (k : Kind) → Exact P m o → P k → m ≡ 0
    → with_scalar None o ≡ Some k
scalar_first P m o k x h z = ap (with_scalar None) (x.whole k h ∙ ap (λ i. Some (ranked k i)) z)

scalar_next : (P : Kind → Type 0) (m : ℕ) (o : Option Ranked) (k : Kind) → Exact P m o → P k → m ≡ 0
    → with_scalar (Some k) o ≡ Some k
scalar_next P m o k x h z = ap (with_scalar (Some k)) (x.whole k h ∙ ap (λ i. Some (ranked k i)) z) ∙ itself k
  where
    itself : (k : Kind) → with_scalar (Some k) (Some (ranked k 0)) ≡ Some k
    itself Integer = refl
    itself Logical = refl

first_scalar : (P : Kind → Type 0) (m : ℕ) (o : Option Ranked) (k : Kind) → Exact P m o → with_scalar None o ≡ Some k
    → P k × (m ≡ 0)
first_scalar P m None k x e = absurd (none_some k e)
first_scalar P m (Some a) k x e =
    let c = chosen (a.rank == 0) a.kind k e in
    (subst P c.1 (x.right a refl).0, (Decides-rank P m a (a.rank == 0) (λ i. i ≡ 0) x (Decides-eqb a.rank 0)).0 c.0)

next_scalar : (P : Kind → Type 0) (m : ℕ) (o : Option Ranked) (k j : Kind) → Exact P m o
    → with_scalar (Some k) o ≡ Some j → (k ≡ j) × (P k × (m ≡ 0))
next_scalar P m None k j x e = absurd (none_some j e)
next_scalar P m (Some a) k j x e =
    let c = chosen (a.rank == 0 && same_kind a.kind k) k j e in
    let d = (Decides-and (a.rank == 0) (same_kind a.kind k) (Decides-rank P m a (a.rank == 0) (λ i. i ≡ 0) x
    (Decides-eqb a.rank 0)) (Decides-found P m a k x)).0 c.0 in
    (c.1, (d.1, d.0))

argument-is : (P : Kind → Type 0) (r : ℕ) (o : Option Ranked) (m : ℕ) → Exact P r o
    → ExactRank (P Integer × Conform m r) (max m r) (with_argument m o)
argument-is P r None m x = record {
  whole = λ h. absurd (none_some (ranked Integer r) (x.whole Integer h.0));
  right =
      λ n e. absurd (none_some n e);
}
argument-is P r (Some a) m x = record {
  whole = λ h. chosen_by (same_kind a.kind Integer && conform m a.rank) (max m a.rank) (d.1 h)
      ∙ ap (λ i. Some (max m i)) (sym (x.right a refl).1);
  right = λ n e. let c = chosen (same_kind a.kind Integer && conform m a.rank) (max m a.rank) n e in
      (d.0 c.0, ap (max m) (x.right a refl).1 ∙ c.1);
}
  where
    d : Decides (same_kind a.kind Integer && conform m a.rank) (P Integer × Conform m r)
    d = Decides-and (same_kind a.kind Integer) (conform m a.rank) (Decides-found P r a Integer x)
        (Decides-rank P r a (conform m a.rank) (Conform m) x (Decides-conform m a.rank))

-- ranks that conform one after the other, and each with all behind it
conform_on : (m r s : ℕ) → Conform r s → Conform m (max r s) → Conform m r × Conform (max m r) s
conform_on m r s f g = grind arith

conform_back : (m r s : ℕ) → Conform m r → Conform (max m r) s → Conform r s × Conform m (max r s)
conform_back m r s f g = grind arith

max_on : (m r s : ℕ) → max (max m r) s ≡ max m (max r s)
max_on m r s = omega arith

max_zero : (m : ℕ) → m ≡ max m 0
max_zero m = omega arith

one_more : (n : ℕ) → 1 + n ≢ 0
one_more n e = absurd (omega arith)

-- ---- an expression

module _ (ds : List Declaration) (known : List ℕ → Option Declared)
    (tells : (x : List ℕ) → Tells (known x) (declared ds x)) where
  free-is : (f : Intrinsic) → Decides (is_free known f) (IsFree ds (name_of_intrinsic f))
  free-is f = unknown-is (known (name_of_intrinsic f)) (declared ds (name_of_intrinsic f)) (tells (name_of_intrinsic f))

  loops_suit : (ls : Loops) (n : ℕ) → Decides (cond (number_of_loops ls == 0) (nat_le 1 n) (n == 1)) (SuitsLoops ls n)
  loops_suit no_loops n = Decides-leb 1 n
  loops_suit (loop x a b ls) n =
      subst (λ t. Decides t (n ≡ 1)) (sym (cond-false (1 + number_of_loops ls == 0) (nat_le 1 n) (n == 1)
      (ne_eqb (1 + number_of_loops ls) 0 (one_more (number_of_loops ls)))))
      (Decides-eqb n 1)

  some_values : (ls : Loops) → SuitsLoops ls 0 → ⊥
  some_values no_loops h = absurd (omega arith)
  some_values (loop x a b ls) h = absurd (omega arith)

  mutual
    pub kind-is : (e : Expression) → Exact (HasKind ds e) (rank_of ds e) (kind_in known e)
    kind-is (Number n) = literal-is n
    kind-is (Logic b) = record {
      whole = λ k h. ap (λ i. Some (ranked i 0)) (sym h);
      right = λ t e. let f : ranked Logical 0 ≡ t = cc in (
        sym (ap (λ (q : Ranked). q.kind) f),
        ap (λ (q : Ranked). q.rank) f,
      );
    }
    kind-is (Named x no_subscripts) = alone-is (known x) (declared ds x) (tells x)
    kind-is (Named x (subscript p ps)) =
        listed-is (known x) (declared ds x) (tells x) (1 + number_of_subscripts ps) (AreSubscripts ds (subscript p ps))
        (rank_of_subscripts ds (subscript p ps)) (rank_of_all known 0 (subscript p ps))
        (one_more (number_of_subscripts ps)) (from_zero p ps (ranks-are 0 (subscript p ps)))
      where
        from_zero : (p : Subscript) (ps : Subscripts) → ExactRank (AreSubscripts ds (subscript p ps))
            (0 + rank_of_subscripts ds (subscript p ps)) (rank_of_all known 0 (subscript p ps))
            → ExactRank (AreSubscripts ds (subscript p ps)) (rank_of_subscripts ds (subscript p ps))
            (rank_of_all known 0 (subscript p ps))
        from_zero p ps x = let e : 0 + rank_of_subscripts ds (subscript p ps) ≡ rank_of_subscripts ds (subscript p ps) =
            omega arith in subst (λ n. ExactRank (AreSubscripts ds (subscript p ps)) n
            (rank_of_all known 0 (subscript p ps))) e x
    kind-is (Unary o a) = unary-is o (HasKind ds a) (rank_of ds a) (kind_in known a) (kind-is a)
    kind-is (Binary o a b) = binary-is o (HasKind ds a) (HasKind ds b) (rank_of ds a) (rank_of ds b) (kind_in known a)
        (kind_in known b) (kind-is a) (kind-is b)
    kind-is (Apply f es) =
        call-is f (is_free known (intrinsics.Elemental f)) (IsFree ds (name_of_intrinsic (intrinsics.Elemental f)))
        (AreArguments ds es) (number_of_arguments es) (rank_of_each ds es) (common_rank known 0 es)
        (free-is (intrinsics.Elemental f)) (all_arguments es (arguments-are 0 es))
      where
        all_arguments : (es : Expressions) → ExactRank (AreArguments ds es × Conform 0 (rank_of_each ds es))
            (max 0 (rank_of_each ds es)) (common_rank known 0 es)
            → ExactRank (AreArguments ds es) (rank_of_each ds es) (common_rank known 0 es)
        all_arguments es x =
            let e : max 0 (rank_of_each ds es) ≡ rank_of_each ds es = omega arith in
            record {
              whole = λ h. x.whole (h, inl refl) ∙ ap (λ n. Some n) e;
              right =
                  λ n f. ((x.right n f).0.0, sym e ∙ (x.right n f).1);
            }
    kind-is (Constructor es ls) =
        constructor-is (number_of_arguments es) (number_of_loops ls) (are_loops known ls) (AreLoops ds ls)
        (SuitsLoops ls (number_of_arguments es)) (AreScalars ds es) (common_kind known None es)
        (loops-are ls) (loops_suit ls (number_of_arguments es)) (λ k some h. values-have k ls es some h)
        (λ k e. values-give k es e)
    kind-is (Spread a d n) =
        spread-is (is_free known intrinsics.Spread) (IsFree ds (name_of_intrinsic intrinsics.Spread)) (HasKind ds a)
        (HasKind ds n) (rank_of ds a) (rank_of ds n) d (kind_in known a) (kind_in known n)
        (free-is intrinsics.Spread) (kind-is a) (kind-is n)
    kind-is (Transpose a) = transpose-is (is_free known intrinsics.Transpose)
        (IsFree ds (name_of_intrinsic intrinsics.Transpose)) (HasKind ds a) (rank_of ds a) (kind_in known a)
        (free-is intrinsics.Transpose) (kind-is a)
    kind-is (Reshape a es) =
        reshape-is (is_free known intrinsics.Reshape) (IsFree ds (name_of_intrinsic intrinsics.Reshape)) (HasKind ds a)
        (rank_of ds a) (kind_in known a) (number_of_arguments es) (are_scalars known Integer es)
        (AreScalars ds es Integer)
        (free-is intrinsics.Reshape) (kind-is a) (scalars-are Integer es)
    kind-is (Reduce r a) = reduce-is (is_free known (intrinsics.Reduction r))
        (IsFree ds (name_of_intrinsic (intrinsics.Reduction r))) (HasKind ds a) (rank_of ds a) (kind_in known a)
        (free-is (intrinsics.Reduction r)) (kind-is a)

    arguments-are : (m : ℕ) (es : Expressions) → ExactRank (AreArguments ds es × Conform m (rank_of_each ds es))
        (max m (rank_of_each ds es)) (common_rank known m es)
    arguments-are m no_expressions = record {
      whole = λ h. ap (λ n. Some n) (max_zero m);
      right = λ n e. let f : m ≡ n =
          cc in ((tt, inr (inl refl)), sym (max_zero m) ∙ f);
    }
    arguments-are m (expression e es) =
        let x = argument-is (HasKind ds e) (rank_of ds e) (kind_in known e) m (kind-is e) in
        let y = arguments-are (max m (rank_of ds e)) es in
        record {
          whole = λ h. let c = conform_on m (rank_of ds e) (rank_of_each ds es) h.0.1 h.1 in
              ap (λ (o : Option ℕ). elim o [ None ↦ None | Some n ↦ common_rank known n es ]) (x.whole (h.0.0, c.0))
              ∙ y.whole (h.0.2, c.1) ∙ ap (λ n. Some n) (max_on m (rank_of ds e) (rank_of_each ds es));
          right = λ n f.
              let s = then_some (with_argument m (kind_in known e)) (λ i. common_rank known i es) n f in
              let p = x.right s.0 s.1 in
              let q = y.right n (ap (λ i. common_rank known i es) p.1 ∙ s.2) in
              let c = conform_back m (rank_of ds e) (rank_of_each ds es) p.0.1 q.0.1 in
              (((p.0.0, c.0, q.0.0), c.1), sym (max_on m (rank_of ds e) (rank_of_each ds es)) ∙ q.1);
        }

    values-have : (k : Kind) (ls : Loops) (es : Expressions) → SuitsLoops ls (number_of_arguments es)
        → AreScalars ds es k → common_kind known None es ≡ Some k
    values-have k ls no_expressions some h = absurd (some_values ls some)
    values-have k ls (expression e es) some h =
        ap (λ (o : Option Kind). elim o [ None ↦ None | Some j ↦ common_kind known (Some j) es ])
        (scalar_first (HasKind ds e) (rank_of ds e) (kind_in known e) k (kind-is e) h.0.0 h.0.1)
        ∙ more-have k es h.1

    values-give : (k : Kind) (es : Expressions) → common_kind known None es ≡ Some k → AreScalars ds es k
    values-give k no_expressions e = absurd (none_some k e)
    values-give k (expression e es) f =
        let s = then_some (with_scalar None (kind_in known e)) (λ j. common_kind known (Some j) es) k f in
        let p = first_scalar (HasKind ds e) (rank_of ds e) (kind_in known e) s.0 (kind-is e) s.1 in
        let q = more-give s.0 k es s.2 in
        (subst (λ j. HasKind ds e j × (rank_of ds e ≡ 0)) q.0 p, subst (AreScalars ds es) q.0 q.1)

    more-give : (k j : Kind) (es : Expressions) → common_kind known (Some k) es ≡ Some j → (k ≡ j) × AreScalars ds es k
    more-give k j no_expressions e = let f : k ≡ j = cc in (f, tt)
    more-give k j (expression e es) f =
        let s = then_some (with_scalar (Some k) (kind_in known e)) (λ i. common_kind known (Some i) es) j f in
        let p = next_scalar (HasKind ds e) (rank_of ds e) (kind_in known e) k s.0 (kind-is e) s.1 in
        let q = more-give s.0 j es s.2 in
        (p.0 ∙ q.0, (p.1, subst (AreScalars ds es) (sym p.0) q.1))

    more-have : (k : Kind) (es : Expressions) → AreScalars ds es k → common_kind known (Some k) es ≡ Some k
    more-have k no_expressions h = refl
    more-have k (expression e es) h =
        ap (λ (o : Option Kind). elim o [ None ↦ None | Some j ↦ common_kind known (Some j) es ])
        (scalar_next (HasKind ds e) (rank_of ds e) (kind_in known e) k (kind-is e) h.0.0 h.0.1) ∙ more-have k es h.1

    pub scalars-are : (k : Kind) (es : Expressions) → Decides (are_scalars known k es) (AreScalars ds es k)
    scalars-are k no_expressions = (λ e. tt, λ h. refl)
    scalars-are k (expression e es) = Decides-and (is_scalar (kind_in known e) k) (are_scalars known k es)
        (Decides-scalar (HasKind ds e) (rank_of ds e) (kind_in known e) k (kind-is e)) (scalars-are k es)

    loops-are : (ls : Loops) → Decides (are_loops known ls) (AreLoops ds ls)
    loops-are no_loops = (λ e. tt, λ h. refl)
    loops-are (loop x a b ls) =
        let d = Decides-and (suits_loop (known x) (kind_in known a) (kind_in known b)) (are_loops known ls)
        (Decides-and (is_integer_scalar (known x)) (is_scalar (kind_in known a) Integer && is_scalar (kind_in known b)
        Integer) (integer-is (known x) (declared ds x) (tells x))
        (Decides-and (is_scalar (kind_in known a) Integer) (is_scalar (kind_in known b) Integer)
        (Decides-scalar (HasKind ds a) (rank_of ds a) (kind_in known a) Integer (kind-is a))
        (Decides-scalar (HasKind ds b) (rank_of ds b) (kind_in known b) Integer (kind-is b)))) (loops-are ls) in
        (λ e. let h = d.0 e in (h.0.0, h.0.1.0, h.0.1.1, h.1), λ h. d.1 ((h.0, (h.1, h.2)), h.3))

    ranks-are : (m : ℕ) (ps : Subscripts) → ExactRank (AreSubscripts ds ps) (m + rank_of_subscripts ds ps)
        (rank_of_all known m ps)
    ranks-are m no_subscripts = let z : m ≡ m + 0 = omega arith in
        record { whole = λ h. ap (λ n. Some n) z; right = λ n e. let f : m ≡ n = cc in (tt, sym z ∙ f) }
    ranks-are m (subscript p ps) =
        let x = rank-is p in
        let y = ranks-are (m + rank_of_subscript ds p) ps in
        let z : (m + rank_of_subscript ds p) + rank_of_subscripts ds ps ≡ m +
        (rank_of_subscript ds p + rank_of_subscripts ds ps) = omega arith in
        record {
          whole = λ h. ap (λ (o : Option ℕ). elim o [ None ↦ None | Some n ↦ rank_of_all known (m + n) ps ])
              (x.whole h.0) ∙ y.whole h.1 ∙ ap (λ n. Some n) z;
          right = λ n f.
              let s = then_some (rank_in known p) (λ i. rank_of_all known (m + i) ps) n f in
              let u = x.right s.0 s.1 in
              let v = y.right n (ap (λ i. rank_of_all known (m + i) ps) u.1 ∙ s.2) in
              ((u.0, v.0), sym z ∙ v.1);
        }

    rank-is : (p : Subscript) → ExactRank (IsSubscript ds p) (rank_of_subscript ds p) (rank_in known p)
    rank-is (Only e) = only-is (HasKind ds e) (rank_of ds e) (kind_in known e) (kind-is e)
    rank-is (Section a b c) = section-is (HasKind ds a) (HasKind ds b) (HasKind ds c) (rank_of ds a) (rank_of ds b)
        (rank_of ds c) (kind_in known a) (kind_in known b) (kind_in known c) (kind-is a) (kind-is b) (kind-is c)

-- what was found is what the expression has, if it has any kind
pub told : (ds : List Declaration) (known : List ℕ → Option Declared) → ((x : List ℕ) → Tells (known x) (declared ds x))
    → (e : Expression) → IsKindOf ds e (kind_in known e)
told ds known tells e = by (kind_in known e) (kind-is ds known tells e)
  where
    by : (o : Option Ranked) → Exact (HasKind ds e) (rank_of ds e) o → IsKindOf ds e o
    by None x = λ k h. none_some (ranked k (rank_of ds e)) (x.whole k h)
    by (Some t) x = x.right t refl
