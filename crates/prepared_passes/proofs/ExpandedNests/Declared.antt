-- Expressions keep their kinds and ranks by other declarations that have their names alike.
use Rattle.std.proofs.Common.{◌≡◌, inl, inr, refl, sym, ap, ap₂, ◌∙◌, subst, ℕ, ◌+◌, ◌≤◌, ◌<◌, max, Contains, codes, List, ◌∷◌, ◌++◌, Option, Some, None}
use Rattle.std.specs.Option.{IsSomeAnd}
use Rattle.meaning.specs.Reads.{names_in, names_in_each, names_in_loops, names_in_subscript, names_in_subscripts}
use Rattle.meaning.specs.Typed.{declared, rank_of_extent}
use Rattle.meaning.specs.Typed90.{AreArguments, AreLoops, AreScalars, AreSubscripts, Conform, HasKind, IsScalar, IsSubscript, SuitsDimensions}
use Rattle.meaning.specs.Typed90.{rank_of, rank_of_each, rank_of_name, rank_of_subscript, rank_of_subscripts}
use Rattle.nest_order.proofs.orders.Lists.{In-left, In-right}
use Rattle.nest_order.specs.orders.Lists.{In}
use Rattle.pass_laws.proofs.PreparedNests.Normal.MadeNames.{function_is_source, none_is}
use Rattle.tree.specs.Functions.{name_of_function, name_of_reduction}
use Rattle.tree.specs.Limits.{array_dimensions}
use Rattle.tree.specs.OperatorTable.{operand_kind}
use Rattle.tree.specs.Plain.{Apply, Binary, Constructor, Declaration, Expression, Expressions, Logic, Loops, Named, Number}
use Rattle.tree.specs.Plain.{Only, Reduce, Reshape, Section, Spread, Subscript, Subscripts, Transpose, Unary, expression}
use Rattle.tree.specs.Plain.{loop, no_expressions, no_loops, no_subscripts, subscript}
use Rattle.tree.specs.declared.functions.Red.{Red}
use Rattle.tree.specs.declared.functions.Red.TheVariants as reduction
use Rattle.tree.specs.declared.ops.Kind.{Kind}
use Rattle.tree.specs.declared.ops.Kind.TheVariants.{Integer}

module _ (es fs : List Declaration) (Same : List ℕ → Type 0) (same : (x : List ℕ) (d : Declaration) → Same x → declared es x ≡ Some d → declared fs x ≡ Some d)
    (free : (x : List ℕ) → ¬ Contains x 95 → declared es x ≡ None → declared fs x ≡ None) where
  abbrev AllSame : List (List ℕ) → Type 0
  AllSame xs = (x : List ℕ) → In x xs → Same x

  front : (xs ys : List (List ℕ)) → AllSame (xs ++ ys) → AllSame xs
  front xs ys h x i = h x (In-left x xs ys i)

  rest : (xs ys : List (List ℕ)) → AllSame (xs ++ ys) → AllSame ys
  rest xs ys h x i = h x (In-right x xs ys i)

  pub there : (x : List ℕ) (P : Declaration → Type 0) → Same x → IsSomeAnd (declared es x) P → IsSomeAnd (declared fs x) P
  there x P s h = by (declared es x) refl h
    where
      by : (o : Option Declaration) → declared es x ≡ o → IsSomeAnd o P → IsSomeAnd (declared fs x) P
      by None e g = absurd g
      by (Some d) e g = subst (λ (o : Option Declaration). IsSomeAnd o P) (sym (same x d s e)) g

  name_rank : (x : List ℕ) (P : Declaration → Type 0) → Same x → IsSomeAnd (declared es x) P → rank_of_name fs x ≡ rank_of_name es x
  name_rank x P s h = by (declared es x) refl h
    where
      by : (o : Option Declaration) → declared es x ≡ o → IsSomeAnd o P → rank_of_name fs x ≡ rank_of_name es x
      by None e g = absurd g
      by (Some d) e g = ap (λ (o : Option Declaration). elim o [ None ↦ 0 | Some c ↦ rank_of_extent c.extent ]) (same x d s e ∙ sym e)

  reduction_plain : (r : Red) → ¬ Contains (name_of_reduction r) 95
  reduction_plain r = by r
    where
      by : (r : Red) → ¬ Contains (name_of_reduction r) 95
      by reduction.Sum = none_is 95 (name_of_reduction reduction.Sum) refl
      by reduction.MaxVal = none_is 95 (name_of_reduction reduction.MaxVal) refl
      by reduction.MinVal = none_is 95 (name_of_reduction reduction.MinVal) refl

  conform : (a b c d : ℕ) → c ≡ a → d ≡ b → Conform a b → Conform c d
  conform a b c d e f h = subst (λ x. Conform x d) (sym e) (subst (λ y. Conform a y) (sym f) h)

  mutual
    pub kept : (e : Expression) (k : Kind) → HasKind es e k → AllSame (names_in e) → HasKind fs e k × (rank_of fs e ≡ rank_of es e)
    kept (Number n) k h st = (h, refl)
    kept (Logic b) k h st = (h, refl)
    kept (Named x no_subscripts) k h st = ((there x (λ d. (k ≡ d.kind) × Unit {0}) (st x (inl refl)) h.0, tt), name_rank x (λ d. (k ≡ d.kind) × Unit {0}) (st x (inl refl)) h.0)
    kept (Named x (subscript q qs)) k h st =
        let r = kept_in (subscript q qs) h.1 (λ y i. st y (inr i)) in
        ((there x (λ d. (k ≡ d.kind) × SuitsDimensions (subscript q qs) (rank_of_extent d.extent)) (st x (inl refl)) h.0, r.0), r.1)
    kept (Unary o a) k h st = let r = kept a (operand_kind o) h.2 st in ((h.0, h.1, r.0), r.1)
    kept (Binary o a b) k h st =
        let r = kept a (operand_kind o) h.2 (front (names_in a) (names_in b) st) in
        let s = kept b (operand_kind o) h.3 (rest (names_in a) (names_in b) st) in
        ((h.0, h.1, r.0, s.0, conform (rank_of es a) (rank_of es b) (rank_of fs a) (rank_of fs b) r.1 s.1 h.4), ap₂ (λ m n. max m n) r.1 s.1)
    kept (Apply f vs) k h st = let r = kept_each vs h.3 st in ((h.0, free (name_of_function f) (function_is_source f).plain h.1, h.2, r.0), r.1)
    kept (Constructor vs ls) k h st = ((kept_scalars vs k h.0 (front (names_in_each vs) (names_in_loops ls) st), h.1, kept_loops ls h.2 (rest (names_in_each vs) (names_in_loops ls) st)), refl)
    kept (Spread a n b) k h st =
        let r = kept a k h.4 (front (names_in a) (names_in b) st) in
        let s = kept b Integer h.5 (rest (names_in a) (names_in b) st) in
        ((free (codes "SPREAD") (none_is 95 (codes "SPREAD") refl) h.0, h.1, subst (λ (x : ℕ). n ≤ x + 1) (sym r.1) h.2, subst (λ (x : ℕ). x < array_dimensions) (sym r.1) h.3, r.0, s.0, s.1 ∙ h.6), ap (λ (x : ℕ). x + 1) r.1)
    kept (Transpose a) k h st = let r = kept a k h.2 st in ((free (codes "TRANSPOSE") (none_is 95 (codes "TRANSPOSE") refl) h.0, r.1 ∙ h.1, r.0), refl)
    kept (Reshape a vs) k h st =
        let r = kept a k h.4 (front (names_in a) (names_in_each vs) st) in
        ((free (codes "RESHAPE") (none_is 95 (codes "RESHAPE") refl) h.0, subst (λ (x : ℕ). 1 ≤ x) (sym r.1) h.1, h.2, h.3, r.0, kept_scalars vs Integer h.5 (rest (names_in a) (names_in_each vs) st)), refl)
    kept (Reduce r a) k h st =
        let s = kept a Integer h.3 st in
        ((free (name_of_reduction r) (reduction_plain r) h.0, subst (λ (x : ℕ). 1 ≤ x) (sym s.1) h.1, h.2, s.0), refl)

    kept_each : (vs : Expressions) → AreArguments es vs → AllSame (names_in_each vs) → AreArguments fs vs × (rank_of_each fs vs ≡ rank_of_each es vs)
    kept_each no_expressions h st = (tt, refl)
    kept_each (expression e vs) h st =
        let r = kept e Integer h.0 (front (names_in e) (names_in_each vs) st) in
        let s = kept_each vs h.2 (rest (names_in e) (names_in_each vs) st) in
        ((r.0, conform (rank_of es e) (rank_of_each es vs) (rank_of fs e) (rank_of_each fs vs) r.1 s.1 h.1, s.0), ap₂ (λ m n. max m n) r.1 s.1)

    kept_scalars : (vs : Expressions) (k : Kind) → AreScalars es vs k → AllSame (names_in_each vs) → AreScalars fs vs k
    kept_scalars no_expressions k h st = tt
    kept_scalars (expression e vs) k h st =
        let r = kept e k h.0.0 (front (names_in e) (names_in_each vs) st) in
        ((r.0, r.1 ∙ h.0.1), kept_scalars vs k h.1 (rest (names_in e) (names_in_each vs) st))

    kept_in : (ss : Subscripts) → AreSubscripts es ss → AllSame (names_in_subscripts ss) → AreSubscripts fs ss × (rank_of_subscripts fs ss ≡ rank_of_subscripts es ss)
    kept_in no_subscripts h st = (tt, refl)
    kept_in (subscript q qs) h st =
        let r = kept_one q h.0 (front (names_in_subscript q) (names_in_subscripts qs) st) in
        let s = kept_in qs h.1 (rest (names_in_subscript q) (names_in_subscripts qs) st) in
        ((r.0, s.0), ap₂ (λ m n. m + n) r.1 s.1)

    kept_one : (q : Subscript) → IsSubscript es q → AllSame (names_in_subscript q) → IsSubscript fs q × (rank_of_subscript fs q ≡ rank_of_subscript es q)
    kept_one (Only e) h st = let r = kept e Integer h.0 st in ((r.0, subst (λ n. n ≤ 1) (sym r.1) h.1), r.1)
    kept_one (Section a b c) h st =
        let two = front (names_in a ++ names_in b) (names_in c) st in
        let r = kept a Integer h.0.0 (front (names_in a) (names_in b) two) in
        let s = kept b Integer h.1.0 (rest (names_in a) (names_in b) two) in
        let t = kept c Integer h.2.0 (rest (names_in a ++ names_in b) (names_in c) st) in
        (((r.0, r.1 ∙ h.0.1), (s.0, s.1 ∙ h.1.1), (t.0, t.1 ∙ h.2.1)), refl)

    kept_loops : (ls : Loops) → AreLoops es ls → AllSame (names_in_loops ls) → AreLoops fs ls
    kept_loops no_loops h st = tt
    kept_loops (loop x a b ls) h st =
        let more : AllSame ((names_in a ++ names_in b) ++ names_in_loops ls) = later x ((names_in a ++ names_in b) ++ names_in_loops ls) st in
        let two = front (names_in a ++ names_in b) (names_in_loops ls) more in
        let r = kept a Integer h.1.0 (front (names_in a) (names_in b) two) in
        let s = kept b Integer h.2.0 (rest (names_in a) (names_in b) two) in (
          there x (λ d. (d.kind ≡ Integer) × (rank_of_extent d.extent ≡ 0)) (st x (inl refl)) h.0,
          (r.0, r.1 ∙ h.1.1),
          (s.0, s.1 ∙ h.2.1),
          kept_loops ls h.3 (rest (names_in a ++ names_in b) (names_in_loops ls) more),
        )
      where
        later : (x : List ℕ) (xs : List (List ℕ)) → AllSame (x ∷ xs) → AllSame xs
        later x xs f y i = f y (inr i)

  pub scalar_kept : (e : Expression) (k : Kind) → IsScalar es e k → AllSame (names_in e) → IsScalar fs e k
  scalar_kept e k h st = let r = kept e k h.0 st in (r.0, r.1 ∙ h.1)
