-- Ranks and kinds of expressions are the same by two lists of declarations that declare the names in them alike.
use Rattle.std.proofs.Common.{◌≡◌, inl, inr, ℕ, ◌+◌, ◌<◌, ◌≤◌, max, Option, Some, None, List, [], ◌∷◌, ◌++◌}
use Rattle.std.proofs.Common.{refl, sym, ap, subst, ◌∙◌}
use Rattle.std.specs.List.{AllByRecursion}
use Rattle.std.specs.Option.{IsSomeAnd}
use Rattle.std.specs.Prelude.{codes}
use Rattle.tree.specs.Plain.{Expression, Number, Logic, Named, Unary, Binary, Apply, Constructor, Spread, Transpose}
use Rattle.tree.specs.Plain.{Reshape, Reduce, Expressions, no_expressions, expression, Subscript, Only, Section}
use Rattle.tree.specs.Plain.{Subscripts, no_subscripts, subscript, Loops, no_loops, loop, Declaration}
use Rattle.tree.specs.declared.ops.Kind.{Kind}
use Rattle.tree.specs.declared.ops.Kind.TheVariants.{Integer}
use Rattle.tree.specs.Limits.{array_dimensions}
use Rattle.tree.specs.Functions.{name_of_function, name_of_reduction}
use Rattle.meaning.specs.Reads.{names_in, names_in_each, names_in_subscripts, names_in_subscript, names_in_loops}
use Rattle.meaning.specs.Typed.{declared, rank_of_extent}
use Rattle.meaning.specs.Typed90.{Conform, rank_of, rank_of_each, rank_of_subscripts, rank_of_subscript, HasKind}
use Rattle.meaning.specs.Typed90.{AreArguments, AreScalars, AreSubscripts, IsSubscript, AreLoops}

-- ---- parts of lists

first_of : {A : Type 0} (P : A → Type 0) (xs ys : List A) → AllByRecursion P (xs ++ ys) → AllByRecursion P xs
first_of P [] ys h = tt
first_of P (x ∷ xs) ys h = (h.0, first_of P xs ys h.1)

rest_of : {A : Type 0} (P : A → Type 0) (xs ys : List A) → AllByRecursion P (xs ++ ys) → AllByRecursion P ys
rest_of P [] ys h = h
rest_of P (x ∷ xs) ys h = rest_of P xs ys h.1

-- ---- numbers

pub moved : (P : ℕ → Type 0) (m n : ℕ) → m ≡ n → P n → P m
moved P m n e h = subst P (sym e) h

both_equal : (f : ℕ → ℕ → ℕ) (a b c d : ℕ) → a ≡ c → b ≡ d → f a b ≡ f c d
both_equal f a b c d p q = cc

conform : (a b c d : ℕ) → a ≡ c → b ≡ d → Conform c d → Conform a b
conform a b c d p q (inl h) = inl (p ∙ h)
conform a b c d p q (inr (inl h)) = inr (inl (q ∙ h))
conform a b c d p q (inr (inr h)) = inr (inr (p ∙ (h ∙ sym q)))

-- ---- expressions

module _ (ds es : List Declaration) where
  -- ds and es declare each of the names alike
  abbrev pub Alike : List (List ℕ) → Type 0
  Alike xs = AllByRecursion (λ (x : List ℕ). declared ds x ≡ declared es x) xs

  pub alike_first : (xs ys : List (List ℕ)) → Alike (xs ++ ys) → Alike xs
  alike_first = first_of (λ (x : List ℕ). declared ds x ≡ declared es x)

  pub alike_rest : (xs ys : List (List ℕ)) → Alike (xs ++ ys) → Alike ys
  alike_rest = rest_of (λ (x : List ℕ). declared ds x ≡ declared es x)

  -- of names that stand in three parts
  pub record AlikeInThree (xs ys zs : List (List ℕ)) : Type 0 where
    pub first : Alike xs
    pub second : Alike ys
    pub third : Alike zs

  pub alike_in_three : (xs ys zs : List (List ℕ)) → Alike (xs ++ ys ++ zs) → AlikeInThree xs ys zs
  alike_in_three xs ys zs h = record {
    first = alike_first xs ys (alike_first (xs ++ ys) zs h);
    second = alike_rest xs ys (alike_first (xs ++ ys) zs h);
    third = alike_rest (xs ++ ys) zs h;
  }

  pub of_name : (x : List ℕ) (P Q : Declaration → Type 0) → ((d : Declaration) → P d → Q d) → declared ds x ≡ declared es x → IsSomeAnd (declared es x) P → IsSomeAnd (declared ds x) Q
  of_name x P Q f e h = subst (λ o. IsSomeAnd o Q) (sym e) (by (declared es x) h)
    where
      by : (o : Option Declaration) → IsSomeAnd o P → IsSomeAnd o Q
      by None g = absurd g
      by (Some d) g = f d g

  mutual
    pub rank : (e : Expression) → Alike (names_in e) → rank_of ds e ≡ rank_of es e
    rank (Number n) h = refl
    rank (Logic b) h = refl
    rank (Named x no_subscripts) h = ap (λ (o : Option Declaration). elim o [ None ↦ 0 | Some d ↦ rank_of_extent d.extent ]) h.0
    rank (Named x (subscript p ps)) h =
        both_equal (λ m n. m + n) (rank_of_subscript ds p) (rank_of_subscripts ds ps) (rank_of_subscript es p) (rank_of_subscripts es ps)
        (rank_subscript p (alike_first (names_in_subscript p) (names_in_subscripts ps) h.1)) (rank_subscripts ps (alike_rest (names_in_subscript p) (names_in_subscripts ps) h.1))
    rank (Unary o a) h = rank a h
    rank (Binary o a b) h =
        both_equal max (rank_of ds a) (rank_of ds b) (rank_of es a) (rank_of es b)
        (rank a (alike_first (names_in a) (names_in b) h)) (rank b (alike_rest (names_in a) (names_in b) h))
    rank (Apply f vs) h = rank_each vs h
    rank (Constructor vs ls) h = refl
    rank (Spread a d n) h = ap (λ m. m + 1) (rank a (alike_first (names_in a) (names_in n) h))
    rank (Transpose a) h = refl
    rank (Reshape a vs) h = refl
    rank (Reduce r a) h = refl

    rank_each : (vs : Expressions) → Alike (names_in_each vs) → rank_of_each ds vs ≡ rank_of_each es vs
    rank_each no_expressions h = refl
    rank_each (expression e vs) h =
        both_equal max (rank_of ds e) (rank_of_each ds vs) (rank_of es e) (rank_of_each es vs)
        (rank e (alike_first (names_in e) (names_in_each vs) h)) (rank_each vs (alike_rest (names_in e) (names_in_each vs) h))

    pub rank_subscripts : (ps : Subscripts) → Alike (names_in_subscripts ps) → rank_of_subscripts ds ps ≡ rank_of_subscripts es ps
    rank_subscripts no_subscripts h = refl
    rank_subscripts (subscript p ps) h =
        both_equal (λ m n. m + n) (rank_of_subscript ds p) (rank_of_subscripts ds ps) (rank_of_subscript es p) (rank_of_subscripts es ps)
        (rank_subscript p (alike_first (names_in_subscript p) (names_in_subscripts ps) h)) (rank_subscripts ps (alike_rest (names_in_subscript p) (names_in_subscripts ps) h))

    rank_subscript : (p : Subscript) → Alike (names_in_subscript p) → rank_of_subscript ds p ≡ rank_of_subscript es p
    rank_subscript (Only e) h = rank e h
    rank_subscript (Section a b c) h = refl

  -- es hides no function that ds doesn't
  module _ (free : (x : List ℕ) → declared es x ≡ None → declared ds x ≡ None) where
    mutual
      pub kind : (e : Expression) (k : Kind) → Alike (names_in e) → HasKind es e k → HasKind ds e k
      kind (Number n) k h g = g
      kind (Logic b) k h g = g
      kind (Named x ps) k h g = (of_name x _ _ (λ d q. q) h.0 g.0, kind_subscripts ps h.1 g.1)
      kind (Unary o a) k h g = (g.0, g.1, kind a _ h g.2)
      kind (Binary o a b) k h g =
          let l = alike_first (names_in a) (names_in b) h in
          let r = alike_rest (names_in a) (names_in b) h in
          (g.0, g.1, kind a _ l g.2, kind b _ r g.3, conform (rank_of ds a) (rank_of ds b) (rank_of es a) (rank_of es b) (rank a l) (rank b r) g.4)
      kind (Apply f vs) k h g = (g.0, free (name_of_function f) g.1, g.2, kind_arguments vs h g.3)
      kind (Constructor vs ls) k h g =
          (kind_scalars vs k (alike_first (names_in_each vs) (names_in_loops ls) h) g.0, g.1, kind_loops ls (alike_rest (names_in_each vs) (names_in_loops ls) h) g.2)
      kind (Spread a d n) k h g =
          let l = alike_first (names_in a) (names_in n) h in
          let r = alike_rest (names_in a) (names_in n) h in (
            free (codes "SPREAD") g.0,
            g.1,
            moved (λ m. d ≤ m + 1) (rank_of ds a) (rank_of es a) (rank a l) g.2,
            moved (λ m. m < array_dimensions) (rank_of ds a) (rank_of es a) (rank a l) g.3,
            kind a k l g.4,
            kind n Integer r g.5,
            rank n r ∙ g.6,
          )
      kind (Transpose a) k h g = (free (codes "TRANSPOSE") g.0, rank a h ∙ g.1, kind a k h g.2)
      kind (Reshape a vs) k h g =
          let l = alike_first (names_in a) (names_in_each vs) h in
          let r = alike_rest (names_in a) (names_in_each vs) h in
          (free (codes "RESHAPE") g.0, moved (λ m. 1 ≤ m) (rank_of ds a) (rank_of es a) (rank a l) g.1, g.2, g.3, kind a k l g.4, kind_scalars vs Integer r g.5)
      kind (Reduce r a) k h g =
          (free (name_of_reduction r) g.0, moved (λ m. 1 ≤ m) (rank_of ds a) (rank_of es a) (rank a h) g.1, g.2, kind a Integer h g.3)

      kind_arguments : (vs : Expressions) → Alike (names_in_each vs) → AreArguments es vs → AreArguments ds vs
      kind_arguments no_expressions h g = tt
      kind_arguments (expression e vs) h g =
          let l = alike_first (names_in e) (names_in_each vs) h in
          let r = alike_rest (names_in e) (names_in_each vs) h in
          (kind e Integer l g.0, conform (rank_of ds e) (rank_of_each ds vs) (rank_of es e) (rank_of_each es vs) (rank e l) (rank_each vs r) g.1, kind_arguments vs r g.2)

      pub kind_scalars : (vs : Expressions) (k : Kind) → Alike (names_in_each vs) → AreScalars es vs k → AreScalars ds vs k
      kind_scalars no_expressions k h g = tt
      kind_scalars (expression e vs) k h g =
          let l = alike_first (names_in e) (names_in_each vs) h in
          let r = alike_rest (names_in e) (names_in_each vs) h in
          ((kind e k l g.0.0, rank e l ∙ g.0.1), kind_scalars vs k r g.1)

      kind_subscripts : (ps : Subscripts) → Alike (names_in_subscripts ps) → AreSubscripts es ps → AreSubscripts ds ps
      kind_subscripts no_subscripts h g = tt
      kind_subscripts (subscript p ps) h g =
          (kind_subscript p (alike_first (names_in_subscript p) (names_in_subscripts ps) h) g.0, kind_subscripts ps (alike_rest (names_in_subscript p) (names_in_subscripts ps) h) g.1)

      kind_subscript : (p : Subscript) → Alike (names_in_subscript p) → IsSubscript es p → IsSubscript ds p
      kind_subscript (Only e) h g = (kind e Integer h g.0, moved (λ m. m ≤ 1) (rank_of ds e) (rank_of es e) (rank e h) g.1)
      kind_subscript (Section a b c) h g =
          let t = alike_in_three (names_in a) (names_in b) (names_in c) h in (
            (kind a Integer t.first g.0.0, rank a t.first ∙ g.0.1),
            (kind b Integer t.second g.1.0, rank b t.second ∙ g.1.1),
            (kind c Integer t.third g.2.0, rank c t.third ∙ g.2.1),
          )

      kind_loops : (ls : Loops) → Alike (names_in_loops ls) → AreLoops es ls → AreLoops ds ls
      kind_loops no_loops h g = tt
      kind_loops (loop x a b ls) h g =
          let t = alike_in_three (names_in a) (names_in b) (names_in_loops ls) h.1 in (
            of_name x _ _ (λ d q. q) h.0 g.0,
            (kind a Integer t.first g.1.0, rank a t.first ∙ g.1.1),
            (kind b Integer t.second g.2.0, rank b t.second ∙ g.2.1),
            kind_loops ls t.third g.3,
          )
