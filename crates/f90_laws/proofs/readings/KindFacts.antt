-- Kinds and ranks can be decided, and what they say depends on what each name is declared as alone.
use Rattle.std.proofs.Common.{◌≡◌, ◌⊎◌, inl, inr, ℕ, ◌+◌, ◌<◌, ◌≤◌, ◌^◌, max, not, ℤ, pos, negsuc, Bool, IsTrue, IsSomeAnd, Option, None, Some, List, ◌∷◌, codes, refl, sym, ap, subst, ◌∙◌, arith, Contains}
use mathlib.Core.Path.{ap₂}
use Rattle.tree.specs.Plain.{Expression, Number, Logic, Named, Unary, Binary, Apply, Constructor, Spread, Transpose, Reshape, Reduce, Expressions, no_expressions, expression, Subscript, Only, Section, Subscripts, no_subscripts, subscript, Loops, no_loops, loop, Declaration}
use Rattle.tree.specs.declared.ops.Kind.{Kind}
use Rattle.tree.specs.declared.ops.Kind.TheVariants.{Integer, Logical}
use Rattle.tree.specs.Functions.{name_of_function, name_of_reduction, suits_number}
use Rattle.tree.specs.Limits.{array_dimensions}
use Rattle.tree.specs.OperatorTable.{operand_kind, result_kind_of, is_unary}
use Rattle.meaning.specs.Typed.{number_of_arguments, number_of_subscripts, rank_of_extent, declared, IsLiteral}
use Rattle.meaning.specs.Typed90.{Conform, SuitsDimensions, SuitsLoops, IsFree, rank_of_name, rank_of, rank_of_each, rank_of_subscripts, rank_of_subscript, IsIntegerScalar, HasKind, AreArguments, AreScalars, AreSubscripts, IsSubscript, AreLoops, IsScalar, HasSomeKind, IsDoVariable}
use Rattle.f90_laws.proofs.readings.Decisions.{Decided, like, both, either, three, four, same_number, at_most, below, same_kind, some_and, is_none, is_true, contains, same_name, negated}

literal : (n : ℤ) → Decided (IsLiteral n)
literal (pos n) = below n (2 ^ 127)
literal (negsuc n) = inr (λ h. h)

conform : (m n : ℕ) → Decided (Conform m n)
conform m n = either (same_number m 0) (either (same_number n 0) (same_number m n))

suits_dimensions : (ps : Subscripts) (n : ℕ) → Decided (SuitsDimensions ps n)
suits_dimensions no_subscripts n = inl tt
suits_dimensions (subscript p ps) n = same_number (number_of_subscripts (subscript p ps)) n

suits_loops : (ls : Loops) (n : ℕ) → Decided (SuitsLoops ls n)
suits_loops no_loops n = at_most 1 n
suits_loops (loop x a b ls) n = same_number n 1

module _ (ds : List Declaration) where
  pub integer_scalar : (x : List ℕ) → Decided (IsIntegerScalar ds x)
  integer_scalar x = some_and (declared ds x) (λ d. (d.kind ≡ Integer) × (rank_of_extent d.extent ≡ 0)) (λ d. both (same_kind d.kind Integer) (same_number (rank_of_extent d.extent) 0))

  free : (x : List ℕ) → Decided (IsFree ds x)
  free x = is_none (declared ds x)

  mutual
    pub has_kind : (e : Expression) (k : Kind) → Decided (HasKind ds e k)
    has_kind (Number n) k = both (literal n) (same_kind k Integer)
    has_kind (Logic b) k = same_kind k Logical
    has_kind (Named x ps) k =
        both (some_and (declared ds x) (λ d. (k ≡ d.kind) × SuitsDimensions ps (rank_of_extent d.extent)) (λ d. both (same_kind k d.kind) (suits_dimensions ps (rank_of_extent d.extent)))) (are_subscripts ps)
    has_kind (Unary o a) k = three (is_true (is_unary o)) (same_kind k (result_kind_of o)) (has_kind a (operand_kind o))
    has_kind (Binary o a b) k =
        like (λ h. (h.0, h.1, h.2.0, h.2.1, h.2.2)) (λ h. (h.0, h.1, (h.2, h.3, h.4)))
        (three (is_true (not (is_unary o))) (same_kind k (result_kind_of o)) (three (has_kind a (operand_kind o)) (has_kind b (operand_kind o)) (conform (rank_of ds a) (rank_of ds b))))
    has_kind (Apply f es) k = four (is_true (suits_number f (number_of_arguments es))) (free (name_of_function f)) (same_kind k Integer) (are_arguments es)
    has_kind (Constructor es ls) k = three (are_scalars es k) (suits_loops ls (number_of_arguments es)) (are_loops ls)
    has_kind (Spread a d n) k =
        like (λ h. (h.0, h.1, h.2, h.3.0, h.3.1, h.3.2.0, h.3.2.1)) (λ h. (h.0, h.1, h.2, (h.3, h.4, (h.5, h.6))))
        (four (free (codes "SPREAD")) (at_most 1 d) (at_most d (rank_of ds a + 1))
        (three (below (rank_of ds a) array_dimensions) (has_kind a k) (both (has_kind n Integer) (same_number (rank_of ds n) 0))))
    has_kind (Transpose a) k = three (free (codes "TRANSPOSE")) (same_number (rank_of ds a) 2) (has_kind a k)
    has_kind (Reshape a es) k =
        like (λ h. (h.0, h.1, h.2, h.3.0, h.3.1, h.3.2)) (λ h. (h.0, h.1, h.2, (h.3, h.4, h.5)))
        (four (free (codes "RESHAPE")) (at_most 1 (rank_of ds a)) (at_most 1 (number_of_arguments es))
        (three (at_most (number_of_arguments es) array_dimensions) (has_kind a k) (are_scalars es Integer)))
    has_kind (Reduce r a) k = four (free (name_of_reduction r)) (at_most 1 (rank_of ds a)) (same_kind k Integer) (has_kind a Integer)

    are_arguments : (es : Expressions) → Decided (AreArguments ds es)
    are_arguments no_expressions = inl tt
    are_arguments (expression e es) = three (has_kind e Integer) (conform (rank_of ds e) (rank_of_each ds es)) (are_arguments es)

    pub are_scalars : (es : Expressions) (k : Kind) → Decided (AreScalars ds es k)
    are_scalars no_expressions k = inl tt
    are_scalars (expression e es) k = both (both (has_kind e k) (same_number (rank_of ds e) 0)) (are_scalars es k)

    pub are_subscripts : (ps : Subscripts) → Decided (AreSubscripts ds ps)
    are_subscripts no_subscripts = inl tt
    are_subscripts (subscript p ps) = both (is_subscript p) (are_subscripts ps)

    is_subscript : (p : Subscript) → Decided (IsSubscript ds p)
    is_subscript (Only e) = both (has_kind e Integer) (at_most (rank_of ds e) 1)
    is_subscript (Section a b c) = three (both (has_kind a Integer) (same_number (rank_of ds a) 0)) (both (has_kind b Integer) (same_number (rank_of ds b) 0)) (both (has_kind c Integer) (same_number (rank_of ds c) 0))

    are_loops : (ls : Loops) → Decided (AreLoops ds ls)
    are_loops no_loops = inl tt
    are_loops (loop x a b ls) = four (integer_scalar x) (both (has_kind a Integer) (same_number (rank_of ds a) 0)) (both (has_kind b Integer) (same_number (rank_of ds b) 0)) (are_loops ls)

  pub scalar : (e : Expression) (k : Kind) → Decided (IsScalar ds e k)
  scalar e k = both (has_kind e k) (same_number (rank_of ds e) 0)

  pub some_kind : (e : Expression) → Decided (HasSomeKind ds e)
  some_kind e = either (has_kind e Integer) (has_kind e Logical)

  pub do_variable : (x : List ℕ) (around : List (List ℕ)) → Decided (IsDoVariable ds x around)
  do_variable x around =
      like (λ h. record { integer = h.0; free = h.1 }) (λ h. (h.integer, h.free)) (both (integer_scalar x) (negated (contains same_name around x)))

-- ---- each name is declared alike by two lists

module _ (ds es : List Declaration) (alike : (x : List ℕ) → declared ds x ≡ declared es x) where
  pub some : (P : Declaration → Type 0) (x : List ℕ) → IsSomeAnd (declared ds x) P → IsSomeAnd (declared es x) P
  some P x = subst (λ o. IsSomeAnd o P) (alike x)

  pub integer_scalar_too : (x : List ℕ) → IsIntegerScalar ds x → IsIntegerScalar es x
  integer_scalar_too x = some (λ d. (d.kind ≡ Integer) × (rank_of_extent d.extent ≡ 0)) x

  pub do_variable_too : (x : List ℕ) (around : List (List ℕ)) → IsDoVariable ds x around → IsDoVariable es x around
  do_variable_too x around h = record { integer = integer_scalar_too x h.integer; free = h.free }

  free_too : (x : List ℕ) → IsFree ds x → IsFree es x
  free_too x h = sym (alike x) ∙ h

  rank_of_name_same : (x : List ℕ) → rank_of_name ds x ≡ rank_of_name es x
  rank_of_name_same x = ap (λ o. elim o as (λ p. ℕ) [ None ↦ 0 | Some d ↦ rank_of_extent d.extent ]) (alike x)

  mutual
    pub rank_same : (e : Expression) → rank_of ds e ≡ rank_of es e
    rank_same (Number n) = refl
    rank_same (Logic b) = refl
    rank_same (Named x no_subscripts) = rank_of_name_same x
    rank_same (Named x (subscript p ps)) = ap₂ (λ m n. m + n) (rank_subscript_same p) (rank_subscripts_same ps)
    rank_same (Unary o a) = rank_same a
    rank_same (Binary o a b) = ap₂ max (rank_same a) (rank_same b)
    rank_same (Apply f as') = rank_each_same as'
    rank_same (Constructor as' ls) = refl
    rank_same (Spread a d n) = ap (λ m. m + 1) (rank_same a)
    rank_same (Transpose a) = refl
    rank_same (Reshape a as') = refl
    rank_same (Reduce r a) = refl

    rank_each_same : (as' : Expressions) → rank_of_each ds as' ≡ rank_of_each es as'
    rank_each_same no_expressions = refl
    rank_each_same (expression e as') = ap₂ max (rank_same e) (rank_each_same as')

    pub rank_subscripts_same : (ps : Subscripts) → rank_of_subscripts ds ps ≡ rank_of_subscripts es ps
    rank_subscripts_same no_subscripts = refl
    rank_subscripts_same (subscript p ps) = ap₂ (λ m n. m + n) (rank_subscript_same p) (rank_subscripts_same ps)

    rank_subscript_same : (p : Subscript) → rank_of_subscript ds p ≡ rank_of_subscript es p
    rank_subscript_same (Only e) = rank_same e
    rank_subscript_same (Section a b c) = refl

  scalar_rank : (e : Expression) → rank_of ds e ≡ 0 → rank_of es e ≡ 0
  scalar_rank e h = sym (rank_same e) ∙ h

  conform_too : (a b : Expression) → Conform (rank_of ds a) (rank_of ds b) → Conform (rank_of es a) (rank_of es b)
  conform_too a b h = subst (λ m. Conform m (rank_of es b)) (rank_same a) (subst (λ n. Conform (rank_of ds a) n) (rank_same b) h)

  mutual
    pub kind_too : (e : Expression) (k : Kind) → HasKind ds e k → HasKind es e k
    kind_too (Number n) k h = h
    kind_too (Logic b) k h = h
    kind_too (Named x ps) k h = (some (λ d. (k ≡ d.kind) × SuitsDimensions ps (rank_of_extent d.extent)) x h.0, subscripts_too ps h.1)
    kind_too (Unary o a) k h = (h.0, h.1, kind_too a (operand_kind o) h.2)
    kind_too (Binary o a b) k h = (h.0, h.1, kind_too a (operand_kind o) h.2, kind_too b (operand_kind o) h.3, conform_too a b h.4)
    kind_too (Apply f as') k h = (h.0, free_too (name_of_function f) h.1, h.2, arguments_too as' h.3)
    kind_too (Constructor as' ls) k h = (scalars_too as' k h.0, h.1, loops_too ls h.2)
    kind_too (Spread a d n) k h =
        (free_too (codes "SPREAD") h.0, h.1, subst (λ m. d ≤ m + 1) (rank_same a) h.2, subst (λ m. m < array_dimensions) (rank_same a) h.3, kind_too a k h.4, kind_too n Integer h.5, scalar_rank n h.6)
    kind_too (Transpose a) k h = (free_too (codes "TRANSPOSE") h.0, sym (rank_same a) ∙ h.1, kind_too a k h.2)
    kind_too (Reshape a as') k h = (free_too (codes "RESHAPE") h.0, subst (λ m. 1 ≤ m) (rank_same a) h.1, h.2, h.3, kind_too a k h.4, scalars_too as' Integer h.5)
    kind_too (Reduce r a) k h = (free_too (name_of_reduction r) h.0, subst (λ m. 1 ≤ m) (rank_same a) h.1, h.2, kind_too a Integer h.3)

    arguments_too : (as' : Expressions) → AreArguments ds as' → AreArguments es as'
    arguments_too no_expressions h = tt
    arguments_too (expression e as') h =
        (kind_too e Integer h.0, subst (λ m. Conform m (rank_of_each es as')) (rank_same e) (subst (λ n. Conform (rank_of ds e) n) (rank_each_same as') h.1), arguments_too as' h.2)

    pub scalars_too : (as' : Expressions) (k : Kind) → AreScalars ds as' k → AreScalars es as' k
    scalars_too no_expressions k h = tt
    scalars_too (expression e as') k h = ((kind_too e k h.0.0, scalar_rank e h.0.1), scalars_too as' k h.1)

    subscripts_too : (ps : Subscripts) → AreSubscripts ds ps → AreSubscripts es ps
    subscripts_too no_subscripts h = tt
    subscripts_too (subscript p ps) h = (subscript_too p h.0, subscripts_too ps h.1)

    subscript_too : (p : Subscript) → IsSubscript ds p → IsSubscript es p
    subscript_too (Only e) h = (kind_too e Integer h.0, subst (λ m. m ≤ 1) (rank_same e) h.1)
    subscript_too (Section a b c) h =
        ((kind_too a Integer h.0.0, scalar_rank a h.0.1), (kind_too b Integer h.1.0, scalar_rank b h.1.1), (kind_too c Integer h.2.0, scalar_rank c h.2.1))

    loops_too : (ls : Loops) → AreLoops ds ls → AreLoops es ls
    loops_too no_loops h = tt
    loops_too (loop x a b ls) h = (integer_scalar_too x h.0, (kind_too a Integer h.1.0, scalar_rank a h.1.1), (kind_too b Integer h.2.0, scalar_rank b h.2.1), loops_too ls h.3)

  pub scalar_too : (e : Expression) (k : Kind) → IsScalar ds e k → IsScalar es e k
  scalar_too e k h = (kind_too e k h.0, scalar_rank e h.1)

  pub some_kind_too : (e : Expression) → HasSomeKind ds e → HasSomeKind es e
  some_kind_too e (inl h) = inl (kind_too e Integer h)
  some_kind_too e (inr h) = inr (kind_too e Logical h)
