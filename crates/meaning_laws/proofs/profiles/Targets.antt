-- A program of the FORTRAN 77 profile is one of the Fortran 90 profile.
use Rattle.std.proofs.Common.{◌≡◌, ◌⊎◌, inl, inr, ℕ, Option, Some, None, List, ◌∷◌, length}
use Rattle.std.proofs.Common.{refl, sym, ap, subst, ◌∙◌, arith, IfSome}
use Rattle.std.specs.Option.{IsSomeAnd}
use Rattle.tree.specs.Plain.{Expression, Number, Logic, Named, Unary, Binary, Apply, Constructor, Spread, Transpose, Reshape, Reduce, Expressions, no_expressions, expression, Subscript, Only, Section, Subscripts, no_subscripts, subscript, Reference, Item, Single, Constant, ImpliedDo, Items, no_items, item, Statement, Assignment, Where, If, Do, Label, GoTo, Stop, Read, Print, Allocate, Deallocate, Arms, no_arms, arm, Block, no_statements, statement, Extent, Given, Later, Declaration}
use Rattle.tree.specs.declared.ops.Kind.{Kind}
use Rattle.tree.specs.declared.ops.Kind.TheVariants.{Integer, Logical}
use Rattle.tree.specs.declared.functions.Fun.{Fun}
use Rattle.tree.specs.Functions.{name_of_function}
use Rattle.meaning.specs.Typed.{dimensions, declared, number_of_subscripts, rank_of_extent}
use Rattle.meaning.specs.Blocks.{Surroundings, within_loop, before_labels, labels_of}
use Rattle.meaning.specs.Value.{named}
use Rattle.meaning.specs.Typed77 as source
use Rattle.meaning.specs.Typed90 as target
use Rattle.meaning.specs.Items90 as items90
use Rattle.meaning.specs.Typed90.{rank_of, rank_of_each, rank_of_subscripts, rank_of_subscript, rank_of_name}
use Rattle.meaning.specs.Profile77 as profile77
use Rattle.meaning.specs.Profile77.{IsFixed}
use Rattle.meaning.specs.Profile90 as profile90
use Rattle.meaning_laws.proofs.profiles.Lists.{some_and}

fixed_rank : (e : Extent) → IsFixed e → rank_of_extent e ≡ length (dimensions e)
fixed_rank (Given bs) h = refl
fixed_rank (Later n) h = absurd h

kinds : (k : Kind) → (k ≡ Integer) ⊎ (k ≡ Logical)
kinds Integer = inl refl
kinds Logical = inr refl

-- the declarations `es` have what `ds` has, and hide no function that `ds` doesn't
pub record Extends (ds es : List Declaration) : Type 0 where
  pub found : (x : List ℕ) (e : Declaration) → declared ds x ≡ Some e → declared es x ≡ Some e
  pub fixed : (x : List ℕ) (e : Declaration) → declared ds x ≡ Some e → IsFixed e.extent
  pub free : (f : Fun) → declared ds (name_of_function f) ≡ None → declared es (name_of_function f) ≡ None

module _ (ds es : List Declaration) (ext : Extends ds es) where
  -- what holds of the declaration of a name
  of_name : (x : List ℕ) (P Q : Declaration → Type 0) → ((d : Declaration) → IsFixed d.extent → P d → Q d) → IsSomeAnd (declared ds x) P → IsSomeAnd (declared es x) Q
  of_name x P Q f h = some_and P Q (declared ds x) (declared es x) (ext.found x) (λ d e. f d (ext.fixed x d e)) h

  no_rank : (x : List ℕ) (P : Declaration → Type 0) → ((d : Declaration) → P d → 0 ≡ length (dimensions d.extent)) → IsSomeAnd (declared ds x) P → rank_of_name es x ≡ 0
  no_rank x P f h = by (declared ds x) refl h
    where
      by : (o : Option Declaration) → declared ds x ≡ o → IsSomeAnd o P → rank_of_name es x ≡ 0
      by None e g = absurd g
      by (Some d) e g =
          let is : rank_of_name es x ≡ rank_of_extent d.extent = ap (λ o. elim o [ None ↦ 0 | Some c ↦ rank_of_extent c.extent ]) (ext.found x d e) in
          is ∙ fixed_rank d.extent (ext.fixed x d e) ∙ sym (f d g)

  mutual
    rank : (e : Expression) (k : Kind) → source.HasKind ds e k → rank_of es e ≡ 0
    rank (Number n) k h = refl
    rank (Logic b) k h = refl
    rank (Named x no_subscripts) k h = no_rank x _ (λ d q. q.1) h.0
    rank (Named x (subscript p ps)) k h = let a = rank_subscript p h.1.0 in let b = rank_subscripts ps h.1.1 in omega (arith, a, b)
    rank (Unary o a) k h = rank a _ h.2
    rank (Binary o a b) k h = let p = rank a _ h.2 in let q = rank b _ h.3 in omega (arith, p, q)
    rank (Apply f vs) k h = rank_arguments vs h.3
    rank (Constructor vs ls) k h = absurd h
    rank (Spread a n e) k h = absurd h
    rank (Transpose a) k h = absurd h
    rank (Reshape a vs) k h = absurd h
    rank (Reduce r a) k h = absurd h

    rank_arguments : (vs : Expressions) → source.AreArguments ds vs → rank_of_each es vs ≡ 0
    rank_arguments no_expressions h = refl
    rank_arguments (expression e vs) h = let p = rank e _ h.0 in let q = rank_arguments vs h.1 in omega (arith, p, q)

    rank_subscripts : (ps : Subscripts) → source.AreSubscripts ds ps → rank_of_subscripts es ps ≡ 0
    rank_subscripts no_subscripts h = refl
    rank_subscripts (subscript p ps) h = let a = rank_subscript p h.0 in let b = rank_subscripts ps h.1 in omega (arith, a, b)

    rank_subscript : (p : Subscript) → source.IsSubscript ds p → rank_of_subscript es p ≡ 0
    rank_subscript (Only e) h = rank e _ h
    rank_subscript (Section a b c) h = absurd h

  suits_dimensions : (ps : Subscripts) (d : Declaration) → IsFixed d.extent → number_of_subscripts ps ≡ length (dimensions d.extent) → target.SuitsDimensions ps (rank_of_extent d.extent)
  suits_dimensions no_subscripts d f h = tt
  suits_dimensions (subscript p ps) d f h = h ∙ sym (fixed_rank d.extent f)

  mutual
    kind : (e : Expression) (k : Kind) → source.HasKind ds e k → target.HasKind es e k
    kind (Number n) k h = h
    kind (Logic b) k h = h
    kind (Named x ps) k h = (of_name x _ _ (λ d f q. (q.0, suits_dimensions ps d f q.1)) h.0, kind_subscripts ps h.1)
    kind (Unary o a) k h = (h.0, h.1, kind a _ h.2)
    kind (Binary o a b) k h = (h.0, h.1, kind a _ h.2, kind b _ h.3, inl (rank a _ h.2))
    kind (Apply f vs) k h = (h.0, ext.free f h.1, h.2, kind_arguments vs h.3)
    kind (Constructor vs ls) k h = absurd h
    kind (Spread a n e) k h = absurd h
    kind (Transpose a) k h = absurd h
    kind (Reshape a vs) k h = absurd h
    kind (Reduce r a) k h = absurd h

    kind_arguments : (vs : Expressions) → source.AreArguments ds vs → target.AreArguments es vs
    kind_arguments no_expressions h = tt
    kind_arguments (expression e vs) h = (kind e _ h.0, inl (rank e _ h.0), kind_arguments vs h.1)

    kind_subscripts : (ps : Subscripts) → source.AreSubscripts ds ps → target.AreSubscripts es ps
    kind_subscripts no_subscripts h = tt
    kind_subscripts (subscript p ps) h = (kind_subscript p h.0, kind_subscripts ps h.1)

    kind_subscript : (p : Subscript) → source.IsSubscript ds p → target.IsSubscript es p
    kind_subscript (Only e) h = (kind e _ h, let r = rank e _ h in omega (arith, r))
    kind_subscript (Section a b c) h = absurd h

  scalar : (e : Expression) (k : Kind) → source.HasKind ds e k → target.IsScalar es e k
  scalar e k h = (kind e k h, rank e k h)

  whole : (e : Expression) (k : Kind) → source.IsWhole ds e k → profile90.IsWhole es e k
  whole e k h = record { suits = kind e k h.suits; depth = omega (arith, h.depth) }

  whole_scalar : (e : Expression) (k : Kind) → source.IsWhole ds e k → profile90.IsWholeScalar es e k
  whole_scalar e k h = record { suits = scalar e k h.suits; depth = omega (arith, h.depth) }

  -- ---- items

  do_variable : (x : List ℕ) (w : List (List ℕ)) → source.IsDoVariable ds x w → target.IsDoVariable es x w
  do_variable x w h = record { integer = of_name x _ _ (λ d f q. (sym q.0, fixed_rank d.extent f ∙ sym q.1)) h.integer.0; free = h.free }

  either : (e : Expression) → source.HasKind ds e Integer ⊎ source.HasKind ds e Logical → target.HasSomeKind es e
  either e (inl h) = inl (kind e _ h)
  either e (inr h) = inr (kind e _ h)

  whole_array : (x : List ℕ) → source.IsDeclared ds x → target.HasSomeKind es (Named x no_subscripts)
  whole_array x h = by (declared es x) refl (of_name x _ (λ d. Unit {0}) (λ d f q. tt) h)
    where
      of_kind : (d : Declaration) → declared es x ≡ Some d → (k : Kind) → d.kind ≡ k → target.HasKind es (Named x no_subscripts) k
      of_kind d e k s = (subst (λ o. IsSomeAnd o (λ c. (k ≡ c.kind) × Unit {0})) (sym e) (sym s, tt), tt)

      by : (o : Option Declaration) → declared es x ≡ o → IsSomeAnd o (λ d. Unit {0}) → target.HasSomeKind es (Named x no_subscripts)
      by None e g = absurd g
      by (Some d) e g = at (kinds d.kind)
        where
          at : (d.kind ≡ Integer) ⊎ (d.kind ≡ Logical) → target.HasSomeKind es (Named x no_subscripts)
          at (inl s) = inl (of_kind d e Integer s)
          at (inr s) = inr (of_kind d e Logical s)

  element_or_whole : (x : List ℕ) (ps : Subscripts) → source.IsElementOrWhole ds x ps → target.HasSomeKind es (Named x ps)
  element_or_whole x no_subscripts h = whole_array x h
  element_or_whole x (subscript p ps) h = either (Named x (subscript p ps)) h

  output : (e : Expression) → source.IsOutput ds e → target.HasSomeKind es e
  output (Named x ps) h = element_or_whole x ps h
  output (Number n) h = either (Number n) h
  output (Logic b) h = either (Logic b) h
  output (Unary o a) h = either (Unary o a) h
  output (Binary o a b) h = either (Binary o a b) h
  output (Apply f vs) h = either (Apply f vs) h
  output (Constructor vs ls) h = either (Constructor vs ls) h
  output (Spread a n e) h = either (Spread a n e) h
  output (Transpose a) h = either (Transpose a) h
  output (Reshape a vs) h = either (Reshape a vs) h
  output (Reduce r a) h = either (Reduce r a) h

  element_rank : (x : List ℕ) (ps : Subscripts) → source.IsElementOrWhole ds x ps → rank_of_subscripts es ps ≡ 0
  element_rank x no_subscripts h = refl
  element_rank x (subscript p ps) (inl h) = rank_subscripts (subscript p ps) h.1
  element_rank x (subscript p ps) (inr h) = rank_subscripts (subscript p ps) h.1

  input : (e : Expression) (w : List (List ℕ)) → source.IsInput ds e w → items90.IsInput es e w
  input (Named x ps) w h = (element_or_whole x ps h.0, element_rank x ps h.0, h.1)
  input (Number n) w h = absurd h
  input (Logic b) w h = absurd h
  input (Unary o a) w h = absurd h
  input (Binary o a b) w h = absurd h
  input (Apply f vs) w h = absurd h
  input (Constructor vs ls) w h = absurd h
  input (Spread a n e) w h = absurd h
  input (Transpose a) w h = absurd h
  input (Reshape a vs) w h = absurd h
  input (Reduce r a) w h = absurd h

  mutual
    output_item : (i : Item) (w : List (List ℕ)) → source.IsOutputItem ds i w → items90.IsOutputItem es i w
    output_item (Single e) w h = output e h
    output_item (Constant t) w h = h
    output_item (ImpliedDo is x a b c) w h = (h.0, do_variable x w h.1, scalar a _ h.2, scalar b _ h.3, scalar c _ h.4, output_items is (x ∷ w) h.5)

    output_items : (is : Items) (w : List (List ℕ)) → source.AreOutputItems ds is w → items90.AreOutputItems es is w
    output_items no_items w h = tt
    output_items (item i is) w h = (output_item i w h.0, output_items is w h.1)

  mutual
    input_item : (i : Item) (w : List (List ℕ)) → source.IsInputItem ds i w → items90.IsInputItem es i w
    input_item (Single e) w h = input e w h
    input_item (Constant t) w h = absurd h
    input_item (ImpliedDo is x a b c) w h = (h.0, do_variable x w h.1, scalar a _ h.2, scalar b _ h.3, scalar c _ h.4, input_items is (x ∷ w) h.5)

    input_items : (is : Items) (w : List (List ℕ)) → source.AreInputItems ds is w → items90.AreInputItems es is w
    input_items no_items w h = tt
    input_items (item i is) w h = (input_item i w h.0, input_items is w h.1)

  -- ---- statements

  right_rank : (left : Reference) (right : Expression) → IsSomeAnd (declared ds left.name) (λ d. source.IsWhole ds (Named left.name left.subscripts) d.kind × source.IsWhole ds right d.kind) → rank_of es right ≡ 0
  right_rank left right h = by (declared ds left.name) h
    where
      by : (o : Option Declaration) → IsSomeAnd o (λ d. source.IsWhole ds (Named left.name left.subscripts) d.kind × source.IsWhole ds right d.kind) → rank_of es right ≡ 0
      by None g = absurd g
      by (Some d) g = rank right d.kind g.1.suits

  assigned : (left : Reference) (right : Expression) (w : Surroundings) → profile77.IsAssignment ds left right w → profile90.IsAssignment es left right w
  assigned left right w h = (of_name left.name _ _ (λ d f q. (whole (named left) d.kind q.0, whole right d.kind q.1)) h.0, inl (right_rank left right h.0), h.1)

  mutual
    statement_is : (c : Statement) (w : Surroundings) → profile77.IsStatement ds c w → profile90.IsStatement es c w
    statement_is (Assignment line mark left right) w h = ((h.0, subst (λ m. IfSome m profile90.IsMark) (sym h.1) tt), assigned left right w h.2)
    statement_is (If line arms other) w h = (h.0, h.1, arms_are arms w h.2, block_is other w h.3)
    statement_is (Do line x a b c body) w h = (h.0, do_variable x w.variables h.1, whole_scalar a _ h.2, whole_scalar b _ h.3, whole_scalar c _ h.4, block_is body (within_loop x w) h.5)
    statement_is (Label n) w h = h
    statement_is (GoTo line n) w h = h
    statement_is (Stop line) w h = h
    statement_is (Read line is) w h = (h.0, input_items is w.variables h.1, omega (arith, h.2))
    statement_is (Print line is) w h = (h.0, output_items is w.variables h.1, omega (arith, h.2))
    statement_is (Where line m k l r) w h = absurd h
    statement_is (Allocate line x vs) w h = absurd h
    statement_is (Deallocate line x) w h = absurd h

    arms_are : (arms : Arms) (w : Surroundings) → profile77.AreArms ds arms w → profile90.AreArms es arms w
    arms_are no_arms w h = tt
    arms_are (arm test body more) w h = (whole_scalar test _ h.0, block_is body w h.1, arms_are more w h.2)

    pub block_is : (b : Block) (w : Surroundings) → profile77.IsBlock ds b w → profile90.IsBlock es b w
    block_is no_statements w h = tt
    block_is (statement c cs) w h = (statement_is c (before_labels (labels_of cs) w) h.0, block_is cs w h.1)
