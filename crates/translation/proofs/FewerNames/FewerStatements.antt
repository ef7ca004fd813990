-- A block of the profile is one by fewer declarations that declare all its names.
use Rattle.std.proofs.Common.{◌≡◌, ◌⊎◌, inl, inr, ℕ, ◌≤◌, Option, Some, None, List, ◌∷◌, ◌++◌}
use Rattle.std.proofs.Common.{refl, sym, subst, ◌∙◌, Contains}
use Rattle.std.proofs.lemmas.List.Elements.{recursion_from_All}
use Rattle.tree.specs.Plain.{Expression, Number, Logic, Named, Unary, Binary, Apply, Constructor, Spread, Transpose}
use Rattle.tree.specs.Plain.{Reshape, Reduce, Reference, Item, Single, Constant, ImpliedDo, Items, no_items, item}
use Rattle.tree.specs.Plain.{Statement, Assignment, Where, If, Do, Label, GoTo, Stop, Read, Print, Allocate}
use Rattle.tree.specs.Plain.{Deallocate, Arms, no_arms, arm, Block, no_statements, statement, Expressions}
use Rattle.tree.specs.Plain.{Declaration}
use Rattle.tree.specs.declared.ops.Kind.{Kind}
use Rattle.tree.specs.declared.ops.Kind.TheVariants.{Integer, Logical}
use Rattle.meaning.specs.Reads.{names_in_block}
use Rattle.meaning.specs.Reads.{names_in_item, names_in_items, names_in_statement, names_in_arms}
use Rattle.meaning.specs.Blocks.{Surroundings, within_loop, before_labels, labels_of}
use Rattle.meaning.specs.Profile90.{IsWhole, IsWholeScalar, IsAssignment, IsMasked, IsAllocation, IsStatement}
use Rattle.meaning.specs.Profile90.{AreArms, IsBlock}
use Rattle.meaning.specs.Reads.{names_in, names_in_each, names_in_subscripts}
use Rattle.meaning.specs.Typed.{declared}
use Rattle.meaning.specs.Typed90.{rank_of, IsScalar, IsDoVariable, HasSomeKind}
use Rattle.meaning.specs.Items90.{IsInput, IsOutputItem}
use Rattle.meaning.specs.Items90.{AreOutputItems, IsInputItem, AreInputItems}
use Rattle.meaning.specs.Value.{named}
use Rattle.meaning_laws.proofs.profiles.Lists.{all_weaker}
use Rattle.meaning_laws.proofs.profiles.Names.{names, found, once}
use Rattle.meaning_laws.proofs.dialects.MadeNames.{is_declared}
use Rattle.translation.specs.fewer_names.Laws.{BlockWithFewerNames}
use Rattle.translation.proofs.FewerNames.FewerKinds.{moved, Alike, alike_first, alike_rest, AlikeInThree, alike_in_three, of_name}
use Rattle.translation.proofs.FewerNames.FewerKinds.{rank, rank_subscripts, kind, kind_scalars}

module _ (ds es : List Declaration) (free : (x : List ℕ) → declared es x ≡ None → declared ds x ≡ None) where
  abbrev Known : List (List ℕ) → Type 0
  Known xs = Alike ds es xs

  -- ---- expressions

  scalar : (e : Expression) (k : Kind) → Known (names_in e) → IsScalar es e k → IsScalar ds e k
  scalar e k h g = (kind ds es free e k h g.0, rank ds es e h ∙ g.1)

  whole : (e : Expression) (k : Kind) → Known (names_in e) → IsWhole es e k → IsWhole ds e k
  whole e k h g = record { suits = kind ds es free e k h g.suits; depth = g.depth }

  whole_scalar : (e : Expression) (k : Kind) → Known (names_in e) → IsWholeScalar es e k → IsWholeScalar ds e k
  whole_scalar e k h g = record { suits = scalar e k h g.suits; depth = g.depth }

  some_kind : (e : Expression) → Known (names_in e) → HasSomeKind es e → HasSomeKind ds e
  some_kind e h (inl g) = inl (kind ds es free e Integer h g)
  some_kind e h (inr g) = inr (kind ds es free e Logical h g)

  -- ---- items

  do_variable : (x : List ℕ) (w : List (List ℕ)) → declared ds x ≡ declared es x → IsDoVariable es x w → IsDoVariable ds x w
  do_variable x w h g = record { integer = of_name ds es x _ _ (λ d q. q) h g.integer; free = g.free }

  input : (e : Expression) (w : List (List ℕ)) → Known (names_in e) → IsInput es e w → IsInput ds e w
  input (Named x ps) w h g = (some_kind (Named x ps) h g.0, rank_subscripts ds es ps h.1 ∙ g.1, g.2)
  input (Number n) w h g = absurd g
  input (Logic b) w h g = absurd g
  input (Unary o a) w h g = absurd g
  input (Binary o a b) w h g = absurd g
  input (Apply f vs) w h g = absurd g
  input (Constructor vs ls) w h g = absurd g
  input (Spread a n e) w h g = absurd g
  input (Transpose a) w h g = absurd g
  input (Reshape a vs) w h g = absurd g
  input (Reduce r a) w h g = absurd g

  -- of a loop's parameters, and of what stands in it
  record KnownInLoop (a b c : Expression) (rest : List (List ℕ)) : Type 0 where
    parameters : AlikeInThree ds es (names_in a) (names_in b) (names_in c)
    inner : Known rest

  known_in_loop : (a b c : Expression) (rest : List (List ℕ)) → Known (names_in a ++ names_in b ++ names_in c ++ rest) → KnownInLoop a b c rest
  known_in_loop a b c rest h = record {
    parameters = alike_in_three ds es (names_in a) (names_in b) (names_in c) (alike_first ds es (names_in a ++ names_in b ++ names_in c) rest h);
    inner = alike_rest ds es (names_in a ++ names_in b ++ names_in c) rest h;
  }

  mutual
    output_item : (i : Item) (w : List (List ℕ)) → Known (names_in_item i) → IsOutputItem es i w → IsOutputItem ds i w
    output_item (Single e) w h g = some_kind e h g
    output_item (Constant t) w h g = g
    output_item (ImpliedDo is x a b c) w h g =
        let k = known_in_loop a b c (names_in_items is) h.1 in
        (g.0, do_variable x w h.0 g.1, scalar a _ k.parameters.first g.2, scalar b _ k.parameters.second g.3, scalar c _ k.parameters.third g.4, output_items is (x ∷ w) k.inner g.5)

    output_items : (is : Items) (w : List (List ℕ)) → Known (names_in_items is) → AreOutputItems es is w → AreOutputItems ds is w
    output_items no_items w h g = tt
    output_items (item i is) w h g =
        (output_item i w (alike_first ds es (names_in_item i) (names_in_items is) h) g.0, output_items is w (alike_rest ds es (names_in_item i) (names_in_items is) h) g.1)

  mutual
    input_item : (i : Item) (w : List (List ℕ)) → Known (names_in_item i) → IsInputItem es i w → IsInputItem ds i w
    input_item (Single e) w h g = input e w h g
    input_item (Constant t) w h g = absurd g
    input_item (ImpliedDo is x a b c) w h g =
        let k = known_in_loop a b c (names_in_items is) h.1 in
        (g.0, do_variable x w h.0 g.1, scalar a _ k.parameters.first g.2, scalar b _ k.parameters.second g.3, scalar c _ k.parameters.third g.4, input_items is (x ∷ w) k.inner g.5)

    input_items : (is : Items) (w : List (List ℕ)) → Known (names_in_items is) → AreInputItems es is w → AreInputItems ds is w
    input_items no_items w h g = tt
    input_items (item i is) w h g =
        (input_item i w (alike_first ds es (names_in_item i) (names_in_items is) h) g.0, input_items is w (alike_rest ds es (names_in_item i) (names_in_items is) h) g.1)

  -- ---- statements

  right_rank : (left : Reference) (right : Expression) → Known (names_in (named left)) → Known (names_in right)
      → (rank_of es right ≡ 0) ⊎ (rank_of es right ≡ rank_of es (named left)) → (rank_of ds right ≡ 0) ⊎ (rank_of ds right ≡ rank_of ds (named left))
  right_rank left right l r (inl g) = inl (rank ds es right r ∙ g)
  right_rank left right l r (inr g) = inr (rank ds es right r ∙ (g ∙ sym (rank ds es (named left) l)))

  assigned : (left : Reference) (right : Expression) (w : Surroundings) → Known (names_in (named left)) → Known (names_in right) → IsAssignment es left right w → IsAssignment ds left right w
  assigned left right w l r g =
      (of_name ds es left.name _ _ (λ d q. (whole (named left) d.kind l q.0, whole right d.kind r q.1)) l.0 g.0, right_rank left right l r g.1, g.2)

  masked : (mask : Expression) (left : Reference) → Known (names_in mask) → Known (names_in (named left)) → IsMasked es mask left → IsMasked ds mask left
  masked mask left m l g = (
    whole mask Logical m g.0,
    moved (λ n. 1 ≤ n) (rank_of ds (named left)) (rank_of es (named left)) (rank ds es (named left) l) g.1,
    rank ds es mask m ∙ (g.2 ∙ sym (rank ds es (named left) l)),
  )

  allocated : (x : List ℕ) (vs : Expressions) → declared ds x ≡ declared es x → Known (names_in_each vs) → IsAllocation es x vs → IsAllocation ds x vs
  allocated x vs e h g = (of_name ds es x _ _ (λ d q. q) e g.0, kind_scalars ds es free vs Integer h g.1, g.2)

  mutual
    statement_is : (c : Statement) (w : Surroundings) → Known (names_in_statement c) → IsStatement es c w → IsStatement ds c w
    statement_is (Assignment line mark left right) w h g =
        let l = alike_first ds es (names_in_subscripts left.subscripts) (names_in right) h.1 in
        (g.0, assigned left right w (h.0, l) (alike_rest ds es (names_in_subscripts left.subscripts) (names_in right) h.1) g.1)
    statement_is (Where line mark m left right) w h g =
        let t = alike_in_three ds es (names_in m) (names_in_subscripts left.subscripts) (names_in right) h.1 in
        (g.0, masked m left t.first (h.0, t.second) g.1, assigned left right w (h.0, t.second) t.third g.2)
    statement_is (If line arms other) w h g =
        (g.0, g.1, arms_are arms w (alike_first ds es (names_in_arms arms) (names_in_block other) h) g.2, block_is other w (alike_rest ds es (names_in_arms arms) (names_in_block other) h) g.3)
    statement_is (Do line x a b c body) w h g =
        let k = known_in_loop a b c (names_in_block body) h.1 in (
          g.0,
          do_variable x w.variables h.0 g.1,
          whole_scalar a _ k.parameters.first g.2,
          whole_scalar b _ k.parameters.second g.3,
          whole_scalar c _ k.parameters.third g.4,
          block_is body (within_loop x w) k.inner g.5,
        )
    statement_is (Label n) w h g = g
    statement_is (GoTo line n) w h g = g
    statement_is (Stop line) w h g = g
    statement_is (Read line is) w h g = (g.0, input_items is w.variables h g.1, g.2)
    statement_is (Print line is) w h g = (g.0, output_items is w.variables h g.1, g.2)
    statement_is (Allocate line x vs) w h g = (g.0, allocated x vs h.0 h.1 g.1)
    statement_is (Deallocate line x) w h g = (g.0, of_name ds es x _ _ (λ d q. q) h.0 g.1)

    arms_are : (arms : Arms) (w : Surroundings) → Known (names_in_arms arms) → AreArms es arms w → AreArms ds arms w
    arms_are no_arms w h g = tt
    arms_are (arm test body more) w h g =
        let t = alike_in_three ds es (names_in test) (names_in_block body) (names_in_arms more) h in
        (whole_scalar test _ t.first g.0, block_is body w t.second g.1, arms_are more w t.third g.2)

    block_is : (b : Block) (w : Surroundings) → Known (names_in_block b) → IsBlock es b w → IsBlock ds b w
    block_is no_statements w h g = tt
    block_is (statement c cs) w h g =
        (statement_is c (before_labels (labels_of cs) w) (alike_first ds es (names_in_statement c) (names_in_block cs) h) g.0, block_is cs w (alike_rest ds es (names_in_statement c) (names_in_block cs) h) g.1)

-- ---- fewer declarations

pub block_with_fewer_names : BlockWithFewerNames
block_with_fewer_names ds es b w fewer are some known h =
    block_is ds es free b w
    (all_weaker (Contains (names ds)) (λ (x : List ℕ). declared ds x ≡ declared es x) alike (names_in_block b) (recursion_from_All (Contains (names ds)) (names_in_block b) known)) h
  where
    kept : (x : List ℕ) (e : Declaration) → declared ds x ≡ Some e → declared es x ≡ Some e
    kept x e f = let k = found ds x e f in subst (λ y. declared es y ≡ Some e) k.name (once es e are.ordered (some e k.among))

    alike : (x : List ℕ) → Contains (names ds) x → declared ds x ≡ declared es x
    alike x c = let d = is_declared ds x c in d.1 ∙ sym (kept x d.0 d.1)

    free : (x : List ℕ) → declared es x ≡ None → declared ds x ≡ None
    free x g = by (declared ds x) refl
      where
        by : (o : Option Declaration) → declared ds x ≡ o → o ≡ None
        by None q = refl
        by (Some e) q = let k = kept x e q in absurd cc
