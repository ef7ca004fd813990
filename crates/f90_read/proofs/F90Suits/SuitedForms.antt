-- The kinds and ranks of a statement suit where those of its tree do.
use Rattle.std.proofs.Common.{◌≡◌, ◌⊎◌, inl, inr, ◌↔◌, ◌∙◌, refl, sym, ap, subst, ℕ, Bool, true, false, not, ◌&&◌}
use Rattle.std.proofs.Common.{List, [], ◌∷◌, Option, None, Some, Decides}
use Rattle.std.specs.Option.{IsSomeAnd}
use Rattle.tree.specs.Plain as tree
use Rattle.tree.specs.Plain.{Expression, Reference, Statement, Declaration}
use Rattle.tree.specs.View.{expression_of, statement_of}
use Rattle.tree.specs.declared.ops.Kind.TheVariants.{Integer, Logical}
use Rattle.tree.specs.declared.stmts.Stmt.{Stmt}
use Rattle.meaning.specs.Typed.{declared}
use Rattle.meaning.specs.Typed90.{IsScalar}
use Rattle.f90_grammar.specs.Blocks.{Placed, IsSimple, placed_form}
use Rattle.reading.specs.Signs.{reference_in}
use Rattle.f90_grammar.specs.Blocks.IsSimple.{assigns, masks, goes, stops, reads, reads_nothing, prints}
use Rattle.f90_grammar.specs.Blocks.IsSimple.{prints_nothing, allocates, deallocates}
use Rattle.f90_grammar.specs.Forms as forms
use Rattle.f90_grammar.specs.Forms.{Form90}
use Rattle.f90_grammar.specs.Items.{step_tree90}
use Rattle.f90_grammar.specs.Order.{is_executable90}
use Rattle.f90_grammar.specs.Phrases.{Phrase90, tree_of}
use Rattle.f90_grammar.specs.Reading.{function_by}
use Rattle.f90_grammar.specs.Suited.{SuitsAssignment, AreNumbers, Suits}
use Rattle.f90_trees.specs.Building.{held}
use Rattle.f90_blocks.specs.statement_trees.Executable.{is_named, is_call, stores_into_call, has_tree}
use Rattle.f90_blocks.specs.statement_trees.Held.{held_statement, IsHeldStmtOf, IsHeldDone, IsHeldTreeOf}
use Rattle.f90_blocks.specs.statement_trees.Uncut.{IsNarrow}
use Rattle.f90_blocks.specs.declared.statement_trees.nodes.StatementTree.{StatementTree}
use Rattle.f90_blocks.specs.declared.statement_trees.nodes.StatementTree.TheVariants.{Simple, Test, If, ElseIf, Else, EndIf}
use Rattle.f90_blocks.specs.declared.statement_trees.nodes.StatementTree.TheVariants.{Do, EndDo, Continue}
use Rattle.f90_read.specs.f90_suits.Suited.{SuitsStatement, SuitsDone, SuitsTree}
use Rattle.f90_read.proofs.F90Suits.HeldNames.{same, through, pair}
use Rattle.f90_read.proofs.F90Suits.NamedForms.{nameless, unnamed, nothing, stores}
use Rattle.f90_read.proofs.F90Suits.StayedForms.{IsNarrowForm, narrow_simple, narrow_step, scalar_stays, numbers_stay}
use Rattle.f90_read.proofs.F90Suits.StayedForms.{statement_stays}

module _ (ds : List Declaration) where
  abbrev tree_by : Phrase90 → Expression
  tree_by p = tree_of (function_by ds) p

  simple_suited : (p : Placed) (s : Statement) → IsSimple (function_by ds) (λ n. false) p s
      → (SuitsStatement ds s ↔ Suits ds p.form)
  simple_suited _ _ (assigns line m l r) = same
  simple_suited _ _ (masks line m p l r) = same
  simple_suited _ _ (goes line label) = same
  simple_suited _ _ (stops line) = same
  simple_suited _ _ (reads line is) = same
  simple_suited _ _ (reads_nothing line) = same
  simple_suited _ _ (prints line is) = same
  simple_suited _ _ (prints_nothing line) = same
  simple_suited _ _ (allocates line x es) = same
  simple_suited _ _ (deallocates line x) = same

  held_suited : (s : Statement) (c : Statement) → s ≡ held_statement c
      → (SuitsStatement ds c ⊎ SuitsStatement ds (held_statement c) → held_statement c ≡ c)
      → (SuitsStatement ds s ↔ SuitsStatement ds c)
  held_suited s c e k = (
    λ h. let j = subst (λ (c : Statement). SuitsStatement ds c) e h in subst (λ (c : Statement). SuitsStatement ds c)
        (k (inr j)) j,
    λ h. subst (λ (c : Statement). SuitsStatement ds c) (sym (e ∙ k (inl h))) h,
  )

  stmt_suited : (p : Placed) (s : Stmt) → IsHeldStmtOf (function_by ds) p s → IsNarrowForm (function_by ds) p.form
      → (SuitsStatement ds (statement_of s) ↔ Suits ds p.form)
  stmt_suited p s h n =
      through
      (held_suited (statement_of s) h.statement h.same
      (statement_stays ds h.statement (narrow_simple (function_by ds) p h.statement h.is n)))
      (simple_suited p h.statement h.is)

  empty_suited : (f : Form90) → f ≡ forms.Continue [] → (Unit {0} ↔ Suits ds f)
  empty_suited f e = subst (λ (g : Form90). Unit {0} ↔ Suits ds g) (sym e) same

  done_suited : (p : Placed) (s : Option Stmt) → IsHeldDone (function_by ds) p s → IsNarrowForm
      (function_by ds) p.form → (SuitsDone ds s ↔ Suits ds p.form)
  done_suited p (Some s) h n = stmt_suited p s h n
  done_suited p None h n = empty_suited p.form h

  condition_suited : (x : Expression) (q : Phrase90) → IsNarrow (tree_by q) → x ≡ held (tree_by q)
      → (IsScalar ds x Logical ↔ IsScalar ds (tree_by q) Logical)
  condition_suited x q n e = (
    λ h. let j = subst (λ (y : Expression). IsScalar ds y Logical) e h in subst
        (λ (y : Expression). IsScalar ds y Logical) (scalar_stays ds (tree_by q) Logical n (inr j)) j,
    λ h. subst (λ (y : Expression). IsScalar ds y Logical)
        (sym (e ∙ scalar_stays ds (tree_by q) Logical n (inl h))) h,
  )

  moved : (a b c u v w : Expression) → a ≡ u → b ≡ v → c ≡ w → AreNumbers ds a b c → AreNumbers ds u v w
  moved a b c u v w e f g h = (
    subst (λ (y : Expression). IsScalar ds y Integer) e h.0,
    subst
        (λ (y : Expression). IsScalar ds y Integer) f h.1,
    subst (λ (y : Expression). IsScalar ds y Integer) g h.2,
  )

  numbers_suited : (a b c u v w : Expression) → IsNarrow u → IsNarrow v → IsNarrow w → a ≡ held u → b ≡ held v
      → c ≡ held w
      → (AreNumbers ds a b c ↔ AreNumbers ds u v w)
  numbers_suited a b c u v w l m n e f g = (
    λ h.
        let j = moved a b c (held u) (held v) (held w) e f g h in
        let k = numbers_stay ds u v w l m n (inr j) in
        moved (held u) (held v) (held w) u v w k.0 k.1 k.2 j,
    λ h.
        let k = numbers_stay ds u v w l m n (inl h) in
        moved u v w a b c (sym (e ∙ k.0)) (sym (f ∙ k.1)) (sym (g ∙ k.2)) h,
  )

  -- as another form, which is the same
  at_form : (A : Type 0) (f g : Form90) → f ≡ g → IsNarrowForm (function_by ds) f
      → (IsNarrowForm (function_by ds) g → (A ↔ Suits ds g)) → (A ↔ Suits ds f)
  at_form A f g e n h = subst (λ (i : Form90). A ↔ Suits ds i) (sym e)
      (h (subst (λ (i : Form90). IsNarrowForm (function_by ds) i) e n))

  form_of : (p q : Placed) → p ≡ q → p.form ≡ q.form
  form_of p q e = ap (λ (x : Placed). x.form) e

  inner : (q : Phrase90) (f : Form90) → IsNarrowForm (function_by ds) (forms.Test q f) → IsNarrowForm (function_by ds) f
  inner q f n = record { expressions = n.expressions.1; variables = n.variables }

  pub suited_by_tree : (p : Placed) (t : StatementTree) → IsHeldTreeOf (function_by ds) p t → IsNarrowForm
      (function_by ds) p.form → (SuitsTree ds t ↔ Suits ds p.form)
  suited_by_tree p (Simple s) h n = stmt_suited p s h n
  suited_by_tree p (Test x s) h n =
      at_form _ p.form (forms.Test h.0 h.1) h.2 n
      (λ j. pair (condition_suited (expression_of x) h.0 j.expressions.0 h.3)
      (done_suited (placed_form p.line p.mark h.1) s h.4 (inner h.0 h.1 j)))
  suited_by_tree p (If x) h n = at_form _ p.form (forms.If h.0) (form_of _ _ h.1) n
      (λ j. condition_suited (expression_of x) h.0 j.expressions.0 h.2)
  suited_by_tree p (ElseIf x) h n = at_form _ p.form (forms.ElseIf h.0) (form_of _ _ h.1) n
      (λ j. condition_suited (expression_of x) h.0 j.expressions.0 h.2)
  suited_by_tree p Else h n = at_form _ p.form forms.Else (form_of _ _ h) n (λ j. same)
  suited_by_tree p EndIf h n = at_form _ p.form forms.EndIf (form_of _ _ h) n (λ j. same)
  suited_by_tree p (Do x a b c) h n =
      at_form _ p.form (forms.Do x h.0 h.1 h.2) (form_of _ _ h.3) n
      (λ j.
      numbers_suited (expression_of a) (expression_of b) (expression_of c) (tree_by h.0) (tree_by h.1)
      (step_tree90 (function_by ds) h.2)
      j.expressions.0 j.expressions.1.0 (narrow_step (function_by ds) h.2 j.expressions.1.1) h.4 h.5 h.6)
  suited_by_tree p EndDo h n = at_form _ p.form forms.EndDo (form_of _ _ h) n (λ j. same)
  suited_by_tree p (Continue None) h n = at_form _ p.form (forms.Continue []) (form_of _ _ h) n (λ j. same)
  suited_by_tree p (Continue (Some m)) h n = at_form _ p.form (forms.Continue (h.0 ∷ h.1)) (form_of _ _ h.2) n
      (λ j. same)

  -- ---- without a tree

  idle_suited : (f : Form90) → is_executable90 f ≡ false → Suits ds f
  idle_suited (forms.Program x) h = tt
  idle_suited forms.ImplicitNone h = tt
  idle_suited (forms.Declare k a es) h = tt
  idle_suited forms.End h = tt
  idle_suited (forms.EndProgram x) h = tt
  idle_suited f h = absurd cc

  left_unsuited : (l : Phrase90) (e : Expression) → declared ds [] ≡ None → is_call (function_by ds) l ≡ true
      → SuitsAssignment ds (reference_in (tree_by l)) e → ⊥
  left_unsuited l e z n h =
      let k : SuitsAssignment ds nameless e = subst (λ (r : Reference). SuitsAssignment ds r e)
      (unnamed (tree_by l) n) h in
      nothing (declared ds []) _ z k.0

  call_unsuited : (f : Form90) → declared ds [] ≡ None → stores_into_call (function_by ds) f ≡ true → Suits ds f → ⊥
  call_unsuited (forms.Assign l r) z n h = left_unsuited l (tree_by r) z n h
  call_unsuited (forms.Where m l r) z n h = left_unsuited l (tree_by r) z n h.1
  call_unsuited (forms.Test q f) z n h = call_unsuited f z n h.1
  call_unsuited f z n h = absurd cc

  pub suited_without_tree : (f : Form90) → declared ds [] ≡ None → has_tree (function_by ds) f ≡ false → Decides
      (not (is_executable90 f)) (Suits ds f)
  suited_without_tree f z h = by (is_executable90 f) refl
    where
      by : (b : Bool) → is_executable90 f ≡ b → Decides (not b) (Suits ds f)
      by true i = (
        λ j. absurd (cc),
        λ j. absurd
            (call_unsuited f z (stores _
            (ap (λ (b : Bool). b && not (stores_into_call (function_by ds) f)) (sym i) ∙ h)) j),
      )
      by false i = (λ j. idle_suited f i, λ j. refl)

  -- a statement that suits has a tree if it is executable
  pub idle_without_tree : (f : Form90) → declared ds [] ≡ None → Suits ds f → has_tree (function_by ds) f ≡ false
      → is_executable90 f ≡ false
  idle_without_tree f z s h = by (is_executable90 f) refl
    where
      by : (b : Bool) → is_executable90 f ≡ b → b ≡ false
      by true i = absurd (call_unsuited f z
          (stores _ (ap (λ (b : Bool). b && not (stores_into_call (function_by ds) f)) (sym i) ∙ h)) s)
      by false i = refl
