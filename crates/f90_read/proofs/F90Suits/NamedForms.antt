-- The names of a statement are known where those of its tree are.
use Rattle.std.proofs.Common.{◌≡◌, ◌⊎◌, ◌↔◌, ◌∙◌, refl, sym, ap, subst, ℕ, Bool, true, false, not, ◌&&◌, List, []}
use Rattle.std.proofs.Common.{◌∷◌, ◌++◌, Option, None, Some, Decides}
use Rattle.std.specs.Option.{IsSomeAnd}
use Rattle.std.specs.List.{AllByRecursion, flat_map}
use Rattle.tree.specs.Plain as tree
use Rattle.tree.specs.Plain.{Expression, Reference, Statement, Declaration}
use Rattle.tree.specs.View.{expression_of, statement_of}
use Rattle.tree.specs.declared.stmts.Stmt.{Stmt}
use Rattle.meaning.specs.Typed.{declared}
use Rattle.meaning.proofs.CellFrame.{first_part, second_part}
use Rattle.meaning.proofs.Columns.{join}
use Rattle.f90_grammar.specs.Blocks.{Placed, IsSimple, placed_form, trees_by}
use Rattle.reading.specs.Signs.{reference_in}
use Rattle.f90_grammar.specs.Blocks.IsSimple.{assigns, masks, goes, stops, reads, reads_nothing, prints}
use Rattle.f90_grammar.specs.Blocks.IsSimple.{prints_nothing, allocates, deallocates}
use Rattle.f90_grammar.specs.Contents.{expressions_of, stored_variables_of, step_expressions, SuitsCallsIn}
use Rattle.f90_grammar.specs.Contents.{VariableSuitsCalls}
use Rattle.f90_grammar.specs.Declared.{Use90, IsKnown, use90_of, uses90_in, uses90_in_variable, array_use, HasKnownNames}
use Rattle.f90_grammar.specs.Forms as forms
use Rattle.f90_grammar.specs.Forms.{Form90, IsWritten90, IsInner90}
use Rattle.f90_grammar.specs.Items.{IsReference90, step_tree90}
use Rattle.f90_grammar.specs.Order.{is_executable90}
use Rattle.f90_grammar.specs.Phrases.{Phrase90, SuitsCalls, tree_of}
use Rattle.f90_grammar.specs.Reading.{function_by}
use Rattle.f90_grammar.specs.Words.{Word90}
use Rattle.f90_names.specs.kinds.Known.{KnowsNames, KnowsAll, KnowsReference}
use Rattle.f90_names.proofs.kinds.KnownLaws.{trees_know_names, reference_knows_names, output_knows_names, input_knows_names}
use Rattle.f90_trees.specs.Building.{held}
use Rattle.f90_blocks.specs.statement_trees.Executable.{is_named, is_call, stores_into_call, has_tree}
use Rattle.f90_blocks.specs.statement_trees.Held.{held_statement, IsHeldStmtOf, IsHeldDone, IsHeldTreeOf}
use Rattle.f90_blocks.specs.declared.statement_trees.nodes.StatementTree.{StatementTree}
use Rattle.f90_blocks.specs.declared.statement_trees.nodes.StatementTree.TheVariants.{Simple, Test, If, ElseIf, Else, EndIf}
use Rattle.f90_blocks.specs.declared.statement_trees.nodes.StatementTree.TheVariants.{Do, EndDo, Continue}
use Rattle.f90_read.specs.f90_suits.Known.{KnowsStatement, KnowsDone, KnowsTree}
use Rattle.f90_read.proofs.F90Suits.HeldNames.{same, through, pair, three, held_known, statement_known}

abbrev pub nameless : Reference
nameless = record { name = []; subscripts = tree.no_subscripts }

-- an expression that isn't a reference stands for one without a name
pub unnamed : (e : Expression) → not (is_named e) ≡ true → reference_in e ≡ nameless
unnamed (tree.Named x ss) h = absurd cc
unnamed e h = refl

pub nothing : (o : Option Declaration) (P : Declaration → Type 0) → o ≡ None → IsSomeAnd o P → ⊥
nothing None P e h = h
nothing (Some d) P e h = absurd cc

pub stores : (b : Bool) → (true && not b) ≡ false → b ≡ true
stores true h = refl
stores false h = absurd cc

-- a statement that has the form f, and whose calls suit
pub record IsFormed (ds : List Declaration) (f : Form90) : Type 0 where
  pub written : (ws : List Word90) × IsWritten90 f ws
  pub calls : SuitsCallsIn (function_by ds) f

module _ (ds : List Declaration) where
  abbrev AllKnown : List Use90 → Type 0
  AllKnown us = AllByRecursion (IsKnown ds) us

  abbrev tree_by : Phrase90 → Expression
  tree_by p = tree_of (function_by ds) p

  abbrev expression_uses : List Phrase90 → List Use90
  expression_uses ps = flat_map (uses90_in (function_by ds)) ps

  abbrev variable_uses : List Phrase90 → List Use90
  variable_uses ps = flat_map (uses90_in_variable (function_by ds)) ps

  abbrev AllTreesKnown : List Phrase90 → Type 0
  AllTreesKnown ps = KnowsAll ds (tree.expressions (trees_by tree_by ps))

  split : (us vs : List Use90) → (AllKnown (us ++ vs) ↔ (AllKnown us × AllKnown vs))
  split us vs = (
    λ h. (first_part (IsKnown ds) us vs h, second_part (IsKnown ds) us vs h),
    λ h. join
        (IsKnown ds) us vs h.0 h.1,
  )

  parts : (us vs ws : List Use90) → (AllKnown (us ++ (vs ++ ws)) ↔ (AllKnown us × AllKnown vs × AllKnown ws))
  parts us vs ws = (
    λ h. let k = (split us (vs ++ ws)).0 h in let j = (split vs ws).0 k.1 in (k.0, j.0, j.1),
    λ h. (split us (vs ++ ws)).1 (h.0, (split vs ws).1 (h.1, h.2)),
  )

  -- with the trees of its expressions
  uses : (f : Form90) → SuitsCallsIn (function_by ds) f
      → (HasKnownNames ds f ↔ (AllKnown (array_use (function_by ds) f) × AllTreesKnown (expressions_of f) × AllKnown
      (variable_uses (stored_variables_of f))))
  uses f c =
      through (parts (array_use (function_by ds) f) (expression_uses (expressions_of f))
      (variable_uses (stored_variables_of f)))
      (three same (trees_know_names ds (expressions_of f) c.0) same)

  one_variable : (l : Phrase90) → declared ds [] ≡ None → IsReference90 l → VariableSuitsCalls (function_by ds) l
      → (AllKnown (variable_uses (l ∷ [])) ↔ KnowsReference ds (reference_in (tree_by l)))
  one_variable l e r c =
      let k = reference_knows_names ds l e r c in (
        λ h. k.0 ((split (uses90_in_variable (function_by ds) l) []).0 h).0,
        λ h. (split (uses90_in_variable (function_by ds) l) []).1 (k.1 h, tt),
      )

  -- ---- statements without others in them

  simple_known : (p : Placed) (s : Statement) → IsSimple (function_by ds) (λ n. false) p s → declared ds [] ≡ None
      → IsFormed ds p.form
      → (KnowsStatement ds s ↔ HasKnownNames ds p.form)
  simple_known _ _ (assigns line m l r) e k =
      let u = uses (forms.Assign l r) k.calls in
      let v = one_variable l e k.written.1.1 k.calls.1.0 in
      (λ h. u.1 (tt, (h.1, tt), v.1 h.0), λ h. let j = u.0 h in (v.0 j.2, j.1.0))
  simple_known _ _ (masks line m p l r) e k =
      let u = uses (forms.Where p l r) k.calls in
      let v = one_variable l e k.written.1.2 k.calls.1.0 in
      (λ h. u.1 (tt, (h.0, (h.2, tt)), v.1 h.1), λ h. let j = u.0 h in (j.1.0, v.0 j.2, j.1.1.0))
  simple_known _ _ (goes line label) e k = same
  simple_known _ _ (stops line) e k = same
  simple_known _ _ (reads line is) e k =
      let u = input_knows_names ds is k.written.1.1 k.calls.0 k.calls.1 in (u.1, u.0)
  simple_known _ _ (reads_nothing line) e k = same
  simple_known _ _ (prints line is) e k =
      let u = output_knows_names ds is k.calls.0 in
      let s = split (expression_uses (expressions_of (forms.Print is))) [] in
      (λ h. s.1 (u.1 h, tt), λ h. u.0 (s.0 h).0)
  simple_known _ _ (prints_nothing line) e k = same
  simple_known _ _ (allocates line x es) e k =
      let u = uses (forms.Allocate x es) k.calls in
      (λ h. u.1 ((h.0, tt), h.1, tt), λ h. let j = u.0 h in (j.0.0, j.1))
  simple_known _ _ (deallocates line x) e k = (λ h. (h, tt), λ h. h.0)

  -- ---- trees

  no_array : (f : Form90) → IsInner90 f → AllKnown (array_use (function_by ds) f)
  no_array (forms.Allocate x es) i = absurd i
  no_array (forms.Deallocate x) i = absurd i
  no_array f i = tt

  inner : (q : Phrase90) (f : Form90) → IsFormed ds (forms.Test q f) → IsFormed ds f
  inner q f k = record { written = (k.written.1.0, k.written.1.3); calls = (k.calls.0.1, k.calls.1) }

  tested : (q : Phrase90) (f : Form90) → IsFormed ds (forms.Test q f)
      → ((KnowsNames ds (tree_by q) × HasKnownNames ds f) ↔ HasKnownNames ds (forms.Test q f))
  tested q f k =
      let u = uses (forms.Test q f) k.calls in
      let v = uses f (inner q f k).calls in (
        λ h. let j = v.0 h.1 in u.1 (tt, (h.0, j.1), j.2),
        λ h. let j = u.0 h in (j.1.0, v.1 (no_array f k.written.1.4, j.1.1, j.2)),
      )

  one_tree : (f : Form90) (p : Phrase90) → array_use (function_by ds) f ≡ [] → expressions_of f ≡ p ∷ []
      → stored_variables_of f ≡ [] → IsFormed ds f
      → (KnowsNames ds (tree_by p) ↔ HasKnownNames ds f)
  one_tree f p a e v k =
      let u = uses f k.calls in (
        λ h. u.1 (
          subst (λ (us : List Use90). AllKnown us) (sym a) tt,
          subst (λ (ps : List Phrase90). AllTreesKnown ps)
              (sym e) (h, tt),
          subst (λ (ps : List Phrase90). AllKnown (variable_uses ps)) (sym v) tt,
        ),
        λ h. (subst (λ (ps : List Phrase90). AllTreesKnown ps) e (u.0 h).1).0,
      )

  stmt_known : (p : Placed) (s : Stmt) → IsHeldStmtOf (function_by ds) p s → declared ds [] ≡ None
      → IsFormed ds p.form
      → (KnowsStatement ds (statement_of s) ↔ HasKnownNames ds p.form)
  stmt_known p s h e k =
      subst (λ (c : Statement). KnowsStatement ds c ↔ HasKnownNames ds p.form) (sym h.same)
      (through (statement_known ds h.statement) (simple_known p h.statement h.is e k))

  empty_known : (f : Form90) → f ≡ forms.Continue [] → (Unit {0} ↔ HasKnownNames ds f)
  empty_known f e = subst (λ (g : Form90). Unit {0} ↔ HasKnownNames ds g) (sym e) same

  done_known : (p : Placed) (s : Option Stmt) → IsHeldDone (function_by ds) p s → declared ds [] ≡ None
      → IsFormed ds p.form
      → (KnowsDone ds s ↔ HasKnownNames ds p.form)
  done_known p (Some s) h e k = stmt_known p s h e k
  done_known p None h e k = empty_known p.form h

  tree_known : (x : Expression) (q : Phrase90) → x ≡ held (tree_by q) → (KnowsNames ds x ↔ KnowsNames ds (tree_by q))
  tree_known x q e = subst (λ (y : Expression). KnowsNames ds y ↔ KnowsNames ds (tree_by q)) (sym e)
      (held_known ds (tree_by q))

  step_known : (x : Expression) (s : Option Phrase90) → x ≡ held (step_tree90 (function_by ds) s)
      → (KnowsNames ds x ↔ AllTreesKnown (step_expressions s))
  step_known x None e = subst (λ (y : Expression). KnowsNames ds y ↔ Unit {0}) (sym e) same
  step_known x (Some q) e = let k = tree_known x q e in (λ h. (k.0 h, tt), λ h. k.1 h.0)

  loop_known : (x : List ℕ) (a b c : Expression) (q r : Phrase90) (s : Option Phrase90) → IsFormed ds (forms.Do x q r s)
      → a ≡ held (tree_by q) → b ≡ held (tree_by r)
      → c ≡ held (step_tree90 (function_by ds) s)
      → ((KnowsNames ds a × KnowsNames ds b × KnowsNames ds c) ↔ HasKnownNames ds (forms.Do x q r s))
  loop_known x a b c q r s k e g h =
      let u = uses (forms.Do x q r s) k.calls in
      let v = tree_known a q e in
      let w = tree_known b r g in
      let z = step_known c s h in
      (λ j. u.1 (tt, (v.0 j.0, (w.0 j.1, z.0 j.2)), tt), λ j. let i = (u.0 j).1 in (v.1 i.0, w.1 i.1.0, z.1 i.1.1))

  -- as another form, which is the same
  at_form : (A : Type 0) (f g : Form90) → f ≡ g → IsFormed ds f → (IsFormed ds g → (A ↔ HasKnownNames ds g))
      → (A ↔ HasKnownNames ds f)
  at_form A f g e k h = subst (λ (i : Form90). A ↔ HasKnownNames ds i) (sym e)
      (h (subst (λ (i : Form90). IsFormed ds i) e k))

  form_of : (p q : Placed) → p ≡ q → p.form ≡ q.form
  form_of p q e = ap (λ (x : Placed). x.form) e

  pub known_by_tree : (p : Placed) (t : StatementTree) → IsHeldTreeOf (function_by ds) p t → declared ds [] ≡ None
      → IsFormed ds p.form
      → (KnowsTree ds t ↔ HasKnownNames ds p.form)
  known_by_tree p (Simple s) h e k = stmt_known p s h e k
  known_by_tree p (Test x s) h e k =
      at_form _ p.form (forms.Test h.0 h.1) h.2 k
      (λ j. through (pair (tree_known (expression_of x) h.0 h.3)
      (done_known (placed_form p.line p.mark h.1) s h.4 e (inner h.0 h.1 j))) (tested h.0 h.1 j))
  known_by_tree p (If x) h e k =
      at_form _ p.form (forms.If h.0) (form_of _ _ h.1) k
      (λ j. through (tree_known (expression_of x) h.0 h.2) (one_tree (forms.If h.0) h.0 refl refl refl j))
  known_by_tree p (ElseIf x) h e k =
      at_form _ p.form (forms.ElseIf h.0) (form_of _ _ h.1) k
      (λ j. through (tree_known (expression_of x) h.0 h.2) (one_tree (forms.ElseIf h.0) h.0 refl refl refl j))
  known_by_tree p Else h e k = at_form _ p.form forms.Else (form_of _ _ h) k (λ j. same)
  known_by_tree p EndIf h e k = at_form _ p.form forms.EndIf (form_of _ _ h) k (λ j. same)
  known_by_tree p (Do x a b c) h e k =
      at_form _ p.form (forms.Do x h.0 h.1 h.2) (form_of _ _ h.3) k
      (λ j. loop_known x (expression_of a) (expression_of b) (expression_of c) h.0 h.1 h.2 j h.4 h.5 h.6)
  known_by_tree p EndDo h e k = at_form _ p.form forms.EndDo (form_of _ _ h) k (λ j. same)
  known_by_tree p (Continue None) h e k = at_form _ p.form (forms.Continue []) (form_of _ _ h) k (λ j. same)
  known_by_tree p (Continue (Some n)) h e k = at_form _ p.form (forms.Continue (h.0 ∷ h.1)) (form_of _ _ h.2) k
      (λ j. same)

  -- ---- without a tree

  idle_known : (f : Form90) → is_executable90 f ≡ false → HasKnownNames ds f
  idle_known (forms.Program x) h = tt
  idle_known forms.ImplicitNone h = tt
  idle_known (forms.Declare k a es) h = tt
  idle_known forms.End h = tt
  idle_known (forms.EndProgram x) h = tt
  idle_known f h = absurd cc

  left_unknown : (l : Phrase90) → declared ds [] ≡ None → IsReference90 l → VariableSuitsCalls (function_by ds) l
      → is_call (function_by ds) l ≡ true
      → AllKnown (variable_uses (l ∷ [])) → ⊥
  left_unknown l e r c n h =
      let k : KnowsReference ds nameless = subst (λ (r : Reference). KnowsReference ds r) (unnamed (tree_by l) n)
      ((one_variable l e r c).0 h) in
      nothing (declared ds []) _ e k.0

  call_unknown : (f : Form90) → declared ds [] ≡ None → IsFormed ds f → stores_into_call (function_by ds) f ≡ true
      → HasKnownNames ds f → ⊥
  call_unknown (forms.Assign l r) e k n h = left_unknown l e k.written.1.1 k.calls.1.0 n
      ((uses (forms.Assign l r) k.calls).0 h).2
  call_unknown (forms.Where m l r) e k n h = left_unknown l e k.written.1.2 k.calls.1.0 n
      ((uses (forms.Where m l r) k.calls).0 h).2
  call_unknown (forms.Test q f) e k n h = call_unknown f e (inner q f k) n ((tested q f k).1 h).1
  call_unknown f e k n h = absurd cc

  pub known_without_tree : (f : Form90) → declared ds [] ≡ None → IsFormed ds f → has_tree (function_by ds) f ≡ false
      → Decides (not (is_executable90 f)) (HasKnownNames ds f)
  known_without_tree f e k h = by (is_executable90 f) refl
    where
      by : (b : Bool) → is_executable90 f ≡ b → Decides (not b) (HasKnownNames ds f)
      by true i = (
        λ j. absurd (cc),
        λ j. absurd
            (call_unknown f e k (stores _
            (ap (λ (b : Bool). b && not (stores_into_call (function_by ds) f)) (sym i) ∙ h)) j),
      )
      by false i = (λ j. idle_known f i, λ j. refl)
