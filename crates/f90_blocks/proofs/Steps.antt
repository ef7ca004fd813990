-- One statement before all that, as it stands in a program.
use Rattle.std.proofs.Common.{◌≡◌, ◌∙◌, ap, sym, subst, refl, ℕ, Bool, true, false, cond, Result, Ok, Err, IfOk, Option}
use Rattle.std.proofs.Common.{Some, None, List, [], ◌∷◌}
use Rattle.tree.specs.Plain as tree
use Rattle.tree.specs.Plain.{Expression, Statement, Arms, Block}
use Rattle.tree.specs.View.{expression_of, statement_of}
use Rattle.tree.specs.declared.exprs.Expr.{Expr}
use Rattle.tree.specs.declared.functions.Intrinsic.{Intrinsic}
use Rattle.tree.specs.declared.lists.Memory.{Memory}
use Rattle.tree.specs.declared.stmts.Mark.{Mark}
use Rattle.tree.specs.declared.stmts.Stmt.{Stmt}
use Rattle.f90_grammar.specs.Phrases.{Phrase90, tree_of, value_of_digits}
use Rattle.f90_grammar.specs.Items.{step_tree90}
use Rattle.f90_grammar.specs.Forms as forms
use Rattle.f90_grammar.specs.Forms.{Form90}
use Rattle.f90_grammar.specs.Blocks.{Placed, placed_form, IsSimple, AreBlock90}
use Rattle.f90_grammar.specs.Blocks.AreBlock90.{nothing, unnamed, simple}
use Rattle.f90_grammar.specs.Order.{Opened, InIf, InElse, InDo, opened_by, closes_wrongly}
use Rattle.f90_grammar.specs.Reading.{takes_mark}
use Rattle.f90_grammar.specs.Blocks.IsSimple.{assigns, masks, goes, stops, reads, reads_nothing, prints, prints_nothing}
use Rattle.f90_grammar.specs.Blocks.IsSimple.{allocates, deallocates}
use Rattle.f90_blocks.specs.declared.statement_trees.nodes.StatementTree.{StatementTree}
use Rattle.f90_blocks.specs.declared.statement_trees.nodes.StatementTree.TheVariants as trees
use Rattle.f90_blocks.specs.statement_trees.Trees.{IsDone}
use Rattle.f90_blocks.specs.declared.open.Rest.{Rest}
use Rattle.f90_blocks.specs.Rests.{Ended, EndedIf, EndedDo, Shows, block_seen, opens_seen, done_seen, with_label}
use Rattle.f90_blocks.specs.Rests.{IsRest, Stands, IsNext}
use Rattle.f90_blocks.proofs.Growth.{simple_by, with_simple, with_test, with_named, with_unnamed, with_end_if}
use Rattle.f90_blocks.proofs.Growth.{with_end_else, with_end_do, with_else, with_arm, with_if, with_do}

module _ (function : List ℕ → Option Intrinsic) (is_target : ℕ → Bool) where
  abbrev IsRestOf : List Opened → List Placed → Block → List Ended → Type 0
  IsRestOf os ps b es = IsRest function is_target os ps b es

  abbrev StandsOf : List Opened → List Placed → Rest → Type 0
  StandsOf os ps r = Stands function is_target os ps r

  -- what a call has made
  abbrev Made : Result Rest Memory → List Opened → List Placed → Type 0
  Made r os ps = IfOk r (λ (x : Rest). StandsOf os ps x)

  pub shown : (os : List Opened) (ps : List Placed) (b : Block) (es : List Ended) (x : Rest) → IsRestOf os ps b es
      → Shows x b es → StandsOf os ps x
  shown os ps b es x h s = subst (λ c. IsRestOf os ps c (opens_seen x.opened.items)) (sym s.block)
      (subst (λ k. IsRestOf os ps b k) (sym s.round) h)

  made : (os : List Opened) (ps : List Placed) (b : Block) (es : List Ended) (r : Result Rest Memory)
      → IsRestOf os ps b es → IfOk r (λ x. Shows x b es) → Made r os ps
  made os ps b es (Ok x) h s = shown os ps b es x h s
  made os ps b es (Err e) h s = s

  opened_as : (os : List Opened) (ps : List Placed) (self : Rest) (f g : Form90) → f ≡ g
      → StandsOf (opened_by f os) ps self → StandsOf (opened_by g os) ps self
  opened_as os ps self f g e h = subst (λ k. StandsOf (opened_by k os) ps self) e h

  fits_as : (os : List Opened) (f g : Form90) → f ≡ g → closes_wrongly f os ≡ false → closes_wrongly g os ≡ false
  fits_as os f g e h = ap (λ k. closes_wrongly k os) (sym e) ∙ h

  -- ---- statements that neither open nor close

  simple_opens : (p : Placed) (c : Statement) (os : List Opened) → IsSimple function is_target p c
      → opened_by p.form os ≡ os
  simple_opens p c os (assigns line m l r) = refl
  simple_opens p c os (masks line m q l r) = refl
  simple_opens p c os (goes line digits) = refl
  simple_opens p c os (stops line) = refl
  simple_opens p c os (reads line is) = refl
  simple_opens p c os (reads_nothing line) = refl
  simple_opens p c os (prints line is) = refl
  simple_opens p c os (prints_nothing line) = refl
  simple_opens p c os (allocates line x es) = refl
  simple_opens p c os (deallocates line x) = refl

  pub simple_step : (os : List Opened) (p : Placed) (ps : List Placed) (self : Rest) (r : Result Rest Memory) (line : ℕ)
      (s : Stmt) → IsNext function os line (trees.Simple s) p
      → StandsOf (opened_by p.form os) ps self
      → IfOk r (λ x. Shows x (tree.statement (statement_of s) (block_seen self.stmts.items))
      (opens_seen self.opened.items)) → Made r os (p ∷ ps)
  simple_step os p ps self r line s next h told =
      let b = block_seen self.stmts.items in
      let es = opens_seen self.opened.items in
      let i = simple_by function is_target (λ n. false) p (statement_of s) next.is in
      made os (p ∷ ps) (tree.statement (statement_of s) b) es r
      (with_simple function is_target os ps b es p (statement_of s) i
      (subst (λ o. IsRestOf o ps b es) (simple_opens p (statement_of s) os i) h))
      told

  done_block : (line : ℕ) (m : Option Mark) (f : Form90) (done : Option Stmt) → IsDone function (placed_form line m f) done
      → (f ≡ forms.Continue [] → m ≡ None) → is_target 0 ≡ false
      → AreBlock90 function is_target (placed_form line m f ∷ []) (done_seen done)
  done_block line m f (Some s) h mark z = simple (placed_form line m f) (statement_of s) [] tree.no_statements
      (simple_by function is_target (λ n. false) (placed_form line m f) (statement_of s) h) nothing
  done_block line m f None h mark z =
      subst (λ (n : Option Mark). AreBlock90 function is_target (placed_form line n f ∷ []) tree.no_statements) (sym (mark h))
      (subst (λ (g : Form90). AreBlock90 function is_target (placed_form line None g ∷ []) tree.no_statements) (sym h)
      (unnamed line [] [] tree.no_statements z nothing))

  pub test_step : (os : List Opened) (p : Placed) (ps : List Placed) (self : Rest) (r : Result Rest Memory) (line : ℕ)
      (e : Expr) (done : Option Stmt)
      → is_target 0 ≡ false → IsNext function os line (trees.Test e done) p → StandsOf (opened_by p.form os) ps self
      → IfOk r (λ x. Shows x (tree.statement
      (tree.If line (tree.arm (expression_of e) (done_seen done) tree.no_arms) tree.no_statements)
      (block_seen self.stmts.items)) (opens_seen self.opened.items))
      → Made r os (p ∷ ps)
  test_step os p ps self r line e done z next h told =
      let b = block_seen self.stmts.items in
      let es = opens_seen self.opened.items in
      let i = next.is in
      let q = i.0 in
      let f = i.1 in
      let no_mark : f ≡ forms.Continue []
      → p.mark ≡ None = λ k. next.mark (ap takes_mark (i.2 ∙ ap (λ g. forms.Test q g) k)) in
      let inner = done_block p.line p.mark f done i.4 no_mark z in
      let on_line = next.on_line in
      let expr = i.3 in
      let is : tree.If p.line (tree.arm (tree_of function q) (done_seen done) tree.no_arms) tree.no_statements
      ≡ tree.If line (tree.arm (expression_of e) (done_seen done) tree.no_arms) tree.no_statements = cc in
      let stood = with_test function is_target os ps b es p.line p.mark q f (done_seen done) inner
      (opened_as os ps self p.form (forms.Test q f) i.2 h) in
      made os (p ∷ ps) (tree.statement
      (tree.If line (tree.arm (expression_of e) (done_seen done) tree.no_arms) tree.no_statements) b) es r
      (subst (λ c. IsRestOf os (p ∷ ps) (tree.statement c b) es) is
      (subst (λ g. IsRestOf os (placed_form p.line p.mark g ∷ ps)
      (tree.statement (tree.If p.line (tree.arm (tree_of function q) (done_seen done) tree.no_arms) tree.no_statements)
      b) es) (sym i.2) stood))
      told

  -- a label before the block where it is a target, as the code has it; no label counts as 0
  continued : (os : List Opened) (ps : List Placed) (b : Block) (es : List Ended) (line : ℕ) (digits : List ℕ)
      (t : Bool) → is_target (value_of_digits digits) ≡ t → IsRestOf os ps b es
      → IsRestOf os (placed_form line None (forms.Continue digits) ∷ ps)
      (cond t (tree.statement (tree.Label (value_of_digits digits)) b) b) es
  continued os ps b es line digits true t r = with_named function is_target os ps b es line digits t r
  continued os ps b es line digits false t r = with_unnamed function is_target os ps b es line digits t r

  label_digits : (os : List Opened) (p : Placed) (ps : List Placed) (self : Rest) (digits : List ℕ) (t : Bool)
      → is_target (value_of_digits digits) ≡ t
      → p ≡ placed_form p.line None (forms.Continue digits) → StandsOf (opened_by p.form os) ps self
      → IsRestOf os (p ∷ ps) (cond t
      (tree.statement (tree.Label (value_of_digits digits)) (block_seen self.stmts.items))
      (block_seen self.stmts.items)) (opens_seen self.opened.items)
  label_digits os p ps self digits t e i h =
      let b = block_seen self.stmts.items in
      let es = opens_seen self.opened.items in
      subst (λ (x : Placed). IsRestOf os (x ∷ ps) (cond t (tree.statement (tree.Label (value_of_digits digits)) b) b)
      es) (sym i)
      (continued os ps b es p.line digits t e
      (opened_as os ps self p.form (forms.Continue digits) (ap (λ (x : Placed). x.form) i) h))

  pub label_step : (os : List Opened) (p : Placed) (ps : List Placed) (self : Rest) (r : Result Rest Memory) (line : ℕ)
      (label : Option ℕ) (has : ℕ → Bool) → ((n : ℕ) → has n ≡ is_target n)
      → is_target 0 ≡ false → IsNext function os line (trees.Continue label) p → StandsOf (opened_by p.form os) ps self
      → IfOk r (λ x. Shows x (with_label has label (block_seen self.stmts.items)) (opens_seen self.opened.items))
      → Made r os (p ∷ ps)
  label_step os p ps self r line None has same z next h told =
      made os (p ∷ ps) (block_seen self.stmts.items) (opens_seen self.opened.items) r
      (label_digits os p ps self [] false z next.is h) told
  label_step os p ps self r line (Some n) has same z next h told =
      let b = block_seen self.stmts.items in
      let es = opens_seen self.opened.items in
      let i = next.is in
      let stood = label_digits os p ps self (i.0 ∷ i.1) (has n) (ap is_target (sym i.3) ∙ sym (same n)) i.2 h in
      made os (p ∷ ps) (cond (has n) (tree.statement (tree.Label n) b) b) es r
      (subst (λ m. IsRestOf os (p ∷ ps) (cond (has n) (tree.statement (tree.Label m) b) b) es) (sym i.3) stood) told

  -- ---- the ends of blocks

  end_if_rest : (os : List Opened) (ps : List Placed) (b : Block) (es : List Ended) (line : ℕ) (r : Result Rest Memory)
      → closes_wrongly forms.EndIf os ≡ false
      → IsRestOf (opened_by forms.EndIf os) ps b es
      → IfOk r (λ x. Shows x tree.no_statements (EndedIf tree.no_arms tree.no_statements b ∷ es))
      → Made r os (placed_form line None forms.EndIf ∷ ps)
  end_if_rest (InIf ∷ os) ps b es line r fits h told =
      made (InIf ∷ os) (placed_form line None forms.EndIf ∷ ps) tree.no_statements
      (EndedIf tree.no_arms tree.no_statements b ∷ es) r (with_end_if function is_target os ps b es line h) told
  end_if_rest (InElse ∷ os) ps b es line r fits h told =
      made (InElse ∷ os) (placed_form line None forms.EndIf ∷ ps) tree.no_statements
      (EndedIf tree.no_arms tree.no_statements b ∷ es) r (with_end_else function is_target os ps b es line h) told
  end_if_rest [] ps b es line r fits h told = absurd cc
  end_if_rest (InDo x ∷ os) ps b es line r fits h told = absurd cc

  end_do_rest : (os : List Opened) (ps : List Placed) (b : Block) (es : List Ended) (line : ℕ) (r : Result Rest Memory)
      → closes_wrongly forms.EndDo os ≡ false
      → IsRestOf (opened_by forms.EndDo os) ps b es → IfOk r (λ x. Shows x tree.no_statements (EndedDo b ∷ es))
      → Made r os (placed_form line None forms.EndDo ∷ ps)
  end_do_rest (InDo x ∷ os) ps b es line r fits h told =
      made (InDo x ∷ os) (placed_form line None forms.EndDo ∷ ps) tree.no_statements (EndedDo b ∷ es) r
      (with_end_do function is_target os x ps b es line h) told
  end_do_rest [] ps b es line r fits h told = absurd cc
  end_do_rest (InIf ∷ os) ps b es line r fits h told = absurd cc
  end_do_rest (InElse ∷ os) ps b es line r fits h told = absurd cc

  -- ---- their first lines

  -- what is told where a block IF has ended
  abbrev ToldOfIf : Result Rest Memory → List Ended → (Arms → Block → Block → List Ended → Rest → Type 0) → Type 0
  ToldOfIf r es Is = (later : Arms) (o behind : Block) (more : List Ended) → es ≡ EndedIf later o behind ∷ more
      → IfOk r (Is later o behind more)

  if_rest : (os : List Opened) (ps : List Placed) (b : Block) (es : List Ended) (line : ℕ) (q : Phrase90) (e : Expression)
      (r : Result Rest Memory) → e ≡ tree_of function q
      → IsRestOf (InIf ∷ os) ps b es
      → ToldOfIf r es (λ later o behind more x. Shows x (tree.statement (tree.If line (tree.arm e b later) o) behind)
      more) → Made r os (placed_form line None (forms.If q) ∷ ps)
  if_rest os ps b (EndedIf later o behind ∷ es) line q e r g h told =
      made os (placed_form line None (forms.If q) ∷ ps) (tree.statement (tree.If line (tree.arm e b later) o) behind) es r
      (subst (λ v. IsRestOf os (placed_form line None (forms.If q) ∷ ps)
      (tree.statement (tree.If line (tree.arm v b later) o) behind) es) (sym g)
      (with_if function is_target os ps b behind later o es line q h))
      (told later o behind es refl)
  if_rest os ps b [] line q e r g h told = absurd h
  if_rest os ps b (EndedDo behind ∷ es) line q e r g h told = absurd h

  arm_rest : (os : List Opened) (ps : List Placed) (b : Block) (es : List Ended) (line : ℕ) (q : Phrase90)
      (e : Expression) (r : Result Rest Memory) → e ≡ tree_of function q
      → closes_wrongly (forms.ElseIf q) os ≡ false → IsRestOf os ps b es
      → ToldOfIf r es (λ later o behind more x. Shows x tree.no_statements
      (EndedIf (tree.arm e b later) o behind ∷ more)) → Made r os (placed_form line None (forms.ElseIf q) ∷ ps)
  arm_rest (InIf ∷ os) ps b (EndedIf later o behind ∷ es) line q e r g fits h told =
      made (InIf ∷ os) (placed_form line None (forms.ElseIf q) ∷ ps) tree.no_statements
      (EndedIf (tree.arm e b later) o behind ∷ es) r
      (subst (λ v. IsRestOf (InIf ∷ os) (placed_form line None (forms.ElseIf q) ∷ ps) tree.no_statements
      (EndedIf (tree.arm v b later) o behind ∷ es)) (sym g)
      (with_arm function is_target os ps b behind later o es line q h))
      (told later o behind es refl)
  arm_rest (InIf ∷ os) ps b [] line q e r g fits h told = absurd h
  arm_rest (InIf ∷ os) ps b (EndedDo behind ∷ es) line q e r g fits h told = absurd h
  arm_rest [] ps b es line q e r g fits h told = absurd cc
  arm_rest (InElse ∷ os) ps b es line q e r g fits h told = absurd cc
  arm_rest (InDo x ∷ os) ps b es line q e r g fits h told = absurd cc

  else_rest : (os : List Opened) (ps : List Placed) (b : Block) (es : List Ended) (line : ℕ) (r : Result Rest Memory)
      → closes_wrongly forms.Else os ≡ false
      → IsRestOf (opened_by forms.Else os) ps b es
      → ToldOfIf r es (λ later o behind more x. Shows x tree.no_statements (EndedIf later b behind ∷ more))
      → Made r os (placed_form line None forms.Else ∷ ps)
  else_rest (InIf ∷ os) ps b (EndedIf later o behind ∷ es) line r fits h told =
      made (InIf ∷ os) (placed_form line None forms.Else ∷ ps) tree.no_statements (EndedIf later b behind ∷ es) r
      (with_else function is_target os ps b behind later o es line h) (told later o behind es refl)
  else_rest (InIf ∷ os) ps b [] line r fits h told = absurd h
  else_rest (InIf ∷ os) ps b (EndedDo behind ∷ es) line r fits h told = absurd h
  else_rest [] ps b es line r fits h told = absurd cc
  else_rest (InElse ∷ os) ps b es line r fits h told = absurd cc
  else_rest (InDo x ∷ os) ps b es line r fits h told = absurd cc

  do_rest : (os : List Opened) (ps : List Placed) (b : Block) (es : List Ended) (line : ℕ) (x : List ℕ) (p q : Phrase90)
      (s : Option Phrase90) (d e f : Expression) (r : Result Rest Memory)
      → d ≡ tree_of function p → e ≡ tree_of function q → f ≡ step_tree90 function s → IsRestOf (InDo x ∷ os) ps b es
      → ((behind : Block) (more : List Ended) → es ≡ EndedDo behind ∷ more
      → IfOk r (λ y. Shows y (tree.statement (tree.Do line x d e f b) behind) more))
      → Made r os (placed_form line None (forms.Do x p q s) ∷ ps)
  do_rest os ps b (EndedDo behind ∷ es) line x p q s d e f r i j k h told =
      let same : tree.Do line x (tree_of function p) (tree_of function q) (step_tree90 function s) b
      ≡ tree.Do line x d e f b = cc in
      made os (placed_form line None (forms.Do x p q s) ∷ ps) (tree.statement (tree.Do line x d e f b) behind) es r
      (subst (λ v. IsRestOf os (placed_form line None (forms.Do x p q s) ∷ ps) (tree.statement v behind) es) same
      (with_do function is_target os ps b behind es line x p q s h))
      (told behind es refl)
  do_rest os ps b [] line x p q s d e f r i j k h told = absurd h
  do_rest os ps b (EndedIf later o behind ∷ es) line x p q s d e f r i j k h told = absurd h

  -- ---- the same of the statement at its place

  -- a statement of this form at this line
  as_is : (os : List Opened) (p : Placed) (ps : List Placed) (r : Result Rest Memory) (line : ℕ) (f : Form90)
      → line ≡ p.line → p ≡ placed_form p.line None f
      → Made r os (placed_form line None f ∷ ps) → Made r os (p ∷ ps)
  as_is os p ps r line f l e h = subst (λ (x : Placed). Made r os (x ∷ ps)) (ap (λ n. placed_form n None f) l ∙ sym e) h

  form_is : (p : Placed) (f : Form90) → p ≡ placed_form p.line None f → p.form ≡ f
  form_is p f e = ap (λ (x : Placed). x.form) e

  pub if_step : (os : List Opened) (p : Placed) (ps : List Placed) (self : Rest) (r : Result Rest Memory) (line : ℕ)
      (e : Expr) → IsNext function os line (trees.If e) p
      → StandsOf (opened_by p.form os) ps self
      → ToldOfIf r (opens_seen self.opened.items)
      (λ later o behind more x. Shows x
      (tree.statement (tree.If line (tree.arm (expression_of e) (block_seen self.stmts.items) later) o) behind) more)
      → Made r os (p ∷ ps)
  if_step os p ps self r line e next h told =
      let i = next.is in
      as_is os p ps r line (forms.If i.0) next.on_line i.1
      (if_rest os ps (block_seen self.stmts.items) (opens_seen self.opened.items) line i.0 (expression_of e) r i.2
      (opened_as os ps self p.form (forms.If i.0) (form_is p (forms.If i.0) i.1) h) told)

  pub arm_step : (os : List Opened) (p : Placed) (ps : List Placed) (self : Rest) (r : Result Rest Memory) (line : ℕ)
      (e : Expr) → IsNext function os line (trees.ElseIf e) p
      → StandsOf (opened_by p.form os) ps self
      → ToldOfIf r (opens_seen self.opened.items)
      (λ later o behind more x. Shows x tree.no_statements
      (EndedIf (tree.arm (expression_of e) (block_seen self.stmts.items) later) o behind ∷ more))
      → Made r os (p ∷ ps)
  arm_step os p ps self r line e next h told =
      let i = next.is in
      let form = form_is p (forms.ElseIf i.0) i.1 in
      as_is os p ps r line (forms.ElseIf i.0) next.on_line i.1
      (arm_rest os ps (block_seen self.stmts.items) (opens_seen self.opened.items) line i.0 (expression_of e) r i.2
      (fits_as os p.form (forms.ElseIf i.0) form next.fits)
      (opened_as os ps self p.form (forms.ElseIf i.0) form h) told)

  pub else_step : (os : List Opened) (p : Placed) (ps : List Placed) (self : Rest) (r : Result Rest Memory) (line : ℕ)
      → IsNext function os line trees.Else p
      → StandsOf (opened_by p.form os) ps self
      → ToldOfIf r (opens_seen self.opened.items)
      (λ later o behind more x. Shows x tree.no_statements (EndedIf later (block_seen self.stmts.items) behind ∷ more))
      → Made r os (p ∷ ps)
  else_step os p ps self r line next h told =
      let form = form_is p forms.Else next.is in
      as_is os p ps r line forms.Else next.on_line next.is
      (else_rest os ps (block_seen self.stmts.items) (opens_seen self.opened.items) line r
      (fits_as os p.form forms.Else form next.fits) (opened_as os ps self p.form forms.Else form h) told)

  pub end_if_step : (os : List Opened) (p : Placed) (ps : List Placed) (self : Rest) (r : Result Rest Memory) (line : ℕ)
      → IsNext function os line trees.EndIf p
      → StandsOf (opened_by p.form os) ps self
      → IfOk r (λ x. Shows x tree.no_statements
      (EndedIf tree.no_arms tree.no_statements (block_seen self.stmts.items) ∷ opens_seen self.opened.items))
      → Made r os (p ∷ ps)
  end_if_step os p ps self r line next h told =
      let form = form_is p forms.EndIf next.is in
      as_is os p ps r line forms.EndIf next.on_line next.is
      (end_if_rest os ps (block_seen self.stmts.items) (opens_seen self.opened.items) line r
      (fits_as os p.form forms.EndIf form next.fits) (opened_as os ps self p.form forms.EndIf form h) told)

  pub end_do_step : (os : List Opened) (p : Placed) (ps : List Placed) (self : Rest) (r : Result Rest Memory) (line : ℕ)
      → IsNext function os line trees.EndDo p
      → StandsOf (opened_by p.form os) ps self
      → IfOk r (λ x. Shows x tree.no_statements (EndedDo (block_seen self.stmts.items) ∷ opens_seen self.opened.items))
      → Made r os (p ∷ ps)
  end_do_step os p ps self r line next h told =
      let form = form_is p forms.EndDo next.is in
      as_is os p ps r line forms.EndDo next.on_line next.is
      (end_do_rest os ps (block_seen self.stmts.items) (opens_seen self.opened.items) line r
      (fits_as os p.form forms.EndDo form next.fits) (opened_as os ps self p.form forms.EndDo form h) told)

  pub do_step : (os : List Opened) (p : Placed) (ps : List Placed) (self : Rest) (r : Result Rest Memory) (line : ℕ)
      (x : List ℕ) (a b d : Expr) → IsNext function os line (trees.Do x a b d) p
      → StandsOf (opened_by p.form os) ps self
      → ((behind : Block) (more : List Ended) → opens_seen self.opened.items ≡ EndedDo behind ∷ more
      → IfOk r (λ y. Shows y (tree.statement
      (tree.Do line x (expression_of a) (expression_of b) (expression_of d) (block_seen self.stmts.items)) behind)
      more)) → Made r os (p ∷ ps)
  do_step os p ps self r line x a b d next h told =
      let i = next.is in
      let form = form_is p (forms.Do x i.0 i.1 i.2) i.3 in
      as_is os p ps r line (forms.Do x i.0 i.1 i.2) next.on_line i.3
      (do_rest os ps (block_seen self.stmts.items) (opens_seen self.opened.items) line x i.0 i.1 i.2 (expression_of a)
      (expression_of b) (expression_of d) r i.4 i.5 i.6
      (opened_as os ps self p.form (forms.Do x i.0 i.1 i.2) form h) told)

-- the same of a tree that is this one
pub next_as : (function : List ℕ → Option Intrinsic) (os : List Opened) (line : ℕ) (t u : StatementTree) (p : Placed)
    → t ≡ u → IsNext function os line t p → IsNext function os line u p
next_as function os line t u p e h = subst (λ v. IsNext function os line v p) e h
