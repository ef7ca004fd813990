-- A program with blocks of the profile in the place of some loops is of the profile.
use Rattle.std.proofs.Common.{◌≡◌, refl, sym, ap, subst, ◌∙◌, ℕ, Option, Some, None, List, [], ◌∷◌, ◌++◌, IsTrue}
use Rattle.std.proofs.Common.{◌⊎◌, inl, inr, append_assoc, length, IfSome, Contains}
use Rattle.std.specs.Option.{IsSomeAnd}
use Rattle.std.proofs.lemmas.List.Elements.{Contains-append_left, Contains-append_right}
use Rattle.meaning_laws.proofs.profiles.Lists.{all_at, cases_of, here, nowhere, there}
use Rattle.meaning_laws.proofs.profiles.Names.{found}
use Rattle.meaning_laws.proofs.profiles.Programs.{source_with_made_names}
use Rattle.tree.specs.declared.ops.Kind.TheVariants.{Integer}
use Rattle.tree.specs.Names.{IsSourceName}
use Rattle.tree.specs.Plain.{Statement, Assignment, Where, If, Do, Label, GoTo, Stop, Read, Print, Allocate}
use Rattle.tree.specs.Plain.{Deallocate, Arms, no_arms, arm, Block, no_statements, statement, block, Declaration, no_subscripts}
use Rattle.tree.specs.Plain.{Program}
use Rattle.meaning.specs.Blocks.{Surroundings, before_labels, labels_of, outermost}
use Rattle.meaning.specs.Labels.{has_arm}
use Rattle.meaning.specs.Blocks.{within_loop}
use Rattle.meaning.specs.Dialect.{fortran77}
use Rattle.tree.specs.declared.width.Width.{Width}
use Rattle.meaning.specs.SymbolicNames.{IsLongName}
use Rattle.meaning.specs.Profile77 as source
use Rattle.meaning.specs.Profile90 as target
use Rattle.meaning.specs.Profile90.{IsProgram90}
use Rattle.meaning.specs.Typed.{declared, dimensions, number_of_subscripts}
use Rattle.meaning.specs.Typed77.{IsDoVariable}
use Rattle.find_nests.specs.Loops.{SurroundedLoop, SourceLoop, as_statement, loops_in, loops_in_arms, loops_in_block}
use Rattle.translation.specs.loop_placing.Placing.{block_at, instead, placed_statement, placed_arms, placed_in}
use Rattle.find_nests.specs.nest_parts.Numbers.{number_after, after_arms, after_block, next_loop_number}
use Rattle.translation.proofs.PlacedProfile.Labels.{LabelsSuit, Suit, block_of_statements, block_top, labels-append}
use Rattle.translation.proofs.PlacedProfile.Labels.{labels_suit}
use Rattle.translation.proofs.PlacedProfile.SourceNames.{source_name}
use Rattle.translation.specs.placed_profile.Laws.{AreSourceNames, PlacedProgramIsProgram, SuitsLoop}

-- ---- blocks one after the other

-- a statement as a block
alone : (ds : List Declaration) (c : Statement) (w : Surroundings) → target.IsStatement ds c w → target.IsBlock ds (statement c no_statements) w
alone ds c w h = (h, tt)

-- the labels of the second block stand ahead in the first one
blocks_together : (ds : List Declaration) (xs ys : List Statement) (w : Surroundings)
    → target.IsBlock ds (block xs) (before_labels (labels_of (block ys)) w) → target.IsBlock ds (block ys) w → target.IsBlock ds (block (xs ++ ys)) w
blocks_together ds [] ys w h g = g
blocks_together ds (x ∷ xs) ys w h g = (
  subst (λ ns. target.IsStatement ds x (record { variables = w.variables; ahead = ns }))
      (sym (append_assoc (labels_of (block xs)) (labels_of (block ys)) w.ahead) ∙ ap (λ ns. ns ++ w.ahead) (sym (labels-append xs ys))) h.0,
  blocks_together ds xs ys w h.1 g,
)

-- ---- variables of loops

pub variable_name : (width : Width) {p : Program} → source.IsProgram77 (fortran77 width) p → (x : List ℕ) (around : List (List ℕ))
    → IsDoVariable p.declarations x around → IsSourceName x
variable_name width {p} is x around h = by (declared p.declarations x) refl h.integer.0
  where
    by : (o : Option Declaration) → declared p.declarations x ≡ o
        → IsSomeAnd o (λ d. (Integer ≡ d.kind) × (number_of_subscripts no_subscripts ≡ length (dimensions d.extent))) → IsSourceName x
    by None e k = absurd k
    by (Some d) e k =
        let f = found p.declarations x d e in
        subst IsSourceName f.name (source_name d.name (all_at (source.IsDeclaration (fortran77 width)) p.declarations d is.declarations.each f.among).name)

pub one_more : (x : List ℕ) (xs : List (List ℕ)) → IsSourceName x → AreSourceNames xs → AreSourceNames (x ∷ xs)
one_more x xs h v y c = by (cases_of x xs y c)
  where
    by : (x ≡ y) ⊎ Contains xs y → IsSourceName y
    by (inl s) = subst IsSourceName s h
    by (inr i) = v y i

-- ---- the walk

module _ (width : Width) (p q : Program) (is : source.IsProgram77 (fortran77 width) p) (blocks : List (Option Block)) where
  some_arm : (k : ℕ) (ms : Arms) → IsTrue (has_arm ms) → IsTrue (has_arm (placed_arms blocks k ms))
  some_arm k no_arms h = h
  some_arm k (arm test body ms) h = h

  -- a loop with a block for it, or with what its body becomes
  loop_is : (l : SurroundedLoop) (inside : Block) (w : Surroundings) (o : Option Block) → block_at blocks (next_loop_number l.loop.before) ≡ o
      → ((b : Block) → block_at blocks (next_loop_number l.loop.before) ≡ Some b → SuitsLoop p q l b)
      → AreSourceNames w.variables → source.IsStatement p.declarations (as_statement l.loop.loop) w → target.IsStatement q.declarations (as_statement l.loop.loop) w
      → target.IsBlock q.declarations inside (within_loop l.loop.loop.variable w)
      → target.IsBlock q.declarations
      (block (instead blocks o (Do l.loop.loop.line l.loop.loop.variable l.loop.loop.first l.loop.loop.last l.loop.loop.step inside))) w
  loop_is l inside w None e h v s t g = ((t.0, t.1, t.2, t.3, t.4, g), tt)
  loop_is l inside w (Some b) e h v s t g =
      subst (λ d. target.IsBlock q.declarations d w) (sym (block_of_statements b)) ((h b e).profile w v s)

  mutual
    statement_is : (k : ℕ) (around : List SourceLoop) (c : Statement) (w : Surroundings) → Suit width p q blocks (loops_in k around c) → AreSourceNames w.variables
        → source.IsStatement p.declarations c w → target.IsStatement q.declarations c w → target.IsBlock q.declarations (block (placed_statement blocks k c)) w
    statement_is k around (Assignment line mark left right) w h v s t = alone q.declarations (Assignment line mark left right) w t
    statement_is k around (Where line mark mask left right) w h v s t = alone q.declarations (Where line mark mask left right) w t
    statement_is k around (If line arms other) w h v s t = (
      (
        t.0,
        some_arm k arms t.1,
        arms_are k around arms w (λ l b i e. h l b (Contains-append_left (loops_in_arms k around arms) (loops_in_block (after_arms k arms) around other) l i) e) v s.2 t.2,
        block_is (after_arms k arms) around other w (λ l b i e. h l b (Contains-append_right (loops_in_arms k around arms) (loops_in_block (after_arms k arms) around other) l i) e) v s.3 t.3,
      ),
      tt,
    )
    statement_is k around (Do line x first last step body) w h v s t =
        let own : SourceLoop = record { line = line; variable = x; first = first; last = last; step = step; body = body } in
        loop_is (record { around = around; loop = record { before = k; loop = own } }) (block (placed_in blocks (next_loop_number k) body)) w
        (block_at blocks (next_loop_number k)) refl
        (λ b e. h (record { around = around; loop = record { before = k; loop = own } }) b (here _ (loops_in_block (next_loop_number k) (around ++ own ∷ []) body)) e)
        v s t
        (block_is (next_loop_number k) (around ++ own ∷ []) body (within_loop x w) (λ l b i e. h l b (there _ (loops_in_block (next_loop_number k) (around ++ own ∷ []) body) l i) e) (one_more x w.variables (variable_name width is x w.variables s.1) v) s.5 t.5)
    statement_is k around (Label n) w h v s t = alone q.declarations (Label n) w t
    statement_is k around (GoTo line n) w h v s t = alone q.declarations (GoTo line n) w t
    statement_is k around (Stop line) w h v s t = alone q.declarations (Stop line) w t
    statement_is k around (Read line is) w h v s t = alone q.declarations (Read line is) w t
    statement_is k around (Print line is) w h v s t = alone q.declarations (Print line is) w t
    statement_is k around (Allocate line x es) w h v s t = alone q.declarations (Allocate line x es) w t
    statement_is k around (Deallocate line x) w h v s t = alone q.declarations (Deallocate line x) w t

    arms_are : (k : ℕ) (around : List SourceLoop) (ms : Arms) (w : Surroundings) → Suit width p q blocks (loops_in_arms k around ms) → AreSourceNames w.variables
        → source.AreArms p.declarations ms w → target.AreArms q.declarations ms w → target.AreArms q.declarations (placed_arms blocks k ms) w
    arms_are k around no_arms w h v s t = tt
    arms_are k around (arm test body ms) w h v s t = (
      t.0,
      block_is k around body w (λ l b i e. h l b (Contains-append_left (loops_in_block k around body) (loops_in_arms (after_block k body) around ms) l i) e) v s.1 t.1,
      arms_are (after_block k body) around ms w (λ l b i e. h l b (Contains-append_right (loops_in_block k around body) (loops_in_arms (after_block k body) around ms) l i) e) v s.2 t.2,
    )

    block_is : (k : ℕ) (around : List SourceLoop) (b : Block) (w : Surroundings) → Suit width p q blocks (loops_in_block k around b) → AreSourceNames w.variables
        → source.IsBlock p.declarations b w → target.IsBlock q.declarations b w → target.IsBlock q.declarations (block (placed_in blocks k b)) w
    block_is k around no_statements w h v s t = tt
    block_is k around (statement c cs) w h v s t =
        let later : Suit width p q blocks (loops_in_block (number_after k c) around cs) = λ l b i e. h l b (Contains-append_right (loops_in k around c) (loops_in_block (number_after k c) around cs) l i) e in
        blocks_together q.declarations (placed_statement blocks k c) (placed_in blocks (number_after k c) cs) w
        (subst (λ ns. target.IsBlock q.declarations (block (placed_statement blocks k c)) (before_labels ns w)) (sym (block_top width p q blocks (number_after k c) around cs later))
        (statement_is k around c (before_labels (labels_of cs) w) (λ l b i e. h l b (Contains-append_left (loops_in k around c) (loops_in_block (number_after k c) around cs) l i) e) v s.0 t.0))
        (block_is (number_after k c) around cs w later v s.1 t.1)

-- ---- programs

pub placed_program_is_program : (width : Width) → PlacedProgramIsProgram width
placed_program_is_program width p q blocks is add name same suit few =
    let whole = source_with_made_names (fortran77 width) p q.declarations is add in
    let labels : LabelsSuit q.body = subst LabelsSuit (sym same) (labels_suit width p q blocks is suit) in
    record {
      name = subst (λ o. IfSome o IsLongName) (sym name) whole.name;
      declarations = add.are;
      statements = subst (λ b. target.IsBlock q.declarations b outermost) (sym same) (block_is width p q is blocks 0 [] p.body outermost suit (λ x c. absurd (nowhere x c)) is.statements whole.statements);
      blocks = few.deep;
      labels = labels.once;
      named = labels.named;
      few = few.many;
    }
