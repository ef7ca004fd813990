-- Printed statements that are placed on lines, and what the parts of a statement are read as.
use Rattle.std.proofs.Common.{◌≡◌, refl, ap, ap₂, ◌∙◌, sym, subst, ℕ, Bool, Option, None, List, [], ◌∷◌, ◌++◌, append_assoc}
use Rattle.tree.specs.Plain as tree
use Rattle.tree.specs.Plain.{Expression, Statement, Arms, Block}
use Rattle.tree.specs.declared.functions.Intrinsic.{Intrinsic}
use Rattle.f90_grammar.specs.Phrases.{tree_of}
use Rattle.f90_grammar.specs.Forms as forms
use Rattle.f90_grammar.specs.Printing.{phrase_of}
use Rattle.f90_grammar.specs.PrintedForms.{Printed, unmarked, step_phrase, printed_statement, printed_block, printed_arms, printed_else, printed_if}
use Rattle.f90_grammar.specs.Items.{step_tree90}
use Rattle.f90_grammar.specs.Blocks.{Placed, placed_form, IsSimple, AreBlock90, AreArms90}
use Rattle.f90_grammar.specs.Blocks.AreBlock90.{simple, branch, loop}
use Rattle.f90_grammar.specs.Blocks.AreArms90.{ends, other, further}
use Rattle.f90_laws.specs.printed.ReadBack.{without_numbers, arms_without_numbers, block_without_numbers}

-- the statements on any lines, with their marks
pub data ArePlaced : List Printed → List Placed → Type 0 where
  none : ArePlaced [] []
  next : (line : ℕ) (s : Printed) {ss : List Printed} {ps : List Placed} → ArePlaced ss ps → ArePlaced (s ∷ ss) (placed_form line s.mark s.form ∷ ps)

pub data IsDivided (xs ys : List Printed) : List Placed → Type 0 where
  divided : (ps qs : List Placed) → ArePlaced xs ps → ArePlaced ys qs → IsDivided xs ys (ps ++ qs)

longer : (line : ℕ) (s : Printed) {xs ys : List Printed} {ps : List Placed} → IsDivided xs ys ps → IsDivided (s ∷ xs) ys (placed_form line s.mark s.form ∷ ps)
longer line s (divided ps qs a b) = divided (placed_form line s.mark s.form ∷ ps) qs (next line s a) b

pub divide : (xs ys : List Printed) {ps : List Placed} → ArePlaced (xs ++ ys) ps → IsDivided xs ys ps
divide [] ys {ps} h = divided [] ps none h
divide (x ∷ xs) ys (next line s h) = longer line s (divide xs ys h)

-- `function` says which names are functions, `is_target` which labels a GO TO names
module _ (function : List ℕ → Option Intrinsic) (is_target : ℕ → Bool) where
  -- the statements are those of the block, but for the numbers of lines
  pub record ReadBlock (b : Block) (ps : List Placed) : Type 0 where
    pub block : Block
    pub are : AreBlock90 function is_target ps block
    pub same : block_without_numbers b ≡ block_without_numbers block

  -- so it is with one statement, whatever follows
  pub record ReadStatement (c : Statement) (ps : List Placed) : Type 0 where
    pub statement : Statement
    pub are : (rest : List Placed) (b : Block) → AreBlock90 function is_target rest b → AreBlock90 function is_target (ps ++ rest) (tree.statement statement b)
    pub same : without_numbers c ≡ without_numbers statement

  pub record ReadArms (a : Arms) (o : Block) (ps : List Placed) : Type 0 where
    pub arms : Arms
    pub other : Block
    pub are : AreArms90 function is_target ps arms other
    pub same_arms : arms_without_numbers a ≡ arms_without_numbers arms
    pub same_other : block_without_numbers o ≡ block_without_numbers other

  -- ---- a statement without others in it

  pub record ReadSimple (c : Statement) (s : Printed) (line : ℕ) : Type 0 where
    pub statement : Statement
    pub is_simple : IsSimple function is_target (placed_form line s.mark s.form) statement
    pub same : without_numbers c ≡ without_numbers statement

  pub simple_back : (c : Statement) (s : Printed) {ps : List Placed} → ArePlaced (s ∷ []) ps → ((line : ℕ) → ReadSimple c s line) → ReadStatement c ps
  simple_back c _ (next line s none) each = record {
    statement = (each line).statement;
    are = λ rest b h. simple (placed_form line s.mark s.form) (each line).statement rest b (each line).is_simple h;
    same = (each line).same;
  }

  -- ---- a block IF

  if_parts : (n : ℕ) (test : Expression) (body : Block) (more : Arms) (o : Block) → tree_of function (phrase_of test) ≡ test
      → ((ps : List Placed) → ArePlaced (printed_block body) ps → ReadBlock body ps)
      → ((ps : List Placed) → ArePlaced (printed_arms more ++ (printed_else o ++ unmarked forms.EndIf ∷ [])) ps → ReadArms more o ps)
      → {ps : List Placed} → IsDivided (printed_block body) (printed_arms more ++ (printed_else o ++ unmarked forms.EndIf ∷ [])) ps
      → (line : ℕ) → ReadStatement (tree.If line (tree.arm test body more) o) (placed_form n None (forms.If (phrase_of test)) ∷ ps)
  if_parts n test body more o e first rest (divided ps qs a b) line =
      let x = first ps a in
      let y = rest qs b in
      record {
        statement = tree.If n (tree.arm (tree_of function (phrase_of test)) x.block y.arms) y.other;
        are = λ (rs : List Placed) (c : Block) h.
            subst (λ (ts : List Placed). AreBlock90 function is_target (placed_form n None (forms.If (phrase_of test)) ∷ ts)
            (tree.statement (tree.If n (tree.arm (tree_of function (phrase_of test)) x.block y.arms) y.other) c)) (sym (append_assoc ps qs rs))
            (branch n (phrase_of test) ps qs rs x.block y.other c y.arms x.are y.are h);
        same = ap₂ (λ t d. tree.If 0 (tree.arm t d (arms_without_numbers more)) (block_without_numbers o)) (sym e) x.same
            ∙ ap₂ (λ d q. tree.If 0 (tree.arm (tree_of function (phrase_of test)) (block_without_numbers x.block) d) q) y.same_arms y.same_other;
      }

  pub if_back : (line : ℕ) (test : Expression) (body : Block) (more : Arms) (o : Block) → tree_of function (phrase_of test) ≡ test
      → ((ps : List Placed) → ArePlaced (printed_block body) ps → ReadBlock body ps)
      → ((ps : List Placed) → ArePlaced (printed_arms more ++ (printed_else o ++ unmarked forms.EndIf ∷ [])) ps → ReadArms more o ps)
      → {ps : List Placed} → ArePlaced (printed_if (tree.arm test body more) (printed_else o)) ps → ReadStatement (tree.If line (tree.arm test body more) o) ps
  if_back line test body more o e first rest (next n s h) =
      if_parts n test body more o e first rest (divide (printed_block body) (printed_arms more ++ (printed_else o ++ unmarked forms.EndIf ∷ [])) h) line

  -- its other arms

  arm_parts : (n : ℕ) (test : Expression) (body : Block) (more : Arms) (o : Block) → tree_of function (phrase_of test) ≡ test
      → ((ps : List Placed) → ArePlaced (printed_block body) ps → ReadBlock body ps)
      → ((ps : List Placed) → ArePlaced (printed_arms more ++ (printed_else o ++ unmarked forms.EndIf ∷ [])) ps → ReadArms more o ps)
      → {ps : List Placed} → IsDivided (printed_block body) (printed_arms more ++ (printed_else o ++ unmarked forms.EndIf ∷ [])) ps
      → ReadArms (tree.arm test body more) o (placed_form n None (forms.ElseIf (phrase_of test)) ∷ ps)
  arm_parts n test body more o e first rest (divided ps qs a b) =
      let x = first ps a in
      let y = rest qs b in
      record {
        arms = tree.arm (tree_of function (phrase_of test)) x.block y.arms;
        other = y.other;
        are = further n (phrase_of test) ps qs x.block y.other y.arms x.are y.are;
        same_arms = ap₂ (λ t d. tree.arm t d (arms_without_numbers more)) (sym e) x.same
            ∙ ap (tree.arm (tree_of function (phrase_of test)) (block_without_numbers x.block)) y.same_arms;
        same_other = y.same_other;
      }

  pub arm_back : (test : Expression) (body : Block) (more : Arms) (o : Block) → tree_of function (phrase_of test) ≡ test
      → ((ps : List Placed) → ArePlaced (printed_block body) ps → ReadBlock body ps)
      → ((ps : List Placed) → ArePlaced (printed_arms more ++ (printed_else o ++ unmarked forms.EndIf ∷ [])) ps → ReadArms more o ps)
      → (ps : List Placed) → ArePlaced (printed_arms (tree.arm test body more) ++ (printed_else o ++ unmarked forms.EndIf ∷ [])) ps
      → ReadArms (tree.arm test body more) o ps
  arm_back test body more o e first rest _ (next n s {ps = ps} h) =
      let t : List Printed = printed_else o ++ unmarked forms.EndIf ∷ [] in
      let g : ArePlaced (printed_block body ++ (printed_arms more ++ t)) ps =
      subst (λ (ss : List Printed). ArePlaced ss ps) (append_assoc (printed_block body) (printed_arms more) t) h in
      arm_parts n test body more o e first rest (divide (printed_block body) (printed_arms more ++ t) g)

  -- its ELSE part

  else_parts : (n : ℕ) (o : Block) → ((ps : List Placed) → ArePlaced (printed_block o) ps → ReadBlock o ps)
      → {ps : List Placed} → IsDivided (printed_block o) (unmarked forms.EndIf ∷ []) ps
      → ReadArms tree.no_arms o (placed_form n None forms.Else ∷ ps)
  else_parts n o all (divided ps _ a (next m s none)) =
      let x = all ps a in
      record {
        arms = tree.no_arms;
        other = x.block;
        are = other n m ps x.block x.are;
        same_arms = refl;
        same_other = x.same;
      }

  pub else_back : (o : Block) → ((ps : List Placed) → ArePlaced (printed_block o) ps → ReadBlock o ps)
      → (ps : List Placed) → ArePlaced (printed_else o ++ unmarked forms.EndIf ∷ []) ps → ReadArms tree.no_arms o ps
  else_back tree.no_statements all _ (next n s none) =
      record { arms = tree.no_arms; other = tree.no_statements; are = ends n; same_arms = refl; same_other = refl }
  else_back (tree.statement c cs) all _ (next n s h) =
      else_parts n (tree.statement c cs) all (divide (printed_block (tree.statement c cs)) (unmarked forms.EndIf ∷ []) h)

  -- ---- a loop

  do_parts : (n : ℕ) (x : List ℕ) (a b c : Expression) (body : Block)
      → tree_of function (phrase_of a) ≡ a → tree_of function (phrase_of b) ≡ b → step_tree90 function (step_phrase c) ≡ c
      → ((ps : List Placed) → ArePlaced (printed_block body) ps → ReadBlock body ps)
      → {ps : List Placed} → IsDivided (printed_block body) (unmarked forms.EndDo ∷ []) ps
      → (line : ℕ) → ReadStatement (tree.Do line x a b c body) (placed_form n None (forms.Do x (phrase_of a) (phrase_of b) (step_phrase c)) ∷ ps)
  do_parts n x a b c body ea eb ec all (divided ps _ h (next m s none)) line =
      let y = all ps h in
      let t : Statement = tree.Do n x (tree_of function (phrase_of a)) (tree_of function (phrase_of b)) (step_tree90 function (step_phrase c)) y.block in
      record {
        statement = t;
        are = λ (rs : List Placed) (d : Block) g.
            subst (λ (ts : List Placed). AreBlock90 function is_target (placed_form n None (forms.Do x (phrase_of a) (phrase_of b) (step_phrase c)) ∷ ts)
            (tree.statement t d)) (sym (append_assoc ps (placed_form m None forms.EndDo ∷ []) rs))
            (loop n m x (phrase_of a) (phrase_of b) (step_phrase c) ps rs y.block d y.are g);
        same = ap₂ (λ p q. tree.Do 0 x p q c (block_without_numbers body)) (sym ea) (sym eb)
            ∙ ap₂ (λ p q. tree.Do 0 x (tree_of function (phrase_of a)) (tree_of function (phrase_of b)) p q) (sym ec) y.same;
      }

  pub do_back : (line : ℕ) (x : List ℕ) (a b c : Expression) (body : Block)
      → tree_of function (phrase_of a) ≡ a → tree_of function (phrase_of b) ≡ b → step_tree90 function (step_phrase c) ≡ c
      → ((ps : List Placed) → ArePlaced (printed_block body) ps → ReadBlock body ps)
      → {ps : List Placed} → ArePlaced (printed_statement (tree.Do line x a b c body)) ps → ReadStatement (tree.Do line x a b c body) ps
  do_back line x a b c body ea eb ec all (next n s h) =
      do_parts n x a b c body ea eb ec all (divide (printed_block body) (unmarked forms.EndDo ∷ []) h) line

  -- ---- a statement and those behind it

  pub behind : (c : Statement) (cs : Block) → ((ps : List Placed) → ArePlaced (printed_statement c) ps → ReadStatement c ps)
      → ((ps : List Placed) → ArePlaced (printed_block cs) ps → ReadBlock cs ps)
      → {ps : List Placed} → IsDivided (printed_statement c) (printed_block cs) ps → ReadBlock (tree.statement c cs) ps
  behind c cs one all (divided ps qs a b) =
      let x = one ps a in
      let y = all qs b in
      record {
        block = tree.statement x.statement y.block;
        are = x.are qs y.block y.are;
        same = ap₂ tree.statement x.same y.same;
      }
