-- Which statements, one after another, are a block of a program's tree (ISO/IEC 1539:1991, section 8.1).
use Rattle.std.specs.Prelude.{◌≡◌, ℕ, Bool, true, false, Option, None, List, [], ◌∷◌, ◌++◌}
use Rattle.tree.specs.Plain as tree
use Rattle.tree.specs.Plain.{Expression, Statement, Arms, Block}
use Rattle.tree.specs.declared.stmts.Mark.{Mark}
use Rattle.f90_grammar.specs.Phrases.{Phrase90, tree_of, value_of_digits}
use Rattle.f90_grammar.specs.Items.{item_trees90, step_tree90}
use Rattle.f90_grammar.specs.Forms as forms
use Rattle.f90_grammar.specs.Forms.{Form90}
use Rattle.tree.specs.declared.functions.Intrinsic.{Intrinsic}
use Rattle.reading.specs.Signs.{reference_in}

-- a statement with its line; the mark that it has taken, if it takes one and one stands before it
pub record Placed : Type 0 where
  pub line : ℕ
  pub mark : Option Mark
  pub form : Form90

abbrev pub placed_form : ℕ → Option Mark → Form90 → Placed
placed_form line m f = record { line = line; mark = m; form = f }

abbrev pub trees_by : (Phrase90 → Expression) → List Phrase90 → List Expression
trees_by f [] = []
trees_by f (p ∷ ps) = f p ∷ trees_by f ps

-- `function` says which names are functions, `is_target` which labels a GO TO names
module _ (function : List ℕ → Option Intrinsic) (is_target : ℕ → Bool) where
  abbrev pub tree_in : Phrase90 → Expression
  tree_in p = tree_of function p

  -- a statement without others in it
  pub data IsSimple : Placed → Statement → Type 0 where
    assigns : (line : ℕ) (m : Option Mark) (l r : Phrase90)
        → IsSimple (placed_form line m (forms.Assign l r))
        (tree.Assignment line m (reference_in (tree_in l)) (tree_in r))
    masks : (line : ℕ) (m : Option Mark) (p l r : Phrase90)
        → IsSimple (placed_form line m (forms.Where p l r)) (tree.Where line m (tree_in p) (reference_in (tree_in l))
        (tree_in r))
    goes : (line : ℕ) (label : List ℕ)
        → IsSimple (placed_form line None (forms.Go label)) (tree.GoTo line (value_of_digits label))
    stops : (line : ℕ) → IsSimple (placed_form line None forms.Stop) (tree.Stop line)
    reads : (line : ℕ) (is : _)
        → IsSimple (placed_form line None (forms.Read is)) (tree.Read line (tree.items (item_trees90 function is)))
    reads_nothing : (line : ℕ) → IsSimple (placed_form line None forms.ReadNothing) (tree.Read line tree.no_items)
    prints : (line : ℕ) (is : _)
        → IsSimple (placed_form line None (forms.Print is)) (tree.Print line (tree.items (item_trees90 function is)))
    prints_nothing : (line : ℕ) → IsSimple (placed_form line None forms.PrintNothing) (tree.Print line tree.no_items)
    allocates : (line : ℕ) (x : List ℕ) (es : List Phrase90)
        → IsSimple (placed_form line None (forms.Allocate x es))
        (tree.Allocate line x (tree.expressions (trees_by tree_in es)))
    deallocates : (line : ℕ) (x : List ℕ)
        → IsSimple (placed_form line None (forms.Deallocate x)) (tree.Deallocate line x)

  mutual
    pub data AreBlock90 : List Placed → Block → Type 0 where
      nothing : AreBlock90 [] tree.no_statements
      -- a CONTINUE leaves a label in the tree where a GO TO names it, and else nothing
      label : (line : ℕ) (digits : List ℕ) (rest : List Placed) (b : Block)
          → is_target (value_of_digits digits) ≡ true
          → AreBlock90 rest b
          → AreBlock90 (placed_form line None (forms.Continue digits) ∷ rest)
          (tree.statement (tree.Label (value_of_digits digits)) b)
      unnamed : (line : ℕ) (digits : List ℕ) (rest : List Placed) (b : Block)
          → is_target (value_of_digits digits) ≡ false
          → AreBlock90 rest b → AreBlock90 (placed_form line None (forms.Continue digits) ∷ rest) b
      simple : (s : Placed) (c : Statement) (rest : List Placed) (b : Block) → IsSimple s c → AreBlock90 rest b
          → AreBlock90 (s ∷ rest) (tree.statement c b)
      -- a logical IF is a block IF of one arm
      test : (line : ℕ) (m : Option Mark) (p : Phrase90) (f : Form90) (inner b : Block) (rest : List Placed)
          → AreBlock90 (placed_form line m f ∷ []) inner → AreBlock90 rest b
          → AreBlock90 (placed_form line m (forms.Test p f) ∷ rest)
          (tree.statement (tree.If line (tree.arm (tree_in p) inner tree.no_arms) tree.no_statements) b)
      branch : (line : ℕ) (p : Phrase90) (body arms rest : List Placed) (first other b : Block) (more : Arms)
          → AreBlock90 body first → AreArms90 arms more other → AreBlock90 rest b
          → AreBlock90 (placed_form line None (forms.If p) ∷ (body ++ (arms ++ rest)))
          (tree.statement (tree.If line (tree.arm (tree_in p) first more) other) b)
      loop : (line end : ℕ) (x : List ℕ) (p q : Phrase90) (r : Option Phrase90) (body rest : List Placed)
          (inner b : Block)
          → AreBlock90 body inner → AreBlock90 rest b
          → AreBlock90 (placed_form line None (forms.Do x p q r) ∷ (body ++ (placed_form end None forms.EndDo ∷ rest)))
          (tree.statement (tree.Do line x (tree_in p) (tree_in q) (step_tree90 function r) inner) b)

    -- the rest of a block IF, up to its END IF
    pub data AreArms90 : List Placed → Arms → Block → Type 0 where
      ends : (line : ℕ) → AreArms90 (placed_form line None forms.EndIf ∷ []) tree.no_arms tree.no_statements
      other : (line end : ℕ) (body : List Placed) (b : Block) → AreBlock90 body b
          → AreArms90
          (placed_form line None forms.Else ∷ (body ++ placed_form end None forms.EndIf ∷ [])) tree.no_arms b
      further : (line : ℕ) (p : Phrase90) (body rest : List Placed) (b o : Block) (more : Arms) → AreBlock90 body b
          → AreArms90 rest more o
          → AreArms90 (placed_form line None (forms.ElseIf p) ∷ (body ++ rest)) (tree.arm (tree_in p) b more) o
