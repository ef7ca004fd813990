-- What the statements behind a place have become.
use Rattle.std.specs.Prelude.{◌≡◌, ◌≢◌, ℕ, Bool, false, Option, Some, None, List, [], ◌∷◌, ◌++◌}
use Rattle.std.specs.Prelude.{map, reverse, if◌then◌else◌}
use Rattle.tree.specs.Plain as tree
use Rattle.tree.specs.Plain.{Arms, Block}
use Rattle.tree.specs.View.{statement_of, tested_of, block_of, arms}
use Rattle.tree.specs.declared.functions.Intrinsic.{Intrinsic}
use Rattle.tree.specs.declared.stmts.Stmt.{Stmt}
use Rattle.f90_grammar.specs.Forms as forms
use Rattle.f90_grammar.specs.Blocks.{Placed, placed_form, AreBlock90, AreArms90}
use Rattle.f90_grammar.specs.Order.{Opened, InIf, InElse, InDo, closes_wrongly}
use Rattle.f90_grammar.specs.Reading.{takes_mark}
use Rattle.f90_blocks.specs.statement_trees.Trees.{IsTreeOf}
use Rattle.f90_blocks.specs.declared.statement_trees.nodes.StatementTree.{StatementTree}
use Rattle.f90_blocks.specs.declared.open.Open.{Open}
use Rattle.f90_blocks.specs.declared.open.Open.TheVariants.{If, Do}
use Rattle.f90_blocks.specs.declared.open.Rest.{Rest}

-- A block whose end stands there: the later arms of a block IF and its ELSE part; and, of both kinds, the block behind
-- the end
pub data Ended : Type 0 where
  EndedIf : Arms → Block → Block → Ended
  EndedDo : Block → Ended

-- statements of which the last one stands first
abbrev pub block_seen : List Stmt → Block
block_seen ss = tree.block (reverse (map statement_of ss))

abbrev pub open_seen : Open → Ended
open_seen (If later other behind) =
    EndedIf (arms (reverse (map tested_of later.items))) (block_of other) (block_seen behind.items)
open_seen (Do behind) = EndedDo (block_seen behind.items)

-- the statement that a logical IF does, or none
abbrev pub done_seen : Option Stmt → Block
done_seen (Some s) = tree.statement (statement_of s) tree.no_statements
done_seen None = tree.no_statements

-- a label stands before the block if it is among these
abbrev pub with_label : (ℕ → Bool) → Option ℕ → Block → Block
with_label has (Some n) b = if has n then tree.statement (tree.Label n) b else b
with_label has None b = b

-- the innermost first
abbrev pub opens_seen : List Open → List Ended
opens_seen os = reverse (map open_seen os)

-- the innermost of these blocks is no block IF, or there is none
abbrev pub IsNotInIf : List Open → Type 0
IsNotInIf os = (later : Arms) (other behind : Block) (es : List Ended) → opens_seen os ≢ EndedIf later other behind ∷ es

-- the block so far, and the blocks round it
pub record Shows (r : Rest) (b : Block) (es : List Ended) : Type 0 where
  pub block : block_seen r.stmts.items ≡ b
  pub round : opens_seen r.opened.items ≡ es

-- `function` says which names are functions, `is_target` which labels a GO TO names
module _ (function : List ℕ → Option Intrinsic) (is_target : ℕ → Bool) where
  -- in a block IF stand a block and later arms; what is round it is behind them
  pub record IsInIf (Round : List Placed → Type 0) (ps : List Placed) (b : Block) (later : Arms) (other : Block)
      : Type 0 where
    pub inside : List Placed
    pub arms : List Placed
    pub behind : List Placed
    pub same : ps ≡ inside ++ (arms ++ behind)
    pub block : AreBlock90 function is_target inside b
    pub are_arms : AreArms90 function is_target arms later other
    pub round : Round behind

  pub record IsInside (end : forms.Form90) (Round : List Placed → Type 0) (ps : List Placed) (b : Block) : Type 0 where
    pub inside : List Placed
    pub line : ℕ
    pub behind : List Placed
    pub same : ps ≡ inside ++ (placed_form line None end ∷ behind)
    pub block : AreBlock90 function is_target inside b
    pub round : Round behind

  -- Behind a place in these open blocks stand the rest of a block and the rests of the blocks round it
  abbrev pub IsRest : List Opened → List Placed → Block → List Ended → Type 0
  IsRest [] ps b [] = AreBlock90 function is_target ps b
  IsRest (InIf ∷ os) ps b (EndedIf later other behind ∷ es) = IsInIf (λ qs. IsRest os qs behind es) ps b later other
  IsRest (InElse ∷ os) ps b (EndedIf later other behind ∷ es) =
      (later ≡ tree.no_arms) × (other ≡ tree.no_statements)
      × IsInside forms.EndIf (λ qs. IsRest os qs behind es) ps b
  IsRest (InDo x ∷ os) ps b (EndedDo behind ∷ es) = IsInside forms.EndDo (λ qs. IsRest os qs behind es) ps b
  IsRest os ps b es = ⊥

  abbrev pub Stands : List Opened → List Placed → Rest → Type 0
  Stands os ps r = IsRest os ps (block_seen r.stmts.items) (opens_seen r.opened.items)

-- a statement with its line, where these blocks are open before it
pub record IsNext (function : List ℕ → Option Intrinsic) (os : List Opened) (line : ℕ) (t : StatementTree) (p : Placed)
    : Type 0 where
  pub on_line : line ≡ p.line
  pub is : IsTreeOf function p t
  pub mark : takes_mark p.form ≡ false → p.mark ≡ None
  pub fits : closes_wrongly p.form os ≡ false
