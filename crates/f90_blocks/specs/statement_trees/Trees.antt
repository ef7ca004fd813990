-- What the code holds of an executable statement: its trees.
use Rattle.std.specs.Prelude.{◌≡◌, ℕ, false, Option, Some, None, List, [], ◌∷◌}
use Rattle.tree.specs.View.{expression_of, statement_of}
use Rattle.tree.specs.declared.functions.Intrinsic.{Intrinsic}
use Rattle.tree.specs.declared.stmts.Stmt.{Stmt}
use Rattle.f90_grammar.specs.Phrases.{Phrase90, tree_of, value_of_digits}
use Rattle.f90_grammar.specs.Items.{step_tree90}
use Rattle.f90_grammar.specs.Forms as forms
use Rattle.f90_grammar.specs.Forms.{Form90}
use Rattle.f90_grammar.specs.Blocks.{Placed, IsSimple, placed_form}
use Rattle.f90_grammar.specs.Order.{is_executable90}
use Rattle.f90_blocks.specs.declared.statement_trees.nodes.StatementTree.{StatementTree}
use Rattle.f90_blocks.specs.declared.statement_trees.nodes.StatementTree.TheVariants.{Simple, Test, If, ElseIf, Else}
use Rattle.f90_blocks.specs.declared.statement_trees.nodes.StatementTree.TheVariants.{EndIf, Do, EndDo, Continue}

-- whichever labels are named: none of them stands in such a statement
abbrev pub IsStmtOf : (List ℕ → Option Intrinsic) → Placed → Stmt → Type 0
IsStmtOf function p s = IsSimple function (λ n. false) p (statement_of s)

-- the statement that a logical IF does
abbrev pub IsDone : (List ℕ → Option Intrinsic) → Placed → Option Stmt → Type 0
IsDone function p (Some s) = IsStmtOf function p s
IsDone function p None = p.form ≡ forms.Continue []

-- `function` says which names are functions
abbrev pub IsTreeOf : (List ℕ → Option Intrinsic) → Placed → StatementTree → Type 0
IsTreeOf function p (Simple s) = IsStmtOf function p s
IsTreeOf function p (Test e s) =
    (q : Phrase90) × (f : Form90) × (p.form ≡ forms.Test q f) × (expression_of e ≡ tree_of function q)
    × IsDone function (placed_form p.line p.mark f) s
IsTreeOf function p (If e) =
    (q : Phrase90) × (p ≡ placed_form p.line None (forms.If q)) × (expression_of e ≡ tree_of function q)
IsTreeOf function p (ElseIf e) =
    (q : Phrase90) × (p ≡ placed_form p.line None (forms.ElseIf q)) × (expression_of e ≡ tree_of function q)
IsTreeOf function p Else = p ≡ placed_form p.line None forms.Else
IsTreeOf function p EndIf = p ≡ placed_form p.line None forms.EndIf
IsTreeOf function p (Do x a b c) =
    (q r : Phrase90) × (s : Option Phrase90) × (p ≡ placed_form p.line None (forms.Do x q r s))
    × (expression_of a ≡ tree_of function q) × (expression_of b ≡ tree_of function r)
    × (expression_of c ≡ step_tree90 function s)
IsTreeOf function p EndDo = p ≡ placed_form p.line None forms.EndDo
IsTreeOf function p (Continue None) = p ≡ placed_form p.line None (forms.Continue [])
IsTreeOf function p (Continue (Some n)) =
    (d : ℕ) × (ds : List ℕ) × (p ≡ placed_form p.line None (forms.Continue (d ∷ ds))) × (n ≡ value_of_digits (d ∷ ds))

-- none where the statement isn't executable
abbrev pub IsTreeIn : (List ℕ → Option Intrinsic) → Option StatementTree → Placed → Type 0
IsTreeIn function (Some t) p = IsTreeOf function p t
IsTreeIn function None p = is_executable90 p.form ≡ false
