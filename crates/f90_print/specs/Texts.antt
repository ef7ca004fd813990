-- Texts of the parts of expressions and of statements.
use Rattle.std.specs.Prelude.{ℕ, List, [], ◌∷◌, ◌++◌, flat_map}
use Rattle.tree.specs.Plain.{Expression, Subscript, Statement, Block, Declaration}
use Rattle.tree.specs.View.{ConstructorLoop, Tested}
use Rattle.tree.specs.declared.ops.Op.{Op}
use Rattle.tree.specs.declared.ops.Op.TheVariants.{Not}
use Rattle.tree.specs.OperatorTable.{Sign, Minus, Negation}
use Rattle.f90_grammar.specs.Printing.{phrase_of, list_part_of, fit}
use Rattle.f90_grammar.specs.PrintedText.{phrase_text, part_text, comma, expression_text, separated_text}
use Rattle.f90_grammar.specs.PrintedText.{in_parentheses, loop_text, with_line_feed, lines_of_text, form_text}
use Rattle.f90_grammar.specs.PrintedText.{printed_lines}
use Rattle.f90_grammar.specs.PrintedForms.{Printed, printed_declaration, printed_statement, printed_block, printed_else}
use Rattle.f90_grammar.specs.Forms.{Form90, ElseIf}

abbrev pub subscript_text : Subscript → List ℕ
subscript_text s = part_text (list_part_of s)

-- what an operator with one operand is written as
abbrev pub sign_of : Op → Sign
sign_of Not = Negation
sign_of o = Minus

-- an operand of an operator that takes no lower levels than the least one
abbrev pub operand_text : ℕ → Expression → List ℕ
operand_text least e = phrase_text (fit least (phrase_of e))

-- a list in parentheses, or nothing
abbrev pub listed_text : {A : Type 0} → (A → List ℕ) → List A → List ℕ
listed_text text [] = []
listed_text text (x ∷ xs) = in_parentheses (separated_text text (x ∷ xs))

abbrev pub after_comma : {A : Type 0} → (A → List ℕ) → A → List ℕ
after_comma text x = comma ++ text x

-- a loop of a constructor, behind what it goes over
abbrev pub loop_end_text : ConstructorLoop → List ℕ
loop_end_text l = comma ++ (loop_text l.variable (expression_text l.first) (expression_text l.last) ++ 41 ∷ [])

-- ---- statements

abbrev pub lines_text : List (List ℕ) → List ℕ
lines_text lines = flat_map with_line_feed lines

-- the lines of a statement's text, each with its end
unfoldable pub statement_lines : List ℕ → List ℕ
statement_lines t = lines_text (lines_of_text t)

abbrev pub form_lines : Form90 → List ℕ
form_lines f = statement_lines (form_text f)

abbrev pub printed_text : Printed → List ℕ
printed_text s = lines_text (printed_lines s)

abbrev pub statement_text : Statement → List ℕ
statement_text s = flat_map printed_text (printed_statement s)

abbrev pub block_text : Block → List ℕ
block_text b = flat_map printed_text (printed_block b)

abbrev pub else_text : Block → List ℕ
else_text b = flat_map printed_text (printed_else b)

-- of an arm that isn't the first one
abbrev pub arm_text : Tested → List ℕ
arm_text t = form_lines (ElseIf (phrase_of t.test)) ++ block_text t.body

abbrev pub declaration_lines : Declaration → List ℕ
declaration_lines d = form_lines (printed_declaration d).form
