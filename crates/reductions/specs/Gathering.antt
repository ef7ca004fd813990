-- Loops that only gather a sum, a greatest or a least value, and the one statement that does the same
-- (ISO/IEC 1539:1991, sections 13.13.68, 13.13.65 and 13.13.107).
use Rattle.std.specs.Prelude.{ℕ, pos, Bool, true, false, Option, if◌then◌else◌, List}
use Rattle.tree.specs.Plain.{Expression, Number, Named, Binary, Apply, Constructor, Reduce, Expressions, no_expressions}
use Rattle.tree.specs.Plain.{expression, Subscript, Only, Section, Subscripts, no_subscripts, subscript, loop, no_loops}
use Rattle.tree.specs.Plain.{Reference, Statement, Assignment, If, Do, no_arms, arm, no_statements, statement}
use Rattle.tree.specs.declared.functions.Fun.TheVariants.{Max, Min}
use Rattle.tree.specs.declared.functions.Red.{Red}
use Rattle.tree.specs.declared.functions.Red.TheVariants.{Sum, MaxVal, MinVal}
use Rattle.tree.specs.declared.ops.Op.TheVariants.{Add, Sub, Ge}
use Rattle.tree.specs.declared.stmts.Mark.{Mark}
use Rattle.meaning.specs.Value.{named}
use Rattle.rewrite.specs.Substituting.{is_variable_alone}
use Rattle.reductions.specs.declared.gathering.Gathering.{Gathering}
use Rattle.reductions.specs.declared.gathering.Gathering.TheVariants.{Adds, Takes, Greatest, Least}

abbrev pub two : Expression → Expression → Expressions
two a b = expression a (expression b no_expressions)

-- what each turn of the loop stores in x: `x + e`, `x - e`, MAX and MIN of x and e, or turned round
abbrev pub in_turn : Gathering → Expression → Expression → Expression
in_turn (Adds false) x e = Binary Add x e
in_turn (Adds true) x e = Binary Add e x
in_turn Takes x e = Binary Sub x e
in_turn (Greatest false) x e = Apply Max (two x e)
in_turn (Greatest true) x e = Apply Max (two e x)
in_turn (Least false) x e = Apply Min (two x e)
in_turn (Least true) x e = Apply Min (two e x)

-- and of all values of e, in the array f
abbrev pub of_all : Gathering → Expression → Expression → Expression
of_all (Adds turned) x f = Binary Add x (Reduce Sum f)
of_all Takes x f = Binary Sub x (Reduce Sum f)
of_all (Greatest turned) x f = Apply Max (two x (Reduce MaxVal f))
of_all (Least turned) x f = Apply Min (two x (Reduce MinVal f))

-- the function that gathers them
abbrev pub gatherer : Gathering → Red
gatherer (Adds turned) = Sum
gatherer Takes = Sum
gatherer (Greatest turned) = MaxVal
gatherer (Least turned) = MinVal

-- ---- the loop

-- its variable and trip, and x, e and how e is gathered in x
pub record Loop : Type 0 where
  pub variable : List ℕ
  pub trip : Expression
  pub left : Reference
  pub operand : Expression
  pub how : Gathering

-- lines and marks are free
pub record Lines : Type 0 where
  pub loop_line : ℕ
  pub line : ℕ
  pub mark : Option Mark

abbrev pub loop_of : Lines → Loop → Statement
loop_of y l = Do y.loop_line l.variable (Number (pos 1)) l.trip (Number (pos 1))
    (statement (Assignment y.line y.mark l.left (in_turn l.how (named l.left) l.operand)) no_statements)

-- ---- the statement, by an array of e's values

abbrev pub form_of : Lines → Loop → Expression → Statement
form_of y l f = Assignment y.line y.mark l.left (of_all l.how (named l.left) f)

-- with the test of the trip round it
abbrev pub tested : Lines → Loop → Statement → Statement
tested y l c = If y.loop_line (arm (Binary Ge l.trip (Number (pos 1))) (statement c no_statements) no_arms)
    no_statements

-- `(/ (e, i = 1, t) /)`
abbrev pub listed : List ℕ → Expression → Expression → Expression
listed i t e = Constructor (expression e no_expressions) (loop i (Number (pos 1)) t no_loops)

-- a subscript that is the variable by itself
abbrev pub is_variable : List ℕ → Subscript → Bool
is_variable i (Only e) = is_variable_alone i e
is_variable i (Section a b c) = false

-- the section `1:t` stands for it
abbrev pub in_section : List ℕ → Expression → Subscript → Subscript
in_section i t p = if is_variable i p then Section (Number (pos 1)) t (Number (pos 1)) else p

abbrev pub sectioned : List ℕ → Expression → Subscripts → Subscripts
sectioned i t no_subscripts = no_subscripts
sectioned i t (subscript p ps) = subscript (in_section i t p) (sectioned i t ps)

abbrev pub section_of : List ℕ → Expression → Expression → Expression
section_of i t (Named x ps) = Named x (sectioned i t ps)
section_of i t e = e
