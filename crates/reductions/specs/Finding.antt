-- Which loops of a program only gather.
use Rattle.std.specs.Prelude.{ℕ, ℤ, pos, int_le, nat_eq, nat_le, Bool, true, false, not, ◌&&◌, ◌||◌, if◌then◌else◌}
use Rattle.std.specs.Prelude.{Option, None, Some, is_some, List, length}
use Rattle.std.specs.List.{list_any}
use Rattle.std.specs.Ordering.{int_eq}
use Rattle.std.specs.Option.{option_map}
use Rattle.std.specs.Str.{bytes_eq}
use Rattle.tree.specs.Functions.{name_of_reduction}
use Rattle.tree.specs.Plain.{Expression, Number, Named, Binary, Apply, Expressions, no_expressions, expression}
use Rattle.tree.specs.Plain.{Subscript, Only, Section, Subscripts, no_subscripts, subscript, Reference, Statement}
use Rattle.tree.specs.Plain.{Assignment, Do, Block, no_statements, statement, Extent, Given, Later, Declaration}
use Rattle.tree.specs.Plain.{Program}
use Rattle.tree.specs.declared.functions.Fun.{Fun}
use Rattle.tree.specs.declared.functions.Fun.TheVariants.{Max, Min}
use Rattle.tree.specs.declared.ops.Op.{Op}
use Rattle.tree.specs.declared.ops.Op.TheVariants.{Add, Sub}
use Rattle.tree.specs.declared.stmts.Mark.{Mark}
use Rattle.meaning.specs.Names.{is_among}
use Rattle.meaning.specs.Reads.{names_in}
use Rattle.meaning.specs.Typed.{declared}
use Rattle.meaning.specs.Value.{is_scalar, named}
use Rattle.reductions.specs.declared.gathering.Gathering.{Gathering}
use Rattle.reductions.specs.declared.gathering.Gathering.TheVariants.{Adds, Takes, Greatest, Least}
use Rattle.reductions.specs.Gathering.{Loop, gatherer, is_variable}
use Rattle.reductions.specs.Reading.{read_in_block}
use Rattle.reductions.specs.Same.{is_reference}

-- ---- right sides

-- how, and what is gathered
pub record Operand : Type 0 where
  pub how : Gathering
  pub value : Expression

-- of two operands the one beside x, which stands behind it or before it
abbrev pub beside : Reference → Gathering → Gathering → Expression → Expression → Option Operand
beside x behind before a b =
    if is_reference x a then Some (record { how = behind; value = b })
    else if is_reference x b then Some (record { how = before; value = a })
    else None

abbrev pub taken_from : Reference → Expression → Expression → Option Operand
taken_from x a b = if is_reference x a then Some (record { how = Takes; value = b }) else None

abbrev pub gathered_by : Reference → Op → Expression → Expression → Option Operand
gathered_by x Add a b = beside x (Adds false) (Adds true) a b
gathered_by x Sub a b = taken_from x a b
gathered_by x o a b = None

abbrev pub of_two : Reference → Gathering → Gathering → Expressions → Option Operand
of_two x behind before (expression a (expression b no_expressions)) = beside x behind before a b
of_two x behind before es = None

abbrev pub gathered_in_call : Reference → Fun → Expressions → Option Operand
gathered_in_call x Max es = of_two x (Greatest false) (Greatest true) es
gathered_in_call x Min es = of_two x (Least false) (Least true) es
gathered_in_call x f es = None

-- `x + e`, `e + x`, `x - e`, MAX and MIN of x and e
abbrev pub gathered : Reference → Expression → Option Operand
gathered x (Binary o a b) = gathered_by x o a b
gathered x (Apply f es) = gathered_in_call x f es
gathered x e = None

-- ---- loops

-- a loop that gathers, its lines, and the mark of its assignment
pub record FoundLoop : Type 0 where
  pub loop_line : ℕ
  pub line : ℕ
  pub mark : Mark
  pub loop : Loop

abbrev pub is_one : Expression → Bool
is_one (Number n) = int_eq n (pos 1)
is_one e = false

-- a marked assignment
pub record Marked : Type 0 where
  pub line : ℕ
  pub mark : Mark
  pub left : Reference
  pub right : Expression

abbrev pub with_mark : ℕ → Reference → Expression → Mark → Marked
with_mark line x right mark = record { line = line; mark = mark; left = x; right = right }

abbrev pub marked_assignment : Statement → Option Marked
marked_assignment (Assignment line mark x right) = option_map (with_mark line x right) mark
marked_assignment c = None

-- the block is one of them
abbrev pub single : Block → Option Marked
single (statement c no_statements) = marked_assignment c
single b = None

abbrev pub found_with : ℕ → List ℕ → Expression → Marked → Operand → FoundLoop
found_with loop_line i t a g = record {
  loop_line = loop_line;
  line = a.line;
  mark = a.mark;
  loop = record { variable = i; trip = t; left = a.left; operand = g.value; how = g.how };
}

abbrev pub found_in : ℕ → List ℕ → Expression → Block → Option FoundLoop
found_in loop_line i t body =
    elim (single body) [ None ↦ None | Some a ↦ option_map (found_with loop_line i t a) (gathered a.left a.right) ]

-- from 1 by 1
abbrev pub loop_in : Statement → Option FoundLoop
loop_in (Do loop_line i a t c body) = if is_one a && is_one c then found_in loop_line i t body else None
loop_in c = None

-- ---- what a program has beside the loop

pub record Context : Type 0 where
  pub declarations : List Declaration
  pub title : Option (List ℕ)
  -- whether a name is read outside the bodies of its own loops
  pub reads : List ℕ → Bool

abbrev pub context_by : List Declaration → Option (List ℕ) → Block → Context
context_by ds title body = record { declarations = ds; title = title; reads = is_among (read_in_block body) }

abbrev pub context_of : Program → Context
context_of p = context_by p.declarations p.name p.body

abbrev pub bounds_given : Extent → Option (List (ℤ × ℤ))
bounds_given (Given bs) = Some bs
bounds_given (Later n) = None

-- by the declarations; an allocatable array has none yet
abbrev pub bounds_by : List Declaration → List ℕ → Option (List (ℤ × ℤ))
bounds_by ds x = elim (declared ds x) [ None ↦ None | Some d ↦ bounds_given d.extent ]

abbrev pub is_title : Option (List ℕ) → List ℕ → Bool
is_title None x = false
is_title (Some y) x = bytes_eq y x

-- a name that FORTRAN 77 has too
abbrev pub is_source : List ℕ → Bool
is_source x = nat_le (length x) 6 && not (list_any (nat_eq 95) x)

-- a name stands in an expression, in a subscript, in one of some subscripts
abbrev pub stands_in : List ℕ → Expression → Bool
stands_in x e = is_among (names_in e) x

abbrev pub stands_in_subscript : List ℕ → Subscript → Bool
stands_in_subscript x (Only e) = stands_in x e
stands_in_subscript x (Section a b c) = stands_in x a || (stands_in x b || stands_in x c)

abbrev pub stands_in_subscripts : List ℕ → Subscripts → Bool
stands_in_subscripts x no_subscripts = false
stands_in_subscripts x (subscript p ps) = stands_in_subscript x p || stands_in_subscripts x ps

-- x doesn't stand in its subscripts, in the trip or in e; the variable not in x's subscripts or in the trip
abbrev pub is_apart : Loop → Bool
is_apart l =
    not (stands_in_subscripts l.left.name l.left.subscripts)
    && (not (stands_in_subscripts l.variable l.left.subscripts)
    && (not (stands_in l.left.name l.trip)
    && (not (stands_in l.variable l.trip) && not (stands_in l.left.name l.operand))))

module _ (w : Context) where
  -- a variable or the program hides a function of its name
  abbrev pub is_hidden : List ℕ → Bool
  is_hidden x = is_some (declared w.declarations x) || is_title w.title x

  -- x and e are scalars, by the declarations
  abbrev pub has_scalars : Loop → Bool
  has_scalars l = is_scalar (named l.left) (bounds_by w.declarations) && is_scalar l.operand (bounds_by w.declarations)

  -- the variable is made, and is read nowhere else
  abbrev pub has_own_variable : Loop → Bool
  has_own_variable l = not (is_source l.variable) && not (w.reads l.variable)

  abbrev pub is_reducible : Loop → Bool
  is_reducible l =
      has_own_variable l && (not (is_hidden (name_of_reduction (gatherer l.how))) && (has_scalars l && is_apart l))

  -- a statement that is such a loop
  abbrev pub reducible : Statement → Option FoundLoop
  reducible c = elim (loop_in c) [ None ↦ None | Some f ↦ if is_reducible f.loop then Some f else None ]

-- ---- arrays of e's values

-- one subscript is the variable, and no other has it
abbrev pub one_is_variable : List ℕ → Subscripts → Bool
one_is_variable i no_subscripts = false
one_is_variable i (subscript p ps) =
    if is_variable i p then not (stands_in_subscripts i ps)
    else not (stands_in_subscript i p) && one_is_variable i ps

abbrev pub may_be_section : List ℕ → Expression → Bool
may_be_section i (Named x ps) = one_is_variable i ps
may_be_section i e = false

abbrev pub is_positive : Expression → Bool
is_positive (Number n) = int_le (pos 1) n
is_positive e = false
