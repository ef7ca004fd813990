-- The program in which each loop that only gathers is one statement.
use Rattle.std.specs.Prelude.{ℕ, ◌-◌, Bool, not, ◌||◌, Option, None, Some, if◌then◌else◌, List, [], ◌∷◌, ◌++◌}
use Rattle.std.specs.List.{filter}
use Rattle.tree.specs.Plain.{Expression, Reduce, Statement, Assignment, Where, If, Do, Label, GoTo, Stop, Read, Print}
use Rattle.tree.specs.Plain.{Allocate, Deallocate, Arms, no_arms, arm, Block, no_statements, statement, Declaration}
use Rattle.tree.specs.Plain.{Program}
use Rattle.tree.specs.View.{Tested}
use Rattle.tree.specs.declared.functions.Red.{Red}
use Rattle.tree.specs.declared.stmts.Mark.{Mark}
use Rattle.meaning.specs.Names.{is_among}
use Rattle.meaning.specs.Reads.{names_in_block}
use Rattle.meaning.specs.Value.{named}
use Rattle.reductions.specs.Finding.{Context, FoundLoop, context_of, is_positive, is_source, may_be_section, reducible}
use Rattle.reductions.specs.Gathering.{Lines, form_of, gatherer, listed, of_all, section_of, tested}

-- ---- a loop

-- one level further out
abbrev pub outward : Mark → Mark
outward m = record { nest = m.nest; stmt = m.stmt; level = m.level - 1 }

-- the lines of what stands for it
abbrev pub lines_of : FoundLoop → Lines
lines_of f = record { loop_line = f.loop_line; line = f.line; mark = Some (outward f.mark) }

-- the values of e: a section where e is a reference with the variable as its one subscript that has it
abbrev pub values_of : FoundLoop → Expression
values_of f =
    if may_be_section f.loop.variable f.loop.operand then section_of f.loop.variable f.loop.trip f.loop.operand
    else listed f.loop.variable f.loop.trip f.loop.operand

-- all of them gathered
abbrev pub gathered_values : FoundLoop → Expression
gathered_values f = Reduce (gatherer f.loop.how) (values_of f)

abbrev pub right_side : FoundLoop → Expression
right_side f = of_all f.loop.how (named f.loop.left) (values_of f)

abbrev pub assignment : FoundLoop → Statement
assignment f = form_of (lines_of f) f.loop (values_of f)

-- under the test of the trip, unless that is a positive literal
abbrev pub form : FoundLoop → Statement
form f = if is_positive f.loop.trip then assignment f else tested (lines_of f) f.loop (assignment f)

abbrev pub reduction : FoundLoop → Mark × Red
reduction f = (outward f.mark, gatherer f.loop.how)

abbrev pub reduction_of : Option FoundLoop → List (Mark × Red)
reduction_of None = []
reduction_of (Some f) = reduction f ∷ []

-- ---- statements and blocks: each loop is looked at as it stands in the given program

module _ (w : Context) where
  -- what stands for a loop, or the loop
  abbrev pub formed_or : Option FoundLoop → Statement → Statement
  formed_or None c = c
  formed_or (Some f) c = form f

  abbrev mutual
    pub reduced : Statement → Statement
    reduced (If line arms other) = If line (reduced_arms arms) (reduced_block other)
    reduced (Do line x a b c body) =
        formed_or (reducible w (Do line x a b c body)) (Do line x a b c (reduced_block body))
    reduced (Assignment line mark left right) = Assignment line mark left right
    reduced (Where line mark m left right) = Where line mark m left right
    reduced (Label n) = Label n
    reduced (GoTo line n) = GoTo line n
    reduced (Stop line) = Stop line
    reduced (Read line is) = Read line is
    reduced (Print line is) = Print line is
    reduced (Allocate line x es) = Allocate line x es
    reduced (Deallocate line x) = Deallocate line x

    pub reduced_arms : Arms → Arms
    reduced_arms no_arms = no_arms
    reduced_arms (arm test body arms) = arm test (reduced_block body) (reduced_arms arms)

    pub reduced_block : Block → Block
    reduced_block no_statements = no_statements
    reduced_block (statement c cs) = statement (reduced c) (reduced_block cs)

  -- a loop with its body reduced
  abbrev pub with_body : Statement → Statement
  with_body (Do line x a b c body) = Do line x a b c (reduced_block body)
  with_body c = c

  abbrev pub reduced_arm : Tested → Tested
  reduced_arm t = record { test = t.test; body = reduced_block t.body }

  -- that of a form, or those in the loop's body
  abbrev pub done_or : Option FoundLoop → List (Mark × Red) → List (Mark × Red)
  done_or None ds = ds
  done_or (Some f) ds = reduction f ∷ []

  -- the marks of the forms, with their functions, in the order of the text
  abbrev mutual
    pub done_in : Statement → List (Mark × Red)
    done_in (If line arms other) = done_in_arms arms ++ done_in_block other
    done_in (Do line x a b c body) = done_or (reducible w (Do line x a b c body)) (done_in_block body)
    done_in (Assignment line mark left right) = []
    done_in (Where line mark m left right) = []
    done_in (Label n) = []
    done_in (GoTo line n) = []
    done_in (Stop line) = []
    done_in (Read line is) = []
    done_in (Print line is) = []
    done_in (Allocate line x es) = []
    done_in (Deallocate line x) = []

    pub done_in_arms : Arms → List (Mark × Red)
    done_in_arms no_arms = []
    done_in_arms (arm test body arms) = done_in_block body ++ done_in_arms arms

    pub done_in_block : Block → List (Mark × Red)
    done_in_block no_statements = []
    done_in_block (statement c cs) = done_in c ++ done_in_block cs

  abbrev pub done_in_arm : Tested → List (Mark × Red)
  done_in_arm t = done_in_block t.body

  -- of a loop's body
  abbrev pub done_within : Statement → List (Mark × Red)
  done_within (Do line x a b c body) = done_in_block body
  done_within c = []

-- ---- programs

-- a declaration stays, unless its name is made and stood in the old block alone
abbrev pub stays : Block → Block → List ℕ → Bool
stays old new x = is_source x || (is_among (names_in_block new) x || not (is_among (names_in_block old) x))

abbrev pub declarations_left : Block → Block → List Declaration → List Declaration
declarations_left old new ds = filter (λ (d : Declaration). stays old new d.name) ds

abbrev pub reduced_program : Program → Program
reduced_program p = record {
  name = p.name;
  declarations = declarations_left p.body (reduced_block (context_of p) p.body) p.declarations;
  body = reduced_block (context_of p) p.body;
}
