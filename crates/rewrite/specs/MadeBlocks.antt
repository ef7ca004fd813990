-- What a rule makes of the parts of an expression, of items of READ and PRINT, of statements and of blocks.
use Rattle.tree.specs.Plain.{Expression, Number, Logic, Named, Unary, Binary, Apply, Constructor, Spread, Transpose}
use Rattle.tree.specs.Plain.{Reshape, Reduce, Item, Single, Constant, ImpliedDo, Items, no_items, item, Statement}
use Rattle.tree.specs.Plain.{Assignment, Where, If, Do, Label, GoTo, Stop, Read, Print, Allocate, Deallocate, Arms}
use Rattle.tree.specs.Plain.{no_arms, arm, Block, no_statements, statement}
use Rattle.tree.specs.View.{ConstructorLoop, Tested}
use Rattle.rewrite.specs.Making.{Making, made, made_expressions, made_left, made_loops, made_subscripts}

module _ (m : Making) where
  -- an expression whose parts have become what they become
  abbrev pub made_inside : Expression → Expression
  made_inside (Number n) = Number n
  made_inside (Logic b) = Logic b
  made_inside (Named x ps) = Named x (made_subscripts m ps)
  made_inside (Unary o a) = Unary o (made m a)
  made_inside (Binary o a b) = Binary o (made m a) (made m b)
  made_inside (Apply f es) = Apply f (made_expressions m es)
  made_inside (Constructor es ls) = Constructor (made_expressions m es) (made_loops m ls)
  made_inside (Spread a d n) = Spread (made m a) d (made m n)
  made_inside (Transpose a) = Transpose (made m a)
  made_inside (Reshape a es) = Reshape (made m a) (made_expressions m es)
  made_inside (Reduce r a) = Reduce r (made m a)

  abbrev pub made_loop : ConstructorLoop → ConstructorLoop
  made_loop l = record { variable = l.variable; first = made m l.first; last = made m l.last }

  -- an input item keeps its name
  abbrev pub made_variable : Expression → Item
  made_variable (Named x ps) = Single (Named x (made_subscripts m ps))
  made_variable e = Single e

  abbrev mutual
    pub made_input : Item → Item
    made_input (Single e) = made_variable e
    made_input (Constant t) = Constant t
    made_input (ImpliedDo is x a b c) = ImpliedDo (made_inputs is) x (made m a) (made m b) (made m c)

    pub made_inputs : Items → Items
    made_inputs no_items = no_items
    made_inputs (item i is) = item (made_input i) (made_inputs is)

  abbrev mutual
    pub made_output : Item → Item
    made_output (Single e) = Single (made m e)
    made_output (Constant t) = Constant t
    made_output (ImpliedDo is x a b c) = ImpliedDo (made_outputs is) x (made m a) (made m b) (made m c)

    pub made_outputs : Items → Items
    made_outputs no_items = no_items
    made_outputs (item i is) = item (made_output i) (made_outputs is)

  abbrev mutual
    pub made_statement : Statement → Statement
    made_statement (Assignment line mark left right) = Assignment line mark (made_left m left) (made m right)
    made_statement (Where line mark mask left right) = Where line mark (made m mask) (made_left m left) (made m right)
    made_statement (If line arms other) = If line (made_arms arms) (made_block other)
    made_statement (Do line x a b c body) = Do line x (made m a) (made m b) (made m c) (made_block body)
    made_statement (Label n) = Label n
    made_statement (GoTo line n) = GoTo line n
    made_statement (Stop line) = Stop line
    made_statement (Read line is) = Read line (made_inputs is)
    made_statement (Print line is) = Print line (made_outputs is)
    made_statement (Allocate line x es) = Allocate line x (made_expressions m es)
    made_statement (Deallocate line x) = Deallocate line x

    pub made_arms : Arms → Arms
    made_arms no_arms = no_arms
    made_arms (arm test body arms) = arm (made m test) (made_block body) (made_arms arms)

    pub made_block : Block → Block
    made_block no_statements = no_statements
    made_block (statement c cs) = statement (made_statement c) (made_block cs)

  abbrev pub made_arm : Tested → Tested
  made_arm t = record { test = made m t.test; body = made_block t.body }
