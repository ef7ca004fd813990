-- What a rule suits in a tree.
use Rattle.std.specs.Prelude.{Bool, IsTrue, List, ℕ}
use Rattle.tree.specs.Plain.{Expression, Number, Logic, Named, Unary, Binary, Apply, Constructor, Spread, Transpose}
use Rattle.tree.specs.Plain.{Reshape, Reduce, Expressions, no_expressions, expression, Subscript, Only, Section}
use Rattle.tree.specs.Plain.{Subscripts, no_subscripts, subscript, Loops, no_loops, loop, Reference, Item, Single}
use Rattle.tree.specs.Plain.{Constant, ImpliedDo, Items, no_items, item, Statement, Assignment, Where, If, Do, Label}
use Rattle.tree.specs.Plain.{GoTo, Stop, Read, Print, Allocate, Deallocate, Arms, no_arms, arm, Block, no_statements}
use Rattle.tree.specs.Plain.{statement}
use Rattle.rewrite.specs.Making.{Making, made, made_expressions, made_loops, made_parts, made_subscripts}

-- the tests of what a rule suits: an expression, a left side, and a name that is the variable of a DO or of an implied
-- DO list or that stands in an input list
pub record Suiting : Type 0 where
  pub expression : Expression → Bool
  pub left : Reference → Bool
  pub variable : List ℕ → Bool

module _ (m : Making) where
  module _ (suits : Suiting) where
    -- each node, as it is when its parts have been made, passes the tests
    abbrev mutual
      pub Suits : Expression → Type 0
      Suits (Number n) = IsTrue (suits.expression (Number n))
      Suits (Logic b) = IsTrue (suits.expression (Logic b))
      Suits (Named x ps) = IsTrue (suits.expression (Named x (made_subscripts m ps))) × SuitsSubscripts ps
      Suits (Unary o a) = IsTrue (suits.expression (Unary o (made m a))) × Suits a
      Suits (Binary o a b) = IsTrue (suits.expression (Binary o (made m a) (made m b))) × Suits a × Suits b
      Suits (Apply f es) = IsTrue (suits.expression (Apply f (made_expressions m es))) × SuitsEach es
      Suits (Constructor es ls) =
          IsTrue (suits.expression (Constructor (made_expressions m es) (made_loops m ls)))
          × SuitsEach es × SuitsLoops ls
      Suits (Spread a d n) = IsTrue (suits.expression (Spread (made m a) d (made m n))) × Suits a × Suits n
      Suits (Transpose a) = IsTrue (suits.expression (Transpose (made m a))) × Suits a
      Suits (Reshape a es) =
          IsTrue (suits.expression (Reshape (made m a) (made_expressions m es))) × Suits a × SuitsEach es
      Suits (Reduce r a) = IsTrue (suits.expression (Reduce r (made m a))) × Suits a

      pub SuitsEach : Expressions → Type 0
      SuitsEach no_expressions = Unit {0}
      SuitsEach (expression e es) = Suits e × SuitsEach es

      pub SuitsSubscripts : Subscripts → Type 0
      SuitsSubscripts no_subscripts = Unit {0}
      SuitsSubscripts (subscript p ps) = SuitsSubscript p × SuitsSubscripts ps

      pub SuitsSubscript : Subscript → Type 0
      SuitsSubscript (Only e) = Suits e
      SuitsSubscript (Section a b c) = Suits a × Suits b × Suits c

      pub SuitsLoops : Loops → Type 0
      SuitsLoops no_loops = Unit {0}
      SuitsLoops (loop x a b ls) = Suits a × Suits b × SuitsLoops ls

    abbrev pub SuitsLeft : Reference → Type 0
    SuitsLeft r = IsTrue (suits.left (made_parts m r)) × SuitsSubscripts r.subscripts

    abbrev pub SuitsLoop : List ℕ → Expression → Expression → Expression → Type 0
    SuitsLoop x a b c = IsTrue (suits.variable x) × Suits a × Suits b × Suits c

    -- an input item that is no variable is left as it is
    abbrev pub SuitsVariable : Expression → Type 0
    SuitsVariable (Named x ps) = IsTrue (suits.variable x) × SuitsSubscripts ps
    SuitsVariable e = Unit {0}

    abbrev mutual
      pub SuitsInput : Item → Type 0
      SuitsInput (Single e) = SuitsVariable e
      SuitsInput (Constant t) = Unit {0}
      SuitsInput (ImpliedDo is x a b c) = SuitsLoop x a b c × SuitsInputs is

      pub SuitsInputs : Items → Type 0
      SuitsInputs no_items = Unit {0}
      SuitsInputs (item i is) = SuitsInput i × SuitsInputs is

    abbrev mutual
      pub SuitsOutput : Item → Type 0
      SuitsOutput (Single e) = Suits e
      SuitsOutput (Constant t) = Unit {0}
      SuitsOutput (ImpliedDo is x a b c) = SuitsLoop x a b c × SuitsOutputs is

      pub SuitsOutputs : Items → Type 0
      SuitsOutputs no_items = Unit {0}
      SuitsOutputs (item i is) = SuitsOutput i × SuitsOutputs is

    abbrev mutual
      pub SuitsStatement : Statement → Type 0
      SuitsStatement (Assignment line mark left right) = SuitsLeft left × Suits right
      SuitsStatement (Where line mark mask left right) = SuitsLeft left × Suits right × Suits mask
      SuitsStatement (If line arms other) = SuitsArms arms × SuitsBlock other
      SuitsStatement (Do line x a b c body) = SuitsLoop x a b c × SuitsBlock body
      SuitsStatement (Label n) = Unit {0}
      SuitsStatement (GoTo line n) = Unit {0}
      SuitsStatement (Stop line) = Unit {0}
      SuitsStatement (Read line is) = SuitsInputs is
      SuitsStatement (Print line is) = SuitsOutputs is
      SuitsStatement (Allocate line x es) = SuitsEach es
      SuitsStatement (Deallocate line x) = Unit {0}

      pub SuitsArms : Arms → Type 0
      SuitsArms no_arms = Unit {0}
      SuitsArms (arm test body arms) = Suits test × SuitsBlock body × SuitsArms arms

      pub SuitsBlock : Block → Type 0
      SuitsBlock no_statements = Unit {0}
      SuitsBlock (statement c cs) = SuitsStatement c × SuitsBlock cs
