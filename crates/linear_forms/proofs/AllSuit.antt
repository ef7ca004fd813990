-- A rule that suits each node suits each block.
use Rattle.std.proofs.Common.{refl}
use Rattle.tree.specs.Plain.{Expression, Number, Logic, Named, Unary, Binary, Apply, Constructor, Spread, Transpose, Reshape, Reduce, Expressions, no_expressions, expression, Subscripts, no_subscripts, subscript, Subscript, Only, Section, Loops, no_loops, loop, Reference}
use Rattle.tree.specs.Plain.{Item, Single, Constant, ImpliedDo, Items, no_items, item, Statement, Assignment, Where, If, Do, Label, GoTo, Stop, Read, Print, Allocate, Deallocate, Arms, no_arms, arm, Block, no_statements, statement}
use Rattle.rewrite.specs.Making.{Making}
use Rattle.rewrite.specs.Suits.{Suits, SuitsEach, SuitsSubscripts, SuitsSubscript, SuitsLoops, SuitsLeft, SuitsVariable}
use Rattle.rewrite.specs.Suits.{SuitsInput, SuitsInputs, SuitsOutput, SuitsOutputs, SuitsStatement, SuitsArms}
use Rattle.rewrite.specs.Suits.{SuitsBlock}
use Rattle.linear_forms.specs.CanonicalLaws.{all_suit}

module _ (m : Making) where
  mutual
    suits : (e : Expression) → Suits m all_suit e
    suits (Number n) = refl
    suits (Logic b) = refl
    suits (Named x ps) = (refl, suits_subscripts ps)
    suits (Unary o a) = (refl, suits a)
    suits (Binary o a b) = (refl, suits a, suits b)
    suits (Apply f es) = (refl, suits_each es)
    suits (Constructor es ls) = (refl, suits_each es, suits_loops ls)
    suits (Spread a d n) = (refl, suits a, suits n)
    suits (Transpose a) = (refl, suits a)
    suits (Reshape a es) = (refl, suits a, suits_each es)
    suits (Reduce r a) = (refl, suits a)

    suits_each : (es : Expressions) → SuitsEach m all_suit es
    suits_each no_expressions = tt
    suits_each (expression e es) = (suits e, suits_each es)

    suits_subscripts : (ps : Subscripts) → SuitsSubscripts m all_suit ps
    suits_subscripts no_subscripts = tt
    suits_subscripts (subscript p ps) = (suits_subscript p, suits_subscripts ps)

    suits_subscript : (p : Subscript) → SuitsSubscript m all_suit p
    suits_subscript (Only e) = suits e
    suits_subscript (Section a b c) = (suits a, suits b, suits c)

    suits_loops : (ls : Loops) → SuitsLoops m all_suit ls
    suits_loops no_loops = tt
    suits_loops (loop x a b ls) = (suits a, suits b, suits_loops ls)

  suits_left : (r : Reference) → SuitsLeft m all_suit r
  suits_left r = (refl, suits_subscripts r.subscripts)

  suits_variable : (e : Expression) → SuitsVariable m all_suit e
  suits_variable (Named x ps) = (refl, suits_subscripts ps)
  suits_variable (Number n) = tt
  suits_variable (Logic b) = tt
  suits_variable (Unary o a) = tt
  suits_variable (Binary o a b) = tt
  suits_variable (Apply f es) = tt
  suits_variable (Constructor es ls) = tt
  suits_variable (Spread a d n) = tt
  suits_variable (Transpose a) = tt
  suits_variable (Reshape a es) = tt
  suits_variable (Reduce r a) = tt

  mutual
    suits_input : (i : Item) → SuitsInput m all_suit i
    suits_input (Single e) = suits_variable e
    suits_input (Constant t) = tt
    suits_input (ImpliedDo is x a b c) = ((refl, suits a, suits b, suits c), suits_inputs is)

    suits_inputs : (is : Items) → SuitsInputs m all_suit is
    suits_inputs no_items = tt
    suits_inputs (item i is) = (suits_input i, suits_inputs is)

  mutual
    suits_output : (i : Item) → SuitsOutput m all_suit i
    suits_output (Single e) = suits e
    suits_output (Constant t) = tt
    suits_output (ImpliedDo is x a b c) = ((refl, suits a, suits b, suits c), suits_outputs is)

    suits_outputs : (is : Items) → SuitsOutputs m all_suit is
    suits_outputs no_items = tt
    suits_outputs (item i is) = (suits_output i, suits_outputs is)

  mutual
    suits_statement : (s : Statement) → SuitsStatement m all_suit s
    suits_statement (Assignment line mark left right) = (suits_left left, suits right)
    suits_statement (Where line mark mask left right) = (suits_left left, suits right, suits mask)
    suits_statement (If line arms other) = (suits_arms arms, suits_block other)
    suits_statement (Do line x a b c body) = ((refl, suits a, suits b, suits c), suits_block body)
    suits_statement (Label n) = tt
    suits_statement (GoTo line n) = tt
    suits_statement (Stop line) = tt
    suits_statement (Read line is) = suits_inputs is
    suits_statement (Print line is) = suits_outputs is
    suits_statement (Allocate line x es) = suits_each es
    suits_statement (Deallocate line x) = tt

    suits_arms : (arms : Arms) → SuitsArms m all_suit arms
    suits_arms no_arms = tt
    suits_arms (arm test body arms) = (suits test, suits_block body, suits_arms arms)

    pub suits_block : (b : Block) → SuitsBlock m all_suit b
    suits_block no_statements = tt
    suits_block (statement c cs) = (suits_statement c, suits_block cs)
