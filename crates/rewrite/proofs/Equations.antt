-- What is made of a list, and the plain trees of nodes.
use Rattle.std.proofs.Common.{◌≡◌, refl, ap, List, [], ◌∷◌, map}
use Rattle.tree.proofs.Equations.{expression_equations, item_equations}
use Rattle.tree.specs.Plain.{Expression, Number, Logic, Named, Unary, Binary, Apply, Constructor, Spread, Transpose, Reshape, Reduce, expression, expressions, Subscript, subscript, subscripts, loop, Item, item, items, Statement, statement, block, arm}
use Rattle.tree.specs.View.{ConstructorLoop, constructor_loops, Tested, arms}
use Rattle.rewrite.specs.Making.{Making, made, made_expressions, made_subscript, made_subscripts, made_loops}
use Rattle.rewrite.specs.MadeBlocks.{made_inside, made_loop, made_input, made_inputs, made_output, made_outputs}
use Rattle.rewrite.specs.MadeBlocks.{made_statement, made_arm, made_arms, made_block}

-- of a node, and of a list, each one by itself
module _ (m : Making) where
  pub made_is : (e : Expression) → made m e ≡ m.expression e (made_inside m e)
  made_is (Number n) = refl
  made_is (Logic b) = refl
  made_is (Named x ps) = refl
  made_is (Unary o a) = refl
  made_is (Binary o a b) = refl
  made_is (Apply f es) = refl
  made_is (Constructor es ls) = refl
  made_is (Spread a d n) = refl
  made_is (Transpose a) = refl
  made_is (Reshape a es) = refl
  made_is (Reduce r a) = refl

  pub made_each : (es : List Expression) → expressions (map (made m) es) ≡ made_expressions m (expressions es)
  made_each [] = refl
  made_each (e ∷ es) = ap (expression (made m e)) (made_each es)

  pub made_each_subscript : (ps : List Subscript) → subscripts (map (made_subscript m) ps) ≡ made_subscripts m (subscripts ps)
  made_each_subscript [] = refl
  made_each_subscript (p ∷ ps) = ap (subscript (made_subscript m p)) (made_each_subscript ps)

  pub made_each_loop : (ls : List ConstructorLoop) → constructor_loops (map (made_loop m) ls) ≡ made_loops m (constructor_loops ls)
  made_each_loop [] = refl
  made_each_loop (l ∷ ls) = ap (loop l.variable (made m l.first) (made m l.last)) (made_each_loop ls)

  pub made_each_input : (is : List Item) → items (map (made_input m) is) ≡ made_inputs m (items is)
  made_each_input [] = refl
  made_each_input (i ∷ is) = ap (item (made_input m i)) (made_each_input is)

  pub made_each_output : (is : List Item) → items (map (made_output m) is) ≡ made_outputs m (items is)
  made_each_output [] = refl
  made_each_output (i ∷ is) = ap (item (made_output m i)) (made_each_output is)

  pub made_each_arm : (ts : List Tested) → arms (map (made_arm m) ts) ≡ made_arms m (arms ts)
  made_each_arm [] = refl
  made_each_arm (t ∷ ts) = ap (arm (made m t.test) (made_block m t.body)) (made_each_arm ts)

  pub made_each_statement : (cs : List Statement) → block (map (made_statement m) cs) ≡ made_block m (block cs)
  made_each_statement [] = refl
  made_each_statement (c ∷ cs) = ap (statement (made_statement m c)) (made_each_statement cs)

pub ruleset input_equations = (expression_equations, item_equations)

pub ruleset output_equations = (item_equations)
