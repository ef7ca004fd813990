-- The ranges of numbers: 128 bits in an expression, those of INTEGER in a store.
use Rattle.std.specs.Prelude.{◌≡◌, false, Ok, Option, ℕ, List, IsTrue}
use Rattle.tree.specs.Operators.{fits}
use Rattle.tree.specs.Plain.{Expression, Number, Logic, Named, Unary, Binary, Apply, Constructor, Spread, Transpose}
use Rattle.tree.specs.Plain.{Reshape, Reduce, Expressions, no_expressions, expression, Subscript, Only, Section}
use Rattle.tree.specs.Plain.{Subscripts, no_subscripts, subscript, Loops, no_loops, loop, Program}
use Rattle.tree.specs.declared.ops.Value.{Value}
use Rattle.meaning.specs.Store.{Store, Cell, opening_store}
use Rattle.meaning.specs.Value.{value_of, is_in_range}
use Rattle.meaning.specs.Run.{run}
use Rattle.meaning.specs.Dialect.{Dialect}

-- each literal of an expression is within 128 bits
abbrev mutual
  pub LiteralsFit : Expression → Type 0
  LiteralsFit (Number n) = IsTrue (fits 127 n)
  LiteralsFit (Logic b) = Unit {0}
  LiteralsFit (Named x ps) = LiteralsFitInSubscripts ps
  LiteralsFit (Unary o a) = LiteralsFit a
  LiteralsFit (Binary o a b) = LiteralsFit a × LiteralsFit b
  LiteralsFit (Apply f es) = LiteralsFitInEach es
  LiteralsFit (Constructor es ls) = LiteralsFitInEach es × LiteralsFitInLoops ls
  LiteralsFit (Spread a k e) = LiteralsFit a × LiteralsFit e
  LiteralsFit (Transpose a) = LiteralsFit a
  LiteralsFit (Reshape a es) = LiteralsFit a × LiteralsFitInEach es
  LiteralsFit (Reduce r a) = LiteralsFit a

  pub LiteralsFitInEach : Expressions → Type 0
  LiteralsFitInEach no_expressions = Unit {0}
  LiteralsFitInEach (expression e es) = LiteralsFit e × LiteralsFitInEach es

  pub LiteralsFitInSubscripts : Subscripts → Type 0
  LiteralsFitInSubscripts no_subscripts = Unit {0}
  LiteralsFitInSubscripts (subscript p ps) = LiteralsFitInSubscript p × LiteralsFitInSubscripts ps

  pub LiteralsFitInSubscript : Subscript → Type 0
  LiteralsFitInSubscript (Only e) = LiteralsFit e
  LiteralsFitInSubscript (Section a b c) = LiteralsFit a × LiteralsFit b × LiteralsFit c

  pub LiteralsFitInLoops : Loops → Type 0
  LiteralsFitInLoops no_loops = Unit {0}
  LiteralsFitInLoops (loop x a b ls) = LiteralsFit a × LiteralsFit b × LiteralsFitInLoops ls

-- each number that the store holds is -2 ^ bits to 2 ^ bits - 1
abbrev pub HoldsInRange : ℕ → Store → Type 0
HoldsInRange bits s = (c : Cell) → IsTrue (is_in_range bits (s.held c))

-- An expression gives only numbers within 128 bits, where its literals and the store have only such
abbrev pub ValuesFit : Type 0
ValuesFit = (lang : Dialect) (e : Expression) (s : Store) (v : Value)
    → LiteralsFit e → HoldsInRange 127 s → value_of lang e s ≡ Ok v → IsTrue (is_in_range 127 v)

-- at each end of a run its store holds only numbers in the range of INTEGER
abbrev pub RunKeepsRange : Type 0
RunKeepsRange = (lang : Dialect) (limit : Option ℕ) (p : Program) (input : List ℕ)
    → HoldsInRange lang.bits (run lang limit p input).store

-- and has the cells of the opening store, where none are allocated
abbrev pub RunKeepsCells : Type 0
RunKeepsCells = (lang : Dialect) (limit : Option ℕ) (p : Program) (input : List ℕ) (x : List ℕ) → lang.arrays ≡ false
    → (run lang limit p input).store.bounds x ≡ (opening_store p).bounds x
