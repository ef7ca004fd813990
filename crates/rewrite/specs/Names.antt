-- The names that stand in a tree, and those that a block reads or writes (ISO/IEC 1539:1991, section 14.7.5).
use Rattle.std.specs.Prelude.{ℕ, Bool, true, false, not, List, [], ◌∷◌, ◌++◌, map}
use Rattle.std.specs.Str.{bytes_eq}
use Rattle.std.specs.List.{filter, list_any}
use Rattle.meaning.specs.Names.{is_among}
use Rattle.tree.specs.Plain.{Expression, Number, Logic, Named, Unary, Binary, Apply, Constructor, Spread, Transpose}
use Rattle.tree.specs.Plain.{Reshape, Reduce, Expressions, no_expressions, expression, Subscript, Only, Section}
use Rattle.tree.specs.Plain.{Subscripts, no_subscripts, subscript, Loops, no_loops, loop, Reference, Item, Single}
use Rattle.tree.specs.Plain.{Constant, ImpliedDo, Items, no_items, item, Statement, Assignment, Where, If, Do, Label}
use Rattle.tree.specs.Plain.{GoTo, Stop, Read, Print, Allocate, Deallocate, Arms, no_arms, arm, Block, no_statements}
use Rattle.tree.specs.Plain.{statement}
use Rattle.rewrite.specs.declared.uses.Way.{Way}
use Rattle.rewrite.specs.declared.uses.Way.TheVariants.{Reads, Writes}
use Rattle.rewrite.specs.declared.uses.Use.{Use}

abbrev pub use_of : List ℕ → Way → Use
use_of x w = record { name = x; way = w }

-- ---- how names stand, in the order of the text

-- The variable of a constructor's loop stands for no variable of the program, and isn't listed where its loop names it.
-- In the values under the loop it is listed as any other name that is read, as if it might be the program's variable.
abbrev mutual
  pub uses_in : Expression → List Use
  uses_in (Number n) = []
  uses_in (Logic b) = []
  uses_in (Named x ps) = use_of x Reads ∷ uses_in_subscripts ps
  uses_in (Unary o a) = uses_in a
  uses_in (Binary o a b) = uses_in a ++ uses_in b
  uses_in (Apply f es) = uses_in_expressions es
  uses_in (Constructor es ls) = uses_in_expressions es ++ uses_in_loops ls
  uses_in (Spread a d n) = uses_in a ++ uses_in n
  uses_in (Transpose a) = uses_in a
  uses_in (Reshape a es) = uses_in a ++ uses_in_expressions es
  uses_in (Reduce r a) = uses_in a

  pub uses_in_expressions : Expressions → List Use
  uses_in_expressions no_expressions = []
  uses_in_expressions (expression e es) = uses_in e ++ uses_in_expressions es

  pub uses_in_subscripts : Subscripts → List Use
  uses_in_subscripts no_subscripts = []
  uses_in_subscripts (subscript p ps) = uses_in_subscript p ++ uses_in_subscripts ps

  pub uses_in_subscript : Subscript → List Use
  uses_in_subscript (Only e) = uses_in e
  uses_in_subscript (Section a b c) = uses_in a ++ uses_in b ++ uses_in c

  pub uses_in_loops : Loops → List Use
  uses_in_loops no_loops = []
  uses_in_loops (loop x a b ls) = (uses_in a ++ uses_in b) ++ uses_in_loops ls

-- what is assigned or read into
abbrev pub uses_in_target : Reference → List Use
uses_in_target r = use_of r.name Writes ∷ uses_in_subscripts r.subscripts

-- an input item that is no variable is only read
abbrev pub uses_in_variable : Expression → List Use
uses_in_variable (Named x ps) = use_of x Writes ∷ uses_in_subscripts ps
uses_in_variable e = uses_in e

-- the variable of a DO or of an implied DO list, with its bounds and its step
abbrev pub uses_in_control : List ℕ → Expression → Expression → Expression → List Use
uses_in_control x a b c = use_of x Writes ∷ uses_in a ++ uses_in b ++ uses_in c

abbrev mutual
  pub uses_in_input : Item → List Use
  uses_in_input (Single e) = uses_in_variable e
  uses_in_input (Constant t) = []
  uses_in_input (ImpliedDo is x a b c) = uses_in_inputs is ++ uses_in_control x a b c

  pub uses_in_inputs : Items → List Use
  uses_in_inputs no_items = []
  uses_in_inputs (item i is) = uses_in_input i ++ uses_in_inputs is

abbrev mutual
  pub uses_in_output : Item → List Use
  uses_in_output (Single e) = uses_in e
  uses_in_output (Constant t) = []
  uses_in_output (ImpliedDo is x a b c) = uses_in_outputs is ++ uses_in_control x a b c

  pub uses_in_outputs : Items → List Use
  uses_in_outputs no_items = []
  uses_in_outputs (item i is) = uses_in_output i ++ uses_in_outputs is

abbrev mutual
  pub uses_in_statement : Statement → List Use
  uses_in_statement (Assignment line mark left right) = uses_in_target left ++ uses_in right
  uses_in_statement (Where line mark mask left right) = uses_in mask ++ uses_in_target left ++ uses_in right
  uses_in_statement (If line arms other) = uses_in_arms arms ++ uses_in_block other
  uses_in_statement (Do line x a b c body) = uses_in_control x a b c ++ uses_in_block body
  uses_in_statement (Label n) = []
  uses_in_statement (GoTo line n) = []
  uses_in_statement (Stop line) = []
  uses_in_statement (Read line is) = uses_in_inputs is
  uses_in_statement (Print line is) = uses_in_outputs is
  uses_in_statement (Allocate line x es) = use_of x Writes ∷ uses_in_expressions es
  uses_in_statement (Deallocate line x) = use_of x Writes ∷ []

  pub uses_in_arms : Arms → List Use
  uses_in_arms no_arms = []
  uses_in_arms (arm test body arms) = (uses_in test ++ uses_in_block body) ++ uses_in_arms arms

  pub uses_in_block : Block → List Use
  uses_in_block no_statements = []
  uses_in_block (statement c cs) = uses_in_statement c ++ uses_in_block cs

-- one of the names stands in the expression
abbrev pub mentions : List (List ℕ) → Expression → Bool
mentions names e = list_any (λ (u : Use). is_among names u.name) (uses_in e)

-- ---- the names that stand in one way

abbrev pub is_way : Way → Way → Bool
is_way Reads Reads = true
is_way Reads Writes = false
is_way Writes Reads = false
is_way Writes Writes = true

-- the names that stand so, as often as they stand
abbrev pub names_standing : Way → List Use → List (List ℕ)
names_standing w us = map (λ (u : Use). u.name) (filter (λ (u : Use). is_way u.way w) us)

-- each name once, where it stands first
abbrev pub without_repeats : List (List ℕ) → List (List ℕ)
without_repeats [] = []
without_repeats (x ∷ xs) = x ∷ filter (λ y. not (bytes_eq y x)) (without_repeats xs)

abbrev pub names_written_in : Block → List (List ℕ)
names_written_in b = without_repeats (names_standing Writes (uses_in_block b))
