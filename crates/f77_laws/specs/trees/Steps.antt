-- The tree of a program's statements, computed from the last statement back to the first. That it is the tree that they
-- form is a law.
use Rattle.std.specs.Prelude.{ℕ, Option, None, Some, if◌then◌else◌, List, [], ◌∷◌, ◌++◌, map}
use Rattle.std.specs.List.{flat_map}
use Rattle.tree.specs.Plain.{Expression}
use Rattle.tree.specs.Plain as tree
use Rattle.meaning.specs.Dialect.{Dialect}
use Rattle.meaning.specs.Store.{Store}
use Rattle.f77_grammar.specs.Statement77.{Labelled, Statement77, If, ElseIf, Else, EndIf, Do}
use Rattle.f77_grammar.specs.program.Text.{is_label}
use Rattle.f77_grammar.specs.program.Uses.{Use77, uses_in_text, is_title_role, names_that}
use Rattle.f77_grammar.specs.program.Limits.{constants_of}
use Rattle.f77_grammar.specs.program.Tree.{resolved, simple, label_before, targets, program_variables_of}
use Rattle.f77_grammar.specs.program.Tree.{declaration_of_name, first_of_names}

-- a piece of a block: what a simple statement, a whole block IF or a whole loop has become, with the label that ends it
pub record Piece : Type 0 where
  pub ends : Option ℕ
  pub made : List tree.Statement

abbrev pub block_of : List Piece → tree.Block
block_of pieces = tree.block (flat_map (λ (p : Piece). p.made) pieces)

-- the pieces up to the one that ends with the label, and those after it
abbrev pub up_to : ℕ → List Piece → List Piece
up_to n [] = []
up_to n (p ∷ ps) = p ∷ (if is_label n p.ends then [] else up_to n ps)

abbrev pub beyond : ℕ → List Piece → List Piece
beyond n [] = []
beyond n (p ∷ ps) = if is_label n p.ends then ps else beyond n ps

-- What the statements from one on have become: the pieces of the block in which it stands; and where that is an arm of
-- a block IF, the
-- later arms and the ELSE part of that, and what comes after the END IF
pub data Rest : Type 0 where
  Outermost : List Piece → Rest
  InArm : List Piece → tree.Arms → tree.Block → Rest → Rest

-- a piece before all that
abbrev pub preceded : Piece → Rest → Rest
preceded p (Outermost ps) = Outermost (p ∷ ps)
preceded p (InArm ps arms other r) = InArm (p ∷ ps) arms other r

abbrev pub arm_ended : Rest → Rest
arm_ended r = InArm [] tree.no_arms tree.no_statements r

-- the block from ELSE on is the ELSE part
abbrev pub else_begun : Rest → Rest
else_begun (Outermost ps) = Outermost ps
else_begun (InArm ps arms other r) = InArm [] arms (block_of ps) r

-- the block from ELSE IF on is an arm
abbrev pub arm_begun : Expression → Rest → Rest
arm_begun c (Outermost ps) = Outermost ps
arm_begun c (InArm ps arms other r) = InArm [] (tree.arm c (block_of ps) arms) other r

-- the block from IF on is the first arm, and the block IF is whole
abbrev pub if_begun : ℕ → List tree.Statement → Expression → Rest → Rest
if_begun line mark c (Outermost ps) = Outermost ps
if_begun line mark c (InArm ps arms other r) =
    preceded (record { ends = None; made = mark ++ tree.If line (tree.arm c (block_of ps) arms) other ∷ [] }) r

-- the pieces from DO on, up to the one with its label, are its loop
abbrev pub loop_in : (tree.Block → tree.Statement) → List tree.Statement → ℕ → List Piece → List Piece
loop_in make mark n ps = record { ends = Some n; made = mark ++ make (block_of (up_to n ps)) ∷ [] } ∷ beyond n ps

abbrev pub loop_begun : (tree.Block → tree.Statement) → List tree.Statement → ℕ → Rest → Rest
loop_begun make mark n (Outermost ps) = Outermost (loop_in make mark n ps)
loop_begun make mark n (InArm ps arms other r) = InArm (loop_in make mark n ps) arms other r

abbrev pub outermost_block : Rest → tree.Block
outermost_block (Outermost ps) = block_of ps
outermost_block (InArm ps arms other r) = block_of ps

-- END DO gives nothing but its label, and ends the loop of that
module _ (us : List Use77) (s : Store) (named : List ℕ) where
  abbrev pub begun : Labelled → Statement77 → Rest → Rest
  begun x EndIf r = arm_ended r
  begun x Else r = else_begun r
  begun x (ElseIf c) r = arm_begun (resolved us s c) r
  begun x (If c) r = if_begun x.line (label_before named x.label) (resolved us s c) r
  begun x (Do (Some n) v a b c) r =
      loop_begun (tree.Do x.line v (resolved us s a) (resolved us s b) (resolved us s c))
      (label_before named x.label) n r
  begun x other r =
      preceded (record { ends = x.label; made = label_before named x.label ++ simple us s x.line other }) r

  abbrev pub rest_from : List Labelled → Rest
  rest_from [] = Outermost []
  rest_from (x ∷ xs) = begun x x.statement (rest_from xs)

abbrev pub program_with : Dialect → List Use77 → Store → List Labelled → tree.Program
program_with d us s text =
    record {
      name = first_of_names (names_that is_title_role us);
      declarations = map (declaration_of_name d us s text) (program_variables_of us);
      body = outermost_block (rest_from us s (targets text) text);
    }

abbrev pub tree_of : Dialect → List Labelled → tree.Program
tree_of d text = program_with d (uses_in_text text) (constants_of d text) text
