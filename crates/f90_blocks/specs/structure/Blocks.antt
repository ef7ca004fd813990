-- What is open at a statement, the innermost first.
use Rattle.std.specs.Prelude.{◌≡◌, Option, Some, None, List, [], ◌∷◌, map, reverse}
use Rattle.f90_grammar.specs.Order as order
use Rattle.f90_blocks.specs.declared.structure.blocks.Opened.{Opened}
use Rattle.f90_blocks.specs.declared.structure.blocks.Opened.TheVariants.{If, Else, Do}
use Rattle.f90_blocks.specs.declared.structure.blocks.Blocks.{Blocks}

abbrev pub kinds : Blocks → List Opened
kinds b = reverse b.open.items

abbrev pub first_of : List Opened → Option Opened
first_of [] = None
first_of (o ∷ os) = Some o

abbrev pub rest_of : List Opened → List Opened
rest_of [] = []
rest_of (o ∷ os) = os

-- a block IF has its ELSE
abbrev pub with_else : List Opened → List Opened
with_else (If ∷ os) = Else ∷ os
with_else os = os

-- the variable of a loop doesn't matter
abbrev pub kind_of : order.Opened → Opened
kind_of order.InIf = If
kind_of order.InElse = Else
kind_of (order.InDo x) = Do

-- these are open
abbrev pub AreOpen : Blocks → List order.Opened → Type 0
AreOpen b os = kinds b ≡ map kind_of os
