-- What stands in the expressions of a statement.
use Rattle.std.specs.Prelude.{Bool, false, ◌∷◌, ◌++◌}
use Rattle.std.specs.List.{list_any}
use Rattle.f90_grammar.specs.Contents.{has_wide_literal90, is_deep, is_wide_dimension, expressions_of}
use Rattle.f90_grammar.specs.Contents.{stored_variables_of, step_expressions}
use Rattle.f90_grammar.specs.Forms as forms
use Rattle.f90_grammar.specs.Forms.{Form90}
use Rattle.f90_grammar.specs.Phrases.{Phrase90}
use Rattle.f90_statement.specs.items.Flat as flats
use Rattle.f90_statement.specs.declared.contents.Test.{Test}
use Rattle.f90_statement.specs.declared.contents.Test.TheVariants.{Wide, Deep}

abbrev pub test_of : Test → Phrase90 → Bool
test_of Wide p = has_wide_literal90 p
test_of Deep p = is_deep p

-- it holds of an expression or a variable of the statement
abbrev pub any_in : (Phrase90 → Bool) → Form90 → Bool
any_in test f = list_any test (expressions_of f ++ stored_variables_of f)

-- of an expression in a part of a list
abbrev pub node_holds : (Phrase90 → Bool) → flats.Node → Bool
node_holds test (flats.Of p) = test p
node_holds test (flats.Text t) = false
node_holds test flats.Begin = false
node_holds test (flats.Turns x a b c) = list_any test (a ∷ (b ∷ step_expressions c))

-- a bound of the declared name is wide
abbrev pub are_wide : forms.EntityForm90 → Bool
are_wide e = list_any is_wide_dimension e.dimensions
