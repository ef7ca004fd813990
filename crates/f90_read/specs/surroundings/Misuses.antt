-- DO variables that are wrong, or set in the range of their loop, at statements.
use Rattle.std.specs.Prelude.{◌≡◌, ℕ, Bool, true, false, List, [], ◌∷◌, map, reverse}
use Rattle.meaning.specs.Names.{is_among}
use Rattle.f90_laws.specs.blocks.Places.{loop_variables}
use Rattle.f90_grammar.specs.Forms as forms
use Rattle.f90_grammar.specs.Forms.{Form90}
use Rattle.f90_grammar.specs.Items.{Input, Output}
use Rattle.f90_grammar.specs.Order.{Place90, Opened, InIf, InElse, InDo, blocks_round}
use Rattle.f90_read.specs.surroundings.Lists.{stored_name, stores_round, is_wrong_variable, items_misuse}
use Rattle.f90_read.specs.declared.surroundings.looping.OpenBlocks.{OpenBlocks}

-- something is wrong in the statement
module _ (scalar round : List ℕ → Bool) where
  abbrev pub misuses_form : Form90 → Bool
  misuses_form (forms.Assign l r) = stores_round round (stored_name l) []
  misuses_form (forms.Where m l r) = stores_round round (stored_name l) []
  misuses_form (forms.Test p f) = misuses_form f
  misuses_form (forms.Do x a b c) = is_wrong_variable scalar round [] x
  misuses_form (forms.Read is) = items_misuse scalar round Input is []
  misuses_form (forms.Print is) = items_misuse scalar round Output is []
  misuses_form f = false

abbrev pub misuses_at : (List ℕ → Bool) → Place90 → Bool
misuses_at scalar p = misuses_form scalar (is_among (loop_variables (blocks_round p))) p.here.form

-- ---- what is open

abbrev pub is_loop : Opened → Bool
is_loop InIf = false
is_loop InElse = false
is_loop (InDo x) = true

abbrev pub outside : List Opened → List Opened
outside [] = []
outside (o ∷ os) = os

-- the code holds what is open
pub record AreOpen (blocks : OpenBlocks) (os : List Opened) : Type 0 where
  pub are_loops : reverse blocks.are_loops.items ≡ map is_loop os
  pub variables : reverse blocks.variables.items ≡ loop_variables os
