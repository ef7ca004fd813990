-- DO variables, those of implied DO lists too (ANSI X3.9-1978, sections 11.10 and 12.8.2.3): INTEGER scalar variables
-- that nothing in the range
-- of their loop or list sets.
use Rattle.std.specs.Prelude.{ℕ, Bool, false, not, ◌&&◌, ◌||◌, List, [], ◌∷◌}
use Rattle.std.specs.List.{flat_map}
use Rattle.tree.specs.Plain.{Expression, Named, Subscripts, no_subscripts, subscript, Item, Single, Constant}
use Rattle.tree.specs.Plain.{ImpliedDo, Items, no_items, item}
use Rattle.tree.specs.declared.ops.Kind.TheVariants.{Integer}
use Rattle.f77_grammar.specs.Statement77.{Labelled, Statement77, Assign, Do, Read, Print}
use Rattle.meaning.specs.Names.{is_among}
use Rattle.f77_grammar.specs.declared.directions.Direction.{Direction}
use Rattle.f77_grammar.specs.declared.directions.Direction.TheVariants.{Output, Input}
use Rattle.f77_grammar.specs.program.Text.{Place77, action, open_loops}
use Rattle.f77_grammar.specs.program.Uses.{Use77, is_variable, is_array_name, kind_of_name}
use Rattle.f77_grammar.specs.program.Kinds.{same_kind}

abbrev pub loop_variable : Statement77 → List (List ℕ)
loop_variable (Do label x a b c) = x ∷ []
loop_variable _ = []

-- the DO variables of the loops round a place
abbrev pub loop_variables : Place77 → List (List ℕ)
loop_variables p = flat_map (λ (x : Labelled). loop_variable x.statement) (open_loops p)

-- a scalar of this name is set, and is a DO variable of those round it
abbrev pub sets_one_of : List (List ℕ) → List ℕ → Subscripts → Bool
sets_one_of around x no_subscripts = is_among around x
sets_one_of around x (subscript p ps) = false

abbrev pub reads_one_of : List (List ℕ) → Expression → Bool
reads_one_of around (Named x ps) = sets_one_of around x ps
reads_one_of around e = false

-- what is printed sets nothing
abbrev pub value_sets_one_of : Direction → List (List ℕ) → Expression → Bool
value_sets_one_of Output around e = false
value_sets_one_of Input around e = reads_one_of around e

-- by all uses `us` of names in the program
module _ (us : List Use77) where
  abbrev pub is_integer_variable : List ℕ → Bool
  is_integer_variable x = is_variable us x && not (is_array_name us x) && same_kind (kind_of_name us x) Integer

  abbrev pub is_wrong_variable : List ℕ → List (List ℕ) → Bool
  is_wrong_variable x around = not (is_integer_variable x) || is_among around x

  -- the range of an implied DO list is the list, not its parameters
  abbrev mutual
    pub misuses_in_item : Direction → Item → List (List ℕ) → Bool
    misuses_in_item d (Single e) around = value_sets_one_of d around e
    misuses_in_item d (Constant t) around = false
    misuses_in_item d (ImpliedDo is x a b c) around = is_wrong_variable x around || misuses_in_items d is (x ∷ around)

    pub misuses_in_items : Direction → Items → List (List ℕ) → Bool
    misuses_in_items d no_items around = false
    misuses_in_items d (item i is) around = misuses_in_item d i around || misuses_in_items d is around

  -- a statement sets a DO variable of those round it, or has one that is wrong
  abbrev pub misuses_variable : Statement77 → List (List ℕ) → Bool
  misuses_variable (Assign left e) around = sets_one_of around left.name left.subscripts
  misuses_variable (Do label x a b c) around = is_wrong_variable x around
  misuses_variable (Read is) around = misuses_in_items Input is around
  misuses_variable (Print is) around = misuses_in_items Output is around
  misuses_variable _ around = false

  abbrev pub has_wrong_do_variable : Place77 → Bool
  has_wrong_do_variable p = misuses_variable (action p.here.statement) (loop_variables p)
