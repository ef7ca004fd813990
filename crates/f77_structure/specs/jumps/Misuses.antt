-- DO variables that are wrong, or that something in their range sets; `round` says of a name whether it is the DO
-- variable of a loop round the place.
use Rattle.std.specs.Prelude.{ℕ, Bool, false, not, ◌&&◌, ◌||◌, is_some, List, [], ◌∷◌, ◌++◌}
use Rattle.tree.specs.Plain.{Expression, Named, Subscripts, no_subscripts, subscript, Item, Single, Constant}
use Rattle.tree.specs.Plain.{ImpliedDo, Items, no_items, item}
use Rattle.tree.specs.declared.ops.Kind.TheVariants.{Integer}
use Rattle.f77_grammar.specs.Statement77.{Statement77, Assign, Do, Read, Print}
use Rattle.f77_grammar.specs.declared.directions.Direction.{Direction}
use Rattle.f77_grammar.specs.declared.directions.Direction.TheVariants.{Output, Input}
use Rattle.meaning.specs.Names.{is_among}
use Rattle.f77_grammar.specs.program.Kinds.{same_kind}
use Rattle.f77_grammar.specs.program.Uses.{or_integer}
use Rattle.f77_names.specs.declared.names.Facts.{Facts}
use Rattle.f77_names.specs.NameFacts.{is_variable_by}

-- an INTEGER scalar variable, by what is known of the name
abbrev pub is_scalar_by : Facts → Bool
is_scalar_by f = is_variable_by f && not (is_some f.dimensions && not f.constant)
    && same_kind (or_integer f.kind) Integer

-- ---- the DO variables round an item are those of these implied DO lists, and those of loops

abbrev pub is_round : (List ℕ → Bool) → List (List ℕ) → List ℕ → Bool
is_round round lists x = is_among lists x || round x

-- one of them is set
abbrev pub sets_round : (List ℕ → Bool) → List (List ℕ) → List ℕ → Subscripts → Bool
sets_round round lists x no_subscripts = is_round round lists x
sets_round round lists x (subscript p ps) = false

abbrev pub reads_round : (List ℕ → Bool) → List (List ℕ) → Expression → Bool
reads_round round lists (Named x ps) = sets_round round lists x ps
reads_round round lists e = false

-- what is printed sets nothing
abbrev pub value_sets_round : (List ℕ → Bool) → Direction → List (List ℕ) → Expression → Bool
value_sets_round round Output lists e = false
value_sets_round round Input lists e = reads_round round lists e

-- `scalar` says which names are INTEGER scalar variables
module _ (scalar round : List ℕ → Bool) where
  abbrev pub is_wrong_round : List ℕ → List (List ℕ) → Bool
  is_wrong_round x lists = not (scalar x) || is_round round lists x

  abbrev mutual
    pub misuses_item : Direction → Item → List (List ℕ) → Bool
    misuses_item d (Single e) lists = value_sets_round round d lists e
    misuses_item d (Constant t) lists = false
    misuses_item d (ImpliedDo is x a b c) lists = is_wrong_round x lists || misuses_items d is (lists ++ x ∷ [])

    pub misuses_items : Direction → Items → List (List ℕ) → Bool
    misuses_items d no_items lists = false
    misuses_items d (item i is) lists = misuses_item d i lists || misuses_items d is lists

  abbrev pub misuses_statement : Statement77 → Bool
  misuses_statement (Assign left e) = sets_round round [] left.name left.subscripts
  misuses_statement (Do label x a b c) = is_wrong_round x []
  misuses_statement (Read is) = misuses_items Input is []
  misuses_statement (Print is) = misuses_items Output is []
  misuses_statement _ = false
