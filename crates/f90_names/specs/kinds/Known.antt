-- The names in the trees of a program of Fortran 90 (ISO/IEC 1539:1991, sections 5, 6.2 and 12.5.2): each is declared,
-- and has as many subscripts as dimensions if it has any.
use Rattle.std.specs.Prelude.{◌≡◌, ◌⊎◌, ◌↔◌, IsSome, None, List, [], ◌++◌}
use Rattle.std.specs.List.{AllByRecursion, flat_map}
use Rattle.tree.specs.Plain.{Expression, Number, Logic, Named, Unary, Binary, Apply, Constructor, Spread, Transpose}
use Rattle.tree.specs.Plain.{Reshape, Reduce, Expressions, no_expressions, expression, expressions, Subscript, Only}
use Rattle.tree.specs.Plain.{Section}
use Rattle.tree.specs.Plain.{Subscripts, no_subscripts, subscript, Loops, no_loops, loop, Reference, Declaration}
use Rattle.tree.specs.Plain.{Item, Single, Constant, ImpliedDo, Items, no_items, item, items}
use Rattle.meaning.specs.Typed.{number_of_subscripts, declared}
use Rattle.f90_grammar.specs.Phrases.{Phrase90, SuitsCalls, tree_of}
use Rattle.f90_grammar.specs.Items.{Direction, Input, Output, IsReference90, ItemPhrases90, AreItems90, item_trees90}
use Rattle.f90_grammar.specs.Blocks.{trees_by}
use Rattle.reading.specs.Signs.{reference_in}
use Rattle.f90_grammar.specs.Reading.{function_by}
use Rattle.f90_grammar.specs.Contents.{VariableSuitsCalls, items_expressions, items_variables}
use Rattle.f90_grammar.specs.Declared.{IsKnown, use90_of, uses90_in, uses90_in_variable}

module _ (ds : List Declaration) where
  abbrev mutual
    -- a call with a wrong number of arguments has the name of a function, which isn't declared
    pub KnowsNames : Expression → Type 0
    KnowsNames (Number n) = Unit {0}
    KnowsNames (Logic b) = Unit {0}
    KnowsNames (Named x no_subscripts) = IsKnown ds (use90_of x 0)
    KnowsNames (Named x (subscript p ps)) =
        (IsSome (function_by ds x) ⊎ IsKnown ds (use90_of x (number_of_subscripts (subscript p ps))))
        × KnowsSubscripts (subscript p ps)
    KnowsNames (Unary o a) = KnowsNames a
    KnowsNames (Binary o a b) = KnowsNames a × KnowsNames b
    KnowsNames (Apply f es) = KnowsAll es
    KnowsNames (Constructor es ls) = KnowsAll es × KnowsLoops ls
    KnowsNames (Spread a d n) = KnowsNames a × KnowsNames n
    KnowsNames (Transpose a) = KnowsNames a
    KnowsNames (Reshape a es) = KnowsNames a × KnowsAll es
    KnowsNames (Reduce r a) = KnowsNames a

    pub KnowsAll : Expressions → Type 0
    KnowsAll no_expressions = Unit {0}
    KnowsAll (expression e es) = KnowsNames e × KnowsAll es

    pub KnowsSubscripts : Subscripts → Type 0
    KnowsSubscripts no_subscripts = Unit {0}
    KnowsSubscripts (subscript p ps) = KnowsSubscript p × KnowsSubscripts ps

    pub KnowsSubscript : Subscript → Type 0
    KnowsSubscript (Only e) = KnowsNames e
    KnowsSubscript (Section a b c) = KnowsNames a × KnowsNames b × KnowsNames c

    -- the variables of loops too
    pub KnowsLoops : Loops → Type 0
    KnowsLoops no_loops = Unit {0}
    KnowsLoops (loop x a b ls) = IsKnown ds (use90_of x 0) × KnowsNames a × KnowsNames b × KnowsLoops ls

  -- what is stored into is never a function
  abbrev pub KnowsReference : Reference → Type 0
  KnowsReference r = IsKnown ds (use90_of r.name (number_of_subscripts r.subscripts)) × KnowsSubscripts r.subscripts

  -- what is read into is a reference
  abbrev pub KnowsSingle : Direction → Expression → Type 0
  KnowsSingle Output e = KnowsNames e
  KnowsSingle Input e = elim e [
    | Named x ps ↦ KnowsReference (record { name = x; subscripts = ps })
    | _ ↦ ⊥
  ]

  abbrev mutual
    -- but for the variables of implied DO lists
    pub KnowsItem : Direction → Item → Type 0
    KnowsItem d (Single e) = KnowsSingle d e
    KnowsItem d (Constant t) = Unit {0}
    KnowsItem d (ImpliedDo is x a b c) = KnowsItems d is × KnowsNames a × KnowsNames b × KnowsNames c

    pub KnowsItems : Direction → Items → Type 0
    KnowsItems d no_items = Unit {0}
    KnowsItems d (item i is) = KnowsItem d i × KnowsItems d is

-- ---- the names of a tree are those of the phrase that it is the tree of

abbrev pub TreeKnowsNames : Type 0
TreeKnowsNames = (ds : List Declaration) (p : Phrase90) → SuitsCalls (function_by ds) p
    → AllByRecursion (IsKnown ds) (uses90_in (function_by ds) p) ↔ KnowsNames ds (tree_of (function_by ds) p)

abbrev pub TreesKnowNames : Type 0
TreesKnowNames = (ds : List Declaration) (ps : List Phrase90) → AllByRecursion (SuitsCalls (function_by ds)) ps
    → AllByRecursion (IsKnown ds) (flat_map (uses90_in (function_by ds)) ps)
    ↔ KnowsAll ds (expressions (trees_by (tree_of (function_by ds)) ps))

-- where no declared name is empty
abbrev pub ReferenceKnowsNames : Type 0
ReferenceKnowsNames = (ds : List Declaration) (p : Phrase90) → declared ds [] ≡ None → IsReference90 p
    → VariableSuitsCalls (function_by ds) p
    → AllByRecursion (IsKnown ds) (uses90_in_variable (function_by ds) p)
    ↔ KnowsReference ds (reference_in (tree_of (function_by ds) p))

abbrev pub OutputKnowsNames : Type 0
OutputKnowsNames = (ds : List Declaration) (is : ItemPhrases90)
    → AllByRecursion (SuitsCalls (function_by ds)) (items_expressions Output is)
    → AllByRecursion (IsKnown ds) (flat_map (uses90_in (function_by ds)) (items_expressions Output is))
    ↔ KnowsItems ds Output (items (item_trees90 (function_by ds) is))

abbrev pub InputKnowsNames : Type 0
InputKnowsNames = (ds : List Declaration) (is : ItemPhrases90) → AreItems90 Input is
    → AllByRecursion (SuitsCalls (function_by ds)) (items_expressions Input is)
    → AllByRecursion (VariableSuitsCalls (function_by ds)) (items_variables is)
    → AllByRecursion (IsKnown ds) (flat_map (uses90_in (function_by ds)) (items_expressions Input is)
    ++ flat_map (uses90_in_variable (function_by ds)) (items_variables is))
    ↔ KnowsItems ds Input (items (item_trees90 (function_by ds) is))
