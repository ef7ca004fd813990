-- Variables of loops that no statement reads but in the bodies of their own loops: what they hold when a loop is come
-- to doesn't matter.
use Rattle.std.specs.Prelude.{◌≡◌, ⊤, Result, ℕ, true, List}
use Rattle.tree.specs.Plain.{Expression, Logic, Named, Item, Single, Constant, ImpliedDo, Items, no_items, item}
use Rattle.tree.specs.Plain.{Statement, Assignment, Where, If, Do, Read, Print, Allocate}
use Rattle.tree.specs.Plain.{Arms, no_arms, arm, Block, no_statements, statement}
use Rattle.tree.specs.declared.ops.Fault.{Fault}
use Rattle.meaning.specs.ArrayStatements.{writes_of, allocated_bounds}
use Rattle.meaning.specs.Dialect.{Dialect}
use Rattle.meaning.specs.Store.{Store, Cell}
use Rattle.meaning.specs.Value.{value_of, truth_of, number_of, increment_of, cell_named, item_cells, item_values}
use Rattle.rewrite.specs.Following.{RunFollows}
use Rattle.nest_order.specs.orders.Lists.{In}
use Rattle.nest_order.specs.runs.Guarded.{variable_cell}
use Rattle.reductions.specs.Reading.{without}

-- two stores that are the same but for these variables
pub record AlikeBut (xs : List (List ℕ)) (s t : Store) : Type 0 where
  pub bounds : s.bounds ≡ t.bounds
  pub held : (c : Cell) → ((x : List ℕ) → In x xs → ¬ (c ≡ variable_cell x)) → s.held c ≡ t.held c

-- the question has one answer in both
abbrev pub IsBlind : {A : Type 0} → List (List ℕ) → (Store → Result A Fault) → Type 0
IsBlind xs q = (s t : Store) → AlikeBut xs s t → q s ≡ q t

module _ (lang : Dialect) where
  abbrev pub AreBlind : List (List ℕ) → Expression → Expression → Expression → Type 0
  AreBlind xs a b c = IsBlind xs (number_of lang a) × IsBlind xs (number_of lang b) × IsBlind xs (increment_of lang c)

  -- the body of a loop over x may read x
  abbrev mutual
    pub KeptInput : List (List ℕ) → Item → Type 0
    KeptInput xs (Single (Named x ps)) = ¬ (In x xs) × IsBlind xs (item_cells lang x ps)
    KeptInput xs (ImpliedDo is x a b c) = AreBlind xs a b c × KeptInputs (without x xs) is
    KeptInput xs _ = ⊤

    pub KeptInputs : List (List ℕ) → Items → Type 0
    KeptInputs xs no_items = ⊤
    KeptInputs xs (item i is) = KeptInput xs i × KeptInputs xs is

  abbrev mutual
    pub KeptOutput : List (List ℕ) → Item → Type 0
    KeptOutput xs (Single e) = IsBlind xs (item_values lang e)
    KeptOutput xs (Constant t) = ⊤
    KeptOutput xs (ImpliedDo is x a b c) = AreBlind xs a b c × KeptOutputs (without x xs) is

    pub KeptOutputs : List (List ℕ) → Items → Type 0
    KeptOutputs xs no_items = ⊤
    KeptOutputs xs (item i is) = KeptOutput xs i × KeptOutputs xs is

  abbrev mutual
    pub Kept : List (List ℕ) → Statement → Type 0
    Kept xs (Assignment line mark left right) =
        IsBlind xs (value_of lang right) × IsBlind xs (cell_named lang left)
        × IsBlind xs (writes_of lang (Logic true) left right)
    Kept xs (Where line mark mask left right) = IsBlind xs (writes_of lang mask left right)
    Kept xs (If line arms other) = KeptArms xs arms × KeptBlock xs other
    Kept xs (Do line x a b c body) = AreBlind xs a b c × KeptBlock (without x xs) body
    Kept xs (Read line is) = KeptInputs xs is
    Kept xs (Print line is) = KeptOutputs xs is
    Kept xs (Allocate line x es) = IsBlind xs (allocated_bounds lang x es)
    Kept xs _ = ⊤

    pub KeptArms : List (List ℕ) → Arms → Type 0
    KeptArms xs no_arms = ⊤
    KeptArms xs (arm test body arms) = IsBlind xs (truth_of lang test) × KeptBlock xs body × KeptArms xs arms

    pub KeptBlock : List (List ℕ) → Block → Type 0
    KeptBlock xs no_statements = ⊤
    KeptBlock xs (statement c cs) = Kept xs c × KeptBlock xs cs

-- Such statements go the same way from moments that are alike but for these variables, where they meet no fault
abbrev pub KeptStatementsFollow : Type 0
KeptStatementsFollow = (lang : Dialect) (xs : List (List ℕ)) (cs : Block) → KeptBlock lang xs cs
    → RunFollows lang (AlikeBut xs) cs cs
