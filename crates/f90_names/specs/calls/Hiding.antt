-- The names that are functions where those that a text declares are none.
use Rattle.std.specs.Prelude.{◌≡◌, ◌↔◌, ℕ, Option, Some, List, [], ◌++◌, map, Contains}
use Rattle.tree.specs.declared.functions.Intrinsic.{Intrinsic}
use Rattle.f90_grammar.specs.FreeForm.{FreeStatement}
use Rattle.f90_grammar.specs.Refusals.{IsDeclaredIn, functions_but}
use Rattle.f90_statement.specs.declared.nodes.Entity.{Entity}
use Rattle.f90_statement.specs.declared.nodes.Statement.{Statement}
use Rattle.f90_statement.specs.declared.nodes.Statement.TheVariants.{Declare}
use Rattle.f90_trees.specs.Hiding.{function_in}
use Rattle.f90_trees.specs.declared.functions.Functions.{Functions}

abbrev pub names_of : List Entity → List (List ℕ)
names_of es = map (λ (e : Entity). e.name) es

-- the names that the statement declares
abbrev pub declared_by : Option Statement → List (List ℕ)
declared_by (Some (Declare k a es)) = names_of es
declared_by form = []

-- the functions are all but those that have these names
abbrev pub IsWithout : List (List ℕ) → Functions → Type 0
IsWithout xs functions = (x : List ℕ) → function_in functions x ≡ functions_but xs x

-- the names are hidden too
abbrev pub Hides : List (List ℕ) → Functions → Functions → Type 0
Hides names old new = (xs : List (List ℕ)) → IsWithout xs old → IsWithout (xs ++ names) new

-- a name is a function where it is the name of one and no statement of them declares it
pub record HidesDeclared (ss : List FreeStatement) (function : List ℕ → Option Intrinsic) : Type 0 where
  pub declared : List (List ℕ)
  pub are_declared : (x : List ℕ) → Contains declared x ↔ IsDeclaredIn ss x
  pub same : (x : List ℕ) → function x ≡ functions_but declared x
