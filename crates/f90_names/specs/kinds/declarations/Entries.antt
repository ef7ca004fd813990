-- Declarations as the code holds them: names in the order of the text.
use Rattle.std.specs.Prelude.{◌≡◌, ℕ, Bool, Option, None, Some, if◌then◌else◌, List, [], ◌∷◌, ◌++◌, map, length}
use Rattle.std.specs.Str.{bytes_eq}
use Rattle.tree.specs.declared.ops.Kind.{Kind}
use Rattle.f90_grammar.specs.Declared.{is_repeated}
use Rattle.f90_statement.specs.declared.nodes.Entity.{Entity}
use Rattle.f90_statement.specs.declared.nodes.Statement.{Statement}
use Rattle.f90_statement.specs.declared.nodes.Statement.TheVariants.{Declare}
use Rattle.f90_names.specs.declared.kinds.declarations.names.Declared.{Declared}
use Rattle.f90_names.specs.declared.kinds.declarations.names.Names.{Names}
use Rattle.f90_names.specs.kinds.declarations.Names.{found}

-- a name with what its declaration says of it
pub record Entry : Type 0 where
  pub name : List ℕ
  pub says : Declared

abbrev pub entry : List ℕ → Declared → Entry
entry x k = record { name = x; says = k }

abbrev pub entry_of : Kind → Bool → Entity → Entry
entry_of k a e = entry e.name (record { kind = k; rank = length e.dimensions; is_allocatable = a })

-- those of a statement
abbrev pub entries_in : Statement → List Entry
entries_in (Declare k a es) = map (entry_of k a) es
entries_in s = []

abbrev pub names_in : List Entry → List (List ℕ)
names_in es = map (λ (e : Entry). e.name) es

-- what the first of them says of a name
abbrev pub first_said : List Entry → List ℕ → Option Declared
first_said [] x = None
first_said (e ∷ es) x = if bytes_eq e.name x then Some e.says else first_said es x

-- the names are exactly these, each with what is first said of it
abbrev pub Knows : Names → List Entry → Type 0
Knows names es = (x : List ℕ) → found names x ≡ first_said es x

-- these are known too, behind those known before; and whether a name is declared again
abbrev pub Declares : Names → Names → List Entry → Bool → Type 0
Declares old new es again = (before : List Entry) → Knows old before
    → Knows new (before ++ es) × (again ≡ is_repeated (names_in before) (names_in es))
