-- What is known of declared names.
use Rattle.std.specs.Prelude.{◌≡◌, ℕ, Bool, true, false, Option, Some, None, List}
use Rattle.std.specs.Str.{bytes_eq}
use Rattle.indexmap.specs.IndexMap.{get}
use Rattle.tree.specs.Plain.{Declaration, Extent, Given, Later}
use Rattle.meaning.specs.Typed.{declared, rank_of_extent}
use Rattle.f90_names.specs.declared.kinds.declarations.names.Declared.{Declared}
use Rattle.f90_names.specs.declared.kinds.declarations.names.Names.{Names}

abbrev pub is_later : Extent → Bool
is_later (Given ds) = false
is_later (Later n) = true

pub record IsOf (k : Declared) (d : Declaration) : Type 0 where
  pub kind : k.kind ≡ d.kind
  pub rank : k.rank ≡ rank_of_extent d.extent
  pub allocatable : k.is_allocatable ≡ is_later d.extent

-- what is known is that of the declaration, if there is one
abbrev pub Tells : Option Declared → Option Declaration → Type 0
Tells None None = Unit {0}
Tells (Some k) (Some d) = IsOf k d
Tells _ _ = ⊥

-- what the names hold of a name
abbrev pub found : Names → List ℕ → Option Declared
found names x = get bytes_eq names.table x

-- the names tell of each name what these declarations say of it
abbrev pub AreNamesOf : Names → List Declaration → Type 0
AreNamesOf names ds = (x : List ℕ) → Tells (found names x) (declared ds x)
