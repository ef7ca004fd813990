-- Declarations with made names.
use Rattle.std.specs.Prelude.{◌≡◌, Some, All, List, [], Contains}
use Rattle.tree.specs.Names.{IsSourceName}
use Rattle.tree.specs.Plain.{Declaration}
use Rattle.meaning.specs.Profile90.{AreDeclarations, IsDeclaration}
use Rattle.meaning.specs.Typed.{declared, dimensions}
use Rattle.meaning_laws.specs.profiles.Profiles.{AddMadeNames}
use Rattle.translation.specs.made_declarations.Declaring.{with_declarations}

-- of a name that no program of FORTRAN 77 has, and of no array with fixed bounds
pub record IsMadeDeclaration (e : Declaration) : Type 0 where
  pub declaration : IsDeclaration e
  pub made : IsSourceName e.name → ⊥
  pub later : dimensions e.extent ≡ []

-- what has one name in both is one declaration
abbrev pub AgreeOnNames : List Declaration → List Declaration → Type 0
AgreeOnNames ds es = (d e : Declaration) → Contains ds d → Contains es e → d.name ≡ e.name → d ≡ e

-- fs are the declarations ds with further ones of made names, es, each of which is there
pub record AreWith (ds es fs : List Declaration) : Type 0 where
  pub more : AddMadeNames ds fs
  pub declared : (e : Declaration) → Contains es e → declared fs e.name ≡ Some e

-- where each name is declared in one way, and none of them is declared already
abbrev pub WithMadeNames : Type 0
WithMadeNames = (ds es : List Declaration) → AreDeclarations ds → All IsMadeDeclaration es → AgreeOnNames es es
    → ((d e : Declaration) → Contains ds d → Contains es e → d.name ≡ e.name → ⊥)
    → AreWith ds es (with_declarations ds es)
