-- A program of the FORTRAN 77 profile as a program of the Fortran 90 profile.
use Rattle.std.specs.Prelude.{◌⊎◌, ◌≤◌, List, Contains}
use Rattle.tree.specs.Names.{IsSourceName}
use Rattle.tree.specs.Plain.{Declaration, Program}
use Rattle.meaning.specs.Dialect.{Dialect}
use Rattle.meaning.specs.Profile77.{IsProgram77}
use Rattle.meaning.specs.Profile90 as target
use Rattle.meaning.specs.Profile90.{IsProgram90}

-- INTEGER has at most 64 bits
abbrev pub SourceIsTarget : Type 0
SourceIsTarget = (lang : Dialect) (p : Program) → lang.bits ≤ 63 → IsProgram77 lang p → IsProgram90 p

-- The declarations `es` are `ds`, and further ones of made names, which are longer than those of a source or have an
-- underscore
pub record AddMadeNames (ds es : List Declaration) : Type 0 where
  pub kept : (e : Declaration) → Contains ds e → Contains es e
  pub made : (e : Declaration) → Contains es e → Contains ds e ⊎ (IsSourceName e.name → ⊥)
  pub are : target.AreDeclarations es

-- whatever is declared besides, as long as it is declared in order and within the limits
abbrev pub SourceWithMadeNamesIsTarget : Type 0
SourceWithMadeNamesIsTarget = (lang : Dialect) (p : Program) (es : List Declaration)
    → IsProgram77 lang p → AddMadeNames p.declarations es → IsProgram90 (record p { declarations = es })
