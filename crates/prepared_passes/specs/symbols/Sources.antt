-- Nests of a source, whose declarations are among further ones.
use Rattle.std.specs.Prelude.{◌≡◌, ℕ, ◌≤◌, Some, Contains, List, length, map}
use Rattle.std.specs.List.{AllByRecursion}
use Rattle.meaning.specs.Names.{IsInByteOrder}
use Rattle.meaning.specs.Typed.{declared}
use Rattle.nest.specs.Plain.{Nest}
use Rattle.statement_passes.specs.Standings.{IsLoop}
use Rattle.tree.specs.Names.{IsSourceName}
use Rattle.tree.specs.Plain.{Declaration}

abbrev pub names_declared : Nest → List (List ℕ)
names_declared n = map (λ (d : Declaration). d.name) n.declarations

-- A loop by the declarations of a program of FORTRAN 77, which its symbols are among, and which es has, too
pub record IsOfSource (es : List Declaration) (n : Nest) : Type 0 where
  pub loop : IsLoop n.body
  pub names : AllByRecursion IsSourceName (names_declared n)
  pub ordered : IsInByteOrder (names_declared n)
  pub few : length n.declarations ≤ 1000
  pub symbols : AllByRecursion (Contains (names_declared n)) n.symbols
  pub among : (x : List ℕ) (d : Declaration) → declared n.declarations x ≡ Some d → declared es x ≡ Some d
