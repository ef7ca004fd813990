-- Stores such as the run of a program has: what every promise on a part of a program may ask of the store that it
-- begins in.
use Rattle.std.specs.Prelude.{◌≡◌, ℕ, ℤ, IsTrue, Option, Some, None, IfSome, List, length}
use Rattle.tree.specs.OperationFaults.{kind_of}
use Rattle.tree.specs.Plain.{Extent, Given, Later, Declaration, Program}
use Rattle.tree.specs.declared.ops.Kind.{Kind}
use Rattle.tree.specs.declared.ops.Value.{Value}
use Rattle.meaning.specs.Dialect.{Dialect}
use Rattle.meaning.specs.Store.{Store, Cell}
use Rattle.meaning.specs.Typed.{declared}
use Rattle.meaning.specs.Value.{is_in_range}

-- a name has the bounds that were given; an allocatable array has none, or bounds of each of its dimensions
abbrev pub HasBounds : Extent → Option (List (ℤ × ℤ)) → Type 0
HasBounds (Given bs) b = b ≡ Some bs
HasBounds (Later n) None = Unit {0}
HasBounds (Later n) (Some bs) = length bs ≡ n

-- a value of this kind, a number within the range of INTEGER
pub record IsStorable (lang : Dialect) (k : Kind) (v : Value) : Type 0 where
  pub kind : kind_of v ≡ k
  pub within : IsTrue (is_in_range lang.bits v)

-- Each declared name has its bounds, and each cell of the name, whether there is one now or not, holds a value of the
-- name's kind
pub record HoldsProgram (lang : Dialect) (p : Program) (s : Store) : Type 0 where
  pub bounds : (x : List ℕ)
      → IfSome (declared p.declarations x) (λ (e : Declaration). HasBounds e.extent (s.bounds x))
  pub kinds : (c : Cell)
      → IfSome (declared p.declarations c.name) (λ (e : Declaration). IsStorable lang e.kind (s.held c))
