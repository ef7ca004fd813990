-- What is known of the value of an expression by its kind.
use Rattle.std.specs.Prelude.{◌≡◌, Ok, ℕ, List, length}
use Rattle.tree.specs.OperationFaults.{kind_of}
use Rattle.tree.specs.Plain.{Expression, Program}
use Rattle.tree.specs.declared.ops.Kind.{Kind}
use Rattle.tree.specs.declared.ops.Value.{Value}
use Rattle.meaning.specs.ArrayValues.{Elements}
use Rattle.meaning.specs.Dialect.{Dialect}
use Rattle.meaning.specs.Holding.{HoldsProgram}
use Rattle.meaning.specs.Store.{Store}
use Rattle.meaning.specs.Typed90.{HasKind, rank_of}
use Rattle.meaning.specs.Value.{value_of, array_of}

-- the value of an expression has the expression's kind
abbrev pub ValueHasKind : Type 0
ValueHasKind = (lang : Dialect) (p : Program) (e : Expression) (k : Kind) (s : Store) (v : Value)
    → HoldsProgram lang p s → HasKind p.declarations e k → value_of lang e s ≡ Ok v → kind_of v ≡ k

-- and so have the elements of an array
abbrev pub ElementsHaveKind : Type 0
ElementsHaveKind = (lang : Dialect) (p : Program) (e : Expression) (k : Kind) (s : Store) (g : Elements Value)
    → HoldsProgram lang p s → HasKind p.declarations e k → array_of lang e s ≡ Ok g
    → (is : List ℕ) (v : Value) → g.at is ≡ Ok v → kind_of v ≡ k

-- an array has an extent for each dimension of its expression
abbrev pub ExtentsAreRank : Type 0
ExtentsAreRank = (lang : Dialect) (p : Program) (e : Expression) (k : Kind) (s : Store) (g : Elements Value)
    → HoldsProgram lang p s → HasKind p.declarations e k → array_of lang e s ≡ Ok g
    → length g.extents ≡ rank_of p.declarations e
