-- Faults that a program without arrays as values never meets.
use Rattle.std.specs.Prelude.{◌≡◌, Ok, Err, Option, ℕ, List}
use Rattle.tree.specs.OperationFaults.{kind_of}
use Rattle.tree.specs.Plain.{Expression, Program}
use Rattle.tree.specs.declared.ops.Fault.{Fault}
use Rattle.tree.specs.declared.ops.Fault.TheVariants.{Shape, Allocated}
use Rattle.tree.specs.declared.ops.Kind.{Kind}
use Rattle.tree.specs.declared.ops.Value.{Value}
use Rattle.meaning.specs.Dialect.{Dialect}
use Rattle.meaning.specs.Holding.{HoldsProgram}
use Rattle.meaning.specs.Profile77.{IsProgram77}
use Rattle.meaning.specs.Run.{Failed, run}
use Rattle.meaning.specs.Store.{Store}
use Rattle.meaning.specs.Typed77.{HasKind}
use Rattle.meaning.specs.Value.{value_of}

-- neither kinds nor extents that don't suit, and no array that isn't allocated
abbrev pub IsPlainFault : Fault → Type 0
IsPlainFault Shape = ⊥
IsPlainFault Allocated = ⊥
IsPlainFault _ = Unit {0}

-- an expression of a kind has a value of this kind, or a plain fault
abbrev pub SourceValueHasKind : Type 0
SourceValueHasKind = (lang own : Dialect) (p : Program) (e : Expression) (k : Kind) (s : Store) (v : Value)
    → IsProgram77 own p → HoldsProgram lang p s → HasKind p.declarations e k
    → value_of lang e s ≡ Ok v → kind_of v ≡ k

abbrev pub SourceValueFaultIsPlain : Type 0
SourceValueFaultIsPlain = (lang own : Dialect) (p : Program) (e : Expression) (k : Kind) (s : Store) (f : Fault)
    → IsProgram77 own p → HoldsProgram lang p s → HasKind p.declarations e k
    → value_of lang e s ≡ Err f → IsPlainFault f

-- a run of a program of FORTRAN 77 ends by a plain fault, if by one
abbrev pub SourceRunFaultIsPlain : Type 0
SourceRunFaultIsPlain = (lang own : Dialect) (limit : Option ℕ) (p : Program) (input : List ℕ) (f : Fault) (line : ℕ)
    → IsProgram77 own p → (run lang limit p input).way ≡ Failed f line → IsPlainFault f
