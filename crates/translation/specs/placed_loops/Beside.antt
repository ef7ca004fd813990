-- Two runs beside each other: the sequential one of a program of FORTRAN 77, and the array run of one with further
-- names.
use Rattle.std.specs.Prelude.{◌≡◌, ℕ, ℤ, Option, None, IfSome, List}
use Rattle.tree.specs.Plain.{Block, Declaration, Extent, Given, Later, Program, Statement}
use Rattle.meaning.specs.Dialect.{fortran77, fortran90}
use Rattle.tree.specs.declared.width.Width.{Width}
use Rattle.meaning.specs.Holding.{HoldsProgram}
use Rattle.meaning.specs.Run.{State, Going, does, does_all}
use Rattle.meaning.specs.Store.{Agree, Store}
use Rattle.meaning.specs.Typed.{declared}
use Rattle.rewrite.specs.Following.{IsSound}

-- an array that may come and go isn't there
abbrev pub IsUnallocated : Extent → Option (List (ℤ × ℤ)) → Type 0
IsUnallocated (Given bs) b = Unit {0}
IsUnallocated (Later n) b = b ≡ None

abbrev pub AreUnallocated : Program → Store → Type 0
AreUnallocated q s =
    (x : List ℕ) → IfSome (declared q.declarations x) (λ (d : Declaration). IsUnallocated d.extent (s.bounds x))

-- The stores agree on p, each holds its program, no allocatable array of q is there, and all else is the same but for
-- the number of steps
pub record AreBeside (width : Width) (p q : Program) (s t : State) : Type 0 where
  pub store : Agree p s.store t.store
  pub holds : HoldsProgram (fortran77 width) p s.store
  pub holds_beside : HoldsProgram (fortran90 width) q t.store
  pub free : AreUnallocated q t.store
  pub written : s.written ≡ t.written
  pub input : s.input ≡ t.input
  pub had_value : s.had_value ≡ t.had_value
  pub way : s.way ≡ t.way

-- The block does what the statement does: from moments beside each other at which the runs go on, where the statement
-- meets no fault, both come to moments beside each other
abbrev pub DoesAs : (width : Width) → Program → Program → Statement → Block → Type 0
DoesAs width p q c b = (s t : State)
    → s.way ≡ Going → AreBeside width p q s t → IsSound (does (fortran77 width) None c s).way
    → AreBeside width p q (does (fortran77 width) None c s) (does_all (fortran90 width) None b t)
