use Rattle.meaning.specs.Dialect.{fortran77}
use Rattle.std.proofs.Common.{◌≡◌, ◌<◌, ◌+◌, ℕ, List, Option, Some, Result, length, get_or, drop}
use Rattle.meaning.specs.Store.{Cell}
use Rattle.machine.specs.Moments.{Seen}
use Rattle.machine.specs.declared.progress.Left.{Left}
use Rattle.machine.specs.Acts.{Runs}
use Rattle.machine.specs.Storage.{place}
use Rattle.machine.specs.Stored.{names_in}
use Rattle.machine.proofs.ReadLaws.{left_of_cells}
use Rattle.run77.specs.Moments.{seen}
use Rattle.run77.proofs.moment.Moment.read_all.Given as goal

-- what is done with the cells that are left is done with all
abbrev pub invariant-loop-k : goal.invariant-loop-k
invariant-loop-k l =
    (names_in l.self.storage ≡ names_in l.fn.self.storage)
    × ((cs : List Cell) → length cs ≡ l.count → ((j : ℕ) (d : Cell) → j < length cs → place (names_in l.fn.self.storage) (get_or cs j d).name (get_or cs j d).subscripts ≡ Some (l.start + j))
    → (bytes : Option (List ℕ)) (last : Seen) (r : Result (Unit {0}) Left)
    → Runs (left_of_cells (fortran77 l.width) l.line (drop l.k cs)) l.input (seen l.self) bytes last bytes r → Runs (left_of_cells (fortran77 l.width) l.line cs) l.input (seen l.fn.self) bytes last bytes r)
