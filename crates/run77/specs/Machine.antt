-- The machine of a program, and the store that it has.
use Rattle.std.specs.Prelude.{◌≡◌}
use Rattle.tree.specs.Plain.{Program}
use Rattle.tree.specs.View.{block_of}
use Rattle.tree.specs.declared.width.Width.{Width}
use Rattle.meaning.specs.Store.{Store}
use Rattle.machine.specs.Stored.{names_in, store_in}
use Rattle.run77.specs.declared.programs.Machine77.{Machine77}

-- the machine has the names and the statements of the program, and INTEGER is as wide
pub record IsMachineOf (w : Width) (p : Program) (m : Machine77) : Type 0 where
  pub names : names_in m.moment.storage ≡ p.declarations
  pub body : block_of m.body ≡ p.body
  pub width : m.width ≡ w

-- the store of the last run, or the opening store where there was none
abbrev pub store_left : Machine77 → Store
store_left m = store_in m.moment.storage
