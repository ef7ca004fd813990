-- The cells that references name.
use Rattle.std.specs.Prelude.{◌≡◌, Ok}
use Rattle.tree.specs.Plain.{Reference}
use Rattle.meaning.specs.Store.{Cell, cell_in}
use Rattle.nest_order.specs.orders.Shapes.{Instance}
use Rattle.nest_order.specs.runs.Nests.{RunNest}
use Rattle.nest_order.specs.runs.Stores.{Setting}
use Rattle.nest_order.specs.runs.Touched.{MayName}

-- a cell within the bounds of the name, with the value of each linear subscript: no store is in this
pub record NamesCell (n : RunNest) (w : Setting) (x : Instance) (r : Reference) : Type 0 where
  pub cell : Cell
  pub may : MayName n w.values x.statement x.iterations r cell
  pub within : cell_in (w.bounds r.name) r.name cell.subscripts ≡ Ok cell
