-- Where the values of cells stand.
use Rattle.std.specs.Prelude.{◌≡◌, Result, Ok, Err, Some, ℕ, List}
use Rattle.tree.specs.declared.ops.Value.{Value}
use Rattle.tree.specs.declared.ops.Fault.{Fault}
use Rattle.meaning.specs.Dialect.{fortran90}
use Rattle.tree.specs.declared.width.Width.{Width}
use Rattle.meaning.specs.Store.{Cell}
use Rattle.meaning.specs.Run.{checks_range, counts_step, stores}
use Rattle.machine.specs.declared.progress.Halt.{Halt}
use Rattle.machine.specs.Moments.{located}
use Rattle.machine.specs.Acts.{Does}
use Rattle.array_values.specs.declared.storage.slots.Slot.{Slot}
use Rattle.array_values.specs.declared.storage.slots.Place.{Place}
use Rattle.array_values.specs.storage.Slots.{place_among}
use Rattle.array_expressions.specs.declared.assignments.causes.Stuck.{Stuck}
use Rattle.array_expressions.specs.declared.assignments.causes.Stuck.TheVariants.{Halted, Memory}
use Rattle.array_expressions.specs.declared.assignments.moment.Moment.{Moment}
use Rattle.array_expressions.specs.assignments.Moments.{seen, slots_of}

-- a value of the cell stands at the place
abbrev pub IsAt : List Slot → Cell → Place → Type 0
IsAt vs c p = place_among vs c.name c.subscripts ≡ Some p

-- the place is that of the cell, or both have the same fault, at the line
abbrev pub FindsAt : ℕ → List Slot → Result Cell Fault → Result Place Stuck → Type 0
FindsAt line vs q (Ok p) = (c : Cell) × (q ≡ Ok c) × IsAt vs c p
FindsAt line vs q (Err (Halted h)) = Err h ≡ located line q
FindsAt line vs q (Err Memory) = Unit {0}

-- a step was counted, and then the value was stored at the place, which is that of a cell
abbrev pub CountsAt : (width : Width) → Place → Value → Moment → Moment → Result (Unit {0}) Halt → Type 0
CountsAt width p v old new r = (c : Cell) → IsAt (slots_of old) c p
    → Does (λ limit. counts_step (fortran90 width) limit (stores c v)) (seen old) (seen new) r

-- the same for a value that has to be in the range of INTEGER
abbrev pub StoresAt : (width : Width) → ℕ → Place → Value → Moment → Moment → Result (Unit {0}) Halt → Type 0
StoresAt width line p v old new r = (c : Cell) → IsAt (slots_of old) c p
    → Does (λ limit. checks_range (fortran90 width) limit line v (counts_step (fortran90 width) limit (stores c v)))
    (seen old) (seen new) r
