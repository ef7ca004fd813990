-- That one program keeps the meaning of another one.
use Rattle.std.specs.Prelude.{◌≡◌, ℕ, List}
use Rattle.tree.specs.Plain.{Program}
use Rattle.tree.specs.declared.width.Width.{Width}
use Rattle.meaning.specs.Array.{array_run}
use Rattle.meaning.specs.Sequential.{sequential_run, EndsWell}
use Rattle.meaning.specs.Store.{Agree}

-- where the sequential run of p ends without fault, so does the array run of q, with the same output, and the stores
-- agree on p
pub record KeepsMeaning (w : Width) (p q : Program) (input : List ℕ) : Type 0 where
  pub ends : EndsWell (sequential_run w p input) → EndsWell (array_run w q input)
  pub output : EndsWell (sequential_run w p input) → (sequential_run w p input).written ≡ (array_run w q input).written
  pub store : EndsWell (sequential_run w p input) → Agree p (sequential_run w p input).store (array_run w q input).store
