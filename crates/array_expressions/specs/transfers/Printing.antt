-- PRINT, one value or all elements of an array.
use Rattle.std.specs.Prelude.{Result, Ok, ℕ, List, [], ◌∷◌}
use Rattle.tree.specs.Steps.{◌>>=◌}
use Rattle.tree.specs.Plain.{Expression}
use Rattle.tree.specs.declared.ops.Value.{Value}
use Rattle.tree.specs.declared.ops.Fault.{Fault}
use Rattle.meaning.specs.Dialect.{fortran90}
use Rattle.tree.specs.declared.width.Width.{Width}
use Rattle.meaning.specs.Store.{Store}
use Rattle.meaning.specs.Texts.{output_text}
use Rattle.meaning.specs.Value.{value_of, all_elements}
use Rattle.meaning.specs.Run.{Act, evaluates, writes}

abbrev pub one_value : (width : Width) → Expression → Store → Result (List Value) Fault
one_value width e s = do
  x ← value_of (fortran90 width) e s
  Ok (x ∷ [])

abbrev pub prints_scalar : (width : Width) → ℕ → Expression → Act
prints_scalar width line e = evaluates line (one_value width e) (λ vs. writes (output_text vs))

abbrev pub prints_array : (width : Width) → ℕ → Expression → Act
prints_array width line e = evaluates line (all_elements (fortran90 width) e) (λ vs. writes (output_text vs))
