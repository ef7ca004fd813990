-- What is asked of the bounds of arrays.
use Rattle.std.specs.Prelude.{Result, Ok, ℤ, Bool, ◌||◌, is_none, List, map}
use Rattle.std.specs.List.{list_any}
use Rattle.tree.specs.Steps.{◌>>=◌}
use Rattle.tree.specs.Plain.{Expression}
use Rattle.tree.specs.declared.ops.Fault.{Fault}
use Rattle.meaning.specs.Store.{Store}
use Rattle.f77_grammar.specs.Statement77.{Entity, NamedConstant}
use Rattle.meaning.specs.Dialect.{fortran77}
use Rattle.tree.specs.declared.width.Width.{Width}
use Rattle.f77_grammar.specs.program.Limits.{dimension_of, is_reversed, is_no_constant}

abbrev pub paired : Result ℤ Fault → Result ℤ Fault → Result (ℤ × ℤ) Fault
paired a b = do
  lower ← a
  upper ← b
  Ok (lower, upper)

abbrev pub bounds_in : List Entity → List (List (Expression × Expression))
bounds_in es = map (λ (e : Entity). e.bounds) es

abbrev pub has_reversed : (width : Width) → Store → List (Expression × Expression) → Bool
has_reversed width s bs = list_any (λ b. is_reversed (dimension_of (fortran77 width) s b)) bs

abbrev pub has_bad : (width : Width) → Store → List (Expression × Expression) → Bool
has_bad width s bs = list_any (λ b. is_no_constant (fortran77 width) s b.0 || is_no_constant (fortran77 width) s b.1) bs

-- one of these symbolic constants has no value
abbrev pub lacks_value : Store → List NamedConstant → Bool
lacks_value s ds = list_any (λ (d : NamedConstant). is_none (s.bounds d.name)) ds
