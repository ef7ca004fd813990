-- The arrays that stand for those of a program's meaning.
use Rattle.std.specs.Prelude.{Result, Ok, ℕ, List, [], ◌∷◌}
use Rattle.tree.specs.Steps.{◌>>=◌}
use Rattle.tree.specs.Operators.{apply, call, as_numbers, reduced}
use Rattle.tree.specs.declared.ops.Value.{Value}
use Rattle.tree.specs.declared.ops.Fault.{Fault}
use Rattle.tree.specs.declared.functions.Fun.{Fun}
use Rattle.tree.specs.declared.functions.Red.{Red}
use Rattle.meaning.specs.ArrayValues.{Array, Elements, settled, mapped, without_dimension, swapped}
use Rattle.array_values.specs.declared.known.Known.{Known as Known'}
use Rattle.array_values.specs.declared.prepared.Prepared.{Prepared, fold-Prepared}
use Rattle.array_values.specs.declared.prepared.Prepared.TheOpen.{Prepared-F, Known, Unary, Binary, Call, Spread}
use Rattle.array_values.specs.declared.prepared.Prepared.TheOpen.{Transposed}
use Rattle.array_values.specs.Positions.{wider}

abbrev pub array_in : Known' → Array
array_in a = record { extents = a.extents; values = a.values }

-- the extents of arrays that conform, where `ns` are those of the ones before
abbrev pub extents_together : List ℕ → List (Elements Value) → List ℕ
extents_together ns [] = ns
extents_together ns (g ∷ gs) = extents_together (wider ns g.extents) gs

abbrev pub all_at : List (Elements Value) → List ℕ → Result (List Value) Fault
all_at [] is = Ok []
all_at (g ∷ gs) is = do
  x ← g.at is
  xs ← all_at gs is
  Ok (x ∷ xs)

-- the arguments of a function
abbrev pub together_all : List ℕ → List (Elements Value) → Elements (List Value)
together_all ns gs = record { extents = extents_together ns gs; at = all_at gs }

abbrev pub called_at : Fun → List (Elements Value) → List ℕ → Result Value Fault
called_at f gs is = do
  xs ← all_at gs is
  call f xs

-- the number that a reduction gathers
abbrev pub reduced_values : ℕ → Red → List Value → Result Value Fault
reduced_values bits r vs = do
  zs ← as_numbers vs
  reduced bits r zs

-- one layer, over its parts
abbrev pub prepared_step : Prepared-F (Elements Value) → Elements Value
prepared_step (Known a) = settled (array_in a)
prepared_step (Unary o g) = mapped (λ x. apply o x x) g.value
prepared_step (Binary o g h) = record {
  extents = wider g.value.extents h.value.extents;
  at = λ is. (do x ← g.value.at is; y ← h.value.at is; apply o x y);
}
prepared_step (Call f gs) = mapped (call f) (together_all [] gs)
prepared_step (Spread ns d a) = record {
  extents = ns;
  at = λ is. (settled (array_in a)).at (without_dimension d is);
}
prepared_step (Transposed ns a) = record { extents = ns; at = λ is. (settled (array_in a)).at (swapped is) }

unfoldable pub elements_in : Prepared → Elements Value
elements_in = fold-Prepared (Elements Value) prepared_step
