-- The instances of an assignment in loops: what it does where the loop variables hold their iterations.
use Rattle.std.specs.Prelude.{Ok, Some, ℕ, ℤ, pos, List, [], ◌∷◌, ◌++◌, map, flat_map}
use Rattle.tree.specs.Plain.{Expression, Reference}
use Rattle.tree.specs.Steps.{◌>>=◌}
use Rattle.meaning.specs.ArrayStatements.{storable}
use Rattle.meaning.specs.ArrayValues.{counted}
use Rattle.meaning.specs.Dialect.{Dialect}
use Rattle.meaning.specs.CellsRead.{cells_read, cells_read_by}
use Rattle.meaning.specs.Sections.{not_negative}
use Rattle.meaning.specs.Store.{Store}
use Rattle.meaning.specs.Value.{value_of, cell_named, bound_to}
use Rattle.array_form.specs.forms.Loops.{FormLoop}
use Rattle.array_form.specs.forms.Trips.{trip_number}
use Rattle.meaning_laws.specs.arrays.Instances.{Instance}

-- the store in which the variables of loops hold these iterations
abbrev pub at_iterations : List FormLoop → List ℕ → Store → Store
at_iterations [] is s = s
at_iterations (l ∷ ls) [] s = s
at_iterations (l ∷ ls) (i ∷ is) s = at_iterations ls is (bound_to l.variable (pos i) s)

-- how often a loop turns, where the names of its trip have these numbers
abbrev pub count_of : List ℤ → FormLoop → ℕ
count_of xs l = not_negative (trip_number l.trip xs)

abbrev pub counts_of : List ℤ → List FormLoop → List ℕ
counts_of xs ls = map (count_of xs) ls

-- all iterations of loops, the innermost one, which is the last, running fastest: their order in a sequential run
abbrev pub in_sequence : List ℕ → List (List ℕ)
in_sequence [] = [] ∷ []
in_sequence (n ∷ ns) = flat_map (λ i. map (λ is. i ∷ is) (in_sequence ns)) (counted 1 n)

-- one instance: the right side's value, if INTEGER can hold it, is stored in the cell of the left side
abbrev pub instance_at : Dialect → List FormLoop → Reference → Expression → List ℕ → Instance
instance_at d ls left right is = record {
  effect = λ s. (do
    v ← value_of d right (at_iterations ls is s)
    c ← cell_named d left (at_iterations ls is s)
    w ← storable d v
    Ok (Some (c, w)));
  reads = λ s. cells_read d right (at_iterations ls is s) ++ cells_read_by d left.subscripts (at_iterations ls is s);
}

abbrev pub instances_of : Dialect → List FormLoop → List ℕ → Reference → Expression → List Instance
instances_of d ls ns left right = map (instance_at d ls left right) (in_sequence ns)
