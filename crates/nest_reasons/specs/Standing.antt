-- Those of given names that stand in an expression.
use Rattle.std.specs.Prelude.{ℕ, List}
use Rattle.std.specs.List.{filter, list_any}
use Rattle.std.specs.Str.{bytes_eq}
use Rattle.tree.specs.Plain.{Expression}
use Rattle.meaning.specs.Reads.{names_in}

-- those of the variables that stand in it
abbrev pub standing : List (List ℕ) → Expression → List (List ℕ)
standing xs e = filter (λ x. list_any (λ y. bytes_eq y x) (names_in e)) xs
