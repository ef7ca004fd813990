-- Symbols: the scalars that a loop doesn't write.
use Rattle.std.specs.Prelude.{ℕ, Bool, true, false, not, ◌&&◌, List, [], ◌∷◌, map}
use Rattle.std.specs.List.{filter, list_any}
use Rattle.std.specs.Str.{bytes_eq}
use Rattle.tree.specs.Plain.{Block, Extent, Given, Later, Declaration}
use Rattle.tree.specs.declared.ops.Kind.{Kind}
use Rattle.tree.specs.declared.ops.Kind.TheVariants.{Integer, Logical}
use Rattle.rewrite.specs.Names.{names_written_in}

abbrev pub is_integer : Kind → Bool
is_integer Integer = true
is_integer Logical = false

abbrev pub is_scalar_extent : Extent → Bool
is_scalar_extent (Given []) = true
is_scalar_extent (Given (b ∷ bs)) = false
is_scalar_extent (Later n) = false

abbrev pub is_integer_scalar : Declaration → Bool
is_integer_scalar d = is_integer d.kind && is_scalar_extent d.extent

-- an INTEGER scalar other than the loop's variable and the names that are written
abbrev pub is_symbol : List ℕ → List (List ℕ) → Declaration → Bool
is_symbol x written d =
    is_integer_scalar d && (not (bytes_eq d.name x) && not (list_any (bytes_eq d.name) written))

-- of a loop with this variable and this body
abbrev pub symbols_of : List Declaration → List ℕ → Block → List (List ℕ)
symbols_of ds x body = map (λ (d : Declaration). d.name) (filter (is_symbol x (names_written_in body)) ds)
