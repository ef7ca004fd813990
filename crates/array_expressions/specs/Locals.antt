-- The store with the variables of constructors' loops (ISO/IEC 1539:1991, section 4.5).
use Rattle.std.specs.Prelude.{◌≡◌, Option, Some, None, ℕ, ℤ, List, [], ◌∷◌}
use Rattle.tree.specs.declared.ops.Value.TheVariants.{Int}
use Rattle.meaning.specs.Store.{Store, Cell}
use Rattle.meaning.specs.Value.{bound_to}
use Rattle.array_expressions.specs.declared.locals.Local.{Local}

abbrev pub scalar_cell : List ℕ → Cell
scalar_cell x = record { name = x; subscripts = [] }

-- the variables of the loops that are being gone through, the outermost one first
abbrev pub bound_all : List Local → Store → Store
bound_all [] s = s
bound_all (l ∷ ls) s = bound_all ls (bound_to l.name l.number s)

-- what the scalar x is under these loops: a variable of one of them with this number, or none
abbrev pub Holds : List Local → List ℕ → Option ℤ → Type 0
Holds ls x None = (s : Store) → (bound_all ls s).held (scalar_cell x) ≡ s.held (scalar_cell x)
Holds ls x (Some z) = (s : Store) → (bound_all ls s).held (scalar_cell x) ≡ Int z
