-- Words in which worked programs are written as trees.
use Rattle.std.specs.Prelude.{ℕ, ℤ, pos, List, [], ◌∷◌, ◌++◌, None, map, codes}
use Rattle.tree.specs.Plain.{Expression, Number, Named, Only, Subscript, no_subscripts, subscripts, Reference}
use Rattle.tree.specs.Plain.{Statement, block, Declaration, Given, Later, Program}
use Rattle.tree.specs.declared.ops.Kind.TheVariants.{Integer}
use Prim.Native.String.{String}

abbrev pub n : ℕ → Expression
n k = Number (pos k)

-- a scalar or a whole array
abbrev pub v : String → Expression
v x = Named (codes x) no_subscripts

-- an element
abbrev pub at : String → List Expression → Expression
at x es = Named (codes x) (subscripts (map (λ e. Only e) es))

-- what subscripts select
abbrev pub part : String → List Subscript → Expression
part x ps = Named (codes x) (subscripts ps)

abbrev pub to : String → Reference
to x = record { name = codes x; subscripts = no_subscripts }

abbrev pub to_part : String → List Subscript → Reference
to_part x ps = record { name = codes x; subscripts = subscripts ps }

abbrev pub integer : String → Declaration
integer x = record { name = codes x; kind = Integer; extent = Given [] }

abbrev pub integers : String → List (ℤ × ℤ) → Declaration
integers x bs = record { name = codes x; kind = Integer; extent = Given bs }

-- an allocatable array with this number of dimensions
abbrev pub later : String → ℕ → Declaration
later x k = record { name = codes x; kind = Integer; extent = Later k }

abbrev pub name : String → List ℕ
name x = codes x

abbrev pub program : List Declaration → List Statement → Program
program ds cs = record { name = None; declarations = ds; body = block cs }

-- lines of text, each with its end
abbrev pub lines : List String → List ℕ
lines [] = []
lines (t ∷ ts) = codes t ++ 10 ∷ lines ts
