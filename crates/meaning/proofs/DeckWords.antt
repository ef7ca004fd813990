-- Words in which worked decks are written as trees.
use Rattle.std.proofs.Common.{ℕ, ℤ, pos, List, [], ◌∷◌, ◌++◌, None, map}
use Prim.Native.String.{String}
use lib.Chars.{codes}
use Rattle.std.specs.Fmt.{digits}
use Rattle.tree.specs.Plain.{Expression, Number, Named, Only, Section, Subscript, no_subscripts, subscripts, Reference, Statement, block, Declaration, Given, Later, Program}
use Rattle.tree.specs.declared.ops.Kind.{Kind}
use Rattle.tree.specs.declared.ops.Kind.TheVariants.{Integer, Logical}
use Rattle.meaning.specs.Store.{Cell}
use Rattle.meaning.specs.Run.{while_going, evaluates, writes, stores, begins_line, takes_word, skips_line, counts_step, checks_range, allocates, deallocates}

-- what a run computes with
unfoldable pub computed : ℕ
unfolding digits while_going evaluates writes stores begins_line takes_word skips_line counts_step checks_range allocates deallocates
computed = 0

abbrev pub n : ℕ → Expression
n k = Number (pos k)

abbrev pub v : String → Expression
v x = Named (codes x) no_subscripts

abbrev pub at : String → List Expression → Expression
at x es = Named (codes x) (subscripts (map (λ e. Only e) es))

abbrev pub to : String → Reference
to x = record { name = codes x; subscripts = no_subscripts }

abbrev pub to_element : String → List Expression → Reference
to_element x es = record { name = codes x; subscripts = subscripts (map (λ e. Only e) es) }

abbrev pub integer : String → Declaration
integer x = record { name = codes x; kind = Integer; extent = Given [] }

abbrev pub logical : String → Declaration
logical x = record { name = codes x; kind = Logical; extent = Given [] }

abbrev pub integers : String → List (ℤ × ℤ) → Declaration
integers x bs = record { name = codes x; kind = Integer; extent = Given bs }

abbrev pub logicals : String → List (ℤ × ℤ) → Declaration
logicals x bs = record { name = codes x; kind = Logical; extent = Given bs }

abbrev pub program : List Declaration → List Statement → Program
program ds cs = record { name = None; declarations = ds; body = block cs }

-- lines of text, each with its end
abbrev pub lines : List String → List ℕ
lines [] = []
lines (t ∷ ts) = codes t ++ 10 ∷ lines ts

abbrev pub cell : String → List ℤ → Cell
cell x is = record { name = codes x; subscripts = is }

-- x(a:b:c)
abbrev pub triplet : Expression → Expression → Expression → Subscript
triplet a b c = Section a b c

abbrev pub part : String → List Subscript → Expression
part x ps = Named (codes x) (subscripts ps)

abbrev pub to_part : String → List Subscript → Reference
to_part x ps = record { name = codes x; subscripts = subscripts ps }

abbrev pub later : String → Kind → ℕ → Declaration
later x k n = record { name = codes x; kind = k; extent = Later n }

abbrev pub name : String → List ℕ
name x = codes x
