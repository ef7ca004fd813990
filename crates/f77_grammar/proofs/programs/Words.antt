-- Words in which the statements of worked decks are written.
use Rattle.std.proofs.Common.{ℕ, List, [], Some, None}
use Prim.Native.String.{String}
use lib.Chars.{codes}
use Rattle.tree.specs.Plain.{Expression}
use Rattle.f77_grammar.specs.Statement77.{Entity, NamedConstant, Statement77, Labelled}

-- a statement on its line, without and with a label
abbrev pub s : ℕ → Statement77 → Labelled
s line c = record { label = None; line = line; statement = c }

abbrev pub l : ℕ → ℕ → Statement77 → Labelled
l n line c = record { label = Some n; line = line; statement = c }

abbrev pub scalar : String → Entity
scalar x = record { name = codes x; bounds = [] }

abbrev pub array : String → List (Expression × Expression) → Entity
array x bs = record { name = codes x; bounds = bs }

abbrev pub constant : String → Expression → NamedConstant
constant x e = record { name = codes x; value = e }
