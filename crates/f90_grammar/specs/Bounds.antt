-- The limits of a Fortran 90 program: blocks in each other, bounds of arrays, elements of all arrays, names.
use Rattle.std.specs.Prelude.{◌<◌, nat_le, Bool, true, false, ◌&&◌, IsTrue, List, [], ◌∷◌, ◌++◌, length, map, sum}
use Rattle.std.specs.List.{AllByRecursion}
use Rattle.tree.specs.Limits as limits
use Rattle.tree.specs.Plain.{Declaration}
use Rattle.meaning.specs.Typed.{dimensions}
use Rattle.meaning.specs.Extents.{array_elements, IsDimension}
use Rattle.f90_grammar.specs.Forms as forms
use Rattle.f90_grammar.specs.Forms.{Form90}
use Rattle.f90_grammar.specs.Declared.{declarations_in, declarations_of}
use Rattle.f90_grammar.specs.Order.{Place90, blocks_round}

-- a block IF, a logical IF or a loop
abbrev pub opens_block90 : Form90 → Bool
opens_block90 (forms.If p) = true
opens_block90 (forms.Test p f) = true
opens_block90 (forms.Do x a b c) = true
opens_block90 f = false

-- the declarations up to a place, in the order of the text
abbrev pub declared_up_to : Place90 → List Declaration
declared_up_to p = declarations_of (p.before ++ p.here ∷ [])

-- bounds are within 64 bits
abbrev pub HasBounds : Declaration → Type 0
HasBounds d = AllByRecursion IsDimension (dimensions d.extent)

-- A limit but that of names is passed at a place
pub data PassesLimit (p : Place90) : Type 0 where
  -- what is opened there stands in as many blocks as there may be
  OfBlocks : IsTrue (opens_block90 p.here.form && nat_le limits.block_depth90 (length (blocks_round p))) → PassesLimit p
  OfBounds : (AllByRecursion HasBounds (declarations_in p.here.form) → ⊥) → PassesLimit p
  -- allocatable arrays don't count
  OfElements : limits.most_array_elements
      < sum (map (λ (d : Declaration). array_elements (dimensions d.extent)) (declared_up_to p)) → PassesLimit p

-- a name beyond their limit is declared there, or was before
abbrev pub HasManyNames : Place90 → Type 0
HasManyNames p = limits.program_names90 < length (declared_up_to p)
