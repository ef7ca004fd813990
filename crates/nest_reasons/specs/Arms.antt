-- What is asked of the arms of block IFs, as the program has them.
use Rattle.std.specs.Prelude.{ℕ, Bool, List, ◌∷◌, ◌++◌, true}
use Rattle.tree.specs.Plain.{Expression, Block}
use Rattle.tree.specs.View.{Tested}
use Rattle.nest_reasons.specs.Walks.{any_in_block}
use Rattle.meaning.specs.Reads.{names_in}
use Rattle.nest_reasons.specs.declared.sizes.Piece.{Piece}
use Rattle.nest_reasons.specs.declared.sizes.Piece.TheVariants.{Branches}
use Rattle.nest_reasons.specs.Sizes.{occurrences, pieces_in_block}
use Rattle.nest_reasons.specs.declared.marks.Mark.{Mark}
use Rattle.nest_reasons.specs.Marks.{marks_in_block}

-- a loop that the statement is, or one in it, has what is tested
module _ (test : List (List ℕ) → Expression → Expression → Expression → Block → Bool) where
  abbrev pub any_in_arm : List (List ℕ) → Tested → Bool
  any_in_arm around t = any_in_block test around t.body

abbrev pub pieces_in_arm : Tested → List Piece
pieces_in_arm t = Branches ∷ occurrences (names_in t.test) ++ pieces_in_block t.body

abbrev pub marks_in_arm : Tested → List Mark
marks_in_arm t = marks_in_block true t.body
