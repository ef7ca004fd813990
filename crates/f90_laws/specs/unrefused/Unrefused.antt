-- The text of a printed program isn't refused: no cause holds in its lines, and none in its statements but the number
-- of names.
use Rattle.std.specs.Prelude.{ℕ, List}
use Rattle.std.specs.List.{AllByRecursion}
use Rattle.tree.specs.declared.refusals.Cause.{Cause}
use Rattle.tree.specs.declared.refusals.Refusal.{Refusal}
use Rattle.tree.specs.Plain.{Program}
use Rattle.meaning.specs.Profile90.{IsProgram90}
use Rattle.f90_grammar.specs.PrintedText.{IsNote, printed90}
use Rattle.f90_grammar.specs.Blocks.{Placed}
use Rattle.f90_grammar.specs.Contents.{SuitsCallsIn}
use Rattle.f90_grammar.specs.Declared.{functions_in}
use Rattle.f90_grammar.specs.LineCauses.{HasLineCause}
use Rattle.f90_grammar.specs.Refusals.{HoldsIn}
use Rattle.f90_laws.specs.printed.Laws.{IsReadBack}

-- each call among the statements has arguments that may stand there
abbrev pub CallsSuit : List Placed → Type 0
CallsSuit ps = AllByRecursion (λ (s : Placed). SuitsCallsIn (functions_in ps) s.form) ps

-- The text is read back as the program. Each line is within its length, has printable characters alone, and the last
-- one ends a statement; the statements are in order, and what each says suits, its calls too
pub record IsReadWell (p : Program) (text : List ℕ) : Type 0 where
  pub read_back : IsReadBack p text
  pub lines : (r : Refusal) → HasLineCause text r → ⊥
  pub calls : CallsSuit read_back.statements
  pub causes : (c : Cause) (line : ℕ) → HoldsIn read_back.statements c line → ⊥

-- with any notes before it
abbrev pub PrintedProgramIsReadWell : Type 0
PrintedProgramIsReadWell = (p : Program) (notes : List (List ℕ)) → IsProgram90 p → AllByRecursion IsNote notes
    → IsReadWell p (printed90 p notes)
