-- That a text is a translation of a deck.
use Rattle.std.specs.Prelude.{ℕ, ◌≡◌, ◌≤◌, List, length}
use Rattle.tree.specs.Causes.{refusal_at}
use Rattle.tree.specs.Limits.{program_names90}
use Rattle.tree.specs.Plain.{Program}
use Rattle.tree.specs.declared.refusals.Cause.TheVariants.{Limit90}
use Rattle.tree.specs.declared.refusals.Refusal.{Refusal}
use Rattle.meaning.specs.Deck.{source_of, input_of, data_line77, data_line90}
use Rattle.meaning.specs.Keeping.{KeepsMeaning}
use Rattle.tree.specs.declared.width.Width.{Width}
use Rattle.f90_grammar.specs.Refusals.{Conforms90, PassesNames, Reads90, Refused90}
use Rattle.tool.specs.declared.commands.commands.Command.TheVariants.{Vectorise}
use Rattle.tool.specs.Decks.{IsReadAs}

-- the text declares more names than it may
pub record IsForNames (text : List ℕ) (r : Refusal) : Type 0 where
  pub line : ℕ
  pub passes : PassesNames text line
  pub is : r ≡ refusal_at Limit90 line

-- The text conforms to Fortran 90 as this program and as no other. It is read so where the program declares no more
-- names than it may, and else is refused for these alone. How many names a translation declares besides the deck's, one
-- for each of its loops, isn't counted here
pub record IsAccepted (text : List ℕ) (q : Program) : Type 0 where
  pub conforms : Conforms90 text q
  pub only : (r : Program) → Conforms90 text r → r ≡ q
  pub reads : length q.declarations ≤ program_names90 → Reads90 text q
  pub unrefused : (r : Refusal) → Refused90 text r → IsForNames text r

-- The deck is read as a program, and the text's source as one of Fortran 90. On each input, where the run of the first
-- one ends without fault, so does the run of the second one, with the same output and the same values of the first
-- one's variables. The text has the deck's input
pub record Translates (width : Width) (deck text : List ℕ) : Type 0 where
  pub program : Program
  pub read : IsReadAs (Vectorise width) deck program
  pub translation : Program
  pub accepted : IsAccepted (source_of data_line90 text) translation
  pub keeps : (input : List ℕ) → KeepsMeaning width program translation input
  pub input : input_of data_line90 text ≡ input_of data_line77 deck
