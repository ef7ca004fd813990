-- The headline: what a text is as a translation of a program. The program is an argument, so that a text may be one of
-- a program that isn't the one of its deck.
use Rattle.std.specs.Prelude.{◌≡◌, ◌<◌, ℕ, Contains, List, [], length, map}
use Rattle.emission.specs.emission_marks.Components.{IsAloneAt, IsLeastAlone}
use Rattle.emission.specs.emission_marks.Marks.{Marked, Round, formed_at, marked_in}
use Rattle.listing.specs.programs.Causes.{listed_holds}
use Rattle.listing_laws.specs.reader.Lists.{Lists}
use Rattle.listing_laws.specs.told_nests.Graphs.{graph_told}
use Rattle.listing_laws.specs.told_nests.Nests.{Tells, ToldNest, by_entries, nests_listed}
use Rattle.meaning.specs.Deck.{source_of, input_of, data_line77, data_line90}
use Rattle.meaning.specs.Keeping.{KeepsMeaning}
use Rattle.tree.specs.declared.width.Width.{Width}
use Rattle.nest.specs.Bodies.{nest_statements}
use Rattle.tree.specs.Plain.{Program}
use Rattle.translation.specs.program_marks.Marks.{mark_numbers_of, within, without_line}
use Rattle.tool.specs.declared.commands.commands.Command.TheVariants.{Vectorise}
use Rattle.tool.specs.Decks.{IsReadAs}
use Rattle.tool.specs.Listings.{listed_lines}
use Rattle.tool.specs.Marked.{IsMarkedBy}
use Rattle.tool.specs.Translates.{IsAccepted}

-- ---- statements that are alone

-- the statement is alone at the level: by the EDGE entries its component there is itself, and no flow or output
-- dependence on itself is at work there; and no HOLD entry of it is listed there
abbrev pub IsAlone : ToldNest → ℕ → ℕ → Type 0
IsAlone t s k = IsAloneAt t.last (graph_told t.entries).edges (listed_holds t.entries) s k

-- It is one array statement of q, over its loops from the least level on at which it is alone, and within those before
-- that level: on any line, within what stands round its nest, and the only one with its mark
pub record IsArrayStatement (t : ToldNest) (s : ℕ) (q : Program) : Type 0 where
  pub level : ℕ
  pub least : IsLeastAlone t.last (graph_told t.entries).edges (listed_holds t.entries) s level
  pub it : Marked
  pub stands : Contains (marked_in [] q.body) it
  pub outer : List Round
  pub is : without_line it ≡ without_line (within outer (formed_at t.last s level))
  pub only : (x : Marked) → Contains (marked_in [] q.body) x → mark_numbers_of x ≡ mark_numbers_of it → x ≡ it

-- ---- the headline

pub record Vectorises (width : Width) (p : Program) (text : List ℕ) : Type 0 where
  -- The text is accepted Fortran 90, and its run, wherever that of p ends without fault, ends without fault, with the
  -- same output and values of the variables of p
  pub translation : Program
  pub accepted : IsAccepted (source_of data_line90 text) translation
  pub keeps : (input : List ℕ) → KeepsMeaning width p translation input
  -- Those of its lines that begin with `!G ` list p: each nest and each kept loop has its entries, and there are no
  -- others; no private scalar is left, and each loop that is left has its causes
  pub lists : Lists p (listed_lines text)
  -- The entries of each nest tell a graph of it and its holds, and what is dropped in them has no pair of iterations
  -- within the bounds
  pub tells : Tells p (listed_lines text) lists
  -- Each listed statement that is alone at a level is one array statement over its loops from there inwards
  pub alone :
      (t : ToldNest) (s k : ℕ) → Contains (nests_listed p (listed_lines text) lists) t
      → s < length (nest_statements t.last) → IsAlone t s k → IsArrayStatement t s translation
  -- Each listed statement has one marked statement, and nothing else is marked. In the place of a nest there are marked
  -- statements alone: one that is alone at no level stands in all its loops, and two stand in one loop exactly where
  -- they are in one component
  pub marked : IsMarkedBy p (map by_entries (nests_listed p (listed_lines text) lists)) translation

-- the deck is read as a program of which the text is a translation, with the deck's input
pub record VectorisesDeck (width : Width) (deck text : List ℕ) : Type 0 where
  pub program : Program
  pub read : IsReadAs (Vectorise width) deck program
  pub is : Vectorises width program text
  pub input : input_of data_line90 text ≡ input_of data_line77 deck
